use Rattle.std.proofs.Common.{[], ◌∷◌, ap, arith, length, ◌≤◌}
use Rattle.listing.proofs.Grown.{also_more, all_pieces, grew_none, joined_single, spelt}
use Rattle.listing.proofs.line.Line.put.Goals as goal

pub loop-byte-init : goal.loop-byte-init
loop-byte-init c = let size : length c.args.self.now ≤ 24 = omega (arith, ap length c.text-written.ensures.value, c.text-written.ensures.length) in
    grew_none c.args.self.now size

pub loop-byte-preserved : goal.loop-byte-preserved
loop-byte-preserved c =
    also_more (λ b. b ∷ []) c.args.text.now c.loop-byte.byte-index (omega arith) c.loop-byte.invariant c.put_byte.ensures

pub returns : goal.returns
returns c =
    spelt c.args.text.now (joined_single c.args.text.now)
    (all_pieces (λ b. b ∷ []) c.args.text.now c.loop-byte.byte-index (omega arith) c.loop-byte.invariant)
