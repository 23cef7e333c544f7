use Rattle.std.proofs.Common.{ap, arith, length, ◌≤◌}
use Rattle.listing.specs.Text.{hex2}
use Rattle.listing.proofs.Grown.{also_more, all_pieces, grew_none, spelt}
use Rattle.listing.proofs.line.Line.put_hex.Goals as goal

pub loop-byte-init : goal.loop-byte-init
loop-byte-init c = let size : length c.args.self.now ≤ 24 = omega (arith, ap length c.text-written.ensures.value, c.text-written.ensures.length) in
    grew_none c.args.self.now size

pub loop-byte-preserved : goal.loop-byte-preserved
loop-byte-preserved c =
    also_more hex2 c.args.bytes.now c.loop-byte.byte-index (omega arith) c.loop-byte.invariant
    (spelt _ c.hex2.ensures c.put.ensures)

pub returns : goal.returns
returns c = all_pieces hex2 c.args.bytes.now c.loop-byte.byte-index (omega arith) c.loop-byte.invariant
