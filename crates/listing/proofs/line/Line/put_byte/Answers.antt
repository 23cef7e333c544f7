use Rattle.std.proofs.Common.{[], ◌∷◌, List, ℕ, take, subst, arith}
use Rattle.std.proofs.lemmas.List.{length-take-le}
use Rattle.listing.specs.Text.{Grew}
use Rattle.listing.proofs.Grown.{grew_full, zeros_left}
use Rattle.listing.proofs.line.Line.put_byte.Goals as goal

pub invariant_of-self : goal.invariant_of-self
invariant_of-self c =
    let line = c.self.inside in
    zeros_left line.bytes line.written c.args.byte (omega arith) c.self.invariant.1 c.self.invariant.2

pub returns-else-self-lt24 : goal.returns-else-self-lt24
returns-else-self-lt24 c =
    let line = c.self.inside in
    subst (λ (text : List ℕ). Grew text (c.args.byte ∷ []) text) c.self.view_is
    (grew_full (take line.written line.bytes) (c.args.byte ∷ [])
    (omega (arith, length-take-le line.written line.bytes (omega (arith, c.self.invariant.0, c.self.invariant.1)), c.self.invariant.0)))
