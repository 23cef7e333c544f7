use Rattle.std.proofs.Common.{arith, rules}
use Rattle.std.proofs.lemmas.List.{length-drop, length-take}
use Rattle.listing.proofs.Parts.{sized}
use Rattle.listing.proofs.code.CodeIterator.next.Goals as goal

-- each goal goes by how long the group is
pub overflow_cast-self : goal.overflow_cast-self
overflow_cast-self c =
    let size = sized _ _ _ c.in_ok-group.ensures.0 c.in_ok-group.ensures.1 c.bytes-size.ensures in
    omega (arith, size.most)

pub slice_bounds-self-count : goal.slice_bounds-self-count
slice_bounds-self-count c =
    let size = sized _ _ _ c.in_ok-group.ensures.0 c.in_ok-group.ensures.1 c.bytes-size.ensures in
    omega (arith, size.least, size.within)

pub slice_bounds-self-start : goal.slice_bounds-self-start
slice_bounds-self-start c =
    let size = sized _ _ _ c.in_ok-group.ensures.0 c.in_ok-group.ensures.1 c.bytes-size.ensures in
    search rules

pub returns-clause-goes : goal.returns-clause-goes
returns-clause-goes c =
    let size = sized _ _ _ c.in_ok-group.ensures.0 c.in_ok-group.ensures.1 c.bytes-size.ensures in
    record {
      on = λ _. (tt, tt, simp (length-take, length-drop) (omega (arith, size.least, size.within)));
      keeps = tt;
      rests = λ _. tt;
    }
