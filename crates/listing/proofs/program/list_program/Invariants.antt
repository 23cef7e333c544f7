use Rattle.std.proofs.Common.{vec_items, vec_capacity}
use Rattle.listing.proofs.Parts.{Going}
use Rattle.listing.proofs.program.list_program.Given as goal

abbrev pub invariant-loop-placed : goal.invariant-loop-placed
invariant-loop-placed l = Going (vec_items l.initial.listing.text) (vec_capacity l.initial.listing.text) l.fn.code l.placed-iterator l.listing
