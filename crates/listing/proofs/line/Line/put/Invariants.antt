use Rattle.std.proofs.Common.{[], ◌∷◌, take}
use Rattle.std.specs.List.{flat_map}
use Rattle.listing.specs.Text.{Grew}
use Rattle.listing.proofs.line.Line.put.Given as goal

abbrev pub invariant-loop-byte : goal.invariant-loop-byte
invariant-loop-byte l = Grew l.initial.self (flat_map (λ b. b ∷ []) (take l.byte-index l.text)) l.self
