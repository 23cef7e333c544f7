use Rattle.std.proofs.Common.{take}
use Rattle.listing.specs.Text.{Grew, hexes}
use Rattle.listing.proofs.line.Line.put_hex.Given as goal

abbrev pub invariant-loop-byte : goal.invariant-loop-byte
invariant-loop-byte l = Grew l.initial.self (hexes (take l.byte-index l.bytes)) l.self
