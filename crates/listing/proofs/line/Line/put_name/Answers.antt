use Rattle.std.proofs.Common.{sym, ◌∙◌}
use Rattle.listing.proofs.Grown.{also}
use Rattle.listing.proofs.line.Line.put_name.Goals as goal

pub returns-in-Some : goal.returns-in-Some
returns-in-Some c =
    simp (
      sym c.instruction.ensures ∙ c.in-Some.is,
      ← c.name.ensures,
      ← c.as_bytes.ensures.value,
      ← c.operand.ensures,
      ← c.bytes-bytes.ensures,
    )
    (also c.put.ensures c.put_operand.ensures)

pub returns-in-None : goal.returns-in-None
returns-in-None c =
    simp (sym c.instruction.ensures ∙ c.in-None.is, ← c.byte_at.ensures, ← c.bytes-bytes.ensures)
    (also c.put-in-None.ensures c.put_hex.ensures)
