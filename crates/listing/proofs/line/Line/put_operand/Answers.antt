use Rattle.std.proofs.Common.{◌≡◌, Some, rules}
use Rattle.isa.specs.declared.operands.Operand.TheVariants.{Immediate, ShortTarget, LongTarget}
use Rattle.listing.proofs.Grown.{also}
use Rattle.listing.proofs.line.Line.put_operand.Goals as goal

pub returns-in-Some-Immediate : goal.returns-in-Some-Immediate
returns-in-Some-Immediate c =
    let is : c.args.operand ≡ Some Immediate = search rules in
    simp (is, ← c.byte_at.ensures) (also c.put-in-Some-Immediate.ensures c.put_hex.ensures)

pub returns-in-Some-ShortTarget : goal.returns-in-Some-ShortTarget
returns-in-Some-ShortTarget c =
    let is : c.args.operand ≡ Some ShortTarget = search rules in
    simp (is, ← c.byte_at-in-Some-ShortTarget.ensures, ← c.short_target.ensures)
    (also c.put-in-Some-ShortTarget.ensures c.put_address.ensures)

pub returns-in-Some-LongTarget : goal.returns-in-Some-LongTarget
returns-in-Some-LongTarget c =
    let is : c.args.operand ≡ Some LongTarget = search rules in
    simp (is, ← c.byte_at-in-Some-LongTarget.ensures, ← c.byte_at-in-Some-LongTarget-2.ensures, ← c.from_be_bytes.ensures)
    (also c.put-in-Some-LongTarget.ensures c.put_address-in-Some-LongTarget.ensures)
