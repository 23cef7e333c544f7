-- What is left after the digits 0 to E is F.
use Rattle.std.proofs.Common.{◌≡◌, ◌/◌, arith, rules}
use Rattle.isa.proofs.instructions.by_class.Goals as goal

pub returns-in_default : goal.returns-in_default
returns-in_default c = let last : c.args.opcode / 16 ≡ 15 = omega arith in search rules
