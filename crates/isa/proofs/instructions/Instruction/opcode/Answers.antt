-- The law of the opcode, at the instruction.
use Rattle.std.proofs.Common.{ℕ, sym, subst}
use Rattle.isa.specs.Laws.{DecodesTo}
use Rattle.isa.proofs.Coding.{decodes_to}
use Rattle.isa.proofs.instructions.Instruction.opcode.Goals as goal

pub returns : goal.returns
returns c = record {
  value = c.coded.ensures;
  back = subst (λ (op : ℕ). DecodesTo op c.args.self) (sym c.coded.ensures) (decodes_to c.args.self);
}
