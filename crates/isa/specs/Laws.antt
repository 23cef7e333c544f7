-- What ties the decoding, Appendix A and the table together.
-- Assumes nothing.
use Rattle.std.specs.Prelude.{◌≡◌, ℕ, ◌+◌, Some, None, Option, MatchOption, ◌≢◌}
use Rattle.isa.specs.declared.operands.Operand.{Operand}
use Rattle.isa.specs.declared.operands.Operand.TheVariants.{Register, Port, Immediate, ShortTarget, LongTarget}
use Rattle.isa.specs.declared.operands.Register.TheVariants.{R0}
use Rattle.isa.specs.declared.instructions.Instruction.{Instruction}
use Rattle.isa.specs.declared.instructions.Instruction.TheVariants.{Ldn}
use Rattle.isa.specs.AppendixA.{appendix_a}
use Rattle.isa.specs.Instructions.{decoded}
use Rattle.isa.specs.Table.{length_of}

-- the opcode's instruction stands in Appendix A under this opcode, and only 68 has none
abbrev pub InAppendixA : ℕ → Option Instruction → Type 0
InAppendixA op r = MatchOption r (op ≡ 0x68) (λ i. (appendix_a i).opcode ≡ op)

-- how many bytes of the code an operand takes behind the opcode
abbrev pub operand_bytes : Option Operand → ℕ
operand_bytes None = 0
operand_bytes (Some (Register r)) = 0
operand_bytes (Some (Port p)) = 0
operand_bytes (Some Immediate) = 1
operand_bytes (Some ShortTarget) = 1
operand_bytes (Some LongTarget) = 2

-- the table's length is the opcode and its operand's bytes; 68 is alone
abbrev pub AsLongAsTable : ℕ → Option Instruction → Type 0
AsLongAsTable op r = MatchOption r (length_of op ≡ 1) (λ i. length_of op ≡ 1 + operand_bytes (appendix_a i).operand)

-- the opcode is decoded to this instruction again; LDN of R(0) would have IDL's opcode
abbrev pub DecodesTo : ℕ → Instruction → Type 0
DecodesTo op i = (i ≢ Ldn R0) → decoded op ≡ Some i
