-- What an execute cycle does at the memory.
-- Assumes nothing.
use Rattle.std.specs.Bool.{then_some}
use Rattle.std.specs.Prelude.{ℕ, Bool, Some, None, Option}
use Rattle.isa.specs.declared.instructions.Instruction.{Instruction}
use Rattle.isa.specs.declared.instructions.Instruction.TheVariants.{
  Idl,
  Ldn,
  Inc,
  Dec,
  Br,
  Bq,
  Bz,
  Bdf,
  B1,
  B2,
  B3,
  B4,
  Skp,
  Bnq,
  Bnz,
  Bnf,
  Bn1,
  Bn2,
  Bn3,
  Bn4,
  Lda,
  Str,
  Irx,
  Out,
  Inp,
  Ret,
  Dis,
  Ldxa,
  Stxd,
  Adc,
  Sdb,
  Shrc,
  Smb,
  Sav,
  Mark,
  Req,
  Seq,
  Adci,
  Sdbi,
  Shlc,
  Smbi,
  Glo,
  Ghi,
  Plo,
  Phi,
  Lbr,
  Lbq,
  Lbz,
  Lbdf,
  Nop,
  Lsnq,
  Lsnz,
  Lsnf,
  Lskp,
  Lbnq,
  Lbnz,
  Lbnf,
  Lsie,
  Lsq,
  Lsz,
  Lsdf,
  Sep,
  Sex,
  Ldx,
  Or,
  And,
  Xor,
  Add,
  Sd,
  Shr,
  Sm,
  Ldi,
  Ori,
  Ani,
  Xri,
  Adi,
  Sdi,
  Shl,
  Smi,
}
use Rattle.isa.specs.declared.operands.Operand.{Operand}
use Rattle.isa.specs.declared.operands.Operand.TheVariants.{Register, Port, Immediate, ShortTarget, LongTarget}
use Rattle.isa.specs.declared.operands.Register.TheVariants.{R0, R2}
use Rattle.isa.specs.AppendixA.{appendix_a}
use Rattle.execution.specs.declared.access.Access.{Access}
use Rattle.execution.specs.declared.access.Access.TheVariants.{Reads, Writes}
use Rattle.registers.specs.declared.registers.Registers.{Registers}
use Rattle.registers.specs.Registers.{reg, r_p, r_x, xp}

-- a branch reads its operand only where it is taken
abbrev pub operand_if : Bool → Registers → Option Access
operand_if t s = then_some t (Reads (r_p s))

-- the byte that an execute uses, if any, by the registers before the cycle, the byte that is shown on the bus, and whether the instruction is taken
abbrev pub execute_access : Instruction → Registers → ℕ → Bool → Option Access
execute_access Idl s bus t = Some (Reads (reg R0 s))
execute_access (Ldn n) s bus t = Some (Reads (reg n s))
execute_access (Inc n) s bus t = None
execute_access (Dec n) s bus t = None
execute_access Br s bus t = operand_if t s
execute_access Bq s bus t = operand_if t s
execute_access Bz s bus t = operand_if t s
execute_access Bdf s bus t = operand_if t s
execute_access B1 s bus t = operand_if t s
execute_access B2 s bus t = operand_if t s
execute_access B3 s bus t = operand_if t s
execute_access B4 s bus t = operand_if t s
execute_access Skp s bus t = None
execute_access Bnq s bus t = operand_if t s
execute_access Bnz s bus t = operand_if t s
execute_access Bnf s bus t = operand_if t s
execute_access Bn1 s bus t = operand_if t s
execute_access Bn2 s bus t = operand_if t s
execute_access Bn3 s bus t = operand_if t s
execute_access Bn4 s bus t = operand_if t s
execute_access (Lda n) s bus t = Some (Reads (reg n s))
execute_access (Str n) s bus t = Some (Writes (reg n s) s.d)
execute_access Irx s bus t = None
execute_access (Out port) s bus t = Some (Reads (r_x s))
execute_access (Inp port) s bus t = Some (Writes (r_x s) bus)
execute_access Ret s bus t = Some (Reads (r_x s))
execute_access Dis s bus t = Some (Reads (r_x s))
execute_access Ldxa s bus t = Some (Reads (r_x s))
execute_access Stxd s bus t = Some (Writes (r_x s) s.d)
execute_access Adc s bus t = Some (Reads (r_x s))
execute_access Sdb s bus t = Some (Reads (r_x s))
execute_access Shrc s bus t = None
execute_access Smb s bus t = Some (Reads (r_x s))
execute_access Sav s bus t = Some (Writes (r_x s) s.t)
execute_access Mark s bus t = Some (Writes (reg R2 s) (xp s))
execute_access Req s bus t = None
execute_access Seq s bus t = None
execute_access Adci s bus t = Some (Reads (r_p s))
execute_access Sdbi s bus t = Some (Reads (r_p s))
execute_access Shlc s bus t = None
execute_access Smbi s bus t = Some (Reads (r_p s))
execute_access (Glo n) s bus t = None
execute_access (Ghi n) s bus t = None
execute_access (Plo n) s bus t = None
execute_access (Phi n) s bus t = None
execute_access Lbr s bus t = operand_if t s
execute_access Lbq s bus t = operand_if t s
execute_access Lbz s bus t = operand_if t s
execute_access Lbdf s bus t = operand_if t s
execute_access Nop s bus t = None
execute_access Lsnq s bus t = None
execute_access Lsnz s bus t = None
execute_access Lsnf s bus t = None
execute_access Lskp s bus t = None
execute_access Lbnq s bus t = operand_if t s
execute_access Lbnz s bus t = operand_if t s
execute_access Lbnf s bus t = operand_if t s
execute_access Lsie s bus t = None
execute_access Lsq s bus t = None
execute_access Lsz s bus t = None
execute_access Lsdf s bus t = None
execute_access (Sep n) s bus t = None
execute_access (Sex n) s bus t = None
execute_access Ldx s bus t = Some (Reads (r_x s))
execute_access Or s bus t = Some (Reads (r_x s))
execute_access And s bus t = Some (Reads (r_x s))
execute_access Xor s bus t = Some (Reads (r_x s))
execute_access Add s bus t = Some (Reads (r_x s))
execute_access Sd s bus t = Some (Reads (r_x s))
execute_access Shr s bus t = None
execute_access Sm s bus t = Some (Reads (r_x s))
execute_access Ldi s bus t = Some (Reads (r_p s))
execute_access Ori s bus t = Some (Reads (r_p s))
execute_access Ani s bus t = Some (Reads (r_p s))
execute_access Xri s bus t = Some (Reads (r_p s))
execute_access Adi s bus t = Some (Reads (r_p s))
execute_access Sdi s bus t = Some (Reads (r_p s))
execute_access Shl s bus t = None
execute_access Smi s bus t = Some (Reads (r_p s))

-- in a second execute a long branch that is taken reads, and nothing else does
abbrev pub second_by : Option Operand → Registers → Bool → Option Access
second_by None s t = None
second_by (Some (Register n)) s t = None
second_by (Some (Port port)) s t = None
second_by (Some Immediate) s t = None
second_by (Some ShortTarget) s t = None
second_by (Some LongTarget) s t = operand_if t s

abbrev pub second_access : Instruction → Registers → Bool → Option Access
second_access i s t = second_by (appendix_a i).operand s t
