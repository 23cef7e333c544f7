-- What an execute cycle does to the registers: t says whether the instruction is taken, m is the byte that was read or written.
-- Assumes nothing.
use Rattle.std.specs.Bool.{then_some}
use Rattle.std.specs.Prelude.{ℕ, ◌+◌, ◌*◌, ◌/◌, ◌%◌, Bool, true, false, Some, None, Option}
use Rattle.std.specs.Int.Bits.{bit_and, bit_or, bit_xor}
use Rattle.alu.specs.Arithmetic.{sum, carry, difference, not_below}
use Rattle.alu.specs.Shifts.{left, left_bit, right, right_bit}
use Rattle.isa.specs.declared.instructions.Instruction.{Instruction}
use Rattle.isa.specs.declared.instructions.Instruction.TheVariants.{
  Idl,
  Ldn,
  Inc,
  Dec,
  Br,
  Bq,
  Bz,
  Bdf,
  B1,
  B2,
  B3,
  B4,
  Skp,
  Bnq,
  Bnz,
  Bnf,
  Bn1,
  Bn2,
  Bn3,
  Bn4,
  Lda,
  Str,
  Irx,
  Out,
  Inp,
  Ret,
  Dis,
  Ldxa,
  Stxd,
  Adc,
  Sdb,
  Shrc,
  Smb,
  Sav,
  Mark,
  Req,
  Seq,
  Adci,
  Sdbi,
  Shlc,
  Smbi,
  Glo,
  Ghi,
  Plo,
  Phi,
  Lbr,
  Lbq,
  Lbz,
  Lbdf,
  Nop,
  Lsnq,
  Lsnz,
  Lsnf,
  Lskp,
  Lbnq,
  Lbnz,
  Lbnf,
  Lsie,
  Lsq,
  Lsz,
  Lsdf,
  Sep,
  Sex,
  Ldx,
  Or,
  And,
  Xor,
  Add,
  Sd,
  Shr,
  Sm,
  Ldi,
  Ori,
  Ani,
  Xri,
  Adi,
  Sdi,
  Shl,
  Smi,
}
use Rattle.isa.specs.declared.operands.Operand.{Operand}
use Rattle.isa.specs.declared.operands.Operand.TheVariants.{Register, Port, Immediate, ShortTarget, LongTarget}
use Rattle.isa.specs.declared.operands.Register.TheVariants.{R2}
use Rattle.isa.specs.AppendixA.{appendix_a}
use Rattle.registers.specs.declared.registers.Registers.{Registers}
use Rattle.registers.specs.Registers.{
  reg,
  xp,
  high_digit,
  low_digit,
  set_reg,
  up,
  down,
  set_low,
  set_high,
  set_d,
  set_pair,
  set_t,
  set_b,
  set_ie,
  set_q,
  set_x,
  set_p,
}

-- R(P)+1
abbrev pub past_operand : Registers → Registers
past_operand s = up s.p s

-- m + D, m − D and D − m, with the carry that is handed on
abbrev pub added : ℕ → Bool → Registers → Registers
added m c s = set_pair (sum m s.d c) (carry m s.d c) s

abbrev pub less_d : ℕ → Bool → Registers → Registers
less_d m c s = set_pair (difference m s.d c) (not_below m s.d c) s

abbrev pub less_m : ℕ → Bool → Registers → Registers
less_m m c s = set_pair (difference s.d m c) (not_below s.d m c) s

-- D by one place, with the bit that comes in
abbrev pub shifted_right : Bool → Registers → Registers
shifted_right c s = set_pair (right s.d c) (right_bit s.d) s

abbrev pub shifted_left : Bool → Registers → Registers
shifted_left c s = set_pair (left s.d c) (left_bit s.d) s

-- RET and DIS: m → X,P; R(old X)+1; IE
abbrev pub returned : Bool → ℕ → Registers → Registers
returned ie m s = set_ie ie (set_p (low_digit m) (set_x (high_digit m) (up s.x s)))

-- a short branch, with the operand of one that is taken: m → R(P).0, else R(P)+1
abbrev pub branched : Option ℕ → Registers → Registers
branched (Some m) s = set_low s.p m s
branched None s = past_operand s

-- the first half of a long branch: m → B where it is taken; R(P)+1
abbrev pub long_begun : Option ℕ → Registers → Registers
long_begun (Some m) s = past_operand (set_b m s)
long_begun None s = past_operand s

-- the second half: B → R(P).1 and m → R(P).0 where it is taken, else R(P)+1
abbrev pub long_ended : Option ℕ → Registers → Registers
long_ended (Some m) s = set_reg s.p (s.b * 256 + m) s
long_ended None s = past_operand s

-- each half of a long skip: R(P)+1 where it is taken
abbrev pub skipped : Bool → Registers → Registers
skipped true s = past_operand s
skipped false s = s

-- the execute, or the first half of an instruction of class C
abbrev pub executed : Instruction → Bool → ℕ → Registers → Registers
executed Idl t m s = s
executed (Ldn n) t m s = set_d m s
executed (Inc n) t m s = up n s
executed (Dec n) t m s = down n s
executed Br t m s = branched (then_some t m) s
executed Bq t m s = branched (then_some t m) s
executed Bz t m s = branched (then_some t m) s
executed Bdf t m s = branched (then_some t m) s
executed B1 t m s = branched (then_some t m) s
executed B2 t m s = branched (then_some t m) s
executed B3 t m s = branched (then_some t m) s
executed B4 t m s = branched (then_some t m) s
executed Skp t m s = past_operand s
executed Bnq t m s = branched (then_some t m) s
executed Bnz t m s = branched (then_some t m) s
executed Bnf t m s = branched (then_some t m) s
executed Bn1 t m s = branched (then_some t m) s
executed Bn2 t m s = branched (then_some t m) s
executed Bn3 t m s = branched (then_some t m) s
executed Bn4 t m s = branched (then_some t m) s
executed (Lda n) t m s = up n (set_d m s)
executed (Str n) t m s = s
executed Irx t m s = up s.x s
executed (Out port) t m s = up s.x s
executed (Inp port) t m s = set_d m s
executed Ret t m s = returned true m s
executed Dis t m s = returned false m s
executed Ldxa t m s = up s.x (set_d m s)
executed Stxd t m s = down s.x s
executed Adc t m s = added m s.df s
executed Sdb t m s = less_d m s.df s
executed Shrc t m s = shifted_right s.df s
executed Smb t m s = less_m m s.df s
executed Sav t m s = s
executed Mark t m s = down R2 (set_x s.p (set_t (xp s) s))
executed Req t m s = set_q false s
executed Seq t m s = set_q true s
executed Adci t m s = past_operand (added m s.df s)
executed Sdbi t m s = past_operand (less_d m s.df s)
executed Shlc t m s = shifted_left s.df s
executed Smbi t m s = past_operand (less_m m s.df s)
executed (Glo n) t m s = set_d (reg n s % 256) s
executed (Ghi n) t m s = set_d (reg n s / 256) s
executed (Plo n) t m s = set_low n s.d s
executed (Phi n) t m s = set_high n s.d s
executed Lbr t m s = long_begun (then_some t m) s
executed Lbq t m s = long_begun (then_some t m) s
executed Lbz t m s = long_begun (then_some t m) s
executed Lbdf t m s = long_begun (then_some t m) s
executed Nop t m s = s
executed Lsnq t m s = skipped t s
executed Lsnz t m s = skipped t s
executed Lsnf t m s = skipped t s
executed Lskp t m s = skipped t s
executed Lbnq t m s = long_begun (then_some t m) s
executed Lbnz t m s = long_begun (then_some t m) s
executed Lbnf t m s = long_begun (then_some t m) s
executed Lsie t m s = skipped t s
executed Lsq t m s = skipped t s
executed Lsz t m s = skipped t s
executed Lsdf t m s = skipped t s
executed (Sep n) t m s = set_p n s
executed (Sex n) t m s = set_x n s
executed Ldx t m s = set_d m s
executed Or t m s = set_d (bit_or m s.d) s
executed And t m s = set_d (bit_and m s.d) s
executed Xor t m s = set_d (bit_xor m s.d) s
executed Add t m s = added m false s
executed Sd t m s = less_d m true s
executed Shr t m s = shifted_right false s
executed Sm t m s = less_m m true s
executed Ldi t m s = past_operand (set_d m s)
executed Ori t m s = past_operand (set_d (bit_or m s.d) s)
executed Ani t m s = past_operand (set_d (bit_and m s.d) s)
executed Xri t m s = past_operand (set_d (bit_xor m s.d) s)
executed Adi t m s = past_operand (added m false s)
executed Sdi t m s = past_operand (less_d m true s)
executed Shl t m s = shifted_left false s
executed Smi t m s = past_operand (less_m m true s)

-- the second half: a long branch has a target, a long skip and NOP have no operand
abbrev pub ended_by : Option Operand → Bool → ℕ → Registers → Registers
ended_by None t m s = skipped t s
ended_by (Some (Register n)) t m s = skipped t s
ended_by (Some (Port port)) t m s = skipped t s
ended_by (Some Immediate) t m s = skipped t s
ended_by (Some ShortTarget) t m s = skipped t s
ended_by (Some LongTarget) t m s = long_ended (then_some t m) s

abbrev pub second_executed : Instruction → Bool → ℕ → Registers → Registers
second_executed i t m s = ended_by (appendix_a i).operand t m s
