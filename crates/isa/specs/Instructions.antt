-- Appendix A: which instruction each opcode is.
-- Assumes nothing.
use Rattle.std.specs.Prelude.{ℕ, ◌/◌, ◌%◌, cond, [], ◌∷◌, Some, None, Option, ◌==◌, slice_index_or}
use Rattle.isa.specs.declared.operands.Port.TheVariants.{P1, P2, P3, P4, P5, P6, P7}
use Rattle.isa.specs.declared.instructions.Instruction.{Instruction}
use Rattle.isa.specs.declared.instructions.Instruction.TheVariants.{
  Idl,
  Ldn,
  Inc,
  Dec,
  Br,
  Bq,
  Bz,
  Bdf,
  B1,
  B2,
  B3,
  B4,
  Skp,
  Bnq,
  Bnz,
  Bnf,
  Bn1,
  Bn2,
  Bn3,
  Bn4,
  Lda,
  Str,
  Irx,
  Out,
  Inp,
  Ret,
  Dis,
  Ldxa,
  Stxd,
  Adc,
  Sdb,
  Shrc,
  Smb,
  Sav,
  Mark,
  Req,
  Seq,
  Adci,
  Sdbi,
  Shlc,
  Smbi,
  Glo,
  Ghi,
  Plo,
  Phi,
  Lbr,
  Lbq,
  Lbz,
  Lbdf,
  Nop,
  Lsnq,
  Lsnz,
  Lsnf,
  Lskp,
  Lbnq,
  Lbnz,
  Lbnf,
  Lsie,
  Lsq,
  Lsz,
  Lsdf,
  Sep,
  Sex,
  Ldx,
  Or,
  And,
  Xor,
  Add,
  Sd,
  Shr,
  Sm,
  Ldi,
  Ori,
  Ani,
  Xri,
  Adi,
  Sdi,
  Shl,
  Smi,
}
use Rattle.isa.specs.Operands.{register_of}

-- class 3, by the low digit
abbrev pub class_3 : ℕ → Instruction
class_3 low = slice_index_or (
    Br ∷ Bq ∷ Bz ∷ Bdf ∷ B1 ∷ B2 ∷ B3 ∷ B4 ∷ Skp ∷ Bnq ∷ Bnz ∷ Bnf ∷ Bn1 ∷ Bn2 ∷ Bn3 ∷ Bn4 ∷ []
    ) low Bn4

-- class 6: 61 to 67 put a byte out, 69 to 6F take one in, and 68 is no instruction
abbrev pub class_6 : ℕ → Option Instruction
class_6 low = slice_index_or (
    Some Irx ∷ Some (Out P1) ∷ Some (Out P2) ∷ Some (Out P3) ∷ Some (Out P4) ∷ Some (Out P5) ∷ Some (Out P6)
    ∷ Some (Out P7) ∷ None ∷ Some (Inp P1) ∷ Some (Inp P2) ∷ Some (Inp P3) ∷ Some (Inp P4) ∷ Some (Inp P5)
    ∷ Some (Inp P6) ∷ Some (Inp P7) ∷ []
    ) low (Some (Inp P7))

-- class 7
abbrev pub class_7 : ℕ → Instruction
class_7 low = slice_index_or (
    Ret ∷ Dis ∷ Ldxa ∷ Stxd ∷ Adc ∷ Sdb ∷ Shrc ∷ Smb ∷ Sav ∷ Mark ∷ Req ∷ Seq ∷ Adci ∷ Sdbi ∷ Shlc ∷ Smbi ∷ []
    ) low Smbi

-- class C
abbrev pub class_c : ℕ → Instruction
class_c low = slice_index_or (
    Lbr ∷ Lbq ∷ Lbz ∷ Lbdf ∷ Nop ∷ Lsnq ∷ Lsnz ∷ Lsnf ∷ Lskp ∷ Lbnq ∷ Lbnz ∷ Lbnf ∷ Lsie ∷ Lsq ∷ Lsz ∷ Lsdf ∷
    []
    ) low Lsdf

-- class F
abbrev pub class_f : ℕ → Instruction
class_f low = slice_index_or (
    Ldx ∷ Or ∷ And ∷ Xor ∷ Add ∷ Sd ∷ Shr ∷ Sm ∷ Ldi ∷ Ori ∷ Ani ∷ Xri ∷ Adi ∷ Sdi ∷ Shl ∷ Smi ∷ []
    ) low Smi

-- the instruction with this high and low digit
abbrev pub at_digits : ℕ → ℕ → Option Instruction
at_digits high low = slice_index_or (
    Some (cond (low == 0) Idl (Ldn (register_of low)))
    ∷ Some (Inc (register_of low))
    ∷ Some (Dec (register_of low))
    ∷ Some (class_3 low)
    ∷ Some (Lda (register_of low))
    ∷ Some (Str (register_of low))
    ∷ class_6 low
    ∷ Some (class_7 low)
    ∷ Some (Glo (register_of low))
    ∷ Some (Ghi (register_of low))
    ∷ Some (Plo (register_of low))
    ∷ Some (Phi (register_of low))
    ∷ Some (class_c low)
    ∷ Some (Sep (register_of low))
    ∷ Some (Sex (register_of low))
    ∷ Some (class_f low)
    ∷ []
    ) high None

-- the instruction of an opcode
abbrev pub decoded : ℕ → Option Instruction
decoded op = at_digits (op / 16) (op % 16)
