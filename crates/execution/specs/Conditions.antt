-- Which branches and skips are taken.
-- Assumes nothing.
use Rattle.std.specs.Prelude.{Bool, true, false, not, eqb}
use Rattle.board.specs.declared.signals.Show.{Show}
use Rattle.isa.specs.declared.instructions.Instruction.{Instruction}
use Rattle.isa.specs.declared.instructions.Instruction.TheVariants.{
  Idl,
  Ldn,
  Inc,
  Dec,
  Br,
  Bq,
  Bz,
  Bdf,
  B1,
  B2,
  B3,
  B4,
  Skp,
  Bnq,
  Bnz,
  Bnf,
  Bn1,
  Bn2,
  Bn3,
  Bn4,
  Lda,
  Str,
  Irx,
  Out,
  Inp,
  Ret,
  Dis,
  Ldxa,
  Stxd,
  Adc,
  Sdb,
  Shrc,
  Smb,
  Sav,
  Mark,
  Req,
  Seq,
  Adci,
  Sdbi,
  Shlc,
  Smbi,
  Glo,
  Ghi,
  Plo,
  Phi,
  Lbr,
  Lbq,
  Lbz,
  Lbdf,
  Nop,
  Lsnq,
  Lsnz,
  Lsnf,
  Lskp,
  Lbnq,
  Lbnz,
  Lbnf,
  Lsie,
  Lsq,
  Lsz,
  Lsdf,
  Sep,
  Sex,
  Ldx,
  Or,
  And,
  Xor,
  Add,
  Sd,
  Shr,
  Sm,
  Ldi,
  Ori,
  Ani,
  Xri,
  Adi,
  Sdi,
  Shl,
  Smi,
}
use Rattle.registers.specs.declared.registers.Registers.{Registers}

-- by the registers and by the flags shown in the cycle; what is no branch and no skip is never taken
abbrev pub taken : Instruction → Registers → Show → Bool
taken Idl r shown = false
taken (Ldn n) r shown = false
taken (Inc n) r shown = false
taken (Dec n) r shown = false
taken Br r shown = true
taken Bq r shown = r.q
taken Bz r shown = eqb r.d 0
taken Bdf r shown = r.df
taken B1 r shown = shown.ef1
taken B2 r shown = shown.ef2
taken B3 r shown = shown.ef3
taken B4 r shown = shown.ef4
taken Skp r shown = false
taken Bnq r shown = not r.q
taken Bnz r shown = not (eqb r.d 0)
taken Bnf r shown = not r.df
taken Bn1 r shown = not shown.ef1
taken Bn2 r shown = not shown.ef2
taken Bn3 r shown = not shown.ef3
taken Bn4 r shown = not shown.ef4
taken (Lda n) r shown = false
taken (Str n) r shown = false
taken Irx r shown = false
taken (Out port) r shown = false
taken (Inp port) r shown = false
taken Ret r shown = false
taken Dis r shown = false
taken Ldxa r shown = false
taken Stxd r shown = false
taken Adc r shown = false
taken Sdb r shown = false
taken Shrc r shown = false
taken Smb r shown = false
taken Sav r shown = false
taken Mark r shown = false
taken Req r shown = false
taken Seq r shown = false
taken Adci r shown = false
taken Sdbi r shown = false
taken Shlc r shown = false
taken Smbi r shown = false
taken (Glo n) r shown = false
taken (Ghi n) r shown = false
taken (Plo n) r shown = false
taken (Phi n) r shown = false
taken Lbr r shown = true
taken Lbq r shown = r.q
taken Lbz r shown = eqb r.d 0
taken Lbdf r shown = r.df
taken Nop r shown = false
taken Lsnq r shown = not r.q
taken Lsnz r shown = not (eqb r.d 0)
taken Lsnf r shown = not r.df
taken Lskp r shown = true
taken Lbnq r shown = not r.q
taken Lbnz r shown = not (eqb r.d 0)
taken Lbnf r shown = not r.df
taken Lsie r shown = r.ie
taken Lsq r shown = r.q
taken Lsz r shown = eqb r.d 0
taken Lsdf r shown = r.df
taken (Sep n) r shown = false
taken (Sex n) r shown = false
taken Ldx r shown = false
taken Or r shown = false
taken And r shown = false
taken Xor r shown = false
taken Add r shown = false
taken Sd r shown = false
taken Shr r shown = false
taken Sm r shown = false
taken Ldi r shown = false
taken Ori r shown = false
taken Ani r shown = false
taken Xri r shown = false
taken Adi r shown = false
taken Sdi r shown = false
taken Shl r shown = false
taken Smi r shown = false
