-- Appendix A of RCA's manual: each instruction's opcode, name and operand, a row to an instruction.
-- Assumes nothing.
use Rattle.std.specs.Prelude.{ℕ, ◌+◌, List, Some, None, Option, codes}
use Rattle.isa.specs.Operands.{digit_of, number_of}
use Rattle.isa.specs.declared.operands.Operand.{Operand}
use Rattle.isa.specs.declared.operands.Operand.TheVariants.{Register, Port, Immediate, ShortTarget, LongTarget}
use Rattle.isa.specs.declared.instructions.Instruction.{Instruction}
use Rattle.isa.specs.declared.instructions.Instruction.TheVariants.{
  Idl,
  Ldn,
  Inc,
  Dec,
  Br,
  Bq,
  Bz,
  Bdf,
  B1,
  B2,
  B3,
  B4,
  Skp,
  Bnq,
  Bnz,
  Bnf,
  Bn1,
  Bn2,
  Bn3,
  Bn4,
  Lda,
  Str,
  Irx,
  Out,
  Inp,
  Ret,
  Dis,
  Ldxa,
  Stxd,
  Adc,
  Sdb,
  Shrc,
  Smb,
  Sav,
  Mark,
  Req,
  Seq,
  Adci,
  Sdbi,
  Shlc,
  Smbi,
  Glo,
  Ghi,
  Plo,
  Phi,
  Lbr,
  Lbq,
  Lbz,
  Lbdf,
  Nop,
  Lsnq,
  Lsnz,
  Lsnf,
  Lskp,
  Lbnq,
  Lbnz,
  Lbnf,
  Lsie,
  Lsq,
  Lsz,
  Lsdf,
  Sep,
  Sex,
  Ldx,
  Or,
  And,
  Xor,
  Add,
  Sd,
  Shr,
  Sm,
  Ldi,
  Ori,
  Ani,
  Xri,
  Adi,
  Sdi,
  Shl,
  Smi,
}

pub record Row : Type 0 where
  pub opcode : ℕ
  pub name : List ℕ
  pub operand : Option Operand

abbrev pub row : ℕ → List ℕ → Option Operand → Row
row opcode name operand = record { opcode = opcode; name = name; operand = operand }

abbrev pub appendix_a : Instruction → Row
appendix_a Idl = row 0x00 (codes "IDL") None
appendix_a (Ldn r) = row (0x00 + digit_of r) (codes "LDN") (Some (Register r))
appendix_a (Inc r) = row (0x10 + digit_of r) (codes "INC") (Some (Register r))
appendix_a (Dec r) = row (0x20 + digit_of r) (codes "DEC") (Some (Register r))
appendix_a Br = row 0x30 (codes "BR") (Some ShortTarget)
appendix_a Bq = row 0x31 (codes "BQ") (Some ShortTarget)
appendix_a Bz = row 0x32 (codes "BZ") (Some ShortTarget)
appendix_a Bdf = row 0x33 (codes "BDF") (Some ShortTarget)
appendix_a B1 = row 0x34 (codes "B1") (Some ShortTarget)
appendix_a B2 = row 0x35 (codes "B2") (Some ShortTarget)
appendix_a B3 = row 0x36 (codes "B3") (Some ShortTarget)
appendix_a B4 = row 0x37 (codes "B4") (Some ShortTarget)
appendix_a Skp = row 0x38 (codes "SKP") None
appendix_a Bnq = row 0x39 (codes "BNQ") (Some ShortTarget)
appendix_a Bnz = row 0x3A (codes "BNZ") (Some ShortTarget)
appendix_a Bnf = row 0x3B (codes "BNF") (Some ShortTarget)
appendix_a Bn1 = row 0x3C (codes "BN1") (Some ShortTarget)
appendix_a Bn2 = row 0x3D (codes "BN2") (Some ShortTarget)
appendix_a Bn3 = row 0x3E (codes "BN3") (Some ShortTarget)
appendix_a Bn4 = row 0x3F (codes "BN4") (Some ShortTarget)
appendix_a (Lda r) = row (0x40 + digit_of r) (codes "LDA") (Some (Register r))
appendix_a (Str r) = row (0x50 + digit_of r) (codes "STR") (Some (Register r))
appendix_a Irx = row 0x60 (codes "IRX") None
appendix_a (Out p) = row (0x60 + number_of p) (codes "OUT") (Some (Port p))
appendix_a (Inp p) = row (0x68 + number_of p) (codes "INP") (Some (Port p))
appendix_a Ret = row 0x70 (codes "RET") None
appendix_a Dis = row 0x71 (codes "DIS") None
appendix_a Ldxa = row 0x72 (codes "LDXA") None
appendix_a Stxd = row 0x73 (codes "STXD") None
appendix_a Adc = row 0x74 (codes "ADC") None
appendix_a Sdb = row 0x75 (codes "SDB") None
appendix_a Shrc = row 0x76 (codes "SHRC") None
appendix_a Smb = row 0x77 (codes "SMB") None
appendix_a Sav = row 0x78 (codes "SAV") None
appendix_a Mark = row 0x79 (codes "MARK") None
appendix_a Req = row 0x7A (codes "REQ") None
appendix_a Seq = row 0x7B (codes "SEQ") None
appendix_a Adci = row 0x7C (codes "ADCI") (Some Immediate)
appendix_a Sdbi = row 0x7D (codes "SDBI") (Some Immediate)
appendix_a Shlc = row 0x7E (codes "SHLC") None
appendix_a Smbi = row 0x7F (codes "SMBI") (Some Immediate)
appendix_a (Glo r) = row (0x80 + digit_of r) (codes "GLO") (Some (Register r))
appendix_a (Ghi r) = row (0x90 + digit_of r) (codes "GHI") (Some (Register r))
appendix_a (Plo r) = row (0xA0 + digit_of r) (codes "PLO") (Some (Register r))
appendix_a (Phi r) = row (0xB0 + digit_of r) (codes "PHI") (Some (Register r))
appendix_a Lbr = row 0xC0 (codes "LBR") (Some LongTarget)
appendix_a Lbq = row 0xC1 (codes "LBQ") (Some LongTarget)
appendix_a Lbz = row 0xC2 (codes "LBZ") (Some LongTarget)
appendix_a Lbdf = row 0xC3 (codes "LBDF") (Some LongTarget)
appendix_a Nop = row 0xC4 (codes "NOP") None
appendix_a Lsnq = row 0xC5 (codes "LSNQ") None
appendix_a Lsnz = row 0xC6 (codes "LSNZ") None
appendix_a Lsnf = row 0xC7 (codes "LSNF") None
appendix_a Lskp = row 0xC8 (codes "LSKP") None
appendix_a Lbnq = row 0xC9 (codes "LBNQ") (Some LongTarget)
appendix_a Lbnz = row 0xCA (codes "LBNZ") (Some LongTarget)
appendix_a Lbnf = row 0xCB (codes "LBNF") (Some LongTarget)
appendix_a Lsie = row 0xCC (codes "LSIE") None
appendix_a Lsq = row 0xCD (codes "LSQ") None
appendix_a Lsz = row 0xCE (codes "LSZ") None
appendix_a Lsdf = row 0xCF (codes "LSDF") None
appendix_a (Sep r) = row (0xD0 + digit_of r) (codes "SEP") (Some (Register r))
appendix_a (Sex r) = row (0xE0 + digit_of r) (codes "SEX") (Some (Register r))
appendix_a Ldx = row 0xF0 (codes "LDX") None
appendix_a Or = row 0xF1 (codes "OR") None
appendix_a And = row 0xF2 (codes "AND") None
appendix_a Xor = row 0xF3 (codes "XOR") None
appendix_a Add = row 0xF4 (codes "ADD") None
appendix_a Sd = row 0xF5 (codes "SD") None
appendix_a Shr = row 0xF6 (codes "SHR") None
appendix_a Sm = row 0xF7 (codes "SM") None
appendix_a Ldi = row 0xF8 (codes "LDI") (Some Immediate)
appendix_a Ori = row 0xF9 (codes "ORI") (Some Immediate)
appendix_a Ani = row 0xFA (codes "ANI") (Some Immediate)
appendix_a Xri = row 0xFB (codes "XRI") (Some Immediate)
appendix_a Adi = row 0xFC (codes "ADI") (Some Immediate)
appendix_a Sdi = row 0xFD (codes "SDI") (Some Immediate)
appendix_a Shl = row 0xFE (codes "SHL") None
appendix_a Smi = row 0xFF (codes "SMI") (Some Immediate)
