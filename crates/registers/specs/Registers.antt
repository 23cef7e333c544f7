-- The processor's registers, and the ways in which a cycle changes them.
-- Assumes nothing.
use Rattle.std.specs.Prelude.{ℕ, ◌+◌, ◌*◌, ◌/◌, ◌%◌, ◌<◌, ◌≡◌, Bool, true, false, List, length, get_or, set, replicate}
use Rattle.isa.specs.Operands.{digit_of, register_of}
use Rattle.isa.specs.declared.operands.Register.{Register}
use Rattle.isa.specs.declared.operands.Register.TheVariants.{R0}
use Rattle.registers.specs.declared.registers.Registers.{Registers}

-- in the order R(0) to R(F), D, T, B, DF, IE, Q, X, P, and the opcode, whose digits are I and N
abbrev pub registers : List ℕ → ℕ → ℕ → ℕ → Bool → Bool → Bool → Register → Register → ℕ → Registers
registers r d t b df ie q x p opcode = record {
  r = r;
  d = d;
  t = t;
  b = b;
  df = df;
  ie = ie;
  q = q;
  x = x;
  p = p;
  opcode = opcode;
}

-- those of a new processor: IE is 1 and all else 0
abbrev pub fresh : Registers
fresh = registers (replicate 16 0) 0 0 0 false true false R0 R0 0

-- sixteen R registers, and bytes in D, T, B and the opcode
pub record Sized (s : Registers) : Type 0 where
  pub r : length s.r ≡ 16
  pub d : s.d < 256
  pub t : s.t < 256
  pub b : s.b < 256
  pub opcode : s.opcode < 256

-- I and N: the digits of the opcode that was fetched last
abbrev pub class_i : Registers → ℕ
class_i s = s.opcode / 16

abbrev pub digit_n : Registers → ℕ
digit_n s = s.opcode % 16

-- R(W)
abbrev pub reg : Register → Registers → ℕ
reg w s = get_or s.r (digit_of w) 0

-- R(X) and R(P)
abbrev pub r_x : Registers → ℕ
r_x s = reg s.x s

abbrev pub r_p : Registers → ℕ
r_p s = reg s.p s

-- X,P: X is the high digit
abbrev pub xp : Registers → ℕ
xp s = 16 * digit_of s.x + digit_of s.p

-- the registers that the two digits of a byte name
abbrev pub high_digit : ℕ → Register
high_digit byte = register_of (byte / 16 % 16)

abbrev pub low_digit : ℕ → Register
low_digit byte = register_of (byte % 16)

-- a value → R(W)
abbrev pub set_reg : Register → ℕ → Registers → Registers
set_reg w v s = record s { r = set s.r (digit_of w) v }

-- R(W)+1 and R(W)−1, between FFFF and 0000 too
abbrev pub up : Register → Registers → Registers
up w s = set_reg w ((reg w s + 1) % 65536) s

abbrev pub down : Register → Registers → Registers
down w s = set_reg w ((reg w s + 65535) % 65536) s

-- a byte → R(W).0, and a byte → R(W).1
abbrev pub set_low : Register → ℕ → Registers → Registers
set_low w byte s = set_reg w (reg w s / 256 * 256 + byte) s

abbrev pub set_high : Register → ℕ → Registers → Registers
set_high w byte s = set_reg w (byte * 256 + reg w s % 256) s

-- a value → one of the other registers
abbrev pub set_d : ℕ → Registers → Registers
set_d v s = record s { d = v }

-- a byte and a carry → D and DF
abbrev pub set_pair : ℕ → Bool → Registers → Registers
set_pair v c s = record s { d = v; df = c }

abbrev pub set_t : ℕ → Registers → Registers
set_t v s = record s { t = v }

abbrev pub set_b : ℕ → Registers → Registers
set_b v s = record s { b = v }

abbrev pub set_ie : Bool → Registers → Registers
set_ie v s = record s { ie = v }

abbrev pub set_q : Bool → Registers → Registers
set_q v s = record s { q = v }

abbrev pub set_x : Register → Registers → Registers
set_x v s = record s { x = v }

abbrev pub set_p : Register → Registers → Registers
set_p v s = record s { p = v }

-- an opcode → I and N
abbrev pub set_opcode : ℕ → Registers → Registers
set_opcode v s = record s { opcode = v }
