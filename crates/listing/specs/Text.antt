-- The text of a line.
-- Assumes nothing.
use Rattle.std.specs.Prelude.{◌≡◌, ℕ, ◌+◌, ◌*◌, ◌/◌, ◌%◌, cond, List, [], ◌∷◌, ◌++◌, take, Some, None, codes, Option, nat_lt, slice_index}
use Rattle.std.specs.List.{flat_map}
use Rattle.isa.specs.declared.instructions.Instruction.{Instruction}
use Rattle.isa.specs.declared.operands.Operand.{Operand}
use Rattle.isa.specs.declared.operands.Operand.TheVariants.{Register, Port, Immediate, ShortTarget, LongTarget}
use Rattle.isa.specs.AppendixA.{appendix_a}
use Rattle.isa.specs.Operands.{digit_of, number_of}
use Rattle.listing.specs.Groups.{Said}

-- a text after more was written behind it, as much as a line holds
pub record Grew (text more after : List ℕ) : Type 0 where
  pub is : after ≡ take 24 (text ++ more)

-- the digit, in capitals, of a number below 16
abbrev pub hex_digit : ℕ → ℕ
hex_digit n = cond (nat_lt n 10) (48 + n) (55 + n)

-- a byte as two digits
abbrev pub hex2 : ℕ → List ℕ
hex2 b = hex_digit (b / 16) ∷ hex_digit (b % 16) ∷ []

-- an address as four digits
abbrev pub hex4 : ℕ → List ℕ
hex4 a = hex2 (a / 256) ++ hex2 (a % 256)

-- bytes as digits, with nothing between them
abbrev pub hexes : List ℕ → List ℕ
hexes = flat_map hex2

-- a short target is on the page of the branch's own address
abbrev pub short_target : ℕ → ℕ → ℕ
short_target address low = address / 256 * 256 + low

-- an operand, behind a space; nothing where there is none
abbrev pub operand_text : Option Operand → ℕ → List ℕ → List ℕ
operand_text None address bytes = []
operand_text (Some (Register r)) address bytes = codes " R" ++ hex_digit (digit_of r) ∷ []
operand_text (Some (Port p)) address bytes = codes " " ++ hex_digit (number_of p) ∷ []
operand_text (Some Immediate) address bytes = codes " " ++ hex2 (slice_index bytes 1)
operand_text (Some ShortTarget) address bytes = codes " " ++ hex4 (short_target address (slice_index bytes 1))
operand_text (Some LongTarget) address bytes = codes " " ++ hex4 (slice_index bytes 1 * 256 + slice_index bytes 2)

-- a group's name and its operand; BYTE's operand is the byte
abbrev pub named_by : Option Instruction → ℕ → List ℕ → List ℕ
named_by (Some i) address bytes = (appendix_a i).name ++ operand_text (appendix_a i).operand address bytes
named_by None address bytes = codes "BYTE " ++ hex2 (slice_index bytes 0)

abbrev pub named_text : ℕ → Said → List ℕ
named_text address group = named_by group.instruction address group.bytes

-- the line of a group at an address: address, bytes, name and operand, parted by single spaces, and 0A
abbrev pub line_text : ℕ → Said → List ℕ
line_text address group =
    hex4 address ++ codes " " ++ hexes group.bytes ++ codes " " ++ named_text address group ++ codes "\n"
