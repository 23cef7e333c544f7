-- The groups of a program's bytes.
-- Assumes nothing.
use Rattle.std.specs.Prelude.{◌≡◌, ℕ, ◌<◌, ◌≤◌, cond, List, length, take, Some, None, Option, MatchOption, nat_le, slice_index}
use Rattle.std.specs.Borrow.{Bor}
use Rattle.isa.specs.declared.instructions.Instruction.{Instruction}
use Rattle.isa.specs.declared.operands.Operand.{Operand}
use Rattle.isa.specs.declared.operands.Operand.TheVariants.{Register, Port, Immediate as immediate, ShortTarget, LongTarget}
use Rattle.isa.specs.AppendixA.{appendix_a}
use Rattle.isa.specs.Instructions.{decoded}
use Rattle.isa.specs.Table.{length_of}
use Rattle.listing.specs.declared.groups.Group.{Group}
use Rattle.listing.specs.declared.groups.Group.TheVariants.{OneByte, Immediate, ShortBranch, LongBranch, Byte}

-- what a group says: the number of its case, as the station's rules number them, its instruction where it has one, and its bytes
pub record Said : Type 0 where
  pub kind : ℕ
  pub instruction : Option Instruction
  pub bytes : List ℕ

-- 0 one byte, 1 immediate, 2 short branch, 3 long branch
abbrev pub kind_of : Option Operand → ℕ
kind_of None = 0
kind_of (Some (Register r)) = 0
kind_of (Some (Port p)) = 0
kind_of (Some immediate) = 1
kind_of (Some ShortTarget) = 2
kind_of (Some LongTarget) = 3

-- an instruction with its operand's bytes
abbrev pub instructed : ℕ → Instruction → List ℕ → Said
instructed kind i bytes = record { kind = kind; instruction = Some i; bytes = bytes }

-- 4: one byte that is no whole instruction
abbrev pub alone : List ℕ → Said
alone bytes = record { kind = 4; instruction = None; bytes = bytes }

abbrev pub said : Group → Said
said (OneByte i bytes) = instructed 0 i bytes.now
said (Immediate i bytes) = instructed 1 i bytes.now
said (ShortBranch i bytes) = instructed 2 i bytes.now
said (LongBranch i bytes) = instructed 3 i bytes.now
said (Byte bytes) = alone bytes.now

-- the kind of a whole instruction goes by its operand
abbrev pub whole : Instruction → List ℕ → Said
whole i bytes = instructed (kind_of (appendix_a i).operand) i bytes

-- the first n bytes of the code, or none where it has fewer
abbrev pub Front : Option (Bor (List ℕ)) → ℕ → List ℕ → Type 0
Front r n code = MatchOption r (length code < n) (λ bytes. (n ≤ length code) × (bytes.now ≡ take n code))

-- the group of code that begins with an opcode of this decoding: the whole instruction where all its bytes are there
abbrev pub group_by : Option Instruction → List ℕ → Said
group_by None code = alone (take 1 code)
group_by (Some i) code =
    cond (nat_le (length_of (slice_index code 0)) (length code)) (whole i (take (length_of (slice_index code 0)) code)) (alone (take 1 code))

-- the group at the start of the code, which is not empty
abbrev pub group_at : List ℕ → Said
group_at code = group_by (decoded (slice_index code 0)) code

-- the group at the start, or none where there is no code
abbrev pub First : Option Group → List ℕ → Type 0
First r code = MatchOption r (length code ≡ 0) (λ g. (0 < length code) × (said g ≡ group_at code))
