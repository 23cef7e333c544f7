-- What the listing of a whole program is.
-- Assumes nothing.
use Rattle.std.specs.Prelude.{◌≡◌, ℕ, ◌+◌, ◌<◌, ◌≤◌, List, [], ◌∷◌, ◌++◌, length, take, drop, Some, None, vec_items, vec_len, vec_capacity, Option}
use Rattle.std.specs.List.{flat_map}
use Rattle.isa.specs.declared.instructions.Instruction.{Instruction}
use Rattle.listing.specs.declared.program.Listing.{Listing}
use Rattle.listing.specs.Code.{next}
use Rattle.listing.specs.Groups.{Said, group_at}
use Rattle.listing.specs.Text.{line_text}

-- the groups are those of the code: each is the one at the start of what those before it leave, and at the end nothing is left
abbrev pub Parts : List ℕ → List Said → Type 0
Parts code [] = code ≡ []
Parts code (g ∷ gs) = (0 < length code) × (g ≡ group_at code) × Parts (drop (length g.bytes) code) gs

-- the lines of groups, the first of which stands at an address
abbrev pub lines_of : ℕ → List Said → List ℕ
lines_of address [] = []
lines_of address (g ∷ gs) = line_text address g ++ lines_of (next address g) gs

-- 1 for an instruction, 0 for BYTE
abbrev pub counts_instruction : Option Instruction → ℕ
counts_instruction (Some i) = 1
counts_instruction None = 0

-- 1 for BYTE, 0 for an instruction
abbrev pub counts_byte : Option Instruction → ℕ
counts_byte (Some i) = 0
counts_byte None = 1

abbrev pub instructions_in : List Said → ℕ
instructions_in [] = 0
instructions_in (g ∷ gs) = counts_instruction g.instruction + instructions_in gs

abbrev pub byte_groups_in : List Said → ℕ
byte_groups_in [] = 0
byte_groups_in (g ∷ gs) = counts_byte g.instruction + byte_groups_in gs

-- a listing after one group more
pub record Added (address : ℕ) (g : Said) (before after : Listing) : Type 0 where
  pub text : vec_items after.text ≡ vec_items before.text ++ take 24 (line_text address g)
  pub room : vec_capacity before.text ≤ vec_capacity after.text
  pub instructions : after.instructions ≡ before.instructions + counts_instruction g.instruction
  pub byte_groups : after.byte_groups ≡ before.byte_groups + counts_byte g.instruction

-- the text has no room for the line of one group more
abbrev pub Full : ℕ → Said → Listing → Type 0
Full address g listing = vec_capacity listing.text < vec_len listing.text + length (take 24 (line_text address g))

-- a listing of the code at an address, behind a text: the lines of its groups in order, which joined are the code
pub record Lists (front : List ℕ) (address : ℕ) (code : List ℕ) (listing : Listing) : Type 0 where
  pub groups : List Said
  pub parts : Parts code groups
  pub whole : flat_map (λ (g : Said). g.bytes) groups ≡ code
  pub text : vec_items listing.text ≡ front ++ lines_of address groups
  pub instructions : listing.instructions ≡ instructions_in groups
  pub byte_groups : listing.byte_groups ≡ byte_groups_in groups

-- a text of this length has no room for the lines of the code's groups
pub record NoRoom (room taken address : ℕ) (code : List ℕ) : Type 0 where
  pub groups : List Said
  pub parts : Parts code groups
  pub short : room < taken + length (lines_of address groups)
