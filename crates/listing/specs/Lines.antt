-- What the listing of one line answers, and what it leaves in the buffer.
-- Assumes nothing.
use Rattle.std.specs.Prelude.{ℕ, cond, List, [], ◌∷◌, ◌++◌, length, drop, codes, Ok, Err, Result, nat_lt}
use Rattle.listing.specs.declared.lines.Listed.{Listed}
use Rattle.listing.specs.declared.lines.Refusal.{Refusal}
use Rattle.listing.specs.declared.lines.Refusal.TheVariants.{ShortBuffer}
use Rattle.listing.specs.Groups.{group_at}
use Rattle.listing.specs.Text.{line_text}

-- an answer by its number, 0 where the line was written, and the lengths of line and group
pub record Answer : Type 0 where
  pub number : ℕ
  pub line : ℕ
  pub group : ℕ

abbrev pub answer : ℕ → ℕ → ℕ → Answer
answer number line group = record { number = number; line = line; group = group }

-- the refusals as they are told to a person
abbrev pub refusal_text : Refusal → List ℕ
refusal_text ShortBuffer = codes "the buffer has fewer than 24 bytes"

-- the refusals by their numbers
abbrev pub number_of : Refusal → ℕ
number_of ShortBuffer = 4

abbrev pub answered : Result Listed Refusal → Answer
answered (Ok listed) = answer 0 listed.line listed.group
answered (Err refusal) = answer (number_of refusal) 0 0

-- the line of the first group; no line where there is no code
abbrev pub line_at : ℕ → List ℕ → List ℕ
line_at address [] = []
line_at address (op ∷ rest) = line_text address (group_at (op ∷ rest))

-- how many bytes the first group has
abbrev pub group_size : List ℕ → ℕ
group_size [] = 0
group_size (op ∷ rest) = length (group_at (op ∷ rest)).bytes

-- the lengths of line and group
abbrev pub lengths_at : ℕ → List ℕ → Listed
lengths_at address code = record { line = length (line_at address code); group = group_size code }

-- a text over the first bytes of a buffer, whose other bytes stay
abbrev pub overwritten : List ℕ → List ℕ → List ℕ
overwritten text buffer = text ++ drop (length text) buffer

-- 4 where the buffer has fewer than 24 bytes, which is tried first
abbrev pub line_answer : ℕ → List ℕ → List ℕ → Answer
line_answer address code buffer = cond (nat_lt (length buffer) 24) (answer 4 0 0) (answered (Ok (lengths_at address code)))

-- only the line's own bytes change, and a refusal changes nothing
abbrev pub line_buffer : ℕ → List ℕ → List ℕ → List ℕ
line_buffer address code buffer = cond (nat_lt (length buffer) 24) buffer (overwritten (line_at address code) buffer)
