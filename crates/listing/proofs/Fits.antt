-- No line has more than 22 bytes, so that a line's 24 hold it whole.
-- Assumes nothing.
use Rattle.std.proofs.Common.{◌≡◌, ℕ, ◌+◌, ◌*◌, ◌<◌, ◌≤◌, List, [], ◌∷◌, length, get_or, take, Some, None, Option, refl, ap, ◌∙◌, arith, lit≤, rules}
use Rattle.std.proofs.lemmas.List.{length-append, length-take, take_all}
use Rattle.isa.specs.declared.operands.Operand.{Operand}
use Rattle.isa.specs.declared.instructions.Instruction.{Instruction}
use Rattle.isa.specs.AppendixA.{appendix_a}
use Rattle.isa.specs.Instructions.{decoded}
use Rattle.isa.specs.Table.{length_of}
use Rattle.listing.specs.Groups.{Said, alone, group_at, group_by, whole}
use Rattle.listing.proofs.Front.{instruction_length}
use Rattle.listing.specs.Lines.{group_size, line_at}
use Rattle.listing.specs.Text.{hexes, line_text, named_text, operand_text}

name_fits : (i : Instruction) → length (appendix_a i).name ≤ 4
name_fits i = grind arith

operand_fits : (operand : Option Operand) (address : ℕ) (bytes : List ℕ) → length (operand_text operand address bytes) ≤ 5
operand_fits operand address bytes = grind arith

length-hexes : (bytes : List ℕ) → length (hexes bytes) ≡ 2 * length bytes
length-hexes [] = refl
length-hexes (b ∷ bs) = let rest = length-hexes bs in search rules

length-line : (address : ℕ) (group : Said)
    → length (line_text address group) ≡ 7 + 2 * length group.bytes + length (named_text address group)
length-line address group = simp (length-append, length-hexes) (omega arith)

alone_fits : (address : ℕ) (code : List ℕ) → length (line_text address (alone (take 1 code))) ≤ 22
alone_fits address code =
    omega (arith, length-line address (alone (take 1 code)), length-take 1 code)

whole_fits : (address n : ℕ) (i : Instruction) (code : List ℕ) → n ≤ 3 → length (line_text address (whole i (take n code))) ≤ 22
whole_fits address n i code h =
    omega (
      arith,
      length-line address (whole i (take n code)),
      length-take n code,
      name_fits i,
      operand_fits (appendix_a i).operand address (take n code),
      length-append (appendix_a i).name (operand_text (appendix_a i).operand address (take n code)),
    )

group_fits : (address : ℕ) (r : Option Instruction) (code : List ℕ) → length (line_text address (group_by r code)) ≤ 22
group_fits address None code = alone_fits address code
group_fits address (Some i) code =
    let length = instruction_length (get_or code 0 0) in
    let short = alone_fits address code in
    let long = whole_fits address (length_of (get_or code 0 0)) i code length.1 in
    grind arith

pub line_fits : (address : ℕ) (code : List ℕ) → length (line_text address (group_at code)) ≤ 22
line_fits address code = group_fits address (decoded (get_or code 0 0)) code

-- what is written of the first group is its whole line
pub whole_line : (address : ℕ) (code text : List ℕ) (group : Said) → 0 < length code → group ≡ group_at code
    → text ≡ take 24 (line_text address group) → text ≡ line_at address code
whole_line address (op ∷ rest) text group some same written =
    written ∙ ap (λ (g : Said). take 24 (line_text address g)) same
    ∙ take_all 24 (line_text address (group_at (op ∷ rest))) (omega (arith, line_fits address (op ∷ rest)))
whole_line address [] text group some same written = absurd (search rules)

pub whole_size : (code : List ℕ) (group : Said) → 0 < length code → group ≡ group_at code → length group.bytes ≡ group_size code
whole_size (op ∷ rest) group some same = ap (λ (g : Said). length g.bytes) same
whole_size [] group some same = absurd (search rules)

pub line_at_fits : (address : ℕ) (code : List ℕ) → length (line_at address code) ≤ 22
line_at_fits address [] = lit≤ tt
line_at_fits address (op ∷ rest) = line_fits address (op ∷ rest)
