-- What holds of the decoding at all 256 opcodes: one test that antt computes over the whole range, and a lemma that
-- reads the test at each opcode.
-- Assumes nothing.
use Rattle.std.proofs.Common.{◌≡◌, ℕ, ◌+◌, ◌<◌, Bool, true, false, eqb, List, map, get_or, replicate, Some, None, Option, sym, refl, ap, ◌∙◌, arith, rules}
use Rattle.std.specs.List.{range_with_len}
use Rattle.std.proofs.lemmas.List.FromFn.{get_or-map-range_with_len}
use Rattle.std.proofs.lemmas.List.{get_or-replicate}
use Rattle.isa.specs.declared.instructions.Instruction.{Instruction}
use Rattle.isa.specs.AppendixA.{appendix_a}
use Rattle.isa.specs.Instructions.{decoded}
use Rattle.isa.specs.Laws.{InAppendixA, AsLongAsTable, operand_bytes}
use Rattle.isa.specs.Table.{length_of}

-- a test that is true at all opcodes is true at each
at_each : (test : ℕ → Bool) → map test (range_with_len 0 256) ≡ replicate 256 true → (op : ℕ) → op < 256 → test op ≡ true
at_each test all op h =
    sym (get_or-map-range_with_len test 0 256 op op false h (omega arith))
    ∙ ap (λ (tests : List Bool). get_or tests op false) all
    ∙ get_or-replicate 256 op true false h

abbrev is_in_appendix_a : ℕ → Option Instruction → Bool
is_in_appendix_a op None = eqb op 0x68
is_in_appendix_a op (Some i) = eqb (appendix_a i).opcode op

abbrev is_as_long_as_table : ℕ → Option Instruction → Bool
is_as_long_as_table op None = eqb (length_of op) 1
is_as_long_as_table op (Some i) = eqb (length_of op) (1 + operand_bytes (appendix_a i).operand)

reads_in_appendix_a : (op : ℕ) (r : Option Instruction) → is_in_appendix_a op r ≡ true → InAppendixA op r
reads_in_appendix_a op None h = search rules
reads_in_appendix_a op (Some i) h = search rules

reads_as_long_as_table : (op : ℕ) (r : Option Instruction) → is_as_long_as_table op r ≡ true → AsLongAsTable op r
reads_as_long_as_table op None h = search rules
reads_as_long_as_table op (Some i) h = search rules

pub in_appendix_a : (op : ℕ) → op < 256 → InAppendixA op (decoded op)
in_appendix_a op h = reads_in_appendix_a op (decoded op) (at_each (λ n. is_in_appendix_a n (decoded n)) refl op h)

pub as_long_as_table : (op : ℕ) → op < 256 → AsLongAsTable op (decoded op)
as_long_as_table op h = reads_as_long_as_table op (decoded op) (at_each (λ n. is_as_long_as_table n (decoded n)) refl op h)
