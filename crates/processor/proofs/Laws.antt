-- The laws of a cycle, of every processor, memory and board, by the coming cycle o, the cycle c that is due and the registers
-- s before it: t says whether its instruction is taken, m is its byte. Assumes nothing.
use Rattle.std.proofs.Common.{◌≡◌, ◌≢◌, ◌∙◌, ℕ, ◌-◌, ◌<◌, Bool, true, false, Some, None, Option, arith}
use Rattle.std.proofs.lemmas.Bool.Decides.{nat_tests}
use Rattle.board.specs.declared.signals.CycleName.{CycleName}
use Rattle.board.specs.declared.signals.CycleName.TheVariants as name
use Rattle.board.specs.declared.signals.Show.{Show}
use Rattle.execution.specs.Effects.{ended_by}
use Rattle.isa.proofs.Decoding.{in_appendix_a}
use Rattle.isa.specs.AppendixA.{appendix_a}
use Rattle.isa.specs.Table.{cycles_of}
use Rattle.isa.specs.declared.operands.Operand.{Operand}
use Rattle.processor.specs.Cycles.{affected, comes_next, due_at}
use Rattle.processor.specs.Laws.{alters_df, left_after, left_at}
use Rattle.processor.specs.declared.state.Cycle.{Cycle}
use Rattle.processor.specs.declared.state.Cycle.TheVariants.{Fetch, Execute}
use Rattle.processor.specs.declared.state.Mode.{Mode}
use Rattle.processor.specs.declared.state.Mode.TheVariants.{Run}
use Rattle.registers.specs.declared.registers.Registers.{Registers}

-- a second half changes neither the opcode nor DF
ended_keeps : (o : Option Operand) (t : Bool) (m : ℕ) (s : Registers) → ((ended_by o t m s).opcode ≡ s.opcode) × ((ended_by o t m s).df ≡ s.df)
ended_keeps o t m s = grind arith

-- only a fetch changes the opcode
pub opcode_kept : (c : Cycle) (t : Bool) (m : ℕ) (s : Registers) → c ≢ Fetch → (affected c t m s).opcode ≡ s.opcode
opcode_kept c t m s h = grind (arith, ended_keeps)

pub opcode_law : (o : Option CycleName) (c : Cycle) (t : Bool) (m : ℕ) (s : Registers) → due_at o s.opcode ≡ Some c
    → o ≢ Some name.Fetch → (affected c t m s).opcode ≡ s.opcode
opcode_law o c t m s e h = grind (arith, opcode_kept)

-- only the execute of an instruction of arithmetic or a shift alters DF
abbrev pub alters : Cycle → Bool
alters (Execute i) = alters_df (appendix_a i).opcode
alters _ = false

pub df_kept : (c : Cycle) (t : Bool) (m : ℕ) (s : Registers) → alters c ≡ false → (affected c t m s).df ≡ s.df
df_kept c t m s h = grind (arith, ended_keeps)

due_alters : (o : Option CycleName) (op : ℕ) (c : Cycle) → op < 256 → due_at o op ≡ Some c
    → (o ≡ Some name.Execute → alters_df op ≡ false) → alters c ≡ false
due_alters o op c b e h = grind (arith, in_appendix_a)

pub df_law : (o : Option CycleName) (c : Cycle) (t : Bool) (m : ℕ) (s : Registers) → s.opcode < 256 → due_at o s.opcode ≡ Some c
    → (o ≡ Some name.Execute → alters_df s.opcode ≡ false) → (affected c t m s).df ≡ s.df
df_law o c t m s b e h = df_kept c t m s (due_alters o s.opcode c b e h)

-- the lines lead to an interrupt in run alone, where it may come
pub interrupts_law : (o : Option CycleName) (op : ℕ) (c : Cycle) (mode : Mode) (s : Registers) (shown : Show) → due_at o op ≡ Some c
    → comes_next c mode s shown ≡ Some name.Interrupt → (mode ≡ Run) × (s.ie ≡ true) × (o ≢ Some name.Initialise)
interrupts_law o op c mode s shown e h = grind arith

-- how many cycles of its instruction come after a cycle
abbrev left_by : Cycle → ℕ → ℕ
left_by Fetch op = cycles_of op - 1
left_by (Execute i) op = cycles_of op - 1 - 1
left_by _ op = 0

next_left : (c : Cycle) (mode : Mode) (s : Registers) (shown : Show) → left_at (comes_next c mode s shown) s.opcode ≡ left_by c s.opcode
next_left c mode s shown = grind (arith, nat_tests)

due_left : (o : Option CycleName) (op op' : ℕ) (c : Cycle) → due_at o op ≡ Some c → (c ≢ Fetch → op' ≡ op)
    → left_by c op' ≡ left_after o (left_at o op) op'
due_left o op op' c e kept = grind (arith, nat_tests)

pub paced_law : (o : Option CycleName) (c : Cycle) (t : Bool) (m : ℕ) (s : Registers) (mode : Mode) (shown : Show)
    → due_at o s.opcode ≡ Some c
    → left_at (comes_next c mode (affected c t m s) shown) (affected c t m s).opcode
    ≡ left_after o (left_at o s.opcode) (affected c t m s).opcode
paced_law o c t m s mode shown e =
    next_left c mode (affected c t m s) shown ∙ due_left o s.opcode (affected c t m s).opcode c e (opcode_kept c t m s)

-- where no cycle is due, none is left
pub idle_law : (o : Option CycleName) (op : ℕ) → op < 256 → due_at o op ≡ None → left_at o op ≡ left_after o (left_at o op) op
idle_law o op b e = grind (arith, nat_tests, in_appendix_a)

pub ruleset laws = (paced_law, idle_law, opcode_law, interrupts_law)
