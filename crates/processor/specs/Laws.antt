-- What the cycles come to, in the subject's words. Each law is one of a processor before and after a cycle.
-- Assumes nothing.
use Rattle.std.specs.Prelude.{◌≡◌, ℕ, ◌+◌, ◌-◌, ◌%◌, min, Bool, true, false, ◌||◌, List, Some, Option, ◌≢◌}
use Rattle.isa.specs.Table.{cycles_of, within}
use Rattle.isa.specs.declared.instructions.Instruction.TheVariants.{Inp, Ret, Dis}
use Rattle.isa.specs.declared.operands.Port.{Port}
use Rattle.board.specs.declared.signals.Announcement.{Announcement}
use Rattle.board.specs.declared.signals.CycleName.{CycleName}
use Rattle.board.specs.declared.signals.CycleName.TheVariants.{Initialise, Fetch, Execute, SecondExecute, Interrupt}
use Rattle.board.specs.declared.signals.Show.{Show}
use Rattle.registers.specs.Registers.{reg}
use Rattle.processor.specs.declared.state.Cycle.TheVariants as cycle
use Rattle.processor.specs.declared.state.Mode.{Mode}
use Rattle.processor.specs.declared.state.Mode.TheVariants.{Run}
use Rattle.processor.specs.declared.state.Processor.{Processor}
use Rattle.processor.specs.Cycles.{announced, due}

-- how many cycles are left of the instruction that is under way: before its execute all of the opcode table but the fetch,
-- before its second execute one; 68 has none left
abbrev pub left_at : Option CycleName → ℕ → ℕ
left_at (Some Execute) op = cycles_of op - 1
left_at (Some SecondExecute) op = min 1 (cycles_of op - 1)
left_at _ op = 0

abbrev pub left : Processor → ℕ
left s = left_at s.coming s.registers.opcode

-- how many are left after a cycle: a fetch is the first of its instruction's, and each execute is one of them
abbrev pub left_after : Option CycleName → ℕ → ℕ → ℕ
left_after (Some Fetch) before op = cycles_of op - 1
left_after (Some Execute) before op = before - 1
left_after (Some SecondExecute) before op = before - 1
left_after _ before op = 0

-- An instruction has just the cycles of the opcode table, taken or not, and they follow each other: while some are left, the
-- coming cycle is one of them, so no DMA or interrupt cycle parts a fetch from its executes.
abbrev pub Paced : Processor → Processor → Type 0
Paced before after = left after ≡ left_after before.coming (left before) after.registers.opcode

-- only a fetch changes I and N, so the executes after it are those of the opcode that it fetched
abbrev pub KeepsOpcode : Processor → Processor → Type 0
KeepsOpcode before after =
    (before.coming ≢ Some Fetch) → after.registers.opcode ≡ before.registers.opcode

-- the opcodes of arithmetic and shifts
abbrev pub alters_df : ℕ → Bool
alters_df op = within 0x74 0x77 op || within 0x7C 0x7F op || within 0xF4 0xF7 op || within 0xFC 0xFF op

-- no other cycle alters DF
abbrev pub KeepsDf : Processor → Processor → Type 0
KeepsDf before after =
    (before.coming ≡ Some Execute → alters_df before.registers.opcode ≡ false)
    → after.registers.df ≡ before.registers.df

-- the register that X named before the cycle is one more after it
abbrev pub StepsX : Processor → Processor → Type 0
StepsX before after =
    reg before.registers.x after.registers
    ≡ (reg before.registers.x before.registers + 1) % 65536

-- RET and DIS step the register of the old X, whatever X they load
abbrev pub StepsOldX : Processor → Processor → Type 0
StepsOldX before after =
    ((due before ≡ Some (cycle.Execute Ret)) → StepsX before after)
    × ((due before ≡ Some (cycle.Execute Dis)) → StepsX before after)

-- INP loads D with the byte that the board shows on the bus, whether the address keeps bytes or not
abbrev pub LoadsBus : (List ℕ → Announcement → Show) → List ℕ → Processor → Processor → Type 0
LoadsBus shown position before after =
    (port : Port) → due before ≡ Some (cycle.Execute (Inp port))
    → after.registers.d ≡ (shown position (announced (cycle.Execute (Inp port)) before.registers)).bus

-- an interrupt comes only in run, with IE 1 after the cycle, and never straight after the initialising one
abbrev pub InterruptsIn : Mode → Processor → Processor → Type 0
InterruptsIn mode before after =
    after.coming ≡ Some Interrupt → (mode ≡ Run) × (after.registers.ie ≡ true) × (before.coming ≢ Some Initialise)
