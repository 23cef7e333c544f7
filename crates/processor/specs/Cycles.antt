-- The kinds of cycle: what each announces, which byte it uses, what it does to the registers, and what comes next.
-- Assumes nothing.
use Rattle.std.specs.Prelude.{ℕ, ◌%◌, Bool, false, cond, ◌&&◌, Some, None, Option, ◌==◌}
use Rattle.isa.specs.Instructions.{decoded}
use Rattle.isa.specs.declared.instructions.Instruction.{Instruction}
use Rattle.isa.specs.declared.operands.Register.TheVariants.{R0, R1, R2}
use Rattle.board.specs.declared.signals.Announcement.{Announcement}
use Rattle.board.specs.declared.signals.CycleName.{CycleName}
use Rattle.board.specs.declared.signals.CycleName.TheVariants as name
use Rattle.board.specs.declared.signals.Show.{Show}
use Rattle.execution.specs.declared.access.Access.{Access}
use Rattle.execution.specs.declared.access.Access.TheVariants.{Reads, Writes}
use Rattle.registers.specs.declared.registers.Registers.{Registers}
use Rattle.execution.specs.Accesses.{execute_access, second_access}
use Rattle.execution.specs.Conditions.{taken}
use Rattle.execution.specs.Effects.{executed, second_executed}
use Rattle.registers.specs.Registers.{class_i, digit_n, reg, r_p, xp, set_reg, up, set_ie, set_opcode, set_p, set_t, set_x}
use Rattle.registers.specs.Registers as regs
use Rattle.processor.specs.declared.state.Cycle.{Cycle}
use Rattle.processor.specs.declared.state.Cycle.TheVariants.{
  Initialise,
  Fetch,
  Execute,
  SecondExecute,
  Idle,
  DmaIn,
  DmaOut,
  Interrupt,
}
use Rattle.processor.specs.declared.state.Mode.{Mode}
use Rattle.processor.specs.declared.state.Mode.TheVariants.{Load, Run}
use Rattle.processor.specs.declared.state.Processor.{Processor}

-- a new processor: IE is 1, all else is 0, and the initialising cycle comes
abbrev pub fresh : Processor
fresh = record { registers = regs.fresh; coming = Some name.Initialise }

-- an execute of the opcode that was fetched last; 68 has none
abbrev pub with_instruction : (Instruction → Cycle) → Option Instruction → Option Cycle
with_instruction execute None = None
with_instruction execute (Some i) = Some (execute i)

-- the cycle that is due; none where the processor is stopped, or before an execute of 68, to which no cycle leads
abbrev pub due_at : Option CycleName → ℕ → Option Cycle
due_at (Some name.Initialise) op = Some Initialise
due_at (Some name.Fetch) op = Some Fetch
due_at (Some name.Execute) op = with_instruction Execute (decoded op)
due_at (Some name.SecondExecute) op = with_instruction SecondExecute (decoded op)
due_at (Some name.Idle) op = Some Idle
due_at (Some name.DmaIn) op = Some DmaIn
due_at (Some name.DmaOut) op = Some DmaOut
due_at (Some name.Interrupt) op = Some Interrupt
due_at None op = None

abbrev pub due : Processor → Option Cycle
due s = due_at s.coming s.registers.opcode

abbrev pub name_of : Cycle → CycleName
name_of Initialise = name.Initialise
name_of Fetch = name.Fetch
name_of (Execute i) = name.Execute
name_of (SecondExecute i) = name.SecondExecute
name_of Idle = name.Idle
name_of DmaIn = name.DmaIn
name_of DmaOut = name.DmaOut
name_of Interrupt = name.Interrupt

-- the N lines: N's low three bits in the execute of class 6, else 0
abbrev pub lines_of : Cycle → Registers → ℕ
lines_of (Execute i) s = cond (class_i s == 0x6) (digit_n s % 8) 0
lines_of _ s = 0

abbrev pub announced : Cycle → Registers → Announcement
announced c s = record { name = name_of c; lines = lines_of c s; q = s.q }

-- whether the instruction of an execute is taken
abbrev pub takes : Cycle → Registers → Show → Bool
takes (Execute i) s shown = taken i s shown
takes (SecondExecute i) s shown = taken i s shown
takes _ s shown = false

-- the byte that a cycle uses, if any
abbrev pub accessed : Cycle → Registers → ℕ → Bool → Option Access
accessed Initialise s bus t = None
accessed Fetch s bus t = Some (Reads (r_p s))
accessed (Execute i) s bus t = execute_access i s bus t
accessed (SecondExecute i) s bus t = second_access i s t
accessed Idle s bus t = Some (Reads (reg R0 s))
accessed DmaIn s bus t = Some (Writes (reg R0 s) bus)
accessed DmaOut s bus t = Some (Reads (reg R0 s))
accessed Interrupt s bus t = None

-- what a cycle does to the registers: m is the byte that it read or wrote
abbrev pub affected : Cycle → Bool → ℕ → Registers → Registers
affected Initialise t m s = set_reg R0 0 (set_p R0 (set_x R0 s))
affected Fetch t m s = up s.p (set_opcode m s)
affected (Execute i) t m s = executed i t m s
affected (SecondExecute i) t m s = second_executed i t m s
affected Idle t m s = s
affected DmaIn t m s = up R0 s
affected DmaOut t m s = up R0 s
affected Interrupt t m s = set_ie false (set_p R1 (set_x R2 (set_t (xp s) s)))

-- with no request load goes to idle
abbrev pub unserved : Mode → Show → Bool → CycleName → CycleName
unserved Load shown interruptible rest = name.Idle
unserved Run shown interruptible rest = cond (shown.interrupt && interruptible) name.Interrupt rest

-- the lines decide: DMA-in, else DMA-out, else in run interrupt
abbrev pub served : Mode → Show → Bool → CycleName → CycleName
served mode shown interruptible rest =
    cond shown.dma_in name.DmaIn (cond shown.dma_out name.DmaOut (unserved mode shown interruptible rest))

-- what comes after a cycle, by the registers after it
abbrev pub comes_next : Cycle → Mode → Registers → Show → Option CycleName
comes_next Initialise mode s shown = Some (served mode shown false name.Fetch)
comes_next Fetch mode s shown = cond (s.opcode == 0x68) None (Some name.Execute)
comes_next (Execute i) mode s shown =
    Some (cond (class_i s == 0xC) name.SecondExecute (served mode shown s.ie (cond (s.opcode == 0x00) name.Idle name.Fetch)))
comes_next (SecondExecute i) mode s shown = Some (served mode shown s.ie name.Fetch)
comes_next Idle mode s shown = Some (served mode shown s.ie name.Idle)
comes_next DmaIn mode s shown = Some (served mode shown s.ie name.Fetch)
comes_next DmaOut mode s shown = Some (served mode shown s.ie name.Fetch)
comes_next Interrupt mode s shown = Some (served mode shown s.ie name.Fetch)
