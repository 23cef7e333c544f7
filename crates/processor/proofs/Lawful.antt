-- All laws of a cycle at once, of every machine and what its cycle leaves: by the definitions alone, with no memory and no board
-- at hand. Assumes nothing.
use Rattle.std.proofs.Common.{◌≡◌, ℕ, ◌<◌, Bool, List, length, get_or, Some, None, Option, sym, refl, ap, ◌∙◌, subst, arith, get_or-set_same, rules}
use Rattle.board.specs.declared.signals.Announcement.{Announcement}
use Rattle.board.specs.declared.signals.Record.{Record}
use Rattle.board.specs.declared.signals.Show.{Show}
use Rattle.isa.specs.Operands.{digit_of}
use Rattle.isa.specs.declared.instructions.Instruction.{Instruction}
use Rattle.isa.specs.declared.instructions.Instruction.TheVariants.{Ret, Dis}
use Rattle.isa.specs.declared.operands.Register.{Register}
use Rattle.execution.specs.Effects.{executed}
use Rattle.registers.specs.Registers.{Sized, up}
use Rattle.registers.specs.declared.registers.Registers.{Registers}
use Rattle.processor.specs.declared.state.Cycle.{Cycle}
use Rattle.processor.specs.declared.state.Cycle.TheVariants as cycle
use Rattle.processor.specs.declared.state.Mode.{Mode}
use Rattle.processor.specs.declared.state.Processor.{Processor}
use Rattle.processor.specs.Cycles.{due}
use Rattle.processor.specs.Laws.{Paced, KeepsDf, KeepsOpcode, StepsX, StepsOldX, LoadsBus, InterruptsIn}
use Rattle.processor.specs.Machine.{Machine, registers_after, show_in, stepped, stepped_by, taken_in, transfer_in}
use Rattle.processor.proofs.Laws.{df_law, idle_law, interrupts_law, opcode_law, paced_law}

digit_lt : (w : Register) → digit_of w < 16
digit_lt w = search rules

module _ (shown : List ℕ → Announcement → Show) (moved : List ℕ → Record → List ℕ) (mode : Mode) (w : Machine) where
  -- RET and DIS alike: the register of the old X is stepped first, and X is not looked at again
  stepped_old_x : (i : Instruction) → ((t : Bool) (m : ℕ) (s : Registers) → (executed i t m s).r ≡ (up s.x s).r)
      → length w.processor.registers.r ≡ 16
      → due w.processor ≡ Some (cycle.Execute i) → StepsX w.processor (stepped shown moved mode w).processor
  stepped_old_x i steps n e =
      let s = w.processor.registers in
      let x = digit_of s.x in
      let lt : x < length s.r = let b = digit_lt s.x in omega arith in
      ap (λ o. get_or (stepped_by shown moved mode o w).processor.registers.r x 0) e
      ∙ ap (λ r. get_or r x 0) (steps (taken_in shown (cycle.Execute i) w) _ s)
      ∙ rw get_or-set_same

  old_x : length w.processor.registers.r ≡ 16 → StepsOldX w.processor (stepped shown moved mode w).processor
  old_x n = (stepped_old_x Ret (λ _ _ _. refl) n, stepped_old_x Dis (λ _ _ _. refl) n)

  bus : LoadsBus shown w.position w.processor (stepped shown moved mode w).processor
  bus port e = ap (λ o. (stepped_by shown moved mode o w).processor.registers.d) e

  -- the four laws that hold cycle by cycle, where one is due and where none is
  record Served (after : Processor) : Type 0 where
    pub paced : Paced w.processor after
    pub opcode : KeepsOpcode w.processor after
    pub carry : KeepsDf w.processor after
    pub interrupts : InterruptsIn mode w.processor after

  by_due : Sized w.processor.registers → (o : Option Cycle) → due w.processor ≡ o → Served (stepped_by shown moved mode o w).processor
  by_due sizes None e =
      record {
        paced = idle_law w.processor.coming w.processor.registers.opcode sizes.opcode e;
        opcode = λ h. refl;
        carry = λ h. refl;
        interrupts = grind arith;
      }
  by_due sizes (Some c) e =
      let o = w.processor.coming in
      let s = w.processor.registers in
      let t = taken_in shown c w in
      let m = (transfer_in shown c w).byte in
      record {
        paced = paced_law o c t m s mode (show_in shown c w) e;
        opcode = opcode_law o c t m s e;
        carry = df_law o c t m s sizes.opcode e;
        interrupts = interrupts_law o s.opcode c mode (registers_after shown c w) (show_in shown c w) e;
      }

-- all of them, of a processor before and after a cycle on a board at a position
pub record Lawful (shown : List ℕ → Announcement → Show) (mode : Mode) (position : List ℕ) (before after : Processor) : Type 0 where
  pub paced : Paced before after
  pub opcode : KeepsOpcode before after
  pub carry : KeepsDf before after
  pub returning : StepsOldX before after
  pub input : LoadsBus shown position before after
  pub interrupts : InterruptsIn mode before after

module _ (shown : List ℕ → Announcement → Show) (moved : List ℕ → Record → List ℕ) (mode : Mode) where
  stepped_lawful : (w : Machine) → Sized w.processor.registers → Lawful shown mode w.position w.processor (stepped shown moved mode w).processor
  stepped_lawful w sizes =
      let served = by_due shown moved mode w sizes (due w.processor) refl in
      record {
        paced = served.paced;
        opcode = served.opcode;
        carry = served.carry;
        returning = old_x shown moved mode w sizes.r;
        input = bus shown moved mode w;
        interrupts = served.interrupts;
      }

  -- the same of whatever is equal to what a cycle leaves
  pub lawful : (w v : Machine) → v ≡ stepped shown moved mode w → Sized w.processor.registers → Lawful shown mode w.position w.processor v.processor
  lawful w v e sizes =
      subst (λ (u : Machine). Lawful shown mode w.position w.processor u.processor) (sym e) (stepped_lawful w sizes)
