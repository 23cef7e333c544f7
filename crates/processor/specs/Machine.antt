-- A processor with a memory and a board, and one cycle of the three.
-- Assumes nothing.
use Rattle.std.specs.Prelude.{ℕ, Bool, List, Some, None, Option}
use Rattle.board.specs.declared.signals.Announcement.{Announcement}
use Rattle.board.specs.declared.signals.Record.{Record}
use Rattle.board.specs.declared.signals.Show.{Show}
use Rattle.execution.specs.declared.access.Access.{Access}
use Rattle.registers.specs.declared.registers.Registers.{Registers}
use Rattle.memory.specs.Store.{Store}
use Rattle.processor.specs.declared.state.Cycle.{Cycle}
use Rattle.processor.specs.declared.state.Mode.{Mode}
use Rattle.processor.specs.declared.state.Processor.{Processor}
use Rattle.processor.specs.declared.transfer.Transfer.{Transfer}
use Rattle.processor.specs.Cycles.{accessed, affected, announced, comes_next, due, takes}
use Rattle.processor.specs.Transfers.{store_after, transfer_of}

-- the processor, what the memory holds, and where the board stands
pub record Machine : Type 0 where
  pub processor : Processor
  pub store : Store
  pub position : List ℕ

abbrev pub machine : Processor → Store → List ℕ → Machine
machine p s b = record { processor = p; store = s; position = b }

module _ (shown : List ℕ → Announcement → Show) where
  -- what the board shows in a cycle
  abbrev pub show_in : Cycle → Machine → Show
  show_in c w = shown w.position (announced c w.processor.registers)

  -- whether its instruction is taken
  abbrev pub taken_in : Cycle → Machine → Bool
  taken_in c w = takes c w.processor.registers (show_in c w)

  -- the access of a cycle, if any, and the byte that it transfers
  abbrev pub access_in : Cycle → Machine → Option Access
  access_in c w = accessed c w.processor.registers (show_in c w).bus (taken_in c w)

  abbrev pub transfer_in : Cycle → Machine → Transfer
  transfer_in c w = transfer_of (access_in c w) w.store

  -- the registers after a cycle
  abbrev pub registers_after : Cycle → Machine → Registers
  registers_after c w = affected c (taken_in c w) (transfer_in c w).byte w.processor.registers

  -- what the board is told
  abbrev pub record_of : Cycle → Machine → Record
  record_of c w = record {
    announcement = announced c w.processor.registers;
    direction = (transfer_in c w).direction;
    address = (transfer_in c w).address;
    byte = (transfer_in c w).byte;
    q = (registers_after c w).q;
  }

  -- the record of the cycle that is due
  abbrev pub told_by : Option Cycle → Machine → Option Record
  told_by None w = None
  told_by (Some c) w = Some (record_of c w)

  abbrev pub told_in : Machine → Option Record
  told_in w = told_by (due w.processor) w

  module _ (moved : List ℕ → Record → List ℕ) (mode : Mode) where
    -- all three after a cycle
    abbrev pub turned : Cycle → Machine → Machine
    turned c w = record {
      processor = record {
        registers = registers_after c w;
        coming = comes_next c mode (registers_after c w) (show_in c w);
      };
      store = store_after (access_in c w) w.store;
      position = moved w.position (record_of c w);
    }

    -- all three after the cycle that is due; nothing changes where there is none
    abbrev pub stepped_by : Option Cycle → Machine → Machine
    stepped_by None w = w
    stepped_by (Some c) w = turned c w

    abbrev pub stepped : Machine → Machine
    stepped w = stepped_by (due w.processor) w
