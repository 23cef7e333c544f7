-- Records of cycles, as the station tells them.
-- Assumes nothing.
use Rattle.std.specs.Prelude.{ℕ, false}
use Rattle.board.specs.declared.signals.CycleName.TheVariants.{Execute, Idle}
use Rattle.board.specs.declared.signals.Direction.{Direction}
use Rattle.board.specs.declared.signals.Direction.TheVariants.{Read}
use Rattle.board.specs.declared.signals.Record.{Record}

-- an idle cycle reads M(0000)
abbrev pub idle_record : Record
idle_record = record {
  announcement = record { name = Idle; lines = 0; q = false };
  direction = Read;
  address = 0;
  byte = 0;
  q = false;
}

-- the execute of OUT or INP at a port, with a byte at 8000
abbrev pub port_record : Direction → ℕ → ℕ → Record
port_record direction port byte = record {
  announcement = record { name = Execute; lines = port; q = false };
  direction = direction;
  address = 0x8000;
  byte = byte;
  q = false;
}
