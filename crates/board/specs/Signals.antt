-- The signals between station and board.
-- Assumes nothing.
use Rattle.std.specs.Prelude.{ℕ, false}
use Rattle.board.specs.declared.signals.CycleName.{CycleName}
use Rattle.board.specs.declared.signals.CycleName.TheVariants.{
  Initialise,
  Fetch,
  Execute,
  SecondExecute,
  Idle,
  DmaIn,
  DmaOut,
  Interrupt,
}
use Rattle.board.specs.declared.signals.Show.{Show}

abbrev pub state_code : CycleName → ℕ
state_code Fetch = 0
state_code Initialise = 1
state_code Execute = 1
state_code SecondExecute = 1
state_code Idle = 1
state_code DmaIn = 2
state_code DmaOut = 2
state_code Interrupt = 3

-- no line, and FF
abbrev pub silent : Show
silent = record {
  ef1 = false;
  ef2 = false;
  ef3 = false;
  ef4 = false;
  dma_in = false;
  dma_out = false;
  interrupt = false;
  bus = 0xFF;
}
