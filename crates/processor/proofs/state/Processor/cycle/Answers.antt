-- The law of DF, at what `affect` leaves.
use Rattle.std.proofs.Common.{ap, ◌∙◌, sym}
use Rattle.registers.specs.declared.registers.Registers.{Registers}
use Rattle.processor.proofs.Laws.{df_law}
use Rattle.processor.proofs.state.Processor.cycle.Goals as goal

pub returns-clause-carry : goal.returns-clause-carry
returns-clause-carry g c h =
    ap (λ (s : Registers). s.df) c.affect.ensures
    ∙ df_law c.args.self.now.coming c.in_ok-cycle.cycle _ _ c.args.self.now.registers c.due.ensures.sized.opcode (sym c.due.ensures.value ∙ c.in_ok-cycle.was) h
