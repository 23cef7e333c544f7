-- How the comparisons are counted.
-- Assumes nothing.
use Rattle.std.specs.Prelude.{ℕ, ◌+◌, ◌-◌, ◌^◌, min}
use Rattle.witness.specs.declared.tally.Tally.{Tally}
use Rattle.witness.specs.declared.tally.Verdict.{Verdict}
use Rattle.witness.specs.declared.tally.Verdict.TheVariants.{Named, Illegal, Differs}

abbrev pub tally : ℕ → ℕ → ℕ → ℕ → Tally
tally tried named illegal differing =
    record { tried = tried; named = named; illegal = illegal; differing = differing }

abbrev pub none : Tally
none = tally 0 0 0 0

-- one more, unless the count is full
abbrev pub more : ℕ → ℕ
more n = min (n + 1) (2 ^ 32 - 1)

abbrev pub counted : Tally → Verdict → Tally
counted t Named = tally (more t.tried) (more t.named) t.illegal t.differing
counted t Illegal = tally (more t.tried) t.named (more t.illegal) t.differing
counted t Differs = tally (more t.tried) t.named t.illegal (more t.differing)
