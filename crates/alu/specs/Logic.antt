-- Bits that differ.
-- Assumes nothing.
use Rattle.std.specs.Prelude.{ℕ, ◌-◌, min, max}

-- 1 where two bits differ
abbrev pub unlike : ℕ → ℕ → ℕ
unlike a b = max a b - min a b
