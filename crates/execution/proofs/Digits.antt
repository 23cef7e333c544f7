-- The high digit of a byte has no digit above it.
-- Assumes nothing.
use Rattle.std.proofs.Common.{◌≡◌, ℕ, ◌<◌, ◌/◌, ◌%◌, arith}

pub high_alone : (byte : ℕ) → byte < 256 → byte / 16 % 16 ≡ byte / 16
high_alone byte h = omega arith
