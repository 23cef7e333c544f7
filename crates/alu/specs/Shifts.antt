-- Shifts of a byte by one place, and the bit that leaves it.
-- Assumes nothing.
use Rattle.std.specs.Prelude.{ℕ, ◌+◌, ◌*◌, ◌/◌, ◌%◌, Bool, ◌==◌, nat_le}
use Rattle.std.specs.Int.{from_bool}

abbrev pub right : ℕ → Bool → ℕ
right d c = d / 2 + 128 * from_bool c

abbrev pub right_bit : ℕ → Bool
right_bit d = d % 2 == 1

abbrev pub left : ℕ → Bool → ℕ
left d c = (d * 2 + from_bool c) % 256

abbrev pub left_bit : ℕ → Bool
left_bit d = nat_le 128 d
