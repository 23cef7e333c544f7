-- Sums and differences of bytes: the byte is the exact result modulo 256.
-- Assumes nothing.
use Rattle.std.specs.Prelude.{◌≡◌, ℕ, ◌+◌, ◌-◌, ◌%◌, Bool, true, false, ℤ, pos, ◌+ℤ◌, ◌-ℤ◌, ◌≤ℤ◌, Decides, nat_le, nat_lt}
use Rattle.std.specs.Int.{from_bool}

-- what is borrowed where no carry is handed on
abbrev pub borrow : Bool → ℕ
borrow true = 0
borrow false = 1

abbrev pub sum : ℕ → ℕ → Bool → ℕ
sum m d c = (m + d + from_bool c) % 256

abbrev pub carry : ℕ → ℕ → Bool → Bool
carry m d c = nat_lt 255 (m + d + from_bool c)

abbrev pub difference : ℕ → ℕ → Bool → ℕ
difference a b c = (a + 256 - b - borrow c) % 256

abbrev pub not_below : ℕ → ℕ → Bool → Bool
not_below a b c = nat_le (b + borrow c) a

-- the difference as an integer
abbrev pub whole : ℕ → ℕ → Bool → ℤ
whole a b c = pos a -ℤ pos b -ℤ pos (borrow c)

-- the byte is the difference where that is not below 0, else 256 more
abbrev pub Exactly : ℕ → ℕ → Bool → ℕ → Bool → Type 0
Exactly a b c byte flag =
    (flag ≡ true → pos byte ≡ whole a b c) × (flag ≡ false → pos byte ≡ whole a b c +ℤ pos 256)

-- the flag tells the sign of the difference
abbrev pub Sign : ℕ → ℕ → Bool → Bool → Type 0
Sign a b c flag = Decides flag (pos 0 ≤ℤ whole a b c)
