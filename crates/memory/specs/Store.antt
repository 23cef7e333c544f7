-- What a memory holds.
-- Assumes nothing.
use Rattle.std.specs.Prelude.{ℕ, ◌-◌, Bool, false, cond, ◌&&◌, List, length, ◌==◌, nat_lt, slice_index}

-- at each address a byte, and whether the address keeps bytes
pub record Store : Type 0 where
  pub byte : ℕ → ℕ
  pub keeps : ℕ → Bool

-- a store after a byte was written to an address: where the address keeps bytes, it has this byte; all else is as it was
abbrev pub put : Store → ℕ → ℕ → Store
put s address byte = record {
  byte = λ a. cond (a == address && s.keeps a) byte (s.byte a);
  keeps = s.keeps;
}

-- bytes from the address 0000 up, and FF past them
abbrev pub byte_at : List ℕ → ℕ → ℕ
byte_at bytes a = cond (nat_lt a (length bytes)) (slice_index bytes a) 0xFF

-- RAM keeps its bytes, and nothing past them
abbrev pub ram_of : List ℕ → Store
ram_of bytes = record { byte = byte_at bytes; keeps = λ a. nat_lt a (length bytes) }

-- fixed bytes keep nothing
abbrev pub fixed_of : List ℕ → Store
fixed_of bytes = record { byte = byte_at bytes; keeps = λ a. false }

-- bytes that are kept, or fixed
abbrev pub store_of : Bool → List ℕ → Store
store_of is_kept bytes = cond is_kept (ram_of bytes) (fixed_of bytes)

-- how a memory is built, which no write changes: how many bytes are kept; which bytes are fixed; two memories and their
-- boundary
pub data Form : Type 0 where
  kept : ℕ → Form
  fixed : List ℕ → Form
  parts : ℕ → Form → Form → Form

-- how a memory of bytes is built
abbrev pub form_of : Bool → List ℕ → Form
form_of is_kept bytes = cond is_kept (kept (length bytes)) (fixed bytes)

-- two stores as one: addresses below the boundary are the lower one's, the others, less the boundary, the upper one's
abbrev pub joined_of : ℕ → Store → Store → Store
joined_of boundary lower upper = record {
  byte = λ a. cond (nat_lt a boundary) (lower.byte a) (upper.byte (a - boundary));
  keeps = λ a. cond (nat_lt a boundary) (lower.keeps a) (upper.keeps (a - boundary));
}
