-- The bytes of a memory that is made of bytes.
-- Assumes nothing.
use Rattle.std.specs.Prelude.{ℕ, List, vec_items}
use Rattle.memory.specs.declared.bytes.Bytes.{Bytes}

-- the type has its const parameter as a number
abbrev pub bytes_of : {kept : ℕ} → Bytes kept → List ℕ
bytes_of m = vec_items m.0.bytes
