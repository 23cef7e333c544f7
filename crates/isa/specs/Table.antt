-- How many bytes and machine cycles each opcode takes, by ranges of opcodes.
-- Assumes nothing.
use Rattle.std.specs.Prelude.{ℕ, ◌+◌, ◌*◌, Bool, cond, not, ◌&&◌, ◌||◌, ◌==◌, nat_le}
use Rattle.isa.specs.declared.table.Entry.{Entry}

-- the opcode stands between two others, or is one of them
abbrev pub within : ℕ → ℕ → ℕ → Bool
within first last op = nat_le first op && nat_le op last

-- one operand byte follows: short branches and immediates
abbrev pub one_more : ℕ → Bool
one_more op =
    within 0x30 0x3F op && not (op == 0x38)
    || (op == 0x7C || op == 0x7D || op == 0x7F)
    || within 0xF8 0xFF op && not (op == 0xFE)

-- two operand bytes follow: long branches
abbrev pub two_more : ℕ → Bool
two_more op = within 0xC0 0xC3 op || within 0xC9 0xCB op

abbrev pub length_of : ℕ → ℕ
length_of op = cond (one_more op) 2 (cond (two_more op) 3 1)

-- three cycles in class C, one for 68, at which the processor stops, else two
abbrev pub cycles_of : ℕ → ℕ
cycles_of op = cond (within 0xC0 0xCF op) 3 (cond (op == 0x68) 1 2)

-- both in one number
abbrev pub packed : ℕ → ℕ
packed op = 16 * cycles_of op + length_of op

abbrev pub entry_of : ℕ → Entry
entry_of op = record { length = length_of op; cycles = cycles_of op }
