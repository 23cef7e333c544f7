-- Registers and ports by their numbers.
-- Assumes nothing.
use Rattle.std.specs.Prelude.{ℕ, List, [], ◌∷◌, slice_index_or}
use Rattle.isa.specs.declared.operands.Port.{Port}
use Rattle.isa.specs.declared.operands.Port.TheVariants.{P1, P2, P3, P4, P5, P6, P7}
use Rattle.isa.specs.declared.operands.Register.{Register}
use Rattle.isa.specs.declared.operands.Register.TheVariants.{R0, R1, R2, R3, R4, R5, R6, R7, R8, R9, RA, RB, RC, RD, RE, RF}

abbrev pub digit_of : Register → ℕ
digit_of R0 = 0x0
digit_of R1 = 0x1
digit_of R2 = 0x2
digit_of R3 = 0x3
digit_of R4 = 0x4
digit_of R5 = 0x5
digit_of R6 = 0x6
digit_of R7 = 0x7
digit_of R8 = 0x8
digit_of R9 = 0x9
digit_of RA = 0xA
digit_of RB = 0xB
digit_of RC = 0xC
digit_of RD = 0xD
digit_of RE = 0xE
digit_of RF = 0xF

-- the sixteen registers in their order
abbrev pub registers : List Register
registers = R0 ∷ R1 ∷ R2 ∷ R3 ∷ R4 ∷ R5 ∷ R6 ∷ R7 ∷ R8 ∷ R9 ∷ RA ∷ RB ∷ RC ∷ RD ∷ RE ∷ RF ∷ []

abbrev pub register_of : ℕ → Register
register_of n = slice_index_or registers n RF

abbrev pub number_of : Port → ℕ
number_of P1 = 1
number_of P2 = 2
number_of P3 = 3
number_of P4 = 4
number_of P5 = 5
number_of P6 = 6
number_of P7 = 7
