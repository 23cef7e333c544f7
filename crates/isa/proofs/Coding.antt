-- Every instruction is decoded from its opcode, LDN of R(0) excepted.
-- Assumes nothing.
use Rattle.std.proofs.Common.{◌≡◌, ℕ, ◌+◌, ◌*◌, ◌/◌, ◌%◌, ◌<◌, Some, refl, arith, rules}
use Rattle.isa.specs.declared.operands.Port.TheVariants.{P1}
use Rattle.isa.specs.declared.operands.Register.{Register}
use Rattle.isa.specs.declared.instructions.Instruction.{Instruction}
use Rattle.isa.specs.declared.instructions.Instruction.TheVariants.{Ldn, Inc, Dec, Lda, Str, Out, Inp, Glo, Ghi, Plo, Phi, Sep, Sex}
use Rattle.isa.specs.declared.operands.Register.TheVariants.{R0}
use Rattle.isa.specs.AppendixA.{appendix_a}
use Rattle.isa.specs.Instructions.{at_digits, decoded}
use Rattle.isa.specs.Operands.{digit_of, register_of}
use Rattle.isa.specs.Laws.{DecodesTo}

-- a register is the one of its digit
register_back : (r : Register) → register_of (digit_of r) ≡ r
register_back r = grind arith

digit_small : (r : Register) → digit_of r < 16
digit_small r = search rules

-- a class whose low digit is a register: the instruction with this register stands at its digit
with_register : (high : ℕ) (make : Register → Instruction)
    → ((low : ℕ) → at_digits high low ≡ Some (make (register_of low)))
    → (r : Register) → decoded (16 * high + digit_of r) ≡ Some (make r)
with_register high make class r =
    let h : (16 * high + digit_of r) / 16 ≡ high = omega (arith, digit_small r) in
    let l : (16 * high + digit_of r) % 16 ≡ digit_of r = omega (arith, digit_small r) in
    rw (h, l, class (digit_of r), register_back r) refl

pub decodes_to : (i : Instruction) → DecodesTo (appendix_a i).opcode i
decodes_to (Ldn R0) real = absurd (real refl)
decodes_to (Out P1) real = refl
decodes_to (Inp P1) real = refl
decodes_to (Inc r) real = with_register 0x1 Inc (λ _. refl) r
decodes_to (Dec r) real = with_register 0x2 Dec (λ _. refl) r
decodes_to (Lda r) real = with_register 0x4 Lda (λ _. refl) r
decodes_to (Str r) real = with_register 0x5 Str (λ _. refl) r
decodes_to (Glo r) real = with_register 0x8 Glo (λ _. refl) r
decodes_to (Ghi r) real = with_register 0x9 Ghi (λ _. refl) r
decodes_to (Plo r) real = with_register 0xA Plo (λ _. refl) r
decodes_to (Phi r) real = with_register 0xB Phi (λ _. refl) r
decodes_to (Sep r) real = with_register 0xD Sep (λ _. refl) r
decodes_to (Sex r) real = with_register 0xE Sex (λ _. refl) r
decodes_to _ real = refl
