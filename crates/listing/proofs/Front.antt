-- The first group is a front of the code, of one to three bytes.
-- Assumes nothing.
use Rattle.std.proofs.Common.{◌≡◌, ℕ, ◌<◌, ◌≤◌, true, false, cond, leb, List, ◌++◌, length, get_or, take, drop, Some, None, Option, sym, refl, ap, subst, arith, lit≤}
use Rattle.std.proofs.lemmas.List.{length-take, take_min, take-append-drop}
use Rattle.isa.specs.declared.instructions.Instruction.{Instruction}
use Rattle.isa.specs.Instructions.{decoded}
use Rattle.isa.specs.Table.{length_of}
use Rattle.listing.specs.Groups.{alone, group_at, group_by, whole}

pub instruction_length : (op : ℕ) → (1 ≤ length_of op) × (length_of op ≤ 3)
instruction_length op = grind arith

-- bytes that are the first n of the code, n from 1 to 3
pub record Front (code bytes : List ℕ) : Type 0 where
  pub n : ℕ
  pub least : 1 ≤ n
  pub most : n ≤ 3
  pub front : bytes ≡ take n code

one : (code : List ℕ) → Front code (take 1 code)
one code = record { n = 1; least = lit≤ tt; most = lit≤ tt; front = refl }

front_by : (r : Option Instruction) (code : List ℕ) → Front code (group_by r code).bytes
front_by None code = one code
front_by (Some i) code =
    elim (leb (length_of (get_or code 0 0)) (length code)) as (λ b.
    Front code (cond b (whole i (take (length_of (get_or code 0 0)) code)) (alone (take 1 code))).bytes) [
      | true ↦ record {
        n = length_of (get_or code 0 0);
        least = (instruction_length (get_or code 0 0)).0;
        most = (instruction_length (get_or code 0 0)).1;
        front = refl;
      }
      | false ↦ one code
    ]

pub group_front : (code : List ℕ) → Front code (group_at code).bytes
group_front code = front_by (decoded (get_or code 0 0)) code

-- it is empty only where there is no code
pub group_some : (code : List ℕ) → 0 < length code → 0 < length (group_at code).bytes
group_some code h = let f = group_front code in omega (arith, ap length f.front, length-take f.n code)

pub group_most : (code : List ℕ) → length (group_at code).bytes ≤ 3
group_most code = let f = group_front code in omega (arith, ap length f.front, length-take f.n code)

pub group_within : (code : List ℕ) → length (group_at code).bytes ≤ length code
group_within code = let f = group_front code in omega (arith, ap length f.front, length-take f.n code)

take_and_rest : (n : ℕ) (xs : List ℕ) → take n xs ++ drop (length (take n xs)) xs ≡ xs
take_and_rest n xs = grind (arith, take_min, length-take, take-append-drop)

-- the group and what is left are the code
pub group_rest : (code : List ℕ) → (group_at code).bytes ++ drop (length (group_at code).bytes) code ≡ code
group_rest code =
    let f = group_front code in
    subst (λ (bytes : List ℕ). bytes ++ drop (length bytes) code ≡ code) (sym f.front) (take_and_rest f.n code)
