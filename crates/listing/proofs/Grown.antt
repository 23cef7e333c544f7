-- Texts that grow on a line, one piece after another.
-- Assumes nothing.
use Rattle.std.proofs.Common.{◌≡◌, ℕ, zero, suc, ◌+◌, ◌-◌, ◌/◌, ◌%◌, ◌^◌, ◌<◌, ◌≤◌, min, List, [], ◌∷◌, ◌++◌, length, get_or, take, drop, replicate, set, sym, refl, ap, ◌∙◌, subst, append_assoc, append-nil, arith}
use Rattle.std.proofs.lemmas.List.{drop-drop, drop-replicate, drop-set-lt, flat_map_more, length-set, take_all, take_min, take_more}
use Rattle.std.proofs.Math.Seq.{take-append-add}
use Rattle.std.specs.Int.{w16, to_be_bytes}
use Rattle.std.specs.List.{flat_map}
use Rattle.listing.specs.Text.{Grew, hex2, hex4, hexes}

take-take-append : (n : ℕ) (xs ys : List ℕ) → take n (take n xs ++ ys) ≡ take n (xs ++ ys)
take-take-append zero xs ys = refl
take-take-append (suc n) [] ys = refl
take-take-append (suc n) (x ∷ xs) ys = ap (λ zs. x ∷ zs) (take-take-append n xs ys)

-- one piece and then another are one piece
pub also : {text a b after last : List ℕ} → Grew text a after → Grew after b last → Grew text (a ++ b) last
also {text} {a} {b} first second = record {
  is = second.is ∙ ap (λ (t : List ℕ). take 24 (t ++ b)) first.is ∙ take-take-append 24 (text ++ a) b
      ∙ ap (take 24) (append_assoc text a b);
}

-- a piece that is spelt in another way
pub spelt : {text a after : List ℕ} (b : List ℕ) → a ≡ b → Grew text a after → Grew text b after
spelt {text} {a} {after} b e g = subst (λ (piece : List ℕ). Grew text piece after) e g

-- no piece changes nothing
pub grew_none : (text : List ℕ) → length text ≤ 24 → Grew text [] text
grew_none text h = record { is = sym (ap (take 24) (append-nil text) ∙ take_all 24 text h) }

-- as much of a piece as there is room for
pub grew_write : (text more after : List ℕ) → length text ≤ 24
    → after ≡ text ++ take (min (24 - length text) (length more)) more → Grew text more after
grew_write text more after h is =
    let room : length text + (24 - length text) ≡ 24 = omega arith in
    record {
      is = is ∙ ap (λ t. text ++ t) (take_min (24 - length text) more)
          ∙ sym (take-append-add text more (24 - length text)) ∙ ap (λ k. take k (text ++ more)) room;
    }

-- a full line has room for nothing
pub grew_full : (text more : List ℕ) → length text ≡ 24 → Grew text more text
grew_full text more size =
    let none : min (24 - length text) (length more) ≡ 0 = grind arith in
    grew_write text more text (omega (arith, size)) (rw none (sym (append-nil text)))

-- the two bytes of an address as its four digits
pub address_digits : (address : ℕ) → address < 2 ^ 16 → hexes (to_be_bytes w16 address) ≡ hex4 address
address_digits address h =
    let front : address / 256 % 256 ≡ address / 256 = omega arith in
    ap (λ (high : ℕ). hex2 high ++ hex2 (address % 256)) front

-- the pieces of the first i bytes, and then the piece of the byte at i
pub also_more : (piece : ℕ → List ℕ) (bytes : List ℕ) (i : ℕ) {text after last : List ℕ} → i < length bytes
    → Grew text (flat_map piece (take i bytes)) after → Grew after (piece (get_or bytes i 0)) last
    → Grew text (flat_map piece (take (i + 1) bytes)) last
also_more piece bytes i h first second =
    spelt _ (flat_map_more piece [] (take i bytes) (get_or bytes i 0) ∙ ap (flat_map piece) (sym (take_more bytes i 0 h)))
    (also first second)

-- the pieces of all bytes
pub all_pieces : (piece : ℕ → List ℕ) (bytes : List ℕ) (i : ℕ) {text after : List ℕ} → length bytes ≤ i
    → Grew text (flat_map piece (take i bytes)) after → Grew text (flat_map piece bytes) after
all_pieces piece bytes i h g = spelt _ (ap (flat_map piece) (take_all i bytes h)) g

-- bytes as they are, each a piece of its own
pub joined_single : (bytes : List ℕ) → flat_map (λ b. b ∷ []) bytes ≡ bytes
joined_single [] = refl
joined_single (b ∷ bs) = ap (λ (xs : List ℕ). b ∷ xs) (joined_single bs)

-- a line that is 0 behind some bytes is 0 behind one byte more
pub zeros_left : (bytes : List ℕ) (n byte : ℕ) → n < 24 → length bytes ≡ 24 → replicate (24 - n) 0 ≡ drop n bytes
    → (n + 1 ≤ 24) × (length (set bytes n byte) ≡ 24) × (replicate (24 - (n + 1)) 0 ≡ drop (n + 1) (set bytes n byte))
zeros_left bytes n byte room size zeros =
    let less : 24 - n - 1 ≡ 24 - (n + 1) = omega arith in (
      omega (arith, room),
      length-set bytes n byte ∙ size,
      sym (drop-set-lt (n + 1) bytes n byte (omega arith) ∙ sym (drop-drop 1 n bytes) ∙ ap (drop 1) (sym zeros)
          ∙ drop-replicate 1 (24 - n) 0 ∙ ap (λ k. replicate k 0) less),
    )
