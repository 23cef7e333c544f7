-- The shows that are left of a script, as numbers.
-- Assumes nothing.
use Rattle.std.proofs.Common.{◌≡◌, ℕ, Bool, true, false, eqb, ltb, zero, suc, List, [], ◌∷◌, ◌++◌, length, drop, get_or, ◌+◌, ◌<◌, ◌≤◌, refl, inl, inr, arith, rules}
use Rattle.std.proofs.lemmas.List.{drop_all, drop_more}
use Rattle.std.proofs.lemmas.Bool.{cases_lt}
use Rattle.std.specs.Int.{from_bool}
use Rattle.board.specs.declared.signals.Announcement.{Announcement}
use Rattle.board.specs.declared.signals.Show.{Show}
use Rattle.board.specs.Script.{codes_of, show_code, shown_in}
use Rattle.board.specs.Signals.{silent}

bit_back : (b : Bool) → eqb (from_bool b) 1 ≡ b
bit_back true = refl
bit_back false = refl

-- a show is read back from its eight numbers
first_left : (s : Show) (rest : List ℕ) (announced : Announcement) → shown_in (show_code s ++ rest) announced ≡ s
unfolding shown_in
first_left s rest announced =
    let long : ltb (length (show_code s ++ rest)) 8 ≡ false = search rules in
    rw long (simp bit_back)

-- the show at a place is the first of those that are left there, and past the end it is silence
pub shown_left : (shows : List Show) (n : ℕ) (announced : Announcement)
    → shown_in (codes_of (drop n shows)) announced ≡ get_or shows n silent
unfolding shown_in
shown_left [] zero announced = refl
shown_left [] (suc n) announced = refl
shown_left (s ∷ shows) zero announced = first_left s (codes_of shows) announced
shown_left (s ∷ shows) (suc n) announced = shown_left shows n announced

-- one place on, eight numbers fewer are left
pub moved_left : (shows : List Show) (n : ℕ) → n < length shows → codes_of (drop (n + 1) shows) ≡ drop 8 (codes_of (drop n shows))
moved_left shows n h = rw (drop_more shows n silent h) refl

-- at the end none is left, however many fewer
pub moved_none : (shows : List Show) (n : ℕ) → length shows ≤ n → codes_of (drop n shows) ≡ drop 8 (codes_of (drop n shows))
moved_none shows n h = rw (drop_all n shows h) refl

-- so too at every place
pub moved_on : (shows : List Show) (n : ℕ) → codes_of (drop (n + 1) shows) ≡ drop 8 (codes_of (drop n shows))
moved_on shows n =
    elim (cases_lt n (length shows)) [
      | inl h ↦ moved_left shows n h
      | inr h ↦ rw (drop_all (n + 1) shows (omega arith)) (rw (drop_all n shows h) refl)
    ]
