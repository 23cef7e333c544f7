-- A card write goes on, whatever is told.
-- Assumes nothing.
use Rattle.std.proofs.Common.{◌≡◌, ℕ, ◌+◌, ◌-◌, ◌<◌, ◌≤◌, min, List, [], ◌∷◌, length, sym, refl, ap, arith}
use Rattle.board.specs.declared.signals.Record.{Record}
use Rattle.board.specs.Canteen.{Accepts, Loses, Waits, at, card_in, delay_in, key_in, lamp_in, left_in, lost_in, moved_by, told}

-- one cycle of a write under way
one_cycle : (p : List ℕ) (r : Record) → 0 < left_in p → (left_in (moved_by p r) ≡ left_in p - 1) × (card_in (moved_by p r) ≡ card_in p)
one_cycle p r under = grind arith

-- some cycles of a write that has as many left
goes_on : (rs : List Record) (p : List ℕ) → length rs ≤ left_in p
    → (left_in (told p rs) ≡ left_in p - length rs) × (card_in (told p rs) ≡ card_in p)
goes_on [] p h = grind arith
goes_on (r ∷ rs) p h = grind (arith, one_cycle p r, goes_on rs (moved_by p r))

pub waits : (n : ℕ) (p : List ℕ) → n ≡ left_in p → Waits n p
unfolding Waits
waits n p e rs announced h = grind (arith, goes_on rs p)

-- the two laws of a byte for the card, of every position and record, with no board at hand
pub accepts : (p : List ℕ) (r : Record) → Accepts (delay_in p) p r (moved_by p r)
accepts p r sent free =
    let after : moved_by p r ≡ at (key_in p) (delay_in p) (lamp_in p) r.byte (lost_in p) (delay_in p) = rw sent (rw free refl) in
    (ap card_in after, ap lost_in after, waits (delay_in p) (moved_by p r) (sym (ap left_in after)))

pub loses : (p : List ℕ) (r : Record) → Loses p r (moved_by p r)
loses p r sent busy =
    let after : moved_by p r ≡ at (key_in p) (delay_in p) (lamp_in p) (card_in p) (min (lost_in p + 1) 255) (left_in p - 1) =
    rw sent (rw busy refl)
    in
    (ap card_in after, ap lost_in after, ap left_in after)
