-- The script board's positions: the shows that are left, eight numbers to a show.
-- Assumes nothing.
use Rattle.std.specs.Prelude.{◌≡◌, ℕ, ◌+◌, ◌<◌, ◌≤◌, cond, List, [], ◌∷◌, length, drop, vec_items, ◌==◌, nat_lt, slice_index}
use Rattle.std.specs.Int.{from_bool}
use Rattle.std.specs.List.{flat_map}
use Rattle.board.specs.declared.script.Script.{Script}
use Rattle.board.specs.declared.signals.Announcement.{Announcement}
use Rattle.board.specs.declared.signals.Record.{Record}
use Rattle.board.specs.declared.signals.Show.{Show}
use Rattle.board.specs.Signals.{silent}

-- a show as eight numbers: the flags, the request lines and the bus byte
abbrev pub show_code : Show → List ℕ
show_code s =
    from_bool s.ef1 ∷ from_bool s.ef2 ∷ from_bool s.ef3 ∷ from_bool s.ef4
    ∷ from_bool s.dma_in ∷ from_bool s.dma_out ∷ from_bool s.interrupt ∷ s.bus ∷ []

abbrev pub codes_of : List Show → List ℕ
codes_of = flat_map show_code

abbrev pub position_of : Script → List ℕ
position_of b = codes_of (drop b.next (vec_items b.shows))

-- the same list, one place on unless it is at its end
abbrev pub Advanced : Script → Script → Type 0
Advanced before after =
    (vec_items after.shows ≡ vec_items before.shows)
    × (before.next < length (vec_items before.shows) → after.next ≡ before.next + 1)
    × (length (vec_items before.shows) ≤ before.next → after.next ≡ before.next)

-- the first eight numbers, as a show
abbrev pub first_show : List ℕ → Show
first_show p = record {
  ef1 = (slice_index p 0 == 1);
  ef2 = (slice_index p 1 == 1);
  ef3 = (slice_index p 2 == 1);
  ef4 = (slice_index p 3 == 1);
  dma_in = (slice_index p 4 == 1);
  dma_out = (slice_index p 5 == 1);
  interrupt = (slice_index p 6 == 1);
  bus = slice_index p 7;
}

-- the first show that is left, or silence, whatever is announced
-- `unfoldable`, as a search would open it too soon
unfoldable pub shown_in : List ℕ → Announcement → Show
shown_in p announced = cond (nat_lt (length p) 8) silent (first_show p)

-- one show fewer, whatever is told
abbrev pub moved_in : List ℕ → Record → List ℕ
moved_in p r = drop 8 p
