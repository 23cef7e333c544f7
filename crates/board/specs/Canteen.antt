-- The canteen board's positions.
-- Assumes nothing.
use Rattle.std.specs.Prelude.{◌≡◌, ℕ, ◌+◌, ◌-◌, ◌≤◌, min, Bool, true, false, cond, ◌&&◌, List, [], ◌∷◌, length, ◌==◌, nat_lt, slice_index}
use Rattle.board.specs.declared.canteen.Canteen.{Canteen}
use Rattle.board.specs.declared.canteen.Delay.{Delay}
use Rattle.board.specs.declared.canteen.Delay.TheVariants.{Five, Forty}
use Rattle.board.specs.declared.signals.Announcement.{Announcement}
use Rattle.board.specs.declared.signals.Direction.{Direction}
use Rattle.board.specs.declared.signals.Direction.TheVariants.{Read, Write, Neither}
use Rattle.board.specs.declared.signals.Record.{Record}
use Rattle.board.specs.declared.signals.Show.{Show}
use Rattle.board.specs.Signals.{silent}

-- 5 ms and 40 ms in machine cycles at 6.4 MHz
abbrev pub cycles_of : Delay → ℕ
cycles_of Five = 4000
cycles_of Forty = 32000

-- keypad byte, delay in cycles, lamp, card byte, lost count, write cycles left
abbrev pub at : ℕ → ℕ → ℕ → ℕ → ℕ → ℕ → List ℕ
at key delay lamp card lost left = key ∷ delay ∷ lamp ∷ card ∷ lost ∷ left ∷ []

abbrev pub position_of : Canteen → List ℕ
position_of b = at b.key (cycles_of b.delay) b.lamp b.card b.lost b.left

abbrev pub key_in : List ℕ → ℕ
key_in p = slice_index p 0

abbrev pub delay_in : List ℕ → ℕ
delay_in p = slice_index p 1

abbrev pub lamp_in : List ℕ → ℕ
lamp_in p = slice_index p 2

abbrev pub card_in : List ℕ → ℕ
card_in p = slice_index p 3

abbrev pub lost_in : List ℕ → ℕ
lost_in p = slice_index p 4

abbrev pub left_in : List ℕ → ℕ
left_in p = slice_index p 5

-- EF1 while a write is under way; the keypad byte while the N lines are 1
abbrev pub shown_by : List ℕ → Announcement → Show
shown_by p announced = record silent {
  ef1 = nat_lt 0 (left_in p);
  bus = cond (announced.lines == 1) (key_in p) 0xFF;
}

-- OUT reads memory, INP writes it
abbrev pub reads : Direction → Bool
reads Read = true
reads Write = false
reads Neither = false

-- the cycle put a byte out at this port
abbrev pub out : ℕ → Record → Bool
out port r = reads r.direction && r.announcement.lines == port

-- no write is under way
abbrev pub ready : List ℕ → Bool
ready p = left_in p == 0

-- a byte for the card: it begins a write where none is under way, else it is lost
abbrev pub carded : List ℕ → ℕ → List ℕ
carded p byte =
    cond (ready p) (at (key_in p) (delay_in p) (lamp_in p) byte (lost_in p) (delay_in p))
    (at (key_in p) (delay_in p) (lamp_in p) (card_in p) (min (lost_in p + 1) 255) (left_in p - 1))

-- a cycle that puts no byte on the card: the write goes on
abbrev pub passed : List ℕ → ℕ → List ℕ
passed p lamp = at (key_in p) (delay_in p) lamp (card_in p) (lost_in p) (left_in p - 1)

-- OUT 2 is for the card, OUT 1 for the lamp
abbrev pub moved_by : List ℕ → Record → List ℕ
moved_by p r = cond (out 2 r) (carded p r.byte) (passed p (cond (out 1 r) r.byte (lamp_in p)))

-- where a board stands after some cycles, the first of them first
abbrev pub told : List ℕ → List Record → List ℕ
told p [] = p
told p (r ∷ rs) = told (moved_by p r) rs

-- EF1 shows in just the next n cycles, whatever is told in them, and the card byte stays until then
-- `unfoldable`, as a search would open it too soon
unfoldable pub Waits : ℕ → List ℕ → Type 0
Waits n p =
    (rs : List Record) (announced : Announcement) → length rs ≤ n
    → ((shown_by (told p rs) announced).ef1 ≡ nat_lt (length rs) n) × (card_in (told p rs) ≡ card_in p)

-- a byte for the card while no write is under way becomes the card byte, and EF1 shows for the delay
abbrev pub Accepts : ℕ → List ℕ → Record → List ℕ → Type 0
Accepts delay before r after =
    out 2 r ≡ true → ready before ≡ true → (card_in after ≡ r.byte) × (lost_in after ≡ lost_in before) × Waits delay after

-- one sent while a write is under way is lost: the card byte stays, the write goes on, and the lost count rises, up to 255
abbrev pub Loses : List ℕ → Record → List ℕ → Type 0
Loses before r after =
    out 2 r ≡ true → ready before ≡ false
    → (card_in after ≡ card_in before) × (lost_in after ≡ min (lost_in before + 1) 255) × (left_in after ≡ left_in before - 1)
