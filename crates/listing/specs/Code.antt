-- Code that is taken group by group.
-- Assumes nothing.
use Rattle.std.specs.Prelude.{◌≡◌, ℕ, ◌+◌, ◌%◌, ◌<◌, length, drop, Option, MatchOption}
use Rattle.listing.specs.declared.code.Code.{Code}
use Rattle.listing.specs.declared.code.Placed.{Placed}
use Rattle.listing.specs.Groups.{Said, group_at, said}

-- the address behind a group; addresses wrap past FFFF
abbrev pub next : ℕ → Said → ℕ
next address g = (address + length g.bytes) % 65536

-- the group at the start of some code was taken, and the code behind it is left
pub record Took (code : Code) (first : Placed) (left : Code) : Type 0 where
  pub some : 0 < length code.bytes.now
  pub address : first.address ≡ code.address
  pub group : said first.group ≡ group_at code.bytes.now
  pub behind : left.address ≡ next code.address (said first.group)
  pub rest : left.bytes.now ≡ drop (length (said first.group).bytes) code.bytes.now

-- the first group is taken, or none where there is no code
abbrev pub TakesFirst : Code → Option Placed → Code → Type 0
TakesFirst code r left = MatchOption r ((length code.bytes.now ≡ 0) × (left ≡ code)) (λ first. Took code first left)
