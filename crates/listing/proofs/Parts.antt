-- The groups of a whole program, found one after another.
-- Assumes nothing.
use Rattle.std.proofs.Common.{◌≡◌, ℕ, zero, suc, ◌+◌, ◌-◌, ◌<◌, ◌≤◌, List, [], ◌∷◌, ◌++◌, length, take, drop, Some, None, vec_items, vec_capacity, Option, sym, refl, ap, ◌∙◌, subst, append_assoc, append-nil, arith, rules}
use Rattle.std.proofs.lemmas.List.{length-append, length-drop, length-take, nil_from_length, take_all}
use Rattle.std.specs.List.{flat_map}
use Rattle.isa.specs.declared.instructions.Instruction.{Instruction}
use Rattle.listing.specs.declared.program.Listing.{Listing}
use Rattle.listing.specs.declared.code.Code.{Code}
use Rattle.listing.specs.declared.code.Placed.{Placed}
use Rattle.listing.specs.Code.{Took, next}
use Rattle.listing.specs.Groups.{Said, group_at, said}
use Rattle.listing.specs.Program.{
  Added,
  Full,
  Lists,
  NoRoom,
  Parts,
  byte_groups_in,
  counts_byte,
  counts_instruction,
  instructions_in,
  lines_of,
}
use Rattle.listing.specs.Text.{line_text}
use Rattle.listing.proofs.Fits.{line_fits}
use Rattle.listing.proofs.Front.{group_most, group_rest, group_some, group_within}

-- the groups of the code behind the bytes still to pass of a group that has begun
groups_from : ℕ → List ℕ → List Said
groups_from skip [] = []
groups_from zero (op ∷ rest) = group_at (op ∷ rest) ∷ groups_from (length (group_at (op ∷ rest)).bytes - 1) rest
groups_from (suc skip) (op ∷ rest) = groups_from skip rest

pub groups_of : List ℕ → List Said
groups_of code = groups_from 0 code

passed : (skip : ℕ) (code : List ℕ) → groups_from skip code ≡ groups_from 0 (drop skip code)
unfolding groups_from
passed zero code = refl
passed (suc skip) [] = refl
passed (suc skip) (op ∷ rest) = passed skip rest

drop-cons : (n op : ℕ) (rest : List ℕ) → 0 < n → drop (n - 1) rest ≡ drop n (op ∷ rest)
drop-cons zero op rest h = absurd (search rules)
drop-cons (suc n) op rest h = let e : suc n - 1 ≡ n = omega arith in rw e refl

pub groups_none : groups_of [] ≡ []
unfolding groups_of groups_from
groups_none = refl

pub groups_more : (code : List ℕ) → 0 < length code
    → groups_of code ≡ group_at code ∷ groups_of (drop (length (group_at code).bytes) code)
unfolding groups_of groups_from
groups_more [] some = absurd (search rules)
groups_more (op ∷ rest) some =
    ap (λ (gs : List Said). group_at (op ∷ rest) ∷ gs)
    (passed (length (group_at (op ∷ rest)).bytes - 1) rest
    ∙ ap (groups_from 0) (drop-cons (length (group_at (op ∷ rest)).bytes) op rest (group_some (op ∷ rest) some)))

-- these are the groups of the code
parts_within : (most : ℕ) (code : List ℕ) → length code ≤ most → Parts code (groups_of code)
parts_within most [] h = subst (Parts []) (sym groups_none) refl
parts_within zero (op ∷ rest) h = absurd (search rules)
parts_within (suc most) (op ∷ rest) h =
    let some : 0 < length (op ∷ rest) = search rules in
    let size : 0 < length (group_at (op ∷ rest)).bytes = group_some (op ∷ rest) some in
    let left : length (drop (length (group_at (op ∷ rest)).bytes) (op ∷ rest)) ≤ most =
    omega (arith, length-drop (length (group_at (op ∷ rest)).bytes) (op ∷ rest))
    in
    subst (Parts (op ∷ rest)) (sym (groups_more (op ∷ rest) some))
    (some, refl, parts_within most (drop (length (group_at (op ∷ rest)).bytes) (op ∷ rest)) left)

pub parts : (code : List ℕ) → Parts code (groups_of code)
parts code = parts_within (length code) code (omega arith)

-- the groups joined are the code
pub parts_joined : (code : List ℕ) (groups : List Said) → Parts code groups → flat_map (λ (g : Said). g.bytes) groups ≡ code
parts_joined code [] none = sym none
parts_joined code (g ∷ gs) (some, same, rest) =
    ap (λ (bytes : List ℕ). g.bytes ++ bytes) (parts_joined (drop (length g.bytes) code) gs rest)
    ∙ subst (λ (h : Said). h.bytes ++ drop (length h.bytes) code ≡ code) (sym same) (group_rest code)

-- how long the first group is
pub record Sized (rest bytes : List ℕ) : Type 0 where
  pub least : 1 ≤ length bytes
  pub most : length bytes ≤ 3
  pub within : length bytes ≤ length rest
  pub size : length bytes ≡ length (group_at rest).bytes

pub sized : (rest bytes : List ℕ) (g : Said) → 0 < length rest → g ≡ group_at rest → bytes ≡ g.bytes → Sized rest bytes
sized rest bytes g some same part =
    let size : length bytes ≡ length (group_at rest).bytes = ap length part ∙ ap (λ (h : Said). length h.bytes) same in
    record {
      least = omega (arith, group_some rest some);
      most = omega (arith, group_most rest);
      within = omega (arith, group_within rest);
      size = size;
    }

-- the groups of some code are the one that is taken and those of what is left
took_groups : {code left : Code} {first : Placed} → Took code first left
    → groups_of code.bytes.now ≡ said first.group ∷ groups_of left.bytes.now
took_groups {code} {left} {first} took =
    let all = groups_more code.bytes.now took.some in cc

-- a line's bytes hold the line of the group that is taken
took_line : {code left : Code} {first : Placed} → Took code first left
    → take 24 (line_text first.address (said first.group)) ≡ line_text code.address (said first.group)
took_line {code} {left} {first} took =
    ap (λ (a : ℕ). take 24 (line_text a (said first.group))) took.address
    ∙ take_all 24 (line_text code.address (said first.group))
    (omega (arith, ap (λ (g : Said). length (line_text code.address g)) took.group, line_fits code.address code.bytes.now))

-- a group takes at least one byte
took_some : {code left : Code} {first : Placed} → Took code first left → length left.bytes.now + 1 ≤ length code.bytes.now
took_some {code} {left} {first} took =
    omega (
      arith,
      group_some code.bytes.now took.some,
      ap (λ (g : Said). length g.bytes) took.group,
      ap length took.rest,
      length-drop (length (said first.group).bytes) code.bytes.now,
    )

-- a listing on its way: with the lines and counts of the groups of the rest it is that of the code
pub record Going (front : List ℕ) (room : ℕ) (code rest : Code) (listing : Listing) : Type 0 where
  pub text : vec_items listing.text ++ lines_of rest.address (groups_of rest.bytes.now)
      ≡ front ++ lines_of code.address (groups_of code.bytes.now)
  pub kept : room ≤ vec_capacity listing.text
  pub instructions : listing.instructions + instructions_in (groups_of rest.bytes.now) ≡ instructions_in (groups_of code.bytes.now)
  pub byte_groups : listing.byte_groups + byte_groups_in (groups_of rest.bytes.now) ≡ byte_groups_in (groups_of code.bytes.now)
  pub few : listing.instructions + listing.byte_groups + length rest.bytes.now ≤ length code.bytes.now

-- a group is an instruction or BYTE
one_of : (r : Option Instruction) → counts_instruction r + counts_byte r ≡ 1
one_of (Some i) = refl
one_of None = refl

-- one group more
pub going_more : {front : List ℕ} {room : ℕ} {code rest left : Code} {before after : Listing} {first : Placed}
    → Going front room code rest before → Took rest first left → Added first.address (said first.group) before after
    → Going front room code left after
going_more {front} {room} {code} {rest} {left} {before} {after} {first} going took added =
    let line = line_text rest.address (said first.group) in
    let more = groups_of left.bytes.now in
    record {
      text = ap (λ (t : List ℕ). t ++ lines_of left.address more)
          (added.text ∙ ap (λ (t : List ℕ). vec_items before.text ++ t) (took_line took))
          ∙ append_assoc (vec_items before.text) line (lines_of left.address more)
          ∙ ap (λ (a : ℕ). vec_items before.text ++ (line ++ lines_of a more)) took.behind
          ∙ ap (λ (gs : List Said). vec_items before.text ++ lines_of rest.address gs) (sym (took_groups took)) ∙ going.text;
      kept = omega (arith, added.room, going.kept);
      instructions = omega (arith, added.instructions, ap instructions_in (took_groups took), going.instructions);
      byte_groups = omega (arith, added.byte_groups, ap byte_groups_in (took_groups took), going.byte_groups);
      few = omega (
        arith,
        added.instructions,
        added.byte_groups,
        one_of (said first.group).instruction,
        took_some took,
        going.few,
      );
    }

-- where nothing is left, the listing is that of the code
pub going_all : {front : List ℕ} {room : ℕ} {code rest : Code} {listing : Listing}
    → Going front room code rest listing → length rest.bytes.now ≡ 0 → Lists front code.address code.bytes.now listing
going_all {front} {room} {code} {rest} {listing} going none =
    let groups : groups_of rest.bytes.now ≡ [] = ap groups_of (nil_from_length rest.bytes.now none) ∙ groups_none in
    record {
      groups = groups_of code.bytes.now;
      parts = parts code.bytes.now;
      whole = parts_joined code.bytes.now (groups_of code.bytes.now) (parts code.bytes.now);
      text = sym (append-nil (vec_items listing.text))
          ∙ ap (λ (gs : List Said). vec_items listing.text ++ lines_of rest.address gs) (sym groups) ∙ going.text;
      instructions = omega (arith, ap instructions_in groups, going.instructions);
      byte_groups = omega (arith, ap byte_groups_in groups, going.byte_groups);
    }

-- where a line finds no room, there was none for it and all behind it
no_room : (items front line written more all : List ℕ) (room cap taken : ℕ) → room ≤ cap
    → cap < length items + length (take 24 written) → taken ≡ length front → written ≡ line
    → items ++ (line ++ more) ≡ front ++ all → room < taken + length all
no_room items front line written more all room cap taken kept full long same whole =
    omega (
      arith,
      length-take 24 written,
      ap length same,
      ap length whole,
      length-append items (line ++ more),
      length-append line more,
      length-append front all,
    )

-- where the next line finds no room, the text had none for all of them
pub going_full : {front : List ℕ} {room : ℕ} {code rest left : Code} {listing : Listing} {first : Placed} (taken : ℕ)
    → Going front room code rest listing → taken ≡ length front → Took rest first left
    → Full first.address (said first.group) listing → NoRoom room taken code.address code.bytes.now
going_full {front} {room} {code} {rest} {left} {listing} {first} taken going long took full = record {
  groups = groups_of code.bytes.now;
  parts = parts code.bytes.now;
  short = no_room (vec_items listing.text) front (line_text rest.address (said first.group))
      (line_text first.address (said first.group)) (lines_of (next rest.address (said first.group)) (groups_of left.bytes.now))
      (lines_of code.address (groups_of code.bytes.now)) room (vec_capacity listing.text) taken going.kept
      (subst (λ (n : ℕ). vec_capacity listing.text < n + length (take 24 (line_text first.address (said first.group))))
      listing.text.ok.0 full)
      long (ap (λ (a : ℕ). line_text a (said first.group)) took.address)
      (sym (ap (λ (gs : List Said). vec_items listing.text ++ lines_of rest.address gs) (took_groups took)) ∙ going.text);
}
