-- The row of a key after one hit more.
use Rattle.std.proofs.Common.{◌≡◌, ℕ, ◌+◌, ◌-◌, ◌*◌, ◌<◌, ◌≤◌, ◌==◌, Bool, true, false, cond, List, [], ◌∷◌, ◌++◌, All, Option, map, length, take, get_or, length-take-le, refl, ap, ◌∙◌, arith}
use Rattle.std.proofs.lemmas.List.Sums.{sum_by_push, sum_by-cons, sum_by-le}
use Rattle.std.proofs.lemmas.List.Elements.{All-map, All-same}
use Rattle.std.specs.List.{AllByRecursion}
use Rattle.cell_core.specs.declared.step.Move.{Move}
use Rattle.game_tree.specs.declared.head.Outcome.{Outcome}
use Rattle.game_tree.specs.declared.head.Outcome.TheVariants.{Unknown, White, Black, Draw}
use Rattle.tree_rows.specs.declared.hit.GameHit.{GameHit}
use Rattle.tree_rows.specs.declared.row.Row.{Row}
use Rattle.tree_rows.specs.Keys.{same_key}
use Rattle.tree_rows.specs.Rows.{sum_at, ended, known, row_of, keys_of, rows_of, IsHit}
use Rattle.tree_rows.specs.Keeping.{no_hits, grown, shrunk, IsCounted, HasRoom}

with_same : (key : Option Move) (number : GameHit → ℕ) (hits : List GameHit) (hit : GameHit) → same_key key hit.next ≡ true
    → sum_at key number (hits ++ hit ∷ []) ≡ sum_at key number hits + number hit
with_same key number hits hit e =
    sum_by_push (λ h. cond (same_key key h.next) (number h) 0) hits hit ∙ ap (λ (b : Bool). sum_at key number hits + cond b (number hit) 0) e

with_other : (key : Option Move) (number : GameHit → ℕ) (hits : List GameHit) (hit : GameHit) → same_key key hit.next ≡ false
    → sum_at key number (hits ++ hit ∷ []) ≡ sum_at key number hits
with_other key number hits hit e =
    let pushed : sum_at key number (hits ++ hit ∷ []) ≡ sum_at key number hits + cond (same_key key hit.next) (number hit) 0
    = sum_by_push (λ h. cond (same_key key h.next) (number h) 0) hits hit in
    let zero_more : cond (same_key key hit.next) (number hit) 0 ≡ 0 = rw e refl in
    omega (arith, pushed, zero_more)

-- no hit has the key
abbrev pub Misses : Option Move → List GameHit → Type 0
Misses key hits = AllByRecursion (λ hit. same_key key hit.next ≡ false) hits

with_none : (key : Option Move) (number : GameHit → ℕ) (hits : List GameHit) → Misses key hits → sum_at key number hits ≡ 0
with_none key number [] h = refl
with_none key number (hit ∷ hits) h =
    let one : sum_at key number (hit ∷ hits) ≡ cond (same_key key hit.next) (number hit) 0 + sum_at key number hits
    = sum_by-cons (λ g. cond (same_key key g.next) (number g) 0) hit hits in
    let zero : cond (same_key key hit.next) (number hit) 0 ≡ 0 = rw h.0 refl in
    let rest : sum_at key number hits ≡ 0 = with_none key number hits h.1 in
    omega (arith, one, zero, rest)

pub row-key : (key : Option Move) (hits : List GameHit) → (row_of key hits).key ≡ key
unfolding row_of
row-key key hits = refl

pub grown-key : (hit : GameHit) (row : Row) → (grown hit row).key ≡ row.key
unfolding grown
grown-key hit row = refl

pub row-same : (key : Option Move) (hits : List GameHit) (hit : GameHit) → same_key key hit.next ≡ true
    → row_of key (hits ++ hit ∷ []) ≡ grown hit (row_of key hits)
unfolding row_of grown
row-same key hits hit e = λ i. record {
  key = key;
  games = with_same key (λ h. 1) hits hit e i;
  white = with_same key (λ h. ended White h.result) hits hit e i;
  draws = with_same key (λ h. ended Draw h.result) hits hit e i;
  black = with_same key (λ h. ended Black h.result) hits hit e i;
  unfinished = with_same key (λ h. ended Unknown h.result) hits hit e i;
  mover_sum = with_same key (λ h. h.mover) hits hit e i;
  mover_rated = with_same key (λ h. known h.mover) hits hit e i;
  other_sum = with_same key (λ h. h.other) hits hit e i;
  other_rated = with_same key (λ h. known h.other) hits hit e i;
  year_sum = with_same key (λ h. h.year) hits hit e i;
  dated = with_same key (λ h. known h.year) hits hit e i;
}

pub row-other : (key : Option Move) (hits : List GameHit) (hit : GameHit) → same_key key hit.next ≡ false
    → row_of key (hits ++ hit ∷ []) ≡ row_of key hits
unfolding row_of
row-other key hits hit e = λ i. record {
  key = key;
  games = with_other key (λ h. 1) hits hit e i;
  white = with_other key (λ h. ended White h.result) hits hit e i;
  draws = with_other key (λ h. ended Draw h.result) hits hit e i;
  black = with_other key (λ h. ended Black h.result) hits hit e i;
  unfinished = with_other key (λ h. ended Unknown h.result) hits hit e i;
  mover_sum = with_other key (λ h. h.mover) hits hit e i;
  mover_rated = with_other key (λ h. known h.mover) hits hit e i;
  other_sum = with_other key (λ h. h.other) hits hit e i;
  other_rated = with_other key (λ h. known h.other) hits hit e i;
  year_sum = with_other key (λ h. h.year) hits hit e i;
  dated = with_other key (λ h. known h.year) hits hit e i;
}

pub row-none : (key : Option Move) (hits : List GameHit) → Misses key hits → row_of key hits ≡ no_hits key
unfolding row_of
row-none key hits h = λ i. record {
  key = key;
  games = with_none key (λ g. 1) hits h i;
  white = with_none key (λ g. ended White g.result) hits h i;
  draws = with_none key (λ g. ended Draw g.result) hits h i;
  black = with_none key (λ g. ended Black g.result) hits h i;
  unfinished = with_none key (λ g. ended Unknown g.result) hits h i;
  mover_sum = with_none key (λ g. g.mover) hits h i;
  mover_rated = with_none key (λ g. known g.mover) hits h i;
  other_sum = with_none key (λ g. g.other) hits h i;
  other_rated = with_none key (λ g. known g.other) hits h i;
  year_sum = with_none key (λ g. g.year) hits h i;
  dated = with_none key (λ g. known g.year) hits h i;
}

turn : (a b c : ℕ) → a + b + c ≡ a + c + b
turn a b c = omega arith

-- two hits may come in either order
pub grown-swap : (a b : GameHit) (row : Row) → grown a (grown b row) ≡ grown b (grown a row)
unfolding grown
grown-swap a b row = λ i. record {
  key = row.key;
  games = row.games + 1 + 1;
  white = turn row.white (ended White b.result) (ended White a.result) i;
  draws = turn row.draws (ended Draw b.result) (ended Draw a.result) i;
  black = turn row.black (ended Black b.result) (ended Black a.result) i;
  unfinished = turn row.unfinished (ended Unknown b.result) (ended Unknown a.result) i;
  mover_sum = turn row.mover_sum (b.mover) (a.mover) i;
  mover_rated = turn row.mover_rated (known b.mover) (known a.mover) i;
  other_sum = turn row.other_sum (b.other) (a.other) i;
  other_rated = turn row.other_rated (known b.other) (known a.other) i;
  year_sum = turn row.year_sum (b.year) (a.year) i;
  dated = turn row.dated (known b.year) (known a.year) i;
}

back : (a b : ℕ) → a + b - b ≡ a
back a b = omega arith

-- a hit that comes and goes
pub shrunk-grown : (hit : GameHit) (row : Row) → shrunk hit (grown hit row) ≡ row
unfolding grown shrunk
shrunk-grown hit row = λ i. record {
  key = row.key;
  games = back row.games 1 i;
  white = back row.white (ended White hit.result) i;
  draws = back row.draws (ended Draw hit.result) i;
  black = back row.black (ended Black hit.result) i;
  unfinished = back row.unfinished (ended Unknown hit.result) i;
  mover_sum = back row.mover_sum (hit.mover) i;
  mover_rated = back row.mover_rated (known hit.mover) i;
  other_sum = back row.other_sum (hit.other) i;
  other_rated = back row.other_rated (known hit.other) i;
  year_sum = back row.year_sum (hit.year) i;
  dated = back row.dated (known hit.year) i;
}

pub counted-grown : (hit : GameHit) (row : Row) → IsCounted hit (grown hit row)
unfolding grown
counted-grown hit row = record {
  games = omega arith;
  white = omega arith;
  draws = omega arith;
  black = omega arith;
  unfinished = omega arith;
  mover_sum = omega arith;
  mover_rated = omega arith;
  other_sum = omega arith;
  other_rated = omega arith;
  year_sum = omega arith;
  dated = omega arith;
}

pub grown-games : (hit : GameHit) (row : Row) → (grown hit row).games ≡ row.games + 1
unfolding grown
grown-games hit row = refl

-- ---- room for one hit more

if-le : (b : Bool) (x m : ℕ) → x ≤ m → cond b x 0 ≤ m
if-le true x m h = h
if-le false x m h = omega arith

at-most : (key : Option Move) (number : GameHit → ℕ) (m : ℕ) (hits : List GameHit) → All (λ hit. number hit ≤ m) hits → sum_at key number hits ≤ length hits * m
at-most key number m hits h =
    sum_by-le (λ hit. cond (same_key key hit.next) (number hit) 0) m hits (λ k d below. if-le (same_key key (get_or hits k d).next) (number (get_or hits k d)) m (h k d below))

ended-le : (a b : Outcome) → ended a b ≤ 1
ended-le White White = omega arith
ended-le White Draw = omega arith
ended-le White Black = omega arith
ended-le White Unknown = omega arith
ended-le Draw White = omega arith
ended-le Draw Draw = omega arith
ended-le Draw Black = omega arith
ended-le Draw Unknown = omega arith
ended-le Black White = omega arith
ended-le Black Draw = omega arith
ended-le Black Black = omega arith
ended-le Black Unknown = omega arith
ended-le Unknown White = omega arith
ended-le Unknown Draw = omega arith
ended-le Unknown Black = omega arith
ended-le Unknown Unknown = omega arith

known-le : (n : ℕ) → known n ≤ 1
known-le n = if-one (n == 0)
  where
    if-one : (b : Bool) → cond b 0 1 ≤ 1
    if-one true = omega arith
    if-one false = omega arith

room-row : (key : Option Move) (hits : List GameHit) → length hits ≤ 16777213 → All IsHit hits → HasRoom (row_of key hits)
unfolding row_of
room-row key hits few ranges = record {
  games = omega (arith, at-most key (λ h. 1) 1 hits (λ k d below. omega arith));
  white = omega (arith, at-most key (λ h. ended White h.result) 1 hits (λ k d below. ended-le White (get_or hits k d).result));
  draws = omega (arith, at-most key (λ h. ended Draw h.result) 1 hits (λ k d below. ended-le Draw (get_or hits k d).result));
  black = omega (arith, at-most key (λ h. ended Black h.result) 1 hits (λ k d below. ended-le Black (get_or hits k d).result));
  unfinished = omega (arith, at-most key (λ h. ended Unknown h.result) 1 hits (λ k d below. ended-le Unknown (get_or hits k d).result));
  mover_sum = omega (arith, at-most key (λ h. h.mover) 65536 hits (λ k d below. omega (arith, (ranges k d below).0)));
  mover_rated = omega (arith, at-most key (λ h. known h.mover) 1 hits (λ k d below. known-le (get_or hits k d).mover));
  other_sum = omega (arith, at-most key (λ h. h.other) 65536 hits (λ k d below. omega (arith, (ranges k d below).1.0)));
  other_rated = omega (arith, at-most key (λ h. known h.other) 1 hits (λ k d below. known-le (get_or hits k d).other));
  year_sum = omega (arith, at-most key (λ h. h.year) 65536 hits (λ k d below. omega (arith, (ranges k d below).1.1)));
  dated = omega (arith, at-most key (λ h. known h.year) 1 hits (λ k d below. known-le (get_or hits k d).year));
}

pub room-of : (rows : List Row) (hits : List GameHit) → rows ≡ rows_of hits → length hits ≤ 16777213 → All IsHit hits → All HasRoom rows
unfolding rows_of
room-of rows hits is few ranges =
    All-same HasRoom rows (map (λ key. row_of key hits) (keys_of hits)) is
    (All-map HasRoom (λ key. row_of key hits) (keys_of hits) (λ k d below. room-row (get_or (keys_of hits) k d) hits few ranges))

pub room-at : (rows : List Row) (hits : List GameHit) (i : ℕ) → i < length hits → length hits ≤ 16777214 → rows ≡ rows_of (take i hits) → All IsHit (take i hits)
    → All HasRoom rows
room-at rows hits i below few is ranges =
    let len : length (take i hits) ≡ i = length-take-le i hits (omega arith) in
    room-of rows (take i hits) is (omega (arith, len)) ranges
