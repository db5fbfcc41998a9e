-- The hits of the games that are in, and their rows, where one game becomes another.
use Rattle.std.proofs.Common.{◌≡◌, ℕ, suc, ◌+◌, ◌<◌, ◌≤◌, ◌==◌, ◌&&◌, Bool, true, false, List, [], ◌∷◌, ◌++◌, All, Option, Some, None, length, take, drop, set, option_to_list, length-append, append_assoc, append-nil, refl, sym, ap, ◌∙◌, arith}
use Rattle.std.proofs.lemmas.Bool.{false≢true, eqb-true, eq-eqb}
use Rattle.std.proofs.lemmas.List.{set_split, set-get_or, length-drop, length-take-le}
use Rattle.std.proofs.lemmas.List.Elements.{All-from_recursion, recursion_from_All, All-same}
use Rattle.std.specs.List.{AllByRecursion}
use Rattle.cell_core.specs.declared.step.Move.{Move}
use Rattle.game_tree.specs.declared.head.Outcome.{Outcome}
use Rattle.game_tree.specs.declared.head.Outcome.TheVariants.{Unknown, White, Black, Draw}
use Rattle.tree_rows.specs.declared.hit.GameHit.{GameHit}
use Rattle.tree_rows.specs.declared.row.Row.{Row}
use Rattle.tree_rows.specs.Keys.{same_key}
use Rattle.tree_rows.specs.Rows.{AreRows, HasHit, IsHit, row_at, rows_of}
use Rattle.tree_rows.proofs.KeyLaws.{one-key, told-apart}
use Rattle.tree_rows.proofs.OneRow.{other-rows}
use Rattle.tree_live.specs.declared.entry.Entry.{Entry}
use Rattle.tree_live.specs.Watching.{counted, hits_in, same_outcome, same_hit, same_counted, changes}
use Rattle.tree_live.specs.Keeping.{Sums, entry_at, no_game}

-- ---- what is counted of games

pub and-both : (a b : Bool) → a && b ≡ true → (a ≡ true) × (b ≡ true)
and-both true b h = (refl, h)
and-both false b h = absurd (false≢true h)

one-outcome : (a b : Outcome) → same_outcome a b ≡ true → a ≡ b
one-outcome White White h = refl
one-outcome Draw Draw h = refl
one-outcome Black Black h = refl
one-outcome Unknown Unknown h = refl
one-outcome White Draw h = absurd (false≢true h)
one-outcome White Black h = absurd (false≢true h)
one-outcome White Unknown h = absurd (false≢true h)
one-outcome Draw White h = absurd (false≢true h)
one-outcome Draw Black h = absurd (false≢true h)
one-outcome Draw Unknown h = absurd (false≢true h)
one-outcome Black White h = absurd (false≢true h)
one-outcome Black Draw h = absurd (false≢true h)
one-outcome Black Unknown h = absurd (false≢true h)
one-outcome Unknown White h = absurd (false≢true h)
one-outcome Unknown Draw h = absurd (false≢true h)
one-outcome Unknown Black h = absurd (false≢true h)

one-hit : (a b : GameHit) → same_hit a b ≡ true → a ≡ b
one-hit a b h =
    let years = and-both _ (a.year == b.year) h in
    let others = and-both _ (a.other == b.other) years.0 in
    let movers = and-both _ (a.mover == b.mover) others.0 in
    let results = and-both (same_key a.next b.next) (same_outcome a.result b.result) movers.0 in
    let next = one-key a.next b.next results.0 in
    let result = one-outcome a.result b.result results.1 in
    let mover = eqb-true a.mover b.mover movers.1 in
    let other = eqb-true a.other b.other others.1 in
    let year = eqb-true a.year b.year years.1 in
    λ i. record { next = next i; result = result i; mover = mover i; other = other i; year = year i }

pub one-counted : (a b : Option GameHit) → same_counted a b ≡ true → a ≡ b
one-counted None None h = refl
one-counted (Some a) (Some b) h = ap Some (one-hit a b h)
one-counted None (Some b) h = absurd (false≢true h)
one-counted (Some a) None h = absurd (false≢true h)

-- ---- the hits before a game and behind it

pub before : List Entry → ℕ → List GameHit
before games i = hits_in (take i games)

pub behind : List Entry → ℕ → List GameHit
behind games i = hits_in (drop (suc i) games)

hits-append : (xs ys : List Entry) → hits_in (xs ++ ys) ≡ hits_in xs ++ hits_in ys
hits-append [] ys = refl
hits-append (x ∷ xs) ys =
    ap (λ (l : List GameHit). option_to_list (counted x) ++ l) (hits-append xs ys) ∙ sym (append_assoc (option_to_list (counted x)) (hits_in xs) (hits_in ys))

pub hits-set : (games : List Entry) (i : ℕ) (game : Entry) → i < length games
    → hits_in (set games i game) ≡ before games i ++ (option_to_list (counted game) ++ behind games i)
unfolding before behind
hits-set games i game below = ap hits_in (set_split games i game below) ∙ hits-append (take i games) (game ∷ drop (suc i) games)

-- the hits of games where a game counts so
hits-with : (games : List Entry) (i : ℕ) (game : Entry) (c : Option GameHit) → i < length games → counted game ≡ c
    → hits_in (set games i game) ≡ before games i ++ (option_to_list c ++ behind games i)
hits-with games i game c below is =
    hits-set games i game below ∙ ap (λ (c : Option GameHit). before games i ++ (option_to_list c ++ behind games i)) is

hits-at : (games : List Entry) (i : ℕ) (c : Option GameHit) → i < length games → counted (entry_at games i) ≡ c
    → hits_in games ≡ before games i ++ (option_to_list c ++ behind games i)
hits-at games i c below is = ap hits_in (sym (set-get_or games i no_game)) ∙ hits-with games i (entry_at games i) c below is

-- a game of which the same is counted
pub hits-same : (games : List Entry) (i : ℕ) (game : Entry) → i < length games → counted game ≡ counted (entry_at games i)
    → hits_in (set games i game) ≡ hits_in games
hits-same games i game below same =
    hits-with games i game (counted (entry_at games i)) below same ∙ sym (hits-at games i (counted (entry_at games i)) below refl)

length-hits : (games : List Entry) → length (hits_in games) ≤ length games
length-hits [] = omega arith
length-hits (game ∷ games) =
    omega (arith, length-append (option_to_list (counted game)) (hits_in games), at-most-one (counted game), length-hits games)
  where
    at-most-one : (c : Option GameHit) → length (option_to_list c) ≤ 1
    at-most-one None = omega arith
    at-most-one (Some hit) = omega arith

-- ---- ranges

all-split : (P : GameHit → Type 0) (xs ys : List GameHit) → AllByRecursion P (xs ++ ys) → AllByRecursion P xs × AllByRecursion P ys
all-split P [] ys h = (tt, h)
all-split P (x ∷ xs) ys h = let rest = all-split P xs ys h.1 in ((h.0, rest.0), rest.1)

all-joined : (P : GameHit → Type 0) (xs ys : List GameHit) → AllByRecursion P xs → AllByRecursion P ys → AllByRecursion P (xs ++ ys)
all-joined P [] ys h k = k
all-joined P (x ∷ xs) ys h k = (h.0, all-joined P xs ys h.1 k)

ranges-without : (xs ys : List GameHit) (hit : GameHit) → All IsHit (xs ++ hit ∷ ys) → All IsHit (xs ++ ys)
ranges-without xs ys hit h =
    let parts = all-split IsHit xs (hit ∷ ys) (recursion_from_All IsHit (xs ++ hit ∷ ys) h) in
    All-from_recursion IsHit (xs ++ ys) (all-joined IsHit xs ys parts.0 parts.1.1)

ranges-with : (xs ys : List GameHit) (hit : GameHit) → All IsHit (xs ++ ys) → IsHit hit → All IsHit (xs ++ hit ∷ ys)
ranges-with xs ys hit h one =
    let parts = all-split IsHit xs ys (recursion_from_All IsHit (xs ++ ys) h) in
    All-from_recursion IsHit (xs ++ hit ∷ ys) (all-joined IsHit xs (hit ∷ ys) parts.0 (one, parts.1))

-- ---- a game that goes out

pub leaves-hit : (games : List Entry) (i : ℕ) (hit : GameHit) (rows : List Row) → i < length games → counted (entry_at games i) ≡ Some hit
    → Sums games rows → HasHit hit rows
leaves-hit games i hit rows below is sums = record {
  before = before games i;
  behind = behind games i;
  summed = sums.summed ∙ ap rows_of (hits-at games i (Some hit) below is);
}

pub leaves-sums : (games : List Entry) (i : ℕ) (hit : GameHit) (rows after : List Row) → i < length games → counted (entry_at games i) ≡ Some hit
    → Sums games rows → ((xs ys : List GameHit) → rows ≡ rows_of (xs ++ hit ∷ ys) → after ≡ rows_of (xs ++ ys)) → Sums (set games i no_game) after
leaves-sums games i hit rows after below is sums drops =
    let now : hits_in games ≡ before games i ++ hit ∷ behind games i = hits-at games i (Some hit) below is in
    let later : hits_in (set games i no_game) ≡ before games i ++ behind games i = hits-with games i no_game None below refl in
    record {
      summed = drops (before games i) (behind games i) (sums.summed ∙ ap rows_of now) ∙ ap rows_of (sym later);
      ranges = All-same IsHit _ _ later (ranges-without (before games i) (behind games i) hit (All-same IsHit _ _ (sym now) sums.ranges));
    }

-- ---- a game that comes in

out-counts : (games : List Entry) (i : ℕ) → entry_at games i ≡ no_game → counted (entry_at games i) ≡ None
out-counts games i out = ap counted out

pub enters-room : (games : List Entry) (i : ℕ) (rows : List Row) → i < length games → length games ≤ 16777214 → entry_at games i ≡ no_game
    → Sums games rows → AreRows 16777213 rows
unfolding before behind
enters-room games i rows below few out sums =
    let split : hits_in games ≡ hits_in (take i games) ++ hits_in (drop (suc i) games) = hits-at games i None below (out-counts games i out) in
    let size : length (hits_in games) ≡ length (hits_in (take i games)) + length (hits_in (drop (suc i) games))
    = ap (λ (hits : List GameHit). length hits) split ∙ length-append (hits_in (take i games)) (hits_in (drop (suc i) games)) in
    let front = length-hits (take i games) in
    let back = length-hits (drop (suc i) games) in
    let taken = length-take-le i games (omega (arith, below)) in
    let dropped = length-drop (suc i) games in
    record {
      hits = hits_in games;
      summed = sums.summed;
      few = omega (arith, size, front, back, taken, dropped, below, few);
      ranges = sums.ranges;
    }

pub enters-sums : (games : List Entry) (i : ℕ) (game : Entry) (hit : GameHit) (rows after : List Row) → i < length games → entry_at games i ≡ no_game
    → counted game ≡ Some hit → Sums games rows → IsHit hit
    → ((xs ys : List GameHit) → rows ≡ rows_of (xs ++ ys) → after ≡ rows_of (xs ++ hit ∷ ys)) → Sums (set games i game) after
enters-sums games i game hit rows after below out is sums range adds =
    let now : hits_in games ≡ before games i ++ behind games i = hits-at games i None below (out-counts games i out) in
    let later : hits_in (set games i game) ≡ before games i ++ hit ∷ behind games i = hits-with games i game (Some hit) below is in
    record {
      summed = adds (before games i) (behind games i) (sums.summed ∙ ap rows_of now) ∙ ap rows_of (sym later);
      ranges = All-same IsHit _ _ later (ranges-with (before games i) (behind games i) hit (All-same IsHit _ _ (sym now) sums.ranges) range);
    }

-- a game of which the same is counted
pub same-sums : (games : List Entry) (i : ℕ) (game : Entry) (rows : List Row) → i < length games → counted game ≡ counted (entry_at games i)
    → Sums games rows → Sums (set games i game) rows
same-sums games i game rows below same sums =
    let later = hits-same games i game below same in
    record { summed = sums.summed ∙ ap rows_of (sym later); ranges = All-same IsHit _ _ later sums.ranges }

-- one more game, of which nothing is counted
pub hits-push : (games : List Entry) → hits_in (games ++ no_game ∷ []) ≡ hits_in games
hits-push games = hits-append games (no_game ∷ []) ∙ append-nil (hits_in games)

pub pushed-sums : (games : List Entry) (rows : List Row) → Sums games rows → Sums (games ++ no_game ∷ []) rows
pushed-sums games rows sums =
    let same = hits-push games in
    record { summed = sums.summed ∙ ap rows_of (sym same); ranges = All-same IsHit _ _ same sums.ranges }
