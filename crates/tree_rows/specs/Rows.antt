-- The rows of a tree: plain sums over the games that meet a position (this project's own, after Scid's tree window).
use Rattle.std.specs.Prelude.{◌≡◌, ℕ, ◌<◌, ◌≤◌, ◌==◌, if◌then◌else◌, List, [], ◌∷◌, ◌++◌, map, length, All, Option, None}
use Rattle.std.specs.List.{find, fold, sum_by}
use Rattle.std.specs.Ordering.{match_ordering}
use Rattle.cell_core.specs.declared.step.Move.{Move}
use Rattle.game_tree.specs.declared.head.Outcome.{Outcome}
use Rattle.game_tree.specs.declared.head.Outcome.TheVariants.{Unknown, White, Black, Draw}
use Rattle.game_tree.specs.Outcome.{outcome_number}
use Rattle.tree_rows.specs.declared.hit.GameHit.{GameHit}
use Rattle.tree_rows.specs.declared.row.Row.{Row}
use Rattle.tree_rows.specs.Keys.{key_cmp, same_key}

-- The sum of a number over the hits with this key.
abbrev pub sum_at : Option Move → (GameHit → ℕ) → List GameHit → ℕ
sum_at key number hits = sum_by (λ hit. if same_key key hit.next then number hit else 0) hits

-- 1 if a game ended so, and 0 elsewhere.
abbrev pub ended : Outcome → Outcome → ℕ
ended outcome result = if outcome_number outcome == outcome_number result then 1 else 0

-- 1 for a rating or a year that is known, and 0 for 0.
abbrev pub known : ℕ → ℕ
known number = if number == 0 then 0 else 1

-- The row of a key: how many hits have it, with each result, and the sums and the numbers of their ratings and years.
unfoldable pub row_of : Option Move → List GameHit → Row
row_of key hits =
    record {
      key = key;
      games = sum_at key (λ hit. 1) hits;
      white = sum_at key (λ hit. ended White hit.result) hits;
      draws = sum_at key (λ hit. ended Draw hit.result) hits;
      black = sum_at key (λ hit. ended Black hit.result) hits;
      unfinished = sum_at key (λ hit. ended Unknown hit.result) hits;
      mover_sum = sum_at key (λ hit. hit.mover) hits;
      mover_rated = sum_at key (λ hit. known hit.mover) hits;
      other_sum = sum_at key (λ hit. hit.other) hits;
      other_rated = sum_at key (λ hit. known hit.other) hits;
      year_sum = sum_at key (λ hit. hit.year) hits;
      dated = sum_at key (λ hit. known hit.year) hits;
    }

-- Keys in order with one more at its place, unless it stands there.
abbrev pub with_key : List (Option Move) → Option Move → List (Option Move)
with_key [] key = key ∷ []
with_key (first ∷ keys) key = match_ordering (key_cmp first key) (first ∷ with_key keys key) (first ∷ keys) (key ∷ first ∷ keys)

-- The keys of the hits, each once and in order.
unfoldable pub keys_of : List GameHit → List (Option Move)
keys_of hits = fold (λ keys hit. with_key keys hit.next) [] hits

-- The rows of the hits: one for each key among them.
unfoldable pub rows_of : List GameHit → List Row
rows_of hits = map (λ key. row_of key hits) (keys_of hits)

-- The row of a key, if there is one.
abbrev pub row_at : Option Move → List Row → Option Row
row_at key rows = find (λ row. same_key row.key key) rows

-- Rows of which no two have one key.
abbrev pub KeysDiffer : List Row → Type 0
KeysDiffer [] = Unit {0}
KeysDiffer (row ∷ rows) = (row_at row.key rows ≡ None) × KeysDiffer rows

-- The numbers of a hit have 16 bits.
abbrev pub IsHit : GameHit → Type 0
IsHit hit = (hit.mover < 65536) × ((hit.other < 65536) × (hit.year < 65536))

-- These are the rows of at most n hits.
pub record AreRows (n : ℕ) (rows : List Row) : Type 0 where
  pub hits : List GameHit
  pub summed : rows ≡ rows_of hits
  pub few : length hits ≤ n
  pub ranges : All IsHit hits

-- These are the rows of hits among which this one stands.
pub record HasHit (hit : GameHit) (rows : List Row) : Type 0 where
  pub before : List GameHit
  pub behind : List GameHit
  pub summed : rows ≡ rows_of (before ++ hit ∷ behind)
