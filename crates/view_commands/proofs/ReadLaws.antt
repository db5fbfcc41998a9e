-- Rows that are read from views.
use Rattle.std.proofs.Common.{◌≡◌, ℕ, zero, suc, ◌+◌, true, List, [], ◌∷◌, ◌++◌, Option, Some, All, take, refl, sym, subst, ap, ap₂, ◌∙◌, inl, inr}
use Rattle.std.proofs.lemmas.Bool.{cases_Bool}
use Rattle.std.proofs.lemmas.List.Elements.{All-push, All-same, recursion_from_All}
use Rattle.std.proofs.lemmas.Option.{get_or_from_slice_get}
use Rattle.std.specs.List.{AllByRecursion}
use Rattle.std.specs.Prelude.{slice_get}
use Rattle.base_core.proofs.GamesLaws.{at-all}
use Rattle.base_core.proofs.Lists.{get_some, take_next}
use Rattle.cell_core.specs.Board.{Men}
use Rattle.cell_core.specs.declared.man.Colour.{Colour}
use Rattle.cell_core.specs.declared.step.Move.{Move}
use Rattle.tree_live.specs.Views.{Shows}
use Rattle.tree_rows.proofs.HitKeys.{keys-hold}
use Rattle.tree_rows.proofs.KeyLaws.{told-apart}
use Rattle.tree_rows.proofs.SameText.{same-text}
use Rattle.tree_rows.specs.Keys.{same_key}
use Rattle.tree_rows.specs.MoveText.{IsKey}
use Rattle.tree_rows.specs.Rows.{KeysDiffer, row_at, rows_of}
use Rattle.tree_rows.specs.TreeText.{tree_text}
use Rattle.tree_rows.specs.declared.hit.GameHit.{GameHit}
use Rattle.tree_rows.specs.declared.row.Row.{Row}

-- The key of a row is that of one that is found for it, and a key for which one is found holds what the keys of all hold.
is_found : (rows : List Row) (i : ℕ) (row : Row) → slice_get rows i ≡ Some row → (found : Row) × (row_at row.key rows ≡ Some found)
is_found [] i row at = absurd (cc)
is_found (y ∷ rows) zero row at =
    let same : y ≡ row = cc in
    let test : same_key y.key row.key ≡ true = subst (λ (r : Row). same_key y.key r.key ≡ true) same ((told-apart y.key y.key).1 refl) in
    (y, rw test refl)
is_found (y ∷ rows) (suc i) row at = elim (cases_Bool (same_key y.key row.key)) [
  | inl same ↦ (y, rw same refl)
  | inr other ↦ let rest = is_found rows i row at in (rest.0, rw other rest.1)
]

found_key : (P : Option Move → Type 0) (key : Option Move) (rows : List Row) (found : Row) → AllByRecursion (λ (row : Row). P row.key) rows → row_at key rows ≡ Some found → P key
found_key P key [] found all is = absurd (cc)
found_key P key (row ∷ rows) found all is = elim (cases_Bool (same_key row.key key)) [
  | inl same ↦ subst P ((told-apart row.key key).0 same) all.0
  | inr other ↦ let rest : row_at key rows ≡ Some found = rw other at is in found_key P key rows found all.1 rest
]

-- What holds of the moves of hits holds of the keys of rows that show them.
pub shown_keys : (P : Option Move → Type 0) (hits : List GameHit) (rows : List Row) → All (λ (hit : GameHit). P hit.next) hits → Shows hits rows → All (λ (row : Row). P row.key) rows
shown_keys P hits rows keys shows = λ k d below.
    let row = get_some rows k below in
    let found = is_found rows k row.0 row.1 in
    let key = found_key P row.0.key (rows_of hits) found.0 (recursion_from_All (λ (r : Row). P r.key) (rows_of hits) (keys-hold P hits keys)) (sym (shows row.0.key) ∙ found.1) in
    subst (λ (r : Row). P r.key) (sym (get_or_from_slice_get rows k row.0 d row.1)) key

-- The rows that are read so far: all of them hold it, and they are those so far where each row does.
pub record AreRead (P : Row → Type 0) (rows : List Row) (i : ℕ) (shown : List Row) : Type 0 where
  pub keys : All P shown
  pub all : All P rows → shown ≡ take i rows

pub row_read : (P : Row → Type 0) (rows : List Row) (i : ℕ) (row : Row) (shown shown' : List Row) → slice_get rows i ≡ Some row → P row → shown' ≡ shown ++ row ∷ []
    → All P shown → (All P rows → shown ≡ take i rows) → AreRead P rows (i + 1) shown'
row_read P rows i row shown shown' at key push keys so_far = record {
  keys = All-same P shown' (shown ++ row ∷ []) push (All-push P shown row keys key);
  all = λ all. push ∙ ap (λ (l : List Row). l ++ row ∷ []) (so_far all) ∙ sym (take_next rows i row at);
}

pub row_passed : (P : Row → Type 0) (rows : List Row) (i : ℕ) (row : Row) (shown : List Row) → slice_get rows i ≡ Some row → (P row → ⊥) → All P shown → (All P rows → shown ≡ take i rows)
    → AreRead P rows (i + 1) shown
row_passed P rows i row shown at not keys so_far = record { keys = keys; all = λ all. absurd (not (at-all P rows i row all at)) }

-- The text of rows that were read is that of the hits that they show.
pub read_text : (men : Men) (side : Colour) (rows shown : List Row) (men' : Men) (side' : Colour) (slice : List Row) (hits : List GameHit) → men' ≡ men → side' ≡ side → slice ≡ shown
    → (All (λ (row : Row). IsKey men' side' row.key) rows → shown ≡ rows) → KeysDiffer rows → All (λ (hit : GameHit). IsKey men side hit.next) hits → Shows hits rows
    → tree_text men' side' slice ≡ tree_text men side (rows_of hits)
read_text men side rows shown men' side' slice hits board mover lent read once keys shows =
    let keys' : All (λ (hit : GameHit). IsKey men' side' hit.next) hits = subst (λ (m : Men). All (λ (hit : GameHit). IsKey m side' hit.next) hits) (sym board)
    (subst (λ (s : Colour). All (λ (hit : GameHit). IsKey men s hit.next) hits) (sym mover) keys) in
    ap (tree_text men' side') (lent ∙ read (shown_keys (IsKey men' side') hits rows keys' shows))
    ∙ same-text men' side' rows hits once shows
    ∙ ap₂ (λ (m : Men) (s : Colour). tree_text m s (rows_of hits)) board mover
