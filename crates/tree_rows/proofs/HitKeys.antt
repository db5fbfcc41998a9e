-- What holds of the moves of hits holds of the keys of their rows.
use Rattle.std.proofs.Common.{◌≡◌, List, [], ◌∷◌, ◌++◌, All, Option, Ordering, refl, sym, ap, subst, ◌∙◌}
use Rattle.std.proofs.lemmas.List.Elements.{All-from_recursion, All-map, All-same, recursion_from_All}
use Rattle.std.specs.List.{AllByRecursion, fold}
use Rattle.std.specs.declared.cmp.Ordering.TheVariants.{Less, Equal, Greater}
use Rattle.cell_core.specs.declared.step.Move.{Move}
use Rattle.tree_rows.specs.declared.hit.GameHit.{GameHit}
use Rattle.tree_rows.specs.declared.row.Row.{Row}
use Rattle.tree_rows.specs.Keys.{key_cmp}
use Rattle.tree_rows.specs.Keeping.{added, no_hits}
use Rattle.tree_rows.specs.Rows.{row_of, with_key, keys_of, rows_of}
use Rattle.tree_rows.proofs.Adding.{added-rows, all-with}
use Rattle.tree_rows.proofs.RowLaws.{grown-key}

keys-with : (P : Option Move → Type 0) (hits : List GameHit) (keys : List (Option Move)) → AllByRecursion P keys → AllByRecursion (λ (hit : GameHit). P hit.next) hits
    → AllByRecursion P (fold (λ ks hit. with_key ks hit.next) keys hits)
keys-with P [] keys h all = h
keys-with P (hit ∷ hits) keys h all = keys-with P hits (with_key keys hit.next) (all-with P keys hit.next h all.0) all.1

pub keys-hold : (P : Option Move → Type 0) (hits : List GameHit) → All (λ (hit : GameHit). P hit.next) hits → All (λ (row : Row). P row.key) (rows_of hits)
unfolding rows_of keys_of row_of
keys-hold P hits all =
    let keys : All P (keys_of hits) = All-from_recursion P (keys_of hits) (keys-with P hits [] tt (recursion_from_All (λ (hit : GameHit). P hit.next) hits all)) in
    All-map (λ (row : Row). P row.key) (λ (key : Option Move). row_of key hits) (keys_of hits) keys

-- One hit more.
keys-added : (P : Option Move → Type 0) (hit : GameHit) (rows : List Row) → AllByRecursion (λ (row : Row). P row.key) rows → P hit.next
    → AllByRecursion (λ (row : Row). P row.key) (added hit rows)
keys-added P hit [] h p = (subst P (sym (grown-key hit (no_hits hit.next))) p, tt)
keys-added P hit (row ∷ rows) h p = by (key_cmp row.key hit.next) refl (keys-added P hit rows h.1 p)
  where
    by : (o : Ordering) → key_cmp row.key hit.next ≡ o → AllByRecursion (λ (r : Row). P r.key) (added hit rows)
        → AllByRecursion (λ (r : Row). P r.key) (added hit (row ∷ rows))
    by Less e rest = rw e (h.0, rest)
    by Equal e rest = rw e (subst P (sym (grown-key hit row)) h.0, h.1)
    by Greater e rest = rw e (subst P (sym (grown-key hit (no_hits hit.next))) p, h)

pub keys-more : (P : Option Move → Type 0) (hits : List GameHit) (hit : GameHit) (rows after : List Row) → rows ≡ rows_of hits → after ≡ rows_of (hits ++ hit ∷ [])
    → All (λ (row : Row). P row.key) rows → P hit.next → All (λ (row : Row). P row.key) after
keys-more P hits hit rows after before now all p =
    let K : Row → Type 0 = λ row. P row.key in
    All-same K after (added hit rows) (now ∙ sym (added-rows hits hit) ∙ ap (added hit) (sym before))
    (All-from_recursion K (added hit rows) (keys-added P hit rows (recursion_from_All K rows all) p))
