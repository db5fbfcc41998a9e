-- What one hit leaves as it was, and that no two rows have one key.
use Rattle.std.proofs.Common.{◌≡◌, Bool, true, false, cond, map, List, [], ◌∷◌, ◌++◌, Option, Some, None, Ordering, refl, sym, ap, ◌∙◌}
use Rattle.std.specs.List.{AllByRecursion}
use Rattle.std.specs.declared.cmp.Ordering.TheVariants.{Less, Equal, Greater}
use Rattle.std.specs.Ordering.{is_eq}
use Rattle.cell_core.specs.declared.step.Move.{Move}
use Rattle.tree_rows.specs.declared.hit.GameHit.{GameHit}
use Rattle.tree_rows.specs.declared.row.Row.{Row}
use Rattle.tree_rows.specs.Keys.{key_cmp, same_key}
use Rattle.tree_rows.specs.Rows.{row_at, row_of, keys_of, rows_of, KeysDiffer}
use Rattle.tree_rows.specs.Keeping.{no_hits, grown, added}
use Rattle.tree_rows.proofs.KeyLaws.{one-key, is-greater}
use Rattle.tree_rows.proofs.RowLaws.{grown-key, row-key}
use Rattle.tree_rows.proofs.Adding.{Rises, rises-more}
use Rattle.tree_rows.proofs.Dropping.{any-order, less, tied, greater}

-- a row of another key is passed over
passed : (row : Row) (rows : List Row) (key : Option Move) → same_key row.key key ≡ false → row_at key (row ∷ rows) ≡ row_at key rows
passed row rows key other = rw other refl

grown-passed : (hit : GameHit) (row : Row) (rows : List Row) (key : Option Move) → same_key row.key key ≡ false
    → row_at key (grown hit row ∷ rows) ≡ row_at key rows
grown-passed hit row rows key other = passed (grown hit row) rows key (ap (λ (k : Option Move). same_key k key) (grown-key hit row) ∙ other)

-- a hit more leaves the row of another key
added-other : (hit : GameHit) (rows : List Row) (key : Option Move) → same_key hit.next key ≡ false → row_at key (added hit rows) ≡ row_at key rows
added-other hit [] key other = grown-passed hit (no_hits hit.next) [] key other
added-other hit (row ∷ rows) key other = by (key_cmp row.key hit.next) refl (added-other hit rows key other)
  where
    by : (o : Ordering) → key_cmp row.key hit.next ≡ o → row_at key (added hit rows) ≡ row_at key rows
        → row_at key (added hit (row ∷ rows)) ≡ row_at key (row ∷ rows)
    by Less e rest = ap (row_at key) (less hit row rows e) ∙ kept (same_key row.key key) rest
      where
        kept : (b : Bool) → row_at key (added hit rows) ≡ row_at key rows → cond b (Some row) (row_at key (added hit rows)) ≡ cond b (Some row) (row_at key rows)
        kept true same = refl
        kept false same = same
    by Equal e rest =
        let here : same_key row.key key ≡ false = ap (λ (k : Option Move). same_key k key) (one-key row.key hit.next (ap is_eq e)) ∙ other in
        ap (row_at key) (tied hit row rows e) ∙ grown-passed hit row rows key here ∙ sym (passed row rows key here)
    by Greater e rest = ap (row_at key) (greater hit row rows e) ∙ grown-passed hit (no_hits hit.next) (row ∷ rows) key other

pub other-rows : (before behind : List GameHit) (hit : GameHit) (key : Option Move) → same_key hit.next key ≡ false
    → row_at key (rows_of (before ++ hit ∷ behind)) ≡ row_at key (rows_of (before ++ behind))
other-rows before behind hit key other =
    ap (row_at key) (any-order before behind hit) ∙ added-other hit (rows_of (before ++ behind)) key other

-- keys that rise differ
behind-none : (hits : List GameHit) (k : Option Move) (keys : List (Option Move)) → AllByRecursion (λ q. key_cmp k q ≡ Less) keys
    → row_at k (map (λ key. row_of key hits) keys) ≡ None
behind-none hits k [] h = refl
behind-none hits k (q ∷ keys) h =
    passed (row_of q hits) (map (λ key. row_of key hits) keys) k
    (ap (λ (key : Option Move). same_key key k) (row-key q hits) ∙ ap is_eq (is-greater k q h.0)) ∙ behind-none hits k keys h.1

rising-differ : (hits : List GameHit) (keys : List (Option Move)) → Rises keys → KeysDiffer (map (λ key. row_of key hits) keys)
rising-differ hits [] h = tt
rising-differ hits (k ∷ keys) h =
    (ap (λ (key : Option Move). row_at key (map (λ key. row_of key hits) keys)) (row-key k hits) ∙ behind-none hits k keys h.0, rising-differ hits keys h.1)

pub keys-differ : (hits : List GameHit) → KeysDiffer (rows_of hits)
unfolding rows_of keys_of
keys-differ hits = rising-differ hits (keys_of hits) (rises-more hits [] tt)
