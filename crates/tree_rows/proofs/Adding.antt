-- The rows of hits after one hit more.
use Rattle.std.proofs.Common.{◌≡◌, ℕ, ◌+◌, ◌<◌, false, List, [], ◌∷◌, ◌++◌, Option, Ordering, map, length, take, get_or, refl, sym, ap, ◌∙◌, append_assoc, append-nil}
use Rattle.std.proofs.lemmas.Cmp.{tied_itself, eq_by_cmp_equiv}
use Rattle.std.proofs.lemmas.List.{take_more}
use Rattle.std.proofs.lemmas.List.Sums.{fold_push}
use Rattle.std.specs.List.{AllByRecursion, fold}
use Rattle.std.specs.declared.cmp.Ordering.TheVariants.{Less, Equal, Greater}
use Rattle.std.specs.Ordering.{is_eq, match_ordering}
use Rattle.cell_core.specs.declared.step.Move.{Move}
use Rattle.tree_rows.specs.declared.hit.GameHit.{GameHit}
use Rattle.tree_rows.specs.declared.row.Row.{Row}
use Rattle.tree_rows.specs.Keys.{key_cmp, same_key}
use Rattle.tree_rows.specs.Rows.{row_of, with_key, keys_of, rows_of}
use Rattle.tree_rows.specs.Keeping.{no_hits, grown, added}
use Rattle.tree_rows.proofs.KeyLaws.{key_total, is-less, is-greater}
use Rattle.tree_rows.proofs.RowLaws.{Misses, row-key, row-same, row-other, row-none}

-- keys that rise, and keys without this one
abbrev pub Rises : List (Option Move) → Type 0
Rises [] = Unit {0}
Rises (k ∷ keys) = AllByRecursion (λ q. key_cmp k q ≡ Less) keys × Rises keys

abbrev Lacks : Option Move → List (Option Move) → Type 0
Lacks key keys = AllByRecursion (λ k. same_key k key ≡ false) keys

pub all-mapped : (P Q : Option Move → Type 0) (keys : List (Option Move)) → ((k : Option Move) → P k → Q k) → AllByRecursion P keys → AllByRecursion Q keys
all-mapped P Q [] f h = tt
all-mapped P Q (k ∷ keys) f h = (f k h.0, all-mapped P Q keys f h.1)

pub all-with : (P : Option Move → Type 0) (keys : List (Option Move)) (key : Option Move) → AllByRecursion P keys → P key → AllByRecursion P (with_key keys key)
all-with P [] key h p = (p, tt)
all-with P (k ∷ keys) key h p = by (key_cmp k key) refl (all-with P keys key h.1 p)
  where
    by : (o : Ordering) → key_cmp k key ≡ o → AllByRecursion P (with_key keys key) → AllByRecursion P (with_key (k ∷ keys) key)
    by Less e rest = rw e (h.0, rest)
    by Equal e rest = rw e h
    by Greater e rest = rw e (p, h)

rises-with : (keys : List (Option Move)) (key : Option Move) → Rises keys → Rises (with_key keys key)
rises-with [] key h = (tt, tt)
rises-with (k ∷ keys) key h = by (key_cmp k key) refl (rises-with keys key h.1)
  where
    by : (o : Ordering) → key_cmp k key ≡ o → Rises (with_key keys key) → Rises (with_key (k ∷ keys) key)
    by Less e rest = rw e (all-with (λ q. key_cmp k q ≡ Less) keys key h.0 e, rest)
    by Equal e rest = rw e h
    by Greater e rest =
        let less : key_cmp key k ≡ Less = is-less k key e in
        rw e ((less, all-mapped (λ q. key_cmp k q ≡ Less) (λ q. key_cmp key q ≡ Less) keys (λ q f. key_total.trans key k q less f) h.0), h)

pub rises-more : (hits : List GameHit) (keys : List (Option Move)) → Rises keys → Rises (fold (λ ks hit. with_key ks hit.next) keys hits)
rises-more [] keys h = h
rises-more (hit ∷ hits) keys h = rises-more hits (with_key keys hit.next) (rises-with keys hit.next h)

-- a key that stands before a list that rises, or at its first place, is not behind it
lacks-behind : (k key : Option Move) (keys : List (Option Move)) → key_cmp key k ≡ Less → AllByRecursion (λ q. key_cmp k q ≡ Less) keys → Lacks key keys
lacks-behind k key keys e h =
    all-mapped (λ q. key_cmp k q ≡ Less) (λ q. same_key q key ≡ false) keys
    (λ q f. ap is_eq (is-greater key q (key_total.trans key k q e f))) h

lacks-tied : (k key : Option Move) (keys : List (Option Move)) → key_cmp k key ≡ Equal → AllByRecursion (λ q. key_cmp k q ≡ Less) keys → Lacks key keys
lacks-tied k key keys e h =
    all-mapped (λ q. key_cmp k q ≡ Less) (λ q. same_key q key ≡ false) keys
    (λ q f. ap is_eq (is-greater key q (sym (key_total.congr k key q e) ∙ f))) h

symmetric : (a b : Option Move) → same_key a b ≡ false → same_key b a ≡ false
symmetric a b h = (eq_by_cmp_equiv key_total).symm b a ∙ h

lacks-with : (keys : List (Option Move)) (k key : Option Move) → Lacks key (with_key keys k) → Lacks key keys × (same_key k key ≡ false)
lacks-with [] k key h = (tt, h.0)
lacks-with (q ∷ keys) k key h = by (key_cmp q k) refl (lacks-with keys k key) h
  where
    by : (o : Ordering) → key_cmp q k ≡ o → (Lacks key (with_key keys k) → Lacks key keys × (same_key k key ≡ false))
        → Lacks key (with_key (q ∷ keys) k) → Lacks key (q ∷ keys) × (same_key k key ≡ false)
    by Less e more f =
        let g : Lacks key (q ∷ with_key keys k) = rw e at f in
        let rest = more g.1 in
        ((g.0, rest.0), rest.1)
    by Equal e more f =
        let g : Lacks key (q ∷ keys) = rw e at f in
        (g, ap is_eq (sym (key_total.congr q k key e)) ∙ g.0)
    by Greater e more f =
        let g : Lacks key (k ∷ q ∷ keys) = rw e at f in
        (g.1, g.0)

lacks-more : (hits : List GameHit) (keys : List (Option Move)) (key : Option Move) → Lacks key (fold (λ ks hit. with_key ks hit.next) keys hits)
    → Lacks key keys × Misses key hits
lacks-more [] keys key h = (h, tt)
lacks-more (hit ∷ hits) keys key h =
    let rest = lacks-more hits (with_key keys hit.next) key h in
    let here = lacks-with keys hit.next key rest.0 in
    (here.0, (symmetric hit.next key here.1, rest.1))

-- the rows of keys that the hit does not have
rows-other : (hits : List GameHit) (hit : GameHit) (keys : List (Option Move)) → Lacks hit.next keys
    → map (λ key. row_of key hits) keys ≡ map (λ key. row_of key (hits ++ hit ∷ [])) keys
rows-other hits hit [] h = refl
rows-other hits hit (k ∷ keys) h =
    let here : row_of k hits ≡ row_of k (hits ++ hit ∷ []) = sym (row-other k hits hit h.0) in
    let rest : map (λ key. row_of key hits) keys ≡ map (λ key. row_of key (hits ++ hit ∷ [])) keys = rows-other hits hit keys h.1 in
    λ i. here i ∷ rest i

-- the row of a key that comes anew
row-new : (hits : List GameHit) (hit : GameHit) → row_of hit.next hits ≡ no_hits hit.next
    → grown hit (no_hits hit.next) ≡ row_of hit.next (hits ++ hit ∷ [])
row-new hits hit none =
    ap (grown hit) (sym none) ∙ sym (row-same hit.next hits hit (ap is_eq (tied_itself key_total hit.next)))

added-keys : (hits : List GameHit) (hit : GameHit) (keys : List (Option Move)) → Rises keys
    → (Lacks hit.next keys → row_of hit.next hits ≡ no_hits hit.next)
    → added hit (map (λ key. row_of key hits) keys) ≡ map (λ key. row_of key (hits ++ hit ∷ [])) (with_key keys hit.next)
unfolding row_of
added-keys hits hit [] rise none = ap (λ (row : Row). row ∷ []) (row-new hits hit (none tt))
added-keys hits hit (k ∷ keys) rise none =
    rw (row-key k hits) (by (key_cmp k hit.next) refl (added-keys hits hit keys rise.1))
  where
    by : (o : Ordering) → key_cmp k hit.next ≡ o
        → ((Lacks hit.next keys → row_of hit.next hits ≡ no_hits hit.next)
        → added hit (map (λ key. row_of key hits) keys) ≡ map (λ key. row_of key (hits ++ hit ∷ [])) (with_key keys hit.next))
        → match_ordering (key_cmp k hit.next) (row_of k hits ∷ added hit (map (λ key. row_of key hits) keys))
        (grown hit (row_of k hits) ∷ map (λ key. row_of key hits) keys) (grown hit (no_hits hit.next) ∷ row_of k hits ∷ map (λ key. row_of key hits) keys)
        ≡ map (λ key. row_of key (hits ++ hit ∷ [])) (with_key (k ∷ keys) hit.next)
    by Less e more =
        let here : row_of k hits ≡ row_of k (hits ++ hit ∷ []) = sym (row-other k hits hit (ap is_eq e)) in
        let rest = more (λ lacks. none (ap is_eq e, lacks)) in
        rw e (λ i. here i ∷ rest i)
    by Equal e more =
        let here : grown hit (row_of k hits) ≡ row_of k (hits ++ hit ∷ []) = sym (row-same k hits hit (ap is_eq e)) in
        let rest = rows-other hits hit keys (lacks-tied k hit.next keys e rise.0) in
        rw e (λ i. here i ∷ rest i)
    by Greater e more =
        let lacks : Lacks hit.next (k ∷ keys) = (ap is_eq e, lacks-behind k hit.next keys (is-less k hit.next e) rise.0) in
        let here = row-new hits hit (none lacks) in
        let rest = rows-other hits hit (k ∷ keys) lacks in
        rw e (λ i. here i ∷ rest i)

-- one hit more
pub added-rows : (hits : List GameHit) (hit : GameHit) → added hit (rows_of hits) ≡ rows_of (hits ++ hit ∷ [])
unfolding rows_of keys_of
added-rows hits hit =
    let keys : fold (λ ks h. with_key ks h.next) [] (hits ++ hit ∷ []) ≡ with_key (keys_of hits) hit.next
    = fold_push (λ ks h. with_key ks h.next) [] hits hit in
    added-keys hits hit (keys_of hits) (rises-more hits [] tt) (λ lacks. row-none hit.next hits (lacks-more hits [] hit.next lacks).1)
    ∙ ap (map (λ key. row_of key (hits ++ hit ∷ []))) (sym keys)

-- all hits behind some, one by one
unfoldable pub all_added : List Row → List GameHit → List Row
all_added rows [] = rows
all_added rows (hit ∷ hits) = all_added (added hit rows) hits

pub rows-added : (before hits : List GameHit) → all_added (rows_of before) hits ≡ rows_of (before ++ hits)
unfolding all_added
rows-added before [] = ap rows_of (sym (append-nil before))
rows-added before (hit ∷ hits) =
    ap (λ (rows : List Row). all_added rows hits) (added-rows before hit) ∙ rows-added (before ++ hit ∷ []) hits
    ∙ ap rows_of (append_assoc before (hit ∷ []) hits)

-- the hits so far and one more
pub rows_more : (hits : List GameHit) (rows after : List Row) (hit : GameHit) (i : ℕ) → i < length hits → hit ≡ get_or hits i hit → rows ≡ rows_of (take i hits)
    → after ≡ added hit rows → after ≡ rows_of (take (i + 1) hits)
rows_more hits rows after hit i below is so_far grows =
    grows ∙ ap (added hit) so_far ∙ added-rows (take i hits) hit ∙ ap (λ (h : GameHit). rows_of (take i hits ++ h ∷ [])) is
    ∙ ap rows_of (sym (take_more hits i hit below))

pub no-rows : [] ≡ rows_of []
unfolding rows_of keys_of
no-rows = refl
