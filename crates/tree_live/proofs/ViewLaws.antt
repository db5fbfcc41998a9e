-- What a view shows after rows of it were set.
use Rattle.std.proofs.Common.{◌≡◌, ℕ, ◌+◌, ◌<◌, ◌≤◌, ◌||◌, Bool, true, false, cond, List, [], ◌∷◌, ◌++◌, Option, Some, None, Result, Ok, Err, OnOk, length, take, get_or, set, refl, sym, ap, subst, ◌∙◌, add-one, arith}
use Rattle.std.proofs.lemmas.Bool.{false≢true}
use Rattle.std.proofs.lemmas.List.{take_more}
use Rattle.std.specs.List.{remove}
use Rattle.cell_core.specs.declared.step.Move.{Move}
use Rattle.tree_rows.specs.declared.row.Row.{Row}
use Rattle.tree_rows.specs.Keys.{same_key}
use Rattle.tree_rows.specs.Rows.{row_at, KeysDiffer}
use Rattle.tree_rows.proofs.KeyLaws.{one-key, told-apart}
use Rattle.tree_live.specs.Views.{Sets}
use Rattle.tree_live.specs.Keeping.{place_of, is_among, Tells}

-- ---- keys

pub same-itself : (key : Option Move) → same_key key key ≡ true
same-itself key = (told-apart key key).1 refl

pub or-false : (a b : Bool) → a || b ≡ false → (a ≡ false) × (b ≡ false)
or-false true b h = absurd (false≢true (sym h))
or-false false b h = (refl, h)

-- a row at a key has it
pub row-key : (key : Option Move) (rows : List Row) (row : Row) → Some row ≡ row_at key rows → row.key ≡ key
row-key key [] row h = absurd (cc)
row-key key (first ∷ rows) row h = by (same_key first.key key) refl (row-key key rows row)
  where
    by : (b : Bool) → same_key first.key key ≡ b → (Some row ≡ row_at key rows → row.key ≡ key) → row.key ≡ key
    by true e rest =
        let found : Some row ≡ Some first = rw e at h in
        let is : row ≡ first = cc in
        ap (λ (r : Row). r.key) is ∙ one-key first.key key e
    by false e rest = rest (rw e at h)

-- ---- telling

-- one row is told
pub row-put : {A E : Type 0} (r : Result A E) (key : Option Move) (row : Row) (table before after : List Row) → Some row ≡ row_at key table
    → OnOk r (Sets row.key (Some row) before after) → OnOk r (Sets key (row_at key table) before after)
row-put (Ok x) key row table before after h sets =
    let is : row.key ≡ key = row-key key table row h in
    subst (λ (o : Option Row). Sets key o before after) h (subst (λ (k : Option Move). Sets k (Some row) before after) is sets)
row-put (Err e) key row table before after h sets = sets

pub tells-none : (table before : List Row) → Tells [] table before before
tells-none table before = record { own = λ key among. absurd (false≢true among); others = λ key among. refl }

pub among-push : (key other : Option Move) (keys : List (Option Move)) → is_among key (keys ++ other ∷ []) ≡ is_among key keys || same_key other key
among-push key other [] = by (same_key other key)
  where
    by : (b : Bool) → b || false ≡ false || b
    by true = refl
    by false = refl
among-push key other (first ∷ keys) = by (same_key first key) (among-push key other keys)
  where
    by : (b : Bool) → is_among key (keys ++ other ∷ []) ≡ is_among key keys || same_key other key
        → b || is_among key (keys ++ other ∷ []) ≡ (b || is_among key keys) || same_key other key
    by true rest = refl
    by false rest = rest

-- one row more is told
pub tells-push : (keys : List (Option Move)) (key : Option Move) (table before middle after : List Row) → Tells keys table before middle
    → Sets key (row_at key table) middle after → Tells (keys ++ key ∷ []) table before after
tells-push keys key table before middle after tells sets = record {
  own = λ other among. own other (same_key key other) refl (sym (among-push other key keys) ∙ among);
  others = λ other among.
      let both = or-false (is_among other keys) (same_key key other) (sym (among-push other key keys) ∙ among) in
      sets.others other both.1 ∙ tells.others other both.0;
}
  where
    or-right : (b : Bool) → b || false ≡ true → b ≡ true
    or-right true h = refl
    or-right false h = h

    own : (other : Option Move) (b : Bool) → same_key key other ≡ b → is_among other keys || same_key key other ≡ true → row_at other after ≡ row_at other table
    own other true e h =
        let is : key ≡ other = one-key key other e in
        subst (λ (k : Option Move). row_at k after ≡ row_at k table) is sets.own
    own other false e h = sets.others other e ∙ tells.own other (or-right (is_among other keys) (rw e at h))

pub tells-more : (keys : List (Option Move)) (i : ℕ) (key : Option Move) (table before middle after : List Row) → i < length keys → key ≡ get_or keys i key
    → Tells (take i keys) table before middle → Sets key (row_at key table) middle after → Tells (take (i + 1) keys) table before after
tells-more keys i key table before middle after below is tells sets =
    subst (λ (list : List (Option Move)). Tells list table before after) (sym (take_more keys i key below ∙ ap (λ (k : Option Move). take i keys ++ k ∷ []) (sym is)))
    (tells-push (take i keys) key table before middle after tells sets)

-- ---- a table

pub not-same : (a b : Option Move) → same_key a b ≡ false → same_key b a ≡ false
not-same a b h = by (same_key b a) refl
  where
    by : (o : Bool) → same_key b a ≡ o → o ≡ false
    by true e = absurd (false≢true (sym h ∙ ap (λ (k : Option Move). same_key k b) (sym (one-key b a e)) ∙ same-itself b))
    by false e = refl

pub passed : (row : Row) (rows : List Row) (key : Option Move) → same_key row.key key ≡ false → row_at key (row ∷ rows) ≡ row_at key rows
passed row rows key other = rw other refl

pub met : (row : Row) (rows : List Row) (key : Option Move) → row.key ≡ key → row_at key (row ∷ rows) ≡ Some row
met row rows key is = let same : same_key row.key key ≡ true = ap (λ (k : Option Move). same_key k key) is ∙ same-itself key in rw same refl

-- a row of another key before
both-past : (first : Row) (xs ys : List Row) (key : Option Move) → row_at key xs ≡ row_at key ys → row_at key (first ∷ xs) ≡ row_at key (first ∷ ys)
both-past first xs ys key same = by (same_key first.key key)
  where
    by : (b : Bool) → cond b (Some first) (row_at key xs) ≡ cond b (Some first) (row_at key ys)
    by true = refl
    by false = same

-- a row in the place of another of its key
set-own : (key : Option Move) (rows : List Row) (row : Row) → row.key ≡ key → place_of key rows < length rows
    → row_at key (set rows (place_of key rows) row) ≡ Some row
set-own key [] row is below = absurd (omega (arith, below))
set-own key (first ∷ rows) row is below = by (same_key first.key key) refl (set-own key rows row is)
  where
    by : (b : Bool) → same_key first.key key ≡ b → (place_of key rows < length rows → row_at key (set rows (place_of key rows) row) ≡ Some row)
        → row_at key (set (first ∷ rows) (place_of key (first ∷ rows)) row) ≡ Some row
    by true e rest = rw e (met row rows key is)
    by false e rest =
        let under = rw e at below in
        rw (e, add-one) (passed first (set rows (place_of key rows) row) key e ∙ rest (omega (arith, under)))

set-others : (key other : Option Move) (rows : List Row) (row : Row) → row.key ≡ key → same_key key other ≡ false
    → row_at other (set rows (place_of key rows) row) ≡ row_at other rows
set-others key other [] row is not = refl
set-others key other (first ∷ rows) row is not = by (same_key first.key key) refl (set-others key other rows row is not)
  where
    by : (b : Bool) → same_key first.key key ≡ b → row_at other (set rows (place_of key rows) row) ≡ row_at other rows
        → row_at other (set (first ∷ rows) (place_of key (first ∷ rows)) row) ≡ row_at other (first ∷ rows)
    by true e rest =
        let here : same_key row.key other ≡ false = ap (λ (k : Option Move). same_key k other) is ∙ not in
        let there : same_key first.key other ≡ false = ap (λ (k : Option Move). same_key k other) (one-key first.key key e) ∙ not in
        rw e (passed row rows other here ∙ sym (passed first rows other there))
    by false e rest = rw (e, add-one) (both-past first (set rows (place_of key rows) row) rows other rest)

set-differ : (key : Option Move) (rows : List Row) (row : Row) → row.key ≡ key → KeysDiffer rows → KeysDiffer (set rows (place_of key rows) row)
set-differ key [] row is h = tt
set-differ key (first ∷ rows) row is h = by (same_key first.key key) refl (set-differ key rows row is h.1)
  where
    by : (b : Bool) → same_key first.key key ≡ b → KeysDiffer (set rows (place_of key rows) row)
        → KeysDiffer (set (first ∷ rows) (place_of key (first ∷ rows)) row)
    by true e rest = rw e (ap (λ (k : Option Move). row_at k rows) (is ∙ sym (one-key first.key key e)) ∙ h.0, h.1)
    by false e rest = rw (e, add-one) (set-others key first.key rows row is (not-same first.key key e) ∙ h.0, rest)

-- a row of a new key behind the others
absent : (key : Option Move) (rows : List Row) → length rows ≤ place_of key rows → row_at key rows ≡ None
absent key [] far = refl
absent key (first ∷ rows) far = by (same_key first.key key) refl (absent key rows)
  where
    by : (b : Bool) → same_key first.key key ≡ b → (length rows ≤ place_of key rows → row_at key rows ≡ None) → row_at key (first ∷ rows) ≡ None
    by true e rest = let past = rw e at far in absurd (omega (arith, past))
    by false e rest =
        let past = rw e at far in
        passed first rows key e ∙ rest (omega (arith, past))

push-own : (key : Option Move) (rows : List Row) (row : Row) → row.key ≡ key → row_at key rows ≡ None → row_at key (rows ++ row ∷ []) ≡ Some row
push-own key [] row is none = met row [] key is
push-own key (first ∷ rows) row is none = by (same_key first.key key) refl (push-own key rows row is)
  where
    by : (b : Bool) → same_key first.key key ≡ b → (row_at key rows ≡ None → row_at key (rows ++ row ∷ []) ≡ Some row)
        → row_at key (first ∷ rows ++ row ∷ []) ≡ Some row
    by true e rest = let found : Some first ≡ None = rw e at none in absurd (cc)
    by false e rest =
        let left : row_at key rows ≡ None = rw e at none in
        passed first (rows ++ row ∷ []) key e ∙ rest left

push-others : (other : Option Move) (rows : List Row) (row : Row) → same_key row.key other ≡ false → row_at other (rows ++ row ∷ []) ≡ row_at other rows
push-others other [] row not = passed row [] other not
push-others other (first ∷ rows) row not = both-past first (rows ++ row ∷ []) rows other (push-others other rows row not)

push-differ : (rows : List Row) (row : Row) → row_at row.key rows ≡ None → KeysDiffer rows → KeysDiffer (rows ++ row ∷ [])
push-differ [] row none h = (refl, tt)
push-differ (first ∷ rows) row none h = by (same_key first.key row.key) refl (push-differ rows row)
  where
    by : (b : Bool) → same_key first.key row.key ≡ b → (row_at row.key rows ≡ None → KeysDiffer rows → KeysDiffer (rows ++ row ∷ []))
        → KeysDiffer (first ∷ rows ++ row ∷ [])
    by true e rest = let found : Some first ≡ None = rw e at none in absurd (cc)
    by false e rest =
        let left : row_at row.key rows ≡ None = rw e at none in
        (push-others first.key rows row (not-same first.key row.key e) ∙ h.0, rest left h.1)

-- a row less
pub remove-own : (key : Option Move) (rows : List Row) → KeysDiffer rows → row_at key (remove rows (place_of key rows)) ≡ None
remove-own key [] h = refl
remove-own key (first ∷ rows) h = by (same_key first.key key) refl (remove-own key rows h.1)
  where
    by : (b : Bool) → same_key first.key key ≡ b → row_at key (remove rows (place_of key rows)) ≡ None
        → row_at key (remove (first ∷ rows) (place_of key (first ∷ rows))) ≡ None
    by true e rest = rw e (ap (λ (k : Option Move). row_at k rows) (sym (one-key first.key key e)) ∙ h.0)
    by false e rest = rw (e, add-one) (passed first (remove rows (place_of key rows)) key e ∙ rest)

pub remove-others : (key other : Option Move) (rows : List Row) → same_key key other ≡ false → row_at other (remove rows (place_of key rows)) ≡ row_at other rows
remove-others key other [] not = refl
remove-others key other (first ∷ rows) not = by (same_key first.key key) refl (remove-others key other rows not)
  where
    by : (b : Bool) → same_key first.key key ≡ b → row_at other (remove rows (place_of key rows)) ≡ row_at other rows
        → row_at other (remove (first ∷ rows) (place_of key (first ∷ rows))) ≡ row_at other (first ∷ rows)
    by true e rest =
        let there : same_key first.key other ≡ false = ap (λ (k : Option Move). same_key k other) (one-key first.key key e) ∙ not in
        rw e (sym (passed first rows other there))
    by false e rest = rw (e, add-one) (both-past first (remove rows (place_of key rows)) rows other rest)

pub remove-differ : (key : Option Move) (rows : List Row) → KeysDiffer rows → KeysDiffer (remove rows (place_of key rows))
remove-differ key [] h = tt
remove-differ key (first ∷ rows) h = by (same_key first.key key) refl (remove-differ key rows h.1)
  where
    by : (b : Bool) → same_key first.key key ≡ b → KeysDiffer (remove rows (place_of key rows))
        → KeysDiffer (remove (first ∷ rows) (place_of key (first ∷ rows)))
    by true e rest = rw e h.1
    by false e rest = rw (e, add-one) (remove-others key first.key rows (not-same first.key key e) ∙ h.0, rest)

-- the same at a place that was looked up
pub sets_there : (rows after : List Row) (row : Row) (place : ℕ) → place ≡ place_of row.key rows → place < length rows → after ≡ set rows place row
    → Sets row.key (Some row) rows after
sets_there rows after row place is below put =
    let at : after ≡ set rows (place_of row.key rows) row = put ∙ ap (λ (n : ℕ). set rows n row) is in
    record {
      own = ap (row_at row.key) at ∙ set-own row.key rows row refl (subst (λ (n : ℕ). n < length rows) is below);
      others = λ other not. ap (row_at other) at ∙ set-others row.key other rows row refl not;
    }

pub differ_there : (rows after : List Row) (row : Row) (place : ℕ) → place ≡ place_of row.key rows → after ≡ set rows place row → KeysDiffer rows → KeysDiffer after
differ_there rows after row place is put h =
    subst KeysDiffer (sym (put ∙ ap (λ (n : ℕ). set rows n row) is)) (set-differ row.key rows row refl h)

pub sets_behind : (rows after : List Row) (row : Row) (place : ℕ) → place ≡ place_of row.key rows → length rows ≤ place → after ≡ rows ++ row ∷ []
    → Sets row.key (Some row) rows after
sets_behind rows after row place is far put =
    record {
      own = ap (row_at row.key) put ∙ push-own row.key rows row refl (absent row.key rows (subst (λ (n : ℕ). length rows ≤ n) is far));
      others = λ other not. ap (row_at other) put ∙ push-others other rows row not;
    }

pub differ_behind : (rows after : List Row) (row : Row) (place : ℕ) → place ≡ place_of row.key rows → length rows ≤ place → after ≡ rows ++ row ∷ []
    → KeysDiffer rows → KeysDiffer after
differ_behind rows after row place is far put h =
    subst KeysDiffer (sym put) (push-differ rows row (absent row.key rows (subst (λ (n : ℕ). length rows ≤ n) is far)) h)

pub sets_out : (rows after : List Row) (key : Option Move) (place : ℕ) → place ≡ place_of key rows → KeysDiffer rows → after ≡ remove rows place
    → Sets key None rows after
sets_out rows after key place is h out =
    let at : after ≡ remove rows (place_of key rows) = out ∙ ap (remove rows) is in
    record {
      own = ap (row_at key) at ∙ remove-own key rows h;
      others = λ other not. ap (row_at other) at ∙ remove-others key other rows not;
    }

pub differ_out : (rows after : List Row) (key : Option Move) (place : ℕ) → place ≡ place_of key rows → KeysDiffer rows → after ≡ remove rows place → KeysDiffer after
differ_out rows after key place is h out = subst KeysDiffer (sym (out ∙ ap (remove rows) is)) (remove-differ key rows h)

pub sets_none : (rows : List Row) (key : Option Move) (place : ℕ) → place ≡ place_of key rows → length rows ≤ place → Sets key None rows rows
sets_none rows key place is far = record {
  own = absent key rows (subst (λ (n : ℕ). length rows ≤ n) is far);
  others = λ other not. refl;
}
