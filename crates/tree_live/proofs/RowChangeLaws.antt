-- The keys whose row is another in one list of rows than in the other.
use Rattle.std.proofs.Common.{◌≡◌, ℕ, zero, suc, ◌+◌, ◌≤◌, ◌==◌, ◌||◌, Bool, true, false, cond, List, [], ◌∷◌, ◌++◌, Option, Some, None, is_some, length, take, drop, length-append, append_assoc, refl, sym, ap, subst, ◌∙◌, add-one, arith}
use Rattle.std.proofs.lemmas.Bool.{false≢true, eqb-true}
use Rattle.std.proofs.lemmas.List.{take_more}
use Rattle.std.proofs.lemmas.Option.{get_or_from_slice_get, slice_get_within}
use Rattle.std.specs.List.{remove, slice_get}
use Rattle.cell_core.specs.declared.step.Move.{Move}
use Rattle.tree_rows.specs.declared.hit.GameHit.{GameHit}
use Rattle.tree_rows.specs.declared.row.Row.{Row}
use Rattle.tree_rows.specs.Keys.{same_key}
use Rattle.tree_rows.specs.Rows.{KeysDiffer, row_at, rows_of}
use Rattle.tree_rows.proofs.KeyLaws.{one-key}
use Rattle.tree_rows.proofs.OneRow.{keys-differ}
use Rattle.tree_live.specs.Views.{Shows}
use Rattle.tree_live.specs.RowChanges.{is_found, keys_alone, keys_anew, keys_changed, rows_changed, same_counts, same_row, same_sums}
use Rattle.tree_live.specs.Keeping.{is_among, place_of, Tells}
use Rattle.tree_live.proofs.HitLaws.{and-both}
use Rattle.tree_live.proofs.ViewLaws.{met, or-false, passed, remove-differ, remove-others, remove-own}

-- ---- rows that are read one after the other

pub rows-more : (rows shown after : List Row) (i : ℕ) (row : Row) → slice_get rows i ≡ Some row → shown ≡ take i rows → after ≡ shown ++ row ∷ []
    → after ≡ take (i + 1) rows
rows-more rows shown after i row at so_far put =
    put
    ∙ ap (λ (list : List Row). list ++ row ∷ []) so_far
    ∙ ap (λ (r : Row). take i rows ++ r ∷ []) (sym (get_or_from_slice_get rows i row row at))
    ∙ sym (take_more rows i row (slice_get_within rows i row at))

drop-more : (rows : List Row) (i : ℕ) (row : Row) → slice_get rows i ≡ Some row → drop i rows ≡ row ∷ drop (suc i) rows
drop-more [] i row at = absurd (cc)
drop-more (first ∷ rows) zero row at = let is : first ≡ row = cc in ap (λ (r : Row). r ∷ rows) is
drop-more (first ∷ rows) (suc i) row at = drop-more rows i row at

pub alone-keys-more : (others rows : List Row) (i : ℕ) (row : Row) (all keys after : List (Option Move)) → slice_get rows i ≡ Some row
    → keys ++ keys_alone others (drop i rows) ≡ all → after ≡ cond (is_some (row_at row.key others)) keys (keys ++ row.key ∷ [])
    → after ++ keys_alone others (drop (i + 1) rows) ≡ all
alone-keys-more others rows i row all keys after at so_far put =
    ap (λ (n : ℕ). after ++ keys_alone others (drop n rows)) (add-one i)
    ∙ ap (λ (list : List (Option Move)). list ++ keys_alone others (drop (suc i) rows)) put
    ∙ by (is_some (row_at row.key others))
    ∙ ap (λ (list : List Row). keys ++ keys_alone others list) (sym (drop-more rows i row at))
    ∙ so_far
  where
    by : (b : Bool) → cond b keys (keys ++ row.key ∷ []) ++ keys_alone others (drop (suc i) rows)
        ≡ keys ++ cond b (keys_alone others (drop (suc i) rows)) (row.key ∷ keys_alone others (drop (suc i) rows))
    by true = refl
    by false = append_assoc keys (row.key ∷ []) (keys_alone others (drop (suc i) rows))

-- ---- rows that are the same

one-row : (a b : Row) → same_row a b ≡ true → a ≡ b
unfolding same_row
one-row a b h =
    let parts = and-both _ (same_sums a b) h in
    let firsts = and-both (same_key a.key b.key) (same_counts a b) parts.0 in
    let s5 = and-both _ (a.dated == b.dated) parts.1 in
    let s4 = and-both _ (a.year_sum == b.year_sum) s5.0 in
    let s3 = and-both _ (a.other_rated == b.other_rated) s4.0 in
    let s2 = and-both _ (a.other_sum == b.other_sum) s3.0 in
    let s1 = and-both (a.mover_sum == b.mover_sum) (a.mover_rated == b.mover_rated) s2.0 in
    let c4 = and-both _ (a.unfinished == b.unfinished) firsts.1 in
    let c3 = and-both _ (a.black == b.black) c4.0 in
    let c2 = and-both _ (a.draws == b.draws) c3.0 in
    let c1 = and-both (a.games == b.games) (a.white == b.white) c2.0 in
    let key = one-key a.key b.key firsts.0 in
    let games = eqb-true a.games b.games c1.0 in
    let white = eqb-true a.white b.white c1.1 in
    let draws = eqb-true a.draws b.draws c2.1 in
    let black = eqb-true a.black b.black c3.1 in
    let unfinished = eqb-true a.unfinished b.unfinished c4.1 in
    let mover_sum = eqb-true a.mover_sum b.mover_sum s1.0 in
    let mover_rated = eqb-true a.mover_rated b.mover_rated s1.1 in
    let other_sum = eqb-true a.other_sum b.other_sum s2.1 in
    let other_rated = eqb-true a.other_rated b.other_rated s3.1 in
    let year_sum = eqb-true a.year_sum b.year_sum s4.1 in
    let dated = eqb-true a.dated b.dated s5.1 in
    λ i. record {
      key = key i;
      games = games i;
      white = white i;
      draws = draws i;
      black = black i;
      unfinished = unfinished i;
      mover_sum = mover_sum i;
      mover_rated = mover_rated i;
      other_sum = other_sum i;
      other_rated = other_rated i;
      year_sum = year_sum i;
      dated = dated i;
    }

found-row : (found : Option Row) (row : Row) → is_found found row ≡ true → found ≡ Some row
found-row None row h = absurd (false≢true h)
found-row (Some other) row h = ap Some (one-row other row h)

-- ---- keys of which the row is the same

pub among-append : (key : Option Move) (xs ys : List (Option Move)) → is_among key (xs ++ ys) ≡ is_among key xs || is_among key ys
among-append key [] ys = refl
among-append key (x ∷ xs) ys = by (same_key x key) (among-append key xs ys)
  where
    by : (b : Bool) → is_among key (xs ++ ys) ≡ is_among key xs || is_among key ys → b || is_among key (xs ++ ys) ≡ (b || is_among key xs) || is_among key ys
    by true rest = refl
    by false rest = rest

-- a key that is not among those of more is not among those of fewer
among-rest : (key first : Option Move) (b : Bool) (keys : List (Option Move)) → is_among key (cond b keys (first ∷ keys)) ≡ false → is_among key keys ≡ false
among-rest key first true keys h = h
among-rest key first false keys h = (or-false (same_key first key) (is_among key keys) h).1

-- a key that is not noted where its row was looked at
among-first : (key first : Option Move) (b : Bool) (keys : List (Option Move)) → same_key first key ≡ true → is_among key (cond b keys (first ∷ keys)) ≡ false → b ≡ true
among-first key first true keys same h = refl
among-first key first false keys same h = absurd (false≢true (sym (or-false (same_key first key) (is_among key keys) h).0 ∙ same))

not-anew : (key : Option Move) (others rows : List Row) (row : Row) → row_at key rows ≡ Some row → is_among key (keys_anew others rows) ≡ false
    → row_at key others ≡ Some row
not-anew key others [] row at among = absurd (cc)
not-anew key others (first ∷ rows) row at among = by (same_key first.key key) refl (not-anew key others rows row)
  where
    by : (b : Bool) → same_key first.key key ≡ b → (row_at key rows ≡ Some row → is_among key (keys_anew others rows) ≡ false → row_at key others ≡ Some row)
        → row_at key others ≡ Some row
    by true e rest =
        let is : Some first ≡ Some row = rw e at at in
        let found = found-row (row_at first.key others) first
        (among-first key first.key (is_found (row_at first.key others) first) (keys_anew others rows) e among) in
        ap (λ (k : Option Move). row_at k others) (sym (one-key first.key key e)) ∙ found ∙ is
    by false e rest =
        rest (rw e at at) (among-rest key first.key (is_found (row_at first.key others) first) (keys_anew others rows) among)

not-alone : (key : Option Move) (others rows : List Row) (row : Row) → row_at key rows ≡ Some row → is_among key (keys_alone others rows) ≡ false
    → is_some (row_at key others) ≡ true
not-alone key others [] row at among = absurd (cc)
not-alone key others (first ∷ rows) row at among = by (same_key first.key key) refl (not-alone key others rows row)
  where
    by : (b : Bool) → same_key first.key key ≡ b → (row_at key rows ≡ Some row → is_among key (keys_alone others rows) ≡ false → is_some (row_at key others) ≡ true)
        → is_some (row_at key others) ≡ true
    by true e rest =
        ap (λ (k : Option Move). is_some (row_at k others)) (sym (one-key first.key key e))
        ∙ among-first key first.key (is_some (row_at first.key others)) (keys_alone others rows) e among
    by false e rest =
        rest (rw e at at) (among-rest key first.key (is_some (row_at first.key others)) (keys_alone others rows) among)

pub unchanged : (key : Option Move) (before after : List Row) → is_among key (keys_changed before after) ≡ false → row_at key before ≡ row_at key after
unchanged key before after among = by (row_at key after) refl (row_at key before) refl
  where
    both : (is_among key (keys_alone after before) ≡ false) × (is_among key (keys_anew before after) ≡ false)
    both = or-false (is_among key (keys_alone after before)) (is_among key (keys_anew before after))
        (sym (among-append key (keys_alone after before) (keys_anew before after)) ∙ among)

    by : (later : Option Row) → row_at key after ≡ later → (earlier : Option Row) → row_at key before ≡ earlier → row_at key before ≡ row_at key after
    by (Some row) e earlier f = not-anew key before after row e both.1 ∙ sym e
    by None e None f = f ∙ sym e
    by None e (Some row) f = absurd (false≢true (ap is_some (sym e) ∙ not-alone key after before row f both.0))

-- what a view shows that was told these keys
pub shows-told : (keys : List (Option Move)) (hits : List GameHit) (table shown after : List Row) → keys ≡ keys_changed shown table → table ≡ rows_of hits
    → Tells keys table shown after → Shows hits after
shows-told keys hits table shown after is summed tells = λ key. by key (is_among key keys) refl
  where
    by : (key : Option Move) (b : Bool) → is_among key keys ≡ b → row_at key after ≡ row_at key (rows_of hits)
    by key true e = tells.own key e ∙ ap (row_at key) summed
    by key false e = tells.others key e ∙ unchanged key shown table (ap (is_among key) (sym is) ∙ e) ∙ ap (row_at key) summed

-- ---- how many they are does not hang on the order of the rows

anew-same : (xs ys rows : List Row) → ((key : Option Move) → row_at key xs ≡ row_at key ys) → keys_anew xs rows ≡ keys_anew ys rows
anew-same xs ys [] same = refl
anew-same xs ys (row ∷ rows) same =
    ap (λ (found : Option Row). cond (is_found found row) (keys_anew xs rows) (row.key ∷ keys_anew xs rows)) (same row.key)
    ∙ ap (λ (keys : List (Option Move)). cond (is_found (row_at row.key ys) row) keys (row.key ∷ keys)) (anew-same xs ys rows same)

-- 1 for a row of which no other has the key
alone : List Row → Row → ℕ
alone others row = cond (is_some (row_at row.key others)) 0 1

alone-more : (others : List Row) (row : Row) (rows : List Row) → length (keys_alone others (row ∷ rows)) ≡ alone others row + length (keys_alone others rows)
unfolding alone
alone-more others row rows = by (is_some (row_at row.key others))
  where
    by : (b : Bool) → length (cond b (keys_alone others rows) (row.key ∷ keys_alone others rows)) ≡ cond b 0 1 + length (keys_alone others rows)
    by true = omega arith
    by false = omega arith

alone-without : (key : Option Move) (others rows : List Row) (row : Row) → row_at key rows ≡ Some row
    → length (keys_alone others rows) ≡ alone others row + length (keys_alone others (remove rows (place_of key rows)))
alone-without key others [] row at = absurd (cc)
alone-without key others (first ∷ rows) row at = by (same_key first.key key) refl (alone-without key others rows row)
  where
    by : (b : Bool) → same_key first.key key ≡ b
        → (row_at key rows ≡ Some row → length (keys_alone others rows) ≡ alone others row + length (keys_alone others (remove rows (place_of key rows))))
        → length (keys_alone others (first ∷ rows)) ≡ alone others row + length (keys_alone others (remove (first ∷ rows) (place_of key (first ∷ rows))))
    by true e rest =
        let found : Some first ≡ Some row = rw e at at in
        let is : first ≡ row = cc in
        rw e (alone-more others first rows ∙ ap (λ (r : Row). alone others r + length (keys_alone others rows)) is)
    by false e rest =
        let left : row_at key rows ≡ Some row = rw e at at in
        let more = alone-more others first rows in
        let less = alone-more others first (remove rows (place_of key rows)) in
        let all = rest left in
        rw (e, add-one) (omega (arith, more, less, all))

alone-few : (others xs ys : List Row) → KeysDiffer xs → KeysDiffer ys → ((key : Option Move) → row_at key xs ≡ row_at key ys)
    → length (keys_alone others xs) ≤ length (keys_alone others ys)
alone-few others [] ys differ apart same = omega arith
alone-few others (x ∷ xs) ys differ apart same =
    let left = remove ys (place_of x.key ys) in
    let found : row_at x.key ys ≡ Some x = sym (same x.key) ∙ met x xs x.key refl in
    let rest = alone-few others xs left differ.1 (remove-differ x.key ys apart) (λ key. by key (same_key x.key key) refl) in
    omega (arith, alone-more others x xs, alone-without x.key others ys x found, rest)
  where
    by : (key : Option Move) (b : Bool) → same_key x.key key ≡ b → row_at key xs ≡ row_at key (remove ys (place_of x.key ys))
    by key true e =
        let is : x.key ≡ key = one-key x.key key e in
        subst (λ (k : Option Move). row_at k xs ≡ row_at k (remove ys (place_of x.key ys))) is (differ.0 ∙ sym (remove-own x.key ys apart))
    by key false e = sym (passed x xs key e) ∙ same key ∙ sym (remove-others x.key key ys e)

pub changed-few : (xs ys after : List Row) → KeysDiffer xs → KeysDiffer ys → ((key : Option Move) → row_at key xs ≡ row_at key ys)
    → length (keys_changed xs after) ≤ rows_changed ys after
unfolding rows_changed
changed-few xs ys after differ apart same =
    let anew : length (keys_anew xs after) ≡ length (keys_anew ys after) = ap (λ (keys : List (Option Move)). length keys) (anew-same xs ys after same) in
    omega (
      arith,
      anew,
      alone-few after xs ys differ apart same,
      length-append (keys_alone after xs) (keys_anew xs after),
      length-append (keys_alone after ys) (keys_anew ys after),
    )

-- what a view is told that showed the rows of these hits
pub told-few : (keys : List (Option Move)) (hits : List GameHit) (table shown later : List Row) → keys ≡ keys_changed shown table → table ≡ later
    → KeysDiffer shown → Shows hits shown → length keys ≤ rows_changed (rows_of hits) later
told-few keys hits table shown later is summed differ shows =
    let size : length keys ≡ length (keys_changed shown later)
    = ap (λ (list : List (Option Move)). length list) (is ∙ ap (keys_changed shown) summed) in
    omega (arith, size, changed-few shown (rows_of hits) later differ (keys-differ hits) shows)
