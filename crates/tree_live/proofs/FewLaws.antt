-- No more rows change than changes of games are counted.
use Rattle.std.proofs.Common.{◌≡◌, ◌+◌, ◌≤◌, ◌||◌, Bool, true, false, cond, List, [], ◌∷◌, ◌++◌, Option, Some, None, is_some, length, length-append, append_assoc, option_to_list, refl, sym, ap, ◌∙◌, arith}
use Rattle.std.proofs.lemmas.Bool.{false≢true, eq-eqb}
use Rattle.cell_core.specs.declared.step.Move.{Move}
use Rattle.tree_rows.specs.declared.hit.GameHit.{GameHit}
use Rattle.tree_rows.specs.declared.row.Row.{Row}
use Rattle.tree_rows.specs.Keys.{same_key}
use Rattle.tree_rows.specs.Rows.{KeysDiffer, row_at, rows_of}
use Rattle.tree_rows.proofs.KeyLaws.{one-key}
use Rattle.tree_rows.proofs.OneRow.{keys-differ, other-rows}
use Rattle.tree_live.specs.declared.entry.Entry.{Entry}
use Rattle.tree_live.specs.Watching.{all_changes, changes, counted, hits_in, same_counted}
use Rattle.tree_live.specs.RowChanges.{is_found, keys_alone, keys_anew, keys_changed, rows_changed, same_row}
use Rattle.tree_live.specs.Keeping.{is_among}
use Rattle.tree_live.proofs.HitLaws.{one-counted}
use Rattle.tree_live.proofs.ViewLaws.{met, or-false, passed, same-itself}
use Rattle.tree_live.proofs.RowChangeLaws.{among-append}

-- ---- the keys of the games that change

next-of : Option GameHit → List (Option Move)
next-of None = []
next-of (Some hit) = hit.next ∷ []

keys-of : Option GameHit → Option GameHit → List (Option Move)
keys-of before after = cond (same_counted before after) [] (next-of before ++ next-of after)

all-keys : List Entry → List Entry → List (Option Move)
all-keys before [] = []
all-keys [] (after ∷ games) = keys-of None (counted after) ++ all-keys [] games
all-keys (before ∷ games) (after ∷ later) = keys-of (counted before) (counted after) ++ all-keys games later

length-next : (hit : Option GameHit) → length (next-of hit) ≡ length (option_to_list hit)
unfolding next-of
length-next None = refl
length-next (Some hit) = refl

length-keys : (before after : Option GameHit) → length (keys-of before after) ≡ changes before after
unfolding keys-of
length-keys before after = by (same_counted before after)
  where
    by : (b : Bool) → length (cond b [] (next-of before ++ next-of after)) ≡ cond b 0 (length (option_to_list before) + length (option_to_list after))
    by true = refl
    by false = omega (arith, length-append (next-of before) (next-of after), length-next before, length-next after)

length-all : (before after : List Entry) → length (all-keys before after) ≡ all_changes before after
unfolding all-keys
length-all [] [] = refl
length-all (b ∷ before) [] = refl
length-all [] (a ∷ after) =
    omega (arith, length-append (keys-of None (counted a)) (all-keys [] after), length-keys None (counted a), length-all [] after)
length-all (b ∷ before) (a ∷ after) =
    omega (
      arith,
      length-append (keys-of (counted b) (counted a)) (all-keys before after),
      length-keys (counted b) (counted a),
      length-all before after,
    )

-- a hit of another key may come or go
one-other : (front back : List GameHit) (hit : Option GameHit) (key : Option Move) → is_among key (next-of hit) ≡ false
    → row_at key (rows_of (front ++ (option_to_list hit ++ back))) ≡ row_at key (rows_of (front ++ back))
unfolding next-of
one-other front back None key among = refl
one-other front back (Some hit) key among = other-rows front back hit key (or-false (same_key hit.next key) false among).0

game-other : (front old new : List GameHit) (before after : Option GameHit) (key : Option Move) → is_among key (keys-of before after) ≡ false
    → ((front : List GameHit) → row_at key (rows_of (front ++ old)) ≡ row_at key (rows_of (front ++ new)))
    → row_at key (rows_of (front ++ (option_to_list before ++ old))) ≡ row_at key (rows_of (front ++ (option_to_list after ++ new)))
unfolding keys-of
game-other front old new before after key among rest = by (same_counted before after) refl among
  where
    by : (b : Bool) → same_counted before after ≡ b → is_among key (cond b [] (next-of before ++ next-of after)) ≡ false
        → row_at key (rows_of (front ++ (option_to_list before ++ old))) ≡ row_at key (rows_of (front ++ (option_to_list after ++ new)))
    by true e among =
        ap (λ (hits : List GameHit). row_at key (rows_of hits)) (sym (append_assoc front (option_to_list before) old))
        ∙ rest (front ++ option_to_list before)
        ∙ ap (λ (hits : List GameHit). row_at key (rows_of hits)) (append_assoc front (option_to_list before) new)
        ∙ ap (λ (hit : Option GameHit). row_at key (rows_of (front ++ (option_to_list hit ++ new)))) (one-counted before after e)
    by false e among =
        let both = or-false (is_among key (next-of before)) (is_among key (next-of after)) (sym (among-append key (next-of before) (next-of after)) ∙ among) in
        one-other front old before key both.0 ∙ rest front ∙ sym (one-other front new after key both.1)

others-same : (front : List GameHit) (before after : List Entry) (key : Option Move) → length before ≤ length after → is_among key (all-keys before after) ≡ false
    → row_at key (rows_of (front ++ hits_in before)) ≡ row_at key (rows_of (front ++ hits_in after))
unfolding all-keys
others-same front [] [] key fits among = refl
others-same front (b ∷ before) [] key fits among = absurd (omega (arith, fits))
others-same front [] (a ∷ after) key fits among =
    let both = or-false (is_among key (keys-of None (counted a))) (is_among key (all-keys [] after))
    (sym (among-append key (keys-of None (counted a)) (all-keys [] after)) ∙ among) in
    game-other front [] (hits_in after) None (counted a) key both.0 (λ hits. others-same hits [] after key (omega arith) both.1)
others-same front (b ∷ before) (a ∷ after) key fits among =
    let both = or-false (is_among key (keys-of (counted b) (counted a))) (is_among key (all-keys before after))
    (sym (among-append key (keys-of (counted b) (counted a)) (all-keys before after)) ∙ among) in
    game-other front (hits_in before) (hits_in after) (counted b) (counted a) key both.0
    (λ hits. others-same hits before after key (omega (arith, fits)) both.1)

-- ---- keys of which no two are the same

KeysApart : List (Option Move) → Type 0
KeysApart [] = Unit {0}
KeysApart (key ∷ keys) = (is_among key keys ≡ false) × KeysApart keys

or-true : (a b : Bool) → a || b ≡ true → (a ≡ false → b ≡ true)
or-true true b h f = absurd (false≢true (sym f))
or-true false b h f = h

without : Option Move → List (Option Move) → List (Option Move)
without key [] = []
without key (first ∷ keys) = cond (same_key first key) keys (first ∷ without key keys)

length-without : (key : Option Move) (keys : List (Option Move)) → is_among key keys ≡ true → length keys ≡ length (without key keys) + 1
unfolding without
length-without key [] among = absurd (false≢true among)
length-without key (first ∷ keys) among = by (same_key first key) refl (length-without key keys)
  where
    by : (b : Bool) → same_key first key ≡ b → (is_among key keys ≡ true → length keys ≡ length (without key keys) + 1)
        → length (first ∷ keys) ≡ length (cond b keys (first ∷ without key keys)) + 1
    by true e rest = omega arith
    by false e rest = let left = rest (or-true (same_key first key) (is_among key keys) among e) in omega (arith, left)

still-among : (key other : Option Move) (keys : List (Option Move)) → same_key key other ≡ false → is_among other keys ≡ true → is_among other (without key keys) ≡ true
unfolding without
still-among key other [] apart among = absurd (false≢true among)
still-among key other (first ∷ keys) apart among = by (same_key first key) refl (still-among key other keys apart)
  where
    by : (b : Bool) → same_key first key ≡ b → (is_among other keys ≡ true → is_among other (without key keys) ≡ true)
        → is_among other (cond b keys (first ∷ without key keys)) ≡ true
    by true e rest =
        or-true (same_key first other) (is_among other keys) among (ap (λ (k : Option Move). same_key k other) (one-key first key e) ∙ apart)
    by false e rest = inner (same_key first other) refl
      where
        inner : (b : Bool) → same_key first other ≡ b → b || is_among other (without key keys) ≡ true
        inner true f = refl
        inner false f = rest (or-true (same_key first other) (is_among other keys) among f)

apart-few : (keys noted : List (Option Move)) → KeysApart keys → ((key : Option Move) → is_among key keys ≡ true → is_among key noted ≡ true)
    → length keys ≤ length noted
unfolding KeysApart
apart-few [] noted apart within = omega arith
apart-few (key ∷ keys) noted apart within =
    let here : is_among key noted ≡ true = within key (ap (λ (b : Bool). b || is_among key keys) (same-itself key)) in
    let rest = apart-few keys (without key noted) apart.1 (λ other among. by other among (same_key key other) refl) in
    omega (arith, rest, length-without key noted here)
  where
    or-left : (a b : Bool) → b ≡ true → a || b ≡ true
    or-left true b h = refl
    or-left false b h = h

    by : (other : Option Move) → is_among other keys ≡ true → (b : Bool) → same_key key other ≡ b → is_among other (without key noted) ≡ true
    by other among true e =
        absurd (false≢true (sym apart.0 ∙ ap (λ (k : Option Move). is_among k keys) (one-key key other e) ∙ among))
    by other among false e = still-among key other noted e (within other (or-left (same_key key other) (is_among other keys) among))

apart-append : (xs ys : List (Option Move)) → KeysApart xs → KeysApart ys → ((key : Option Move) → is_among key xs ≡ true → is_among key ys ≡ false)
    → KeysApart (xs ++ ys)
unfolding KeysApart
apart-append [] ys one two never = two
apart-append (x ∷ xs) ys one two never = (
  among-append x xs ys ∙ ap (λ (b : Bool). b || is_among x ys) one.0 ∙ never x (ap (λ (b : Bool). b || is_among x xs) (same-itself x)),
  apart-append xs ys one.1 two (λ key among. never key (or-left (same_key x key) (is_among key xs) among)),
)
  where
    or-left : (a b : Bool) → b ≡ true → a || b ≡ true
    or-left true b h = refl
    or-left false b h = h

-- ---- the keys that change are apart, and their rows differ

some-there : (key : Option Move) (first : Row) (rows : List Row) → is_some (row_at key rows) ≡ true → is_some (row_at key (first ∷ rows)) ≡ true
some-there key first rows h = by (same_key first.key key)
  where
    by : (b : Bool) → is_some (cond b (Some first) (row_at key rows)) ≡ true
    by true = refl
    by false = h

alone-there : (key : Option Move) (others rows : List Row) → is_among key (keys_alone others rows) ≡ true
    → (is_some (row_at key rows) ≡ true) × (is_some (row_at key others) ≡ false)
alone-there key others [] among = absurd (false≢true among)
alone-there key others (row ∷ rows) among =
    by (λ h. let rest = alone-there key others rows h in (some-there key row rows rest.0, rest.1)) (is_some (row_at row.key others)) refl among
  where
    by : (is_among key (keys_alone others rows) ≡ true → (is_some (row_at key (row ∷ rows)) ≡ true) × (is_some (row_at key others) ≡ false))
        → (b : Bool) → is_some (row_at row.key others) ≡ b → is_among key (cond b (keys_alone others rows) (row.key ∷ keys_alone others rows)) ≡ true
        → (is_some (row_at key (row ∷ rows)) ≡ true) × (is_some (row_at key others) ≡ false)
    by later true e h = later h
    by later false e h = inner (same_key row.key key) refl
      where
        inner : (b : Bool) → same_key row.key key ≡ b → (is_some (row_at key (row ∷ rows)) ≡ true) × (is_some (row_at key others) ≡ false)
        inner true f = (
          ap is_some (met row rows key (one-key row.key key f)),
          ap (λ (k : Option Move). is_some (row_at k others)) (sym (one-key row.key key f)) ∙ e,
        )
        inner false f = later (or-true (same_key row.key key) (is_among key (keys_alone others rows)) h f)

row-itself : (row : Row) → same_row row row ≡ true
unfolding same_row
row-itself row =
    rw (
      same-itself row.key,
      eq-eqb row.games row.games refl,
      eq-eqb row.white row.white refl,
      eq-eqb row.draws row.draws refl,
      eq-eqb row.black row.black refl,
      eq-eqb row.unfinished row.unfinished refl,
      eq-eqb row.mover_sum row.mover_sum refl,
      eq-eqb row.mover_rated row.mover_rated refl,
      eq-eqb row.other_sum row.other_sum refl,
      eq-eqb row.other_rated row.other_rated refl,
      eq-eqb row.year_sum row.year_sum refl,
      eq-eqb row.dated row.dated refl,
    ) refl

anew-there : (key : Option Move) (others rows : List Row) → KeysDiffer rows → is_among key (keys_anew others rows) ≡ true
    → (is_some (row_at key rows) ≡ true) × (row_at key others ≡ row_at key rows → ⊥)
anew-there key others [] differ among = absurd (false≢true among)
anew-there key others (row ∷ rows) differ among =
    by (λ h. behind (anew-there key others rows differ.1 h) (same_key row.key key) refl) (is_found (row_at row.key others) row) refl among
  where
    behind : (is_some (row_at key rows) ≡ true) × (row_at key others ≡ row_at key rows → ⊥) → (b : Bool) → same_key row.key key ≡ b
        → (is_some (row_at key (row ∷ rows)) ≡ true) × (row_at key others ≡ row_at key (row ∷ rows) → ⊥)
    behind rest true f =
        absurd (false≢true (ap is_some (sym differ.0) ∙ ap (λ (k : Option Move). is_some (row_at k rows)) (one-key row.key key f) ∙ rest.0))
    behind rest false f = (some-there key row rows rest.0, λ same. rest.1 (same ∙ passed row rows key f))

    by : (is_among key (keys_anew others rows) ≡ true → (is_some (row_at key (row ∷ rows)) ≡ true) × (row_at key others ≡ row_at key (row ∷ rows) → ⊥))
        → (b : Bool) → is_found (row_at row.key others) row ≡ b → is_among key (cond b (keys_anew others rows) (row.key ∷ keys_anew others rows)) ≡ true
        → (is_some (row_at key (row ∷ rows)) ≡ true) × (row_at key others ≡ row_at key (row ∷ rows) → ⊥)
    by later true e h = later h
    by later false e h = inner (same_key row.key key) refl
      where
        inner : (b : Bool) → same_key row.key key ≡ b → (is_some (row_at key (row ∷ rows)) ≡ true) × (row_at key others ≡ row_at key (row ∷ rows) → ⊥)
        inner true f =
            let at : row_at key (row ∷ rows) ≡ Some row = met row rows key (one-key row.key key f) in (
              ap is_some at,
              λ same.
                  let found : row_at row.key others ≡ Some row = ap (λ (k : Option Move). row_at k others) (one-key row.key key f) ∙ same ∙ at in
                  false≢true (sym e ∙ ap (λ (o : Option Row). is_found o row) found ∙ row-itself row),
            )
        inner false f = later (or-true (same_key row.key key) (is_among key (keys_anew others rows)) h f)

none-among : (b : Bool) → (b ≡ true → ⊥) → b ≡ false
none-among b = by b refl
  where
    by : (a : Bool) → b ≡ a → (b ≡ true → ⊥) → b ≡ false
    by true e never = absurd (never e)
    by false e never = e

alone-apart : (others rows : List Row) → KeysDiffer rows → KeysApart (keys_alone others rows)
unfolding KeysApart
alone-apart others [] differ = tt
alone-apart others (row ∷ rows) differ = by (alone-apart others rows differ.1) (is_some (row_at row.key others))
  where
    by : KeysApart (keys_alone others rows) → (b : Bool) → KeysApart (cond b (keys_alone others rows) (row.key ∷ keys_alone others rows))
    by rest true = rest
    by rest false = (
      none-among (is_among row.key (keys_alone others rows))
          (λ among. false≢true (ap is_some (sym differ.0) ∙ (alone-there row.key others rows among).0)),
      rest,
    )

anew-apart : (others rows : List Row) → KeysDiffer rows → KeysApart (keys_anew others rows)
unfolding KeysApart
anew-apart others [] differ = tt
anew-apart others (row ∷ rows) differ = by (anew-apart others rows differ.1) (is_found (row_at row.key others) row)
  where
    by : KeysApart (keys_anew others rows) → (b : Bool) → KeysApart (cond b (keys_anew others rows) (row.key ∷ keys_anew others rows))
    by rest true = rest
    by rest false = (
      none-among (is_among row.key (keys_anew others rows))
          (λ among. false≢true (ap is_some (sym differ.0) ∙ (anew-there row.key others rows differ.1 among).0)),
      rest,
    )

changed-apart : (before after : List Row) → KeysDiffer before → KeysDiffer after → KeysApart (keys_changed before after)
changed-apart before after one two =
    apart-append (keys_alone after before) (keys_anew before after) (alone-apart after before one) (anew-apart before after two)
    (λ key among. none-among (is_among key (keys_anew before after))
    (λ new. false≢true (sym (alone-there key after before among).1 ∙ (anew-there key before after two new).0)))

changed-differs : (before after : List Row) (key : Option Move) → KeysDiffer after → is_among key (keys_changed before after) ≡ true
    → row_at key before ≡ row_at key after → ⊥
changed-differs before after key differ among same = by (is_among key (keys_alone after before)) refl
  where
    by : (b : Bool) → is_among key (keys_alone after before) ≡ b → ⊥
    by true e =
        let there = alone-there key after before e in
        false≢true (sym there.1 ∙ ap is_some (sym same) ∙ there.0)
    by false e =
        (anew-there key before after differ
        (or-true (is_among key (keys_alone after before)) (is_among key (keys_anew before after))
        (sym (among-append key (keys_alone after before) (keys_anew before after)) ∙ among) e)).1 same

-- ---- the law

all-true : (b : Bool) → (b ≡ false → ⊥) → b ≡ true
all-true b = by b refl
  where
    by : (a : Bool) → b ≡ a → (b ≡ false → ⊥) → b ≡ true
    by true e never = e
    by false e never = absurd (never e)

pub rows-few : (before after : List Entry) → length before ≤ length after → rows_changed (rows_of (hits_in before)) (rows_of (hits_in after)) ≤ all_changes before after
unfolding rows_changed
rows-few before after fits =
    let old = rows_of (hits_in before) in
    let new = rows_of (hits_in after) in
    let few = apart-few (keys_changed old new) (all-keys before after)
    (changed-apart old new (keys-differ (hits_in before)) (keys-differ (hits_in after)))
    (λ key among. all-true (is_among key (all-keys before after))
    (λ not. changed-differs old new key (keys-differ (hits_in after)) among (others-same [] before after key fits not))) in
    omega (arith, few, length-all before after)
