-- The rows of hits with one hit less, and hits in any order.
use Rattle.std.proofs.Common.{◌≡◌, ℕ, ◌<◌, ◌≤◌, List, [], ◌∷◌, ◌++◌, Option, Ordering, length, get_or, set, refl, sym, ap, subst, ◌∙◌, add-one, arith}
use Rattle.std.proofs.lemmas.Cmp.{tied_itself}
use Rattle.std.proofs.lemmas.List.{get_or_default}
use Rattle.std.specs.List.{AllByRecursion, remove}
use Rattle.std.specs.declared.cmp.Ordering.TheVariants.{Less, Equal, Greater}
use Rattle.std.specs.Ordering.{is_eq}
use Rattle.cell_core.specs.declared.step.Move.{Move}
use Rattle.tree_rows.specs.declared.hit.GameHit.{GameHit}
use Rattle.tree_rows.specs.declared.row.Row.{Row}
use Rattle.tree_rows.specs.Keys.{key_cmp}
use Rattle.tree_rows.specs.Rows.{rows_of}
use Rattle.tree_rows.specs.Keeping.{no_hits, grown, shrunk, IsCounted, place_in, added}
use Rattle.tree_rows.proofs.KeyLaws.{key_total, one-key, is-less, is-greater, is-tied}
use Rattle.tree_rows.proofs.RowLaws.{grown-key, grown-games, grown-swap, shrunk-grown, counted-grown}
use Rattle.tree_rows.proofs.Adding.{all_added, rows-added, no-rows}

-- the first row of a key
abbrev pub first : GameHit → Row
first hit = grown hit (no_hits hit.next)

-- a hit more, by where its key stands
pub less : (hit : GameHit) (row : Row) (rows : List Row) → key_cmp row.key hit.next ≡ Less → added hit (row ∷ rows) ≡ row ∷ added hit rows
less hit row rows e = rw e refl

pub tied : (hit : GameHit) (row : Row) (rows : List Row) → key_cmp row.key hit.next ≡ Equal → added hit (row ∷ rows) ≡ grown hit row ∷ rows
tied hit row rows e = rw e refl

pub greater : (hit : GameHit) (row : Row) (rows : List Row) → key_cmp row.key hit.next ≡ Greater → added hit (row ∷ rows) ≡ first hit ∷ row ∷ rows
greater hit row rows e = rw e refl

at-grown : (hit : GameHit) (row : Row) (key : Option Move) (o : Ordering) → key_cmp row.key key ≡ o → key_cmp (grown hit row).key key ≡ o
at-grown hit row key o e = ap (λ (k : Option Move). key_cmp k key) (grown-key hit row) ∙ e

at-first : (hit : GameHit) (key : Option Move) (o : Ordering) → key_cmp hit.next key ≡ o → key_cmp (first hit).key key ≡ o
at-first hit key o e = at-grown hit (no_hits hit.next) key o e

-- ---- hits come in any order

first-swap : (a b : GameHit) → key_cmp b.next a.next ≡ Equal → grown a (first b) ≡ grown b (first a)
first-swap a b e =
    grown-swap a b (no_hits b.next) ∙ ap (λ (key : Option Move). grown b (grown a (no_hits key))) (one-key b.next a.next (ap is_eq e))

end-less : (a b : GameHit) → key_cmp b.next a.next ≡ Less → added a (added b []) ≡ added b (added a [])
end-less a b e =
    less a (first b) [] (at-first b a.next Less e) ∙ sym (greater b (first a) [] (at-first a b.next Greater (is-greater b.next a.next e)))

swap-end : (a b : GameHit) → added a (added b []) ≡ added b (added a [])
swap-end a b = by (key_cmp b.next a.next) refl
  where
    by : (o : Ordering) → key_cmp b.next a.next ≡ o → added a (added b []) ≡ added b (added a [])
    by Less e = end-less a b e
    by Equal e =
        tied a (first b) [] (at-first b a.next Equal e) ∙ ap (λ (row : Row). row ∷ []) (first-swap a b e)
        ∙ sym (tied b (first a) [] (at-first a b.next Equal (is-tied b.next a.next e)))
    by Greater e = sym (end-less b a (is-less b.next a.next e))

less-less : (a b : GameHit) (row : Row) (rows : List Row) → key_cmp row.key a.next ≡ Less → key_cmp row.key b.next ≡ Less
    → added a (added b rows) ≡ added b (added a rows) → added a (added b (row ∷ rows)) ≡ added b (added a (row ∷ rows))
less-less a b row rows ea eb rest =
    ap (added a) (less b row rows eb) ∙ less a row (added b rows) ea ∙ ap (λ (xs : List Row). row ∷ xs) rest
    ∙ sym (less b row (added a rows) eb) ∙ sym (ap (added b) (less a row rows ea))

less-tied : (a b : GameHit) (row : Row) (rows : List Row) → key_cmp row.key a.next ≡ Less → key_cmp row.key b.next ≡ Equal
    → added a (added b (row ∷ rows)) ≡ added b (added a (row ∷ rows))
less-tied a b row rows ea eb =
    ap (added a) (tied b row rows eb) ∙ less a (grown b row) rows (at-grown b row a.next Less ea)
    ∙ sym (tied b row (added a rows) eb) ∙ sym (ap (added b) (less a row rows ea))

less-greater : (a b : GameHit) (row : Row) (rows : List Row) → key_cmp row.key a.next ≡ Less → key_cmp row.key b.next ≡ Greater
    → added a (added b (row ∷ rows)) ≡ added b (added a (row ∷ rows))
less-greater a b row rows ea eb =
    let order : key_cmp b.next a.next ≡ Less = key_total.trans b.next row.key a.next (is-less row.key b.next eb) ea in
    ap (added a) (greater b row rows eb) ∙ less a (first b) (row ∷ rows) (at-first b a.next Less order)
    ∙ ap (λ (xs : List Row). first b ∷ xs) (less a row rows ea)
    ∙ sym (greater b row (added a rows) eb) ∙ sym (ap (added b) (less a row rows ea))

tied-tied : (a b : GameHit) (row : Row) (rows : List Row) → key_cmp row.key a.next ≡ Equal → key_cmp row.key b.next ≡ Equal
    → added a (added b (row ∷ rows)) ≡ added b (added a (row ∷ rows))
tied-tied a b row rows ea eb =
    ap (added a) (tied b row rows eb) ∙ tied a (grown b row) rows (at-grown b row a.next Equal ea)
    ∙ ap (λ (r : Row). r ∷ rows) (grown-swap a b row)
    ∙ sym (tied b (grown a row) rows (at-grown a row b.next Equal eb)) ∙ sym (ap (added b) (tied a row rows ea))

tied-greater : (a b : GameHit) (row : Row) (rows : List Row) → key_cmp row.key a.next ≡ Equal → key_cmp row.key b.next ≡ Greater
    → added a (added b (row ∷ rows)) ≡ added b (added a (row ∷ rows))
tied-greater a b row rows ea eb =
    let order : key_cmp b.next a.next ≡ Less = is-less a.next b.next (sym (key_total.congr row.key a.next b.next ea) ∙ eb) in
    ap (added a) (greater b row rows eb) ∙ less a (first b) (row ∷ rows) (at-first b a.next Less order)
    ∙ ap (λ (xs : List Row). first b ∷ xs) (tied a row rows ea)
    ∙ sym (greater b (grown a row) rows (at-grown a row b.next Greater eb)) ∙ sym (ap (added b) (tied a row rows ea))

greater-less : (a b : GameHit) (row : Row) (rows : List Row) → key_cmp row.key a.next ≡ Greater → key_cmp row.key b.next ≡ Greater
    → key_cmp b.next a.next ≡ Less → added a (added b (row ∷ rows)) ≡ added b (added a (row ∷ rows))
greater-less a b row rows ea eb order =
    ap (added a) (greater b row rows eb) ∙ less a (first b) (row ∷ rows) (at-first b a.next Less order)
    ∙ ap (λ (xs : List Row). first b ∷ xs) (greater a row rows ea)
    ∙ sym (greater b (first a) (row ∷ rows) (at-first a b.next Greater (is-greater b.next a.next order))) ∙ sym (ap (added b) (greater a row rows ea))

greater-tied : (a b : GameHit) (row : Row) (rows : List Row) → key_cmp row.key a.next ≡ Greater → key_cmp row.key b.next ≡ Greater
    → key_cmp b.next a.next ≡ Equal → added a (added b (row ∷ rows)) ≡ added b (added a (row ∷ rows))
greater-tied a b row rows ea eb order =
    ap (added a) (greater b row rows eb) ∙ tied a (first b) (row ∷ rows) (at-first b a.next Equal order)
    ∙ ap (λ (r : Row). r ∷ row ∷ rows) (first-swap a b order)
    ∙ sym (tied b (first a) (row ∷ rows) (at-first a b.next Equal (is-tied b.next a.next order))) ∙ sym (ap (added b) (greater a row rows ea))

both-greater : (o : Ordering) (a b : GameHit) (row : Row) (rows : List Row) → key_cmp row.key a.next ≡ Greater → key_cmp row.key b.next ≡ Greater
    → key_cmp b.next a.next ≡ o → added a (added b (row ∷ rows)) ≡ added b (added a (row ∷ rows))
both-greater Less a b row rows ea eb e = greater-less a b row rows ea eb e
both-greater Equal a b row rows ea eb e = greater-tied a b row rows ea eb e
both-greater Greater a b row rows ea eb e = sym (greater-less b a row rows eb ea (is-less b.next a.next e))

swap-by : (oa ob : Ordering) (a b : GameHit) (row : Row) (rows : List Row) → key_cmp row.key a.next ≡ oa → key_cmp row.key b.next ≡ ob
    → added a (added b rows) ≡ added b (added a rows) → added a (added b (row ∷ rows)) ≡ added b (added a (row ∷ rows))
swap-by Less Less a b row rows ea eb rest = less-less a b row rows ea eb rest
swap-by Less Equal a b row rows ea eb rest = less-tied a b row rows ea eb
swap-by Less Greater a b row rows ea eb rest = less-greater a b row rows ea eb
swap-by Equal Less a b row rows ea eb rest = sym (less-tied b a row rows eb ea)
swap-by Equal Equal a b row rows ea eb rest = tied-tied a b row rows ea eb
swap-by Equal Greater a b row rows ea eb rest = tied-greater a b row rows ea eb
swap-by Greater Less a b row rows ea eb rest = sym (less-greater b a row rows eb ea)
swap-by Greater Equal a b row rows ea eb rest = sym (tied-greater b a row rows eb ea)
swap-by Greater Greater a b row rows ea eb rest = both-greater (key_cmp b.next a.next) a b row rows ea eb refl

swap : (a b : GameHit) (rows : List Row) → added a (added b rows) ≡ added b (added a rows)
swap a b [] = swap-end a b
swap a b (row ∷ rows) = swap-by (key_cmp row.key a.next) (key_cmp row.key b.next) a b row rows refl refl (swap a b rows)

later : (hit : GameHit) (rows : List Row) (hits : List GameHit) → all_added (added hit rows) hits ≡ added hit (all_added rows hits)
unfolding all_added
later hit rows [] = refl
later hit rows (next ∷ hits) = ap (λ (xs : List Row). all_added xs hits) (swap next hit rows) ∙ later hit (added next rows) hits

pub any-order : (before behind : List GameHit) (hit : GameHit) → rows_of (before ++ hit ∷ behind) ≡ added hit (rows_of (before ++ behind))
unfolding all_added
any-order before behind hit =
    sym (rows-added before (hit ∷ behind)) ∙ later hit (rows_of before) behind ∙ ap (added hit) (rows-added before behind)

-- ---- every row has a game

abbrev Positive : List Row → Type 0
Positive rows = AllByRecursion (λ row. 1 ≤ row.games) rows

grown-positive : (hit : GameHit) (row : Row) → 1 ≤ (grown hit row).games
grown-positive hit row = let games = grown-games hit row in omega (arith, games)

positive-added : (hit : GameHit) (rows : List Row) → Positive rows → Positive (added hit rows)
positive-added hit [] h = (grown-positive hit (no_hits hit.next), tt)
positive-added hit (row ∷ rows) h = by (key_cmp row.key hit.next) refl (positive-added hit rows h.1)
  where
    by : (o : Ordering) → key_cmp row.key hit.next ≡ o → Positive (added hit rows) → Positive (added hit (row ∷ rows))
    by Less e rest = subst Positive (sym (less hit row rows e)) (h.0, rest)
    by Equal e rest = subst Positive (sym (tied hit row rows e)) (grown-positive hit row, h.1)
    by Greater e rest = subst Positive (sym (greater hit row rows e)) (grown-positive hit (no_hits hit.next), h)

positive-all : (rows : List Row) (hits : List GameHit) → Positive rows → Positive (all_added rows hits)
unfolding all_added
positive-all rows [] h = h
positive-all rows (hit ∷ hits) h = positive-all (added hit rows) hits (positive-added hit rows h)

positive : (hits : List GameHit) → Positive (rows_of hits)
positive hits = subst Positive (rows-added [] hits) (positive-all (rows_of []) hits (subst Positive no-rows tt))

-- ---- a hit that is taken away

-- these rows are the rest with the hit, and taking it away at its place leaves the rest
pub record Drops (hit : GameHit) (rest rows : List Row) : Type 0 where
  pub within : place_in rows hit.next < length rows
  pub counted : (d : Row) → IsCounted hit (get_or rows (place_in rows hit.next) d)
  pub gone : (d : Row) → (get_or rows (place_in rows hit.next) d).games ≡ 1 → remove rows (place_in rows hit.next) ≡ rest
  pub smaller : (d : Row) → ((get_or rows (place_in rows hit.next) d).games ≡ 1 → ⊥)
      → set rows (place_in rows hit.next) (shrunk hit (get_or rows (place_in rows hit.next) d)) ≡ rest

drops-tied : (hit : GameHit) (row : Row) (rows : List Row) → key_cmp row.key hit.next ≡ Equal → 1 ≤ row.games
    → Drops hit (row ∷ rows) (grown hit row ∷ rows)
drops-tied hit row rows e some =
    let here : key_cmp (grown hit row).key hit.next ≡ Equal = at-grown hit row hit.next Equal e in
    record {
      within = rw here (omega arith);
      counted = λ d. rw here (counted-grown hit row);
      gone = λ d one. let more = grown-games hit row in let now = rw here at one in absurd (omega (arith, some, more, now));
      smaller = λ d more. rw here (ap (λ (r : Row). r ∷ rows) (shrunk-grown hit row));
    }

drops-first : (hit : GameHit) (rows : List Row) → Drops hit rows (first hit ∷ rows)
drops-first hit rows =
    let here : key_cmp (first hit).key hit.next ≡ Equal = at-first hit hit.next Equal (tied_itself key_total hit.next) in
    record {
      within = rw here (omega arith);
      counted = λ d. rw here (counted-grown hit (no_hits hit.next));
      gone = λ d one. rw here refl;
      smaller = λ d more. absurd (more (rw here (grown-games hit (no_hits hit.next))));
    }

drops-later : (hit : GameHit) (row : Row) (rest rows : List Row) → key_cmp row.key hit.next ≡ Less → Drops hit rest rows
    → Drops hit (row ∷ rest) (row ∷ rows)
drops-later hit row rest rows e h =
    let below = h.within in
    record {
      within = rw e (omega (arith, below));
      counted = λ d. rw (e, add-one) (h.counted d);
      gone = λ d one. rw (e, add-one) (ap (λ (xs : List Row). row ∷ xs) (h.gone d (rw (e, add-one) at one)));
      smaller = λ d more. rw (e, add-one) (ap (λ (xs : List Row). row ∷ xs) (h.smaller d (λ one. more (rw (e, add-one) one))));
    }

drops : (hit : GameHit) (rest : List Row) → Positive rest → Drops hit rest (added hit rest)
drops hit [] h = drops-first hit []
drops hit (row ∷ rest) h = by (key_cmp row.key hit.next) refl (drops hit rest h.1)
  where
    by : (o : Ordering) → key_cmp row.key hit.next ≡ o → Drops hit rest (added hit rest) → Drops hit (row ∷ rest) (added hit (row ∷ rest))
    by Less e more = subst (Drops hit (row ∷ rest)) (sym (less hit row rest e)) (drops-later hit row rest (added hit rest) e more)
    by Equal e more = subst (Drops hit (row ∷ rest)) (sym (tied hit row rest e)) (drops-tied hit row rest e h.0)
    by Greater e more = subst (Drops hit (row ∷ rest)) (sym (greater hit row rest e)) (drops-first hit (row ∷ rest))

-- the same of the rows that are kept, whose items and slice are others by name
pub drops-of : (slice items rows : List Row) (before behind : List GameHit) (hit : GameHit) → slice ≡ items → items ≡ rows
    → rows ≡ rows_of (before ++ hit ∷ behind) → Drops hit (rows_of (before ++ behind)) slice
drops-of slice items rows before behind hit same view is =
    subst (Drops hit (rows_of (before ++ behind))) (sym (same ∙ view ∙ is ∙ any-order before behind hit)) (drops hit (rows_of (before ++ behind)) (positive (before ++ behind)))

pub drop-within : (slice items rest : List Row) (hit : GameHit) (n : ℕ) → slice ≡ items → n ≡ place_in slice hit.next → Drops hit rest slice → n < length items
drop-within slice items rest hit n same is h =
    let below = h.within in
    let as_long : length slice ≡ length items = ap length same in
    omega (arith, below, as_long, is)

pub drop-counted : (slice items rest : List Row) (hit : GameHit) (n : ℕ) (row : Row) → slice ≡ items → n ≡ place_in slice hit.next → row ≡ get_or items n row
    → Drops hit rest slice → IsCounted hit row
drop-counted slice items rest hit n row same is at h =
    subst (IsCounted hit) (sym (at ∙ ap (λ (xs : List Row). get_or xs n row) (sym same) ∙ ap (λ (k : ℕ). get_or slice k row) is)) (h.counted row)

pub drop-gone : (slice items rest after : List Row) (hit : GameHit) (n : ℕ) (row : Row) → slice ≡ items → n ≡ place_in slice hit.next → row ≡ get_or items n row
    → row.games ≡ 1 → after ≡ remove items n → Drops hit rest slice → after ≡ rest
drop-gone slice items rest after hit n row same is at one out h =
    let found : row ≡ get_or slice (place_in slice hit.next) row = at ∙ ap (λ (xs : List Row). get_or xs n row) (sym same) ∙ ap (λ (k : ℕ). get_or slice k row) is in
    out ∙ ap (λ (xs : List Row). remove xs n) (sym same) ∙ ap (remove slice) is ∙ h.gone row (sym (ap (λ (r : Row). r.games) found) ∙ one)

pub drop-smaller : (slice items rest : List Row) (hit : GameHit) (n : ℕ) (row now after : Row) → slice ≡ items → n ≡ place_in slice hit.next
    → row ≡ get_or items n row → (row.games ≡ 1 → ⊥) → now ≡ get_or items n now → n < length items → after ≡ shrunk hit now → Drops hit rest slice
    → set items n after ≡ rest
drop-smaller slice items rest hit n row now after same is at more at_now below less h =
    let found : row ≡ get_or slice (place_in slice hit.next) row = at ∙ ap (λ (xs : List Row). get_or xs n row) (sym same) ∙ ap (λ (k : ℕ). get_or slice k row) is in
    let one_row : now ≡ row = at_now ∙ get_or_default items n now row below ∙ sym at in
    ap (set items n) (less ∙ ap (shrunk hit) (one_row ∙ found)) ∙ ap (λ (xs : List Row). set xs n (shrunk hit (get_or slice (place_in slice hit.next) row))) (sym same)
    ∙ ap (λ (k : ℕ). set slice k (shrunk hit (get_or slice (place_in slice hit.next) row))) is
    ∙ h.smaller row (λ one. more (ap (λ (r : Row). r.games) found ∙ one))
