-- One step more of what the functions of this crate do.
use Rattle.std.proofs.Common.{◌≡◌, ◌<◌, ◌+◌, ◌==◌, ℕ, Bool, true, false, true≢false, cond, not, ltb, List, [], ◌∷◌, ◌++◌, length, take, drop, map, filter, get_or, None, Some, OnOk, Result, Ok, Err, slice_get, zero, suc, add-one, refl, sym, ap, ◌∙◌, arith, position, ◌||◌, if◌then◌else◌}
use Rattle.std.specs.List.{prefix_len, position_or_len, list_any}
use Rattle.std.specs.Str.{bytes_eq}
use Rattle.std.proofs.lemmas.Bool.Decides.{nat_tests}
use Rattle.std.proofs.lemmas.List.{append-nil, append_assoc, get_or_default, length-map, map-append}
use Rattle.std.proofs.lemmas.List.Sums.{fold_more, sum_by_more}
use Rattle.std.proofs.Math.Seq.{drop-cons}
use Rattle.indexmap.specs.IndexSet.{insert_key}
use Rattle.game_tree.specs.declared.head.Head.{Head}
use Rattle.game_tree.specs.declared.head.Outcome.{Outcome}
use Rattle.sig_index.specs.Games.{head_in, no_head}
use Rattle.cross_table.specs.declared.played.Played.{Played}
use Rattle.cross_table.specs.declared.played.Met.{Met}
use Rattle.cross_table.specs.Crosstable.{half_points_of, is_of, line_text, lines_text, or_dot, sign, table_text, with_name}
use Rattle.cross_table.specs.Keeping.{Entered, Standing, entered, entrants, has_met, last_text, met_known, met_points, mets, no_entrants, pairing_of, place_of, row_cell, row_cells, row_line, rows_below, signs_with, standing_of, table_in, with_head, with_row}
use Rattle.cross_table.proofs.NameLaws.{absent}

-- ---- a name that is looked up among keys, and one that is put behind them

module _ {X : Type 0} (f : X → List ℕ) where
  prefix_len-map : (p : List ℕ → Bool) (xs : List X) → prefix_len p (map f xs) ≡ prefix_len (λ x. p (f x)) xs
  prefix_len-map p [] = refl
  prefix_len-map p (x ∷ xs) = ap (λ n. cond (p (f x)) (1 + n) 0) (prefix_len-map p xs)

  list_any-map : (p : List ℕ → Bool) (xs : List X) → list_any p (map f xs) ≡ list_any (λ x. p (f x)) xs
  list_any-map p [] = refl
  list_any-map p (x ∷ xs) = ap (λ b. p (f x) || b) (list_any-map p xs)

  position-map : (p : List ℕ → Bool) (xs : List X) → position p (map f xs) ≡ position (λ x. p (f x)) xs
  position-map p xs =
      let at = prefix_len-map (λ y. not (p y)) xs in
      let long = length-map xs f in
      λ i. cond (ltb (at i) (long i)) (Some (at i)) None

  names_inserted : (keys : List X) (k : X) → map f (insert_key (λ x y. bytes_eq (f x) (f y)) keys k) ≡ with_name (map f keys) (f k)
  names_inserted keys k =
      ap (λ b. map f (if b then keys else keys ++ k ∷ [])) (sym (list_any-map (bytes_eq (f k)) keys))
      ∙ by (list_any (bytes_eq (f k)) (map f keys))
    where
      by : (b : Bool) → map f (if b then keys else keys ++ k ∷ []) ≡ (if b then map f keys else map f keys ++ f k ∷ [])
      by true = refl
      by false = map-append f keys (k ∷ [])

  pub names_added : (keys after : List X) (k : X) (names : List (List ℕ)) (name : List ℕ)
      → map f keys ≡ names → f k ≡ name → after ≡ insert_key (λ x y. bytes_eq (f x) (f y)) keys k → map f after ≡ with_name names name
  names_added keys after k names name seen is done = ap (map f) done ∙ names_inserted keys k ∙ (λ i. with_name (seen i) (is i))

  pub name_found : (keys : List X) (names : List (List ℕ)) (name : List ℕ) (place : ℕ) → map f keys ≡ names
      → Some place ≡ position (λ x. bytes_eq name (f x)) keys → Some place ≡ position (bytes_eq name) names
  name_found keys names name place seen at = at ∙ sym (position-map (bytes_eq name) keys) ∙ ap (λ names. position (bytes_eq name) names) seen

  pub name_missed : (keys : List X) (names : List (List ℕ)) (name : List ℕ) → map f keys ≡ names
      → None ≡ position (λ x. bytes_eq name (f x)) keys → None ≡ position (bytes_eq name) names
  name_missed keys names name seen at = at ∙ sym (position-map (bytes_eq name) keys) ∙ ap (λ names. position (bytes_eq name) names) seen

  pub keys_long : (keys : List X) (names : List (List ℕ)) → map f keys ≡ names → length names ≡ length keys
  keys_long keys names seen = sym (ap (λ (l : List (List ℕ)). length l) seen) ∙ length-map keys f

found_is : (p : List ℕ → Bool) (xs : List (List ℕ)) → ltb (position_or_len p xs) (length xs) ≡ list_any p xs
found_is p [] = refl
found_is p (x ∷ xs) = by (p x) (found_is p xs)
  where
    by : (b : Bool) → ltb (position_or_len p xs) (length xs) ≡ list_any p xs → ltb (cond (not b) (1 + position_or_len p xs) 0) (length (x ∷ xs)) ≡ (b || list_any p xs)
    by true rest = grind (arith, nat_tests)
    by false rest = (let e : ltb (1 + position_or_len p xs) (length (x ∷ xs)) ≡ ltb (position_or_len p xs) (length xs) = grind (arith, nat_tests) in e) ∙ rest

place_by : (b : Bool) (place n : ℕ) → Some place ≡ cond b (Some n) None → place ≡ n
place_by true place n e = cc
place_by false place n e = cc

pub placed : (names : List (List ℕ)) (name : List ℕ) (place : ℕ) → Some place ≡ position (bytes_eq name) names → place ≡ place_of names name
placed names name place at = place_by (ltb (place_of names name) (length names)) place (place_of names name) at

there_by : (b : Bool) (place n : ℕ) → Some place ≡ cond b (Some n) None → b ≡ true
there_by true place n e = refl
there_by false place n e = cc

pub with_name-there : (names : List (List ℕ)) (name : List ℕ) (place : ℕ) → Some place ≡ position (bytes_eq name) names → names ≡ with_name names name
with_name-there names name place at =
    sym (ap (λ b. if b then names else names ++ name ∷ [])
    (sym (found_is (bytes_eq name) names) ∙ there_by (ltb (place_of names name) (length names)) place (place_of names name) at))

gone_by : (b : Bool) (n : ℕ) → None ≡ cond b (Some n) None → b ≡ false
gone_by true n e = cc
gone_by false n e = refl

pub place-last : (names : List (List ℕ)) (name : List ℕ) (count : ℕ) → None ≡ position (bytes_eq name) names → length names ≡ count → count ≡ place_of names name
place-last names name count at long =
    sym long
    ∙ sym (absent names name (sym (found_is (bytes_eq name) names) ∙ gone_by (ltb (place_of names name) (length names)) (place_of names name) at))

-- ---- one game more of the base

pub entrants_more : (event : List ℕ) (heads : List Head) (i : ℕ) (before after : Entered) → i < length heads → before ≡ entrants event (take i heads)
    → after ≡ with_head event before (head_in heads i) → after ≡ entrants event (take (i + 1) heads)
unfolding entrants
entrants_more event heads i before after below so_far taken =
    taken
    ∙ ap (λ (e : Entered). with_head event e (head_in heads i)) so_far
    ∙ sym (fold_more (with_head event) no_entrants heads i no_head below)

pub not_taken : (event : List ℕ) (e : Entered) (head : Head) (b : Bool) → b ≡ is_of event head → b ≡ false → e ≡ with_head event e head
unfolding with_head
not_taken event e head b is other = sym (ap (λ (t : Bool). if t then entered (pairing_of head) e else e) (sym is ∙ other))

pub taken : (event : List ℕ) (before after : Entered) (head : Head) (b : Bool) → b ≡ is_of event head → b ≡ true
    → after ≡ entered (pairing_of head) before → after ≡ with_head event before head
unfolding with_head
taken event before after head b is one goes =
    goes ∙ sym (ap (λ (t : Bool). if t then entered (pairing_of head) before else before) (sym is ∙ one))

pub entered_is : (old : Entered) (names0 names1 names2 : List (List ℕ)) (games0 games1 : List Played) (head : Head) (w b : ℕ) (white black : List ℕ) (o : Outcome)
    → record { names = names0; games = games0 } ≡ old
    → white ≡ head.white → w ≡ place_of names0 white → names1 ≡ with_name names0 white
    → black ≡ head.black → b ≡ place_of names1 black → names2 ≡ with_name names1 black
    → o ≡ head.result → games1 ≡ games0 ++ record { white = w; black = b; result = o } ∷ []
    → record { names = names2; games = games1 } ≡ entered (pairing_of head) old
unfolding entered
entered_is old names0 names1 names2 games0 games1 head w b white black o view white_is w_is first black_is b_is second o_is put =
    let one : names1 ≡ with_name names0 head.white = first ∙ ap (λ (n : List ℕ). with_name names0 n) white_is in
    let two : names2 ≡ with_name (with_name names0 head.white) head.black = second ∙ (λ j. with_name (one j) (black_is j)) in
    let at_white : w ≡ place_of names0 head.white = w_is ∙ ap (λ (n : List ℕ). place_of names0 n) white_is in
    let at_black : b ≡ place_of (with_name names0 head.white) head.black = b_is ∙ (λ j. place_of (one j) (black_is j)) in
    let all : games1 ≡ games0
    ++ record { white = place_of names0 head.white; black = place_of (with_name names0 head.white) head.black; result = head.result } ∷ []
    = put ∙ (λ j. games0 ++ record { white = at_white j; black = at_black j; result = o_is j } ∷ []) in
    (λ j. record { names = two j; games = all j }) ∙ ap (λ (e : Entered). entered (pairing_of head) e) view

pub on-ok : {A E P Q : Type 0} (r : Result A E) → (P → Q) → OnOk r P → OnOk r Q
on-ok (Ok x) f h = f h
on-ok (Err e) f h = h

-- ---- rows

pub at_place : (names : List (List ℕ)) (i : ℕ) (name : List ℕ) → slice_get names i ≡ Some name → name ≡ get_or names i []
at_place [] i name at = cc
at_place (first ∷ names) zero name at = cc
at_place (first ∷ names) (suc i) name at = at_place names i name at

pub rows_more : (e : Entered) (id : ℕ) (before after : List Standing) (row : Standing) → before ≡ rows_below e id
    → row ≡ standing_of id (get_or e.names id []) e.games → after ≡ with_row before row → after ≡ rows_below e (id + 1)
rows_more e id before after row so_far is put =
    put ∙ (λ j. with_row (so_far j) (is j)) ∙ ap (λ (n : ℕ). rows_below e n) (sym (add-one id))

pub row_made : (id : ℕ) (given name : List ℕ) (games : List Played) (met first second : List Met) (points known : ℕ)
    → met ≡ mets id games → name ≡ given → points ≡ met_points first → first ≡ met → known ≡ met_known second → second ≡ met
    → record { id = id; name = name; half_points = points; games = known; met = met } ≡ standing_of id given games
unfolding standing_of
row_made id given name games met first second points known met_is name_is points_is first_is known_is second_is = λ j.
    record {
      id = id;
      name = name_is j;
      half_points = (points_is ∙ ap (λ (l : List Met). met_points l) (first_is ∙ met_is)) j;
      games = (known_is ∙ ap (λ (l : List Met). met_known l) (second_is ∙ met_is)) j;
      met = met_is j;
    }

pub points_at : (met : List Met) (i : ℕ) (d : Met) (before after more : ℕ) → i < length met → before ≡ met_points (take i met)
    → more ≡ half_points_of (get_or met i d).score → after ≡ before + more → after ≡ met_points (take (i + 1) met)
points_at met i d before after more below so_far gains sums =
    sums ∙ (λ j. so_far j + gains j) ∙ sym (sum_by_more (λ (x : Met). half_points_of x.score) met i d below)

-- ---- one element more of what is left

drop_next : {X : Type 0} (xs : List X) (i : ℕ) (x : X) → i < length xs → x ≡ get_or xs i x → drop i xs ≡ x ∷ drop (i + 1) xs
drop_next xs i x below is = drop-cons xs i x below ∙ (λ j. sym is j ∷ drop (sym (add-one i) j) xs)

pub lines_more : (all rows : List Standing) (i k : ℕ) (row : Standing) (before after start : List ℕ) → i < length rows → row ≡ get_or rows i row
    → before ++ lines_text (k + 1) (map (row_line all) (drop i rows)) ≡ start
    → after ≡ before ++ line_text (k + 1) (row_line all row)
    → after ++ lines_text (k + 1 + 1) (map (row_line all) (drop (i + 1) rows)) ≡ start
lines_more all rows i k row before after start below is so_far put =
    let rest : List ℕ = lines_text (k + 1 + 1) (map (row_line all) (drop (i + 1) rows)) in
    ap (λ (t : List ℕ). t ++ rest) put
    ∙ append_assoc before (line_text (k + 1) (row_line all row)) rest
    ∙ sym (ap (λ (l : List Standing). before ++ lines_text (k + 1) (map (row_line all) l)) (drop_next rows i row below is))
    ∙ so_far

pub cells_more : (row : Standing) (rows : List Standing) (i : ℕ) (column : Standing) (before spaced after start : List ℕ) → i < length rows
    → column ≡ get_or rows i column → before ++ row_cells row (drop i rows) ≡ start → spaced ≡ before ++ 32 ∷ []
    → after ≡ spaced ++ row_cell row column → after ++ row_cells row (drop (i + 1) rows) ≡ start
cells_more row rows i column before spaced after start below is so_far space put =
    let rest : List ℕ = row_cells row (drop (i + 1) rows) in
    ap (λ (t : List ℕ). t ++ rest) (put ∙ ap (λ (t : List ℕ). t ++ row_cell row column) space ∙ append_assoc before (32 ∷ []) (row_cell row column))
    ∙ append_assoc before (32 ∷ row_cell row column) rest
    ∙ sym (ap (λ (l : List Standing). before ++ row_cells row l) (drop_next rows i column below is))
    ∙ so_far

pub and_none : (xs : List ℕ) → xs ≡ xs ++ []
and_none xs = sym (append-nil xs)

signs_more : (id : ℕ) (met : List Met) (i : ℕ) (m : Met) (before after start : List ℕ) → i < length met → m ≡ get_or met i m
    → before ++ signs_with id (drop i met) ≡ start → after ≡ before ++ signs_with id (m ∷ []) → after ++ signs_with id (drop (i + 1) met) ≡ start
signs_more id met i m before after start below is so_far put =
    let rest : List ℕ = signs_with id (drop (i + 1) met) in
    ap (λ (t : List ℕ). t ++ rest) put
    ∙ append_assoc before (signs_with id (m ∷ [])) rest
    ∙ ap (λ (l : List ℕ). before ++ l) (by (id == m.other))
    ∙ sym (ap (λ (l : List Met). before ++ signs_with id l) (drop_next met i m below is))
    ∙ so_far
  where
    by : (b : Bool) → map (λ (x : Met). sign x.score) (cond b (m ∷ []) []) ++ signs_with id (drop (i + 1) met)
        ≡ map (λ (x : Met). sign x.score) (cond b (m ∷ filter (λ (x : Met). id == x.other) (drop (i + 1) met)) (filter (λ (x : Met). id == x.other) (drop (i + 1) met)))
    by true = refl
    by false = refl

-- ---- cells

pub signs_at : (id : ℕ) (met : List Met) (i : ℕ) (d : Met) (before after start : List ℕ) → i < length met
    → before ++ signs_with id (drop i met) ≡ start → after ≡ before ++ signs_with id (get_or met i d ∷ [])
    → after ++ signs_with id (drop (i + 1) met) ≡ start
signs_at id met i d before after start below so_far put =
    signs_more id met i (get_or met i d) before after start below (get_or_default met i d (get_or met i d) below) so_far put

pub cell_signs : (id : ℕ) (met : List Met) → has_met id met ≡ true → signs_with id met ≡ or_dot (signs_with id met)
cell_signs id [] is = absurd (true≢false (sym is))
cell_signs id (m ∷ met) is = by (id == m.other) (cell_signs id met) is
  where
    by : (b : Bool) → (has_met id met ≡ true → signs_with id met ≡ or_dot (signs_with id met)) → (b || has_met id met) ≡ true
        → map (λ (x : Met). sign x.score) (cond b (m ∷ filter (λ (x : Met). id == x.other) met) (filter (λ (x : Met). id == x.other) met))
        ≡ or_dot (map (λ (x : Met). sign x.score) (cond b (m ∷ filter (λ (x : Met). id == x.other) met) (filter (λ (x : Met). id == x.other) met)))
    by true rest h = refl
    by false rest h = rest h

pub cell_dot : (id : ℕ) (met : List Met) → has_met id met ≡ false → 46 ∷ [] ≡ or_dot (signs_with id met)
cell_dot id [] is = refl
cell_dot id (m ∷ met) is = by (id == m.other) (cell_dot id met) is
  where
    by : (b : Bool) → (has_met id met ≡ false → 46 ∷ [] ≡ or_dot (signs_with id met)) → (b || has_met id met) ≡ false
        → 46 ∷ [] ≡ or_dot (map (λ (x : Met). sign x.score) (cond b (m ∷ filter (λ (x : Met). id == x.other) met) (filter (λ (x : Met). id == x.other) met)))
    by true rest h = absurd (true≢false h)
    by false rest h = rest h

-- ---- the whole text

pub table_pushed : (rows : List Standing) (games : ℕ) (old first after : List ℕ) (count : ℕ) → first ≡ old ++ lines_text 1 (map (row_line rows) rows)
    → count ≡ length rows → after ≡ first ++ last_text count games → after ≡ old ++ table_text (table_in rows games)
unfolding table_text table_in
table_pushed rows games old first after count lines is put =
    put
    ∙ (λ j. lines j ++ last_text ((is ∙ sym (length-map rows (row_line rows))) j) games)
    ∙ append_assoc old (lines_text 1 (map (row_line rows) rows)) (last_text (length (map (row_line rows) rows)) games)
