-- Games by their marks, games that stay, and a game that is added.
use Rattle.std.proofs.Common.{◌≡◌, ℕ, zero, suc, ◌+◌, ◌<◌, ◌≤◌, ◌&&◌, ◌||◌, Bool, true, false, cond, List, [], ◌∷◌, ◌++◌, Option, Some, None, nat_lt, length, take, get_or, set, Result, Ok, Err, OnOk, option_to_list, length-append, refl, sym, ap, ◌∙◌, add-one, arith}
use Rattle.std.proofs.lemmas.Bool.{false≢true, lt-ltb, le-ltb, ltb-true, ltb-false}
use Rattle.std.proofs.lemmas.List.{set-get_or, set_at, get_or_default}
use Rattle.std.proofs.lemmas.List.Elements.{All-nil, All-same}
use Rattle.game_filter.specs.Renumbering.{renumbered}
use Rattle.tree_rows.specs.declared.hit.GameHit.{GameHit}
use Rattle.tree_rows.specs.declared.row.Row.{Row}
use Rattle.tree_rows.specs.Rows.{IsHit, rows_of}
use Rattle.tree_live.specs.declared.entry.Entry.{Entry}
use Rattle.tree_live.specs.declared.marks.Marks.{Marks}
use Rattle.tree_live.specs.declared.marks.Marks.TheVariants.{Plies, Numbers}
use Rattle.tree_live.specs.Watching.{counted, hits_in, all_out, wanted, by_marks, with_game}
use Rattle.tree_live.specs.Keeping.{Sums, entry_at, marked, no_game, reaching}

-- ---- marks

marked-at : (marks : Marks) (list : List (Option ℕ)) (games : List Entry) (i : ℕ) (d : Option ℕ) → i < length list → length list ≡ length games
    → set (by_marks marks (take i list) games) i (marked marks (entry_at games i) (get_or list i d)) ≡ by_marks marks (take (suc i) list) games
marked-at marks [] games i d below same = absurd (omega (arith, below))
marked-at marks (m ∷ list) [] i d below same = absurd (omega (arith, same))
marked-at marks (m ∷ list) (g ∷ games) zero d below same = refl
marked-at marks (m ∷ list) (g ∷ games) (suc i) d below same =
    ap (λ (rest : List Entry). marked marks g m ∷ rest) (marked-at marks list games i d (omega (arith, below)) (omega (arith, same)))

-- the games from number i on are as they were
pub unmarked-at : (marks : Marks) (list : List (Option ℕ)) (games : List Entry) (i : ℕ) → entry_at (by_marks marks (take i list) games) i ≡ entry_at games i
unmarked-at marks [] games zero = refl
unmarked-at marks [] games (suc i) = refl
unmarked-at marks (m ∷ list) games zero = refl
unmarked-at marks (m ∷ list) [] (suc i) = refl
unmarked-at marks (m ∷ list) (g ∷ games) (suc i) = unmarked-at marks list games i

pub length-marks : (marks : Marks) (list : List (Option ℕ)) (games : List Entry) → length (by_marks marks list games) ≡ length games
length-marks marks [] games = refl
length-marks marks (m ∷ list) [] = refl
length-marks marks (m ∷ list) (g ∷ games) = omega (arith, length-marks marks list games)

-- ---- games that stay

stays : (game : Entry) (number : ℕ) → marked Numbers game (Some number) ≡ game
stays game number = ap (λ (b : Bool). record game { is_in = b }) (and-true game.is_in)
  where
    and-true : (b : Bool) → b && true ≡ b
    and-true true = refl
    and-true false = refl

goes : (game : Entry) → counted (marked Numbers game None) ≡ None
goes game = by game.is_in
  where
    by : (b : Bool) → cond (b && false) game.hit None ≡ None
    by true = refl
    by false = refl

pub renumbered-marks : (to : List (Option ℕ)) (games : List Entry) → renumbered to (by_marks Numbers to games) ≡ renumbered to games
renumbered-marks [] games = refl
renumbered-marks (None ∷ to) [] = refl
renumbered-marks (Some number ∷ to) [] = refl
renumbered-marks (None ∷ to) (g ∷ games) = renumbered-marks to games
renumbered-marks (Some number ∷ to) (g ∷ games) = λ i. stays g number i ∷ renumbered-marks to games i

pub renumbered-hits : (to : List (Option ℕ)) (games : List Entry) → length to ≡ length games
    → hits_in (renumbered to (by_marks Numbers to games)) ≡ hits_in (by_marks Numbers to games)
renumbered-hits [] [] same = refl
renumbered-hits [] (g ∷ games) same = absurd (omega (arith, same))
renumbered-hits (number ∷ to) [] same = absurd (omega (arith, same))
renumbered-hits (None ∷ to) (g ∷ games) same =
    renumbered-hits to games (omega (arith, same))
    ∙ ap (λ (c : Option GameHit). option_to_list c ++ hits_in (by_marks Numbers to games)) (sym (goes g))
renumbered-hits (Some number ∷ to) (g ∷ games) same =
    ap (λ (l : List GameHit). option_to_list (counted (marked Numbers g (Some number))) ++ l) (renumbered-hits to games (omega (arith, same)))

-- ---- the loop over the marks

pub marks-more : (marks : Marks) (list : List (Option ℕ)) (old now after : List Entry) (i : ℕ) → i < length list
    → length list ≡ length old → now ≡ by_marks marks (take i list) old
    → after ≡ set now i (marked marks (entry_at now i) (get_or list i None)) → after ≡ by_marks marks (take (i + 1) list) old
marks-more marks list old now after i below same so_far put =
    put
    ∙ ap (λ (games : List Entry). set games i (marked marks (entry_at games i) (get_or list i None))) so_far
    ∙ ap (λ (game : Entry). set (by_marks marks (take i list) old) i (marked marks game (get_or list i None))) (unmarked-at marks list old i)
    ∙ marked-at marks list old i None below same
    ∙ ap (λ (n : ℕ). by_marks marks (take n list) old) (sym (add-one i))

pub marks-none : (marks : Marks) (old : List Entry) (list : List (Option ℕ)) → old ≡ by_marks marks (take 0 list) old
marks-none marks old [] = refl
marks-none marks old (m ∷ list) = refl

-- a game that is in or out by its mark already
pub marked-already : (marks : Marks) (games : List Entry) (i : ℕ) (game : Entry) (m : Option ℕ) (is_in : Bool) → game ≡ entry_at games i
    → is_in ≡ wanted marks game.is_in m → is_in ≡ game.is_in → set games i (marked marks (entry_at games i) m) ≡ games
marked-already marks games i game m is_in at is already =
    ap (λ (e : Entry). set games i (marked marks e m)) (sym at)
    ∙ ap (λ (b : Bool). set games i (record game { is_in = b })) (sym is ∙ already)
    ∙ ap (set games i) at ∙ set-get_or games i no_game

-- ---- what code reads

pub on-ok : {A E P Q : Type 0} (r : Result A E) → (P → Q) → OnOk r P → OnOk r Q
on-ok (Ok x) f h = f h
on-ok (Err e) f h = h

-- the game at a place
pub entry-read : (items games : List Entry) (i : ℕ) (game : Entry) → items ≡ games → i < length games → game ≡ get_or items i game → game ≡ entry_at games i
entry-read items games i game same below at =
    at ∙ ap (λ (list : List Entry). get_or list i game) same ∙ get_or_default games i game no_game below

-- ---- games that are numbered anew

pub moved-sums : (to : List (Option ℕ)) (items games after : List Entry) (rows : List Row) → items ≡ games
    → hits_in (renumbered to games) ≡ hits_in games → after ≡ renumbered to items → Sums items rows → Sums after rows
moved-sums to items games after rows is out moved sums =
    let hits : hits_in after ≡ hits_in items
    = ap hits_in (moved ∙ ap (λ (list : List Entry). renumbered to list) is) ∙ out ∙ ap hits_in (sym is) in
    record { summed = sums.summed ∙ ap rows_of (sym hits); ranges = All-same IsHit (hits_in after) (hits_in items) hits sums.ranges }

pub renumbered-out : (to numbers : List (Option ℕ)) (games now : List Entry) → to ≡ numbers → now ≡ by_marks Numbers to games
    → length numbers ≡ length games → hits_in (renumbered numbers now) ≡ hits_in now
renumbered-out to numbers games now given is same =
    ap (λ (list : List Entry). hits_in (renumbered numbers list)) is
    ∙ ap (λ (list : List (Option ℕ)). hits_in (renumbered list (by_marks Numbers to games))) (sym given)
    ∙ renumbered-hits to games (ap (λ (list : List (Option ℕ)). length list) given ∙ same) ∙ ap hits_in (sym is)

pub renumbered-games : (to numbers : List (Option ℕ)) (games now : List Entry) → to ≡ numbers → now ≡ by_marks Numbers to games
    → renumbered numbers now ≡ renumbered numbers games
renumbered-games to numbers games now given is =
    ap (λ (list : List Entry). renumbered numbers list) is
    ∙ ap (λ (list : List (Option ℕ)). renumbered list (by_marks Numbers to games)) (sym given)
    ∙ renumbered-marks to games ∙ ap (λ (list : List (Option ℕ)). renumbered list games) given

-- ---- games that are all out

no-hits-out : (hits : List (Option GameHit)) → hits_in (all_out hits) ≡ []
no-hits-out [] = refl
no-hits-out (hit ∷ hits) = no-hits-out hits

pub out-few : (hits : List (Option GameHit)) (i : ℕ) → length (all_out (take i hits)) ≤ length hits
out-few [] zero = omega arith
out-few [] (suc i) = omega arith
out-few (hit ∷ hits) zero = omega arith
out-few (hit ∷ hits) (suc i) = omega (arith, out-few hits i)

pub out-sums : (hits : List (Option GameHit)) (items : List Entry) (rows : List Row) → items ≡ all_out hits → rows ≡ rows_of [] → Sums items rows
out-sums hits items rows is none =
    let no_hits : hits_in items ≡ [] = ap hits_in is ∙ no-hits-out hits in
    record { summed = none ∙ ap rows_of (sym no_hits); ranges = All-same IsHit (hits_in items) [] no_hits (All-nil IsHit) }

-- ---- a game that is added

pub reached : (games : List Entry) (i : ℕ) → i < length games → reaching i games ≡ games
reached games i below = rw (lt-ltb i (length games) below) refl

pub reached-anew : (games : List Entry) (i : ℕ) → length games ≤ i → reaching i games ≡ games ++ no_game ∷ []
reached-anew games i past = rw (le-ltb i (length games) past) refl

pub reaching-games : (games : List Entry) (i : ℕ) (game : Entry) → i ≤ length games → set (reaching i games) i game ≡ with_game i game games
reaching-games games i game within = by (nat_lt i (length games)) refl
  where
    by : (b : Bool) → nat_lt i (length games) ≡ b → set (cond b games (games ++ no_game ∷ [])) i game ≡ cond b (set games i game) (games ++ game ∷ [])
    by true e = refl
    by false e = set_at games no_game [] game i (omega (arith, within, ltb-false i (length games) e))

pushed-at : (games : List Entry) → entry_at (games ++ no_game ∷ []) (length games) ≡ no_game
pushed-at [] = refl
pushed-at (g ∷ games) = pushed-at games

pub reaching-below : (games : List Entry) (i : ℕ) → i ≤ length games → i < length (reaching i games)
reaching-below games i within = by (nat_lt i (length games)) refl
  where
    by : (b : Bool) → nat_lt i (length games) ≡ b → i < length (cond b games (games ++ no_game ∷ []))
    by true e = ltb-true i (length games) e
    by false e = omega (arith, within, length-append games (no_game ∷ []))

-- one game has changed
pub changed-games : (games there now : List Entry) (i place : ℕ) (game : Entry) → place ≡ i → i ≤ length games → there ≡ reaching place games
    → now ≡ set there place game → now ≡ with_game i game games
changed-games games there now i place game is within reach put =
    put ∙ ap (λ (list : List Entry). set list place game) reach ∙ ap (λ (n : ℕ). set (reaching n games) n game) is ∙ reaching-games games i game within
