-- Laws of kept filters: each goes on to have an entry for each game, and at most eight are kept.
use Rattle.std.specs.Option.{option_map_or}
use Rattle.std.proofs.Common.{◌≡◌, ◌≤◌, ℕ, zero, suc, ◌+◌, Bool, true, false, cond, nat_lt, [], ◌∷◌, ◌++◌, List, All, Option, Some, None, length, map, take, drop, get_or, refl, subst, arith}
use Rattle.std.proofs.lemmas.Bool.{ltb-true}
use Rattle.std.proofs.lemmas.List.{length-append, length-drop, length-map, length-set, length-take}
use Rattle.std.proofs.lemmas.List.Elements.{All-append, All-cons, All-drop, All-map, All-nil, All-set, All-take}
use Rattle.std.specs.Prelude.{option_and_then, option_map, slice_get}
use Rattle.game_filter.specs.Renumbering.{renumbered}
use Rattle.filter_seat.proofs.SavedLaws.{all_to_start, all_with_game}
use Rattle.filter_seat.specs.SavedFilters.{dropped_in, joined_with, kept_at, kept_in, kept_renumbered, kept_to_start, most_saved, place_of, saved_named, without_last}
use Rattle.filter_seat.specs.declared.saved.SavedFilter.{SavedFilter}

-- They have entries for so many games, and are at most eight.
abbrev pub AreKept : ℕ → List SavedFilter → Type 0
AreKept games saved = All (λ (f : SavedFilter). length f.plies ≡ games) saved × (length saved ≤ most_saved)

-- ---- keep, drop

kept_by : (test : Bool) (saved : List SavedFilter) (new : SavedFilter) (games : ℕ) → nat_lt (length saved) most_saved ≡ test → length new.plies ≡ games → AreKept games saved
    → AreKept games (cond test (saved ++ new ∷ []) saved)
kept_by true saved new games room long kept =
    let P : SavedFilter → Type 0 = λ f. length f.plies ≡ games in
    (All-append P saved (new ∷ []) kept.0 (All-cons P new [] long (All-nil P)), omega (arith, ltb-true (length saved) most_saved room, length-append saved (new ∷ [])))
kept_by false saved new games room long kept = kept

kept_full : (saved : List SavedFilter) (new : SavedFilter) (games : ℕ) (place : Option ℕ) → length new.plies ≡ games → AreKept games saved → AreKept games (kept_at saved new place)
kept_full saved new games (Some place) long kept =
    (All-set (λ (f : SavedFilter). length f.plies ≡ games) saved place new long kept.0, omega (arith, kept.1, length-set saved place new))
kept_full saved new games None long kept = kept_by (nat_lt (length saved) most_saved) saved new games refl long kept

pub one_kept : (saved : List SavedFilter) (name : List ℕ) (plies : List (Option ℕ)) (games : ℕ) → length plies ≡ games → AreKept games saved → AreKept games (kept_in saved name plies)
one_kept saved name plies games long kept = kept_full saved (record { name = name; plies = plies }) games (place_of saved name) long kept

dropped_full : (saved : List SavedFilter) (games : ℕ) (place : Option ℕ) → AreKept games saved → AreKept games (option_map_or (λ p. take p saved ++ drop (p + 1) saved) place saved)
dropped_full saved games (Some place) kept =
    let P : SavedFilter → Type 0 = λ f. length f.plies ≡ games in
    let all = length-append (take place saved) (drop (place + 1) saved) in (
      All-append P (take place saved) (drop (place + 1) saved) (All-take P place saved kept.0) (All-drop P (place + 1) saved kept.0),
      omega (arith, kept.1, all, length-take place saved, length-drop (place + 1) saved),
    )
dropped_full saved games None kept = kept

pub one_dropped : (saved : List SavedFilter) (name : List ℕ) (games : ℕ) → AreKept games saved → AreKept games (dropped_in saved name)
unfolding dropped_in
one_dropped saved name games kept = dropped_full saved games (place_of saved name) kept

-- ---- use, and, or

at_place : (P : SavedFilter → Type 0) (saved : List SavedFilter) (place : ℕ) (f : SavedFilter) → All P saved → slice_get saved place ≡ Some f → P f
at_place P [] place f all is = absurd (cc)
at_place P (x ∷ saved) zero f all is = let same : x ≡ f = cc in subst P same (all 0 x (omega arith))
at_place P (x ∷ saved) (suc place) f all is = at_place P saved place f (λ k d within. all (suc k) d (omega (arith, within))) is

plies_long : (o : Option SavedFilter) (games : ℕ) (own : List (Option ℕ)) (join : List (Option ℕ) → List (Option ℕ) → List (Option ℕ)) → ((f : SavedFilter) → o ≡ Some f → length f.plies ≡ games)
    → ((other : List (Option ℕ)) → length other ≡ games → length (join own other) ≡ games) → length own ≡ games → length (joined_with join own (option_map (λ (f : SavedFilter). f.plies) o)) ≡ games
plies_long (Some f) games own join fits joins long = joins f.plies (fits f refl)
plies_long None games own join fits joins long = long

placed_long : (saved : List SavedFilter) (place : Option ℕ) (games : ℕ) (own : List (Option ℕ)) (join : List (Option ℕ) → List (Option ℕ) → List (Option ℕ)) → All (λ (f : SavedFilter). length f.plies ≡ games) saved
    → ((other : List (Option ℕ)) → length other ≡ games → length (join own other) ≡ games) → length own ≡ games → length (joined_with join own (option_and_then (λ p. option_map (λ (f : SavedFilter). f.plies) (slice_get saved p)) place)) ≡ games
placed_long saved (Some place) games own join all joins long =
    plies_long (slice_get saved place) games own join (λ f is. at_place (λ (f : SavedFilter). length f.plies ≡ games) saved place f all is) joins long
placed_long saved None games own join all joins long = long

pub joined_long : (saved : List SavedFilter) (name : List ℕ) (games : ℕ) (own : List (Option ℕ)) (join : List (Option ℕ) → List (Option ℕ) → List (Option ℕ)) → All (λ (f : SavedFilter). length f.plies ≡ games) saved
    → ((other : List (Option ℕ)) → length other ≡ games → length (join own other) ≡ games) → length own ≡ games → length (joined_with join own (saved_named saved name)) ≡ games
joined_long saved name games own join all joins long = placed_long saved (place_of saved name) games own join all joins long

-- ---- games that come, and go

pub all_left_out : (saved : List SavedFilter) (games : ℕ) → AreKept games saved → AreKept (games + 1) (map without_last saved)
all_left_out saved games kept = (all_with_game games saved kept.0, omega (arith, kept.1, length-map saved without_last))

pub all_put_at_start : (i : ℕ) (saved : List SavedFilter) (games : ℕ) → AreKept games saved → AreKept games (map (kept_to_start i) saved)
all_put_at_start i saved games kept = (all_to_start i games saved kept.0, omega (arith, kept.1, length-map saved (kept_to_start i)))

pub all_renumbered : (to : List (Option ℕ)) (saved : List SavedFilter) (games left : ℕ) → ((plies : List (Option ℕ)) → length plies ≡ games → length (renumbered to plies) ≡ left) → AreKept games saved
    → AreKept left (map (kept_renumbered to) saved)
all_renumbered to saved games left moves kept = (
  All-map (λ (f : SavedFilter). length f.plies ≡ left) (kept_renumbered to) saved (λ k d within. moves (get_or saved k d).plies (kept.0 k d within)),
  omega (arith, kept.1, length-map saved (kept_renumbered to)),
)
