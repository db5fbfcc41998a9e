-- Where a game matches, and where it does not.
use Rattle.std.proofs.Common.{◌≡◌, ℕ, ◌+◌, ◌-◌, ◌<◌, ◌≤◌, Bool, true, false, ◌&&◌, ◌||◌, leb, get_or, None, Some, refl, sym, ap, ◌∙◌, subst, arith}
use Rattle.std.specs.List.{list_all, range_with_len}
use Rattle.std.proofs.lemmas.Bool.{and_from, and_left, and_right, le-leb, lt-leb, or_from}
use Rattle.std.proofs.lemmas.List.Folds.{list_all_at}
use Rattle.std.proofs.lemmas.List.FromFn.{get_or-range_with_len, length-range_with_len}
use Rattle.game_tree.specs.Game.{GameTree}
use Rattle.game_tree.specs.Replay.{plies_of}
use Rattle.sig_index.specs.declared.mat_query.MatQuery.{MatQuery}
use Rattle.sig_index.specs.declared.mat_query.MatRange.{MatRange}
use Rattle.sig_index.proofs.Ranges.{all_from, find_first, find_none}
use Rattle.mat_search.specs.Matching.{counts_at, exchanged, first_of, in_range, is_streak, matches_at}
use Rattle.mat_search.proofs.StreakLemmas.{Fails}

-- The tests of a query at a ply: its range, and with `swap` the exchanged one.
abbrev pub own_at : MatQuery → GameTree → ℕ → Bool
own_at query game k = in_range query.range (counts_at game k)

abbrev pub other_at : MatQuery → GameTree → ℕ → Bool
other_at query game k = query.swap && in_range (exchanged query.range) (counts_at game k)

-- ---- streaks

-- A streak that is not one.
pub streak_fails : (range : MatRange) (game : GameTree) (ply plies : ℕ) → Fails (λ k. in_range range (counts_at game k)) plies ply → is_streak range game ply plies ≡ false
streak_fails range game ply plies fails =
    let test : ℕ → Bool = λ k. in_range range (counts_at game k) in
    let within : fails.at - ply < plies = omega (arith, fails.behind, fails.before) in
    let at : get_or (range_with_len ply plies) (fails.at - ply) 0 ≡ fails.at =
    get_or-range_with_len ply plies (fails.at - ply) 0 within ∙ (let e : ply + (fails.at - ply) ≡ fails.at = omega (arith, fails.behind) in e) in
    and_right (leb (ply + plies - 1) (plies_of game)) (list_all test (range_with_len ply plies))
    (list_all_at test (range_with_len ply plies) (fails.at - ply) 0 (subst (λ n. fails.at - ply < n) (sym (length-range_with_len ply plies)) within)
    (ap test at ∙ fails.failed))

-- One that would go past the end.
pub streak_past : (range : MatRange) (game : GameTree) (ply plies : ℕ) → plies_of game < ply + plies - 1 → is_streak range game ply plies ≡ false
streak_past range game ply plies past =
    and_left (leb (ply + plies - 1) (plies_of game)) (list_all (λ k. in_range range (counts_at game k)) (range_with_len ply plies)) (lt-leb (ply + plies - 1) (plies_of game) past)

pub streak_holds : (range : MatRange) (game : GameTree) (ply plies : ℕ) → ply + plies - 1 ≤ plies_of game
    → ((k : ℕ) → ply ≤ k → k < ply + plies → in_range range (counts_at game k) ≡ true) → is_streak range game ply plies ≡ true
streak_holds range game ply plies within pass =
    and_from (leb (ply + plies - 1) (plies_of game)) (list_all (λ k. in_range range (counts_at game k)) (range_with_len ply plies))
    (le-leb (ply + plies - 1) (plies_of game) within) (all_from (λ k. in_range range (counts_at game k)) ply plies pass)

-- ---- matches

-- No streak begins here.
pub no_streak : (query : MatQuery) (game : GameTree) (ply : ℕ) → is_streak query.range game ply query.streak ≡ false
    → (query.swap && is_streak (exchanged query.range) game ply query.streak) ≡ false → matches_at query game ply ≡ false
unfolding matches_at
no_streak query game ply own other =
    and_right (leb query.ply_lo ply && leb ply query.ply_hi) (is_streak query.range game ply query.streak || (query.swap && is_streak (exchanged query.range) game ply query.streak))
    (or_from (is_streak query.range game ply query.streak) (query.swap && is_streak (exchanged query.range) game ply query.streak) own other)

swapped_fails : (swap : Bool) (range : MatRange) (game : GameTree) (ply plies : ℕ) → Fails (λ k. swap && in_range range (counts_at game k)) plies ply
    → (swap && is_streak range game ply plies) ≡ false
swapped_fails true range game ply plies fails = streak_fails range game ply plies (record { at = fails.at; behind = fails.behind; before = fails.before; failed = fails.failed })
swapped_fails false range game ply plies fails = refl

-- The tests fail.
pub no_match : (query : MatQuery) (game : GameTree) (ply : ℕ) → Fails (own_at query game) query.streak ply → Fails (other_at query game) query.streak ply
    → matches_at query game ply ≡ false
no_match query game ply own other =
    no_streak query game ply (streak_fails query.range game ply query.streak own) (swapped_fails query.swap (exchanged query.range) game ply query.streak other)

-- The end of the line is too near.
pub past_end : (query : MatQuery) (game : GameTree) (ply : ℕ) → plies_of game < ply + query.streak - 1 → matches_at query game ply ≡ false
past_end query game ply past =
    no_streak query game ply (streak_past query.range game ply query.streak past)
    (and_right query.swap (is_streak (exchanged query.range) game ply query.streak) (streak_past (exchanged query.range) game ply query.streak past))

-- No match may begin here.
pub early : (query : MatQuery) (game : GameTree) (ply : ℕ) → ply < query.ply_lo → matches_at query game ply ≡ false
unfolding matches_at
early query game ply before =
    and_left (leb query.ply_lo ply && leb ply query.ply_hi) (is_streak query.range game ply query.streak || (query.swap && is_streak (exchanged query.range) game ply query.streak))
    (and_left (leb query.ply_lo ply) (leb ply query.ply_hi) (lt-leb query.ply_lo ply before))

pub late : (query : MatQuery) (game : GameTree) (ply : ℕ) → query.ply_hi < ply → matches_at query game ply ≡ false
unfolding matches_at
late query game ply behind =
    and_left (leb query.ply_lo ply && leb ply query.ply_hi) (is_streak query.range game ply query.streak || (query.swap && is_streak (exchanged query.range) game ply query.streak))
    (and_right (leb query.ply_lo ply) (leb ply query.ply_hi) (lt-leb ply query.ply_hi behind))

-- It matches where a streak begins.
pub a_match : (query : MatQuery) (game : GameTree) (ply : ℕ) → query.ply_lo ≤ ply → ply ≤ query.ply_hi
    → (is_streak query.range game ply query.streak || (query.swap && is_streak (exchanged query.range) game ply query.streak)) ≡ true → matches_at query game ply ≡ true
unfolding matches_at
a_match query game ply lo hi streak =
    and_from (leb query.ply_lo ply && leb ply query.ply_hi) (is_streak query.range game ply query.streak || (query.swap && is_streak (exchanged query.range) game ply query.streak))
    (and_from (leb query.ply_lo ply) (leb ply query.ply_hi) (le-leb query.ply_lo ply lo) (le-leb ply query.ply_hi hi)) streak

-- ---- the first

pub first_found : (query : MatQuery) (game : GameTree) (ply : ℕ) → ply ≤ plies_of game → matches_at query game ply ≡ true
    → ((j : ℕ) → j < ply → matches_at query game j ≡ false) → Some ply ≡ first_of query game
first_found query game ply within holds before =
    sym (find_first (matches_at query game) 0 (plies_of game + 1) ply (omega arith) (omega (arith, within)) holds before)

pub first_none : (query : MatQuery) (game : GameTree) → ((j : ℕ) → matches_at query game j ≡ false) → None ≡ first_of query game
first_none query game none = sym (find_none (matches_at query game) 0 (plies_of game + 1) (λ ply from less. none ply))
