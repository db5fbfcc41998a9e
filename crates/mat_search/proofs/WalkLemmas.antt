-- The walk over a main line: what is known at a ply, and when the answer is known.
use Rattle.std.proofs.Common.{◌≡◌, ℕ, ◌+◌, ◌-◌, ◌<◌, ◌≤◌, inl, inr, Bool, true, false, not, ◌&&◌, ◌||◌, eqb, leb, List, None, Some, refl, sym, ap, ◌∙◌, subst, arith}
use Rattle.std.proofs.lemmas.Bool.{and_parts, both_ways, cases_Bool, cases_lt, eqb-false, eqb-true, leb-true, not-true, or_cases, or_left, or_parts, or_right}
use Rattle.chess_laws.specs.Counts.{counts_of}
use Rattle.chess_laws.specs.Position.{Sound}
use Rattle.chess_laws.specs.declared.setup.Setup.{Setup}
use Rattle.game_tree.specs.Game.{GameTree}
use Rattle.game_tree.specs.Legal.{IsLegalGame}
use Rattle.game_tree.specs.Replay.{plies_of, position_at}
use Rattle.sig_index.specs.declared.mat_query.MatQuery.{MatQuery}
use Rattle.sig_index.specs.declared.mat_query.MatRange.{MatRange}
use Rattle.mat_search.specs.Matching.{counts_at, exchanged, first_of, in_range, is_streak, matches_at}
use Rattle.sig_index.specs.Coming.{can_come}
use Rattle.mat_search.specs.Streaks.{can_match_later, is_over, streak_after}
use Rattle.mat_search.proofs.ComingLemmas.{comes}
use Rattle.mat_search.proofs.MatchLemmas.{a_match, early, first_found, first_none, late, no_match, other_at, own_at, past_end, streak_holds}
use Rattle.mat_search.proofs.StreakLemmas.{Fails, Run, run_step, step_short}

-- ---- before a ply, and after it

-- The walk is at this ply, with streaks of these lengths behind it.
pub record IsAt (query : MatQuery) (game : GameTree) (ply own other : ℕ) : Type 0 where
  pub own_run : Run (own_at query game) query ply own
  pub other_run : Run (other_at query game) query ply other

-- One ply more was looked at.
pub looked : (query : MatQuery) (game : GameTree) (ply own other own' other' : ℕ) (counts : List ℕ) → IsAt query game ply own other
    → own < query.streak → other < query.streak → counts ≡ counts_at game ply
    → own' ≡ streak_after query own ply (in_range query.range counts)
    → other' ≡ streak_after query other ply (query.swap && in_range (exchanged query.range) counts)
    → IsAt query game (ply + 1) own' other'
looked query game ply own other own' other' counts at own_short other_short are own_is other_is = record {
  own_run = run_step (own_at query game) query ply own own' (in_range query.range counts) at.own_run own_short (ap (in_range query.range) are) own_is;
  other_run = run_step (other_at query game) query ply other other' (query.swap && in_range (exchanged query.range) counts) at.other_run other_short
      (ap (λ (c : List ℕ). query.swap && in_range (exchanged query.range) c) are) other_is;
}

-- What is known after a ply was looked at.
pub record Looked (query : MatQuery) (game : GameTree) (ply own other : ℕ) (counts : List ℕ) : Type 0 where
  pub at : IsAt query game (ply + 1) own other
  pub counts_are : counts ≡ counts_at game ply
  pub own_short : own ≤ query.streak
  pub other_short : other ≤ query.streak

pub looked_by : (query : MatQuery) (game : GameTree) (ply walked own other own' other' : ℕ) (counts : List ℕ) (p : Setup) (range : MatRange)
    → IsAt query game walked own other → own < query.streak → other < query.streak → ply ≡ walked → p ≡ position_at game walked → counts ≡ counts_of p.board
    → range ≡ exchanged query.range → own' ≡ streak_after query own ply (in_range query.range counts)
    → other' ≡ streak_after query other ply (query.swap && in_range range counts) → Looked query game ply own' other' counts
looked_by query game ply walked own other own' other' counts p range at own_short other_short here there count exchanges own_is other_is =
    let at' : IsAt query game ply own other = subst (λ n. IsAt query game n own other) (sym here) at in
    let are : counts ≡ counts_at game ply = count ∙ ap (λ (s : Setup). counts_of s.board) there ∙ ap (counts_at game) (sym here) in
    let other_is' = other_is ∙ ap (λ (r : MatRange). streak_after query other ply (query.swap && in_range r counts)) exchanges in
    record {
      at = looked query game ply own other own' other' counts at' own_short other_short are own_is other_is';
      counts_are = are;
      own_short = step_short query ply own own' (in_range query.range counts) own_short own_is;
      other_short = step_short query ply other other' (query.swap && in_range range counts) other_short other_is;
    }

-- ---- no match

-- None begins before the streaks that are under way.
none_before : (query : MatQuery) (game : GameTree) (ply own other j : ℕ) → IsAt query game (ply + 1) own other → j + own < ply + 1 → j + other < ply + 1
    → matches_at query game j ≡ false
none_before query game ply own other j at under under' = elim (cases_lt j query.ply_lo) [
  | inl before ↦ early query game j before
  | inr lo ↦ elim (cases_lt query.ply_hi j) [
    | inl behind ↦ late query game j behind
    | inr hi ↦ no_match query game j (at.own_run.before j under lo hi) (at.other_run.before j under' lo hi)
  ]
]

-- ---- a match

own_streak : (query : MatQuery) (game : GameTree) (ply other : ℕ) → IsAt query game (ply + 1) query.streak other → 1 ≤ query.streak → ply ≤ plies_of game
    → is_streak query.range game (ply - (query.streak - 1)) query.streak ≡ true
own_streak query game ply other at some within =
    let long = at.own_run.within in
    streak_holds query.range game (ply - (query.streak - 1)) query.streak (omega (arith, long, some, within))
    (λ k h less. at.own_run.passed k (omega (arith, h, long, some)) (omega (arith, less, long, some)))

other_streak : (query : MatQuery) (game : GameTree) (ply own : ℕ) → IsAt query game (ply + 1) own query.streak → 1 ≤ query.streak → ply ≤ plies_of game
    → (query.swap && is_streak (exchanged query.range) game (ply - (query.streak - 1)) query.streak) ≡ true
other_streak query game ply own at some within =
    let long = at.other_run.within in
    let start = ply - (query.streak - 1) in
    let passed : (k : ℕ) → start ≤ k → k < start + query.streak → other_at query game k ≡ true =
    λ k h less. at.other_run.passed k (omega (arith, h, long, some)) (omega (arith, less, long, some)) in
    let each : (k : ℕ) → start ≤ k → k < start + query.streak → (query.swap ≡ true) × (in_range (exchanged query.range) (counts_at game k) ≡ true) =
    λ k h less. and_parts query.swap (in_range (exchanged query.range) (counts_at game k)) (passed k h less) in
    let swaps : query.swap ≡ true = (each start (omega arith) (omega (arith, some))).0 in
    let holds = streak_holds (exchanged query.range) game start query.streak (omega (arith, long, some, within)) (λ k h less. (each k h less).1) in
    rw (swaps, holds) refl

-- The streaks are as long as is asked, or one of them is.
pub found_here : (query : MatQuery) (game : GameTree) (ply own other : ℕ) → IsAt query game (ply + 1) own other → own ≤ query.streak → other ≤ query.streak
    → 1 ≤ query.streak → ply ≤ plies_of game → (eqb own query.streak || eqb other query.streak) ≡ true → Some (ply - (query.streak - 1)) ≡ first_of query game
found_here query game ply own other at own_short other_short some within whole =
    let start = ply - (query.streak - 1) in
    elim (or_cases (eqb own query.streak) (eqb other query.streak) whole) [
      | inl own_whole ↦
          let is = eqb-true own query.streak own_whole in
          let at' : IsAt query game (ply + 1) query.streak other = subst (λ n. IsAt query game (ply + 1) n other) is at in
          let long = at'.own_run.within in
          first_found query game start (omega (arith, within))
          (a_match query game start (omega (arith, at'.own_run.from_lo some, long, some)) (omega (arith, at'.own_run.to_hi some, long, some))
          (or_left (is_streak query.range game start query.streak) (query.swap && is_streak (exchanged query.range) game start query.streak)
          (own_streak query game ply other at' some within)))
          (λ j before. none_before query game ply query.streak other j at' (omega (arith, before, long, some)) (omega (arith, before, long, some, other_short)))
      | inr other_whole ↦
          let is = eqb-true other query.streak other_whole in
          let at' : IsAt query game (ply + 1) own query.streak = subst (λ n. IsAt query game (ply + 1) own n) is at in
          let long = at'.other_run.within in
          first_found query game start (omega (arith, within))
          (a_match query game start (omega (arith, at'.other_run.from_lo some, long, some)) (omega (arith, at'.other_run.to_hi some, long, some))
          (or_right (is_streak query.range game start query.streak) (query.swap && is_streak (exchanged query.range) game start query.streak)
          (other_streak query game ply own at' some within)))
          (λ j before. none_before query game ply own query.streak j at' (omega (arith, before, long, some, own_short)) (omega (arith, before, long, some)))
    ]

-- Neither is.
pub own_less : (own other plies : ℕ) → own ≤ plies → (eqb own plies || eqb other plies) ≡ false → own < plies
own_less own other plies short not =
    let apart = eqb-false own plies (or_parts (eqb own plies) (eqb other plies) not).0 in omega (arith, short, apart)

pub other_less : (own other plies : ℕ) → other ≤ plies → (eqb own plies || eqb other plies) ≡ false → other < plies
other_less own other plies short not =
    let apart = eqb-false other plies (or_parts (eqb own plies) (eqb other plies) not).1 in omega (arith, short, apart)

-- ---- the end of the line

pub none_at_end : (query : MatQuery) (game : GameTree) (ply own other : ℕ) → IsAt query game (ply + 1) own other → own < query.streak → other < query.streak
    → plies_of game ≤ ply → None ≡ first_of query game
none_at_end query game ply own other at own_short other_short last = first_none query game (λ j.
    elim (cases_lt (j + query.streak) (ply + 2)) [
      | inl within ↦ none_before query game ply own other j at (omega (arith, within, own_short)) (omega (arith, within, other_short))
      | inr past ↦ past_end query game j (omega (arith, past, last))
    ])

-- ---- no match begins any more

fails_here : (test : ℕ → Bool) (plies j : ℕ) → 1 ≤ plies → test j ≡ false → Fails test plies j
fails_here test plies j some fails = record { at = j; behind = omega arith; before = omega (arith, some); failed = fails }

never_own : (query : MatQuery) (game : GameTree) (ply j : ℕ) → Sound game.start → IsLegalGame game → ply ≤ j → can_come query.range (counts_at game ply) ≡ false
    → own_at query game j ≡ false
never_own query game ply j sound legal later gone = elim (cases_Bool (own_at query game j)) [
  | inl holds ↦ absurd (both_ways (can_come query.range (counts_at game ply)) gone (comes query.range game ply j sound legal later holds))
  | inr fails ↦ fails
]

never_other : (query : MatQuery) (game : GameTree) (ply j : ℕ) → Sound game.start → IsLegalGame game → ply ≤ j
    → (query.swap && can_come (exchanged query.range) (counts_at game ply)) ≡ false → other_at query game j ≡ false
never_other query game ply j sound legal later gone = elim (cases_Bool (other_at query game j)) [
  | inl holds ↦
      let both = and_parts query.swap (in_range (exchanged query.range) (counts_at game j)) holds in
      let comes' : (query.swap && can_come (exchanged query.range) (counts_at game ply)) ≡ true =
      rw (both.0, comes (exchanged query.range) game ply j sound legal later both.1) refl in
      absurd (both_ways (query.swap && can_come (exchanged query.range) (counts_at game ply)) gone comes')
  | inr fails ↦ fails
]

none_comes : (query : MatQuery) (game : GameTree) (ply j : ℕ) → 1 ≤ query.streak → Sound game.start → IsLegalGame game → ply ≤ j
    → can_match_later query (exchanged query.range) (counts_at game ply) ≡ false → matches_at query game j ≡ false
none_comes query game ply j some sound legal later gone =
    let both = or_parts (can_come query.range (counts_at game ply)) (query.swap && can_come (exchanged query.range) (counts_at game ply)) gone in
    no_match query game j (fails_here (own_at query game) query.streak j some (never_own query game ply j sound legal later both.0))
    (fails_here (other_at query game) query.streak j some (never_other query game ply j sound legal later both.1))

over_by : (query : MatQuery) (game : GameTree) (ply : ℕ) → IsAt query game (ply + 1) 0 0 → 1 ≤ query.streak → Sound game.start → IsLegalGame game
    → is_over query (exchanged query.range) ply (counts_at game ply) ≡ true → (j : ℕ) → matches_at query game j ≡ false
unfolding is_over
over_by query game ply at some sound legal over j = elim (cases_lt ply j) [
  | inr before ↦ none_before query game ply 0 0 j at (omega (arith, before)) (omega (arith, before))
  | inl behind ↦ elim (or_cases (leb query.ply_hi ply) (not (can_match_later query (exchanged query.range) (counts_at game ply))) over) [
    | inl last ↦ late query game j (omega (arith, behind, leb-true query.ply_hi ply last))
    | inr gone ↦ none_comes query game ply j some sound legal (omega (arith, behind)) (not-true (can_match_later query (exchanged query.range) (counts_at game ply)) gone)
  ]
]

pub none_later : (query : MatQuery) (game : GameTree) (ply own other : ℕ) (counts : List ℕ) (range : MatRange) → IsAt query game (ply + 1) own other
    → 1 ≤ query.streak → Sound game.start → IsLegalGame game → counts ≡ counts_at game ply → range ≡ exchanged query.range → (eqb own 0 && eqb other 0) ≡ true
    → is_over query range ply counts ≡ true → None ≡ first_of query game
none_later query game ply own other counts range at some sound legal are exchanges none over =
    let both = and_parts (eqb own 0) (eqb other 0) none in
    let at' : IsAt query game (ply + 1) 0 0 =
    subst (λ n. IsAt query game (ply + 1) 0 n) (eqb-true other 0 both.1) (subst (λ n. IsAt query game (ply + 1) n other) (eqb-true own 0 both.0) at) in
    first_none query game (over_by query game ply at' some sound legal ((λ i. is_over query (sym exchanges i) ply (sym are i)) ∙ over))
