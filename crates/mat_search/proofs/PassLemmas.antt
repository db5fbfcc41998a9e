-- The test of signatures is sound: a game that matches passes it.
use Rattle.std.proofs.Common.{◌≡◌, ℕ, ◌+◌, ◌-◌, ◌≤◌, zero, suc, inl, inr, Bool, true, false, ◌&&◌, ◌||◌, eqb, leb, min, eq-eqb, arith}
use Rattle.std.specs.List.{list_all, range_with_len}
use Rattle.std.proofs.lemmas.Bool.{and_from, and_parts, both_ways, cases_Bool, cases_lt, le-leb, leb-true, or_cases, or_left, or_right}
use Rattle.chess_laws.specs.Position.{Sound}
use Rattle.game_tree.specs.Game.{GameTree}
use Rattle.game_tree.specs.Legal.{IsLegalGame}
use Rattle.game_tree.specs.Replay.{plies_of}
use Rattle.sig_index.specs.declared.mat_query.MatQuery.{MatQuery}
use Rattle.sig_index.specs.declared.mat_query.MatRange.{MatRange}
use Rattle.sig_index.specs.declared.signature.Sig.{Sig}
use Rattle.sig_index.specs.Signature.{IsSig}
use Rattle.sig_index.specs.Having.{can_have}
use Rattle.sig_index.specs.Skipping.{can_stand}
use Rattle.sig_index.proofs.HavingLemmas as having
use Rattle.sig_index.proofs.SigOf.{parts}
use Rattle.sig_index.proofs.SkippingLemmas.{skipping_sound}
use Rattle.mat_search.specs.Matching.{counts_at, exchanged, in_range, is_streak, matches_at}
use Rattle.mat_search.specs.Passing.{can_be_in, can_match, is_long, passes}
use Rattle.mat_search.proofs.ComingLemmas.{at_least, at_most}

-- ---- what a match is

-- A streak that a match begins.
record Matched (query : MatQuery) (game : GameTree) (ply : ℕ) : Type 0 where
  lo : query.ply_lo ≤ ply
  streak : (is_streak query.range game ply query.streak || (query.swap && is_streak (exchanged query.range) game ply query.streak)) ≡ true

matched : (query : MatQuery) (game : GameTree) (ply : ℕ) → matches_at query game ply ≡ true → Matched query game ply
unfolding matches_at
matched query game ply holds =
    let both = and_parts (leb query.ply_lo ply && leb ply query.ply_hi)
    (is_streak query.range game ply query.streak || (query.swap && is_streak (exchanged query.range) game ply query.streak)) holds in
    record { lo = leb-true query.ply_lo ply (and_parts (leb query.ply_lo ply) (leb ply query.ply_hi) both.0).0; streak = both.1 }

-- The first ply of a streak.
first_of_all : (test : ℕ → Bool) (a n : ℕ) → 1 ≤ n → list_all test (range_with_len a n) ≡ true → test a ≡ true
first_of_all test a zero some all = absurd (omega (arith, some))
first_of_all test a (suc n) some all = (and_parts (test a) (list_all test (range_with_len (a + 1) n)) all).0

record Begins (range : MatRange) (game : GameTree) (ply plies : ℕ) : Type 0 where
  within : ply + plies - 1 ≤ plies_of game
  here : in_range range (counts_at game ply) ≡ true

begins : (range : MatRange) (game : GameTree) (ply plies : ℕ) → 1 ≤ plies → is_streak range game ply plies ≡ true → Begins range game ply plies
begins range game ply plies some streak =
    let both = and_parts (leb (ply + plies - 1) (plies_of game)) (list_all (λ k. in_range range (counts_at game k)) (range_with_len ply plies)) streak in
    record {
      within = leb-true (ply + plies - 1) (plies_of game) both.0;
      here = first_of_all (λ k. in_range range (counts_at game k)) ply plies some both.1;
    }

-- ---- the parts of the test

long : (lo plies ply all sig : ℕ) → lo ≤ ply → ply + plies - 1 ≤ all → sig ≡ min all 1023 → (leb (lo + plies - 1) sig || eqb sig 1023) ≡ true
long lo plies ply all sig from within is = elim (cases_lt all 1023) [
  | inl few ↦ or_left (leb (lo + plies - 1) sig) (eqb sig 1023) (le-leb (lo + plies - 1) sig (omega (arith, from, within, is, few)))
  | inr many ↦ or_right (leb (lo + plies - 1) sig) (eqb sig 1023) (eq-eqb sig 1023 (omega (arith, is, many)))
]

stands : (range : MatRange) (game : GameTree) (sig : Sig) (ply plies : ℕ) → 1 ≤ plies → Sound game.start → IsLegalGame game → IsSig game sig
    → Begins range game ply plies → can_be_in sig range ≡ true
unfolding can_be_in
stands range game sig ply plies some sound legal is streak =
    and_from (can_stand sig range) (can_have sig range)
    (skipping_sound game sig range ply sound legal is (omega (arith, streak.within, some)) (at_most range (counts_at game ply) streak.here))
    (having.skipping_sound game sig range ply sound legal is (at_least range (counts_at game ply) streak.here))

passed : (query : MatQuery) (game : GameTree) (sig : Sig) (ply : ℕ) → query.ply_lo ≤ ply → ply + query.streak - 1 ≤ plies_of game → IsSig game sig
    → can_match sig query ≡ true → passes sig query ≡ true
unfolding passes
passed query game sig ply from within is match =
    and_from (is_long sig query) (can_match sig query) (long query.ply_lo query.streak ply (plies_of game) sig.plies from within (parts game sig is).plies) match

match_passes : (query : MatQuery) (game : GameTree) (sig : Sig) (ply : ℕ) → 1 ≤ query.streak → Sound game.start → IsLegalGame game → IsSig game sig
    → matches_at query game ply ≡ true → passes sig query ≡ true
match_passes query game sig ply some sound legal is holds =
    let m = matched query game ply holds in
    elim (or_cases (is_streak query.range game ply query.streak) (query.swap && is_streak (exchanged query.range) game ply query.streak) m.streak) [
      | inl own ↦
          let streak = begins query.range game ply query.streak some own in
          passed query game sig ply m.lo streak.within is
          (or_left (can_be_in sig query.range) (query.swap && can_be_in sig (exchanged query.range))
          (stands query.range game sig ply query.streak some sound legal is streak))
      | inr both ↦
          let parts = and_parts query.swap (is_streak (exchanged query.range) game ply query.streak) both in
          let streak = begins (exchanged query.range) game ply query.streak some parts.1 in
          passed query game sig ply m.lo streak.within is
          (or_right (can_be_in sig query.range) (query.swap && can_be_in sig (exchanged query.range))
          (and_from query.swap (can_be_in sig (exchanged query.range)) parts.0
          (stands (exchanged query.range) game sig ply query.streak some sound legal is streak)))
    ]

pub refused : (game : GameTree) (sig : Sig) (query : MatQuery) (ply : ℕ) → 1 ≤ query.streak → Sound game.start → IsLegalGame game → IsSig game sig
    → passes sig query ≡ false → matches_at query game ply ≡ false
refused game sig query ply some sound legal is not = elim (cases_Bool (matches_at query game ply)) [
  | inl holds ↦ absurd (both_ways (passes sig query) not (match_passes query game sig ply some sound legal is holds))
  | inr fails ↦ fails
]
