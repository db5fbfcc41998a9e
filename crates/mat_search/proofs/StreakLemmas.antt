-- What is known at a ply of the streaks that are under way.
use Rattle.std.proofs.Common.{◌≡◌, ℕ, ◌+◌, ◌<◌, ◌≤◌, ◌⊎◌, inl, inr, Bool, true, false, cond, ◌&&◌, ◌||◌, leb, ltb, refl, sym, subst, arith}
use Rattle.std.proofs.lemmas.Bool.{and_cases, and_parts, cases_eq, cases_lt, leb-false, leb-true, ltb-false, ltb-true, or_cases, or_parts}
use Rattle.sig_index.specs.declared.mat_query.MatQuery.{MatQuery}
use Rattle.mat_search.specs.Streaks.{streak_after}

-- Among so many plies from this one on there is one that fails the test.
pub record Fails (test : ℕ → Bool) (plies from : ℕ) : Type 0 where
  pub at : ℕ
  pub behind : from ≤ at
  pub before : at < from + plies
  pub failed : test at ≡ false

-- The last plies before this one, as many as the streak has, pass the test, and they begin where a match may begin. No match begins
-- before them.
pub record Run (test : ℕ → Bool) (query : MatQuery) (ply streak : ℕ) : Type 0 where
  pub within : streak ≤ ply
  pub from_lo : 0 < streak → query.ply_lo + streak ≤ ply
  pub to_hi : 0 < streak → ply ≤ query.ply_hi + streak
  pub passed : (k : ℕ) → ply ≤ k + streak → k < ply → test k ≡ true
  pub before : (k : ℕ) → k + streak < ply → query.ply_lo ≤ k → k ≤ query.ply_hi → Fails test query.streak k

-- The streak goes on, or begins.
grows : (test : ℕ → Bool) (query : MatQuery) (ply streak : ℕ) → Run test query ply streak → query.ply_lo + streak ≤ ply → ply ≤ query.ply_hi + streak
    → test ply ≡ true → Run test query (ply + 1) (streak + 1)
grows test query ply streak run lo hi passes = record {
  within = omega (arith, run.within);
  from_lo = λ _. omega (arith, lo);
  to_hi = λ _. omega (arith, hi);
  passed = λ k h less. elim (cases_eq k ply) [
    | inl same ↦ subst (λ n. test n ≡ true) (sym same) passes
    | inr apart ↦ run.passed k (omega (arith, h)) (omega (arith, less, apart))
  ];
  before = λ k h. run.before k (omega (arith, h));
}

-- The ply fails the test.
breaks : (test : ℕ → Bool) (query : MatQuery) (ply streak : ℕ) → Run test query ply streak → streak < query.streak → test ply ≡ false
    → Run test query (ply + 1) 0
breaks test query ply streak run short fails = record {
  within = omega arith;
  from_lo = λ h. absurd (omega (arith, h));
  to_hi = λ h. absurd (omega (arith, h));
  passed = λ k h less. absurd (omega (arith, h, less));
  before = λ k h lo hi. elim (cases_lt (k + streak) ply) [
    | inl past ↦ run.before k past lo hi
    | inr under ↦ record { at = ply; behind = omega (arith, h); before = omega (arith, under, short); failed = fails }
  ];
}

-- No streak is under way, and no match may begin here.
waits : (test : ℕ → Bool) (query : MatQuery) (ply streak : ℕ) → Run test query ply streak → streak ≡ 0 → (ply < query.ply_lo) ⊎ (query.ply_hi < ply)
    → Run test query (ply + 1) 0
waits test query ply streak run none away = record {
  within = omega arith;
  from_lo = λ h. absurd (omega (arith, h));
  to_hi = λ h. absurd (omega (arith, h));
  passed = λ k h less. absurd (omega (arith, h, less));
  before = λ k h lo hi. elim (cases_lt k ply) [
    | inl past ↦ run.before k (omega (arith, past, none)) lo hi
    | inr under ↦ elim away [
      | inl early ↦ absurd (omega (arith, h, under, early, lo))
      | inr late ↦ absurd (omega (arith, h, under, late, hi))
    ]
  ];
}

step_by : (c fits : Bool) (test : ℕ → Bool) (query : MatQuery) (ply streak : ℕ) → Run test query ply streak → streak < query.streak → fits ≡ test ply
    → (c ≡ true → (query.ply_lo + streak ≤ ply) × (ply ≤ query.ply_hi + streak))
    → (c ≡ false → (streak ≡ 0) × ((ply < query.ply_lo) ⊎ (query.ply_hi < ply)))
    → Run test query (ply + 1) (cond (fits && c) (streak + 1) 0)
step_by true true test query ply streak run short is may not = let bounds = may refl in grows test query ply streak run bounds.0 bounds.1 (sym is)
step_by true false test query ply streak run short is may not = breaks test query ply streak run short (sym is)
step_by false true test query ply streak run short is may not = let away = not refl in waits test query ply streak run away.0 away.1
step_by false false test query ply streak run short is may not = breaks test query ply streak run short (sym is)

-- Where a streak goes on or may begin, and where it does neither.
may_go : (test : ℕ → Bool) (query : MatQuery) (ply streak : ℕ) → Run test query ply streak
    → (ltb 0 streak || (leb query.ply_lo ply && leb ply query.ply_hi)) ≡ true → (query.ply_lo + streak ≤ ply) × (ply ≤ query.ply_hi + streak)
may_go test query ply streak run may = elim (or_cases (ltb 0 streak) (leb query.ply_lo ply && leb ply query.ply_hi) may) [
  | inl goes ↦
      let some = ltb-true 0 streak goes in
      (run.from_lo some, run.to_hi some)
  | inr begins ↦
      let both = and_parts (leb query.ply_lo ply) (leb ply query.ply_hi) begins in
      let lo = leb-true query.ply_lo ply both.0 in
      let hi = leb-true ply query.ply_hi both.1 in
      elim (cases_lt 0 streak) [
        | inl some ↦ (run.from_lo some, run.to_hi some)
        | inr none ↦ (omega (arith, none, lo), omega (arith, hi))
      ]
]

may_not : (query : MatQuery) (ply streak : ℕ) → (ltb 0 streak || (leb query.ply_lo ply && leb ply query.ply_hi)) ≡ false
    → (streak ≡ 0) × ((ply < query.ply_lo) ⊎ (query.ply_hi < ply))
may_not query ply streak not =
    let both = or_parts (ltb 0 streak) (leb query.ply_lo ply && leb ply query.ply_hi) not in
    let none : streak ≡ 0 = omega (arith, ltb-false 0 streak both.0) in
    elim (and_cases (leb query.ply_lo ply) (leb ply query.ply_hi) both.1) [
      | inl early ↦ (none, inl (leb-false query.ply_lo ply early))
      | inr late ↦ (none, inr (leb-false ply query.ply_hi late))
    ]

-- One ply more.
pub run_step : (test : ℕ → Bool) (query : MatQuery) (ply streak next : ℕ) (fits : Bool) → Run test query ply streak → streak < query.streak → fits ≡ test ply
    → next ≡ streak_after query streak ply fits → Run test query (ply + 1) next
run_step test query ply streak next fits run short is becomes =
    subst (Run test query (ply + 1)) (sym becomes)
    (step_by (ltb 0 streak || (leb query.ply_lo ply && leb ply query.ply_hi)) fits test query ply streak run short is (may_go test query ply streak run) (may_not query ply streak))

longer : (b : Bool) (streak plies : ℕ) → streak < plies → cond b (streak + 1) 0 ≤ plies
longer true streak plies short = omega (arith, short)
longer false streak plies short = omega arith

-- It is no longer than is asked.
pub step_short : (query : MatQuery) (ply streak next : ℕ) (fits : Bool) → streak < query.streak → next ≡ streak_after query streak ply fits → next ≤ query.streak
step_short query ply streak next fits short becomes =
    subst (λ n. n ≤ query.streak) (sym becomes) (longer (fits && (ltb 0 streak || (leb query.ply_lo ply && leb ply query.ply_hi))) streak query.streak short)
