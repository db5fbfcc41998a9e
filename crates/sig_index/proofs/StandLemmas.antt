-- Counts of which none is above the bounds can stand, and others only where pawns were promoted.
use Rattle.std.proofs.Common.{◌≡◌, ℕ, ◌+◌, ◌-◌, ◌≤◌, ◌<◌, Bool, true, false, ◌&&◌, ◌||◌, eqb, leb, refl, sym, arith, inl, inr}
use Rattle.std.specs.Prelude.{slice_index}
use Rattle.std.proofs.lemmas.Bool.{and_left, and_parts, and_right, both_ways, cases_eq, cases_lt, le-leb, leb-true, lt-leb, ne_eqb}
use Rattle.sig_index.specs.declared.mat_query.MatRange.{MatRange}
use Rattle.sig_index.specs.declared.signature.Sig.{Sig}
use Rattle.sig_index.specs.Skipping.{are_within, colour_can_stand}
use Rattle.sig_index.proofs.SkippingLemmas.{holds}

all_five : (a b c d e : Bool) → a ≡ true → b ≡ true → c ≡ true → d ≡ true → e ≡ true → (a && b && c && d && e) ≡ true
all_five a b c d e ha hb hc hd he = rw (ha, hb, hc, hd, he) refl

-- The counts of queens, rooks, bishops, knights and pawns, and the bounds of each.
module _ (under : Bool) (q r b n p q' r' b' n' p' : ℕ) where
  abbrev lesser : ℕ
  lesser = (r - r') + (b - b') + (n - n')

  abbrev all : ℕ
  all = (q - q') + lesser

  abbrev stands : Bool → Bool
  stands promo = leb p p' && leb all (p' - p) && (promo || eqb all 0) && (under || eqb lesser 0)

  abbrev within : Bool
  within = leb q q' && leb r r' && leb b b' && leb n n' && leb p p'

  within_stand : (promo : Bool) → within ≡ true → stands promo ≡ true
  within_stand promo holds_all =
      let e = and_parts (leb q q' && leb r r' && leb b b' && leb n n') (leb p p') holds_all in
      let d = and_parts (leb q q' && leb r r' && leb b b') (leb n n') e.0 in
      let c = and_parts (leb q q' && leb r r') (leb b b') d.0 in
      let a = and_parts (leb q q') (leb r r') c.0 in
      let hq = leb-true q q' a.0 in
      let hr = leb-true r r' a.1 in
      let hb = leb-true b b' c.1 in
      let hn = leb-true n n' d.1 in
      let hp = leb-true p p' e.1 in
      let no_lesser : lesser ≡ 0 = omega (arith, hr, hb, hn) in
      let none : all ≡ 0 = omega (arith, hq, hr, hb, hn) in
      holds promo under all lesser p p' (omega (arith, none, hp)) (λ unpromoted. none) (λ queens. no_lesser)

  unpromoted : within ≡ false → stands false ≡ false
  unpromoted fails = elim (cases_lt p' p) [
    | inl more ↦
        let no : leb p p' ≡ false = lt-leb p p' more in
        rw no refl
    | inr hp ↦ elim (cases_eq all 0) [
      | inl none ↦
          absurd (both_ways within fails
          (all_five (leb q q') (leb r r') (leb b b') (leb n n') (leb p p') (le-leb q q' (omega (arith, none))) (le-leb r r' (omega (arith, none)))
          (le-leb b b' (omega (arith, none))) (le-leb n n' (omega (arith, none))) (le-leb p p' hp)))
      | inr some ↦ and_left (leb p p' && leb all (p' - p) && eqb all 0) (under || eqb lesser 0) (and_right (leb p p' && leb all (p' - p)) (eqb all 0) (ne_eqb all 0 some))
    ]
  ]

  stand_by : (promo fits : Bool) → fits ≡ within → (fits || (promo && stands promo)) ≡ stands promo
  stand_by promo true is = sym (within_stand promo (sym is))
  stand_by true false is = refl
  stand_by false false is = sym (unpromoted (sym is))

-- One colour's last counts can stand: none is above its bound, or pawns were promoted and the test of that holds.
pub within_or_promoted : (sig : Sig) (range : MatRange) (queens : ℕ)
    → (are_within sig.material range.hi queens || (sig.promo && colour_can_stand sig range queens)) ≡ colour_can_stand sig range queens
within_or_promoted sig range queens =
    stand_by sig.under (slice_index sig.material queens) (slice_index sig.material (queens + 1)) (slice_index sig.material (queens + 2))
    (slice_index sig.material (queens + 3)) (slice_index sig.material (queens + 4)) (slice_index range.hi queens) (slice_index range.hi (queens + 1))
    (slice_index range.hi (queens + 2)) (slice_index range.hi (queens + 3)) (slice_index range.hi (queens + 4)) sig.promo
    (are_within sig.material range.hi queens) refl
