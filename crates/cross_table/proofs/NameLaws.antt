-- Names without repeats, and their places.
use Rattle.std.proofs.Common.{◌≡◌, ◌≤◌, ◌<◌, ◌+◌, ◌==◌, ℕ, zero, suc, Bool, true, false, true≢false, cond, not, List, [], ◌∷◌, ◌++◌, length, get_or, refl, sym, ap, subst, ◌∙◌, arith, ◌||◌, if◌then◌else◌}
use Rattle.std.specs.List.{list_any, IsDistinct}
use Rattle.std.specs.Str.{bytes_eq}
use Rattle.std.specs.Cmp.{IsEquivalence}
use Rattle.std.proofs.lemmas.Bool.Decides.{nat_tests}
use Rattle.std.proofs.lemmas.Cmp.{nat_list_eq_equiv}
use Rattle.std.proofs.lemmas.List.{length_push}
use Rattle.std.proofs.lemmas.List.Elements.{All-from_recursion}
use Rattle.std.proofs.lemmas.Map.Keys.{IsDistinct-push, IsDistinct-head, IsDistinct-tail}
use Rattle.std.proofs.lemmas.Slice.Eq.{bytes_eq-Decides}
use Rattle.std.proofs.Math.ListN.{get_or-append}
use Rattle.std.proofs.Math.Seq.{get_or-append_seam}
use Rattle.cross_table.specs.Crosstable.{with_name}
use Rattle.cross_table.specs.Keeping.{place_of}

pub bytes_equiv : IsEquivalence bytes_eq
bytes_equiv = nat_list_eq_equiv

-- What is known of a name that is among others.
pub record StandsAt (names : List (List ℕ)) (name : List ℕ) (place : ℕ) : Type 0 where
  pub within : place < length names
  pub there : get_or names place [] ≡ name

one_more : (n : ℕ) → 1 + n ≡ suc n
one_more n = omega arith

pub found : (names : List (List ℕ)) (name : List ℕ) → list_any (bytes_eq name) names ≡ true → StandsAt names name (place_of names name)
found [] name is = absurd (true≢false (sym is))
found (first ∷ names) name is = by (bytes_eq name first) refl (found names name) is
  where
    behind : StandsAt names name (place_of names name) → StandsAt (first ∷ names) name (1 + place_of names name)
    behind at = record {
      within = omega (arith, at.within);
      there = subst (λ (k : ℕ). get_or (first ∷ names) k [] ≡ name) (sym (one_more (place_of names name))) at.there;
    }

    by : (b : Bool) → bytes_eq name first ≡ b → (list_any (bytes_eq name) names ≡ true → StandsAt names name (place_of names name))
        → (b || list_any (bytes_eq name) names) ≡ true → StandsAt (first ∷ names) name (cond (not b) (1 + place_of names name) 0)
    by true same rest h = record { within = omega arith; there = sym ((bytes_eq-Decides name first).0 same) }
    by false other rest h = behind (rest h)

pub absent : (names : List (List ℕ)) (name : List ℕ) → list_any (bytes_eq name) names ≡ false → place_of names name ≡ length names
absent [] name is = refl
absent (first ∷ names) name is = by (bytes_eq name first) (absent names name) is
  where
    by : (b : Bool) → (list_any (bytes_eq name) names ≡ false → place_of names name ≡ length names)
        → (b || list_any (bytes_eq name) names) ≡ false → cond (not b) (1 + place_of names name) 0 ≡ length (first ∷ names)
    by true rest h = absurd (true≢false h)
    by false rest h = omega (arith, rest h)

-- What a name more leaves.
pub record Adds (names : List (List ℕ)) (name : List ℕ) (after : List (List ℕ)) : Type 0 where
  pub distinct : IsDistinct bytes_eq after
  pub grows : length names ≤ length after
  pub kept : (i : ℕ) → i < length names → get_or after i [] ≡ get_or names i []
  pub place : StandsAt after name (place_of names name)

pub name_added : (names : List (List ℕ)) (name : List ℕ) → IsDistinct bytes_eq names → Adds names name (with_name names name)
name_added names name once = by (list_any (bytes_eq name) names) refl
  where
    by : (b : Bool) → list_any (bytes_eq name) names ≡ b → Adds names name (if b then names else names ++ name ∷ [])
    by true is = record { distinct = once; grows = omega arith; kept = λ i below. refl; place = found names name is }
    by false is =
        let end : place_of names name ≡ length names = absent names name is in
        let long : length (names ++ name ∷ []) ≡ length names + 1 = length_push names name in
        record {
          distinct = IsDistinct-push bytes_equiv names name once is;
          grows = omega (arith, long);
          kept = λ i below. get_or-append names (name ∷ []) [] i below;
          place = record {
            within = omega (arith, long, end);
            there = ap (λ (k : ℕ). get_or (names ++ name ∷ []) k []) end ∙ get_or-append_seam names name [] [];
          };
        }

-- Names at two places are the same where the places are.
pub same_places : (names : List (List ℕ)) → IsDistinct bytes_eq names → (i j : ℕ) → i < length names → j < length names
    → bytes_eq (get_or names i []) (get_or names j []) ≡ (i == j)
same_places [] once i j first second = absurd (omega (arith, first))
same_places (name ∷ names) once zero zero first second = bytes_equiv.refl name
same_places (name ∷ names) once zero (suc j) first second =
    All-from_recursion (λ (y : List ℕ). bytes_eq name y ≡ false) names (IsDistinct-head bytes_eq name names once) j [] (omega (arith, second))
    ∙ (let e : false ≡ (zero == suc j) = grind (arith, nat_tests) in e)
same_places (name ∷ names) once (suc i) zero first second =
    bytes_equiv.symm (get_or names i []) name
    ∙ All-from_recursion (λ (y : List ℕ). bytes_eq name y ≡ false) names (IsDistinct-head bytes_eq name names once) i [] (omega (arith, first))
    ∙ (let e : false ≡ (suc i == zero) = grind (arith, nat_tests) in e)
same_places (name ∷ names) once (suc i) (suc j) first second =
    same_places names (IsDistinct-tail bytes_eq name names once) i j (omega (arith, first)) (omega (arith, second))
    ∙ (let e : (i == j) ≡ (suc i == suc j) = grind (arith, nat_tests) in e)
