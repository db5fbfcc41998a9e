-- The order of pages.
use Rattle.std.proofs.Common.{◌≡◌, ◌<◌, ◌+◌, ℕ, Bool, true, false, List, [], ◌∷◌, ◌++◌, All, get_or, length, set, refl, sym, ◌∙◌, inl, inr, subst, arith}
use Rattle.std.specs.Prelude.{Contains}
use Rattle.std.proofs.lemmas.Bool.{cases_eq}
use Rattle.std.proofs.lemmas.List.{get_or-set_other, length-set}
use Rattle.std.proofs.lemmas.List.Elements.{All-push, Contains-append_left, Contains-push}
use Rattle.book_pages.specs.Order.{AreFound, GoesOn}

-- One page more is found.
pub one_found : (signs signs' : List Bool) (found found' : List ℕ) (page : ℕ) → AreFound signs found → page < length signs → signs' ≡ set signs page true
    → found' ≡ found ++ page ∷ [] → GoesOn signs found signs' found'
one_found signs signs' found found' page are within signs_is found_is = rw (signs_is, found_is) record {
  are = record {
    pages = rw (length-set signs page true) (All-push (λ (p : ℕ). p < length signs) found page are.pages within);
    signed = λ other is. elim (cases_eq other page) [
      | inl same ↦ subst (λ (p : ℕ). Contains (found ++ page ∷ []) p) (sym same) (Contains-push found page)
      | inr apart ↦ Contains-append_left found (page ∷ []) other (are.signed other (sym (get_or-set_other signs page other true false apart) ∙ is))
    ];
  };
  pages = length-set signs page true;
  stay = λ other has. Contains-append_left found (page ∷ []) other has;
}

-- None more, and more behind more.
pub none_found : (signs : List Bool) (found : List ℕ) → AreFound signs found → GoesOn signs found signs found
none_found signs found are = record { are = are; pages = refl; stay = λ page has. has }

pub goes_on : (signs signs' signs'' : List Bool) (found found' found'' : List ℕ) → GoesOn signs found signs' found' → GoesOn signs' found' signs'' found''
    → GoesOn signs found signs'' found''
goes_on signs signs' signs'' found found' found'' first second =
    record { are = second.are; pages = second.pages ∙ first.pages; stay = λ page has. second.stay page (first.stay page has) }

-- The pages so far, and one more.
pub up_to : (found found' found'' : List ℕ) (page : ℕ) → ((other : ℕ) → other < page → Contains found other) → ((other : ℕ) → Contains found other → Contains found' other)
    → Contains found' page → ((other : ℕ) → Contains found' other → Contains found'' other) → (other : ℕ) → other < page + 1 → Contains found'' other
up_to found found' found'' page all stay there stay' other below = elim (cases_eq other page) [
  | inl same ↦ stay' other (subst (λ (p : ℕ). Contains found' p) (sym same) there)
  | inr apart ↦ stay' other (stay other (all other (omega (arith, below, apart))))
]
