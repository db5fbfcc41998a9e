-- Lists whose elements are changed one after the other.
use Rattle.std.proofs.Common.{◌≡◌, ◌<◌, ◌+◌, ℕ, zero, suc, List, [], ◌∷◌, ◌++◌, All, length, map, take, drop, set, get_or, refl, sym, ap, subst, ◌∙◌, arith}
use Rattle.std.proofs.lemmas.List.{get_or-map, length-map, map-set}
use Rattle.std.proofs.lemmas.List.Edits.{map_over_more}

-- Those behind a place are as they were.
got_rest : {X : Type 0} (h : X → X) (xs : List X) (i : ℕ) (d : X) → get_or (map h (take i xs) ++ drop i xs) i d ≡ get_or xs i d
got_rest h [] zero d = refl
got_rest h [] (suc i) d = refl
got_rest h (x ∷ xs) zero d = refl
got_rest h (x ∷ xs) (suc i) d = got_rest h xs i d

-- What is seen of them changes.
pub seen_more : {X Y : Type 0} (see : X → Y) (f : Y → Y) (old now : List X) (i : ℕ) (before after : X) → i < length old → i < length now → map see now ≡ map f (take i (map see old)) ++ drop i (map see old)
    → before ≡ get_or now i before → see after ≡ f (see before) → map see (set now i after) ≡ map f (take (i + 1) (map see old)) ++ drop (i + 1) (map see old)
seen_more see f old now i before after less here is at so =
    map-set see now i after ∙ ap (λ y. set (map see now) i y) so
    ∙ map_over_more f (map see old) (map see now) i (see before) (omega (arith, less, length-map old see)) is (ap see at ∙ sym (get_or-map see now i before (see before) here))

-- What holds of all of them at first holds of the next one still.
pub seen_still : {X Y : Type 0} (see : X → Y) (f : Y → Y) (P : Y → Type 0) (old now : List X) (i : ℕ) (d : X) → i < length old → i < length now → map see now ≡ map f (take i (map see old)) ++ drop i (map see old)
    → All P (map see old) → P (see (get_or now i d))
seen_still see f P old now i d less here is all =
    subst P (sym (sym (get_or-map see now i d (see d) here) ∙ (ap (λ l. get_or l i (see d)) is ∙ got_rest f (map see old) i (see d)))) (all i (see d) (omega (arith, less, length-map old see)))
