-- Laws of filters as a game comes in or is replaced.
use Rattle.std.proofs.Common.{◌≡◌, ℕ, subst, suc, [], ◌∷◌, length, Option, refl, ap, zero, List, Some, option_map, sym, None, ◌∙◌, ◌+◌, All, map, get_or, arith}
use Rattle.std.proofs.lemmas.List.{length-append, length-map, with_items_is}
use Rattle.std.proofs.lemmas.List.Elements.{All-map}
use Rattle.std.specs.Prelude.{slice_get, slice_set, is_some, true, false, Vec}
use Rattle.std.specs.Vec.{with_items}
use Rattle.game_filter.specs.Filter.{joined}
use Rattle.filter_seat.specs.SavedFilters.{to_start, without_last, kept_to_start}
use Rattle.filter_seat.specs.declared.saved.SavedFilter.{SavedFilter}

-- Filters keep their lengths.
pub length_joined : (join : Option ℕ → Option ℕ → Option ℕ) (owns others : List (Option ℕ)) → length owns ≡ length others → length (joined join owns others) ≡ length owns
length_joined join [] others same = refl
length_joined join (own ∷ owns) [] same = absurd cc
length_joined join (own ∷ owns) (other ∷ others) same =
    let shorter : length owns ≡ length others = cc in ap (λ (n : ℕ). suc n) (length_joined join owns others shorter)

-- A game that is in is put at its start, and one that is out stays out.
pub to_start_in : (i ply : ℕ) (plies : List (Option ℕ)) → slice_get plies i ≡ Some (Some ply) → slice_set plies i (Some 0) ≡ to_start i plies
to_start_in i ply [] is = cc
to_start_in zero ply (p ∷ plies) is =
    let same : p ≡ Some ply = cc in
    ap (λ (o : Option ℕ). o ∷ plies) (ap (λ (o : Option ℕ). option_map (λ (n : ℕ). 0) o) (sym same))
to_start_in (suc i) ply (p ∷ plies) is = ap (λ (l : List (Option ℕ)). p ∷ l) (to_start_in i ply plies is)

pub to_start_out : (i : ℕ) (plies : List (Option ℕ)) → slice_get plies i ≡ Some None → plies ≡ to_start i plies
to_start_out i [] is = refl
to_start_out zero (p ∷ plies) is =
    let same : p ≡ None = cc in
    ap (λ (o : Option ℕ). o ∷ plies) (same ∙ ap (λ (o : Option ℕ). option_map (λ (n : ℕ). 0) o) (sym same))
to_start_out (suc i) (p ∷ plies) is = ap (λ (l : List (Option ℕ)). p ∷ l) (to_start_out i plies is)

-- The same by a test of what stands there.
pub to_start_if_in : (i : ℕ) (ply : Option ℕ) (plies : List (Option ℕ)) → slice_get plies i ≡ Some ply → is_some ply ≡ true → slice_set plies i (Some 0) ≡ to_start i plies
to_start_if_in i (Some ply) plies is some = to_start_in i ply plies is
to_start_if_in i None plies is some = absurd (cc)

pub to_start_if_out : (i : ℕ) (ply : Option ℕ) (plies : List (Option ℕ)) → slice_get plies i ≡ Some ply → is_some ply ≡ false → plies ≡ to_start i plies
to_start_if_out i (Some ply) plies is some = absurd (cc)
to_start_if_out i None plies is some = to_start_out i plies is

-- Lengths.
pub length_to_start : (i : ℕ) (plies : List (Option ℕ)) → length (to_start i plies) ≡ length plies
length_to_start i [] = refl
length_to_start zero (p ∷ plies) = refl
length_to_start (suc i) (p ∷ plies) = ap (λ (n : ℕ). suc n) (length_to_start i plies)

pub all_with_game : (n : ℕ) (saved : List SavedFilter) → All (λ (f : SavedFilter). length f.plies ≡ n) saved → All (λ (f : SavedFilter). length f.plies ≡ n + 1) (map without_last saved)
all_with_game n saved fits =
    All-map (λ (f : SavedFilter). length f.plies ≡ n + 1) without_last saved
    (λ k d within. let e : length (get_or saved k d).plies ≡ n = fits k d within in omega (arith, e, length-append (get_or saved k d).plies (None ∷ [])))

pub all_to_start : (i n : ℕ) (saved : List SavedFilter) → All (λ (f : SavedFilter). length f.plies ≡ n) saved → All (λ (f : SavedFilter). length f.plies ≡ n) (map (kept_to_start i) saved)
all_to_start i n saved fits =
    All-map (λ (f : SavedFilter). length f.plies ≡ n) (kept_to_start i) saved
    (λ k d within. length_to_start i (get_or saved k d).plies ∙ fits k d within)

-- A vector that was lent as a slice has what was made of its items, one by one.
pub lent_items : {Z : Type 0} (f : SavedFilter → SavedFilter) (v : Vec SavedFilter Z) (lent made : List SavedFilter) → lent ≡ v.items → made ≡ map f lent → (with_items v made).items ≡ map f v.items
lent_items f v lent made same is =
    let mapped : made ≡ map f v.items = is ∙ ap (λ (l : List SavedFilter). map f l) same in
    let long : length made ≡ v.len = ap (λ (l : List SavedFilter). length l) mapped ∙ length-map v.items f ∙ sym v.ok.0 in
    with_items_is v made long ∙ mapped

-- Each of them has an entry for each of so many games.
pub all_long : (saved lent : List SavedFilter) (filter : List (Option ℕ)) (games : ℕ) → lent ≡ saved → length filter ≡ games → All (λ (f : SavedFilter). length f.plies ≡ games) saved
    → All (λ (f : SavedFilter). length f.plies ≡ length filter) lent
all_long saved lent filter games same long fits =
    let P : List SavedFilter → Type 0 = λ l. All (λ (f : SavedFilter). length f.plies ≡ length filter) l in
    let Q : ℕ → Type 0 = λ n. All (λ (f : SavedFilter). length f.plies ≡ n) saved in
    subst P (sym same) (subst Q (sym long) fits)
