-- Names that are all among others: there are no more of them, and fewer where one of the others is missing.
use Rattle.std.proofs.Common.{◌≡◌, ◌≤◌, ◌<◌, ◌+◌, ℕ, Bool, true, false, true≢false, IsTrue, if◌then◌else◌, List, [], ◌∷◌, ◌++◌, length, slice_get, get_or, Some, None, refl, sym, ◌∙◌, subst, inl, inr, arith}
use Rattle.std.specs.List.{AllByRecursion, IsDistinct}
use Rattle.std.specs.Str.{bytes_eq}
use Rattle.std.proofs.lemmas.Bool.{cases_Bool, false_from_ne_true, or_left, or_parts, or_right}
use Rattle.std.proofs.lemmas.List.Folds.{list_any_at}
use Rattle.std.proofs.lemmas.Map.Keys.{IsDistinct-cons, IsDistinct-head, IsDistinct-tail}
use Rattle.std.proofs.lemmas.Option.{get_or_from_slice_get, slice_get_within}
use Rattle.std.proofs.lemmas.Slice.Eq.{bytes_eq-Decides}
use Rattle.name_base.specs.NameLists.{AreSound, NameLists, id_in, is_in, limit_of, of_kind, with_kind, with_name}
use Rattle.name_base.specs.declared.kind.NameKind.{NameKind}
use Rattle.name_base.specs.declared.kind.NameKind.TheVariants.{Player, Event, Site, Round}
use Rattle.name_base.proofs.NameLemmas.{AllByRecursion-push, absent}
use Rattle.base_core.specs.Drafts.{AreAmong, AreNamesOf}
use Rattle.base_core.specs.Entries.{name_at}
use Rattle.base_core.proofs.Lists.{get_some}

-- The names without the first that is this one.
without : List ℕ → List (List ℕ) → List (List ℕ)
without x [] = []
without x (y ∷ ys) = if bytes_eq x y then ys else y ∷ without x ys

same : (x y : List ℕ) → bytes_eq x y ≡ true → x ≡ y
same x y is = (bytes_eq-Decides x y).0 is

own : (x : List ℕ) → bytes_eq x x ≡ true
own x = (bytes_eq-Decides x x).1 refl

length-without : (x : List ℕ) (ys : List (List ℕ)) → is_in ys x ≡ true → length ys ≡ length (without x ys) + 1
unfolding without
length-without x [] there = absurd (true≢false (sym there))
length-without x (y ∷ ys) there =
    elim (cases_Bool (bytes_eq x y)) [
      | inl is ↦ rw is (omega arith)
      | inr other ↦
          let rest = length-without x ys (rw other at there) in
          rw other (omega (arith, rest))
    ]

still_in : (x n : List ℕ) (ys : List (List ℕ)) → bytes_eq x n ≡ false → is_in ys n ≡ true → is_in (without x ys) n ≡ true
unfolding without
still_in x n [] other there = absurd (true≢false (sym there))
still_in x n (y ∷ ys) other there =
    elim (cases_Bool (bytes_eq x y)) [
      | inl is ↦
          let apart : bytes_eq n y ≡ false = false_from_ne_true (bytes_eq n y) (λ twin. true≢false (sym (subst (λ z. bytes_eq x z ≡ true) (sym (same n y twin)) is) ∙ other)) in
          rw is (rw apart at there)
      | inr far ↦ elim (cases_Bool (bytes_eq n y)) [
        | inl twin ↦ rw far (or_left (bytes_eq n y) (is_in (without x ys) n) twin)
        | inr apart ↦ rw far (or_right (bytes_eq n y) (is_in (without x ys) n) (still_in x n ys other (rw apart at there)))
      ]
    ]

all_still : (x : List ℕ) (ys xs : List (List ℕ)) → AllByRecursion (λ y. bytes_eq x y ≡ false) xs → AreAmong xs ys → AreAmong xs (without x ys)
all_still x ys [] others are = tt
all_still x ys (n ∷ xs) others are = (still_in x n ys others.0 are.0, all_still x ys xs others.1 are.1)

no_more : (xs ys : List (List ℕ)) → IsDistinct bytes_eq xs → AreAmong xs ys → length xs ≤ length ys
no_more [] ys once are = omega arith
no_more (x ∷ xs) ys once are =
    let rest = no_more xs (without x ys) (IsDistinct-tail bytes_eq x xs once) (all_still x ys xs (IsDistinct-head bytes_eq x xs once) are.1) in
    omega (arith, rest, length-without x ys are.0)

apart_all : (x : List ℕ) (xs : List (List ℕ)) → is_in xs x ≡ false → AllByRecursion (λ y. bytes_eq x y ≡ false) xs
apart_all x [] none = tt
apart_all x (y ∷ ys) none = let parts = or_parts (bytes_eq x y) (is_in ys x) none in (parts.0, apart_all x ys parts.1)

fewer : (xs ys : List (List ℕ)) (name : List ℕ) → IsDistinct bytes_eq xs → AreAmong xs ys → is_in xs name ≡ false → IsTrue (is_in ys name) → length xs < length ys
fewer xs ys name once are none there =
    let all = no_more (name ∷ xs) ys (IsDistinct-cons bytes_eq name xs (apart_all name xs none) once) (there, are) in
    omega (arith, all)

-- A name with an id is among the names.
name_in : (names : List (List ℕ)) (id : ℕ) (name : List ℕ) → slice_get names id ≡ Some name → IsTrue (is_in names name)
name_in names id name at =
    list_any_at (bytes_eq name) names id name (slice_get_within names id name at)
    ((bytes_eq-Decides name (get_or names id name)).1 (sym (get_or_from_slice_get names id name name at)))

at_name : (names : List (List ℕ)) (id : ℕ) → id < length names → slice_get names id ≡ Some (name_at names id)
at_name names id below =
    let there = get_some names id below in
    rw there.1 refl

-- A draft is not full of names of a kind, where it lacks one of its base.
pub not-full : (kind : NameKind) (names whole : NameLists) (name : List ℕ) (id : ℕ) → AreSound names → AreSound whole → AreNamesOf names whole → id < length (of_kind kind whole) → name ≡ name_at (of_kind kind whole) id →
    (id_in (of_kind kind names) name ≡ None) × (length (of_kind kind names) ≡ limit_of kind) → ⊥
not-full Player names whole name id sound all among below is full =
    let long : length names.players ≡ limit_of Player = full.1 in
    let there = subst (λ (n : List ℕ). IsTrue (is_in whole.players n)) (sym is) (name_in whole.players id _ (at_name whole.players id below)) in
    let less = fewer names.players whole.players name sound.players.once among.players (absent names.players name full.0) there in
    omega (arith, less, all.players.within, long)
not-full Event names whole name id sound all among below is full =
    let long : length names.events ≡ limit_of Event = full.1 in
    let there = subst (λ (n : List ℕ). IsTrue (is_in whole.events n)) (sym is) (name_in whole.events id _ (at_name whole.events id below)) in
    let less = fewer names.events whole.events name sound.events.once among.events (absent names.events name full.0) there in
    omega (arith, less, all.events.within, long)
not-full Site names whole name id sound all among below is full =
    let long : length names.sites ≡ limit_of Site = full.1 in
    let there = subst (λ (n : List ℕ). IsTrue (is_in whole.sites n)) (sym is) (name_in whole.sites id _ (at_name whole.sites id below)) in
    let less = fewer names.sites whole.sites name sound.sites.once among.sites (absent names.sites name full.0) there in
    omega (arith, less, all.sites.within, long)
not-full Round names whole name id sound all among below is full =
    let long : length names.rounds ≡ limit_of Round = full.1 in
    let there = subst (λ (n : List ℕ). IsTrue (is_in whole.rounds n)) (sym is) (name_in whole.rounds id _ (at_name whole.rounds id below)) in
    let less = fewer names.rounds whole.rounds name sound.rounds.once among.rounds (absent names.rounds name full.0) there in
    omega (arith, less, all.rounds.within, long)

-- Names with one more of the others are among them.
among_by : (names whole : List (List ℕ)) (name : List ℕ) (b : Bool) → AreAmong names whole → IsTrue (is_in whole name) → AreAmong (if b then names else names ++ name ∷ []) whole
among_by names whole name true are there = are
among_by names whole name false are there = AllByRecursion-push (λ n. IsTrue (is_in whole n)) names name are there

among-more : (names whole : List (List ℕ)) (id : ℕ) → AreAmong names whole → id < length whole → AreAmong (with_name names (name_at whole id)) whole
among-more names whole id are below = among_by names whole (name_at whole id) (is_in names (name_at whole id)) are (name_in whole id _ (at_name whole id below))

pub among-with : (kind : NameKind) (names whole : NameLists) (id : ℕ) → AreNamesOf names whole → id < length (of_kind kind whole) →
    AreNamesOf (with_kind kind names (with_name (of_kind kind names) (name_at (of_kind kind whole) id))) whole
among-with Player names whole id are below = record { players = among-more names.players whole.players id are.players below; events = are.events; sites = are.sites; rounds = are.rounds }
among-with Event names whole id are below = record { players = are.players; events = among-more names.events whole.events id are.events below; sites = are.sites; rounds = are.rounds }
among-with Site names whole id are below = record { players = are.players; events = are.events; sites = among-more names.sites whole.sites id are.sites below; rounds = are.rounds }
among-with Round names whole id are below = record { players = are.players; events = are.events; sites = are.sites; rounds = among-more names.rounds whole.rounds id are.rounds below }
