-- The names that were met, as names beside their ids.
use Rattle.std.proofs.Common.{◌⊎◌, inl, inr, ◌≢◌, ◌≡◌, ◌<◌, ◌-◌, ℕ, Bool, true, false, eqb, ◌||◌, not, List, [], ◌∷◌, ◌++◌, length, map, get_or, set, Some, refl, sym, ap, ◌∙◌, arith, true≢false, slice_get, subst, ◌≤◌, if◌then◌else◌}
use Rattle.std.specs.Option.{option_map}
use Rattle.std.specs.List.{list_any, zip}
use Rattle.std.specs.Str.{bytes_eq}
use Rattle.std.proofs.lemmas.List.{map-append, length-append, length-map, get_or-set_same, get_or-set_other, length-set}
use Rattle.std.proofs.lemmas.List.Folds.{list_any-append}
use Rattle.std.proofs.lemmas.Bool.{cases_eq}
use Rattle.std.proofs.lemmas.Bool.Decides.{nat_tests}
use Rattle.std.proofs.lemmas.Option.{slice_get-map}
use Rattle.indexmap.specs.IndexSet.{insert_key}
use Rattle.name_base.specs.NameLists.{is_in}
use Rattle.name_base.specs.NamesFile.{Entry}
use Rattle.name_base.specs.Reading.{has_id, names_of, last_name}
use Rattle.name_base.specs.KindReading.{IsReading}
use Rattle.name_base.proofs.NameLemmas.{list_any-map}

plain : (b : Bool) → (b || false) ≡ b
plain true = refl
plain false = refl

-- Whether an id was met, after one more.
pub has_id-push : (met : List Entry) (e : Entry) (id : ℕ) → has_id (met ++ e ∷ []) id ≡ (has_id met id || eqb id e.id)
has_id-push met e id = list_any-append (λ e. eqb id e.id) met (e ∷ []) ∙ ap (λ b. has_id met id || b) (plain (eqb id e.id))

-- One more mark.
pub IsReading-push : (taken : List Bool) (met : List Entry) (e : Entry) → e.id < length taken → IsReading taken met → IsReading (set taken e.id true) (met ++ e ∷ [])
IsReading-push taken met e lt is = record {
  few = rw length-set is.few;
  marks = λ id below. by id (simp length-set at below) (cases_eq id e.id) ∙ sym (has_id-push met e id);
}
  where
    either : (b : Bool) → (b || true) ≡ true
    either true = refl
    either false = refl

    by : (id : ℕ) → id < length taken → (id ≡ e.id) ⊎ (id ≢ e.id) → get_or (set taken e.id true) id false ≡ (has_id met id || eqb id e.id)
    by id below (inl same) =
        let yes : eqb id e.id ≡ true = grind (arith, nat_tests) in
        ap (λ j. get_or (set taken e.id true) j false) same ∙ get_or-set_same taken e.id true false lt ∙ sym (ap (λ b. has_id met id || b) yes ∙ either (has_id met id))
    by id below (inr other) =
        let no : eqb id e.id ≡ false = grind (arith, nat_tests) in
        get_or-set_other taken e.id id true false other ∙ is.marks id below ∙ sym (ap (λ b. has_id met id || b) no ∙ plain (has_id met id))

-- ---- names beside their ids.

-- One more name, with its id.
zip-push : {X : Type 0} (ks : List X) (ids : List ℕ) (k : X) (id : ℕ) → length ids ≡ length ks → zip (ks ++ k ∷ []) (ids ++ id ∷ []) ≡ zip ks ids ++ (k, id) ∷ []
zip-push [] [] k id long = refl
zip-push [] (i ∷ ids) k id long = absurd (omega (arith, long))
zip-push (x ∷ ks) [] k id long = absurd (omega (arith, long))
zip-push (x ∷ ks) (i ∷ ids) k id long = ap (λ ps. (x, i) ∷ ps) (zip-push ks ids k id (omega (arith, long)))

-- The last name, with its id.
zip-last : {X : Type 0} (ks : List X) (k : X) (ids : List ℕ) → length (ks ++ k ∷ []) ≤ length ids → zip (ks ++ k ∷ []) ids ≡ zip ks ids ++ (k, get_or ids (length ks) 0) ∷ []
zip-last [] k [] le = absurd (omega (arith, le))
zip-last [] k (i ∷ ids) le = refl
zip-last (x ∷ ks) k [] le = absurd (omega (arith, le))
zip-last (x ∷ ks) k (i ∷ ids) le = ap (λ ps. (x, i) ∷ ps) (zip-last ks k ids (omega (arith, le)))

pub zip_popped : {X : Type 0} (before after : List X) (k : X) (ids : List ℕ) (n : ℕ) → before ≡ after ++ k ∷ [] → n ≡ length after → length before ≤ length ids → zip before ids ≡ zip after ids ++ (k, get_or ids n 0) ∷ []
zip_popped before after k ids n is count le =
    ap (λ ks. zip ks ids) is ∙ zip-last after k ids (subst (λ ks. length ks ≤ length ids) is le) ∙ ap (λ m. zip after ids ++ (k, get_or ids m 0) ∷ []) (sym count)

pub zip-none : {X : Type 0} (ks : List X) (ids : List ℕ) → length ks ≡ 0 → length (zip ks ids) ≡ 0
zip-none [] ids none = refl
zip-none (k ∷ ks) ids none = absurd (omega (arith, none))

module _ {X : Type 0} (f : X → List ℕ) where
  abbrev entry : X × ℕ → Entry
  entry p = record { id = p.1; name = f p.0 }

  names_zip : (ks : List X) (ids : List ℕ) → length ids ≡ length ks → names_of (map entry (zip ks ids)) ≡ map f ks
  names_zip [] ids long = refl
  names_zip (k ∷ ks) [] long = absurd (omega (arith, long))
  names_zip (k ∷ ks) (i ∷ ids) long = ap (λ ns. f k ∷ ns) (names_zip ks ids (omega (arith, long)))

  module _ (ks : List X) (ids : List ℕ) (met : List Entry) (long : length ids ≡ length ks) (seen : map entry (zip ks ids) ≡ met) where
    names_are : names_of met ≡ map f ks
    names_are = ap names_of (sym seen) ∙ names_zip ks ids long

    -- A name is a key where it was met.
    pub key_is_met : (k : X) → list_any (λ y. bytes_eq (f k) (f y)) ks ≡ is_in (names_of met) (f k)
    key_is_met k = sym (list_any-map f (bytes_eq (f k)) ks) ∙ ap (λ ns. is_in ns (f k)) (sym names_are)

    -- A name that was not met comes last, with its id.
    pub met_added : (k : X) (id : ℕ) (after : List X) (ids_after : List ℕ) → is_in (names_of met) (f k) ≡ false → after ≡ insert_key (λ x y. bytes_eq (f x) (f y)) ks k → ids_after ≡ ids ++ id ∷ []
        → map entry (zip after ids_after) ≡ met ++ record { id = id; name = f k } ∷ []
    met_added k id after ids_after new done pushed =
        let last : after ≡ ks ++ k ∷ [] = done ∙ ap (λ b. if b then ks else ks ++ k ∷ []) (key_is_met k ∙ new) in
        (λ i. map entry (zip (last i) (pushed i))) ∙ ap (map entry) (zip-push ks ids k id long)
        ∙ map-append entry (zip ks ids) ((k, id) ∷ []) ∙ ap (λ es. es ++ record { id = id; name = f k } ∷ []) seen

    -- And there are as many ids as names.
    pub long_added : (k : X) (id : ℕ) (after : List X) (ids_after : List ℕ) → is_in (names_of met) (f k) ≡ false → after ≡ insert_key (λ x y. bytes_eq (f x) (f y)) ks k → ids_after ≡ ids ++ id ∷ []
        → length ids_after ≡ length after
    long_added k id after ids_after new done pushed =
        let last : after ≡ ks ++ k ∷ [] = done ∙ ap (λ b. if b then ks else ks ++ k ∷ []) (key_is_met k ∙ new) in
        omega (arith, ap length last, ap length pushed, length-append ks (k ∷ []), length-append ids (id ∷ []), long)

    -- The last name.
    pub last_is : (k : X) → Some k ≡ slice_get ks (length ks - 1) → Some (f k) ≡ last_name met
    last_is k at =
        let count : length met ≡ length ks = sym (length-map met (λ e. e.name)) ∙ ap length names_are ∙ length-map ks f in
        sym ((λ i. slice_get (names_are i) (count i - 1)) ∙ slice_get-map f ks (length ks - 1) ∙ ap (option_map f) (sym at))

-- A name that is new was not met.
pub not_met : (b : Bool) → true ≡ not b → b ≡ false
not_met true e = absurd (true≢false e)
not_met false e = refl
