-- The names of a kind: what is read is spelled so, and what is spelled is read again.
use Rattle.std.proofs.Common.{◌≡◌, ◌≤◌, ◌<◌, ◌-◌, ℕ, zero, suc, false, eqb, List, [], ◌∷◌, ◌++◌, length, Option, Some, None, Result, Ok, Err, refl, sym, ap, subst, ◌∙◌, arith, append_assoc, slice_get}
use Rattle.std.specs.List.{AllByRecursion, IsDistinct}
use Rattle.std.specs.Option.{option_map}
use Rattle.std.specs.Str.{bytes_eq}
use Rattle.std.specs.Cmp.{nat_eq_equiv}
use Rattle.std.proofs.lemmas.List.{append-nil, map-append, length-append}
use Rattle.std.proofs.lemmas.Option.{slice_get-map}
use Rattle.std.proofs.lemmas.Map.Keys.{IsDistinct-push}
use Rattle.name_base.specs.declared.header.Shape.{Shape}
use Rattle.name_base.specs.declared.kind.NameKind.{NameKind}
use Rattle.name_base.specs.declared.fault.NameWhat.{NameWhat}
use Rattle.name_base.specs.NameLists.{IsName, is_in}
use Rattle.name_base.specs.NamesFile.{Stored, Entry, AllFit, entries, name_after, stored_bytes, kind_bytes, Arranges, StoresKind}
use Rattle.name_base.specs.Reading.{◌>>=◌, blamed, entry_at, entries_at, by_id, kind_at, has_id, names_of, last_name}
use Rattle.name_base.specs.KindRead.{AreMet}
use Rattle.name_base.proofs.NameLemmas.{list_any-map, AllByRecursion-push, bytes_equiv}
use Rattle.name_base.proofs.FieldLemmas.{IsBytes, bind_ok, ok_is}
use Rattle.name_base.proofs.PieceLemmas.{entry_of, entry_takes, entry_again}
use Rattle.name_base.proofs.ByIdLemmas.{ids_of, distinct_before, by_id-Arranges, by_id-only}

-- A step that did not fail, with its place.
pub blamed_ok : {A : Type 0} (kind : Option NameKind) (index : ℕ) (r : Result A NameWhat) (x : A) → blamed kind index r ≡ Ok x → r ≡ Ok x
blamed_ok kind index (Ok y) x e = ap Ok (ok_is y x e)
blamed_ok kind index (Err what) x e = absurd cc

-- One more name keeps what holds of those that were met.
pub AreMet-push : (count : ℕ) (met : List Entry) (e : Entry) → AreMet count met → e.id < count → IsName e.name → has_id met e.id ≡ false → is_in (names_of met) e.name ≡ false → AreMet count (met ++ e ∷ [])
AreMet-push count met e are lt is new_id new_name = record {
  ids = subst (IsDistinct eqb) (sym (map-append (λ e. e.id) met (e ∷ []))) (IsDistinct-push nat_eq_equiv (ids_of met) e.id are.ids (list_any-map (λ e. e.id) (eqb e.id) met ∙ new_id));
  once = subst (IsDistinct bytes_eq) (sym (map-append (λ e. e.name) met (e ∷ []))) (IsDistinct-push bytes_equiv (names_of met) e.name are.once new_name);
  below = AllByRecursion-push (λ e. e.id < count) met e are.below lt;
  each = AllByRecursion-push (λ e. IsName e.name) met e are.each is;
}

-- The last name, after one more.
at_end : {X : Type 0} (xs : List X) (y : X) → slice_get (xs ++ y ∷ []) (length xs) ≡ Some y
at_end [] y = refl
at_end (x ∷ xs) y = at_end xs y

last_at : {X : Type 0} (xs : List X) (y : X) → slice_get (xs ++ y ∷ []) (length (xs ++ y ∷ []) - 1) ≡ Some y
last_at xs y =
    let n : length (xs ++ y ∷ []) - 1 ≡ length xs = omega (arith, length-append xs (y ∷ [])) in
    ap (slice_get (xs ++ y ∷ [])) n ∙ at_end xs y

pub last_name-push : (met : List Entry) (e : Entry) → last_name (met ++ e ∷ []) ≡ Some e.name
last_name-push met e = slice_get-map (λ e. e.name) (met ++ e ∷ []) (length (met ++ e ∷ []) - 1) ∙ ap (option_map (λ e. e.name)) (last_at met e)

-- What so many names took, after those that were met.
pub record EntriesTake (shape : Shape) (n : ℕ) (met : List Entry) (bytes : List ℕ) (after : List Entry × List ℕ) : Type 0 where
  pub stored : List Stored
  pub count : length stored ≡ n
  pub spelled : bytes ≡ kind_bytes shape (last_name met) stored after.1
  pub fit : AllFit shape (last_name met) stored
  pub added : after.0 ≡ met ++ entries (last_name met) stored
  pub are : AreMet shape.count after.0
  pub rest : IsBytes after.1

pub entries_take : (kind : NameKind) (shape : Shape) (n : ℕ) (met : List Entry) (bytes : List ℕ) (x : List Entry × List ℕ) → IsBytes bytes → AreMet shape.count met → entries_at kind shape n met bytes ≡ Ok x → EntriesTake shape n met bytes x
unfolding entries_at
entries_take kind shape zero met bytes x fits are e =
    let whole : EntriesTake shape zero met bytes (met, bytes) = record { stored = []; count = refl; spelled = refl; fit = tt; added = sym (append-nil met); are = are; rest = fits } in
    subst (EntriesTake shape zero met bytes) (ok_is (met, bytes) x e) whole
entries_take kind shape (suc n) met bytes x fits are e =
    let a = bind_ok (blamed (Some kind) (length met) (entry_at shape met bytes)) (λ more. entries_at kind shape n more.0 more.1) x e in
    let t = entry_takes shape met bytes a.0 fits are.each (blamed_ok (Some kind) (length met) (entry_at shape met bytes) a.0 a.1) in
    let one : Entry = entry_of (last_name met) t.stored in
    let met_one : AreMet shape.count (met ++ one ∷ []) = AreMet-push shape.count met one are t.fits.id t.fits.name t.new_id t.new_name in
    let rest = entries_take kind shape n a.0.0 a.0.1 x t.rest (subst (AreMet shape.count) (sym t.added) met_one) a.2 in
    let last : last_name a.0.0 ≡ Some one.name = ap last_name t.added ∙ last_name-push met one in
    record {
      stored = t.stored ∷ rest.stored;
      count = ap suc rest.count;
      spelled = t.spelled ∙ ap (stored_bytes shape (last_name met) t.stored) (rest.spelled ∙ ap (λ before. kind_bytes shape before rest.stored x.1) last);
      fit = (t.fits, subst (λ before. AllFit shape before rest.stored) last rest.fit);
      added = rest.added ∙ (λ i. t.added i ++ entries (last i) rest.stored) ∙ append_assoc met (one ∷ []) (entries (Some one.name) rest.stored);
      are = rest.are;
      rest = rest.rest;
    }

-- Stored names that fit are read again.
pub entries_again : (kind : NameKind) (shape : Shape) (stored : List Stored) (met : List Entry) (rest : List ℕ) → shape.count ≤ 16777216 → AllFit shape (last_name met) stored
    → IsDistinct eqb (ids_of (met ++ entries (last_name met) stored)) → IsDistinct bytes_eq (names_of (met ++ entries (last_name met) stored))
    → entries_at kind shape (length stored) met (kind_bytes shape (last_name met) stored rest) ≡ Ok (met ++ entries (last_name met) stored, rest)
unfolding entries_at
entries_again kind shape [] met rest le fit ids once = ap (λ es. Ok (es, rest)) (sym (append-nil met))
entries_again kind shape (s ∷ stored) met rest le fit ids once =
    let one : Entry = entry_of (last_name met) s in
    let more : List Entry = entries (Some one.name) stored in
    let new_id : has_id met s.id ≡ false =
    sym (list_any-map (λ e. e.id) (eqb s.id) met) ∙ distinct_before eqb nat_eq_equiv (ids_of met) s.id (ids_of more) (subst (IsDistinct eqb) (map-append (λ e. e.id) met (one ∷ more)) ids) in
    let new_name : is_in (names_of met) one.name ≡ false =
    distinct_before bytes_eq bytes_equiv (names_of met) one.name (names_of more) (subst (IsDistinct bytes_eq) (map-append (λ e. e.name) met (one ∷ more)) once) in
    let first = entry_again shape met s (kind_bytes shape (Some one.name) stored rest) le fit.0 new_id new_name in
    let last : last_name (met ++ one ∷ []) ≡ Some one.name = last_name-push met one in
    let grouped : (met ++ one ∷ []) ++ more ≡ met ++ one ∷ more = append_assoc met (one ∷ []) more in
    let regrouped : (met ++ one ∷ []) ++ entries (last_name (met ++ one ∷ [])) stored ≡ met ++ one ∷ more = ap (λ before. (met ++ one ∷ []) ++ entries before stored) last ∙ grouped in
    let others = entries_again kind shape stored (met ++ one ∷ []) rest le (subst (λ before. AllFit shape before stored) (sym last) fit.1)
    (subst (λ es. IsDistinct eqb (ids_of es)) (sym regrouped) ids) (subst (λ es. IsDistinct bytes_eq (names_of es)) (sym regrouped) once) in
    ap (λ r. blamed (Some kind) (length met) r >>= λ more. entries_at kind shape (length stored) more.0 more.1) first
    ∙ ap (λ before. entries_at kind shape (length stored) (met ++ one ∷ []) (kind_bytes shape before stored rest)) (sym last)
    ∙ others ∙ ap (λ es. Ok (es, rest)) regrouped

pub length-entries : (before : Option (List ℕ)) (stored : List Stored) → length (entries before stored) ≡ length stored
length-entries before [] = refl
length-entries before (s ∷ stored) = ap suc (length-entries (Some (name_after before s)) stored)

pub AreMet-none : (count : ℕ) → AreMet count []
unfolding IsDistinct
AreMet-none count = record { ids = tt; once = tt; below = tt; each = tt }

pub all_below : (shape : Shape) (before : Option (List ℕ)) (stored : List Stored) → AllFit shape before stored → AllByRecursion (λ e. e.id < shape.count) (entries before stored)
all_below shape before [] fit = tt
all_below shape before (s ∷ stored) fit = (fit.0.id, all_below shape (Some (name_after before s)) stored fit.1)

pub all_names : (shape : Shape) (before : Option (List ℕ)) (stored : List Stored) → AllFit shape before stored → AllByRecursion (λ e. IsName e.name) (entries before stored)
all_names shape before [] fit = tt
all_names shape before (s ∷ stored) fit = (fit.0.name, all_names shape (Some (name_after before s)) stored fit.1)

-- What the names of a kind took.
pub record KindTakes (shape : Shape) (bytes : List ℕ) (x : List (List ℕ) × List ℕ) : Type 0 where
  pub stored : List Stored
  pub spelled : bytes ≡ kind_bytes shape None stored x.1
  pub names : StoresKind shape stored x.0
  pub rest : IsBytes x.1

pub kind_takes : (kind : NameKind) (shape : Shape) (bytes : List ℕ) (x : List (List ℕ) × List ℕ) → IsBytes bytes → kind_at kind shape bytes ≡ Ok x → KindTakes shape bytes x
unfolding kind_at
kind_takes kind shape bytes x fits e =
    let a = bind_ok (entries_at kind shape shape.count [] bytes) (λ es. Ok (by_id shape.count es.0, es.1)) x e in
    let t = entries_take kind shape shape.count [] bytes a.0 fits (AreMet-none shape.count) a.1 in
    let all : length a.0.0 ≡ shape.count = ap length t.added ∙ length-entries None t.stored ∙ t.count in
    let whole : KindTakes shape bytes (by_id shape.count a.0.0, a.0.1) = record {
      stored = t.stored;
      spelled = t.spelled;
      names = record { count = t.count; each = t.fit; arranged = subst (λ es. Arranges es (by_id shape.count a.0.0)) t.added (by_id-Arranges shape.count a.0.0 t.are all) };
      rest = t.rest;
    } in
    subst (KindTakes shape bytes) (ok_is (by_id shape.count a.0.0, a.0.1) x a.2) whole

pub kind_again : (kind : NameKind) (shape : Shape) (stored : List Stored) (names : List (List ℕ)) (rest : List ℕ) → shape.count ≤ 16777216 → StoresKind shape stored names
    → kind_at kind shape (kind_bytes shape None stored rest) ≡ Ok (names, rest)
unfolding kind_at
kind_again kind shape stored names rest le stores =
    let es : List Entry = entries None stored in
    let all : length es ≡ shape.count = length-entries None stored ∙ stores.count in
    let read : entries_at kind shape shape.count [] (kind_bytes shape None stored rest) ≡ Ok (es, rest) =
    ap (λ n. entries_at kind shape n [] (kind_bytes shape None stored rest)) (sym stores.count) ∙ entries_again kind shape stored [] rest le stores.each stores.arranged.ids stores.arranged.once in
    let are : AreMet shape.count es = record { ids = stores.arranged.ids; once = stores.arranged.once; below = all_below shape None stored stores.each; each = all_names shape None stored stores.each } in
    ap (λ r. r >>= λ es. Ok (by_id shape.count es.0, es.1)) read ∙ ap (λ ns. Ok (ns, rest)) (by_id-only shape.count es are all names stores.arranged)
