-- What is written is spelled as a names file is: it is read again as the same lists.
use Rattle.std.proofs.Common.{◌≡◌, ◌<◌, ◌+◌, ℕ, suc, false, eqb, List, [], ◌∷◌, ◌++◌, length, map, Option, Some, None, refl, sym, ap, subst, ◌∙◌, arith, append_assoc, slice_get}
use Rattle.std.specs.List.{AllByRecursion, IsDistinct}
use Rattle.std.specs.List.Sorted.{IsPermutation}
use Rattle.std.specs.Str.{bytes_eq}
use Rattle.std.specs.Cmp.{nat_eq_equiv}
use Rattle.std.proofs.lemmas.Bool.Decides.{nat_tests}
use Rattle.std.proofs.lemmas.List.{length-append, length-map}
use Rattle.std.proofs.lemmas.List.Sorted.{IsPermutation-map, All-permutation, length_permutation}
use Rattle.std.proofs.lemmas.List.Elements.{All-from_recursion, recursion_from_All}
use Rattle.std.proofs.lemmas.Map.Keys.{IsDistinct-cons, IsDistinct-IsPermutation}
use Rattle.byteorder.specs.Numbers.{length-bytes_high_first}
use Rattle.name_base.specs.declared.header.Shape.{Shape}
use Rattle.name_base.specs.NameLists.{NameLists, AreNames, AreSound, IsName}
use Rattle.name_base.specs.NamesFile.{Entry, AllFit, entries, frequency_width, Arranges, StoresKind, NameFile}
use Rattle.name_base.specs.NamesText.{Row, rows_from, IsOrderOf, stored_rows, greatest_of, AreFrequencies, Frequencies, FitsShape, header_of, IsNamesText}
use Rattle.name_base.proofs.NameLemmas.{bytes_equiv}
use Rattle.name_base.proofs.TextLemmas.{name_restored, shared_within, rows_fit_from, greatest_small}

abbrev pub entry_of_row : Row → Entry
entry_of_row r = record { id = r.id; name = r.name }

-- ---- the rows by id.

-- Their names are the names.
pub names_from : (id : ℕ) (names : List (List ℕ)) (fs : List ℕ) → length fs ≡ length names → map (λ r. r.name) (rows_from id names fs) ≡ names
names_from id [] fs long = refl
names_from id (name ∷ names) [] long = absurd (omega arith)
names_from id (name ∷ names) (f ∷ fs) long = ap (λ ns. name ∷ ns) (names_from (id + 1) names fs (omega arith))

length_from : (id : ℕ) (names : List (List ℕ)) (fs : List ℕ) → length fs ≡ length names → length (rows_from id names fs) ≡ length names
length_from id names fs long = sym (length-map (rows_from id names fs) (λ r. r.name)) ∙ ap length (names_from id names fs long)

-- Their ids rise.
ids_apart : (i id : ℕ) (names : List (List ℕ)) (fs : List ℕ) → i < id → AllByRecursion (λ y. eqb i y ≡ false) (map (λ r. r.id) (rows_from id names fs))
ids_apart i id [] fs lt = tt
ids_apart i id (name ∷ names) [] lt = tt
ids_apart i id (name ∷ names) (f ∷ fs) lt = (grind (arith, nat_tests), ids_apart i (id + 1) names fs (omega arith))

ids_once : (id : ℕ) (names : List (List ℕ)) (fs : List ℕ) → IsDistinct eqb (map (λ r. r.id) (rows_from id names fs))
unfolding IsDistinct
ids_once id [] fs = tt
ids_once id (name ∷ names) [] = tt
ids_once id (name ∷ names) (f ∷ fs) = IsDistinct-cons eqb id (map (λ r. r.id) (rows_from (id + 1) names fs)) (ids_apart id (id + 1) names fs (omega arith)) (ids_once (id + 1) names fs)

at_length : (front : List (List ℕ)) (name : List ℕ) (names : List (List ℕ)) → slice_get (front ++ name ∷ names) (length front) ≡ Some name
at_length [] name names = refl
at_length (x ∷ front) name names = at_length front name names

-- And each name stands at its id.
placed_from : (front names : List (List ℕ)) (fs : List ℕ) (id : ℕ) → id ≡ length front → AllByRecursion (λ r. slice_get (front ++ names) r.id ≡ Some r.name) (rows_from id names fs)
placed_from front [] fs id is = tt
placed_from front (name ∷ names) [] id is = tt
placed_from front (name ∷ names) (f ∷ fs) id is = (
  ap (slice_get (front ++ name ∷ names)) is ∙ at_length front name names,
  subst (λ all. AllByRecursion (λ r. slice_get all r.id ≡ Some r.name) (rows_from (id + 1) names fs)) (append_assoc front (name ∷ []) names)
      (placed_from (front ++ name ∷ []) names fs (id + 1) (omega (arith, length-append front (name ∷ [])))),
)

named_from : (id : ℕ) (names : List (List ℕ)) (fs : List ℕ) → AllByRecursion IsName names → AllByRecursion (λ r. IsName r.name) (rows_from id names fs)
named_from id [] fs are = tt
named_from id (name ∷ names) [] are = tt
named_from id (name ∷ names) (f ∷ fs) are = (are.0, named_from (id + 1) names fs are.1)

-- ---- the rows in order, as they are stored.

entries_are : (width : ℕ) (before : Option (List ℕ)) (rows : List Row) → entries before (stored_rows width before rows) ≡ map entry_of_row rows
entries_are width before [] = refl
entries_are width before (r ∷ rows) =
    (λ i. record { id = r.id; name = name_restored width before r i } ∷ entries (Some (name_restored width before r i)) (stored_rows width (Some r.name) rows))
    ∙ ap (λ es. entry_of_row r ∷ es) (entries_are width (Some r.name) rows)

length-stored_rows : (width : ℕ) (before : Option (List ℕ)) (rows : List Row) → length (stored_rows width before rows) ≡ length rows
length-stored_rows width before [] = refl
length-stored_rows width before (r ∷ rows) = ap suc (length-stored_rows width (Some r.name) rows)

all_fit : (shape : Shape) (before : Option (List ℕ)) (rows : List Row) → AllByRecursion (FitsShape shape) rows → AllByRecursion (λ r. IsName r.name) rows → AllFit shape before (stored_rows (frequency_width shape.greatest) before rows)
all_fit shape before [] fit named = tt
all_fit shape before (r ∷ rows) fit named = (
  record {
    id = fit.0.id;
    frequency = length-bytes_high_first (frequency_width shape.greatest) r.frequency;
    shared = (shared_within before r.name).1;
    name = subst IsName (sym (name_restored (frequency_width shape.greatest) before r)) named.0;
  },
  subst (λ name. AllFit shape (Some name) (stored_rows (frequency_width shape.greatest) (Some r.name) rows)) (sym (name_restored (frequency_width shape.greatest) before r))
      (all_fit shape (Some r.name) rows fit.1 named.1),
)

pub permuted : (P : Row → Type 0) (xs ys : List Row) → IsPermutation xs ys → AllByRecursion P xs → AllByRecursion P ys
permuted P xs ys same all = recursion_from_All P ys (All-permutation P xs ys same (All-from_recursion P xs all))

of_entries : (P : Entry → Type 0) (rows : List Row) → AllByRecursion (λ r. P (entry_of_row r)) rows → AllByRecursion P (map entry_of_row rows)
of_entries P [] h = tt
of_entries P (r ∷ rows) h = (h.0, of_entries P rows h.1)

map_twice : {Z : Type 0} (g : Entry → Z) (rows : List Row) → map g (map entry_of_row rows) ≡ map (λ r. g (entry_of_row r)) rows
map_twice g [] = refl
map_twice g (r ∷ rows) = ap (λ zs. g (entry_of_row r) ∷ zs) (map_twice g rows)

kind_again : (limit : ℕ) (names : List (List ℕ)) (fs : List ℕ) (rows : List Row) → AreNames limit names → AreFrequencies names fs → IsOrderOf names fs rows
    → StoresKind (record { count = length names; greatest = greatest_of fs }) (stored_rows (frequency_width (greatest_of fs)) None rows) names
kind_again limit names fs rows are frequencies order =
    let shape : Shape = record { count = length names; greatest = greatest_of fs } in
    let width : ℕ = frequency_width (greatest_of fs) in
    let all : length rows ≡ length names = length_permutation (rows_from 0 names fs) rows order.same ∙ length_from 0 names fs frequencies.count in
    let arranged : Arranges (map entry_of_row rows) names = record {
      ids = subst (IsDistinct eqb) (sym (map_twice (λ e. e.id) rows))
          (IsDistinct-IsPermutation eqb nat_eq_equiv.symm (map (λ r. r.id) (rows_from 0 names fs)) (map (λ r. r.id) rows) (IsPermutation-map (λ r. r.id) (rows_from 0 names fs) rows order.same) (ids_once 0 names fs));
      once = subst (IsDistinct bytes_eq) (sym (map_twice (λ e. e.name) rows))
          (IsDistinct-IsPermutation bytes_eq bytes_equiv.symm (map (λ r. r.name) (rows_from 0 names fs)) (map (λ r. r.name) rows) (IsPermutation-map (λ r. r.name) (rows_from 0 names fs) rows order.same)
          (subst (IsDistinct bytes_eq) (sym (names_from 0 names fs frequencies.count)) are.once));
      count = sym (length-map rows entry_of_row ∙ all);
      placed = of_entries (λ e. slice_get names e.id ≡ Some e.name) rows (permuted (λ r. slice_get names r.id ≡ Some r.name) (rows_from 0 names fs) rows order.same (placed_from [] names fs 0 refl));
    } in
    record {
      count = length-stored_rows width None rows ∙ all;
      each = all_fit shape None rows
          (permuted (FitsShape shape) (rows_from 0 names fs) rows order.same (rows_fit_from shape 0 names fs are.each (omega arith) (omega arith)))
          (permuted (λ r. IsName r.name) (rows_from 0 names fs) rows order.same (named_from 0 names fs are.each));
      arranged = subst (λ es. Arranges es names) (sym (entries_are width None rows)) arranged;
    }

-- The written form is a names file with these lists.
pub text_again : (lists : NameLists) (f : Frequencies) (bytes : List ℕ) → AreSound lists → AreFrequencies lists.players f.players → AreFrequencies lists.events f.events → AreFrequencies lists.sites f.sites → AreFrequencies lists.rounds f.rounds
    → IsNamesText lists f bytes → NameFile bytes lists
text_again lists f bytes sound fp fe fs fr t = record {
  stamp = 0 ∷ 0 ∷ 0 ∷ 0 ∷ [];
  header = header_of lists f;
  players = stored_rows (frequency_width (greatest_of f.players)) None t.players;
  events = stored_rows (frequency_width (greatest_of f.events)) None t.events;
  sites = stored_rows (frequency_width (greatest_of f.sites)) None t.sites;
  rounds = stored_rows (frequency_width (greatest_of f.rounds)) None t.rounds;
  rest = [];
  spelled = t.text;
  stamped = refl;
  counts = record { players = sound.players.within; events = sound.events.within; sites = sound.sites.within; rounds = sound.rounds.within };
  greatest = record { players = greatest_small f.players fp.small; events = greatest_small f.events fe.small; sites = greatest_small f.sites fs.small; rounds = greatest_small f.rounds fr.small };
  player_names = kind_again 1048576 lists.players f.players t.players sound.players fp t.player_order;
  event_names = kind_again 524288 lists.events f.events t.events sound.events fe t.event_order;
  site_names = kind_again 524288 lists.sites f.sites t.sites sound.sites fs t.site_order;
  round_names = kind_again 262144 lists.rounds f.rounds t.rounds sound.rounds fr t.round_order;
}
