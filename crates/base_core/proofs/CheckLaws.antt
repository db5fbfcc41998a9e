-- What an entry has that passed its checks.
use Rattle.std.proofs.Common.{◌≡◌, ◌≤◌, ◌+◌, ℕ, List, Option, Some, None, Result, Ok, Err, refl, sym, subst}
use Rattle.std.specs.Option.{option_map_or}
use Rattle.std.proofs.lemmas.Bool.{leb-false, ltb-false}
use Rattle.cell_core.specs.Steps.{blamed, ◌>>=◌}
use Rattle.index_entry.specs.declared.entry.Entry.{Entry}
use Rattle.index_entry.specs.declared.fault.EntryFault.{EntryFault}
use Rattle.index_entry.specs.Entry.{entry_read, entry_in, fault_in}
use Rattle.name_base.specs.NameLists.{NameLists}
use Rattle.base_core.specs.declared.fault.BaseFault.TheVariants.{EntryField, Id, Place}
use Rattle.base_core.specs.declared.fault.IdField.{IdField}
use Rattle.base_core.specs.declared.fault.IdField.TheVariants as id
use Rattle.base_core.specs.declared.fault.PlaceWhat.{PlaceWhat}
use Rattle.base_core.specs.declared.fault.PlaceWhat.TheVariants as place
use Rattle.base_core.specs.Entries.{HasNames}
use Rattle.base_core.specs.FirstFault.{unless, entry_checked, id_fault, place_fault}
use Rattle.base_core.proofs.Results.{same_ok, ok_err, step_none}

pub record Checked (names : NameLists) (end : ℕ) (r : Result Entry EntryFault) (e : Entry) : Type 0 where
  pub read : r ≡ Ok e
  pub named : id_fault names e ≡ None
  pub placed : place_fault end e ≡ None

unless_both : (names : NameLists) (end game : ℕ) (x e : Entry) (a : Option IdField) (b : Option PlaceWhat) → a ≡ id_fault names x → b ≡ place_fault end x →
    unless (λ field. Id game field) a (unless (λ what. Place game what) b (Ok x)) ≡ Ok e → Checked names end (Ok x) e
unless_both names end game x e (Some field) b named placed h = absurd (ok_err _ e (Id game field) h refl)
unless_both names end game x e None (Some what) named placed h = absurd (ok_err _ e (Place game what) h refl)
unless_both names end game x e None None named placed h =
    let same : x ≡ e = same_ok _ x e refl h in
    let P : Entry → Type 0 = λ y. Checked names end (Ok x) y in
    subst P same (record { read = refl; named = sym named; placed = sym placed })

checked_by : (names : NameLists) (end game : ℕ) (r : Result Entry EntryFault) (e : Entry) →
    (blamed (λ what. EntryField game what) r >>= λ x. unless (λ field. Id game field) (id_fault names x) (unless (λ what. Place game what) (place_fault end x) (Ok x))) ≡ Ok e →
    Checked names end r e
checked_by names end game (Err what) e h = absurd (ok_err _ e (EntryField game what) h refl)
checked_by names end game (Ok x) e h = unless_both names end game x e (id_fault names x) (place_fault end x) refl refl h

-- An entry that passed its own checks.
pub checked : (names : NameLists) (end game : ℕ) (bytes : List ℕ) (e : Entry) → entry_checked names end game bytes ≡ Ok e → Checked names end (entry_read bytes) e
unfolding entry_checked
checked names end game bytes e h = checked_by names end game (entry_read bytes) e h

-- Its ids have names.
pub has_names : (names : NameLists) (e : Entry) → id_fault names e ≡ None → HasNames names e
unfolding id_fault
has_names names e none =
    let a = step_none _ id.White _ none in
    let b = step_none _ id.Black _ a.1 in
    let c = step_none _ id.Event _ b.1 in
    let d = step_none _ id.Site _ c.1 in
    let f = step_none _ id.Round _ d.1 in
    record {
      white = leb-false _ _ a.0;
      black = leb-false _ _ b.0;
      event = leb-false _ _ c.0;
      site = leb-false _ _ d.0;
      round = leb-false _ _ f.0;
    }

-- Its record ends within the games file.
pub ends_within : (end : ℕ) (e : Entry) → place_fault end e ≡ None → e.offset + e.len ≤ end
unfolding place_fault
ends_within end e none =
    let a = step_none _ place.Crosses _ none in
    let b = step_none _ place.Past _ a.1 in
    ltb-false _ _ b.0

-- An entry that is read is what the bytes say.
first_is : (found : Option EntryFault) (x e : Entry) → option_map_or Err found (Ok x) ≡ Ok e → x ≡ e
first_is None x e h = same_ok _ x e refl h
first_is (Some fault) x e h = absurd (ok_err _ e fault h refl)

pub read_is : (bytes : List ℕ) (e : Entry) → entry_read bytes ≡ Ok e → entry_in bytes ≡ e
unfolding entry_read
read_is bytes e h = first_is (fault_in bytes) (entry_in bytes) e h
