-- What was found of a game, where the games file is told.
use Rattle.std.proofs.Common.{◌≡◌, ◌≤◌, ◌+◌, ℕ, List, length, take, drop, take_all, Option, None, Some, Ok, Err, Result, IfSome, IsTrue, refl, sym, ap, ◌∙◌, subst, arith}
use Rattle.base_files.specs.Extents.{record_in}
use Rattle.base_files.specs.Told.{Tells, TellsLength, part_told}
use Rattle.game_codec.specs.RecordAnswer.{record_answer}
use Rattle.game_codec.specs.declared.fault.RecordFault.{RecordFault}
use Rattle.game_tree.specs.Date.{keeps_rule}
use Rattle.game_tree.specs.Game.{GameTree}
use Rattle.game_tree.specs.declared.head.Head.{Head}
use Rattle.game_tree.specs.declared.head.Tag.{Tag}
use Rattle.index_entry.specs.Entry.{fault_in}
use Rattle.index_entry.specs.Index.{entry_bytes}
use Rattle.index_entry.specs.declared.entry.Entry.{Entry}
use Rattle.index_entry.specs.declared.fault.EntryFault.{EntryFault}
use Rattle.name_base.specs.NameLists.{NameLists}
use Rattle.name_base.specs.PartNames.{PartLists, filled_names}
use Rattle.name_base.specs.Reading.{◌>>=◌}
use Rattle.base_core.specs.Base.{Held}
use Rattle.base_core.specs.Entries.{Says, extent_of}
use Rattle.base_core.specs.FirstFault.{place_fault}
use Rattle.base_core.specs.Reading.{IsMended, kept_entry}
use Rattle.base_core.specs.Represents.{Keeps}
use Rattle.base_core.specs.declared.fault.BaseFault.{BaseFault}
use Rattle.base_core.specs.declared.fault.BaseFault.TheVariants.{Packed, Place as PlaceFault}
use Rattle.base_core.specs.declared.fault.PlaceWhat.{PlaceWhat}
use Rattle.base_core.proofs.CheckLaws.{ends_within}
use Rattle.base_core.proofs.KeptLaws.{settled_kept}
use Rattle.base_core.proofs.Results.{ok_err}
use Rattle.mend_base.specs.Fields.{known_in, without_faults}
use Rattle.mend_base.specs.Finding.{Finds, FindsLeft, IsSaved, KeepsWhole, entry_cost}
use Rattle.mend_base.specs.Fronts.{Saved, saved_in, steps_of}
use Rattle.mend_base.specs.Ways.{fronts, left_out}
use Rattle.mend_base.specs.Places.{Found, Place, answered_place, change_from, change_in, held_by, place_of, placed, saved_place}
use Rattle.mend_base.specs.declared.finding.Find.{Find}
use Rattle.mend_base.specs.declared.finding.Find.TheVariants as find
use Rattle.mend_base.specs.declared.finding.Change.{Change}
use Rattle.mend_base.specs.declared.finding.Change.TheVariants as why
use Rattle.mend_base.specs.declared.ways.Way.{Way}
use Rattle.mend_base.proofs.FieldLaws.{known-sound}
use Rattle.mend_base.proofs.FrontLaws.{no-step}

-- ---- the places.

module _ (way : Way) (names : PartLists) (games : List ℕ) (game : ℕ) (bytes : List ℕ) where
  pub unplaced_place : (what : PlaceWhat) → place_fault (length games) (known_in bytes) ≡ Some what → place_of way names games game bytes ≡ Err (PlaceFault game what)
  unfolding place_of
  unplaced_place what is = rw is refl

  pub broken_place : (what : RecordFault) (saved : Option Saved) → place_fault (length games) (known_in bytes) ≡ None → record_answer (record_in games (extent_of (known_in bytes))) ≡ Err what →
      saved_in (steps_of way.faulty) (record_in games (extent_of (known_in bytes))) (Err what) ≡ saved → place_of way names games game bytes ≡ saved_place names game (known_in bytes) what saved
  unfolding place_of
  broken_place what saved is answer left = rw (is, answer, left) refl

  pub read-place : (tags : List Tag) (tree : GameTree) → place_fault (length games) (known_in bytes) ≡ None → record_answer (record_in games (extent_of (known_in bytes))) ≡ Ok (tags, tree) →
      place_of way names games game bytes ≡ Ok (record { held = held_by (filled_names names) (known_in bytes) (tags, tree); change = change_in way names game bytes })
  unfolding place_of
  read-place tags tree is answer = rw (is, answer) refl

-- A game that comes over where faulty records are left out comes over as the same where they are not.
answered_same : (way : Way) (names : PartLists) (game : ℕ) (packed : List ℕ) (e : Entry) (bytes : List ℕ) (answer : Result (List Tag × GameTree) RecordFault) (found : Found) → answered_place (left_out way) names game packed e bytes answer ≡ Ok found →
    answered_place (fronts way) names game packed e bytes answer ≡ Ok found
unfolding change_in
answered_same way names game packed e bytes (Ok read) found is = is
answered_same way names game packed e bytes (Err fault) found is =
    absurd (ok_err _ found (Packed game fault) is (ap (saved_place names game e fault) (no-step bytes fault)))

pub place-same : (way : Way) (names : PartLists) (games : List ℕ) (game : ℕ) (packed : List ℕ) (found : Found) → place_of (left_out way) names games game packed ≡ Ok found → place_of (fronts way) names games game packed ≡ Ok found
unfolding place_of
place-same way names games game packed found is = by (placed (length games) game (known_in packed)) is
  where
    by : (p : Result Entry BaseFault) → (p >>= λ e. answered_place (left_out way) names game packed e (record_in games (extent_of e)) (record_answer (record_in games (extent_of e)))) ≡ Ok found →
        (p >>= λ e. answered_place (fronts way) names game packed e (record_in games (extent_of e)) (record_answer (record_in games (extent_of e)))) ≡ Ok found
    by (Ok e) is = answered_same way names game packed e (record_in games (extent_of e)) (record_answer (record_in games (extent_of e))) found is
    by (Err fault) is = absurd (ok_err _ found fault is refl)

-- What an entry says is the game of it and of its record.
pub held-by : (names : NameLists) (games : List ℕ) (e : Entry) (held : Held) (says : Says names games e held) → held_by names e (says.tags, held.game) ≡ held
held-by names games e held says =
    let made : Head → ℕ → Held = λ h n. record { head = h; game = held.game; len = n } in
    ap (λ (h : Head). made h e.len) (sym says.head) ∙ ap (λ (n : ℕ). made held.head n) (sym says.len)

-- ---- the record of a mended entry.

pub mended-place : (bytes : List ℕ) (e kept : Entry) → IsMended bytes e kept → (kept.offset ≡ e.offset) × (kept.len ≡ e.len)
unfolding kept_entry
mended-place bytes e kept mended = (ap (λ (x : Entry). x.offset) mended.1.1.1, ap (λ (x : Entry). x.len) mended.1.1.1)

same_record : (file bytes : List ℕ) (e kept : Entry) → IsMended bytes e kept → record_in file (extent_of e) ≡ record_in file (extent_of kept)
same_record file bytes e kept mended =
    let placed = mended-place bytes e kept mended in
    ap (λ (n : ℕ). take n (drop e.offset file)) (sym placed.1) ∙ ap (λ (n : ℕ). take kept.len (drop n file)) (sym placed.0)

-- The entry that is kept keeps the game that its record says.
keeps_it : (names : NameLists) (file bytes : List ℕ) (e kept : Entry) (mended : IsMended bytes e kept) → record_in file (extent_of e) ≡ bytes → e.offset + e.len ≤ length file → IsTrue (keeps_rule e.event_date e.date) →
    Keeps names file kept (held_by names e (mended.1.1.0.tags, mended.1.1.0.tree))
unfolding kept_entry
keeps_it names file bytes e kept mended same within rule =
    let signed = mended.1.1.0 in
    let held : Held = held_by names e (signed.tags, signed.tree) in
    let K : Entry → Type 0 = λ x. Keeps names file x held in
    let says : Says names file (kept_entry e mended.0 mended.1.0) held =
    record { tags = signed.tags; within = within; read = record { answer = ap record_answer same ∙ signed.read.answer }; head = sym (settled_kept names e mended.0 mended.1.0 signed.tags rule (signed.dated names)); len = refl } in
    subst K (sym mended.1.1.1) (record { says = says; event_date = signed.dated names; signed = signed.signed })

rule_of : (bytes : List ℕ) (e : Entry) → e ≡ known_in bytes → IsTrue (keeps_rule e.event_date e.date)
rule_of bytes e is = subst (λ (x : Entry). IsTrue (keeps_rule x.event_date x.date)) (sym is) (known-sound bytes).event_rule

-- ---- a game that is whole.

whole_so : (way : Way) (index : List ℕ) (names : PartLists) (games : List ℕ) (game : ℕ) (e kept : Entry) (change : Option Change) → e ≡ known_in (entry_bytes index game) → place_fault (length games) e ≡ None →
    change ≡ change_in way names game (entry_bytes index game) → IsMended (record_in games (extent_of e)) e kept → KeepsWhole way index names games game (record_in games (extent_of kept)) kept change
whole_so way index names games game e kept change is fits first mended =
    let signed = mended.1.1.0 in
    let bytes = entry_bytes index game in
    let P : Entry → Type 0 = λ x. place_fault (length games) x ≡ None in
    let A : Entry → Type 0 = λ x. record_answer (record_in games (extent_of x)) ≡ Ok (signed.tags, signed.tree) in
    let made : Entry → Option Change → Place = λ x c. Ok (record { held = held_by (filled_names names) x (signed.tags, signed.tree); change = c }) in
    record {
      held = held_by (filled_names names) e (signed.tags, signed.tree);
      place = read-place way names games game bytes signed.tags signed.tree (subst P is fits) (subst A is signed.read.answer)
          ∙ (ap (λ (x : Entry). made x (change_in way names game bytes)) (sym is) ∙ ap (λ (c : Option Change). made e c) (sym first));
      file = games;
      stands = refl;
      keeps = keeps_it (filled_names names) games (record_in games (extent_of e)) e kept mended refl (ends_within (length games) e fits) (rule_of bytes e is);
    }

pub whole-found : (told : Option (List ℕ)) (way : Way) (index : List ℕ) (names : PartLists) (end game : ℕ) (buf : List ℕ) (e kept : Entry) (change : Option Change) → TellsLength told end →
    Tells (part_told told e.offset e.len) (take e.len buf) → e ≡ known_in (entry_bytes index game) → None ≡ place_fault end e → change ≡ change_in way names game (entry_bytes index game) → IsMended (take e.len buf) e kept →
    Finds way index names told game buf (find.Whole kept change)
whole-found None way index names end game buf e kept change long tells is fits first mended = tt
whole-found (Some games) way index names end game buf e kept change long tells is fits first mended =
    let P : ℕ → Type 0 = λ n. place_fault n e ≡ None in
    let M : List ℕ → Type 0 = λ bytes. IsMended bytes e kept in
    let K : List ℕ → Type 0 = λ bytes. KeepsWhole way index names games game bytes kept change in
    let front : take kept.len buf ≡ record_in games (extent_of kept) =
    ap (λ (n : ℕ). take n buf) (mended-place (take e.len buf) e kept mended).1 ∙ (tells ∙ same_record games (take e.len buf) e kept mended) in
    subst K (sym front) (whole_so way index names games game e kept change is (subst P long (sym fits)) first (subst M tells mended))

-- ---- a game of which a part is saved.

left_so : (way : Way) (index : List ℕ) (names : PartLists) (games : List ℕ) (game : ℕ) (e kept : Entry) (what : RecordFault) (left : List ℕ) → e ≡ known_in (entry_bytes index game) → place_fault (length games) e ≡ None →
    record_answer (record_in games (extent_of e)) ≡ Err what → IsSaved (steps_of way.faulty) e (record_in games (extent_of e)) what left kept → KeepsWhole way index names games game left kept (Some (why.Fault (Packed game what)))
left_so way index names games game e kept what left is fits answer saved =
    let signed = saved.mended.1.1.0 in
    let bytes = entry_bytes index game in
    let found : Option Saved = Some (record { bytes = left; read = (signed.tags, signed.tree) }) in
    let all : take (length left) left ≡ left = take_all (length left) left (omega arith) in
    let P : Entry → Type 0 = λ x. place_fault (length games) x ≡ None in
    let A : Entry → Type 0 = λ x. record_answer (record_in games (extent_of x)) ≡ Err what in
    let S : Entry → Type 0 = λ x. saved_in (steps_of way.faulty) (record_in games (extent_of x)) (Err what) ≡ found in
    record {
      held = held_by (filled_names names) (record e { offset = 0; len = length left }) (signed.tags, signed.tree);
      place = broken_place way names games game bytes what found (subst P is fits) (subst A is answer) (subst S is saved.saved) ∙ ap (λ (x : Entry). saved_place names game x what found) (sym is);
      file = left;
      stands = sym all ∙ same_record left left (record e { offset = 0; len = length left }) kept saved.mended;
      keeps = keeps_it (filled_names names) left left (record e { offset = 0; len = length left }) kept saved.mended all (omega arith) (rule_of bytes e is);
    }

nothing_so : (way : Way) (index : List ℕ) (names : PartLists) (games : List ℕ) (game : ℕ) (e : Entry) (what : RecordFault) → e ≡ known_in (entry_bytes index game) → place_fault (length games) e ≡ None →
    record_answer (record_in games (extent_of e)) ≡ Err what → saved_in (steps_of way.faulty) (record_in games (extent_of e)) (Err what) ≡ None → place_of way names games game (entry_bytes index game) ≡ Err (Packed game what)
nothing_so way index names games game e what is fits answer none =
    let P : Entry → Type 0 = λ x. place_fault (length games) x ≡ None in
    let A : Entry → Type 0 = λ x. record_answer (record_in games (extent_of x)) ≡ Err what in
    let S : Entry → Type 0 = λ x. saved_in (steps_of way.faulty) (record_in games (extent_of x)) (Err what) ≡ None in
    broken_place way names games game (entry_bytes index game) what None (subst P is fits) (subst A is answer) (subst S is none)

left_found : (way : Way) (index : List ℕ) (names : PartLists) (games : List ℕ) (game : ℕ) (buf read : List ℕ) (e : Entry) (what : RecordFault) (result : Find) → read ≡ record_in games (extent_of e) →
    e ≡ known_in (entry_bytes index game) → place_fault (length games) e ≡ None → record_answer read ≡ Err what → FindsLeft way.faulty game e read what buf result → Finds way index names (Some games) game buf result
left_found way index names games game buf read e what (find.Whole kept change) tells is fits answer found =
    let A : List ℕ → Type 0 = λ bytes. record_answer bytes ≡ Err what in
    let S : List ℕ → Type 0 = λ bytes. IsSaved (steps_of way.faulty) e bytes what (take kept.len buf) kept in
    let K : Option Change → Type 0 = λ c. KeepsWhole way index names games game (take kept.len buf) kept c in
    subst K (sym found.change_is) (left_so way index names games game e kept what (take kept.len buf) is fits (subst A tells answer) (subst S tells found.is_saved))
left_found way index names games game buf read e what (find.Broken other) tells is fits answer found =
    let A : List ℕ → Type 0 = λ bytes. record_answer bytes ≡ Err what in
    let S : List ℕ → Type 0 = λ bytes. saved_in (steps_of way.faulty) bytes (Err what) ≡ None in
    nothing_so way index names games game e what is fits (subst A tells answer) (subst S tells found.none_saved) ∙ ap Err (sym found.fault_is)

pub left-found : (told : Option (List ℕ)) (way : Way) (index : List ℕ) (names : PartLists) (end game : ℕ) (buf read : List ℕ) (e : Entry) (what : RecordFault) (result : Find) → TellsLength told end →
    Tells (part_told told e.offset e.len) read → e ≡ known_in (entry_bytes index game) → None ≡ place_fault end e → record_answer read ≡ Err what → FindsLeft way.faulty game e read what buf result → Finds way index names told game buf result
left-found None way index names end game buf read e what (find.Whole kept change) long tells is fits answer found = tt
left-found None way index names end game buf read e what (find.Broken other) long tells is fits answer found = tt
left-found (Some games) way index names end game buf read e what result long tells is fits answer found =
    let P : ℕ → Type 0 = λ n. place_fault n e ≡ None in
    left_found way index names games game buf read e what result tells is (subst P long (sym fits)) answer found

-- ---- a game whose record stands nowhere.

pub unread-place : (told : Option (List ℕ)) (way : Way) (index : List ℕ) (names : PartLists) (end game : ℕ) (e : Entry) (what : PlaceWhat) → TellsLength told end → e ≡ known_in (entry_bytes index game) → Some what ≡ place_fault end e →
    IfSome told (λ games. place_of way names games game (entry_bytes index game) ≡ Err (PlaceFault game what))
unread-place None way index names end game e what long is first = tt
unread-place (Some games) way index names end game e what long is first =
    let P : ℕ → Type 0 = λ n. place_fault n e ≡ Some what in
    let Q : Entry → Type 0 = λ x. place_fault (length games) x ≡ Some what in
    unplaced_place way names games game (entry_bytes index game) what (subst Q is (subst P long (sym first)))

-- ---- what the functions answer.

-- For which fault a game is changed, by what its bytes say.
pub change-so : (way : Way) (names : PartLists) (game : ℕ) (packed bytes : List ℕ) (entry : Entry) (fault : Option EntryFault) (result : Option Change) → packed ≡ bytes → entry ≡ known_in packed → fault ≡ fault_in packed →
    result ≡ change_from way names game fault entry → result ≡ change_in way names game bytes
unfolding change_in
change-so way names game packed bytes entry fault result there known first is =
    is
    ∙ (ap (λ (f : Option EntryFault). change_from way names game f entry) first
    ∙ (ap (λ (e : Entry). change_from way names game (fault_in packed) e) known ∙ ap (λ (b : List ℕ). change_in way names game b) there))

-- What a game costs.
pub cost-there : (index : List ℕ) (game : ℕ) (e : Entry) → e ≡ known_in (entry_bytes index game) → e.len ≡ entry_cost index game
unfolding known_in without_faults
cost-there index game e is = ap (λ (x : Entry). x.len) is

pub ends-in : (end : ℕ) (e : Entry) → None ≡ place_fault end e → e.offset + e.len ≤ end
ends-in end e is = ends_within end e (sym is)
