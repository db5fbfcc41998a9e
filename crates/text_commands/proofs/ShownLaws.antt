-- Laws of what an export writes, whatever the files tell: a text of each game that is in.
use Rattle.std.proofs.Common.{◌≡◌, ◌≤◌, ◌<◌, ◌+◌, ◌++◌, ℕ, List, [], ◌∷◌, Option, Some, Result, Ok, Err, OnOk, length, take, zero, suc, refl, sym, ap, ◌∙◌, append_assoc, append-nil, add-one, subst}
use Rattle.std.proofs.lemmas.List.{take_all}
use Rattle.std.proofs.lemmas.Option.{same_Some}
use Rattle.std.specs.Prelude.{slice_get}
use Rattle.base_core.proofs.Lists.{get_some}
use Rattle.base_core.specs.Represents.{Kept}
use Rattle.base_files.proofs.Telling.{adds-append, adds-nil}
use Rattle.base_files.specs.Told.{adds}
use Rattle.index_entry.specs.declared.entry.Entry.{Entry}
use Rattle.name_base.specs.NameLists.{NameLists}
use Rattle.text_commands.specs.Cuts.{PutsTextIfIn}
use Rattle.text_commands.specs.GameTexts.{AreTextsOf, IsTextIfIn, IsTextOf, WritesTextOf, WritesTextsOf}

-- The texts of the first entries, and of one more.
one_more : (names : NameLists) (i : ℕ) (plies : List (Option ℕ)) (entries : List Entry) (ply : Option ℕ) (e : Entry) (text added : List ℕ) → slice_get plies i ≡ Some ply → slice_get entries i ≡ Some e
    → AreTextsOf names (take i plies) (take i entries) text → IsTextIfIn names ply e added → AreTextsOf names (take (suc i) plies) (take (suc i) entries) (text ++ added)
one_more names i [] entries ply e text added p x before now = absurd cc
one_more names i (q ∷ plies) [] ply e text added p x before now = absurd cc
one_more names zero (q ∷ plies) (y ∷ entries) ply e text added p x before now =
    let P : Option ℕ → Type 0 = λ r. IsTextIfIn names r y added in
    let Q : Entry → Type 0 = λ z. IsTextIfIn names ply z added in (
      added,
      ([], (subst P (sym (same_Some q ply p)) (subst Q (sym (same_Some y e x)) now), (refl, ap (λ (l : List ℕ). l ++ added) before ∙ sym (append-nil added)))),
    )
one_more names (suc i) (q ∷ plies) (y ∷ entries) ply e text added p x before now =
    let first : List ℕ = before.0 in
    let rest : List ℕ = before.1.0 in (
      first,
      (
        rest ++ added,
        (before.1.1.0, (one_more names i plies entries ply e rest added p x before.1.1.1.0 now, ap (λ (l : List ℕ). l ++ added) before.1.1.1.1 ∙ append_assoc first rest added)),
      ),
    )

-- Texts of the first so many games were put behind what was told.
abbrev pub PutsFirst : Kept → List (Option ℕ) → ℕ → Option (List ℕ) → Option (List ℕ) → Type 0
PutsFirst kept plies count told told' = (text : List ℕ) × (AreTextsOf kept.names (take count plies) (take count kept.entries) text × (told' ≡ adds told text))

pub puts_more : (kept : Kept) (plies : List (Option ℕ)) (i : ℕ) (ply : Option ℕ) (told mid told' : Option (List ℕ)) → i < length kept.entries → slice_get plies i ≡ Some ply → PutsFirst kept plies i told mid
    → PutsTextIfIn kept i ply mid told' → PutsFirst kept plies (i + 1) told told'
puts_more kept plies i ply told mid told' below p before put =
    let e = get_some kept.entries i below in
    let now = put e.0 e.1 in
    let so_far : List ℕ = before.0 in
    let P : ℕ → Type 0 = λ n. AreTextsOf kept.names (take n plies) (take n kept.entries) (so_far ++ now.0) in (
      so_far ++ now.0,
      (
        subst P (sym (add-one i)) (one_more kept.names i plies kept.entries ply e.0 so_far now.0 p e.1 before.1.0 now.1.0),
        now.1.1 ∙ ap (λ (t : Option (List ℕ)). adds t now.0) before.1.1 ∙ sym (adds-append told so_far now.0),
      ),
    )

pub puts_all : (kept : Kept) (plies : List (Option ℕ)) (i : ℕ) (told told' : Option (List ℕ)) → length plies ≤ i → length kept.entries ≤ i → PutsFirst kept plies i told told' → WritesTextsOf kept plies told told'
puts_all kept plies i told told' all every before =
    let P : List (Option ℕ) → Type 0 = λ l. AreTextsOf kept.names l (take i kept.entries) before.0 in
    let Q : List Entry → Type 0 = λ l. AreTextsOf kept.names plies l before.0 in
    (before.0, (subst Q (take_all i kept.entries every) (subst P (take_all i plies all) before.1.0), before.1.1))

-- A text was put behind what waits, of which then no more than a front part was written.
pub puts_one : {A : Type 0} {E : Type 0} (r : Result A E) (kept : Kept) (i : ℕ) (told told' : Option (List ℕ)) (bytes whole waits : List ℕ)
    → ((e : Entry) → slice_get kept.entries i ≡ Some e → (added : List ℕ) × ((whole ≡ bytes ++ added) × IsTextOf kept.names e added)) → adds told' waits ≡ adds told whole
    → OnOk r (WritesTextOf kept i (adds told bytes) (adds told' waits))
puts_one (Ok x) kept i told told' bytes whole waits put kept_all = λ e at.
    let added = put e at in
    (added.0, (added.1.1, kept_all ∙ ap (adds told) added.1.0 ∙ adds-append told bytes added.0))
puts_one (Err e) kept i told told' bytes whole waits put kept_all = tt

-- The page at the end was written.
pub puts_page : {A : Type 0} {E : Type 0} (r : Result A E) (kept : Kept) (plies : List (Option ℕ)) (told told' waits : Option (List ℕ)) (page page' : List ℕ) → page ≡ []
    → OnOk r (WritesTextsOf kept plies (adds told page) waits) → adds told' page' ≡ waits → page' ≡ [] → OnOk r (WritesTextsOf kept plies told told')
puts_page {A = A} {E = E} r kept plies told told' waits page page' none writes kept_all empty =
    let first : adds told page ≡ told = ap (adds told) none ∙ adds-nil told in
    let last : waits ≡ told' = sym kept_all ∙ ap (adds told') empty ∙ adds-nil told' in
    let P : Option (List ℕ) → Type 0 = λ t. OnOk r (WritesTextsOf kept plies t waits) in
    let Q : Option (List ℕ) → Type 0 = λ t. OnOk r (WritesTextsOf kept plies told t) in
    subst Q last (subst P first writes)
