-- The parts of the table of commands are the table.
use Rattle.std.proofs.Common.{if◌then◌else◌, ◌≡◌, ◌⊎◌, inl, inr, ℕ, List, [], ◌∷◌, Some, None, unwrap_or, Result, Err, refl, sym, ap, ◌∙◌, codes}
use Rattle.std.specs.Str.{bytes_eq}
use Rattle.std.proofs.lemmas.Bool.{cases_Bool}
use Rattle.std.proofs.lemmas.Slice.Eq.{bytes_eq-Decides}
use Rattle.chess_text.specs.Filling.{board_named}
use Rattle.game_tree.specs.Decimal.{decimal_read}
use Rattle.script_text.specs.declared.command.Command.{Command}
use Rattle.script_text.specs.declared.command.Command.TheVariants.{Find, Reset, Clear, Negate, Restrict, Keep, Take, And, Or, Drop, Hits, List as Listing, Show, Export, Import, Replace, Eco, Delete, Undelete, Mark, Tree, Watch, View, Unwatch, Cross, Twins, Index, Save, Compact, Info, Demo, Quit}
use Rattle.script_text.specs.declared.fault.ScriptFault.{ScriptFault}
use Rattle.script_text.specs.declared.fault.ScriptFault.TheVariants.{Unknown}
use Rattle.script_text.specs.Words.{Word}
use Rattle.script_text.specs.Forms.{by_word, side, switch, mark_bit, filter_name, name_text, body_end}
use Rattle.script_text.specs.Numbers.{number, index_depth}
use Rattle.script_text.specs.Arguments.{no_more, last_argument, two, three}
use Rattle.script_text.specs.Parts.{searching, filtering, saving_filters, showing, editing, ending}
use Rattle.script_text.specs.Reading.{made, search, tag, command_named, table}

-- Each row of a table is found in another one.
abbrev Stand : {A : Type 0} → List (List ℕ × A) → List (List ℕ × A) → Type 0
Stand [] ys = Unit {0}
Stand (row ∷ rows) ys = (by_word ys row.0 ≡ Some row.1) × Stand rows ys

found_in : {A : Type 0} (xs ys : List (List ℕ × A)) (name : List ℕ) → Stand xs ys
    → (by_word xs name ≡ None) ⊎ (by_word xs name ≡ by_word ys name)
found_in [] ys name stand = inl refl
found_in (row ∷ rows) ys name stand = elim (cases_Bool (bytes_eq name row.0)) [
  | inl is ↦ inr (rw (is, (bytes_eq-Decides name row.0).0 is) (sym stand.0))
  | inr is_not ↦ rw is_not (found_in rows ys name stand.1)
]

alike : {A : Type 0} (xs ys : List (List ℕ × A)) (name : List ℕ) → Stand xs ys → Stand ys xs → by_word xs name ≡ by_word ys name
alike xs ys name there back = elim (found_in xs ys name there) [
  | inr same ↦ same
  | inl none ↦ elim (found_in ys xs name back) [
    | inr same ↦ sym same
    | inl neither ↦ none ∙ sym neither
  ]
]

abbrev pick : {A : Type 0} → List (List ℕ × A) → A → List ℕ → A
pick [] other name = other
pick (row ∷ rows) other name = if bytes_eq name row.0 then row.1 else pick rows other name

picked : {A : Type 0} (rows : List (List ℕ × A)) (other : A) (name : List ℕ) → pick rows other name ≡ unwrap_or (by_word rows name) other
picked [] other name = refl
picked (row ∷ rows) other name = elim (cases_Bool (bytes_eq name row.0)) [
  | inl is ↦ rw is refl
  | inr is_not ↦ rw is_not (picked rows other name)
]

-- The rows in the order in which the code asks for them.
unfoldable asked : List Word → List (List ℕ × Result Command ScriptFault)
asked words =
    (codes "find", made (λ given. Find given.0 given.1) (two board_named side words))
    ∷ (codes "search", search words)
    ∷ (codes "tree", made (λ given. Tree given.0 given.1) (two board_named side words))
    ∷ (codes "watch", made (λ given. Watch given.0 given.1 given.2) (three number board_named side words))
    ∷ (codes "view", made View (last_argument 1 number words))
    ∷ (codes "unwatch", made Unwatch (last_argument 1 number words))
    ∷ (codes "reset", made (λ _. Reset) (no_more 0 words))
    ∷ (codes "clear", made (λ _. Clear) (no_more 0 words))
    ∷ (codes "negate", made (λ _. Negate) (no_more 0 words))
    ∷ (codes "restrict", made (λ given. Restrict given.0 given.1) (two number number words))
    ∷ (codes "keep", made Keep (last_argument 1 filter_name words))
    ∷ (codes "use", made Take (last_argument 1 filter_name words))
    ∷ (codes "and", made And (last_argument 1 filter_name words))
    ∷ (codes "or", made Or (last_argument 1 filter_name words))
    ∷ (codes "drop", made Drop (last_argument 1 filter_name words))
    ∷ (codes "hits", made (λ _. Hits) (no_more 0 words))
    ∷ (codes "list", made (λ _. Listing) (no_more 0 words))
    ∷ (codes "show", made Show (last_argument 1 number words))
    ∷ (codes "export", made (λ _. Export) (no_more 0 words))
    ∷ (codes "cross", made Cross (last_argument 1 name_text words))
    ∷ (codes "info", made (λ _. Info) (no_more 0 words))
    ∷ (codes "import", made Import (last_argument 1 body_end words))
    ∷ (codes "replace", made (λ given. Replace given.0 given.1) (two number body_end words))
    ∷ (codes "eco", made Eco (last_argument 1 body_end words))
    ∷ (codes "tag", tag words)
    ∷ (codes "delete", made Delete (last_argument 1 number words))
    ∷ (codes "undelete", made Undelete (last_argument 1 number words))
    ∷ (codes "mark", made (λ given. Mark given.0 given.1 given.2) (three number mark_bit switch words))
    ∷ (codes "twins", made Twins (last_argument 1 (decimal_read 131071) words))
    ∷ (codes "index", made Index (last_argument 1 index_depth words))
    ∷ (codes "save", made (λ _. Save) (no_more 0 words))
    ∷ (codes "compact", made (λ _. Compact) (no_more 0 words))
    ∷ (codes "demo", made (λ given. Demo given.0 given.1) (two number (decimal_read 100000) words))
    ∷ (codes "quit", made (λ _. Quit) (no_more 0 words))
    ∷ []

asked_in_parts : (name : List ℕ) (words : List Word) → searching name words ≡ pick (asked words) (Err Unknown) name
unfolding asked searching filtering saving_filters showing editing ending
asked_in_parts name words = refl

there : (words : List Word) → Stand (asked words) (table words)
unfolding asked table
there words = (refl, (refl, (refl, (refl, (refl, (refl, (refl, (refl, (refl, (refl, (refl, (refl, (refl, (refl, (refl, (refl, (refl, (refl, (refl, (refl, (refl, (refl, (refl, (refl, (refl, (refl, (refl, (refl, (refl, (refl, (refl, (refl, (refl, (refl, tt))))))))))))))))))))))))))))))))))

back : (words : List Word) → Stand (table words) (asked words)
unfolding asked table
back words = (refl, (refl, (refl, (refl, (refl, (refl, (refl, (refl, (refl, (refl, (refl, (refl, (refl, (refl, (refl, (refl, (refl, (refl, (refl, (refl, (refl, (refl, (refl, (refl, (refl, (refl, (refl, (refl, (refl, (refl, (refl, (refl, (refl, (refl, tt))))))))))))))))))))))))))))))))))

pub named_by_parts : (name : List ℕ) (words : List Word) → searching name words ≡ command_named name words
unfolding command_named
named_by_parts name words =
    asked_in_parts name words ∙ picked (asked words) (Err Unknown) name
    ∙ ap (λ found. unwrap_or found (Err Unknown)) (alike (asked words) (table words) name (there words) (back words))
