-- What is told, note by note.
use Rattle.std.proofs.Common.{◌≡◌, List, [], ◌∷◌, ◌++◌, Option, None, Some, refl, sym, ap, ◌∙◌, append_assoc, append-nil}
use Rattle.mend_base.specs.Notes.{Began, with_notes}
use Rattle.mend_base.specs.declared.report.Note.{Note}

pub no-more-notes : (told : Option (List Note)) → with_notes told [] ≡ told
no-more-notes None = refl
no-more-notes (Some notes) = ap Some (append-nil notes)

pub more-notes : (told : Option (List Note)) (first more : List Note) → with_notes (with_notes told first) more ≡ with_notes told (first ++ more)
more-notes None first more = refl
more-notes (Some notes) first more = ap Some (append_assoc notes first more)

-- ---- no more than some notes were told.

pub began-none : (notes : List Note) (before now : Option (List Note)) → now ≡ before → Began notes before now
began-none notes before now same = record { told = []; rest = notes; begins = refl; tells = same ∙ sym (no-more-notes before) }

-- All of them were.
pub began-all : (notes : List Note) (before now : Option (List Note)) → now ≡ with_notes before notes → Began notes before now
began-all notes before now all = record { told = notes; rest = []; begins = append-nil notes; tells = all }

-- There are others behind them.
pub began-front : (notes more : List Note) (before now : Option (List Note)) → Began notes before now → Began (notes ++ more) before now
began-front notes more before now began = record {
  told = began.told;
  rest = began.rest ++ more;
  begins = sym (append_assoc began.told began.rest more) ∙ ap (λ (ns : List Note). ns ++ more) began.begins;
  tells = began.tells;
}

-- Others were told before them.
pub began-behind : (first notes : List Note) (before mid now : Option (List Note)) → mid ≡ with_notes before first → Began notes mid now → Began (first ++ notes) before now
began-behind first notes before mid now tells began = record {
  told = first ++ began.told;
  rest = began.rest;
  begins = append_assoc first began.told began.rest ∙ ap (λ (ns : List Note). first ++ ns) began.begins;
  tells = began.tells ∙ (ap (λ (t : Option (List Note)). with_notes t began.told) tells ∙ more-notes before first began.told);
}

-- What was told in three parts.
pub all-told : (before : Option (List Note)) (first second third : List Note) → with_notes (with_notes (with_notes before first) second) third ≡ with_notes before (first ++ (second ++ third))
all-told before first second third = more-notes (with_notes before first) second third ∙ more-notes before first (second ++ third)
