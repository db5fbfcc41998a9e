-- What mending a base has done: the new files, and what was told (this project's own).
use Rattle.std.specs.Prelude.{◌≡◌, ◌≤◌, ⊤, ℕ, max, List, [], ◌++◌, length, Option, Some, Ok, Err, IfSome}
use Rattle.base_files.specs.Counters.{Rose}
use Rattle.base_files.specs.Seen.{FreshAlone, Seen, committed}
use Rattle.index_entry.specs.declared.index.IndexHead.{IndexHead}
use Rattle.name_base.specs.PartNames.{PartLists, names_in_part}
use Rattle.base_core.specs.Base.{Base, Held}
use Rattle.base_core.specs.Edited.{full_names, or_file}
use Rattle.base_core.specs.Means.{Means}
use Rattle.base_core.specs.Opening.{IfTold}
use Rattle.base_core.specs.Represents.{Kept, Represents}
use Rattle.base_core.specs.Saved.{OpensAgain}
use Rattle.base_core.specs.declared.fault.What.{What}
use Rattle.mend_base.specs.Entries.{entries_found, head_found}
use Rattle.mend_base.specs.Loose.{lengthened}
use Rattle.mend_base.specs.Notes.{all_notes, notes_from, with_notes}
use Rattle.mend_base.specs.Places.{changed_of, games_of, mended_base, places_of}
use Rattle.mend_base.specs.declared.fault.MendError.{MendError}
use Rattle.mend_base.specs.declared.fault.MendError.TheVariants as error
use Rattle.mend_base.specs.declared.ways.Way.{Way}
use Rattle.mend_base.specs.declared.mending.Mended.{Mended}
use Rattle.mend_base.specs.declared.report.Note.{Note}

-- A base was mended: all notes were told, in order. If the new files are told, they mean the base of the games that
-- come over, in order. They open as it, with no fault however strict the opening is.
pub record Mends (way : Way) (index : List ℕ) (names : PartLists) (games : List ℕ) (before after : Option (List Note)) (new : Seen) (mended : Mended) : Type 0 where
  pub header : IndexHead
  pub read : head_found index ≡ Ok header
  pub of : mended.of ≡ max header.games (entries_found index)
  pub came : mended.came ≡ length (games_of (places_of way index names games (entries_found index)))
  pub changed : mended.changed ≡ changed_of (places_of way index names games (entries_found index))
  pub notes : after ≡ with_notes before (all_notes way index names games)
  pub means : IfTold new (λ i n g. OpensAgain i n g (mended_base header (games_of (places_of way index names games (entries_found index)))))

-- The new files were made at once: a new games file, and these parts.
pub record IsMade (old new : Seen) : Type 0 where
  pub between : Seen
  pub index : List ℕ
  pub names : List ℕ
  pub alone : FreshAlone old between
  pub put : new ≡ committed names index between

-- The base of the first games that come over would pass a limit.
pub record IsTooMuch (way : Way) (index : List ℕ) (names : PartLists) (games : List ℕ) (what : What) : Type 0 where
  pub header : IndexHead
  pub count : ℕ
  pub few : count ≤ entries_found index
  pub full : or_file (full_names (mended_base header (games_of (places_of way index names games count))).names) (mended_base header (games_of (places_of way index names games count))).end ≡ Some what

-- What each error says.
abbrev pub WhyNotMended : Way → List ℕ → PartLists → List ℕ → MendError → Type 0
WhyNotMended way index names games (error.Bad fault) = head_found index ≡ Err fault
WhyNotMended way index names games (error.Full what) = IsTooMuch way index names games what
WhyNotMended way index names games _ = ⊤

-- The counts of faults of the old files, the new ones and the report.
pub record Faults : Type 0 where
  pub old : ℕ
  pub new : ℕ
  pub report : ℕ

-- A device's error comes where its count rose.
abbrev pub HasRisen : Faults → Faults → MendError → Type 0
HasRisen before after error.OldFailed = Rose before.old after.old
HasRisen before after error.NewFailed = Rose before.new after.new
HasRisen before after error.ReportFailed = Rose before.report after.report
HasRisen before after _ = ⊤

-- Three files mean this base, and it comes over as it is: all its games with their heads, in order, before any others, and nothing is told of
-- them. If the index has no other entries there are no others, and nothing is told at all. Its games are the first ones beside records without an
-- entry too.
pub record ComesOver (way : Way) (index names games : List ℕ) (base : Base) : Type 0 where
  pub means : Means index names games base
  pub first : (others : List Held) × (games_of (places_of way index (names_in_part names) games (entries_found index)) ≡ base.games ++ others)
  pub untold : notes_from 0 (places_of way index (names_in_part names) games base.header.games) ≡ []
  pub alone : entries_found index ≡ base.header.games → games_of (places_of way index (names_in_part names) games (entries_found index)) ≡ base.games
  pub silent : entries_found index ≡ base.header.games → all_notes way index (names_in_part names) games ≡ []
  pub first_of_all : (others : List Held) × (games_of (places_of way (lengthened index games) (names_in_part names) games (entries_found (lengthened index games))) ≡ base.games ++ others)
  pub untold_of_all : notes_from 0 (places_of way (lengthened index games) (names_in_part names) games base.header.games) ≡ []

-- ---- as the functions of this crate go through it.

-- The first games are mended: what was told are their notes, so many are changed, and the draft stands for the base of those that come over,
-- beside the new games file.
pub record HasMended (count : ℕ) (header : IndexHead) (way : Way) (index : List ℕ) (names : PartLists) (games : List ℕ) (before after : Option (List Note)) (changed : ℕ) (draft : Kept) (fresh : Option (List ℕ)) : Type 0 where
  pub notes : after ≡ with_notes before (notes_from 0 (places_of way index names games count))
  pub came : length draft.entries ≡ length (games_of (places_of way index names games count))
  pub changed_are : changed ≡ changed_of (places_of way index names games count)
  pub end : draft.end ≡ (mended_base header (games_of (places_of way index names games count))).end
  pub names_are : draft.names ≡ (mended_base header (games_of (places_of way index names games count))).names
  pub stands : IfSome fresh (λ file. (length file ≡ draft.end) × Represents draft file (mended_base header (games_of (places_of way index names games count))))
