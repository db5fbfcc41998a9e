-- The first games of a base in a draft, and their records in a new games file, as the functions of this crate go through them.
use Rattle.std.specs.Prelude.{◌≡◌, ◌≤◌, ◌<◌, ℕ, ◌+◌, false, ⊤, List, ◌++◌, length, take, filter, replicate, if◌then◌else◌, slice_get, Option, Some, option_map}
use Rattle.std.specs.Bool.{MatchBool}
use Rattle.base_files.specs.Seen.{Seen, begun, committed, lengthened}
use Rattle.base_files.specs.Told.{Tells, TellsLength, part_told}
use Rattle.block_store.specs.Placing.{end_after, longest_file, padding}
use Rattle.base_core.specs.Base.{Base}
use Rattle.base_core.specs.Compacted.{only, stays}
use Rattle.base_core.specs.Drafts.{AreNamesOf}
use Rattle.base_core.specs.Entries.{sig_in}
use Rattle.base_core.specs.GameAt.{IsChanged, IsRecordWith}
use Rattle.base_core.specs.Represents.{Kept, Represents}
use Rattle.index_entry.specs.declared.entry.Entry.{Entry}
use Rattle.compact_base.specs.declared.fault.CompactError.{CompactError}
use Rattle.compact_base.specs.declared.fault.CompactError.TheVariants as error
use Rattle.compact_base.specs.Compacting.{AreRecordsKept, new_end, new_games, staying}

-- The draft stands for the first games, but for those that are deleted, beside the new games file with their records.
abbrev pub StandsForFirst : ℕ → Kept → Kept → Type 0
StandsForFirst i kept draft =
    (games : List ℕ) (whole : Base) → Represents kept games whole →
    (length (new_games (take i kept.entries) games) ≡ draft.end) × Represents draft (new_games (take i kept.entries) games) (only (filter stays (take i whole.games)) whole)

-- The draft has the first games of a base, but for those that are deleted.
pub record HasFirst (i : ℕ) (kept draft : Kept) : Type 0 where
  pub count : length draft.entries ≡ length (staying (take i kept.entries))
  pub end : draft.end ≡ new_end (take i kept.entries)
  pub room : draft.end ≤ longest_file
  pub saved : draft.unsaved ≡ false
  pub names : AreNamesOf draft.names kept.names
  pub stands : StandsForFirst i kept draft

-- Why the games are not taken over: the new games file would pass its limit, or memory ran out.
abbrev pub WhyNotDrafted : ℕ → CompactError → Type 0
WhyNotDrafted end error.Full = longest_file < end
WhyNotDrafted end error.Memory = ⊤
WhyNotDrafted end _ = ⊥

-- The record of an entry was read, is still one of a game with the signature that is kept, and was added to the new
-- games file. The file ended there before, and ends behind the record now.
pub record IsCopied (e : Entry) (end after : ℕ) (old new : Seen) : Type 0 where
  pub bytes : List ℕ
  pub long : length bytes ≡ e.len
  pub read : Tells (part_told old.games e.offset e.len) bytes
  pub still : IsRecordWith bytes (sig_in e)
  pub added : new ≡ lengthened (replicate (padding end e.len) 0 ++ bytes) old
  pub ends : after ≡ end_after end e.len

abbrev pub Copies : ℕ → Kept → ℕ → ℕ → Seen → Seen → Type 0
Copies i kept end after old new = (e : Entry) → slice_get kept.entries i ≡ Some e → IsCopied e end after old new

-- So it is if the game stays, and else the files are as they were.
abbrev pub CopiesIfKept : ℕ → Kept → ℕ → ℕ → Seen → Seen → Type 0
CopiesIfKept i kept end after old new =
    (e : Entry) → slice_get kept.entries i ≡ Some e → MatchBool e.deleted ((after ≡ end) × (new ≡ old)) (IsCopied e end after old new)

-- The bytes of the record of a game that stays.
abbrev pub len_if_kept : Entry → ℕ
len_if_kept e = if e.deleted then 0 else e.len

-- The records of the first games that stay were added to the new games file, which was begun.
pub record CopiedFirst (i : ℕ) (kept : Kept) (end : ℕ) (old new : Seen) : Type 0 where
  pub seen : new ≡ record old { fresh = option_map (new_games (take i kept.entries)) old.games; added = new_end (take i kept.entries) }
  pub ends : end ≡ new_end (take i kept.entries)
  pub long : TellsLength new.fresh end

-- What the new games file, which was begun, was given: a record of each of the first games that stay.
pub record AddsFirst (i : ℕ) (kept : Kept) (old new : Seen) : Type 0 where
  pub text : List ℕ
  pub records : AreRecordsKept old.games 0 (staying (take i kept.entries)) text
  pub put : new ≡ lengthened text (begun old)

-- The records of the games that stay were copied, and then the new games file, these names and this index became the current files.
pub record IsWritten (kept : Kept) (names index : List ℕ) (old new : Seen) : Type 0 where
  pub copied_to : Seen
  pub copied : CopiedFirst (length kept.entries) kept (new_end kept.entries) old copied_to
  pub put : new ≡ committed names index copied_to

-- A device failed, or memory ran out.
abbrev pub IsDevice : CompactError → Type 0
IsDevice error.Failed = ⊤
IsDevice error.Memory = ⊤
IsDevice _ = ⊥

-- Why a record is not copied: it has changed, the files failed, or memory ran out.
abbrev pub WhyNotCopied : Kept → Option (List ℕ) → List ℕ → CompactError → Type 0
WhyNotCopied kept told buf (error.Changed game sig found) = IsChanged kept told game buf game sig found
WhyNotCopied kept told buf error.Failed = ⊤
WhyNotCopied kept told buf error.Memory = ⊤
WhyNotCopied kept told buf error.Full = ⊥
