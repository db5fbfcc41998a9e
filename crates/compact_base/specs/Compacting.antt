-- What a compaction makes of what is kept of a base and of its games file (this project's own).
use Rattle.std.specs.Prelude.{◌≡◌, ◌≤◌, ◌<◌, ℕ, ◌+◌, Bool, true, false, not, ⊤, List, [], ◌∷◌, ◌++◌, length, map, filter, sum_by, Option, Some, None, option_map, IfSome}
use Rattle.base_files.specs.Extents.{record_in}
use Rattle.base_files.specs.Seen.{Seen, begun, committed, lengthened}
use Rattle.base_files.specs.Told.{Tells, part_told}
use Rattle.block_store.specs.Placing.{end_after, longest_file, padded}
use Rattle.base_core.specs.Base.{Base}
use Rattle.base_core.specs.Compacted.{compacted, end_of}
use Rattle.base_core.specs.Entries.{extent_of, sig_in}
use Rattle.base_core.specs.GameAt.{IsChanged}
use Rattle.base_core.specs.Represents.{Kept, Represents}
use Rattle.base_core.specs.Saved.{Writes}
use Rattle.game_filter.specs.Renumbering.{Numbering}
use Rattle.game_tree.specs.Game.{GameTree}
use Rattle.game_tree.specs.Legal.{IsLegalGame}
use Rattle.game_tree.specs.declared.head.Tag.{Tag}
use Rattle.game_codec.specs.Record.{IsRecord}
use Rattle.index_entry.specs.declared.entry.Entry.{Entry}
use Rattle.sig_index.specs.Signature.{IsSig}
use Rattle.compact_base.specs.declared.fault.CompactError.{CompactError}
use Rattle.compact_base.specs.declared.fault.CompactError.TheVariants as error

-- The entries of the games that stay: those that are not marked as deleted.
abbrev pub staying : List Entry → List Entry
staying entries = filter (λ e. not e.deleted) entries

-- The records of games of a games file one behind the other, each placed where a games file that ends there takes it.
abbrev pub records_from : List ℕ → ℕ → List Entry → List ℕ
records_from games end [] = []
records_from games end (e ∷ entries) = padded end (record_in games (extent_of e)) ++ records_from games (end_after end e.len) entries

-- The new games file: the old bytes of the records of the games that stay, placed from its beginning.
abbrev pub new_games : List Entry → List ℕ → List ℕ
new_games entries games = records_from games 0 (staying entries)

-- Where it ends.
abbrev pub new_end : List Entry → ℕ
new_end entries = end_of 0 (map (λ e. e.len) (staying entries))

-- The bytes of these records, all told.
abbrev pub kept_len : List Entry → ℕ
kept_len entries = sum_by (λ e. e.len) (staying entries)

-- The new numbers of games, those from `next` on for the games that are not deleted.
abbrev pub numbers_from : ℕ → List Bool → List (Option ℕ)
numbers_from next [] = []
numbers_from next (true ∷ deleted) = None ∷ numbers_from next deleted
numbers_from next (false ∷ deleted) = Some next ∷ numbers_from (next + 1) deleted

-- How the games are numbered anew.
abbrev pub numbering : List Entry → Numbering
numbering entries = record { to = numbers_from 0 (map (λ e. e.deleted) entries); kept = length (staying entries) }

-- If the files tell the base, they now hold it after a compaction.
abbrev pub Compacts : Kept → Kept → Option (List ℕ) → Option (List ℕ) → Type 0
Compacts old new told now = IfSome told (λ games. IfSome now (λ fresh. (base : Base) → Represents old games base → Represents new fresh (compacted base)))

-- The bytes are the record of a game that stays. They are as many as are kept of it, and those that the games file has
-- there, if it is told. Whatever the games file holds, they are a record of a legal game with the signature that is
-- kept.
pub record IsRecordKept (games : Option (List ℕ)) (e : Entry) (bytes : List ℕ) : Type 0 where
  pub long : length bytes ≡ e.len
  pub read : Tells (part_told games e.offset e.len) bytes
  pub tags : List Tag
  pub game : GameTree
  pub is_record : IsRecord bytes tags game
  pub legal : IsLegalGame game
  pub is_sig : IsSig game (sig_in e)

-- Such a record of each of these games and nothing else, each placed where a games file that ends there takes it.
abbrev pub AreRecordsKept : Option (List ℕ) → ℕ → List Entry → List ℕ → Type 0
AreRecordsKept games end [] text = text ≡ []
AreRecordsKept games end (e ∷ entries) text =
    (bytes : List ℕ) × ((rest : List ℕ) × (IsRecordKept games e bytes × (AreRecordsKept games (end_after end e.len) entries rest × (text ≡ padded end bytes ++ rest))))

-- What became the games file are such records of the games that stay.
pub record CopiesRecords (kept : Kept) (before after : Seen) : Type 0 where
  pub text : List ℕ
  pub index : List ℕ
  pub names : List ℕ
  pub records : AreRecordsKept before.games 0 (staying kept.entries) text
  pub put : after ≡ committed names index (lengthened text (begun before))

-- All three files were replaced at once: by what is written for what is kept now, and by the new games file.
pub record IsCommitted (old new : Kept) (before after : Seen) : Type 0 where
  pub index : List ℕ
  pub names : List ℕ
  pub writes : Writes new index names
  pub put : after ≡ committed names index (record before { fresh = option_map (new_games old.entries) before.games; added = new_end old.entries })

-- What each error says: `Full`, that the new games file would pass its limit; `Failed` and `Changed`, that it would
-- not.
abbrev pub WhyNotCompacted : Kept → Option (List ℕ) → List ℕ → CompactError → Type 0
WhyNotCompacted kept told buf error.Full = longest_file < new_end kept.entries
WhyNotCompacted kept told buf error.Failed = new_end kept.entries ≤ longest_file
WhyNotCompacted kept told buf (error.Changed game sig found) = (new_end kept.entries ≤ longest_file) × IsChanged kept told game buf game sig found
WhyNotCompacted kept told buf error.Memory = ⊤

-- The fact, if the error tells a change.
abbrev pub IfChanged : CompactError → Type 0 → Type 0
IfChanged (error.Changed game sig found) Fact = Fact
IfChanged _ Fact = ⊤
