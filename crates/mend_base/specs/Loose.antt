-- Records that have no entry: each whole record that stands between those that have one (this project's own, over Scid's format si4). A record is
-- looked for at each free byte in turn, and behind one that is found the search goes on.
use Rattle.std.specs.Prelude.{ℕ, zero, suc, ◌+◌, ◌-◌, ◌*◌, ◌/◌, ◌%◌, ◌&&◌, ◌||◌, Bool, true, false, nat_eq, nat_lt, if◌then◌else◌, min, List, [], ◌∷◌, ◌++◌, length, take, drop, replicate, slice_index_or, is_some, Result, Ok, Err}
use Rattle.byteorder.specs.Endian.{big_bytes}
use Rattle.game_codec.specs.RecordAnswer.{record_answer}
use Rattle.game_codec.specs.declared.fault.RecordFault.{RecordFault}
use Rattle.game_codec.specs.declared.fault.RecordWhat.{RecordWhat}
use Rattle.game_codec.specs.declared.fault.RecordWhat.TheVariants as what
use Rattle.game_tree.specs.Game.{GameTree}
use Rattle.game_tree.specs.declared.head.Tag.{Tag}
use Rattle.index_entry.specs.Index.{entry_bytes, header_read}
use Rattle.index_entry.specs.declared.entry.Entry.{Entry}
use Rattle.index_entry.specs.declared.fault.IndexFault.{IndexFault}
use Rattle.index_entry.specs.declared.index.IndexHead.{IndexHead}
use Rattle.name_base.specs.PartNames.{PartLists}
use Rattle.base_core.specs.FirstFault.{place_fault}
use Rattle.mend_base.specs.Entries.{entries_found, head_found, renewed}
use Rattle.mend_base.specs.Fields.{known_in}
use Rattle.mend_base.specs.Notes.{all_notes, notes_of_fault}
use Rattle.mend_base.specs.Ways.{known_entries, way_of}
use Rattle.mend_base.specs.declared.fronts.Faulty.{Faulty}
use Rattle.mend_base.specs.declared.report.Note.{Note}
use Rattle.mend_base.specs.declared.report.Note.TheVariants as line
use Rattle.mend_base.specs.declared.ways.Sought.{Sought}
use Rattle.mend_base.specs.declared.ways.Sought.TheVariants as sought

-- ---- which bytes are free.

-- One mark for each byte of a games file of this length: whether it belongs to the record of an entry. A record that can't stand where its entry says
-- takes no byte.
abbrev pub with_record : ℕ → Entry → List Bool → List Bool
with_record end e marks =
    if is_some (place_fault end e) then marks
    else take e.offset marks ++ (replicate e.len true ++ drop (e.offset + e.len) marks)

-- The marks of so many entries, the first ones.
abbrev pub marks_of : List ℕ → ℕ → ℕ → List Bool
marks_of index end zero = replicate end false
marks_of index end (suc n) = with_record end (known_in (entry_bytes index n)) (marks_of index end n)

-- How many bytes are free before the next record.
abbrev pub free_front : List Bool → ℕ
free_front [] = 0
free_front (true ∷ marks) = 0
free_front (false ∷ marks) = suc (free_front marks)

-- ---- a record in front of free bytes.

abbrev pub len_before : RecordWhat → ℕ → ℕ
len_before what.Extra place = place
len_before _ place = 0

-- The length of the record with which bytes begin, by the answer to them all. It is 0 if they begin with none.
abbrev pub answered_len : ℕ → Result (List Tag × GameTree) RecordFault → ℕ
answered_len len (Ok read) = len
answered_len len (Err fault) = len_before fault.what fault.place

-- Three equal bytes fill a place where no record stands.
abbrev pub is_filling : List ℕ → Bool
is_filling bytes = nat_eq (slice_index_or bytes 0 0) (slice_index_or bytes 1 0) && nat_eq (slice_index_or bytes 1 0) (slice_index_or bytes 2 0)

-- A record of three bytes says nothing: it has no tag, no start of its own, no move and no comment. An entry can't name one of 131,072 bytes.
abbrev pub if_it_says : ℕ → ℕ
if_it_says len = if nat_lt 3 len && nat_lt len 131072 then len else 0

-- The length of the record that is taken in front of these bytes, or 0.
unfoldable pub loose_len : List ℕ → ℕ
loose_len bytes =
    if nat_lt (length bytes) 4 || is_filling bytes then 0
    else if_it_says (answered_len (length bytes) (record_answer bytes))

-- ---- the entries that are made.

-- An entry that says where a record stands, and nothing else. Its ids are the greatest ones.
abbrev pub loose_entry : ℕ → ℕ → List ℕ
loose_entry place len = big_bytes 4 place ++ (big_bytes 2 (len % 65536) ++ (len / 65536 * 128 ∷ 0 ∷ 0 ∷ (replicate 12 255 ++ replicate 26 0)))

abbrev pub entry_of_loose : ℕ → ℕ → List ℕ
entry_of_loose place zero = []
entry_of_loose place (suc n) = loose_entry place (suc n)

-- The free bytes in front of these.
abbrev pub free_bytes : List Bool → List ℕ → List ℕ
free_bytes marks bytes = take (free_front marks) bytes

-- The entries of the records that are found in these bytes, the first of which stands at this place. So many bytes still belong to the last one.
abbrev pub loose_from : ℕ → ℕ → List Bool → List ℕ → List ℕ
loose_from place skip [] bytes = []
loose_from place (suc skip) (mark ∷ marks) bytes = loose_from (place + 1) skip marks (drop 1 bytes)
loose_from place zero (mark ∷ marks) bytes =
    entry_of_loose place (loose_len (free_bytes (mark ∷ marks) bytes))
    ++ loose_from (place + 1) (loose_len (free_bytes (mark ∷ marks) bytes) - 1) marks (drop 1 bytes)

-- ---- the blocks of a games file.

-- A record stands in one block, and an entry can say no place from 2^32 on.
abbrev pub block_count : ℕ → ℕ
block_count end = (min end 4294967296 + 131071) / 131072

abbrev pub block_of : ℕ → ℕ → {A : Type 0} → List A → List A
block_of end block list = take (min 131072 (end - 131072 * block)) (drop (131072 * block) list)

-- The entries of the records in so many blocks, the first ones.
abbrev pub loose_in : List Bool → List ℕ → ℕ → List ℕ
loose_in marks games zero = []
loose_in marks games (suc n) =
    loose_in marks games n ++ loose_from (131072 * n) 0 (block_of (length games) n marks) (block_of (length games) n games)

abbrev pub loose_entries : List ℕ → List ℕ → List ℕ
loose_entries index games = loose_in (marks_of index (length games) (known_entries index)) games (block_count (length games))

-- ---- the index with them.

-- The header and the entries of an index file. If it has none, its header is one of no games.
abbrev pub front_by : List ℕ → Result IndexHead IndexFault → List ℕ
front_by index (Ok header) = renewed index ++ take (47 * entries_found index) (drop 182 index)
front_by index (Err fault) = renewed (replicate 182 0)

unfoldable pub lengthened : List ℕ → List ℕ → List ℕ
lengthened index games = front_by index (head_found index) ++ loose_entries index games

-- The index that is mended.
abbrev pub sought_index : Sought → List ℕ → List ℕ → List ℕ
sought_index sought.Entries index games = index
sought_index sought.Records index games = lengthened index games

-- What is told of the index file before it is lengthened.
abbrev pub front_notes_by : List ℕ → Result IndexHead IndexFault → List Note
front_notes_by index (Ok header) = notes_of_fault (header_read index)
front_notes_by index (Err fault) = line.Lost fault ∷ []

abbrev pub front_notes : Sought → List ℕ → List Note
front_notes sought.Entries index = []
front_notes sought.Records index = front_notes_by index (head_found index)

-- All that is told.
abbrev pub told_of : Sought → Faulty → List ℕ → PartLists → List ℕ → List Note
told_of search faulty index names games =
    front_notes search index ++ all_notes (way_of faulty index) (sought_index search index games) names games

-- What is asked for where records without an entry are looked for: each byte of the games file.
abbrev pub search_cost : Sought → List ℕ → ℕ
search_cost sought.Entries games = 0
search_cost sought.Records games = length games
