-- Which entries of an index are mended: all that are whole, whatever its header counts (this project's own, over Scid's format si4).
use Rattle.std.specs.Prelude.{◌+◌, ◌-◌, ◌*◌, ◌/◌, ℕ, nat_eq, if◌then◌else◌, min, List, ◌∷◌, ◌++◌, length, take, drop, Result, Ok, Err}
use Rattle.index_entry.specs.Index.{header_read, magic}
use Rattle.index_entry.specs.declared.index.IndexHead.{IndexHead}
use Rattle.index_entry.specs.declared.fault.IndexFault.{IndexFault}
use Rattle.index_entry.specs.declared.fault.IndexFault.TheVariants.{Magic, Version}

-- The number of the whole entries of an index, and no more than a base can hold.
abbrev pub entries_found : List ℕ → ℕ
entries_found index = min ((length index - 182) / 47) 16777214

-- The header of an index with the first ten bytes that an index has: the magic, and the version 400.
abbrev pub renewed : List ℕ → List ℕ
renewed index = magic ++ (1 ∷ 144 ∷ take 172 (drop 10 index))

-- An index of which a header like this can be read has just the entries that the header counts, or it has this fault.
abbrev pub if_it_fits : List ℕ → IndexFault → Result IndexHead IndexFault → Result IndexHead IndexFault
if_it_fits index fault (Ok head) = if nat_eq (length index) (182 + 47 * head.games) then Ok head else Err fault
if_it_fits index fault (Err other) = Err fault

-- The header that is read, or for a magic or a version that is none the one behind it if it fits.
abbrev pub head_tried : List ℕ → Result IndexHead IndexFault → Result IndexHead IndexFault
head_tried index (Ok head) = Ok head
head_tried index (Err Magic) = if_it_fits index Magic (header_read (renewed index))
head_tried index (Err (Version version)) = if_it_fits index (Version version) (header_read (renewed index))
head_tried index (Err fault) = Err fault

-- The header of an index that is mended, or why none is.
unfoldable pub head_found : List ℕ → Result IndexHead IndexFault
head_found index = head_tried index (header_read index)
