-- What saving an open base writes, and what the files then mean (this project's own, over Scid's format si4).
use Rattle.std.specs.Prelude.{◌≡◌, ◌≤◌, ◌<◌, ◌+◌, ◌*◌, ◌⊎◌, ℕ, Bool, List, length}
use Rattle.base_files.specs.Seen.{Seen, replaced}
use Rattle.base_files.specs.declared.part.Part.TheVariants as part
use Rattle.index_entry.specs.Bits.{bit_in}
use Rattle.index_entry.specs.Entry.{entry_read}
use Rattle.index_entry.specs.Index.{entry_bytes, index_bytes}
use Rattle.name_base.specs.NamesText.{IsNamesText}
use Rattle.base_core.specs.declared.fault.BaseFault.{BaseFault}
use Rattle.base_core.specs.Base.{Base}
use Rattle.base_core.specs.FirstFault.{FirstFault}
use Rattle.base_core.specs.Means.{Carries, HoldsNames, Means}
use Rattle.base_core.specs.Opening.{IfTold, Opens}
use Rattle.base_core.specs.Packing.{AreWritten}
use Rattle.base_core.specs.Represents.{Kept, Represents}
use Rattle.base_core.specs.Uses.{frequencies_of}

-- The bytes are the index of what is kept: its header and its entries.
pub record IsIndexOf (kept : Kept) (bytes : List ℕ) : Type 0 where
  pub entries : List ℕ
  pub written : AreWritten entries kept.entries
  pub text : bytes ≡ index_bytes kept.header entries

-- The index and the names file of what is kept. The names stand with how often its games use them.
pub record Writes (kept : Kept) (index names : List ℕ) : Type 0 where
  pub entries : IsIndexOf kept index
  pub uses : IsNamesText kept.names (frequencies_of kept.names kept.entries) names

-- Both files were replaced by what is written for what is kept, and nothing else changed.
pub record IsSaved (kept : Kept) (old new : Seen) : Type 0 where
  pub index : List ℕ
  pub names : List ℕ
  pub writes : Writes kept index names
  pub replaced : new ≡ replaced part.Index index (replaced part.Names names old)

-- After an error nothing changed, or the names file alone was replaced.
abbrev pub IsLeft : Kept → Seen → Seen → Type 0
IsLeft kept old new =
    (new ≡ old) ⊎ ((names : List ℕ) × (IsNamesText kept.names (frequencies_of kept.names kept.entries) names × (new ≡ replaced part.Names names old)))

-- Bytes of an entry with no bit set that others leave out which say the same: there are zeros in all places that say nothing.
abbrev pub IsClear : List ℕ → Type 0
IsClear bytes = (others : List ℕ) → entry_read others ≡ entry_read bytes → (place : ℕ) → place < 376 → bit_in bytes place ≤ bit_in others place

-- Files that were written as a whole for a base. They have no fault, however strict the opening is. The index is its
-- header and the entries of the games, and each of these is clear.
pub record AreWhole (index names games : List ℕ) (base : Base) : Type 0 where
  pub faultless : (strict : Bool) (fault : BaseFault) → FirstFault strict index names games fault → ⊥
  pub size : length index ≡ 182 + 47 * length base.games
  pub clear : (game : ℕ) → game < length base.games → IsClear (entry_bytes index game)

-- The files mean this base, were written as a whole for it, and whatever is opened of them stands for it.
pub record OpensAgain (index names games : List ℕ) (base : Base) : Type 0 where
  pub means : Means index names games base
  pub whole : AreWhole index names games base
  pub opened : (create strict : Bool) (kept : Kept) (mended : ℕ) → Opens create strict index names games kept mended → Represents kept games base

-- If the files are told, and what is kept stands for a base, they mean it now and open again as it.
abbrev pub MeansIt : Kept → Seen → Type 0
MeansIt kept seen = IfTold seen (λ index names games. (base : Base) → Represents kept games base → OpensAgain index names games base)

-- The told files carry each base that they carried, if each of the names that they hold has the id in what is kept that it has there.
abbrev pub StillCarries : Kept → Seen → Seen → Type 0
StillCarries kept old new =
    IfTold old (λ index names games. IfTold new (λ i n g. (base : Base) (carried : Carries index names games base) → HoldsNames kept.names carried.all_names → Carries i n g base))

-- Only the index and the names file differ.
abbrev pub with_parts : Seen → Seen → Seen
with_parts old new = record old { index = new.index; names = new.names }
