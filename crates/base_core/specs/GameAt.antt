-- What reading one game of an open base answers (this project's own).
use Rattle.std.specs.Prelude.{◌≡◌, ◌≢◌, ◌≤◌, ⊤, ℕ, List, length, take, slice_get, Option, Some, None}
use Rattle.base_files.specs.Told.{Tells, part_told}
use Rattle.game_tree.specs.Game.{GameTree}
use Rattle.game_tree.specs.declared.head.Head.{Head}
use Rattle.game_tree.specs.declared.head.Tag.{Tag}
use Rattle.game_codec.specs.Record.{IsRecord, IsSomeRecord}
use Rattle.game_tree.specs.Settle.{settled}
use Rattle.index_entry.specs.declared.entry.Entry.{Entry}
use Rattle.sig_index.specs.Signature.{IsSig}
use Rattle.sig_index.specs.declared.signature.Sig.{Sig}
use Rattle.base_core.specs.declared.fault.EditError.{EditError}
use Rattle.base_core.specs.declared.fault.EditError.TheVariants as error
use Rattle.base_core.specs.Base.{Base, Held}
use Rattle.base_core.specs.Entries.{head_of, sig_in}
use Rattle.base_core.specs.Represents.{Kept, Represents}

-- The head and the game are those at this place, of every base that what is kept stands for.
abbrev pub IsGameAt : Kept → List ℕ → ℕ → Head → GameTree → Type 0
IsGameAt kept games i head game =
    (base : Base) (held : Held) → Represents kept games base → slice_get base.games i ≡ Some held → (head ≡ held.head) × (game ≡ held.game)

-- The first bytes of the buffer are a record of this game with some tags. The game has the signature that is kept of
-- game i, and the head is the settled head of what is kept with these tags. So it is whatever the files hold.
abbrev pub IsShown : Kept → ℕ → List ℕ → Head → GameTree → Type 0
IsShown kept i buf head game =
    (e : Entry) → slice_get kept.entries i ≡ Some e →
    (tags : List Tag) × (IsRecord (take e.len buf) tags game × (IsSig game (sig_in e) × (head ≡ settled (head_of kept.names e tags))))

-- The bytes are a record of some game with this signature.
abbrev pub IsRecordWith : List ℕ → Sig → Type 0
IsRecordWith bytes sig = (tags : List Tag) × ((game : GameTree) × (IsRecord bytes tags game × IsSig game sig))

-- The first bytes of the buffer are a record of a game with the signature that is kept of game i.
abbrev pub IsStillOfGame : Kept → ℕ → List ℕ → Type 0
IsStillOfGame kept i buf = (e : Entry) → slice_get kept.entries i ≡ Some e → IsRecordWith (take e.len buf) (sig_in e)

-- The first bytes of the buffer are the record of game i, which has so many.
abbrev pub IsRecordOf : Kept → Option (List ℕ) → ℕ → ℕ → List ℕ → Type 0
IsRecordOf kept told i len buf =
    (e : Entry) → slice_get kept.entries i ≡ Some e → (len ≡ e.len) × Tells (part_told told e.offset e.len) (take e.len buf)

-- Bytes that show another game than the one of this signature: they are no record, or one of a game with another signature.
abbrev pub ShowChange : List ℕ → Sig → Option Sig → Type 0
ShowChange bytes kept None = IsSomeRecord bytes → ⊥
ShowChange bytes kept (Some found) = (tags : List Tag) × ((game : GameTree) × (IsRecord bytes tags game × (IsSig game found × (found ≢ kept))))

-- The error tells such a change of this game, or want of memory.
abbrev pub TellsChange : ℕ → Sig → List ℕ → EditError → Type 0
TellsChange i kept bytes (error.Changed game sig found) = (game ≡ i) × ((sig ≡ kept) × ShowChange bytes kept found)
TellsChange i kept bytes error.Memory = ⊤
TellsChange i kept bytes _ = ⊥

-- A change of game i, of which this entry is kept: the signature is the entry's, and the bytes that were read, the first of the buffer, show it.
pub record IsChanged (kept : Kept) (told : Option (List ℕ)) (i : ℕ) (buf : List ℕ) (game : ℕ) (sig : Sig) (found : Option Sig) : Type 0 where
  pub own : game ≡ i
  pub e : Entry
  pub at : slice_get kept.entries i ≡ Some e
  pub same : sig ≡ sig_in e
  pub read : Tells (part_told told e.offset e.len) (take e.len buf)
  pub shown : ShowChange (take e.len buf) sig found

-- What each error says. No other comes.
abbrev pub SaysWhy : Kept → Option (List ℕ) → ℕ → List ℕ → EditError → Type 0
SaysWhy kept told i buf (error.NoGame game) = (game ≡ i) × (length kept.entries ≤ i)
SaysWhy kept told i buf (error.Changed game sig found) = IsChanged kept told i buf game sig found
SaysWhy kept told i buf error.Failed = ⊤
SaysWhy kept told i buf error.Memory = ⊤
SaysWhy kept told i buf _ = ⊥

-- The fact, if the error tells a change.
abbrev pub IfChanged : EditError → Type 0 → Type 0
IfChanged (error.Changed game sig found) Fact = Fact
IfChanged _ Fact = ⊤
