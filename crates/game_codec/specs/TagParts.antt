-- What the reader of tags gives from one step to the next. No public contract cites these words.
use Rattle.std.specs.Prelude.{◌≡◌, ℕ, ◌<◌, ◌≤◌, List, ◌∷◌, Option, Some, None, Result, Ok, length, drop, codes}
use Rattle.cell_core.specs.Text.{IsZeroFree}
use Rattle.game_tree.specs.Date.{date_text}
use Rattle.game_tree.specs.declared.head.Tag.{Tag}
use Rattle.game_codec.specs.TagReading.{BeginsTag}
use Rattle.game_codec.specs.declared.fault.RecordWhat.{RecordWhat}
use Rattle.game_codec.specs.declared.tags.Next.{Next}
use Rattle.game_codec.specs.declared.tags.Next.TheVariants as next
use Rattle.game_codec.specs.declared.tags.Parts.{Parts}
use Rattle.game_codec.specs.declared.tags.Parts.TheVariants as parts

-- A tag of these texts.
abbrev pub tag_of : List ℕ → List ℕ → Tag
tag_of name value = record { name = name; value = value }

-- The answer is this tag and what is left of the bytes behind so many of them.
abbrev pub TagAnswer : Type 0
TagAnswer = Result (Option (Tag × List ℕ)) RecordWhat

-- The answer at the bytes behind a code is what these parts say.
abbrev pub IsParts : TagAnswer → List ℕ → Parts → Type 0
IsParts answer bytes (parts.Named name value used) =
    (answer ≡ Ok (Some (tag_of name.now value.now, drop used bytes)))
    × (used ≤ length bytes) × IsZeroFree name.now × IsZeroFree value.now
IsParts answer bytes (parts.Dated date) =
    (answer ≡ Ok (Some (tag_of (codes "EventDate") (date_text date), drop 3 bytes))) × (3 ≤ length bytes)
IsParts answer bytes parts.End = answer ≡ Ok None

-- The bytes begin with this tag, or with the zero byte that ends the tags.
abbrev pub IsNext : List ℕ → Next → Type 0
IsNext bytes (next.Tag tag used) = BeginsTag bytes tag (drop used bytes) × (0 < used) × (used ≤ length bytes)
IsNext bytes next.End = (rest : List ℕ) × (bytes ≡ 0 ∷ rest)
