-- What is saved of a record that has a fault: each line with one ends before its first fault, with a comment that says so, and all other lines are as
-- they were. The proved reading of records judges what is left (this project's own, after Scid's format si4).
use Rattle.std.specs.Prelude.{◌≡◌, ℕ, zero, suc, ◌+◌, ◌-◌, ◌==◌, ◌||◌, nat_lt, if◌then◌else◌, List, [], ◌∷◌, ◌++◌, length, take, drop, replicate, slice_index_or, codes, Option, None, Some, Result, Ok, Err}
use Rattle.std.specs.Option.{option_map_or}
use Rattle.game_codec.specs.RecordAnswer.{record_answer}
use Rattle.game_codec.specs.Written.{longest}
use Rattle.game_codec.specs.declared.fault.RecordFault.{RecordFault}
use Rattle.game_tree.specs.Game.{GameTree}
use Rattle.game_tree.specs.declared.head.Tag.{Tag}
use Rattle.mend_base.specs.Marks.{line_end, spot_behind, texts_in}
use Rattle.mend_base.specs.declared.fronts.Faulty.{Faulty}
use Rattle.mend_base.specs.declared.fronts.Faulty.TheVariants as faulty
use Rattle.mend_base.specs.declared.marks.Due.{Due}
use Rattle.mend_base.specs.declared.marks.Due.TheVariants as due
use Rattle.mend_base.specs.declared.marks.Spot.{Spot}

-- What the comment says.
abbrev pub saying : List ℕ
saying = codes "scid_mend: the rest of this line is left out, since it has a fault"

-- The first texts of these bytes, with an empty one for each that is missing.
abbrev pub first_texts : ℕ → List ℕ → List ℕ
first_texts n bytes = take (texts_in n bytes).used bytes ++ replicate (texts_in n bytes).due 0

-- With what the comment says: in a text of its own behind them, or at the end of the text of this number.
abbrev pub with_saying : ℕ → List ℕ → List ℕ
with_saying own texts =
    if own == 0 then (texts ++ saying) ++ 0 ∷ []
    else ((take ((texts_in own texts).used - 1) texts ++ 32 ∷ []) ++ saying) ++ drop ((texts_in own texts).used - 1) texts

-- The mark of the comment, unless one stands there.
abbrev pub comment_mark : ℕ → List ℕ
comment_mark own = if own == 0 then 12 ∷ [] else []

-- The end of a variation of this depth, unless these bytes begin with it, and the end of the game where there was none.
abbrev pub missing_close : ℕ → List ℕ → List ℕ
missing_close line bytes = if line == 0 || slice_index_or bytes 0 0 == 14 then [] else 14 ∷ []

abbrev pub missing_end : Due → List ℕ
missing_end due.Text = []
missing_end _ = 15 ∷ []

-- The record whose line ends at a spot, before this byte: what stands from there on to the end of the line is left out, with the texts of its comments.
-- The texts of the record begin where its bytes are passed.
abbrev pub cut_moves : ℕ → Spot → ℕ → Spot → List ℕ → List ℕ
cut_moves kept at end whole bytes =
    (((take kept bytes ++ comment_mark at.own) ++ missing_close at.depth (drop end bytes)) ++ take (whole.passed - end) (drop end bytes))
    ++ missing_end whole.due

abbrev pub cut_texts : Spot → ℕ → List ℕ → List ℕ
cut_texts at passed texts = with_saying at.own (first_texts at.comments texts) ++ drop (texts_in passed texts).used texts

abbrev pub cut_by : ℕ → Spot → Spot → Spot → List ℕ → List ℕ
cut_by kept at end whole bytes = cut_moves kept at end.passed whole bytes ++ cut_texts at end.comments (drop whole.passed bytes)

abbrev pub cut_line : ℕ → Spot → List ℕ → List ℕ
cut_line kept at bytes = cut_by kept at (line_end at.depth at (drop at.passed bytes)) (spot_behind at.depth bytes) bytes

-- The record whose moves are whole, with as many texts as they have comments.
abbrev pub with_its_texts : Spot → List ℕ → List ℕ
with_its_texts at bytes = take at.passed bytes ++ first_texts at.comments (drop at.passed bytes)

-- What is left without the first fault, which stands at this spot. A NAG without its number is left out too, and before the moves nothing is left.
abbrev pub left_at : Due → Spot → List ℕ → Option (List ℕ)
left_at due.Item at bytes = Some (cut_line at.passed at bytes)
left_at due.Number at bytes = Some (cut_line (at.passed - 1) at bytes)
left_at due.Text at bytes = Some (with_its_texts at bytes)
left_at _ at bytes = None

-- A record is no longer than the longest.
abbrev pub if_short : Option (List ℕ) → Option (List ℕ)
if_short None = None
if_short (Some bytes) = if nat_lt longest (length bytes) then None else Some bytes

abbrev pub left_by : Spot → List ℕ → Option (List ℕ)
left_by at bytes = if_short (left_at at.due at bytes)

unfoldable pub left_of : List ℕ → ℕ → Option (List ℕ)
left_of bytes place = left_by (spot_behind (spot_behind 0 (take place bytes)).depth (take place bytes)) bytes

-- ---- fault by fault.

-- Bytes that are a record, and its extra tags and its game.
pub record Saved : Type 0 where
  pub bytes : List ℕ
  pub read : List Tag × GameTree

-- What is saved of bytes with this answer, in so many steps at most, each of which takes a fault out of them.
unfoldable pub saved_in : ℕ → List ℕ → Result (List Tag × GameTree) RecordFault → Option Saved
saved_in steps bytes (Ok read) = Some (record { bytes = bytes; read = read })
saved_in zero bytes (Err fault) = None
saved_in (suc steps) bytes (Err fault) = option_map_or (λ left. saved_in steps left (record_answer left)) (left_of bytes fault.place) None

-- How many faults are taken out of a record.
abbrev pub steps_of : Faulty → ℕ
steps_of faulty.LeftOut = 0
steps_of faulty.Fronts = 256
