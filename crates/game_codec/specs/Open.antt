-- The open lines of a record while all its moves are read, and which moves are left of them. No public contract cites these
-- words.
use Rattle.std.specs.Prelude.{◌≡◌, ℕ, suc, ◌+◌, ◌-◌, ◌<◌, ◌≤◌, ◌^◌, ◌==◌, ◌⊎◌, List, [], ◌∷◌, ◌++◌, length, drop, map, reverse, Option, Result, Ok, Err, IfOk, IfErr, Some, None}
use Rattle.cell_core.specs.declared.step.Move.{Move}
use Rattle.game_tree.specs.Game.{GameTree}
use Rattle.game_tree.specs.declared.head.Tag.{Tag}
use Rattle.move_codec.specs.Numbers.{Numbered}
use Rattle.game_codec.specs.Blank.{kept_in}
use Rattle.game_codec.specs.Breach.{Tells}
use Rattle.game_codec.specs.Nests.{IsCalm, with_before}
use Rattle.game_codec.specs.Place.{Place, after_move, after_comment, variation_of}
use Rattle.game_codec.specs.Record.{IsRecord}
use Rattle.game_codec.specs.Scanning.{Nest, Scans, Stop, nest_of}
use Rattle.game_codec.specs.Start.{BeginsStart}
use Rattle.game_codec.specs.TagReading.{BeginsTags}
use Rattle.game_codec.specs.Token.{Token, Play, Nag, Comment, Open, Close, End}
use Rattle.game_codec.specs.Visits.{Visit, all_visits, visit_from}
use Rattle.game_codec.specs.declared.breach.Breach.{Breach}
use Rattle.game_codec.specs.declared.all_walk.OpenLine.{OpenLine}
use Rattle.game_codec.specs.declared.all_walk.Lines.{Lines}
use Rattle.game_codec.specs.declared.reading.Item.{Item}
use Rattle.game_codec.specs.declared.reading.Item.TheVariants as item

-- The innermost line, and those round it from the inside out.
pub record Opened : Type 0 where
  pub line : OpenLine
  pub outer : List OpenLine

abbrev pub opened : Lines → Opened
opened lines = record { line = lines.line; outer = reverse (kept_in lines.outer.now) }

-- The beginning of a variation of a line's last move.
abbrev pub varied : OpenLine → OpenLine
varied o = record { place = variation_of o.place; ply = o.ply - 1 }

-- The open lines after an item.
abbrev pub opened_out : OpenLine → List OpenLine → Opened
opened_out o [] = record { line = o; outer = [] }
opened_out o (round ∷ outer) = record { line = round; outer = outer }

abbrev pub opened_after : Opened → Token → Opened
opened_after a (Play m) = record { line = record { place = after_move a.line.place m; ply = suc a.line.ply }; outer = a.outer }
opened_after a (Nag n) = a
opened_after a Comment = record { line = record { place = after_comment a.line.place; ply = a.line.ply }; outer = a.outer }
opened_after a Open = record { line = varied a.line; outer = a.line ∷ a.outer }
opened_after a Close = opened_out a.line a.outer
opened_after a End = a

-- The moves among items, each as it is played in its line.
abbrev pub visit_of : Opened → Token → List Visit
visit_of a (Play m) = visit_from (a.line.place.depth == 0) a.line.place.here.position a.line.ply m ∷ []
visit_of a (Nag n) = []
visit_of a Comment = []
visit_of a Open = []
visit_of a Close = []
visit_of a End = []

abbrev pub visits_in : Opened → List Token → List Visit
visits_in a [] = []
visits_in a (token ∷ tokens) = visit_of a token ++ visits_in (opened_after a token) tokens

-- The places of the open lines.
abbrev pub place_of_line : OpenLine → Place
place_of_line o = o.place

abbrev pub nest_at : Opened → Nest
nest_at a = record { current = a.line.place; outer = map place_of_line a.outer }

-- The code keeps these open lines. If nothing hangs on the last move it does not keep the position before it.
abbrev pub with_before_in : Numbered → Opened → Opened
with_before_in n a = record { line = record { place = with_before n a.line.place; ply = a.line.ply }; outer = a.outer }

abbrev pub IsKeptIn : Opened → Opened → List ℕ → Type 0
IsKeptIn a code bytes = (code ≡ a) ⊎ ((code ≡ with_before_in code.line.place.before a) × IsCalm bytes)

-- From these bytes on the items of the open lines follow to the end of the game, and these are their moves.
pub record AreLeft (a : Opened) (bytes : List ℕ) (left : List Visit) : Type 0 where
  pub tokens : List Token
  pub behind : List ℕ
  pub scans : Scans (nest_at a) bytes tokens (Ok behind)
  pub left_are : left ≡ visits_in a tokens

abbrev pub HasLeft : Lines → List Visit → Type 0
HasLeft lines left = AreLeft (opened lines) lines.ahead.now left

-- Whatever items follow from the second place, they follow from the first one behind those that were read.
abbrev pub ScansOn : Nest → List ℕ → Nest → List ℕ → Type 0
ScansOn first bytes now rest = (tokens : List Token) (stop : Stop) → Scans now rest tokens stop → (all : List Token) × Scans first bytes all stop

-- Each line lies in as many variations as lines stand round it, and its plies fit into 32 bits, also after so many more moves.
abbrev pub AreSound : ℕ → List OpenLine → Type 0
AreSound more [] = Unit {0}
AreSound more (o ∷ outer) = (o.place.depth ≡ length outer) × ((o.ply + more < 2 ^ 32) × AreSound more outer)

abbrev pub all_lines : Opened → List OpenLine
all_lines a = a.line ∷ a.outer

abbrev pub IsSound : Lines → Type 0
IsSound lines = AreSound (length lines.ahead.now) (all_lines (opened lines))

-- What was read of the one is read of the other.
pub record Follows (old new : Lines) : Type 0 where
  pub within : length new.ahead.now ≤ length old.ahead.now
  pub sound : IsSound new
  pub on : ScansOn (nest_at (opened old)) old.ahead.now (nest_at (opened new)) new.ahead.now

-- The move that was given last.
abbrev pub visit_now : Lines → Move → Visit
visit_now lines m = record { mv = m; position = lines.line.place.here.position; ply = lines.line.ply; main = lines.line.place.depth == 0 }

-- What an item leaves of the moves: a move is the first of those left, and at the end there are none.
abbrev pub Leaves : Lines → Item → Lines → Type 0
Leaves old item.Mark new = (length new.ahead.now < length old.ahead.now) × ((left : List Visit) → HasLeft old left → HasLeft new left)
Leaves old (item.Play m) new =
    (length new.ahead.now < length old.ahead.now)
    × ((left : List Visit) → HasLeft old left → (more : List Visit) × ((left ≡ visit_now new m ∷ more) × HasLeft new more))
Leaves old item.End new = (left : List Visit) → HasLeft old left → (left ≡ []) × HasLeft new left

-- These items follow, and then this fault.
abbrev pub BreaksItems : Lines → Breach → Type 0
BreaksItems lines breach =
    Tells (λ rest what. (tokens : List Token) × Scans (nest_at (opened lines)) lines.ahead.now tokens (Err (rest, what))) breach

-- What going over one item of the bytes does.
pub record HasMet (old : Lines) (result : Result Item Breach) (new : Lines) : Type 0 where
  pub follows : Follows old new
  pub leaves : IfOk result (λ item. Leaves old item new)
  pub fault : IfErr result (BreaksItems old)

-- The same of all items up to the next move.
abbrev pub last_item : Option Move → Item
last_item None = item.End
last_item (Some m) = item.Play m

pub record HasGone (old : Lines) (result : Result (Option Move) Breach) (new : Lines) : Type 0 where
  pub follows : Follows old new
  pub leaves : IfOk result (λ next. Leaves old (last_item next) new)
  pub fault : IfErr result (BreaksItems old)

-- The whole tags and the start of the bytes were read, and the items from there on.
pub record AreReadTo (bytes : List ℕ) (lines : Lines) : Type 0 where
  pub tags : List Tag
  pub start : Numbered
  pub behind_tags : List ℕ
  pub behind_start : List ℕ
  pub tags_first : BeginsTags bytes tags behind_tags
  pub then_start : BeginsStart behind_tags start behind_start
  pub on : ScansOn (nest_of start) behind_start (nest_at (opened lines)) lines.ahead.now

-- A walk over all lines that has given so many moves.
pub record IsAllWalk (bytes : List ℕ) (lines : Lines) (given : ℕ) : Type 0 where
  pub few : length bytes < 2 ^ 32
  pub within : given + length lines.ahead.now ≤ length bytes
  pub sound : IsSound lines
  pub read : AreReadTo bytes lines
  pub follows : (tags : List Tag) (game : GameTree) → IsRecord bytes tags game → HasLeft lines (drop given (all_visits game))
