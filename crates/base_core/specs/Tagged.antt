-- What setting a tag of a game of an open base answers, whatever its files hold (this project's own).
use Rattle.std.specs.Prelude.{◌≡◌, ◌≤◌, ⊤, ℕ, List, length, IfSome, Option}
use Rattle.base_files.specs.Seen.{Seen, appended}
use Rattle.block_store.specs.Placing.{padded}
use Rattle.game_codec.specs.Written.{written_record}
use Rattle.game_tree.specs.Game.{GameTree}
use Rattle.game_tree.specs.TagEdit.{edited}
use Rattle.game_tree.specs.declared.head.Head.{Head}
use Rattle.game_tree.specs.declared.tag_edit.TagEdit.{TagEdit}
use Rattle.base_core.specs.declared.fault.EditError.{EditError}
use Rattle.base_core.specs.declared.fault.EditError.TheVariants as error
use Rattle.base_core.specs.Base.{Base}
use Rattle.base_core.specs.Edited.{CanPlace, Places, WhyNotPlaced, first_full}
use Rattle.base_core.specs.Edits.{end_with, game_replaced, names_with, tagged}
use Rattle.base_core.specs.GameAt.{IsChanged, IsGameAt, IsShown}
use Rattle.base_core.specs.Represents.{Kept, Represents}

-- A game was read into the buffer and put in the place of game i with its head edited, for which there was room. It has the signature that was kept
-- there, and is the game there, if the files tell the base.
pub record IsTagged (i : ℕ) (edit : TagEdit) (old new : Kept) (before after : Seen) (buf : List ℕ) : Type 0 where
  pub head : Head
  pub game : GameTree
  pub shown : IsShown old i buf head game
  pub read : IfSome before.games (λ games. IsGameAt old games i head game)
  pub replaced : Places (written_record (edited head edit).tags game) (game_replaced i (edited head edit) game) old new
  pub room : CanPlace (length (written_record (edited head edit).tags game)) (first_full (length old.entries) (names_with (edited head edit) old.names) (end_with (edited head edit) game old.end))
  pub appended : after ≡ appended (padded old.end (written_record (edited head edit).tags game)) before

-- If the files tell the base, they hold it afterwards with the tag set.
abbrev pub Tags : ℕ → TagEdit → Kept → Kept → Option (List ℕ) → Option (List ℕ) → Type 0
Tags i edit old new told now =
    IfSome told (λ games. IfSome now (λ after. (base : Base) → Represents old games base → Represents new after (tagged i edit base)))

-- The game that was read into the buffer can't be placed with its head edited.
pub record IsNotPlaced (kept : Kept) (told : Option (List ℕ)) (i : ℕ) (edit : TagEdit) (buf : List ℕ) (e : EditError) : Type 0 where
  pub head : Head
  pub game : GameTree
  pub shown : IsShown kept i buf head game
  pub read : IfSome told (λ games. IsGameAt kept games i head game)
  pub why : WhyNotPlaced (length (written_record (edited head edit).tags game)) (first_full (length kept.entries) (names_with (edited head edit) kept.names) (end_with (edited head edit) game kept.end)) e

-- What each error says.
abbrev pub WhyNotTagged : Kept → Option (List ℕ) → ℕ → TagEdit → List ℕ → EditError → Type 0
WhyNotTagged kept told i edit buf (error.NoGame game) = (game ≡ i) × (length kept.entries ≤ i)
WhyNotTagged kept told i edit buf (error.Changed game sig found) = IsChanged kept told i buf game sig found
WhyNotTagged kept told i edit buf (error.TooLong n) = IsNotPlaced kept told i edit buf (error.TooLong n)
WhyNotTagged kept told i edit buf (error.Full what) = IsNotPlaced kept told i edit buf (error.Full what)
WhyNotTagged kept told i edit buf error.Failed = ⊤
WhyNotTagged kept told i edit buf error.Memory = ⊤
