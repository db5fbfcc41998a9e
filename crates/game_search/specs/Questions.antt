-- What a search asks of each game, and what that costs (this project's own).
use Rattle.std.specs.Prelude.{◌≡◌, ℕ, suc, ◌&&◌, if◌then◌else◌, Bool, false, List, [], ◌∷◌, Option, Some, slice_get}
use Rattle.base_files.specs.declared.extent.Extent.{Extent}
use Rattle.game_filter.specs.Search.{looks_at}
use Rattle.game_filter.specs.declared.op.Op.{Op}
use Rattle.game_tree.specs.Game.{GameTree}
use Rattle.sig_index.specs.declared.signature.Sig.{Sig}

-- Whether the game of a number and a signature has to be read, and its first matching ply, if it has one, where it has not.
pub record Unread : Type 0 where
  pub reads : ℕ → Sig → Bool
  pub ply : ℕ → Option ℕ

-- A game of this list, which has one for each signature, has the ply that is known of it unread.
abbrev pub AreRight : Unread → (GameTree → Option ℕ) → List Sig → List GameTree → Type 0
AreRight unread first sigs list =
    (i : ℕ) (sig : Sig) (game : GameTree) → slice_get sigs i ≡ Some sig → slice_get list i ≡ Some game → unread.reads i sig ≡ false → unread.ply i ≡ first game

-- Whether each game has to be read, from this number on.
abbrev pub reads_from : (ℕ → Sig → Bool) → ℕ → List Sig → List Bool
reads_from reads i [] = []
reads_from reads i (sig ∷ sigs) = reads i sig ∷ reads_from reads (suc i) sigs

-- The bytes that one game costs, which has to be read or not, and has this entry in the filter: the length of its record, if it is looked
-- at and has to be read.
abbrev pub cost_of : Op → Bool → Extent → Option ℕ → ℕ
cost_of op read extent old = if looks_at op old && read then extent.len else 0
