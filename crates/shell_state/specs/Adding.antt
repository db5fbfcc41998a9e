-- What adding a game to the base of a machine does. This project's own.
use Rattle.std.specs.Prelude.{◌≡◌, ℕ, Some, None, Result, Ok, Err, length}
use Rattle.base_files.specs.Seen.{Seen}
use Rattle.game_tree.specs.Game.{GameTree}
use Rattle.game_tree.specs.declared.head.Head.{Head}
use Rattle.shell_state.specs.Refusing.{not_added}
use Rattle.shell_state.specs.Stands.{Holding, Stands}
use Rattle.shell_state.specs.State.{State, with_game}
use Rattle.shell_state.specs.declared.refusing.Refusal.{Refusal}

-- It was added, and has this number, since nothing was against it.
pub record IsAdded (holding : Holding) (seen : Seen) (s : State) (head : Head) (game : GameTree) (number : ℕ) : Type 0 where
  pub stands : Stands holding seen (with_game s head game)
  pub free : not_added s.shared head game ≡ None
  pub last : number ≡ length s.shared.base.games

-- It was not, and this is why.
pub record IsNotAdded (holding : Holding) (seen : Seen) (s : State) (head : Head) (game : GameTree) (why : Refusal) : Type 0 where
  pub stands : Stands holding seen s
  pub refused : not_added s.shared head game ≡ Some why

abbrev pub Adds : Holding → Seen → State → Head → GameTree → Result ℕ Refusal → Type 0
Adds holding seen s head game (Ok number) = IsAdded holding seen s head game number
Adds holding seen s head game (Err why) = IsNotAdded holding seen s head game why
