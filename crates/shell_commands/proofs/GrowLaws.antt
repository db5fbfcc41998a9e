-- What goes on holding of a state as games come in behind its own, by `import` and by `demo`.
use Rattle.std.proofs.Common.{ℕ, zero, suc, List, [], ◌∷◌, Option, Some, None}
use Rattle.command_runs.specs.Plain.{after_all}
use Rattle.demo_games.specs.Demo.{Made, demo_game}
use Rattle.game_tree.specs.Game.{GameTree}
use Rattle.game_tree.specs.declared.head.Head.{Head}
use Rattle.intake_commands.proofs.ByCase.{unless_not_added}
use Rattle.intake_commands.specs.Importing.{Intake, intake, item_after}
use Rattle.pgn_read.specs.declared.item.Item.{Item}
use Rattle.pgn_read.specs.declared.item.Item.TheVariants.{Bad, Good}
use Rattle.search_commands.proofs.DemoLaws.{unless_ended, unless_refusal}
use Rattle.search_commands.specs.Demo.{Adding, adding}
use Rattle.shell_state.specs.Refusing.{not_added}
use Rattle.shell_state.specs.State.{State, with_game}
use Rattle.shell_state.specs.declared.refusing.Refusal.{Refusal}

module _ (P : State → Type 0) (more : (s : State) (head : Head) (game : GameTree) → P s → P (with_game s head game)) where
  item_by : (why : Option Refusal) (i : Intake) (head : Head) (game : GameTree) → P i.state → P (unless_not_added why i head game).state
  item_by (Some why) i head game is = is
  item_by None i head game is = more i.state head game is

  item_keeps : (i : Intake) (item : Item) → P i.state → P (item_after i item).state
  item_keeps i (Good head game) is = item_by (not_added i.state.shared head game) i head game is
  item_keeps i (Bad fault) is = is

  pub items_keep : (i : Intake) (items : List Item) → P i.state → P (after_all intake i items).state
  items_keep i [] is = is
  items_keep i (item ∷ items) is = items_keep (item_after i item) items (item_keeps i item is)

  made_by : (why : Option Refusal) (a : Adding) (made : Made) → P a.state → P (unless_refusal why a made).state
  made_by (Some why) a made is = is
  made_by None a made is = more a.state made.head made.game is

  one_by : (why : Option Refusal) (a : Adding) (made : Made) → P a.state → P (unless_ended why a made).state
  one_by (Some why) a made is = is
  one_by None a made is = made_by (not_added a.state.shared made.head made.game) a made is

  pub adding_keeps : (s : State) (seed games : ℕ) → P s → P (adding s seed games).state
  adding_keeps s seed zero is = is
  adding_keeps s seed (suc games) is =
      one_by (adding s seed games).refused (adding s seed games) (demo_game (adding s seed games).number games) (adding_keeps s seed games is)
