-- Laws of tasks: what a command owes is what its task owes.
use Rattle.std.proofs.Common.{◌≡◌, ◌≤◌, ◌+◌, ℕ, Bool, true, false, [], List, Option, None, Some, Result, Ok, Err, refl, sym, subst, inl}
use Rattle.std.specs.Prelude.{IfErr, IfSome}
use Rattle.base_core.specs.Base.{Base}
use Rattle.base_files.specs.Seen.{Seen}
use Rattle.command_runs.specs.Endings.{Serves}
use Rattle.script_text.specs.Tasks.{Order, Task, body_word}
use Rattle.script_text.specs.declared.command.Command.TheVariants.{Demo, Import, Replace, Eco}
use Rattle.shell_state.proofs.CarryLaws.{if_err, settled_of}
use Rattle.shell_state.proofs.PriceLaws.{asked_told}
use Rattle.shell_state.specs.Carrying.{Settled}
use Rattle.shell_state.specs.Stands.{Asks, AsksBy, Broken, Holding, Stands}
use Rattle.shell_state.specs.State.{State}
use Rattle.shell_state.specs.Work.{Look, Price, Work, price_by, works}
use Rattle.shell_state.specs.Work.Price.{by_looks}
use Rattle.shell_state.specs.declared.halt.Halt.{Halt}
use Rattle.view_commands.specs.Views.{all_slots}
use Rattle.view_commands.specs.declared.window.Window.{Window}
use Rattle.shell_commands.specs.Tasks.{BrokenTask, SettledTask, order_left, order_price, command_work, order_work, task_work, tasks}

pub task_serves : {A : Type 0} (r : Result A Halt) (w : Window) (new : Holding) (seen : Seen) (s : State) (t : Task) (told told' : Option (List ℕ))
    → Serves works (Stands new seen) Broken s (task_work w t) told told' r → Serves (tasks w) (Stands new seen) (BrokenTask w) s t told told' r
task_serves (Ok x) w new seen s t told told' done = record { stands = done.stands; written = done.written }
task_serves (Err e) w new seen s t told told' cut = record { wrote = cut.wrote; broken = cut.broken }

-- A line without a body reads none.
pub alone : (w : Window) (order : Order) (body : List ℕ) → body_word order ≡ None → (order_work w order body).body ≡ false
alone w (Ok (Import word)) body none = cc
alone w (Ok (Replace game word)) body none = cc
alone w (Ok (Eco word)) body none = cc
alone w _ body none = refl

-- What is asked where the files are told.
asks_so : (work : Work) (price : List Look → List (Option ℕ) → ℕ) (holding : Holding) (seen : Seen) (s : State) (old new : ℕ) → work.price ≡ by_looks price → Stands holding seen s → Asks holding work old new → new ≤ old + price_by work.price s
asks_so work price holding seen s old new is st asked =
    let P : Price → Type 0 = λ p. AsksBy p holding old new in
    let Q : Price → Type 0 = λ p. new ≤ old + price_by p s in
    let here : AsksBy (by_looks price) holding old new = subst P is asked in
    subst Q (sym is) (asked_told price holding seen s old new st here)

-- Whether a line makes games: its price is that of the state behind them.
abbrev pub is_demo : Order → Bool
is_demo (Ok (Demo seed games)) = true
is_demo _ = false

pub asked_by : (holding : Holding) (seen : Seen) (s : State) (order : Order) (old new : ℕ) → is_demo order ≡ false → Stands holding seen s → Asks holding (order_work all_slots order []) old new → new ≤ old + order_price s order
asked_by holding seen s (Ok (Demo seed games)) old new other st asked = absurd cc
asked_by holding seen s (Ok command) old new other st asked = asks_so (command_work all_slots command []) _ holding seen s old new refl st asked
asked_by holding seen s (Err fault) old new other st asked = asks_so (order_work all_slots (Err fault) []) _ holding seen s old new refl st asked

-- ---- lines that leave a base in the place of the files

settled_so : (left : Option (Base → Base)) (P : Type 0) → P → IfSome left (λ _. P)
settled_so None P is = tt
settled_so (Some base) P is = is

-- Nothing was written.
pub task_unsettled : (w : Window) (seen : Seen) (s : State) (t : Task) (told : Option (List ℕ)) → SettledTask seen w s t told told
task_unsettled w seen s t told = settled_so (order_left t.order) (Settled seen ((tasks w).after s t) told told) (inl refl)

-- The state behind it stood before anything was, if it is one.
pub task_settled : {A : Type 0} (r : Result A Halt) (w : Window) (holding : Holding) (seen : Seen) (s : State) (t : Task) (told told' : Option (List ℕ)) → IfSome (order_left t.order) (λ left. Stands holding seen ((tasks w).after s t))
    → IfErr r (λ _. SettledTask seen w s t told told')
task_settled r w holding seen s t told told' behind = if_err r _ (by (order_left t.order) behind)
  where
    by : (left : Option (Base → Base)) → IfSome left (λ _. Stands holding seen ((tasks w).after s t)) → IfSome left (λ _. Settled seen ((tasks w).after s t) told told')
    by (Some base) st = settled_of holding seen ((tasks w).after s t) told told' st
    by None st = tt
