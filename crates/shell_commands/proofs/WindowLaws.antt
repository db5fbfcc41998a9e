-- The law that what a line owes the files, its body and its price does not depend on whose slots are his.
use Rattle.std.proofs.Common.{◌≡◌, ℕ, List, Ok, Err, refl}
use Rattle.script_text.specs.declared.command.Command.{Command}
use Rattle.script_text.specs.declared.command.Command.TheVariants.{Unwatch, View, Watch}
use Rattle.script_text.specs.Tasks.{Order}
use Rattle.shell_commands.specs.Tasks.{command_work, order_work}
use Rattle.shell_state.specs.Work.{Work}
use Rattle.view_commands.specs.Views.{all_slots}
use Rattle.view_commands.specs.declared.window.Window.{Window}

record Alike (one other : Work) : Type 0 where
  files : one.files ≡ other.files
  writes : one.writes ≡ other.writes
  body : one.body ≡ other.body
  early : one.early ≡ other.early
  left : one.left ≡ other.left
  price : one.price ≡ other.price

command_alike : (w : Window) (command : Command) (body : List ℕ) → Alike (command_work w command body) (command_work all_slots command body)
command_alike w (Watch slot board side) body = record { files = refl; writes = refl; body = refl; early = refl; left = refl; price = refl }
command_alike w (View slot) body = record { files = refl; writes = refl; body = refl; early = refl; left = refl; price = refl }
command_alike w (Unwatch slot) body = record { files = refl; writes = refl; body = refl; early = refl; left = refl; price = refl }
command_alike w _ body = record { files = refl; writes = refl; body = refl; early = refl; left = refl; price = refl }

order_alike : (w : Window) (order : Order) (body : List ℕ) → Alike (order_work w order body) (order_work all_slots order body)
order_alike w (Ok command) body = command_alike w command body
order_alike w (Err fault) body = record { files = refl; writes = refl; body = refl; early = refl; left = refl; price = refl }

pub any_files : (w : Window) (order : Order) (body : List ℕ) → (order_work w order body).files ≡ (order_work all_slots order body).files
any_files w order body = (order_alike w order body).files

pub any_writes : (w : Window) (order : Order) (body : List ℕ) → (order_work w order body).writes ≡ (order_work all_slots order body).writes
any_writes w order body = (order_alike w order body).writes

pub any_body : (w : Window) (order : Order) (body : List ℕ) → (order_work w order body).body ≡ (order_work all_slots order body).body
any_body w order body = (order_alike w order body).body

pub any_early : (w : Window) (order : Order) (body : List ℕ) → (order_work w order body).early ≡ (order_work all_slots order body).early
any_early w order body = (order_alike w order body).early

pub any_left : (w : Window) (order : Order) (body : List ℕ) → (order_work w order body).left ≡ (order_work all_slots order body).left
any_left w order body = (order_alike w order body).left

pub any_price : (w : Window) (order : Order) (body : List ℕ) → (order_work w order body).price ≡ (order_work all_slots order body).price
any_price w order body = (order_alike w order body).price
