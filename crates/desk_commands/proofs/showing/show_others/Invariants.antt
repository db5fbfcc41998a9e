use Rattle.std.proofs.Common.{◌≡◌, ℕ, length}
use Rattle.base_files.specs.Seen.{Seen}
use Rattle.shell_state.specs.Slots.{slot_at}
use Rattle.shell_state.specs.Stands.{Stands}
use Rattle.view_commands.specs.Views.{AreLeft, is_shown}
use Rattle.desk_commands.proofs.showing.show_others.Given as goal
use Rattle.desk_commands.specs.Desk.{Desk, seen_by}
use Rattle.desk_commands.specs.Showing.{AreRightTo, AreShownTo, IsLater, but_one}
use Rattle.desk_commands.specs.Standing.{seats_of, with_seat}

-- The views of the clients so far are right.
abbrev pub invariant-loop-client : goal.invariant-loop-client
invariant-loop-client g l = record {
  machine : l.machine ≡ l.fn.machine;
  seats : seats_of l.seats ≡ seats_of l.fn.seats;
  shown : (seen : Seen) (d later : Desk) → ((client : ℕ) → Stands (with_seat l.fn.machine (seen_by later client).seat) seen (seen_by later client)) → seats_of l.fn.seats ≡ later.seats → l.clients ≡ d.clients → IsLater d later
      → AreRightTo (λ b. (goal.TreeView-dyn g (b.vtable, b.value)).rows b.value) (but_one l.by (length l.fn.seats)) d l.fn.views
      → AreShownTo (λ b. (goal.TreeView-dyn g (b.vtable, b.value)).rows b.value) (λ b. (goal.TreeView-dyn g (b.vtable, b.value)).told b.value) (but_one l.by l.client) d later l.fn.views l.views;
  left : (seen : Seen) (d later : Desk) → ((client : ℕ) → Stands (with_seat l.fn.machine (seen_by later client).seat) seen (seen_by later client)) → seats_of l.fn.seats ≡ later.seats → l.clients ≡ d.clients → IsLater d later
      → AreLeft (λ i. is_shown (slot_at d.slots i)) l.fn.views l.views;
  number : length l.views ≡ length l.fn.views;
  same : length l.seats ≡ length l.fn.seats;
}
