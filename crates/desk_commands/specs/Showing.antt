-- Bringing the views of some clients up to date. Only private functions cite this.
use Rattle.std.specs.Prelude.{◌≡◌, ℕ, ◌&&◌, ◌==◌, nat_lt, not, if◌then◌else◌, Bool, true, false, List, Option}
use Rattle.shell_state.specs.Slots.{slot_at}
use Rattle.tree_live.specs.Slots.{in_slot}
use Rattle.tree_live.specs.Views.{Told}
use Rattle.tree_rows.specs.declared.row.Row.{Row}
use Rattle.view_commands.specs.Views.{AreLeft, AreRight, IsRight, AreToldAtMost, IsToldAtMost, changes_of, is_own, is_shown}
use Rattle.desk_commands.specs.Desk.{Desk, seen_by, window_of}

-- All clients below a number but one.
abbrev pub but_one : ℕ → ℕ → ℕ → Bool
but_one by count client = nat_lt client count && not (client == by)

-- The views of some clients have become right beside a later desk, and were told no more changes than rows differ. Every other view is as before,
-- and so are those of slots that show nothing.
pub record AreShownTo {B : Type 0} (rows : B → List Row) (told : B → Told) (among : ℕ → Bool) (d later : Desk) (before after : List (Option B)) : Type 0 where
  pub right : (client i : ℕ) → among client ≡ true → is_own (window_of d.clients client) i ≡ true → IsRight rows (seen_by later client) (slot_at d.slots i) (in_slot after i)
  pub counted : (client i : ℕ) → among client ≡ true → is_own (window_of d.clients client) i ≡ true
      → IsToldAtMost told (changes_of (seen_by d client) (seen_by later client) (slot_at d.slots i)) (in_slot before i) (in_slot after i)
  pub others : (i : ℕ) → ((client : ℕ) → among client ≡ true → is_own (window_of d.clients client) i ≡ false) → in_slot after i ≡ in_slot before i
  pub left : AreLeft (λ i. is_shown (slot_at d.slots i)) before after

-- A later desk has the same slots and the same clients.
pub record IsLater (d later : Desk) : Type 0 where
  pub slots : later.slots ≡ d.slots
  pub clients : later.clients ≡ d.clients

-- The views of some clients are right beside a desk.
abbrev pub AreRightTo : {B : Type 0} → (B → List Row) → (ℕ → Bool) → Desk → List (Option B) → Type 0
AreRightTo rows among d views = (client : ℕ) → among client ≡ true → AreRight rows (window_of d.clients client) (seen_by d client) views

-- The same of one client.
pub record ShownOne {B : Type 0} (rows : B → List Row) (told : B → Told) (step : ℕ) (d later : Desk) (mid after : List (Option B)) : Type 0 where
  pub right : AreRight rows (window_of d.clients step) (seen_by later step) after
  pub counted : AreToldAtMost told (λ i. if is_own (window_of d.clients step) i then changes_of (seen_by d step) (seen_by later step) (slot_at later.slots i) else 0) mid after
  pub others : AreLeft (is_own (window_of d.clients step)) mid after
  pub left : AreLeft (λ i. is_own (window_of d.clients step) i && is_shown (slot_at later.slots i)) mid after
