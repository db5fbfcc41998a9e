-- Laws of desks: what a line leaves as it was, and what its end says of the files.
use Rattle.std.proofs.Common.{◌≡◌, ℕ, Bool, true, false, List, [], ◌∷◌, Option, Some, None, Ok, inl, refl}
use Rattle.std.specs.Prelude.{if◌then◌else◌, IfSome}
use Rattle.base_core.specs.Base.{Base}
use Rattle.base_files.specs.Seen.{Seen}
use Rattle.command_runs.specs.Plain.{after_all}
use Rattle.desk_commands.specs.Desk.{Desk, desk_by, desk_done, desks, seen_by}
use Rattle.desk_commands.specs.Standing.{DeskHolding, DeskStands, SettledLine, effective, line_left, with_seat}
use Rattle.script_lines.specs.Clients.{Clients, Tagged, has_ended, said}
use Rattle.script_lines.specs.declared.line.Line.{Line}
use Rattle.script_text.specs.Tasks.{Order, Task, body_word}
use Rattle.script_text.specs.declared.command.Command.TheVariants.{Nothing}
use Rattle.shell_commands.proofs.TaskLaws.{alone}
use Rattle.shell_commands.specs.Tasks.{order_work}
use Rattle.shell_state.proofs.CarryLaws.{carry_later, carry_of, left_of}
use Rattle.shell_state.specs.Carrying.{AreLeft, Settled, StillCarry}
use Rattle.view_commands.specs.Views.{all_slots}
use Rattle.shell_session.specs.Around.{AreLeftBy, Around}
use Rattle.shell_session.specs.Session.{Breaks, BrokenBy}
use Rattle.session_status.specs.declared.status.Status.{Status}

-- The line of a task.
abbrev pub its_line : Tagged → Line
its_line t = said t.client t.task.order

-- What remains behind a line that was broken off: the files carry what they carried, or what the line leaves, and the views of idle slots.
pub record Remains (around : Around) (d : Desk) (line : Line) : Type 0 where
  pub carries : StillCarry around.seen (seen_by d 0) (line_left d line)
  pub views : AreLeftBy around d line

abbrev pub breaks_by : (status : Status) (around' : Around) (t' : Option (List ℕ)) (d : Desk) (next : Tagged) (t : Option (List ℕ)) → BrokenBy status d next t t' → Remains around' d (its_line next) → SettledLine around'.seen d next t t'
    → Breaks status around' t' d next t
breaks_by status around' t' d next t broken remains settled = record { broken = broken; carries = remains.carries; settled = settled; views = remains.views }

-- A line leaves the kind of the lines.
pub same_kind : (d : Desk) (done : List Tagged) → (after_all desks d done).clients.tagged ≡ d.clients.tagged
same_kind d [] = refl
same_kind d (next ∷ done) = same_kind (desks.after d next) done

-- A test of desks.
by_test : (test : Bool) (x y : Desk) (P : Desk → Type 0) → P x → P y → P (if test then x else y)
by_test true x y P px py = px
by_test false x y P px py = py

-- What a line does, where its client may say nothing.
pub done_so : (d : Desk) (client : Option ℕ) (task : Task) (P : Desk → Type 0) → P d → ((speaker : ℕ) → client ≡ Some speaker → has_ended d.clients speaker ≡ false → P (desk_by d speaker task)) → P (desk_done d client task)
done_so d None task P same by = same
done_so d (Some speaker) task P same by = tested (has_ended d.clients speaker) refl
  where
    tested : (test : Bool) → has_ended d.clients speaker ≡ test → P (desk_done d (Some speaker) task)
    tested true ended = rw ended same
    tested false still = rw still (by speaker refl still)

-- ---- the order that takes effect

by_order : (test : Bool) (x y : Order) (P : Order → Type 0) → P x → P y → P (if test then x else y)
by_order true x y P px py = px
by_order false x y P px py = py

pub effect_so : (clients : Clients) (client : Option ℕ) (order : Order) (P : Order → Type 0) → P (Ok Nothing) → P order → P (effective clients client order)
effect_so clients None order P none some = none
effect_so clients (Some speaker) order P none some = by_order (has_ended clients speaker) (Ok Nothing) order P none some

-- A line without a body reads none.
pub alone_line : (d : Desk) (t : Tagged) → body_word t.task.order ≡ None → (order_work all_slots (effective d.clients t.client t.task.order) t.task.body).body ≡ false
alone_line d t none =
    alone all_slots (effective d.clients t.client t.task.order) t.task.body (effect_so d.clients t.client t.task.order (λ (order : Order). body_word order ≡ None) refl none)

-- ---- what the files carry

-- The machine of a desk stands for what its first client sees.
pub desk_carries : (held : DeskHolding) (seen : Seen) (d : Desk) (left : Option (Base → Base)) → DeskStands held seen d → StillCarry seen (seen_by d 0) left
desk_carries held seen d left st = carry_of (with_seat held.holding (seen_by d 0).seat) seen (seen_by d 0) left (st.stands (seen_by d 0).seat)

pub left_desk : (held : DeskHolding) (seen : Seen) (d : Desk) → DeskStands held seen d → AreLeft seen d.shared.carried d.shared.unsaved
left_desk held seen d st = left_of (with_seat held.holding (seen_by d 0).seat) seen (seen_by d 0) (st.stands (seen_by d 0).seat)

pub fresh_desk : (held : DeskHolding) (seen : Seen) (d : Desk) → DeskStands held seen d → seen.fresh ≡ d.shared.fresh
fresh_desk held seen d st = (st.stands (seen_by d 0).seat).fresh

-- Behind a line that leaves what they carry.
pub carries_later : (held : DeskHolding) (seen : Seen) (d later : Desk) (left : Option (Base → Base)) → later.shared.carried ≡ d.shared.carried → DeskStands held seen later → StillCarry seen (seen_by d 0) left
carries_later held seen d later left same st =
    carry_later (with_seat held.holding (seen_by later 0).seat) seen (seen_by d 0) (seen_by later 0) left same (st.stands (seen_by later 0).seat)

-- Nothing was written of a line.
settled_so : (left : Option (Base → Base)) (P : Type 0) → P → IfSome left (λ _. P)
settled_so None P is = tt
settled_so (Some base) P is = is

pub unsettled_line : (seen : Seen) (d : Desk) (t : Tagged) (told : Option (List ℕ)) → SettledLine seen d t told told
unsettled_line seen d t told = settled_so (line_left d (its_line t)) (Settled seen (seen_by (desks.after d t) 0) told told) (inl refl)
