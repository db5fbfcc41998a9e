-- What a line of a script says at a desk: nothing where no client says it, or one who has ended.
use Rattle.std.proofs.Common.{◌≡◌, ◌≤◌, ◌+◌, ℕ, Bool, true, false, cond, ◌||◌, zero, suc, List, [], ◌∷◌, Option, Some, None, Result, Ok, Err, OnOk, codes, length, refl, sym, ap, ap₂, subst, ◌∙◌, arith}
use Rattle.std.specs.Prelude.{IfErr, IfSome, option_map, slice_get, slice_set, unwrap_or}
use Rattle.base_files.specs.Seen.{Seen}
use Rattle.base_files.specs.Told.{adds}
use Rattle.base_files.specs.declared.faults.Stop.TheVariants as stop
use Rattle.command_runs.specs.Counts.{Causes, counts}
use Rattle.command_runs.specs.Endings.{Done, Halted, Serves}
use Rattle.filter_seat.specs.Seats.{first_seat}
use Rattle.script_lines.specs.Clients.{Clients, ended_by, has_ended, heard, leaver, said, tagged_task}
use Rattle.script_lines.specs.declared.line.Line.{Line}
use Rattle.script_text.specs.Tasks.{Order, Task, task}
use Rattle.script_text.specs.declared.command.Command.TheVariants.{Nothing}
use Rattle.shell_commands.proofs.WindowLaws.{any_body, any_early, any_files}
use Rattle.shell_commands.specs.Tasks.{BrokenTask, SettledTask, order_left, order_price, order_work}
use Rattle.shell_state.proofs.CarryLaws.{carry_of}
use Rattle.shell_state.proofs.Causing.{broken_by_output}
use Rattle.shell_state.specs.Carrying.{Settled, StillCarry}
use Rattle.shell_state.specs.Ends.{IsOutput}
use Rattle.shell_state.specs.Slots.{slot_at}
use Rattle.shell_state.specs.Stands.{Broken, Unfinished, WhyHalt}
use Rattle.shell_state.specs.State.{State}
use Rattle.shell_state.specs.Work.{Work}
use Rattle.shell_state.specs.declared.halt.Halt.{Halt}
use Rattle.shell_state.specs.declared.halt.Halt.TheVariants as halt
use Rattle.tree_live.specs.Slots.{in_slot}
use Rattle.tree_live.specs.Views.{Told}
use Rattle.tree_rows.specs.declared.row.Row.{Row}
use Rattle.view_commands.specs.Views.{AreLeft, AreToldAtMost, IsToldAtMost, all_slots, changes_of, is_shown, slot_hits}
use Rattle.view_commands.proofs.ToldLaws.{told_same}
use Rattle.view_commands.specs.declared.window.Window.{Window}
use Rattle.shell_commands.specs.Watching.{watches}
use Rattle.desk_commands.specs.Desk.{Desk, desk_after, desk_by, desk_done, desk_text, lines_to, own_tasks, seen_by, unless_nothing, window_of}
use Rattle.desk_commands.specs.Doing.{doings, most_told_by}
use Rattle.desk_commands.specs.Standing.{BrokenLine, DeskHolding, DeskStands, SettledLine, effective, line_left, line_price}
use Rattle.desk_commands.specs.Views.{AllRight, LineShown, line_told, line_touches, line_watches, owner}

-- ---- a line of which nothing is done

pub record IsIdle (d : Desk) (line : Line) : Type 0 where
  pub done : (t : Task) → desk_done d line.client t ≡ d
  pub order : effective d.clients line.client line.order ≡ Ok Nothing

pub no_client : (d : Desk) (line : Line) → line.client ≡ None → IsIdle d line
no_client d line none = record {
  done = λ t. ap (λ (o : Option ℕ). desk_done d o t) none;
  order = ap (λ (o : Option ℕ). effective d.clients o line.order) none;
}

pub is_late : (d : Desk) (line : Line) (client : ℕ) → line.client ≡ Some client → has_ended d.clients client ≡ true → IsIdle d line
is_late d line client some ended = record {
  done = λ t. ap (λ (o : Option ℕ). desk_done d o t) some ∙ rw ended refl;
  order = ap (λ (o : Option ℕ). effective d.clients o line.order) some ∙ rw ended refl;
}

pub idle_shown : {B : Type 0} (rows : B → List Row) (told : B → Told) (d : Desk) (line : Line) (text : List ℕ) (views : List (Option B)) → IsIdle d line → AllRight rows d views → LineShown rows told d (tagged_task line text) views views
idle_shown rows told d line text views idle right = record {
  right = subst (λ (x : Desk). AllRight rows (record x { clients = heard d.clients (said line.client line.order) }) views) (sym (idle.done (task line.order text))) right;
  counted = λ i. told_same told (line_told d (tagged_task line text) i) (in_slot views i) (in_slot views i) refl;
}

pub idle_carries : (held : DeskHolding) (seen : Seen) (d : Desk) (line : Line) → IsIdle d line → DeskStands held seen d → StillCarry seen (seen_by d 0) (line_left d line)
idle_carries held seen d line idle st = carry_of _ seen _ (line_left d line) (st.stands (first_seat 0))

pub idle_settled : (seen : Seen) (d : Desk) (line : Line) (text : List ℕ) (told told' : Option (List ℕ)) → IsIdle d line → SettledLine seen d (tagged_task line text) told told'
idle_settled seen d line text told told' idle =
    subst (λ (order : Order). IfSome (order_left order) (λ left. Settled seen (seen_by (desk_after d (tagged_task line text)) 0) told told')) (sym idle.order) tt

pub idle_broken : (d : Desk) (line : Line) (body : List ℕ) (e : Halt) (text : List ℕ) (told told' : Option (List ℕ)) → IsOutput e → BrokenLine d (tagged_task line body) e text told told'
idle_broken d line body e text told told' output = broken_by_output (seen_by d 0) (order_work all_slots (effective d.clients line.client line.order) body) e output text told told'

-- Its text was written, or a front part of it.
pub idle_serves : {A : Type 0} (r : Result A Halt) (held : DeskHolding) (seen : Seen) (d : Desk) (line : Line) (body text : List ℕ) (told told' : Option (List ℕ)) → IsIdle d line → DeskStands held seen d → text ≡ desk_text d (tagged_task line body)
    → OnOk r (told' ≡ adds told text) → Halted [] text told told' → IfErr r IsOutput → Serves doings (DeskStands held seen) BrokenLine d (tagged_task line body) told told' r
idle_serves (Ok x) held seen d line body text told told' idle st is written halted output = record {
  stands = subst (λ (y : Desk). DeskStands held seen y) (sym (idle.done (task line.order body))) st;
  written = written ∙ ap (adds told) is;
}
idle_serves (Err e) held seen d line body text told told' idle st is written halted output = record {
  wrote = subst (λ (l : List ℕ). Halted [] l told told') is halted;
  broken = idle_broken d line body e (desk_text d (tagged_task line body)) told told' output;
}

pub none_text : (d : Desk) (line : Line) (body : List ℕ) → line.client ≡ None → unless_nothing (codes "no client") line.order ≡ desk_text d (tagged_task line body)
none_text d line body none = sym (ap (λ (o : Option ℕ). desk_text d (record { client = o; task = task line.order body })) none)

pub late_text : (d : Desk) (line : Line) (client : ℕ) (body : List ℕ) → line.client ≡ Some client → has_ended d.clients client ≡ true
    → lines_to d.clients client (unless_nothing (codes "client ended") line.order) ≡ desk_text d (tagged_task line body)
late_text d line client body some ended = sym (ap (λ (o : Option ℕ). desk_text d (record { client = o; task = task line.order body })) some ∙ rw ended refl)

-- ---- a line of a client who has not ended

pub record Speaks (d : Desk) (line : Line) (client : ℕ) : Type 0 where
  pub says : line.client ≡ Some client
  pub speaks : has_ended d.clients client ≡ false

speaks_done : (d : Desk) (line : Line) (client : ℕ) (t : Task) → Speaks d line client → desk_done d line.client t ≡ desk_by d client t
speaks_done d line client t says = ap (λ (o : Option ℕ). desk_done d o t) says.says ∙ rw says.speaks refl

speaks_order : (d : Desk) (line : Line) (client : ℕ) → Speaks d line client → effective d.clients line.client line.order ≡ line.order
speaks_order d line client says = ap (λ (o : Option ℕ). effective d.clients o line.order) says.says ∙ rw says.speaks refl

his_order : (d : Desk) (line : Line) (client : ℕ) → Speaks d line client → effective d.clients (Some client) line.order ≡ line.order
his_order d line client says = rw says.speaks refl

speaks_text : (d : Desk) (line : Line) (client : ℕ) (body : List ℕ) → Speaks d line client
    → lines_to d.clients client ((own_tasks d client).text (seen_by d client) (task line.order body)) ≡ desk_text d (tagged_task line body)
speaks_text d line client body says = sym (ap (λ (o : Option ℕ). desk_text d (record { client = o; task = task line.order body })) says.says ∙ rw says.speaks refl)

broken_work : (s s' : State) (work work' : Work) (e : Halt) (text : List ℕ) (told told' : Option (List ℕ)) → work.files ≡ work'.files → work.body ≡ work'.body → work.early ≡ work'.early → Broken s work e text told told'
    → Broken s' work' e text told told'
broken_work s s' work work' (halt.Device stop.Read) text told told' files body early broken = rw (sym body) broken
broken_work s s' work work' (halt.Device stop.Files) text told told' files body early broken =
    (rw (sym files) broken.0, subst (λ (b : Bool). Unfinished b text told told') early broken.1)
broken_work s s' work work' (halt.Device stop.Write) text told told' files body early broken = broken
broken_work s s' work work' (halt.Device stop.Memory) text told told' files body early broken = broken
broken_work s s' work work' (halt.Changed game kept found) text told told' files body early broken = broken

pub speaks_broken : (d : Desk) (line : Line) (client : ℕ) (body : List ℕ) (w : Window) (e : Halt) (text : List ℕ) (told told' : Option (List ℕ)) → Speaks d line client → BrokenTask w (seen_by d client) (task line.order body) e text told told'
    → BrokenLine d (tagged_task line body) e text told told'
speaks_broken d line client body w e text told told' says broken =
    subst (λ (order : Order). Broken (seen_by d 0) (order_work all_slots order body) e text told told') (sym (speaks_order d line client says))
    (broken_work (seen_by d client) (seen_by d 0) (order_work w line.order body) (order_work all_slots line.order body) e text told told' (any_files w line.order body) (any_body w line.order body) (any_early w line.order body) broken)

pub speaks_serves : {A : Type 0} (r : Result A Halt) (held : DeskHolding) (seen : Seen) (d : Desk) (line : Line) (client : ℕ) (body : List ℕ) (told told' : Option (List ℕ)) → Speaks d line client → OnOk r (DeskStands held seen (desk_by d client (task line.order body)))
    → OnOk r (told' ≡ adds told (lines_to d.clients client ((own_tasks d client).text (seen_by d client) (task line.order body))))
    → Halted [] (lines_to d.clients client ((own_tasks d client).text (seen_by d client) (task line.order body))) told told' → IfErr r (λ e. BrokenTask (window_of d.clients client) (seen_by d client) (task line.order body) e (lines_to d.clients client ((own_tasks d client).text (seen_by d client) (task line.order body))) told told')
    → Serves doings (DeskStands held seen) BrokenLine d (tagged_task line body) told told' r
speaks_serves (Ok x) held seen d line client body told told' says st written halted broken = record {
  stands = subst (λ (y : Desk). DeskStands held seen y) (sym (speaks_done d line client (task line.order body) says)) st;
  written = written ∙ ap (adds told) (speaks_text d line client body says);
}
speaks_serves (Err e) held seen d line client body told told' says st written halted broken = record {
  wrote = subst (λ (l : List ℕ). Halted [] l told told') (speaks_text d line client body says) halted;
  broken = speaks_broken d line client body (window_of d.clients client) e (desk_text d (tagged_task line body)) told told' says
      (subst (λ (l : List ℕ). BrokenTask (window_of d.clients client) (seen_by d client) (task line.order body) e l told told') (speaks_text d line client body says) broken);
}

pub speaks_carries : (seen : Seen) (d : Desk) (line : Line) (client : ℕ) → Speaks d line client → StillCarry seen (seen_by d client) (order_left line.order) → StillCarry seen (seen_by d 0) (line_left d line)
speaks_carries seen d line client says carries = subst (λ (order : Order). StillCarry seen (seen_by d 0) (order_left order)) (sym (speaks_order d line client says)) carries

pub speaks_settled : (seen : Seen) (d : Desk) (line : Line) (client : ℕ) (body : List ℕ) (told told' : Option (List ℕ)) → Speaks d line client → SettledTask seen (window_of d.clients client) (seen_by d client) (task line.order body) told told'
    → SettledLine seen d (tagged_task line body) told told'
speaks_settled seen d line client body told told' says is =
    subst (λ (order : Order). IfSome (order_left order) (λ left. Settled seen (seen_by (desk_after d (tagged_task line body)) 0) told told')) (sym (speaks_order d line client says))
    (subst (λ (x : Desk). IfSome (order_left line.order) (λ left. Settled seen (seen_by (record x { clients = heard d.clients (said line.client line.order) }) 0) told told')) (sym (speaks_done d line client (task line.order body) says)) is)

pub speaks_asks : (d : Desk) (line : Line) (client asked asked' : ℕ) → Speaks d line client → asked' ≤ asked + order_price (seen_by d client) line.order → asked' ≤ asked + line_price d line
speaks_asks d line client asked asked' says less =
    subst (λ (n : ℕ). asked' ≤ asked + n) (price_is line.client says.says) less
  where
    price_is : (o : Option ℕ) → o ≡ Some client → order_price (seen_by d client) line.order ≡ line_price d (record { client = o; order = line.order })
    price_is o is =
        sym (ap (λ (x : Option ℕ). line_price d (record { client = x; order = line.order })) is ∙ ap (λ (order : Order). order_price (seen_by d client) order) (his_order d line client says))

speaks_watches : (d : Desk) (line : Line) (client i : ℕ) → Speaks d line client → line_watches d line i ≡ watches (window_of d.clients client) line.order i
speaks_watches d line client i says =
    ap (λ (x : Option ℕ). line_watches d (record { client = x; order = line.order }) i) says.says
    ∙ ap (λ (order : Order). watches (window_of d.clients client) order i) (his_order d line client says)

pub speaks_left : {B : Type 0} (d : Desk) (line : Line) (client : ℕ) (before after : List (Option B)) → Speaks d line client
    → AreLeft (λ i. is_shown (slot_at d.slots i) || watches (window_of d.clients client) line.order i) before after → AreLeft (line_touches d line) before after
speaks_left d line client before after says left i none = left i (ap (λ (b : Bool). is_shown (slot_at d.slots i) || b) (sym (speaks_watches d line client i says)) ∙ none)

pub speaks_shown : {B : Type 0} (rows : B → List Row) (told : B → Told) (d : Desk) (line : Line) (client : ℕ) (body : List ℕ) (before after : List (Option B)) → Speaks d line client → AllRight rows (desk_by d client (task line.order body)) after
    → AreToldAtMost told (most_told_by d client (task line.order body)) before after → LineShown rows told d (tagged_task line body) before after
speaks_shown rows told d line client body before after says right counted = record {
  right = subst (λ (x : Desk). AllRight rows (record x { clients = heard d.clients (said line.client line.order) }) after) (sym (speaks_done d line client (task line.order body) says)) right;
  counted = λ i. subst (λ (most : ℕ). IsToldAtMost told most (in_slot before i) (in_slot after i)) (most_is i) (counted i);
}
  where
    most_is : (i : ℕ) → most_told_by d client (task line.order body) i ≡ line_told d (tagged_task line body) i
    most_is i =
        ap (λ (b : Bool). cond b (1 + length (slot_hits (seen_by done o) (slot_at done.slots i))) (changes_of (seen_by d o) (seen_by done o) (slot_at d.slots i))) (sym (speaks_watches d line client i says))
        ∙ ap (λ (x : Desk). cond (line_watches d line i) (1 + length (slot_hits (seen_by x o) (slot_at x.slots i))) (changes_of (seen_by d o) (seen_by x o) (slot_at d.slots i))) (sym (speaks_done d line client (task line.order body) says))
      where
        o : ℕ
        o = owner d.clients.tagged i

        done : Desk
        done = desk_by d client (task line.order body)

-- ---- the clients hear it

hears : (d : Desk) (client : Option ℕ) (t : Task) → (desk_done d client t).clients ≡ d.clients
hears d None t = refl
hears d (Some client) t = by-test (has_ended d.clients client)
  where
    by-test : (b : Bool) → (cond b d (desk_by d client t)).clients ≡ d.clients
    by-test true = refl
    by-test false = refl

pub heard_stands : (held : DeskHolding) (seen : Seen) (d : Desk) (line : Line) (body : List ℕ) (clients : Clients) → DeskStands held seen (desk_done d line.client (task line.order body)) → clients ≡ heard held.clients line
    → DeskStands (record held { clients = clients }) seen (desk_after d (tagged_task line body))
heard_stands held seen d line body clients st is = record {
  seats = st.seats;
  clients = is ∙ ap (λ (c : Clients). heard c line) (st.clients ∙ hears d line.client (task line.order body));
  stands = st.stands;
}

pub heard_serves : (held held' : DeskHolding) (seen : Seen) (d : Desk) (line : Line) (body : List ℕ) (told told' : Option (List ℕ)) → Done (DeskStands held seen) (doings.after d (tagged_task line body)) (doings.text d (tagged_task line body)) told told'
    → held'.holding ≡ held.holding → held'.seats ≡ held.seats → held'.clients ≡ heard held.clients line → Done (DeskStands held' seen) (desk_after d (tagged_task line body)) (desk_text d (tagged_task line body)) told told'
heard_serves held held' seen d line body told told' did holding seats clients = record {
  stands = subst (λ (h : DeskHolding). DeskStands h seen (desk_after d (tagged_task line body))) same (heard_stands held seen d line body held'.clients did.stands clients);
  written = did.written;
}
  where
    same : record held { clients = held'.clients } ≡ held'
    same = ap₂ (λ h s. record { holding = h; seats = s; clients = held'.clients }) (sym holding) (sym seats)

-- ---- devices

-- A text alone was written.
pub causes_alone : {A : Type 0} (r : Result A Halt) (f b m n : ℕ) → Causes WhyHalt r (counts 0 0 m) (counts 0 0 n) → IfErr r IsOutput → Causes WhyHalt r (counts f b m) (counts f b n)
causes_alone (Ok x) f b m n causes output = record { none_fell = record { files = omega arith; input = omega arith; output = causes.none_fell.output }; why = tt }
causes_alone (Err (halt.Device stop.Write)) f b m n causes output = record { none_fell = record { files = omega arith; input = omega arith; output = causes.none_fell.output }; why = causes.why }
causes_alone (Err (halt.Device stop.Memory)) f b m n causes output = record { none_fell = record { files = omega arith; input = omega arith; output = causes.none_fell.output }; why = tt }
causes_alone (Err (halt.Device stop.Read)) f b m n causes output = absurd output
causes_alone (Err (halt.Device stop.Files)) f b m n causes output = absurd output
causes_alone (Err (halt.Changed game kept found)) f b m n causes output = absurd output

pub speaks_of : (d : Desk) (line : Line) (client : ℕ) → line.client ≡ Some client → has_ended d.clients client ≡ false → Speaks d line client
speaks_of d line client says speaks = record { says = says; speaks = speaks }

pub both_shown : {A E B : Type 0} (r : Result A E) (rows : B → List Row) (told : B → Told) (d : Desk) (line : Line) (client : ℕ) (body : List ℕ) (before after : List (Option B)) → Speaks d line client → OnOk r (AllRight rows (desk_by d client (task line.order body)) after)
    → OnOk r (AreToldAtMost told (most_told_by d client (task line.order body)) before after) → OnOk r (LineShown rows told d (tagged_task line body) before after)
both_shown (Ok x) rows told d line client body before after says right counted = speaks_shown rows told d line client body before after says right counted
both_shown (Err e) rows told d line client body before after says right counted = tt

-- ---- who has ended

ended_set : (ended : List Bool) (x client : ℕ) → unwrap_or (slice_get (slice_set ended x true) client) true ≡ false → unwrap_or (slice_get ended client) true ≡ false
ended_set [] x client is = is
ended_set (e ∷ ended) zero zero is = absurd cc
ended_set (e ∷ ended) zero (suc client) is = is
ended_set (e ∷ ended) (suc x) zero is = is
ended_set (e ∷ ended) (suc x) (suc client) is = ended_set ended x client is

ended_with : (ended : List Bool) (leaves : Option ℕ) (client : ℕ) → unwrap_or (slice_get (unwrap_or (option_map (λ (x : ℕ). slice_set ended x true) leaves) ended) client) true ≡ false → unwrap_or (slice_get ended client) true ≡ false
ended_with ended None client is = is
ended_with ended (Some x) client is = ended_set ended x client is

-- Who has not ended behind a line had not ended before it.
pub still_ended : (clients : Clients) (line : Line) (client : ℕ) → has_ended (heard clients line) client ≡ false → has_ended clients client ≡ false
unfolding ended_by
still_ended clients line client is = ended_with clients.ended (leaver line) client is
