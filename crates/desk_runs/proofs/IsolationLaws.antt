-- Two desks at which one client can see no difference.
use Rattle.std.proofs.Common.{◌≡◌, ℕ, zero, suc, ◌+◌, ◌==◌, nat_le, nat_lt, Bool, true, false, cond, List, [], ◌∷◌, Option, Some, None, Ok, Err, codes, unwrap_or, option_map, map, slice_get, refl, sym, ap, subst, ◌∙◌, arith, inl}
use Rattle.std.proofs.lemmas.Bool.{eqb-true, eqb-false, leb-true, ltb-true}
use Rattle.base_core.specs.Base.{Base}
use Rattle.filter_seat.specs.Seats.{Seat, first_seat}
use Rattle.script_lines.proofs.ClientLaws.{none_ends}
use Rattle.script_lines.specs.Clients.{Clients, Tagged, has_ended, heard, is_quit, said as said_by}
use Rattle.script_lines.specs.declared.line.Line.{Line}
use Rattle.script_text.specs.Tasks.{Order, Task, task}
use Rattle.script_text.specs.declared.command.Command.TheVariants.{Nothing, Find, SearchPosition, SearchMaterial, SearchHeader, Reset, Clear, Negate, Restrict, Keep, Take, And, Or, Drop, Hits, List as Listing, Show, Export, Import, Replace, Eco, Tag, Delete, Undelete, Mark, Tree, Watch, View, Unwatch, Cross, Twins, Index, Save, Info, Demo, Quit, Compact}
use Rattle.shell_commands.specs.Tasks.{task_work, tasks}
use Rattle.shell_state.specs.State.{Shared, State}
use Rattle.command_runs.specs.Tagged.{tagged}
use Rattle.view_commands.specs.Views.{all_slots, is_own}
use Rattle.view_commands.specs.declared.window.Window.{Window}
use Rattle.desk_commands.proofs.BringLaws.{none_brought}
use Rattle.desk_commands.proofs.SharedLaws.{Own, private-keeps, same-shared, state_of}
use Rattle.desk_commands.specs.Desk.{Desk, brought, desk_after, desk_by, desk_done, desk_said, desk_text, each_seat, own_tasks, seen_by, unless_nothing, window_of}
use Rattle.desk_commands.specs.Doing.{client_tag}
use Rattle.desk_commands.specs.Kinds.{is_private, order_kind}
use Rattle.desk_commands.specs.declared.kinds.Kind.{Kind}
use Rattle.desk_commands.specs.declared.kinds.Kind.TheVariants.{Private}
use Rattle.desk_runs.specs.Isolation.{Said, desk_run, is_by, said_to, without_private}
use Rattle.desk_runs.proofs.SlotLaws.{OwnAlone, SameOwn, both-given, own-alone}

-- ---- seats

got-map : {A B : Type 0} (f : A → B) (xs : List A) (i : ℕ) → slice_get (map f xs) i ≡ option_map f (slice_get xs i)
got-map f [] zero = refl
got-map f [] (suc i) = refl
got-map f (x ∷ xs) zero = refl
got-map f (x ∷ xs) (suc i) = got-map f xs i

own-seat : (c : ℕ) (own : Seat) (bring : Seat → Seat) (seats : List Seat) → slice_get (each_seat c own bring seats) c ≡ option_map (λ seat. own) (slice_get seats c)
own-seat zero own bring [] = refl
own-seat (suc c) own bring [] = refl
own-seat zero own bring (seat ∷ seats) = refl
own-seat (suc c) own bring (seat ∷ seats) = own-seat c own bring seats

other-seat : (c by : ℕ) (own : Seat) (bring : Seat → Seat) (seats : List Seat) → (by ≡ c → ⊥)
    → slice_get (each_seat by own bring seats) c ≡ option_map bring (slice_get seats c)
other-seat zero by own bring [] differ = refl
other-seat (suc c) by own bring [] differ = refl
other-seat zero zero own bring (seat ∷ seats) differ = absurd (differ refl)
other-seat zero (suc by) own bring (seat ∷ seats) differ = refl
other-seat (suc c) zero own bring (seat ∷ seats) differ = got-map bring seats c
other-seat (suc c) (suc by) own bring (seat ∷ seats) differ = other-seat c by own bring seats (λ e. differ (ap (λ (n : ℕ). suc n) e))

-- ---- windows

-- The two slots of a client of four.
abbrev two_of : ℕ → Window
two_of c = record { first = c + c; count = 2 }

window-if : (c : ℕ) (four : Bool) → four ≡ true → cond four (two_of c) all_slots ≡ two_of c
window-if c true e = refl
window-if c false e = absurd cc

window-two : (c : ℕ) (d : Desk) → d.clients.tagged ≡ true → window_of d.clients c ≡ two_of c
window-two c d four = window-if c d.clients.tagged four

apart-if : (c by i : ℕ) (own : Bool) → (by ≡ c → ⊥) → is_own (two_of c) i ≡ true → is_own (two_of by) i ≡ own → own ≡ false
apart-if c by i false differ his e = refl
apart-if c by i true differ his e =
    let (from, to) = both-given (nat_le (c + c) i) (nat_lt i (c + c + 2)) his in
    let (start, end) = both-given (nat_le (by + by) i) (nat_lt i (by + by + 2)) e in
    absurd (differ (omega (arith, leb-true (c + c) i from, ltb-true i (c + c + 2) to, leb-true (by + by) i start, ltb-true i (by + by + 2) end)))

-- A slot of one of four is none of another one's.
apart : (c by i : ℕ) → (by ≡ c → ⊥) → is_own (two_of c) i ≡ true → is_own (two_of by) i ≡ false
apart c by i differ his = apart-if c by i (is_own (two_of by) i) differ his refl

-- ---- two desks

-- The same is shared, and the same clients may speak; one of the four has the same seat, and slots that show the same.
record Alike (c : ℕ) (d e : Desk) : Type 0 where
  shared : d.shared ≡ e.shared
  seat : slice_get d.seats c ≡ slice_get e.seats c
  slots : (i : ℕ) → is_own (two_of c) i ≡ true → slice_get d.slots i ≡ slice_get e.slots i
  clients : d.clients ≡ e.clients
  tagged : d.clients.tagged ≡ true

abbrev own_of : Desk → ℕ → Own
own_of d c = record { seat = (seen_by d c).seat; slots = d.slots }

alike-cond : (c : ℕ) (b late : Bool) (d e d1 e1 : Desk) → b ≡ late → Alike c d e → Alike c d1 e1 → Alike c (cond b d d1) (cond late e e1)
alike-cond c true late d e d1 e1 same ended not_ended = subst (λ (x : Bool). Alike c d (cond x e e1)) same ended
alike-cond c false late d e d1 e1 same ended not_ended = subst (λ (x : Bool). Alike c d1 (cond x e e1)) same not_ended

same-ended : (c by : ℕ) (d e : Desk) → Alike c d e → has_ended d.clients by ≡ has_ended e.clients by
same-ended c by d e alike = ap (λ (clients : Clients). has_ended clients by) alike.clients

-- All hear a line.
alike-heard : (c : ℕ) (line : Line) (d e d1 e1 : Desk) → Alike c d e → Alike c d1 e1
    → Alike c (record d1 { clients = heard d.clients line }) (record e1 { clients = heard e.clients line })
alike-heard c line d e d1 e1 alike done = record {
  shared = done.shared;
  seat = done.seat;
  slots = done.slots;
  clients = ap (λ (clients : Clients). heard clients line) alike.clients;
  tagged = alike.tagged;
}

-- ---- the client's own line

-- At a desk of four his tasks are those of his two slots.
his-alone : (c : ℕ) (d : Desk) (task : Task) → d.clients.tagged ≡ true → OwnAlone (two_of c) (task_work (window_of d.clients c) task)
his-alone c d task four = subst (λ (w : Window). OwnAlone (two_of c) (task_work w task)) (sym (window-two c d four)) (own-alone (two_of c) task.order task.body)

same-seen : (c : ℕ) (d e : Desk) → Alike c d e → SameOwn (two_of c) (seen_by d c) (seen_by e c)
same-seen c d e alike = record { shared = alike.shared; seat = ap (λ (o : Option Seat). unwrap_or o (first_seat 0)) alike.seat; slots = alike.slots }

-- What he makes of what he sees.
abbrev made_by : Desk → ℕ → Task → State
made_by d c task = (own_tasks d c).after (seen_by d c) task

same-made : (c : ℕ) (task : Task) (d e : Desk) → Alike c d e → SameOwn (two_of c) (made_by d c task) (made_by e c task)
same-made c task d e alike =
    subst (λ (clients : Clients). SameOwn (two_of c) (made_by d c task) ((tasks (window_of clients c)).after (seen_by e c) task)) alike.clients
    ((his-alone c d task alike.tagged).after (seen_by d c) (seen_by e c) (same-seen c d e alike))

alike-own : (c : ℕ) (task : Task) (d e : Desk) → Alike c d e → Alike c (desk_by d c task) (desk_by e c task)
alike-own c task d e alike = record {
  shared = same.shared;
  seat =
      own-seat c (made_by d c task).seat (bring d) d.seats ∙ ap (λ (own : Seat). option_map (λ seat. own) (slice_get d.seats c)) same.seat
      ∙ ap (λ (o : Option Seat). option_map (λ seat. (made_by e c task).seat) o) alike.seat ∙ sym (own-seat c (made_by e c task).seat (bring e) e.seats);
  slots = same.slots;
  clients = alike.clients;
  tagged = alike.tagged;
}
  where
    same : SameOwn (two_of c) (made_by d c task) (made_by e c task)
    same = same-made c task d e alike

    bring : Desk → Seat → Seat
    bring x = brought task.order x.shared.base (made_by x c task).shared.base

alike-done : (c : ℕ) (task : Task) (d e : Desk) → Alike c d e → Alike c (desk_done d (Some c) task) (desk_done e (Some c) task)
alike-done c task d e alike =
    alike-cond c (has_ended d.clients c) (has_ended e.clients c) d e (desk_by d c task) (desk_by e c task) (same-ended c c d e alike) alike (alike-own c task d e alike)

same-said : (c : ℕ) (task : Task) (d e : Desk) → Alike c d e → desk_said d c task ≡ desk_said e c task
same-said c task d e alike =
    ap (λ (text : List ℕ). cond (has_ended d.clients c) (unless_nothing (codes "client ended") task.order) text)
    ((his-alone c d task alike.tagged).text (seen_by d c) (seen_by e c) (same-seen c d e alike))
    ∙ ap
    (λ (clients : Clients). cond (has_ended clients c) (unless_nothing (codes "client ended") task.order) ((tasks (window_of clients c)).text (seen_by e c) task)) alike.clients

same-text : (c : ℕ) (task : Task) (d e : Desk) → Alike c d e
    → desk_text d (record { client = Some c; task = task }) ≡ desk_text e (record { client = Some c; task = task })
same-text c task d e alike =
    ap (λ (text : List ℕ). cond d.clients.tagged (tagged (client_tag c) text) text) (same-said c task d e alike)
    ∙ ap (λ (clients : Clients). cond clients.tagged (tagged (client_tag c) (desk_said e c task)) (desk_said e c task)) alike.clients

-- ---- a line of another client, or of none

-- His slots stay where another one speaks.
slots-stay : (c by i : ℕ) (task : Task) (d : Desk) → (by ≡ c → ⊥) → d.clients.tagged ≡ true → is_own (two_of c) i ≡ true
    → slice_get (made_by d by task).slots i ≡ slice_get d.slots i
slots-stay c by i task d differ four own = (his-alone by d task four).others (seen_by d by) i (apart c by i differ own)

alike-other : (c by : ℕ) (task : Task) (d e : Desk) → (by ≡ c → ⊥) → Alike c d e → Alike c (desk_by d by task) (desk_by e by task)
alike-other c by task d e differ alike = record {
  shared = shared;
  seat = seats;
  slots = λ i own. slots-stay c by i task d differ alike.tagged own ∙ alike.slots i own ∙ sym (slots-stay c by i task e differ four own);
  clients = alike.clients;
  tagged = alike.tagged;
}
  where
    four : e.clients.tagged ≡ true
    four = ap (λ (clients : Clients). clients.tagged) (sym alike.clients) ∙ alike.tagged

    shared : (made_by d by task).shared ≡ (made_by e by task).shared
    shared =
        same-shared (window_of d.clients by) task.order task.body d.shared (own_of d by) (own_of e by)
        ∙ ap (λ (h : Shared). ((tasks (window_of d.clients by)).after (state_of h (own_of e by)) task).shared) alike.shared
        ∙ ap (λ (clients : Clients). ((tasks (window_of clients by)).after (seen_by e by) task).shared) alike.clients

    bring : Desk → Seat → Seat
    bring x = brought task.order x.shared.base (made_by x by task).shared.base

    seats : slice_get (each_seat by (made_by d by task).seat (bring d) d.seats) c ≡ slice_get (each_seat by (made_by e by task).seat (bring e) e.seats) c
    seats =
        other-seat c by (made_by d by task).seat (bring d) d.seats differ
        ∙ ap (λ (h : Shared). option_map (brought task.order h.base (made_by d by task).shared.base) (slice_get d.seats c)) alike.shared
        ∙ ap (λ (h : Shared). option_map (brought task.order e.shared.base h.base) (slice_get d.seats c)) shared
        ∙ ap (λ (o : Option Seat). option_map (bring e) o) alike.seat
        ∙ sym (other-seat c by (made_by e by task).seat (bring e) e.seats differ)

alike-said : (c by : ℕ) (task : Task) (d e : Desk) → (by ≡ c → ⊥) → Alike c d e → Alike c (desk_done d (Some by) task) (desk_done e (Some by) task)
alike-said c by task d e differ alike =
    alike-cond c (has_ended d.clients by) (has_ended e.clients by) d e (desk_by d by task) (desk_by e by task) (same-ended c by d e alike) alike
    (alike-other c by task d e differ alike)

-- A private line of another client.
private-is : (kind : Kind) → is_private kind ≡ true → kind ≡ Private
private-is Private e = refl
private-is _ e = absurd cc

brings-nothing : (order : Order) (before after : Base) (o : Option Seat) → is_private (order_kind order) ≡ true → option_map (brought order before after) o ≡ o
brings-nothing order before after None e = refl
brings-nothing order before after (Some seat) e = ap (λ (x : Seat). Some x) (none_brought order before after seat (inl (private-is (order_kind order) e)))

alike-private : (c by : ℕ) (task : Task) (d e : Desk) → (by ≡ c → ⊥) → is_private (order_kind task.order) ≡ true → Alike c d e → Alike c (desk_by d by task) e
alike-private c by task d e differ is alike = record {
  shared = private-keeps (window_of d.clients by) task.order task.body d.shared (own_of d by) is ∙ alike.shared;
  seat =
      other-seat c by (made_by d by task).seat (brought task.order d.shared.base (made_by d by task).shared.base) d.seats differ
      ∙ brings-nothing task.order d.shared.base (made_by d by task).shared.base (slice_get d.seats c) is ∙ alike.seat;
  slots = λ i own. slots-stay c by i task d differ alike.tagged own ∙ alike.slots i own;
  clients = alike.clients;
  tagged = alike.tagged;
}

alike-left : (c : ℕ) (b : Bool) (d d1 e : Desk) → Alike c d e → Alike c d1 e → Alike c (cond b d d1) e
alike-left c true d d1 e ended not_ended = ended
alike-left c false d d1 e ended not_ended = not_ended

-- Nobody ends with a private line.
never-quits : (order : Order) → is_private (order_kind order) ≡ true → is_quit order ≡ false
never-quits (Err fault) is = refl
never-quits (Ok Nothing) is = refl
never-quits (Ok (Find board side)) is = refl
never-quits (Ok (SearchPosition op query)) is = refl
never-quits (Ok (SearchMaterial op query)) is = refl
never-quits (Ok (SearchHeader op query)) is = refl
never-quits (Ok Reset) is = refl
never-quits (Ok Clear) is = refl
never-quits (Ok Negate) is = refl
never-quits (Ok (Restrict first last)) is = refl
never-quits (Ok (Keep name)) is = refl
never-quits (Ok (Take name)) is = refl
never-quits (Ok (And name)) is = refl
never-quits (Ok (Or name)) is = refl
never-quits (Ok (Drop name)) is = refl
never-quits (Ok Hits) is = refl
never-quits (Ok Listing) is = refl
never-quits (Ok (Show game)) is = refl
never-quits (Ok Export) is = refl
never-quits (Ok (Import word)) is = refl
never-quits (Ok (Replace game word)) is = refl
never-quits (Ok (Eco word)) is = refl
never-quits (Ok (Tag game edit)) is = refl
never-quits (Ok (Delete game)) is = refl
never-quits (Ok (Undelete game)) is = refl
never-quits (Ok (Mark game bit on)) is = refl
never-quits (Ok (Tree board side)) is = refl
never-quits (Ok (Watch slot board side)) is = refl
never-quits (Ok (View slot)) is = refl
never-quits (Ok (Unwatch slot)) is = refl
never-quits (Ok (Cross event)) is = refl
never-quits (Ok (Twins depth)) is = refl
never-quits (Ok (Index depth)) is = refl
never-quits (Ok Save) is = refl
never-quits (Ok Info) is = refl
never-quits (Ok (Demo seed games)) is = refl
never-quits (Ok Quit) is = absurd cc
never-quits (Ok Compact) is = refl

private-heard : (c : ℕ) (client : Option ℕ) (order : Order) (d d1 e : Desk) → is_private (order_kind order) ≡ true → Alike c d e → Alike c d1 e
    → Alike c (record d1 { clients = heard d.clients (said_by client order) }) e
private-heard c client order d d1 e is alike done = record {
  shared = done.shared;
  seat = done.seat;
  slots = done.slots;
  clients = none_ends d.clients (said_by client order) (never-quits order is) ∙ alike.clients;
  tagged = alike.tagged;
}

-- ---- runs

abbrev SameTo : ℕ → List Tagged → Desk → Desk → Type 0
SameTo c list d e = said_to c (desk_run d list) ≡ said_to c (desk_run e (without_private c list))

-- The lines behind say the same wherever the client sees no difference.
abbrev SameBehind : ℕ → List Tagged → Type 0
SameBehind c list = (d e : Desk) → Alike c d e → SameTo c list d e

own-said : (c : ℕ) (t : Tagged) (list : List Tagged) (d : Desk) → is_by c t.client ≡ true
    → said_to c (desk_run d (t ∷ list)) ≡ record { client = t.client; text = desk_text d t } ∷ said_to c (desk_run (desk_after d t) list)
own-said c t list d e = rw e refl

other-said : (c : ℕ) (t : Tagged) (list : List Tagged) (d : Desk) → is_by c t.client ≡ false → said_to c (desk_run d (t ∷ list)) ≡ said_to c (desk_run (desk_after d t) list)
other-said c t list d e = rw e refl

own-stays : (c : ℕ) (t : Tagged) (list : List Tagged) → is_by c t.client ≡ true → without_private c (t ∷ list) ≡ t ∷ without_private c list
own-stays c t list e = rw e refl

other-stays : (c : ℕ) (t : Tagged) (list : List Tagged) → is_by c t.client ≡ false → is_private (order_kind t.task.order) ≡ false
    → without_private c (t ∷ list) ≡ t ∷ without_private c list
other-stays c t list e p = rw e (rw p refl)

private-goes : (c : ℕ) (t : Tagged) (list : List Tagged) → is_by c t.client ≡ false → is_private (order_kind t.task.order) ≡ true
    → without_private c (t ∷ list) ≡ without_private c list
private-goes c t list e p = rw e (rw p refl)

-- The client's own line.
own-step : (t : Tagged) (list : List Tagged) (c : ℕ) (d e : Desk) → SameBehind c list → is_by c t.client ≡ true → desk_text d t ≡ desk_text e t
    → Alike c (desk_after d t) (desk_after e t) → SameTo c (t ∷ list) d e
own-step t list c d e rest own text alike =
    own-said c t list d own
    ∙ ap (λ (text : List ℕ). record { client = t.client; text = text } ∷ said_to c (desk_run (desk_after d t) list)) text
    ∙ ap (λ (texts : List Said). record { client = t.client; text = desk_text e t } ∷ texts) (rest (desk_after d t) (desk_after e t) alike)
    ∙ sym (own-said c t (without_private c list) e own) ∙ ap (λ (l : List Tagged). said_to c (desk_run e l)) (sym (own-stays c t list own))

-- Another one, public or private.
other-step : (t : Tagged) (list : List Tagged) (c : ℕ) (d e : Desk) → SameBehind c list → is_by c t.client ≡ false → (p : Bool)
    → is_private (order_kind t.task.order) ≡ p → (p ≡ true → Alike c (desk_after d t) e) → Alike c (desk_after d t) (desk_after e t) → SameTo c (t ∷ list) d e
other-step t list c d e rest other false kind kept alike =
    other-said c t list d other ∙ rest (desk_after d t) (desk_after e t) alike ∙ sym (other-said c t (without_private c list) e other)
    ∙ ap (λ (l : List Tagged). said_to c (desk_run e l)) (sym (other-stays c t list other kind))
other-step t list c d e rest other true kind kept alike =
    other-said c t list d other ∙ rest (desk_after d t) e (kept refl) ∙ ap (λ (l : List Tagged). said_to c (desk_run e l)) (sym (private-goes c t list other kind))

abbrev by_client : Option ℕ → Task → Tagged
by_client client task = record { client = client; task = task }

none-step : (task : Task) (list : List Tagged) (c : ℕ) (d e : Desk) → SameBehind c list → Alike c d e → SameTo c (by_client None task ∷ list) d e
none-step task list c d e rest alike =
    other-step (by_client None task) list c d e rest refl (is_private (order_kind task.order)) refl
    (λ is. private-heard c None task.order d d e is alike alike) (alike-heard c (said_by None task.order) d e d e alike alike)

client-step : (task : Task) (list : List Tagged) (c by : ℕ) (d e : Desk) → SameBehind c list → Alike c d e → (own : Bool) → (by == c) ≡ own
    → SameTo c (by_client (Some by) task ∷ list) d e
client-step task list c by d e rest alike true own =
    subst (λ (n : ℕ). SameTo c (by_client (Some n) task ∷ list) d e) (sym (eqb-true by c own))
    (own-step (by_client (Some c) task) list c d e rest (subst (λ (n : ℕ). (n == c) ≡ true) (eqb-true by c own) own) (same-text c task d e alike)
    (alike-heard c (said_by (Some c) task.order) d e (desk_done d (Some c) task) (desk_done e (Some c) task) alike (alike-done c task d e alike)))
client-step task list c by d e rest alike false own =
    let differ : by ≡ c → ⊥ = eqb-false by c own in
    other-step (by_client (Some by) task) list c d e rest own (is_private (order_kind task.order)) refl
    (λ is.
    private-heard c (Some by) task.order d (desk_done d (Some by) task) e is alike
    (alike-left c (has_ended d.clients by) d (desk_by d by task) e alike (alike-private c by task d e differ is alike)))
    (alike-heard c (said_by (Some by) task.order) d e (desk_done d (Some by) task) (desk_done e (Some by) task) alike (alike-said c by task d e differ alike))

alike-step : (client : Option ℕ) (task : Task) (list : List Tagged) (c : ℕ) (d e : Desk) → SameBehind c list → Alike c d e
    → SameTo c (by_client client task ∷ list) d e
alike-step None task list c d e rest alike = none-step task list c d e rest alike
alike-step (Some by) task list c d e rest alike = client-step task list c by d e rest alike (by == c) refl

alike-run : (list : List Tagged) (c : ℕ) (d e : Desk) → Alike c d e → SameTo c list d e
alike-run [] c d e alike = refl
alike-run (t ∷ list) c d e alike = alike-step t.client t.task list c d e (λ x y same. alike-run list c x y same) alike

pub isolation : (desk : Desk) (list : List Tagged) (client : ℕ) → desk.clients.tagged ≡ true
    → said_to client (desk_run desk list) ≡ said_to client (desk_run desk (without_private client list))
isolation desk list client four = alike-run list client desk desk (record { shared = refl; seat = refl; slots = λ i own. refl; clients = refl; tagged = four })
