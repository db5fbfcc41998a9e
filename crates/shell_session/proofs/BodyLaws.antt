-- Laws of a line with its body: what the script says behind the line, and what is known where the body cannot be read to its end.
use Rattle.std.proofs.Common.{Result, inl, inr, ◌≡◌, ◌≤◌, ◌<◌, ◌+◌, ◌-◌, ◌⊎◌, ℕ, Bool, true, false, not, is_some, option_map, leb, IfSome, List, [], ◌∷◌, ◌++◌, length, take, drop, Option, Some, None, Ok, Err, refl, sym, ap, ◌∙◌, subst, arith, append_assoc, append-nil}
use Rattle.std.proofs.Math.Seq.{take-add, take-append_seam}
use Rattle.std.proofs.lemmas.Bool.Decides.{leb_tells}
use Rattle.std.proofs.lemmas.List.{length-append, length-drop, length-take-le, take-append-drop, take_all}
use Rattle.base_files.specs.Counters.{LAST, Rose, raised}
use Rattle.base_files.specs.Feeds.{told_after}
use Rattle.base_files.specs.Seen.{Seen}
use Rattle.base_files.specs.Told.{adds, before}
use Rattle.base_files.specs.declared.faults.Stop.TheVariants as stop
use Rattle.base_files.proofs.Telling.{before-nil}
use Rattle.base_core.specs.Base.{Base}
use Rattle.command_runs.specs.Counts.{counts}
use Rattle.command_runs.specs.Endings.{Cut, Done, Halted}
use Rattle.command_runs.specs.Plain.{after_all, run}
use Rattle.command_runs.specs.Runs.{Stopped}
use Rattle.command_runs.proofs.Joining.{halted_all, halted_none, halted_within}
use Rattle.eco_class.specs.Reading.{table_of}
use Rattle.eco_class.specs.Table.{Opening}
use Rattle.eco_class.specs.declared.fault.EcoFault.{EcoFault}
use Rattle.game_tree.specs.Game.{GameTree}
use Rattle.game_tree.specs.declared.head.Head.{Head}
use Rattle.pgn_read.specs.declared.item.Item.{Item}
use Rattle.pgn_read.specs.declared.item.Item.TheVariants.{Good, Bad}
use Rattle.pgn_read.specs.Items.{items_of}
use Rattle.desk_commands.specs.Desk.{Desk, desks, seen_by, window_of}
use Rattle.desk_commands.specs.Standing.{BrokenLine, DeskHolding, SettledLine, line_left, line_price}
use Rattle.desk_commands.specs.Views.{line_told}
use Rattle.script_lines.specs.Bodies.{Body, body_of}
use Rattle.script_lines.specs.Bytewise.{script_from}
use Rattle.script_lines.specs.Clients.{Clients, Tagged, heard, is_end, is_quit, tagged_task}
use Rattle.script_lines.specs.Reading.{Reader, grown, led_on}
use Rattle.script_lines.specs.Script.{Script, at_end, led_by, longest_script, piece_len, script}
use Rattle.script_lines.specs.Standing.{IsBegun, NoEnd, Standing, is_open, left_of, rest_told, start_at}
use Rattle.script_lines.specs.declared.line.Line.{Line}
use Rattle.script_lines.specs.declared.place.At.{At}
use Rattle.script_lines.specs.declared.place.At.TheVariants.{Line as Fresh, Inside, Behind, End}
use Rattle.script_lines.specs.declared.place.Place.{Place}
use Rattle.script_lines.specs.declared.reader.ReadError.{ReadError}
use Rattle.script_lines.specs.declared.reader.ReadError.TheVariants as error
use Rattle.script_lines.proofs.BodyLaws.{body_none}
use Rattle.script_lines.proofs.StandingLaws.{standing_begun, told}
use Rattle.script_lines.proofs.TaskLaws.{on_body, on_end, on_line, on_open}
use Rattle.script_text.specs.Sound.{IsSoundLine}
use Rattle.script_text.specs.Tasks.{Order, body_word, task}
use Rattle.script_text.specs.declared.command.Command.TheVariants.{Import, Replace, Eco}
use Rattle.report_commands.specs.Classifying.{state_by}
use Rattle.shell_commands.proofs.SlotLaws.{task_stays}
use Rattle.shell_commands.specs.Tasks.{order_left, tasks}
use Rattle.intake_commands.specs.Importing.{Intake, intake, item_after, none_taken, state_with, the_new}
use Rattle.intake_commands.proofs.ByCase.{unless_not_added}
use Rattle.shell_state.specs.Carrying.{Settled}
use Rattle.shell_state.specs.Slots.{Slot, slot_at}
use Rattle.shell_state.specs.Stands.{WhyHalt}
use Rattle.shell_state.specs.Refusing.{not_added}
use Rattle.shell_state.specs.State.{Carried, State}
use Rattle.shell_state.specs.declared.refusing.Refusal.{Refusal}
use Rattle.shell_state.specs.declared.halt.Halt.{Halt}
use Rattle.shell_state.specs.declared.halt.Halt.TheVariants as halt
use Rattle.tree_live.specs.Slots.{in_slot}
use Rattle.view_commands.specs.declared.window.Window.{Window}
use Rattle.shell_session.specs.Running.{BehindDone, BodyDone, Finished, GoneOn, Halts, Interrupted, Interrupts, Kept, LastDid, LastDone, LastHalts, Stops, WentOn, WentOut, added, behind_at, last_tasks, said_on, whole_on}
use Rattle.shell_session.specs.Around.{Around, IsLeftIn, Lives, price_all, told_all, told_more}
use Rattle.shell_session.specs.Session.{Breaks, WhyStatus}
use Rattle.session_status.specs.Stops.{status_in_body, status_of_reading}
use Rattle.session_status.specs.declared.status.Status.{Status}
use Rattle.session_status.specs.declared.status.Status.TheVariants.{FilesFault, InputTooLong, Memory, ReadFault, WriteFault}
use Rattle.shell_session.proofs.DeskLaws.{Remains, breaks_by, carries_later, done_so, effect_so}
use Rattle.shell_session.proofs.PriceLaws.{price_both, price_front}
use Rattle.shell_session.proofs.ViewLaws.{left_alone, lives_more, lives_since, none_told}
use Rattle.shell_session.proofs.RunningLaws.{at_front, at_other, end_did, end_stops, front_stops, line_behind, line_last, remains_of}

-- ---- the lines that have bodies

abbrev pub HasBody : Order → List ℕ → Type 0
HasBody order word = (order ≡ Ok (Import word)) ⊎ (((game : ℕ) × (order ≡ Ok (Replace game word))) ⊎ (order ≡ Ok (Eco word)))

pub has_body : (order : Order) (word : List ℕ) → body_word order ≡ Some word → HasBody order word
has_body (Ok (Import end)) word is = let e : end ≡ word = cc in let P : List ℕ → Order = λ w. Ok (Import w) in inl (ap P e)
has_body (Ok (Replace game end)) word is = let e : end ≡ word = cc in let P : List ℕ → Order = λ w. Ok (Replace game w) in inr (inl (game, ap P e))
has_body (Ok (Eco end)) word is = let e : end ≡ word = cc in let P : List ℕ → Order = λ w. Ok (Eco w) in inr (inr (ap P e))
has_body _ word is = cc

-- The word of a line that has one.
pub worded : {A : Type 0} (found : Option A) (f : A → List ℕ) (word : Option (List ℕ)) (none : Bool) → option_map f found ≡ word → is_some found ≡ not none → none ≡ false
    → (end : List ℕ) × (word ≡ Some end)
worded None f word none is test misses = let e : false ≡ true = test ∙ ap not misses in cc
worded (Some a) f word none is test misses = (f a, sym is)

-- Their word is short, and they are not `quit`.
short_of : (order : Order) (word : List ℕ) → HasBody order word → IsSoundLine order → length word ≤ 32
short_of order word (inl is) sound = subst IsSoundLine is sound
short_of order word (inr (inl (game, is))) sound = subst IsSoundLine is sound
short_of order word (inr (inr is)) sound = subst IsSoundLine is sound

pub short_word : (line : Line) (word : List ℕ) → IsSoundLine line.order → body_word line.order ≡ Some word → length word ≤ 32
short_word line word sound is = short_of line.order word (has_body line.order word is) sound

goes_of : (order : Order) (word : List ℕ) → HasBody order word → is_quit order ≡ false
goes_of order word (inl is) = ap is_quit is
goes_of order word (inr (inl (game, is))) = ap is_quit is
goes_of order word (inr (inr is)) = ap is_quit is

pub quits_not : (line : Line) (word : List ℕ) → body_word line.order ≡ Some word → is_quit line.order ≡ false
quits_not line word is = goes_of line.order word (has_body line.order word is)

pub body_goes : (clients : Clients) (line : Line) (word : List ℕ) → body_word line.order ≡ Some word → is_end clients line ≡ false
unfolding is_end
body_goes clients line word is = rw (quits_not line word is) refl

-- They leave what the files carry.
game_carried : (why : Option Refusal) (i : Intake) (head : Head) (game : GameTree) → (unless_not_added why i head game).state.shared.carried ≡ i.state.shared.carried
game_carried (Some why) i head game = refl
game_carried None i head game = refl

item_carried : (i : Intake) (item : Item) → (item_after i item).state.shared.carried ≡ i.state.shared.carried
item_carried i (Good head game) = game_carried (not_added i.state.shared head game) i head game
item_carried i (Bad fault) = refl

items_carried : (i : Intake) (items : List Item) → (after_all intake i items).state.shared.carried ≡ i.state.shared.carried
items_carried i [] = refl
items_carried i (item ∷ items) = items_carried (item_after i item) items ∙ item_carried i item

new_carried : (s : State) (game : ℕ) (new : Result (Head × GameTree) (List ℕ)) → (state_with s game new).shared.carried ≡ s.shared.carried
new_carried s game (Ok new) = refl
new_carried s game (Err line) = refl

table_carried : (s : State) (table : Result (List Opening) EcoFault) → (state_by s table).shared.carried ≡ s.shared.carried
table_carried s (Ok table) = refl
table_carried s (Err fault) = refl

carried_of : (w : Window) (order : Order) (word : List ℕ) (s : State) (body : List ℕ) → HasBody order word → ((tasks w).after s (task order body)).shared.carried ≡ s.shared.carried
carried_of w order word s body (inl is) =
    let P : Order → Option Carried = λ o. ((tasks w).after s (task o body)).shared.carried in
    ap P is ∙ items_carried (none_taken s) (items_of body)
carried_of w order word s body (inr (inl (game, is))) =
    let P : Order → Option Carried = λ o. ((tasks w).after s (task o body)).shared.carried in
    ap P is ∙ new_carried s game (the_new s game body)
carried_of w order word s body (inr (inr is)) =
    let P : Order → Option Carried = λ o. ((tasks w).after s (task o body)).shared.carried in
    ap P is ∙ table_carried s (table_of body)

body_carried : (line : Line) (word body : List ℕ) (d : Desk) → HasBody line.order word → (desks.after d (tagged_task line body)).shared.carried ≡ d.shared.carried
body_carried line word body d has =
    done_so d line.client (task line.order body) (λ (later : Desk). later.shared.carried ≡ d.shared.carried) refl
    (λ speaker is still. carried_of (window_of d.clients speaker) line.order word (seen_by d speaker) body has)

-- And what the slots show.
slots_of : (w : Window) (order : Order) (word body : List ℕ) (s : State) → HasBody order word → ((tasks w).after s (task order body)).slots ≡ s.slots
slots_of w order word body s (inl is) = task_stays w s (task order body) (λ k board side same. cc) (λ k same. cc)
slots_of w order word body s (inr (inl (game, is))) = task_stays w s (task order body) (λ k board side same. cc) (λ k same. cc)
slots_of w order word body s (inr (inr is)) = task_stays w s (task order body) (λ k board side same. cc) (λ k same. cc)

body_slots : (line : Line) (word body : List ℕ) (d : Desk) → HasBody line.order word → (desks.after d (tagged_task line body)).slots ≡ d.slots
body_slots line word body d has =
    done_so d line.client (task line.order body) (λ (later : Desk). later.slots ≡ d.slots) refl
    (λ speaker is still. slots_of (window_of d.clients speaker) line.order word body (seen_by d speaker) has)

pub body_remains : (line : Line) (word body : List ℕ) (held : DeskHolding) (around : Around) (more : ℕ → ℕ) (d : Desk) → body_word line.order ≡ Some word
    → Lives held (told_more around more) (desks.after d (tagged_task line body)) → Remains around d line
body_remains line word body held around more d is lives =
    let slots : (desks.after d (tagged_task line body)).slots ≡ d.slots = body_slots line word body d (has_body line.order word is) in
    record {
      carries = carries_later held around.seen d (desks.after d (tagged_task line body)) (line_left d line) (body_carried line word body d (has_body line.order word is)) lives.stands;
      views = λ k other. subst (λ (l : List Slot). IsLeftIn (slot_at l k) (in_slot around.first k) (in_slot around.now k)) slots (left_alone held (told_more around more) (desks.after d (tagged_task line body)) lives k);
    }

-- They leave no base in the place of the files.
left_none : (order : Order) (word : List ℕ) → HasBody order word → order_left order ≡ None
left_none order word (inl is) = ap order_left is
left_none order word (inr (inl (game, is))) = ap order_left is
left_none order word (inr (inr is)) = ap order_left is

body_settled : (seen : Seen) (d : Desk) (line : Line) (body word : List ℕ) (t t' : Option (List ℕ)) → body_word line.order ≡ Some word → SettledLine seen d (tagged_task line body) t t'
body_settled seen d line body word t t' is =
    let none : line_left d line ≡ None =
    effect_so d.clients line.client line.order (λ (order : Order). order_left order ≡ None) refl (left_none line.order word (has_body line.order word is)) in
    let P : Option (Base → Base) → Type 0 = λ o. IfSome o (λ left. Settled seen (seen_by (desks.after d (tagged_task line body)) 0) t t') in
    subst P (sym none) tt

-- ---- what is said behind a line

led_alone : (test : Bool) (line : Line) (d : Desk) (ahead : List ℕ) → is_end d.clients line ≡ test → body_word line.order ≡ None
    → (left : List Tagged) × ((said_on d line ahead).tasks ≡ tagged_task line [] ∷ left)
led_alone true line d ahead ends none = ([], ap (λ (x : Script). x.tasks) (on_end (at_end d.clients.tagged) d.clients line ahead ends))
led_alone false line d ahead goes none = (
  (script_from (at_end d.clients.tagged) (heard d.clients line) 0 [] ahead).tasks,
  ap (λ (x : Script). x.tasks) (on_line (at_end d.clients.tagged) d.clients line ahead goes none),
)

led_ended : (line : Line) (d : Desk) (word ahead : List ℕ) (count : ℕ) → body_word line.order ≡ Some word → (body_of word true ahead).end ≡ Some count
    → (behind : Script) × (said_on d line ahead ≡ grown (length (body_of word true ahead).bytes + count) (led_by (tagged_task line (body_of word true ahead).bytes) behind))
led_ended line d word ahead count is end =
    let k : ℕ = length (body_of word true ahead).bytes + count in (
      script_from (at_end d.clients.tagged) (heard d.clients line) 0 [] (drop k ahead),
      ap (λ (x : List ℕ). said_on d line x) (sym (take-append-drop k ahead))
          ∙ on_body (at_end d.clients.tagged) d.clients line word ahead (drop k ahead) count k (body_goes d.clients line word is) is end refl,
    )

led_body : (end : Option ℕ) (line : Line) (d : Desk) (word ahead : List ℕ) → (body_of word true ahead).end ≡ end → body_word line.order ≡ Some word
    → (left : List Tagged) × ((said_on d line ahead).tasks ≡ tagged_task line (body_of word true ahead).bytes ∷ left)
led_body None line d word ahead end is =
    let last : Tagged = tagged_task line (body_of word true ahead).bytes in
    let all : (left : List Tagged) × (at_end d.clients.tagged last ≡ last ∷ left) = at_front d.clients.tagged last in
    (all.0, ap (λ (x : Script). x.tasks) (on_open (at_end d.clients.tagged) d.clients line word ahead (body_goes d.clients line word is) is end) ∙ all.1)
led_body (Some count) line d word ahead end is =
    let led = led_ended line d word ahead count is end in
    (led.0.tasks, ap (λ (x : Script). x.tasks) led.1)

-- Where no line ends the body, its task is not done.
none_whole : (line : Line) (d : Desk) (word part : List ℕ) → body_word line.order ≡ Some word → (body_of word true part).end ≡ None → [] ≡ whole_on d line part
none_whole line d word part is end = sym (ap (λ (x : Script). x.tasks) (on_open (λ _. []) d.clients line word part (body_goes d.clients line word is) is end))

-- A body that ends within a part of what is ahead ends in it.
not_within : (line : Line) (d : Desk) (word ahead : List ℕ) (count m k : ℕ) → body_word line.order ≡ Some word → NoEnd word ahead m → (body_of word true ahead).end ≡ Some count
    → k ≡ length (body_of word true ahead).bytes + count → k ≤ m → ⊥
not_within line d word ahead count m k is none end size fits =
    let more : List ℕ = take (m - k) (drop k ahead) in
    let front : take m ahead ≡ take k ahead ++ more = ap (λ n. take n ahead) (omega (arith, fits)) ∙ take-add k (m - k) ahead in
    let e : tagged_task line (body_of word true ahead).bytes ∷ (script_from (λ _. []) (heard d.clients line) 0 [] more).tasks ≡ [] =
    sym (ap (λ (x : Script). x.tasks) (on_body (λ _. []) d.clients line word ahead more count k (body_goes d.clients line word is) is end size))
    ∙ ap (λ (x : List ℕ). whole_on d line x) (sym front) ∙ sym (none_whole line d word (take m ahead) is none) in
    cc

longer_by : (line : Line) (d : Desk) (word ahead : List ℕ) (count m k size : ℕ) → body_word line.order ≡ Some word → NoEnd word ahead m → (body_of word true ahead).end ≡ Some count
    → k ≡ length (body_of word true ahead).bytes + count → k ≤ size → ((leb k m ≡ true) × (k ≤ m)) ⊎ ((leb k m ≡ false) × (m < k)) → m < size
longer_by line d word ahead count m k size is none end sum most (inl (is_le, fits)) = absurd (not_within line d word ahead count m k is none end sum fits)
longer_by line d word ahead count m k size is none end sum most (inr (is_more, more)) = omega (arith, most, more)

-- Where none ends it within a part of what is ahead, the script is longer than this part.
longer : (end : Option ℕ) (line : Line) (d : Desk) (word ahead : List ℕ) (m : ℕ) → (body_of word true ahead).end ≡ end → body_word line.order ≡ Some word → NoEnd word ahead m
    → m < length ahead → m < (said_on d line ahead).size
longer None line d word ahead m end is none more =
    let size : (said_on d line ahead).size ≡ length ahead =
    ap (λ (x : Script). x.size) (on_open (at_end d.clients.tagged) d.clients line word ahead (body_goes d.clients line word is) is end) in
    omega (arith, more, size)
longer (Some count) line d word ahead m end is none more =
    let led = led_ended line d word ahead count is end in
    let k : ℕ = length (body_of word true ahead).bytes + count in
    let size : (said_on d line ahead).size ≡ k + led.0.size = ap (λ (x : Script). x.size) led.1 in
    longer_by line d word ahead count m k (said_on d line ahead).size is none end refl (omega (arith, size)) (leb_tells k m)

-- ---- a line without a body

pub line_on : (line : Line) (d : Desk) (ahead : List ℕ) (reader : Reader) (held' : DeskHolding) (around' : Around) (l t t' : Option (List ℕ)) (a a' : ℕ) → is_end d.clients line ≡ false → body_word line.order ≡ None
    → before reader.unread l ≡ Some ahead → Done (Lives held' (told_more around' (line_told d (tagged_task line [])))) (desks.after d (tagged_task line [])) (desks.text d (tagged_task line [])) t t' → a' ≤ a + line_price d line
    → WentOn line d ahead reader.used held' around' reader l t t' a a'
line_on line d ahead reader held' around' l t t' a a' goes none known did asked = record {
  body = [];
  front = [];
  did = did;
  left = sym known ∙ sym (before-nil (before reader.unread l));
  taken = omega arith;
  says = λ last more.
      on_line last d.clients line more goes none ∙ ap (script (tagged_task line [] ∷ (script_from last (heard d.clients line) 0 [] more).tasks)) (omega arith);
  asks = asked;
}

pub line_finished : (line : Line) (d : Desk) (ahead : List ℕ) (reader : Reader) (held' : DeskHolding) (around' : Around) (l t t' : Option (List ℕ)) (a a' : ℕ) → is_end d.clients line ≡ true
    → before reader.unread l ≡ Some ahead → reader.used ≤ longest_script → length reader.unread ≤ piece_len
    → Done (Lives held' (told_more around' (line_told d (tagged_task line [])))) (desks.after d (tagged_task line [])) (desks.text d (tagged_task line [])) t t' → a' ≤ a + line_price d line
    → Finished line d ahead reader.used held' around' l t t' a a'
line_finished line d ahead reader held' around' l t t' a a' ends known used few did asked = record {
  lasts = tagged_task line [] ∷ [];
  size = 0;
  front = reader.unread;
  did = record {
    stands = lives_more held' around' (line_told d (tagged_task line [])) (told_all d (tagged_task line [] ∷ [])) _ did.stands (λ k. omega arith);
    written = did.written ∙ ap (adds t) (sym (append-nil (desks.text d (tagged_task line []))));
  };
  says = on_end (at_end d.clients.tagged) d.clients line ahead ends;
  within = omega (arith, used);
  left = sym known;
  enough = omega arith;
  no_further = omega (arith, few);
  asks = omega (arith, asked);
}

pub line_halts : (line : Line) (d : Desk) (ahead : List ℕ) (used : ℕ) (around' : Around) (l t t' : Option (List ℕ)) (a a' : ℕ) (status : Status) → body_word line.order ≡ None
    → Interrupted status around' d (tagged_task line []) t t' → a' ≤ a + line_price d line → Halts status around' line d ahead used l t t' a a'
line_halts line d ahead used around' l t t' a a' status none cut asked =
    let led = led_alone (is_end d.clients line) line d ahead refl none in
    record {
      stopped = (front_stops around' d (tagged_task line []) (said_on d line ahead).tasks led.0 t t' status led.1 cut.cut).0;
      lines = line_behind status line d ahead used l _ cut.in_line;
      asks = price_front d (said_on d line ahead).tasks led.0 line [] a a' led.1 asked;
    }

-- ---- the body that the input ends, and what its end adds

pub out_finished : (line : Line) (word : List ℕ) (d : Desk) (ahead : List ℕ) (used : ℕ) (held held' : DeskHolding) (around around' : Around) (l t t' t'' : Option (List ℕ)) (a a' a'' : ℕ) → body_word line.order ≡ Some word
    → (out : WentOut line d ahead used held around l t t' a a')
    → Done (Lives held' (told_more (told_more around' (line_told d (tagged_task line out.body))) (told_all (desks.after d (tagged_task line out.body)) (added d.clients.tagged))))
    (after_all desks (desks.after d (tagged_task line out.body)) (added d.clients.tagged)) (run desks (desks.after d (tagged_task line out.body)) (added d.clients.tagged)) t' t''
    → a'' ≤ a' + price_all (desks.after d (tagged_task line out.body)) (added d.clients.tagged) → Finished line d ahead used held' around' l t t'' a a''
out_finished line word d ahead used held held' around around' l t t' t'' a a' a'' is out did asked =
    let last : Tagged = tagged_task line out.body in
    let other : is_quit line.order ≡ false = quits_not line word is in
    record {
      lasts = at_end d.clients.tagged last;
      size = length ahead;
      front = ahead;
      did = end_did held' around' d d.clients.tagged last t t' t'' other out.did.written did;
      says = out.says (at_end d.clients.tagged);
      within = out.within;
      left = ap (λ (x : List ℕ). Some x) (sym (append-nil ahead)) ∙ ap (before ahead) (sym out.left);
      enough = omega arith;
      no_further = omega arith;
      asks = price_both d (at_end d.clients.tagged last) (added d.clients.tagged) last a a' a'' (at_other d.clients.tagged last other) out.asks asked;
    }

pub out_halts : (line : Line) (word : List ℕ) (d : Desk) (ahead : List ℕ) (used : ℕ) (held : DeskHolding) (around around' : Around) (l t t' t'' : Option (List ℕ)) (a a' a'' : ℕ) (status : Status) → body_word line.order ≡ Some word
    → (out : WentOut line d ahead used held around l t t' a a')
    → Stops status (told_more around' (line_told d (tagged_task line out.body))) (desks.after d (tagged_task line out.body)) (added d.clients.tagged) t' t''
    → a'' ≤ a' + price_all (desks.after d (tagged_task line out.body)) (added d.clients.tagged) → Halts status around' line d ahead used l t t'' a a''
out_halts line word d ahead used held around around' l t t' t'' a a' a'' status is out cut asked =
    let last : Tagged = tagged_task line out.body in
    let other : is_quit line.order ≡ false = quits_not line word is in
    let stops : Stops status around' d (at_end d.clients.tagged last) t t'' =
    end_stops (Lives held (told_more around (line_told d last))) around' (line_told d last) d d.clients.tagged last t t' t'' status other out.did cut in
    let all : at_end d.clients.tagged last ≡ (said_on d line ahead).tasks = sym (ap (λ (x : Script). x.tasks) (out.says (at_end d.clients.tagged))) in
    let P : List Tagged → Type 0 = λ ts. Stopped desks (Breaks status around' t'') d ts t t'' in
    let Q : List Tagged → Type 0 = λ ts. a'' ≤ a + price_all d ts in
    record {
      stopped = subst P all stops.stopped;
      lines = line_behind status line d ahead used l _ cut.in_line;
      asks = subst Q all (price_both d (at_end d.clients.tagged last) (added d.clients.tagged) last a a' a'' (at_other d.clients.tagged last other) out.asks asked);
    }

-- ---- a place in a body

-- What is known there of a line with this body.
pub record InBody (line : Line) (word ahead : List ℕ) (reader : Reader) (l : Option (List ℕ)) (b f : ℕ) (p : Place) (l' : Option (List ℕ)) (b' f' : ℕ) : Type 0 where
  pub has : body_word line.order ≡ Some word
  pub known : before reader.unread l ≡ Some ahead
  pub few : reader.used ≤ longest_script
  pub stands : Standing (start_at word reader l b f) p l' b' f'

pub standing_first : (reader : Reader) (word : List ℕ) (p : Place) (l : Option (List ℕ)) (b f : ℕ) → length word ≤ 32 → IsBegun reader word p → Standing (start_at p.word.items p.reader l b f) p l b f
standing_first reader word p l b f short begun =
    let n : length p.word.items ≡ length word = ap length begun.word in
    standing_begun p.reader p.word.items p l b f (omega (arith, n, short)) (record { reader = refl; word = refl; at = begun.at; free = begun.free; refused = begun.refused })

pub standing_from : (reader : Reader) (word : List ℕ) (p p' : Place) (l l' : Option (List ℕ)) (b f b' f' : ℕ) → IsBegun reader word p → Standing (start_at p.word.items p.reader l b f) p' l' b' f'
    → Standing (start_at word reader l b f) p' l' b' f'
standing_from reader word p p' l l' b f b' f' begun st =
    let P : List ℕ → Type 0 = λ w. Standing (start_at w p.reader l b f) p' l' b' f' in
    let Q : Reader → Type 0 = λ r. Standing (start_at word r l b f) p' l' b' f' in
    subst Q begun.reader (subst P begun.word st)

pub in_body : (line : Line) (word ahead : List ℕ) (reader : Reader) (l : Option (List ℕ)) (b f : ℕ) (p p' : Place) (l' : Option (List ℕ)) (b' f' : ℕ) → body_word line.order ≡ Some word
    → before reader.unread l ≡ Some ahead → reader.used ≤ longest_script → IsBegun reader word p → Standing (start_at p.word.items p.reader l b f) p' l' b' f'
    → InBody line word ahead reader l b f p' l' b' f'
in_body line word ahead reader l b f p p' l' b' f' has known few begun st =
    record { has = has; known = known; few = few; stands = standing_from reader word p p' l l' b f b' f' begun st }

-- The body that is told.
pub text_left : (reader : Reader) (word ahead : List ℕ) (p : Place) (l : Option (List ℕ)) → IsBegun reader word p → before reader.unread l ≡ Some ahead → left_of p l ≡ Some (body_of word true ahead).bytes
text_left reader word ahead p l begun known =
    ap (λ w. rest_told w p.at (before p.reader.unread l)) begun.word ∙ ap (λ at. rest_told word at (before p.reader.unread l)) begun.at
    ∙ ap (λ (r : Reader). rest_told word Fresh (before r.unread l)) begun.reader ∙ ap (rest_told word Fresh) known

-- How many bytes were read of what was ahead.
count_fits : (line : Line) (word ahead : List ℕ) (reader : Reader) (l : Option (List ℕ)) (b f : ℕ) (p : Place) (l' : Option (List ℕ)) (b' f' : ℕ) → InBody line word ahead reader l b f p l' b' f'
    → p.reader.used - reader.used ≤ length ahead
count_fits line word ahead reader l b f p l' b' f' at = let h : p.reader.used ≤ reader.used + length ahead = at.stands.there ahead at.known in omega (arith, h)

-- A line ended the body.
went_on : (line : Line) (word ahead : List ℕ) (reader : Reader) (l : Option (List ℕ)) (b f : ℕ) (p : Place) (l' : Option (List ℕ)) (b' f' : ℕ) (d : Desk) (held' : DeskHolding) (around' : Around) (t t' : Option (List ℕ)) (a a' count : ℕ)
    → InBody line word ahead reader l b f p l' b' f' → p.at ≡ Behind count
    → Done (Lives held' (told_more around' (line_told d (tagged_task line (body_of word true ahead).bytes)))) (desks.after d (tagged_task line (body_of word true ahead).bytes)) (desks.text d (tagged_task line (body_of word true ahead).bytes)) t t' → a' ≤ a + line_price d line
    → WentOn line d ahead reader.used held' around' p.reader l' t t' a a'
went_on line word ahead reader l b f p l' b' f' d held' around' t t' a a' count at is did asked =
    let n : ℕ = p.reader.used - reader.used in
    let fits : n ≤ length ahead = count_fits line word ahead reader l b f p l' b' f' at in
    let begins : reader.used ≤ p.reader.used = at.stands.begins in
    let whole = at.stands.behind count is ahead at.known in
    let part : length (take n ahead) ≡ n = length-take-le n ahead fits in
    let text : length (body_of word true ahead).bytes ≡ n - count = ap length whole.bytes ∙ length-take-le (n - count) ahead (omega (arith, fits)) in
    let inside : count ≤ n = whole.fits in
    let size : n ≡ length (body_of word true ahead).bytes + count = omega (arith, text, inside) in
    record {
      body = (body_of word true ahead).bytes;
      front = take n ahead;
      did = did;
      left =
          ap (λ (x : List ℕ). Some x) (sym (take-append-drop n ahead))
          ∙ ap (before (take n ahead)) (sym (at.stands.ahead ∙ ap (told_after n) at.known));
      taken = omega (arith, part, begins);
      says = λ last more.
          on_body last d.clients line word ahead more count n (body_goes d.clients line word at.has) at.has whole.end size
          ∙ ap (λ k. grown k (led_by (tagged_task line (body_of word true ahead).bytes) (script_from last (heard d.clients line) 0 [] more))) (sym part);
      asks = asked;
    }

-- The input did.
went_out : (line : Line) (word ahead : List ℕ) (reader : Reader) (l : Option (List ℕ)) (b f : ℕ) (p : Place) (l' : Option (List ℕ)) (b' f' : ℕ) (d : Desk) (held' : DeskHolding) (around' : Around) (t t' : Option (List ℕ)) (a a' : ℕ)
    → InBody line word ahead reader l b f p l' b' f' → p.at ≡ End
    → Done (Lives held' (told_more around' (line_told d (tagged_task line (body_of word true ahead).bytes)))) (desks.after d (tagged_task line (body_of word true ahead).bytes)) (desks.text d (tagged_task line (body_of word true ahead).bytes)) t t' → a' ≤ a + line_price d line
    → WentOut line d ahead reader.used held' around' l' t t' a a'
went_out line word ahead reader l b f p l' b' f' d held' around' t t' a a' at is did asked =
    let n : ℕ = p.reader.used - reader.used in
    let fits : n ≤ length ahead = count_fits line word ahead reader l b f p l' b' f' at in
    let begins : reader.used ≤ p.reader.used = at.stands.begins in
    let rest = told (start_at word reader l b f) p l' b' f' ahead at.stands at.known in
    let none : rest.later ≡ [] = at.stands.at_end is rest.later rest.is in
    let size : length p.reader.unread + length rest.later ≡ length ahead - n = sym (length-append p.reader.unread rest.later) ∙ ap length rest.bytes ∙ length-drop n ahead in
    let zero_left : length rest.later ≡ 0 = ap length none in
    let within : p.reader.used + length p.reader.unread ≤ longest_script = at.stands.within is in
    let end : (body_of word true ahead).end ≡ None = ap (λ (x : List ℕ). (body_of word true x).end) (sym (take_all (length ahead) ahead (omega arith))) ∙ at.stands.ended is ahead at.known in
    record {
      body = (body_of word true ahead).bytes;
      did = did;
      says = λ last. on_open last d.clients line word ahead (body_goes d.clients line word at.has) at.has end;
      left = rest.is ∙ ap (λ (x : List ℕ). Some x) none;
      within = omega (arith, fits, begins, size, zero_left, within);
      asks = asked;
    }

not_open : true ≡ false → ⊥
not_open is = cc

-- The two ways in which a body is over.
body_over : (at : At) (reader : Reader) (P : Option Reader → Type 0) → is_open at ≡ false → ((count : ℕ) → at ≡ Behind count → P (Some reader)) → (at ≡ End → P None) → P (behind_at at reader)
body_over Fresh reader P shut on out = absurd (not_open shut)
body_over Inside reader P shut on out = absurd (not_open shut)
body_over (Behind count) reader P shut on out = on count refl
body_over End reader P shut on out = out refl

pub body_done : (line : Line) (word ahead : List ℕ) (reader : Reader) (l : Option (List ℕ)) (b f : ℕ) (p : Place) (l' : Option (List ℕ)) (b' f' : ℕ) (d : Desk) (held' : DeskHolding) (around' : Around) (t t' : Option (List ℕ)) (a a' : ℕ)
    → is_open p.at ≡ false → InBody line word ahead reader l b f p l' b' f'
    → Done (Lives held' (told_more around' (line_told d (tagged_task line (body_of word true ahead).bytes)))) (desks.after d (tagged_task line (body_of word true ahead).bytes)) (desks.text d (tagged_task line (body_of word true ahead).bytes)) t t' → a' ≤ a + line_price d line
    → BodyDone line d ahead reader.used held' around' (behind_at p.at p.reader) l' t t' a a'
body_done line word ahead reader l b f p l' b' f' d held' around' t t' a a' shut at did asked =
    body_over p.at p.reader (λ back. BodyDone line d ahead reader.used held' around' back l' t t' a a') shut
    (λ count is. went_on line word ahead reader l b f p l' b' f' d held' around' t t' a a' count at is did asked)
    (λ is. went_out line word ahead reader l b f p l' b' f' d held' around' t t' a a' at is did asked)

pub body_gone : (at : At) (old new : Reader) (b b' : ℕ) → GoneOn old b new b' → IfSome (behind_at at new) (λ later. GoneOn old b later b')
body_gone Fresh old new b b' gone = tt
body_gone Inside old new b b' gone = tt
body_gone (Behind count) old new b b' gone = gone
body_gone End old new b b' gone = tt

-- ---- a body that cannot be read to its end

-- The task was broken off by this status.
body_cut : (line : Line) (word ahead : List ℕ) (d : Desk) (around' : Around) (t t' : Option (List ℕ)) (status : Status) → body_word line.order ≡ Some word
    → Cut (Breaks status around' t' d (tagged_task line (body_of word true ahead).bytes) t) (desks.text d (tagged_task line (body_of word true ahead).bytes)) t t'
    → (q : Stopped desks (Breaks status around' t') d (said_on d line ahead).tasks t t') × (q.done ≡ [])
body_cut line word ahead d around' t t' status is cut =
    let led = led_body (body_of word true ahead).end line d word ahead refl is in
    front_stops around' d (tagged_task line (body_of word true ahead).bytes) (said_on d line ahead).tasks led.0 t t' status led.1 cut

body_paid : (line : Line) (word ahead : List ℕ) (d : Desk) (a a' : ℕ) → body_word line.order ≡ Some word → a' ≤ a + line_price d line → a' ≤ a + price_all d (said_on d line ahead).tasks
body_paid line word ahead d a a' is asked =
    let led = led_body (body_of word true ahead).end line d word ahead refl is in
    price_front d (said_on d line ahead).tasks led.0 line (body_of word true ahead).bytes a a' led.1 asked

-- The bytes that were read of it.
read_front : (line : Line) (word ahead : List ℕ) (reader : Reader) (l : Option (List ℕ)) (b f : ℕ) (p : Place) (l' : Option (List ℕ)) (b' f' : ℕ) → InBody line word ahead reader l b f p l' b' f'
    → Some ahead ≡ before (take (p.reader.used - reader.used + length p.reader.unread) ahead) l'
read_front line word ahead reader l b f p l' b' f' at =
    let n : ℕ = p.reader.used - reader.used in
    let m : ℕ = length p.reader.unread in
    let rest = told (start_at word reader l b f) p l' b' f' ahead at.stands at.known in
    let front : take (n + m) ahead ≡ take n ahead ++ p.reader.unread =
    take-add n m ahead ∙ ap (λ x. take n ahead ++ x) (ap (take m) (sym rest.bytes) ∙ take-append_seam p.reader.unread rest.later) in
    let all : take (n + m) ahead ++ rest.later ≡ ahead =
    ap (λ x. x ++ rest.later) front ∙ append_assoc (take n ahead) p.reader.unread rest.later ∙ ap (λ x. take n ahead ++ x) rest.bytes ∙ take-append-drop n ahead in
    ap (λ (x : List ℕ). Some x) (sym all) ∙ ap (before (take (n + m) ahead)) (sym rest.is)

halts_stuck : (e : ReadError) (line : Line) (word ahead : List ℕ) (reader : Reader) (l : Option (List ℕ)) (b f : ℕ) (p : Place) (l' : Option (List ℕ)) (b' f' : ℕ) (d : Desk) (around' : Around) (t t' : Option (List ℕ)) (a a' : ℕ)
    → p.stuck ≡ Some e → InBody line word ahead reader l b f p l' b' f' → Halted [] (desks.text d (tagged_task line (body_of word true ahead).bytes)) t t' → Remains around' d line → a' ≤ a + line_price d line
    → Halts (status_of_reading e) around' line d ahead reader.used l' t t' a a'
halts_stuck error.Failed line word ahead reader l b f p l' b' f' d around' t t' a a' is at wrote remains asked =
    let q = body_cut line word ahead d around' t t' ReadFault at.has (record { wrote = wrote; broken = breaks_by _ _ _ _ _ _ tt remains (body_settled around'.seen d line (body_of word true ahead).bytes word t t' at.has) }) in
    let front : List ℕ = take (p.reader.used - reader.used + length p.reader.unread) ahead in
    record {
      stopped = q.0;
      lines = (front, read_front line word ahead reader l b f p l' b' f' at, q.1 ∙ none_whole line d word front at.has (at.stands.in_vain is ahead at.known));
      asks = body_paid line word ahead d a a' at.has asked;
    }
halts_stuck error.TooLong line word ahead reader l b f p l' b' f' d around' t t' a a' is at wrote remains asked =
    let q = body_cut line word ahead d around' t t' InputTooLong at.has (record { wrote = wrote; broken = breaks_by _ _ _ _ _ _ tt remains (body_settled around'.seen d line (body_of word true ahead).bytes word t t' at.has) }) in
    let n : ℕ = p.reader.used - reader.used in
    let fits : n ≤ length ahead = count_fits line word ahead reader l b f p l' b' f' at in
    let begins : reader.used ≤ p.reader.used = at.stands.begins in
    let few : reader.used ≤ longest_script = at.few in
    let rest = told (start_at word reader l b f) p l' b' f' ahead at.stands at.known in
    let size : length p.reader.unread + length rest.later ≡ length ahead - n = sym (length-append p.reader.unread rest.later) ∙ ap length rest.bytes ∙ length-drop n ahead in
    let over : longest_script < p.reader.used + length p.reader.unread = at.stands.too_long is in
    let none : NoEnd word ahead (longest_script - reader.used) = at.stands.full is ahead at.known in
    let more : longest_script - reader.used < (said_on d line ahead).size =
    longer (body_of word true ahead).end line d word ahead (longest_script - reader.used) refl at.has none (omega (arith, fits, begins, few, size, over)) in
    record {
      stopped = q.0;
      lines = (omega (arith, more, few), q.1 ∙ none_whole line d word (take (longest_script - reader.used) ahead) at.has none);
      asks = body_paid line word ahead d a a' at.has asked;
    }
halts_stuck error.Memory line word ahead reader l b f p l' b' f' d around' t t' a a' is at wrote remains asked = absurd (at.stands.no_other is)

none_rose : (r : ℕ) → Rose r 0 → ⊥
none_rose r (inl rose) = absurd (omega (arith, rose))
none_rose r (inr last) = absurd (omega (arith, last))

-- A read of the body failed, so that it is read no further.
must_stick : (word : List ℕ) (reader : Reader) (l : Option (List ℕ)) (b f : ℕ) (p : Place) (l' : Option (List ℕ)) (b' f' r : ℕ) → Standing (start_at word reader l b f) p l' b' f' → p.stuck ≡ None → Rose r p.refused → ⊥
must_stick word reader l b f p l' b' f' r st is rose = none_rose r (subst (λ (n : ℕ). Rose r n) (st.free is) rose)

pub body_halts : (end : Halt) (stuck : Option ReadError) (line : Line) (word ahead : List ℕ) (reader : Reader) (l : Option (List ℕ)) (b f : ℕ) (p : Place) (l' : Option (List ℕ)) (b' f' : ℕ) (d : Desk) (around' : Around) (t t' : Option (List ℕ)) (a a' x x' r k k' : ℕ)
    → p.stuck ≡ stuck → InBody line word ahead reader l b f p l' b' f' → Halted [] (desks.text d (tagged_task line (body_of word true ahead).bytes)) t t'
    → BrokenLine d (tagged_task line (body_of word true ahead).bytes) end (desks.text d (tagged_task line (body_of word true ahead).bytes)) t t' → Remains around' d line → WhyHalt end (counts x r k) (counts x' p.refused k') → a' ≤ a + line_price d line
    → Halts (status_in_body end stuck) around' line d ahead reader.used l' t t' a a'
body_halts (halt.Device stop.Read) (Some e) line word ahead reader l b f p l' b' f' d around' t t' a a' x x' r k k' is at wrote broken remains why asked =
    halts_stuck e line word ahead reader l b f p l' b' f' d around' t t' a a' is at wrote remains asked
body_halts (halt.Device stop.Read) None line word ahead reader l b f p l' b' f' d around' t t' a a' x x' r k k' is at wrote broken remains why asked =
    absurd (must_stick word reader l b f p l' b' f' r at.stands is why)
body_halts (halt.Device stop.Files) stuck line word ahead reader l b f p l' b' f' d around' t t' a a' x x' r k k' is at wrote broken remains why asked = record {
  stopped = (body_cut line word ahead d around' t t' FilesFault at.has (record { wrote = wrote; broken = breaks_by _ _ _ _ _ _ broken remains (body_settled around'.seen d line (body_of word true ahead).bytes word t t' at.has) })).0;
  lines = tt;
  asks = body_paid line word ahead d a a' at.has asked;
}
body_halts (halt.Device stop.Write) stuck line word ahead reader l b f p l' b' f' d around' t t' a a' x x' r k k' is at wrote broken remains why asked = record {
  stopped = (body_cut line word ahead d around' t t' WriteFault at.has (record { wrote = wrote; broken = breaks_by _ _ _ _ _ _ tt remains (body_settled around'.seen d line (body_of word true ahead).bytes word t t' at.has) })).0;
  lines = tt;
  asks = body_paid line word ahead d a a' at.has asked;
}
body_halts (halt.Device stop.Memory) stuck line word ahead reader l b f p l' b' f' d around' t t' a a' x x' r k k' is at wrote broken remains why asked = record {
  stopped = (body_cut line word ahead d around' t t' Memory at.has (record { wrote = wrote; broken = breaks_by _ _ _ _ _ _ tt remains (body_settled around'.seen d line (body_of word true ahead).bytes word t t' at.has) })).0;
  lines = tt;
  asks = body_paid line word ahead d a a' at.has asked;
}
body_halts (halt.Changed game kept found) stuck line word ahead reader l b f p l' b' f' d around' t t' a a' x x' r k k' is at wrote broken remains why asked = absurd broken

-- Nothing of it was read, since memory ran out.
pub body_short : (line : Line) (word ahead : List ℕ) (held : DeskHolding) (around : Around) (d : Desk) (used : ℕ) (l t : Option (List ℕ)) (a : ℕ) → body_word line.order ≡ Some word → Lives held around d
    → Halts Memory around line d ahead used l t t a a
body_short line word ahead held around d used l t a is stands = record {
  stopped =
      (body_cut line word ahead d around t t Memory is
      (record { wrote = halted_none (desks.text d (tagged_task line (body_of word true ahead).bytes)) t; broken = breaks_by _ _ _ _ _ _ tt (remains_of held around none_told d line (lives_since held around none_told d stands)) (body_settled around.seen d line (body_of word true ahead).bytes word t t is) })).0;
  lines = tt;
  asks = omega arith;
}

-- The command was done, and the rest of its body could not be read.
pub drain_halts : (stuck : Option ReadError) (line : Line) (word ahead : List ℕ) (reader : Reader) (l : Option (List ℕ)) (b f : ℕ) (p : Place) (l' : Option (List ℕ)) (b' f' : ℕ) (d : Desk) (held' : DeskHolding) (around' : Around) (t t' : Option (List ℕ)) (a a' r : ℕ)
    → p.stuck ≡ stuck → InBody line word ahead reader l b f p l' b' f'
    → Done (Lives held' (told_more around' (line_told d (tagged_task line (body_of word true ahead).bytes)))) (desks.after d (tagged_task line (body_of word true ahead).bytes)) (desks.text d (tagged_task line (body_of word true ahead).bytes)) t t'
    → Rose r p.refused → a' ≤ a + line_price d line
    → Halts (status_in_body (halt.Device stop.Read) stuck) around' line d ahead reader.used l' t t' a a'
drain_halts None line word ahead reader l b f p l' b' f' d held' around' t t' a a' r is at did rose asked = absurd (must_stick word reader l b f p l' b' f' r at.stands is rose)
drain_halts (Some e) line word ahead reader l b f p l' b' f' d held' around' t t' a a' r is at did rose asked =
    let text : List ℕ = desks.text d (tagged_task line (body_of word true ahead).bytes) in
    let Q : List ℕ → Type 0 = λ x. Halted [] x t t' in
    halts_stuck e line word ahead reader l b f p l' b' f' d around' t t' a a' is at
    (subst Q (append-nil text) (halted_within [] text text [] t t' (halted_all text t t' did.written)))
    (body_remains line word (body_of word true ahead).bytes held' around' _ d at.has did.stands) asked

-- ---- for every files, input and output

rose_of : (a b : ℕ) → raised a 1 ≤ b → ((leb (a + 1) LAST ≡ true) × (a + 1 ≤ LAST)) ⊎ ((leb (a + 1) LAST ≡ false) × (LAST < a + 1)) → Rose a b
rose_of a b grew (inl (is_le, fits)) = inl (omega (arith, grew, fits))
rose_of a b grew (inr (is_more, last)) = inr (omega (arith, grew, last))

body_why : (end : Halt) (stuck : Option ReadError) (word : List ℕ) (reader : Reader) (l : Option (List ℕ)) (b f : ℕ) (p : Place) (l' : Option (List ℕ)) (b' f' x x' r k k' : ℕ)
    → p.stuck ≡ stuck → Standing (start_at word reader l b f) p l' b' f' → WhyHalt end (counts x r k) (counts x' p.refused k')
    → WhyStatus (status_in_body end stuck) (counts x f k) (counts x' f' k')
body_why (halt.Device stop.Read) (Some error.Failed) word reader l b f p l' b' f' x x' r k k' is st why = rose_of f f' (st.failed is) (leb_tells (f + 1) LAST)
body_why (halt.Device stop.Read) (Some error.TooLong) word reader l b f p l' b' f' x x' r k k' is st why = tt
body_why (halt.Device stop.Read) (Some error.Memory) word reader l b f p l' b' f' x x' r k k' is st why = tt
body_why (halt.Device stop.Read) None word reader l b f p l' b' f' x x' r k k' is st why = absurd (must_stick word reader l b f p l' b' f' r st is why)
body_why (halt.Device stop.Files) stuck word reader l b f p l' b' f' x x' r k k' is st why = why
body_why (halt.Device stop.Write) stuck word reader l b f p l' b' f' x x' r k k' is st why = why
body_why (halt.Device stop.Memory) stuck word reader l b f p l' b' f' x x' r k k' is st why = tt
body_why (halt.Changed game kept found) stuck word reader l b f p l' b' f' x x' r k k' is st why = why

body_ends : (end : Halt) (stuck : Option ReadError) → Interrupts (status_in_body end stuck)
body_ends (halt.Device stop.Read) (Some error.Failed) = tt
body_ends (halt.Device stop.Read) (Some error.TooLong) = tt
body_ends (halt.Device stop.Read) (Some error.Memory) = tt
body_ends (halt.Device stop.Read) None = tt
body_ends (halt.Device stop.Files) stuck = tt
body_ends (halt.Device stop.Write) stuck = tt
body_ends (halt.Device stop.Memory) stuck = tt
body_ends (halt.Changed game kept found) stuck = tt

body_too_long : (end : Halt) (stuck : Option ReadError) (word : List ℕ) (reader : Reader) (l : Option (List ℕ)) (b f : ℕ) (p : Place) (l' : Option (List ℕ)) (b' f' : ℕ)
    → p.stuck ≡ stuck → Standing (start_at word reader l b f) p l' b' f' → status_in_body end stuck ≡ InputTooLong → b' + longest_script < b + (reader.used + length reader.unread)
body_too_long (halt.Device stop.Read) (Some error.Failed) word reader l b f p l' b' f' is st long = cc
body_too_long (halt.Device stop.Read) (Some error.TooLong) word reader l b f p l' b' f' is st long = omega (arith, st.too_long is, st.sum)
body_too_long (halt.Device stop.Read) (Some error.Memory) word reader l b f p l' b' f' is st long = cc
body_too_long (halt.Device stop.Read) None word reader l b f p l' b' f' is st long = cc
body_too_long (halt.Device stop.Files) stuck word reader l b f p l' b' f' is st long = cc
body_too_long (halt.Device stop.Write) stuck word reader l b f p l' b' f' is st long = cc
body_too_long (halt.Device stop.Memory) stuck word reader l b f p l' b' f' is st long = cc
body_too_long (halt.Changed game kept found) stuck word reader l b f p l' b' f' is st long = cc

-- What the part keeps to that was broken off with its body there.
pub body_kept : {writes : Bool} {held' : DeskHolding} {seen seen' : Seen} (end : Halt) (stuck : Option ReadError) (word : List ℕ) (reader : Reader) (l : Option (List ℕ)) (b f : ℕ) (p : Place) (l' : Option (List ℕ)) (b' f' x x' r k k' : ℕ)
    (status : Status) → status ≡ status_in_body end stuck → p.stuck ≡ stuck → Standing (start_at word reader l b f) p l' b' f' → WhyHalt end (counts x r k) (counts x' p.refused k')
    → (writes ≡ false → seen' ≡ seen) → seen'.choices ≡ seen.choices → x ≤ x' → k ≤ k'
    → Kept writes held' seen seen' (counts x f k) (counts x' f' k') (b + (reader.used + length reader.unread)) b' (Some status)
body_kept end stuck word reader l b f p l' b' f' x x' r k k' status ended is st why unchanged choices files output = record {
  sound = tt;
  unchanged = unchanged;
  choices = choices;
  counts = record { files = files; input = st.counts; output = output };
  ends = subst Interrupts (sym ended) (body_ends end stuck);
  why = subst (λ (s : Status). WhyStatus s (counts x f k) (counts x' f' k')) (sym ended) (body_why end stuck word reader l b f p l' b' f' x x' r k k' is st why);
  too_long = λ long. body_too_long end stuck word reader l b f p l' b' f' is st (sym ended ∙ long);
}

-- ---- the last line, with its body

nothing_ahead : (front : List ℕ) (l : Option (List ℕ)) → Some [] ≡ before front l → (front ≡ []) × (l ≡ Some [])
nothing_ahead front None told = cc
nothing_ahead [] (Some more) told = let e : more ≡ [] = cc in (refl, ap (λ (x : List ℕ). Some x) e)
nothing_ahead (byte ∷ front) (Some more) told = cc

pub nothing_left : (unread : List ℕ) (l : Option (List ℕ)) → before unread l ≡ Some [] → l ≡ Some []
nothing_left unread l told = (nothing_ahead unread l (sym told)).1

led_nothing : (last : Tagged → List Tagged) (clients : Clients) (line : Line) (word : List ℕ) → body_word line.order ≡ Some word → led_on last clients line [] ≡ script (last (tagged_task line [])) 0
led_nothing last clients line word is =
    on_open last clients line word [] (body_goes clients line word is) is (ap (λ (x : Body). x.end) (body_none word true))
    ∙ ap (λ (x : Body). script (last (tagged_task line x.bytes)) 0) (body_none word true)

said_nothing : (d : Desk) (line : Line) (word : List ℕ) → body_word line.order ≡ Some word → said_on d line [] ≡ script (last_tasks d line) 0
said_nothing d line word is = led_nothing (at_end d.clients.tagged) d.clients line word is

pub last_did : (line : Line) (word : List ℕ) (d : Desk) (used : ℕ) (held' : DeskHolding) (around' : Around) (l' t t' : Option (List ℕ)) (a a' : ℕ) → body_word line.order ≡ Some word
    → Finished line d [] used held' around' l' t t' a a' → LastDid line d held' around' l' t t'
last_did line word d used held' around' l' t t' a a' is end =
    let all : end.lasts ≡ last_tasks d line = sym (ap (λ (x : Script). x.tasks) end.says) ∙ ap (λ (x : Script). x.tasks) (said_nothing d line word is) in
    let P : List Tagged → Type 0 = λ ts. Done (Lives held' (told_more around' (told_all d ts))) (after_all desks d ts) (run desks d ts) t t' in
    record { did = subst P all end.did; left = (nothing_ahead end.front l' end.left).1 }

pub last_asks : (line : Line) (word : List ℕ) (d : Desk) (used : ℕ) (held' : DeskHolding) (around' : Around) (l' t t' : Option (List ℕ)) (a a' : ℕ) → body_word line.order ≡ Some word
    → Finished line d [] used held' around' l' t t' a a' → a' ≤ a + price_all d (last_tasks d line)
last_asks line word d used held' around' l' t t' a a' is end =
    let all : end.lasts ≡ last_tasks d line = sym (ap (λ (x : Script). x.tasks) end.says) ∙ ap (λ (x : Script). x.tasks) (said_nothing d line word is) in
    subst (λ (ts : List Tagged). a' ≤ a + price_all d ts) all end.asks

-- No line ends that body.
pub last_not_on : (line : Line) (word : List ℕ) (d : Desk) (used : ℕ) (held' : DeskHolding) (around' : Around) (reader' : Reader) (l' t t' : Option (List ℕ)) (a a' : ℕ) → body_word line.order ≡ Some word
    → WentOn line d [] used held' around' reader' l' t t' a a' → ⊥
last_not_on line word d used held' around' reader' l' t t' a a' is on =
    let none : on.front ≡ [] = (nothing_ahead on.front (before reader'.unread l') on.left).0 in
    let e : tagged_task line on.body ∷ (script_from (λ _. []) (heard d.clients line) 0 [] []).tasks ≡ [] =
    sym (ap (λ (x : Script). x.tasks) (on.says (λ _. []) [])) ∙ ap (λ (x : List ℕ). whole_on d line (x ++ [])) none
    ∙ ap (λ (x : Script). x.tasks) (led_nothing (λ _. []) d.clients line word is) in
    cc

last_lines : (status : Status) (line : Line) (d : Desk) (word : List ℕ) (used : ℕ) (l' : Option (List ℕ)) (done : List Tagged) → body_word line.order ≡ Some word → used ≤ longest_script
    → BehindDone status line d [] used l' done → LastDone status l' done
last_lines ReadFault line d word used l' done is few (front, known, whole) =
    let none = nothing_ahead front l' known in
    (none.1, whole ∙ ap (λ (x : List ℕ). whole_on d line x) none.0 ∙ ap (λ (x : Script). x.tasks) (led_nothing (λ _. []) d.clients line word is))
last_lines InputTooLong line d word used l' done is few (long, whole) =
    let size : (said_on d line []).size ≡ 0 = ap (λ (x : Script). x.size) (said_nothing d line word is) in
    absurd (omega (arith, long, few, size))
last_lines _ line d word used l' done is few lines = tt

pub last_halts : (line : Line) (word : List ℕ) (d : Desk) (used : ℕ) (around' : Around) (l' t t' : Option (List ℕ)) (a a' : ℕ) (status : Status) → body_word line.order ≡ Some word → used ≤ longest_script
    → Halts status around' line d [] used l' t t' a a' → LastHalts status around' line d l' t t'
last_halts line word d used around' l' t t' a a' status is few end =
    let P : List Tagged → Type 0 = λ ts. (q : Stopped desks (Breaks status around' t') d ts t t') × BehindDone status line d [] used l' q.done in
    let q = subst P (ap (λ (x : Script). x.tasks) (said_nothing d line word is)) (end.stopped, end.lines) in
    record { stopped = q.0; lines = last_lines status line d word used l' q.0.done is few q.1 }

pub last_halts_asks : (line : Line) (word : List ℕ) (d : Desk) (used : ℕ) (around' : Around) (l' t t' : Option (List ℕ)) (a a' : ℕ) (status : Status) → body_word line.order ≡ Some word
    → Halts status around' line d [] used l' t t' a a' → a' ≤ a + price_all d (last_tasks d line)
last_halts_asks line word d used around' l' t t' a a' status is end =
    subst (λ (ts : List Tagged). a' ≤ a + price_all d ts) (ap (λ (x : Script). x.tasks) (said_nothing d line word is)) end.asks

-- Without one.
pub last_alone : (line : Line) (d : Desk) (around' : Around) (l t t' : Option (List ℕ)) (status : Status) → Stops status around' d (last_tasks d line) t t' → LastHalts status around' line d l t t'
last_alone line d around' l t t' status stops = record { stopped = stops.stopped; lines = line_last status l stops.stopped.done stops.in_line }
