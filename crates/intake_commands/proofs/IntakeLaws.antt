-- Laws of bodies that are taken in item by item.
use Rattle.std.proofs.Common.{◌≡◌, Option, Some, None, refl, ap, List, ◌∷◌, sym, subst, ℕ, [], ◌+◌, ◌++◌, ◌∙◌, append_assoc, append-nil, length, arith, Bool, false, OnOk, Result, Ok, Err, true, ◌≤◌, ◌-◌}
use Rattle.std.specs.Prelude.{if◌then◌else◌, IfErr, IfOk}
use Rattle.base_files.proofs.Telling.{adds-nil}
use Rattle.base_files.specs.Seen.{Seen}
use Rattle.base_files.specs.Told.{adds}
use Rattle.base_files.specs.declared.faults.Stop.TheVariants as stop
use Rattle.command_runs.proofs.Joining.{written_after, halted_all, halted_more, halted_unsure}
use Rattle.command_runs.proofs.Running.{Did, after_all-append, run-append, stopped_begins, stops}
use Rattle.command_runs.specs.Endings.{Done, Halted, Cut, Serves}
use Rattle.command_runs.specs.Plain.{after_all, run}
use Rattle.game_tree.specs.Game.{GameTree}
use Rattle.game_tree.specs.declared.head.Head.{Head}
use Rattle.pgn_read.proofs.CountLaws.{listed_alone, are_items}
use Rattle.pgn_read.proofs.ReadLaws.{same_next}
use Rattle.pgn_read.specs.Items.{next, next_item, Next, AreItems, text_start, items_of, items_at}
use Rattle.pgn_read.specs.Readers.{Follows, fresh_reader, told}
use Rattle.pgn_read.specs.Text.{At}
use Rattle.pgn_read.specs.declared.item.Item.{Item}
use Rattle.pgn_read.specs.declared.item.Item.TheVariants.{Bad, Good}
use mir.Val.{bool_byte}
use Rattle.intake_commands.specs.Breaking.{TakesFirst, TookFirst}
use Rattle.intake_commands.specs.Importing.{intake, next_number, none_taken, Intake, item_after, item_text, one_refused}
use Rattle.intake_commands.proofs.ByCase.{unless_not_added}
use Rattle.intake_commands.specs.Intakes.{AreBehind, TookIn, Counted, IsIntake, TookNext, TakesIn}
use Rattle.shell_state.proofs.Causing.{fault_of_output}
use Rattle.shell_state.specs.Ends.{IsFault, IsBodyFault, IsDevice, IsOutput, Unsaid}
use Rattle.shell_state.specs.Refusing.{not_added}
use Rattle.shell_state.specs.Stands.{Holding, Stands}
use Rattle.shell_state.specs.State.{State}
use Rattle.shell_state.specs.declared.halt.Halt.{Halt}
use Rattle.shell_state.specs.declared.halt.Halt.TheVariants as halt
use Rattle.shell_state.specs.declared.refusing.Refusal.{Refusal}

-- ---- what stands ahead

-- Behind an item.
pub follows_at : (at : At) (item : Item) (new : Option At) → Follows (Some at) (Some item) new → (at' : At) × (new ≡ Some at') × (next_item at ≡ next (Some item) at')
follows_at at item None follows = absurd (cc)
follows_at at item (Some at') follows = (at', refl, same_next (next_item at) (next (Some item) at') follows)

pub no_item_at : (at : At) (new : Option At) → Follows (Some at) None new → (next_item at).item ≡ None
no_item_at at None follows = absurd (cc)
no_item_at at (Some at') follows = ap (λ (n : Next). n.item) (same_next (next_item at) (next None at') follows)

-- The items from an item on.
pub are_more : (at at' : At) (item : Item) (later : List Item) → next_item at ≡ next (Some item) at' → AreItems at' later → AreItems at (item ∷ later)
are_more at at' item later is are =
    (ap (λ (n : Next). n.item) is, subst (λ (a : At). AreItems a later) (sym (ap (λ (n : Next). n.at) is)) are)

pub behind_none : (text : List ℕ) (ahead : Option At) → ahead ≡ Some (text_start text) → AreBehind text ahead []
behind_none text ahead is = record { at = text_start text; there = is; all = λ later are. sym (listed_alone text later are) }

pub behind_more : (text : List ℕ) (ahead ahead' : Option At) (done : List Item) (item : Item) → AreBehind text ahead done → Follows ahead (Some item) ahead' → AreBehind text ahead' (done ++ item ∷ [])
behind_more text ahead ahead' done item b follows =
    let F : Option At → Type 0 = λ o. Follows o (Some item) ahead' in
    let behind = follows_at b.at item ahead' (subst F b.there follows) in
    record {
      at = behind.0;
      there = behind.1;
      all = λ later are. b.all (item ∷ later) (are_more b.at behind.0 item later behind.2 are) ∙ sym (append_assoc done (item ∷ []) later);
    }

pub behind_all : (text : List ℕ) (ahead ahead' : Option At) (done : List Item) → AreBehind text ahead done → Follows ahead None ahead' → items_of text ≡ done
behind_all text ahead ahead' done b follows =
    let F : Option At → Type 0 = λ o. Follows o None ahead' in
    b.all [] (no_item_at b.at ahead' (subst F b.there follows)) ∙ append-nil done

-- There are items behind.
pub rest_at : (at : At) → (later : List Item) × AreItems at later
rest_at at = (items_at (length at.bytes) at, are_items (length at.bytes) at (omega arith))

pub behind_some : (text : List ℕ) (ahead : Option At) (done : List Item) → AreBehind text ahead done → (later : List Item) × (items_of text ≡ done ++ later)
behind_some text ahead done b = let rest = rest_at b.at in (rest.0, b.all rest.0 rest.1)

pub behind_next : (text : List ℕ) (ahead ahead' : Option At) (done : List Item) (item : Item) → AreBehind text ahead done → Follows ahead (Some item) ahead'
    → (later : List Item) × (items_of text ≡ done ++ item ∷ later)
behind_next text ahead ahead' done item b follows =
    let some = behind_some text ahead' (done ++ item ∷ []) (behind_more text ahead ahead' done item b follows) in
    (some.0, some.1 ∙ append_assoc done (item ∷ []) some.0)

-- ---- the items that were taken in

-- None yet.
pub took_none : (holding : Holding) (seen : Seen) (s : State) (text : List ℕ) (left told' : Option (List ℕ)) → left ≡ Some text → Stands holding seen s
    → TookIn holding seen s text (told fresh_reader left) told' told' 0 0
took_none holding seen s text left told' is stands = record {
  done = [];
  behind = behind_none text (told fresh_reader left) (ap (told fresh_reader) is);
  stands = record { stands = stands; added = refl; refused = refl };
  written = sym (adds-nil told');
}

-- The number of the next one.
pub took_number : (holding : Holding) (seen : Seen) (s : State) (text : List ℕ) (ahead : Option At) (told told' : Option (List ℕ)) (added refused number : ℕ)
    → (took : TookIn holding seen s text ahead told told' added refused) → added + refused + 1 ≡ number → next_number (after_all intake (none_taken s) took.done) ≡ number
took_number holding seen s text ahead told told' added refused number took is = omega (arith, took.stands.added, took.stands.refused, is)

-- One more.
pub took_more : (holding holding' : Holding) (seen seen' : Seen) (s : State) (text : List ℕ) (ahead ahead' : Option At) (told told' told'' : Option (List ℕ)) (added refused added' refused' : ℕ) (item : Item) (flag : Bool)
    → (took : TookIn holding seen s text ahead told told' added refused) → Follows ahead (Some item) ahead'
    → Done (λ (later : Intake). Stands holding' seen' later.state) (item_after (after_all intake (none_taken s) took.done) item) (item_text (after_all intake (none_taken s) took.done) item) told' told''
    → Counted flag (after_all intake (none_taken s) took.done) (item_after (after_all intake (none_taken s) took.done) item)
    → added' ≡ added + (if flag then 1 else 0) → refused' ≡ refused + (if flag then 0 else 1)
    → TookIn holding' seen' s text ahead' told told'' added' refused'
took_more holding holding' seen seen' s text ahead ahead' told told' told'' added refused added' refused' item flag took follows did counted more others =
    let i : Intake = after_all intake (none_taken s) took.done in
    let state : item_after i item ≡ after_all intake (none_taken s) (took.done ++ item ∷ []) = sym (after_all-append intake (none_taken s) took.done (item ∷ [])) in
    let text_all : run intake (none_taken s) took.done ++ item_text i item ≡ run intake (none_taken s) (took.done ++ item ∷ []) =
    ap (λ (x : List ℕ). run intake (none_taken s) took.done ++ x) (sym (append-nil (item_text i item))) ∙ sym (run-append intake (none_taken s) took.done (item ∷ [])) in
    let here : IsIntake holding' seen' added' refused' (item_after i item) = record {
      stands = did.stands;
      added = counted.added ∙ ap (λ (n : ℕ). n + (if flag then 1 else 0)) took.stands.added ∙ sym more;
      refused = counted.refused ∙ ap (λ (n : ℕ). n + (if flag then 0 else 1)) took.stands.refused ∙ sym others;
    } in
    record {
      done = took.done ++ item ∷ [];
      behind = behind_more text ahead ahead' took.done item took.behind follows;
      stands = subst (IsIntake holding' seen' added' refused') state here;
      written = written_after (run intake (none_taken s) took.done) (item_text i item) told told' told'' took.written did.written ∙ ap (adds told) text_all;
    }

-- What the output has taken and what waits behind it are still the same.
unfoldable pub took_still : (holding : Holding) (seen : Seen) (s : State) (text : List ℕ) (ahead : Option At) (told told' told'' : Option (List ℕ)) (added refused : ℕ)
    → TookIn holding seen s text ahead told told' added refused → told'' ≡ told' → TookIn holding seen s text ahead told told'' added refused
took_still holding seen s text ahead told told' told'' added refused took same =
    record { done = took.done; behind = took.behind; stands = took.stands; written = same ∙ took.written }

-- All of them.
pub took_all : (holding : Holding) (seen : Seen) (s : State) (text : List ℕ) (ahead ahead' : Option At) (told told' : Option (List ℕ)) (added refused : ℕ)
    → TookIn holding seen s text ahead told told' added refused → Follows ahead None ahead'
    → Done (IsIntake holding seen added refused) (after_all intake (none_taken s) (items_of text)) (run intake (none_taken s) (items_of text)) told told'
took_all holding seen s text ahead ahead' told told' added refused took follows =
    let all : items_of text ≡ took.done = behind_all text ahead ahead' took.done took.behind follows in
    record {
      stands = subst (λ (items : List Item). IsIntake holding seen added refused (after_all intake (none_taken s) items)) (sym all) took.stands;
      written = took.written ∙ ap (λ (items : List Item). adds told (run intake (none_taken s) items)) (sym all);
    }

-- Reading was broken off behind them.
pub took_short : (holding : Holding) (seen : Seen) (s : State) (text : List ℕ) (ahead : Option At) (told told' : Option (List ℕ)) (added refused : ℕ)
    → TookIn holding seen s text ahead told told' added refused → Halted [] (run intake (none_taken s) (items_of text)) told told'
took_short holding seen s text ahead told told' added refused took =
    let rest = behind_some text ahead took.done took.behind in
    let front : List ℕ = run intake (none_taken s) took.done in
    let whole : front ++ run intake (after_all intake (none_taken s) took.done) rest.0 ≡ run intake (none_taken s) (items_of text) =
    sym (run-append intake (none_taken s) took.done rest.0) ∙ ap (run intake (none_taken s)) (sym rest.1) in
    let halted = halted_unsure front front told told' (halted_all front told told' took.written) in
    subst (λ (x : List ℕ). Halted [] x told told') whole (halted_more [] front (run intake (after_all intake (none_taken s) took.done) rest.0) told told' halted)

-- So far the first items were taken in.
pub took_first : (holding : Holding) (seen : Seen) (s : State) (text : List ℕ) (ahead : Option At) (told told' : Option (List ℕ)) (added refused : ℕ)
    → TookIn holding seen s text ahead told told' added refused → TookFirst holding s (items_of text) told told'
took_first holding seen s text ahead told told' added refused took =
    let rest = behind_some text ahead took.done took.behind in
    record { done = took.done; left = rest.0; all = rest.1; seen = seen; stands = took.stands.stands; written = took.written }

pub first_read : (e : Halt) (holding : Holding) (s : State) (items : List Item) (told told' : Option (List ℕ)) → IsBodyFault e → TookFirst holding s items told told' → TakesFirst holding s items told told' e
first_read (halt.Device stop.Read) holding s items told told' fault first = first
first_read (halt.Device stop.Files) holding s items told told' fault first = first
first_read (halt.Device stop.Write) holding s items told told' fault first = tt
first_read (halt.Device stop.Memory) holding s items told told' fault first = tt
first_read (halt.Changed game kept found) holding s items told told' fault first = absurd fault

-- The files failed at the next one, which is not taken in then.
pub first_added : (e : Halt) (holding holding' : Holding) (s : State) (items : List Item) (told told' told'' : Option (List ℕ)) → IsFault e → (e ≡ halt.Device stop.Files → holding' ≡ holding) → Unsaid e told' told''
    → TookFirst holding s items told told' → TakesFirst holding' s items told told'' e
first_added (halt.Device stop.Files) holding holding' s items told told' told'' fault kept unsaid first =
    let P : Holding → Type 0 = λ h. TookFirst h s items told told'' in
    let Q : Option (List ℕ) → Type 0 = λ t. TookFirst holding s items told t in
    subst P (sym (kept refl)) (subst Q (sym (unsaid refl)) first)
first_added (halt.Device stop.Write) holding holding' s items told told' told'' fault kept unsaid first = tt
first_added (halt.Device stop.Memory) holding holding' s items told told' told'' fault kept unsaid first = tt
first_added (halt.Device stop.Read) holding holding' s items told told' told'' fault kept unsaid first = absurd fault
first_added (halt.Changed game was found) holding holding' s items told told' told'' fault kept unsaid first = absurd fault

-- The next one was broken off.
pub took_cut : (holding : Holding) (seen : Seen) (s : State) (text : List ℕ) (ahead ahead' : Option At) (told told' told'' : Option (List ℕ)) (added refused : ℕ) (item : Item) (e : Halt)
    → (took : TookIn holding seen s text ahead told told' added refused) → Follows ahead (Some item) ahead'
    → Cut (IsFault e) (item_text (after_all intake (none_taken s) took.done) item) told' told''
    → Halted [] (run intake (none_taken s) (items_of text)) told told''
took_cut holding seen s text ahead ahead' told told' told'' added refused item e took follows cut =
    let rest = behind_next text ahead ahead' took.done item took.behind follows in
    let did : Did intake (none_taken s) (items_of text) told (after_all intake (none_taken s) took.done) (item ∷ rest.0) told' =
    record { done = took.done; all = rest.1; state = refl; written = took.written } in
    stopped_begins intake (λ _ _ _. IsFault e) (none_taken s) (items_of text) told told''
    (stops intake (λ _ _ _. IsFault e) (none_taken s) (after_all intake (none_taken s) took.done) (items_of text) item rest.0 told told' told'' did cut)

-- ---- what ends it early

pub body_fault : (e : Halt) → IsFault e → IsBodyFault e
body_fault (halt.Device s) fault = tt
body_fault (halt.Changed game kept found) fault = absurd fault

pub body_device : (e : Halt) → IsDevice e → IsBodyFault e
body_device (halt.Device s) device = tt
body_device (halt.Changed game kept found) device = absurd device

-- An item that is no game counts as refused.
pub refused_counts : (i : Intake) → Counted false i (one_refused i)
refused_counts i = record { added = omega arith; refused = refl }

-- Of an item that was taken in the line was written, or was broken off.
pub item_written : (r : Result Bool Halt) (holding : Holding) (seen : Seen) (i : Intake) (item : Item) (line : List ℕ) (told told' : Option (List ℕ))
    → Stands holding seen (item_after i item).state → line ≡ item_text i item → OnOk r (told' ≡ adds told line) → Halted [] line told told' → IfErr r IsOutput
    → Serves intake (λ (later : Intake). Stands holding seen later.state) (λ (before : Intake) (one : Item) (end : Halt) (text : List ℕ) (first last : Option (List ℕ)). IsFault end) i item told told' r
item_written (Ok flag) holding seen i item line told told' stands is written halted output =
    record { stands = stands; written = written ∙ ap (λ (l : List ℕ). adds told l) is }
item_written (Err e) holding seen i item line told told' stands is written halted output =
    let P : List ℕ → Type 0 = λ l. Halted [] l told told' in
    record { wrote = subst P is halted; broken = fault_of_output e output }

pub item_counted : (r : Result Bool Halt) (flag : Bool) (i : Intake) (item : Item) → Counted flag i (item_after i item) → IfOk r (λ told. told ≡ flag) → IfOk r (λ told. Counted told i (item_after i item))
item_counted (Ok told) flag i item counted same = let P : Bool → Type 0 = λ b. Counted b i (item_after i item) in subst P (sym same) counted
item_counted (Err e) flag i item counted same = tt

-- ---- the next item

-- How the next one ends the taking in, or how it goes on.
pub took_end : (holding : Holding) (seen : Seen) (s : State) (text : List ℕ) (ahead ahead' : Option At) (told told' : Option (List ℕ)) (added refused : ℕ) (item : Option Item)
    → TookIn holding seen s text ahead told told' added refused → Follows ahead item ahead' → item ≡ None → TookNext holding seen s text ahead' told told' added refused (Ok None)
took_end holding seen s text ahead ahead' told told' added refused item took follows none =
    let F : Option Item → Type 0 = λ o. Follows ahead o ahead' in
    took_all holding seen s text ahead ahead' told told' added refused took (subst F none follows)

pub took_one : (holding holding' : Holding) (seen seen' : Seen) (s : State) (text : List ℕ) (ahead ahead' : Option At) (told told' told'' : Option (List ℕ)) (added refused : ℕ) (item : Item) (flag : Bool)
    → (took : TookIn holding seen s text ahead told told' added refused) → Follows ahead (Some item) ahead'
    → Done (λ (later : Intake). Stands holding' seen' later.state) (item_after (after_all intake (none_taken s) took.done) item) (item_text (after_all intake (none_taken s) took.done) item) told' told''
    → Counted flag (after_all intake (none_taken s) took.done) (item_after (after_all intake (none_taken s) took.done) item)
    → TookNext holding' seen' s text ahead' told told'' added refused (Ok (Some flag))
took_one holding holding' seen seen' s text ahead ahead' told told' told'' added refused item flag took follows did counted =
    took_more holding holding' seen seen' s text ahead ahead' told told' told'' added refused (added + (if flag then 1 else 0)) (refused + (if flag then 0 else 1)) item flag took follows did counted refl refl

-- A flag as a number.
pub flag_number : (flag : Bool) → bool_byte flag ≡ (if flag then 1 else 0)
flag_number true = refl
flag_number false = refl

-- The counts with it.
rest_of : (flag : Bool) (added taken n : ℕ) → added ≤ taken → n ≡ (if flag then 1 else 0) → (taken - added) + (if flag then 0 else 1) ≡ taken + 1 - (added + n)
rest_of true added taken n few is = omega arith
rest_of false added taken n few is = omega arith

pub flag_few : (flag : Bool) (added taken n : ℕ) → added ≤ taken → n ≡ (if flag then 1 else 0) → added + n ≤ taken + 1
flag_few true added taken n few is = omega arith
flag_few false added taken n few is = omega arith

pub took_on : (holding : Holding) (seen : Seen) (s : State) (text : List ℕ) (ahead : Option At) (told told' : Option (List ℕ)) (added taken n : ℕ) (next : Option Bool) (flag : Bool)
    → next ≡ Some flag → added ≤ taken → n ≡ (if flag then 1 else 0) → TookNext holding seen s text ahead told told' added (taken - added) (Ok next)
    → TookIn holding seen s text ahead told told' (added + n) (taken + 1 - (added + n))
took_on holding seen s text ahead told told' added taken n next flag some few is took =
    let N : Option Bool → Type 0 = λ o. TookNext holding seen s text ahead told told' added (taken - added) (Ok o) in
    let A : ℕ → Type 0 = λ a. TookIn holding seen s text ahead told told' a ((taken - added) + (if flag then 0 else 1)) in
    let R : ℕ → Type 0 = λ r. TookIn holding seen s text ahead told told' (added + n) r in
    let more : added + (if flag then 1 else 0) ≡ added + n = ap (λ (m : ℕ). added + m) (sym is) in
    subst R (rest_of flag added taken n few is) (subst A more (subst N some took))

-- None was left.
pub took_last : (holding : Holding) (seen : Seen) (s : State) (text : List ℕ) (ahead : Option At) (told told' : Option (List ℕ)) (added refused : ℕ) (next : Option Bool)
    → next ≡ None → TookNext holding seen s text ahead told told' added refused (Ok next) → TakesIn holding seen s (items_of text) told told' (Ok (added, refused))
took_last holding seen s text ahead told told' added refused next none took =
    let N : Option Bool → Type 0 = λ o. TookNext holding seen s text ahead told told' added refused (Ok o) in
    subst N none took

-- ---- what the files carry then

unless_keeps : (why : Option Refusal) (i : Intake) (head : Head) (game : GameTree) → (unless_not_added why i head game).state.shared.carried ≡ i.state.shared.carried
unless_keeps (Some why) i head game = refl
unless_keeps None i head game = refl

pub item_keeps : (i : Intake) (item : Item) → (item_after i item).state.shared.carried ≡ i.state.shared.carried
item_keeps i (Good head game) = unless_keeps (not_added i.state.shared head game) i head game
item_keeps i (Bad fault) = refl
