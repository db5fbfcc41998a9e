-- What a session answers, of what it was given, in terms of plain values. This project's own.
use Rattle.std.specs.Prelude.{◌≡◌, ◌≤◌, ◌<◌, ℕ, ◌+◌, ◌⊎◌, ⊤, Bool, IfSome, IsSomeAnd, IsTrue, List, [], ◌∷◌, ◌++◌, length, take, Option, Some, None, codes, false}
use Rattle.std.specs.Fmt.{decimal}
use Rattle.base_files.specs.Chosen.{Choice, choice}
use Rattle.base_files.specs.Counters.{Rose}
use Rattle.base_files.specs.Told.{adds, before}
use Rattle.base_core.specs.Base.{Base}
use Rattle.base_core.specs.Opening.{OpensAs, Refuses, is_created, open_cost}
use Rattle.base_core.specs.Represents.{Mended}
use Rattle.base_core.specs.declared.fault.BaseFault.{BaseFault}
use Rattle.command_runs.specs.Counts.{Counts}
use Rattle.command_runs.specs.Endings.{Halted}
use Rattle.command_runs.specs.Plain.{after_all, run}
use Rattle.desk_commands.specs.Desk.{Desk, desk_begin, desks, seen_by}
use Rattle.desk_commands.specs.Standing.{effective, line_left, line_price}
use Rattle.desk_commands.specs.Views.{line_told}
use Rattle.script_lines.specs.Clients.{Tagged, said}
use Rattle.script_lines.specs.Script.{longest_script, piece_len, script_len, script_of, whole_lines}
use Rattle.shell_commands.specs.Tasks.{order_work}
use Rattle.shell_state.specs.Carrying.{AreLeft, Settled, StillCarry}
use Rattle.shell_state.specs.Stands.{Unfinished}
use Rattle.shell_state.specs.Work.{Work}
use Rattle.view_commands.specs.Views.{all_slots}
use Rattle.shell_session.specs.Around.{Around, AreBeside, AreLeftBy, Views, slots_by, summed}
use Rattle.shell_session.specs.Words.{Wanted, words_read}
use Rattle.session_status.specs.declared.status.Status.{Status}
use Rattle.session_status.specs.declared.status.Status.TheVariants.{Done, Usage, BadBase, ReadFault, WriteFault, FilesFault, Changed, InputTooLong, Memory}

-- What a session is given: its words, the three files of the base, what is told of a new games file, the script, and the
-- views of its slots.
pub record Given : Type 0 where
  pub words : List (List ℕ)
  pub index : List ℕ
  pub names : List ℕ
  pub games : List ℕ
  pub fresh : Option (List ℕ)
  pub script : List ℕ
  pub views : Views

abbrev pub given : List (List ℕ) → List ℕ → List ℕ → List ℕ → Option (List ℕ) → List ℕ → Views → Given
given words index names games fresh script views = record { words = words; index = index; names = names; games = games; fresh = fresh; script = script; views = views }

-- What an input shows: the bytes left if it tells them, its budget, and its faults.
pub record Inlet : Type 0 where
  pub left : Option (List ℕ)
  pub budget : ℕ
  pub faults : ℕ

-- ---- opening

-- The words name a base whose files have no fault: they mean this base, or it is created. So many of its entries are mended.
pub record Opened (given : Given) : Type 0 where
  pub base : Base
  pub mended : ℕ
  pub wanted : Wanted (List ℕ)
  pub words : words_read given.words ≡ Some wanted
  pub means : OpensAs wanted.create given.index given.names given.games base
  pub mends : Mended given.index base.games mended
  pub faultless : (fault : BaseFault) → Refuses wanted.create wanted.strict given.index given.names given.games fault → ⊥

-- The desk in which the script begins: of four clients if the words ask for it, and else of one.
abbrev pub begun : (given : Given) → Opened given → Desk
begun given opened = desk_begin opened.wanted.desk (is_created opened.wanted.create given.index given.names given.games) given.fresh (slots_by given.views) opened.base

-- The words name a base whose files have this first fault.
abbrev pub Faulty : Given → BaseFault → Type 0
Faulty given fault = IsSomeAnd (words_read given.words) (λ wanted. Refuses wanted.create wanted.strict given.index given.names given.games fault)

-- `base G games M mended`
abbrev pub opening_text : ℕ → ℕ → List ℕ
opening_text games mended = codes "base " ++ decimal games ++ codes " games " ++ decimal mended ++ codes " mended\n"

-- ---- the run of the script

-- The whole script was run. Its text is written. The input was read to its end or to the line of the `quit` by which
-- its last client ends, and at most so many bytes further. The files carry the base that the last `save` or `compact`
-- left, or the opened one, and mean it if no edit came after. No new games file is begun: what is told of one is as at
-- the beginning, or that it is empty if a `compact` was done. Each view of a slot that shows a tree has the rows of the
-- games that are in then for the slot's owner. One of a slot that was never watched is as before. None was told more
-- changes than the tasks tell it.
pub record RanAll (d : Desk) (script : List ℕ) (told : Option (List ℕ)) (told' : Option (List ℕ)) (later : Option (List ℕ)) (around' : Around) : Type 0 where
  pub written : told' ≡ adds told (run desks d (script_of d.clients.tagged script))
  pub within : script_len d.clients.tagged script ≤ longest_script
  pub front : List ℕ
  pub read : Some script ≡ before front later
  pub enough : script_len d.clients.tagged script ≤ length front
  pub no_further : length front ≤ script_len d.clients.tagged script + piece_len
  pub files : AreLeft around'.seen (after_all desks d (script_of d.clients.tagged script)).shared.carried (after_all desks d (script_of d.clients.tagged script)).shared.unsaved
  pub fresh : around'.seen.fresh ≡ (after_all desks d (script_of d.clients.tagged script)).shared.fresh
  pub views : AreBeside (record around' { most = λ k. around'.most k + summed (λ d next. line_told d next k) d (script_of d.clients.tagged script) })
      (after_all desks d (script_of d.clients.tagged script))

-- What is known of the line that a status breaks off. The files fail only at a line that uses them. Nothing of its text
-- was written then, or not all of it if it writes while it works. No told record was changed.
abbrev pub BrokenBy : Status → Desk → Tagged → Option (List ℕ) → Option (List ℕ) → Type 0
BrokenBy FilesFault d next told told' =
    let work : Work = order_work all_slots (effective d.clients next.client next.task.order) next.task.body in
    IsTrue work.files × Unfinished work.early (desks.text d next) told told'
BrokenBy (Changed game kept found) d next told told' = ⊥
BrokenBy _ d next told told' = ⊤

-- The same, with what remains then. The files carry what they carried, or what the line leaves in their place. Of a
-- line that leaves a base there nothing was written behind what was told, or the files carry what the desk behind it
-- says. The slots that the line does not watch are empty if they were, and the views of idle ones are as they were at
-- the beginning.
pub record Breaks (status : Status) (around' : Around) (told' : Option (List ℕ)) (d : Desk) (next : Tagged) (told : Option (List ℕ)) : Type 0 where
  pub broken : BrokenBy status d next told told'
  pub carries : StillCarry around'.seen (seen_by d 0) (line_left d (said next.client next.task.order))
  pub settled : IfSome (line_left d (said next.client next.task.order)) (λ left. Settled around'.seen (seen_by (desks.after d next) 0) told told')
  pub views : AreLeftBy around' d (said next.client next.task.order)

-- The lines that are done. At a fault of the input they are those that were read with their line feed, and at a script
-- that is too long those that end within the limit. Their clients are four at a desk.
abbrev pub LinesDone : Status → Bool → List ℕ → Option (List ℕ) → List Tagged → Type 0
LinesDone ReadFault desk script later done = (front : List ℕ) × (Some script ≡ before front later) × (done ≡ whole_lines desk front)
LinesDone InputTooLong desk script later done = (longest_script < script_len desk script) × (done ≡ whole_lines desk (take longest_script script))
LinesDone _ desk script later done = ⊤

-- The run stopped in the line `next`: the texts of those before it are written, and of its own a front part, which may be empty.
pub record RanPart (status : Status) (d : Desk) (script : List ℕ) (told : Option (List ℕ)) (told' : Option (List ℕ)) (later : Option (List ℕ)) (around' : Around) : Type 0 where
  pub done : List Tagged
  pub next : Tagged
  pub left : List Tagged
  pub all : script_of d.clients.tagged script ≡ done ++ next ∷ left
  pub wrote : Halted (run desks d done) (run desks d done ++ desks.text (after_all desks d done) next) told told'
  pub broken : Breaks status around' told' (after_all desks d done) next (adds told (run desks d done))
  pub lines : LinesDone status d.clients.tagged script later done

-- ---- the answers

-- Nothing was asked of the input, the files are those that were given, and no view was changed.
pub record Unbegun (given : Given) (input : Inlet) (input' : Inlet) (around' : Around) : Type 0 where
  pub unread : input' ≡ input
  pub index : around'.seen.index ≡ Some given.index
  pub names : around'.seen.names ≡ Some given.names
  pub games : around'.seen.games ≡ Some given.games
  pub views : around'.now ≡ around'.first

-- The session ended in its opening line.
pub record OpeningCut (given : Given) (told : Option (List ℕ)) (told' : Option (List ℕ)) (input : Inlet) (input' : Inlet) (around' : Around) : Type 0 where
  pub opened : Opened given
  pub wrote : Halted [] (opening_text (length opened.base.games) opened.mended) told told'
  pub unbegun : Unbegun given input input' around'

-- The opening line was written, and the run of the script stopped.
pub record ScriptCut (status : Status) (given : Given) (told : Option (List ℕ)) (told' : Option (List ℕ)) (later : Option (List ℕ)) (around' : Around) : Type 0 where
  pub opened : Opened given
  pub ran : RanPart status (begun given opened) given.script (adds told (opening_text (length opened.base.games) opened.mended)) told' later around'

-- What each status says of what was given, of what was written, of what was read, of what the files carry, and of the views. At the end the
-- whole text was written: the opening line, and then what the plain machine of the desk makes of the script. Told records never change.
abbrev pub Answers : Given → Option (List ℕ) → Option (List ℕ) → Inlet → Inlet → Around → Status → Type 0
Answers given told told' input input' around' Done =
    (opened : Opened given)
    × RanAll (begun given opened) given.script (adds told (opening_text (length opened.base.games) opened.mended)) told' input'.left around'
Answers given told told' input input' around' Usage = (words_read given.words ≡ None) × (told' ≡ told) × Unbegun given input input' around'
Answers given told told' input input' around' (BadBase fault) = Faulty given fault × (told' ≡ told) × Unbegun given input input' around'
Answers given told told' input input' around' WriteFault = OpeningCut given told told' input input' around' ⊎ ScriptCut WriteFault given told told' input'.left around'
Answers given told told' input input' around' FilesFault = ((told' ≡ told) × Unbegun given input input' around') ⊎ ScriptCut FilesFault given told told' input'.left around'
Answers given told told' input input' around' Memory =
    ((told' ≡ told) × Unbegun given input input' around')
    ⊎ (OpeningCut given told told' input input' around' ⊎ ScriptCut Memory given told told' input'.left around')
Answers given told told' input input' around' status = ScriptCut status given told told' input'.left around'

-- The status if no device has a fault and memory does not run out.
abbrev pub Due : Given → Status → Type 0
Due given Done = (opened : Opened given) × (script_len opened.wanted.desk given.script ≤ longest_script)
Due given InputTooLong = (opened : Opened given) × (longest_script < script_len opened.wanted.desk given.script)
Due given (BadBase fault) = Faulty given fault
Due given Usage = words_read given.words ≡ None
Due given _ = ⊥

-- ---- bytes asked of the games file

-- A session asks at most the records of all games, to open the base, and if it is open what the lines of its script ask.
abbrev pub Asks : Given → ℕ → ℕ → Type 0
Asks given old new =
    (new ≤ old + open_cost given.index)
    ⊎ ((opened : Opened given) × (new ≤ old + (open_cost given.index
    + summed (λ d next. line_price d (said next.client next.task.order)) (begun given opened) (script_of opened.wanted.desk given.script))))

-- ---- causes, for every files, input and output

-- If a status is that of a device, the device counted a fault; if it is that of a changed record, the record has
-- another signature than the kept one.
abbrev pub WhyStatus : Status → Counts → Counts → Type 0
WhyStatus ReadFault old new = Rose old.input new.input
WhyStatus WriteFault old new = Rose old.output new.output
WhyStatus FilesFault old new = Rose old.files new.files
WhyStatus (Changed game kept found) old new = found ≡ Some kept → ⊥
WhyStatus _ old new = ⊤

-- The base of the words was chosen once, as they say.
abbrev pub ChoosesBase : List (List ℕ) → List Choice → List Choice → Type 0
ChoosesBase words old new = IsSomeAnd (words_read words) (λ wanted. new ≡ old ++ choice wanted.name wanted.create ∷ [])

-- Which bases were chosen: none if the words name none, and none or the one if memory ran out.
abbrev pub Chooses : Status → List (List ℕ) → List Choice → List Choice → Type 0
Chooses Usage words old new = new ≡ old
Chooses Memory words old new = (new ≡ old) ⊎ ChoosesBase words old new
Chooses _ words old new = ChoosesBase words old new

-- What stays as it is if the words or the files refuse: what was written, and what the input shows.
abbrev pub StaysIfRefused : {A : Type 0} → Status → A → A → Type 0
StaysIfRefused Usage old new = new ≡ old
StaysIfRefused (BadBase fault) old new = new ≡ old
StaysIfRefused _ old new = ⊤

-- Nothing was asked of the input then; if the script is too long, more than the limit was read.
abbrev pub Reads : Status → Inlet → Inlet → Type 0
Reads status old new = StaysIfRefused status old new × (status ≡ InputTooLong → new.budget + longest_script < old.budget)
