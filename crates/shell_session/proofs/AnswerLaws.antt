-- What the parts of a session say, put together: its answer to what it was given.
use Rattle.std.proofs.Common.{◌≡◌, ◌≤◌, ◌<◌, ◌+◌, ◌⊎◌, inl, inr, ℕ, Bool, List, [], ◌∷◌, ◌++◌, length, Option, Some, None, IfSome, refl, ap, ◌∙◌, subst, sym, arith}
use Rattle.std.specs.Prelude.{IsSomeAnd}
use Rattle.base_files.specs.Chosen.{Choice, choice}
use Rattle.base_files.specs.Counters.{Rose}
use Rattle.base_files.proofs.Rising.{Rose-after}
use Rattle.base_files.proofs.Telling.{Grew-refl}
use Rattle.base_core.specs.declared.fault.BaseFault.{BaseFault}
use Rattle.script_lines.specs.Script.{longest_script}
use Rattle.base_files.specs.Seen.{SameContents, Seen}
use Rattle.base_files.specs.Told.{Grew, adds}
use Rattle.base_files.specs.declared.faults.Stop.{Stop}
use Rattle.base_files.specs.declared.faults.Stop.TheVariants as stop
use Rattle.base_core.specs.Opening.{IfTold, Refuses, is_created}
use Rattle.command_runs.specs.Counts.{Why, counts}
use Rattle.command_runs.specs.Endings.{Halted, NoneLost}
use Rattle.desk_commands.specs.Desk.{Desk, desk_begin}
use Rattle.desk_commands.specs.Standing.{DeskHolding}
use Rattle.filter_seat.specs.Seats.{first_seat}
use Rattle.shell_session.proofs.ViewLaws.{lives_first, none_told, show_none}
use Rattle.shell_session.specs.Around.{Around, Lives, Views, around, slots_by}
use Rattle.shell_session.specs.Running.{Interrupts, Opening, OpeningRefused}
use Rattle.shell_session.specs.Session.{Answers, Chooses, ChoosesBase, Reads, StaysIfRefused, WhyStatus, Due, Given, Inlet, Opened, RanAll, RanPart, Unbegun, begun, given, opening_text}
use Rattle.session_status.specs.Stops.{status_of}
use Rattle.shell_session.specs.Words.{Wanted, words_read}
use Rattle.session_status.specs.declared.status.Status.{Status}
use Rattle.session_status.specs.declared.status.Status.TheVariants.{Done, Usage, BadBase, ReadFault, WriteFault, FilesFault, Changed, InputTooLong, Memory}

-- What is known where the three contents are told.
pub told : (seen : Seen) (F : List ℕ → List ℕ → List ℕ → Type 0) (index names games : List ℕ) → IfTold seen F → seen.index ≡ Some index → seen.names ≡ Some names → seen.games ≡ Some games → F index names games
told seen F index names games known i n g =
    let I : Option (List ℕ) → Type 0 = λ o. IfSome o (λ index. IfSome seen.names (λ names. IfSome seen.games (λ games. F index names games))) in
    let N : Option (List ℕ) → Type 0 = λ o. IfSome o (λ names. IfSome seen.games (λ games. F index names games)) in
    let G : Option (List ℕ) → Type 0 = λ o. IfSome o (λ games. F index names games) in
    subst G g (subst N n (subst I i known))

-- The contents are those that were given.
pub as_given : (words : List (List ℕ)) (index names games script : List ℕ) (views : Views) (seen seen' : Seen) (input : Inlet) → SameContents seen seen' → seen.index ≡ Some index → seen.names ≡ Some names → seen.games ≡ Some games
    → Unbegun (given words index names games seen.fresh script views) input input (around seen' views none_told views)
as_given words index names games script views seen seen' input same i n g = record { unread = refl; index = same.index ∙ i; names = same.names ∙ n; games = same.games ∙ g; views = refl }

-- The opening refused.
pub opening_answers : (words : List (List ℕ)) (index names games script : List ℕ) (views : Views) (seen seen' : Seen) (t : Option (List ℕ)) (input : Inlet) (wanted : Wanted (List ℕ)) (status : Status)
    → words_read words ≡ Some wanted → OpeningRefused wanted.create wanted.strict seen status → SameContents seen seen'
    → seen.index ≡ Some index → seen.names ≡ Some names → seen.games ≡ Some games
    → Answers (given words index names games seen.fresh script views) t t input input (around seen' views none_told views) status
opening_answers words index names games script views seen seen' t input wanted (BadBase fault) said refused same i n g =
    let P : Option (Wanted (List ℕ)) → Type 0 = λ o. IsSomeAnd o (λ w. Refuses w.create w.strict index names games fault) in
    (subst P (sym said) (told seen (λ index names games. Refuses wanted.create wanted.strict index names games fault) index names games refused i n g), refl, as_given words index names games script views seen seen' input same i n g)
opening_answers words index names games script views seen seen' t input wanted FilesFault said refused same i n g = inl (refl, as_given words index names games script views seen seen' input same i n g)
opening_answers words index names games script views seen seen' t input wanted Memory said refused same i n g = inl (refl, as_given words index names games script views seen seen' input same i n g)
opening_answers words index names games script views seen seen' t input wanted Done said refused same i n g = absurd refused
opening_answers words index names games script views seen seen' t input wanted Usage said refused same i n g = absurd refused
opening_answers words index names games script views seen seen' t input wanted ReadFault said refused same i n g = absurd refused
opening_answers words index names games script views seen seen' t input wanted WriteFault said refused same i n g = absurd refused
opening_answers words index names games script views seen seen' t input wanted InputTooLong said refused same i n g = absurd refused
opening_answers words index names games script views seen seen' t input wanted (Changed game kept found) said refused same i n g = absurd refused

-- The base was opened.
abbrev pub opened : (words : List (List ℕ)) (index names games : List ℕ) (fresh : Option (List ℕ)) (script : List ℕ) (views : Views) (seen : Seen) (wanted : Wanted (List ℕ)) (held : DeskHolding) (mended : ℕ)
    → words_read words ≡ Some wanted → (o : Opening wanted.create wanted.strict wanted.desk index names games fresh held seen mended)
    → Opened (given words index names games fresh script views)
opened words index names games fresh script views seen wanted held mended said o =
    record { base = o.base; mended = mended; wanted = wanted; words = said; means = o.means; mends = o.mends; faultless = o.faultless }

none_rose : Rose 0 0 → ⊥
none_rose (inl rose) = absurd (omega (arith, rose))
none_rose (inr last) = absurd (omega (arith, last))

-- The opening line was broken off.
pub line_answers : (g : Given) (t t' : Option (List ℕ)) (input : Inlet) (around' : Around) (s : Stop) (k k' : ℕ)
    → (o : Opened g) → Halted [] (opening_text (length o.base.games) o.mended) t t' → Unbegun g input input around' → Why s (counts 0 0 k) (counts 0 0 k')
    → Answers g t t' input input around' (status_of s)
line_answers g t t' input around' stop.Read k k' base_open wrote unbegun why = absurd (none_rose why)
line_answers g t t' input around' stop.Files k k' base_open wrote unbegun why = absurd (none_rose why)
line_answers g t t' input around' stop.Write k k' base_open wrote unbegun why = inl (record { opened = base_open; wrote = wrote; unbegun = unbegun })
line_answers g t t' input around' stop.Memory k k' base_open wrote unbegun why = inr (inl (record { opened = base_open; wrote = wrote; unbegun = unbegun }))

-- The run of the script stopped.
pub part_answers : (g : Given) (t t' : Option (List ℕ)) (input input' : Inlet) (around' : Around) (status : Status)
    → (o : Opened g) → RanPart status (begun g o) g.script (adds t (opening_text (length o.base.games) o.mended)) t' input'.left around' → Interrupts status
    → Answers g t t' input input' around' status
part_answers g t t' input input' around' WriteFault base_open ran stops = inr (record { opened = base_open; ran = ran })
part_answers g t t' input input' around' FilesFault base_open ran stops = inr (record { opened = base_open; ran = ran })
part_answers g t t' input input' around' Memory base_open ran stops = inr (inr (record { opened = base_open; ran = ran }))
part_answers g t t' input input' around' Done base_open ran stops = absurd stops
part_answers g t t' input input' around' Usage base_open ran stops = absurd stops
part_answers g t t' input input' around' (BadBase fault) base_open ran stops = absurd stops
part_answers g t t' input input' around' status base_open ran stops = record { opened = base_open; ran = ran }

-- Where no device has a fault, the status is due, or memory ran out.
pub due_of : (g : Given) (t t' : Option (List ℕ)) (input input' : Inlet) (around' : Around) (status : Status) (f f' i i' k k' : ℕ) → Answers g t t' input input' around' status
    → WhyStatus status (counts f i k) (counts f' i' k') → (Rose f f' → ⊥) → (Rose i i' → ⊥) → (Rose k k' → ⊥) → (status ≡ Memory) ⊎ Due g status
due_of g t t' input input' around' Done f f' i i' k k' answer why no_files no_input no_output = inr (answer.0, answer.1.within)
due_of g t t' input input' around' Usage f f' i i' k k' answer why no_files no_input no_output = inr answer.0
due_of g t t' input input' around' (BadBase fault) f f' i i' k k' answer why no_files no_input no_output = inr answer.0
due_of g t t' input input' around' ReadFault f f' i i' k k' answer why no_files no_input no_output = absurd (no_input why)
due_of g t t' input input' around' WriteFault f f' i i' k k' answer why no_files no_input no_output = absurd (no_output why)
due_of g t t' input input' around' FilesFault f f' i i' k k' answer why no_files no_input no_output = absurd (no_files why)
due_of g t t' input input' around' (Changed game kept found) f f' i i' k k' answer why no_files no_input no_output = absurd answer.ran.broken.broken
due_of g t t' input input' around' InputTooLong f f' i i' k k' answer why no_files no_input no_output = inr (answer.opened, answer.ran.lines.0)
due_of g t t' input input' around' Memory f f' i i' k k' answer why no_files no_input no_output = inl refl

-- ---- for every files, input and output

pub words_opening : (create strict : Bool) (seen : Seen) (status : Status) → OpeningRefused create strict seen status → status ≡ Usage → ⊥
words_opening create strict seen Usage refused is = absurd refused
words_opening create strict seen Done refused is = absurd refused
words_opening create strict seen (BadBase fault) refused is = cc
words_opening create strict seen ReadFault refused is = absurd refused
words_opening create strict seen WriteFault refused is = absurd refused
words_opening create strict seen FilesFault refused is = cc
words_opening create strict seen (Changed game kept found) refused is = absurd refused
words_opening create strict seen InputTooLong refused is = absurd refused
words_opening create strict seen Memory refused is = cc

pub words_running : (status : Status) → Interrupts status → status ≡ Usage → ⊥
words_running Usage stops is = absurd stops
words_running Done stops is = absurd stops
words_running (BadBase fault) stops is = absurd stops
words_running ReadFault stops is = cc
words_running WriteFault stops is = cc
words_running FilesFault stops is = cc
words_running (Changed game kept found) stops is = cc
words_running InputTooLong stops is = cc
words_running Memory stops is = cc

-- Words that were read are not refused.
pub words_refused : {A : Type 0} (read : Option A) (wanted : A) → read ≡ None → read ≡ Some wanted → ⊥
words_refused None wanted none some = cc
words_refused (Some x) wanted none some = cc

not_memory_bad : (fault : BaseFault) → BadBase fault ≡ Memory → ⊥
not_memory_bad fault is = cc

not_memory_files : FilesFault ≡ Memory → ⊥
not_memory_files is = cc

-- The base of the words was chosen.
pub chosen : (words : List (List ℕ)) (wanted : Wanted (List ℕ)) (old new : List Choice) → words_read words ≡ Some wanted → new ≡ old ++ choice wanted.name wanted.create ∷ [] → ChoosesBase words old new
chosen words wanted old new said chose =
    let P : Option (Wanted (List ℕ)) → Type 0 = λ o. IsSomeAnd o (λ w. new ≡ old ++ choice w.name w.create ∷ []) in
    subst P (sym said) chose

pub chooses_opening : (create strict : Bool) (seen : Seen) (status : Status) (words : List (List ℕ)) (wanted : Wanted (List ℕ)) (old new : List Choice)
    → OpeningRefused create strict seen status → words_read words ≡ Some wanted
    → ((status ≡ Memory) × (new ≡ old)) ⊎ (new ≡ old ++ choice wanted.name wanted.create ∷ []) → Chooses status words old new
chooses_opening create strict seen (BadBase fault) words wanted old new refused said (inl none) = absurd (not_memory_bad fault none.0)
chooses_opening create strict seen (BadBase fault) words wanted old new refused said (inr chose) = chosen words wanted old new said chose
chooses_opening create strict seen FilesFault words wanted old new refused said (inl none) = absurd (not_memory_files none.0)
chooses_opening create strict seen FilesFault words wanted old new refused said (inr chose) = chosen words wanted old new said chose
chooses_opening create strict seen Memory words wanted old new refused said (inl none) = inl none.1
chooses_opening create strict seen Memory words wanted old new refused said (inr chose) = inr (chosen words wanted old new said chose)
chooses_opening create strict seen Usage words wanted old new refused said chose = absurd refused
chooses_opening create strict seen Done words wanted old new refused said chose = absurd refused
chooses_opening create strict seen ReadFault words wanted old new refused said chose = absurd refused
chooses_opening create strict seen WriteFault words wanted old new refused said chose = absurd refused
chooses_opening create strict seen (Changed game kept found) words wanted old new refused said chose = absurd refused
chooses_opening create strict seen InputTooLong words wanted old new refused said chose = absurd refused

pub chooses_running : (status : Status) (words : List (List ℕ)) (old new : List Choice) → Interrupts status → ChoosesBase words old new → Chooses status words old new
chooses_running ReadFault words old new stops chose = chose
chooses_running WriteFault words old new stops chose = chose
chooses_running FilesFault words old new stops chose = chose
chooses_running (Changed game kept found) words old new stops chose = chose
chooses_running InputTooLong words old new stops chose = chose
chooses_running Memory words old new stops chose = inr chose
chooses_running Usage words old new stops chose = absurd stops
chooses_running Done words old new stops chose = absurd stops
chooses_running (BadBase fault) words old new stops chose = absurd stops

-- A device's early end.
pub stop_interrupts : (s : Stop) → Interrupts (status_of s)
stop_interrupts stop.Read = tt
stop_interrupts stop.Write = tt
stop_interrupts stop.Files = tt
stop_interrupts stop.Memory = tt

-- What stays as it is: nothing where a run stopped, and what is said of it.
pub stays_running : {A : Type 0} (status : Status) (old new : A) → Interrupts status → StaysIfRefused status old new
stays_running Usage old new stops = absurd stops
stays_running (BadBase fault) old new stops = absurd stops
stays_running _ old new stops = tt

pub stays_same : {A : Type 0} (status : Status) (old : A) → StaysIfRefused status old old
stays_same Usage old = refl
stays_same (BadBase fault) old = refl
stays_same _ old = tt

pub stays_line : {A : Type 0} (s : Stop) (old new : A) → StaysIfRefused (status_of s) old new
stays_line s old new = stays_running (status_of s) old new (stop_interrupts s)

pub reads_running : (status : Status) (old new : Inlet) → Interrupts status → (status ≡ InputTooLong → new.budget + longest_script < old.budget) → Reads status old new
reads_running status old new stops long = (stays_running status old new stops, long)

never_long : (create strict : Bool) (seen : Seen) (status : Status) → OpeningRefused create strict seen status → status ≡ InputTooLong → ⊥
never_long create strict seen InputTooLong refused is = absurd refused
never_long create strict seen _ refused is = cc

pub reads_opening : (create strict : Bool) (seen : Seen) (status : Status) (input : Inlet) → OpeningRefused create strict seen status → Reads status input input
reads_opening create strict seen status input refused = (stays_same status input, λ is. absurd (never_long create strict seen status refused is))

line_long : (s : Stop) → status_of s ≡ InputTooLong → ⊥
line_long stop.Read is = cc
line_long stop.Write is = cc
line_long stop.Files is = cc
line_long stop.Memory is = cc

pub reads_line : (s : Stop) (input : Inlet) → Reads (status_of s) input input
reads_line s input = (stays_same (status_of s) input, λ is. absurd (line_long s is))

-- The cause where the opening refused: the files', if it is one of a device.
pub why_opening : (create strict : Bool) (seen : Seen) (status : Status) (f f' i k : ℕ) → OpeningRefused create strict seen status → (status ≡ FilesFault → Rose f f') → WhyStatus status (counts f i k) (counts f' i k)
why_opening create strict seen (BadBase fault) f f' i k refused rose = tt
why_opening create strict seen FilesFault f f' i k refused rose = rose refl
why_opening create strict seen Memory f f' i k refused rose = tt
why_opening create strict seen Usage f f' i k refused rose = absurd refused
why_opening create strict seen Done f f' i k refused rose = absurd refused
why_opening create strict seen ReadFault f f' i k refused rose = absurd refused
why_opening create strict seen WriteFault f f' i k refused rose = absurd refused
why_opening create strict seen (Changed game kept found) f f' i k refused rose = absurd refused
why_opening create strict seen InputTooLong f f' i k refused rose = absurd refused

-- The cause where the opening line was broken off.
pub why_line : (s : Stop) (f f' i k k' : ℕ) → Why s (counts 0 0 k) (counts 0 0 k') → WhyStatus (status_of s) (counts f i k) (counts f' i k')
why_line stop.Read f f' i k k' why = absurd (none_rose why)
why_line stop.Files f f' i k k' why = absurd (none_rose why)
why_line stop.Write f f' i k k' why = why
why_line stop.Memory f f' i k k' why = tt

-- The cause where the run of the script stopped, of what the devices counted since the session began.
pub why_running : (status : Status) (f f' f'' i i' k k' k'' : ℕ) → f ≤ f' → k ≤ k' → WhyStatus status (counts f' i k') (counts f'' i' k'') → WhyStatus status (counts f i k) (counts f'' i' k'')
why_running ReadFault f f' f'' i i' k k' k'' files out why = why
why_running WriteFault f f' f'' i i' k k' k'' files out why = Rose-after _ _ _ out why
why_running FilesFault f f' f'' i i' k k' k'' files out why = Rose-after _ _ _ files why
why_running (Changed game kept found) f f' f'' i i' k k' k'' files out why = why
why_running InputTooLong f f' f'' i i' k k' k'' files out why = tt
why_running Memory f f' f'' i i' k k' k'' files out why = tt
why_running Usage f f' f'' i i' k k' k'' files out why = tt
why_running Done f f' f'' i i' k k' k'' files out why = tt
why_running (BadBase fault) f f' f'' i i' k k' k'' files out why = tt

-- ---- the ways in which a session returns

-- The words say nothing.
pub usage_answers : (g : Given) (t : Option (List ℕ)) (input : Inlet) (around' : Around) → words_read g.words ≡ None → Unbegun g input input around' → Answers g t t input input around' Usage
usage_answers g t input around' none unbegun = (none, refl, unbegun)

pub usage_due : (g : Given) → words_read g.words ≡ None → Due g Usage
usage_due g none = none

pub usage_chooses : (words : List (List ℕ)) (old : List Choice) → Chooses Usage words old old
usage_chooses words old = refl

usage_long : Usage ≡ InputTooLong → ⊥
usage_long is = cc

pub usage_reads : (input : Inlet) → Reads Usage input input
usage_reads input = (refl, λ is. absurd (usage_long is))

-- The script was run to its end.
pub whole_answers : (g : Given) (t t' : Option (List ℕ)) (input input' : Inlet) (around' : Around)
    → (o : Opened g) → RanAll (begun g o) g.script (adds t (opening_text (length o.base.games) o.mended)) t' input'.left around' → Answers g t t' input input' around' Done
whole_answers g t t' input input' around' base_open ran = (base_open, ran)

pub done_chooses : (words : List (List ℕ)) (old new : List Choice) → ChoosesBase words old new → Chooses Done words old new
done_chooses words old new chose = chose

done_long : Done ≡ InputTooLong → ⊥
done_long is = cc

pub done_reads : (old new : Inlet) → Reads Done old new
done_reads old new = (tt, λ is. absurd (done_long is))

-- ---- the session from its parts

-- The opening line of the base that was opened.
count_of : (create strict desk : Bool) (index names games : List ℕ) (fresh : Option (List ℕ)) (held : DeskHolding) (seen : Seen) (mended count : ℕ) → (o : Opening create strict desk index names games fresh held seen mended)
    → count ≡ length held.holding.kept.entries → opening_text count mended ≡ opening_text (length o.base.games) mended
count_of create strict desk index names games fresh held seen mended count o same = ap (λ n. opening_text n mended) (same ∙ ((o.stands (slots_by []) (show_none [])).stands (first_seat 0)).base.count)

-- The opening line was broken off.
pub line_session : (words : List (List ℕ)) (index names games script : List ℕ) (views : Views) (seen seen' : Seen) (wanted : Wanted (List ℕ)) (held : DeskHolding) (mended count : ℕ) (t t' : Option (List ℕ)) (input : Inlet) (s : Stop) (k k' : ℕ)
    → words_read words ≡ Some wanted
    → IfTold seen (λ index names games. Opening wanted.create wanted.strict wanted.desk index names games seen.fresh held seen' mended)
    → count ≡ length held.holding.kept.entries → Halted [] (opening_text count mended) t t' → SameContents seen seen' → Why s (counts 0 0 k) (counts 0 0 k')
    → seen.index ≡ Some index → seen.names ≡ Some names → seen.games ≡ Some games
    → Answers (given words index names games seen.fresh script views) t t' input input (around seen' views none_told views) (status_of s)
line_session words index names games script views seen seen' wanted held mended count t t' input s k k' said opens same wrote files why i n g =
    let o : Opening wanted.create wanted.strict wanted.desk index names games seen.fresh held seen' mended =
    told seen (λ index names games. Opening wanted.create wanted.strict wanted.desk index names games seen.fresh held seen' mended) index names games opens i n g in
    let P : List ℕ → Type 0 = λ text. Halted [] text t t' in
    line_answers (given words index names games seen.fresh script views) t t' input (around seen' views none_told views) s k k' (opened words index names games seen.fresh script views seen' wanted held mended said o)
    (subst P (count_of wanted.create wanted.strict wanted.desk index names games seen.fresh held seen' mended count o same) wrote) (as_given words index names games script views seen seen' input files i n g) why

-- The script was run to its end.
pub whole_session : (words : List (List ℕ)) (index names games script : List ℕ) (views : Views) (seen seen' seen'' : Seen) (views'' : Views) (wanted : Wanted (List ℕ)) (held : DeskHolding) (mended count : ℕ) (t t' t'' : Option (List ℕ)) (input input' : Inlet)
    → words_read words ≡ Some wanted
    → IfTold seen (λ index names games. Opening wanted.create wanted.strict wanted.desk index names games seen.fresh held seen' mended)
    → length views ≤ 8 → (now later : Views) → now ≡ views → later ≡ views'' → count ≡ length held.holding.kept.entries → t' ≡ adds t (opening_text count mended)
    → ((d : Desk) (first : Views) (most : ℕ → ℕ) (script : List ℕ) → Lives held (around seen' first most now) d → input.left ≡ Some script → RanAll d script t' t'' input'.left (around seen'' first most later))
    → seen.index ≡ Some index → seen.names ≡ Some names → seen.games ≡ Some games → input.left ≡ Some script
    → Answers (given words index names games seen.fresh script views) t t'' input input' (around seen'' views none_told views'') Done
whole_session words index names games script views seen seen' seen'' views'' wanted held mended count t t' t'' input input' said opens few now later lent left_there same wrote ran i n g left =
    let o : Opening wanted.create wanted.strict wanted.desk index names games seen.fresh held seen' mended =
    told seen (λ index names games. Opening wanted.create wanted.strict wanted.desk index names games seen.fresh held seen' mended) index names games opens i n g in
    let P : Option (List ℕ) → Type 0 = λ x. RanAll (desk_begin wanted.desk (is_created wanted.create index names games) seen.fresh (slots_by views) o.base) script x t'' input'.left (around seen'' views none_told views'') in
    whole_answers (given words index names games seen.fresh script views) t t'' input input' (around seen'' views none_told views'') (opened words index names games seen.fresh script views seen' wanted held mended said o)
    (subst P (wrote ∙ ap (adds t) (count_of wanted.create wanted.strict wanted.desk index names games seen.fresh held seen' mended count o same)) (subst (λ (v : Views). RanAll (desk_begin wanted.desk (is_created wanted.create index names games) seen.fresh (slots_by views) o.base) script t' t'' input'.left (around seen'' views none_told v)) left_there (ran (desk_begin wanted.desk (is_created wanted.create index names games) seen.fresh (slots_by views) o.base) views none_told script (subst (λ (v : Views). Lives held (around seen' views none_told v) (desk_begin wanted.desk (is_created wanted.create index names games) seen.fresh (slots_by views) o.base)) (sym lent) (lives_first held seen' views wanted.desk (is_created wanted.create index names games) seen.fresh o.base few (o.stands (slots_by views) (show_none views)))) left)))

-- The run of the script stopped.
pub part_session : (words : List (List ℕ)) (index names games script : List ℕ) (views : Views) (seen seen' seen'' : Seen) (views'' : Views) (wanted : Wanted (List ℕ)) (held : DeskHolding) (mended count : ℕ) (t t' t'' : Option (List ℕ)) (input input' : Inlet) (status : Status)
    → words_read words ≡ Some wanted
    → IfTold seen (λ index names games. Opening wanted.create wanted.strict wanted.desk index names games seen.fresh held seen' mended)
    → length views ≤ 8 → (now later : Views) → now ≡ views → later ≡ views'' → count ≡ length held.holding.kept.entries → t' ≡ adds t (opening_text count mended)
    → ((d : Desk) (first : Views) (most : ℕ → ℕ) (script : List ℕ) → Lives held (around seen' first most now) d → input.left ≡ Some script → RanPart status d script t' t'' input'.left (around seen'' first most later)) → Interrupts status
    → seen.index ≡ Some index → seen.names ≡ Some names → seen.games ≡ Some games → input.left ≡ Some script
    → Answers (given words index names games seen.fresh script views) t t'' input input' (around seen'' views none_told views'') status
part_session words index names games script views seen seen' seen'' views'' wanted held mended count t t' t'' input input' status said opens few now later lent left_there same wrote ran stops i n g left =
    let o : Opening wanted.create wanted.strict wanted.desk index names games seen.fresh held seen' mended =
    told seen (λ index names games. Opening wanted.create wanted.strict wanted.desk index names games seen.fresh held seen' mended) index names games opens i n g in
    let P : Option (List ℕ) → Type 0 = λ x. RanPart status (desk_begin wanted.desk (is_created wanted.create index names games) seen.fresh (slots_by views) o.base) script x t'' input'.left (around seen'' views none_told views'') in
    part_answers (given words index names games seen.fresh script views) t t'' input input' (around seen'' views none_told views'') status (opened words index names games seen.fresh script views seen' wanted held mended said o)
    (subst P (wrote ∙ ap (adds t) (count_of wanted.create wanted.strict wanted.desk index names games seen.fresh held seen' mended count o same)) (subst (λ (v : Views). RanPart status (desk_begin wanted.desk (is_created wanted.create index names games) seen.fresh (slots_by views) o.base) script t' t'' input'.left (around seen'' views none_told v)) left_there (ran (desk_begin wanted.desk (is_created wanted.create index names games) seen.fresh (slots_by views) o.base) views none_told script (subst (λ (v : Views). Lives held (around seen' views none_told v) (desk_begin wanted.desk (is_created wanted.create index names games) seen.fresh (slots_by views) o.base)) (sym lent) (lives_first held seen' views wanted.desk (is_created wanted.create index names games) seen.fresh o.base few (o.stands (slots_by views) (show_none views)))) left))) stops

-- The opening line stands in what was written where nothing that was written is lost.
pub opened_by : (t t' t'' : Option (List ℕ)) (games mended : ℕ) → t' ≡ adds t (opening_text games mended) → NoneLost t' t'' → (n m : ℕ) × Grew (adds t (opening_text n m)) t''
opened_by t t' t'' games mended written none_lost =
    let front : List ℕ = opening_text games mended in
    (games, mended, none_lost (adds t front) (subst (λ (o : Option (List ℕ)). Grew (adds t front) o) (sym written) (Grew-refl (adds t front))))
