-- Laws of what the parts of a run keep to.
use Rattle.std.proofs.Common.{◌≡◌, ◌≤◌, ◌<◌, ◌+◌, ℕ, Bool, false, true, arith, Option, Some, None, IfSome, ◌∙◌, refl, subst, sym}
use Rattle.base_files.proofs.Rising.{Rose-after}
use Rattle.base_files.specs.Counters.{Rose}
use Rattle.base_files.specs.Seen.{Seen}
use Rattle.command_runs.specs.Counts.{Counts, NoneFell, counts}
use Rattle.script_lines.specs.Script.{longest_script}
use Rattle.script_lines.specs.declared.reader.ReadError.{ReadError}
use Rattle.script_lines.specs.declared.reader.ReadError.TheVariants as error
use Rattle.desk_commands.specs.Standing.{DeskHolding, DeskSound}
use Rattle.shell_state.specs.Stands.{WhyHalt}
use Rattle.shell_state.specs.declared.halt.Halt.{Halt}
use Rattle.shell_session.specs.Running.{Interrupts, Kept}
use Rattle.shell_session.specs.Session.{WhyStatus}
use Rattle.session_status.specs.Stops.{status_of_halt, status_of_reading}
use Rattle.session_status.specs.declared.status.Status.{Status}
use Rattle.session_status.specs.declared.status.Status.TheVariants.{Done, Usage, BadBase, ReadFault, WriteFault, FilesFault, Changed, InputTooLong, Memory}
use Rattle.shell_session.proofs.RunningLaws.{ends_halt, ends_stuck, no_input, none_rose, why_halt, why_stuck}

-- A fact on a status, where it follows for the status that came.
if_some : {A : Type 0} (o : Option A) (P Q : A → Type 0) → ((x : A) → P x → Q x) → IfSome o P → IfSome o Q
if_some (Some x) P Q f p = f x p
if_some None P Q f p = tt

-- A count that is no device's rises at none.
why_alone : (status : Status) (f f' i i' k k' : ℕ) → WhyStatus status (counts f 0 k) (counts f' 0 k') → WhyStatus status (counts f i k) (counts f' i' k')
why_alone ReadFault f f' i i' k k' why = absurd (none_rose why)
why_alone WriteFault f f' i i' k k' why = why
why_alone FilesFault f f' i i' k k' why = why
why_alone (Changed game kept found) f f' i i' k k' why = why
why_alone InputTooLong f f' i i' k k' why = tt
why_alone Memory f f' i i' k k' why = tt
why_alone Usage f f' i i' k k' why = tt
why_alone Done f f' i i' k k' why = tt
why_alone (BadBase fault) f f' i i' k k' why = tt

-- A part that reads nothing, beside an input of which nothing is read.
pub kept_alone : {writes : Bool} {held : DeskHolding} {seen seen' : Seen} {f f' k k' : ℕ} {ended : Option Status} (i b b' : ℕ)
    → Kept writes held seen seen' (counts f 0 k) (counts f' 0 k') 0 0 ended → Kept writes held seen seen' (counts f i k) (counts f' i k') b b' ended
kept_alone {f = f} {f' = f'} {k = k} {k' = k'} {ended = ended} i b b' kept = record {
  sound = kept.sound;
  unchanged = kept.unchanged;
  choices = kept.choices;
  counts = record { files = kept.counts.files; input = omega arith; output = kept.counts.output };
  ends = kept.ends;
  why = if_some ended _ _ (λ status why. why_alone status f f' i i k k' why) kept.why;
  too_long = if_some ended _ _ (λ status never long. absurd (omega (arith, never long))) kept.too_long;
}

-- What a status says of the counts from a later place on, it says from an earlier one on.
why_behind : (status : Status) (c c' c'' : Counts) → NoneFell c c' → WhyStatus status c' c'' → WhyStatus status c c''
why_behind ReadFault c c' c'' fell why = Rose-after _ _ _ fell.input why
why_behind WriteFault c c' c'' fell why = Rose-after _ _ _ fell.output why
why_behind FilesFault c c' c'' fell why = Rose-after _ _ _ fell.files why
why_behind (Changed game kept found) c c' c'' fell why = why
why_behind InputTooLong c c' c'' fell why = tt
why_behind Memory c c' c'' fell why = tt
why_behind Usage c c' c'' fell why = tt
why_behind Done c c' c'' fell why = tt
why_behind (BadBase fault) c c' c'' fell why = tt

-- A part behind another one.
pub kept_then : {w w' : Bool} {held held' : DeskHolding} {seen seen' seen'' : Seen} {c c' c'' : Counts} {b b₁ b₂ b' : ℕ} {first ended : Option Status}
    → (w ≡ false → w' ≡ false) → Kept w held seen seen' c c' b b₁ first → Kept w' held' seen' seen'' c' c'' b₂ b' ended → b₂ ≤ b
    → Kept w held' seen seen'' c c'' b b' ended
kept_then {c = c} {c' = c'} {c'' = c''} {ended = ended} narrow before behind less = record {
  sound = behind.sound;
  unchanged = λ none. behind.unchanged (narrow none) ∙ before.unchanged none;
  choices = behind.choices ∙ before.choices;
  counts = record {
    files = omega (arith, before.counts.files, behind.counts.files);
    input = omega (arith, before.counts.input, behind.counts.input);
    output = omega (arith, before.counts.output, behind.counts.output);
  };
  ends = behind.ends;
  why = if_some ended _ _ (λ status why. why_behind status c c' c'' before.counts why) behind.why;
  too_long = if_some ended _ _ (λ status more long. omega (arith, more long, less)) behind.too_long;
}

-- A line without a body was broken off.
pub kept_halt : {writes : Bool} {held : DeskHolding} {seen seen' : Seen} {f f' k k' : ℕ} (halt : Halt) → (writes ≡ false → seen' ≡ seen) → seen'.choices ≡ seen.choices
    → NoneFell (counts f 0 k) (counts f' 0 k') → WhyHalt halt (counts f 0 k) (counts f' 0 k') → Kept writes held seen seen' (counts f 0 k) (counts f' 0 k') 0 0 (Some (status_of_halt halt))
kept_halt {f = f} {f' = f'} {k = k} {k' = k'} halt unchanged choices counts why = record {
  sound = tt;
  unchanged = unchanged;
  choices = choices;
  counts = counts;
  ends = ends_halt halt;
  why = why_halt halt f f' k k' 0 0 why;
  too_long = λ long. absurd (no_input halt long);
}

-- ---- the loop

pub kept_none : {held : DeskHolding} {seen : Seen} {f i k : ℕ} (budget budget' : ℕ) → DeskSound held seen → Kept true held seen seen (counts f i k) (counts f i k) budget budget' None
kept_none budget budget' sound = record {
  sound = sound;
  unchanged = λ none. refl;
  choices = refl;
  counts = record { files = omega arith; input = omega arith; output = omega arith };
  ends = tt;
  why = tt;
  too_long = tt;
}

-- More of the input was read.
pub kept_read : {writes : Bool} {held : DeskHolding} {seen seen' : Seen} {c : Counts} {f i k b b' : ℕ} (i' budget' : ℕ) → Kept writes held seen seen' c (counts f i k) b b' None → i ≤ i'
    → Kept writes held seen seen' c (counts f i' k) b budget' None
kept_read i' budget' kept more = record {
  sound = kept.sound;
  unchanged = kept.unchanged;
  choices = kept.choices;
  counts = record { files = kept.counts.files; input = omega (arith, kept.counts.input, more); output = kept.counts.output };
  ends = tt;
  why = tt;
  too_long = tt;
}

-- It could not be read.
pub kept_stuck : {writes : Bool} {held : DeskHolding} {seen seen' : Seen} {c : Counts} {f i k b b' : ℕ} (e : ReadError) (status : Status) (i' budget' : ℕ) → status ≡ status_of_reading e
    → Kept writes held seen seen' c (counts f i k) b b' None → i ≤ i' → (e ≡ error.Failed → Rose i i') → (status_of_reading e ≡ InputTooLong → budget' + longest_script < b)
    → Kept writes held seen seen' c (counts f i' k) b budget' (Some status)
kept_stuck {c = c} {f = f} {i = i} {k = k} e status i' budget' is kept more rose full =
    let behind : NoneFell c (counts f i' k) = record { files = kept.counts.files; input = omega (arith, kept.counts.input, more); output = kept.counts.output } in
    record {
      sound = tt;
      unchanged = kept.unchanged;
      choices = kept.choices;
      counts = behind;
      ends = subst Interrupts (sym is) (ends_stuck e);
      why = subst (λ (s : Status). WhyStatus s c (counts f i' k)) (sym is) (why_behind (status_of_reading e) c (counts f i k) (counts f i' k) kept.counts (why_stuck e f f i i' k k rose));
      too_long = λ long. full (sym is ∙ long);
    }

-- A task was run behind others.
pub kept_on : {w' : Bool} {held held' : DeskHolding} {seen seen' seen'' : Seen} {c c' c'' : Counts} {b b₁ b₂ b' : ℕ} {first ended : Option Status}
    → Kept true held seen seen' c c' b b₁ first → Kept w' held' seen' seen'' c' c'' b₂ b' ended → b₂ ≤ b → Kept true held' seen seen'' c c'' b b' ended
kept_on before behind less = kept_then (λ no. absurd (cc)) before behind less
