-- Laws of the run of a script: a task more, its end, and what stops it.
use Rattle.std.proofs.Common.{Result, OnOk, IfErr, inl, inr, ◌≡◌, ◌≤◌, ◌<◌, ◌+◌, ◌-◌, ◌==◌, ℕ, zero, suc, Bool, true, false, ◌||◌, cond, List, [], ◌∷◌, ◌++◌, length, take, Option, Some, None, Ok, Err, refl, sym, ap, ◌∙◌, subst, arith, append_assoc, append-nil}
use Rattle.std.proofs.Math.Seq.{take-append_seam}
use Rattle.std.proofs.lemmas.List.{length-append}
use Rattle.base_files.specs.Counters.{Rose}
use Rattle.base_files.specs.Seen.{Seen}
use Rattle.base_files.specs.Told.{Tells, adds, before}
use Rattle.base_files.specs.declared.faults.Stop.TheVariants as stop
use Rattle.base_files.proofs.Telling.{adds-nil, before-append, before-nil}
use Rattle.command_runs.specs.Counts.{counts}
use Rattle.command_runs.specs.Endings.{Cut, Done, Halted}
use Rattle.command_runs.specs.Plain.{after_all, run}
use Rattle.command_runs.specs.Runs.{Stopped}
use Rattle.command_runs.proofs.Joining.{halted_after, halted_none, written_after}
use Rattle.command_runs.proofs.Running.{after_all-append, did_one, did_stops, run-append}
use Rattle.script_lines.specs.declared.reader.ReadError.{ReadError}
use Rattle.script_lines.specs.declared.reader.ReadError.TheVariants as error
use Rattle.script_lines.specs.Reading.{Feeds, IsFull, Reader, Stuck, TookLast, TookLine, TookPart, grown, led_on}
use Rattle.script_lines.specs.Bytewise.{behind_line, script_from, with_body, with_word}
use Rattle.script_lines.specs.Clients.{Clients, Tagged, heard, is_end, is_quit, line_of, named, new_clients, said, tagged_task}
use Rattle.script_lines.specs.Script.{Script, at_end, led_by, longest_script, script, script_by, script_len, script_of, whole_lines}
use Rattle.script_lines.specs.declared.line.Line.{Line}
use Rattle.script_lines.specs.Bodies.{Body, body_of}
use Rattle.script_lines.proofs.LineLaws.{reader_meets}
use Rattle.script_text.specs.Reading.{reading, shorn}
use Rattle.script_text.specs.Tasks.{body_word, task}
use Rattle.script_text.specs.Words.{cut}
use Rattle.script_text.specs.declared.command.Command.TheVariants.{Quit}
use Rattle.desk_commands.specs.Desk.{Desk, desks}
use Rattle.desk_commands.specs.Standing.{BrokenLine, DeskHolding, SettledLine, line_left}
use Rattle.shell_commands.specs.Tasks.{order_writes}
use Rattle.shell_state.specs.Stands.{WhyHalt}
use Rattle.shell_state.specs.declared.halt.Halt.{Halt}
use Rattle.shell_state.specs.declared.halt.Halt.TheVariants as halt
use Rattle.shell_session.specs.Running.{BehindDone, Finished, Halts, InLine, Interrupted, Interrupts, LastDid, LastDone, LastHalts, Ran, Stops, WentOn, added, joined, last_tasks, said_on}
use Rattle.desk_commands.specs.Views.{line_told}
use Rattle.shell_session.specs.Around.{Around, Lives, price_all, told_all, told_more}
use Rattle.shell_session.specs.Session.{Breaks, LinesDone, RanAll, RanPart, WhyStatus}
use Rattle.session_status.specs.Stops.{status_of_halt, status_of_reading}
use Rattle.session_status.specs.declared.status.Status.{Status}
use Rattle.session_status.specs.declared.status.Status.TheVariants.{InputTooLong, Memory, ReadFault}
use Rattle.shell_session.proofs.DeskLaws.{Remains, alone_line, breaks_by, desk_carries, fresh_desk, its_line, left_desk, same_kind, unsettled_line}
use Rattle.shell_session.proofs.PriceLaws.{paid_all, paid_one}
use Rattle.shell_session.proofs.ViewLaws.{left_alone, lives_more, lives_since, lives_twice, told_all-append, told_one}

-- What remains does not ask how many changes were told.
abbrev pub breaks_so : (status : Status) (around : Around) (more : ℕ → ℕ) (t t' : Option (List ℕ)) (d : Desk) (next : Tagged) → Breaks status (told_more around more) t' d next t → Breaks status around t' d next t
breaks_so status around more t t' d next breaks = record { broken = breaks.broken; carries = breaks.carries; settled = breaks.settled; views = breaks.views }

abbrev pub stopped_so : (status : Status) (around : Around) (more : ℕ → ℕ) (d : Desk) (left : List Tagged) (t t' : Option (List ℕ)) → Stopped desks (Breaks status (told_more around more) t') d left t t'
    → Stopped desks (Breaks status around t') d left t t'
stopped_so status around more d left t t' q =
    record { done = q.done; next = q.next; left = q.left; all = q.all; wrote = q.wrote; broken = breaks_so status around more (adds t (run desks d q.done)) t' (after_all desks d q.done) q.next q.broken }

-- What remains beside a machine that stands for a state.
pub remains_of : (held : DeskHolding) (around : Around) (more : ℕ → ℕ) (d : Desk) (line : Line) → Lives held (told_more around more) d → Remains around d line
remains_of held around more d line lives = record {
  carries = desk_carries held around.seen d (line_left d line) lives.stands;
  views = λ k other. left_alone held (told_more around more) d lives k;
}

-- What the reader meets of whole lines.
whole_met : (desk : Bool) (bytes : List ℕ) → whole_lines desk bytes ≡ (script_from (λ _. []) (new_clients desk) 0 [] bytes).tasks
whole_met desk bytes = ap (λ (x : Script). x.tasks) (reader_meets (λ _. []) (new_clients desk) bytes)

-- Nothing was run yet.
pub ran_none : (d : Desk) (bytes : List ℕ) (l t : Option (List ℕ)) (held : DeskHolding) (around : Around) (reader : Reader) (a : ℕ) (tagged : Bool) → l ≡ Some bytes → reader ≡ record { tagged = tagged; unread = []; line = []; used = 0 }
    → tagged ≡ held.clients.tagged → held.clients ≡ new_clients held.clients.tagged → Lives held around d → Ran d bytes t held around reader l t a a
ran_none d bytes l t held around reader a tagged told fresh kind new stands = record {
  done = [];
  front = [];
  stands = lives_since held around (told_all d []) d stands;
  written = sym (adds-nil t);
  left = sym told ∙ sym (before-nil l) ∙ sym (before-nil (before [] l)) ∙ ap (λ (r : Reader). before [] (before r.unread l)) (sym fresh);
  tagged = ap (λ (r : Reader). r.tagged) fresh ∙ kind ∙ ap (λ (clients : Clients). clients.tagged) stands.stands.clients;
  used = ap (λ (r : Reader). r.used) fresh;
  says = λ last more.
      let first : new_clients d.clients.tagged ≡ d.clients = ap (λ (clients : Clients). new_clients clients.tagged) (sym stands.stands.clients) ∙ sym new ∙ stands.stands.clients in
      ap (λ (clients : Clients). script_from last clients 0 [] more) first ∙ ap (script (script_from last d.clients 0 [] more).tasks) (omega arith);
  paid = omega arith;
}

-- What is told is the bytes in front, and what is told behind them.
told_parts : (bytes front : List ℕ) (l : Option (List ℕ)) → Some bytes ≡ before front l → (more : List ℕ) × (l ≡ Some more) × (bytes ≡ front ++ more)
told_parts bytes front None told = cc
told_parts bytes front (Some more) told = (more, refl, cc)

-- ---- behind a line that was taken

-- The tasks so far are done, and a line was taken, behind which these bytes are ahead.
pub record AtLine (d : Desk) (bytes : List ℕ) (t₀ : Option (List ℕ)) (held : DeskHolding) (around : Around) (line : Line) (ahead : List ℕ) (used : ℕ) (t : Option (List ℕ)) (a₀ a : ℕ) : Type 0 where
  pub done : List Tagged
  pub front : List ℕ
  pub stands : Lives held (told_more around (told_all d done)) (after_all desks d done)
  pub written : t ≡ adds t₀ (run desks d done)
  pub all : bytes ≡ front ++ ahead
  pub size : used ≡ length front
  pub says : (last : Tagged → List Tagged) (more : List ℕ)
      → script_from last (new_clients d.clients.tagged) 0 [] (front ++ more) ≡ joined done (length front) (led_on last (after_all desks d done).clients line more)
  pub paid : a ≤ a₀ + price_all d done

-- The bytes of a line in front, and what was taken before.
joined_grown : (done : List Tagged) (m n : ℕ) (s : Script) → joined done m (grown n s) ≡ joined done (m + n) s
joined_grown done m n s = ap (script (done ++ s.tasks)) (omega arith)

pub at_line : (d : Desk) (bytes : List ℕ) (t₀ : Option (List ℕ)) (held : DeskHolding) (around : Around) (reader reader' : Reader) (l l' t : Option (List ℕ)) (a₀ a : ℕ) (line : Line)
    → Ran d bytes t₀ held around reader l t a₀ a → TookLine [] reader l line reader' l'
    → (ahead : List ℕ) × (before reader'.unread l' ≡ Some ahead) × AtLine d bytes t₀ held around line ahead reader'.used t a₀ a
at_line d bytes t₀ held around reader reader' l l' t a₀ a line ran took =
    let n : length (ran.front ++ took.front) ≡ length ran.front + length took.front = length-append ran.front took.front in
    let read : Some bytes ≡ before (ran.front ++ took.front) (before reader'.unread l') =
    ran.left ∙ ap (before ran.front) took.ahead ∙ sym (before-append ran.front took.front (before reader'.unread l')) in
    let parts : (more : List ℕ) × (before reader'.unread l' ≡ Some more) × (bytes ≡ (ran.front ++ took.front) ++ more) = told_parts bytes (ran.front ++ took.front) (before reader'.unread l') read in (
      parts.0,
      parts.1,
      record {
        done = ran.done;
        front = ran.front ++ took.front;
        stands = ran.stands;
        written = ran.written;
        all = parts.2;
        size = omega (arith, ran.used, took.used, n);
        says = λ last more.
            let here : Clients = (after_all desks d ran.done).clients in
            let kind : here.tagged ≡ reader.tagged = same_kind d ran.done ∙ sym ran.tagged in
            ap (script_from last (new_clients d.clients.tagged) 0 []) (append_assoc ran.front took.front more) ∙ ran.says last (took.front ++ more)
            ∙ ap (joined ran.done (length ran.front)) (took.ends last here more kind)
            ∙ joined_grown ran.done (length ran.front) (length took.front) (led_on last here line more)
            ∙ ap (λ k. joined ran.done k (led_on last here line more)) (sym n);
        paid = ran.paid;
      },
    )

-- The task of the line is done, and the script goes on.
joined_led : (done : List Tagged) (m n : ℕ) (next : Tagged) (s : Script) → joined done m (grown n (led_by next s)) ≡ joined (done ++ next ∷ []) (m + n) s
joined_led done m n next s =
    ap (λ ts. script ts (m + (n + s.size))) (sym (append_assoc done (next ∷ []) s.tasks)) ∙ ap (script ((done ++ next ∷ []) ++ s.tasks)) (omega arith)

pub ran_more : (d : Desk) (bytes : List ℕ) (t₀ : Option (List ℕ)) (held held' : DeskHolding) (around around' : Around) (line : Line) (ahead : List ℕ) (used : ℕ) (reader' : Reader) (l' t t' : Option (List ℕ)) (a₀ a a' : ℕ)
    → (at : AtLine d bytes t₀ held around line ahead used t a₀ a) → reader'.tagged ≡ d.clients.tagged
    → WentOn line (after_all desks d at.done) ahead used held' (told_more around' (told_all d at.done)) reader' l' t t' a a' → Ran d bytes t₀ held' around' reader' l' t' a₀ a'
ran_more d bytes t₀ held held' around around' line ahead used reader' l' t t' a₀ a a' at kind on =
    let next : Tagged = tagged_task line on.body in
    let n : length (at.front ++ on.front) ≡ length at.front + length on.front = length-append at.front on.front in
    let state : desks.after (after_all desks d at.done) next ≡ after_all desks d (at.done ++ next ∷ []) = sym (after_all-append desks d at.done (next ∷ [])) in
    let text : run desks d at.done ++ desks.text (after_all desks d at.done) next ≡ run desks d (at.done ++ next ∷ []) =
    ap (λ x. run desks d at.done ++ x) (sym (append-nil (desks.text (after_all desks d at.done) next))) ∙ sym (run-append desks d at.done (next ∷ [])) in
    record {
      done = at.done ++ next ∷ [];
      front = at.front ++ on.front;
      stands =
          subst (Lives held' (told_more around' (told_all d (at.done ++ next ∷ [])))) state
          (lives_twice held' around' (told_all d at.done) (line_told (after_all desks d at.done) next) (told_all d (at.done ++ next ∷ [])) _ on.did.stands (told_one d at.done next));
      written = written_after (run desks d at.done) (desks.text (after_all desks d at.done) next) t₀ t t' at.written on.did.written ∙ ap (adds t₀) text;
      left = ap (λ (b : List ℕ). Some b) at.all ∙ ap (before at.front) on.left ∙ sym (before-append at.front on.front (before reader'.unread l'));
      tagged = kind;
      used = omega (arith, at.size, on.taken, n);
      says = λ last more.
          let later : Clients = (desks.after (after_all desks d at.done) next).clients in
          ap (script_from last (new_clients d.clients.tagged) 0 []) (append_assoc at.front on.front more) ∙ at.says last (on.front ++ more)
          ∙ ap (joined at.done (length at.front)) (on.says last more)
          ∙ joined_led at.done (length at.front) (length on.front) next (script_from last later 0 [] more)
          ∙ ap (λ k. joined (at.done ++ next ∷ []) k (script_from last later 0 [] more)) (sym n)
          ∙ ap (λ (z : Desk). joined (at.done ++ next ∷ []) (length (at.front ++ on.front)) (script_from last z.clients 0 [] more)) state;
      paid = paid_one d at.done next a₀ a a' at.paid on.asks;
    }

-- The script is at its end.
finished_says : (d : Desk) (bytes : List ℕ) (t₀ : Option (List ℕ)) (held : DeskHolding) (around : Around) (line : Line) (ahead : List ℕ) (used : ℕ) (t : Option (List ℕ)) (a₀ a : ℕ)
    → (at : AtLine d bytes t₀ held around line ahead used t a₀ a)
    → script_by (at_end d.clients.tagged) (new_clients d.clients.tagged) bytes ≡ joined at.done (length at.front) (said_on (after_all desks d at.done) line ahead)
finished_says d bytes t₀ held around line ahead used t a₀ a at =
    let last : Tagged → List Tagged = at_end d.clients.tagged in
    let here : Desk = after_all desks d at.done in
    reader_meets last (new_clients d.clients.tagged) bytes ∙ ap (script_from last (new_clients d.clients.tagged) 0 []) at.all ∙ at.says last ahead
    ∙ ap (λ (desk : Bool). joined at.done (length at.front) (led_on (at_end desk) here.clients line ahead)) (sym (same_kind d at.done))

-- The machine stands for the state behind all tasks, and no more changes were told than those of all.
all_told : (held : DeskHolding) (around : Around) (d : Desk) (all done lasts : List Tagged) → all ≡ done ++ lasts
    → Lives held (told_more (told_more around (told_all d done)) (told_all (after_all desks d done) lasts)) (after_all desks (after_all desks d done) lasts)
    → Lives held (told_more around (told_all d all)) (after_all desks d all)
all_told held around d all done lasts is lives =
    let P : List Tagged → Type 0 = λ ts. Lives held (told_more around (told_all d ts)) (after_all desks d ts) in
    subst P (sym is)
    (subst (Lives held (told_more around (told_all d (done ++ lasts)))) (sym (after_all-append desks d done lasts))
    (lives_twice held around (told_all d done) (told_all (after_all desks d done) lasts) (told_all d (done ++ lasts)) _ lives (λ k. omega (arith, told_all-append d done lasts k))))

pub ran_finished : (d : Desk) (bytes : List ℕ) (t₀ : Option (List ℕ)) (held held' : DeskHolding) (around around' : Around) (line : Line) (ahead : List ℕ) (used : ℕ) (l' t t' : Option (List ℕ)) (a₀ a a' : ℕ)
    → (at : AtLine d bytes t₀ held around line ahead used t a₀ a) → Finished line (after_all desks d at.done) ahead used held' (told_more around' (told_all d at.done)) l' t t' a a'
    → RanAll d bytes t₀ t' l' around' × (a' ≤ a₀ + price_all d (script_of d.clients.tagged bytes))
ran_finished d bytes t₀ held held' around around' line ahead used l' t t' a₀ a a' at end =
    let says : script_by (at_end d.clients.tagged) (new_clients d.clients.tagged) bytes ≡ script (at.done ++ end.lasts) (length at.front + end.size) =
    finished_says d bytes t₀ held around line ahead used t a₀ a at ∙ ap (joined at.done (length at.front)) end.says in
    let all : script_of d.clients.tagged bytes ≡ at.done ++ end.lasts = ap (λ (x : Script). x.tasks) says in
    let size : script_len d.clients.tagged bytes ≡ length at.front + end.size = ap (λ (x : Script). x.size) says in
    let lives : Lives held' (told_more around' (told_all d (script_of d.clients.tagged bytes))) (after_all desks d (script_of d.clients.tagged bytes)) =
    all_told held' around' d (script_of d.clients.tagged bytes) at.done end.lasts all end.did.stands in
    let n : length (at.front ++ end.front) ≡ length at.front + length end.front = length-append at.front end.front in (
      record {
        written =
            written_after (run desks d at.done) (run desks (after_all desks d at.done) end.lasts) t₀ t t' at.written end.did.written
            ∙ ap (adds t₀) (sym (run-append desks d at.done end.lasts) ∙ ap (run desks d) (sym all));
        within = omega (arith, size, at.size, end.within);
        front = at.front ++ end.front;
        read = ap (λ (b : List ℕ). Some b) at.all ∙ ap (before at.front) end.left ∙ sym (before-append at.front end.front l');
        enough = omega (arith, size, n, end.enough);
        no_further = omega (arith, size, n, end.no_further);
        files = left_desk held' around'.seen (after_all desks d (script_of d.clients.tagged bytes)) lives.stands;
        fresh = fresh_desk held' around'.seen (after_all desks d (script_of d.clients.tagged bytes)) lives.stands;
        views = lives.views;
      },
      paid_all d (script_of d.clients.tagged bytes) at.done end.lasts a₀ a a' all at.paid end.asks,
    )

-- ---- what stops it

-- The tasks that are done, and those that are left with one that was broken off.
ran_stopped : (d : Desk) (bytes : List ℕ) (t₀ t t' : Option (List ℕ)) (l' : Option (List ℕ)) (around' : Around) (status : Status) (done left : List Tagged) → t ≡ adds t₀ (run desks d done)
    → script_of d.clients.tagged bytes ≡ done ++ left → (stopped : Stopped desks (Breaks status around' t') (after_all desks d done) left t t') → LinesDone status d.clients.tagged bytes l' (done ++ stopped.done)
    → RanPart status d bytes t₀ t' l' around'
ran_stopped d bytes t₀ t t' l' around' status done left written all q lines =
    let state : after_all desks (after_all desks d done) q.done ≡ after_all desks d (done ++ q.done) = sym (after_all-append desks d done q.done) in
    let text : run desks d done ++ run desks (after_all desks d done) q.done ≡ run desks d (done ++ q.done) = sym (run-append desks d done q.done) in
    let broken_text : List ℕ = desks.text (after_all desks (after_all desks d done) q.done) q.next in
    let wrote : Halted (run desks d done ++ run desks (after_all desks d done) q.done) (run desks d done ++ (run desks (after_all desks d done) q.done ++ broken_text)) t₀ t' =
    halted_after (run desks d done) (run desks (after_all desks d done) q.done) (run desks (after_all desks d done) q.done ++ broken_text) t₀ t t' written q.wrote in
    let most : run desks d done ++ (run desks (after_all desks d done) q.done ++ broken_text) ≡ run desks d (done ++ q.done) ++ desks.text (after_all desks d (done ++ q.done)) q.next =
    sym (append_assoc (run desks d done) (run desks (after_all desks d done) q.done) broken_text)
    ∙ ap (λ x. x ++ broken_text) text
    ∙ ap (λ z. run desks d (done ++ q.done) ++ desks.text z q.next) state in
    let P : List ℕ → Type 0 = λ x. Halted x (run desks d (done ++ q.done) ++ desks.text (after_all desks d (done ++ q.done)) q.next) t₀ t' in
    let Q : List ℕ → Type 0 = λ x. Halted (run desks d done ++ run desks (after_all desks d done) q.done) x t₀ t' in
    let told : adds t (run desks (after_all desks d done) q.done) ≡ adds t₀ (run desks d (done ++ q.done)) =
    written_after (run desks d done) (run desks (after_all desks d done) q.done) t₀ t (adds t (run desks (after_all desks d done) q.done)) written refl ∙ ap (adds t₀) text in
    let B : Desk → Type 0 = λ z. Breaks status around' t' z q.next (adds t₀ (run desks d (done ++ q.done))) in
    record {
      done = done ++ q.done;
      next = q.next;
      left = q.left;
      all = all ∙ ap (λ x. done ++ x) q.all ∙ sym (append_assoc done q.done (q.next ∷ q.left));
      wrote = subst P text (subst Q most wrote);
      broken = subst B state (subst (Breaks status around' t' (after_all desks (after_all desks d done) q.done) q.next) told q.broken);
      lines = lines;
    }

-- A front part that is longer than these bytes.
take_past : (xs ys : List ℕ) (n : ℕ) → length xs ≤ n → take n (xs ++ ys) ≡ xs ++ take (n - length xs) ys
take_past [] ys n fits = ap (λ k. take k ys) (omega arith)
take_past (x ∷ xs) ys zero fits = absurd (omega (arith, fits))
take_past (x ∷ xs) ys (suc n) fits = ap (λ (l : List ℕ). x ∷ l) (take_past xs ys n (omega (arith, fits)) ∙ ap (λ k. xs ++ take k ys) (omega arith))

-- The whole lines of what was read, up to the line and behind it.
lines_behind : (status : Status) (d : Desk) (bytes : List ℕ) (t₀ : Option (List ℕ)) (held : DeskHolding) (around : Around) (line : Line) (ahead : List ℕ) (used : ℕ) (l' t : Option (List ℕ)) (a₀ a : ℕ) (done : List Tagged)
    → (at : AtLine d bytes t₀ held around line ahead used t a₀ a) → used ≤ longest_script → BehindDone status line (after_all desks d at.done) ahead used l' done
    → LinesDone status d.clients.tagged bytes l' (at.done ++ done)
lines_behind ReadFault d bytes t₀ held around line ahead used l' t a₀ a done at few (front, told, whole) = (
  at.front ++ front,
  ap (λ (b : List ℕ). Some b) at.all ∙ ap (before at.front) told ∙ sym (before-append at.front front l'),
  ap (λ x. at.done ++ x) whole ∙ sym (ap (λ (x : Script). x.tasks) (at.says (λ _. []) front)) ∙ sym (whole_met d.clients.tagged (at.front ++ front)),
)
lines_behind InputTooLong d bytes t₀ held around line ahead used l' t a₀ a done at few (long, whole) =
    let size : script_len d.clients.tagged bytes ≡ length at.front + (said_on (after_all desks d at.done) line ahead).size = ap (λ (x : Script). x.size) (finished_says d bytes t₀ held around line ahead used t a₀ a at) in
    let front : take longest_script bytes ≡ at.front ++ take (longest_script - used) ahead =
    ap (take longest_script) at.all ∙ take_past at.front ahead longest_script (omega (arith, few, at.size)) ∙ ap (λ k. at.front ++ take (longest_script - k) ahead) (sym at.size) in (
      omega (arith, size, long, at.size),
      ap (λ x. at.done ++ x) whole ∙ sym (ap (λ (x : Script). x.tasks) (at.says (λ _. []) (take (longest_script - used) ahead)))
          ∙ sym (whole_met d.clients.tagged (at.front ++ take (longest_script - used) ahead)) ∙ ap (whole_lines d.clients.tagged) (sym front),
    )
lines_behind _ d bytes t₀ held around line ahead used l' t a₀ a done at few lines = tt

-- A task was broken off.
pub ran_halted : (d : Desk) (bytes : List ℕ) (t₀ : Option (List ℕ)) (held : DeskHolding) (around around' : Around) (line : Line) (ahead : List ℕ) (used : ℕ) (l' t t' : Option (List ℕ)) (a₀ a a' : ℕ) (status : Status)
    → (at : AtLine d bytes t₀ held around line ahead used t a₀ a) → used ≤ longest_script → Halts status (told_more around' (told_all d at.done)) line (after_all desks d at.done) ahead used l' t t' a a'
    → RanPart status d bytes t₀ t' l' around' × (a' ≤ a₀ + price_all d (script_of d.clients.tagged bytes))
ran_halted d bytes t₀ held around around' line ahead used l' t t' a₀ a a' status at few end =
    let all : script_of d.clients.tagged bytes ≡ at.done ++ (said_on (after_all desks d at.done) line ahead).tasks = ap (λ (x : Script). x.tasks) (finished_says d bytes t₀ held around line ahead used t a₀ a at) in (
      ran_stopped d bytes t₀ t t' l' around' status at.done (said_on (after_all desks d at.done) line ahead).tasks at.written all (stopped_so status around' (told_all d at.done) (after_all desks d at.done) (said_on (after_all desks d at.done) line ahead).tasks t t' end.stopped)
          (lines_behind status d bytes t₀ held around line ahead used l' t a₀ a end.stopped.done at few end.lines),
      paid_all d (script_of d.clients.tagged bytes) at.done (said_on (after_all desks d at.done) line ahead).tasks a₀ a a' all at.paid end.asks,
    )

-- ---- the last line

-- To clients from the first, these tasks stand in front of what is said to those that are there behind them.
abbrev pub SaysBy : Clients → List Tagged → List ℕ → Clients → Type 0
SaysBy first done front here = (last : Tagged → List Tagged) (more : List ℕ) → script_from last first 0 [] (front ++ more) ≡ joined done (length front) (script_from last here 0 [] more)

-- What is said in front of a line so far.
says_part : (first here : Clients) (done : List Tagged) (front part so_far : List ℕ) (last : Tagged → List Tagged) (more : List ℕ) → SaysBy first done front here → Feeds [] part so_far
    → script_from last first 0 [] ((front ++ part) ++ more) ≡ joined done (length front + length part) (script_from last here 0 so_far more)
says_part first here done front part so_far last more says feeds =
    ap (script_from last first 0 []) (append_assoc front part more) ∙ says last (part ++ more) ∙ ap (joined done (length front)) (feeds last here more)
    ∙ joined_grown done (length front) (length part) (script_from last here 0 so_far more)

-- The end of the input ends it: these are the tasks that are left, and nothing is left of the script.
last_says : (last : Tagged → List Tagged) (first here : Clients) (bytes : List ℕ) (done : List Tagged) (front part so_far : List ℕ) (line : Line) → SaysBy first done front here
    → Feeds [] part so_far → line ≡ line_of here.tagged so_far → bytes ≡ front ++ part
    → script_by last first bytes ≡ script (done ++ last (tagged_task line [])) (length front + length part)
unfolding script_from
last_says last first here bytes done front part so_far line says feeds is all =
    reader_meets last first bytes ∙ ap (script_from last first 0 []) (all ∙ sym (append-nil (front ++ part)))
    ∙ says_part first here done front part so_far last [] says feeds
    ∙ ap (λ l. script (done ++ last (tagged_task l [])) (length front + length part + 0)) (sym is)
    ∙ ap (script (done ++ last (tagged_task line []))) (omega arith)

-- The bytes that were read to the end of the input.
to_the_end : (bytes front unread : List ℕ) (l : Option (List ℕ)) → Some bytes ≡ before front (before unread l) → unread ≡ [] → Tells l [] → bytes ≡ front
to_the_end bytes front unread None told none end = cc
to_the_end bytes front unread (Some more) told none end =
    let P : List ℕ → Type 0 = λ u. Some bytes ≡ Some (front ++ (u ++ more)) in
    let e : Some bytes ≡ Some (front ++ more) = subst P none told in
    let f : bytes ≡ front ++ more = cc in
    f ∙ ap (λ m. front ++ m) (sym end) ∙ append-nil front

-- Nothing is ahead then.
none_told : (bytes front unread : List ℕ) (l : Option (List ℕ)) → Some bytes ≡ before front (before unread l) → unread ≡ [] → Tells l [] → before unread l ≡ Some []
none_told bytes front unread None told none end = cc
none_told bytes front unread (Some more) told none end = ap (λ (b : List ℕ). Some b) (ap (λ u. u ++ more) none ∙ sym end)

-- The tasks so far are done, and the last line was taken.
pub record AtLast (d : Desk) (bytes : List ℕ) (t₀ : Option (List ℕ)) (held : DeskHolding) (around : Around) (line : Line) (used : ℕ) (t : Option (List ℕ)) (a₀ a : ℕ) : Type 0 where
  pub done : List Tagged
  pub stands : Lives held (told_more around (told_all d done)) (after_all desks d done)
  pub written : t ≡ adds t₀ (run desks d done)
  pub size : used ≡ length bytes
  pub says : script_by (at_end d.clients.tagged) (new_clients d.clients.tagged) bytes ≡ script (done ++ last_tasks (after_all desks d done) line) (length bytes)
  pub whole : whole_lines d.clients.tagged bytes ≡ done
  pub paid : a ≤ a₀ + price_all d done

-- The whole lines of what was taken are done.
lines_taken : (desk : Bool) (here : Clients) (done : List Tagged) (front part so_far : List ℕ) → SaysBy (new_clients desk) done front here → Feeds [] part so_far
    → whole_lines desk (front ++ part) ≡ done
unfolding script_from
lines_taken desk here done front part so_far says feeds =
    whole_met desk (front ++ part) ∙ ap (λ b. (script_from (λ _. []) (new_clients desk) 0 [] b).tasks) (sym (append-nil (front ++ part)))
    ∙ ap (λ (x : Script). x.tasks) (says_part (new_clients desk) here done front part so_far (λ _. []) [] says feeds)
    ∙ append-nil done

pub at_last : (d : Desk) (bytes : List ℕ) (t₀ : Option (List ℕ)) (held : DeskHolding) (around : Around) (reader reader' : Reader) (l l' t : Option (List ℕ)) (a₀ a : ℕ) (line : Line)
    → Ran d bytes t₀ held around reader l t a₀ a → TookLast reader l reader' l' → line ≡ line_of reader'.tagged reader'.line
    → (before reader'.unread l' ≡ Some []) × AtLast d bytes t₀ held around line reader'.used t a₀ a
at_last d bytes t₀ held around reader reader' l l' t a₀ a line ran took is =
    let n : length (ran.front ++ took.part.front) ≡ length ran.front + length took.part.front = length-append ran.front took.part.front in
    let read : Some bytes ≡ before (ran.front ++ took.part.front) (before reader'.unread l') =
    ran.left ∙ ap (before ran.front) took.part.ahead ∙ sym (before-append ran.front took.part.front (before reader'.unread l')) in
    let all : bytes ≡ ran.front ++ took.part.front = to_the_end bytes (ran.front ++ took.part.front) reader'.unread l' read took.all took.end in
    let m : length bytes ≡ length (ran.front ++ took.part.front) = ap length all in
    let size : length ran.front + length took.part.front ≡ length bytes = omega (arith, n, m) in
    let here : Desk = after_all desks d ran.done in
    let kind : here.clients.tagged ≡ d.clients.tagged = same_kind d ran.done in
    let says : line ≡ line_of here.clients.tagged reader'.line = is ∙ ap (λ (desk : Bool). line_of desk reader'.line) (took.part.tagged ∙ ran.tagged ∙ sym kind) in (
      none_told bytes (ran.front ++ took.part.front) reader'.unread l' read took.all took.end,
      record {
        done = ran.done;
        stands = ran.stands;
        written = ran.written;
        size = omega (arith, ran.used, took.part.used, size);
        says =
            last_says (at_end d.clients.tagged) (new_clients d.clients.tagged) here.clients bytes ran.done ran.front took.part.front reader'.line line ran.says took.part.feeds says all
            ∙ ap (script (ran.done ++ at_end d.clients.tagged (tagged_task line []))) size
            ∙ ap (λ (desk : Bool). script (ran.done ++ at_end desk (tagged_task line [])) (length bytes)) (sym kind);
        whole =
            ap (whole_lines d.clients.tagged) all
            ∙ lines_taken d.clients.tagged here.clients ran.done ran.front took.part.front reader'.line ran.says took.part.feeds;
        paid = ran.paid;
      },
    )

pub ran_last : (d : Desk) (bytes : List ℕ) (t₀ : Option (List ℕ)) (held held' : DeskHolding) (around around' : Around) (line : Line) (used : ℕ) (l' t t' : Option (List ℕ)) (a₀ a : ℕ)
    → (at : AtLast d bytes t₀ held around line used t a₀ a) → used ≤ longest_script → LastDid line (after_all desks d at.done) held' (told_more around' (told_all d at.done)) l' t t' → RanAll d bytes t₀ t' l' around'
ran_last d bytes t₀ held held' around around' line used l' t t' a₀ a at few end =
    let lasts : List Tagged = last_tasks (after_all desks d at.done) line in
    let all : script_of d.clients.tagged bytes ≡ at.done ++ lasts = ap (λ (x : Script). x.tasks) at.says in
    let size : script_len d.clients.tagged bytes ≡ length bytes = ap (λ (x : Script). x.size) at.says in
    let lives : Lives held' (told_more around' (told_all d (script_of d.clients.tagged bytes))) (after_all desks d (script_of d.clients.tagged bytes)) =
    all_told held' around' d (script_of d.clients.tagged bytes) at.done lasts all end.did.stands in
    record {
      written =
          written_after (run desks d at.done) (run desks (after_all desks d at.done) lasts) t₀ t t' at.written end.did.written
          ∙ ap (adds t₀) (sym (run-append desks d at.done lasts) ∙ ap (run desks d) (sym all));
      within = omega (arith, size, at.size, few);
      front = bytes;
      read = ap (λ (b : List ℕ). Some b) (sym (append-nil bytes)) ∙ ap (before bytes) (sym end.left);
      enough = omega (arith, size);
      no_further = omega (arith, size);
      files = left_desk held' around'.seen (after_all desks d (script_of d.clients.tagged bytes)) lives.stands;
      fresh = fresh_desk held' around'.seen (after_all desks d (script_of d.clients.tagged bytes)) lives.stands;
      views = lives.views;
    }

lines_last : (status : Status) (desk : Bool) (bytes : List ℕ) (l' : Option (List ℕ)) (whole done : List Tagged) → whole_lines desk bytes ≡ whole → LastDone status l' done
    → LinesDone status desk bytes l' (whole ++ done)
lines_last ReadFault desk bytes l' whole done is (left, none) =
    (bytes, ap (λ (b : List ℕ). Some b) (sym (append-nil bytes)) ∙ ap (before bytes) (sym left), ap (λ x. whole ++ x) none ∙ append-nil whole ∙ sym is)
lines_last InputTooLong desk bytes l' whole done is last = absurd last
lines_last _ desk bytes l' whole done is last = tt

pub ran_last_halted : (d : Desk) (bytes : List ℕ) (t₀ : Option (List ℕ)) (held : DeskHolding) (around around' : Around) (line : Line) (used : ℕ) (l' t t' : Option (List ℕ)) (a₀ a : ℕ) (status : Status)
    → (at : AtLast d bytes t₀ held around line used t a₀ a) → LastHalts status (told_more around' (told_all d at.done)) line (after_all desks d at.done) l' t t' → RanPart status d bytes t₀ t' l' around'
ran_last_halted d bytes t₀ held around around' line used l' t t' a₀ a status at end =
    ran_stopped d bytes t₀ t t' l' around' status at.done (last_tasks (after_all desks d at.done) line) at.written (ap (λ (x : Script). x.tasks) at.says)
    (stopped_so status around' (told_all d at.done) (after_all desks d at.done) (last_tasks (after_all desks d at.done) line) t t' end.stopped)
    (lines_last status d.clients.tagged bytes l' at.done end.stopped.done at.whole end.lines)

pub paid_last : (d : Desk) (bytes : List ℕ) (t₀ : Option (List ℕ)) (held : DeskHolding) (around : Around) (line : Line) (used : ℕ) (t : Option (List ℕ)) (a₀ a a' : ℕ)
    → (at : AtLast d bytes t₀ held around line used t a₀ a) → a' ≤ a + price_all (after_all desks d at.done) (last_tasks (after_all desks d at.done) line) → a' ≤ a₀ + price_all d (script_of d.clients.tagged bytes)
paid_last d bytes t₀ held around line used t a₀ a a' at asked =
    paid_all d (script_of d.clients.tagged bytes) at.done (last_tasks (after_all desks d at.done) line) a₀ a a' (ap (λ (x : Script). x.tasks) at.says) at.paid asked

-- ---- where no line was read

-- A script has a task.
some_last : (desk quit : Bool) (last end : Tagged) → (next : Tagged) × (left : List Tagged) × (cond (desk || quit) (last ∷ []) (last ∷ end ∷ []) ≡ next ∷ left)
some_last true quit last end = (last, [], refl)
some_last false true last end = (last, [], refl)
some_last false false last end = (last, end ∷ [], refl)

some_end : (desk : Bool) (last : Tagged) → (next : Tagged) × (left : List Tagged) × (at_end desk last ≡ next ∷ left)
some_end desk last = some_last desk (is_quit last.task.order) last (tagged_task (said (Some 0) (Ok Quit)) [])

some_either : (test : Bool) (a b : Script) → ((next : Tagged) × (left : List Tagged) × (a.tasks ≡ next ∷ left)) → ((next : Tagged) × (left : List Tagged) × (b.tasks ≡ next ∷ left))
    → (next : Tagged) × (left : List Tagged) × ((cond test a b).tasks ≡ next ∷ left)
some_either true a b p q = p
some_either false a b p q = q

some_body : (desk : Bool) (line : Line) (b : Body) (size : ℕ) (later : ℕ → Script) (end : Option ℕ) → b.end ≡ end
    → (next : Tagged) × (left : List Tagged) × ((with_body (at_end desk) line b size later).tasks ≡ next ∷ left)
some_body desk line b size later None is = rw is (some_end desk (tagged_task line b.bytes))
some_body desk line b size later (Some count) is = rw is (tagged_task line b.bytes, (later (length b.bytes + count)).tasks, refl)

some_word : (desk : Bool) (line : Line) (word : Option (List ℕ)) (bytes : List ℕ) (later : ℕ → Script)
    → (next : Tagged) × (left : List Tagged) × ((with_word (at_end desk) line word bytes later).tasks ≡ next ∷ left)
some_word desk line None bytes later = (tagged_task line [], (later 0).tasks, refl)
some_word desk line (Some word) bytes later = some_body desk line (body_of word true bytes) (length bytes) later (body_of word true bytes).end refl

some_line : (desk : Bool) (clients : Clients) (line : Line) (bytes : List ℕ) (later : ℕ → Script)
    → (next : Tagged) × (left : List Tagged) × ((behind_line (at_end desk) clients line bytes later).tasks ≡ next ∷ left)
some_line desk clients line bytes later =
    some_either (is_end clients line) (script (tagged_task line [] ∷ []) 0) (with_word (at_end desk) line (body_word line.order) bytes later) (tagged_task line [], [], refl)
    (some_word desk line (body_word line.order) bytes later)

some_task : (desk : Bool) (clients : Clients) (so_far bytes : List ℕ) → (next : Tagged) × (left : List Tagged) × ((script_from (at_end desk) clients 0 so_far bytes).tasks ≡ next ∷ left)
unfolding script_from
some_task desk clients so_far [] = some_end desk (tagged_task (line_of clients.tagged so_far) [])
some_task desk clients so_far (byte ∷ bytes) =
    let line : Line = line_of clients.tagged so_far in
    some_either (byte == 10) (behind_line (at_end desk) clients line bytes (λ n. script_from (at_end desk) (heard clients line) n [] bytes))
    (script_from (at_end desk) clients 0 (so_far ++ byte ∷ []) bytes)
    (some_line desk clients line bytes (λ n. script_from (at_end desk) (heard clients line) n [] bytes)) (some_task desk clients (so_far ++ byte ∷ []) bytes)

-- Where there are bytes, a script has some.
some_size : (last : Tagged → List Tagged) (clients : Clients) (so_far bytes : List ℕ) → 0 < length bytes → 0 < (script_from last clients 0 so_far bytes).size
unfolding script_from
some_size last clients so_far [] some = absurd (omega (arith, some))
some_size last clients so_far (byte ∷ bytes) some = omega arith

-- What is ahead is no less than what is unread.
more_ahead : (unread : List ℕ) (l : Option (List ℕ)) (more : List ℕ) → before unread l ≡ Some more → 0 < length unread → 0 < length more
more_ahead unread None more told some = cc
more_ahead unread (Some rest) more told some =
    let e : unread ++ rest ≡ more = cc in
    let n : length (unread ++ rest) ≡ length unread + length rest = length-append unread rest in
    let m : length (unread ++ rest) ≡ length more = ap length e in
    omega (arith, some, n, m)

-- No command wrote anything when it stopped.
unwritten : (d : Desk) (done : List Tagged) (next : Tagged) (t₀ t : Option (List ℕ)) → t ≡ adds t₀ (run desks d done) → Halted (run desks d done) (run desks d done ++ desks.text (after_all desks d done) next) t₀ t
unwritten d done next t₀ t written =
    let P : List ℕ → Type 0 = λ x. Halted x (run desks d done ++ desks.text (after_all desks d done) next) t₀ t in
    subst P (append-nil (run desks d done)) (halted_after (run desks d done) [] (desks.text (after_all desks d done) next) t₀ t t written (halted_none (desks.text (after_all desks d done) next) t))

-- Nor anything of the next one, whatever it leaves.
unsettled : (seen : Seen) (d : Desk) (done : List Tagged) (next : Tagged) (t₀ t : Option (List ℕ)) → t ≡ adds t₀ (run desks d done) → SettledLine seen (after_all desks d done) next (adds t₀ (run desks d done)) t
unsettled seen d done next t₀ t written = subst (λ (told : Option (List ℕ)). SettledLine seen (after_all desks d done) next told t) written (unsettled_line seen (after_all desks d done) next t)

-- The input failed.
pub ran_failed : (d : Desk) (bytes : List ℕ) (t₀ : Option (List ℕ)) (held : DeskHolding) (around : Around) (reader reader' : Reader) (l l' t : Option (List ℕ)) (a₀ a : ℕ)
    → (ran : Ran d bytes t₀ held around reader l t a₀ a) → TookPart [] reader l reader' l' → reader'.unread ≡ []
    → RanPart ReadFault d bytes t₀ t l' around
ran_failed d bytes t₀ held around reader reader' l l' t a₀ a ran took none =
    let read : Some bytes ≡ before (ran.front ++ took.front) (before reader'.unread l') =
    ran.left ∙ ap (before ran.front) took.ahead ∙ sym (before-append ran.front took.front (before reader'.unread l')) in
    let parts : (more : List ℕ) × (before reader'.unread l' ≡ Some more) × (bytes ≡ (ran.front ++ took.front) ++ more) = told_parts bytes (ran.front ++ took.front) (before reader'.unread l') read in
    let last : Tagged → List Tagged = at_end d.clients.tagged in
    let here : Clients = (after_all desks d ran.done).clients in
    let says : script_by last (new_clients d.clients.tagged) bytes ≡ joined ran.done (length ran.front + length took.front) (script_from last here 0 reader'.line parts.0) =
    reader_meets last (new_clients d.clients.tagged) bytes ∙ ap (script_from last (new_clients d.clients.tagged) 0 []) parts.2
    ∙ says_part (new_clients d.clients.tagged) here ran.done ran.front took.front reader'.line last parts.0 ran.says took.feeds in
    let some : (next : Tagged) × (left : List Tagged) × ((script_from last here 0 reader'.line parts.0).tasks ≡ next ∷ left) =
    some_task d.clients.tagged here reader'.line parts.0 in
    record {
      done = ran.done;
      next = some.0;
      left = some.1;
      all = ap (λ (x : Script). x.tasks) says ∙ ap (λ ts. ran.done ++ ts) some.2;
      wrote = unwritten d ran.done some.0 t₀ t ran.written;
      broken = breaks_by _ _ _ _ _ _ tt (remains_of held around _ (after_all desks d ran.done) (its_line some.0) ran.stands) (unsettled around.seen d ran.done some.0 t₀ t ran.written);
      lines = (
        ran.front ++ took.front,
        read ∙ ap (λ u. before (ran.front ++ took.front) (before u l')) none ∙ ap (before (ran.front ++ took.front)) (before-nil l'),
        sym (lines_taken d.clients.tagged (after_all desks d ran.done).clients ran.done ran.front took.front reader'.line ran.says took.feeds),
      );
    }

-- The script is too long.
pub ran_too_long : (d : Desk) (bytes : List ℕ) (t₀ : Option (List ℕ)) (held : DeskHolding) (around : Around) (reader reader' : Reader) (l l' t : Option (List ℕ)) (a₀ a : ℕ)
    → (ran : Ran d bytes t₀ held around reader l t a₀ a) → TookPart [] reader l reader' l' → IsFull reader'
    → RanPart InputTooLong d bytes t₀ t l' around
ran_too_long d bytes t₀ held around reader reader' l l' t a₀ a ran took full =
    let n : length (ran.front ++ took.front) ≡ length ran.front + length took.front = length-append ran.front took.front in
    let read : Some bytes ≡ before (ran.front ++ took.front) (before reader'.unread l') =
    ran.left ∙ ap (before ran.front) took.ahead ∙ sym (before-append ran.front took.front (before reader'.unread l')) in
    let parts : (more : List ℕ) × (before reader'.unread l' ≡ Some more) × (bytes ≡ (ran.front ++ took.front) ++ more) = told_parts bytes (ran.front ++ took.front) (before reader'.unread l') read in
    let last : Tagged → List Tagged = at_end d.clients.tagged in
    let here : Clients = (after_all desks d ran.done).clients in
    let says : script_by last (new_clients d.clients.tagged) bytes ≡ joined ran.done (length ran.front + length took.front) (script_from last here 0 reader'.line parts.0) =
    reader_meets last (new_clients d.clients.tagged) bytes ∙ ap (script_from last (new_clients d.clients.tagged) 0 []) parts.2
    ∙ says_part (new_clients d.clients.tagged) here ran.done ran.front took.front reader'.line last parts.0 ran.says took.feeds in
    let some : (next : Tagged) × (left : List Tagged) × ((script_from last here 0 reader'.line parts.0).tasks ≡ next ∷ left) =
    some_task d.clients.tagged here reader'.line parts.0 in
    let size : script_len d.clients.tagged bytes ≡ length ran.front + length took.front + (script_from last here 0 reader'.line parts.0).size = ap (λ (x : Script). x.size) says in
    let more : 0 < length parts.0 = more_ahead reader'.unread l' parts.0 parts.1 full.more in
    let bigger : 0 < (script_from last here 0 reader'.line parts.0).size = some_size last here reader'.line parts.0 more in
    let exact : length (ran.front ++ took.front) ≡ longest_script = omega (arith, n, ran.used, took.used, full.full) in
    let within : take longest_script bytes ≡ ran.front ++ took.front =
    ap (λ k. take k bytes) (sym exact) ∙ ap (take (length (ran.front ++ took.front))) parts.2 ∙ take-append_seam (ran.front ++ took.front) parts.0 in
    record {
      done = ran.done;
      next = some.0;
      left = some.1;
      all = ap (λ (x : Script). x.tasks) says ∙ ap (λ ts. ran.done ++ ts) some.2;
      wrote = unwritten d ran.done some.0 t₀ t ran.written;
      broken = breaks_by _ _ _ _ _ _ tt (remains_of held around _ (after_all desks d ran.done) (its_line some.0) ran.stands) (unsettled around.seen d ran.done some.0 t₀ t ran.written);
      lines = (
        omega (arith, size, bigger, n, exact),
        sym (lines_taken d.clients.tagged (after_all desks d ran.done).clients ran.done ran.front took.front reader'.line ran.says took.feeds) ∙ ap (whole_lines d.clients.tagged) (sym within),
      );
    }

-- Memory ran out before a line was read.
pub ran_short : (d : Desk) (bytes : List ℕ) (t₀ : Option (List ℕ)) (held : DeskHolding) (around : Around) (reader : Reader) (l l' t : Option (List ℕ)) (a₀ a : ℕ)
    → (ran : Ran d bytes t₀ held around reader l t a₀ a) → RanPart Memory d bytes t₀ t l' around
ran_short d bytes t₀ held around reader l l' t a₀ a ran =
    let parts : (more : List ℕ) × (before reader.unread l ≡ Some more) × (bytes ≡ ran.front ++ more) = told_parts bytes ran.front (before reader.unread l) ran.left in
    let last : Tagged → List Tagged = at_end d.clients.tagged in
    let here : Clients = (after_all desks d ran.done).clients in
    let says : script_by last (new_clients d.clients.tagged) bytes ≡ joined ran.done (length ran.front) (script_from last here 0 [] parts.0) =
    reader_meets last (new_clients d.clients.tagged) bytes ∙ ap (script_from last (new_clients d.clients.tagged) 0 []) parts.2 ∙ ran.says last parts.0 in
    let some : (next : Tagged) × (left : List Tagged) × ((script_from last here 0 [] parts.0).tasks ≡ next ∷ left) = some_task d.clients.tagged here [] parts.0 in
    record {
      done = ran.done;
      next = some.0;
      left = some.1;
      all = ap (λ (x : Script). x.tasks) says ∙ ap (λ ts. ran.done ++ ts) some.2;
      wrote = unwritten d ran.done some.0 t₀ t ran.written;
      broken = breaks_by _ _ _ _ _ _ tt (remains_of held around _ (after_all desks d ran.done) (its_line some.0) ran.stands) (unsettled around.seen d ran.done some.0 t₀ t ran.written);
      lines = tt;
    }

-- No line was read.
pub ran_stuck : (e : ReadError) (d : Desk) (bytes : List ℕ) (t₀ : Option (List ℕ)) (held : DeskHolding) (around : Around) (reader reader' : Reader) (l l' t : Option (List ℕ)) (a₀ a : ℕ)
    → Ran d bytes t₀ held around reader l t a₀ a → Stuck e reader l reader' l' → RanPart (status_of_reading e) d bytes t₀ t l' around
ran_stuck error.Failed d bytes t₀ held around reader reader' l l' t a₀ a ran stuck = ran_failed d bytes t₀ held around reader reader' l l' t a₀ a ran stuck.0 stuck.1
ran_stuck error.TooLong d bytes t₀ held around reader reader' l l' t a₀ a ran stuck = ran_too_long d bytes t₀ held around reader reader' l l' t a₀ a ran stuck.0 stuck.1
ran_stuck error.Memory d bytes t₀ held around reader reader' l l' t a₀ a ran stuck = ran_short d bytes t₀ held around reader l l' t a₀ a ran

-- The tasks that are done are the first of the script's.
pub paid_done : (d : Desk) (bytes : List ℕ) (t₀ : Option (List ℕ)) (held : DeskHolding) (around : Around) (reader : Reader) (l t : Option (List ℕ)) (a₀ a : ℕ)
    → Ran d bytes t₀ held around reader l t a₀ a → a ≤ a₀ + price_all d (script_of d.clients.tagged bytes)
paid_done d bytes t₀ held around reader l t a₀ a ran =
    let parts : (more : List ℕ) × (before reader.unread l ≡ Some more) × (bytes ≡ ran.front ++ more) = told_parts bytes ran.front (before reader.unread l) ran.left in
    let last : Tagged → List Tagged = at_end d.clients.tagged in
    let here : Clients = (after_all desks d ran.done).clients in
    let says : script_by last (new_clients d.clients.tagged) bytes ≡ joined ran.done (length ran.front) (script_from last here 0 [] parts.0) =
    reader_meets last (new_clients d.clients.tagged) bytes ∙ ap (script_from last (new_clients d.clients.tagged) 0 []) parts.2 ∙ ran.says last parts.0 in
    paid_all d (script_of d.clients.tagged bytes) ran.done (script_from last here 0 [] parts.0).tasks a₀ a a (ap (λ (x : Script). x.tasks) says) ran.paid (omega arith)

-- ---- one line

-- A line without a body that was broken off.
pub interrupted : (halt : Halt) (around' : Around) (d : Desk) (next : Tagged) (t t' : Option (List ℕ)) → body_word next.task.order ≡ None → Cut (BrokenLine d next halt (desks.text d next) t t') (desks.text d next) t t' → Remains around' d (its_line next)
    → SettledLine around'.seen d next t t' → Interrupted (status_of_halt halt) around' d next t t'
interrupted (halt.Device stop.Files) around' d next t t' none broken_off remains settled = record { cut = record { wrote = broken_off.wrote; broken = breaks_by _ _ _ _ _ _ broken_off.broken remains settled }; in_line = tt }
interrupted (halt.Device stop.Write) around' d next t t' none broken_off remains settled = record { cut = record { wrote = broken_off.wrote; broken = breaks_by _ _ _ _ _ _ tt remains settled }; in_line = tt }
interrupted (halt.Device stop.Memory) around' d next t t' none broken_off remains settled = record { cut = record { wrote = broken_off.wrote; broken = breaks_by _ _ _ _ _ _ tt remains settled }; in_line = tt }
interrupted (halt.Device stop.Read) around' d next t t' none broken_off remains settled =
    let e : false ≡ true = sym (alone_line d next none) ∙ broken_off.broken in cc
interrupted (halt.Changed game kept found) around' d next t t' none broken_off remains settled = absurd broken_off.broken

pub none_rose : Rose 0 0 → ⊥
none_rose (inl rose) = absurd (omega (arith, rose))
none_rose (inr last) = absurd (omega (arith, last))

-- Its cause, whatever the input counted.
pub why_halt : (halt : Halt) (f f' k k' i i' : ℕ) → WhyHalt halt (counts f 0 k) (counts f' 0 k') → WhyStatus (status_of_halt halt) (counts f i k) (counts f' i' k')
why_halt (halt.Device stop.Files) f f' k k' i i' why = why
why_halt (halt.Device stop.Write) f f' k k' i i' why = why
why_halt (halt.Device stop.Memory) f f' k k' i i' why = tt
why_halt (halt.Device stop.Read) f f' k k' i i' why = absurd (none_rose why)
why_halt (halt.Changed game kept found) f f' k k' i i' why = why

pub no_input : (halt : Halt) → status_of_halt halt ≡ InputTooLong → ⊥
no_input (halt.Device stop.Files) is = cc
no_input (halt.Device stop.Write) is = cc
no_input (halt.Device stop.Memory) is = cc
no_input (halt.Device stop.Read) is = cc
no_input (halt.Changed game kept found) is = cc

-- ---- a last task, and what the end of the input adds

then_tasks : (test : Bool) (last quit : Tagged) → (left : List Tagged) × (cond test (last ∷ []) (last ∷ quit ∷ []) ≡ last ∷ left)
then_tasks true last quit = ([], refl)
then_tasks false last quit = (quit ∷ [], refl)

pub at_front : (desk : Bool) (last : Tagged) → (left : List Tagged) × (at_end desk last ≡ last ∷ left)
at_front true last = ([], refl)
at_front false last = then_tasks (is_quit last.task.order) last (tagged_task (said (Some 0) (Ok Quit)) [])

pub at_quit : (desk : Bool) (last : Tagged) → is_quit last.task.order ≡ true → at_end desk last ≡ last ∷ []
at_quit true last quit = refl
at_quit false last quit = rw quit refl

pub at_other : (desk : Bool) (last : Tagged) → is_quit last.task.order ≡ false → at_end desk last ≡ last ∷ added desk
at_other true last other = refl
at_other false last other = rw other refl

-- A last task is done that is not `quit`, and then the end.
pub end_did : (held' : DeskHolding) (around' : Around) (d : Desk) (desk : Bool) (last : Tagged) (t t' t'' : Option (List ℕ)) → is_quit last.task.order ≡ false → t' ≡ adds t (desks.text d last)
    → Done (Lives held' (told_more (told_more around' (line_told d last)) (told_all (desks.after d last) (added desk)))) (after_all desks (desks.after d last) (added desk)) (run desks (desks.after d last) (added desk)) t' t''
    → Done (Lives held' (told_more around' (told_all d (at_end desk last)))) (after_all desks d (at_end desk last)) (run desks d (at_end desk last)) t t''
end_did held' around' d desk last t t' t'' other written did =
    let P : List Tagged → Type 0 = λ ts. Done (Lives held' (told_more around' (told_all d ts))) (after_all desks d ts) (run desks d ts) t t'' in
    subst P (sym (at_other desk last other)) (record {
      stands = lives_twice held' around' (line_told d last) (told_all (desks.after d last) (added desk)) (told_all d (last ∷ added desk)) _ did.stands (λ k. omega arith);
      written = written_after (desks.text d last) (run desks (desks.after d last) (added desk)) t t' t'' written did.written;
    })

-- The first of some tasks was broken off.
pub front_stops : (around' : Around) (d : Desk) (next : Tagged) (all left : List Tagged) (t t' : Option (List ℕ)) (status : Status) → all ≡ next ∷ left → Cut (Breaks status around' t' d next t) (desks.text d next) t t'
    → (q : Stopped desks (Breaks status around' t') d all t t') × (q.done ≡ [])
front_stops around' d next all left t t' status is cut = (record { done = []; next = next; left = left; all = is; wrote = cut.wrote; broken = subst (Breaks status around' t' d next) (sym (adds-nil t)) cut.broken }, refl)

pub last_stops : (around' : Around) (d : Desk) (desk : Bool) (last : Tagged) (t t' : Option (List ℕ)) (status : Status) → Interrupted status around' d last t t' → Stops status around' d (at_end desk last) t t'
last_stops around' d desk last t t' status cut =
    let all : (left : List Tagged) × (at_end desk last ≡ last ∷ left) = at_front desk last in
    record { stopped = (front_stops around' d last (at_end desk last) all.0 t t' status all.1 cut.cut).0; in_line = cut.in_line }

pub end_stops : (Stands' : Desk → Type 0) (around' : Around) (more : ℕ → ℕ) (d : Desk) (desk : Bool) (last : Tagged) (t t' t'' : Option (List ℕ)) (status : Status) → is_quit last.task.order ≡ false
    → Done Stands' (desks.after d last) (desks.text d last) t t' → Stops status (told_more around' more) (desks.after d last) (added desk) t' t'' → Stops status around' d (at_end desk last) t t''
end_stops Stands' around' more d desk last t t' t'' status other did stops =
    let P : List Tagged → Type 0 = λ ts. Stopped desks (Breaks status around' t'') d ts t t'' in
    record {
      stopped =
          subst P (sym (at_other desk last other))
          (did_stops desks (Breaks status around' t'') d (desks.after d last) (last ∷ added desk) (added desk) t t' t''
          (did_one desks Stands' d last (added desk) t t' did) (stopped_so status around' more (desks.after d last) (added desk) t' t'' stops.stopped));
      in_line = stops.in_line;
    }

-- Where the end of the input adds `quit`.
pub one_added : (desk : Bool) → desk ≡ false → added desk ≡ tagged_task (said (Some 0) (Ok Quit)) [] ∷ []
one_added true is = cc
one_added false is = refl

pub quit_added : (held' : DeskHolding) (around' : Around) (d : Desk) (all : List Tagged) (last : Tagged) (t t' : Option (List ℕ)) → all ≡ last ∷ []
    → Done (Lives held' (told_more around' (line_told d last))) (desks.after d last) (desks.text d last) t t'
    → Done (Lives held' (told_more around' (told_all d all))) (after_all desks d all) (run desks d all) t t'
quit_added held' around' d all last t t' is did =
    let P : List Tagged → Type 0 = λ ts. Done (Lives held' (told_more around' (told_all d ts))) (after_all desks d ts) (run desks d ts) t t' in
    subst P (sym is) (record {
      stands = lives_more held' around' (line_told d last) (told_all d (last ∷ [])) _ did.stands (λ k. omega arith);
      written = did.written ∙ ap (adds t) (sym (append-nil (desks.text d last)));
    })

pub quit_cut : (around' : Around) (d : Desk) (all : List Tagged) (last : Tagged) (t t' : Option (List ℕ)) (status : Status) → all ≡ last ∷ [] → Interrupted status around' d last t t' → Stops status around' d all t t'
quit_cut around' d all last t t' status is cut = record { stopped = (front_stops around' d last all [] t t' status is cut.cut).0; in_line = cut.in_line }

-- A status that says nothing of the bytes that were read.
pub line_behind : (status : Status) (line : Line) (d : Desk) (ahead : List ℕ) (used : ℕ) (l' : Option (List ℕ)) (done : List Tagged) → InLine status → BehindDone status line d ahead used l' done
line_behind ReadFault line d ahead used l' done silent = absurd silent
line_behind InputTooLong line d ahead used l' done silent = absurd silent
line_behind _ line d ahead used l' done silent = tt

pub line_last : (status : Status) (l' : Option (List ℕ)) (done : List Tagged) → InLine status → LastDone status l' done
line_last ReadFault l' done silent = absurd silent
line_last InputTooLong l' done silent = absurd silent
line_last _ l' done silent = tt

-- ---- what ends the loop

not_too_long : InputTooLong ≡ ReadFault → ⊥
not_too_long is = cc

not_short : InputTooLong ≡ Memory → ⊥
not_short is = cc

-- More than the limit was read where the script is too long.
pub read_too_much : (e : ReadError) (reader reader' : Reader) (l l' : Option (List ℕ)) (b b' b₀ : ℕ) → status_of_reading e ≡ InputTooLong → Stuck e reader l reader' l'
    → b' + (reader'.used + length reader'.unread) ≡ b + (reader.used + length reader.unread) → b + (reader.used + length reader.unread) ≡ b₀ → b' + longest_script < b₀
read_too_much error.TooLong reader reader' l l' b b' b₀ is stuck sum sum₀ = omega (arith, stuck.1.full, stuck.1.more, sum, sum₀)
read_too_much error.Failed reader reader' l l' b b' b₀ is stuck sum sum₀ = absurd (not_too_long (sym is))
read_too_much error.Memory reader reader' l l' b b' b₀ is stuck sum sum₀ = absurd (not_short (sym is))

-- The cause where no line was read.
pub why_stuck : (e : ReadError) (f f' i i' k k' : ℕ) → (e ≡ error.Failed → Rose i i') → WhyStatus (status_of_reading e) (counts f i k) (counts f' i' k')
why_stuck error.Failed f f' i i' k k' rose = rose refl
why_stuck error.TooLong f f' i i' k k' rose = tt
why_stuck error.Memory f f' i i' k k' rose = tt

-- ---- answers of a call that hands on another's

pub on_ok : {A E : Type 0} (r : Result A E) (X Y : Type 0) → (Y → X) → OnOk r Y → OnOk r X
on_ok (Ok a) X Y f y = f y
on_ok (Err e) X Y f y = tt

pub if_err : {A E : Type 0} (r : Result A E) (P Q : E → Type 0) → ((e : E) → P e → Q e) → IfErr r P → IfErr r Q
if_err (Ok a) P Q f p = tt
if_err (Err e) P Q f p = f e p

-- ---- the statuses of a run

pub ends_halt : (halt : Halt) → Interrupts (status_of_halt halt)
ends_halt (halt.Device stop.Files) = tt
ends_halt (halt.Device stop.Write) = tt
ends_halt (halt.Device stop.Memory) = tt
ends_halt (halt.Device stop.Read) = tt
ends_halt (halt.Changed game kept found) = tt

pub ends_stuck : (e : ReadError) → Interrupts (status_of_reading e)
ends_stuck error.Failed = tt
ends_stuck error.TooLong = tt
ends_stuck error.Memory = tt

-- ---- where nothing of the input was taken

-- A last line of no bytes changes no file.
said_nothing : (tagged : Bool) (front so_far : List ℕ) → Feeds [] front so_far → length front ≡ 0 → (line_of tagged []).order ≡ (line_of tagged so_far).order
unfolding script_from
said_nothing tagged (byte ∷ front) so_far feeds none = cc
said_nothing tagged [] so_far feeds none =
    let one : tagged_task (line_of tagged []) [] ∷ [] ≡ tagged_task (line_of tagged so_far) [] ∷ [] = ap (λ (x : Script). x.tasks) (feeds (λ last. last ∷ []) (new_clients tagged) []) in
    let first : tagged_task (line_of tagged []) [] ≡ tagged_task (line_of tagged so_far) [] = cc in
    ap (λ (x : Tagged). x.task.order) first

nothing_writes : (tagged : Bool) → order_writes (line_of tagged []).order ≡ false
unfolding line_of named reading shorn cut
nothing_writes true = refl
nothing_writes false = refl

pub last_quiet : (tagged : Bool) (front so_far : List ℕ) (line : Line) → Feeds [] front so_far → line ≡ line_of tagged so_far → length front ≡ 0 → order_writes line.order ≡ false
last_quiet tagged front so_far line feeds says none =
    ap (λ (l : Line). order_writes l.order) says ∙ ap order_writes (sym (said_nothing tagged front so_far feeds none)) ∙ nothing_writes tagged
