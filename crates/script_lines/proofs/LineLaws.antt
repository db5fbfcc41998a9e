-- That a reader, byte by byte, meets the definition over lines.
use Rattle.std.proofs.Common.{if◌then◌else◌, ◌&&◌, ◌⊎◌, inl, inr, ◌≡◌, ◌≤◌, ◌+◌, ◌==◌, ℕ, zero, suc, Bool, true, false, List, [], ◌∷◌, ◌++◌, length, Option, Some, None, option_map, refl, sym, ap, ◌∙◌, arith, append_assoc, append-nil, subst}
use Rattle.std.proofs.lemmas.Bool.{eqb-true}
use Rattle.std.proofs.lemmas.List.{length-append}
use Rattle.script_text.specs.Tasks.{body_word, task}
use Rattle.script_lines.specs.Bodies.{Body, body, body_of, is_word, led, says_word}
use Rattle.script_lines.specs.Bytewise.{script_from, with_body, with_byte, with_word}
use Rattle.script_lines.specs.Reading.{grown, led_on}
use Rattle.script_lines.specs.Clients.{Clients, Tagged, heard, is_end, line_of, tagged_task}
use Rattle.script_lines.specs.Script.{Script, begun, led_by, lines_from, on_line, script, script_at, script_by, with_bytes, with_line}
use Rattle.script_lines.specs.declared.line.Line.{Line}
use Rattle.script_lines.proofs.BodyLaws.{body_none, front_ends, front_open, line_whole, open_line}
use Rattle.script_lines.proofs.ScriptLaws.{feed_at_position, feed_read, first_feed, grown_byte, grown_none, no_feed, part_read}

-- ---- the first line of bytes

-- These bytes begin with a line that a line feed ends.
record Feed (bytes : List ℕ) : Type 0 where
  front : List ℕ
  more : List ℕ
  is : bytes ≡ front ++ 10 ∷ more
  none : first_feed front ≡ None

split_by : (byte : ℕ) (bytes : List ℕ) (test : Bool) → (byte == 10) ≡ test → (first_feed bytes ≡ None) ⊎ Feed bytes → (first_feed (byte ∷ bytes) ≡ None) ⊎ Feed (byte ∷ bytes)
split_by byte bytes true is rest = inr (record { front = []; more = bytes; is = ap (λ b. b ∷ bytes) (eqb-true byte 10 is); none = refl })
split_by byte bytes false is (inl none) = inl (rw (is, none) refl)
split_by byte bytes false is (inr f) = inr (record { front = byte ∷ f.front; more = f.more; is = ap (λ l. byte ∷ l) f.is; none = rw (is, f.none) refl })

split : (bytes : List ℕ) → (first_feed bytes ≡ None) ⊎ Feed bytes
split [] = inl refl
split (byte ∷ bytes) = split_by byte bytes (byte == 10) refl (split bytes)

lines_open : (line bytes : List ℕ) → first_feed bytes ≡ None → lines_from line bytes ≡ ([], line ++ bytes)
unfolding lines_from
lines_open line [] none = ap (λ l. ([], l)) (sym (append-nil line))
lines_open line (byte ∷ bytes) none =
    let none' : ((byte == 10) ≡ false) × (first_feed bytes ≡ None) = no_feed (byte == 10) (first_feed bytes) none in
    rw none'.0 (lines_open (line ++ byte ∷ []) bytes none'.1 ∙ ap (λ l. ([], l)) (append_assoc line (byte ∷ []) bytes))

lines_led : (line front more : List ℕ) → first_feed front ≡ None
    → lines_from line (front ++ 10 ∷ more) ≡ ((line ++ front) ∷ (lines_from [] more).0, (lines_from [] more).1)
unfolding lines_from
lines_led line [] more none = ap (λ l. (l ∷ (lines_from [] more).0, (lines_from [] more).1)) (sym (append-nil line))
lines_led line (byte ∷ front) more none =
    let none' : ((byte == 10) ≡ false) × (first_feed front ≡ None) = no_feed (byte == 10) (first_feed front) none in
    rw none'.0 (lines_led (line ++ byte ∷ []) front more none'.1 ∙ ap (λ l. (l ∷ (lines_from [] more).0, (lines_from [] more).1)) (append_assoc line (byte ∷ []) front))

feed_there : (front more : List ℕ) → first_feed front ≡ None → first_feed (front ++ 10 ∷ more) ≡ Some (length front)
feed_there [] more none = refl
feed_there (byte ∷ front) more none =
    let none' : ((byte == 10) ≡ false) × (first_feed front ≡ None) = no_feed (byte == 10) (first_feed front) none in
    rw (none'.0, feed_there front more none'.1) refl

word_led : (word front more : List ℕ) → first_feed front ≡ None → is_word word (front ++ 10 ∷ more) ≡ says_word word front
word_led word front more none = ap (says_word word) (open_line front (10 ∷ more) none ∙ append-nil front)

-- ---- bodies

-- Bytes in front of a body.
abbrev given : List ℕ → Body → Body
given front b = body (front ++ b.bytes) b.end

body_open : (word bytes : List ℕ) (fresh : Bool) → first_feed bytes ≡ None → (fresh && is_word word bytes) ≡ false → body_of word fresh bytes ≡ body bytes None
body_open word [] fresh none misses = body_none word fresh
body_open word (byte ∷ bytes) fresh none misses =
    let none' : ((byte == 10) ≡ false) × (first_feed bytes ≡ None) = no_feed (byte == 10) (first_feed bytes) none in
    front_open word fresh byte bytes misses ∙ ap (λ test. led byte (body_of word test bytes)) none'.0 ∙ ap (led byte) (body_open word bytes false none'.1 refl)

body_led : (word front more : List ℕ) (fresh : Bool) → first_feed front ≡ None → (fresh && is_word word (front ++ 10 ∷ more)) ≡ false
    → body_of word fresh (front ++ 10 ∷ more) ≡ given (front ++ 10 ∷ []) (body_of word true more)
body_led word [] more fresh none misses = front_open word fresh 10 more misses
body_led word (byte ∷ front) more fresh none misses =
    let none' : ((byte == 10) ≡ false) × (first_feed front ≡ None) = no_feed (byte == 10) (first_feed front) none in
    front_open word fresh byte (front ++ 10 ∷ more) misses ∙ ap (λ test. led byte (body_of word test (front ++ 10 ∷ more))) none'.0
    ∙ ap (led byte) (body_led word front more false none'.1 refl)

body_meets : (word bytes : List ℕ) (rest : Option ℕ) → first_feed bytes ≡ rest → is_word word bytes ≡ true → body_of word true bytes ≡ body [] (option_map suc rest)
body_meets word [] rest at meets = body_none word true ∙ ap (λ r. body [] (option_map suc r)) at
body_meets word (byte ∷ bytes) rest at meets =
    front_ends word true byte bytes meets ∙ ap (λ r. body [] (option_map suc r)) (feed_at_position (byte ∷ bytes) ∙ at)

-- ---- what the reader finds in a body

abbrev by_end : (Tagged → List Tagged) → Tagged → Option ℕ → ℕ → ℕ → (ℕ → Script) → Script
by_end last t None size taken later = script (last t) size
by_end last t (Some count) size taken later = led_by t (later (taken + count))

abbrev inside_from : (Tagged → List Tagged) → Clients → Tagged → Body → List ℕ → Script
inside_from last clients t b bytes = by_end last (with_bytes t b.bytes) b.end (length bytes) (length b.bytes) (λ n. script_from last clients n [] bytes)

body_said : (last : Tagged → List Tagged) (line : Line) (b : Body) (size : ℕ) (later : ℕ → Script) (end : Option ℕ) → b.end ≡ end
    → by_end last (tagged_task line b.bytes) end size (length b.bytes) later ≡ with_body last line b size later
body_said last line b size later None is = rw is refl
body_said last line b size later (Some count) is = rw is refl

-- The same task with other bytes.
abbrev bytes_of : Tagged → List ℕ → Tagged
bytes_of t bytes = record { client = t.client; task = task t.task.order bytes }

no_bytes : (t : Tagged) → with_bytes t [] ≡ t
no_bytes t = ap (bytes_of t) (append-nil t.task.body)

more_bytes : (t : Tagged) (front bytes : List ℕ) → with_bytes (with_bytes t front) bytes ≡ with_bytes t (front ++ bytes)
more_bytes t front bytes = ap (bytes_of t) (append_assoc t.task.body front bytes)

-- Bytes that were read are passed over, before others that were.
ahead_of : (last : Tagged → List Tagged) (clients : Clients) (front more : List ℕ) (n m : ℕ) → n ≡ length front + m
    → script_from last clients n [] (front ++ more) ≡ grown (length front) (script_from last clients m [] more)
unfolding script_from
ahead_of last clients [] more n m is =
    let same : n ≡ m = omega (arith, is) in ap (λ k. script_from last clients k [] more) same ∙ sym (grown_none (script_from last clients m [] more))
ahead_of last clients (byte ∷ front) more zero m is = absurd (omega (arith, is))
ahead_of last clients (byte ∷ front) more (suc n) m is =
    ap with_byte (ahead_of last clients front more n m (omega (arith, is))) ∙ grown_byte (length front) (script_from last clients m [] more)

-- ---- both ways of reading say the same

-- What these bytes say, from between tasks and from inside a body.
abbrev at_bytes : (Tagged → List Tagged) → Clients → Option (Tagged × List ℕ) → List ℕ → Script
at_bytes last clients place bytes = script_at last (lines_from [] bytes).1 clients place (lines_from [] bytes).0

record Meets (last : Tagged → List Tagged) (clients : Clients) (bytes : List ℕ) : Type 0 where
  between : script_by last clients bytes ≡ script_from last clients 0 [] bytes
  inside : (t : Tagged) (word : List ℕ) → at_bytes last clients (Some (t, word)) bytes ≡ inside_from last clients t (body_of word true bytes) bytes

open_between : (last : Tagged → List Tagged) (clients : Clients) (bytes : List ℕ) → first_feed bytes ≡ None → script_by last clients bytes ≡ script_from last clients 0 [] bytes
unfolding script_from script_at
open_between last clients bytes none =
    ap (λ (x : List (List ℕ) × List ℕ). script_at last x.1 clients None x.0) (lines_open [] bytes none)
    ∙ ap (script (last (tagged_task (line_of clients.tagged bytes) []))) (omega arith) ∙ sym (part_read last clients [] bytes [] none)
    ∙ ap (script_from last clients 0 []) (append-nil bytes)

open_inside_by : (last : Tagged → List Tagged) (clients : Clients) (bytes : List ℕ) (t : Tagged) (word : List ℕ) (test : Bool) → says_word word bytes ≡ test → first_feed bytes ≡ None
    → script (last (if says_word word bytes then t else with_bytes t bytes)) (length bytes) ≡ inside_from last clients t (body_of word true bytes) bytes
open_inside_by last clients bytes t word true meets none =
    let b : body_of word true bytes ≡ body [] None = body_meets word bytes None none (ap (says_word word) (line_whole bytes none) ∙ meets) in
    rw meets (ap (λ x. script (last x) (length bytes)) (sym (no_bytes t)) ∙ ap (λ (x : Body). inside_from last clients t x bytes) (sym b))
open_inside_by last clients bytes t word false misses none =
    let b : body_of word true bytes ≡ body bytes None = body_open word bytes true none (ap (says_word word) (line_whole bytes none) ∙ misses) in
    rw misses (ap (λ (x : Body). inside_from last clients t x bytes) (sym b))

open_inside : (last : Tagged → List Tagged) (clients : Clients) (bytes : List ℕ) (t : Tagged) (word : List ℕ) → first_feed bytes ≡ None
    → at_bytes last clients (Some (t, word)) bytes ≡ inside_from last clients t (body_of word true bytes) bytes
unfolding script_at
open_inside last clients bytes t word none =
    ap (λ (x : List (List ℕ) × List ℕ). script_at last x.1 clients (Some (t, word)) x.0) (lines_open [] bytes none)
    ∙ open_inside_by last clients bytes t word (says_word word bytes) refl none

-- A line that a line feed ends, between tasks.
begun_by : (last : Tagged → List Tagged) (clients : Clients) (line : Line) (more : List ℕ) (word : Option (List ℕ)) → Meets last clients more
    → begun (tagged_task line []) word (λ place. at_bytes last clients place more) ≡ with_word last line word more (λ n. script_from last clients n [] more)
begun_by last clients line more None m = ap (led_by (tagged_task line [])) m.between
begun_by last clients line more (Some word) m =
    m.inside (tagged_task line []) word ∙ body_said last line (body_of word true more) (length more) (λ n. script_from last clients n [] more) (body_of word true more).end refl

line_by : (last : Tagged → List Tagged) (clients : Clients) (line : Line) (more : List ℕ) (over : Bool) → is_end clients line ≡ over → Meets last (heard clients line) more
    → on_line clients line (λ later place. at_bytes last later place more) ≡ led_on last clients line more
line_by last clients line more true is m = rw is refl
line_by last clients line more false is m = rw is (begun_by last (heard clients line) line more (body_word line.order) m)

grown_line : (front : List ℕ) (s : Script) → with_line front s ≡ grown (length front) (with_byte s)
grown_line front s = ap (script s.tasks) (omega arith)

led_between : (last : Tagged → List Tagged) (clients : Clients) (front more : List ℕ) → first_feed front ≡ None → Meets last (heard clients (line_of clients.tagged front)) more
    → script_by last clients (front ++ 10 ∷ more) ≡ script_from last clients 0 [] (front ++ 10 ∷ more)
unfolding script_at
led_between last clients front more none m =
    ap (λ (x : List (List ℕ) × List ℕ). script_at last x.1 clients None x.0) (lines_led [] front more none)
    ∙ ap (with_line front) (line_by last clients (line_of clients.tagged front) more (is_end clients (line_of clients.tagged front)) refl m)
    ∙ grown_line front (led_on last clients (line_of clients.tagged front) more)
    ∙ ap (grown (length front)) (sym (feed_read last clients front 10 more refl))
    ∙ sym (part_read last clients [] front (10 ∷ more) none)

-- The same in a body.
raw_line : (front : List ℕ) → length (front ++ 10 ∷ []) ≡ suc (length front)
raw_line front = let n : length (front ++ 10 ∷ []) ≡ length front + 1 = length-append front (10 ∷ []) in omega (arith, n)

passed : (last : Tagged → List Tagged) (clients : Clients) (front more : List ℕ) (n m : ℕ) → n ≡ suc (length front) + m
    → with_line front (script_from last clients m [] more) ≡ script_from last clients n [] (front ++ 10 ∷ more)
passed last clients front more n m is =
    let raw : length (front ++ 10 ∷ []) ≡ suc (length front) = raw_line front in
    ap (λ k. grown k (script_from last clients m [] more)) (sym raw)
    ∙ sym (ahead_of last clients (front ++ 10 ∷ []) more n m (omega (arith, raw, is)))
    ∙ ap (script_from last clients n []) (append_assoc front (10 ∷ []) more)

end_by : (last : Tagged → List Tagged) (clients : Clients) (front more : List ℕ) (t : Tagged) (b : Body) (end : Option ℕ)
    → with_line front (by_end last (with_bytes (with_bytes t (front ++ 10 ∷ [])) b.bytes) end (length more) (length b.bytes) (λ n. script_from last clients n [] more))
    ≡ by_end last (with_bytes t ((front ++ 10 ∷ []) ++ b.bytes)) end (length (front ++ 10 ∷ more)) (length ((front ++ 10 ∷ []) ++ b.bytes)) (λ n. script_from last clients n [] (front ++ 10 ∷ more))
end_by last clients front more t b None =
    let size : length (front ++ 10 ∷ more) ≡ length front + suc (length more) = length-append front (10 ∷ more) in
    ap (λ x. script (last x) (suc (length front) + length more)) (more_bytes t (front ++ 10 ∷ []) b.bytes)
    ∙ ap (script (last (with_bytes t ((front ++ 10 ∷ []) ++ b.bytes)))) (omega (arith, size))
end_by last clients front more t b (Some count) =
    let raw : length (front ++ 10 ∷ []) ≡ suc (length front) = raw_line front in
    let size : length ((front ++ 10 ∷ []) ++ b.bytes) ≡ length (front ++ 10 ∷ []) + length b.bytes = length-append (front ++ 10 ∷ []) b.bytes in
    ap (λ x. led_by x (with_line front (script_from last clients (length b.bytes + count) [] more))) (more_bytes t (front ++ 10 ∷ []) b.bytes)
    ∙ ap (led_by (with_bytes t ((front ++ 10 ∷ []) ++ b.bytes)))
    (passed last clients front more (length ((front ++ 10 ∷ []) ++ b.bytes) + count) (length b.bytes + count) (omega (arith, raw, size)))

led_inside_by : (last : Tagged → List Tagged) (clients : Clients) (front more : List ℕ) (t : Tagged) (word : List ℕ) (test : Bool) → says_word word front ≡ test → first_feed front ≡ None
    → Meets last clients more
    → with_line front (if says_word word front then led_by t (script_by last clients more) else at_bytes last clients (Some (with_bytes t (front ++ 10 ∷ []), word)) more)
    ≡ inside_from last clients t (body_of word true (front ++ 10 ∷ more)) (front ++ 10 ∷ more)
led_inside_by last clients front more t word true meets none m =
    let b : body_of word true (front ++ 10 ∷ more) ≡ body [] (Some (suc (length front))) =
    body_meets word (front ++ 10 ∷ more) (Some (length front)) (feed_there front more none) (word_led word front more none ∙ meets) in
    rw meets
    (ap (λ s. led_by t (with_line front s)) m.between
    ∙ ap (led_by t) (passed last clients front more (0 + suc (length front)) 0 (omega arith))
    ∙ ap (λ x. led_by x (script_from last clients (0 + suc (length front)) [] (front ++ 10 ∷ more))) (sym (no_bytes t))
    ∙ ap (λ (x : Body). inside_from last clients t x (front ++ 10 ∷ more)) (sym b))
led_inside_by last clients front more t word false misses none m =
    let b : body_of word true (front ++ 10 ∷ more) ≡ given (front ++ 10 ∷ []) (body_of word true more) =
    body_led word front more true none (word_led word front more none ∙ misses) in
    rw misses
    (ap (with_line front) (m.inside (with_bytes t (front ++ 10 ∷ [])) word)
    ∙ end_by last clients front more t (body_of word true more) (body_of word true more).end
    ∙ ap (λ (x : Body). inside_from last clients t x (front ++ 10 ∷ more)) (sym b))

led_inside : (last : Tagged → List Tagged) (clients : Clients) (front more : List ℕ) (t : Tagged) (word : List ℕ) → first_feed front ≡ None → Meets last clients more
    → at_bytes last clients (Some (t, word)) (front ++ 10 ∷ more) ≡ inside_from last clients t (body_of word true (front ++ 10 ∷ more)) (front ++ 10 ∷ more)
unfolding script_at
led_inside last clients front more t word none m =
    ap (λ (x : List (List ℕ) × List ℕ). script_at last x.1 clients (Some (t, word)) x.0) (lines_led [] front more none)
    ∙ led_inside_by last clients front more t word (says_word word front) refl none m

meets_by : (last : Tagged → List Tagged) (clients : Clients) (n : ℕ) (bytes : List ℕ) → length bytes ≤ n → (first_feed bytes ≡ None) ⊎ Feed bytes → Meets last clients bytes
meets_by last clients n bytes fits (inl none) =
    record { between = open_between last clients bytes none; inside = λ t word. open_inside last clients bytes t word none }
meets_by last clients zero bytes fits (inr f) =
    let size : length bytes ≡ length f.front + suc (length f.more) = ap length f.is ∙ length-append f.front (10 ∷ f.more) in
    absurd (omega (arith, size, fits))
meets_by last clients (suc n) bytes fits (inr f) =
    let size : length bytes ≡ length f.front + suc (length f.more) = ap length f.is ∙ length-append f.front (10 ∷ f.more) in
    let inside : Meets last clients f.more = meets_by last clients n f.more (omega (arith, size, fits)) (split f.more) in
    let between : Meets last (heard clients (line_of clients.tagged f.front)) f.more =
    meets_by last (heard clients (line_of clients.tagged f.front)) n f.more (omega (arith, size, fits)) (split f.more) in
    subst (λ b. Meets last clients b) (sym f.is)
    (record { between = led_between last clients f.front f.more f.none between; inside = λ t word. led_inside last clients f.front f.more t word f.none inside })

-- The reader meets the definition.
pub reader_meets : (last : Tagged → List Tagged) (clients : Clients) (bytes : List ℕ) → script_by last clients bytes ≡ script_from last clients 0 [] bytes
reader_meets last clients bytes = (meets_by last clients (length bytes) bytes (omega arith) (split bytes)).between
