-- Laws of lines with their bodies: what the bytes of a script say that begin with them.
use Rattle.std.proofs.Common.{◌≡◌, ◌≤◌, ◌+◌, ℕ, zero, suc, true, false, List, [], ◌∷◌, ◌++◌, length, take, Option, Some, None, refl, sym, ap, ◌∙◌, arith}
use Rattle.std.proofs.lemmas.List.{length-take-le}
use Rattle.script_text.specs.Tasks.{body_word}
use Rattle.script_lines.specs.Bodies.{Body, body_of}
use Rattle.script_lines.specs.Reading.{grown, led_on}
use Rattle.script_lines.specs.Bytewise.{behind_line, script_from, with_body, with_byte, with_word}
use Rattle.script_lines.specs.Clients.{Clients, Tagged, heard, is_end, tagged_task}
use Rattle.script_lines.specs.Script.{Script, led_by, script}
use Rattle.script_lines.specs.declared.line.Line.{Line}
use Rattle.script_lines.proofs.BodyLaws.{ended}
use Rattle.script_lines.proofs.ScriptLaws.{grown_byte, grown_none}

-- Bytes that were read are passed over.
pub passed_over : (last : Tagged → List Tagged) (clients : Clients) (front more line : List ℕ) (n : ℕ) → n ≡ length front
    → script_from last clients n line (front ++ more) ≡ grown n (script_from last clients 0 line more)
unfolding script_from
passed_over last clients [] more line n is =
    ap (λ k. script_from last clients k line more) is ∙ sym (grown_none (script_from last clients 0 line more)) ∙ ap (λ k. grown k (script_from last clients 0 line more)) (sym is)
passed_over last clients (byte ∷ front) more line zero is = absurd (omega (arith, is))
passed_over last clients (byte ∷ front) more line (suc n) is =
    ap with_byte (passed_over last clients front more line n (omega (arith, is))) ∙ grown_byte n (script_from last clients 0 line more)

-- The line that ends the script, and a line without a body.
pub on_end : (last : Tagged → List Tagged) (clients : Clients) (line : Line) (more : List ℕ) → is_end clients line ≡ true → led_on last clients line more ≡ script (tagged_task line [] ∷ []) 0
on_end last clients line more over = rw over refl

by_word : (last : Tagged → List Tagged) (clients : Clients) (line : Line) (word : Option (List ℕ)) (more : List ℕ) (later : ℕ → Script) → is_end clients line ≡ false → body_word line.order ≡ word
    → behind_line last clients line more later ≡ with_word last line word more later
by_word last clients line word more later goes is = rw (goes, is) refl

pub on_line : (last : Tagged → List Tagged) (clients : Clients) (line : Line) (more : List ℕ) → is_end clients line ≡ false → body_word line.order ≡ None
    → led_on last clients line more ≡ led_by (tagged_task line []) (script_from last (heard clients line) 0 [] more)
on_line last clients line more goes none = by_word last clients line None more (λ n. script_from last (heard clients line) n [] more) goes none

body_ends : (last : Tagged → List Tagged) (line : Line) (b : Body) (count size : ℕ) (later : ℕ → Script) → b.end ≡ Some count
    → with_body last line b size later ≡ led_by (tagged_task line b.bytes) (later (length b.bytes + count))
body_ends last line b count size later is = rw is refl

body_open : (last : Tagged → List Tagged) (line : Line) (b : Body) (size : ℕ) (later : ℕ → Script) → b.end ≡ None
    → with_body last line b size later ≡ script (last (tagged_task line b.bytes)) size
body_open last line b size later is = rw is refl

-- A line with its body, which a line ends.
pub on_body : (last : Tagged → List Tagged) (clients : Clients) (line : Line) (word bytes more : List ℕ) (count k : ℕ) → is_end clients line ≡ false → body_word line.order ≡ Some word
    → (body_of word true bytes).end ≡ Some count → k ≡ length (body_of word true bytes).bytes + count
    → led_on last clients line (take k bytes ++ more) ≡ grown k (led_by (tagged_task line (body_of word true bytes).bytes) (script_from last (heard clients line) 0 [] more))
on_body last clients line word bytes more count k goes is end size =
    let b = ended word true bytes count end in
    let fits : k ≤ length bytes = omega (arith, size, b.size) in
    let kept : body_of word true (take k bytes ++ more) ≡ body_of word true bytes = b.kept k more size in
    let all : k ≡ length (take k bytes) = sym (length-take-le k bytes fits) in
    let later : ℕ → Script = λ n. script_from last (heard clients line) n [] (take k bytes ++ more) in
    by_word last clients line (Some word) (take k bytes ++ more) later goes is
    ∙ ap (λ (x : Body). with_body last line x (length (take k bytes ++ more)) later) kept
    ∙ body_ends last line (body_of word true bytes) count (length (take k bytes ++ more)) later end
    ∙ ap (λ n. led_by (tagged_task line (body_of word true bytes).bytes) (later n)) (sym size)
    ∙ ap (led_by (tagged_task line (body_of word true bytes).bytes)) (passed_over last (heard clients line) (take k bytes) more [] k all)

-- A line with its body, which the end of the bytes ends.
pub on_open : (last : Tagged → List Tagged) (clients : Clients) (line : Line) (word bytes : List ℕ) → is_end clients line ≡ false → body_word line.order ≡ Some word
    → (body_of word true bytes).end ≡ None → led_on last clients line bytes ≡ script (last (tagged_task line (body_of word true bytes).bytes)) (length bytes)
on_open last clients line word bytes goes is end =
    by_word last clients line (Some word) bytes (λ n. script_from last (heard clients line) n [] bytes) goes is
    ∙ body_open last line (body_of word true bytes) (length bytes) (λ n. script_from last (heard clients line) n [] bytes) end
