-- The steps of reading: one word more, and one line more.
use Rattle.std.proofs.Common.{◌≡◌, ℕ, ◌+◌, List, [], ◌∷◌, refl, sym, ap, ◌∙◌}
use Rattle.std.specs.Prelude.{Result, Ok, Err}
use Rattle.cell_core.specs.declared.step.Move.{Move}
use Rattle.cell_core.specs.Steps.{◌>>=◌}
use Rattle.chess_laws.specs.Step.{Step, stepped}
use Rattle.chess_laws.specs.declared.setup.Setup.{Setup}
use Rattle.chess_laws.proofs.Stepping.{Step-stepped}
use Rattle.chess_text.specs.SanAnswer.{san_answer}
use Rattle.chess_text.specs.declared.fault.SanFault.{SanFault}
use Rattle.eco_class.specs.Cutting.{lines_of, words_of}
use Rattle.eco_class.specs.Table.{Opening}
use Rattle.eco_class.specs.Reading.{played, with_line, with_lines}
use Rattle.eco_class.specs.declared.fault.EcoFault.{EcoFault}

-- ---- words

word_read : (p : Setup) (word : List ℕ) (words : List (List ℕ)) (answer : Result Move SanFault) → answer ≡ san_answer p word
    → played p (word ∷ words) ≡ (answer >>= λ m. played (stepped p m) words)
unfolding played
word_read p word words answer is = rw (← is) refl

pub played_on : (p q : Setup) (line word behind : List ℕ) (m : Move) (whole : Result Setup SanFault) → words_of line ≡ word ∷ words_of behind
    → Ok m ≡ san_answer p word → Step p m q → played p (words_of line) ≡ whole → played q (words_of behind) ≡ whole
played_on p q line word behind m whole words reads step is =
    ap (λ (s : Setup). played s (words_of behind)) (Step-stepped p m q step)
    ∙ sym (word_read p word (words_of behind) (Ok m) reads) ∙ ap (played p) (sym words) ∙ is

pub played_bad : (p : Setup) (line word behind : List ℕ) (fault : SanFault) (whole : Result Setup SanFault) → words_of line ≡ word ∷ words_of behind
    → Err fault ≡ san_answer p word → played p (words_of line) ≡ whole → Err fault ≡ whole
played_bad p line word behind fault whole words fails is =
    sym (word_read p word (words_of behind) (Err fault) fails) ∙ ap (played p) (sym words) ∙ is

pub played_end : (p : Setup) (line : List ℕ) (whole : Result Setup SanFault) → words_of line ≡ [] → played p (words_of line) ≡ whole → Ok p ≡ whole
unfolding played
played_end p line whole none is = rw none at is

-- ---- lines

line_read : (table : List Opening) (number : ℕ) (line : List ℕ) (lines : List (List ℕ)) (answer : Result (List Opening) EcoFault)
    → with_line table number line ≡ answer → with_lines table number (line ∷ lines) ≡ (answer >>= λ next. with_lines next (number + 1) lines)
unfolding with_lines
line_read table number line lines answer is = rw is refl

pub read_on : (table next : List Opening) (number later : ℕ) (text line behind : List ℕ) (whole : Result (List Opening) EcoFault)
    → lines_of text ≡ line ∷ lines_of behind → with_line table number line ≡ Ok next → later ≡ number + 1
    → with_lines table number (lines_of text) ≡ whole → with_lines next later (lines_of behind) ≡ whole
read_on table next number later text line behind whole lines reads is_later is =
    ap (λ (n : ℕ). with_lines next n (lines_of behind)) is_later
    ∙ sym (line_read table number line (lines_of behind) (Ok next) reads) ∙ ap (with_lines table number) (sym lines) ∙ is

pub read_bad : (table : List Opening) (number : ℕ) (text line behind : List ℕ) (fault : EcoFault) (whole : Result (List Opening) EcoFault)
    → lines_of text ≡ line ∷ lines_of behind → with_line table number line ≡ Err fault → with_lines table number (lines_of text) ≡ whole
    → whole ≡ Err fault
read_bad table number text line behind fault whole lines fails is =
    sym is ∙ ap (with_lines table number) lines ∙ line_read table number line (lines_of behind) (Err fault) fails

pub read_end : (table : List Opening) (number : ℕ) (text : List ℕ) (whole : Result (List Opening) EcoFault) → lines_of text ≡ []
    → with_lines table number (lines_of text) ≡ whole → whole ≡ Ok table
unfolding with_lines
read_end table number text whole none is = sym (rw none at is)
