-- Laws of the answer to a line, and of what calls answer.
use Rattle.std.proofs.Common.{◌≡◌, ◌≤◌, ◌<◌, ℕ, true, false, nat_lt, List, length, Result, Ok, Err, OnErr, OnOk, codes, refl, sym, ap, ◌∙◌}
use Rattle.std.proofs.lemmas.Bool.{le-ltb, lt-ltb}
use Rattle.chess_laws.specs.declared.setup.Setup.{Setup}
use Rattle.chess_text.specs.declared.fault.FenFault.{FenFault}
use Rattle.chess_text.specs.FenAnswer.{fen_answer}
use Rattle.scid_moves.specs.Answers.{answer, error_lines, longest_line, position_answer}

-- A line that is too long.
pub answer_long : (line : List ℕ) → longest_line < length line → answer line ≡ error_lines (codes "line too long")
unfolding answer
answer_long line long =
    let test : nat_lt longest_line (length line) ≡ true = lt-ltb longest_line (length line) long in
    rw test refl

-- A line that is read.
pub answer_read : (line : List ℕ) (read : Result Setup FenFault) → length line ≤ longest_line → read ≡ fen_answer line → answer line ≡ position_answer read
unfolding answer
answer_read line read few is =
    let test : nat_lt longest_line (length line) ≡ false = le-ltb longest_line (length line) few in
    rw test (ap position_answer (sym is))

-- What holds in any case holds after an error.
pub on_err : {T E : Type 0} (result : Result T E) (P : Type 0) → P → OnErr result P
on_err (Ok value) P p = tt
on_err (Err error) P p = p

-- What follows of what holds where it is done.
pub ok_map : {T E : Type 0} (result : Result T E) (P Q : Type 0) → (P → Q) → OnOk result P → OnOk result Q
ok_map (Ok value) P Q then p = then p
ok_map (Err error) P Q then p = tt
