-- Laws of lines, byte by byte, and of what is kept of a line.
use Rattle.std.proofs.Common.{if◌then◌else◌, ◌≡◌, ◌≤◌, ◌<◌, ◌+◌, ◌==◌, ℕ, suc, Bool, true, false, nat_lt, List, [], ◌∷◌, ◌++◌, length, take, refl, sym, ap, ◌∙◌, arith, append_assoc, append-nil, inl, inr}
use Rattle.std.proofs.lemmas.Bool.{cases_lt, lt-ltb, le-ltb}
use Rattle.std.proofs.lemmas.List.{length-take-le, take_all, take-append-le}
use Rattle.scid_moves.specs.Answers.{answer, longest_line}
use Rattle.scid_moves.specs.Lines.{lines_from}
use Rattle.scid_moves.specs.Standing.{most_kept}

-- A byte that is a line feed, and one that is none.
abbrev one_more : Bool → ℕ → List (List ℕ) × List ℕ → List (List ℕ) × List ℕ
one_more feed byte read = if feed then (read.0 ++ read.1 ∷ [], []) else (read.0, read.1 ++ byte ∷ [])

-- The lines of bytes and one more: a step of the first byte and those behind it.
more-behind : (byte : ℕ) (test last : Bool) (line : List ℕ) (a b c d : List (List ℕ) × List ℕ) → c ≡ one_more last byte a → d ≡ one_more last byte b
    → (if test then (line ∷ c.0, c.1) else d) ≡ one_more last byte (if test then (line ∷ a.0, a.1) else b)
more-behind byte true true line a b c d from rest = rw from refl
more-behind byte true false line a b c d from rest = rw from refl
more-behind byte false true line a b c d from rest = rest
more-behind byte false false line a b c d from rest = rest

single : (byte : ℕ) (test : Bool) (line : List ℕ) → (if test then (line ∷ [], []) else ([], line ++ byte ∷ [])) ≡ one_more test byte ([], line)
single byte true line = refl
single byte false line = refl

pub lines_more : (byte : ℕ) (line bytes : List ℕ) → lines_from line (bytes ++ byte ∷ []) ≡ one_more (byte == 10) byte (lines_from line bytes)
unfolding lines_from
lines_more byte line [] = single byte (byte == 10) line
lines_more byte line (first ∷ bytes) =
    more-behind byte (first == 10) (byte == 10) line (lines_from [] bytes) (lines_from (line ++ first ∷ []) bytes) (lines_from [] (bytes ++ byte ∷ [])) (lines_from (line ++ first ∷ []) (bytes ++ byte ∷ []))
    (lines_more byte [] bytes) (lines_more byte (line ++ first ∷ []) bytes)

-- What is kept of a line has its answer.
pub answer_kept : (line : List ℕ) → answer (take most_kept line) ≡ answer line
unfolding answer
answer_kept line = elim (cases_lt longest_line (length line)) [
  | inl long ↦
      let kept : length (take most_kept line) ≡ most_kept = length-take-le most_kept line (omega (arith, long)) in
      let short : nat_lt longest_line (length (take most_kept line)) ≡ true = lt-ltb longest_line (length (take most_kept line)) (omega (arith, kept)) in
      let same : nat_lt longest_line (length line) ≡ true = lt-ltb longest_line (length line) long in
      rw (short, same) refl
  | inr few ↦ ap answer (take_all most_kept line (omega (arith, few)))
]
