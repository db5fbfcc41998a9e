use Rattle.std.proofs.Common.{◌≡◌, ◌++◌, ℕ, List, take, drop}
use Rattle.chess_text.specs.WordReading.{front_word, behind_word}
use Rattle.chess_text.proofs.fields.split_word.Given as goal

-- the bytes so far are in the word, and the rest of it is in what is left
pub record InWord (before left text : List ℕ) : Type 0 where
  pub word : before ++ front_word left ≡ front_word text
  pub rest : behind_word left ≡ behind_word text

abbrev pub invariant-loop-i : goal.invariant-loop-i
invariant-loop-i l = InWord (take l.i l.text) (drop l.i l.text) l.fn.text
