-- A line has no more words than bytes and one.
use Rattle.std.proofs.Common.{◌≡◌, ◌==◌, ◌+◌, ◌≤◌, ℕ, Bool, true, false, cond, List, [], ◌∷◌, Some, None, length, refl, arith}
use Rattle.script_text.specs.Words.{Word, front, cut, words_of, is_blank, is_escaped}
use Rattle.script_text.specs.declared.words.Place.{Place}
use Rattle.script_text.specs.declared.words.Place.TheVariants.{Between, Inside, Quoted, Escaped}

front_length : (bytes : List ℕ) (words : List Word) → length (front bytes words) ≡ length words
front_length bytes [] = refl
front_length bytes (None ∷ words) = refl
front_length bytes (Some text ∷ words) = refl

either : (test : Bool) (a b : List Word) (n : ℕ) → length a ≤ n → length b ≤ n → length (cond test a b) ≤ n
either true a b n small small' = small
either false a b n small small' = small'

words_length : (place : Place) (line : List ℕ) → length (cut place line) ≤ length line + 1
unfolding cut
words_length Between [] = omega arith
words_length Inside [] = omega arith
words_length Quoted [] = omega arith
words_length Escaped [] = omega arith
words_length Between (byte ∷ line) =
    either (is_blank byte) _ _ _ (let h = words_length Between line in omega arith)
    (either (byte == 34) _ _ _ (let h = words_length Quoted line in omega arith)
    (let h = words_length Inside line in let e = front_length (byte ∷ []) (cut Inside line) in omega arith))
words_length Inside (byte ∷ line) =
    either (is_blank byte) _ _ _ (let h = words_length Between line in omega arith)
    (either (byte == 34) _ _ _ (let h = words_length Quoted line in omega arith)
    (let h = words_length Inside line in let e = front_length (byte ∷ []) (cut Inside line) in omega arith))
words_length Quoted (byte ∷ line) =
    either (byte == 34) _ _ _ (let h = words_length Inside line in omega arith)
    (either (byte == 92) _ _ _ (let h = words_length Escaped line in omega arith)
    (let h = words_length Quoted line in let e = front_length (byte ∷ []) (cut Quoted line) in omega arith))
words_length Escaped (byte ∷ line) =
    either (is_escaped byte) _ _ _
    (let h = words_length Quoted line in let e = front_length (byte ∷ []) (cut Quoted line) in omega arith)
    (let h = words_length Quoted line in let e = front_length (92 ∷ byte ∷ []) (cut Quoted line) in omega arith)

pub words_short : (line : List ℕ) → length (words_of line) ≤ length line + 1
words_short line = words_length Between line
