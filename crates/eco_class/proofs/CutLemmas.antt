-- How a text is cut: the first line and the first word, and what stands behind them.
use Rattle.std.proofs.Common.{◌≡◌, ℕ, suc, ◌+◌, ◌<◌, ◌≤◌, ◌==◌, Bool, true, false, cond, not, List, [], ◌∷◌, length, take, drop, Option, None, Some, refl, sym, ap, ◌∙◌, arith, inl, inr}
use Rattle.std.specs.Prelude.{filter, nat_lt, position, unwrap_or, is_some, slice_get}
use Rattle.std.specs.List.{onto_first, position_or_len, slice_split}
use Rattle.std.proofs.lemmas.Bool.{cases_Bool, ltb-false}
use Rattle.eco_class.specs.Cutting.{is_blank, lines_of, without_first, words_of}

one_more : (n : ℕ) → 1 + n ≡ suc n
one_more n = omega arith

-- The first byte that passes, or the length.
pub first_or_len : (p : ℕ → Bool) (text : List ℕ) → position_or_len p text ≤ length text
first_or_len p [] = omega arith
first_or_len p (byte ∷ text) = elim (cases_Bool (p byte)) [
  | inl holds ↦ rw holds (omega arith)
  | inr fails ↦ rw fails (omega (arith, first_or_len p text))
]

-- ---- lines

-- The first line ends at the first line feed.
pub lines_cut : (text : List ℕ) → 0 < length text
    → lines_of text ≡ take (position_or_len (λ byte. byte == 10) text) text ∷ lines_of (without_first (drop (position_or_len (λ byte. byte == 10) text) text))
lines_cut [] some = absurd (omega (arith, some))
lines_cut (byte ∷ []) some = elim (cases_Bool (byte == 10)) [
  | inl holds ↦ rw holds refl
  | inr fails ↦ rw fails refl
]
lines_cut (byte ∷ next ∷ text) some = elim (cases_Bool (byte == 10)) [
  | inl holds ↦ rw holds refl
  | inr fails ↦ rw (fails, one_more (position_or_len (λ byte. byte == 10) (next ∷ text))) (ap (onto_first byte) (lines_cut (next ∷ text) (omega arith)))
]

-- ---- words, which bytes that pass a test stand between

-- The parts that are not empty.
abbrev words_by : (ℕ → Bool) → List ℕ → List (List ℕ)
words_by p line = filter (λ word. is_some (slice_get word 0)) (slice_split p line)

-- Blanks before the first word are passed.
words_skip : (p : ℕ → Bool) (line : List ℕ) → words_by p (drop (position_or_len (λ byte. not (p byte)) line) line) ≡ words_by p line
words_skip p [] = refl
words_skip p (byte ∷ line) = elim (cases_Bool (p byte)) [
  | inl holds ↦ rw (holds, one_more (position_or_len (λ byte. not (p byte)) line)) (words_skip p line)
  | inr fails ↦ skip_here p byte line fails
]
  where
    skip_here : (p : ℕ → Bool) (byte : ℕ) (line : List ℕ) → p byte ≡ false
        → words_by p (drop (position_or_len (λ byte. not (p byte)) (byte ∷ line)) (byte ∷ line)) ≡ words_by p (byte ∷ line)
    skip_here p byte line fails =
        let none : position_or_len (λ b. not (p b)) (byte ∷ line) ≡ 0 = rw fails refl in
        ap (λ (n : ℕ). words_by p (drop n (byte ∷ line))) none

-- What is left begins with a byte that is no blank.
begins_word : (p : ℕ → Bool) (line : List ℕ) → 0 < length (drop (position_or_len (λ byte. not (p byte)) line) line)
    → 0 < position_or_len p (drop (position_or_len (λ byte. not (p byte)) line) line)
begins_word p [] = λ some. absurd (omega (arith, some))
begins_word p (byte ∷ line) = elim (cases_Bool (p byte)) [
  | inl holds ↦ rw (holds, one_more (position_or_len (λ byte. not (p byte)) line)) (begins_word p line)
  | inr fails ↦ rw fails (λ some. begins_here p byte line fails)
]
  where
    begins_here : (p : ℕ → Bool) (byte : ℕ) (line : List ℕ) → p byte ≡ false → 0 < position_or_len p (byte ∷ line)
    begins_here p byte line fails = rw fails (omega arith)

-- What is cut off a line before its first blank, and the parts behind that.
record IsCut (p : ℕ → Bool) (line : List ℕ) : Type 0 where
  parts : List (List ℕ)
  first : slice_split p line ≡ take (position_or_len p line) line ∷ parts
  behind : filter (λ word. is_some (slice_get word 0)) parts ≡ words_by p (drop (position_or_len p line) line)

is_cut : (p : ℕ → Bool) (line : List ℕ) → IsCut p line
is_cut p [] = record { parts = []; first = refl; behind = refl }
is_cut p (byte ∷ line) = elim (cases_Bool (p byte)) [
  | inl holds ↦ record { parts = slice_split p line; first = rw holds refl; behind = cut_here p byte line holds }
  | inr fails ↦
      let rest = is_cut p line in
      record {
        parts = rest.parts;
        first = rw (fails, one_more (position_or_len p line)) (ap (onto_first byte) rest.first);
        behind = rw (fails, one_more (position_or_len p line)) rest.behind;
      }
]
  where
    cut_here : (p : ℕ → Bool) (byte : ℕ) (line : List ℕ) → p byte ≡ true
        → filter (λ word. is_some (slice_get word 0)) (slice_split p line) ≡ words_by p (drop (position_or_len p (byte ∷ line)) (byte ∷ line))
    cut_here p byte line holds =
        let none : position_or_len p (byte ∷ line) ≡ 0 = rw holds refl in
        let whole : filter (λ word. is_some (slice_get word 0)) (slice_split p line) ≡ words_by p (byte ∷ line) = rw holds refl in
        whole ∙ ap (λ (n : ℕ). words_by p (drop n (byte ∷ line))) (sym none)

-- The first word ends at the first blank, where the line begins with another byte.
words_cut : (p : ℕ → Bool) (line : List ℕ) → 0 < length line → 0 < position_or_len p line
    → words_by p line ≡ take (position_or_len p line) line ∷ words_by p (drop (position_or_len p line) line)
words_cut p [] some = λ begins. absurd (omega (arith, some))
words_cut p (byte ∷ line) some = elim (cases_Bool (p byte)) [
  | inl holds ↦ rw holds (λ begins. absurd (omega (arith, begins)))
  | inr fails ↦
      let rest = is_cut p line in
      rw (fails, one_more (position_or_len p line), rest.first)
      (λ begins. ap (λ (words : List (List ℕ)). (byte ∷ take (position_or_len p line) line) ∷ words) rest.behind)
]

-- ---- as they are called

-- No line, and the first line and what stands behind its line feed.
pub no_line : (text : List ℕ) → length text ≡ 0 → lines_of text ≡ []
no_line [] none = refl
no_line (byte ∷ text) none = absurd (omega (arith, none))

pub line_is : (text line rest behind : List ℕ) (n : ℕ) → 0 < length text → n ≡ position_or_len (λ byte. byte == 10) text → line ≡ take n text
    → rest ≡ drop n text → behind ≡ without_first rest → lines_of text ≡ line ∷ lines_of behind
line_is text line rest behind n some is at left tail = rw (tail, at, left, is) (lines_cut text some)

pub line_shorter : (text rest behind : List ℕ) → 0 < length text → length rest ≤ length text → behind ≡ without_first rest → length behind < length text
line_shorter text [] behind some within tail = omega (arith, some, ap length tail)
line_shorter text (byte ∷ rest) behind some within tail = omega (arith, within, ap length tail)

-- Nothing stands behind the first byte of nothing.
pub none_first : (bytes : List ℕ) → length bytes ≡ 0 → bytes ≡ without_first bytes
none_first [] none = refl
none_first (byte ∷ bytes) none = absurd (omega (arith, none))

-- No word, and the first word and what stands behind it.
pub no_word : (line rest : List ℕ) (n : ℕ) → n ≡ position_or_len (λ byte. not (is_blank byte)) line → rest ≡ drop n line → length rest ≡ 0 → words_of line ≡ []
unfolding words_of
no_word line rest n is left none = sym (words_skip is_blank line) ∙ by (drop (position_or_len (λ byte. not (is_blank byte)) line) line) (sym (ap length (rw is at left)) ∙ none)
  where
    by : (left : List ℕ) → length left ≡ 0 → words_of left ≡ []
    by [] empty = refl
    by (byte ∷ left) empty = absurd (omega (arith, empty))

pub word_is : (line rest text behind : List ℕ) (n m : ℕ) → n ≡ position_or_len (λ byte. not (is_blank byte)) line → rest ≡ drop n line
    → 0 < length rest → m ≡ position_or_len is_blank rest → text ≡ take m rest → behind ≡ drop m rest
    → words_of line ≡ text ∷ words_of behind
unfolding words_of
word_is line rest text behind n m is over some ends word left =
    let here : rest ≡ drop (position_or_len (λ byte. not (is_blank byte)) line) line = rw is at over in
    let begins : 0 < position_or_len is_blank rest = rw here (begins_word is_blank line (rw here at some)) in
    let first : words_of rest ≡ text ∷ words_of behind = rw (word, left, ends) (words_cut is_blank rest some begins) in
    sym (words_skip is_blank line) ∙ ap words_of (sym here) ∙ first

-- A word has a byte at least.
pub word_some : (line rest : List ℕ) (n m : ℕ) → n ≡ position_or_len (λ byte. not (is_blank byte)) line → rest ≡ drop n line
    → 0 < length rest → m ≡ position_or_len is_blank rest → 0 < m
word_some line rest n m is over some ends =
    let here : rest ≡ drop (position_or_len (λ byte. not (is_blank byte)) line) line = rw is at over in
    let begins : 0 < position_or_len is_blank rest = rw here (begins_word is_blank line (rw here at some)) in
    omega (arith, begins, ends)

-- The place of the first byte that passes, or the length where none does.
place_or_len : (p : ℕ → Bool) (text : List ℕ) → unwrap_or (position p text) (length text) ≡ position_or_len p text
place_or_len p text = by (nat_lt (position_or_len p text) (length text)) refl
  where
    by : (t : Bool) → nat_lt (position_or_len p text) (length text) ≡ t → unwrap_or (cond t (Some (position_or_len p text)) None) (length text) ≡ position_or_len p text
    by true within = refl
    by false past = omega (arith, first_or_len p text, ltb-false (position_or_len p text) (length text) past)

pub len_is : (p : ℕ → Bool) (text : List ℕ) (place : Option ℕ) (n : ℕ) → place ≡ position p text → n ≡ unwrap_or place (length text) → n ≡ position_or_len p text
len_is p text place n is at = at ∙ ap (λ (o : Option ℕ). unwrap_or o (length text)) is ∙ place_or_len p text

pub len_within : (p : ℕ → Bool) (text : List ℕ) (n : ℕ) → n ≡ position_or_len p text → n ≤ length text
len_within p text n is = omega (arith, is, first_or_len p text)
