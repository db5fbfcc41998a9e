-- Each text is words with spaces between, and the words that are read one after another are these.
use Rattle.std.proofs.Common.{◌≡◌, ◌≢◌, ℕ, zero, suc, inl, inr, ◌==◌, ◌+◌, not, nat_le, List, [], ◌∷◌, ◌++◌, get_or, drop, replicate, length, refl, sym, ◌∙◌, ap, subst, arith}
use Rattle.std.specs.List.{AllByRecursion, prefix_len, take_while}
use Rattle.std.proofs.lemmas.List.Sums.{take_while-cons}
use Rattle.std.proofs.lemmas.Bool.{eqb-true, eqb-false, ne_eqb, lt-leb, le-leb, cases_Bool}
use Rattle.std.proofs.lemmas.Bool.Decides.{nat_tests}
use Rattle.chess_text.specs.Fields.{or_word, IsWord, EndsWord, Spaced}
use Rattle.chess_text.specs.FieldReading.{skipped, word_of, rest_of}
use Rattle.chess_text.specs.WordReading.{passed_spaces, front_word, behind_word}

-- ---- each text is words

-- one more space at the beginning
pub spaced_space : (words : List (List ℕ)) (text : List ℕ) → Spaced words text → Spaced words (32 ∷ text)
spaced_space [] text (n, e) = (suc n, ap (λ (bytes : List ℕ). 32 ∷ bytes) e)
spaced_space (word ∷ words) text (n, rest, e, is_word, ends, more) =
    (suc n, rest, ap (λ (bytes : List ℕ). 32 ∷ bytes) e, is_word, ends, more)

Words : List ℕ → Type 0
Words text = (words : List (List ℕ)) × Spaced words text

-- a byte before a word, with no space between, is the word's first
joined : (byte c : ℕ) (text : List ℕ) → byte ≢ 32 → c ≢ 32 → (words : List (List ℕ)) → Spaced words (c ∷ text)
    → Words (byte ∷ c ∷ text)
unfolding Words
joined byte c text no_space no_space' [] (zero, e) = absurd (cc)
joined byte c text no_space no_space' [] (suc n, e) = absurd (no_space' (cc))
joined byte c text no_space no_space' (word ∷ words) (zero, rest, e, is_word, ends, more) = (
  (byte ∷ word) ∷ words,
  (0, rest, ap (λ (bytes : List ℕ). byte ∷ bytes) e, (omega arith, (no_space, is_word.1)), ends, more),
)
joined byte c text no_space no_space' (word ∷ words) (suc n, rest, e, is_word, ends, more) = absurd (no_space' (cc))

-- a byte before what has words
byte_before : (byte : ℕ) (text : List ℕ) → byte ≢ 32 → Words text → Words (byte ∷ text)
unfolding Words
byte_before byte [] no_space (words, spaced) =
    ((byte ∷ []) ∷ [], (0, [], refl, (omega arith, (no_space, tt)), tt, (0, refl)))
byte_before byte (c ∷ text) no_space (words, spaced) =
    elim (cases_Bool (c == 32)) [
      | inl space ↦
          ((byte ∷ []) ∷ words, (0, c ∷ text, refl, (omega arith, (no_space, tt)), eqb-true c 32 space, spaced))
      | inr other ↦ joined byte c text no_space (eqb-false c 32 other) words spaced
    ]

pub words_of : (text : List ℕ) → (words : List (List ℕ)) × Spaced words text
unfolding Words
words_of [] = ([], (0, refl))
words_of (byte ∷ text) =
    elim (cases_Bool (byte == 32)) [
      | inl space ↦
          let w = words_of text in
          (w.0, subst (λ (b : ℕ). Spaced w.0 (b ∷ text)) (sym (eqb-true byte 32 space)) (spaced_space w.0 text w.1))
      | inr other ↦ byte_before byte text (eqb-false byte 32 other) (words_of text)
    ]

-- ---- reading the first word

one_plus : (n : ℕ) → 1 + n ≡ suc n
one_plus n = omega arith

spaces_is : (text : List ℕ) → skipped text ≡ passed_spaces text
spaces_is [] = refl
spaces_is (byte ∷ text) =
    elim (cases_Bool (byte == 32)) [
      | inl space ↦
          let old : passed_spaces (byte ∷ text) ≡ passed_spaces text = rw space refl in
          let new : skipped (byte ∷ text) ≡ drop (1 + prefix_len (λ (byte : ℕ). byte == 32) text) (byte ∷ text) = rw space refl in
          new ∙ ap (λ (n : ℕ). drop n (byte ∷ text)) (one_plus (prefix_len (λ (byte : ℕ). byte == 32) text)) ∙ spaces_is text ∙ sym old
      | inr other ↦ rw other refl
    ]

front_is : (text : List ℕ) → take_while (λ (byte : ℕ). not (byte == 32)) text ≡ front_word text
front_is [] = refl
front_is (byte ∷ text) =
    elim (cases_Bool (byte == 32)) [
      | inl space ↦ rw space refl
      | inr other ↦
          let new : take_while (λ (byte : ℕ). not (byte == 32)) (byte ∷ text) ≡ byte ∷ take_while (λ (byte : ℕ). not (byte == 32)) text
          = take_while-cons (λ (byte : ℕ). not (byte == 32)) byte text ∙ rw other refl in
          let old : front_word (byte ∷ text) ≡ byte ∷ front_word text = rw other refl in
          new ∙ ap (λ (bytes : List ℕ). byte ∷ bytes) (front_is text) ∙ sym old
    ]

behind_is : (text : List ℕ) → drop (length (front_word text)) text ≡ behind_word text
behind_is [] = refl
behind_is (byte ∷ text) =
    elim (cases_Bool (byte == 32)) [
      | inl space ↦ rw space refl
      | inr other ↦ rw other (behind_is text)
    ]

pub word_is : (text : List ℕ) → word_of text ≡ front_word (passed_spaces text)
unfolding word_of
word_is text = ap (λ (bytes : List ℕ). take_while (λ (byte : ℕ). not (byte == 32)) bytes) (spaces_is text) ∙ front_is (passed_spaces text)

pub rest_is : (text : List ℕ) → rest_of text ≡ behind_word (passed_spaces text)
unfolding rest_of
rest_is text =
    ap (λ (bytes : List ℕ). drop (length bytes) (skipped text)) (word_is text)
    ∙ ap (λ (bytes : List ℕ). drop (length (front_word (passed_spaces text))) bytes) (spaces_is text) ∙ behind_is (passed_spaces text)

skipped_spaces : (n : ℕ) (text : List ℕ) → passed_spaces (replicate n 32 ++ text) ≡ passed_spaces text
skipped_spaces zero text = refl
skipped_spaces (suc n) text = skipped_spaces n text

skipped_all : (n : ℕ) → passed_spaces (replicate n 32) ≡ []
skipped_all zero = refl
skipped_all (suc n) = skipped_all n

skipped_word : (word rest : List ℕ) → IsWord word → passed_spaces (word ++ rest) ≡ word ++ rest
skipped_word [] rest is_word = absurd (omega (arith, is_word.0))
skipped_word (byte ∷ word) rest is_word = rw (ne_eqb byte 32 is_word.1.0) refl

front_end : (rest : List ℕ) → EndsWord rest → front_word rest ≡ []
front_end [] ends = refl
front_end (byte ∷ rest) ends = rw ends refl

behind_end : (rest : List ℕ) → EndsWord rest → behind_word rest ≡ rest
behind_end [] ends = refl
behind_end (byte ∷ rest) ends = rw ends refl

front_whole : (word rest : List ℕ) → AllByRecursion (λ byte. byte ≢ 32) word → EndsWord rest
    → front_word (word ++ rest) ≡ word
front_whole [] rest no_space ends = front_end rest ends
front_whole (byte ∷ word) rest no_space ends =
    rw (ne_eqb byte 32 no_space.0) (ap (λ (bytes : List ℕ). byte ∷ bytes) (front_whole word rest no_space.1 ends))

behind_whole : (word rest : List ℕ) → AllByRecursion (λ byte. byte ≢ 32) word → EndsWord rest
    → behind_word (word ++ rest) ≡ rest
behind_whole [] rest no_space ends = behind_end rest ends
behind_whole (byte ∷ word) rest no_space ends = rw (ne_eqb byte 32 no_space.0) (behind_whole word rest no_space.1 ends)

-- the word that is read is the first one, and the others are in the rest
pub word_of-spaced : (words : List (List ℕ)) (text : List ℕ) → Spaced words text → word_of text ≡ get_or words 0 []
word_of-spaced [] text (n, e) = word_is text ∙ rw (e, skipped_all n) refl
word_of-spaced (word ∷ words) text (n, rest, e, is_word, ends, more) =
    word_is text ∙ rw (e, skipped_spaces n (word ++ rest), skipped_word word rest is_word) (front_whole word rest is_word.1 ends)

pub spaced-rest_of : (words : List (List ℕ)) (text : List ℕ) → Spaced words text → Spaced (drop 1 words) (rest_of text)
spaced-rest_of [] text (n, e) = (0, rest_is text ∙ rw (e, skipped_all n) refl)
spaced-rest_of (word ∷ words) text (n, rest, e, is_word, ends, more) =
    let same : rest_of text ≡ rest
    = rest_is text ∙ rw (e, skipped_spaces n (word ++ rest), skipped_word word rest is_word) (behind_whole word rest is_word.1 ends) in
    rw same more

-- ---- the words by their numbers

-- what stands behind n words
unfoldable pub rests : ℕ → List ℕ → List ℕ
rests zero text = text
rests (suc n) text = rests n (rest_of text)

get_or-drop_one : (words : List (List ℕ)) (n : ℕ) → get_or (drop 1 words) n [] ≡ get_or words (suc n) []
get_or-drop_one [] n = refl
get_or-drop_one (word ∷ words) n = refl

pub word_of-rests : (n : ℕ) (words : List (List ℕ)) (text : List ℕ) → Spaced words text
    → word_of (rests n text) ≡ get_or words n []
unfolding rests
word_of-rests zero words text spaced = word_of-spaced words text spaced
word_of-rests (suc n) words text spaced =
    word_of-rests n (drop 1 words) (rest_of text) (spaced-rest_of words text spaced) ∙ get_or-drop_one words n

each_word : (words : List (List ℕ)) (text : List ℕ) → Spaced words text → AllByRecursion IsWord words
each_word [] text spaced = tt
each_word (word ∷ words) text (n, rest, e, is_word, ends, more) = (is_word, each_word words rest more)

or_word_at : (words : List (List ℕ)) (n : ℕ) (other : List ℕ) → AllByRecursion IsWord words
    → or_word (get_or words n []) other ≡ get_or words n other
or_word_at [] n other each = refl
or_word_at ([] ∷ words) zero other each = absurd (omega (arith, each.0.0))
or_word_at ((byte ∷ word) ∷ words) zero other each = refl
or_word_at (word ∷ words) (suc n) other each = or_word_at words n other each.1

-- a missing word stands as the other one
pub or_word-spaced : (words : List (List ℕ)) (text : List ℕ) (n : ℕ) (other : List ℕ) → Spaced words text
    → or_word (get_or words n []) other ≡ get_or words n other
or_word-spaced words text n other spaced = or_word_at words n other (each_word words text spaced)

suc_suc : (m n : ℕ) → nat_le m n ≡ nat_le (suc m) (suc n)
suc_suc m n = grind (arith, nat_tests)

no_word_at : (words : List (List ℕ)) (n : ℕ) → AllByRecursion IsWord words
    → (length (get_or words n []) == 0) ≡ nat_le (length words) n
no_word_at [] n each = sym (le-leb 0 n (omega arith))
no_word_at (word ∷ words) zero each =
    ne_eqb (length word) 0 (λ h. omega (arith, each.0.0)) ∙ sym (lt-leb (suc (length words)) 0 (omega arith))
no_word_at (word ∷ words) (suc n) each = no_word_at words n each.1 ∙ suc_suc (length words) n

-- there is no word with this number exactly where there are no more words
pub no_word-spaced : (words : List (List ℕ)) (text : List ℕ) (n : ℕ) → Spaced words text
    → (length (get_or words n []) == 0) ≡ nat_le (length words) n
no_word-spaced words text n spaced = no_word_at words n (each_word words text spaced)
