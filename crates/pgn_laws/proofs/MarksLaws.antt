-- The letters of a game's marks set these marks again.
use Rattle.std.proofs.Common.{◌≡◌, ◌<◌, ◌+◌, ◌*◌, ◌/◌, ◌%◌, ◌^◌, ◌==◌, ◌||◌, ◌&&◌, ℕ, suc, Bool, true, false, not, cond, List, [], ◌∷◌, ◌++◌, length, refl, sym, ap, ◌∙◌, arith, append_assoc}
use Rattle.std.specs.List.{list_all}
use Rattle.std.proofs.lemmas.Bool.{eqb-true, eqb-false, and_parts, or_parts, or_from, not-true, eq-eqb, ne_eqb}
use Rattle.std.proofs.lemmas.List.Folds.{list_any-append}
use Rattle.chess_text.specs.Written.{letter_where}
use Rattle.game_tree.specs.Marks.{mark_letters}
use Rattle.pgn_write.specs.TagPairs.{letters_set, flags_text}
use Rattle.pgn_read.specs.Heads.{has_letter, marks_of}

-- None of the letters stands in a text, and no letter stands among those behind it.
none_in : List ℕ → List ℕ → Bool
none_in text letters = list_all (λ letter. not (has_letter text letter)) letters

are_distinct : List ℕ → Bool
are_distinct [] = true
are_distinct (letter ∷ letters) = not (has_letter letters letter) && are_distinct letters

one_letter : (b : Bool) (letter : ℕ) (text : List ℕ) (other : ℕ) → (letter == other) ≡ false → has_letter text other ≡ false
    → has_letter (letter_where b letter ++ text) other ≡ false
one_letter true letter text other apart none = rw apart none
one_letter false letter text other apart none = none

set_letters : (letters : List ℕ) (marks other : ℕ) → has_letter letters other ≡ false → has_letter (letters_set letters marks) other ≡ false
set_letters [] marks other none = refl
set_letters (letter ∷ letters) marks other none =
    let both = or_parts (letter == other) (has_letter letters other) none in
    one_letter (marks % 2 == 1) letter (letters_set letters (marks / 2)) other both.0 (set_letters letters (marks / 2) other both.1)

own_letter : (b : Bool) (letter : ℕ) → has_letter (letter_where b letter) letter ≡ b
own_letter true letter = rw (eq-eqb letter letter refl) refl
own_letter false letter = refl

other_letter : (b : Bool) (letter other : ℕ) → (letter == other) ≡ false → has_letter (letter_where b letter) other ≡ false
other_letter true letter other apart = rw apart refl
other_letter false letter other apart = refl

or_middle : (a b c : Bool) → a ≡ false → c ≡ false → ((a || b) || c) ≡ b
or_middle a true c p q = rw p refl
or_middle a false c p q = rw p rw q refl

letter_here : (before : List ℕ) (b : Bool) (letter : ℕ) (rest : List ℕ) → has_letter before letter ≡ false → has_letter rest letter ≡ false
    → has_letter ((before ++ letter_where b letter) ++ rest) letter ≡ b
letter_here before b letter rest none after =
    list_any-append (λ flag. flag == letter) (before ++ letter_where b letter) rest
    ∙ ap (λ c. c || has_letter rest letter) (list_any-append (λ flag. flag == letter) before (letter_where b letter))
    ∙ or_middle (has_letter before letter) (has_letter (letter_where b letter) letter) (has_letter rest letter) none after
    ∙ own_letter b letter

none_with : (before : List ℕ) (b : Bool) (letter : ℕ) (letters : List ℕ) → none_in before letters ≡ true → has_letter letters letter ≡ false
    → none_in (before ++ letter_where b letter) letters ≡ true
unfolding none_in
none_with before b letter [] none apart = refl
none_with before b letter (other ∷ letters) none apart =
    let rest = and_parts (not (has_letter before other)) (list_all (λ l. not (has_letter before l)) letters) none in
    let two = or_parts (other == letter) (has_letter letters letter) apart in
    let away : (letter == other) ≡ false = ne_eqb letter other (λ e. eqb-false other letter two.0 (sym e)) in
    let here : has_letter (before ++ letter_where b letter) other ≡ false =
    list_any-append (λ flag. flag == other) before (letter_where b letter)
    ∙ or_from (has_letter before other) (has_letter (letter_where b letter) other) (not-true (has_letter before other) rest.0) (other_letter b letter other away) in
    rw here (none_with before b letter letters rest.1 two.1)

halved : (b : Bool) (marks half : ℕ) → (marks % 2 == 1) ≡ b → half ≡ marks / 2 → cond b 1 0 + 2 * half ≡ marks
halved true marks half odd is = let e : marks % 2 ≡ 1 = eqb-true (marks % 2) 1 odd in omega (arith, e, is)
halved false marks half even is = let e = eqb-false (marks % 2) 1 even in omega (arith, e, is)

marks_from : (letters before : List ℕ) (marks : ℕ) → are_distinct letters ≡ true → none_in before letters ≡ true → marks < 2 ^ length letters
    → marks_of (before ++ letters_set letters marks) letters ≡ marks
unfolding none_in are_distinct
marks_from [] before marks distinct none small = omega (arith, small)
marks_from (letter ∷ letters) before marks distinct none small =
    let b : Bool = marks % 2 == 1 in
    let half : ℕ = marks / 2 in
    let apart = and_parts (not (has_letter letters letter)) (are_distinct letters) distinct in
    let new : has_letter letters letter ≡ false = not-true (has_letter letters letter) apart.0 in
    let rest = and_parts (not (has_letter before letter)) (list_all (λ l. not (has_letter before l)) letters) none in
    let flags : List ℕ = (before ++ letter_where b letter) ++ letters_set letters half in
    let under : half < 2 ^ length letters = omega (arith, small, power (length letters)) in
    let here : has_letter flags letter ≡ b =
    letter_here before b letter (letters_set letters half) (not-true (has_letter before letter) rest.0) (set_letters letters half letter new) in
    let others : marks_of flags letters ≡ half =
    marks_from letters (before ++ letter_where b letter) half apart.1 (none_with before b letter letters rest.1 new) under in
    ap (λ l. marks_of l (letter ∷ letters)) (sym (append_assoc before (letter_where b letter) (letters_set letters half)))
    ∙ (λ i. cond (here i) 1 0 + 2 * others i)
    ∙ halved b marks half refl refl
  where
    power : (n : ℕ) → 2 ^ suc n ≡ 2 * 2 ^ n
    power n = omega arith

deleted_none : (deleted : Bool) → none_in (letter_where deleted 68) mark_letters ≡ true
unfolding none_in
deleted_none true = refl
deleted_none false = refl

letters_distinct : are_distinct mark_letters ≡ true
unfolding are_distinct
letters_distinct = refl

pub marks_again : (deleted : Bool) (marks : ℕ) → marks < 2 ^ 18 → marks_of (flags_text deleted marks) mark_letters ≡ marks
unfolding flags_text
marks_again deleted marks small = marks_from mark_letters (letter_where deleted 68) marks letters_distinct (deleted_none deleted) small

pub deleted_again : (deleted : Bool) (marks : ℕ) → has_letter (flags_text deleted marks) 68 ≡ deleted
unfolding flags_text
deleted_again deleted marks = letter_here [] deleted 68 (letters_set mark_letters marks) refl (set_letters mark_letters marks 68 refl)
