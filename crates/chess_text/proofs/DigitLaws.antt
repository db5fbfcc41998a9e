-- In the written form of a FEN no two digits stand side by side.
use Rattle.std.proofs.Common.{ℕ, zero, suc, ◌+◌, ◌*◌, ◌<◌, Bool, true, false, List, [], ◌∷◌, ◌++◌, Option, Some, None, take, drop, sym, subst, arith, append_assoc}
use Rattle.std.specs.List.{AllByRecursion}
use Rattle.std.specs.Char.{IsAsciiDigit}
use Rattle.cell_core.specs.declared.man.Colour.{Colour}
use Rattle.cell_core.specs.declared.man.Colour.TheVariants.{White, Black}
use Rattle.cell_core.specs.Board.{Men}
use Rattle.chess_laws.specs.declared.setup.Rights.{Rights}
use Rattle.chess_laws.specs.declared.setup.Setup.{Setup}
use Rattle.chess_text.specs.Letters.{letter_of}
use Rattle.chess_text.specs.Fields.{or_word, side_text}
use Rattle.chess_text.specs.Written.{run_text, row_text, ranks_text, letter_where, rights_text, en_passant_text, fen_text, NotBothDigits, HasDigitsApart}
use Rattle.chess_text.proofs.PlacementLaws.{letter_above}

-- a text that begins with no digit, and has its digits apart
record Opens (text : List ℕ) : Type 0 where
  first : (byte : ℕ) → NotBothDigits byte text
  apart : HasDigitsApart text

not_before : (byte next : ℕ) (text : List ℕ) → (IsAsciiDigit byte → ⊥) → NotBothDigits byte (next ∷ text)
not_before byte next text other = λ digit _. other digit

-- before any text with its digits apart a byte that is no digit may stand
opens_with : (byte : ℕ) (text : List ℕ) → (IsAsciiDigit byte → ⊥) → HasDigitsApart text → Opens (byte ∷ text)
opens_with byte [] other apart = record { first = λ before digit next. other next; apart = (tt, tt) }
opens_with byte (next ∷ text) other apart =
    record { first = λ before digit next. other next; apart = (not_before byte next text other, apart) }

run_apart : (n : ℕ) (text : List ℕ) → Opens text → HasDigitsApart (run_text n ++ text)
run_apart zero text opens = opens.apart
run_apart (suc n) text opens = (opens.first (48 + suc n), opens.apart)

letter_other : (byte : ℕ) → 65 < byte → IsAsciiDigit byte → ⊥
letter_other byte above digit = omega (arith, digit.1)

row_apart : (n : ℕ) (squares : Men) (text : List ℕ) → Opens text → HasDigitsApart (row_text n squares ++ text)
row_apart n [] text opens = run_apart n text opens
row_apart n (None ∷ squares) text opens = row_apart (suc n) squares text opens
row_apart n (Some man ∷ squares) text opens =
    let after : Opens (letter_of man ∷ (row_text 0 squares ++ text))
    = opens_with (letter_of man) _ (letter_other _ (letter_above man)) (row_apart 0 squares text opens) in
    subst HasDigitsApart (sym (append_assoc (run_text n) (letter_of man ∷ row_text 0 squares) text)) (run_apart n _ after)

ranks_apart : (n : ℕ) (board : Men) (text : List ℕ) → Opens text → HasDigitsApart (ranks_text n board ++ text)
unfolding ranks_text
ranks_apart zero board text opens = row_apart 0 (take 8 board) text opens
ranks_apart (suc n) board text opens =
    let row = take 8 (drop (8 * suc n) board) in
    let after : Opens (47 ∷ (ranks_text n board ++ text))
    = opens_with 47 _ (λ digit. omega (arith, digit.0)) (ranks_apart n board text opens) in
    subst HasDigitsApart (sym (append_assoc (row_text 0 row) (47 ∷ ranks_text n board) text)) (row_apart 0 row _ after)

-- a word without a digit before a text with its digits apart
NoDigit : List ℕ → Type 0
NoDigit word = AllByRecursion (λ byte. IsAsciiDigit byte → ⊥) word

no_digit_append : (s t : List ℕ) → NoDigit s → NoDigit t → NoDigit (s ++ t)
unfolding NoDigit
no_digit_append [] t p q = q
no_digit_append (byte ∷ s) t p q = (p.0, no_digit_append s t p.1 q)

word_apart : (word text : List ℕ) → NoDigit word → HasDigitsApart text → HasDigitsApart (word ++ text)
unfolding NoDigit
word_apart [] text none apart = apart
word_apart (byte ∷ word) text none apart =
    let after : Opens (byte ∷ (word ++ text)) = opens_with byte (word ++ text) none.0 (word_apart word text none.1 apart) in
    after.apart

side_no_digit : (side : Colour) → NoDigit (side_text side)
unfolding NoDigit
side_no_digit White = ((λ digit. omega (arith, digit.1)), tt)
side_no_digit Black = ((λ digit. omega (arith, digit.1)), tt)

where_no_digit : (right : Bool) (letter : ℕ) → 65 < letter → NoDigit (letter_where right letter)
unfolding NoDigit
where_no_digit true letter above = (letter_other letter above, tt)
where_no_digit false letter above = tt

dash_no_digit : (text : List ℕ) → NoDigit text → NoDigit (or_word text (45 ∷ []))
unfolding NoDigit
dash_no_digit [] none = ((λ digit. omega (arith, digit.0)), tt)
dash_no_digit (byte ∷ text) none = none

rights_no_digit : (r : Rights) → NoDigit (rights_text r)
unfolding rights_text
rights_no_digit r =
    dash_no_digit _ (no_digit_append _ _ (where_no_digit r.white_king_side 75 (omega arith))
    (no_digit_append _ _ (where_no_digit r.white_queen_side 81 (omega arith))
    (no_digit_append _ _ (where_no_digit r.black_king_side 107 (omega arith))
    (where_no_digit r.black_queen_side 113 (omega arith)))))

en_passant_apart : (square : Option ℕ) (text : List ℕ) → Opens text → HasDigitsApart (en_passant_text square ++ text)
en_passant_apart None text opens =
    let after : Opens (45 ∷ text) = opens_with 45 text (λ digit. omega (arith, digit.0)) opens.apart in after.apart
en_passant_apart (Some s) text opens = ((λ digit _. omega (arith, digit.1)), (opens.first _, opens.apart))

-- a space may stand before any text with its digits apart
space_opens : (text : List ℕ) → HasDigitsApart text → Opens (32 ∷ text)
space_opens text apart = opens_with 32 text (λ digit. omega (arith, digit.0)) apart

pub written_apart : (p : Setup) → HasDigitsApart (fen_text p)
unfolding fen_text
written_apart p =
    let last : HasDigitsApart (49 ∷ []) = (tt, tt) in
    let moves : Opens (32 ∷ 49 ∷ []) = space_opens (49 ∷ []) last in
    let half : HasDigitsApart (48 ∷ 32 ∷ 49 ∷ []) = (moves.first 48, moves.apart) in
    let square = en_passant_apart p.en_passant _ (space_opens _ half) in
    let rights = word_apart (rights_text p.rights) _ (rights_no_digit p.rights) (space_opens _ square).apart in
    let side = word_apart (side_text p.side) _ (side_no_digit p.side) (space_opens _ rights).apart in
    ranks_apart 7 p.board _ (space_opens _ side)
