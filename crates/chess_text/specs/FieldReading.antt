-- What the readers of the fields answer (PGN standard, 16.1.3): functions on lists, which the grammar of the fields is
-- proved to agree with.
use Rattle.std.specs.Prelude.{◌≡◌, ℕ, ◌+◌, ◌-◌, ◌*◌, ◌==◌, ◌&&◌, not, nat_lt, nat_le, Bool, true, cond, List, [], ◌∷◌, Option, Some, None, option_and_then, ok_or, Result, Ok, Err, MatchResult, drop, length}
use Rattle.std.specs.List.{list_all, prefix_len, take_while}
use Rattle.std.specs.Char.{is_ascii_digit}
use Rattle.cell_core.specs.declared.man.Colour.{Colour}
use Rattle.cell_core.specs.declared.man.Colour.TheVariants.{White, Black}
use Rattle.cell_core.specs.Board.{Men}
use Rattle.cell_core.specs.Steps.{◌>>=◌}
use Rattle.chess_laws.specs.declared.setup.Rights.{Rights}
use Rattle.chess_laws.specs.declared.setup.Setup.{Setup}
use Rattle.chess_laws.specs.declared.fault.PlaceFault.{PlaceFault}
use Rattle.chess_laws.specs.Position.{en_passant_rank, Sound, Breaks}
use Rattle.chess_text.specs.declared.fault.FenFault.{FenFault}
use Rattle.chess_text.specs.declared.fault.FenFault.TheVariants.{Field}
use Rattle.chess_text.specs.Filling.{board_named}
use Rattle.chess_text.specs.Fields.{or_word, no_rights}
use Rattle.chess_text.specs.Fault.{fault_of}
use Rattle.chess_text.specs.Fen.{kept}

-- The text without the spaces at its beginning.
abbrev pub skipped : List ℕ → List ℕ
skipped text = drop (prefix_len (λ byte. byte == 32) text) text

-- The first word, empty if there is none, and what stands behind it.
unfoldable pub word_of : List ℕ → List ℕ
word_of text = take_while (λ byte. not (byte == 32)) (skipped text)

unfoldable pub rest_of : List ℕ → List ℕ
rest_of text = drop (length (word_of text)) (skipped text)

-- The side to move that a field names.
abbrev pub side_named : List ℕ → Option Colour
side_named (byte ∷ []) = cond (byte == 119) (Some White) (cond (byte == 98) (Some Black) None)
side_named _ = None

-- The rights with one more, if the letter names one that is not there yet.
unfoldable pub with_right : Rights → ℕ → Option Rights
with_right r letter =
    cond (letter == 75 && not r.white_king_side) (Some (record r { white_king_side = true }))
    (cond (letter == 81 && not r.white_queen_side) (Some (record r { white_queen_side = true }))
    (cond (letter == 107 && not r.black_king_side) (Some (record r { black_king_side = true }))
    (cond (letter == 113 && not r.black_queen_side) (Some (record r { black_queen_side = true })) None)))

abbrev pub with_rights : List ℕ → Rights → Option Rights
with_rights [] r = Some r
with_rights (letter ∷ word) r = option_and_then (with_rights word) (with_right r letter)

unfoldable pub rights_named : List ℕ → Option Rights
rights_named [] = None
rights_named (letter ∷ word) =
    cond (letter == 45 && length word == 0) (Some no_rights) (with_rights (letter ∷ word) no_rights)

abbrev pub square_named : Colour → ℕ → ℕ → Option (Option ℕ)
square_named side file rank =
    cond (nat_le 97 file && nat_lt file 105 && rank == 49 + en_passant_rank side)
    (Some (Some (8 * en_passant_rank side + (file - 97)))) None

abbrev pub en_passant_named : Colour → List ℕ → Option (Option ℕ)
en_passant_named side (byte ∷ []) = cond (byte == 45) (Some None) None
en_passant_named side (file ∷ rank ∷ []) = square_named side file rank
en_passant_named side _ = None

abbrev pub is_counter : List ℕ → Bool
is_counter word = nat_lt 0 (length word) && list_all is_ascii_digit word

-- Whether the counters are counters, and nothing follows them.
unfoldable pub counters_named : List ℕ → Result (Unit {0}) FenFault
counters_named text =
    cond (is_counter (or_word (word_of text) (48 ∷ [])))
    (cond (is_counter (or_word (word_of (rest_of text)) (49 ∷ [])))
    (cond (length (word_of (rest_of (rest_of text))) == 0) (Ok tt) (Err (Field 7)))
    (Err (Field 6))) (Err (Field 5))

-- What the fields of a text say, or the first field that says nothing.
unfoldable pub rights_from : List ℕ → Men → Colour → Result Setup FenFault
rights_from text board side = do
  rights ← ok_or (rights_named (or_word (word_of text) (45 ∷ []))) (Field 3)
  square ← ok_or (en_passant_named side (or_word (word_of (rest_of text)) (45 ∷ []))) (Field 4)
  counters ← counters_named (rest_of (rest_of text))
  Ok (record { board = board; side = side; rights = rights; en_passant = square })

unfoldable pub setup_named : List ℕ → Result Setup FenFault
setup_named text = do
  board ← ok_or (board_named (word_of text)) (Field 1)
  side ← ok_or (side_named (word_of (rest_of text))) (Field 2)
  rights_from (rest_of (rest_of text)) board side

-- The answer to a text: the first faulty field, or the position that the fields say, or the rule that it breaks.
abbrev pub Answers : List ℕ → Result Setup FenFault → Type 0
Answers text answer =
    MatchResult (setup_named text)
    (λ says. MatchResult answer (λ p. (p ≡ kept says) × Sound p)
    (λ fault. (broken : PlaceFault) × (fault ≡ fault_of broken) × Breaks (kept says) broken))
    (λ fault. answer ≡ Err fault)
