-- The start of a game in its record: a byte of flags, and if its bit 0 is set a FEN and a zero byte (this project's
-- own, after Scid's format; PGN standard, 16.1, for the FEN).
use Rattle.std.specs.Prelude.{◌≡◌, ℕ, ◌%◌, ◌⊎◌, List, [], ◌∷◌, ◌++◌, Ok, Err}
use Rattle.cell_core.specs.Text.{IsZeroFree}
use Rattle.chess_laws.specs.Position.{start_setup}
use Rattle.chess_laws.specs.declared.setup.Setup.{Setup}
use Rattle.chess_text.specs.FenAnswer.{fen_answer}
use Rattle.chess_text.specs.declared.fault.FenFault.{FenFault}
use Rattle.move_codec.specs.Numbers.{Numbered, standard_numbers, text_numbers}
use Rattle.game_codec.specs.declared.fault.RecordWhat.{RecordWhat}
use Rattle.game_codec.specs.declared.fault.RecordWhat.TheVariants as what

-- The initial position with the numbers of the standard start (FIDE Laws, Article 2.3).
abbrev pub standard_start : Numbered
standard_start = record { position = start_setup; numbers = standard_numbers }

-- A start of its own with the numbers that its men have in the record.
abbrev pub own_start : Setup → Numbered
own_start p = record { position = p; numbers = text_numbers p.board }

-- The bytes begin with flags that say the standard start.
pub record IsStandardStart (bytes : List ℕ) (start : Numbered) (rest : List ℕ) : Type 0 where
  pub flags : ℕ
  pub clear : flags % 2 ≡ 0
  pub spelled : bytes ≡ flags ∷ rest
  pub start_is : start ≡ standard_start

-- The bytes begin with flags that say an own start, a FEN of its position and a zero byte. Its men have the numbers of
-- the FEN's order, even if the FEN is that of the initial position.
pub record IsOwnStart (bytes : List ℕ) (start : Numbered) (rest : List ℕ) : Type 0 where
  pub flags : ℕ
  pub set : flags % 2 ≡ 1
  pub text : List ℕ
  pub zero_free : IsZeroFree text
  pub spelled : bytes ≡ flags ∷ text ++ 0 ∷ rest
  pub reads : fen_answer text ≡ Ok start.position
  pub numbers : start.numbers ≡ text_numbers start.position.board

-- The bytes begin with flags and this start.
abbrev pub BeginsStart : List ℕ → Numbered → List ℕ → Type 0
BeginsStart bytes start rest = IsStandardStart bytes start rest ⊎ IsOwnStart bytes start rest

-- An own start without the zero byte behind its FEN.
pub record IsCutStart (bytes : List ℕ) : Type 0 where
  pub flags : ℕ
  pub set : flags % 2 ≡ 1
  pub text : List ℕ
  pub zero_free : IsZeroFree text
  pub spelled : bytes ≡ flags ∷ text

-- An own start whose text is no FEN. The fault's place is the first byte of the text.
pub record IsBadStart (bytes : List ℕ) (rest : List ℕ) : Type 0 where
  pub flags : ℕ
  pub set : flags % 2 ≡ 1
  pub text : List ℕ
  pub later : List ℕ
  pub zero_free : IsZeroFree text
  pub spelled : bytes ≡ flags ∷ rest
  pub text_is : rest ≡ text ++ 0 ∷ later
  pub fault : FenFault
  pub faulty : fen_answer text ≡ Err fault

-- The bytes begin with no start, and from here on stands the fault.
abbrev pub BreaksStart : List ℕ → List ℕ → RecordWhat → Type 0
BreaksStart bytes rest what.Short = (bytes ≡ []) ⊎ IsCutStart bytes
BreaksStart bytes rest what.Fen = IsBadStart bytes rest
BreaksStart bytes rest _ = ⊥
