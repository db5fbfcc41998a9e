-- What bytes are as a record, read from left to right (this project's own, after Scid's format). A record has extra
-- tags and a zero byte, the start, the moves, and the texts of the comments in the order of their marks. Bytes that are
-- no record have a first fault, before which all stands as in a record.
use Rattle.std.specs.Prelude.{ℕ, zero, suc, ◌-◌, ◌%◌, ◌==◌, if◌then◌else◌, List, [], ◌∷◌, Some, None, Result, Ok, Err, length, drop, slice_index_or}
use Rattle.cell_core.specs.Steps.{blamed, ◌>>=◌}
use Rattle.chess_laws.specs.declared.setup.Setup.{Setup}
use Rattle.chess_text.specs.FenAnswer.{fen_answer}
use Rattle.game_tree.specs.Game.{GameTree}
use Rattle.game_tree.specs.Movetext.{Movetext, end, move, nag, comment, variation, Said, meaning}
use Rattle.game_tree.specs.TagName.{free_of}
use Rattle.game_tree.specs.declared.head.Tag.{Tag}
use Rattle.move_codec.specs.Numbers.{Numbered}
use Rattle.move_codec.specs.declared.fault.MoveFault.TheVariants as of_move
use Rattle.game_codec.specs.Place.{Place, beginning, after_move, after_comment, variation_of, token_at}
use Rattle.game_codec.specs.Start.{own_start, standard_start}
use Rattle.game_codec.specs.TagReading.{tag_at}
use Rattle.game_codec.specs.Texts.{texts_of}
use Rattle.game_codec.specs.Token.{Play, Nag, Comment, Open, Close, End}
use Rattle.game_codec.specs.declared.fault.RecordFault.{RecordFault}
use Rattle.game_codec.specs.declared.fault.RecordWhat.{RecordWhat}
use Rattle.game_codec.specs.declared.fault.RecordWhat.TheVariants as what

-- What is wrong, and the bytes from the faulty item on.
abbrev pub Broken : Type 0
Broken = List ℕ × RecordWhat

-- Something that was read, and the bytes behind it.
abbrev pub Read : Type 0 → Type 0
Read A = Result (A × List ℕ) Broken

-- The text before the first zero byte.
unfoldable pub text_at : List ℕ → Read (List ℕ)
text_at [] = Err ([], what.Short)
text_at (byte ∷ bytes) = if byte == 0 then Ok ([], bytes) else text_at bytes >>= λ text. Ok (byte ∷ text.0, text.1)

-- The tags, with the zero byte that ends them. Each takes a byte at least, and so there are no more than so many.
unfoldable pub tags_at : ℕ → List ℕ → Read (List Tag)
tags_at zero bytes = Err (bytes, what.Short)
tags_at (suc most) bytes = do
  next ← blamed (λ wrong. (bytes, wrong)) (tag_at bytes)
  elim next [
    | None ↦ Ok ([], drop 1 bytes)
    | Some tag ↦ tags_at most tag.1 >>= λ tags. Ok (tag.0 ∷ tags.0, tags.1)
  ]

-- The start: a byte of flags, and if its bit 0 is set a FEN and a zero byte.
unfoldable pub start_at : List ℕ → Read Numbered
start_at [] = Err ([], what.Short)
start_at (flags ∷ bytes) = if flags % 2 == 0 then Ok (standard_start, bytes) else do
  text ← text_at bytes
  position ← blamed (λ _. (bytes, what.Fen)) (fen_answer text.0)
  Ok (own_start position, text.1)

-- The items of a line from a place on, with its end, if their number has a bound. Each takes a byte at least, so as many as there are bytes is
-- a bound that is never met. The texts of the comments stand elsewhere.
unfoldable pub moves_at : ℕ → Place → List ℕ → Read Movetext
moves_at zero p bytes = Err (bytes, what.Short)
moves_at (suc most) p bytes = do
  next ← blamed (λ wrong. (bytes, wrong)) (token_at p bytes)
  elim next.0 [
    | Play m ↦ moves_at most (after_move p m) next.1 >>= λ s. Ok (move m s.0, s.1)
    | Nag n ↦ moves_at most p next.1 >>= λ s. Ok (nag n s.0, s.1)
    | Comment ↦ moves_at most (after_comment p) next.1 >>= λ s. Ok (comment [] s.0, s.1)
    | Open ↦ moves_at most (variation_of p) next.1 >>= λ inner. moves_at most p inner.1 >>= λ s. Ok (variation inner.0 s.0, s.1)
    | Close ↦ Ok (end, next.1)
    | End ↦ Ok (end, next.1)
  ]

-- So many texts, and nothing behind them.
unfoldable pub texts_at : ℕ → List ℕ → Result (List (List ℕ)) Broken
texts_at zero [] = Ok []
texts_at zero (byte ∷ bytes) = Err (byte ∷ bytes, what.Extra)
texts_at (suc n) bytes = do
  text ← text_at bytes
  texts ← texts_at n text.1
  Ok (text.0 ∷ texts)

-- The movetext with the first of these texts for its comments, and the texts that are left.
abbrev pub with_texts : Movetext → List (List ℕ) → Movetext × List (List ℕ)
with_texts end texts = (end, texts)
with_texts (move m s) texts = let later = with_texts s texts in (move m later.0, later.1)
with_texts (nag n s) texts = let later = with_texts s texts in (nag n later.0, later.1)
with_texts (comment text s) texts = let later = with_texts s (drop 1 texts) in (comment (slice_index_or texts 0 []) later.0, later.1)
with_texts (variation inner s) texts =
    let within = with_texts inner texts in
    let later = with_texts s within.1 in
    (variation within.0 later.0, later.1)

-- The game that begins at this position and of which this is said.
abbrev pub game_of : Setup → Said → GameTree
game_of start said = record { start = start; lead = said.comment; line = said.line }

-- The extra tags and the game.
unfoldable pub game_at : List ℕ → Result (List Tag × GameTree) Broken
game_at bytes = do
  tags ← tags_at (length bytes) bytes
  start ← start_at tags.1
  moves ← moves_at (length start.1) (beginning 0 start.0) start.1
  texts ← texts_at (length (texts_of moves.0)) moves.1
  Ok (free_of tags.0, game_of start.0.position (meaning (with_texts moves.0 texts).0))

-- The place of a fault by the record's length and the bytes from the faulty item on: the item's first byte, and the
-- record's length if it ends early.
abbrev pub place_of : ℕ → List ℕ → RecordWhat → ℕ
place_of len rest what.Short = len
place_of len rest (what.Move of_move.Short) = len
place_of len rest _ = len - length rest

-- The answer to the bytes: their extra tags and their game, or their first fault with its place.
unfoldable pub record_answer : List ℕ → Result (List Tag × GameTree) RecordFault
record_answer bytes = blamed (λ broken. record { place = place_of (length bytes) broken.0 broken.1; what = broken.1 }) (game_at bytes)
