-- A place and the items as the code keeps them. No public contract cites these words.
use Rattle.std.specs.Prelude.{◌≡◌, ◌⊎◌, ℕ, List, [], ◌∷◌, drop}
use Rattle.move_codec.specs.Numbers.{Numbered}
use Rattle.game_codec.specs.Token.{Token, Play, Nag, Comment, Open, Close, End}
use Rattle.game_codec.specs.Place.{Place, after_move, after_comment}
use Rattle.game_codec.specs.declared.token.Token.{Token as Read}
use Rattle.game_codec.specs.declared.token.Token.TheVariants as read

-- The item that the code's item is.
abbrev pub token_of : Read → Token
token_of (read.Play m) = Play m
token_of (read.Nag n) = Nag n
token_of read.Comment = Comment
token_of read.Open = Open
token_of read.Close = Close
token_of read.End = End

abbrev pub tokens_of : List Read → List Token
tokens_of [] = []
tokens_of (token ∷ tokens) = token_of token ∷ tokens_of tokens

-- The place with another position before its last move.
abbrev pub with_before : Numbered → Place → Place
with_before n p = record { depth = p.depth; before = n; here = p.here; has_move = p.has_move; has_comment = p.has_comment }

-- A mark of what hangs on a move: a NAG, a comment, or the beginning of a variation.
abbrev pub Hangs : ℕ → Type 0
Hangs byte = (byte ≡ 11) ⊎ ((byte ≡ 12) ⊎ (byte ≡ 13))

-- The bytes begin with no such mark.
abbrev pub IsCalm : List ℕ → Type 0
IsCalm [] = Unit {0}
IsCalm (byte ∷ later) = Hangs byte → ⊥

-- No such mark stands behind a move of one byte or of two.
abbrev pub IsCalmBehind : List ℕ → Type 0
IsCalmBehind bytes = IsCalm (drop 1 bytes) × IsCalm (drop 2 bytes)

-- The code's place is this one. If nothing hangs on the last move, the code does not keep the position before it.
abbrev pub IsKept : Place → Place → List ℕ → Type 0
IsKept p code bytes = (code ≡ p) ⊎ ((code ≡ with_before code.before p) × IsCalm bytes)

-- The code's place behind an item in the item's own line, with the bytes that follow.
abbrev pub IsPast : Place → Token → Place → List ℕ → Type 0
IsPast p (Play m) code later = IsKept (after_move p m) code later
IsPast p (Nag n) code later = code ≡ p
IsPast p Comment code later = code ≡ after_comment p
IsPast p Open code later = code ≡ p
IsPast p Close code later = code ≡ p
IsPast p End code later = code ≡ p
