-- What may stand at a place of a record's moves (this project's own, after Scid's format): a packed move, or one of
-- five marks. 11 is a NAG of the last move and has one more byte. 12 is a comment of the last move, or of the line's
-- beginning. 13 begins a variation of the last move, 14 ends it, and 15 ends the game. The marks after a move stand in
-- any order; those behind a variation still belong to the move that it hangs on.
use Rattle.std.specs.Prelude.{◌≡◌, ℕ, zero, suc, ◌+◌, ◌<◌, ◌≤◌, ◌==◌, ◌⊎◌, Bool, true, false, not, nat_lt, if◌then◌else◌, IsTrue, List, [], ◌∷◌, Result, Ok, Err, drop}
use Rattle.cell_core.specs.declared.step.Move.{Move}
use Rattle.cell_core.specs.Steps.{blamed, ◌>>=◌}
use Rattle.chess_laws.specs.Step.{stepped}
use Rattle.game_tree.specs.Legal.{deepest}
use Rattle.move_codec.specs.Numbers.{Numbered, numbers_after}
use Rattle.move_codec.specs.Packed.{decoded, is_mark}
use Rattle.game_codec.specs.Token.{Token, Play, Nag, Comment, Open, Close, End}
use Rattle.game_codec.specs.declared.fault.RecordWhat.{RecordWhat}
use Rattle.game_codec.specs.declared.fault.RecordWhat.TheVariants as what

-- A place in a line: how many variations are open there, the position before the line's last move and the position
-- after it. It also has whether the line has a move yet, and whether a comment stands at the place. Before the first
-- move of a line both positions are the one that the line begins at.
pub record Place : Type 0 where
  pub depth : ℕ
  pub before : Numbered
  pub here : Numbered
  pub has_move : Bool
  pub has_comment : Bool

-- The position and the numbers after a move.
abbrev pub numbered_after : Numbered → Move → Numbered
numbered_after n m = record { position = stepped n.position m; numbers = numbers_after n.position m n.numbers }

-- The beginning of a line with so many variations open.
abbrev pub beginning : ℕ → Numbered → Place
beginning depth n = record { depth = depth; before = n; here = n; has_move = false; has_comment = false }

-- The place behind a move, behind a comment, and where a variation of the last move begins: at the position before it.
abbrev pub after_move : Place → Move → Place
after_move p m = record { depth = p.depth; before = p.here; here = numbered_after p.here m; has_move = true; has_comment = false }

abbrev pub after_comment : Place → Place
after_comment p = record { depth = p.depth; before = p.before; here = p.here; has_move = p.has_move; has_comment = true }

abbrev pub variation_of : Place → Place
variation_of p = beginning (p.depth + 1) p.before

-- A NAG behind its mark.
abbrev pub nag_at : List ℕ → Result (Token × List ℕ) RecordWhat
nag_at [] = Err what.Short
nag_at (n ∷ later) = Ok (Nag n, later)

-- The item if it may stand there, or else what is wrong.
abbrev pub allowed : {A : Type 0} → Bool → RecordWhat → A → Result A RecordWhat
allowed may wrong item = if may then Ok item else Err wrong

-- The item at a place and the bytes behind it, or what is wrong: a mark, or else a move. A NAG and a variation stand behind a move, one comment at a
-- place, and the end of the game in the main line alone.
unfoldable pub token_at : Place → List ℕ → Result (Token × List ℕ) RecordWhat
token_at p [] = Err what.Short
token_at p (byte ∷ later) =
    if byte == 11 then allowed p.has_move what.Mark later >>= nag_at
    else if byte == 12 then allowed (not p.has_comment) what.TwoComments (Comment, later)
    else if byte == 13 then allowed p.has_move what.Mark (Open, later) >>= allowed (nat_lt p.depth deepest) what.Depth
    else if byte == 14 then allowed (nat_lt 0 p.depth) what.Mark (Close, later)
    else if byte == 15 then allowed (p.depth == 0) what.Mark (End, later)
    else blamed what.Move (decoded p.here (byte ∷ later)) >>= λ d. Ok (Play d.0, drop d.1 (byte ∷ later))

-- The first byte is no mark, so that a move is due.
abbrev pub IsMoveDue : List ℕ → Type 0
IsMoveDue bytes = (byte : ℕ) × (later : List ℕ) × (bytes ≡ byte ∷ later) × (is_mark byte ≡ false)

-- The bytes begin with this item, which may stand at the place, and these bytes follow it.
abbrev pub Takes : Place → List ℕ → Token → List ℕ → Type 0
Takes p bytes (Play m) later = IsMoveDue bytes × ((used : ℕ) × (decoded p.here bytes ≡ Ok (m, used)) × (later ≡ drop used bytes))
Takes p bytes (Nag n) later = IsTrue p.has_move × (bytes ≡ 11 ∷ n ∷ later)
Takes p bytes Comment later = (p.has_comment ≡ false) × (bytes ≡ 12 ∷ later)
Takes p bytes Open later = IsTrue p.has_move × (p.depth < deepest) × (bytes ≡ 13 ∷ later)
Takes p bytes Close later = (0 < p.depth) × (bytes ≡ 14 ∷ later)
Takes p bytes End later = (p.depth ≡ 0) × (bytes ≡ 15 ∷ later)

-- What ends a line at this depth.
abbrev pub ending : ℕ → Token
ending zero = End
ending (suc depth) = Close

-- A NAG or a variation before the first move of its line, or an end that is not the line's.
abbrev pub IsMisplaced : Place → List ℕ → Type 0
IsMisplaced p [] = ⊥
IsMisplaced p (byte ∷ later) =
    ((p.has_move ≡ false) × ((byte ≡ 11) ⊎ (byte ≡ 13))) ⊎ (((p.depth ≡ 0) × (byte ≡ 14)) ⊎ ((0 < p.depth) × (byte ≡ 15)))

-- The bytes begin with no item that may stand at the place, and this is why.
abbrev pub FaultAt : Place → List ℕ → RecordWhat → Type 0
FaultAt p bytes what.Short = (bytes ≡ []) ⊎ (IsTrue p.has_move × (bytes ≡ 11 ∷ []))
FaultAt p bytes what.Mark = IsMisplaced p bytes
FaultAt p bytes what.TwoComments = IsTrue p.has_comment × ((later : List ℕ) × (bytes ≡ 12 ∷ later))
FaultAt p bytes what.Depth = IsTrue p.has_move × ((deepest ≤ p.depth) × ((later : List ℕ) × (bytes ≡ 13 ∷ later)))
FaultAt p bytes (what.Move fault) = IsMoveDue bytes × (decoded p.here bytes ≡ Err fault)
FaultAt p bytes _ = ⊥
