-- What the program writes of a position (this project's own; the moves as SAN.md and FEN.md of docs have them).
use Rattle.std.specs.Prelude.{ℕ, ◌+◌, nat_lt, ◌==◌, Bool, if◌then◌else◌, List, [], ◌∷◌, ◌++◌, length, flat_map, Option, Result, Ok, Err, codes}
use Rattle.std.specs.Option.{option_map_or}
use Rattle.std.specs.Fmt.{decimal}
use Rattle.cell_core.specs.declared.man.Kind.{Kind}
use Rattle.cell_core.specs.declared.man.Colour.TheVariants.{Black}
use Rattle.cell_core.specs.declared.step.Move.{Move}
use Rattle.chess_laws.specs.declared.setup.Setup.{Setup}
use Rattle.chess_laws.specs.LegalNow.{in_check_now}
use Rattle.chess_laws.specs.Step.{stepped}
use Rattle.chess_text.specs.declared.fault.FenFault.{FenFault}
use Rattle.chess_text.specs.declared.fault.FenFault.TheVariants as fault
use Rattle.chess_text.specs.FenAnswer.{fen_answer}
use Rattle.chess_text.specs.Letters.{capital_of, letter_in}
use Rattle.chess_text.specs.SanText.{san_text}
use Rattle.chess_text.specs.Squares.{square_text}
use Rattle.chess_text.specs.Written.{fen_text}
use Rattle.demo_games.specs.Moves.{legal_moves}

-- A move by its squares, and the small letter of a promotion: e2e4, e7e8q.
abbrev pub coordinates : Move → List ℕ
coordinates m = square_text m.from ++ (square_text m.to ++ option_map_or (λ kind. letter_in Black (capital_of kind) ∷ []) m.promo [])

-- The line of a legal move: its squares, its text, and the position behind it.
abbrev pub move_line : Setup → Move → List ℕ
move_line p m = coordinates m ++ 32 ∷ (san_text p m ++ 32 ∷ (fen_text (stepped p m) ++ 10 ∷ []))

-- The line that says how it stands with the side to move, which has a legal move or none (FIDE Laws, Articles 3.9.1, 5.1.1 and 5.2.1).
abbrev pub state_line : Bool → Bool → List ℕ
state_line check stuck =
    if check then (if stuck then codes "mate\n" else codes "check\n") else (if stuck then codes "stalemate\n" else [])

-- A position with these legal moves: a line for each, how it stands, and an empty line.
abbrev pub listing : Setup → List Move → List ℕ
listing p moves = flat_map (move_line p) moves ++ (state_line (in_check_now p.board p.side) (length moves == 0) ++ codes "\n")

-- What is said in place of moves.
abbrev pub error_lines : List ℕ → List ℕ
error_lines what = codes "error: " ++ (what ++ codes "\n\n")

abbrev pub fault_name : FenFault → List ℕ
fault_name (fault.Field n) = codes "field " ++ decimal n
fault_name fault.Kings = codes "kings"
fault_name fault.Pawns = codes "pawns"
fault_name fault.TooMany = codes "too many men"
fault_name fault.InCheck = codes "in check"

-- The answer to what a FEN says: its legal moves in order, if they are no more than 256.
abbrev pub position_answer : Result Setup FenFault → List ℕ
position_answer (Ok p) = if nat_lt 256 (length (legal_moves p)) then error_lines (codes "too many moves") else listing p (legal_moves p)
position_answer (Err fault) = error_lines (fault_name fault)

-- The most bytes that a line may have.
abbrev pub longest_line : ℕ
longest_line = 1024

-- The answer to a line, which stands without its line feed.
unfoldable pub answer : List ℕ → List ℕ
answer line = if nat_lt longest_line (length line) then error_lines (codes "line too long") else position_answer (fen_answer line)
