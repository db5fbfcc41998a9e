-- The answer to a text in Forsyth-Edwards Notation, as it is computed: the position that its fields say, or the first fault
-- (PGN standard, 16.1).
use Rattle.std.specs.Prelude.{ℕ, ◌==◌, ◌&&◌, ◌||◌, not, nat_le, Bool, true, if◌then◌else◌, Option, Result, Ok, Err, List, length, count_by}
use Rattle.std.specs.Option.{option_map_or}
use Rattle.cell_core.specs.declared.man.Colour.{Colour}
use Rattle.cell_core.specs.declared.man.Colour.TheVariants.{White, Black}
use Rattle.cell_core.specs.declared.man.Kind.TheVariants.{King, Pawn}
use Rattle.cell_core.specs.Board.{Men, man_at}
use Rattle.cell_core.specs.Man.{other, is_man, is_of}
use Rattle.cell_core.specs.Steps.{◌>>=◌}
use Rattle.chess_laws.specs.declared.setup.Setup.{Setup}
use Rattle.chess_laws.specs.Geometry.{rank_of}
use Rattle.chess_laws.specs.LegalNow.{some_below, in_check_now}
use Rattle.chess_laws.specs.Position.{en_passant_rank}
use Rattle.chess_text.specs.declared.fault.FenFault.{FenFault}
use Rattle.chess_text.specs.declared.fault.FenFault.TheVariants.{Field, Kings, Pawns, TooMany, InCheck}
use Rattle.chess_text.specs.Fen.{kept}
use Rattle.chess_text.specs.FieldReading.{setup_named}

-- The rules of a position as tests (chess_laws has them in words).
abbrev pub has_kings : Men → Bool
has_kings men = (count_by (is_man White King) men == 1) && (count_by (is_man Black King) men == 1)

abbrev pub has_pawn_outside : Men → Colour → Bool
has_pawn_outside men side =
    some_below (λ s. is_man side Pawn (man_at men s) && ((rank_of s == 0) || nat_le 7 (rank_of s))) (length men)

abbrev pub has_few_men : Men → Bool
has_few_men men = nat_le (count_by (is_of White) men) 16 && nat_le (count_by (is_of Black) men) 16

abbrev pub is_fit : Colour → Option ℕ → Bool
is_fit side square = option_map_or (λ square. rank_of square == en_passant_rank side) square true

-- The setup, or the fault of the first rule that it breaks; the en passant square is the fourth field's.
abbrev pub placed : Setup → Result Setup FenFault
placed p =
    if not (has_kings p.board) then Err Kings
    else if has_pawn_outside p.board White || has_pawn_outside p.board Black then Err Pawns
    else if not (has_few_men p.board) then Err TooMany
    else if in_check_now p.board (other p.side) then Err InCheck
    else if not (is_fit p.side p.en_passant) then Err (Field 4)
    else Ok p

-- The answer to the text.
unfoldable pub fen_answer : List ℕ → Result Setup FenFault
fen_answer text = setup_named text >>= (λ says. placed (kept says))
