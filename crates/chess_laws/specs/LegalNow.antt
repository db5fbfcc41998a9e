-- The Laws as tests that compute (FIDE Laws, Article 3). Each is the test of what Geometry, Attacks or Step says, case by
-- case, and decides it.
use Rattle.std.specs.Prelude.{ℕ, zero, suc, ◌&&◌, ◌||◌, not, ◌==◌, ◌++◌, Bool, false, Some, is_none, nat_eq}
use Rattle.std.specs.List.{list_all, list_any}
use Rattle.std.specs.Option.{option_eq, option_map_or}
use Rattle.cell_core.specs.declared.man.Colour.{Colour}
use Rattle.cell_core.specs.declared.man.Kind.{Kind}
use Rattle.cell_core.specs.declared.man.Kind.TheVariants.{King, Queen, Rook, Bishop, Knight, Pawn}
use Rattle.cell_core.specs.declared.step.Move.{Move}
use Rattle.cell_core.specs.Board.{Men, man_at}
use Rattle.cell_core.specs.Man.{other, is_man, is_of, same_colour}
use Rattle.chess_laws.specs.declared.setup.Setup.{Setup}
use Rattle.chess_laws.specs.declared.effect.Effect.{Effect}
use Rattle.chess_laws.specs.declared.effect.Effect.TheVariants.{Plain, Double, Passing, Castle, Null}
use Rattle.chess_laws.specs.Geometry.{Offset, rank_of, shift, forward, pawn_captures, rook_steps, bishop_steps, knight_steps, king_steps}
use Rattle.chess_laws.specs.Castling.{between, king_path, has_right}
use Rattle.chess_laws.specs.Step.{board_after, effect_of, pawn_rank, passed_square, promotes_rightly}

-- Whether some number below n passes the test.
unfoldable pub some_below : (ℕ → Bool) → ℕ → Bool
some_below test zero = false
some_below test (suc n) = test n || some_below test n

-- Whether a step leads from a to b.
unfoldable pub leaps_now : ℕ → ℕ → Offset → Bool
leaps_now a b o = option_eq nat_eq (shift o a) (Some b)

-- Whether equal steps lead from a to b, over so many empty squares strictly between.
unfoldable pub walks_now : Men → Offset → ℕ → ℕ → ℕ → Bool
walks_now men o b zero a = leaps_now a b o
walks_now men o b (suc n) a = option_map_or (λ c. is_none (man_at men c) && walks_now men o b n c) (shift o a) false

-- Whether equal steps lead from a to b over empty squares: fewer than eight, since the board has no more in a line.
unfoldable pub runs_now : Men → ℕ → ℕ → Offset → Bool
runs_now men a b o = some_below (λ n. walks_now men o b n a) 8

-- Whether such a man, standing on a, reaches b.
abbrev pub reaches_now : Men → Colour → Kind → ℕ → ℕ → Bool
reaches_now men colour King a b = list_any (leaps_now a b) king_steps
reaches_now men colour Queen a b = list_any (runs_now men a b) (rook_steps ++ bishop_steps)
reaches_now men colour Rook a b = list_any (runs_now men a b) rook_steps
reaches_now men colour Bishop a b = list_any (runs_now men a b) bishop_steps
reaches_now men colour Knight a b = list_any (leaps_now a b) knight_steps
reaches_now men colour Pawn a b = list_any (leaps_now a b) (pawn_captures colour)

-- Whether some man of the colour attacks the square s.
unfoldable pub attacks_now : Men → Colour → ℕ → Bool
attacks_now men colour s =
    some_below (λ a. option_map_or (λ m. same_colour m.colour colour && reaches_now men colour m.kind a s) (man_at men a) false) 64

-- Whether the king of this colour is in check.
unfoldable pub in_check_now : Men → Colour → Bool
in_check_now men colour = some_below (λ s. is_man colour King (man_at men s) && attacks_now men (other colour) s) 64

-- The cases of a move, in their order.
abbrev pub goes_plainly_now : Setup → Kind → Move → Bool
goes_plainly_now p Pawn m =
    (leaps_now m.from m.to (forward p.side) && is_none (man_at p.board m.to))
    || (list_any (leaps_now m.from m.to) (pawn_captures p.side) && is_of (other p.side) (man_at p.board m.to))
goes_plainly_now p k m = reaches_now p.board p.side k m.from m.to && not (is_of p.side (man_at p.board m.to))

abbrev pub case_now : Setup → Move → Effect → Bool
case_now p m Plain =
    option_map_or (λ standing. same_colour standing.colour p.side
    && (goes_plainly_now p standing.kind m && promotes_rightly p.side standing.kind m)) (man_at p.board m.from) false
case_now p m Double =
    is_man p.side Pawn (man_at p.board m.from) && ((rank_of m.from == pawn_rank p.side)
    && (walks_now p.board (forward p.side) m.to 1 m.from && (is_none (man_at p.board m.to) && is_none m.promo)))
case_now p m Passing =
    is_man p.side Pawn (man_at p.board m.from) && (list_any (leaps_now m.from m.to) (pawn_captures p.side)
    && (option_eq nat_eq p.en_passant (Some m.to) && (is_none (man_at p.board m.to)
    && (is_man (other p.side) Pawn (man_at p.board (passed_square m)) && is_none m.promo))))
case_now p m (Castle wing) =
    is_man p.side King (man_at p.board m.from) && (has_right p.rights p.side wing
    && (list_all (λ s. is_none (man_at p.board s)) (between p.side wing)
    && (list_all (λ s. not (attacks_now p.board (other p.side) s)) (king_path p.side wing) && is_none m.promo)))
case_now p m Null =
    is_man p.side King (man_at p.board m.from) && ((m.to == m.from) && (is_none m.promo && not (in_check_now p.board p.side)))

-- Whether the move is legal.
unfoldable pub legal_now : Setup → Move → Bool
legal_now p m = case_now p m (effect_of p m) && not (in_check_now (board_after p m (effect_of p m)) p.side)
