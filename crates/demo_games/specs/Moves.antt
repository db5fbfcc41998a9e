-- The legal moves of a position as a list that is computed. This project's own.
use Rattle.std.specs.Prelude.{ℕ, ◌==◌, ◌&&◌, not, Bool, List, [], ◌∷◌, filter, flat_map, map, Some, None}
use Rattle.std.specs.List.{range_with_len}
use Rattle.cell_core.specs.declared.man.Kind.TheVariants.{Queen, Rook, Bishop, Knight}
use Rattle.cell_core.specs.declared.step.Move.{Move}
use Rattle.chess_laws.specs.declared.setup.Setup.{Setup}
use Rattle.chess_laws.specs.LegalNow.{legal_now}

-- The moves from one square to another: without a promotion, and with each that a pawn may have (FIDE Laws, Article 3.7.3.3), in the order
-- of moves.
abbrev pub moves_to : ℕ → ℕ → List Move
moves_to from to = map (λ promo. record { from = from; to = to; promo = promo }) (None ∷ map Some (Queen ∷ Rook ∷ Bishop ∷ Knight ∷ []))

-- All moves of a board, in the order of moves: by the first square, then the target, then the promotion.
unfoldable pub all_moves : List Move
all_moves = flat_map (λ from. flat_map (moves_to from) (range_with_len 0 64)) (range_with_len 0 64)

-- Whether a move is a legal one (FIDE Laws, Article 3.10.1) other than the null move, which stays on its square.
unfoldable pub is_move : Setup → Move → Bool
is_move p m = legal_now p m && not (m.to == m.from)

-- The legal moves of a position, in order.
unfoldable pub legal_moves : Setup → List Move
legal_moves p = filter (is_move p) all_moves
