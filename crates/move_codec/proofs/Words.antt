-- The words that the proofs of this crate cite, passed on from one place. Declares nothing.
pub use Rattle.cell_core.proofs.Same.{same_colour-Decides, same_kind-Decides}
pub use Rattle.cell_core.specs.Board.{Men, man_at, put}
pub use Rattle.cell_core.specs.Man.{same_kind, is_man, is_of, man, other, same_colour}
pub use Rattle.cell_core.specs.declared.man.Colour.{Colour}
pub use Rattle.cell_core.specs.declared.man.Colour.TheVariants.{White, Black}
pub use Rattle.cell_core.specs.declared.man.Kind.{Kind}
pub use Rattle.cell_core.specs.declared.man.Kind.TheVariants.{King, Queen, Rook, Bishop, Knight, Pawn}
pub use Rattle.cell_core.specs.declared.man.Man.{Man}
pub use Rattle.cell_core.specs.declared.step.Move.{Move}
pub use Rattle.chess_laws.proofs.Boards.{man-kind, on_board, Goes, length-put, put-other, put-same, relocate}
pub use Rattle.chess_laws.proofs.Following.{Going, going, passed-stands}
pub use Rattle.chess_laws.proofs.Keeping.{castle-squares, castle-crossed, castle-rook_goes, length-moved}
pub use Rattle.chess_laws.proofs.Kings.{is_man-true, king-stands, is_man-Some, king-only}
pub use Rattle.chess_laws.specs.Castling.{king_home, king_target, rook_home, rook_target}
pub use Rattle.chess_laws.specs.Geometry.{shift, forward, file_of, rank_of, Offset, Leaps, Runs, Walk, king_steps, knight_steps, rook_steps, bishop_steps, pawn_captures}
pub use Rattle.chess_laws.specs.Position.{Sound, king_square, start_men, HasKings, HasFewMen}
pub use Rattle.chess_laws.specs.Step.{Legal, Case, effect_of, may_become, arriving, moved, board_after, passed_square, Step, last_rank, GoesPlainly}
pub use Rattle.chess_laws.specs.declared.effect.Effect.{Effect}
pub use Rattle.chess_laws.specs.declared.effect.Effect.TheVariants.{Plain, Double, Passing, Castle, Null}
pub use Rattle.chess_laws.specs.declared.setup.Setup.{Setup}
pub use Rattle.chess_laws.specs.declared.setup.Wing.{Wing}
pub use Rattle.chess_laws.specs.declared.setup.Wing.TheVariants.{KingSide, QueenSide}
pub use Rattle.move_codec.specs.Numbers.{Numbered, AreNumbers, number_of, squares_of, HasKingFirst, IsNumbering, without, standard_numbers, start_ranks, went, movers_after, capture_square, numbers_by, numbers_after, text_numbers, text_squares, with_king, with_square, text_numbers_of}
pub use Rattle.move_codec.specs.Packed.{Decodes, encoding, is_mark, named, rest_of, value_of, HasHighSecond, diagonal_move, is_diagonal, king_differences, knight_differences, by_difference, named_by, named_from, on_diagonal, on_line, pawn_square, promotion, to_square, encoding_by}
pub use Rattle.move_codec.specs.declared.fault.MoveFault.{MoveFault}
pub use Rattle.move_codec.specs.declared.fault.MoveFault.TheVariants.{Short, NoMan, Value, Illegal}
pub use Rattle.move_codec.specs.declared.numbers.Numbers.{Numbers}
pub use Rattle.std.proofs.Common.{◌≡◌, ℕ, ◌+◌, ◌*◌, ◌<◌, ◌≤◌, false, cond, List, ◌∷◌, ◌++◌, Some, Ok, Err, length, slice_get, refl, sym, ◌∙◌, ap, subst, arith, Bool, true, Option, None, IsTrue, suc, eqb, ltb, ◌&&◌, [], ◌-◌, ◌/◌, ◌%◌, leb, zero, take, set, inl, inr, one-add, get_or, Any, not, length-append, zero-add, add-one, drop, drop-cons, count_by, length-set, length-take, slice_index_or}
pub use Rattle.std.proofs.Math.Dec.{eqb-suc-suc, eqb-suc-zero, eqb-zero-suc}
pub use Rattle.std.proofs.Math.Seq.{take-set-lt}
pub use Rattle.std.proofs.lemmas.Bool.{and_parts, false_from_ne_true, false≢true, eqb-true, ltb-true, leb-true, cases_lt, eq-eqb, cases_Bool, agree_below, agree_below_at, ne_eqb, not-true, cases_eq}
pub use Rattle.std.proofs.lemmas.Bool.Decides.{nat_tests, eqb_tells}
pub use Rattle.std.proofs.lemmas.Grind.{common_steps}
pub use Rattle.std.proofs.lemmas.List.{get_or_past, set-get_or, take-set-le}
pub use Rattle.std.proofs.lemmas.List.Sums.{prefix_len-le-length, AllPass-from_list_all, sum_by-cons, sum_by-append, sum_by-drop_more}
pub use Rattle.std.proofs.lemmas.Option.{same_Some, none-some, slice_get_past, slice_get_within, get_or_from_slice_get, slice_get-get_or}
pub use Rattle.std.proofs.lemmas.Result.{err_from_is_err_and}
pub use Rattle.std.specs.Bool.{OnFalse}
pub use Rattle.std.specs.List.{fold, position_or_len, list_all, range_with_len, swap_remove}
pub use Rattle.std.specs.Option.{option_eq}
pub use Rattle.std.specs.Prelude.{Result, is_some, is_none, sum_by}
