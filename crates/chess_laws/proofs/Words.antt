-- The words that the proofs of this crate cite, passed on from one place. Declares nothing.
pub use Rattle.cell_core.proofs.Same.{same_colour-Decides, same_men-Decides, same_kind-Decides}
pub use Rattle.cell_core.proofs.Squares.{bit-set_of, ones-set_of, come, filled, left, man-set, passed}
pub use Rattle.cell_core.specs.Board.{Men, man_at, put, same_men}
pub use Rattle.cell_core.specs.Man.{man, other, same_kind, is_man, is_of, same_colour}
pub use Rattle.cell_core.specs.Sets.{set_of, is_kind}
pub use Rattle.cell_core.specs.declared.man.Colour.{Colour}
pub use Rattle.cell_core.specs.declared.man.Colour.TheVariants.{White, Black}
pub use Rattle.cell_core.specs.declared.man.Kind.{Kind}
pub use Rattle.cell_core.specs.declared.man.Kind.TheVariants.{King, Queen, Rook, Bishop, Knight, Pawn}
pub use Rattle.cell_core.specs.declared.man.Man.{Man}
pub use Rattle.cell_core.specs.declared.step.Move.{Move}
pub use Rattle.chess_laws.specs.Attacks.{Attacks, AttacksAs, Reaches, IsInCheck}
pub use Rattle.chess_laws.specs.RayTable.{is_seen}
pub use Rattle.chess_laws.specs.Castling.{rook_home, rook_target, king_path, has_right, king_home, king_target, keeps, rights_after, StandAtHome}
pub use Rattle.chess_laws.specs.Counts.{counts_of, count_of, fewer, is_home}
pub use Rattle.chess_laws.specs.Geometry.{Offset, rook_steps, bishop_steps, knight_steps, king_steps, pawn_captures, Leaps, Runs, rank_of, shift, forward, Walk, file_of, square, line_at}
pub use Rattle.chess_laws.specs.Keeps.{in_check}
pub use Rattle.chess_laws.specs.Leaps.{squares_of}
pub use Rattle.chess_laws.specs.LegalNow.{leaps_now, reaches_now, attacks_now, in_check_now, goes_plainly_now, case_now, legal_now}
pub use Rattle.chess_laws.specs.LegalTests.{slides, IsOnlyKing, glides, line, takes_target, line_of, king_after, is_calm, is_home_square}
pub use Rattle.chess_laws.specs.Moves.{HasMoreMoves, IsMove, place_of, promotion_number, Ascends, ListsMoves}
pub use Rattle.chess_laws.specs.Position.{Sound, HasKings, HasPawnsInside, HasFewMen, HasFitRights, HasFitEnPassant, king_square, en_passant_rank, start_men, start_setup, is_start, is_at_home, rights_of, has_bit}
pub use Rattle.chess_laws.specs.Rays.{LeapsFrom, SlidesFrom, SlidesTo, entry, offset_at, sliders, row_of, same_offset, Shut, LeapsAs, Hits, Leaves}
pub use Rattle.chess_laws.specs.Step.{Case, Legal, arriving, effect_of, board_after, moved, after, pawn_rank, passed_square, promotes_rightly, HasNoOwn, GoesPlainly, PassingCase, CastleCase, last_rank, rights_left, en_passant_after, effect_as, may_become, PlainCase, DoubleCase, changes_file, goes_two, Step}
pub use Rattle.chess_laws.specs.Targets.{Known, ListsBelow, goes, Comes, IsKnown, Has, MayPromote, PawnComes, PawnGoes}
pub use Rattle.chess_laws.specs.Ways.{is_row, way}
pub use Rattle.chess_laws.specs.declared.effect.Effect.{Effect}
pub use Rattle.chess_laws.specs.declared.effect.Effect.TheVariants.{Plain, Double, Passing, Castle, Null}
pub use Rattle.chess_laws.specs.declared.setup.Rights.{Rights}
pub use Rattle.chess_laws.specs.declared.setup.Setup.{Setup}
pub use Rattle.chess_laws.specs.declared.setup.Wing.{Wing}
pub use Rattle.chess_laws.specs.declared.setup.Wing.TheVariants.{KingSide, QueenSide}
pub use Rattle.chess_laws.specs.declared.targets.SquareSet.{SquareSet}
pub use Rattle.std.proofs.Common.{◌≡◌, ◌↔◌, ℕ, ◌<◌, true, refl, arith, List, ◌++◌, Any, ◌⊎◌, inl, inr, Some, ◌+◌, ◌≤◌, ◌≢◌, Bool, false, cond, Option, None, length, count_by, sym, ◌∙◌, ap, zero, suc, ◌^◌, IsTrue, ◌&&◌, ◌==◌, eqb, [], is_none, is_some, subst, ◌-◌, ◌∷◌, not, All, rules, pow_pos, ◌*◌, ◌/◌, ◌%◌, ltb, IsBitSet, w16, lit<, get_or, ◌||◌, length-append, slice_index_or, min, w64, leb, one-add}
pub use Rattle.std.proofs.Math.Bool.{and-false}
pub use Rattle.std.proofs.Math.ListN.{length-set}
pub use Rattle.std.proofs.Math.Nat.{pow-suc}
pub use Rattle.std.proofs.lemmas.Bool.{cases_lt, cases_eq, false_from_ne_true, agree_below, agree_below_at, and_parts, cases_Bool, eq-eqb, eqb-true, false≢true, ne_eqb, eqb-false, lt-ltb, le-ltb, leb-true, cases_order, ltb-true, le-leb, OnTrue_at, OnFalse_at}
pub use Rattle.std.proofs.lemmas.Bool.Decides.{nat_tests, Decides-and, Decides-or, Decides-not, Decides-like, Decides-eqb, Decides-below_or, Decides-by_and, same_from_decides}
pub use Rattle.std.proofs.lemmas.List.{get_or-set_same, get_or-set_other, get_or_past}
pub use Rattle.std.proofs.lemmas.List.Elements.{All-push, All-cons, All-weaker, All-nil, Contains-append_left, Contains-push}
pub use Rattle.std.proofs.lemmas.List.Folds.{Any-from_list_any, list_any-from_Any, list_any_at}
pub use Rattle.std.proofs.lemmas.List.Quantifiers.{all_pairs_push}
pub use Rattle.std.proofs.lemmas.List.Sums.{sum_by-set, count_by-le-length, sum_by-cons, AllPass-from_list_all}
pub use Rattle.std.proofs.lemmas.Map.Keys.{IsDistinct-from_apart}
pub use Rattle.std.proofs.lemmas.Map.Made.{length-le_from_is_member}
pub use Rattle.std.proofs.lemmas.Nat.{shr-shr, and_assoc, and_comm, and_le_l}
pub use Rattle.std.proofs.lemmas.Nat.Bits.{bit_at-lt, bit_at-pow_same, bit_at-pow_other, bit_at-zero, bit_at_and, bit_at_or, same_from_bits, and_pow, bit_at-suc, bit_at_lowest, bit_at_mask_below, bit_at_mask_inside, bit_at_ones, bit_at_ones_above, bit_at_set_same, bit_at_set_other, bit_at-trailing_zeros, bit_at_above, bit_at_cat_high, bit_at_not, shr_and_one}
pub use Rattle.std.specs.Bool.{OnTrue, OnFalse, Decides}
pub use Rattle.std.specs.Cmp.{IsEquivalence, nat_eq_equiv}
pub use Rattle.std.specs.Int.{bit_at, reverse_bits, trailing_zeros}
pub use Rattle.std.specs.Int.RustNames.{bit_and, bit_or}
pub use Rattle.std.specs.List.{list_all, list_any, position_or_len, position}
pub use Rattle.std.specs.Option.{option_and_then, option_eq, option_map, option_map_or, option_or}
pub use Rattle.std.specs.Prelude.{Contains, SomeIff, nat_eq}
