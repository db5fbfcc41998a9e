use Rattle.chess_laws.proofs.Words.{refl, Decides, false≢true, same_from_decides, IsInCheck, in_check, Setup}
use Rattle.chess_laws.proofs.Boards.{other-other}
use Rattle.chess_laws.proofs.Deciding.{in_check-Decides}
use Rattle.chess_laws.proofs.Soundness.{both_kings, sound_of}
use Rattle.chess_laws.proofs.position.place.Goals as goal

pub returns-then-not-has_few_men-clause-fault : goal.returns-then-not-has_few_men-clause-fault
returns-then-not-has_few_men-clause-fault c =
    let kings = both_kings c.args.board.now c.in-Some.ensures.0 c.in-Some-only_king.ensures.0 in
    (kings, c.if-not-has_pawns_inside.ensures.0 refl, λ h. false≢true (c.if-not-has_few_men.ensures.few.1 h))

pub returns-then-rests_in_check-clause-fault : goal.returns-then-rests_in_check-clause-fault
returns-then-rests_in_check-clause-fault c =
    let kings = both_kings c.args.board.now c.in-Some.ensures.0 c.in-Some-only_king.ensures.0 in
    (kings, c.if-not-has_pawns_inside.ensures.0 refl, c.if-not-has_few_men.ensures.few.0 refl, c.if-rests_in_check.ensures.check.0 refl)

pub returns-then-not-has_fit_en_passant-clause-fault : goal.returns-then-not-has_fit_en_passant-clause-fault
returns-then-not-has_fit_en_passant-clause-fault c =
    let kings = both_kings c.args.board.now c.in-Some.ensures.0 c.in-Some-only_king.ensures.0 in (
      kings,
      c.if-not-has_pawns_inside.ensures.0 refl,
      c.if-not-has_few_men.ensures.few.0 refl,
      λ h. false≢true (c.if-rests_in_check.ensures.check.1 h),
      λ h. false≢true (c.if-not-has_fit_en_passant.ensures.1 h),
    )

pub invariant_of-result : goal.invariant_of-result
invariant_of-result c =
    let p : Setup = record { board = c.args.board.now; side = c.args.side; rights = c.standing_rights-rights.result; en_passant = c.args.en_passant } in
    let decides : Decides c.rests_in_check-checked.result (IsInCheck p.board p.side) =
    rw (c.other.ensures.side, other-other c.args.side) at c.rests_in_check-checked.ensures.check in
    record {
      sound = sound_of p.board p.side c.args.rights p.rights p.en_passant c.has_few_men.ensures.squares
          (both_kings p.board c.in-Some.ensures.0 c.in-Some-only_king.ensures.0) (c.if-not-has_pawns_inside.ensures.0 refl)
          (c.if-not-has_few_men.ensures.few.0 refl) (λ h. false≢true (c.if-rests_in_check.ensures.check.1 h)) c.standing_rights-rights.ensures
          (c.if-not-has_fit_en_passant.ensures.0 refl);
      white_king = c.in-Some.ensures.1;
      black_king = c.in-Some-only_king.ensures.1;
      check = same_from_decides c.rests_in_check-checked.result (in_check p) decides (in_check-Decides p.board p.side);
      census = c.of.ensures.counts;
    }

pub returns-clause-sound : goal.returns-clause-sound
returns-clause-sound c = (invariant_of-result c).sound
