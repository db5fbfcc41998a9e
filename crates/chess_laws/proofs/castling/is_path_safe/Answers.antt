-- The three squares that are tested are the king's path.
use Rattle.chess_laws.proofs.Words.{ℕ, [], ◌∷◌, lit<, All-cons, All-nil, other, Attacks, king_home, king_target, rook_target}
use Rattle.chess_laws.proofs.castling.is_path_safe.Goals as goal

pub returns : goal.returns
returns c =
    let told = rw (c.king_home-home.ensures, c.rook_target-crossed.ensures.square, c.king_target-target.ensures.square, c.other.ensures.side) at c.are_safe.ensures in
    let P : ℕ → Type 0 = λ s. Attacks c.args.board.now (other c.args.colour) s → ⊥ in
    let crossed = rook_target c.args.colour c.args.wing in
    let target = king_target c.args.colour c.args.wing in (
      λ h.
          let safe = told.0 h in
          All-cons P (king_home c.args.colour) (crossed ∷ target ∷ []) safe.first (All-cons P crossed (target ∷ []) safe.second (All-cons P target [] safe.third (All-nil P))),
      λ all. told.1 (record { first = all 0 0 (lit< tt); second = all 1 0 (lit< tt); third = all 2 0 (lit< tt) }),
    )
