-- A legal move keeps the rules, and what is kept beside the position follows it.
use Rattle.chess_laws.proofs.Words.{◌≡◌, sym, ◌∙◌, ap, subst, White, Black, other, in_check, counts_of, after, effect_of, Legal}
use Rattle.chess_laws.proofs.MovedKings.{mover-square, resting-square, Sound-after}
use Rattle.chess_laws.proofs.position.Position.follow.Goals as goal

pub invariant_of-self : goal.invariant_of-self
invariant_of-self c =
    let p = c.self.inside.inner in
    let m = c.args.m.now in
    let legal : Legal p m = subst (λ q. Legal q m) (sym c.self.view_is) c.requires.legal in
    let effect : c.args.effect ≡ effect_of p m = c.requires.effect ∙ ap (λ q. effect_of q m) (sym c.self.view_is) in
    let next : c.make-self-inside.new.p ≡ after p m (effect_of p m) = c.make-self-inside.ensures.becomes ∙ ap (after p m) effect in
    let kept = c.self.invariant in
    rw (next, c.king_after-self-inside.ensures) (record {
      sound = Sound-after p m kept.sound legal;
      white_king = mover-square p m White c.self.inside.white_king c.in-White.is kept.sound legal kept.white_king;
      black_king = resting-square p m Black c.self.inside.black_king (ap other c.in-White.is) kept.sound legal kept.black_king;
      check = c.make-self-inside.ensures.check ∙ ap in_check next;
      census = c.make-self-inside.ensures.census ∙ ap (λ q. counts_of q.board) next;
    })

pub invariant_of-self-in-Black : goal.invariant_of-self-in-Black
invariant_of-self-in-Black c =
    let p = c.self.inside.inner in
    let m = c.args.m.now in
    let legal : Legal p m = subst (λ q. Legal q m) (sym c.self.view_is) c.requires.legal in
    let effect : c.args.effect ≡ effect_of p m = c.requires.effect ∙ ap (λ q. effect_of q m) (sym c.self.view_is) in
    let next : c.make-self-inside-in-Black.new.p ≡ after p m (effect_of p m) = c.make-self-inside-in-Black.ensures.becomes ∙ ap (after p m) effect in
    let kept = c.self.invariant in
    rw (next, c.king_after-self-inside-in-Black.ensures) (record {
      sound = Sound-after p m kept.sound legal;
      white_king = resting-square p m White c.self.inside.white_king (ap other c.in-Black.is) kept.sound legal kept.white_king;
      black_king = mover-square p m Black c.self.inside.black_king c.in-Black.is kept.sound legal kept.black_king;
      check = c.make-self-inside-in-Black.ensures.check ∙ ap in_check next;
      census = c.make-self-inside-in-Black.ensures.census ∙ ap (λ q. counts_of q.board) next;
    })
