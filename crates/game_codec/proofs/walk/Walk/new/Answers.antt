use Rattle.std.proofs.Common.{ℕ, List, length, sym, ap, subst, length-drop, arith}
use Rattle.game_codec.specs.Walking.{IsBehind}
use Rattle.game_codec.proofs.TailLaws.{behind_is}
use Rattle.game_codec.proofs.walk.Walk.new.Goals as goal

pub invariant_of-result : goal.invariant_of-result
invariant_of-result c =
    let size = ap (λ (l : List ℕ). length l) c.split_at.ensures.back in
    record {
      few = c.requires.few;
      left = omega (arith, size, length-drop c.in-Ok.used c.args.bytes.now);
      tail = behind_is c.args.bytes.now c.split_at.result.1.now c.in-Ok.used c.in-Ok.ensures.used c.split_at.ensures.back;
      follows = λ tags game r. subst (IsBehind game c.begin.new.start 0) (sym c.split_at.ensures.back) (c.in-Ok.ensures.begun tags game r);
    }
