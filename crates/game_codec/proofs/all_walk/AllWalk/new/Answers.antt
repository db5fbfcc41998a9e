use Rattle.std.proofs.Common.{ℕ, List, length, sym, ap, ◌∙◌, length-drop, arith}
use Rattle.game_tree.specs.Game.{GameTree}
use Rattle.move_codec.specs.Numbers.{Numbered}
use Rattle.game_codec.specs.Place.{Place}
use Rattle.game_codec.proofs.AllWalkLaws.{start_walk}
use Rattle.game_codec.proofs.RecordAnswerLaws.{to_spelled}
use Rattle.game_codec.proofs.all_walk.AllWalk.new.Goals as goal

pub invariant_of-result : goal.invariant_of-result
invariant_of-result c =
    let ahead = c.beginning.ensures.ahead ∙ c.split_at.ensures.back in
    start_walk c.args.bytes.now _ c.in-Ok.used c.beginning.result c.requires.few c.in-Ok.ensures.spelled c.in-Ok.ensures.starts ahead
    (omega (arith, ap (λ (l : List ℕ). length l) ahead, length-drop c.in-Ok.used c.args.bytes.now))
    c.beginning.ensures.place c.beginning.ensures.ply c.beginning.ensures.alone

pub returns-in-Ok-clause-start : goal.returns-in-Ok-clause-start
returns-in-Ok-clause-start c = λ tags game read.
    let r = to_spelled c.args.bytes.now tags game read in
    ap (λ (p : Place). p.here.position) c.beginning.ensures.place
    ∙ ap (λ (n : Numbered). n.position) (sym (c.in-Ok.ensures.starts tags game r).0)
    ∙ sym (ap (λ (g : GameTree). g.start) r.game_is)
