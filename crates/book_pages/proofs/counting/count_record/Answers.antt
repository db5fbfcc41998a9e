use Rattle.std.proofs.Common.{◌≡◌, ℕ, List, refl, sym, ◌∙◌, subst, arith}
use Rattle.game_codec.specs.Record.{IsRecord}
use Rattle.book_pages.specs.declared.counting.Course.TheVariants as course
use Rattle.book_pages.proofs.MeetLemmas.{kept_next, met_all, met_more, none_met}
use Rattle.book_pages.proofs.counting.count_record.Goals as goal

pub loop-course-init : goal.loop-course-init
loop-course-init c = record {
  bytes = c.in-Ok.ensures.bytes;
  within = λ tags tree is. omega (arith, c.in-Ok.ensures.start);
  kept = kept_next c.args.boards.now.keys c.args.game.now.number c.args.tallies.now c.requires.kept;
  met = λ tags tree is. none_met c.args.boards.now.keys c.args.game.now tree c.in-Ok.walk.ply c.args.tallies.now c.in-Ok.ensures.start;
}

pub loop-course-preserved : goal.loop-course-preserved
loop-course-preserved c =
    let on = c.in_ok-course.ensures.on c.in-On.is in
    let unbroken : c.in_ok-course.course ≡ course.Broken → ⊥ = λ broken. let same : course.On ≡ course.Broken = sym c.in-On.is ∙ broken in absurd (cc) in
    record {
      bytes = on.1 ∙ c.loop-course.invariant.bytes;
      within = λ tags tree is.
          c.in_ok-course.ensures.within c.in-On.is tags tree (subst (λ (b : List ℕ). IsRecord b tags tree) (sym c.loop-course.invariant.bytes) is);
      kept = c.in_ok-course.ensures.kept unbroken;
      met = λ tags tree is.
          met_more c.args.boards.now.keys c.args.game.now tree c.loop-course.walk.ply c.count_here.new.walk.ply c.args.tallies.now c.loop-course.tallies c.count_here.new.tallies
          on.0 (c.loop-course.invariant.kept.count ∙ sym c.requires.kept.count) c.requires.kept.below (c.loop-course.invariant.met tags tree is)
          (c.in_ok-course.ensures.met unbroken tags tree (subst (λ (b : List ℕ). IsRecord b tags tree) (sym c.loop-course.invariant.bytes) is));
    }

pub returns-in-Over-clause-met : goal.returns-in-Over-clause-met
returns-in-Over-clause-met c = λ read tags tree is.
    let on = subst (λ (b : List ℕ). IsRecord b tags tree) (sym c.loop-course.invariant.bytes) is in
    let unbroken : c.in_ok-course.course ≡ course.Broken → ⊥ = λ broken. let same : course.Over ≡ course.Broken = sym c.in-Over.is ∙ broken in absurd (cc) in
    met_all c.args.boards.now.keys c.args.game.now tree c.loop-course.walk.ply c.args.tallies.now c.count_here.new.tallies
    (c.loop-course.invariant.within tags tree is) (c.in_ok-course.ensures.over c.in-Over.is tags tree on)
    (met_more c.args.boards.now.keys c.args.game.now tree c.loop-course.walk.ply _ c.args.tallies.now c.loop-course.tallies c.count_here.new.tallies
    refl (c.loop-course.invariant.kept.count ∙ sym c.requires.kept.count) c.requires.kept.below (c.loop-course.invariant.met tags tree is)
    (c.in_ok-course.ensures.met unbroken tags tree on))
