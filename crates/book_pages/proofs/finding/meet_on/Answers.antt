use Rattle.std.proofs.Common.{◌≡◌, ◌≤◌, ◌+◌, ℕ, List, drop, take, refl, sym, ◌∙◌, subst, arith}
use Rattle.cell_core.specs.Packed.{Packed}
use Rattle.game_codec.specs.Record.{IsRecord}
use Rattle.sig_index.proofs.RecordLemmas.{no_next}
use Rattle.book_pages.specs.Meeting.{Reaches}
use Rattle.book_pages.specs.Reached.{boards_of}
use Rattle.book_pages.proofs.ReachLemmas.{path_end, path_first, path_next}
use Rattle.book_pages.proofs.finding.meet_on.Goals as goal

pub loop-ply-init : goal.loop-ply-init
loop-ply-init c = record {
  bytes = refl;
  kept = c.in_ok-meet_here.ensures.kept;
  at = λ tags tree is. omega arith;
  within = λ tags tree is. c.in_ok-meet_here.ensures.within tags tree is;
  met = λ tags tree is.
      path_first c.args.i tree c.args.walk.now.ply c.args.counts.now.boards.keys c.args.counts.now.met.items c.meet_here.new.counts.boards.keys
      c.meet_here.new.counts.met.items (c.in_ok-meet_here.ensures.within tags tree is) c.requires.kept (c.in_ok-meet_here.ensures.met tags tree is);
}

pub loop-ply-preserved : goal.loop-ply-preserved
loop-ply-preserved c =
    let played = rw c.in-Ok-Some.field-0-is at c.in-Ok-Some.ensures.played in
    let bytes : c.step.new.self.bytes ≡ c.args.walk.now.bytes = played.1.1 ∙ c.loop-ply.invariant.bytes in
    record {
      bytes = bytes;
      kept = c.in_ok-meet_here-2.ensures.kept;
      at = λ tags tree is. let at = c.loop-ply.invariant.at tags tree is in omega (arith, at, played.1.0);
      within = λ tags tree is. c.in_ok-meet_here-2.ensures.within tags tree (subst (λ (b : List ℕ). IsRecord b tags tree) (sym bytes) is);
      met = λ tags tree is.
          let on = subst (λ (b : List ℕ). IsRecord b tags tree) (sym bytes) is in
          let at = c.loop-ply.invariant.at tags tree is in
          path_next c.args.i tree c.args.walk.now.ply c.loop-ply._ply c.step.new.self.ply c.args.counts.now.boards.keys c.args.counts.now.met.items
          c.loop-ply.counts.boards.keys c.loop-ply.counts.met.items c.meet_here-in-loop-ply.new.counts.boards.keys c.meet_here-in-loop-ply.new.counts.met.items
          (omega (arith, at, played.1.0)) (c.in_ok-meet_here-2.ensures.within tags tree on) c.requires.kept (c.loop-ply.invariant.met tags tree is)
          (c.in_ok-meet_here-2.ensures.met tags tree on);
    }

pub returns-in-Ok-None-clause-met : goal.returns-in-Ok-None-clause-met
returns-in-Ok-None-clause-met c = λ whole tags tree is.
    let on = subst (λ (b : List ℕ). IsRecord b tags tree) (sym c.loop-ply.invariant.bytes) is in
    let last = no_next tree c.loop-ply.walk.ply (sym (c.in-Ok-None.ensures.next tags tree on) ∙ c.in-Ok-None.field-0-is) in
    let at = c.loop-ply.invariant.at tags tree is in
    subst (λ (l : List Packed). Reaches c.args.i l c.args.counts.now.boards.keys c.args.counts.now.met.items c.loop-ply.counts.boards.keys c.loop-ply.counts.met.items)
    (path_end tree c.args.walk.now.ply c.loop-ply._ply c.args.depth (omega (arith, last, at)) (omega (arith, c.loop-ply-test.true))) (c.loop-ply.invariant.met tags tree is)

pub returns-clause-met : goal.returns-clause-met
returns-clause-met c = λ whole tags tree is.
    let same : c.loop-ply._ply ≡ c.args.depth = omega (arith, c.loop-ply-test.false, c.loop-ply.auto._ply-end) in
    subst (λ (n : ℕ). Reaches c.args.i (take (n + 1) (drop c.args.walk.now.ply (boards_of tree))) c.args.counts.now.boards.keys c.args.counts.now.met.items c.loop-ply.counts.boards.keys c.loop-ply.counts.met.items)
    same (c.loop-ply.invariant.met tags tree is)
