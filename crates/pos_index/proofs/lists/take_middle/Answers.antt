use Rattle.std.proofs.Common.{rules, ◌≡◌, ◌<◌, ◌++◌, subst, sym, ap, ◌∙◌, refl, arith, List, ℕ, [], get_or, length}
use Rattle.std.proofs.lemmas.List.{drop_all, get_or_default, get_or-map, length-map, length-set}
use Rattle.pos_index.specs.declared.spot.Spot.{Spot}
use Rattle.pos_index.specs.Keeping.{AreListed, board_of, spot_in, times, with_row}
use Rattle.pos_index.proofs.ListedLemmas.{middle_step, none_taken}
use Rattle.pos_index.proofs.SeenLemmas.{times_is}
use Rattle.pos_index.proofs.lists.take_middle.Goals as goal

pub loop-k-init : goal.loop-k-init
loop-k-init c = record { len = refl; left = λ rows before spots behind lt is ahead on all. none_taken c.args.lists.now rows c.args.game _ is all }

pub loop-k-preserved : goal.loop-k-preserved
loop-k-preserved c =
    let board = get_or c.args.boards.now c.loop-k.k 0 in
    let known : board < length c.loop-k.lists = search rules in
    record {
      len = length-set c.loop-k.lists board c.take.new.self ∙ c.loop-k.invariant.len;
      left = λ rows before spots behind lt is ahead on all.
          let count : length spots ≡ length c.args.boards.now = sym (length-map spots board_of) ∙ ap length (sym on) in
          let spot = spot_in spots c.loop-k.k in
          let within : c.loop-k.k < length spots = omega (arith, count, c.loop-k-test.true) in
          let at : board ≡ spot.board = ap (λ (l : List ℕ). get_or l c.loop-k.k 0) on ∙ get_or-map board_of spots c.loop-k.k (spot_in [] 0) 0 within in
          middle_step c.loop-k.lists rows c.args.game c.loop-k.k board c.times.result before spots behind spot c.take.new.self
          (c.loop-k.invariant.left rows before spots behind lt is ahead on all) lt within (get_or_default spots c.loop-k.k (spot_in [] 0) spot within) at known
          (c.times.ensures.times ∙ ap (times board) ahead ∙ times_is board c.args.game before)
          (λ front own back hit same. c.take.ensures front own back hit (get_or_default c.loop-k.lists board c.index-lists-board.result [] known ∙ same));
    }

pub returns-clause-taken : goal.returns-clause-taken
returns-clause-taken c = λ rows before spots behind lt is ahead on all.
    let count : length spots ≡ length c.args.boards.now = sym (length-map spots board_of) ∙ ap length (sym on) in
    subst (λ (l : List Spot). AreListed c.loop-k.lists (with_row rows c.args.game (before ++ (l ++ behind))))
    (drop_all c.loop-k.k spots (omega (arith, count, c.loop-k-test.false, c.loop-k.auto))) (c.loop-k.invariant.left rows before spots behind lt is ahead on all)
