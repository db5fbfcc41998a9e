use Rattle.std.proofs.Common.{rules, ◌≡◌, ◌<◌, ◌-◌, ◌++◌, sym, subst, ◌∙◌, ap, refl, arith, List, ℕ, [], length, take, get_or}
use Rattle.std.proofs.lemmas.List.{append-nil, get_or_default, get_or-map, length-map, length-set, take_all}
use Rattle.pos_index.specs.declared.spot.Spot.{Spot}
use Rattle.pos_index.specs.Keeping.{AreListed, board_of, spot_in, with_row}
use Rattle.pos_index.proofs.ListedLemmas.{lasts_step, none_taken}
use Rattle.pos_index.proofs.lists.take_lasts.Goals as goal

pub loop-k-init : goal.loop-k-init
loop-k-init c = record {
  len = refl;
  left = λ rows front spots lt is on all.
      none_taken c.args.lists.now rows c.args.game _
      (is ∙ ap (λ (l : List Spot). front ++ l) (sym (take_all (length spots - 0) spots (omega arith)))) all;
}

pub loop-k-preserved : goal.loop-k-preserved
loop-k-preserved c =
    let board = get_or c.args.boards.now (length c.args.boards.now - 1 - c.loop-k.k) 0 in
    let known : board < length c.loop-k.lists = search rules in
    record {
      len = length-set c.loop-k.lists board c.take_last.new.self ∙ c.loop-k.invariant.len;
      left = λ rows front spots lt is on all.
          let count : length spots ≡ length c.args.boards.now = sym (length-map spots board_of) ∙ ap length (sym on) in
          let place = length spots - 1 - c.loop-k.k in
          let spot = spot_in spots place in
          let within : place < length spots = omega (arith, count, c.loop-k-test.true) in
          let at : board ≡ spot.board =
          (λ j. get_or (on j) (sym count j - 1 - c.loop-k.k) 0) ∙ get_or-map board_of spots place (spot_in [] 0) 0 within in
          lasts_step c.loop-k.lists rows c.args.game c.loop-k.k board spots front spot c.take_last.new.self
          (c.loop-k.invariant.left rows front spots lt is on all) lt (omega (arith, count, c.loop-k-test.true)) (get_or_default spots place (spot_in [] 0) spot within) at known
          (λ before back hit same. c.take_last.ensures before back hit (get_or_default c.loop-k.lists board c.index-lists-board.result [] known ∙ same));
    }

pub returns-clause-taken : goal.returns-clause-taken
returns-clause-taken c = λ rows front spots lt is on all.
    let count : length spots ≡ length c.args.boards.now = sym (length-map spots board_of) ∙ ap length (sym on) in
    let none : length spots - c.loop-k.k ≡ 0 = omega (arith, count, c.loop-k-test.false, c.loop-k.auto) in
    subst (λ (l : List Spot). AreListed c.loop-k.lists (with_row rows c.args.game l))
    (ap (λ (n : ℕ). front ++ take n spots) none ∙ append-nil front) (c.loop-k.invariant.left rows front spots lt is on all)
