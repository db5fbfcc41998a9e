use Rattle.std.proofs.Common.{◌≤◌, ◌++◌, ℕ, List, refl, sym, ap, subst, ◌∙◌}
use Rattle.chess_laws.specs.Counts.{is_home}
use Rattle.chess_laws.specs.Position.{Sound}
use Rattle.game_codec.specs.Record.{IsRecord}
use Rattle.game_codec.specs.Walk.{Walked}
use Rattle.game_tree.specs.Replay.{plies_of}
use Rattle.sig_index.specs.Leaving.{AreHome}
use Rattle.sig_index.specs.Signature.{home_list}
use Rattle.sig_index.proofs.RecordLemmas.{no_next}
use Rattle.sig_index.proofs.SignedLemmas.{Leaves-all, Leaves-begin, Leaves-more, goes-on, home_begin, homes_begin, room_left, still_small}
use Rattle.sig_index.proofs.StayLemmas.{filter-home, gone-is, staying-is}
use Rattle.sig_index.proofs.record_sig.left_along.Goals as goal

pub moves-init : goal.moves-init
moves-init c =
    let homes = homes_begin c.args.own_start c.homes_at_start-still.result c.new-left.result.items c.homes_at_start-still.ensures.homes c.new-left.ensures in
    record {
      bytes = refl;
      values = homes.0;
      room = homes.1;
      leaves = λ tags game r.
          Leaves-begin c.args.own_start game c.args.reading.now.ply c.homes_at_start-still.result c.new-left.result.items c.requires.begun c.homes_at_start-still.ensures.homes c.new-left.ensures;
      home = home_begin c.args.own_start c.homes_at_start-still.result c.args.reading.now.position c.homes_at_start-still.ensures.homes c.requires.initial;
    }

pub returns-in_default-clause-left : goal.returns-in_default-clause-left
returns-in_default-clause-left c = λ tags game r.
    let here = subst (λ (b : List ℕ). IsRecord b tags game) (sym c.moves.invariant.bytes) r in
    let none = sym c.in_default.is ∙ c.in_ok-m.ensures.next tags game here in
    c.home_list.ensures
    ∙ ap home_list
    (c.as_slice.ensures.value
    ∙ Leaves-all c.args.own_start game c.moves.reading.ply c.moves.still c.moves.left.items none (c.moves.invariant.leaves tags game r))

pub returns-in_default-clause-all : goal.returns-in_default-clause-all
returns-in_default-clause-all c = λ tags game r.
    let here = subst (λ (b : List ℕ). IsRecord b tags game) (sym c.moves.invariant.bytes) r in
    let none = sym c.in_default.is ∙ c.in_ok-m.ensures.next tags game here in
    let same = rw c.in_default.is at c.in_ok-m.ensures.played in
    subst (λ (w : Walked). plies_of game ≤ w.ply) (sym same) (no_next game c.moves.reading.ply (sym none))

pub moves-preserved : goal.moves-preserved
moves-preserved c =
    let played = rw c.in-Some.is at c.in_ok-m.ensures.played in
    let before = c.moves.reading.position in
    let q = c.step.new.self.position in
    let sound = subst Sound c.position.ensures.position c.setup-setup.ensures.sound in
    let inv = c.moves.invariant in
    let stay = c.leave_by.ensures.still ∙ staying-is before c.in-Some.m q c.moves.still sound played.0 inv.values inv.home in
    let go = c.leave_by.ensures.left
    ∙ ap (λ (vs : List ℕ). c.moves.left.items ++ vs) (gone-is before c.in-Some.m q c.moves.still sound played.0 inv.values inv.home) in
    record {
      bytes = played.1.1 ∙ inv.bytes;
      values = still_small q c.moves.still c.leave_by.new.self stay inv.values;
      room = room_left q c.moves.still c.moves.left.items c.leave_by.new.self c.leave_by.new.left.items stay go inv.room;
      leaves = λ tags game r.
          let here = subst (λ (b : List ℕ). IsRecord b tags game) (sym inv.bytes) r in
          let next = sym c.in-Some.is ∙ c.in_ok-m.ensures.next tags game here in
          let at = sym c.position.ensures.position ∙ c.position.ensures.replay tags game here in
          rw played.1.0
          (Leaves-more c.args.own_start game c.moves.reading.ply c.in-Some.m before q c.moves.still c.moves.left.items
          c.leave_by.new.self c.leave_by.new.left.items next
          at (goes-on game c.moves.reading.ply c.in-Some.m before q next at played.0)
          played.0 stay go (inv.leaves tags game r));
      home = subst (AreHome q) (sym stay) (filter-home (λ v. is_home q.board v) c.moves.still);
    }
