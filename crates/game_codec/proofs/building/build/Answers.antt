use Rattle.std.proofs.Common.{◌≡◌, ℕ, List, [], ◌-◌, drop, length, sym, ap, ◌∙◌, subst, arith}
use Rattle.std.proofs.lemmas.List.{length-drop, nil_from_length}
use Rattle.game_codec.specs.Place.{beginning}
use Rattle.game_codec.proofs.DealLaws.{same-length-drop, tree-of}
use Rattle.game_codec.proofs.LeadLaws.{leads-all}
use Rattle.game_codec.proofs.building.build.Goals as goal

pub returns : goal.returns
returns c =
    let texts : c.split_at.result.1.now ≡ drop c.moves_len.result c.args.bytes.now = c.split_at.ensures.back in
    let size : length c.args.bytes.now - c.in_ok-taken.taken.moves ≡ length c.split_at.result.1.now = omega (arith, c.if-bytes-taken.false) in
    let behind : c.split_at.result.1.now ≡ drop c.in_ok-taken.taken.moves c.args.bytes.now =
    same-length-drop c.args.bytes.now c.split_at.result.1.now c.moves_len.result c.in_ok-taken.taken.moves c.moves_len.ensures.within c.in_ok-taken.ensures.moves texts size
    in
    let none : drop c.in_ok-taken.taken.texts c.split_at.result.1.now ≡ [] =
    nil_from_length (drop c.in_ok-taken.taken.texts c.split_at.result.1.now) (omega (arith, c.if-taken-texts.false, length-drop c.in_ok-taken.taken.texts c.split_at.result.1.now))
    in
    let place = c.beginning-place.ensures.beginning ∙ ap (beginning 0) c.copy.ensures.same in
    record {
      ok = tree-of c.args.start.now c.beginning-place.result c.args.bytes.now c.split_at.result.1.now c.in_ok-taken.taken.moves c.in_ok-taken.taken.texts c.new-builder.result c.build_line.new.builder c.in_ok-branch.branch
          place c.new-builder.ensures.opening c.in_ok-taken.ensures.built behind none c.in_ok-branch.ensures.meant;
      last = c.position.ensures.position
          ∙ leads-all c.args.start.now c.beginning-place.result c.build_line.new.place c.new-builder.result c.build_line.new.builder c.in_ok-branch.branch.line
          place c.new-builder.ensures.opening c.in_ok-taken.ensures.leads c.in_ok-branch.ensures.line;
    }
