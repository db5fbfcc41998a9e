use Rattle.std.proofs.Common.{ap, sym}
use Rattle.game_tree.specs.Game.{GameTree}
use Rattle.game_tree.specs.Tree.{Variation, line_of}
use Rattle.game_codec.proofs.ReadLaws.{begun, read-is}
use Rattle.game_codec.proofs.WritingLaws.{game-ends}
use Rattle.game_codec.proofs.decoding.read_record.Goals as goal

pub returns : goal.returns
returns c =
    let line = line_of c.branch.inside.line.items in
    let game : GameTree = record { start = c.position-position.result.now; lead = c.branch.inside.lead; line = line } in
    record {
      ok = read-is c.args.bytes.now c.split_at.result.1.now c.split_at-2.result.1.now c.read_start.new.start c.in_ok-tags.tags.tags.items c.in_ok-branch.field-0.branch game
          (begun c.args.bytes.now c.split_at.result.1.now c.split_at-2.result.1.now c.in_ok-tags.tags.used c.in_ok-read.read c.in_ok-tags.ensures.ok.0 c.read_start.new.start
          c.split_at.ensures.back c.split_at-2.ensures.back c.in_ok-tags.ensures.ok.1.0 c.in_ok-read.ensures.ok)
          c.in_ok-tags.ensures.ok.1.1 c.in_ok-branch.ensures.ok c.position-position.ensures.position (ap (λ (v : Variation). v.lead) c.branch.view_is) (ap (λ (v : Variation). v.line) c.branch.view_is);
      last = game-ends game (c.in_ok-branch.field-0.branch.line) c.read_start.new.start.position c.in_ok-branch.field-0.last
          (ap (λ (v : Variation). v.line) c.branch.view_is) (sym c.position-position.ensures.position) c.in_ok-branch.ensures.last;
    }
