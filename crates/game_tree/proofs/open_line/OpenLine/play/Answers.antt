use Rattle.std.proofs.Common.{◌∙◌, ap}
use Rattle.game_tree.specs.Building.{Open, bare, open_of, with_move}
use Rattle.game_tree.proofs.KeptLemmas.{IsLine-push}
use Rattle.game_tree.proofs.OpenLaws.{played}
use Rattle.game_tree.proofs.open_line.OpenLine.play.Goals as goal

pub invariant_of-self-2 : goal.invariant_of-self-2
invariant_of-self-2 c =
    record {
      lead = c.self.invariant.lead;
      line = rw c.in_ok-push.ensures.items (IsLine-push c.self.inside.line.items c.new.result c.self.invariant.line c.new.ensures.kept);
    }

pub returns : goal.returns
returns c =
    record {
      played =
          ap (open_of c.self.inside.lead) c.in_ok-push.ensures.items
          ∙ played c.self.inside.lead c.self.inside.line.items c.new.result c.args.mv c.new.ensures.bare
          ∙ ap (with_move (bare c.args.mv)) c.self.view_is;
    }
