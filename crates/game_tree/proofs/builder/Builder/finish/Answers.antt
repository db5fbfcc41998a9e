use Rattle.std.proofs.Common.{◌∙◌, ap}
use Rattle.game_tree.specs.Movetext.{Said}
use Rattle.game_tree.specs.Building.{Building, read_line}
use Rattle.game_tree.specs.Written.{comment_before, movetext_of}
use Rattle.game_tree.proofs.MovetextLemmas.{built-items_of}
use Rattle.game_tree.proofs.WrittenLemmas.{meaning-written}
use Rattle.game_tree.proofs.builder.Builder.finish.Goals as goal

pub returns-clause-meant : goal.returns-clause-meant
returns-clause-meant c =
    λ s e. record {
      lead_is = c.in_ok-read.ensures.lead ∙ ap (λ (b : Building). b.current.lead) c.self.view_is ∙ (built-items_of s c.args.self e).lead;
      line_is = c.in_ok-read.ensures.line ∙ ap (λ (b : Building). read_line b.current) c.self.view_is ∙ (built-items_of s c.args.self e).line;
    }

pub returns-clause-written : goal.returns-clause-written
returns-clause-written c =
    λ lead line some are e.
    let s = comment_before lead (movetext_of line) in
    let tree = meaning-written lead line some are in
    record {
      lead_is =
          c.in_ok-read.ensures.lead
          ∙ ap (λ (b : Building). b.current.lead) c.self.view_is
          ∙ (built-items_of s c.args.self e).lead
          ∙ ap (λ (r : Said). r.comment) tree;
      line_is =
          c.in_ok-read.ensures.line
          ∙ ap (λ (b : Building). read_line b.current) c.self.view_is
          ∙ (built-items_of s c.args.self e).line
          ∙ ap (λ (r : Said). r.line) tree;
    }
