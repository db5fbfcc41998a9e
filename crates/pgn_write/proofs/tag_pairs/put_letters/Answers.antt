use Rattle.std.proofs.Common.{List, ◌++◌, ap, sym, ◌∙◌, append-nil, flat_map}
use Rattle.std.specs.Prelude.{codes}
use Rattle.game_tree.specs.declared.head.Tag.{Tag}
use Rattle.pgn_write.specs.TagPairs.{pair, tag_text}
use Rattle.pgn_write.proofs.TagLaws.{flags_pairs-some}
use Rattle.pgn_write.proofs.tag_pairs.put_letters.Goals as goal

pub returns-in_ok-put_tag-in-len1-up : goal.returns-in_ok-put_tag-in-len1-up
returns-in_ok-put_tag-in-len1-up c =
    let line = tag_text (pair (codes "ScidFlags") c.args.letters.now) in
    record {
      tags =
          c.in_ok-put_tag-in-len1-up.ensures.tag
          ∙ ap (λ x. c.args.out.now.items ++ x) (sym (append-nil line))
          ∙ ap (λ (tags : List Tag). c.args.out.now.items ++ flat_map tag_text tags) (sym (flags_pairs-some c.args.letters.now c.in-len1-up.len_at_least));
    }
