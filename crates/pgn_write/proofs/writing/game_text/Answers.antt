use Rattle.std.proofs.Common.{ℕ, List, ◌++◌, ap, ◌∙◌, flat_map}
use Rattle.game_tree.specs.declared.head.Head.{Head}
use Rattle.game_tree.specs.Head.{head_of}
use Rattle.pgn_write.specs.TagPairs.{tags_of, tag_text}
use Rattle.pgn_write.proofs.TagLaws.{tags-some}
use Rattle.pgn_write.proofs.PgnLaws.{pgn-parts}
use Rattle.pgn_write.proofs.writing.game_text.Goals as goal

pub with_movetext-requires-clause-some : goal.with_movetext-requires-clause-some
with_movetext-requires-clause-some c =
    let head : Head = head_of c.args.head.now c.args.tags.now in
    tags-some head c.args.g.now c.put_tags.new.out.items c.push.new.self.items
    (c.in_ok-put_tags.ensures.tags ∙ ap (λ (text : List ℕ). text ++ flat_map tag_text (tags_of head c.args.g.now)) c.in_ok-out.ensures.items)
    c.in_ok-push.ensures.items

pub returns : goal.returns
returns c =
    record {
      text =
          pgn-parts (head_of c.args.head.now c.args.tags.now) c.args.g.now c.in_ok-out.out.items c.put_tags.new.out.items c.push.new.self.items
          c.in_ok-text.text.items c.extend_from_slice.new.self.items c.in_ok-out.ensures.items c.in_ok-put_tags.ensures.tags c.in_ok-push.ensures.items
          c.in_ok-text.ensures.text c.in_ok-extend_from_slice.ensures.items;
    }
