use Rattle.std.proofs.Common.{◌≡◌, ℕ, List, ◌++◌, ap, subst, ◌∙◌}
use Rattle.game_tree.specs.Tree.{Played, branches_of}
use Rattle.game_codec.specs.Place.{numbered_after}
use Rattle.game_codec.specs.Writing.{nags_text}
use Rattle.game_codec.proofs.WritingLaws.{numbered-played, own-node}
use Rattle.game_codec.proofs.moves.put_own.Goals as goal

pub returns-clause-moves : goal.returns-clause-moves
returns-clause-moves c =
    own-node c.args.position.now c.args.node.now c.node.inside.mv c.node.inside.nags.items c.pack-bytes.result.items c.node.inside.comment
    (branches_of c.node.inside.variations.items) c.args.body.now.moves.items c.put_move.new.self.moves.items c.put_nags.new.self.moves.items
    c.put_comment.new.self.moves.items c.node.view_is c.pack-bytes.ensures.bytes
    (c.in_ok-put_move.ensures.moves ∙ ap (λ (bytes : List ℕ). c.args.body.now.moves.items ++ bytes) c.as_slice.ensures.value)
    (c.in_ok-put_nags.ensures.moves ∙ ap (λ (nags : List ℕ). c.put_move.new.self.moves.items ++ nags_text nags) c.as_slice-2.ensures.value)
    c.in_ok-put_comment.ensures.moves

pub returns-clause-played : goal.returns-clause-played
returns-clause-played c =
    subst (λ (p : Played). c.pack-bytes.new.self ≡ numbered_after c.args.position.now p.mv) c.node.view_is
    (numbered-played c.args.position.now c.node.inside.mv c.pack-bytes.new.self c.pack-bytes.ensures.step c.pack-bytes.ensures.numbers)
