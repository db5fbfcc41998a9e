use Rattle.std.proofs.Common.{ℕ, List, [], ◌∷◌, ◌++◌, ap, sym, subst, ◌∙◌}
use Rattle.game_tree.specs.Game.{GameTree}
use Rattle.game_tree.specs.Tree.{line_of}
use Rattle.game_tree.specs.Written.{comment_before, movetext_of}
use Rattle.game_codec.specs.Texts.{ended, texts_of}
use Rattle.game_codec.specs.Written.{moves_text, tags_text}
use Rattle.game_codec.specs.Writing.{AddsStart}
use Rattle.move_codec.specs.Numbers.{Numbered}
use Rattle.game_codec.proofs.WritingLaws.{game-ends, game-writes}
use Rattle.game_codec.proofs.encoding.whole_record.Goals as goal

pub returns-clause-written : goal.returns-clause-written
returns-clause-written c =
    let n = c.track-position.result in
    game-writes c.args.tags.now c.args.g.now c.g.inside.start c.g.inside.lead c.g.inside.line.items c.as_slice-line.result.now
    c.g.view_is c.as_slice-line.ensures.value n c.promotion_flags-flags.result
    c.put_tags.new.out.items c.put_start.new.out.items c.extend_from_slice.new.self.items c.push.new.self.items c.extend_from_slice-2.new.self.items
    c.put_line.new.body.moves.items c.put_line.new.body.texts.items
    c.promotion_flags-flags.ensures.flags
    (c.in_ok-put_tags.ensures.bytes ∙ ap (λ (out : List ℕ). out ++ (tags_text c.args.tags.now ++ 0 ∷ [])) c.in_ok-out.ensures.items)
    (
    subst (λ (k : Numbered). AddsStart c.g.inside.start c.promotion_flags-flags.result c.put_tags.new.out.items c.put_start.new.out.items k)
    (sym c.track-position.ensures.same) c.in_ok-start.ensures.start
    )
    (
    c.in_ok-put_line.ensures.moves
    ∙ ap (λ (out : List ℕ). out ++ moves_text n n (comment_before c.g.inside.lead (movetext_of (line_of c.as_slice-line.result.now)))) c.in_ok-body.ensures.moves
    )
    (
    c.in_ok-put_line.ensures.texts
    ∙ ap (λ (out : List ℕ). out ++ ended (texts_of (comment_before c.g.inside.lead (movetext_of (line_of c.as_slice-line.result.now))))) c.in_ok-body.ensures.texts
    )
    (c.in_ok-extend_from_slice.ensures.items ∙ ap (λ (bytes : List ℕ). c.put_start.new.out.items ++ bytes) c.as_slice.ensures.value)
    c.in_ok-push.ensures.items
    (c.in_ok-extend_from_slice-2.ensures.items ∙ ap (λ (bytes : List ℕ). c.push.new.self.items ++ bytes) c.as_slice-2.ensures.value)

pub returns-clause-last : goal.returns-clause-last
returns-clause-last c =
    c.setup.ensures.setup
    ∙ game-ends c.args.g.now (line_of c.as_slice-line.result.now) c.track-position.result.position c.put_line.new.position.position
    (sym (ap (λ (g : GameTree). g.line) c.g.view_is) ∙ ap line_of (sym c.as_slice-line.ensures.value))
    (ap (λ (k : Numbered). k.position) c.track-position.ensures.same ∙ c.in_ok-start.ensures.position ∙ ap (λ (g : GameTree). g.start) c.g.view_is)
    c.in_ok-put_line.ensures.end
