-- The walk goes on along the same bytes.
use Rattle.std.proofs.Common.{◌≡◌, List, Option, ℕ, subst, sym, ◌∙◌}
use Rattle.std.specs.Prelude.{IfOk}
use Rattle.cell_core.specs.declared.step.Move.{Move}
use Rattle.game_codec.specs.Record.{IsRecord}
use Rattle.game_tree.specs.Game.{GameTree}
use Rattle.game_tree.specs.declared.head.Tag.{Tag}
use Rattle.pos_search.specs.Matching.{hit_on_main}
use Rattle.pos_search.proofs.WalkLemmas.{no_hit}
use Rattle.pos_search.proofs.walking.first_on_main.Goals as goal

pub with_next-requires : goal.with_next-requires
with_next-requires c = record {
  met = rw c.in-Ok-Some.field-0-is at c.in-Ok-Some.ensures.met;
  first = λ tags game is.
      sym c.in-Ok-Some.field-0-is ∙ c.in-Ok-Some.ensures.first tags game (subst (λ (b : List ℕ). IsRecord b tags game) c.in-Ok-Some.ensures.bytes is);
}

pub returns-in-Ok-Some-clause-first : goal.returns-in-Ok-Some-clause-first
returns-in-Ok-Some-clause-first c =
    let q = c.args.q.now in
    subst (λ (b : List ℕ). IfOk c.with_next.result (λ (hit : Option (ℕ × Option Move)). (tags : List Tag) (game : GameTree) → IsRecord b tags game → hit ≡ hit_on_main q game))
    (c.in-Ok-Some.ensures.bytes ∙ c.in_ok-walk.ensures.bytes) c.with_next.ensures.first

pub returns-in-Ok-None-clause-first : goal.returns-in-Ok-None-clause-first
returns-in-Ok-None-clause-first c = λ tags game is.
    no_hit c.args.q.now game
    (sym c.in-Ok-None.field-0-is ∙ c.in-Ok-None.ensures.first tags game (subst (λ (b : List ℕ). IsRecord b tags game) (sym c.in_ok-walk.ensures.bytes) is))
