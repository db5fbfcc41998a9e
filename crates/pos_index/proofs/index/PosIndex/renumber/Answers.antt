use Rattle.std.proofs.Common.{rules, ◌+◌, ◌∙◌, ap, arith, sym, subst, List, length, map}
use Rattle.std.proofs.lemmas.List.{length-map}
use Rattle.game_filter.specs.Renumbering.{renumbered}
use Rattle.pos_index.specs.Hits.{Fits, Index, Place, last_of}
use Rattle.pos_index.proofs.IndexLemmas.{AreShort, fewer_fit, fewer_renumbered, games_few, short_renumbered, stands_renumbered}
use Rattle.pos_index.proofs.PlaceLemmas.{map-renumbered}
use Rattle.pos_index.proofs.index.PosIndex.renumber.Goals as goal

-- The games that stay are few.
pub forget-requires : goal.forget-requires
forget-requires c =
    let left = fewer_renumbered c.args.r.now.to c.self.inside.places in
    omega (arith, left, games_few c.self.inside.depth (length c.self.inside.places) c.self.invariant.1.0, ap length c.renumber.ensures)

pub apply-requires : goal.apply-requires
apply-requires c =
    omega (arith, c.requires.same_games, ap length c.self.invariant.1.1.1, length-map c.self.inside.places last_of, ap (λ (index : Index). length index.rows) c.self.view_is)

pub invariant_of-self : goal.invariant_of-self
invariant_of-self c =
    let to = c.args.r.now.to in
    let rows = c.self.inside.places in
    let depth = c.self.inside.depth in
    let now = c.forget.ensures.same ∙ c.renumber.ensures in (
      c.self.invariant.0,
      (
        subst (λ (l : List (List Place)). Fits depth (length l)) (sym now) (fewer_fit depth _ _ (fewer_renumbered to rows) c.self.invariant.1.0),
        (
          subst (AreShort (depth + 1)) (sym now) (short_renumbered (depth + 1) to rows c.self.invariant.1.1.0),
          c.apply.ensures.stayed ∙ ap (renumbered to) c.self.invariant.1.1.1 ∙ sym (map-renumbered last_of to rows) ∙ ap (map last_of) (sym now),
        ),
      ),
    )

pub returns-clause-indexed : goal.returns-clause-indexed
returns-clause-indexed c = λ games is.
    c.forget.ensures.same ∙ c.renumber.ensures ∙ stands_renumbered c.self.inside.depth c.args.r.now.to c.self.inside.places games (search (rules, is))
