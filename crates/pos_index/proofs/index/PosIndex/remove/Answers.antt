use Rattle.std.proofs.Common.{rules, ◌≡◌, ◌+◌, ◌∙◌, sym, subst, List, [], length}
use Rattle.std.specs.Prelude.{None, slice_set}
use Rattle.std.proofs.lemmas.List.{length-set}
use Rattle.std.proofs.lemmas.List.Elements.{All-set}
use Rattle.pos_index.specs.Hits.{Fits, IsRow, Place}
use Rattle.pos_index.proofs.IndexLemmas.{AreShort, lasts_length, no_places, stands_set}
use Rattle.pos_index.proofs.index.PosIndex.remove.Goals as goal

pub keep_last-requires-clause-games : goal.keep_last-requires-clause-games
keep_last-requires-clause-games c =
    lasts_length c.self.inside.places c.forget.new.self c.args.i [] c.self.inside.lasts.items c.self.invariant.1.1.1 (c.forget.ensures.same ∙ c.truncate.ensures)

pub invariant_of-self : goal.invariant_of-self
invariant_of-self c =
    let depth = c.self.inside.depth in
    let old = c.self.inside.places in
    let now : c.forget.new.self ≡ slice_set old c.args.i [] = c.forget.ensures.same ∙ c.truncate.ensures in (
      c.self.invariant.0,
      (
        subst (λ (l : List (List Place)). Fits depth (length l)) (sym now) (subst (Fits depth) (sym (length-set old c.args.i [])) c.self.invariant.1.0),
        (
          subst (AreShort (depth + 1)) (sym now) (All-set (IsRow (depth + 1)) old c.args.i [] (no_places (depth + 1)) c.self.invariant.1.1.0),
          c.keep_last.ensures.kept old [] c.self.invariant.1.1.1 now,
        ),
      ),
    )

pub returns-clause-indexed : goal.returns-clause-indexed
returns-clause-indexed c = λ games is.
    c.forget.ensures.same ∙ c.truncate.ensures ∙ stands_set c.self.inside.depth c.args.i c.self.inside.places games None (search (rules, is))
