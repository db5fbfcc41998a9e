use Rattle.std.proofs.Common.{◌≡◌, ◌+◌, ◌∙◌, ap, sym, subst, List, map, length}
use Rattle.std.specs.Prelude.{Some, slice_set}
use Rattle.std.proofs.lemmas.List.{length-set}
use Rattle.std.proofs.lemmas.List.Elements.{All-set}
use Rattle.pos_index.specs.Hits.{Fits, Index, IsRow, Place, places_of, row_of}
use Rattle.pos_index.proofs.GameLemmas.{places_row}
use Rattle.pos_index.proofs.IndexLemmas.{AreShort, lasts_length, stands_set}
use Rattle.pos_index.proofs.index.PosIndex.replace.Goals as goal

pub keep_last-requires-clause-games : goal.keep_last-requires-clause-games
keep_last-requires-clause-games c =
    let old = c.self.inside.places in
    let row = places_of c.self.inside.depth c.args.new.now in
    lasts_length old c.forget.new.self c.args.i row c.self.inside.lasts.items c.self.invariant.1.1.1 (c.forget.ensures.same ∙ c.in_ok-replace_game.ensures.replaced)

pub invariant_of-self-2 : goal.invariant_of-self-2
invariant_of-self-2 c =
    let depth = c.self.inside.depth in
    let old = c.self.inside.places in
    let game = c.args.new.now in
    let row = places_of depth game in
    let now : c.forget.new.self ≡ slice_set old c.args.i row = c.forget.ensures.same ∙ c.in_ok-replace_game.ensures.replaced in (
      c.self.invariant.0,
      (
        subst (λ (l : List (List Place)). Fits depth (length l)) (sym now) (subst (Fits depth) (sym (length-set old c.args.i row)) c.self.invariant.1.0),
        (
          subst (AreShort (depth + 1)) (sym now) (All-set (IsRow (depth + 1)) old c.args.i row (places_row depth game c.in_ok-replace_game.ensures.start c.requires.legal) c.self.invariant.1.1.0),
          c.keep_last.ensures.kept old row c.self.invariant.1.1.1 now,
        ),
      ),
    )

pub returns-clause-indexed : goal.returns-clause-indexed
returns-clause-indexed c = λ games is.
    c.forget.ensures.same ∙ c.in_ok-replace_game.ensures.replaced ∙ stands_set c.self.inside.depth c.args.i c.self.inside.places games (Some c.args.new.now)
    (ap (λ (index : Index). index.rows) c.self.view_is ∙ is ∙ ap (λ (index : Index). map (row_of index.depth) games) (sym c.self.view_is))
