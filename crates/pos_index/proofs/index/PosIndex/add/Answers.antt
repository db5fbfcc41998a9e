use Rattle.std.proofs.Common.{rules, ◌≡◌, ◌+◌, ◌++◌, ◌∷◌, ◌∙◌, sym, subst, List, [], length, arith}
use Rattle.std.specs.Prelude.{None}
use Rattle.std.proofs.lemmas.List.{length_push}
use Rattle.std.proofs.lemmas.List.Elements.{All-push}
use Rattle.pos_index.specs.Hits.{Fits, IsRow, Place, places_of}
use Rattle.pos_index.proofs.GameLemmas.{places_row}
use Rattle.pos_index.proofs.IndexLemmas.{AreShort, added_set, last_none, stands_added}
use Rattle.pos_index.proofs.index.PosIndex.add.Goals as goal

pub invariant_of-self-in-Ok : goal.invariant_of-self-in-Ok
invariant_of-self-in-Ok c =
    let depth = c.self.inside.depth in
    let old = c.self.inside.places in
    let row = places_of depth c.args.g.now in
    let last : c.args.i ≡ length old = search rules in
    let pushed : c.push.new.self.items ≡ c.self.inside.lasts.items ++ None ∷ [] = search rules in
    let now : c.add_game.new.places ≡ old ++ row ∷ [] = c.in-Ok.ensures.added in
    let room : Fits depth (length (old ++ row ∷ [])) = subst (Fits depth) (let same : c.args.i + 1 ≡ length (old ++ row ∷ []) = omega (arith, last, length_push old row) in same) (search rules) in (
      c.self.invariant.0,
      (
        subst (λ (l : List (List Place)). Fits depth (length l)) (sym now) room,
        (
          subst (AreShort (depth + 1)) (sym now) (All-push (IsRow (depth + 1)) old row c.self.invariant.1.1.0 (places_row depth c.args.g.now c.in-Ok.ensures.start c.requires.legal)),
          c.keep_last.ensures.kept (old ++ [] ∷ []) row (pushed ∙ last_none old c.self.inside.lasts.items c.self.invariant.1.1.1) (now ∙ added_set old c.args.i row last),
        ),
      ),
    )

pub returns-in-Ok-clause-indexed : goal.returns-in-Ok-clause-indexed
returns-in-Ok-clause-indexed c = λ games is.
    c.in-Ok.ensures.added ∙ stands_added c.self.inside.depth c.self.inside.places games c.args.g.now (search (rules, is))
