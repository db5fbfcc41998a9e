use Rattle.std.proofs.Common.{◌≡◌, rules, ap, None, Some, ◌∙◌}
use Rattle.pos_search.specs.Searching.{ply_of}
use Rattle.pos_search.proofs.telling.ply_told.Goals as goal

pub returns-in-Some-clause-told : goal.returns-in-Some-clause-told
returns-in-Some-clause-told c = λ query rows is.
    let at : Some c.in-Some.ply ≡ ply_of c.hit_told.result = search rules in
    at ∙ ap ply_of (c.hit_told.ensures.told query rows is)

pub returns-in-None-clause-told : goal.returns-in-None-clause-told
returns-in-None-clause-told c = λ query rows is.
    let at : None ≡ ply_of c.hit_told.result = search rules in
    at ∙ ap ply_of (c.hit_told.ensures.told query rows is)
