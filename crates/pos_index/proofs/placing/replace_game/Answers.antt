use Rattle.std.proofs.Common.{◌≡◌, ◌-◌, ◌++◌, ◌+◌, take, drop, arith}
use Rattle.pos_index.specs.Hits.{places_of}
use Rattle.pos_index.specs.Keeping.{row_in, with_row}
use Rattle.pos_index.proofs.GameLemmas.{alike-front, whole-row}
use Rattle.pos_index.proofs.placing.replace_game.Goals as goal

pub returns-clause-replaced : goal.returns-clause-replaced
returns-clause-replaced c =
    let depth = c.args.depth in
    let old = c.args.places.now in
    let game = c.args.new.now in
    let n = c.common-kept.result in
    let alike = c.common-kept.ensures.alike in
    let front : c.drop_middle.new.self ≡ with_row old c.args.i (take n (row_in old c.args.i) ++ drop n (places_of depth game)) =
    alike-front old c.put_game.new.places c.drop_middle.new.self c.args.i n c.from.result (c.count-old.result - c.from-2.result) c.count-old.result depth game c.requires.number c.count-old.ensures alike c.from.ensures
    (omega (arith, c.from.ensures, c.from-2.ensures, alike.within, c.count-old.ensures)) c.in_ok-put_game.ensures.put c.drop_middle.ensures in
    whole-row old c.drop_middle.new.self c.set_nexts.new.places c.args.i n depth game c.requires.number alike c.common-kept.ensures.few front c.set_nexts.ensures
