use Rattle.std.proofs.Common.{◌≡◌, ◌<◌, ◌+◌, ◌++◌, ◌∷◌, [], true, false, length, take, Some, None, Err, refl, sym, ap, ◌∙◌, arith}
use Rattle.std.proofs.lemmas.List.{length-take-le}
use Rattle.base_core.proofs.Lists.{get_some}
use Rattle.game_filter.specs.Renumbering.{Numbering}
use Rattle.compact_base.specs.Compacting.{new_end}
use Rattle.compact_base.proofs.FirstLaws.{deleted-at, few-taken, full-there, has-gone, has-stayed, why-not-taken}
use Rattle.compact_base.proofs.ListLaws.{numbered, numbering-goes, numbering-stays, numbers-long}
use Rattle.compact_base.proofs.drafting.draft_game.Goals as goal

pub returns-then-is_deleted-clause-drafted : goal.returns-then-is_deleted-clause-drafted
returns-then-is_deleted-clause-drafted c =
    let e = get_some c.args.base.now.entries c.args.i c.requires.there in
    let goes : e.0.deleted ≡ true = sym (deleted-at c.args.base.now c.args.i e.0 e.1) ∙ sym c.if-is_deleted.ensures.deleted in
    has-gone c.args.i c.args.base.now c.args.draft.now e.0 e.1 goes c.requires.drafted

pub push-requires-clause-few : goal.push-requires-clause-few
push-requires-clause-few c = few-taken c.args.i c.args.base.now c.args.draft.now (omega (arith, c.requires.there)) c.requires.drafted

pub returns-in-Err-clause-why : goal.returns-in-Err-clause-why
returns-in-Err-clause-why c =
    let e = get_some c.args.base.now.entries c.args.i c.requires.there in
    let stays : e.0.deleted ≡ false = sym (deleted-at c.args.base.now c.args.i e.0 e.1) ∙ sym c.if-is_deleted.ensures.deleted in
    why-not-taken (Err c.in-Err.error) c.in-Err.error c.from.result (new_end (take (c.args.i + 1) c.args.base.now.entries)) refl c.from.ensures
    (λ full. full-there c.args.i c.args.base.now c.args.draft.now e.0 e.1 stays c.requires.drafted (c.in-Err.ensures.full.0 full))

pub returns-in-Ok-clause-drafted : goal.returns-in-Ok-clause-drafted
returns-in-Ok-clause-drafted c =
    let e = get_some c.args.base.now.entries c.args.i c.requires.there in
    let stays : e.0.deleted ≡ false = sym (deleted-at c.args.base.now c.args.i e.0 e.1) ∙ sym c.if-is_deleted.ensures.deleted in
    has-stayed c.args.i c.args.base.now c.args.draft.now c.push.new.self e.0 e.1 stays c.in-Ok.ensures.grown c.in-Ok.ensures.taken c.push.ensures.names c.requires.drafted
