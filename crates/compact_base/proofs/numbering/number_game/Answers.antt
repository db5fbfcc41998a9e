use Rattle.std.proofs.Common.{◌≡◌, ◌<◌, ◌+◌, ◌++◌, ◌∷◌, [], true, false, length, take, Some, None, sym, ap, ◌∙◌, arith}
use Rattle.std.proofs.lemmas.List.{length-take-le}
use Rattle.base_core.proofs.Lists.{get_some}
use Rattle.game_filter.specs.Renumbering.{Numbering}
use Rattle.compact_base.proofs.FirstLaws.{deleted-at}
use Rattle.compact_base.proofs.ListLaws.{numbered, numbering-goes, numbering-stays, numbers-long}
use Rattle.compact_base.proofs.numbering.number_game.Goals as goal

pub remove-requires : goal.remove-requires
remove-requires c =
    let long : length c.args.renumbering.now.to ≡ c.args.i =
    ap (λ (r : Numbering). length r.to) c.requires.numbers ∙ (numbers-long (take c.args.i c.args.base.now.entries) ∙ length-take-le c.args.i c.args.base.now.entries (omega (arith, c.requires.there))) in
    let room : length c.args.renumbering.now.to < 4294967295 = omega (arith, long, c.requires.there, c.header-header.ensures.sound.count, c.header-header.ensures.sound.header.games) in
    record { room = room }

pub returns-then-is_deleted : goal.returns-then-is_deleted
returns-then-is_deleted c =
    let e = get_some c.args.base.now.entries c.args.i c.requires.there in
    let goes : e.0.deleted ≡ true = sym (deleted-at c.args.base.now c.args.i e.0 e.1) ∙ sym c.if-is_deleted.ensures.deleted in
    record {
      numbers = c.in_ok-remove.ensures.removed ∙ (ap (λ (r : Numbering). numbered (r.to ++ None ∷ []) r.kept) c.requires.numbers ∙ numbering-goes c.args.base.now.entries c.args.i e.0 e.1 goes);
    }

pub keep-requires : goal.keep-requires
keep-requires c =
    let long : length c.args.renumbering.now.to ≡ c.args.i =
    ap (λ (r : Numbering). length r.to) c.requires.numbers ∙ (numbers-long (take c.args.i c.args.base.now.entries) ∙ length-take-le c.args.i c.args.base.now.entries (omega (arith, c.requires.there))) in
    let room : length c.args.renumbering.now.to < 4294967295 = omega (arith, long, c.requires.there, c.header-header.ensures.sound.count, c.header-header.ensures.sound.header.games) in
    record { room = room }

pub returns : goal.returns
returns c =
    let e = get_some c.args.base.now.entries c.args.i c.requires.there in
    let stays : e.0.deleted ≡ false = sym (deleted-at c.args.base.now c.args.i e.0 e.1) ∙ sym c.if-is_deleted.ensures.deleted in
    record {
      numbers = c.in_ok-keep.ensures.kept ∙ (ap (λ (r : Numbering). numbered (r.to ++ Some r.kept ∷ []) (r.kept + 1)) c.requires.numbers ∙ numbering-stays c.args.base.now.entries c.args.i e.0 e.1 stays);
    }
