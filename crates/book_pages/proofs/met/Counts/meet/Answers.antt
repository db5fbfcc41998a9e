use Rattle.std.proofs.Common.{Some, ap, sym, refl, ◌∙◌}
use Rattle.std.proofs.lemmas.Option.{slice_get-get_or}
use Rattle.book_pages.proofs.CountLemmas.{meets}
use Rattle.book_pages.proofs.met.Counts.meet.Goals as goal

pub returns-clause-met : goal.returns-clause-met
returns-clause-met c =
    meets c.args.i c.args.board c.args.self.now.boards.keys c.args.self.now.met.items c.in_ok-number.number c.number.new.self.boards.keys c.number.new.self.met.items _
    c.meet.new.self c.requires.kept.count c.in_ok-number.ensures.number c.in_ok-number.ensures.boards c.in_ok-number.ensures.met refl c.index_mut.result.now
    (slice_get-get_or c.number.new.self.met.items c.in_ok-number.number c.index_mut.result.now c.in_ok-number.ensures.within ∙ ap Some (sym c.index_mut.ensures.value))
    (c.meet.ensures.again, c.meet.ensures.first)
