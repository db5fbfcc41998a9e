use Rattle.std.proofs.Common.{ℕ, Option, sym, subst}
use Rattle.sig_index.proofs.ReadLemmas.{front_is, game_read}
use Rattle.book_pages.specs.Meeting.{Reaches}
use Rattle.book_pages.specs.Reached.{reached_if_in}
use Rattle.book_pages.proofs.finding.meet_game.Goals as goal

pub returns-in-Ok-true-clause-met : goal.returns-in-Ok-true-clause-met
returns-in-Ok-true-clause-met g c = λ told list game same holds there.
    let games = (g.F.Files.seen c.args.files.now).games in
    let extents = g.G.Games.extents c.args.games.now in
    let tells = front_is games extents c.args.i c.fetch.new.buf c.split_at.result.0.now c.in-Ok.len
    c.split_at.ensures.front c.in-Ok.ensures.bytes in
    let read = game_read games told extents (g.G.Games.sigs c.args.games.now) list c.args.i game c.split_at.result.0.now same holds c.requires.game there tells in
    subst (λ (ply : Option ℕ). Reaches c.args.i (reached_if_in c.args.reach.now ply game) c.args.counts.now.boards.keys c.args.counts.now.met.items c.meet_record.new.counts.boards.keys c.meet_record.new.counts.met.items)
    (sym c.in-Some.is) (c.in-Ok-true.ensures.met c.in-Ok-true.field-0-test read.0 game read.1)
