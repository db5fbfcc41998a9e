use Rattle.std.proofs.Common.{◌+◌, subst}
use Rattle.game_tree.specs.Replay.{plies_of}
use Rattle.sig_index.specs.Games.{head_in}
use Rattle.sig_index.proofs.ReadLemmas.{front_is, game_read}
use Rattle.book_pages.specs.declared.counting.Counted.{Counted}
use Rattle.book_pages.specs.Keeping.{AreMet}
use Rattle.book_pages.proofs.GameLemmas.{counted_in}
use Rattle.book_pages.proofs.book.count_game.Goals as goal

pub returns-then-read-clause-counted : goal.returns-then-read-clause-counted
returns-then-read-clause-counted g c = λ told list game same holds there.
    let games = (g.F.Files.seen c.args.files.now).games in
    let extents = g.G.Games.extents c.args.games.now in
    let tells = front_is games extents c.args.i c.fetch.new.buf c.split_at.result.0.now c.in-Ok.len
    c.split_at.ensures.front c.in-Ok.ensures.bytes in
    let read = game_read games told extents (g.G.Games.sigs c.args.games.now) list c.args.i game c.split_at.result.0.now same holds c.requires.game there tells in
    let head = head_in (g.G.Games.heads c.args.games.now) c.args.i in
    let met = c.in-Ok-count_record.ensures.met c.if-read.true read.0 game read.1 in
    counted_in c.args.boards.now.keys c.args.i c.args.ply c.in-Some.field-0 head game c.args.tallies.now c.count_record.new.tallies c.in-Some.is
    (subst (λ (counted : Counted). AreMet c.args.boards.now.keys counted game (plies_of game + 1) c.args.tallies.now c.count_record.new.tallies) c.counted-game.ensures.counted met)
