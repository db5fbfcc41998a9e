use Rattle.sig_index.proofs.ReadLemmas.{front_is, game_read}
use Rattle.twin_games.proofs.MeetLemmas.{changed}
use Rattle.twin_games.proofs.meeting.read_opening.Goals as goal

pub returns-in-Some-clause-opening : goal.returns-in-Some-clause-opening
returns-in-Some-clause-opening g c = λ told list game same holds there.
    let games = (g.F.Files.seen c.args.files.now).games in
    let extents = g.G.Games.extents c.args.games.now in
    let tells = front_is games extents c.args.i c.fetch.new.buf c.split_at.result.0.now c.in-Ok.len
    c.split_at.ensures.front c.in-Ok.ensures.bytes in
    let read = game_read games told extents (g.G.Games.sigs c.args.games.now) list c.args.i game c.split_at.result.0.now same holds c.requires.game there tells in
    (rw c.in-Some.is at c.in-Ok-opening_of.ensures) read.0 game read.1

pub returns-in-None-clause-cause : goal.returns-in-None-clause-cause
returns-in-None-clause-cause g c =
    changed (g.F.Files.seen c.args.files.now).games (g.G.Games.extents c.args.games.now) (g.G.Games.sigs c.args.games.now) c.args.i c.fetch.new.buf
    c.split_at.result.0.now c.in-Ok.len c.sig.result c.in-Ok.ensures.len c.split_at.ensures.front c.in-Ok.ensures.bytes
    c.sig.ensures.kept (rw c.in-None.is at c.in-Ok-opening_of.ensures)
