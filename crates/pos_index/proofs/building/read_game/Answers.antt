use Rattle.sig_index.proofs.ReadLemmas.{front_is, game_read}
use Rattle.pos_index.proofs.building.read_game.Goals as goal

pub returns-in-Ok-true-clause-read : goal.returns-in-Ok-true-clause-read
returns-in-Ok-true-clause-read g c = λ told list game same holds there.
    let games = (g.F.Files.seen c.args.files.now).games in
    let extents = g.G.Games.extents c.args.games.now in
    let tells = front_is games extents c.args.i c.fetch.new.buf c.split_at.result.0.now c.in-Ok.len
    c.split_at.ensures.front c.in-Ok.ensures.bytes in
    let read = game_read games told extents (g.G.Games.sigs c.args.games.now) list c.args.i game c.split_at.result.0.now same holds c.requires.game there tells in
    c.in-Ok-true.ensures.put c.in-Ok-true.field-0-test read.0 game read.1
