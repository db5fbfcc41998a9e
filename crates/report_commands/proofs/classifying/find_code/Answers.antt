use Rattle.std.proofs.Common.{sym, subst, arith}
use Rattle.sig_index.proofs.ReadLemmas.{front_is, game_read, some_at}
use Rattle.report_commands.proofs.classifying.find_code.Goals as goal
use Rattle.shell_state.proofs.HoldingLaws.{fetch_device}
use Rattle.shell_state.specs.Ends.{IsDevice}
use Rattle.shell_state.specs.declared.halt.Halt.{Halt}

pub returns-in-Err-clause-devices : goal.returns-in-Err-clause-devices
returns-in-Err-clause-devices g c = λ told list same holds.
    let D : Halt → Type 0 = λ e. IsDevice e in
    subst D (sym c.from.ensures)
    (fetch_device c.in-Err.unread (g.F.Files.seen c.args.files.now).games told (g.G.Games.extents c.args.games.now) (g.G.Games.sigs c.args.games.now) list c.fetch.new.buf _ _
    same holds c.in-Err.ensures.cause)

pub returns-in-Ok-classify-clause-code : goal.returns-in-Ok-classify-clause-code
returns-in-Ok-classify-clause-code g c = λ told list game same holds there.
    let games = (g.F.Files.seen c.args.files.now).games in
    let extents = g.G.Games.extents c.args.games.now in
    let tells = front_is games extents c.args.i c.fetch.new.buf c.split_at.result.0.now c.in-Ok.len
    c.split_at.ensures.front c.in-Ok.ensures.bytes in
    let read = game_read games told extents (g.G.Games.sigs c.args.games.now) list c.args.i game c.split_at.result.0.now same holds c.requires.game there tells in
    c.in-Ok-classify.ensures.code read.0 game read.1

pub returns-in-Err-classify-clause-devices : goal.returns-in-Err-classify-clause-devices
returns-in-Err-classify-clause-devices g c = λ told list same holds.
    let games = (g.F.Files.seen c.args.files.now).games in
    let extents = g.G.Games.extents c.args.games.now in
    let sigs = g.G.Games.sigs c.args.games.now in
    let tells = front_is games extents c.args.i c.fetch.new.buf c.split_at.result.0.now c.in-Ok.len
    c.split_at.ensures.front c.in-Ok.ensures.bytes in
    let game = some_at list c.args.i (omega (arith, holds.count, c.requires.game)) in
    let read = game_read games told extents sigs list c.args.i game.0 c.split_at.result.0.now same holds c.requires.game game.1 tells in
    absurd (c.in-Err-classify.ensures.fault (read.0, (game.0, read.1)))
