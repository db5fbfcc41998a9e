use Rattle.std.proofs.Common.{ℕ, List, subst, sym}
use Rattle.base_files.specs.Told.{Tells}
use Rattle.sig_index.specs.Games.{extent_in, record_told}
use Rattle.sig_index.proofs.ReadLemmas.{game_read}
use Rattle.game_search.proofs.searching.first_read.Goals as goal

pub returns-in-Ok-clause-first : goal.returns-in-Ok-clause-first
returns-in-Ok-clause-first g c = λ told list game same holds there.
    let games = (g.F.Files.seen c.args.files.now).games in
    let extents = g.G.Games.extents c.args.games.now in
    let T : List ℕ → Type 0 = λ b. Tells (record_told games (extent_in extents c.args.i)) b in
    let tells = subst T (sym c.split_at.ensures.front) c.in_ok-len.ensures.bytes in
    let read = game_read games told extents (g.G.Games.sigs c.args.games.now) list c.args.i game c.split_at.result.0.now same holds c.requires.game there tells in
    c.in-Ok.ensures.first read.0 game read.1 (holds.each c.args.i c.brief.result game c.brief.ensures.kept there).is_sig
