use Rattle.std.proofs.Common.{◌∙◌, ap, sym, length}
use Rattle.book_pages.proofs.GameLemmas.{shown, written}
use Rattle.book_pages.proofs.book.Book.read.Goals as goal

pub returns-clause-rows : goal.returns-clause-rows
returns-clause-rows g c = λ told list same holds.
    let items = c.in_ok-tallies.tallies.items in
    let new = c.count_games.new.tallies in
    let plies = c.args.filter.now in
    shown c.args.boards.keys plies (g.G.Games.heads c.args.games.now) list _ new
    (written c.in_ok-tallies.tallies.len items new (sym c.as_mut_slice.ensures.len ∙ ap length c.as_mut_slice.ensures.value) (c.in-Ok.ensures.kept.count ∙ sym (c.in_ok-tallies.ensures.count ∙ c.len.ensures.len)))
    (c.in-Ok.ensures.counted told list same holds)
