use Rattle.std.proofs.Common.{◌≡◌, Some, ap, ◌∙◌, rules, get_or}
use Rattle.std.specs.Prelude.{slice_get}
use Rattle.std.proofs.lemmas.Option.{slice_get-get_or}
use Rattle.book_pages.proofs.GameLemmas.{keys_are}
use Rattle.book_pages.proofs.book.Book.rows.Goals as goal

pub returns-clause-keys : goal.returns-clause-keys
returns-clause-keys c = λ board is_board.
    let boards = c.self.inside.boards.keys in
    let items = c.self.inside.tallies.items in
    let tally = c.index.result.now in
    let here : slice_get boards c.args.number ≡ Some board = search rules in
    let index : get_or items c.args.number tally ≡ tally = search rules in
    let at : slice_get items c.args.number ≡ Some tally =
    slice_get-get_or items c.args.number tally (search rules) ∙ ap Some index in
    keys_are board tally c.as_slice.result.now (c.as_slice.ensures.rows ∙ c.rows.ensures.rows) (c.self.invariant.keys c.args.number board tally here at)
