use Rattle.std.proofs.Common.{ap, ◌∙◌}
use Rattle.std.specs.Prelude.{position}
use Rattle.book_pages.specs.Book.{Pages, packed_eq}
use Rattle.book_pages.proofs.PlaceLemmas.{page_found}
use Rattle.book_pages.proofs.book.Book.page_of.Goals as goal

pub returns-clause-page : goal.returns-clause-page
returns-clause-page c =
    page_found c.args.self.now.boards c.args.board.now c.get_index_of.result
    (c.get_index_of.ensures.index ∙ ap (λ (pages : Pages). position (packed_eq c.args.board.now) pages.boards) c.self.view_is)
