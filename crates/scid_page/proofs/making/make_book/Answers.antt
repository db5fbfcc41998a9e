use Rattle.std.proofs.Common.{sym, ◌∙◌}
use Rattle.base_core.specs.Represents.{heads_of}
use Rattle.scid_page.proofs.MakingLemmas.{is_book}
use Rattle.scid_page.proofs.making.make_book.Goals as goal

pub returns : goal.returns
returns g c = record {
  book = λ told list is_told holds.
      is_book c.args.asked.now.wanted.now.reach c.args.games.now (heads_of c.args.base.now) list c.in_ok-read.read.1 c.in_ok-read.read.0
      (g.S.Shelf.told c.write_book.new.shelf) (c.in_ok-read.ensures.boards told list is_told holds) (c.in_ok-read.ensures.least told list is_told holds)
      (c.in_ok-read.ensures.rows told list is_told holds) (sym c.len.ensures.rows ∙ c.len.ensures.len) c.in_ok-write_book.ensures.pages;
}
