use Rattle.std.proofs.Common.{◌≡◌}
use Rattle.std.specs.Prelude.{IfSome}
use Rattle.scid_page.specs.Putting.{HaveFirst}
use Rattle.scid_page.proofs.pages.write_rest.Given as goal

-- The pages so far are there.
abbrev pub invariant-loop-page : goal.invariant-loop-page
invariant-loop-page g l = record {
  site : l.site ≡ l.fn.site;
  have : IfSome (g.S.Shelf.told l.shelf) (HaveFirst l.book (g.G.Games.heads l.games) l.order l.page-index);
}
