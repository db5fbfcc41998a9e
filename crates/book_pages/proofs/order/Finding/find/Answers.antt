use Rattle.std.proofs.Common.{true, refl, set, arith}
use Rattle.std.proofs.lemmas.Bool.Decides.{nat_tests}
use Rattle.book_pages.proofs.OrderLemmas.{one_found}
use Rattle.book_pages.proofs.order.Finding.find.Goals as goal

pub returns-clause-kept : goal.returns-clause-kept
returns-clause-kept c =
    one_found c.args.self.now.signs.items (set c.args.self.now.signs.items c.args.page true) c.args.self.now.found.items c.push.new.self.items c.args.page
    c.requires.kept (grind (arith, nat_tests, c.if-page-len.false, c.len.ensures)) refl c.in_ok-push.ensures.items
