-- A move between squares without marks leaves all.
use Rattle.std.proofs.Common.{◌≡◌, ◌∙◌, List, ℕ, sym, subst, true}
use Rattle.std.specs.Prelude.{All}
use Rattle.sig_index.specs.Leaving.{marked_homes, stays}
use Rattle.sig_index.proofs.MarkLemmas.{all_stay}
use Rattle.sig_index.proofs.StayLemmas.{untouched-gone, untouched-stay}
use Rattle.sig_index.proofs.TouchLemmas.{homes-marked}
use Rattle.sig_index.proofs.leaving.Still.leave_by.Goals as goal

pub returns-else-is_marked-2-clause-still : goal.returns-else-is_marked-2-clause-still
returns-else-is_marked-2-clause-still c =
    untouched-stay c.args.m.now c.args.self.now
    (subst (λ (homes : List ℕ). All (λ v. stays c.args.m.now v ≡ true) homes) c.self.view_is
    (all_stay c.args.m.now c.self.inside.marks (marked_homes c.self.inside.marks)
    (sym c.is_marked.ensures ∙ c.if-is_marked.false) (sym c.is_marked-else-is_marked.ensures ∙ c.if-is_marked-2.false) (homes-marked c.self.inside.marks)))

pub returns-else-is_marked-2-clause-left : goal.returns-else-is_marked-2-clause-left
returns-else-is_marked-2-clause-left c =
    untouched-gone c.args.m.now c.args.self.now c.args.left.now.items
    (subst (λ (homes : List ℕ). All (λ v. stays c.args.m.now v ≡ true) homes) c.self.view_is
    (all_stay c.args.m.now c.self.inside.marks (marked_homes c.self.inside.marks)
    (sym c.is_marked.ensures ∙ c.if-is_marked.false) (sym c.is_marked-else-is_marked.ensures ∙ c.if-is_marked-2.false) (homes-marked c.self.inside.marks)))
