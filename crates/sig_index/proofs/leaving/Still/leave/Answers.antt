-- The value with the higher own square comes first.
use Rattle.std.proofs.Common.{◌≡◌, ◌++◌, ℕ, List, append_assoc, ap, ◌∙◌, subst, arith}
use Rattle.sig_index.specs.Leaving.{at_square, gone, marked_homes, off_square, staying}
use Rattle.sig_index.proofs.TouchLemmas.{gone-from, gone-to, stay-from, stay-to}
use Rattle.sig_index.proofs.leaving.Still.leave.Goals as goal

-- What two squares take out one behind the other.
both : (high low : ℕ) (homes first left middle last all : List ℕ) → first ≡ off_square high homes → middle ≡ left ++ at_square high homes → last ≡ middle ++ at_square low first
    → at_square high homes ++ at_square low (off_square high homes) ≡ all → last ≡ left ++ all
both high low homes first left middle last all still one two whole =
    two
    ∙ (ap (λ (l : List ℕ). middle ++ at_square low l) still
    ∙ (ap (λ (l : List ℕ). l ++ at_square low (off_square high homes)) one
    ∙ (append_assoc left (at_square high homes) (at_square low (off_square high homes)) ∙ ap (λ (l : List ℕ). left ++ l) whole)))

pub returns-then-index-clause-still : goal.returns-then-index-clause-still
returns-then-index-clause-still c =
    let m = c.args.m.now in
    subst (λ (h : List ℕ). marked_homes c.take_out-then-index.new.marks ≡ staying m h) c.self.view_is
    (c.take_out-then-index.ensures.still ∙ (ap (off_square m.from) c.take_out.ensures.still ∙ stay-to m (marked_homes c.self.inside.marks)))

pub returns-then-index-clause-left : goal.returns-then-index-clause-left
returns-then-index-clause-left c =
    let m = c.args.m.now in
    let marks = c.self.inside.marks in
    subst (λ (h : List ℕ). c.take_out-then-index.new.left.items ≡ c.args.left.now.items ++ gone m h) c.self.view_is
    (both m.to m.from (marked_homes marks) (marked_homes c.take_out.new.marks) c.args.left.now.items c.take_out.new.left.items c.take_out-then-index.new.left.items
    (gone m (marked_homes marks)) c.take_out.ensures.still c.take_out.ensures.left c.take_out-then-index.ensures.left
    (gone-to m marks (omega (arith, c.if-index.true, c.index.ensures.number, c.index-2.ensures.number))))

pub returns-else-index-clause-still : goal.returns-else-index-clause-still
returns-else-index-clause-still c =
    let m = c.args.m.now in
    subst (λ (h : List ℕ). marked_homes c.take_out-else-index-2.new.marks ≡ staying m h) c.self.view_is
    (c.take_out-else-index-2.ensures.still ∙ (ap (off_square m.to) c.take_out-else-index.ensures.still ∙ stay-from m (marked_homes c.self.inside.marks)))

pub returns-else-index-clause-left : goal.returns-else-index-clause-left
returns-else-index-clause-left c =
    let m = c.args.m.now in
    let marks = c.self.inside.marks in
    subst (λ (h : List ℕ). c.take_out-else-index-2.new.left.items ≡ c.args.left.now.items ++ gone m h) c.self.view_is
    (both m.from m.to (marked_homes marks) (marked_homes c.take_out-else-index.new.marks) c.args.left.now.items c.take_out-else-index.new.left.items
    c.take_out-else-index-2.new.left.items (gone m (marked_homes marks)) c.take_out-else-index.ensures.still c.take_out-else-index.ensures.left
    c.take_out-else-index-2.ensures.left
    (gone-from m marks (omega (arith, c.if-index.false, c.index.ensures.number, c.index-2.ensures.number))))
