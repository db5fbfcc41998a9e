use Rattle.std.proofs.Common.{◌≡◌, ◌++◌, ◌∷◌, [], ℕ, List, Bool, true, length, sym, ap, ◌∙◌, subst, arith}
use Rattle.std.proofs.lemmas.List.{append-nil}
use Rattle.sig_index.specs.Leaving.{are_own, at_square, marked_homes, off_square, value_of}
use Rattle.sig_index.proofs.TouchLemmas.{at-marked, at-unmarked, off-at-length, off-marked, off-unmarked, own-behind, own-marked}
use Rattle.sig_index.proofs.leaving.take_out.Goals as goal

pub value_of-requires : goal.value_of-requires
value_of-requires c = record { own = own-marked c.args.marks.now c.args.square c.requires.own (sym c.is_marked.ensures ∙ c.if-is_marked.true) }

pub push-requires : goal.push-requires
push-requires c =
    let s = c.args.square in
    let homes : List ℕ = marked_homes c.args.marks.now in
    let one : at_square s homes ≡ value_of s ∷ [] = at-marked c.args.marks.now s c.requires.own (sym c.is_marked.ensures ∙ c.if-is_marked.true) in
    (omega arith, omega (arith, c.requires.room, off-at-length s homes, ap (λ (l : List ℕ). length l) one))

pub returns-then-is_marked-clause-own : goal.returns-then-is_marked-clause-own
returns-then-is_marked-clause-own c =
    subst (λ (marks : List Bool). are_own 0 marks ≡ true) (sym c.unmark.ensures) (own-behind c.args.marks.now c.args.square c.requires.own)

pub returns-then-is_marked-clause-still : goal.returns-then-is_marked-clause-still
returns-then-is_marked-clause-still c = ap marked_homes c.unmark.ensures ∙ off-marked c.args.marks.now c.args.square

pub returns-then-is_marked-clause-left : goal.returns-then-is_marked-clause-left
returns-then-is_marked-clause-left c =
    let s = c.args.square in
    let one : at_square s (marked_homes c.args.marks.now) ≡ value_of s ∷ [] =
    at-marked c.args.marks.now s c.requires.own (sym c.is_marked.ensures ∙ c.if-is_marked.true) in
    c.push.ensures.items ∙ (ap (λ (v : ℕ). c.args.left.now.items ++ v ∷ []) c.value_of.ensures ∙ ap (λ (l : List ℕ). c.args.left.now.items ++ l) (sym one))

pub returns-then-is_marked-clause-room : goal.returns-then-is_marked-clause-room
returns-then-is_marked-clause-room c =
    let s = c.args.square in
    let homes : List ℕ = marked_homes c.args.marks.now in
    let one : at_square s homes ≡ value_of s ∷ [] = at-marked c.args.marks.now s c.requires.own (sym c.is_marked.ensures ∙ c.if-is_marked.true) in
    let still : marked_homes c.unmark.new.marks ≡ off_square s homes = ap marked_homes c.unmark.ensures ∙ off-marked c.args.marks.now s in
    omega (arith, c.requires.room, off-at-length s homes, ap (λ (l : List ℕ). length l) one, ap (λ (l : List ℕ). length l) still, c.push.ensures.len)

pub returns-else-is_marked-clause-still : goal.returns-else-is_marked-clause-still
returns-else-is_marked-clause-still c = sym (off-unmarked c.args.marks.now c.args.square (sym c.is_marked.ensures ∙ c.if-is_marked.false))

pub returns-else-is_marked-clause-left : goal.returns-else-is_marked-clause-left
returns-else-is_marked-clause-left c =
    let left : List ℕ = c.args.left.now.items in
    sym (ap (λ (l : List ℕ). left ++ l) (at-unmarked c.args.marks.now c.args.square (sym c.is_marked.ensures ∙ c.if-is_marked.false)) ∙ append-nil left)
