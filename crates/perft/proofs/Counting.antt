-- Counts of lines, one move after the other.
use Rattle.std.proofs.Common.{◌≡◌, ◌<◌, ℕ, suc, ◌+◌, List, [], ◌∷◌, ◌++◌, length, take, get_or, refl, sym, ap, ◌∙◌, subst, arith}
use Rattle.std.proofs.lemmas.List.{take_all, take_more}
use Rattle.cell_core.specs.declared.step.Move.{Move}
use Rattle.chess_laws.specs.declared.setup.Setup.{Setup}
use Rattle.chess_laws.specs.Moves.{ListsMoves}
use Rattle.chess_laws.specs.Step.{Step, stepped}
use Rattle.chess_laws.proofs.Stepping.{Step-stepped}
use Rattle.perft.specs.Count.{AddsUp, IsCount}

-- The lines of so many moves and one more that begin with a move.
abbrev pub Behind : ℕ → Setup → Move → ℕ → Type 0
Behind depth p m own = IsCount depth (stepped p m) own

pub none-counted : (p : Setup) → IsCount 0 p 1
unfolding IsCount
none-counted p = refl

-- As many lines of one move as there are moves.
each-once : (p : Setup) (ms : List Move) → AddsUp (Behind 0 p) ms (length ms)
each-once p [] = refl
each-once p (m ∷ ms) = (1, (length ms, (none-counted (stepped p m), (each-once p ms, omega arith))))

pub one-counted : (p : Setup) (ms : List Move) → ListsMoves p ms → IsCount 1 p (length ms)
unfolding IsCount
one-counted p ms lists = (ms, (lists, each-once p ms))

-- One move more at the end.
pub adds-one : (Counts : Move → ℕ → Type 0) (ms : List Move) (m : Move) (n own : ℕ) → AddsUp Counts ms n → Counts m own → AddsUp Counts (ms ++ m ∷ []) (n + own)
adds-one Counts [] m n own sum counted = (own, (0, (counted, (refl, ap (λ (k : ℕ). k + own) sum ∙ omega arith))))
adds-one Counts (a ∷ ms) m n own sum counted =
    let rest = adds-one Counts ms m sum.1.0 own sum.1.1.1.0 counted in
    (sum.0, (sum.1.0 + own, (sum.1.1.0, (rest, omega (arith, sum.1.1.1.1)))))

pub one-more : (depth : ℕ) (p q : Setup) (ms : List Move) (i : ℕ) (m : Move) (n own : ℕ) → i < length ms → m ≡ get_or ms i m → AddsUp (Behind depth p) (take i ms) n → Step p m q → IsCount depth q own
    → AddsUp (Behind depth p) (take (i + 1) ms) (n + own)
one-more depth p q ms i m n own below at sum step counted =
    subst (λ (front : List Move). AddsUp (Behind depth p) front (n + own)) (sym (take_more ms i m below ∙ ap (λ (x : Move). take i ms ++ x ∷ []) (sym at)))
    (adds-one (Behind depth p) (take i ms) m n own sum (subst (λ (r : Setup). IsCount depth r own) (Step-stepped p m q step) counted))

pub all-counted : (depth less : ℕ) (p : Setup) (ms : List Move) (i n : ℕ) → depth ≡ suc less → i ≡ length ms → ListsMoves p ms → AddsUp (Behind less p) (take i ms) n → IsCount depth p n
unfolding IsCount
all-counted depth less p ms i n is whole lists sum =
    let all = subst (λ (front : List Move). AddsUp (Behind less p) front n) (ap (λ (k : ℕ). take k ms) whole ∙ take_all (length ms) ms (omega arith)) sum in
    let counted : IsCount (suc less) p n = (ms, (lists, all)) in
    subst (λ (d : ℕ). IsCount d p n) (sym is) counted
