-- Each square from which a man comes to a target is among those that are tried.
use Rattle.std.proofs.Common.{◌≡◌, ◌↔◌, IsTrue, ℕ, zero, suc, ◌+◌, ◌<◌, ◌⊎◌, inl, inr, [], ◌∷◌, List, length, Bool, false, eqb, Any, Option, Some, None, IfSome, MatchResult, Result, Ok, Err, refl, sym, ◌∙◌, ap, subst, arith}
use Rattle.std.specs.Int.{bit_at}
use Rattle.std.proofs.lemmas.Bool.{cases_Bool, cases_lt, eq-eqb, eqb-true, false≢true}
use Rattle.std.proofs.lemmas.Nat.Bits.{bit_at-zero}
use Rattle.cell_core.specs.declared.man.Colour.{Colour}
use Rattle.cell_core.specs.declared.man.Colour.TheVariants.{White, Black}
use Rattle.cell_core.specs.declared.man.Kind.{Kind}
use Rattle.cell_core.specs.declared.man.Kind.TheVariants.{Pawn}
use Rattle.cell_core.specs.declared.man.Man.{Man}
use Rattle.cell_core.specs.declared.step.Move.{Move}
use Rattle.cell_core.specs.Board.{Men, man_at}
use Rattle.cell_core.specs.Man.{is_man, man}
use Rattle.cell_core.specs.Sets.{set_of}
use Rattle.cell_core.proofs.Squares.{bit-set_of}
use Rattle.chess_laws.specs.declared.setup.Setup.{Setup}
use Rattle.chess_laws.specs.declared.effect.Effect.{Effect}
use Rattle.chess_laws.specs.declared.effect.Effect.TheVariants as effect
use Rattle.chess_laws.specs.Position.{Sound}
use Rattle.chess_laws.specs.Geometry.{by, forward, pawn_captures, Leaps, Walk}
use Rattle.chess_laws.specs.Step.{effect_of, Case, GoesPlainly}
use Rattle.chess_laws.proofs.Boards.{man-kind}
use Rattle.chess_laws.proofs.Kings.{is_man-true}
use Rattle.chess_laws.proofs.Shifts.{shift-Some}
use Rattle.chess_laws.proofs.MovedKings.{legal-allowed}
use Rattle.chess_text.specs.declared.shape.Going.{Going}
use Rattle.chess_text.specs.declared.shape.Shape.TheVariants.{Goes}
use Rattle.chess_text.specs.declared.fault.SanFault.{SanFault}
use Rattle.chess_text.specs.Ones.{Drops}
use Rattle.chess_text.specs.SanReads.{Fits, has_own_form}
use Rattle.chess_text.specs.SanSearch.{NotOne, StandsSo, Known, FoundAll, FoundBut, FoundBy, FoundWith, step_on}
use Rattle.chess_text.proofs.SearchLaws.{starts-below}

-- ---- square by square

-- The first n of the squares, and one more.
each-next : (p : Setup) (g : Going) (place : ℕ → ℕ) (n : ℕ) (found after : Option Move) → ((k : ℕ) → k < n → Known p g found (place k))
    → FoundWith p g (place n) found after → (k : ℕ) → k < n + 1 → Known p g after (place k)
each-next p g place n found after h next k less =
    elim (cases_lt k n) [
      | inl before ↦ next.grown.kept (place k) (h k before)
      | inr last ↦ let e : k ≡ n = omega (arith, less, last) in subst (λ (k : ℕ). Known p g after (place k)) (sym e) next.known
    ]

pub by_start : (p : Setup) (g : Going) (steps : List ℕ) → FoundBy p g steps 0 None
by_start p g steps = record { fits = tt; known = λ k less. absurd (omega (arith, less)) }

pub by_next : (p : Setup) (g : Going) (steps : List ℕ) (n : ℕ) (found after : Option Move) → FoundBy p g steps n found
    → FoundWith p g (step_on steps g.target n) found after → FoundBy p g steps (n + 1) after
by_next p g steps n found after h next =
    record { fits = next.grown.fits; known = each-next p g (step_on steps g.target) n found after h.known next }

-- what holds of each that may be found
lift : (r : Result (Option Move) SanFault) (P Q : Option Move → Type 0) (N : SanFault → Type 0) → ((x : Option Move) → P x → Q x) → MatchResult r P N → MatchResult r Q N
lift (Ok x) P Q N each h = each x h
lift (Err f) P Q N each h = h

-- where no such man stands, nothing more is found
pub not_there : (p q : Setup) (g : Going) (s : ℕ) (found : Option Move) (b : Bool) → q ≡ p → IsTrue b ↔ StandsSo q g s → b ≡ false
    → IfSome found (Fits p (Goes g)) → FoundWith p g s found found
not_there p q g s found b same is missed fits = record {
  grown = record { fits = fits; kept = λ t known. known };
  known = λ m here from.
      let there : StandsSo p g m.from = record { stands = here.of_shape.stands; file = here.of_shape.file; rank = here.of_shape.rank } in
      let so : StandsSo q g s = subst (λ (x : Setup). StandsSo x g s) (sym same) (subst (StandsSo p g) from there) in
      absurd (false≢true (sym missed ∙ is.1 so));
}

-- ---- how a man goes that has no form of its own

pub same-kind : (c : Colour) (j k : Kind) (x : Option Man) → x ≡ Some (man c j) → x ≡ Some (man c k) → j ≡ k
same-kind c j k x h e = man-kind c c j k (sym h ∙ e)

-- A pawn goes one square forward, two, or diagonally.
PawnWay : Setup → ℕ → ℕ → Type 0
PawnWay p a b = Leaps a b (forward p.side) ⊎ (Walk p.board (forward p.side) 1 a b ⊎ Any (Leaps a b) (pawn_captures p.side))

plainly : (p : Setup) (m : Move) → GoesPlainly p Pawn m → PawnWay p m.from m.to
unfolding PawnWay
plainly p m (inl h) = inl h.0
plainly p m (inr h) = inr (inr h.0)

by-case : (p : Setup) (m : Move) (e : Effect) → has_own_form e ≡ false → man_at p.board m.from ≡ Some (man p.side Pawn) → Case p m e → PawnWay p m.from m.to
unfolding PawnWay
by-case p m effect.Plain own stands case =
    plainly p m (subst (λ (k : Kind). GoesPlainly p k m) (same-kind p.side case.kind Pawn _ case.stands stands) case.goes)
by-case p m effect.Double own stands case = inr (inl case.walks)
by-case p m effect.Passing own stands case = inr (inr case.goes)
by-case p m (effect.Castle wing) own stands case = absurd (false≢true (sym own))
by-case p m effect.Null own stands case = absurd (false≢true (sym own))

-- So a legal move of a pawn goes.
came : (p : Setup) (g : Going) (m : Move) → g.kind ≡ Pawn → Fits p (Goes g) m → PawnWay p m.from m.to
came p g m kind h =
    by-case p m (effect_of p m) h.of_shape.no_own_form (rw (← kind) h.of_shape.stands) (legal-allowed p m h.legal)

-- ---- steps

abbrev pub white_list : List ℕ
white_list = 56 ∷ 48 ∷ 55 ∷ 57 ∷ []

abbrev pub black_list : List ℕ
black_list = 8 ∷ 16 ∷ 7 ∷ 9 ∷ []

-- one of the steps of a list leads from the target to the square
pub record StepOf (steps : List ℕ) (a b : ℕ) : Type 0 where
  pub place : ℕ
  pub less : place < length steps
  pub is : a ≡ step_on steps b place

abbrev pub pawn-list : Colour → List ℕ
pawn-list White = white_list
pawn-list Black = black_list

forward-step : (c : Colour) (a b : ℕ) → a < 64 → Leaps a b (forward c) → StepOf (pawn-list c) a b
forward-step White a b board leap =
    let d = shift-Some (forward White) a b leap in
    record { place = 0; less = omega arith; is = omega (arith, board, d.files, d.ranks, d.on_board) }
forward-step Black a b board leap =
    let d = shift-Some (forward Black) a b leap in
    record { place = 0; less = omega arith; is = omega (arith, board, d.files, d.ranks, d.on_board) }

double-step : (men : Men) (c : Colour) (a b : ℕ) → a < 64 → Walk men (forward c) 1 a b → StepOf (pawn-list c) a b
double-step men White a b board walk =
    let d = shift-Some (forward White) a walk.0 walk.1 in
    let e = shift-Some (forward White) walk.0 b walk.3 in
    record { place = 1; less = omega arith; is = omega (arith, board, d.files, d.ranks, d.on_board, e.files, e.ranks, e.on_board) }
double-step men Black a b board walk =
    let d = shift-Some (forward Black) a walk.0 walk.1 in
    let e = shift-Some (forward Black) walk.0 b walk.3 in
    record { place = 1; less = omega arith; is = omega (arith, board, d.files, d.ranks, d.on_board, e.files, e.ranks, e.on_board) }

capture-step : (c : Colour) (a b : ℕ) → a < 64 → Any (Leaps a b) (pawn_captures c) → StepOf (pawn-list c) a b
capture-step White a b board (zero, o, less, is, leap) =
    let d = shift-Some (by 1 0 1 0) a b (subst (Leaps a b) (sym is) leap) in
    record { place = 2; less = omega arith; is = omega (arith, board, d.files, d.ranks, d.on_board) }
capture-step White a b board (suc zero, o, less, is, leap) =
    let d = shift-Some (by 0 1 1 0) a b (subst (Leaps a b) (sym is) leap) in
    record { place = 3; less = omega arith; is = omega (arith, board, d.files, d.ranks, d.on_board) }
capture-step White a b board (suc (suc k), o, less, is, leap) = absurd (omega (arith, less))
capture-step Black a b board (zero, o, less, is, leap) =
    let d = shift-Some (by 1 0 0 1) a b (subst (Leaps a b) (sym is) leap) in
    record { place = 2; less = omega arith; is = omega (arith, board, d.files, d.ranks, d.on_board) }
capture-step Black a b board (suc zero, o, less, is, leap) =
    let d = shift-Some (by 0 1 0 1) a b (subst (Leaps a b) (sym is) leap) in
    record { place = 3; less = omega arith; is = omega (arith, board, d.files, d.ranks, d.on_board) }
capture-step Black a b board (suc (suc k), o, less, is, leap) = absurd (omega (arith, less))

pawn-step : (p : Setup) (a b : ℕ) → a < 64 → PawnWay p a b → StepOf (pawn-list p.side) a b
unfolding PawnWay
pawn-step p a b board (inl leap) = forward-step p.side a b board leap
pawn-step p a b board (inr (inl walk)) = double-step p.board p.side a b board walk
pawn-step p a b board (inr (inr captures)) = capture-step p.side a b board captures

-- what was found by the steps is all
by-step : (p : Setup) (g : Going) (steps : List ℕ) (found : Option Move) → FoundBy p g steps (length steps) found
    → ((m : Move) → Fits p (Goes g) m → StepOf steps m.from m.to) → FoundAll p g found
by-step p g steps found h each = record {
  fits = h.fits;
  all = λ m fits.
      let step = each m fits in
      h.known step.place step.less m fits (step.is ∙ ap (λ (t : ℕ). step_on steps t step.place) fits.of_shape.target);
}

pub pawn-each : (p : Setup) (g : Going) (c : Colour) (m : Move) → Sound p → g.kind ≡ Pawn → p.side ≡ c → Fits p (Goes g) m → StepOf (pawn-list c) m.from m.to
pawn-each p g c m sound kind side fits =
    subst (λ (c : Colour). StepOf (pawn-list c) m.from m.to) side
    (pawn-step p m.from m.to (starts-below p g m sound fits) (came p g m kind fits))

pub white_all : (p q : Setup) (g : Going) (r : Result (Option Move) SanFault) → Sound p → q ≡ p → g.kind ≡ Pawn → q.side ≡ White
    → MatchResult r (FoundBy p g white_list 4) (NotOne p (Goes g)) → MatchResult r (FoundAll p g) (NotOne p (Goes g))
white_all p q g r sound same kind side =
    lift r (FoundBy p g white_list 4) (FoundAll p g) (NotOne p (Goes g)) (λ found h.
    by-step p g white_list found h (λ m fits. pawn-each p g White m sound kind (sym (ap (λ (x : Setup). x.side) same) ∙ side) fits))

pub black_all : (p q : Setup) (g : Going) (r : Result (Option Move) SanFault) → Sound p → q ≡ p → g.kind ≡ Pawn → q.side ≡ Black
    → MatchResult r (FoundBy p g black_list 4) (NotOne p (Goes g)) → MatchResult r (FoundAll p g) (NotOne p (Goes g))
black_all p q g r sound same kind side =
    lift r (FoundBy p g black_list 4) (FoundAll p g) (NotOne p (Goes g)) (λ found h.
    by-step p g black_list found h (λ m fits. pawn-each p g Black m sound kind (sym (ap (λ (x : Setup). x.side) same) ∙ side) fits))

-- ---- man by man

-- at the beginning all men of the kind are left
pub stands-bit : (p : Setup) (g : Going) (m : Move) → Fits p (Goes g) m → bit_at (set_of (is_man p.side g.kind) p.board) m.from ≡ 1
stands-bit p g m h =
    rw (bit-set_of (is_man p.side g.kind) refl p.board m.from, h.of_shape.stands, is_man-true p.side g.kind) refl

pub men_start : (p : Setup) (g : Going) (left : ℕ) → left ≡ set_of (is_man p.side g.kind) p.board → FoundBut p g left None
men_start p g left is = record {
  fits = tt;
  known = λ s none m fits from.
      let set : bit_at left m.from ≡ 1 = rw is (stands-bit p g m fits) in
      let clear : bit_at left m.from ≡ 0 = rw from none in
      absurd (omega (arith, set, clear));
}

pub men_next : (p : Setup) (g : Going) (s left after : ℕ) (found new : Option Move) → FoundBut p g left found → FoundWith p g s found new
    → Drops s left after → FoundBut p g after new
men_next p g s left after found new h next drops = record {
  fits = next.grown.fits;
  known = λ i none. elim (cases_Bool (eqb i s)) [
    | inl is ↦ subst (λ (k : ℕ). Known p g new k) (sym (eqb-true i s is)) next.known
    | inr other ↦ next.grown.kept i (h.known i (drops.but i none (λ is. false≢true (sym other ∙ eq-eqb i s is))))
  ];
}

-- at the end none is left
pub men_all : (p : Setup) (g : Going) (left : ℕ) (found : Option Move) → left ≡ 0 → FoundBut p g left found → FoundAll p g found
men_all p g left found none h =
    record { fits = h.fits; all = λ m fits. h.known m.from (rw none (bit_at-zero m.from)) m fits refl }
