-- The search for a move of a shape finds the one that there is.
use Rattle.std.proofs.Common.{◌≡◌, ◌↔◌, ℕ, ◌+◌, ◌<◌, ◌≤◌, inl, inr, arith, Bool, false, IsTrue, List, Option, Some, None, Result, Ok, Err, IfOk, IfErr, ok_or, refl, sym, ◌∙◌, ap, subst}
use Rattle.std.proofs.lemmas.Bool.{cases_lt, eq-eqb, false≢true}
use Rattle.cell_core.specs.declared.man.Kind.TheVariants.{King}
use Rattle.cell_core.specs.declared.step.Move.{Move}
use Rattle.cell_core.specs.Board.{man_at}
use Rattle.cell_core.specs.Man.{man}
use Rattle.chess_laws.specs.declared.setup.Setup.{Setup}
use Rattle.chess_laws.specs.declared.setup.Wing.{Wing}
use Rattle.chess_laws.specs.declared.effect.Effect.TheVariants as effect
use Rattle.chess_laws.specs.Position.{Sound}
use Rattle.chess_laws.specs.Castling.{king_target}
use Rattle.chess_laws.specs.Step.{effect_of, Legal, CastleCase, NullCase}
use Rattle.chess_laws.proofs.Boards.{on_board}
use Rattle.chess_laws.proofs.Keeping.{castle-squares}
use Rattle.chess_laws.proofs.MovedKings.{legal-allowed}
use Rattle.chess_text.specs.declared.shape.Going.{Going}
use Rattle.chess_text.specs.declared.shape.Shape.{Shape}
use Rattle.chess_text.specs.declared.shape.Shape.TheVariants.{Castle, Null, Goes}
use Rattle.chess_text.specs.declared.fault.SanFault.{SanFault}
use Rattle.chess_text.specs.declared.fault.SanFault.TheVariants as fault
use Rattle.chess_text.specs.SanShape.{HasShape}
use Rattle.chess_text.specs.SanReads.{Fits, SanReads, SanFaultOf}
use Rattle.chess_text.specs.SanReading.{shape_named}
use Rattle.chess_text.specs.SanSearch.{AreTwo, AnswersShape, FitsFrom, FoundBelow, FoundAll}
use Rattle.chess_text.proofs.ShapeLaws.{shape-only, shape-found, one-shape}

-- ---- square by square

-- two moves of the shape from one square are the same
pub same-move : (a b : Move) → a.from ≡ b.from → a.to ≡ b.to → a.promo ≡ b.promo → a ≡ b
same-move a b from to promo = rw (from, to, promo) refl

pub same-from : (p : Setup) (g : Going) (a b : Move) → Fits p (Goes g) a → Fits p (Goes g) b → a.from ≡ b.from → a ≡ b
same-from p g a b h k from =
    same-move a b from (h.of_shape.target ∙ sym k.of_shape.target) (h.of_shape.promo ∙ sym k.of_shape.promo)

pub found-none : (p : Setup) (g : Going) (n : ℕ) (found : Option Move) → ((m : Move) → Fits p (Goes g) m → m.from ≡ n → ⊥)
    → FoundBelow p g n found → FoundBelow p g (n + 1) found
found-none p g n None none h = λ m fits below.
    elim (cases_lt m.from n) [
      | inl less ↦ h m fits less
      | inr more ↦ none m fits (omega (arith, below, more))
    ]
found-none p g n (Some m) none h = record {
  fits = h.fits;
  below = omega (arith, h.below);
  only = λ other fits below.
      elim (cases_lt other.from n) [
        | inl less ↦ h.only other fits less
        | inr more ↦ absurd (none other fits (omega (arith, below, more)))
      ];
}

pub found-some : (p : Setup) (g : Going) (n : ℕ) (m : Move) → FitsFrom p g n m → FoundBelow p g n None
    → FoundBelow p g (n + 1) (Some m)
found-some p g n m here h = record {
  fits = here.fits;
  below = omega (arith, here.from);
  only = λ other fits below.
      elim (cases_lt other.from n) [
        | inl less ↦ absurd (h other fits less)
        | inr more ↦ same-from p g other m fits here.fits (omega (arith, below, more, here.from))
      ];
}

pub found-two : (p : Setup) (g : Going) (n : ℕ) (m first : Move) → FitsFrom p g n m → FoundBelow p g n (Some first)
    → AreTwo p (Goes g)
found-two p g n m first here h = record {
  first = first;
  second = m;
  fits_first = h.fits;
  fits_second = here.fits;
  different = λ same.
      let e : first.from ≡ m.from = ap (λ (a : Move). a.from) same in
      let below : first.from < n = h.below in
      let from : m.from ≡ n = here.from in
      omega (arith, e, below, from);
}

pub starts-below : (p : Setup) (g : Going) (m : Move) → Sound p → Fits p (Goes g) m → m.from < 64
starts-below p g m sound h = on_board p.board m.from (man p.side g.kind) sound.squares h.of_shape.stands

pub found-all : (p : Setup) (g : Going) (n : ℕ) (found : Option Move) → Sound p → 64 ≤ n → FoundBelow p g n found
    → AnswersShape p (Goes g) (ok_or found fault.NoMove)
found-all p g n None sound more h = λ m fits.
    let less : m.from < 64 = starts-below p g m sound fits in h m fits (omega (arith, more, less))
found-all p g n (Some m) sound more h = record {
  fits = h.fits;
  only = λ other fits. let less : other.from < 64 = starts-below p g other sound fits in h.only other fits (omega (arith, more, less));
}

pub found_every : (p : Setup) (g : Going) (found : Option Move) → FoundAll p g found → AnswersShape p (Goes g) (ok_or found fault.NoMove)
found_every p g None h = h.all
found_every p g (Some m) h = record { fits = h.fits; only = h.all }

-- the one move of the shape from a square
pub only-from : (p : Setup) (g : Going) (s : ℕ) (m : Move) → Fits p (Goes g) m → m.from ≡ s
    → m ≡ record { from = s; to = g.target; promo = g.promo }
only-from p g s m h from = same-move m _ from h.of_shape.target h.of_shape.promo

pub none-from : (p : Setup) (g : Going) (s : ℕ) (b : Bool) → IsTrue b ↔ Legal p (record { from = s; to = g.target; promo = g.promo })
    → b ≡ false → (m : Move) → Fits p (Goes g) m → m.from ≡ s → ⊥
none-from p g s b h never m fits from =
    let l : Legal p (record { from = s; to = g.target; promo = g.promo }) = subst (Legal p) (only-from p g s m fits from) fits.legal in
    false≢true (sym never ∙ h.1 l)

-- ---- castling and the null move

pub castle-one : (p : Setup) (w : Wing) (king : ℕ) (m : Move)
    → ((s : ℕ) → man_at p.board s ≡ Some (man p.side King) → s ≡ king) → Fits p (Castle w) m
    → m ≡ record { from = king; to = king_target p.side w; promo = None }
castle-one p w king m only h =
    let case : CastleCase p m w = rw h.of_shape at (legal-allowed p m h.legal) in
    let squares = castle-squares p m w case.stands h.of_shape in
    same-move m _ (only m.from case.stands) squares.to case.promo

pub null-one : (p : Setup) (king : ℕ) (m : Move)
    → ((s : ℕ) → man_at p.board s ≡ Some (man p.side King) → s ≡ king) → Fits p Null m
    → m ≡ record { from = king; to = king; promo = None }
null-one p king m only h =
    let case : NullCase p m = rw h.of_shape at (legal-allowed p m h.legal) in
    let from : m.from ≡ king = only m.from case.stands in
    same-move m _ from (case.stays ∙ from) case.promo

-- the null move has its effect
pub null-effect : (p : Setup) (king : ℕ) → man_at p.board king ≡ Some (man p.side King)
    → effect_of p (record { from = king; to = king; promo = None }) ≡ effect.Null
null-effect p king h = rw (h, eq-eqb king king refl) refl

-- ---- the answer to a text

pub answers-text : (p : Setup) (text : List ℕ) (shape : Shape) (answer : Result Move SanFault) → shape_named text ≡ Some shape
    → AnswersShape p shape answer
    → IfOk answer (SanReads p text) × IfErr answer (SanFaultOf p text)
answers-text p text shape (Ok m) e h =
    (record { shape = shape; spelled = shape-found text shape e; fits = h.fits; only = h.only }, tt)
answers-text p text shape (Err fault.Shape) e h = absurd h
answers-text p text shape (Err fault.NoMove) e h =
    (tt, record { shape = shape; spelled = shape-found text shape e; none = h })
answers-text p text shape (Err fault.Two) e h = (
  tt,
  record {
    shape = shape;
    spelled = shape-found text shape e;
    first = h.first;
    second = h.second;
    fits_first = h.fits_first;
    fits_second = h.fits_second;
    different = h.different;
  },
)

no-shape : (text : List ℕ) (shape : Shape) → shape_named text ≡ None → HasShape text shape → ⊥
no-shape text shape none h =
    let e : ◌≡◌ {A = Option Shape} None (Some shape) = sym none ∙ shape-only text shape h in
    absurd (cc)

pub shapeless : (p : Setup) (text : List ℕ) → shape_named text ≡ None → SanFaultOf p text fault.Shape
shapeless p text none = λ shape h. no-shape text shape none h

-- a text is one move, or has one fault
pub one-move : (p : Setup) (text : List ℕ) (a b : Move) → SanReads p text a → SanReads p text b → a ≡ b
one-move p text a b h k =
    let e : h.shape ≡ k.shape = one-shape text h.shape k.shape h.spelled k.spelled in
    k.only a (rw e at h.fits)

pub no-move : (p : Setup) (text : List ℕ) (m : Move) (f : SanFault) → SanReads p text m → SanFaultOf p text f → ⊥
no-move p text m fault.Shape h k = k h.shape h.spelled
no-move p text m fault.NoMove h k =
    let e : h.shape ≡ k.shape = one-shape text h.shape k.shape h.spelled k.spelled in
    k.none m (rw e at h.fits)
no-move p text m fault.Two h k =
    let e : k.shape ≡ h.shape = one-shape text k.shape h.shape k.spelled h.spelled in
    k.different (h.only k.first (rw e at k.fits_first) ∙ sym (h.only k.second (rw e at k.fits_second)))

pub one-fault : (p : Setup) (text : List ℕ) (a b : SanFault) → SanFaultOf p text a → SanFaultOf p text b → a ≡ b
one-fault p text fault.Shape fault.Shape h k = refl
one-fault p text fault.Shape fault.NoMove h k = absurd (h k.shape k.spelled)
one-fault p text fault.Shape fault.Two h k = absurd (h k.shape k.spelled)
one-fault p text fault.NoMove fault.Shape h k = absurd (k h.shape h.spelled)
one-fault p text fault.NoMove fault.NoMove h k = refl
one-fault p text fault.NoMove fault.Two h k =
    let e : k.shape ≡ h.shape = one-shape text k.shape h.shape k.spelled h.spelled in
    absurd (h.none k.first (rw e at k.fits_first))
one-fault p text fault.Two fault.Shape h k = absurd (k h.shape h.spelled)
one-fault p text fault.Two fault.NoMove h k =
    let e : h.shape ≡ k.shape = one-shape text h.shape k.shape h.spelled k.spelled in
    absurd (k.none h.first (rw e at h.fits_first))
one-fault p text fault.Two fault.Two h k = refl

-- the whole contract from an answer that is right
pub answer-only : (p : Setup) (text : List ℕ) (answer : Result Move SanFault) → IfOk answer (SanReads p text) → IfErr answer (SanFaultOf p text)
    → (m : Move) → SanReads p text m → answer ≡ Ok m
answer-only p text (Ok a) h k m reads = ap Ok (one-move p text a m h reads)
answer-only p text (Err f) h k m reads = absurd (no-move p text m f reads k)

pub answer-first : (p : Setup) (text : List ℕ) (answer : Result Move SanFault) → IfOk answer (SanReads p text) → IfErr answer (SanFaultOf p text)
    → (f : SanFault) → SanFaultOf p text f → answer ≡ Err f
answer-first p text (Ok a) h k f broken = absurd (no-move p text a f h broken)
answer-first p text (Err g) h k f broken = ap Err (one-fault p text g f k broken)
