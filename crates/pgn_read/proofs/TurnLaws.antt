-- Moves behind an earlier position of a line.
use Rattle.std.proofs.Common.{◌≡◌, ◌+◌, ◌<◌, ℕ, List, [], ◌∷◌, ◌++◌, length, drop, get_or, refl, sym, ap, ◌∙◌, subst}
use Rattle.std.specs.Prelude.{fold}
use Rattle.std.proofs.lemmas.List.{drop_more}
use Rattle.std.proofs.lemmas.List.Sums.{fold-append}
use Rattle.cell_core.specs.declared.step.Move.{Move}
use Rattle.chess_laws.specs.declared.setup.Setup.{Setup}
use Rattle.chess_laws.specs.Step.{Legal, Step, stepped}
use Rattle.chess_laws.proofs.Stepping.{Step-stepped}
use Rattle.pgn_read.specs.Turns.{AreLegal}

more_legal : (p : Setup) (moves : List Move) (m : Move) → AreLegal p moves → Legal (fold stepped p moves) m → AreLegal p (moves ++ m ∷ [])
more_legal p [] m are is = (is, tt)
more_legal p (x ∷ moves) m are is = (are.0, more_legal (stepped p x) moves m are.1 is)

-- One more move, which is legal where the others lead.
pub pushed_legal : (p now : Setup) (moves : List Move) (m : Move) → AreLegal p moves → now ≡ fold stepped p moves → Legal now m → AreLegal p (moves ++ m ∷ [])
pushed_legal p now moves m are at is = more_legal p moves m are (subst (λ (q : Setup). Legal q m) at is)

pub pushed_now : (p now : Setup) (moves : List Move) (m : Move) → now ≡ fold stepped p moves → stepped now m ≡ fold stepped p (moves ++ m ∷ [])
pushed_now p now moves m at = ap (λ (q : Setup). stepped q m) at ∙ sym (fold-append stepped p moves (m ∷ []))

-- What is left to be played leads where all moves lead.
pub record Plays (p : Setup) (moves left : List Move) (now : Setup) : Type 0 where
  pub legal : AreLegal now left
  pub leads : fold stepped now left ≡ fold stepped p moves

plays_on : (p : Setup) (moves : List Move) (m : Move) (left : List Move) (now later : Setup) → Step now m later → Plays p moves (m ∷ left) now → Plays p moves left later
plays_on p moves m left now later step is =
    let e : later ≡ stepped now m = Step-stepped now m later step in
    record {
      legal = subst (λ (q : Setup). AreLegal q left) (sym e) is.legal.1;
      leads = ap (λ (q : Setup). fold stepped q left) e ∙ is.leads;
    }

pub plays_next : (p : Setup) (moves : List Move) (i : ℕ) (m : Move) (now later : Setup) → i < length moves → m ≡ get_or moves i m
    → Plays p moves (drop i moves) now → Step now m later → Plays p moves (drop (i + 1) moves) later
plays_next p moves i m now later under item is step =
    let rest : drop i moves ≡ m ∷ drop (i + 1) moves = drop_more moves i m under ∙ ap (λ (x : Move). x ∷ drop (i + 1) moves) (sym item) in
    plays_on p moves m (drop (i + 1) moves) now later step (subst (λ (left : List Move). Plays p moves left now) rest is)

-- ---- the last of such moves alone

legal_last : (p : Setup) (moves : List Move) (m : Move) → AreLegal p (moves ++ m ∷ []) → Legal (fold stepped p moves) m
legal_last p [] m are = are.0
legal_last p (x ∷ moves) m are = legal_last (stepped p x) moves m are.1

pub legal_before : (p : Setup) (moves all : List Move) (m : Move) → all ≡ moves ++ m ∷ [] → AreLegal p all → AreLegal p moves
legal_before p [] all m is are = tt
legal_before p (x ∷ moves) all m is are =
    let are' = subst (AreLegal p) is are in
    (are'.0, legal_before (stepped p x) moves (moves ++ m ∷ []) m refl are'.1)

pub near_legal : (p q : Setup) (moves all : List Move) (m : Move) → all ≡ moves ++ m ∷ [] → q ≡ fold stepped p moves → AreLegal p all → AreLegal q (m ∷ [])
near_legal p q moves all m is at are = (subst (λ (r : Setup). Legal r m) (sym at) (legal_last p moves m (subst (AreLegal p) is are)), tt)
