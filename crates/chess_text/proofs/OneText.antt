-- A move has one text.
use Rattle.std.proofs.Common.{◌≡◌, ℕ, inl, inr, List, ◌∷◌, ◌++◌, Option, Some, None, sym, ◌∙◌, ap}
use Rattle.cell_core.specs.declared.man.Kind.{Kind}
use Rattle.cell_core.specs.declared.man.Kind.TheVariants.{King, Queen, Rook, Bishop, Knight, Pawn}
use Rattle.cell_core.specs.declared.man.Man.{Man}
use Rattle.cell_core.specs.declared.step.Move.{Move}
use Rattle.cell_core.specs.Board.{man_at}
use Rattle.chess_laws.specs.declared.setup.Setup.{Setup}
use Rattle.chess_laws.specs.declared.effect.Effect.{Effect}
use Rattle.chess_laws.specs.declared.effect.Effect.TheVariants.{Plain, Double, Passing, Castle, Null}
use Rattle.chess_laws.specs.Step.{effect_of}
use Rattle.chess_text.specs.Letters.{capital_of}
use Rattle.chess_text.specs.Squares.{square_text}
use Rattle.chess_text.specs.San.{HasRival, HasRivalOnFile, OriginText, capture_text, PieceText, KindText, GoingText, SignText, IsSigned, SanBy, San}

from-file : (p : Setup) (k : Kind) (m : Move) → HasRivalOnFile p k m → HasRival p k m
from-file p k m (s, rival, same) = (s, rival)

origin-one : (p : Setup) (k : Kind) (m : Move) (a b : List ℕ) → OriginText p k m a → OriginText p k m b → a ≡ b
origin-one p k m a b (inl (none, e)) (inl (none', f)) = e ∙ sym f
origin-one p k m a b (inl (none, e)) (inr (inl (some, (file, f)))) = absurd (none some)
origin-one p k m a b (inl (none, e)) (inr (inr (inl (file, (rank, f))))) = absurd (none (from-file p k m file))
origin-one p k m a b (inl (none, e)) (inr (inr (inr (file, (rank, f))))) = absurd (none (from-file p k m file))
origin-one p k m a b (inr (inl (some, (file, e)))) (inl (none', f)) = absurd (none' some)
origin-one p k m a b (inr (inl (some, (file, e)))) (inr (inl (some', (file', f)))) = e ∙ sym f
origin-one p k m a b (inr (inl (some, (file, e)))) (inr (inr (inl (file', (rank', f))))) = absurd (file file')
origin-one p k m a b (inr (inl (some, (file, e)))) (inr (inr (inr (file', (rank', f))))) = absurd (file file')
origin-one p k m a b (inr (inr (inl (file, (rank, e))))) (inl (none', f)) = absurd (none' (from-file p k m file))
origin-one p k m a b (inr (inr (inl (file, (rank, e))))) (inr (inl (some', (file', f)))) = absurd (file' file)
origin-one p k m a b (inr (inr (inl (file, (rank, e))))) (inr (inr (inl (file', (rank', f))))) = e ∙ sym f
origin-one p k m a b (inr (inr (inl (file, (rank, e))))) (inr (inr (inr (file', (rank', f))))) = absurd (rank rank')
origin-one p k m a b (inr (inr (inr (file, (rank, e))))) (inl (none', f)) = absurd (none' (from-file p k m file))
origin-one p k m a b (inr (inr (inr (file, (rank, e))))) (inr (inl (some', (file', f)))) = absurd (file' file)
origin-one p k m a b (inr (inr (inr (file, (rank, e))))) (inr (inr (inl (file', (rank', f))))) = absurd (rank' rank)
origin-one p k m a b (inr (inr (inr (file, (rank, e))))) (inr (inr (inr (file', (rank', f))))) = e ∙ sym f

sign-one : (q : Setup) (a b : List ℕ) → SignText q a → SignText q b → a ≡ b
sign-one q a b (inl (quiet, e)) (inl (quiet', f)) = e ∙ sym f
sign-one q a b (inl (quiet, e)) (inr (inl (check', f))) = absurd (quiet check')
sign-one q a b (inl (quiet, e)) (inr (inr (check', f))) = absurd (quiet check')
sign-one q a b (inr (inl (check, e))) (inl (quiet', f)) = absurd (quiet' check)
sign-one q a b (inr (inl (check, (some, e)))) (inr (inl (check', (some', f)))) = e ∙ sym f
sign-one q a b (inr (inl (check, (some, e)))) (inr (inr (check', (none', f)))) = absurd (none' some)
sign-one q a b (inr (inr (check, e))) (inl (quiet', f)) = absurd (quiet' check)
sign-one q a b (inr (inr (check, (none, e)))) (inr (inl (check', (some', f)))) = absurd (none some')
sign-one q a b (inr (inr (check, (none, e)))) (inr (inr (check', (none', f)))) = e ∙ sym f

piece-one : (p : Setup) (k : Kind) (m : Move) (a b : List ℕ) → PieceText p k m a → PieceText p k m b → a ≡ b
piece-one p k m a b h i =
    let same : h.origin ≡ i.origin = origin-one p k m h.origin i.origin h.is_origin i.is_origin in
    h.spelled ∙ (ap (λ (origin : List ℕ). capital_of k ∷ (origin ++ (capture_text p m ++ square_text m.to))) same ∙ sym i.spelled)

kind-one : (p : Setup) (k : Kind) (m : Move) (a b : List ℕ) → KindText p k m a → KindText p k m b → a ≡ b
kind-one p King m a b h i = piece-one p King m a b h i
kind-one p Queen m a b h i = piece-one p Queen m a b h i
kind-one p Rook m a b h i = piece-one p Rook m a b h i
kind-one p Bishop m a b h i = piece-one p Bishop m a b h i
kind-one p Knight m a b h i = piece-one p Knight m a b h i
kind-one p Pawn m a b h i = h ∙ sym i

going-one : (man : Option Man) (p : Setup) (m : Move) (a b : List ℕ) → GoingText man p m a → GoingText man p m b → a ≡ b
going-one None p m a b h i = h ∙ sym i
going-one (Some man) p m a b h i = kind-one p man.kind m a b h i

signed-one : (q : Setup) (Front : List ℕ → Type 0) → ((a b : List ℕ) → Front a → Front b → a ≡ b) → (a b : List ℕ) → IsSigned q Front a
    → IsSigned q Front b → a ≡ b
signed-one q Front one a b h i =
    let front : h.front ≡ i.front = one h.front i.front h.is_front i.is_front in
    let sign : h.sign ≡ i.sign = sign-one q h.sign i.sign h.is_sign i.is_sign in
    h.spelled ∙ (ap (λ (x : List ℕ). x ++ h.sign) front ∙ (ap (λ (y : List ℕ). i.front ++ y) sign ∙ sym i.spelled))

by-one : (e : Effect) (p : Setup) (m : Move) (a b : List ℕ) → SanBy e p m a → SanBy e p m b → a ≡ b
by-one Plain p m a b h i = signed-one _ _ (going-one (man_at p.board m.from) p m) a b h i
by-one Double p m a b h i = signed-one _ _ (going-one (man_at p.board m.from) p m) a b h i
by-one Passing p m a b h i = signed-one _ _ (going-one (man_at p.board m.from) p m) a b h i
by-one (Castle wing) p m a b h i = signed-one _ _ (λ a b h i. h ∙ sym i) a b h i
by-one Null p m a b h i = h ∙ sym i

pub one-text : (p : Setup) (m : Move) (a b : List ℕ) → San p m a → San p m b → a ≡ b
one-text p m a b h i = by-one (effect_of p m) p m a b h i
