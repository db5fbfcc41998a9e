-- Two pawns that go to one square without a capture, or by captures from one file, are one.
use Rattle.std.proofs.Common.{◌≡◌, ℕ, zero, suc, ◌+◌, [], ◌∷◌, ◌⊎◌, inl, inr, Bool, true, false, Any, Option, Some, None, refl, sym, ◌∙◌, ap, subst, arith}
use Rattle.cell_core.specs.declared.man.Colour.{Colour}
use Rattle.cell_core.specs.declared.man.Colour.TheVariants.{White, Black}
use Rattle.cell_core.specs.declared.man.Kind.{Kind}
use Rattle.cell_core.specs.declared.man.Kind.TheVariants.{King, Pawn}
use Rattle.cell_core.specs.declared.man.Man.{Man}
use Rattle.cell_core.specs.declared.step.Move.{Move}
use Rattle.cell_core.specs.Board.{man_at}
use Rattle.cell_core.specs.Man.{man, other}
use Rattle.chess_laws.specs.declared.setup.Setup.{Setup}
use Rattle.chess_laws.specs.declared.effect.Effect.{Effect}
use Rattle.chess_laws.specs.declared.effect.Effect.TheVariants.{Plain, Double, Passing, Castle, Null}
use Rattle.chess_laws.specs.Geometry.{Offset, by, file_of, rank_of, square, forward, pawn_captures, Leaps, Walk}
use Rattle.chess_laws.specs.Step.{effect_of, Legal, Case, GoesPlainly}
use Rattle.chess_laws.proofs.Boards.{man-colour, man-kind}
use Rattle.chess_laws.proofs.Shifts.{shift-Some}
use Rattle.chess_laws.proofs.MovedKings.{legal-allowed}
use Rattle.chess_laws.specs.Step.{is_capture}

-- one rank ahead
Ahead : Colour → ℕ → ℕ → Type 0
Ahead White a b = rank_of b ≡ rank_of a + 1
Ahead Black a b = rank_of a ≡ rank_of b + 1

forward-ahead : (c : Colour) (a b : ℕ) → Leaps a b (forward c) → (file_of b ≡ file_of a) × Ahead c a b
unfolding Ahead
forward-ahead White a b h = let d = shift-Some _ a b h in (omega (arith, d.files), omega (arith, d.ranks))
forward-ahead Black a b h = let d = shift-Some _ a b h in (omega (arith, d.files), omega (arith, d.ranks))

Beside : ℕ → ℕ → Type 0
Beside a b = (file_of b ≡ file_of a + 1) ⊎ (file_of a ≡ file_of b + 1)

one-of-two : (P : Offset → Type 0) (x y : Offset) → Any P (x ∷ y ∷ []) → P x ⊎ P y
one-of-two P x y (zero, z, less, is, holds) = inl (rw (← is) at holds)
one-of-two P x y (suc zero, z, less, is, holds) = inr (rw (← is) at holds)
one-of-two P x y (suc (suc n), z, less, is, holds) = absurd (omega arith)

capture-ahead : (c : Colour) (a b : ℕ) → Any (Leaps a b) (pawn_captures c) → Beside a b × Ahead c a b
unfolding Beside Ahead
capture-ahead White a b h =
    elim (one-of-two (Leaps a b) (by 1 0 1 0) (by 0 1 1 0) h) [
      | inl right ↦ let d = shift-Some (by 1 0 1 0) a b right in (inl (omega (arith, d.files)), omega (arith, d.ranks))
      | inr left ↦ let d = shift-Some (by 0 1 1 0) a b left in (inr (omega (arith, d.files)), omega (arith, d.ranks))
    ]
capture-ahead Black a b h =
    elim (one-of-two (Leaps a b) (by 1 0 0 1) (by 0 1 0 1) h) [
      | inl right ↦ let d = shift-Some (by 1 0 0 1) a b right in (inl (omega (arith, d.files)), omega (arith, d.ranks))
      | inr left ↦ let d = shift-Some (by 0 1 0 1) a b left in (inr (omega (arith, d.files)), omega (arith, d.ranks))
    ]

ahead-one : (c : Colour) (a b t : ℕ) → Ahead c a t → Ahead c b t → rank_of a ≡ rank_of b
unfolding Ahead
ahead-one White a b t h k = omega (arith, h, k)
ahead-one Black a b t h k = omega (arith, h, k)

pub one-square : (a b : ℕ) → file_of a ≡ file_of b → rank_of a ≡ rank_of b → a ≡ b
one-square a b h k = omega (arith, h, k)

-- how a pawn comes to a square
record ByStep (p : Setup) (a t : ℕ) : Type 0 where
  file : file_of t ≡ file_of a
  ahead : Ahead p.side a t
  empty : man_at p.board t ≡ None

record ByTwo (p : Setup) (a t : ℕ) : Type 0 where
  between : ℕ
  first_file : file_of between ≡ file_of a
  first : Ahead p.side a between
  free : man_at p.board between ≡ None
  second_file : file_of t ≡ file_of between
  second : Ahead p.side between t
  empty : man_at p.board t ≡ None

record ByCapture (p : Setup) (a t : ℕ) : Type 0 where
  ahead : Ahead p.side a t
  kind : Kind
  enemy : man_at p.board t ≡ Some (man (other p.side) kind)

record InPassing (p : Setup) (a t : ℕ) : Type 0 where
  beside : Beside a t
  ahead : Ahead p.side a t
  empty : man_at p.board t ≡ None
  passed : man_at p.board (square (file_of t) (rank_of a)) ≡ Some (man (other p.side) Pawn)

Comes : Setup → ℕ → ℕ → Type 0
Comes p a t = ByStep p a t ⊎ (ByTwo p a t ⊎ (ByCapture p a t ⊎ InPassing p a t))

-- whether it captures so
takes : (p : Setup) (a t : ℕ) → Comes p a t → Bool
unfolding Comes
takes p a t (inl h) = false
takes p a t (inr (inl h)) = false
takes p a t (inr (inr h)) = true

none-Some : {P : Type 0} (x : Option Man) (m : Man) → x ≡ None → x ≡ Some m → P
none-Some x m h k = absurd (cc)

other-colour : {P : Type 0} (c : Colour) → other c ≡ c → P
other-colour White h = absurd (cc)
other-colour Black h = absurd (cc)

own-enemy : {P : Type 0} (c : Colour) (j k : Kind) (x : Option Man) → x ≡ Some (man c j) → x ≡ Some (man (other c) k) → P
own-enemy c j k x h e = other-colour c (man-colour c (other c) j k (sym h ∙ e))

beside-apart : (a b t : ℕ) → Beside a t → file_of b ≡ file_of a → file_of t ≡ file_of b → ⊥
unfolding Beside
beside-apart a b t (inl h) e k = omega (arith, h, e, k)
beside-apart a b t (inr h) e k = omega (arith, h, e, k)

comes-one : (p : Setup) (a b t : ℕ) → man_at p.board a ≡ Some (man p.side Pawn) → man_at p.board b ≡ Some (man p.side Pawn)
    → (m : Comes p a t) → Comes p b t → (takes p a t m ≡ true → file_of b ≡ file_of a) → b ≡ a
unfolding Comes takes Beside
comes-one p a b t own own' (inl m) (inl n) same = one-square b a (sym n.file ∙ m.file) (ahead-one p.side b a t n.ahead m.ahead)
comes-one p a b t own own' (inl m) (inr (inl n)) same =
    let e : n.between ≡ a = one-square n.between a (sym n.second_file ∙ m.file) (ahead-one p.side n.between a t n.second m.ahead) in
    none-Some (man_at p.board a) _ (subst (λ (s : ℕ). man_at p.board s ≡ None) e n.free) own
comes-one p a b t own own' (inl m) (inr (inr (inl n))) same = none-Some (man_at p.board t) _ m.empty n.enemy
comes-one p a b t own own' (inl m) (inr (inr (inr n))) same =
    let r : rank_of b ≡ rank_of a = ahead-one p.side b a t n.ahead m.ahead in
    let e : square (file_of t) (rank_of b) ≡ a = omega (arith, r, m.file) in
    own-enemy p.side Pawn Pawn (man_at p.board a) own (subst (λ (s : ℕ). man_at p.board s ≡ Some (man (other p.side) Pawn)) e n.passed)
comes-one p a b t own own' (inr (inl m)) (inl n) same =
    let e : m.between ≡ b = one-square m.between b (sym m.second_file ∙ n.file) (ahead-one p.side m.between b t m.second n.ahead) in
    none-Some (man_at p.board b) _ (subst (λ (s : ℕ). man_at p.board s ≡ None) e m.free) own'
comes-one p a b t own own' (inr (inl m)) (inr (inl n)) same =
    let e : n.between ≡ m.between = one-square n.between m.between (sym n.second_file ∙ m.second_file) (ahead-one p.side n.between m.between t n.second m.second) in
    one-square b a (sym n.first_file ∙ (ap file_of e ∙ m.first_file))
    (ahead-one p.side b a m.between (subst (λ (s : ℕ). Ahead p.side b s) e n.first) m.first)
comes-one p a b t own own' (inr (inl m)) (inr (inr (inl n))) same = none-Some (man_at p.board t) _ m.empty n.enemy
comes-one p a b t own own' (inr (inl m)) (inr (inr (inr n))) same =
    let r : rank_of b ≡ rank_of m.between = ahead-one p.side b m.between t n.ahead m.second in
    let e : square (file_of t) (rank_of b) ≡ m.between = omega (arith, r, m.second_file) in
    none-Some (man_at p.board m.between) _ m.free (subst (λ (s : ℕ). man_at p.board s ≡ Some (man (other p.side) Pawn)) e n.passed)
comes-one p a b t own own' (inr (inr (inl m))) (inl n) same = none-Some (man_at p.board t) _ n.empty m.enemy
comes-one p a b t own own' (inr (inr (inl m))) (inr (inl n)) same = none-Some (man_at p.board t) _ n.empty m.enemy
comes-one p a b t own own' (inr (inr (inl m))) (inr (inr (inl n))) same =
    one-square b a (same refl) (ahead-one p.side b a t n.ahead m.ahead)
comes-one p a b t own own' (inr (inr (inl m))) (inr (inr (inr n))) same = none-Some (man_at p.board t) _ n.empty m.enemy
comes-one p a b t own own' (inr (inr (inr m))) (inl n) same = absurd (beside-apart a b t m.beside (same refl) n.file)
comes-one p a b t own own' (inr (inr (inr m))) (inr (inl n)) same =
    absurd (beside-apart a b t m.beside (same refl) (n.second_file ∙ n.first_file))
comes-one p a b t own own' (inr (inr (inr m))) (inr (inr (inl n))) same = none-Some (man_at p.board t) _ m.empty n.enemy
comes-one p a b t own own' (inr (inr (inr m))) (inr (inr (inr n))) same =
    one-square b a (same refl) (ahead-one p.side b a t n.ahead m.ahead)

-- ---- a legal move of a pawn

record CameSo (p : Setup) (m : Move) : Type 0 where
  comes : Comes p m.from m.to
  same : takes p m.from m.to comes ≡ is_capture p m

pawn-goes : (p : Setup) (m : Move) (k : Kind) (x : Option Man) → x ≡ Some (man p.side k) → x ≡ Some (man p.side Pawn) → GoesPlainly p k m
    → GoesPlainly p Pawn m
pawn-goes p m k x h e goes =
    subst (λ (k : Kind). GoesPlainly p k m) (man-kind p.side p.side k Pawn (sym h ∙ e)) goes

plain-came : (p : Setup) (m : Move) → effect_of p m ≡ Plain → GoesPlainly p Pawn m → CameSo p m
unfolding Comes takes is_capture
plain-came p m e (inl (leap, empty)) =
    let f = forward-ahead p.side m.from m.to leap in
    record { comes = inl (record { file = f.0; ahead = f.1; empty = empty }); same = rw (e, empty) refl }
plain-came p m e (inr (captures, (kind, enemy))) =
    let c = capture-ahead p.side m.from m.to captures in
    record { comes = inr (inr (inl (record { ahead = c.1; kind = kind; enemy = enemy }))); same = rw (e, enemy) refl }

king-pawn : {P : Type 0} (c : Colour) → ◌≡◌ {A = Option Man} (Some (man c King)) (Some (man c Pawn)) → P
king-pawn c h = let e = man-kind c c King Pawn h in absurd (cc)

case-came : (p : Setup) (m : Move) (e : Effect) → effect_of p m ≡ e → Case p m e → man_at p.board m.from ≡ Some (man p.side Pawn) → CameSo p m
unfolding Comes takes is_capture
case-came p m Plain e case own = plain-came p m e (pawn-goes p m case.kind _ case.stands own case.goes)
case-came p m Double e case own =
    let walk : Walk p.board (forward p.side) 1 m.from m.to = case.walks in
    let f = forward-ahead p.side m.from walk.0 walk.1 in
    let g = forward-ahead p.side walk.0 m.to walk.3 in
    record {
      comes = inr (inl (record { between = walk.0; first_file = f.0; first = f.1; free = walk.2; second_file = g.0; second = g.1; empty = case.target }));
      same = rw (e, case.target) refl;
    }
case-came p m Passing e case own =
    let c = capture-ahead p.side m.from m.to case.goes in
    record {
      comes = inr (inr (inr (record { beside = c.0; ahead = c.1; empty = case.empty; passed = case.passed })));
      same = rw e refl;
    }
case-came p m (Castle wing) e case own = let never : ◌≡◌ {A = Option Man} (Some (man p.side King)) (Some (man p.side Pawn)) = sym case.stands ∙ own in king-pawn p.side never
case-came p m Null e case own = let never : ◌≡◌ {A = Option Man} (Some (man p.side King)) (Some (man p.side Pawn)) = sym case.stands ∙ own in king-pawn p.side never

pub one-pawn : (p : Setup) (m n : Move) → Legal p m → Legal p n → man_at p.board m.from ≡ Some (man p.side Pawn)
    → man_at p.board n.from ≡ Some (man p.side Pawn) → n.to ≡ m.to → (is_capture p m ≡ true → file_of n.from ≡ file_of m.from)
    → n.from ≡ m.from
one-pawn p m n h k own own' to same =
    let a = case-came p m (effect_of p m) refl (legal-allowed p m h) own in
    let b = case-came p n (effect_of p n) refl (legal-allowed p n k) own' in
    comes-one p m.from n.from m.to own own' a.comes (subst (λ (t : ℕ). Comes p n.from t) to b.comes) (λ t. same (sym a.same ∙ t))
