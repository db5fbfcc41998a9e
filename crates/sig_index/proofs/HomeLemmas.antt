-- No pawn comes to its own square: a pawn that stands at home after a move stood there before it.
use Rattle.std.proofs.Common.{◌≡◌, ℕ, [], ◌∷◌, ◌+◌, ◌<◌, zero, suc, true, eqb, length, Option, None, Some, sym, ap, ◌∙◌, subst, arith, inl, inr}
use Rattle.std.specs.Prelude.{◌⊎◌, Any}
use Rattle.std.proofs.lemmas.Bool.{cases_eq, cases_lt, le-ltb, lt-ltb}
use Rattle.cell_core.specs.declared.man.Colour.{Colour}
use Rattle.cell_core.specs.declared.man.Colour.TheVariants.{White, Black}
use Rattle.cell_core.specs.declared.man.Kind.{Kind}
use Rattle.cell_core.specs.declared.man.Kind.TheVariants.{King, Rook, Pawn}
use Rattle.cell_core.specs.declared.man.Man.{Man}
use Rattle.cell_core.specs.declared.step.Move.{Move}
use Rattle.cell_core.specs.Board.{Men, man_at, put}
use Rattle.cell_core.specs.Man.{is_man, man}
use Rattle.chess_laws.specs.Counts.{is_home, home_colour, home_square}
use Rattle.chess_laws.specs.declared.effect.Effect.{Effect}
use Rattle.chess_laws.specs.declared.effect.Effect.TheVariants.{Plain, Double, Passing, Castle, Null}
use Rattle.chess_laws.specs.declared.setup.Setup.{Setup}
use Rattle.chess_laws.specs.Castling.{rook_home, rook_target}
use Rattle.chess_laws.specs.Geometry.{Offset, by, forward, pawn_captures, rank_of, Leaps, Walk}
use Rattle.chess_laws.specs.Position.{Sound}
use Rattle.chess_laws.specs.Step.{Case, GoesPlainly, PlainCase, Step, arriving, board_after, effect_of, last_rank, moved, passed_square, pawn_rank}
use Rattle.chess_laws.proofs.Boards.{man-colour, man-kind, put-other, put-same, length-put}
use Rattle.chess_laws.proofs.Keeping.{arriving-lands, lands}
use Rattle.chess_laws.proofs.Kings.{is_man-Some, is_man-true}
use Rattle.chess_laws.proofs.Shifts.{shift-Some}

-- ---- one rank ahead, as the side sees it

abbrev pub Ahead : Colour → ℕ → ℕ → Type 0
Ahead White a b = rank_of b ≡ rank_of a + 1
Ahead Black a b = rank_of b + 1 ≡ rank_of a

forward-ahead : (c : Colour) (a b : ℕ) → Leaps a b (forward c) → Ahead c a b
forward-ahead White a b h = let ranks = (shift-Some (forward White) a b h).ranks in omega arith
forward-ahead Black a b h = let ranks = (shift-Some (forward Black) a b h).ranks in omega arith

one_of_two : (P : Offset → Type 0) (x y : Offset) → Any P (x ∷ y ∷ []) → P x ⊎ P y
one_of_two P x y (zero, z, less, is, holds) = inl (rw (← is) at holds)
one_of_two P x y (suc zero, z, less, is, holds) = inr (rw (← is) at holds)
one_of_two P x y (suc (suc n), z, less, is, holds) = absurd (omega arith)

pub captures-ahead : (c : Colour) (a b : ℕ) → Any (Leaps a b) (pawn_captures c) → Ahead c a b
captures-ahead White a b h = elim (one_of_two (Leaps a b) (by 1 0 1 0) (by 0 1 1 0) h) [
  | inl right ↦ let ranks = (shift-Some (by 1 0 1 0) a b right).ranks in omega arith
  | inr left ↦ let ranks = (shift-Some (by 0 1 1 0) a b left).ranks in omega arith
]
captures-ahead Black a b h = elim (one_of_two (Leaps a b) (by 1 0 0 1) (by 0 1 0 1) h) [
  | inl right ↦ let ranks = (shift-Some (by 1 0 0 1) a b right).ranks in omega arith
  | inr left ↦ let ranks = (shift-Some (by 0 1 0 1) a b left).ranks in omega arith
]

-- A pawn that comes from one rank behind its own would have stood on the first rank.
not_behind : (c : Colour) (a b : ℕ) → Ahead c a b → (0 < rank_of a) × (rank_of a < 7) → rank_of b ≡ pawn_rank c → ⊥
not_behind White a b ahead inside home = omega (arith, ahead, inside.0, home)
not_behind Black a b ahead inside home = omega (arith, ahead, inside.1, home)

pub far_ahead : (c : Colour) (men : Men) (a b : ℕ) → rank_of a ≡ pawn_rank c → Walk men (forward c) 1 a b → rank_of b ≡ pawn_rank c → ⊥
far_ahead White men a b own walk home = omega (arith, own, home, forward-ahead White a walk.0 walk.1, forward-ahead White walk.0 b walk.3)
far_ahead Black men a b own walk home = omega (arith, own, home, forward-ahead Black a walk.0 walk.1, forward-ahead Black walk.0 b walk.3)

pub plain-ahead : (p : Setup) (m : Move) → GoesPlainly p Pawn m → Ahead p.side m.from m.to
plain-ahead p m (inl steps) = forward-ahead p.side m.from m.to steps.0
plain-ahead p m (inr takes) = captures-ahead p.side m.from m.to takes.0

-- ---- what stands on a square after a move

never : (x : Man) → None ≡ Some x → ⊥
never x h = cc

-- What stands on a square of a board on which something else was put: that, or what stood there.
put_stands : (men : Men) (s t : ℕ) (x : Option Man) (y : Man) → length men ≡ 64 → t < 64 → man_at (put men s x) t ≡ Some y
    → ((t ≡ s) × (x ≡ Some y)) ⊎ (man_at men t ≡ Some y)
put_stands men s t x y long on h = elim (cases_eq t s) [
  | inl same ↦ inl (same, sym (put-same men s x long (subst (λ k. k < 64) same on)) ∙ ap (man_at (put men s x)) (sym same) ∙ h)
  | inr apart ↦ inr (sym (put-other men s t x apart) ∙ h)
]

emptied_stands : (men : Men) (s t : ℕ) (y : Man) → length men ≡ 64 → t < 64 → man_at (put men s None) t ≡ Some y → man_at men t ≡ Some y
emptied_stands men s t y long on h = elim (put_stands men s t None y long on h) [
  | inl here ↦ absurd (never y here.1)
  | inr there ↦ there
]

moved_stands : (p : Setup) (m : Move) (t : ℕ) (y : Man) → length p.board ≡ 64 → t < 64 → man_at (moved p m) t ≡ Some y
    → ((t ≡ m.to) × (arriving p m m.promo ≡ Some y)) ⊎ (man_at p.board t ≡ Some y)
moved_stands p m t y long on h =
    elim (put_stands (put p.board m.from None) m.to t (arriving p m m.promo) y (length-put p.board m.from None long) on h) [
      | inl here ↦ inl here
      | inr there ↦ inr (emptied_stands p.board m.from t y long on there)
    ]

-- A pawn that moved does not come to the rank on which it began.
plain_away : (p : Setup) (m : Move) (c : Colour) → Sound p → PlainCase p m → arriving p m m.promo ≡ Some (man c Pawn) → rank_of m.to ≡ pawn_rank c → ⊥
plain_away p m c sound case arrives home =
    let lands-as = arriving-lands p m case.kind m.promo case.stands in
    let last = eqb (rank_of m.to) (last_rank p.side) in
    let own : c ≡ p.side = man-colour p.side c _ Pawn (sym lands-as ∙ arrives) in
    let pawn : case.kind ≡ Pawn = ((lands case.kind last m.promo case.promotes).pawn (man-kind p.side c _ Pawn (sym lands-as ∙ arrives))).0 in
    not_behind p.side m.from m.to (plain-ahead p m (subst (λ (k : Kind). GoesPlainly p k m) pawn case.goes))
    (sound.pawns m.from p.side (subst (λ (k : Kind). man_at p.board m.from ≡ Some (man p.side k)) pawn case.stands))
    (home ∙ ap pawn_rank own)

-- What arrives without a promotion is what moved.
arrived : (p : Setup) (m : Move) (c : Colour) (k : Kind) → man_at p.board m.from ≡ Some (man p.side k) → m.promo ≡ None
    → arriving p m m.promo ≡ Some (man c Pawn) → (c ≡ p.side) × (k ≡ Pawn)
arrived p m c k stands promo arrives =
    let same : Some (man p.side k) ≡ Some (man c Pawn) = sym stands ∙ ap (arriving p m) (sym promo) ∙ arrives in
    (man-colour p.side c k Pawn same, man-kind p.side c k Pawn same)

no_king : King ≡ Pawn → ⊥
no_king h = cc

no_rook : Rook ≡ Pawn → ⊥
no_rook h = cc

-- A pawn on the rank on which it began stood there before.
stood_by : (p : Setup) (m : Move) (t : ℕ) (c : Colour) (e : Effect) → Sound p → Case p m e → t < 64 → rank_of t ≡ pawn_rank c
    → man_at (board_after p m e) t ≡ Some (man c Pawn) → man_at p.board t ≡ Some (man c Pawn)
stood_by p m t c Plain sound case on home h = elim (moved_stands p m t (man c Pawn) sound.squares on h) [
  | inl came ↦ absurd (plain_away p m c sound case came.1 (ap rank_of (sym came.0) ∙ home))
  | inr stood ↦ stood
]
stood_by p m t c Double sound case on home h = elim (moved_stands p m t (man c Pawn) sound.squares on h) [
  | inl came ↦
      let own = (arrived p m c Pawn case.stands case.promo came.1).0 in
      absurd (far_ahead p.side p.board m.from m.to case.own_rank case.walks (ap rank_of (sym came.0) ∙ home ∙ ap pawn_rank own))
  | inr stood ↦ stood
]
stood_by p m t c Passing sound case on home h =
    let long = length-put (put p.board m.from None) m.to (arriving p m m.promo) (length-put p.board m.from None sound.squares) in
    elim (moved_stands p m t (man c Pawn) sound.squares on (emptied_stands (moved p m) (passed_square m) t (man c Pawn) long on h)) [
      | inl came ↦
          let own = (arrived p m c Pawn case.stands case.promo came.1).0 in
          absurd (not_behind p.side m.from m.to (captures-ahead p.side m.from m.to case.goes) (sound.pawns m.from p.side case.stands)
          (ap rank_of (sym came.0) ∙ home ∙ ap pawn_rank own))
      | inr stood ↦ stood
    ]
stood_by p m t c (Castle wing) sound case on home h =
    let long = length-put (put p.board m.from None) m.to (arriving p m m.promo) (length-put p.board m.from None sound.squares) in
    let shorter = length-put (moved p m) (rook_home p.side wing) None long in
    elim (put_stands (put (moved p m) (rook_home p.side wing) None) (rook_target p.side wing) t (Some (man p.side Rook)) (man c Pawn) shorter on h) [
      | inl rook ↦ absurd (no_rook (man-kind p.side c Rook Pawn rook.1))
      | inr there ↦
          elim (moved_stands p m t (man c Pawn) sound.squares on (emptied_stands (moved p m) (rook_home p.side wing) t (man c Pawn) long on there)) [
            | inl came ↦ absurd (no_king (arrived p m c King case.stands case.promo came.1).1)
            | inr stood ↦ stood
          ]
    ]
stood_by p m t c Null sound case on home h = h

pub stood : (p : Setup) (m : Move) (q : Setup) (t : ℕ) (c : Colour) → Sound p → Step p m q → t < 64 → rank_of t ≡ pawn_rank c
    → man_at q.board t ≡ Some (man c Pawn) → man_at p.board t ≡ Some (man c Pawn)
stood p m q t c sound step on home h =
    stood_by p m t c (effect_of p m) sound step.allowed on home (ap (λ (s : Setup). man_at s.board t) (sym step.becomes) ∙ h)

-- ---- home values

pub home_fits : (v : ℕ) → v < 16 → (home_square v < 64) × (rank_of (home_square v) ≡ pawn_rank (home_colour v))
home_fits v small = elim (cases_lt v 8) [
  | inl black ↦ rw (lt-ltb v 8 black) (omega arith, omega arith)
  | inr white ↦ rw (le-ltb v 8 white) (omega arith, omega arith)
]

-- A pawn that is at home after a move was at home before.
pub was_home : (p : Setup) (m : Move) (q : Setup) (v : ℕ) → Sound p → Step p m q → v < 16 → is_home q.board v ≡ true → is_home p.board v ≡ true
was_home p m q v sound step small h =
    let fits = home_fits v small in
    ap (λ (x : Option Man). is_man (home_colour v) Pawn x)
    (stood p m q (home_square v) (home_colour v) sound step fits.0 fits.1 (is_man-Some (home_colour v) Pawn (man_at q.board (home_square v)) h))
    ∙ is_man-true (home_colour v) Pawn
