-- No move takes two pawns off their own squares: the pawn that moves, or one that is captured by a man that is no pawn at home.
use Rattle.std.proofs.Common.{◌≡◌, ◌≢◌, ℕ, ◌-◌, ◌<◌, ◌≤◌, Bool, true, false, not, ◌&&◌, length, None, Some, refl, sym, ap, ◌∙◌, subst, arith, inl, inr}
use Rattle.std.specs.Prelude.{◌⊎◌}
use Rattle.std.proofs.lemmas.Bool.{and_parts, cases_eq, cases_lt, le-ltb, lt-ltb, not-true}
use Rattle.cell_core.specs.declared.man.Colour.{Colour}
use Rattle.cell_core.specs.declared.man.Colour.TheVariants.{White, Black}
use Rattle.cell_core.specs.declared.man.Kind.{Kind}
use Rattle.cell_core.specs.declared.man.Kind.TheVariants.{Pawn}
use Rattle.cell_core.specs.declared.man.Man.{Man}
use Rattle.cell_core.specs.declared.step.Move.{Move}
use Rattle.cell_core.specs.Board.{man_at, put}
use Rattle.cell_core.specs.Man.{is_man, man, other}
use Rattle.chess_laws.specs.Castling.{king_home, king_target, rook_home, rook_target}
use Rattle.chess_laws.specs.Counts.{is_home, home_colour, home_square}
use Rattle.chess_laws.specs.declared.effect.Effect.{Effect}
use Rattle.chess_laws.specs.declared.effect.Effect.TheVariants.{Plain, Double, Passing, Castle, Null}
use Rattle.chess_laws.specs.declared.setup.Setup.{Setup}
use Rattle.chess_laws.specs.declared.setup.Wing.{Wing}
use Rattle.chess_laws.specs.declared.setup.Wing.TheVariants.{KingSide, QueenSide}
use Rattle.chess_laws.specs.Geometry.{file_of, rank_of, square}
use Rattle.chess_laws.specs.Position.{Sound, HasFitEnPassant, en_passant_rank}
use Rattle.chess_laws.specs.Step.{Case, GoesPlainly, PlainCase, Step, arriving, board_after, effect_of, moved, passed_square, pawn_rank}
use Rattle.chess_laws.proofs.Boards.{man-colour, man-kind, put-other}
use Rattle.chess_laws.proofs.Keeping.{castle-squares}
use Rattle.chess_laws.proofs.Kings.{is_man-Some, is_man-true}
use Rattle.sig_index.specs.Left.{leaving_between}
use Rattle.sig_index.proofs.HomeLemmas.{Ahead, captures-ahead, home_fits}
use Rattle.sig_index.proofs.Ranges.{one_passes}

-- ---- the squares that a move changes

moved_other : (p : Setup) (m : Move) (t : ℕ) → t ≢ m.from → t ≢ m.to → man_at (moved p m) t ≡ man_at p.board t
moved_other p m t from to = put-other (put p.board m.from None) m.to t (arriving p m m.promo) to ∙ put-other p.board m.from t None from

-- A pawn that stood on its own rank and stands there no more: it moved, or a plain move captured it.
pub Leaves : Setup → Move → ℕ → Type 0
Leaves p m t = (t ≡ m.from) ⊎ ((t ≡ m.to) × PlainCase p m)

no_man : (x : Man) → None ≡ Some x → ⊥
no_man x h = cc

passed_rank : (a b : ℕ) → rank_of (square (file_of a) (rank_of b)) ≡ rank_of b
passed_rank a b = omega arith

-- The pawn that is captured en passant is not at home.
passing_away : (c : Colour) (a b : ℕ) → Ahead c a b → rank_of b ≡ en_passant_rank c → rank_of a ≡ pawn_rank (other c) → ⊥
passing_away White a b ahead sixth home = omega (arith, ahead, sixth, home)
passing_away Black a b ahead third home = omega (arith, ahead, third, home)

-- The squares of castling are on the first and the last rank, and no pawn at home is.
record IsAway (c : Colour) (w : Wing) (t : ℕ) : Type 0 where
  king : t ≢ king_home c
  target : t ≢ king_target c w
  rook : t ≢ rook_home c w
  rook_to : t ≢ rook_target c w

home_away : (c d : Colour) (w : Wing) (t : ℕ) → rank_of t ≡ pawn_rank d → IsAway c w t
home_away White White KingSide t home = record { king = λ h. omega (arith, h, home); target = λ h. omega (arith, h, home); rook = λ h. omega (arith, h, home); rook_to = λ h. omega (arith, h, home) }
home_away White White QueenSide t home = record { king = λ h. omega (arith, h, home); target = λ h. omega (arith, h, home); rook = λ h. omega (arith, h, home); rook_to = λ h. omega (arith, h, home) }
home_away White Black KingSide t home = record { king = λ h. omega (arith, h, home); target = λ h. omega (arith, h, home); rook = λ h. omega (arith, h, home); rook_to = λ h. omega (arith, h, home) }
home_away White Black QueenSide t home = record { king = λ h. omega (arith, h, home); target = λ h. omega (arith, h, home); rook = λ h. omega (arith, h, home); rook_to = λ h. omega (arith, h, home) }
home_away Black White KingSide t home = record { king = λ h. omega (arith, h, home); target = λ h. omega (arith, h, home); rook = λ h. omega (arith, h, home); rook_to = λ h. omega (arith, h, home) }
home_away Black White QueenSide t home = record { king = λ h. omega (arith, h, home); target = λ h. omega (arith, h, home); rook = λ h. omega (arith, h, home); rook_to = λ h. omega (arith, h, home) }
home_away Black Black KingSide t home = record { king = λ h. omega (arith, h, home); target = λ h. omega (arith, h, home); rook = λ h. omega (arith, h, home); rook_to = λ h. omega (arith, h, home) }
home_away Black Black QueenSide t home = record { king = λ h. omega (arith, h, home); target = λ h. omega (arith, h, home); rook = λ h. omega (arith, h, home); rook_to = λ h. omega (arith, h, home) }

leaves_by : (p : Setup) (m : Move) (t : ℕ) (c : Colour) (e : Effect) → Sound p → effect_of p m ≡ e → Case p m e → rank_of t ≡ pawn_rank c
    → man_at p.board t ≡ Some (man c Pawn) → (man_at (board_after p m e) t ≡ Some (man c Pawn) → ⊥) → Leaves p m t
unfolding Leaves
leaves_by p m t c Plain sound is case home stands gone = elim (cases_eq t m.from) [
  | inl from ↦ inl from
  | inr away ↦ elim (cases_eq t m.to) [
    | inl to ↦ inr (to, case)
    | inr apart ↦ absurd (gone (moved_other p m t away apart ∙ stands))
  ]
]
leaves_by p m t c Double sound is case home stands gone = elim (cases_eq t m.from) [
  | inl from ↦ inl from
  | inr away ↦ elim (cases_eq t m.to) [
    | inl to ↦ absurd (no_man (man c Pawn) (sym case.target ∙ ap (man_at p.board) (sym to) ∙ stands))
    | inr apart ↦ absurd (gone (moved_other p m t away apart ∙ stands))
  ]
]
leaves_by p m t c Passing sound is case home stands gone = elim (cases_eq t m.from) [
  | inl from ↦ inl from
  | inr away ↦ elim (cases_eq t m.to) [
    | inl to ↦ absurd (no_man (man c Pawn) (sym case.empty ∙ ap (man_at p.board) (sym to) ∙ stands))
    | inr apart ↦ elim (cases_eq t (passed_square m)) [
      | inl passed ↦
          let theirs : c ≡ other p.side = man-colour (other p.side) c Pawn Pawn (sym case.passed ∙ ap (man_at p.board) (sym passed) ∙ stands) in
          let sixth : rank_of m.to ≡ en_passant_rank p.side = subst (HasFitEnPassant p.side) case.target sound.en_passant in
          absurd (passing_away p.side m.from m.to (captures-ahead p.side m.from m.to case.goes) sixth
          (sym (ap rank_of passed ∙ passed_rank m.to m.from) ∙ home ∙ ap pawn_rank theirs))
      | inr past ↦ absurd (gone (put-other (moved p m) (passed_square m) t None past ∙ moved_other p m t away apart ∙ stands))
    ]
  ]
]
leaves_by p m t c (Castle wing) sound is case home stands gone =
    let squares = castle-squares p m wing case.stands is in
    let away = home_away p.side c wing t home in
    absurd (gone (put-other (put (moved p m) (rook_home p.side wing) None) (rook_target p.side wing) t _ away.rook_to
    ∙ put-other (moved p m) (rook_home p.side wing) t None away.rook
    ∙ moved_other p m t (λ h. away.king (h ∙ squares.from)) (λ h. away.target (h ∙ squares.to))
    ∙ stands))
leaves_by p m t c Null sound is case home stands gone = absurd (gone stands)

-- ---- two pawns

-- A pawn at home does not capture a pawn at home.
too_far : (c : Colour) (a b : ℕ) → Ahead c a b → rank_of a ≡ pawn_rank c → rank_of b ≡ pawn_rank (other c) → ⊥
too_far White a b ahead own theirs = omega (arith, ahead, own, theirs)
too_far Black a b ahead own theirs = omega (arith, ahead, own, theirs)

not_both : (p : Setup) (m : Move) (c d : Colour) → PlainCase p m → man_at p.board m.from ≡ Some (man c Pawn) → rank_of m.from ≡ pawn_rank c
    → man_at p.board m.to ≡ Some (man d Pawn) → rank_of m.to ≡ pawn_rank d → ⊥
not_both p m c d case from own to theirs =
    let same : Some (man p.side case.kind) ≡ Some (man c Pawn) = sym case.stands ∙ from in
    let pawn : case.kind ≡ Pawn = man-kind p.side c case.kind Pawn same in
    let mine : c ≡ p.side = man-colour p.side c case.kind Pawn same in
    elim (subst (λ (k : Kind). GoesPlainly p k m) pawn case.goes) [
      | inl steps ↦ no_man (man d Pawn) (sym steps.1 ∙ to)
      | inr takes ↦
          let enemy : d ≡ other p.side = man-colour (other p.side) d takes.1.0 Pawn (sym takes.1.1 ∙ to) in
          too_far p.side m.from m.to (captures-ahead p.side m.from m.to takes.0) (own ∙ ap pawn_rank mine) (theirs ∙ ap pawn_rank enemy)
    ]

same_value : (v w : ℕ) → v < 16 → w < 16 → home_square v ≡ home_square w → v ≡ w
same_value v w small small' same = elim (cases_lt v 8) [
  | inl black ↦ elim (cases_lt w 8) [
    | inl black' ↦ let same' = rw (lt-ltb v 8 black, lt-ltb w 8 black') at same in omega (arith, same')
    | inr white' ↦ let same' = rw (lt-ltb v 8 black, le-ltb w 8 white') at same in omega (arith, same')
  ]
  | inr white ↦ elim (cases_lt w 8) [
    | inl black' ↦ let same' = rw (le-ltb v 8 white, lt-ltb w 8 black') at same in omega (arith, same')
    | inr white' ↦ let same' = rw (le-ltb v 8 white, le-ltb w 8 white') at same in omega (arith, same')
  ]
]

-- The pawn of a value stood at home before a move, and does not after it.
record Gone (p : Setup) (m : Move) (v : ℕ) : Type 0 where
  stood : man_at p.board (home_square v) ≡ Some (man (home_colour v) Pawn)
  rank : rank_of (home_square v) ≡ pawn_rank (home_colour v)
  leaves : Leaves p m (home_square v)

gone_by : (p : Setup) (m : Move) (q : Setup) (v : ℕ) → Sound p → Step p m q → v < 16 → (is_home p.board v && not (is_home q.board v)) ≡ true → Gone p m v
gone_by p m q v sound step small holds =
    let both = and_parts (is_home p.board v) (not (is_home q.board v)) holds in
    let not_after : is_home q.board v ≡ false = not-true (is_home q.board v) both.1 in
    let stood = is_man-Some (home_colour v) Pawn (man_at p.board (home_square v)) both.0 in
    let rank = (home_fits v small).1 in
    record {
      stood = stood;
      rank = rank;
      leaves = leaves_by p m (home_square v) (home_colour v) (effect_of p m) sound refl step.allowed rank stood
          (λ stands. differ (is_home q.board v)
          (ap (λ (s : Setup). is_man (home_colour v) Pawn (man_at s.board (home_square v))) step.becomes
          ∙ ap (is_man (home_colour v) Pawn) stands ∙ is_man-true (home_colour v) Pawn) not_after);
    }
  where
    differ : (t : Bool) → t ≡ true → t ≡ false → ⊥
    differ t h i = absurd (cc (h, i))

from_and_to : (p : Setup) (m : Move) (v w : ℕ) → Gone p m v → Gone p m w → home_square v ≡ m.from → home_square w ≡ m.to → PlainCase p m → ⊥
from_and_to p m v w first second from to case =
    not_both p m (home_colour v) (home_colour w) case
    (ap (man_at p.board) (sym from) ∙ first.stood) (ap rank_of (sym from) ∙ first.rank)
    (ap (man_at p.board) (sym to) ∙ second.stood) (ap rank_of (sym to) ∙ second.rank)

no_other : (p : Setup) (m : Move) (v w : ℕ) → v < 16 → w < 16 → Gone p m v → Gone p m w → v ≡ w
unfolding Leaves
no_other p m v w small small' first second = elim first.leaves [
  | inl from ↦ elim second.leaves [
    | inl from' ↦ same_value v w small small' (from ∙ sym from')
    | inr to' ↦ absurd (from_and_to p m v w first second from to'.0 to'.1)
  ]
  | inr to ↦ elim second.leaves [
    | inl from' ↦ absurd (from_and_to p m w v second first from' to.0 to.1)
    | inr to' ↦ same_value v w small small' (to.0 ∙ sym to'.0)
  ]
]

pub one_leaves : (p : Setup) (m : Move) (q : Setup) → Sound p → Step p m q → length (leaving_between p q) ≤ 1
one_leaves p m q sound step =
    one_passes (λ (v : ℕ). is_home p.board v && not (is_home q.board v)) 0 16
    (λ v w from less from' less' holds holds'. no_other p m v w less less' (gone_by p m q v sound step less holds) (gone_by p m q w sound step less' holds'))
