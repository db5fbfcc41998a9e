-- No pawn on the first or the last rank, square by square.
use Rattle.chess_laws.proofs.Words.{◌≡◌, ℕ, ◌+◌, ◌-◌, ◌<◌, inl, inr, Some, length, arith, cases_lt, Colour, Pawn, Men, man_at, man, HasPawnsInside}
use Rattle.chess_laws.proofs.Boards.{on_board}

-- no pawn on this square
abbrev pub NoPawn : Men → ℕ → Type 0
NoPawn men s = (c : Colour) → man_at men s ≡ Some (man c Pawn) → ⊥

-- none on the first and the last rank, on the files below k
pub record Clear (men : Men) (k : ℕ) : Type 0 where
  pub first : (f : ℕ) → f < k → NoPawn men f
  pub last : (f : ℕ) → f < k → NoPawn men (56 + f)
  pub squares : 0 < k → length men ≡ 64

pub pawns-inside : (men : Men) → Clear men 8 → HasPawnsInside men
pawns-inside men b s c e =
    let on = on_board men s (man c Pawn) (b.squares (omega arith)) e in
    elim (cases_lt s 8) [
      | inl low ↦ absurd (b.first s low c e)
      | inr above ↦ elim (cases_lt s 56) [
        | inl below ↦ (omega arith, omega arith)
        | inr high ↦ let same : 56 + (s - 56) ≡ s = omega arith in absurd (b.last (s - 56) (omega arith) c (rw same e))
      ]
    ]

pub ruleset inside = (pawns-inside)
