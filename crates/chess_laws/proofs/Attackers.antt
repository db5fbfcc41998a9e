-- Who attacks a square: a pawn, a knight or a king that leaps, or a rook, a bishop or a queen that slides.
use Rattle.chess_laws.proofs.Words.{◌≡◌, ◌↔◌, ℕ, ◌<◌, true, refl, arith, List, Any, ◌⊎◌, inl, inr, Some, cases_lt, nat_tests, Colour, White, Black, Kind, King, Queen, Rook, Bishop, Knight, Pawn, Men, man_at, man, other, Offset, rook_steps, bishop_steps, knight_steps, king_steps, pawn_captures, Leaps, Runs, Attacks, AttacksAs, Reaches, slides, LeapsFrom, SlidesFrom, SlidesTo, LeapsAs, Hits, length}
use Rattle.chess_laws.proofs.Boards.{on_board}
use Rattle.chess_laws.proofs.Lines.{any-slide, slide-any}
use Rattle.chess_laws.proofs.Running.{walk-ends}
use Rattle.chess_laws.proofs.Walks.{leaps-turned, runs-turned, shift-on_board, turns}

-- one that slides along the files and ranks or along the diagonals, or leaps as a knight, a pawn or a king
abbrev pub Attackers : Men → Colour → ℕ → Type 0
Attackers men c s =
    SlidesTo men c s
    ⊎ (Any (LeapsFrom men (man c Knight) s) knight_steps
    ⊎ (Any (LeapsFrom men (man c Pawn) s) (pawn_captures (other c))
    ⊎ Any (LeapsFrom men (man c King) s) king_steps))

-- a man that leaps
leaper : (men : Men) (c : Colour) (k : Kind) (s : ℕ) (steps away : List Offset) → turns away steps ≡ true → turns steps away ≡ true →
    ((a : ℕ) → Reaches men c k a s ↔ Any (Leaps a s) steps) → Any (LeapsFrom men (man c k) s) away ↔ AttacksAs men c k s
leaper men c k s steps away there back reach = (
  λ any.
      let (n, o, less, at, l) = any in
      let to = leaps-turned away steps there s l.from l.target (n, o, less, at, l.leaps) in
      record { from = l.from; on_board = l.on_board; stands = l.stands; reaches = (reach l.from).1 to },
  λ h.
      let to = (reach h.from).0 h.reaches in
      let (n, o, less, at, leaps) = leaps-turned steps away back h.from s h.on_board to in
      (n, o, less, at, record { from = h.from; on_board = h.on_board; stands = h.stands; target = shift-on_board to.1 h.from s to.4; leaps = leaps }),
)

knight-told : (men : Men) (c : Colour) (s : ℕ) → Any (LeapsFrom men (man c Knight) s) knight_steps ↔ AttacksAs men c Knight s
knight-told men c s = leaper men c Knight s knight_steps knight_steps refl refl (λ a. (λ h. h, λ h. h))

king-told : (men : Men) (c : Colour) (s : ℕ) → Any (LeapsFrom men (man c King) s) king_steps ↔ AttacksAs men c King s
king-told men c s = leaper men c King s king_steps king_steps refl refl (λ a. (λ h. h, λ h. h))

-- a pawn is where one of the other colour would capture
pawn-told : (men : Men) (c : Colour) (s : ℕ) → Any (LeapsFrom men (man c Pawn) s) (pawn_captures (other c)) ↔ AttacksAs men c Pawn s
pawn-told men White s = leaper men White Pawn s (pawn_captures White) (pawn_captures Black) refl refl (λ a. (λ h. h, λ h. h))
pawn-told men Black s = leaper men Black Pawn s (pawn_captures Black) (pawn_captures White) refl refl (λ a. (λ h. h, λ h. h))

-- a queen slides as a rook does or as a bishop
as-queen : (k : Kind) (P : Offset → Type 0) → Any P (slides k) → Any P (slides Queen)
as-queen k P any = let s = any-slide k P any in slide-any Queen P s.row s.less (grind (arith, nat_tests)) s.holds

queen-as : (P : Offset → Type 0) → Any P (slides Queen) → Any P (slides Rook) ⊎ Any P (slides Bishop)
queen-as P any =
    let s = any-slide Queen P any in
    elim (cases_lt s.row 4) [
      | inl low ↦ inl (slide-any Rook P s.row s.less (grind (arith, nat_tests)) s.holds)
      | inr high ↦ inr (slide-any Bishop P s.row s.less (grind (arith, nat_tests)) s.holds)
    ]

slider-attacks : (men : Men) (c : Colour) (k : Kind) (s : ℕ) → turns (slides k) (slides k) ≡ true → ((a : ℕ) → Any (Runs men a s) (slides k) → Reaches men c k a s) →
    Any (SlidesFrom men c k s) (slides k) → Attacks men c s
slider-attacks men c k s each reach (n, o, less, at, l) =
    let runs = runs-turned men (slides k) (slides k) each s l.from l.target (n, o, less, at, l.runs) in
    elim l.stands [
      | inl e ↦ (k, record { from = l.from; on_board = l.on_board; stands = e; reaches = reach l.from runs })
      | inr e ↦ (Queen, record { from = l.from; on_board = l.on_board; stands = e; reaches = as-queen k (Runs men l.from s) runs })
    ]

slider-from : (men : Men) (c : Colour) (k : Kind) (s a : ℕ) → turns (slides k) (slides k) ≡ true → a < 64 →
    (man_at men a ≡ Some (man c k)) ⊎ (man_at men a ≡ Some (man c Queen)) → Any (Runs men a s) (slides k) → Any (SlidesFrom men c k s) (slides k)
slider-from men c k s a each on_board stands to =
    let (n, o, less, at, runs) = runs-turned men (slides k) (slides k) each a s on_board to in
    let ends : s < 64 = walk-ends men to.1 to.4.0 a s to.4.1 in
    (n, o, less, at, record { from = a; on_board = on_board; stands = stands; target = ends; runs = runs })

-- a man that slides stands where he is looked for
sliding : (men : Men) (c : Colour) (k : Kind) (s a : ℕ) → a < 64 → man_at men a ≡ Some (man c k) → Any (Runs men a s) (slides k) → SlidesTo men c s
sliding men c Rook s a on_board stands runs = inl (slider-from men c Rook s a refl on_board (inl stands) runs)
sliding men c Bishop s a on_board stands runs = inr (slider-from men c Bishop s a refl on_board (inl stands) runs)
sliding men c Queen s a on_board stands runs = elim (queen-as (Runs men a s) runs) [
  | inl any ↦ inl (slider-from men c Rook s a refl on_board (inr stands) any)
  | inr any ↦ inr (slider-from men c Bishop s a refl on_board (inr stands) any)
]
sliding men c k s a on_board stands runs = absurd (omega (arith, runs.2))

-- who attacks is one of these, and the other way round
pub by-attackers : (men : Men) (c : Colour) (s : ℕ) → Attackers men c s → Attacks men c s
by-attackers men c s (inl (inl any)) = slider-attacks men c Rook s refl (λ a h. h) any
by-attackers men c s (inl (inr any)) = slider-attacks men c Bishop s refl (λ a h. h) any
by-attackers men c s (inr (inl any)) = (Knight, (knight-told men c s).0 any)
by-attackers men c s (inr (inr (inl any))) = (Pawn, (pawn-told men c s).0 any)
by-attackers men c s (inr (inr (inr any))) = (King, (king-told men c s).0 any)

pub attackers-of : (men : Men) (c : Colour) (s : ℕ) → Attacks men c s → Attackers men c s
attackers-of men c s (Knight, h) = inr (inl ((knight-told men c s).1 h))
attackers-of men c s (Pawn, h) = inr (inr (inl ((pawn-told men c s).1 h)))
attackers-of men c s (King, h) = inr (inr (inr ((king-told men c s).1 h)))
attackers-of men c s (k, h) = inl (sliding men c k s h.from h.on_board h.stands h.reaches)

-- he slides, or leaps from where he stands
pub slides-or-leaps : (men : Men) (c : Colour) (s : ℕ) → Attacks men c s → SlidesTo men c s ⊎ ((a : ℕ) × Hits men c a s)
slides-or-leaps men c s (Knight, h) = inr (h.from, record { kind = Knight; stands = h.stands; leaps = h.reaches })
slides-or-leaps men c s (Pawn, h) = inr (h.from, record { kind = Pawn; stands = h.stands; leaps = h.reaches })
slides-or-leaps men c s (King, h) = inr (h.from, record { kind = King; stands = h.stands; leaps = h.reaches })
slides-or-leaps men c s (k, h) = inl (sliding men c k s h.from h.on_board h.stands h.reaches)

leaps-reach : (men : Men) (c : Colour) (k : Kind) (a s : ℕ) → LeapsAs c k a s → Reaches men c k a s
leaps-reach men c King a s h = h
leaps-reach men c Knight a s h = h
leaps-reach men c Pawn a s h = h
leaps-reach men c k a s h = absurd h

pub hits-attack : (men : Men) (c : Colour) (a s : ℕ) → length men ≡ 64 → Hits men c a s → Attacks men c s
hits-attack men c a s squares h =
    (h.kind, record { from = a; on_board = on_board men a (man c h.kind) squares h.stands; stands = h.stands; reaches = leaps-reach men c h.kind a s h.leaps })
