-- Who slides to a square stands on one of the lines through it.
use Rattle.chess_laws.proofs.Words.{◌≡◌, ℕ, ◌<◌, ◌↔◌, IsTrue, ◌⊎◌, inl, inr, Bool, true, List, Some, bit_at, eqb-true, Any, Colour, Kind, Queen, is_man, man, Men, man_at, set_of, Runs, line, slides, is_seen, offset_at, sliders, SlidesFrom, squares_of}
use Rattle.chess_laws.specs.RayTable.{names_seen}
use Rattle.chess_laws.proofs.Lines.{any-slide, line-walk, slide-any}
use Rattle.chess_laws.proofs.Rows.{pair-at}
use Rattle.chess_laws.proofs.Running.{walk-ends}
use Rattle.chess_laws.proofs.Sets.{either_bits, man-bit, man-has}

-- who slides stands on a square of the set
abbrev pub Slider : Men → Colour → Kind → ℕ → Type 0
Slider men c k a = (man_at men a ≡ Some (man c k)) ⊎ (man_at men a ≡ Some (man c Queen))

slider-bit : (men : Men) (c : Colour) (k : Kind) (a : ℕ) → (bit_at (sliders men c k) a ≡ 1) ↔ Slider men c k a
slider-bit men c k a =
    let either = either_bits (set_of (is_man c k) men) (set_of (is_man c Queen) men) a in (
      λ set. elim (either.0 set) [ inl h ↦ inl (man-has men c k a h) | inr h ↦ inr (man-has men c Queen a h) ],
      λ stands. elim stands [ inl h ↦ either.1 (inl (man-bit men c k a h)) | inr h ↦ either.1 (inr (man-bit men c Queen a h)) ],
    )

-- where steps lead over empty squares to one of those that are on the lines, it slides
pub slides-told : (men : Men) (c : Colour) (k : Kind) (s on word : ℕ) (Squares : ℕ → Type 0) (test : Bool) → s < 64 → word ≡ sliders men c k
    → ((a : ℕ) → Squares a ↔ ((bit_at on a ≡ 1) × (bit_at word a ≡ 1))) → ((a : ℕ) → Any (Runs men s a) (slides k) → bit_at on a ≡ 1)
    → (IsTrue test ↔ ((a : ℕ) × (Squares a × Any (Runs men s a) (slides k)))) → IsTrue test ↔ Any (SlidesFrom men c k s) (slides k)
slides-told men c k s on word Squares test less is both seen told = (
  λ h.
      let found = told.0 h in
      let any = found.1.1 in
      let walk : Runs men s found.0 any.1 = any.4 in
      let stands = (slider-bit men c k found.0).0 (rw (← is) ((both found.0).0 found.1.0).1) in
      let on_board = walk-ends men any.1 walk.0 s found.0 walk.1 in
      (any.0, any.1, any.2, any.3, record { from = found.0; on_board = on_board; stands = stands; target = less; runs = walk }),
  λ any.
      let l = any.4 in
      let runs : Any (Runs men s l.from) (slides k) = (any.0, any.1, any.2, any.3, l.runs) in
      told.1 (l.from, ((both l.from).1 (seen l.from runs, rw is ((slider-bit men c k l.from).1 l.stands)), runs)),
)

-- a table has all squares on the lines by which a kind of man slides
pub seen-slides : (table : List ℕ) (kind : Kind) (s : ℕ) (men : Men) → names_seen table kind ≡ true → s < 64
    → (a : ℕ) → Any (Runs men s a) (slides kind) → bit_at (squares_of table s) a ≡ 1
unfolding names_seen
seen-slides table kind s men all less a any =
    let slide = any-slide kind (Runs men s a) any in
    let on_board = walk-ends men (offset_at slide.row) slide.holds.0 s a slide.holds.1 in
    let here = pair-at (λ a b. is_seen kind (squares_of table a) (line a b) b) 64 64 s a all less on_board in
    eqb-true (bit_at (squares_of table s) a) 1 (rw (line-walk men slide.row slide.holds.0 s a slide.less slide.holds.1, slide.glides) at here)
