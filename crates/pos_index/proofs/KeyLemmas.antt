-- Boards that differ, by their numbers.
use Rattle.std.proofs.Common.{◌≡◌, ◌<◌, ℕ, Bool, true, false, eqb, ◌&&◌, List, [], ◌∷◌, ◌++◌, Some, length, cond, refl, sym, ap, ◌∙◌, arith, inl, inr, rules, true≢false}
use Rattle.std.specs.Prelude.{nat_eq, position}
use Rattle.std.specs.Bool.{Decides}
use Rattle.std.specs.Cmp.Lexicographic.{pointwise}
use Rattle.std.specs.List.{IsDistinct, list_any}
use Rattle.std.proofs.lemmas.Bool.{cases_Bool, cases_order}
use Rattle.std.proofs.lemmas.Bool.Decides.{Decides-and, Decides-eqb, Decides-like}
use Rattle.std.proofs.lemmas.List.{append-nil}
use Rattle.std.proofs.lemmas.List.Folds.{list_any_at}
use Rattle.std.proofs.lemmas.List.Quantifiers.{position-Some}
use Rattle.std.proofs.lemmas.Map.Keys.{apart_from_distinct}
use Rattle.std.proofs.lemmas.Slice.Eq.{slice_eq-Decides}
use Rattle.indexmap.specs.IndexSet.{insert_key}
use Rattle.cell_core.specs.contracts.man.ColourPartialEq.TheImpl as colour
use Rattle.cell_core.specs.declared.man.Colour.{Colour}
use Rattle.cell_core.specs.Man.{same_colour}
use Rattle.cell_core.specs.Packed.{Packed}
use Rattle.cell_core.proofs.Same.{same_colour-Decides}
use Rattle.sig_index.proofs.LeavingLemmas.{same_tests}
use Rattle.pos_index.specs.Hits.{same_packed}
use Rattle.pos_index.specs.Keeping.{board_in, packed_eq}

same_parts : (a b : Packed) → a.cells ≡ b.cells → a.side ≡ b.side → a ≡ b
same_parts a b cells side = λ i. record { cells = cells i; side = side i }

-- Both tests of packed boards decide whether they are equal.
same_side : (a b : Colour) → Decides ((colour.ghosts).eq a b) (a ≡ b)
same_side a b = search rules

pub packed_eq-Decides : (a b : Packed) → Decides (packed_eq a b) (a ≡ b)
packed_eq-Decides a b =
    Decides-like (pointwise nat_eq a.cells b.cells && (colour.ghosts).eq a.side b.side)
    (λ (h : (a.cells ≡ b.cells) × (a.side ≡ b.side)). same_parts a b h.0 h.1)
    (λ (h : a ≡ b). (ap (λ (k : Packed). k.cells) h, ap (λ (k : Packed). k.side) h))
    (Decides-and (pointwise nat_eq a.cells b.cells) ((colour.ghosts).eq a.side b.side)
    (slice_eq-Decides Decides-eqb a.cells b.cells (pointwise nat_eq a.cells b.cells) refl) (same_side a.side b.side))

pub same_packed-Decides : (a b : Packed) → Decides (same_packed a b) (a ≡ b)
same_packed-Decides a b =
    Decides-like (pointwise nat_eq a.cells b.cells && same_colour a.side b.side)
    (λ (h : (a.cells ≡ b.cells) × (a.side ≡ b.side)). same_parts a b h.0 h.1)
    (λ (h : a ≡ b). (ap (λ (k : Packed). k.cells) h, ap (λ (k : Packed). k.side) h))
    (Decides-and (pointwise nat_eq a.cells b.cells) (same_colour a.side b.side)
    (slice_eq-Decides Decides-eqb a.cells b.cells (pointwise nat_eq a.cells b.cells) refl) (same_colour-Decides a.side b.side))

pub same_packed-eq : (a b : Packed) → packed_eq a b ≡ same_packed a b
same_packed-eq a b =
    same_tests (packed_eq a b) (same_packed a b)
    (λ e. (same_packed-Decides a b).1 ((packed_eq-Decides a b).0 e)) (λ e. (packed_eq-Decides a b).1 ((same_packed-Decides a b).0 e))

abbrev pub no_board : Packed
no_board = board_in [] 0

-- The board that was found has its number, and no other board has.
pub found_test : (keys : List Packed) (board : Packed) (number : ℕ) → IsDistinct packed_eq keys → position (packed_eq board) keys ≡ Some number
    → (k : ℕ) → k < length keys → eqb number k ≡ same_packed board (board_in keys k)
found_test keys board number distinct found k lt =
    let at = position-Some (packed_eq board) keys number no_board found in
    let here : board ≡ board_in keys number = (packed_eq-Decides board (board_in keys number)).0 at.1 in
    elim (cases_order number k) [
      | inl same ↦
          (let t : eqb number k ≡ true = grind (arith, same) in t)
          ∙ sym ((same_packed-Decides board (board_in keys k)).1 (here ∙ ap (board_in keys) same))
      | inr rest ↦
          (let t : eqb number k ≡ false = elim rest [ inl less ↦ grind (arith, less) | inr more ↦ grind (arith, more) ] in t)
          ∙ sym (elim (cases_Bool (same_packed board (board_in keys k))) [
            | inl holds ↦
                let equal : board_in keys number ≡ board_in keys k = sym here ∙ (same_packed-Decides board (board_in keys k)).0 holds in
                absurd (elim rest [
                  | inl less ↦ true≢false (sym ((packed_eq-Decides (board_in keys number) (board_in keys k)).1 equal) ∙ apart_from_distinct packed_eq keys number k no_board distinct less lt)
                  | inr more ↦ true≢false (sym ((packed_eq-Decides (board_in keys k) (board_in keys number)).1 (sym equal)) ∙ apart_from_distinct packed_eq keys k number no_board distinct more at.0)
                ])
            | inr fails ↦ fails
          ])
    ]

-- A board that is not there is none of them.
pub absent_test : (keys : List Packed) (board : Packed) → list_any (packed_eq board) keys ≡ false → (k : ℕ) → k < length keys → same_packed board (board_in keys k) ≡ false
absent_test keys board none k lt = elim (cases_Bool (same_packed board (board_in keys k))) [
  | inl same ↦
      absurd (true≢false (sym (list_any_at (packed_eq board) keys k no_board lt ((packed_eq-Decides board (board_in keys k)).1 ((same_packed-Decides board (board_in keys k)).0 same))) ∙ none))
  | inr fails ↦ fails
]

-- What an inserted board leaves.
pub inserted : (keys : List Packed) (board : Packed) → (more : List Packed) × (insert_key packed_eq keys board ≡ keys ++ more)
inserted keys board = by (list_any (packed_eq board) keys)
  where
    by : (t : Bool) → (more : List Packed) × (cond t keys (keys ++ board ∷ []) ≡ keys ++ more)
    by true = ([], sym (append-nil keys))
    by false = (board ∷ [], refl)
