-- On which board a position stands.
use Rattle.std.proofs.Common.{◌≡◌, ◌<◌, ◌&&◌, ℕ, true, false, eqb, List, [], get_or, length, Option, None, Some, refl, sym, ap, ◌∙◌, subst, arith, inl, inr, rules, true≢false}
use Rattle.std.specs.Prelude.{All, IfSome, is_some, nat_eq, position, slice_get}
use Rattle.std.specs.Bool.{Decides}
use Rattle.std.specs.Cmp.Lexicographic.{pointwise}
use Rattle.std.specs.List.{IsDistinct, list_any}
use Rattle.std.proofs.lemmas.Bool.{and_from, and_parts, cases_Bool, cases_order}
use Rattle.std.proofs.lemmas.Bool.Decides.{Decides-and, Decides-eqb, Decides-like}
use Rattle.std.proofs.lemmas.List.Folds.{list_any_at}
use Rattle.std.proofs.lemmas.List.Quantifiers.{position-Some}
use Rattle.std.proofs.lemmas.Map.Keys.{apart_from_distinct}
use Rattle.std.proofs.lemmas.Option.{get_or_from_slice_get, slice_get-get_or, slice_get_within}
use Rattle.std.proofs.lemmas.Slice.Eq.{slice_eq-Decides}
use Rattle.cell_core.specs.contracts.man.ColourPartialEq.TheImpl as colour
use Rattle.cell_core.specs.declared.man.Colour.{Colour}
use Rattle.cell_core.specs.declared.man.Colour.TheVariants.{White}
use Rattle.cell_core.specs.Board.{same_men}
use Rattle.cell_core.specs.Man.{same_colour}
use Rattle.cell_core.specs.Packed.{ArePacked, Packed, cells_of, men_of, packed_of}
use Rattle.cell_core.proofs.Same.{same_colour-Decides, same_men-Decides}
use Rattle.chess_laws.specs.declared.setup.Setup.{Setup}
use Rattle.pos_search.specs.Matching.{matches}
use Rattle.sig_index.proofs.LeavingLemmas.{same_tests}
use Rattle.book_pages.specs.Book.{packed_eq}
use Rattle.book_pages.specs.Keeping.{is_at, query_of}

same_parts : (a b : Packed) → a.cells ≡ b.cells → a.side ≡ b.side → a ≡ b
same_parts a b cells side = λ i. record { cells = cells i; side = side i }

-- The test of packed boards decides whether they are equal.
same_side : (a b : Colour) → Decides ((colour.ghosts).eq a b) (a ≡ b)
same_side a b = search rules

pub packed_eq-Decides : (a b : Packed) → Decides (packed_eq a b) (a ≡ b)
packed_eq-Decides a b =
    Decides-like (pointwise nat_eq a.cells b.cells && (colour.ghosts).eq a.side b.side)
    (λ (h : (a.cells ≡ b.cells) × (a.side ≡ b.side)). same_parts a b h.0 h.1)
    (λ (h : a ≡ b). (ap (λ (k : Packed). k.cells) h, ap (λ (k : Packed). k.side) h))
    (Decides-and (pointwise nat_eq a.cells b.cells) ((colour.ghosts).eq a.side b.side)
    (slice_eq-Decides Decides-eqb a.cells b.cells (pointwise nat_eq a.cells b.cells) refl) (same_side a.side b.side))

-- ---- positions

-- A position matches the query of a board where its own board, packed, is that.
pub matched : (key : Packed) (p : Setup) → matches (query_of key) p ≡ true → (p.side ≡ key.side) × (p.board ≡ men_of key.cells)
unfolding matches
matched key p holds =
    let both = and_parts (same_colour p.side key.side) (same_men p.board (men_of key.cells)) holds in
    ((same_colour-Decides p.side key.side).0 both.0, (same_men-Decides p.board (men_of key.cells)).0 both.1)

matches_where : (key : Packed) (p : Setup) → p.side ≡ key.side → p.board ≡ men_of key.cells → matches (query_of key) p ≡ true
unfolding matches
matches_where key p side board =
    and_from (same_colour p.side key.side) (same_men p.board (men_of key.cells)) ((same_colour-Decides p.side key.side).1 side)
    ((same_men-Decides p.board (men_of key.cells)).1 board)

same_match : (key board : Packed) (p : Setup) → ArePacked key.cells → board ≡ packed_of p.board p.side → men_of board.cells ≡ p.board
    → matches (query_of key) p ≡ packed_eq board key
same_match key board p packed is back =
    same_tests (matches (query_of key) p) (packed_eq board key)
    (λ holds.
    let at = matched key p holds in
    (packed_eq-Decides board key).1 (is ∙ same_parts (packed_of p.board p.side) key (ap cells_of at.1 ∙ packed) at.0))
    (λ same.
    let equal : board ≡ key = (packed_eq-Decides board key).0 same in
    matches_where key p (sym (ap (λ (k : Packed). k.side) is) ∙ ap (λ (k : Packed). k.side) equal) (sym back ∙ ap (λ (k : Packed). men_of k.cells) equal))

-- ---- numbers

abbrev pub no_board : Packed
no_board = record { cells = []; side = White }

-- The board with the number that was found is the one that was looked for.
board_at : (keys : List Packed) (board : Packed) (number : ℕ) → position (packed_eq board) keys ≡ Some number → slice_get keys number ≡ Some board
board_at keys board number found =
    let at = position-Some (packed_eq board) keys number no_board found in
    slice_get-get_or keys number no_board at.0 ∙ ap Some (sym ((packed_eq-Decides board (get_or keys number no_board)).0 at.1))

-- The board that was found has its number, and no other board has.
found_at : (keys : List Packed) (board : Packed) (number : ℕ) → IsDistinct packed_eq keys → position (packed_eq board) keys ≡ Some number
    → (k : ℕ) → k < length keys → packed_eq board (get_or keys k no_board) ≡ eqb number k
found_at keys board number distinct found k lt =
    let at = position-Some (packed_eq board) keys number no_board found in
    let here : board ≡ get_or keys number no_board = (packed_eq-Decides board (get_or keys number no_board)).0 at.1 in
    elim (cases_order number k) [
      | inl same ↦
          (packed_eq-Decides board (get_or keys k no_board)).1 (here ∙ ap (λ (n : ℕ). get_or keys n no_board) same)
          ∙ (let t : true ≡ eqb number k = grind (arith, same) in t)
      | inr rest ↦
          elim (cases_Bool (packed_eq board (get_or keys k no_board))) [
            | inl holds ↦
                let equal : get_or keys number no_board ≡ get_or keys k no_board = sym here ∙ (packed_eq-Decides board (get_or keys k no_board)).0 holds in
                absurd (elim rest [
                  | inl less ↦ true≢false (sym ((packed_eq-Decides (get_or keys number no_board) (get_or keys k no_board)).1 equal) ∙ apart_from_distinct packed_eq keys number k no_board distinct less lt)
                  | inr more ↦ true≢false (sym ((packed_eq-Decides (get_or keys k no_board) (get_or keys number no_board)).1 (sym equal)) ∙ apart_from_distinct packed_eq keys k number no_board distinct more at.0)
                ])
            | inr fails ↦ fails ∙ (let t : false ≡ eqb number k = elim rest [ inl less ↦ grind (arith, less) | inr more ↦ grind (arith, more) ] in t)
          ]
    ]

pub page_found : (keys : List Packed) (board : Packed) (found : Option ℕ) → found ≡ position (packed_eq board) keys
    → IfSome found (λ number. slice_get keys number ≡ Some board)
page_found keys board (Some number) is = board_at keys board number (sym is)
page_found keys board None is = tt

-- A board that is not there is none of them.
absent_at : (keys : List Packed) (board : Packed) → list_any (packed_eq board) keys ≡ false → (k : ℕ) → k < length keys → packed_eq board (get_or keys k no_board) ≡ false
absent_at keys board none k lt = elim (cases_Bool (packed_eq board (get_or keys k no_board))) [
  | inl same ↦ absurd (true≢false (sym (list_any_at (packed_eq board) keys k no_board lt same) ∙ none))
  | inr fails ↦ fails
]

-- The number of a board that was looked for tells on which board a position stands.
pub tells : (keys : List Packed) (board : Packed) (p : Setup) (found : Option ℕ) → IsDistinct packed_eq keys → All (λ (key : Packed). ArePacked key.cells) keys
    → board ≡ packed_of p.board p.side → men_of board.cells ≡ p.board → position (packed_eq board) keys ≡ found → is_some found ≡ list_any (packed_eq board) keys
    → (k : ℕ) (key : Packed) → slice_get keys k ≡ Some key → matches (query_of key) p ≡ is_at found k
tells keys board p found distinct packed is back looked any k key there =
    same_match key board p (subst (λ (b : Packed). ArePacked b.cells) at (packed k no_board within)) is back
    ∙ ap (packed_eq board) (sym at) ∙ by found looked any
  where
    within : k < length keys
    within = slice_get_within keys k key there

    at : get_or keys k no_board ≡ key
    at = get_or_from_slice_get keys k key no_board there

    by : (o : Option ℕ) → position (packed_eq board) keys ≡ o → is_some o ≡ list_any (packed_eq board) keys → packed_eq board (get_or keys k no_board) ≡ is_at o k
    by (Some number) looked any = found_at keys board number distinct looked k within
    by None looked any = absent_at keys board (sym any) k within
