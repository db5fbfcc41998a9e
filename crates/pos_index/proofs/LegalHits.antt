-- The move after each hit is legal on its board.
use Rattle.std.proofs.Common.{◌≡◌, ℕ, ◌+◌, Bool, true, false, cond, List, [], ◌∷◌, refl, sym, subst}
use Rattle.std.specs.Prelude.{All, IfSome}
use Rattle.std.proofs.lemmas.List.Elements.{All-append, All-cons, All-head, All-nil, All-tail}
use Rattle.cell_core.specs.Packed.{Packed}
use Rattle.pos_index.specs.declared.hit.Hit.{Hit}
use Rattle.pos_index.specs.Hits.{IsLegalOn, IsLegalPlace, IsRow, Place, hits_from, hits_in, same_packed}
use Rattle.pos_index.proofs.KeyLemmas.{same_packed-Decides}

abbrev LegalHit : Packed → Hit → Type 0
LegalHit board hit = IfSome hit.next (IsLegalOn board)

row_legal : (board : Packed) (game : ℕ) (row : List Place) → All IsLegalPlace row → All (LegalHit board) (hits_in board game row)
row_legal board game [] legal = All-nil (LegalHit board)
row_legal board game (place ∷ places) legal =
    by (same_packed board place.board) refl (row_legal board game places (All-tail IsLegalPlace place places legal))
  where
    hit : Hit
    hit = record { game = game; ply = place.ply; next = place.next }

    by : (t : Bool) → same_packed board place.board ≡ t → All (LegalHit board) (hits_in board game places)
        → All (LegalHit board) (cond t (hit ∷ hits_in board game places) (hits_in board game places))
    by true e rest =
        All-cons (LegalHit board) hit (hits_in board game places)
        (subst (λ (b : Packed). LegalHit b hit) (sym ((same_packed-Decides board place.board).0 e)) (All-head IsLegalPlace place places legal)) rest
    by false e rest = rest

pub rows_legal : (most : ℕ) (board : Packed) (game : ℕ) (rows : List (List Place)) → All (IsRow most) rows → All (LegalHit board) (hits_from board game rows)
rows_legal most board game [] rows_are = All-nil (LegalHit board)
rows_legal most board game (row ∷ rows) rows_are =
    All-append (LegalHit board) (hits_in board game row) (hits_from board (game + 1) rows) (row_legal board game row (All-head (IsRow most) row rows rows_are).legal)
    (rows_legal most board (game + 1) rows (All-tail (IsRow most) row rows rows_are))
