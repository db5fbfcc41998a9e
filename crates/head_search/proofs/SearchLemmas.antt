-- A search of heads game by game.
use Rattle.std.proofs.Common.{◌≡◌, ℕ, ◌<◌, zero, suc, Bool, false, List, [], ◌∷◌, Option, None, Some, length, get_or, set, refl, sym, ap, ◌∙◌, arith}
use Rattle.std.specs.Prelude.{if◌then◌else◌, is_some, slice_get}
use Rattle.std.proofs.lemmas.List.{set-get_or}
use Rattle.std.proofs.lemmas.Option.{get_or_from_slice_get}
use Rattle.game_tree.specs.declared.head.Head.{Head}
use Rattle.sig_index.specs.Games.{head_in, plies_in}
use Rattle.sig_index.specs.declared.head_query.HeadQuery.{HeadQuery}
use Rattle.sig_index.specs.declared.signature.Sig.{Sig}
use Rattle.head_search.specs.Matching.{first_of, firsts_of, head_matches}

-- The first matching ply of a game, by what is read of it.
first_in : (query : HeadQuery) (heads : List Head) (sigs : List Sig) (i : ℕ) → length heads ≡ length sigs → i < length sigs
    → get_or (firsts_of query heads sigs) i None ≡ first_of query (head_in heads i) (plies_in sigs i)
first_in query [] [] i same below = absurd (omega (arith, below))
first_in query [] (b ∷ sigs) i same below = absurd (omega (arith, same))
first_in query (a ∷ heads) [] i same below = absurd (omega (arith, below))
first_in query (a ∷ heads) (b ∷ sigs) zero same below = refl
first_in query (a ∷ heads) (b ∷ sigs) (suc i) same below = first_in query heads sigs i (omega (arith, same)) (omega (arith, below))

abbrev pub ply_if : Bool → Option ℕ
ply_if r = if r then Some 0 else None

-- The first matching ply of a game, whether it is asked for or not.
pub first_is : (query : HeadQuery) (heads : List Head) (sigs : List Sig) (i : ℕ) (r t : Bool) → length heads ≡ length sigs → i < length sigs
    → r ≡ head_matches (head_in heads i) (plies_in sigs i) query → r ≡ t → ply_if t ≡ get_or (firsts_of query heads sigs) i None
first_is query heads sigs i r t same below is case = ap ply_if (sym case ∙ is) ∙ sym (first_in query heads sigs i same below)

-- There are as many first plies as games.
pub length-firsts : (query : HeadQuery) (heads : List Head) (sigs : List Sig) → length heads ≡ length sigs → length (firsts_of query heads sigs) ≡ length sigs
length-firsts query [] [] same = refl
length-firsts query [] (b ∷ sigs) same = absurd (omega (arith, same))
length-firsts query (a ∷ heads) [] same = absurd (omega (arith, same))
length-firsts query (a ∷ heads) (b ∷ sigs) same = ap (λ n. suc n) (length-firsts query heads sigs (omega (arith, same)))

-- A game that was out and stays out needs no entry anew.
pub stays_out : (plies : List (Option ℕ)) (i : ℕ) (old entry : Option ℕ) → slice_get plies i ≡ Some old → is_some old ≡ false → is_some entry ≡ false
    → plies ≡ set plies i entry
stays_out plies i None None there out stays = sym (set-get_or plies i None) ∙ ap (set plies i) (get_or_from_slice_get plies i None None there)
stays_out plies i None (Some ply) there out stays = absurd (cc)
stays_out plies i (Some ply) entry there out stays = absurd (cc)
