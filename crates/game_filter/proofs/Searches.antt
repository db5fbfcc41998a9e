-- A search game by game.
use Rattle.std.proofs.Common.{◌≡◌, ℕ, ◌+◌, ◌<◌, zero, suc, List, [], ◌∷◌, Option, None, Some, length, get_or, set, take, refl, sym, ap, ◌∙◌, arith, add-one}
use Rattle.std.specs.Prelude.{slice_get}
use Rattle.std.proofs.lemmas.List.{set-get_or}
use Rattle.std.proofs.lemmas.Option.{get_or_from_slice_get}
use Rattle.game_filter.specs.Search.{entry_after, searched}
use Rattle.game_filter.specs.declared.op.Op.{Op}

-- The game behind those that were searched has its old entry.
pub searched-behind : (op : Op) (firsts plies : List (Option ℕ)) (i : ℕ) → get_or (searched op (take i firsts) plies) i None ≡ get_or plies i None
searched-behind op [] plies zero = refl
searched-behind op [] plies (suc i) = refl
searched-behind op (first ∷ firsts) [] zero = refl
searched-behind op (first ∷ firsts) [] (suc i) = refl
searched-behind op (first ∷ firsts) (old ∷ plies) zero = refl
searched-behind op (first ∷ firsts) (old ∷ plies) (suc i) = searched-behind op firsts plies i

-- One game more is searched: its entry is set.
pub searched-more : (op : Op) (firsts plies : List (Option ℕ)) (i : ℕ) → i < length firsts → i < length plies
    → set (searched op (take i firsts) plies) i (entry_after op (get_or plies i None) (get_or firsts i None)) ≡ searched op (take (suc i) firsts) plies
searched-more op [] plies i within here = absurd (omega (arith, within))
searched-more op (first ∷ firsts) [] i within here = absurd (omega (arith, here))
searched-more op (first ∷ firsts) (old ∷ plies) zero within here = refl
searched-more op (first ∷ firsts) (old ∷ plies) (suc i) within here =
    ap (λ (rest : List (Option ℕ)). entry_after op old first ∷ rest) (searched-more op firsts plies i (omega (arith, within)) (omega (arith, here)))

-- A search keeps the number of games.
pub length-searched : (op : Op) (firsts plies : List (Option ℕ)) → length (searched op firsts plies) ≡ length plies
length-searched op [] plies = refl
length-searched op (first ∷ firsts) [] = refl
length-searched op (first ∷ firsts) (old ∷ plies) = ap (λ n. suc n) (length-searched op firsts plies)

-- A game that is not looked at keeps its entry.
pub not_looked_at : (op : Op) (plies : List (Option ℕ)) (i : ℕ) (old first : Option ℕ) → slice_get plies i ≡ Some old
    → ((found : Option ℕ) → entry_after op old found ≡ old) → plies ≡ set plies i (entry_after op (get_or plies i None) first)
not_looked_at op plies i old first there kept =
    let here = get_or_from_slice_get plies i old None there in
    sym (set-get_or plies i None) ∙ ap (set plies i) (here ∙ sym (kept first) ∙ ap (λ (o : Option ℕ). entry_after op o first) (sym here))

-- A game's entry is joined with its first ply.
pub joined : (op : Op) (plies new : List (Option ℕ)) (i : ℕ) (old first found entry : Option ℕ) → slice_get plies i ≡ Some old → found ≡ first
    → entry ≡ entry_after op old found → new ≡ set plies i entry → new ≡ set plies i (entry_after op (get_or plies i None) first)
joined op plies new i old first found entry there same after is =
    is ∙ ap (set plies i) (after ∙ (λ j. entry_after op (sym (get_or_from_slice_get plies i old None there) j) (same j)))

-- One game more was searched.
pub search_more : (op : Op) (firsts plies now new : List (Option ℕ)) (i : ℕ) (first : Option ℕ) → now ≡ searched op (take i firsts) plies
    → i < length firsts → i < length plies → get_or firsts i None ≡ first → new ≡ set now i (entry_after op (get_or now i None) first)
    → new ≡ searched op (take (i + 1) firsts) plies
search_more op firsts plies now new i first done within here at is =
    is
    ∙ (λ j. set (done j) i (entry_after op (get_or (done j) i None) (sym at j)))
    ∙ ap (λ (o : Option ℕ). set (searched op (take i firsts) plies) i (entry_after op o (get_or firsts i None))) (searched-behind op firsts plies i)
    ∙ searched-more op firsts plies i within here
    ∙ ap (λ k. searched op (take k firsts) plies) (sym (add-one i))
