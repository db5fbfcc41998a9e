-- The search through the games, one after the other.
use Rattle.std.proofs.Common.{◌≡◌, ℕ, zero, suc, ◌+◌, ◌<◌, ◌≤◌, Bool, true, false, cond, ◌&&◌, List, [], ◌∷◌, Option, None, Some, length, map, get_or, set, take, refl, sym, ap, ◌∙◌, inl, inr, arith}
use Rattle.std.specs.Prelude.{is_some, option_map, slice_get}
use Rattle.std.proofs.lemmas.Bool.{cases_order}
use Rattle.std.proofs.lemmas.Grind.{get_or-set_at}
use Rattle.std.proofs.lemmas.List.{get_or-set_other, length-map, set-get_or, take_all}
use Rattle.std.proofs.lemmas.Option.{get_or_from_slice_get, slice_get-map}
use Rattle.base_files.specs.declared.extent.Extent.{Extent}
use Rattle.game_filter.specs.Search.{entry_after, looks_at, searched}
use Rattle.game_filter.specs.declared.op.Op.{Op}
use Rattle.game_filter.specs.declared.op.Op.TheVariants.{Ignore, And, Or}
use Rattle.game_filter.proofs.Searches.{search_more}
use Rattle.game_tree.specs.Game.{GameTree}
use Rattle.sig_index.specs.declared.signature.Sig.{Sig}
use Rattle.sig_index.proofs.CostLemmas.{Untouched}
use Rattle.game_search.specs.Questions.{cost_of, reads_from}

-- ---- the price

-- Whether one game has to be read.
read_at : (reads : ℕ → Sig → Bool) (from i n : ℕ) (sigs : List Sig) (sig : Sig) → from + i ≡ n → slice_get sigs i ≡ Some sig → slice_get (reads_from reads from sigs) i ≡ Some (reads n sig)
read_at reads from i n [] sig is there = absurd (cc)
read_at reads from zero n (s ∷ sigs) sig is there =
    let same : s ≡ sig = cc in
    ap (λ (z : Sig). Some (reads from z)) same ∙ ap (λ (m : ℕ). Some (reads m sig)) (omega (arith, is))
read_at reads from (suc i) n (s ∷ sigs) sig is there = read_at reads (suc from) i n sigs sig (omega (arith, is)) there

pub is_read_at : (reads : ℕ → Sig → Bool) (i : ℕ) (sigs : List Sig) (sig : Sig) → slice_get sigs i ≡ Some sig → slice_get (reads_from reads 0 sigs) i ≡ Some (reads i sig)
is_read_at reads i sigs sig there = read_at reads 0 i i sigs sig (omega arith) there

-- What a game costs that is looked at.
pub looked_cost : (op : Op) (read : Bool) (extent : Extent) (plies : List (Option ℕ)) (i : ℕ) (old : Option ℕ) → slice_get plies i ≡ Some old
    → looks_at op old ≡ true → cond read extent.len 0 ≡ cost_of op read extent (get_or plies i None)
looked_cost op read extent plies i old there looks =
    (λ j. cond (sym looks j && read) extent.len 0)
    ∙ ap (cost_of op read extent) (sym (get_or_from_slice_get plies i old None there))

-- A game that is looked at has its first matching ply.
pub looked_entry : (op : Op) (old first : Option ℕ) → looks_at op old ≡ true → first ≡ entry_after op old first
looked_entry Ignore old first looks = refl
looked_entry And (Some ply) first looks = refl
looked_entry And None first looks = absurd (cc)
looked_entry Or (Some ply) first looks = absurd (cc)
looked_entry Or None first looks = refl

-- A game that was out and stays out needs no entry anew.
pub stays_out : (plies : List (Option ℕ)) (i : ℕ) (old first : Option ℕ) → slice_get plies i ≡ Some old → is_some old ≡ false → is_some first ≡ false
    → plies ≡ set plies i first
stays_out plies i None None there out stays = sym (set-get_or plies i None) ∙ ap (set plies i) (get_or_from_slice_get plies i None None there)
stays_out plies i None (Some ply) there out stays = absurd (cc)
stays_out plies i (Some ply) first there out stays = absurd (cc)

-- ---- the entries

-- The first matching ply of a game.
first_at : (first : GameTree → Option ℕ) (list : List GameTree) (i : ℕ) (game : GameTree) → slice_get list i ≡ Some game → get_or (map first list) i None ≡ first game
first_at first list i game there =
    get_or_from_slice_get (map first list) i (first game) None
    (slice_get-map first list i ∙ ap (option_map first) there)

-- One game more was searched.
pub game_more : (op : Op) (first : GameTree → Option ℕ) (list : List GameTree) (plies now new : List (Option ℕ)) (i : ℕ) (game : GameTree)
    → now ≡ searched op (take i (map first list)) plies → i < length list → i < length plies → slice_get list i ≡ Some game
    → new ≡ set now i (entry_after op (get_or now i None) (first game)) → new ≡ searched op (take (i + 1) (map first list)) plies
game_more op first list plies now new i game done within here there is =
    search_more op (map first list) plies now new i (first game) done (omega (arith, within, length-map list first)) here
    (first_at first list i game there) is

-- All were.
pub all_searched : (op : Op) (first : GameTree → Option ℕ) (list : List GameTree) (plies now : List (Option ℕ)) (i : ℕ) → now ≡ searched op (take i (map first list)) plies
    → length list ≤ i → now ≡ searched op (map first list) plies
all_searched op first list plies now i done past =
    done
    ∙ ap (λ (firsts : List (Option ℕ)). searched op firsts plies)
    (take_all i (map first list) (omega (arith, past, length-map list first)))

-- ---- the entries of games that are not read

-- A game's entry is joined with its first ply, where it was among the games so far or is the one more.
pub entry_more : (op : Op) (old now new : List (Option ℕ)) (i k : ℕ) (ply first : Option ℕ) → k < i + 1 → i < length now → Untouched old now i → new ≡ set now i ply
    → (k < i → get_or now k None ≡ entry_after op (get_or old k None) first) → (k ≡ i → new ≡ set now i (entry_after op (get_or now i None) first))
    → get_or new k None ≡ entry_after op (get_or old k None) first
entry_more op old now new i k ply first within here rest is before at =
    elim (cases_order k i) [
      | inl same ↦
          ap (λ (l : List (Option ℕ)). get_or l k None) (at same) ∙ get_or-set_at now i k (entry_after op (get_or now i None) first) None same here
          ∙ ap (λ (o : Option ℕ). entry_after op o first) (rest i (omega arith) ∙ ap (λ (n : ℕ). get_or old n None) (sym same))
      | inr (inl less) ↦ ap (λ (l : List (Option ℕ)). get_or l k None) is ∙ (get_or-set_other now i k ply None (λ same. omega (arith, same, less)) ∙ before less)
      | inr (inr more) ↦ absurd (omega (arith, within, more))
    ]
