-- The search through the games, one after the other.
use Rattle.std.proofs.Common.{◌≡◌, ℕ, false, ◌&&◌, List, Option, None, Some, refl, sym, ap, ap₂, ◌∙◌}
use Rattle.std.specs.Prelude.{is_none, option_map, slice_get}
use Rattle.std.specs.Option.{option_or}
use Rattle.base_files.specs.declared.extent.Extent.{Extent}
use Rattle.cell_core.specs.declared.step.Move.{Move}
use Rattle.game_tree.specs.Game.{GameTree}
use Rattle.game_tree.specs.Replay.{next_at}
use Rattle.sig_index.specs.Games.{Holds}
use Rattle.sig_index.specs.declared.pos_query.PosQuery.{PosQuery}
use Rattle.sig_index.specs.Signature.{IsSig}
use Rattle.sig_index.specs.declared.signature.Sig.{Sig}
use Rattle.sig_index.proofs.RecordLemmas.{game_legal, game_sound}
use Rattle.pos_search.specs.Matching.{first_if_aside, first_of, first_on_main, hit_of}
use Rattle.pos_search.proofs.Words.{hit_aside}
use Rattle.pos_search.specs.Passing.{looks_into, passes}
use Rattle.pos_search.specs.Searching.{ply_of}
use Rattle.pos_search.proofs.FollowLemmas.{refused_aside, refused_main, unlooked_aside}

-- A game that can't match does not.
pub unread : (told : List ℕ) (extents : List Extent) (sigs : List Sig) (list : List GameTree) (i : ℕ) (sig : Sig) (game : GameTree) (query : PosQuery)
    → Holds told extents sigs list → slice_get sigs i ≡ Some sig → slice_get list i ≡ Some game → passes sig query ≡ false → None ≡ hit_of query game
unread told extents sigs list i sig game query holds kept there not =
    let held = holds.each i sig game kept there in
    let main = refused_main game sig query (game_sound _ held.tags game held.is_record) (game_legal _ held.tags game held.is_record) held.is_sig not in
    let aside = refused_aside game sig query held.is_sig not in
    λ j. option_or (option_map (λ (k : ℕ). (k, next_at game k)) (sym main j)) (option_map hit_aside (sym aside j))

-- The first ply of the main line is that of the game, where there is one or no variation is looked at.
pub main_is_first : (query : PosQuery) (game : GameTree) (sig : Sig) (found : Option ℕ) → IsSig game sig → found ≡ first_on_main query game
    → (is_none found && looks_into sig query) ≡ false → found ≡ first_of query game
main_is_first query game sig None is main not = ap₂ (λ (first aside : Option ℕ). option_or first aside) main (sym (unlooked_aside game sig query is not))
main_is_first query game sig (Some ply) is main not = ap (λ (first : Option ℕ). option_or first (first_if_aside query game)) main

-- The ply of a hit is the first.
pub ply_by : (first aside : Option ℕ) (next : ℕ → Option Move)
    → ply_of (option_or (option_map (λ (k : ℕ). (k, next k)) first) (option_map hit_aside aside)) ≡ option_or first aside
ply_by None None next = refl
ply_by None (Some k) next = refl
ply_by (Some k) aside next = refl

pub ply_is : (query : PosQuery) (game : GameTree) (hit : Option (ℕ × Option Move)) (ply : Option ℕ) → hit ≡ hit_of query game → ply ≡ ply_of hit → ply ≡ first_of query game
ply_is query game hit ply found is = is ∙ ap ply_of found ∙ ply_by (first_on_main query game) (first_if_aside query game) (next_at game)
