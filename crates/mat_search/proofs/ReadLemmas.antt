-- Games that are not read.
use Rattle.std.proofs.Common.{◌≡◌, ◌≤◌, ℕ, false, List, None, Some}
use Rattle.std.specs.Prelude.{slice_get}
use Rattle.base_files.specs.declared.extent.Extent.{Extent}
use Rattle.game_tree.specs.Game.{GameTree}
use Rattle.sig_index.specs.Games.{Holds}
use Rattle.sig_index.specs.declared.mat_query.MatQuery.{MatQuery}
use Rattle.sig_index.specs.declared.signature.Sig.{Sig}
use Rattle.sig_index.proofs.RecordLemmas.{game_legal, game_sound}
use Rattle.mat_search.specs.Matching.{first_of}
use Rattle.mat_search.specs.Passing.{passes}
use Rattle.mat_search.proofs.MatchLemmas.{first_none}
use Rattle.mat_search.proofs.PassLemmas.{refused}

-- A game that can't match does not.
pub unread : (told : List ℕ) (extents : List Extent) (sigs : List Sig) (list : List GameTree) (i : ℕ) (sig : Sig) (game : GameTree) (query : MatQuery)
    → Holds told extents sigs list → slice_get sigs i ≡ Some sig → slice_get list i ≡ Some game → 1 ≤ query.streak → passes sig query ≡ false
    → None ≡ first_of query game
unread told extents sigs list i sig game query holds kept there some not =
    let held = holds.each i sig game kept there in
    first_none query game (λ ply. refused game sig query ply some (game_sound _ held.tags game held.is_record) (game_legal _ held.tags game held.is_record) held.is_sig not)
