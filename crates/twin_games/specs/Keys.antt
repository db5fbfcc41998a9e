-- What the functions of this crate keep of games. No public contract cites these words.
use Rattle.std.specs.Prelude.{◌≡◌, ◌<◌, ℕ, unwrap_or, true, Bool, List, length}
use Rattle.std.specs.List.{list_any, range_with_len}
use Rattle.indexmap.specs.IndexMap.{IndexMap, get}
use Rattle.indexmap.specs.IndexSet.{IndexSet, contains}
use Rattle.cell_core.specs.Packed.{packed_of}
use Rattle.chess_laws.specs.declared.setup.Setup.{Setup}
use Rattle.chess_laws.specs.Position.{bits_of}
use Rattle.game_tree.specs.Game.{GameTree}
use Rattle.game_tree.specs.declared.head.Head.{Head}
use Rattle.sig_index.specs.Games.{head_in}
use Rattle.twin_games.specs.contracts.meeting.MetPartialEq.TheImpl as met_impl
use Rattle.twin_games.specs.contracts.pairing.PairingPartialEq.TheImpl as pairing_impl
use Rattle.twin_games.specs.declared.meeting.Met.{Met}
use Rattle.twin_games.specs.declared.opening.Opening.{Opening}
use Rattle.twin_games.specs.declared.opening.Start.{Start}
use Rattle.twin_games.specs.declared.pairing.Pairing.{Pairing}
use Rattle.twin_games.specs.Asking.{agreeing, is_shared}
use Rattle.twin_games.specs.Twins.{first_moves, game_in, matches}

-- These are the names, the date and the result of a head.
pub record IsPairing (pairing : Pairing) (head : Head) : Type 0 where
  pub white : pairing.white.now ≡ head.white
  pub black : pairing.black.now ≡ head.black
  pub date : pairing.date ≡ head.date
  pub result : pairing.result ≡ head.result

-- A position as it is compared.
abbrev pub start_of : Setup → Start
start_of p = record { board = packed_of p.board p.side; rights = bits_of p.rights; en_passant = p.en_passant }

-- These are the start and the first moves of a game.
pub record IsOpening (depth : ℕ) (opening : Opening) (game : GameTree) : Type 0 where
  pub start : opening.start ≡ start_of game.start
  pub moves : opening.moves.items ≡ first_moves depth game

-- This is what is kept of a game that was read.
pub record IsMet (depth : ℕ) (kept : Met) (head : Head) (game : GameTree) : Type 0 where
  pub pairing : IsPairing kept.pairing head
  pub opening : IsOpening depth kept.opening game

-- The tests by which the two are compared.
abbrev pub same_pairing : Pairing → Pairing → Bool
same_pairing = (pairing_impl.ghosts).eq

abbrev pub same_met : Met → Met → Bool
same_met = (met_impl.ghosts).eq

-- The number at a pairing.
abbrev pub count_in : {S : Type 0} → IndexMap Pairing ℕ S → Pairing → ℕ
count_in counts pairing = unwrap_or (get same_pairing counts pairing) 0

-- At each pairing stands how many undeleted ones of these heads have it.
abbrev pub AreCounts : {S : Type 0} → IndexMap Pairing ℕ S → List Head → Type 0
AreCounts counts heads = (head : Head) (pairing : Pairing) → IsPairing pairing head → count_in counts pairing ≡ agreeing head heads

-- What is kept of the first n games tells of a shared game whether one of them matches it.
abbrev pub HasMet : {S : Type 0} → List Head → List GameTree → ℕ → ℕ → IndexSet Met S → Type 0
HasMet heads games depth n seen =
    (i : ℕ) (kept : Met) → i < length heads → is_shared heads i ≡ true → IsMet depth kept (head_in heads i) (game_in games i)
    → contains same_met seen kept ≡ list_any (matches heads games depth i) (range_with_len 0 n)
