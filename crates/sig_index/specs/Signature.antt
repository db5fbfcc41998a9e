-- The signature of a game: what of it decides that some searches need not read it (this project's own, but the counts and the marks of
-- promotions, which Scid's format keeps).
use Rattle.std.specs.Prelude.{◌≡◌, ◌-◌, ◌<◌, ◌≤◌, ℕ, min, not, if◌then◌else◌, List, [], ◌∷◌, ◌++◌, length, map, replicate}
use Rattle.std.specs.List.{filter, range_with_len}
use Rattle.cell_core.specs.declared.man.Kind.TheVariants.{Pawn}
use Rattle.cell_core.specs.Board.{Men}
use Rattle.cell_core.specs.Man.{same_kind}
use Rattle.chess_laws.specs.Counts.{count_of, is_home, of_each}
use Rattle.chess_laws.specs.declared.setup.Setup.{Setup}
use Rattle.game_tree.specs.Game.{GameTree, has_own_start}
use Rattle.game_tree.specs.Replay.{plies_of, position_at}
use Rattle.game_tree.specs.Promotions.{has_promotion, has_underpromotion}
use Rattle.game_tree.specs.Counts.{variations_of, comments_of, nags_of}
use Rattle.index_entry.specs.Counts.{count_code}
use Rattle.index_entry.specs.Entry.{AreCounts, AreHomeValues}
use Rattle.index_entry.specs.declared.entry.Entry.{Entry}
use Rattle.sig_index.specs.declared.signature.Sig.{Sig}
use Rattle.sig_index.specs.declared.signature.HomeList.{HomeList}

-- The men of a board, in the order of the ten counts. More than three of a kind count as three, but for pawns.
abbrev pub material_of : Men → List ℕ
material_of men = of_each (λ c kind. if same_kind kind Pawn then count_of men c kind else min (count_of men c kind) 3)

-- The home values of all pawns.
abbrev pub all_homes : List ℕ
all_homes = range_with_len 0 16

-- The home values among some whose pawns are not at home in the first of these positions, and then those of the others that are not at
-- home in the second, and so on.
abbrev pub leaving : List ℕ → List Setup → List ℕ
leaving homes [] = []
leaving homes (p ∷ positions) =
    filter (λ value. not (is_home p.board value)) homes ++ leaving (filter (λ value. is_home p.board value) homes) positions

-- The home values of the pawns that left their own squares along the main line, by moving or by being captured, in their order: by the
-- positions after each of its moves.
abbrev pub left_of : GameTree → List ℕ
left_of game = leaving all_homes (map (position_at game) (range_with_len 1 (plies_of game)))

-- Home values as a list of sixteen that has zeros behind them.
abbrev pub home_list : List ℕ → HomeList
home_list values = record { count = length values; values = values ++ replicate (16 - length values) 0 }

-- The signature of a game: of the last position of its main line, of that line, and of all its lines. An own start is a start other than
-- the initial position (FIDE Laws, Article 2.3), and has no home values. More than 1,023 plies count as 1,023.
unfoldable pub sig_of : GameTree → Sig
sig_of game = record {
  material = material_of (position_at game (plies_of game)).board;
  home = home_list (if has_own_start game then [] else left_of game);
  plies = min (plies_of game) 1023;
  promo = has_promotion game;
  under = has_underpromotion game;
  own_start = has_own_start game;
  vars = count_code (variations_of game);
  comments = count_code (comments_of game);
  nags = count_code (nags_of game);
}

-- It is the game's signature.
abbrev pub IsSig : GameTree → Sig → Type 0
IsSig game s = s ≡ sig_of game

-- The bounds of a signature, which are those of the fields of an entry: at most 16 home values, each below 16.
pub record IsSigBounded (sig : Sig) : Type 0 where
  pub material : AreCounts sig.material
  pub home_count : sig.home.count ≤ 16
  pub home : AreHomeValues sig.home.count sig.home.values
  pub plies : sig.plies ≤ 1023
  pub vars : sig.vars < 16
  pub comments : sig.comments < 16
  pub nags : sig.nags < 16

-- The signature of the game as an entry of the index has it: its derived fields.
abbrev pub sig_in : Entry → Sig
sig_in e = record {
  material = e.material;
  home = record { count = e.home_count; values = e.home };
  plies = e.plies;
  promo = e.promo;
  under = e.under;
  own_start = e.own_start;
  vars = e.vars;
  comments = e.comments;
  nags = e.nags;
}
