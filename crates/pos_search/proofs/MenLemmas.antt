-- Men never come back.
use Rattle.std.proofs.Common.{◌≡◌, ℕ, ◌+◌, ◌-◌, ◌≤◌, arith}
use Rattle.std.specs.Prelude.{sum}
use Rattle.cell_core.specs.declared.man.Colour.{Colour}
use Rattle.cell_core.specs.declared.man.Colour.TheVariants.{White, Black}
use Rattle.cell_core.specs.declared.man.Kind.TheVariants.{Queen, Rook, Bishop, Knight, Pawn}
use Rattle.cell_core.specs.Board.{Men}
use Rattle.chess_laws.specs.Counts.{count_of, counts_of}
use Rattle.chess_laws.specs.Position.{Sound}
use Rattle.game_tree.specs.Game.{GameTree}
use Rattle.game_tree.specs.Legal.{IsLegalGame}
use Rattle.game_tree.specs.Replay.{position_at}
use Rattle.sig_index.proofs.SkippingLemmas.{game-pays}

-- The sum of the ten counts.
abbrev men_in : Men → ℕ
men_in men = sum (counts_of men)

-- What rose was paid by pawns, so the five kinds together did not rise.
five : (q r b n p q' r' b' n' p' : ℕ) → (q' - q) + ((r' - r) + (b' - b) + (n' - n)) + p' ≤ p → q' + r' + b' + n' + p' ≤ q + r + b + n + p
five q r b n p q' r' b' n' p' paid = omega (arith, paid)

side_of : Men → Colour → ℕ
side_of men c = count_of men c Queen + count_of men c Rook + count_of men c Bishop + count_of men c Knight + count_of men c Pawn

both_sides : (men : Men) → men_in men ≡ side_of men White + side_of men Black
unfolding side_of
both_sides men = omega arith

pub men_fall : (game : GameTree) (i j : ℕ) → Sound game.start → IsLegalGame game → i ≤ j
    → men_in (position_at game j).board ≤ men_in (position_at game i).board
unfolding side_of
men_fall game i j sound legal later =
    let old = (position_at game i).board in
    let new = (position_at game j).board in
    let pays = game-pays game i j sound legal later in
    omega (arith, both_sides old, both_sides new, falls old new White (pays.paid White), falls old new Black (pays.paid Black))
  where
    falls : (old new : Men) (c : Colour)
        → (count_of new c Queen - count_of old c Queen) + ((count_of new c Rook - count_of old c Rook) + (count_of new c Bishop - count_of old c Bishop) + (count_of new c Knight - count_of old c Knight)) + count_of new c Pawn ≤ count_of old c Pawn
        → side_of new c ≤ side_of old c
    falls old new c paid =
        five (count_of old c Queen) (count_of old c Rook) (count_of old c Bishop) (count_of old c Knight) (count_of old c Pawn)
        (count_of new c Queen) (count_of new c Rook) (count_of new c Bishop) (count_of new c Knight) (count_of new c Pawn) paid
