-- What a tree counts of a game (this project's own, after Scid's tree window).
use Rattle.std.specs.Prelude.{ℕ, Option}
use Rattle.cell_core.specs.declared.man.Colour.{Colour}
use Rattle.cell_core.specs.declared.man.Colour.TheVariants.{White, Black}
use Rattle.cell_core.specs.declared.step.Move.{Move}
use Rattle.cell_core.specs.Man.{other}
use Rattle.game_tree.specs.declared.head.Head.{Head}
use Rattle.game_tree.specs.declared.head.Outcome.{Outcome}
use Rattle.tree_rows.specs.declared.hit.GameHit.{GameHit}

-- The rating of a side, of those of White and of Black.
abbrev pub rating_from : Colour → ℕ → ℕ → ℕ
rating_from White white black = white
rating_from Black white black = black

-- A game that meets the position with this side to move: the move after its first match, or none at its end, and its
-- result. It also has the ratings of the side to move and of the other side, and its year, 0 if it is not known.
abbrev pub hit_from : Option Move → Colour → Outcome → ℕ → ℕ → ℕ → GameHit
hit_from next side outcome white black year =
    record {
      next = next;
      result = outcome;
      mover = rating_from side white black;
      other = rating_from (other side) white black;
      year = year;
    }

-- The same of a game with this head: its ratings are those of every kind, 0 if a side has none.
abbrev pub hit_of : Option Move → Colour → Head → GameHit
hit_of next side head = hit_from next side head.result head.white_rating.value head.black_rating.value head.date.year
