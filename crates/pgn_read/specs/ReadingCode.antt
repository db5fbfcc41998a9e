-- A code of a game's reading, by which proofs tell its values apart.
use Rattle.std.specs.Prelude.{Bool, List, refl}
use Rattle.std.specs.Coded.{Coded, code_by, coded×, coded_bool, coded_list}
use Rattle.chess_laws.specs.declared.setup.Setup.{Setup}
use Rattle.chess_laws.specs.contracts.setup.Setup as setup
use Rattle.game_tree.specs.declared.head.Tag.{Tag}
use Rattle.game_tree.specs.contracts.head.Tag as tag
use Rattle.game_tree.specs.Building.{Building, coded_building}
use Rattle.pgn_read.specs.Turns.{Turn, coded_turn}
use Rattle.pgn_read.specs.Reading.{Reading}

abbrev pub coded_reading : Coded Reading
coded_reading =
    code_by (List Tag × (Bool × (Setup × (Building × (Turn × List Turn)))))
    (coded× (coded_list tag.the_row.coded) (coded× coded_bool (coded× setup.the_row.coded
    (coded× coded_building (coded× coded_turn (coded_list coded_turn))))))
    (λ r. (r.tags, (r.in_moves, (r.start, (r.moves, (r.turn, r.outer))))))
    (λ t. record {
      tags = t.0;
      in_moves = t.1.0;
      start = t.1.1.0;
      moves = t.1.1.1.0;
      turn = t.1.1.1.1.0;
      outer = t.1.1.1.1.1;
    })
    (λ _. refl)
