-- The room for the open lines of a walk as the code keeps it. No public contract cites these words.
use Rattle.std.specs.Prelude.{List, Option, map, unwrap_or}
use Rattle.game_codec.specs.Place.{beginning}
use Rattle.game_codec.specs.Start.{standard_start}
use Rattle.game_codec.specs.declared.all_walk.OpenLine.{OpenLine}
use Rattle.game_codec.specs.declared.all_walk.OuterLines.{OuterLines}

-- The line of the initial position, without a move. It stands at a place that keeps none.
abbrev pub blank : OpenLine
blank = record { place = beginning 0 standard_start; ply = 0 }

abbrev pub line_in : Option OpenLine → OpenLine
line_in place = unwrap_or place blank

-- The lines that the room keeps, from the main line on.
abbrev pub kept_in : OuterLines → List OpenLine
kept_in outer = map line_in outer.lines.items
