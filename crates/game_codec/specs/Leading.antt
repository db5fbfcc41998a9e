-- Where the moves of a line lead while its tree is built. No public contract cites these words.
use Rattle.std.specs.Prelude.{◌≡◌, fold}
use Rattle.chess_laws.specs.declared.setup.Setup.{Setup}
use Rattle.chess_laws.specs.Step.{stepped}
use Rattle.game_tree.specs.Building.{Building, read_line}
use Rattle.game_tree.specs.Tree.{moves_of}
use Rattle.game_codec.specs.Place.{Place}

-- From this position the moves of the innermost line lead to that one.
abbrev pub Leads : Setup → Building → Setup → Type 0
Leads from b to = fold stepped from (moves_of (read_line b.current)) ≡ to

-- Wherever the moves led to the first place before, they lead to the second one now.
abbrev pub LeadsOn : Place → Building → Place → Building → Type 0
LeadsOn start before now b = (from : Setup) → Leads from before start.here.position → Leads from b now.here.position
