-- The commands that show what is there. This project's own.
use Rattle.std.specs.Fmt.{decimal}
use Rattle.std.specs.Option.{option_map_or}
use Rattle.std.specs.Prelude.{ℕ, count_by, List, ◌++◌, codes, if◌then◌else◌, length, []}
use Rattle.base_core.specs.Base.{Base}
use Rattle.shell_state.specs.Lines.{line_of}
use Rattle.shell_state.specs.State.{State}
use Rattle.shell_state.specs.Work.{Work, quiet}

-- info: how many games there are, how many of them are marked as deleted, and how many names of each kind. Behind them
-- stand whether there are changes that are not saved, and the depth of the position index, or that there is none.
abbrev pub info_text : State → List ℕ
info_text s =
    let base : Base = s.shared.base in
    (codes "games " ++ decimal (length base.games) ++ codes " deleted " ++ decimal (count_by (λ held. held.head.deleted) base.games)
    ++ codes " players " ++ decimal (length base.names.players)
    ++ (codes " events " ++ decimal (length base.names.events) ++ codes " sites " ++ decimal (length base.names.sites)
    ++ codes " rounds " ++ decimal (length base.names.rounds)))
    ++ ((if s.shared.unsaved then codes " unsaved yes" else codes " unsaved no")
    ++ option_map_or (λ depth. codes " index " ++ decimal depth ++ codes "\n") s.shared.index (codes " index off\n"))

abbrev pub info_work : Work
info_work = quiet (λ s. s) info_text

-- quit, where the script ends
abbrev pub quit_work : Work
quit_work = quiet (λ s. s) (λ s. if s.shared.unsaved then line_of (codes "unsaved") else [])
