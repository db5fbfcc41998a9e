-- The commands that search. This project's own.
use Rattle.std.specs.Prelude.{ℕ, List, min, Option, map}
use Rattle.base_core.specs.Base.{Held}
use Rattle.cell_core.specs.Board.{Men}
use Rattle.cell_core.specs.declared.man.Colour.{Colour}
use Rattle.game_filter.specs.Search.{searched}
use Rattle.game_filter.specs.declared.op.Op.{Op}
use Rattle.game_filter.specs.declared.op.Op.TheVariants.{Ignore}
use Rattle.game_tree.specs.Replay.{plies_of}
use Rattle.head_search.specs.Matching as head
use Rattle.mat_search.specs.Matching as material
use Rattle.mat_search.specs.Passing.{passes as material_passes}
use Rattle.pos_search.specs.Matching as position
use Rattle.sig_index.specs.declared.head_query.HeadQuery.{HeadQuery}
use Rattle.sig_index.specs.declared.mat_query.MatQuery.{MatQuery}
use Rattle.sig_index.specs.declared.pos_query.PosQuery.{PosQuery}
use Rattle.shell_state.specs.Meeting.{position_len}
use Rattle.shell_state.specs.Lines.{filter_line, hits_text}
use Rattle.shell_state.specs.Passing.{searched_len}
use Rattle.shell_state.specs.Slots.{exactly}
use Rattle.shell_state.specs.State.{State, games_of, with_filter}
use Rattle.shell_state.specs.Work.{Work, Look, quiet, reading}

-- search OP position MODE BOARD SIDE, and the same with vars
abbrev pub search_position_after : State → Op → PosQuery → State
search_position_after s op query = with_filter s (searched op (position.firsts_of query (games_of s)) s.seat.filter)

abbrev pub search_position_text : State → Op → PosQuery → List ℕ
search_position_text s op query = filter_line (search_position_after s op query).seat.filter

-- The first ply at which the head of a game is one that is asked for: 0, or none if it is not one. More than 1,023
-- plies count as 1,023.
abbrev pub first_by_head : HeadQuery → Held → Option ℕ
first_by_head query held = head.first_of query held.head (min (plies_of held.game) 1023)

-- search OP header ITEM ..
abbrev pub search_header_after : State → Op → HeadQuery → State
search_header_after s op query = with_filter s (searched op (map (first_by_head query) s.shared.base.games) s.seat.filter)

-- search OP material ITEM ..
abbrev pub search_material_after : State → Op → MatQuery → State
search_material_after s op query = with_filter s (searched op (material.firsts_of query (games_of s)) s.seat.filter)

-- The bytes of the records that a search for counts of men reads.
abbrev pub material_len : Op → MatQuery → List Look → List (Option ℕ) → ℕ
material_len op query looks plies = searched_len (λ look. look.len) (λ look. material_passes look.sig query) op plies looks

-- find BOARD SIDE: a search of all main lines for the board on all squares, which writes the games that are in.
abbrev pub find_after : State → Men → Colour → State
find_after s board side = search_position_after s Ignore (exactly board side)

abbrev pub find_work : Men → Colour → Work
find_work board side =
    reading (λ s. find_after s board side) (λ s. hits_text (find_after s board side).seat.filter) (position_len Ignore (exactly board side))

-- What the searches do, which tell how many games are in, and `hits`, which writes those that are.
abbrev pub search_position_work : Op → PosQuery → Work
search_position_work op query = reading (λ s. search_position_after s op query) (λ s. search_position_text s op query) (position_len op query)

abbrev pub search_material_work : Op → MatQuery → Work
search_material_work op query =
    reading (λ s. search_material_after s op query) (λ s. filter_line (search_material_after s op query).seat.filter) (material_len op query)

abbrev pub search_header_work : Op → HeadQuery → Work
search_header_work op query = quiet (λ s. search_header_after s op query) (λ s. filter_line (search_header_after s op query).seat.filter)

abbrev pub hits_work : Work
hits_work = quiet (λ s. s) (λ s. hits_text s.seat.filter)
