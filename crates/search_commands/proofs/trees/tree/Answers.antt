use Rattle.std.proofs.Common.{◌≤◌, arith, subst, ap, sym, Option, ◌∙◌, refl, List, ℕ}
use Rattle.game_filter.specs.declared.op.Op.TheVariants.{And}
use Rattle.search_commands.proofs.trees.tree.Goals as goal
use Rattle.search_commands.proofs.trees.tree.Goals.{in-Ok, in-Err}
use Rattle.search_commands.specs.Trees.{tree_work, tree_said}
use Rattle.base_core.specs.Represents.{extents_of, sigs_of}
use Rattle.base_files.specs.Counters.{raised}
use Rattle.base_files.specs.Seen.{Seen}
use Rattle.pos_index.specs.Hits.{Index, IndexesAll, rows_told}
use Rattle.game_search.specs.Questions.{cost_of}
use Rattle.pos_search.specs.Searching.{are_read}
use Rattle.sig_index.specs.Costs.{price_by}
use Rattle.shell_state.specs.State.{games_of}
use Rattle.shell_state.proofs.Served.{line_serves, on_ok, search_cuts}
use Rattle.shell_state.proofs.IndexLaws.{indexes_all}
use Rattle.shell_state.proofs.Quietly.{held_by, filter_is, tables_with}
use Rattle.shell_state.specs.Slots.{exactly}
use Rattle.shell_state.specs.Stands.{Asks, AsksAll, Holding, Stands}
use Rattle.shell_state.specs.Meeting.{tree_of}
use Rattle.shell_state.proofs.PriceLaws.{position_price}

pub returns-clause-asks : goal.returns-clause-asks
returns-clause-asks g c =
    let P : Holding → Type 0 = λ h. Asks h (tree_work c.args.board.now c.args.side) (g.F.Files.asked c.args.files.now) (g.F.Files.asked c.read_tree.new.files) in
    let machine = c.machine.inside in
    let as-held = ap (λ (i : Option Index). price_by (cost_of And) (are_read (exactly c.args.board.now c.args.side) (rows_told i) (sigs_of machine.base)) (extents_of machine.base) machine.seat.filter) c.as_ref.ensures.value in
    subst P c.machine.view_is
    (omega (arith, c.read_tree.ensures.asks, as-held, position_price And (exactly c.args.board.now c.args.side) machine.seat.filter (held_by machine.base (tables_with machine.index machine.slots.watches) machine.seat.filter machine.seat.saved.items)))

pub returns-clause-serves : goal.returns-clause-serves
returns-clause-serves g c = λ s st.
    let st' = subst (λ (h : Holding). Stands h (g.F.Files.seen c.args.files.now) s) (sym c.machine.view_is) st in
    let is = subst (λ (i : Option Index). IndexesAll i (games_of s)) (sym c.as_ref.ensures.value) (indexes_all _ _ s st') in
    let machine = c.machine.inside in
    let here : Holding = held_by machine.base (tables_with machine.index machine.slots.watches) machine.seat.filter machine.seat.saved.items in
    elim c.match-read_tree.branch [
      | in-Ok w ↦
          rw (w.result-is, w.out-is)
          (line_serves w.write_line.result here (tree_work c.args.board.now c.args.side) w.as_slice.result.now (g.F.Files.seen c.read_tree.new.files) s _ _
          (subst (λ (x : Seen). Stands here x s) (sym c.read_tree.ensures.unchanged) st')
          (w.as_slice.ensures.value ∙ w.in-Ok.ensures.text st'.games s.shared.base st'.told st'.base is
          ∙ ap (λ (plies : List (Option ℕ)). tree_of (exactly c.args.board.now c.args.side) plies s.shared.base.games) (filter_is st'))
          w.write_line.ensures.written w.write_line.ensures.halted w.write_line.ensures.output)
      | in-Err w ↦
          rw (w.result-is, w.out-is)
          (search_cuts w.in-Err.halt s (tree_work c.args.board.now c.args.side) (tree_said s c.args.board.now c.args.side) (g.K.Sink.taken c.args.out.now) refl refl
          (w.in-Err.ensures.devices st'.games s.shared.base st'.told st'.base))
    ]

pub returns-clause-asked : goal.returns-clause-asked
returns-clause-asked g c =
    let first = g.F.Files.asked c.args.files.now in
    let new = g.F.Files.asked c.read_tree.new.files in
    let P : Holding → Type 0 = λ h. AsksAll h (tree_work c.args.board.now c.args.side) first new in
    let machine = c.machine.inside in
    let as-held = ap (λ (i : Option Index). price_by (cost_of And) (are_read (exactly c.args.board.now c.args.side) (rows_told i) (sigs_of machine.base)) (extents_of machine.base) machine.seat.filter) c.as_ref.ensures.value in
    elim c.match-read_tree.branch [
      | in-Ok w ↦
          rw (w.result-is)
          (on_ok _ w.write_line.result
          (subst P c.machine.view_is
          (subst (λ (n : ℕ). raised first n ≤ new)
          (as-held ∙ position_price And (exactly c.args.board.now c.args.side) machine.seat.filter (held_by machine.base (tables_with machine.index machine.slots.watches) machine.seat.filter machine.seat.saved.items))
          w.in-Ok.ensures.asked)))
      | in-Err w ↦ rw (w.result-is) tt
    ]
