use Rattle.std.proofs.Common.{refl}
use Rattle.shell_commands.proofs.TurnLaws.{asks_same, causes_beside, kept_edits, kept_files, kept_reads, kept_room, kept_writes, save_carries, sound_still}
use Rattle.shell_commands.proofs.texts.write_text.Goals as goal
use Rattle.shell_state.proofs.Served.{on_ok}
use Rattle.shell_state.specs.Work.Price.{by_looks}

pub returns-in-Hits-clause-kept : goal.returns-in-Hits-clause-kept
returns-in-Hits-clause-kept g c = λ w.
    rw c.in-Hits.is
    (kept_writes _ _ _ _ _ _ _ _ refl refl (λ is. cc) (λ i other. refl) refl (on_ok _ c.hits.result (sound_still _ _ _ _ c.hits.ensures.same refl c.requires.sound)) c.hits.ensures.none_lost c.hits.ensures.causes)

pub returns-in-List-clause-kept : goal.returns-in-List-clause-kept
returns-in-List-clause-kept g c = λ w.
    rw c.in-List.is
    (kept_writes _ _ _ _ _ _ _ _ refl refl (λ is. cc) (λ i other. refl) refl (on_ok _ c.list.result (sound_still _ _ _ _ c.list.ensures.same refl c.requires.sound)) c.list.ensures.none_lost c.list.ensures.causes)

pub returns-in-Show-clause-kept : goal.returns-in-Show-clause-kept
returns-in-Show-clause-kept g c = λ w.
    rw c.in-Show.is
    (kept_room refl refl (λ is. cc) (on_ok _ c.show.result (sound_still _ _ _ _ c.show.ensures.same c.show.ensures.unchanged c.requires.sound)) c.show.ensures.unchanged c.show.ensures.unsaid c.show.ensures.asks c.show.ensures.none_lost c.show.ensures.causes)

pub returns-in-Export-clause-kept : goal.returns-in-Export-clause-kept
returns-in-Export-clause-kept g c = λ w.
    rw c.in-Export.is
    (kept_files refl refl (λ s st is. c.export.ensures.cut s st) (λ i other. refl) refl (on_ok _ c.export.result (sound_still _ _ _ _ c.export.ensures.same c.export.ensures.unchanged c.requires.sound)) c.export.ensures.unchanged (λ late. absurd cc)
    c.export.ensures.asks c.export.ensures.none_lost (causes_beside c.export.result _ _ _ _ _ c.export.ensures.causes))

pub returns-in-Tree-clause-kept : goal.returns-in-Tree-clause-kept
returns-in-Tree-clause-kept g c = λ w.
    rw c.in-Tree.is
    (kept_room refl refl (λ is. cc) (on_ok _ c.tree.result (sound_still _ _ _ _ c.tree.ensures.same c.tree.ensures.unchanged c.requires.sound)) c.tree.ensures.unchanged c.tree.ensures.unsaid c.tree.ensures.asks c.tree.ensures.none_lost c.tree.ensures.causes)

pub returns-in-Eco-clause-serves : goal.returns-in-Eco-clause-serves
returns-in-Eco-clause-serves g c = λ w s text st told. rw c.in-Eco.is (c.eco.ensures.serves s text st told)

pub returns-in-Eco-clause-kept : goal.returns-in-Eco-clause-kept
returns-in-Eco-clause-kept g c = λ w.
    rw c.in-Eco.is
    (kept_reads refl refl (λ is. cc) (λ i other. refl) refl c.eco.ensures.sound c.eco.ensures.unchanged (λ late. c.eco.ensures.unsaid) c.eco.ensures.asks c.eco.ensures.none_lost c.eco.ensures.causes)

pub returns-in-Twins-clause-kept : goal.returns-in-Twins-clause-kept
returns-in-Twins-clause-kept g c = λ w.
    rw c.in-Twins.is (kept_room refl refl (λ is. cc) c.twins.ensures.sound c.twins.ensures.unchanged c.twins.ensures.unsaid c.twins.ensures.asks c.twins.ensures.none_lost c.twins.ensures.causes)

pub returns-in-Index-clause-serves : goal.returns-in-Index-clause-serves
returns-in-Index-clause-serves g c = λ w s text st told. rw c.in-Index.is (c.index.ensures.serves s st)

pub returns-in-Index-clause-kept : goal.returns-in-Index-clause-kept
returns-in-Index-clause-kept g c = λ w.
    rw c.in-Index.is (kept_room refl refl (λ is. cc) c.index.ensures.sound c.index.ensures.unchanged c.index.ensures.unsaid c.index.ensures.asks c.index.ensures.none_lost c.index.ensures.causes)

pub returns-in-Save-clause-kept : goal.returns-in-Save-clause-kept
returns-in-Save-clause-kept g c = λ w.
    rw c.in-Save.is
    (kept_edits refl refl c.save.ensures.sound (λ s st. save_carries c.save.result _ _ s _ _ (c.save.ensures.serves s st) (c.save.ensures.carries s st)) (λ s text st. c.save.ensures.settled s st) (λ late. c.save.ensures.unsaid)
    c.save.ensures.choices (asks_same (by_looks (λ looks plies. 0)) c.args.machine.now _ _ c.save.ensures.none_asked) c.save.ensures.none_lost (causes_beside c.save.result _ _ _ _ _ c.save.ensures.causes))
