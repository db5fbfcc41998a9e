use Rattle.std.proofs.Common.{refl, inl}
use Rattle.edit_commands.specs.Compacting.{compact_work}
use Rattle.edit_commands.specs.Editing.{tag_work}
use Rattle.intake_commands.specs.Importing.{replace_work}
use Rattle.shell_commands.proofs.ShownLaws.{body_broken, edit_broken, line_but}
use Rattle.shell_commands.proofs.TurnLaws.{asks_same, causes_beside, causes_silent, kept_edits, unsaid_none}
use Rattle.shell_commands.proofs.changes.edit_line.Goals as goal
use Rattle.shell_state.proofs.CarryLaws.{if_err}
use Rattle.shell_state.specs.Work.Price.{by_looks}

pub returns-in-Import-clause-line : goal.returns-in-Import-clause-line
returns-in-Import-clause-line g c = λ w s text st left. rw c.in-Import.is (c.import.ensures.serves s text st left)

pub returns-in-Import-clause-kept : goal.returns-in-Import-clause-kept
returns-in-Import-clause-kept g c = λ w.
    rw c.in-Import.is
    (kept_edits refl refl c.import.ensures.sound c.import.ensures.carries (λ s text st. if_err c.import.result _ tt) (λ late. absurd cc) c.import.ensures.choices (asks_same (by_looks (λ looks plies. 0)) c.args.machine.now _ _ c.import.ensures.none_asked) c.import.ensures.none_lost
    c.import.ensures.causes)

pub returns-in-Replace-clause-line : goal.returns-in-Replace-clause-line
returns-in-Replace-clause-line g c = λ w s text st left.
    rw c.in-Replace.is
    (line_but c.replace_line.result c.replace_line.new.machine (replace_work c.in-Replace.number text) _ s _ (c.replace_line.ensures.line s text st left) (c.replace_line.ensures.stands s text st left)
    (body_broken c.replace_line.result s (replace_work c.in-Replace.number text) refl refl refl c.replace_line.ensures.devices))

pub returns-in-Replace-clause-kept : goal.returns-in-Replace-clause-kept
returns-in-Replace-clause-kept g c = λ w.
    rw c.in-Replace.is
    (kept_edits refl refl c.replace_line.ensures.sound c.replace_line.ensures.carries (λ s text st. if_err c.replace_line.result _ tt) (λ late. unsaid_none c.replace_line.result _) c.replace_line.ensures.choices
    (asks_same (by_looks (λ looks plies. 0)) c.args.machine.now _ _ c.replace_line.ensures.none_asked) (λ told grew. grew) (causes_silent c.replace_line.result _ _ _ _ _ c.replace_line.ensures.causes))

pub returns-in-Tag-clause-line : goal.returns-in-Tag-clause-line
returns-in-Tag-clause-line g c = λ w s text st left.
    rw c.in-Tag.is
    (line_but c.tag_line.result c.tag_line.new.machine (tag_work c.in-Tag.number c.in-Tag.edit) _ s _ (c.tag_line.ensures.line s st) (c.tag_line.ensures.stands s st)
    (edit_broken c.tag_line.result s (tag_work c.in-Tag.number c.in-Tag.edit) refl refl (c.tag_line.ensures.devices s st)))

pub returns-in-Tag-clause-kept : goal.returns-in-Tag-clause-kept
returns-in-Tag-clause-kept g c = λ w.
    rw c.in-Tag.is
    (kept_edits refl refl c.tag_line.ensures.sound c.tag_line.ensures.carries (λ s text st. if_err c.tag_line.result _ tt) (λ late. unsaid_none c.tag_line.result _) c.tag_line.ensures.choices c.tag_line.ensures.asks (λ told grew. grew)
    (causes_beside c.tag_line.result _ _ _ _ _ (causes_silent c.tag_line.result _ _ 0 0 _ c.tag_line.ensures.causes)))

pub returns-in-Compact-clause-line : goal.returns-in-Compact-clause-line
returns-in-Compact-clause-line g c = λ w s text st left.
    rw c.in-Compact.is
    (line_but c.compact_line.result c.compact_line.new.machine compact_work _ s _ (c.compact_line.ensures.line s st) (c.compact_line.ensures.stands s st)
    (edit_broken c.compact_line.result s compact_work refl refl (c.compact_line.ensures.devices s st)))

pub returns-in-Compact-clause-behind : goal.returns-in-Compact-clause-behind
returns-in-Compact-clause-behind g c = λ w s text st. rw c.in-Compact.is (c.compact_line.ensures.stands s st)

pub returns-in-Compact-clause-kept : goal.returns-in-Compact-clause-kept
returns-in-Compact-clause-kept g c = λ w.
    rw c.in-Compact.is
    (kept_edits refl refl c.compact_line.ensures.sound c.compact_line.ensures.carries (λ s text st. if_err c.compact_line.result _ (inl refl)) (λ late. unsaid_none c.compact_line.result _) c.compact_line.ensures.choices
    c.compact_line.ensures.asks (λ told grew. grew) (causes_beside c.compact_line.result _ _ _ _ _ (causes_silent c.compact_line.result _ _ 0 0 _ c.compact_line.ensures.causes)))
