use Rattle.std.proofs.Common.{List, ℕ, ap, ◌∙◌}
use Rattle.mend_base.specs.Entries.{head_found}
use Rattle.mend_base.specs.Loose.{front_by, marks_of}
use Rattle.mend_base.specs.Ways.{known_entries}
use Rattle.mend_base.proofs.LooseLaws.{lengthened-so}
use Rattle.mend_base.proofs.loose.lengthened.Goals as goal

pub returns-in-Ok-clause-index : goal.returns-in-Ok-clause-index
returns-in-Ok-clause-index g c =
    let end = c.args.loaded.now.end in
    let games = (g.F.Files.seen c.args.old.now).games in
    lengthened-so games end c.args.loaded.now.index.items c.as_slice-3.result.now c.in_ok-index.index.items c.add_blocks.new.index.items c.requires.told
    (c.as_slice-3.ensures.value ∙ (c.in_ok-marks.ensures.marks ∙ ap (λ (i : List ℕ). marks_of i end (known_entries i)) c.as_slice.ensures.value))
    (c.in_ok-index.ensures.front ∙ ap (λ (i : List ℕ). front_by i (head_found i)) c.as_slice-2.ensures.value) c.in-Ok.ensures.added
