use Rattle.std.proofs.Common.{List, ℕ, ap, ◌∙◌}
use Rattle.base_files.specs.Seen.{committed}
use Rattle.mend_base.proofs.DeviceLaws.{on-ok-so}
use Rattle.mend_base.proofs.MendLaws.{puts-it}
use Rattle.mend_base.proofs.mending.put.Goals as goal

pub returns-clause-means : goal.returns-clause-means
returns-clause-means g c =
    let old = g.N.Files.seen c.args.new.now in
    let index = c.in_ok-names.index.items in
    let names = c.in_ok-names.names.items in
    on-ok-so _ _ c.commit.result
    (λ is. puts-it old (g.N.Files.seen c.commit.new.new) c.args.draft.now index names
    (is ∙ (ap (λ (n : List ℕ). committed n c.as_slice-2.result.now old) c.as_slice.ensures.value ∙ ap (λ (i : List ℕ). committed names i old) c.as_slice-2.ensures.value)) c.in_ok-names.ensures.means)
    c.commit.ensures.committed
