use Rattle.std.proofs.Common.{◌++◌, ◌∷◌, [], List, ℕ, slice_set, ap, ◌∙◌}
use Rattle.std.proofs.Math.Seq.{set-append_seam}
use Rattle.index_entry.specs.declared.entry.Entry.{Entry}
use Rattle.base_core.proofs.placing.add_entry.Goals as goal

pub returns-in-Ok-clause-added : goal.returns-in-Ok-clause-added
returns-in-Ok-clause-added g c =
    let old = c.args.entries.now in
    let e = c.args.entry.now in
    let f : Entry = record e { offset = c.in-Ok.offset } in
    c.set.ensures.set
    ∙ (ap (λ (all : List Entry). slice_set all c.len-i.result f) c.in_ok-push.ensures.pushed
    ∙ (ap (λ (k : ℕ). slice_set (old ++ e ∷ []) k f) c.len-i.ensures.len
    ∙ (set-append_seam old e [] f ∙ ap (λ (o : ℕ). old ++ (record e { offset = o }) ∷ []) c.in-Ok.ensures.offset)))
