use Rattle.std.proofs.Common.{◌≡◌, ℕ, List, length, rules, sym, ap, ◌∙◌, subst}
use Rattle.std.proofs.lemmas.Result.{err_from_is_err_and}
use Rattle.base_files.specs.Seen.{committed}
use Rattle.block_store.specs.Placing.{IsEnd}
use Rattle.base_core.specs.Represents.{Kept}
use Rattle.base_core.specs.Saved.{MeansIt}
use Rattle.compact_base.specs.Compacting.{Compacts, IsCommitted, new_end}
use Rattle.compact_base.proofs.CommitLaws.{committed-so, compacts, drafted-count, end-stays, ends-there, in-room, means-it, why-not-copied, why-not-drafted}
use Rattle.compact_base.proofs.compacting.compact.Goals as goal

pub returns-in_err-draft-clause-why : goal.returns-in_err-draft-clause-why
returns-in_err-draft-clause-why g c =
    let told = why-not-drafted c.args.base.now (g.F.Files.seen c.args.files.now).games c.args.buf.now c.in_err-draft.field-0.0 c.in_err-draft.ensures.why in
    search (rules, told)

pub returns-in-Err-clause-why : goal.returns-in-Err-clause-why
returns-in-Err-clause-why g c =
    why-not-copied c.args.base.now (g.F.Files.seen c.args.files.now).games c.write_files.new.buf c.in-Err.error (in-room c.args.base.now c.in_ok-draft.draft c.in_ok-draft.ensures.drafted) c.in-Err.ensures.why

pub returns-in-Err-clause-at_end : goal.returns-in-Err-clause-at_end
returns-in-Err-clause-at_end g c = end-stays c.args.base.now.end (g.F.Files.seen c.args.files.now) (g.F.Files.seen c.write_files.new.files) c.requires.at_end c.in-Err.ensures.left

pub returns-clause-compacted : goal.returns-clause-compacted
returns-clause-compacted g c =
    let is : g.F.Files.seen c.write_files.new.files ≡ committed c.in_ok-names.names.items c.in_ok-names.index.items c.in_default.ensures.written.copied_to =
    c.in_default.ensures.written.put
    ∙ (ap (λ (n : List ℕ). committed n c.as_slice-2.result.now c.in_default.ensures.written.copied_to) c.as_slice.ensures.value
    ∙ ap (λ (x : List ℕ). committed c.in_ok-names.names.items x c.in_default.ensures.written.copied_to) c.as_slice-2.ensures.value) in
    subst (λ (k : Kept). Compacts c.args.base.now k (g.F.Files.seen c.args.files.now).games (g.F.Files.seen c.write_files.new.files).games) (sym c.adopt.ensures.adopted)
    (compacts c.args.base.now c.in_ok-draft.draft (new_end c.args.base.now.entries) (g.F.Files.seen c.args.files.now) c.in_default.ensures.written.copied_to (g.F.Files.seen c.write_files.new.files)
    c.in_ok-names.index.items c.in_ok-names.names.items c.in_ok-draft.ensures.drafted c.in_default.ensures.written.copied is)

pub returns-clause-means : goal.returns-clause-means
returns-clause-means g c =
    let is : g.F.Files.seen c.write_files.new.files ≡ committed c.in_ok-names.names.items c.in_ok-names.index.items c.in_default.ensures.written.copied_to =
    c.in_default.ensures.written.put
    ∙ (ap (λ (n : List ℕ). committed n c.as_slice-2.result.now c.in_default.ensures.written.copied_to) c.as_slice.ensures.value
    ∙ ap (λ (x : List ℕ). committed c.in_ok-names.names.items x c.in_default.ensures.written.copied_to) c.as_slice-2.ensures.value) in
    subst (λ (k : Kept). MeansIt k (g.F.Files.seen c.write_files.new.files)) (sym c.adopt.ensures.adopted)
    (means-it c.args.base.now c.in_ok-draft.draft (g.F.Files.seen c.args.files.now) c.in_default.ensures.written.copied_to (g.F.Files.seen c.write_files.new.files)
    c.in_ok-names.index.items c.in_ok-names.names.items c.in_ok-draft.ensures.drafted c.in_default.ensures.written.copied is c.in_ok-names.ensures.means)

pub returns-clause-committed : goal.returns-clause-committed
returns-clause-committed g c =
    let is : g.F.Files.seen c.write_files.new.files ≡ committed c.in_ok-names.names.items c.in_ok-names.index.items c.in_default.ensures.written.copied_to =
    c.in_default.ensures.written.put
    ∙ (ap (λ (n : List ℕ). committed n c.as_slice-2.result.now c.in_default.ensures.written.copied_to) c.as_slice.ensures.value
    ∙ ap (λ (x : List ℕ). committed c.in_ok-names.names.items x c.in_default.ensures.written.copied_to) c.as_slice-2.ensures.value) in
    subst (λ (k : Kept). IsCommitted c.args.base.now k (g.F.Files.seen c.args.files.now) (g.F.Files.seen c.write_files.new.files)) (sym c.adopt.ensures.adopted)
    (committed-so c.args.base.now c.in_ok-draft.draft (new_end c.args.base.now.entries) (g.F.Files.seen c.args.files.now) c.in_default.ensures.written.copied_to (g.F.Files.seen c.write_files.new.files)
    c.in_ok-names.index.items c.in_ok-names.names.items c.in_default.ensures.written.copied is c.in_ok-names.ensures.written)

pub returns-clause-count : goal.returns-clause-count
returns-clause-count g c = ap (λ (k : Kept). length k.entries) c.adopt.ensures.adopted ∙ drafted-count c.args.base.now c.in_ok-draft.draft c.in_ok-draft.ensures.drafted

pub returns-clause-saved : goal.returns-clause-saved
returns-clause-saved g c = ap (λ (k : Kept). k.unsaved) c.adopt.ensures.adopted ∙ c.in_ok-draft.ensures.drafted.saved

pub returns-clause-room : goal.returns-clause-room
returns-clause-room g c = in-room c.args.base.now c.in_ok-draft.draft c.in_ok-draft.ensures.drafted

pub returns-clause-at_end : goal.returns-clause-at_end
returns-clause-at_end g c =
    let is : g.F.Files.seen c.write_files.new.files ≡ committed c.in_ok-names.names.items c.in_ok-names.index.items c.in_default.ensures.written.copied_to =
    c.in_default.ensures.written.put
    ∙ (ap (λ (n : List ℕ). committed n c.as_slice-2.result.now c.in_default.ensures.written.copied_to) c.as_slice.ensures.value
    ∙ ap (λ (x : List ℕ). committed c.in_ok-names.names.items x c.in_default.ensures.written.copied_to) c.as_slice-2.ensures.value) in
    subst (λ (k : Kept). IsEnd k.end (g.F.Files.seen c.write_files.new.files)) (sym c.adopt.ensures.adopted)
    (ends-there c.args.base.now c.in_ok-draft.draft (g.F.Files.seen c.args.files.now) c.in_default.ensures.written.copied_to (g.F.Files.seen c.write_files.new.files)
    c.in_ok-names.index.items c.in_ok-names.names.items c.in_ok-draft.ensures.drafted c.in_default.ensures.written.copied is)

-- Want of memory says nothing.
pub returns-in_err-names-clause-why : goal.returns-in_err-names-clause-why
returns-in_err-names-clause-why g c =
    let p = err_from_is_err_and c.from_residual-in_err-names.result c.from_residual-in_err-names.ensures.1 in rw (p.1, p.2) tt

pub returns-in_err-names-clause-same : goal.returns-in_err-names-clause-same
returns-in_err-names-clause-same g c =
    let p = err_from_is_err_and c.from_residual-in_err-names.result c.from_residual-in_err-names.ensures.1 in rw (p.1, p.2) tt

pub returns-in_err-names-clause-cause : goal.returns-in_err-names-clause-cause
returns-in_err-names-clause-cause g c =
    let p = err_from_is_err_and c.from_residual-in_err-names.result c.from_residual-in_err-names.ensures.1 in rw (p.1, p.2) (λ is. cc)
