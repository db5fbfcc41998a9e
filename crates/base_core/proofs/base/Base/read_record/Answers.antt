use Rattle.std.proofs.Common.{◌≡◌, ◌≤◌, ◌+◌, ◌∙◌, refl, sym, subst, take, arith}
use Rattle.std.proofs.lemmas.Option.{same_Some}
use Rattle.base_files.specs.declared.extent.Extent.{Extent}
use Rattle.base_files.specs.Told.{Tells, part_told}
use Rattle.index_entry.specs.declared.entry.Entry.{Entry}
use Rattle.base_core.proofs.CheckLaws.{ends_within}
use Rattle.base_core.proofs.GameLaws.{unchanged_told}
use Rattle.base_core.proofs.Results.{from_ok}
use Rattle.base_core.proofs.base.Base.read_record.Goals as goal

pub fetch-requires-clause-within : goal.fetch-requires-clause-within
fetch-requires-clause-within g c =
    let W : Extent → Type 0 = λ x. x.offset + x.len ≤ (g.F.Files.seen c.args.files.now).known in
    subst W (sym c.extent_of.ensures.extent) (omega (arith, c.requires.within, ends_within c.args.self.now.end c.entry-entry.result c.entry-entry.ensures.kept.placed))

pub returns-in-Err-clause-unchanged : goal.returns-in-Err-clause-unchanged
returns-in-Err-clause-unchanged g c =
    let T : Extent → Type 0 = λ x. Tells (part_told (g.F.Files.seen c.args.files.now).games x.offset x.len) (take x.len c.fetch.new.buf) in
    let tells = subst T c.extent_of.ensures.extent (from_ok c.fetch.result (T c.extent_of.result) c.if-is_err.ensures.value c.fetch.ensures.bytes) in
    unchanged_told (g.F.Files.seen c.args.files.now).games c.args.self.now c.args.i c.entry-entry.result _ c.in-Err.error c.entry-entry.ensures.at tells c.in-Err.ensures.why

pub returns-in-Ok-clause-read : goal.returns-in-Ok-clause-read
returns-in-Ok-clause-read g c = λ e at.
    let T : Extent → Type 0 = λ x. Tells (part_told (g.F.Files.seen c.args.files.now).games x.offset x.len) (take x.len c.fetch.new.buf) in
    let tells = subst T c.extent_of.ensures.extent (from_ok c.fetch.result (T c.extent_of.result) c.if-is_err.ensures.value c.fetch.ensures.bytes) in
    let same : c.entry-entry.result ≡ e = same_Some c.entry-entry.result e (sym c.entry-entry.ensures.at ∙ at) in
    let R : Entry → Type 0 = λ x. (c.entry-entry.result.len ≡ x.len) × Tells (part_told (g.F.Files.seen c.args.files.now).games x.offset x.len) (take x.len c.fetch.new.buf) in
    subst R same (refl, tells)
