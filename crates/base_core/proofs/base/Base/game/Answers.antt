use Rattle.std.proofs.Common.{◌≡◌, ◌≤◌, ◌+◌, List, ap, ◌∙◌, sym, subst, take, arith}
use Rattle.std.proofs.lemmas.Option.{same_Some}
use Rattle.base_files.specs.declared.extent.Extent.{Extent}
use Rattle.base_files.specs.Told.{Tells, part_told}
use Rattle.game_tree.specs.Settle.{settled}
use Rattle.game_tree.specs.declared.head.Tag.{Tag}
use Rattle.game_codec.specs.Record.{IsRecord}
use Rattle.index_entry.specs.declared.entry.Entry.{Entry}
use Rattle.sig_index.specs.Signature.{IsSig}
use Rattle.base_core.specs.Entries.{head_of, sig_in}
use Rattle.base_core.specs.Represents.{Kept}
use Rattle.base_core.proofs.CheckLaws.{ends_within}
use Rattle.base_core.proofs.GameLaws.{game_told, unchanged_told}
use Rattle.base_core.proofs.Results.{from_ok}
use Rattle.base_core.proofs.base.Base.game.Goals as goal

pub fetch-requires-clause-within : goal.fetch-requires-clause-within
fetch-requires-clause-within g c =
    let W : Extent → Type 0 = λ x. x.offset + x.len ≤ (g.F.Files.seen c.args.files.now).known in
    subst W (sym c.extent_of.ensures.extent) (omega (arith, c.requires.within, ends_within c.args.self.now.end c.entry-entry.result c.entry-entry.ensures.kept.placed))

pub returns-in-Err-clause-unchanged : goal.returns-in-Err-clause-unchanged
returns-in-Err-clause-unchanged g c =
    let T : Extent → Type 0 = λ x. Tells (part_told (g.F.Files.seen c.args.files.now).games x.offset x.len) (take x.len c.fetch.new.buf) in
    let tells = subst T c.extent_of.ensures.extent (from_ok c.fetch.result (T c.extent_of.result) c.if-is_err.ensures.value c.fetch.ensures.bytes) in
    unchanged_told (g.F.Files.seen c.args.files.now).games c.args.self.now c.args.i c.entry-entry.result _ c.in-Err.error c.entry-entry.ensures.at tells c.in-Err.ensures.why

pub returns-clause-found : goal.returns-clause-found
returns-clause-found g c =
    let T : Extent → Type 0 = λ x. Tells (part_told (g.F.Files.seen c.args.files.now).games x.offset x.len) (take x.len c.fetch.new.buf) in
    let tells = subst T c.extent_of.ensures.extent (from_ok c.fetch.result (T c.extent_of.result) c.if-is_err.ensures.value c.fetch.ensures.bytes) in
    let head : c.in_ok-head.head ≡ settled (head_of c.args.self.now.names c.entry-entry.result c.in-Ok.read.1.items) =
    c.in_ok-head.ensures.head ∙ ap (λ (k : Kept). settled (head_of k.names c.entry-entry.result c.in-Ok.read.1.items)) c.self.view_is in
    game_told (g.F.Files.seen c.args.files.now).games c.args.self.now c.args.i c.entry-entry.result _ c.in-Ok.read.1.items c.in-Ok.read.0 c.in_ok-head.head c.entry-entry.ensures.at tells c.in-Ok.ensures.read head

pub returns-clause-shown : goal.returns-clause-shown
returns-clause-shown g c = λ e at.
    let same : c.entry-entry.result ≡ e = same_Some c.entry-entry.result e (sym c.entry-entry.ensures.at ∙ at) in
    let head : c.in_ok-head.head ≡ settled (head_of c.args.self.now.names c.entry-entry.result c.in-Ok.read.1.items) =
    c.in_ok-head.ensures.head ∙ ap (λ (k : Kept). settled (head_of k.names c.entry-entry.result c.in-Ok.read.1.items)) c.self.view_is in
    let S : Entry → Type 0 = λ x.
    (tags : List Tag) × (IsRecord (take x.len c.fetch.new.buf) tags c.in-Ok.read.0 × (IsSig c.in-Ok.read.0 (sig_in x) × (c.in_ok-head.head ≡ settled (head_of c.args.self.now.names x tags)))) in
    subst S same (c.in-Ok.read.1.items, (c.in-Ok.ensures.read, (c.in-Ok.ensures.same, head)))
