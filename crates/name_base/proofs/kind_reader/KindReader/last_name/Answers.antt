-- The last key is the name that was met last.
use Rattle.std.proofs.Common.{ap, ◌∙◌, Some}
use Rattle.name_base.proofs.MetLemmas.{last_is}
use Rattle.name_base.proofs.kind_reader.KindReader.last_name.Goals as goal

pub returns-in-Some : goal.returns-in-Some
returns-in-Some c =
    ap Some c.as_slice.ensures.value
    ∙ last_is (λ v. v.items) c.self.inside.names.keys c.self.inside.ids.items _ c.self.invariant.0 (ap (λ read. read.entries) c.self.view_is) c.in-Some.name.now c.in-Some.ensures.key
