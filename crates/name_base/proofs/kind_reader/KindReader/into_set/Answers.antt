-- All ids are there, so the names by id are names of a kind.
use Rattle.std.proofs.Common.{◌≤◌, ℕ, List, length, map, ap, sym, ◌∙◌, subst}
use Rattle.std.specs.List.{zip}
use Rattle.name_base.specs.KindRead.{AreMet}
use Rattle.name_base.specs.NamesFile.{Entry}
use Rattle.name_base.specs.Reading.{by_id}
use Rattle.name_base.proofs.LoopLemmas.{names_by_id}
use Rattle.name_base.proofs.PlaceLemmas.{length_met}
use Rattle.name_base.proofs.kind_reader.KindReader.into_set.Goals as goal

pub put_by_id-requires-clause-met : goal.put_by_id-requires-clause-met
put_by_id-requires-clause-met c =
    let seen = ap (λ ids. map (λ p. record { id = p.1; name = p.0.items }) (zip c.self.inside.names.keys ids)) c.as_mut_slice.ensures.value ∙ ap (λ r. r.entries) c.self.view_is in
    let count = sym (length_met (λ v. v.items) c.self.inside.names.keys c.as_mut_slice.result.now (ap length c.as_mut_slice.ensures.value ∙ c.self.invariant.0)) ∙ ap length seen ∙ c.requires.all in
    subst (λ (n : ℕ). AreMet n (map (λ p. record { id = p.1; name = p.0.items }) (zip c.self.inside.names.keys c.as_mut_slice.result.now))) (sym count)
    (subst (λ (es : List Entry). AreMet c.args.self.count es) (sym seen) c.requires.met)

pub of-requires : goal.of-requires
of-requires c =
    let seen = ap (λ ids. map (λ p. record { id = p.1; name = p.0.items }) (zip c.self.inside.names.keys ids)) c.as_mut_slice.ensures.value ∙ ap (λ r. r.entries) c.self.view_is in
    let count = sym (length_met (λ v. v.items) c.self.inside.names.keys c.as_mut_slice.result.now (ap length c.as_mut_slice.ensures.value ∙ c.self.invariant.0)) ∙ ap length seen ∙ c.requires.all in
    let few : c.args.self.count ≤ 1048576 = subst (λ (n : ℕ). n ≤ 1048576) (ap (λ r. r.count) c.self.view_is) c.self.invariant.1.few in
    names_by_id c.args.self.count 1048576 c.args.self.entries _ c.requires.met c.requires.all few (c.put_by_id.ensures ∙ (λ i. by_id (count i) (seen i)))

pub returns-clause-names : goal.returns-clause-names
returns-clause-names c =
    let seen = ap (λ ids. map (λ p. record { id = p.1; name = p.0.items }) (zip c.self.inside.names.keys ids)) c.as_mut_slice.ensures.value ∙ ap (λ r. r.entries) c.self.view_is in
    let count = sym (length_met (λ v. v.items) c.self.inside.names.keys c.as_mut_slice.result.now (ap length c.as_mut_slice.ensures.value ∙ c.self.invariant.0)) ∙ ap length seen ∙ c.requires.all in
    c.of.ensures ∙ c.put_by_id.ensures ∙ (λ i. by_id (count i) (seen i))

pub returns-clause-sound : goal.returns-clause-sound
returns-clause-sound c limit le =
    let seen = ap (λ ids. map (λ p. record { id = p.1; name = p.0.items }) (zip c.self.inside.names.keys ids)) c.as_mut_slice.ensures.value ∙ ap (λ r. r.entries) c.self.view_is in
    let count = sym (length_met (λ v. v.items) c.self.inside.names.keys c.as_mut_slice.result.now (ap length c.as_mut_slice.ensures.value ∙ c.self.invariant.0)) ∙ ap length seen ∙ c.requires.all in
    names_by_id c.args.self.count limit c.args.self.entries _ c.requires.met c.requires.all le (c.of.ensures ∙ c.put_by_id.ensures ∙ (λ i. by_id (count i) (seen i)))
