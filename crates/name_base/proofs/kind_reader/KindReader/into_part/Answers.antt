-- The names by id are names where the reader's marks are.
use Rattle.std.proofs.Common.{◌≡◌, ◌<◌, ℕ, List, length, map, ap, sym, ◌∙◌, subst, arith}
use Rattle.std.specs.List.{AllByRecursion, zip}
use Rattle.name_base.specs.KindReading.{IsReading}
use Rattle.name_base.specs.NamesFile.{Entry}
use Rattle.name_base.specs.PartNames.{AreKnown, marked}
use Rattle.name_base.specs.Reading.{by_id}
use Rattle.name_base.proofs.LoopLemmas.{below_entries}
use Rattle.name_base.proofs.PartLemmas.{known-is, known-names}
use Rattle.name_base.proofs.kind_reader.KindReader.into_part.Goals as goal

pub by_id-requires : goal.by_id-requires
by_id-requires c =
    let count : c.args.self.count ≡ (length c.as_slice.result.now) = sym (ap length c.as_slice.ensures.value ∙ ap (λ r. r.count) c.self.view_is) in
    let seen = ap (λ ids. map (λ p. record { id = p.1; name = p.0.items }) (zip c.self.inside.names.keys ids)) c.as_slice-2.ensures.value ∙ ap (λ r. r.entries) c.self.view_is in
    record {
      long = omega (arith, ap length c.as_slice-2.ensures.value, c.self.invariant.0);
      below = below_entries (λ v. v.items) (length c.as_slice.result.now) _
          (subst (λ (es : List Entry). AllByRecursion (λ e. e.id < (length c.as_slice.result.now)) es) (sym seen)
          (subst (λ (n : ℕ). AllByRecursion (λ e. e.id < n) c.args.self.entries) count c.requires.met.below));
    }

pub new-requires : goal.new-requires
new-requires c =
    let seen = ap (λ ids. map (λ p. record { id = p.1; name = p.0.items }) (zip c.self.inside.names.keys ids)) c.as_slice-2.ensures.value ∙ ap (λ r. r.entries) c.self.view_is in
    let names = c.in_ok-names.ensures ∙ (λ i. by_id ((ap length c.as_slice.ensures.value ∙ ap (λ r. r.count) c.self.view_is) i) (seen i)) in
    let reading = subst (IsReading c.self.inside.taken.items) (ap (λ r. r.entries) c.self.view_is) c.self.invariant.1 in
    record { known = subst (AreKnown c.self.inside.taken.items) (sym names) (known-names c.self.inside.taken.items c.args.self.count c.args.self.entries (ap (λ r. r.count) c.self.view_is) reading c.requires.met) }

pub returns : goal.returns
returns c =
    let seen = ap (λ ids. map (λ p. record { id = p.1; name = p.0.items }) (zip c.self.inside.names.keys ids)) c.as_slice-2.ensures.value ∙ ap (λ r. r.entries) c.self.view_is in
    let names = c.in_ok-names.ensures ∙ (λ i. by_id ((ap length c.as_slice.ensures.value ∙ ap (λ r. r.count) c.self.view_is) i) (seen i)) in
    let reading = subst (IsReading c.self.inside.taken.items) (ap (λ r. r.entries) c.self.view_is) c.self.invariant.1 in
    record { names = c.new.ensures.parts ∙ (ap (marked c.self.inside.taken.items) names ∙ known-is c.self.inside.taken.items c.args.self.count c.args.self.entries (ap (λ r. r.count) c.self.view_is) reading) }
