-- A new name is the last of the keys, its id is the last of the ids, and has a mark.
use Rattle.std.proofs.Common.{◌<◌, ◌++◌, ◌∷◌, [], true, not, length, set, ap, sym, ◌∙◌, subst}
use Rattle.name_base.specs.KindReading.{IsReading}
use Rattle.name_base.proofs.MetLemmas.{IsReading-push, key_is_met, long_added, met_added, not_met}
use Rattle.name_base.proofs.kind_reader.KindReader.add.Goals as goal

pub returns-then-not-branch-clause-new : goal.returns-then-not-branch-clause-new
returns-then-not-branch-clause-new c =
    sym c.if-not-branch.true ∙ c.in_ok-insert.ensures.added
    ∙ ap not (key_is_met (λ v. v.items) c.self.inside.names.keys c.self.inside.ids.items _ c.self.invariant.0 (ap (λ read. read.entries) c.self.view_is) c.args.name)

pub invariant_of-self-2 : goal.invariant_of-self-2
invariant_of-self-2 c =
    let seen = ap (λ read. read.entries) c.self.view_is in
    let new = not_met _ (sym c.if-not-branch.false ∙ c.in_ok-insert.ensures.added ∙ ap not (key_is_met (λ v. v.items) c.self.inside.names.keys c.self.inside.ids.items _ c.self.invariant.0 seen c.args.name)) in
    let pushed = c.push_reserved.ensures.items ∙ ap (λ ids. ids ++ c.args.id ∷ []) c.reserve.ensures.items in
    let same = met_added (λ v. v.items) c.self.inside.names.keys c.self.inside.ids.items _ c.self.invariant.0 seen c.args.name c.args.id _ _ new c.in_ok-insert.ensures.keys pushed in
    let long : c.args.id < length c.self.inside.taken.items = subst (λ n. c.args.id < n) (sym (ap (λ read. read.count) c.self.view_is)) c.requires.id in (
      long_added (λ v. v.items) c.self.inside.names.keys c.self.inside.ids.items _ c.self.invariant.0 seen c.args.name c.args.id _ _ new c.in_ok-insert.ensures.keys pushed,
      subst (IsReading (set c.self.inside.taken.items c.args.id true)) (sym same)
          (IsReading-push c.self.inside.taken.items c.args.self.now.entries (record { id = c.args.id; name = c.args.name.items }) long
          (subst (IsReading c.self.inside.taken.items) seen c.self.invariant.1)),
    )

pub returns-clause-new : goal.returns-clause-new
returns-clause-new c =
    sym c.if-not-branch.false ∙ c.in_ok-insert.ensures.added
    ∙ ap not (key_is_met (λ v. v.items) c.self.inside.names.keys c.self.inside.ids.items _ c.self.invariant.0 (ap (λ read. read.entries) c.self.view_is) c.args.name)

pub returns-clause-added : goal.returns-clause-added
returns-clause-added c =
    let seen = ap (λ read. read.entries) c.self.view_is in
    let new = not_met _ (sym c.if-not-branch.false ∙ c.in_ok-insert.ensures.added ∙ ap not (key_is_met (λ v. v.items) c.self.inside.names.keys c.self.inside.ids.items _ c.self.invariant.0 seen c.args.name)) in
    let pushed = c.push_reserved.ensures.items ∙ ap (λ ids. ids ++ c.args.id ∷ []) c.reserve.ensures.items in
    met_added (λ v. v.items) c.self.inside.names.keys c.self.inside.ids.items _ c.self.invariant.0 seen c.args.name c.args.id _ _ new c.in_ok-insert.ensures.keys pushed
