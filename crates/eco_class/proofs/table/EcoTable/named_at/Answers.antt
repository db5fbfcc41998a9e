use Rattle.std.proofs.Common.{◌≤◌, Option, refl, sym, ap, ◌∙◌, subst}
use Rattle.std.specs.Prelude.{IfSome, option_map}
use Rattle.eco_class.specs.declared.table.Named.{Named}
use Rattle.eco_class.proofs.KeptLemmas.{found, found_small}
use Rattle.eco_class.proofs.table.EcoTable.named_at.Goals as goal

pub returns-clause-line : goal.returns-clause-line
returns-clause-line c =
    ap (option_map (λ (named : Named). named.line)) (c.copied.ensures ∙ c.get.ensures.value)
    ∙ found (λ named. named.line) (λ line. line.line) (λ e. refl) c.self.inside.least c.self.inside.lines.entries c.args.self.now c.args.key.now c.requires.packed c.self.invariant c.self.view_is

pub returns-clause-code : goal.returns-clause-code
returns-clause-code c =
    ap (option_map (λ (named : Named). named.code)) (c.copied.ensures ∙ c.get.ensures.value)
    ∙ found (λ named. named.code) (λ line. line.code) (λ e. refl) c.self.inside.least c.self.inside.lines.entries c.args.self.now c.args.key.now c.requires.packed c.self.invariant c.self.view_is

pub returns-clause-bounds : goal.returns-clause-bounds
returns-clause-bounds c =
    subst (λ (kept : Option Named). IfSome kept (λ named. (1 ≤ named.code) × (named.code ≤ 65500))) (sym (c.copied.ensures ∙ c.get.ensures.value))
    (found_small _ c.self.inside.least c.self.inside.lines.entries c.self.invariant.each)
