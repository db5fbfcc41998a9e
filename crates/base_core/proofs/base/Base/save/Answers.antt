use Rattle.std.proofs.Common.{◌≡◌, false, List, ℕ, sym, ap, ◌∙◌, subst, inr}
use Rattle.base_files.specs.Seen.{Seen, replaced}
use Rattle.base_files.specs.declared.part.Part.TheVariants as part
use Rattle.name_base.specs.NameLists.{AreSound}
use Rattle.base_core.specs.Represents.{IsSound, Kept}
use Rattle.base_core.specs.Saved.{IsLeft, MeansIt, StillCarries}
use Rattle.base_core.proofs.SaveLaws.{on_err, saved-means, still-carries}
use Rattle.base_core.proofs.base.Base.save.Goals as goal

pub returns-in_err-replace-2-clause-carries : goal.returns-in_err-replace-2-clause-carries
returns-in_err-replace-2-clause-carries g c =
    let old = g.F.Files.seen c.args.files.now in
    let seen : g.F.Files.seen c.replace-2.new.self ≡ replaced part.Names c.in_ok-names.names.items old =
    c.in_err-replace-2.ensures.unchanged ∙ (c.in_ok-replace.ensures.put ∙ ap (λ (b : List ℕ). replaced part.Names b old) c.as_slice.ensures.value)
    in
    let N : Kept → Type 0 = λ k. AreSound k.names in
    let S : Seen → Type 0 = λ s. StillCarries c.args.self.now old s in
    on_err c.from_residual-in_err-replace-2.result (S (g.F.Files.seen c.replace-2.new.self))
    (subst S (sym seen) (still-carries c.args.self.now old c.in_ok-names.names.items (subst N c.self.view_is c.self.invariant.names) c.in_ok-names.ensures.names))

pub returns-in_err-replace-2-clause-left : goal.returns-in_err-replace-2-clause-left
returns-in_err-replace-2-clause-left g c =
    let old = g.F.Files.seen c.args.files.now in
    let seen : g.F.Files.seen c.replace-2.new.self ≡ replaced part.Names c.in_ok-names.names.items old =
    c.in_err-replace-2.ensures.unchanged ∙ (c.in_ok-replace.ensures.put ∙ ap (λ (b : List ℕ). replaced part.Names b old) c.as_slice.ensures.value)
    in
    on_err c.from_residual-in_err-replace-2.result (IsLeft c.args.self.now old (g.F.Files.seen c.replace-2.new.self)) (inr (c.in_ok-names.names.items, (c.in_ok-names.ensures.names, seen)))

pub returns-clause-means : goal.returns-clause-means
returns-clause-means g c =
    let old = g.F.Files.seen c.args.files.now in
    let first : g.F.Files.seen c.replace.new.self ≡ replaced part.Names c.in_ok-names.names.items old =
    c.in_ok-replace.ensures.put ∙ ap (λ (b : List ℕ). replaced part.Names b old) c.as_slice.ensures.value
    in
    let seen : g.F.Files.seen c.replace-2.new.self ≡ replaced part.Index c.in_ok-index.index.items (replaced part.Names c.in_ok-names.names.items old) =
    c.in_ok-replace-2.ensures.put
    ∙ (ap (λ (b : List ℕ). replaced part.Index b (g.F.Files.seen c.replace.new.self)) c.as_slice-2.ensures.value ∙ ap (λ (s : Seen). replaced part.Index c.in_ok-index.index.items s) first)
    in
    let K : Kept → Type 0 = λ k. MeansIt (record k { unsaved = false }) (g.F.Files.seen c.replace-2.new.self) in
    let S : Seen → Type 0 = λ s. MeansIt (record c.args.self.now { unsaved = false }) s in
    subst K (sym c.self.view_is)
    (subst S (sym seen)
    (saved-means c.args.self.now old c.in_ok-index.index.items c.in_ok-names.names.items (subst IsSound c.self.view_is c.self.invariant)
    (record { entries = c.in_ok-index.ensures.index; uses = c.in_ok-names.ensures.names }) c.in_ok-index.ensures.read_again c.requires.at_end.told))
