use Rattle.std.proofs.Common.{◌≡◌, List, ℕ, length, subst}
use Rattle.base_core.specs.Base.{Base}
use Rattle.base_core.specs.Represents.{Kept, Represents}
use Rattle.base_core.specs.Saved.{OpensAgain}
use Rattle.base_core.proofs.SaveLaws.{written-again}
use Rattle.base_core.proofs.draft.Draft.write.Goals as goal

pub returns-clause-means : goal.returns-clause-means
returns-clause-means c =
    let P : Kept → Type 0 = λ k. (games : List ℕ) (base : Base) → k.end ≡ length games → Represents k games base → OpensAgain c.in_ok-index.index.items c.in_ok-names.names.items games base in
    subst P c.self.view_is (λ games base end is.
    written-again c.self.inside.base c.in_ok-index.index.items c.in_ok-names.names.items games base c.header-header.ensures.sound
    (record { entries = c.in_ok-index.ensures.index; uses = c.in_ok-names.ensures.names }) c.in_ok-index.ensures.read_again end is)
