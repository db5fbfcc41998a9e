-- What every game keeps stays while a line grows.
use Rattle.std.proofs.Common.{ℕ, zero, suc, ◌<◌, List, [], ◌∷◌, ◌++◌}
use Rattle.std.specs.Prelude.{slice_set}
use Rattle.std.proofs.lemmas.List.Elements.{All-push}
use Rattle.game_tree.specs.Tree.{Played, Variation, line_of, branches_of}
use Rattle.game_tree.specs.Kept.{AreNags, IsLine, AreBranches, IsPlayed, IsVariation}

pub AreNags-push : (nags : List ℕ) (nag : ℕ) → AreNags nags → nag < 256 → AreNags (nags ++ nag ∷ [])
AreNags-push nags nag are is = All-push (λ (n : ℕ). n < 256) nags nag are is

pub AreBranches-push : (vs : List Variation) (v : Variation) → AreBranches (branches_of vs) → IsVariation v → AreBranches (branches_of (vs ++ v ∷ []))
AreBranches-push [] v are is = (is.lead, (is.line, tt))
AreBranches-push (w ∷ vs) v are is = (are.0, (are.1.0, AreBranches-push vs v are.1.1 is))

pub IsLine-push : (ps : List Played) (p : Played) → IsLine (line_of ps) → IsPlayed p → IsLine (line_of (ps ++ p ∷ []))
IsLine-push [] p are is = (is.nags, (is.comment, (is.variations, tt)))
IsLine-push (q ∷ ps) p are is = (are.0, (are.1.0, (are.1.1.0, IsLine-push ps p are.1.1.1 is)))

-- One move in the place of another.
pub IsLine-set : (ps : List Played) (i : ℕ) (p : Played) → IsLine (line_of ps) → IsPlayed p → IsLine (line_of (slice_set ps i p))
IsLine-set [] i p are is = are
IsLine-set (q ∷ ps) zero p are is = (is.nags, (is.comment, (is.variations, are.1.1.1)))
IsLine-set (q ∷ ps) (suc i) p are is = (are.0, (are.1.0, (are.1.1.0, IsLine-set ps i p are.1.1.1 is)))
