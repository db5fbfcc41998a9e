-- The heads of the games are settled.
use Rattle.std.proofs.Common.{◌≡◌, ℕ, refl, sym, subst}
use Rattle.game_tree.specs.Settle.{IsSettled, settled}
use Rattle.game_tree.specs.declared.head.Head.{Head}
use Rattle.game_tree.specs.declared.head.Outcome.{Outcome}
use Rattle.demo_games.specs.Demo.{demo_head}

no-event_date : (i : ℕ) (outcome : Outcome) → IsSettled (demo_head i outcome)
unfolding demo_head settled
no-event_date i outcome = refl

pub demo_settled : (i : ℕ) (outcome : Outcome) (head : Head) → head ≡ demo_head i outcome → IsSettled head
demo_settled i outcome head is = subst IsSettled (sym is) (no-event_date i outcome)
