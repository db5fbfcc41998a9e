use Rattle.std.proofs.Common.{◌≡◌, ℕ, ◌+◌, ap, subst, sym, arith}
use Rattle.std.specs.Option.{IsSome}
use Rattle.tree_live.specs.Slots.{Slotted, in_slot}
use Rattle.tree_live.proofs.SlotLaws.{watched-here, watched-shown}
use Rattle.tree_live.proofs.slots.Slots.watch.Goals as goal

pub returns-clause-shown : goal.returns-clause-shown
returns-clause-shown g c shown =
    let count : c.self.inside.count ≡ c.args.self.now.count = ap (λ (s : Slotted). s.count) c.self.view_is in
    watched-shown _ (record { first = c.self.inside.first; count = c.self.inside.count; watches = c.self.inside.watches }) c.args.self.now c.from-3.result
    (c.from.result + c.from-2.result) c.in_ok-watch.watch _ c.args.views.now c.self.view_is
    (omega (arith, count, c.requires.slot, c.from-3.ensures, c.self.invariant.0, c.self.invariant.1.0))
    (subst (λ (n : ℕ). IsSome (in_slot c.args.views.now (c.args.self.now.first + n))) (sym c.from-3.ensures) c.requires.holds)
    (omega (arith, c.from.ensures, c.from-2.ensures, c.from-3.ensures)) c.in_ok-watch.ensures.shown shown

pub returns-clause-here : goal.returns-clause-here
returns-clause-here g c =
    let first : c.self.inside.first ≡ c.args.self.now.first = ap (λ (s : Slotted). s.first) c.self.view_is in
    let count : c.self.inside.count ≡ c.args.self.now.count = ap (λ (s : Slotted). s.count) c.self.view_is in
    watched-here _ c.args.self.now.first c.args.k c.from-3.result (c.from.result + c.from-2.result) c.self.inside.watches c.in_ok-watch.watch _ c.args.views.now c.from-3.ensures
    (omega (arith, count, c.requires.slot, c.from-3.ensures, c.self.invariant.0, c.self.invariant.1.0)) (omega (arith, first, c.from.ensures, c.from-2.ensures))
    c.requires.holds c.in_ok-watch.ensures.shown
