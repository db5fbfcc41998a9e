-- Which client owns a slot.
use Rattle.std.proofs.Common.{◌≡◌, ◌<◌, ◌≤◌, ◌+◌, ℕ, zero, suc, Bool, true, false, cond, ◌&&◌, ◌==◌, not, refl, sym, ap, ◌∙◌, arith, true≢false, ◌⊎◌, inl, inr}
use Rattle.std.proofs.lemmas.Bool.{eqb-false, eqb-true, le-leb, leb-true, lt-ltb, ltb-true}
use Rattle.std.specs.Prelude.{nat_le, nat_lt}
use Rattle.script_lines.specs.Clients.{Clients}
use Rattle.view_commands.specs.Views.{all_slots, is_own}
use Rattle.view_commands.specs.declared.window.Window.{Window}
use Rattle.desk_commands.specs.Desk.{window_of}
use Rattle.desk_commands.specs.Showing.{but_one}
use Rattle.desk_commands.specs.Views.{owner}

pub both : (a b : Bool) → (a && b) ≡ true → (a ≡ true) × (b ≡ true)
both true true is = (refl, refl)
both true false is = absurd cc
both false b is = absurd cc

pub either : (b : Bool) → (b ≡ true) ⊎ (b ≡ false)
either true = inl refl
either false = inr refl

own_bounds : (w : Window) (i : ℕ) → is_own w i ≡ true → (w.first ≤ i) × (i < w.first + w.count)
own_bounds w i is =
    let parts = both (nat_le w.first i) (nat_lt i (w.first + w.count)) is in
    (leb-true w.first i parts.0, ltb-true i (w.first + w.count) parts.1)

own_within : (w : Window) (i : ℕ) → w.first ≤ i → i < w.first + w.count → is_own w i ≡ true
own_within w i low high = rw (le-leb w.first i low, lt-ltb i (w.first + w.count) high) refl

-- How many clients there are.
abbrev pub number_of : Bool → ℕ
number_of tagged = cond tagged 4 1

abbrev pair : ℕ → Window
pair c = record { first = c + c; count = 2 }

owner_is : (i c : ℕ) → c + c ≤ i → i < c + c + 2 → i < 8 → owner true i ≡ c
owner_is zero c low high few = omega (arith, low, high)
owner_is (suc zero) c low high few = omega (arith, low, high)
owner_is (suc (suc zero)) c low high few = omega (arith, low, high)
owner_is (suc (suc (suc zero))) c low high few = omega (arith, low, high)
owner_is (suc (suc (suc (suc zero)))) c low high few = omega (arith, low, high)
owner_is (suc (suc (suc (suc (suc zero))))) c low high few = omega (arith, low, high)
owner_is (suc (suc (suc (suc (suc (suc zero)))))) c low high few = omega (arith, low, high)
owner_is (suc (suc (suc (suc (suc (suc (suc zero))))))) c low high few = omega (arith, low, high)
owner_is (suc (suc (suc (suc (suc (suc (suc (suc i)))))))) c low high few = absurd (omega (arith, few))

owner_bounds : (i : ℕ) → i < 8 → (owner true i + owner true i ≤ i) × ((i < owner true i + owner true i + 2) × (owner true i < 4))
owner_bounds zero few = (omega arith, (omega arith, omega arith))
owner_bounds (suc zero) few = (omega arith, (omega arith, omega arith))
owner_bounds (suc (suc zero)) few = (omega arith, (omega arith, omega arith))
owner_bounds (suc (suc (suc zero))) few = (omega arith, (omega arith, omega arith))
owner_bounds (suc (suc (suc (suc zero)))) few = (omega arith, (omega arith, omega arith))
owner_bounds (suc (suc (suc (suc (suc zero))))) few = (omega arith, (omega arith, omega arith))
owner_bounds (suc (suc (suc (suc (suc (suc zero)))))) few = (omega arith, (omega arith, omega arith))
owner_bounds (suc (suc (suc (suc (suc (suc (suc zero))))))) few = (omega arith, (omega arith, omega arith))
owner_bounds (suc (suc (suc (suc (suc (suc (suc (suc i)))))))) few = absurd (omega (arith, few))

owned : (tagged : Bool) (c i : ℕ) → c < number_of tagged → is_own (cond tagged (pair c) all_slots) i ≡ true → (owner tagged i ≡ c) × (i < 8)
owned true c i less is =
    let bounds = own_bounds (pair c) i is in
    let few : i < 8 = omega (arith, bounds.1, less) in
    (owner_is i c bounds.0 bounds.1 few, few)
owned false c i less is =
    let bounds = own_bounds all_slots i is in
    (omega (arith, less), omega (arith, bounds.1))

owns : (tagged : Bool) (i : ℕ) → i < 8 → (is_own (cond tagged (pair (owner tagged i)) all_slots) i ≡ true) × (owner tagged i < number_of tagged)
owns true i few =
    let bounds = owner_bounds i few in
    (own_within (pair (owner true i)) i bounds.0 bounds.1.0, bounds.1.1)
owns false i few = (own_within all_slots i (omega arith) (omega (arith, few)), omega arith)

-- A slot that is a client's own is one of eight, and he is its owner.
pub own_is : (clients : Clients) (c i : ℕ) → c < number_of clients.tagged → is_own (window_of clients c) i ≡ true → (owner clients.tagged i ≡ c) × (i < 8)
own_is clients c i less is = owned clients.tagged c i less is

pub owner_has : (clients : Clients) (i : ℕ) → i < 8 → (is_own (window_of clients (owner clients.tagged i)) i ≡ true) × (owner clients.tagged i < number_of clients.tagged)
owner_has clients i few = owns clients.tagged i few

-- It is not another's.
pub not_own : (clients : Clients) (c i : ℕ) → c < number_of clients.tagged → (owner clients.tagged i ≡ c → ⊥) → is_own (window_of clients c) i ≡ false
not_own clients c i less other = own-or (is_own (window_of clients c) i) refl
  where
    own-or : (b : Bool) → is_own (window_of clients c) i ≡ b → is_own (window_of clients c) i ≡ false
    own-or true is = absurd (other (own_is clients c i less is).0)
    own-or false is = is

pub far_own : (clients : Clients) (c i : ℕ) → c < number_of clients.tagged → 8 ≤ i → is_own (window_of clients c) i ≡ false
far_own clients c i less far = own-or (is_own (window_of clients c) i) refl
  where
    own-or : (b : Bool) → is_own (window_of clients c) i ≡ b → is_own (window_of clients c) i ≡ false
    own-or true is = absurd (omega (arith, far, (own_is clients c i less is).1))
    own-or false is = is

-- All clients but one.
pub one_of : (by count client : ℕ) → but_one by count client ≡ true → (client < count) × (client ≡ by → ⊥)
one_of by count client is =
    let parts = both (nat_lt client count) (not (client == by)) is in
    (ltb-true client count parts.0, not-by (client == by) refl parts.1)
  where
    not-by : (b : Bool) → (client == by) ≡ b → not (client == by) ≡ true → client ≡ by → ⊥
    not-by true e other same = true≢false (sym other ∙ ap not e)
    not-by false e other same = eqb-false client by e same

pub is_one_of : (by count client : ℕ) → client < count → (client ≡ by → ⊥) → but_one by count client ≡ true
is_one_of by count client less other = rw (lt-ltb client count less) (by-cases (client == by) refl)
  where
    by-cases : (b : Bool) → (client == by) ≡ b → not (client == by) ≡ true
    by-cases true e = absurd (other (eqb-true client by e))
    by-cases false e = ap not e
