use Rattle.std.proofs.Common.{◌≡◌, ℕ, ◌<◌, false, take}
use Rattle.sig_index.specs.Homes.{is_all_but}
use Rattle.sig_index.proofs.AllowLemmas.{Lacks}
use Rattle.sig_index.proofs.homes.is_all_but_first.Given as goal

-- The values that are left are all but the first so many, and no fewer made the set.
abbrev pub invariant-loop-i : goal.invariant-loop-i
invariant-loop-i l = record {
  lacks : Lacks (take l.i (take l.fn.s.home.count l.fn.s.home.values)) l.still;
  none : (n : ℕ) → n < l.i → is_all_but (take n (take l.fn.s.home.count l.fn.s.home.values)) l.set ≡ false;
}
