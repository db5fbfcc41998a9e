use Rattle.std.proofs.Common.{◌≡◌, ◌==◌, ℕ, List, drop}
use Rattle.std.specs.List.{position_from}
use Rattle.script_text.proofs.forms.place_of.Given as goal

-- The bytes that are left have the first place that is sought.
pub record Sought (byte place index : ℕ) (left bytes : List ℕ) : Type 0 where
  pub counted : place ≡ index
  pub same : position_from (λ other. other == byte) place left ≡ position_from (λ other. other == byte) 0 bytes

abbrev pub invariant-loop-other : goal.invariant-loop-other
invariant-loop-other l = Sought l.byte l.place l.other-index (drop l.other-index l.bytes) l.fn.bytes
