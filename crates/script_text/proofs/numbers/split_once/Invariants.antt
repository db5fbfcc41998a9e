use Rattle.std.proofs.Common.{◌≡◌, ◌++◌, take, drop, option_map}
use Rattle.script_text.specs.Numbers.{split_once}
use Rattle.script_text.proofs.numbers.split_once.Given as goal

-- The bytes so far stand before the byte that is sought.
abbrev pub invariant-loop-i : goal.invariant-loop-i
invariant-loop-i l =
    option_map (λ parts. (take l.i l.text ++ parts.0, parts.1)) (split_once l.at (drop l.i l.text)) ≡ split_once l.fn.at l.fn.text
