-- What stands before a byte and behind it.
use Rattle.std.proofs.Common.{◌≡◌, ◌-◌, ◌<◌, ℕ, List, [], ◌∷◌, ◌++◌, Option, Some, length, get_or, take, drop, refl, option_map, arith}
use Rattle.std.proofs.lemmas.Bool.{eq-eqb}
use Rattle.std.proofs.lemmas.List.{take_all}
use Rattle.script_text.specs.Numbers.{split_once}
use Rattle.script_text.proofs.WordLaws.{append_none}

-- The byte that is sought stands first in what is left.
pub found_first : (at : ℕ) (front left : List ℕ) (whole : Option (List ℕ × List ℕ)) → 0 < length left → get_or left 0 0 ≡ at
    → option_map (λ parts. (front ++ parts.0, parts.1)) (split_once at left) ≡ whole
    → Some (front, take (length left - 1) (drop 1 left)) ≡ whole
found_first at front [] whole some first same = absurd (omega (arith, some))
found_first at front (byte ∷ left) whole some first same =
    let here : split_once at (byte ∷ left) ≡ Some ([], left) = rw (eq-eqb byte at first) refl in
    let there : Some (front ++ [], left) ≡ whole = rw here at same in
    let tail : take (length (byte ∷ left) - 1) (drop 1 (byte ∷ left)) ≡ left
    = take_all (length (byte ∷ left) - 1) left (omega arith) in
    rw tail (rw (append_none front) at there)
