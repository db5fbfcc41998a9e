-- The bytes that are left of some are the last of them.
use Rattle.std.proofs.Common.{◌≡◌, ℕ, ◌-◌, ◌≤◌, List, length, drop, sym, ap, subst, ◌∙◌, length-drop, arith}
use Rattle.game_codec.proofs.LineLaws.{left-drop}

-- The bytes behind some are the last of all.
pub behind_is : (bytes due : List ℕ) (used : ℕ) → used ≤ length bytes → due ≡ drop used bytes → due ≡ drop (length bytes - length due) bytes
behind_is bytes due used within is =
    let long : length due ≡ length bytes - used = ap (λ (l : List ℕ). length l) is ∙ length-drop used bytes in
    let back : used ≡ length bytes - length due = omega (arith, long, within) in
    is ∙ ap (λ (n : ℕ). drop n bytes) back

-- What stands behind a move.
pub tail_behind : (bytes due ahead : List ℕ) (used taken : ℕ) → used ≤ length bytes → due ≡ drop used bytes → taken ≤ length due → ahead ≡ drop taken due
    → ahead ≡ drop (length bytes - length ahead) bytes
tail_behind bytes due ahead used taken within is fits rest =
    let long : length due ≡ length bytes - used = ap (λ (l : List ℕ). length l) is ∙ length-drop used bytes in
    subst (λ (l : List ℕ). l ≡ drop (length bytes - length l) bytes) (sym rest)
    (left-drop bytes due taken (omega (arith, long)) fits (behind_is bytes due used within is))

-- The last of the last bytes.
pub tail_more : (bytes ahead later : List ℕ) → length ahead ≤ length bytes → ahead ≡ drop (length bytes - length ahead) bytes → length later ≤ length ahead
    → later ≡ drop (length ahead - length later) ahead → later ≡ drop (length bytes - length later) bytes
tail_more bytes ahead later within tail fits rest =
    subst (λ (l : List ℕ). l ≡ drop (length bytes - length l) bytes) (sym rest) (left-drop bytes ahead (length ahead - length later) within (omega arith) tail)
