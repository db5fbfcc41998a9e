-- A piece that was copied out of the bytes from a place on.
use Rattle.std.proofs.Common.{◌≡◌, ℕ, ◌+◌, ◌≤◌, List, ◌++◌, take, drop, length, sym, ap, ◌∙◌, arith, length-take, take-append-drop}
use Rattle.std.proofs.lemmas.List.{drop-drop}
use Rattle.std.proofs.Math.Seq.{take-append_seam}

-- What was copied, and what comes after it, are the bytes from that place on.
pub given_split : (n next : ℕ) (bytes rest piece over : List ℕ) → rest ≡ drop next bytes → piece ≡ take n rest → n ≤ length rest
    → drop next bytes ≡ take n (piece ++ over) ++ drop (next + n) bytes
given_split n next bytes rest piece over place copied fits =
    let len : length piece ≡ n = omega (arith, ap length copied, length-take n rest) in
    let front : take n (piece ++ over) ≡ take n (drop next bytes) =
    ap (λ (k : ℕ). take k (piece ++ over)) (sym len) ∙ take-append_seam piece over ∙ copied ∙ ap (take n) place in
    sym (ap (λ (l : List ℕ). l ++ drop (next + n) bytes) front
    ∙ ap (λ (l : List ℕ). take n (drop next bytes) ++ l) (sym (drop-drop n next bytes))
    ∙ take-append-drop n (drop next bytes))
