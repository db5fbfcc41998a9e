use Rattle.std.proofs.Common.{◌≡◌, ℕ, ◌-◌, ◌%◌, ◌≤◌, inr, List, [], ◌∷◌, length, get_or, take, drop, sym, ap, arith}
use Rattle.std.proofs.lemmas.List.{take_all}
use Rattle.std.proofs.lemmas.Result.{IfOk-weaker}
use Rattle.move_codec.specs.Numbers.{Numbered}
use Rattle.game_codec.specs.Start.{BeginsStart, IsOwnStart}
use Rattle.game_codec.proofs.start.read_start.Goals as goal

flags_first : (bytes : List ℕ) → 1 ≤ length bytes → bytes ≡ get_or bytes 0 0 ∷ take (length bytes - 1) (drop 1 bytes)
flags_first [] some = absurd (omega arith)
flags_first (flags ∷ behind) some =
    ap (λ (b : List ℕ). flags ∷ b) (sym (take_all (length (flags ∷ behind) - 1) behind (omega arith)))

own_start : (bytes behind : List ℕ) (flags used : ℕ) (start : Numbered) → bytes ≡ flags ∷ behind
    → IsOwnStart (flags ∷ behind) start (drop used (flags ∷ behind)) → BeginsStart bytes start (drop used bytes)
own_start bytes behind flags used start e h = rw e (inr h)

pub returns-else-flags-eq0-clause-ok : goal.returns-else-flags-eq0-clause-ok
returns-else-flags-eq0-clause-ok c =
    let bytes = c.args.bytes.now in
    let set : get_or bytes 0 0 % 2 ≡ 1 = let clear = c.if-flags-eq0.false in omega arith in
    IfOk-weaker c.read_own_start.result _ _
    (λ used h.
    own_start bytes _ (get_or bytes 0 0) used c.read_own_start.new.start (flags_first bytes c.in-len1-up.len_at_least) (h (get_or bytes 0 0) set))
    c.read_own_start.ensures.ok
