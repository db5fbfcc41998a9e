-- The codes of the numbers of variations, comments and NAGs (this project's own).
use Rattle.std.specs.Prelude.{ℕ, ◌+◌, [], ◌∷◌, count_by, nat_le, nat_lt, if◌then◌else◌}

-- 0 to 10 as they are; 11 and 12 give 10, 13 to 17 give 11, 18 to 24 give 12, 25 to 34 give 13, 35 to 44 give 14, more give 15.
abbrev pub count_code : ℕ → ℕ
count_code count = if nat_le count 10 then count else 10 + count_by (λ most. nat_lt most count) (12 ∷ 17 ∷ 24 ∷ 34 ∷ 44 ∷ [])
