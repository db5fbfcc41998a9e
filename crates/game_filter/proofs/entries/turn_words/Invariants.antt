use Rattle.std.proofs.Common.{◌≡◌, ◌++◌, ◌-◌, ◌^◌, ℕ, drop, map, take}
use Rattle.std.specs.Int.Bits.{bit_xor}
use Rattle.game_filter.proofs.entries.turn_words.Given as goal

-- The words that the loop has passed are turned, and the others are not yet.
abbrev pub invariant-loop-word : goal.invariant-loop-word
invariant-loop-word l = l.words ≡ map (λ (word : ℕ). bit_xor word (2 ^ 64 - 1)) (take l.word-index l.fn.words) ++ drop l.word-index l.fn.words
