use Rattle.std.proofs.Common.{ℕ, ◌-◌, ◌^◌, arith, get_or}
use Rattle.std.specs.Int.Bits.{bit_xor}
use Rattle.std.proofs.lemmas.List.Edits.{map_over_more}
use Rattle.std.proofs.lemmas.List.{get_or_default}
use Rattle.game_filter.proofs.entries.turn_words.Goals as goal

pub loop-word-preserved : goal.loop-word-preserved
loop-word-preserved c =
    let word = get_or c.loop-word.words c.loop-word.word-index 0 in
    map_over_more (λ (word : ℕ). bit_xor word (2 ^ 64 - 1)) c.args.words.now c.loop-word.words c.loop-word.word-index word (omega arith) c.loop-word.invariant
    (get_or_default c.loop-word.words c.loop-word.word-index 0 word (omega arith))
