use Rattle.std.proofs.Common.{◌≡◌, ℕ, suc, ◌+◌, ◌%◌, List, ◌∷◌, ◌++◌, take, drop, Ok, sym, ap, ◌∙◌, arith}
use Rattle.cell_core.specs.Text.{IsZeroFree}
use Rattle.chess_laws.specs.declared.setup.Setup.{Setup}
use Rattle.chess_text.specs.FenAnswer.{fen_answer}
use Rattle.move_codec.specs.Numbers.{Numbered, text_numbers}
use Rattle.game_codec.specs.Start.{IsOwnStart}
use Rattle.game_codec.proofs.start.read_own_start.Goals as goal

-- The text before the first zero byte, and what stands behind it and the flags.
own_start : (flags n : ℕ) (bytes text : List ℕ) (p : Setup) (start : Numbered) → flags % 2 ≡ 1 → IsZeroFree (take n bytes)
    → bytes ≡ take n bytes ++ 0 ∷ drop (n + 1) bytes → text ≡ take n bytes → Ok p ≡ fen_answer text → start.position ≡ p
    → start.numbers ≡ text_numbers p.board → IsOwnStart (flags ∷ bytes) start (drop (n + 2) (flags ∷ bytes))
own_start flags n bytes text p start set free spelled front reads position numbers =
    let next : n + 2 ≡ suc (n + 1) = omega arith in
    rw next (record {
      flags = flags;
      set = set;
      text = take n bytes;
      zero_free = free;
      spelled = ap (λ (b : List ℕ). flags ∷ b) spelled;
      reads = cc;
      numbers = numbers ∙ ap (λ (q : Setup). text_numbers q.board) (sym position);
    })

pub returns-in-Ok-clause-ok : goal.returns-in-Ok-clause-ok
returns-in-Ok-clause-ok c = λ flags set.
    let place = c.in-Some.ensures.place in
    own_start flags c.in-Some.len c.args.bytes.now _ c.in-Ok.position c.from_start.result set place.0 place.1.1
    c.split_at.ensures.front c.in-Ok.ensures.answers c.from_start.ensures.position c.from_start.ensures.numbers
