use Rattle.std.proofs.Common.{ℕ, List, sym, subst}
use Rattle.game_codec.specs.Record.{IsRecord}
use Rattle.game_codec.proofs.WrittenLaws.{written-read}
use Rattle.game_codec.proofs.encoding.encode_to_end.Goals as goal

pub returns-else-len-gt-LONGEST-clause-read_again : goal.returns-else-len-gt-LONGEST-clause-read_again
returns-else-len-gt-LONGEST-clause-read_again c =
    subst (λ (bytes : List ℕ). IsRecord bytes c.args.tags.now c.args.g.now) (sym c.in_ok-encoded.ensures.written)
    (written-read c.args.tags.now c.args.g.now c.in_ok-encoded.ensures.is_game c.requires.legal c.requires.tags)
