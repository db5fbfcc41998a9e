use Rattle.chess_laws.proofs.Words.{ℕ, ap, ◌∙◌, bit_at, is_home}
use Rattle.chess_laws.proofs.Home.{bit-set, home-bit}
use Rattle.chess_laws.proofs.census.home_set.Goals as goal

pub returns : goal.returns
returns c = λ v less.
    let bit = home-bit c.args.board.now c.of_man.result c.of_man-2.result v c.of_man.ensures.squares c.of_man-2.ensures.squares less in
    bit-set c.reverse_bits.result v (is_home c.args.board.now v) (ap (λ (n : ℕ). bit_at n v) c.reverse_bits.ensures ∙ bit)
