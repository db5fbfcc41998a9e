use Rattle.sig_index.proofs.HomeLemmas.{was_home}
use Rattle.sig_index.proofs.OneLeaves.{one_leaves}
use Rattle.sig_index.proofs.PrefixLemmas.{front, home_sound}
use Rattle.sig_index.proofs.homes.home_pawn_skipping_is_sound.Goals as goal

pub returns : goal.returns
returns c = record {
  one_leaves = one_leaves;
  none_returns = was_home;
  prefix = λ game k sound legal start within. let f = front game k sound legal start within in (f.many, (f.within, f.home));
  sound = home_sound;
}
