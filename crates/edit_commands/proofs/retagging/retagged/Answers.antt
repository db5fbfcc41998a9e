use Rattle.base_core.specs.Represents.{heads_of}
use Rattle.sig_index.specs.Games.{head_in}
use Rattle.edit_commands.proofs.RetagLaws.{eight_again}
use Rattle.edit_commands.proofs.retagging.retagged.Goals as goal

pub returns : goal.returns
returns c = record {
  hits = eight_again (head_in (heads_of c.args.base.now) c.args.i) c.args.i c.args.slots.now.watches c.args.slots.now.count _ _ _ _ _ _ _ _ c.requires.eight c.hit_now.ensures.below
      c.hit_now.ensures.hit c.hit_now-2.ensures.hit c.hit_now-3.ensures.hit c.hit_now-4.ensures.hit
      c.hit_now-5.ensures.hit c.hit_now-6.ensures.hit c.hit_now-7.ensures.hit c.hit_now-8.ensures.hit;
}
