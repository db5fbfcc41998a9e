use Rattle.shell_state.proofs.TableLaws.{eight_hits, hit_at}
use Rattle.shell_state.proofs.hits.hits_of.Goals as goal

pub returns : goal.returns
returns c =
    let head = c.args.head.now in
    let game = c.args.game.now in
    let watches = c.args.slots.now.watches in
    record {
      hits = eight_hits watches head game c.args.slots.now.count _ _ _ _ _ _ _ _ c.requires.eight c.men.ensures.below
          (hit_at head game watches 0 _ _ c.men.ensures.board c.hit_for.ensures.hit)
          (hit_at head game watches 1 _ _ c.men-2.ensures.board c.hit_for-2.ensures.hit)
          (hit_at head game watches 2 _ _ c.men-3.ensures.board c.hit_for-3.ensures.hit)
          (hit_at head game watches 3 _ _ c.men-4.ensures.board c.hit_for-4.ensures.hit)
          (hit_at head game watches 4 _ _ c.men-5.ensures.board c.hit_for-5.ensures.hit)
          (hit_at head game watches 5 _ _ c.men-6.ensures.board c.hit_for-6.ensures.hit)
          (hit_at head game watches 6 _ _ c.men-7.ensures.board c.hit_for-7.ensures.hit)
          (hit_at head game watches 7 _ _ c.men-8.ensures.board c.hit_for-8.ensures.hit);
    }
