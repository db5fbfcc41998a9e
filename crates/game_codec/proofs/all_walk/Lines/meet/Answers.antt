use Rattle.std.proofs.Common.{refl, ◌∙◌}
use Rattle.game_codec.proofs.MeetLaws.{by_close, by_comment, by_end, by_fault, by_move, by_nag, by_open}
use Rattle.game_codec.proofs.all_walk.Lines.meet.Goals as goal

pub returns-in-Err : goal.returns-in-Err
returns-in-Err c = record { met = by_fault c.args.self.now _ c.requires.sound _ refl c.in-Err.ensures.fault c.in-Err.ensures.kept refl refl refl }

pub returns-in-Play : goal.returns-in-Play
returns-in-Play c =
    let next = c.in-Ok.ensures in
    record {
      met = by_move c.args.self.now _ c.requires.sound c.in-Ok.next.used next.used.0 next.used.1 c.in-Ok.next.token next.takes _ next.past
          c.split_at.ensures.back c.in-Play.m _ c.in-Play.is (cc c.in-Play.m-is) refl refl refl;
    }

pub returns-in-Nag : goal.returns-in-Nag
returns-in-Nag c =
    let next = c.in-Ok.ensures in
    record {
      met = by_nag c.args.self.now _ c.requires.sound c.in-Ok.next.used next.used.0 next.used.1 c.in-Ok.next.token next.takes _ next.past
          c.split_at.ensures.back _ c.in-Nag.is refl refl refl;
    }

pub returns-in-Comment : goal.returns-in-Comment
returns-in-Comment c =
    let next = c.in-Ok.ensures in
    record {
      met = by_comment c.args.self.now _ c.requires.sound c.in-Ok.next.used next.used.0 next.used.1 c.in-Ok.next.token next.takes _ next.past
          c.split_at.ensures.back c.in-Comment.is refl refl refl;
    }

pub returns-in-Open : goal.returns-in-Open
returns-in-Open c =
    let next = c.in-Ok.ensures in
    record {
      met = by_open c.args.self.now _ c.requires.sound c.in-Ok.next.used next.used.0 next.used.1 c.in-Ok.next.token next.takes _ next.past
          (c.begin_variation.ensures.ahead ∙ c.split_at.ensures.back) c.in-Open.is _ refl refl c.begin_variation.ensures.line c.begin_variation.ensures.outer;
    }

pub returns-in-Close : goal.returns-in-Close
returns-in-Close c =
    let next = c.in-Ok.ensures in
    record {
      met = by_close c.args.self.now _ c.requires.sound c.in-Ok.next.used next.used.0 next.used.1 c.in-Ok.next.token next.takes _ next.past
          c.split_at.ensures.back c.in-Close.is c.pop-self.ensures.lines;
    }

pub returns-in-End : goal.returns-in-End
returns-in-End c =
    let takes = rw c.in-End.is at c.in-Ok.ensures.takes in
    let past = rw c.in-End.is at c.in-Ok.ensures.past in
    record { met = by_end c.args.self.now _ c.requires.sound _ takes past refl refl refl }
