-- The board is that of a man who moves, and he stands where he was put.
use Rattle.chess_laws.proofs.Words.{◌≡◌, Some, None, length, refl, sym, ◌∙◌, length-set, put}
use Rattle.chess_laws.proofs.Boards.{put-same}
use Rattle.chess_laws.proofs.Stepping.{calm-after}
use Rattle.chess_laws.proofs.next.change_calm.Goals as goal

pub returns-clause-lands : goal.returns-clause-lands
returns-clause-lands c =
    let left = put c.args.p.now.board c.args.m.now.from None in
    let squares : length left ≡ 64 = sym (length-set left c.args.m.now.to (Some c.arriving-arriving.result)) ∙ rw c.carry.ensures.after at c.carry.ensures.squares in
    rw c.carry.ensures.after (put-same left c.args.m.now.to (Some c.arriving-arriving.result) squares c.carry.ensures.on_board)

pub returns-clause-becomes : goal.returns-clause-becomes
returns-clause-becomes c =
    let p = c.args.p.now in
    let m = c.args.m.now in
    let calm = calm-after p m c.args.effect c.requires.calm in
    let lands = c.arriving-arriving.ensures p m refl refl c.requires.stands in
    cc
