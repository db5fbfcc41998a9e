use Rattle.move_codec.proofs.Words.{ap, ◌∙◌, arith, with_square}
use Rattle.move_codec.proofs.Text.{InText-room, InText-next, InText-end, text_is}
use Rattle.move_codec.proofs.numbers.NumberedMen.in_text.Goals as goal

pub loop-place-init : goal.loop-place-init
loop-place-init c = rw c.new.ensures (text_is c.args.board.now c.args.side)

pub add-requires : goal.add-requires
add-requires c =
    rw c.at.ensures.numbered
    (InText-room c.args.board.now c.args.side c.loop-place.place c.loop-place.men c.requires.squares c.requires.few c.loop-place-test.true c.loop-place.invariant)

pub loop-place-preserved : goal.loop-place-preserved
loop-place-preserved c =
    InText-next c.args.board.now c.args.side c.loop-place.place c.loop-place.men c.add.new.self c.loop-place-test.true
    (c.add.ensures ∙ ap (λ square. with_square c.args.board.now c.args.side c.loop-place.men square) c.at.ensures.numbered) c.loop-place.invariant

pub returns : goal.returns
returns c = record { numbers = InText-end c.args.board.now c.args.side c.loop-place.place c.loop-place.men (omega arith) c.loop-place.invariant }
