use Rattle.eco_class.proofs.ReadingLemmas.{played_bad, played_end, played_on}
use Rattle.eco_class.proofs.moves.played.Goals as goal

pub loop-word-preserved : goal.loop-word-preserved
loop-word-preserved c =
    played_on c.loop-word.place c.play.new.self c.loop-word.rest.now c.in-Some.word.text.now c.in-Some.word.behind.now _ _ c.in-Some.ensures.words.0 c.in-Ok.ensures.answers c.play.ensures.step c.loop-word.invariant

pub returns-in-Err : goal.returns-in-Err
returns-in-Err c =
    played_bad c.loop-word.place c.loop-word.rest.now c.in-Some.word.text.now c.in-Some.word.behind.now _ _ c.in-Some.ensures.words.0 c.in-Err.ensures.answers c.loop-word.invariant

pub returns : goal.returns
returns c = played_end c.loop-word.place c.loop-word.rest.now _ c.in_default.ensures.words c.loop-word.invariant
