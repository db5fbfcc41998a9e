use Rattle.pos_search.proofs.OutLemmas.{out_hit}
use Rattle.pos_search.proofs.TellingLemmas.{main_told, told_hit, told_main}
use Rattle.pos_search.proofs.laws.index_tells_hits.Goals as goal

pub returns : goal.returns
returns c = record {
  main = λ query depth game hit board sound legal. told_main query depth game board sound legal hit;
  hit = λ query depth game hit board sound legal. told_hit query depth game board sound legal hit;
  decides = λ query depth game ply board sound legal. main_told query depth game board sound legal ply;
  out = out_hit;
}
