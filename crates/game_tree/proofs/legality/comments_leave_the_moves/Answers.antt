use Rattle.game_tree.proofs.CommentLemmas.{moves_of-comments, depth_of-comments, IsLegalGame-comments}
use Rattle.game_tree.proofs.legality.comments_leave_the_moves.Goals as goal

pub returns-clause-moves : goal.returns-clause-moves
returns-clause-moves c = λ f game. moves_of-comments f game.line

pub returns-clause-depth : goal.returns-clause-depth
returns-clause-depth c = λ f game. depth_of-comments f game.line

pub returns-clause-legal : goal.returns-clause-legal
returns-clause-legal c = λ f game keeps is. IsLegalGame-comments f keeps game is
