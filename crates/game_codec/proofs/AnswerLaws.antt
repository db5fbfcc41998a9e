-- What was read is the answer to the whole record.
use Rattle.std.proofs.Common.{ℕ, ◌<◌, List, get_or, sym, subst}
use Rattle.std.proofs.lemmas.List.Elements.{All-from_get_or}
use Rattle.std.specs.Prelude.{All}
use Rattle.game_tree.specs.Game.{GameTree}
use Rattle.game_tree.specs.Head.{IsTag}
use Rattle.game_tree.specs.Legal.{IsLegalGame}
use Rattle.game_tree.specs.declared.head.Tag.{Tag}
use Rattle.game_codec.specs.Record.{IsRecord}
use Rattle.game_codec.proofs.LegalLaws.{record-legal}
use Rattle.game_codec.proofs.RecordAnswerLaws.{to_spelled}
use Rattle.game_codec.proofs.TagLaws.{BeginsTags-IsTag}

-- A record's game is legal, and its tags are within their bounds.
pub is-legal : (bytes : List ℕ) (tags : List Tag) (game : GameTree) → IsRecord bytes tags game → IsLegalGame game
is-legal bytes tags game is =
    let r = to_spelled bytes tags game is in
    subst IsLegalGame (sym r.game_is) (record-legal r.start r.movetext r.behind_start r.behind_moves r.then_moves)

pub are-tags : (bytes : List ℕ) (tags : List Tag) (game : GameTree) → ((i : ℕ) → get_or bytes i 0 < 256) → IsRecord bytes tags game → All IsTag tags
are-tags bytes tags game small is =
    let r = to_spelled bytes tags game is in
    subst (All IsTag) (sym r.tags_are)
    (BeginsTags-IsTag bytes r.all_tags r.behind_tags (All-from_get_or (λ b. b < 256) bytes 0 (λ i _. small i)) r.tags_first)
