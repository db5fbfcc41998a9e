-- A game that a record spells is legal.
use Rattle.std.proofs.Common.{ℕ, ◌+◌, ◌≤◌, List, [], ◌∷◌, Option, Some, None, length, ap, arith, Ok}
use Rattle.game_tree.specs.Tree.{depth_of, depth_within}
use Rattle.game_tree.specs.Movetext.{Movetext, end, move, nag, comment, variation, as_comment, joined, Said, meaning}
use Rattle.game_tree.specs.Legal.{IsComment, IsLegalLine, AreLegalBranches, IsLegalGame}
use Rattle.chess_laws.proofs.Stepping.{Legal-stepped}
use Rattle.move_codec.specs.Numbers.{Numbered}
use Rattle.move_codec.proofs.Decoding.{to_decodes}
use Rattle.game_codec.specs.Place.{Place, beginning, after_move, after_comment, variation_of}
use Rattle.game_codec.specs.Moves.{SpellsMoves}
use Rattle.game_codec.specs.RecordAnswer.{game_of}

joined-IsComment : (text : List ℕ) (later : Option (List ℕ)) → IsComment later → IsComment (joined (as_comment text) later)
joined-IsComment [] later is = is
joined-IsComment (c ∷ cs) None is = λ e. omega (arith, ap length e)
joined-IsComment (c ∷ cs) (Some text) is = λ e. omega (arith, ap length e)

-- What is said of the move before a place, and what follows it, is legal, and no deeper than a record goes.
record IsLegalSaid (p : Place) (said : Said) : Type 0 where
  comment : IsComment said.comment
  variations : AreLegalBranches p.before.position said.variations
  line : IsLegalLine p.here.position said.line
  depth_before : p.depth + depth_within said.variations ≤ 200
  depth_behind : p.depth + depth_of said.line ≤ 200

Spells-legal : (p : Place) (s : Movetext) (bytes rest : List ℕ) → p.depth ≤ 200 → SpellsMoves p s bytes rest → IsLegalSaid p (meaning s)
Spells-legal p end bytes rest under spells =
    record { comment = tt; variations = tt; line = tt; depth_before = omega (arith, under); depth_behind = omega (arith, under) }
Spells-legal p (move m s) bytes rest under spells =
    let on = Spells-legal (after_move p m) s spells.0 rest under spells.2 in
    record {
      comment = tt;
      variations = tt;
      line = (Legal-stepped p.here.position m (to_decodes p.here bytes (Ok (m, spells.1.1.0)) spells.1.1.1).1, (on.comment, (on.variations, on.line)));
      depth_before = omega (arith, under);
      depth_behind = omega (arith, on.depth_before, on.depth_behind);
    }
Spells-legal p (nag n s) bytes rest under spells =
    let on = Spells-legal p s spells.0 rest under spells.2 in
    record {
      comment = on.comment;
      variations = on.variations;
      line = on.line;
      depth_before = on.depth_before;
      depth_behind = on.depth_behind;
    }
Spells-legal p (comment text s) bytes rest under spells =
    let on = Spells-legal (after_comment p) s spells.0 rest under spells.2 in
    record {
      comment = joined-IsComment text (meaning s).comment on.comment;
      variations = on.variations;
      line = on.line;
      depth_before = on.depth_before;
      depth_behind = on.depth_behind;
    }
Spells-legal p (variation inner s) bytes rest under spells =
    let within = Spells-legal (variation_of p) inner spells.0 spells.2.0 (omega (arith, spells.1.1)) spells.2.1 in
    let on = Spells-legal p s spells.2.0 rest under spells.2.2 in
    record {
      comment = on.comment;
      variations = (within.comment, (within.line, on.variations));
      line = on.line;
      depth_before = omega (arith, within.depth_behind, on.depth_before);
      depth_behind = on.depth_behind;
    }

pub record-legal : (start : Numbered) (s : Movetext) (bytes rest : List ℕ) → SpellsMoves (beginning 0 start) s bytes rest → IsLegalGame (game_of start.position (meaning s))
record-legal start s bytes rest spells =
    let said = Spells-legal (beginning 0 start) s bytes rest (omega arith) spells in
    record { lead = said.comment; line = said.line; depth = omega (arith, said.depth_behind) }
