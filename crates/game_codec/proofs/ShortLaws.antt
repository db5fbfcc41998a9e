-- A game has no more moves than its record has bytes.
use Rattle.std.proofs.Common.{ℕ, ◌+◌, ◌<◌, ◌≤◌, List, [], ◌∷◌, length, inl, inr, ap, arith, length-append, length-drop, Ok}
use Rattle.game_tree.specs.Game.{GameTree}
use Rattle.game_tree.specs.Tree.{moves_of}
use Rattle.game_tree.specs.Movetext.{Movetext, end, move, nag, comment, variation, meaning}
use Rattle.game_tree.specs.Replay.{plies_of}
use Rattle.game_tree.specs.declared.head.Tag.{Tag}
use Rattle.move_codec.specs.Numbers.{Numbered}
use Rattle.move_codec.proofs.RoundTrip.{Decodes-used}
use Rattle.game_codec.specs.TagReading.{BeginsTags}
use Rattle.game_codec.specs.Start.{BeginsStart}
use Rattle.game_codec.specs.Place.{Place, Takes, ending, beginning, after_move, after_comment, variation_of}
use Rattle.game_codec.specs.Moves.{SpellsMoves}
use Rattle.move_codec.proofs.Decoding.{to_decodes}
use Rattle.game_codec.proofs.TagReadingLaws.{tag_at-shorter}
use Rattle.game_codec.specs.Record.{IsSpelled}
use Rattle.game_codec.specs.Token.{Token, Play, Nag, Comment, Open, Close, End}

-- An item takes a byte at least.
pub Takes-longer : (p : Place) (bytes : List ℕ) (token : Token) (later : List ℕ) → Takes p bytes token later → length later < length bytes
Takes-longer p bytes (Play m) later takes =
    let used = Decodes-used p.here bytes m takes.1.0 (to_decodes p.here bytes (Ok (m, takes.1.0)) takes.1.1) in
    let left = ap (λ (l : List ℕ). length l) takes.1.2 in
    omega (arith, used.0, used.1, left, length-drop takes.1.0 bytes)
Takes-longer p bytes (Nag n) later takes = let e = ap (λ (l : List ℕ). length l) takes.1 in omega (arith, e)
Takes-longer p bytes Comment later takes = let e = ap (λ (l : List ℕ). length l) takes.1 in omega (arith, e)
Takes-longer p bytes Open later takes = let e = ap (λ (l : List ℕ). length l) takes.2 in omega (arith, e)
Takes-longer p bytes Close later takes = let e = ap (λ (l : List ℕ). length l) takes.1 in omega (arith, e)
Takes-longer p bytes End later takes = let e = ap (λ (l : List ℕ). length l) takes.1 in omega (arith, e)

Spells-longer : (p : Place) (s : Movetext) (bytes rest : List ℕ) → SpellsMoves p s bytes rest → length (moves_of (meaning s).line) + length rest < length bytes
Spells-longer p end bytes rest spells = omega (arith, Takes-longer p bytes (ending p.depth) rest spells)
Spells-longer p (move m s) bytes rest spells =
    omega (arith, Takes-longer p bytes (Play m) spells.0 spells.1, Spells-longer (after_move p m) s spells.0 rest spells.2)
Spells-longer p (nag n s) bytes rest spells =
    omega (arith, Takes-longer p bytes (Nag n) spells.0 spells.1, Spells-longer p s spells.0 rest spells.2)
Spells-longer p (comment text s) bytes rest spells =
    omega (arith, Takes-longer p bytes Comment spells.0 spells.1, Spells-longer (after_comment p) s spells.0 rest spells.2)
Spells-longer p (variation inner s) bytes rest spells =
    omega (
      arith,
      Takes-longer p bytes Open spells.0 spells.1,
      Spells-longer (variation_of p) inner spells.0 spells.2.0 spells.2.1,
      Spells-longer p s spells.2.0 rest spells.2.2,
    )

-- What is behind the tags, and behind the start, is shorter.
Tags-longer : (bytes : List ℕ) (tags : List Tag) (rest : List ℕ) → BeginsTags bytes tags rest → length rest ≤ length bytes
Tags-longer bytes [] rest begins = let e = ap (λ (l : List ℕ). length l) begins in omega (arith, e)
Tags-longer bytes (tag ∷ tags) rest begins =
    omega (arith, tag_at-shorter bytes tag begins.0 begins.1, Tags-longer begins.0 tags rest begins.2)

Start-longer : (bytes : List ℕ) (start : Numbered) (rest : List ℕ) → BeginsStart bytes start rest → length rest ≤ length bytes
Start-longer bytes start rest begins =
    elim begins [
      | inl standard ↦ let e = ap (λ (l : List ℕ). length l) standard.spelled in omega (arith, e)
      | inr own ↦ let e = ap (λ (l : List ℕ). length l) own.spelled in omega (arith, e, length-append own.text (0 ∷ rest))
    ]

pub record-short : (bytes : List ℕ) (tags : List Tag) (game : GameTree) → IsSpelled bytes tags game → plies_of game ≤ length bytes
record-short bytes tags game r =
    let e = ap (λ (g : GameTree). plies_of g) r.game_is in
    omega (
      arith,
      e,
      Tags-longer bytes r.all_tags r.behind_tags r.tags_first,
      Start-longer r.behind_tags r.start r.behind_start r.then_start,
      Spells-longer (beginning 0 r.start) r.movetext r.behind_start r.behind_moves r.then_moves,
    )
