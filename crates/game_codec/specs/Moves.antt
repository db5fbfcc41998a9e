-- The moves of a record (this project's own, after Scid's format): which bytes spell the items of a game in the order
-- in which they are written, each variation where it stands.
use Rattle.std.specs.Prelude.{◌≡◌, ℕ, List}
use Rattle.cell_core.specs.declared.step.Move.{Move}
use Rattle.game_tree.specs.Movetext.{Movetext, end, move, nag, comment, variation}
use Rattle.game_codec.specs.Place.{Place, Takes, FaultAt, ending, after_move, after_comment, variation_of}
use Rattle.game_codec.specs.Token.{Play, Nag, Comment, Open}
use Rattle.game_codec.specs.declared.fault.RecordWhat.{RecordWhat}

-- From this place on the bytes begin with the items of the movetext and the end of its line, and these bytes follow. The
-- texts of comments stand elsewhere.
abbrev pub SpellsMoves : Place → Movetext → List ℕ → List ℕ → Type 0
SpellsMoves p end bytes rest = Takes p bytes (ending p.depth) rest
SpellsMoves p (move m s) bytes rest = (later : List ℕ) × Takes p bytes (Play m) later × SpellsMoves (after_move p m) s later rest
SpellsMoves p (nag n s) bytes rest = (later : List ℕ) × Takes p bytes (Nag n) later × SpellsMoves p s later rest
SpellsMoves p (comment text s) bytes rest = (later : List ℕ) × Takes p bytes Comment later × SpellsMoves (after_comment p) s later rest
SpellsMoves p (variation inner s) bytes rest =
    (later : List ℕ) × Takes p bytes Open later
    × ((behind : List ℕ) × SpellsMoves (variation_of p) inner later behind × SpellsMoves p s behind rest)

-- The items of a line up to a place where something is wrong: each whole variation before it, and at last it stands here or
-- inside a variation that has begun.
pub data Upto : Type 0 where
  here : Upto
  past_move : Move → Upto → Upto
  past_nag : ℕ → Upto → Upto
  past_comment : Upto → Upto
  past_variation : Movetext → Upto → Upto
  inside : Upto → Upto

-- From this place on the bytes begin with these items, and what follows them, from there on, has this fault.
abbrev pub BreaksMoves : Place → Upto → List ℕ → List ℕ → RecordWhat → Type 0
BreaksMoves p here bytes rest what = (rest ≡ bytes) × FaultAt p bytes what
BreaksMoves p (past_move m u) bytes rest what =
    (later : List ℕ) × Takes p bytes (Play m) later × BreaksMoves (after_move p m) u later rest what
BreaksMoves p (past_nag n u) bytes rest what = (later : List ℕ) × Takes p bytes (Nag n) later × BreaksMoves p u later rest what
BreaksMoves p (past_comment u) bytes rest what =
    (later : List ℕ) × Takes p bytes Comment later × BreaksMoves (after_comment p) u later rest what
BreaksMoves p (past_variation inner u) bytes rest what =
    (later : List ℕ) × Takes p bytes Open later
    × ((behind : List ℕ) × SpellsMoves (variation_of p) inner later behind × BreaksMoves p u behind rest what)
BreaksMoves p (inside u) bytes rest what =
    (later : List ℕ) × Takes p bytes Open later × BreaksMoves (variation_of p) u later rest what
