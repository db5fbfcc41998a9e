-- A movetext while its tokens are written one by one. The last unit is kept back, since a closing bracket may still
-- belong to it, and only a whole unit tells whether it fits on its line. No public contract cites these words.
use Rattle.std.specs.Prelude.{ℕ, ◌+◌, ◌-◌, ◌≤◌, Bool, true, false, ◌||◌, if◌then◌else◌, List, [], ◌∷◌, ◌++◌, Option, Some, None, is_some, length, take, drop, refl}
use Rattle.std.specs.Coded.{Coded, code_by, coded×, coded_ℕ, coded_bool, coded_list, coded_option}
use Rattle.cell_core.specs.declared.man.Colour.{Colour}
use Rattle.cell_core.specs.declared.man.Colour.TheVariants.{White, Black}
use Rattle.cell_core.specs.declared.step.Move.{Move}
use Rattle.chess_laws.specs.declared.setup.Setup.{Setup}
use Rattle.chess_text.specs.SanText.{san_text}
use Rattle.game_tree.specs.Tree.{Branches, none, more, Played}
use Rattle.game_tree.specs.Written.{comment_before, movetext_of}
use Rattle.pgn_write.specs.Token.{Token, token_text}
use Rattle.pgn_write.specs.Token as token
use Rattle.pgn_write.specs.Layout.{holds_next, column_after, has_room}
use Rattle.pgn_write.specs.Tokens.{Turn, number_due, tokens_from}

-- What is written, the unit behind it, the length of the line before that unit (none for the first unit), and whether the next
-- token belongs to the unit.
pub record Writing : Type 0 where
  pub written : List ℕ
  pub unit : List ℕ
  pub column : Option ℕ
  pub holds : Bool

-- A text that is written and the unit behind it, one behind the other: the unit begins at a place, and the byte that leads it in stands
-- before it, whatever it is, unless it is the first.
abbrev pub lead_size : Option ℕ → ℕ
lead_size None = 0
lead_size (Some column) = 1

pub record IsLaid (text : List ℕ) (place : ℕ) (column : Option ℕ) : Type 0 where
  pub led : lead_size column ≤ place
  pub within : place ≤ length text

abbrev pub seen : List ℕ → ℕ → Option ℕ → Bool → Writing
seen text place column holds =
    record { written = take (place - lead_size column) text; unit = drop place text; column = column; holds = holds }

-- Before the first token.
abbrev pub begun : List ℕ → Writing
begun text = record { written = text; unit = []; column = None; holds = true }

-- What leads a unit in, and where on its line it begins.
abbrev pub lead_in : Option ℕ → List ℕ → List ℕ
lead_in None unit = []
lead_in (Some column) unit = (if has_room column unit then 32 else 10) ∷ []

abbrev pub begins_at : Option ℕ → List ℕ → ℕ
begins_at None unit = 0
begins_at (Some column) unit = if has_room column unit then column + 1 else 0

-- The unit is written, and the next one is empty.
abbrev pub flushed : Writing → Writing
flushed w =
    record {
      written = w.written ++ (lead_in w.column w.unit ++ w.unit);
      unit = [];
      column = Some (column_after (begins_at w.column w.unit) w.unit);
      holds = true;
    }

-- Whether a token goes on with the unit before it.
abbrev pub is_closing : Token → Bool
is_closing token.closes = true
is_closing _ = false

-- There is a unit for a token.
abbrev pub ready : Bool → Writing → Writing
ready closing w = if w.holds || closing then w else flushed w

-- The unit with more bytes.
abbrev pub grown : List ℕ → Bool → Writing → Writing
grown bytes holding w = record { written = w.written; unit = w.unit ++ bytes; column = w.column; holds = holding }

-- The state after a token, and after several.
abbrev pub put : Token → Writing → Writing
put token w = grown (token_text token) (holds_next token) (ready (is_closing token) w)

abbrev pub put_all : List Token → Writing → Writing
put_all [] w = w
put_all (token ∷ tokens) w = put_all tokens (put token w)

-- A place in a line.
abbrev pub turn : Setup → ℕ → Turn
turn p n = record { position = p; number = n }

-- The parts of a line as they are written one behind the other: a move with the number before it, the NAGs, a comment, and the
-- variations of the move behind this place.
abbrev pub move_tokens : Turn → Bool → Move → List Token
move_tokens t resumed m = number_due t.position.side t.number resumed ++ token.move (san_text t.position m) ∷ []

abbrev pub nag_tokens : List ℕ → List Token
nag_tokens [] = []
nag_tokens (n ∷ ns) = token.nag n ∷ nag_tokens ns

abbrev pub comment_tokens : Option (List ℕ) → List Token
comment_tokens None = []
comment_tokens (Some text) = token.comment text ∷ []

abbrev pub branch_tokens : Turn → Branches → List Token
branch_tokens t none = []
branch_tokens t (more lead line others) =
    token.opens ∷ tokens_from t t true (comment_before lead (movetext_of line)) ++ token.closes ∷ branch_tokens t others

-- A move of a line with its NAGs and its comment, and with all that stands behind it.
abbrev pub own_tokens : Turn → Bool → Played → List Token
own_tokens t resumed played = move_tokens t resumed played.mv ++ (nag_tokens played.nags ++ comment_tokens played.comment)

abbrev pub node_tokens : Turn → Bool → Played → List Token
node_tokens t resumed played =
    move_tokens t resumed played.mv
    ++ (nag_tokens played.nags ++ (comment_tokens played.comment ++ branch_tokens t played.variations))

-- Whether a comment or a variation stands behind a move.
abbrev pub has_variations : Branches → Bool
has_variations none = false
has_variations (more lead line others) = true

abbrev pub is_resumed : Played → Bool
is_resumed played = is_some played.comment || has_variations played.variations

-- How many bytes there are in all.
abbrev pub size : Writing → ℕ
size w = length w.written + length w.unit

-- The number of the next move of White is no more than the bytes in all.
abbrev pub IsLow : Colour → ℕ → ℕ → Type 0
IsLow White number bytes = number ≤ bytes
IsLow Black number bytes = number + 1 ≤ bytes

abbrev pub coded_writing : Coded Writing
coded_writing =
    code_by (List ℕ × (List ℕ × (Option ℕ × Bool))) (coded× (coded_list coded_ℕ) (coded× (coded_list coded_ℕ) (coded× (coded_option coded_ℕ) coded_bool)))
    (λ w. (w.written, (w.unit, (w.column, w.holds))))
    (λ t. record { written = t.0; unit = t.1.0; column = t.1.1.0; holds = t.1.1.1 })
    (λ _. refl)
