-- A good item's game is what the movetext of its tokens means.
use Rattle.std.proofs.Common.{◌≡◌, ◌&&◌, ◌||◌, nat_le, nat_lt, ℕ, zero, suc, Bool, true, false, not, cond, codes, List, [], ◌∷◌, ◌++◌, length, Some, None, Result, Ok, Err, refl, sym, ap, ◌∙◌, subst, arith, append_assoc}
use Rattle.pgn_read.specs.Lexing.{lexed, size}
use Rattle.std.proofs.lemmas.Bool.{and_parts, ltb-false}
use Rattle.cell_core.specs.declared.step.Move.{Move}
use Rattle.chess_laws.specs.declared.setup.Setup.{Setup}
use Rattle.chess_text.specs.declared.fault.FenFault.{FenFault}
use Rattle.chess_text.specs.declared.fault.SanFault.{SanFault}
use Rattle.chess_text.specs.FenAnswer.{fen_answer}
use Rattle.chess_text.specs.SanAnswer.{san_answer}
use Rattle.game_tree.specs.declared.head.Head.{Head}
use Rattle.game_tree.specs.Building.{Building, added, built, opening}
use Rattle.game_tree.specs.Game.{GameTree}
use Rattle.game_tree.specs.Item.{Item}
use Rattle.game_tree.specs.Item as item
use Rattle.game_tree.specs.Legal.{deepest}
use Rattle.game_tree.specs.Movetext.{Movetext, end, move, nag, comment, variation, items_of}
use Rattle.game_tree.specs.TagList.{is_named}
use Rattle.game_tree.specs.TagName.{is_among, roster_names}
use Rattle.game_tree.proofs.MovetextLemmas.{built-items_of}
use Rattle.pgn_read.specs.declared.item.GameWhat.TheVariants as what
use Rattle.pgn_read.specs.declared.item.Item.TheVariants.{Good}
use Rattle.pgn_read.specs.Turns.{Turn}
use Rattle.pgn_read.specs.Items.{all_spots, by_effect, effect_at, ended, first_token, item_from, next, next_item}
use Rattle.pgn_read.specs.Meant.{IsMeant, all_said, move_said, said, said_at, said_before}
use Rattle.pgn_read.specs.Reading.{Effect, Reading, at_tag, closed_to, effect, ends_before, ends_behind, game_of, goes_on, has_move, has_tag, is_faulty, is_inside, is_next_game, tag_effect, turn_at, unread, by_answer, played, with_tag, starting}
use Rattle.pgn_read.specs.Text.{At}
use Rattle.pgn_read.specs.Token.{Token}
use Rattle.pgn_read.specs.Token as token

-- ---- brackets

-- The brackets of variations close each other, where so many are open before.
abbrev Closes : List Item → ℕ → Type 0
Closes [] zero = Unit {0}
Closes [] (suc d) = ⊥
Closes (item.move m ∷ items) d = Closes items d
Closes (item.nag n ∷ items) d = Closes items d
Closes (item.comment text ∷ items) d = Closes items d
Closes (item.opens ∷ items) d = Closes items (suc d)
Closes (item.closes ∷ items) zero = ⊥
Closes (item.closes ∷ items) (suc d) = Closes items d

-- So they are those of movetexts, one for each open line, with a closing bracket behind each but the last.
abbrev Parsed : ℕ → List Item → Type 0
Parsed zero items = (s : Movetext) × (items ≡ items_of s)
Parsed (suc d) items = (s : Movetext) × ((later : List Item) × ((items ≡ items_of s ++ item.closes ∷ later) × Parsed d later))

one_more : (d : ℕ) (first : Item) (items : List Item) (with : Movetext → Movetext) → ((s : Movetext) → items_of (with s) ≡ first ∷ items_of s) → Parsed d items → Parsed d (first ∷ items)
one_more zero first items with is (s, e) = (with s, ap (λ (l : List Item). first ∷ l) e ∙ sym (is s))
one_more (suc d) first items with is (s, (later, (e, parsed))) =
    (with s, (later, (ap (λ (l : List Item). first ∷ l) e ∙ ap (λ (l : List Item). l ++ item.closes ∷ later) (sym (is s)), parsed)))

one_opens : (d : ℕ) (items : List Item) → Parsed (suc d) items → Parsed d (item.opens ∷ items)
one_opens zero items (inner, (later, (e, (s, f)))) =
    (variation inner s, ap (λ (l : List Item). item.opens ∷ l) (e ∙ ap (λ (l : List Item). items_of inner ++ item.closes ∷ l) f))
one_opens (suc d) items (inner, (later, (e, (s, (behind, (f, parsed)))))) = (
  variation inner s,
  (
    behind,
    (
      ap (λ (l : List Item). item.opens ∷ l)
          (e ∙ (ap (λ (l : List Item). items_of inner ++ item.closes ∷ l) f ∙ sym (append_assoc (items_of inner) (item.closes ∷ items_of s) (item.closes ∷ behind)))),
      parsed,
    ),
  ),
)

parse : (items : List Item) (d : ℕ) → Closes items d → Parsed d items
parse [] zero closes = (end, refl)
parse [] (suc d) closes = absurd closes
parse (item.move m ∷ items) d closes = one_more d (item.move m) items (move m) (λ s. refl) (parse items d closes)
parse (item.nag n ∷ items) d closes = one_more d (item.nag n) items (nag n) (λ s. refl) (parse items d closes)
parse (item.comment text ∷ items) d closes = one_more d (item.comment text) items (comment text) (λ s. refl) (parse items d closes)
parse (item.opens ∷ items) d closes = one_opens d items (parse items (suc d) closes)
parse (item.closes ∷ items) zero closes = absurd closes
parse (item.closes ∷ items) (suc d) closes = (end, (items, (refl, parse items d closes)))

-- ---- one token

built-append : (xs ys : List Item) (b : Building) → built (xs ++ ys) b ≡ built ys (built xs b)
built-append [] ys b = refl
built-append (x ∷ xs) ys b = built-append xs ys (added x b)

-- A token adds to the moves what it says, opens and closes brackets as it says, and ends a game where no bracket is open.
record Adds (t : Token) (r s : Reading) : Type 0 where
  moves : s.moves ≡ built (said t r) r.moves
  brackets : (items : List Item) → Closes items (length s.outer) → Closes (said t r ++ items) (length r.outer)

abbrev Does : Token → Reading → Effect → Type 0
Does t r (goes_on s) = Adds t r s
Does t r (ends_behind outcome) = length r.outer ≡ 0
Does t r ends_before = length r.outer ≡ 0
Does t r (is_faulty what) = Unit {0}

does_if : (t : Token) (r : Reading) (c : Bool) (x y : Effect) → (c ≡ true → Does t r x) → (c ≡ false → Does t r y) → Does t r (cond c x y)
does_if t r true x y yes_does no_does = yes_does refl
does_if t r false x y yes_does no_does = no_does refl

outside : (n : ℕ) → nat_lt 0 n ≡ false → n ≡ 0
outside n e = omega (arith, ltb-false 0 n e)

-- Of a token that says nothing of moves.
silent : (t : Token) (r s : Reading) → said t r ≡ [] → s.moves ≡ r.moves → s.outer ≡ r.outer → Adds t r s
silent t r s none moves outer = record {
  moves = moves ∙ ap (λ (l : List Item). built l r.moves) (sym none);
  brackets = λ items closes.
      subst (λ (l : List Item). Closes (l ++ items) (length r.outer)) (sym none) (subst (λ (o : List Turn). Closes items (length o)) outer closes);
}

starting_moves : (p : Setup) (r : Reading) (given : Bool) → (cond given r (record r { start = p; turn = turn_at p })).moves ≡ r.moves
starting_moves p r true = refl
starting_moves p r false = refl

starting_outer : (p : Setup) (r : Reading) (given : Bool) → (cond given r (record r { start = p; turn = turn_at p })).outer ≡ r.outer
starting_outer p r true = refl
starting_outer p r false = refl

fen_does : (name value : List ℕ) (r : Reading) (answer : Result Setup FenFault) → Does (token.tag name value) r (by_answer (λ p. with_tag (codes "FEN") value (starting p r)) what.Fen answer)
fen_does name value r (Ok p) =
    silent (token.tag name value) r _ refl (starting_moves p r (has_tag (codes "FEN") r.tags)) (starting_outer p r (has_tag (codes "FEN") r.tags))
fen_does name value r (Err fault) = tt

tag_does : (name value : List ℕ) (r : Reading) → Does (token.tag name value) r (tag_effect name value r)
tag_does name value r =
    let t : Token = token.tag name value in
    does_if t r (is_among roster_names name && has_tag name r.tags) _ _ (λ _. tt) (λ _.
    does_if t r (nat_lt 240 (length name) || nat_lt 255 (length value)) _ _ (λ _. tt) (λ _.
    does_if t r (is_named (codes "FEN") (record { name = name; value = value })) _ _ (λ _. fen_does name value r (fen_answer value))
    (λ _. silent t r _ refl refl refl)))

at_tag_does : (t : Token) (r : Reading) (e : Effect) → Does t r e → Does t r (at_tag r e)
at_tag_does t r e is = does_if t r (is_inside r) _ _ (λ _. tt) (λ out. does_if t r r.in_moves _ _ (λ _. outside (length r.outer) out) (λ _. is))

move_does : (text : List ℕ) (r : Reading) (answer : Result Move SanFault) → answer ≡ san_answer r.turn.now_at text → Does (token.move text) r (by_answer (λ m. played m r) what.San answer)
move_does text r (Ok m) same = record {
  moves = ap (λ (l : List Item). built l r.moves) (ap move_said same);
  brackets = λ items closes. subst (λ (l : List Item). Closes (l ++ items) (length r.outer)) (ap move_said same) closes;
}
move_does text r (Err fault) same = tt

closes_does : (r : Reading) (places : List Turn) → r.outer ≡ places → Does token.closes r (closed_to r places)
closes_does r [] same = tt
closes_does r (turn ∷ outer) same = record {
  moves = refl;
  brackets = λ items closes. subst (λ (o : List Turn). Closes (item.closes ∷ items) (length o)) (sym same) closes;
}

token_does : (t : Token) (r : Reading) → Does t r (effect t r)
unfolding effect
token_does (token.tag name value) r = at_tag_does (token.tag name value) r (tag_effect name value r) (tag_does name value r)
token_does token.bad_tag r = at_tag_does token.bad_tag r _ tt
token_does (token.comment text) r = record { moves = refl; brackets = λ items closes. closes }
token_does token.open_comment r = tt
token_does (token.nag n) r = does_if (token.nag n) r (has_move r) _ _ (λ _. record { moves = refl; brackets = λ items closes. closes }) (λ _. tt)
token_does token.opens r =
    does_if token.opens r (nat_le deepest (length r.outer)) _ _ (λ _. tt)
    (λ _. does_if token.opens r (has_move r) _ _ (λ _. record { moves = refl; brackets = λ items closes. closes }) (λ _. tt))
token_does token.closes r = closes_does r r.outer refl
token_does (token.ending outcome) r =
    does_if (token.ending outcome) r (is_inside r) _ _ (λ _. silent (token.ending outcome) r _ refl refl refl) (λ out. outside (length r.outer) out)
token_does token.number r = silent token.number r _ refl refl refl
token_does (token.move text) r = move_does text r (san_answer r.turn.now_at text) refl
token_does token.bad r = tt
token_does token.the_end r = does_if token.the_end r (is_inside r) _ _ (λ _. tt) (λ out. outside (length r.outer) out)

inside_not : (b : Bool) → not b ≡ true → b ≡ false
inside_not true e = cc
inside_not false e = refl

spot_does : (r : Reading) (spot : At) → Does (lexed spot.bytes).token r (effect_at r spot)
spot_does r spot =
    does_if (lexed spot.bytes).token r (is_next_game r spot.bytes) _ _
    (λ next. outside (length r.outer) (inside_not (is_inside r) (and_parts (not (is_inside r)) _ (and_parts r.in_moves _ next).1).0))
    (λ _. does_if (lexed spot.bytes).token r (nat_lt spot.room (size spot.bytes)) _ _ (λ _. tt) (λ _. token_does (lexed spot.bytes).token r))

-- ---- the tokens of an item

-- A game was read by these items behind what was read.
record Read (r : Reading) (items : List Item) (game : GameTree) : Type 0 where
  last : Reading
  is : game ≡ game_of last
  moves : last.moves ≡ built items r.moves
  brackets : Closes items (length r.outer)

ends_here : (r : Reading) (game : GameTree) → length r.outer ≡ 0 → game_of r ≡ game → Read r [] game
ends_here r game out same =
    record { last = r; is = sym same; moves = refl; brackets = subst (λ (n : ℕ). Closes [] n) (sym out) tt }

before_ends : (r : Reading) (a : At) (some : Bool) (head : Head) (game : GameTree) → length r.outer ≡ 0 → (cond some (ended r None a) (next None a)).item ≡ Some (Good head game) → Read r [] game
before_ends r a true head game out good = ends_here r game out (cc)
before_ends r a false head game out good = absurd (cc)

by_does : (r : Reading) (spot : At) (more : List At) (e : Effect) (head : Head) (game : GameTree) → Does (lexed spot.bytes).token r e
    → ((s : Reading) → (item_from s more).item ≡ Some (Good head game) → Read s (all_said s more) game)
    → (by_effect r spot (λ s. item_from s more) e).item ≡ Some (Good head game) → Read r (said_before (lexed spot.bytes).token r (λ s. all_said s more) e) game
by_does r spot more (goes_on s) head game does later good =
    let read = later s good in
    record {
      last = read.last;
      is = read.is;
      moves = read.moves ∙ (ap (λ (b : Building). built (all_said s more) b) does.moves ∙ sym (built-append (said (lexed spot.bytes).token r) (all_said s more) r.moves));
      brackets = does.brackets (all_said s more) read.brackets;
    }
by_does r spot more (ends_behind outcome) head game does later good = ends_here r game does (cc)
by_does r spot more ends_before head game does later good = before_ends r spot (r.in_moves || nat_lt 0 (length r.tags)) head game does good
by_does r spot more (is_faulty what) head game does later good = absurd (cc)

all_read : (spots : List At) (r : Reading) (head : Head) (game : GameTree) → (item_from r spots).item ≡ Some (Good head game) → Read r (all_said r spots) game
unfolding item_from all_said
all_read [] r head game good = absurd (cc)
all_read (spot ∷ more) r head game good = by_does r spot more (effect_at r spot) head game (spot_does r spot) (λ s h. all_read more s head game h) good

-- A good item's game.
pub game_meant : (a : At) (head : Head) (game : GameTree) → (next_item a).item ≡ Some (Good head game) → IsMeant (said_at a) game
unfolding next_item
game_meant a head game good =
    let read = all_read (all_spots (first_token a)) unread head game good in
    let parsed = parse (said_at a) 0 read.brackets in
    let s = parsed.0 in
    let built_so : read.last.moves ≡ built (items_of s) opening = read.moves ∙ ap (λ (l : List Item). built l opening) parsed.1 in
    let reads = built-items_of s read.last.moves built_so in (
      s,
      (
        parsed.1,
        (
          ap (λ (g : GameTree). g.lead) read.is ∙ reads.lead,
          ap (λ (g : GameTree). g.line) read.is ∙ reads.line,
        ),
      ),
    )
