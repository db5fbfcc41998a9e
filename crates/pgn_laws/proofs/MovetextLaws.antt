-- The tokens of a movetext are read one by one as its items, in its variations too.
use Rattle.std.proofs.Common.{option_map, ◌≡◌, ◌≤◌, ◌<◌, ◌+◌, ◌==◌, ◌&&◌, nat_le, ℕ, suc, Bool, true, false, not, cond, List, [], ◌∷◌, ◌++◌, map, length, Option, Some, None, is_some, Ok, refl, sym, ap, ◌∙◌, subst, arith, append_assoc, length-append}
use Rattle.std.proofs.lemmas.Bool.{and_parts, and_right}
use Rattle.cell_core.specs.declared.man.Colour.{Colour}
use Rattle.cell_core.specs.declared.man.Colour.TheVariants.{White, Black}
use Rattle.cell_core.specs.declared.step.Move.{Move}
use Rattle.chess_laws.specs.declared.setup.Setup.{Setup}
use Rattle.chess_laws.specs.Position.{Sound}
use Rattle.chess_laws.specs.Step.{Legal, stepped}
use Rattle.chess_text.specs.SanText.{san_text}
use Rattle.game_tree.specs.Building.{Open, Building, more_nags, with_comment, with_comment_on, more_variations, variation_of, closed, added, built}
use Rattle.game_tree.specs.Item.{Item}
use Rattle.game_tree.specs.Item as item
use Rattle.game_tree.specs.Legal.{deepest}
use Rattle.game_tree.specs.Movetext.{Movetext, end, move, nag, comment, variation, items_of, as_comment}
use Rattle.game_tree.specs.Tree.{Played, Variation}
use Rattle.pgn_write.specs.Token.{Token as Written, token_text, without_brace}
use Rattle.pgn_write.specs.Token as written
use Rattle.pgn_write.specs.Tokens.{Turn as WrittenTurn, turn_behind, number_due, tokens_from}
use Rattle.pgn_read.specs.declared.item.GameWhat.TheVariants as what
use Rattle.pgn_read.specs.Bytes.{is_white, has_zero}
use Rattle.chess_text.specs.SanAnswer.{san_answer}
use Rattle.pgn_read.specs.Token.{Token}
use Rattle.pgn_read.specs.Token as token
use Rattle.pgn_read.specs.Text.{At, skipped, behind_token}
use Rattle.pgn_read.specs.Reading.{LineTurn, Reading, Effect, goes_on, effect, turn_at, moving, played, opened, closed_to, has_move, is_inside, by_answer}
use Rattle.pgn_read.specs.Items.{by_effect, item_at}
use Rattle.pgn_laws.proofs.SpelledLaws.{are_white, IsLed, Spells, spelled_long}
use Rattle.pgn_laws.proofs.PassingLaws.{Meets, token_met}
use Rattle.pgn_laws.proofs.TokenLaws.{IsReadAs, number_read, move_read, nag_read, comment_read, opens_read, closes_read}
use Rattle.pgn_laws.proofs.SanLaws.{san_again, san_bytes}

-- ---- one token

-- Behind white space the tokens stand here, and then the texts of other games. They are within the limit of this game.
pub record Stands (ts : List Written) (others : List ℕ) (a : At) : Type 0 where
  pub gap : List ℕ
  pub text : List ℕ
  pub bytes : a.bytes ≡ gap ++ text
  pub white : are_white gap ≡ true
  pub spelled : Spells others ts text
  pub fits : length a.bytes ≤ a.room + length others

pub white_then : (a b : List ℕ) → are_white a ≡ true → are_white b ≡ true → are_white (a ++ b) ≡ true
white_then [] b p q = q
white_then (byte ∷ a) b p q = let both = and_parts (is_white byte) (are_white a) p in rw both.0 (white_then a b both.1 q)

pub no_next : (a b c : Bool) → c ≡ false → (a && (b && c)) ≡ false
no_next a b c is = rw is rw (and_right b false refl) (and_right a false refl)

-- The next token has this effect, and the others stand behind it.
pub record HasEffect (r : Reading) (e : Effect) (ts : List Written) (others : List ℕ) (a : At) : Type 0 where
  pub at : At
  pub same : item_at r (skipped a) ≡ by_effect r at (λ s. item_at s (skipped (behind_token at))) e
  pub stands : Stands ts others (behind_token at)

pub token_effect : (r : Reading) (e : Effect) (w : Written) (t : Token) (ts : List Written) (others : List ℕ) (a : At)
    → IsReadAs w t → effect t r ≡ e → Stands (w ∷ ts) others a → HasEffect r e ts others a
token_effect r e w t ts others a read is stands =
    let led : IsLed w (Spells others ts) stands.text = stands.spelled in
    let more : List ℕ = read.trail ++ led.more in
    let body : List ℕ = read.first ∷ read.body in
    let text : token_text w ++ led.more ≡ body ++ more = ap (λ l. l ++ led.more) read.spelled ∙ append_assoc body read.trail led.more in
    let bytes : a.bytes ≡ (stands.gap ++ led.gap) ++ (body ++ more) =
    stands.bytes ∙ ap (λ l. stands.gap ++ l) (led.is ∙ ap (λ l. led.gap ++ l) text) ∙ sym (append_assoc stands.gap led.gap (body ++ more)) in
    let long : length others ≤ length more = omega (arith, spelled_long others ts led.more led.rest, length-append read.trail led.more) in
    let meets : Meets r a e more others =
    token_met r e a (stands.gap ++ led.gap) read.first read.body more others t bytes (white_then stands.gap led.gap stands.white led.white)
    read.begins (read.lexes led.more led.stop) (no_next r.in_moves (not (is_inside r)) (read.first == 91) read.no_tag) is stands.fits long in
    record {
      at = meets.at;
      same = meets.same;
      stands = record {
        gap = read.trail;
        text = led.more;
        bytes = meets.bytes;
        white = read.white;
        spelled = led.rest;
        fits = omega (arith, ap length meets.bytes, meets.fits);
      };
    }

-- Reading goes on behind a token.
pub record GoesOn (r s : Reading) (ts : List Written) (others : List ℕ) (a : At) : Type 0 where
  pub at : At
  pub same : item_at r (skipped a) ≡ item_at s (skipped at)
  pub stands : Stands ts others at

pub token_goes : (r s : Reading) (w : Written) (t : Token) (ts : List Written) (others : List ℕ) (a : At)
    → IsReadAs w t → effect t r ≡ goes_on s → Stands (w ∷ ts) others a → GoesOn r s ts others a
token_goes r s w t ts others a read is stands =
    let has : HasEffect r (goes_on s) ts others a = token_effect r (goes_on s) w t ts others a read is stands in
    record { at = behind_token has.at; same = has.same; stands = has.stands }

-- ---- what a movetext must keep to be read

-- The movetext as it is read: each closing brace of a comment is a closing bracket.
abbrev pub bracketed : Movetext → Movetext
bracketed end = end
bracketed (move m s) = move m (bracketed s)
bracketed (nag n s) = nag n (bracketed s)
bracketed (comment text s) = comment (map without_brace text) (bracketed s)
bracketed (variation inner s) = variation (bracketed inner) (bracketed s)

-- A movetext from these positions, in a line that is inside so many others and has a move or has none: its moves are legal, its
-- NAGs and variations stand behind moves.
abbrev pub IsReadable : ℕ → Setup → Setup → Bool → Movetext → Type 0
IsReadable level before here moved end = Unit {0}
IsReadable level before here moved (move m s) = (Sound here × Legal here m) × IsReadable level here (stepped here m) true s
IsReadable level before here moved (nag n s) = ((moved ≡ true) × (n < 256)) × IsReadable level before here moved s
IsReadable level before here moved (comment text s) = (has_zero (map without_brace text) ≡ false) × IsReadable level before here moved s
IsReadable level before here moved (variation inner s) =
    ((moved ≡ true) × (level < deepest)) × (IsReadable (suc level) before before false inner × IsReadable level before here moved s)

-- Reading has come to these positions in such a line.
pub record IsAt (level : ℕ) (before here : Setup) (moved : Bool) (r : Reading) : Type 0 where
  pub turn : r.turn ≡ record { before = before; now_at = here }
  pub inside : length r.outer ≡ level
  pub has_move : has_move r ≡ moved

-- ---- what items keep

pub built_append : (xs ys : List Item) (b : Building) → built (xs ++ ys) b ≡ built ys (built xs b)
built_append [] ys b = refl
built_append (x ∷ xs) ys b = built_append xs ys (added x b)

closed_outer : (o round : Open) (outer bs : List Open) → bs ≡ round ∷ outer → (closed o bs).outer ≡ outer
closed_outer o round outer bs is = ap (λ l. (closed o l).outer) is

-- A movetext opens as many lines as it closes.
pub outer_kept : (s : Movetext) (b : Building) → (built (items_of s) b).outer ≡ b.outer
outer_kept end b = refl
outer_kept (move m s) b = outer_kept s (added (item.move m) b)
outer_kept (nag n s) b = outer_kept s (added (item.nag n) b)
outer_kept (comment text s) b = outer_kept s (added (item.comment text) b)
outer_kept (variation inner s) b =
    let inside : Building = built (items_of inner) (added item.opens b) in
    ap (λ (c : Building). c.outer) (built_append (items_of inner) (item.closes ∷ items_of s) (added item.opens b))
    ∙ outer_kept s (added item.closes inside)
    ∙ closed_outer inside.current b.current b.outer inside.outer (outer_kept inner (added item.opens b))

pub nag_kept : (n : ℕ) (o : Option Played) → is_some (option_map (more_nags n) o) ≡ is_some o
nag_kept n None = refl
nag_kept n (Some x) = refl

pub comment_kept : (t lead : Option (List ℕ)) (done : List Played) (last : Option Played) → is_some (with_comment_on t lead done last).last ≡ is_some last
comment_kept t lead done None = refl
comment_kept t lead done (Some x) = refl

variation_kept : (v : Variation) (o : Option Played) → is_some (option_map (more_variations v) o) ≡ is_some o
variation_kept v None = refl
variation_kept v (Some x) = refl

-- ---- effects

pub number_effect : (r : Reading) → effect token.number r ≡ goes_on (moving r)
unfolding effect
number_effect r = refl

pub moved_effect : (r : Reading) (m : Move) (text : List ℕ) → san_answer r.turn.now_at text ≡ Ok m → effect (token.move text) r ≡ goes_on (played m r)
unfolding effect
moved_effect r m text is = ap (by_answer (λ m. played m r) what.San) is

pub nag_effect_is : (r : Reading) (n : ℕ) → has_move r ≡ true → effect (token.nag n) r ≡ goes_on (record (moving r) { moves = added (item.nag n) r.moves })
unfolding effect
nag_effect_is r n moved = rw moved refl

pub comment_effect : (r : Reading) (text : List ℕ) → effect (token.comment text) r ≡ goes_on (record r { moves = added (item.comment text) r.moves })
unfolding effect
comment_effect r text = refl

opens_if : (c d : Bool) (x y s : Effect) → c ≡ false → d ≡ true → cond c x (cond d s y) ≡ s
opens_if c d x y s p q = rw p rw q refl

not_deepest : (n : ℕ) → n < 200 → nat_le 200 n ≡ false
not_deepest n under = search (arith, under)

pub opens_effect_is : (r : Reading) → length r.outer < 200 → has_move r ≡ true → effect token.opens r ≡ goes_on (opened r)
unfolding effect
opens_effect_is r under moved = opens_if (nat_le 200 (length r.outer)) (has_move r) _ _ (goes_on (opened r)) (not_deepest (length r.outer) under) moved

abbrev pub closing : Reading → LineTurn → List LineTurn → Reading
closing r turn outer = record (moving r) { moves = added item.closes r.moves; turn = turn; outer = outer }

pub closes_effect : (r : Reading) (turn : LineTurn) (outer : List LineTurn) → r.outer ≡ turn ∷ outer → effect token.closes r ≡ goes_on (closing r turn outer)
unfolding effect
closes_effect r turn outer is = ap (closed_to r) is

-- A line has a move behind a variation where it had one before.
pub around_kept : (inner : Movetext) (b : Building)
    → is_some (added item.closes (built (items_of inner) (added item.opens b))).current.last ≡ is_some b.current.last
around_kept inner b =
    let inside : Building = built (items_of inner) (added item.opens b) in
    ap (λ l. is_some (closed inside.current l).current.last) (outer_kept inner (added item.opens b))
    ∙ variation_kept (variation_of inside.current) b.current.last

-- ---- one item

-- Reading comes behind tokens: the moves so far and the place in the line are these, and nothing else has changed.
record Comes (r : Reading) (moves : Building) (turn : LineTurn) (ts : List Written) (others : List ℕ) (a : At) : Type 0 where
  to : Reading
  at : At
  same : item_at r (skipped a) ≡ item_at to (skipped at)
  stands : Stands ts others at
  tags : to.tags ≡ r.tags
  start : to.start ≡ r.start
  outer : to.outer ≡ r.outer
  moves_are : to.moves ≡ moves
  turn_is : to.turn ≡ turn

-- What a token does that changes nothing else.
record Does (r s : Reading) (moves : Building) (turn : LineTurn) (t : Token) : Type 0 where
  goes : effect t r ≡ goes_on s
  tags : s.tags ≡ r.tags
  start : s.start ≡ r.start
  outer : s.outer ≡ r.outer
  moves_are : s.moves ≡ moves
  turn_is : s.turn ≡ turn

one_comes : (r s : Reading) (moves : Building) (turn : LineTurn) (w : Written) (t : Token) (ts : List Written) (others : List ℕ) (a : At)
    → IsReadAs w t → Does r s moves turn t → Stands (w ∷ ts) others a → Comes r moves turn ts others a
one_comes r s moves turn w t ts others a read does stands =
    let goes : GoesOn r s ts others a = token_goes r s w t ts others a read does.goes stands in
    record {
      to = s;
      at = goes.at;
      same = goes.same;
      stands = goes.stands;
      tags = does.tags;
      start = does.start;
      outer = does.outer;
      moves_are = does.moves_are;
      turn_is = does.turn_is;
    }

-- A number changes nothing but that the moves have begun, and is written or not.
no_number : (r : Reading) (ts : List Written) (others : List ℕ) (a : At) → Stands ts others a → Comes r r.moves r.turn ts others a
no_number r ts others a stands =
    record { to = r; at = a; same = refl; stands = stands; tags = refl; start = refl; outer = refl; moves_are = refl; turn_is = refl }

one_number : (r : Reading) (n : ℕ) (side : Colour) (ts : List Written) (others : List ℕ) (a : At) → Stands (written.number n side ∷ ts) others a
    → Comes r r.moves r.turn ts others a
one_number r n side ts others a stands =
    one_comes r (moving r) r.moves r.turn (written.number n side) token.number ts others a (number_read n side)
    (record { goes = number_effect r; tags = refl; start = refl; outer = refl; moves_are = refl; turn_is = refl }) stands

numbers : (r : Reading) (side : Colour) (n : ℕ) (resumed : Bool) (more ts : List Written) (others : List ℕ) (a : At)
    → Stands ((number_due side n resumed ++ more) ++ ts) others a → Comes r r.moves r.turn (more ++ ts) others a
numbers r White n resumed more ts others a stands = one_number r n White (more ++ ts) others a stands
numbers r Black n true more ts others a stands = one_number r n Black (more ++ ts) others a stands
numbers r Black n false more ts others a stands = no_number r (more ++ ts) others a stands

-- A move behind what was read so far.
move_comes : (r : Reading) (p : Setup) (m : Move) (ts : List Written) (others : List ℕ) (a : At) → Sound p → Legal p m → r.turn.now_at ≡ p
    → Stands (written.move (san_text p m) ∷ ts) others a
    → Comes r (added (item.move m) r.moves) (record { before = p; now_at = stepped p m }) ts others a
move_comes r p m ts others a sound legal here stands =
    let text : List ℕ = san_text p m in
    let answer : san_answer r.turn.now_at text ≡ Ok m = ap (λ q. san_answer q text) here ∙ san_again p m sound legal in
    one_comes r (played m r) (added (item.move m) r.moves) (record { before = p; now_at = stepped p m }) (written.move text) (token.move text) ts others a
    (move_read text (san_bytes p m sound legal))
    (record {
      goes = moved_effect r m text answer;
      tags = refl;
      start = refl;
      outer = refl;
      moves_are = refl;
      turn_is = ap (λ q. record { before = q; now_at = stepped q m }) here;
    }) stands

numbered_comes : (r : Reading) (p : Setup) (n : ℕ) (resumed : Bool) (m : Move) (more ts : List Written) (others : List ℕ) (a : At)
    → Sound p → Legal p m → r.turn.now_at ≡ p → Stands ((number_due p.side n resumed ++ written.move (san_text p m) ∷ more) ++ ts) others a
    → Comes r (added (item.move m) r.moves) (record { before = p; now_at = stepped p m }) (more ++ ts) others a
numbered_comes r p n resumed m more ts others a sound legal here stands =
    let first : Comes r r.moves r.turn (written.move (san_text p m) ∷ (more ++ ts)) others a =
    numbers r p.side n resumed (written.move (san_text p m) ∷ more) ts others a stands in
    let q : Reading = first.to in
    let second : Comes q (added (item.move m) q.moves) (record { before = p; now_at = stepped p m }) (more ++ ts) others first.at =
    move_comes q p m (more ++ ts) others first.at sound legal (ap (λ (t : LineTurn). t.now_at) first.turn_is ∙ here) first.stands in
    record {
      to = second.to;
      at = second.at;
      same = first.same ∙ second.same;
      stands = second.stands;
      tags = second.tags ∙ first.tags;
      start = second.start ∙ first.start;
      outer = second.outer ∙ first.outer;
      moves_are = second.moves_are ∙ ap (added (item.move m)) first.moves_are;
      turn_is = second.turn_is;
    }

nag_comes : (r : Reading) (n : ℕ) (ts : List Written) (others : List ℕ) (a : At) → n < 256 → has_move r ≡ true → Stands (written.nag n ∷ ts) others a
    → Comes r (added (item.nag n) r.moves) r.turn ts others a
nag_comes r n ts others a small moved stands =
    one_comes r (record (moving r) { moves = added (item.nag n) r.moves }) (added (item.nag n) r.moves) r.turn (written.nag n) (token.nag n) ts others a
    (nag_read n small) (record { goes = nag_effect_is r n moved; tags = refl; start = refl; outer = refl; moves_are = refl; turn_is = refl }) stands

comment_comes : (r : Reading) (text : List ℕ) (ts : List Written) (others : List ℕ) (a : At) → has_zero (map without_brace text) ≡ false
    → Stands (written.comment text ∷ ts) others a → Comes r (added (item.comment (map without_brace text)) r.moves) r.turn ts others a
comment_comes r text ts others a free stands =
    let said : List ℕ = map without_brace text in
    one_comes r (record r { moves = added (item.comment said) r.moves }) (added (item.comment said) r.moves) r.turn (written.comment text) (token.comment said) ts others a
    (comment_read text free) (record { goes = comment_effect r said; tags = refl; start = refl; outer = refl; moves_are = refl; turn_is = refl }) stands

-- ---- a movetext

-- What was read is the movetext behind what was read before.
pub record Reads (s : Movetext) (r : Reading) (ts : List Written) (others : List ℕ) (a : At) : Type 0 where
  pub to : Reading
  pub at : At
  pub same : item_at r (skipped a) ≡ item_at to (skipped at)
  pub stands : Stands ts others at
  pub tags : to.tags ≡ r.tags
  pub start : to.start ≡ r.start
  pub outer : to.outer ≡ r.outer
  pub moves : to.moves ≡ built (items_of (bracketed s)) r.moves

-- A movetext of which the first item was read.
reads_from : (whole s : Movetext) (r : Reading) (moves : Building) (turn : LineTurn) (us ts : List Written) (others : List ℕ) (a : At)
    → (c : Comes r moves turn us others a) → built (items_of (bracketed s)) moves ≡ built (items_of (bracketed whole)) r.moves
    → Reads s c.to ts others c.at → Reads whole r ts others a
reads_from whole s r moves turn us ts others a c is rest = record {
  to = rest.to;
  at = rest.at;
  same = c.same ∙ rest.same;
  stands = rest.stands;
  tags = rest.tags ∙ c.tags;
  start = rest.start ∙ c.start;
  outer = rest.outer ∙ c.outer;
  moves = rest.moves ∙ ap (built (items_of (bracketed s))) c.moves_are ∙ is;
}

-- Where reading has come to.
comes_at : (level : ℕ) (before here : Setup) (moved : Bool) (r : Reading) (moves : Building) (turn : LineTurn) (us : List Written) (others : List ℕ) (a : At)
    → (c : Comes r moves turn us others a) → length r.outer ≡ level → turn ≡ record { before = before; now_at = here }
    → is_some moves.current.last ≡ moved → IsAt level before here moved c.to
comes_at level before here moved r moves turn us others a c inside is has = record {
  turn = c.turn_is ∙ is;
  inside = ap length c.outer ∙ inside;
  has_move = ap (λ (b : Building). is_some b.current.last) c.moves_are ∙ has;
}

-- A whole variation, where the movetext in its brackets is read.
variation_comes : (inner : Movetext) (r : Reading) (us ts : List Written) (others : List ℕ) (a : At) → (one : GoesOn r (opened r) us others a)
    → Reads inner (opened r) (written.closes ∷ ts) others one.at
    → Comes r (added item.closes (built (items_of (bracketed inner)) (added item.opens r.moves))) r.turn ts others a
variation_comes inner r us ts others a one i =
    let q : Reading = closing i.to r.turn r.outer in
    let two : GoesOn i.to q ts others i.at =
    token_goes i.to q written.closes token.closes ts others i.at closes_read (closes_effect i.to r.turn r.outer i.outer) i.stands in
    record {
      to = q;
      at = two.at;
      same = one.same ∙ i.same ∙ two.same;
      stands = two.stands;
      tags = i.tags;
      start = i.start;
      outer = refl;
      moves_are = ap (added item.closes) i.moves;
      turn_is = refl;
    }

-- The opening bracket of a variation, with what stands in it and behind it.
variation_opens : (r : Reading) (inner rest ts : List Written) (others : List ℕ) (a : At) → length r.outer < 200 → has_move r ≡ true
    → Stands ((written.opens ∷ (inner ++ (written.closes ∷ rest))) ++ ts) others a → GoesOn r (opened r) (inner ++ (written.closes ∷ (rest ++ ts))) others a
variation_opens r inner rest ts others a under moved stands =
    let one : GoesOn r (opened r) ((inner ++ (written.closes ∷ rest)) ++ ts) others a =
    token_goes r (opened r) written.opens token.opens ((inner ++ (written.closes ∷ rest)) ++ ts) others a opens_read (opens_effect_is r under moved) stands in
    record { at = one.at; same = one.same; stands = subst (λ l. Stands l others one.at) (append_assoc inner (written.closes ∷ rest) ts) one.stands }

pub opened_at : (level : ℕ) (before here : Setup) (moved : Bool) (r : Reading) → IsAt level before here moved r → IsAt (suc level) before before false (opened r)
opened_at level before here moved r is =
    record { turn = ap (λ (t : LineTurn). turn_at t.before) is.turn; inside = ap suc is.inside; has_move = refl }

pub read_movetext : (s : Movetext) (level : ℕ) (before here : WrittenTurn) (resumed moved : Bool) (r : Reading) (ts : List Written) (others : List ℕ) (a : At)
    → IsReadable level before.position here.position moved s → IsAt level before.position here.position moved r
    → Stands (tokens_from before here resumed s ++ ts) others a → Reads s r ts others a
read_movetext end level before here resumed moved r ts others a able is stands =
    record { to = r; at = a; same = refl; stands = stands; tags = refl; start = refl; outer = refl; moves = refl }
read_movetext (move m s) level before here resumed moved r ts others a able is stands =
    let p : Setup = here.position in
    let next : WrittenTurn = turn_behind here m in
    let more : List Written = tokens_from here next false s in
    let c : Comes r (added (item.move m) r.moves) (record { before = p; now_at = stepped p m }) (more ++ ts) others a =
    numbered_comes r p here.number resumed m more ts others a able.0.0 able.0.1 (ap (λ (t : LineTurn). t.now_at) is.turn) stands in
    reads_from (move m s) s r _ _ (more ++ ts) ts others a c refl
    (read_movetext s level here next false true c.to ts others c.at able.1 (comes_at level p (stepped p m) true r _ _ _ others a c is.inside refl refl) c.stands)
read_movetext (nag n s) level before here resumed moved r ts others a able is stands =
    let more : List Written = tokens_from before here resumed s ++ ts in
    let c : Comes r (added (item.nag n) r.moves) r.turn more others a = nag_comes r n more others a able.0.1 (is.has_move ∙ able.0.0) stands in
    reads_from (nag n s) s r _ _ more ts others a c refl
    (read_movetext s level before here resumed moved c.to ts others c.at able.1
    (comes_at level before.position here.position moved r _ _ _ others a c is.inside is.turn (nag_kept n r.moves.current.last ∙ is.has_move)) c.stands)
read_movetext (comment text s) level before here resumed moved r ts others a able is stands =
    let more : List Written = tokens_from before here true s ++ ts in
    let o : Open = r.moves.current in
    let c : Comes r (added (item.comment (map without_brace text)) r.moves) r.turn more others a = comment_comes r text more others a able.0 stands in
    let kept : is_some (with_comment (map without_brace text) o).last ≡ moved =
    comment_kept (as_comment (map without_brace text)) o.lead o.done o.last ∙ is.has_move in
    reads_from (comment text s) s r _ _ more ts others a c refl
    (read_movetext s level before here true moved c.to ts others c.at able.1
    (comes_at level before.position here.position moved r _ _ _ others a c is.inside is.turn kept) c.stands)
read_movetext (variation inner s) level before here resumed moved r ts others a able is stands =
    let p : Setup = before.position in
    let more : List Written = tokens_from before here true s in
    let within : List Written = tokens_from before before true inner in
    let under : length r.outer < 200 = omega (arith, is.inside, able.0.1) in
    let one : GoesOn r (opened r) (within ++ (written.closes ∷ (more ++ ts))) others a =
    variation_opens r within more ts others a under (is.has_move ∙ able.0.0) stands in
    let i : Reads inner (opened r) (written.closes ∷ (more ++ ts)) others one.at =
    read_movetext inner (suc level) before before true false (opened r) (written.closes ∷ (more ++ ts)) others one.at able.1.0
    (opened_at level p here.position moved r is) one.stands in
    let c : Comes r (added item.closes (built (items_of (bracketed inner)) (added item.opens r.moves))) r.turn (more ++ ts) others a =
    variation_comes inner r _ (more ++ ts) others a one i in
    reads_from (variation inner s) s r _ _ (more ++ ts) ts others a c
    (sym (built_append (items_of (bracketed inner)) (item.closes ∷ items_of (bracketed s)) (added item.opens r.moves)))
    (read_movetext s level before here true moved c.to ts others c.at able.1.1
    (comes_at level p here.position moved r _ _ _ others a c is.inside is.turn (around_kept (bracketed inner) r.moves ∙ is.has_move)) c.stands)
