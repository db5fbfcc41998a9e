-- What was written is read again: game by game.
use Rattle.std.proofs.Common.{◌≡◌, ◌≤◌, ◌+◌, ◌-◌, ◌==◌, ◌&&◌, nat_lt, ℕ, true, false, cond, List, [], ◌∷◌, ◌++◌, map, length, drop, Some, None, is_some, All, refl, sym, ap, ◌∙◌, subst, arith, append_assoc, append-nil, length-append, flat_map, fold}
use Rattle.std.proofs.lemmas.Bool.{and_parts, and_right}
use Rattle.std.specs.List.{AllByRecursion}
use Rattle.std.proofs.lemmas.List.Elements.{recursion_from_All}
use Rattle.chess_laws.specs.declared.setup.Setup.{Setup}
use Rattle.game_tree.specs.declared.head.Head.{Head}
use Rattle.game_tree.specs.declared.head.Outcome.{Outcome}
use Rattle.game_tree.specs.declared.head.Tag.{Tag}
use Rattle.game_tree.specs.Building.{Building, built}
use Rattle.game_tree.specs.Comments.{with_comments}
use Rattle.game_tree.specs.Game.{GameTree}
use Rattle.game_tree.specs.Kept.{IsGame}
use Rattle.game_tree.specs.Movetext.{Movetext, items_of}
use Rattle.game_tree.specs.Written.{movetext_of_game}
use Rattle.pgn_write.specs.Layout.{layout}
use Rattle.pgn_write.specs.Pgn.{pgn_of}
use Rattle.pgn_write.specs.TagPairs.{tags_of, tag_text}
use Rattle.pgn_write.specs.Token.{without_brace}
use Rattle.pgn_write.specs.Token as written
use Rattle.pgn_write.specs.Tokens.{Turn as WrittenTurn, first_turn, tokens_of}
use Rattle.pgn_read.specs.declared.item.Item.TheVariants.{Good}
use Rattle.pgn_read.specs.declared.place.Place.{Place}
use Rattle.pgn_read.specs.Place.{next_place}
use Rattle.pgn_read.specs.Bytes.{is_white, begins}
use Rattle.pgn_read.specs.Token as token
use Rattle.pgn_read.specs.Lexing.{lexed}
use Rattle.pgn_read.specs.Text.{At, here, longest, behind_gap, skipped, behind_token, passed, behind_mark, spots}
use Rattle.pgn_read.specs.Fit.{IsFitGame}
use Rattle.pgn_read.specs.Heads.{head_from}
use Rattle.pgn_read.specs.Reading.{LineTurn, Reading, goes_on, ends_behind, effect, moving, unread, game_of}
use Rattle.pgn_read.specs.Items.{Next, next, item_from, item_at, next_item, AreItems, text_start, PgnReads}
use Rattle.pgn_read.proofs.ItemLaws.{whole_room}
use Rattle.pgn_laws.specs.RoundTrip.{Headed, IsReadAgain, text_of, texts_of, again}
use Rattle.pgn_laws.proofs.SpelledLaws.{are_white, stops, layout_spells}
use Rattle.pgn_laws.proofs.PassingLaws.{begins_token, gap_passed}
use Rattle.pgn_laws.proofs.RunLaws.{apart}
use Rattle.pgn_laws.proofs.TokenLaws.{ending_read}
use Rattle.pgn_laws.proofs.MovetextLaws.{Stands, HasEffect, token_effect, bracketed, IsAt, Reads, read_movetext, white_then}
use Rattle.pgn_laws.proofs.ReadableLaws.{game_able, game_read}
use Rattle.pgn_laws.proofs.HeadsAgainLaws.{head_again}
use Rattle.pgn_laws.proofs.TagsLaws.{IsBegun, Has, ComesTo}
use Rattle.pgn_laws.proofs.TakenLaws.{read_all_tags}

-- ---- where an item begins

start_at : (a : At) (gap : List ℕ) (byte : ℕ) (text : List ℕ) → a.bytes ≡ gap ++ byte ∷ text → are_white gap ≡ true → begins_token byte ≡ true
    → whole_room (skipped a) ≡ skipped (here (fold next_place a.place gap) longest (byte ∷ text))
start_at a gap byte text bytes white begins =
    ap whole_room (ap (λ w. behind_gap false a.place a.room w) bytes ∙ gap_passed gap a.place a.room byte text white begins)
    ∙ sym (gap_passed [] (fold next_place a.place gap) longest byte text refl begins)

gap_end : (gap : List ℕ) (place : Place) (room : ℕ) → are_white gap ≡ true
    → (behind_gap false place room (gap ++ [])).bytes ≡ []
gap_end [] place room white = refl
gap_end (w ∷ gap) place room white =
    let b = and_parts (is_white w) (are_white gap) white in
    rw (apart is_white w 37 b.0 refl) rw (and_right (place.column == 1) false refl) rw b.0 (gap_end gap (next_place place w) (room - 1) b.1)

abbrev byte_order_mark : List ℕ
byte_order_mark = 239 ∷ 187 ∷ 191 ∷ []

unmarked : (a : At) → begins byte_order_mark a.bytes ≡ false → behind_mark a ≡ a
unmarked a none = ap (λ b. cond b (passed 3 a) a) (ap (λ b. ((a.place.line == 1) && (a.place.column == 1)) && b) none ∙ and_right ((a.place.line == 1) && (a.place.column == 1)) false refl)

-- ---- the movetext and the result

result_effect : (r : Reading) (o : Outcome) → r.outer ≡ [] → effect (token.ending o) r ≡ ends_behind o
unfolding effect
result_effect r o outer =
    ap (λ b. cond b (goes_on (moving r)) (ends_behind o)) (ap (λ (l : List LineTurn). nat_lt 0 (length l)) outer)

-- The game that these tokens end.
record Ends (g : Headed) (tags : List Tag) (others : List ℕ) (r : Reading) (a : At) : Type 0 where
  at : At
  same : item_at r (skipped a) ≡ next (Some (Good (head_from tags (Some g.head.result)) (with_comments (map without_brace) g.game))) at
  gap : List ℕ
  bytes : at.bytes ≡ gap ++ others
  white : are_white gap ≡ true

begun_at : (p : Setup) (tags : List Tag) (r : Reading) → IsBegun p tags r → IsAt 0 p p false r
begun_at p tags r begun = record {
  turn = begun.turn;
  inside = ap length begun.outer;
  has_move = ap (λ (b : Building). is_some b.current.last) begun.moves;
}

movetext_ends : (g : Headed) (tags : List Tag) (others : List ℕ) (r : Reading) (a : At) → IsReadAgain g → IsBegun g.game.start tags r
    → Stands (tokens_of g.game g.head.result) others a → Ends g tags others r a
movetext_ends g tags others r a is begun stands =
    let start : WrittenTurn = first_turn g.game.start in
    let s : Movetext = movetext_of_game g.game in
    let o : Outcome = g.head.result in
    let reads : Reads s r (written.ending o ∷ []) others a =
    read_movetext s 0 start start true false r (written.ending o ∷ []) others a (game_able g.game is.fit.legal is.kept)
    (begun_at g.game.start tags r begun) stands in
    let last : HasEffect reads.to (ends_behind o) [] others reads.at =
    token_effect reads.to (ends_behind o) (written.ending o) (token.ending o) [] others reads.at (ending_read o)
    (result_effect reads.to o (reads.outer ∙ begun.outer)) reads.stands in
    let game : game_of reads.to ≡ with_comments (map without_brace) g.game =
    game_read g.game reads.to is.fit.legal (reads.start ∙ begun.start) (reads.moves ∙ ap (built (items_of (bracketed s))) begun.moves) in
    let head : head_from reads.to.tags (Some o) ≡ head_from tags (Some o) = ap (λ l. head_from l (Some o)) (reads.tags ∙ begun.tags) in
    record {
      at = behind_token last.at;
      same = reads.same ∙ last.same ∙ (λ i. next (Some (Good (head i) (game i))) (behind_token last.at));
      gap = last.stands.gap;
      bytes = last.stands.bytes ∙ ap (λ l. last.stands.gap ++ l) last.stands.spelled;
      white = last.stands.white;
    }

-- ---- a game

record IsRead (g : Headed) (others : List ℕ) (a : At) : Type 0 where
  at : At
  same : next_item a ≡ next (Some (again g)) at
  gap : List ℕ
  bytes : at.bytes ≡ gap ++ (10 ∷ 10 ∷ others)
  white : are_white gap ≡ true

movetext_text : Headed → List ℕ → List ℕ
movetext_text g others = 10 ∷ (layout (tokens_of g.game g.head.result) ++ others)

text_split : (g : Headed) (others : List ℕ) → text_of g ++ others ≡ flat_map tag_text (tags_of g.head g.game) ++ movetext_text g (10 ∷ 10 ∷ others)
unfolding pgn_of movetext_text
text_split g others =
    let lines : List ℕ = layout (tokens_of g.game g.head.result) in
    append_assoc (flat_map tag_text (tags_of g.head g.game)) (10 ∷ (lines ++ 10 ∷ 10 ∷ [])) others
    ∙ ap (λ l. flat_map tag_text (tags_of g.head g.game) ++ 10 ∷ l) (append_assoc lines (10 ∷ 10 ∷ []) others)

first_byte : (head : Head) (game : GameTree) (tail : List ℕ) → flat_map tag_text (tags_of head game) ++ tail ≡ 91 ∷ drop 1 (flat_map tag_text (tags_of head game) ++ tail)
first_byte head game tail = refl

tags_stand : (g : Headed) (others : List ℕ) (a : At) → stops others ≡ true → Has (movetext_text g others) others a → Stands (tokens_of g.game g.head.result) others a
unfolding movetext_text
tags_stand g others a stop has =
    let lines : List ℕ = layout (tokens_of g.game g.head.result) in
    record {
      gap = has.gap ++ 10 ∷ [];
      text = lines ++ others;
      bytes = has.bytes ∙ sym (append_assoc has.gap (10 ∷ []) (lines ++ others));
      white = white_then has.gap (10 ∷ []) has.white refl;
      spelled = layout_spells (tokens_of g.game g.head.result) others stop;
      fits = has.fits;
    }

-- The first tag begins an item.
item_begins : (g : Headed) (tail : List ℕ) (a : At) (gap : List ℕ) → behind_mark a ≡ a → a.bytes ≡ gap ++ (flat_map tag_text (tags_of g.head g.game) ++ tail)
    → are_white gap ≡ true → next_item a ≡ item_at unread (skipped (here (fold next_place a.place gap) longest (flat_map tag_text (tags_of g.head g.game) ++ tail)))
unfolding next_item
item_begins g tail a gap mark bytes white =
    let rest : List ℕ = drop 1 (flat_map tag_text (tags_of g.head g.game) ++ tail) in
    ap (λ c. item_at unread (whole_room (skipped c))) mark
    ∙ ap (item_at unread) (start_at a gap 91 rest (bytes ∙ ap (λ l. gap ++ l) (first_byte g.head g.game tail)) white refl)

-- The game is the item, where its movetext ends it.
game_ends : (g : Headed) (others : List ℕ) (a b c : At) (r s : Reading) → IsReadAgain g → next_item a ≡ item_at r (skipped b)
    → item_at r (skipped b) ≡ item_at s (skipped c) → Ends g (tags_of g.head g.game) (10 ∷ 10 ∷ others) s c → IsRead g others a
game_ends g others a b c r s is begins comes ends =
    let game : GameTree = with_comments (map without_brace) g.game in
    record {
      at = ends.at;
      same = begins ∙ comes ∙ ends.same ∙ ap (λ h. next (Some (Good h game)) ends.at) (head_again g.head g.game is.fit.bounded is.fit.settled);
      gap = ends.gap;
      bytes = ends.bytes;
      white = ends.white;
    }

game_is_read : (g : Headed) (others : List ℕ) (a : At) (gap : List ℕ) → IsReadAgain g → behind_mark a ≡ a → a.bytes ≡ gap ++ (text_of g ++ others)
    → are_white gap ≡ true → IsRead g others a
unfolding movetext_text
game_is_read g others a gap is mark bytes white =
    let last : List ℕ = 10 ∷ 10 ∷ others in
    let tail : List ℕ = movetext_text g last in
    let text : List ℕ = flat_map tag_text (tags_of g.head g.game) ++ tail in
    let b : At = here (fold next_place a.place gap) longest text in
    let begins : next_item a ≡ item_at unread (skipped b) = item_begins g tail a gap mark (bytes ∙ ap (λ l. gap ++ l) (text_split g others)) white in
    let size : length text ≤ longest + length last =
    omega (arith, is.short, ap length (text_split g others), length-append (text_of g) others) in
    let has : Has text last b = record { gap = []; bytes = refl; white = refl; fits = size } in
    let long : length last ≤ length tail = omega (arith, length-append (layout (tokens_of g.game g.head.result)) last) in
    let comes : ComesTo g.game.start (tags_of g.head g.game) tail last unread b =
    read_all_tags g.head g.game tail last b is.kept.start is.fit.bounded has long in
    let ends : Ends g (tags_of g.head g.game) last comes.to comes.at =
    movetext_ends g (tags_of g.head g.game) last comes.to comes.at is comes.begun (tags_stand g last comes.at refl comes.has) in
    game_ends g others a b comes.at unread comes.to is begins comes.same ends

-- ---- all games

no_item : (place : Place) (bytes : List ℕ) → bytes ≡ [] → (item_at unread (here place longest bytes)).item ≡ None
unfolding item_from spots lexed effect
no_item place bytes none = ap (λ w. (item_at unread (here place longest w)).item) none

end_is_read : (a : At) (gap : List ℕ) → behind_mark a ≡ a → a.bytes ≡ gap ++ [] → are_white gap ≡ true → (next_item a).item ≡ None
unfolding next_item
end_is_read a gap mark bytes white =
    ap (λ c. (item_at unread (whole_room (skipped c))).item) mark
    ∙ no_item (skipped a).place (skipped a).bytes (ap (λ w. (behind_gap false a.place a.room w).bytes) bytes ∙ gap_end gap a.place a.room white)

games_are_read : (games : List Headed) (a : At) (gap : List ℕ) → AllByRecursion IsReadAgain games → behind_mark a ≡ a → a.bytes ≡ gap ++ texts_of games
    → are_white gap ≡ true → AreItems a (map again games)
games_are_read [] a gap each mark bytes white = end_is_read a gap mark bytes white
games_are_read (g ∷ games) a gap each mark bytes white =
    let one : IsRead g (texts_of games) a = game_is_read g (texts_of games) a gap each.0 mark bytes white in
    let b : At = one.at in
    let lines : b.bytes ≡ (one.gap ++ (10 ∷ 10 ∷ [])) ++ texts_of games = one.bytes ∙ sym (append_assoc one.gap (10 ∷ 10 ∷ []) (texts_of games)) in
    let rest : AreItems b (map again games) =
    games_are_read games b (one.gap ++ (10 ∷ 10 ∷ [])) each.1 (unmarked b (ap (begins byte_order_mark) one.bytes ∙ unmarked_gap one.gap (10 ∷ texts_of games) one.white))
    lines (white_then one.gap (10 ∷ 10 ∷ []) one.white refl) in
    (ap (λ (n : Next). n.item) one.same, subst (λ (c : At). AreItems c (map again games)) (sym (ap (λ (n : Next). n.at) one.same)) rest)
  where
    unmarked_gap : (gap text : List ℕ) → are_white gap ≡ true → begins byte_order_mark (gap ++ 10 ∷ text) ≡ false
    unmarked_gap [] text white = refl
    unmarked_gap (w ∷ gap) text white = rw (apart is_white w 239 (and_parts (is_white w) (are_white gap) white).0 refl) refl

texts_unmarked : (games : List Headed) → begins byte_order_mark (texts_of games) ≡ false
unfolding pgn_of
texts_unmarked [] = refl
texts_unmarked (g ∷ games) = refl

each_read_again : (games : List Headed) → AllByRecursion IsReadAgain games → PgnReads (texts_of games) (map again games)
each_read_again games each =
    games_are_read games (text_start (texts_of games)) [] each (unmarked (text_start (texts_of games)) (texts_unmarked games)) refl refl

pub read_again : (games : List Headed) → All IsReadAgain games → PgnReads (texts_of games) (map again games)
read_again games each = each_read_again games (recursion_from_All IsReadAgain games each)

pub one_read_again : (head : Head) (game : GameTree) → IsFitGame head game → IsGame game → length (pgn_of head game) ≤ longest
    → PgnReads (pgn_of head game) (again (record { head = head; game = game }) ∷ [])
one_read_again head game fit kept short =
    let g : Headed = record { head = head; game = game } in
    subst (λ (text : List ℕ). PgnReads text (again g ∷ [])) (append-nil (text_of g))
    (each_read_again (g ∷ []) (record { fit = fit; kept = kept; short = short }, tt))
