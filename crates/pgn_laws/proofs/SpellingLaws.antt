-- A game whose tokens spell a movetext is read as what the movetext means.
use Rattle.std.proofs.Common.{◌≡◌, ◌≤◌, ◌<◌, ◌==◌, nat_lt, ℕ, suc, Bool, true, false, not, cond, List, [], ◌∷◌, ◌++◌, length, Some, is_some, Ok, refl, sym, ap, ◌∙◌, subst, arith, append_assoc}
use Rattle.pgn_read.specs.Lexing.{lexed, size}
use Rattle.std.specs.Prelude.{slice_index_or}
use Rattle.chess_laws.specs.declared.setup.Setup.{Setup}
use Rattle.chess_laws.specs.Step.{stepped}
use Rattle.chess_text.specs.SanAnswer.{san_answer}
use Rattle.game_tree.specs.declared.head.Outcome.{Outcome}
use Rattle.game_tree.specs.declared.head.Tag.{Tag}
use Rattle.game_tree.specs.Building.{Building, added, built, with_comment}
use Rattle.game_tree.specs.Item as item
use Rattle.game_tree.specs.Movetext.{items_of, as_comment}
use Rattle.game_tree.proofs.MovetextLemmas.{Reads as Meant, built-items_of}
use Rattle.pgn_read.specs.declared.item.Item.TheVariants.{Good}
use Rattle.pgn_read.specs.Heads.{head_from}
use Rattle.pgn_read.specs.Items.{Next, by_effect, effect_at, item_from}
use Rattle.pgn_laws.specs.MovetextSpelling.{Spelling, end, number, move, nag, comment, variation, tokens_by, movetext_by, IsSpelling, IsSpot, StandFirst, behind_tags, game_meant}
use Rattle.pgn_read.specs.Reading.{LineTurn, Reading, Effect, goes_on, ends_behind, effect, is_inside, is_next_game, moving, played, opened, game_of}
use Rattle.pgn_read.specs.Text.{At}
use Rattle.pgn_read.specs.Token.{Token}
use Rattle.pgn_read.specs.Token as token
use Rattle.pgn_laws.proofs.MovetextLaws.{IsAt, built_append, no_next, number_effect, moved_effect, nag_effect_is, comment_effect, opens_effect_is, closing, closes_effect, nag_kept, comment_kept, around_kept, opened_at}

-- ---- one token

past : (a b : Bool) (x y z : Effect) → a ≡ false → b ≡ false → cond a x (cond b y z) ≡ z
past a b x y z p q = rw p rw q refl

within : (size room : ℕ) → size ≤ room → nat_lt room size ≡ false
within size room fits = search (arith, fits)

-- What a token does where it stands.
spot_effect : (r : Reading) (t : Token) (spot : At) → IsSpot t spot → effect_at r spot ≡ effect t r
spot_effect r t spot is =
    past (is_next_game r spot.bytes) (nat_lt spot.room (size spot.bytes)) _ _ (effect (lexed spot.bytes).token r)
    (no_next r.in_moves (not (is_inside r)) (slice_index_or spot.bytes 0 0 == 91) is.no_tag) (within (size spot.bytes) spot.room is.fits)
    ∙ ap (λ (t : Token). effect t r) is.token

-- Reading goes on behind it.
record Goes (r s : Reading) (ts : List Token) (spots : List At) : Type 0 where
  left : List At
  same : item_from r spots ≡ item_from s left
  stand : StandFirst ts left

goes : (r s : Reading) (t : Token) (ts : List Token) (spots : List At) → effect t r ≡ goes_on s → StandFirst (t ∷ ts) spots → Goes r s ts spots
unfolding item_from
goes r s t ts [] does stand = absurd stand
goes r s t ts (spot ∷ spots) does stand = record {
  left = spots;
  same = ap (by_effect r spot (λ (q : Reading). item_from q spots)) (spot_effect r t spot stand.0 ∙ does);
  stand = stand.1;
}

-- ---- a movetext

-- What was read is the movetext behind what was read before.
record Reads (s : Spelling) (r : Reading) (ts : List Token) (spots : List At) : Type 0 where
  to : Reading
  left : List At
  same : item_from r spots ≡ item_from to left
  stand : StandFirst ts left
  tags : to.tags ≡ r.tags
  start : to.start ≡ r.start
  outer : to.outer ≡ r.outer
  moves : to.moves ≡ built (items_of (movetext_by s)) r.moves

-- A token that changes the moves alone, and a movetext behind it.
behind_one : (whole s : Spelling) (r q : Reading) (ts us : List Token) (spots : List At) → (g : Goes r q us spots)
    → q.tags ≡ r.tags → q.start ≡ r.start → q.outer ≡ r.outer → built (items_of (movetext_by s)) q.moves ≡ built (items_of (movetext_by whole)) r.moves
    → Reads s q ts g.left → Reads whole r ts spots
behind_one whole s r q ts us spots g tags start outer moves rest = record {
  to = rest.to;
  left = rest.left;
  same = g.same ∙ rest.same;
  stand = rest.stand;
  tags = rest.tags ∙ tags;
  start = rest.start ∙ start;
  outer = rest.outer ∙ outer;
  moves = rest.moves ∙ moves;
}

reads : (s : Spelling) (level : ℕ) (before here : Setup) (moved : Bool) (r : Reading) (ts : List Token) (spots : List At)
    → IsSpelling level before here moved s → IsAt level before here moved r → StandFirst (tokens_by s ++ ts) spots → Reads s r ts spots
reads end level before here moved r ts spots is at stand =
    record { to = r; left = spots; same = refl; stand = stand; tags = refl; start = refl; outer = refl; moves = refl }
reads (number s) level before here moved r ts spots is at stand =
    let g : Goes r (moving r) (tokens_by s ++ ts) spots = goes r (moving r) token.number (tokens_by s ++ ts) spots (number_effect r) stand in
    behind_one (number s) s r (moving r) ts (tokens_by s ++ ts) spots g refl refl refl refl
    (reads s level before here moved (moving r) ts g.left is (record { turn = at.turn; inside = at.inside; has_move = at.has_move }) g.stand)
reads (move m text s) level before here moved r ts spots is at stand =
    let now : r.turn.now_at ≡ here = ap (λ (t : LineTurn). t.now_at) at.turn in
    let answer : san_answer r.turn.now_at text ≡ Ok m = ap (λ (q : Setup). san_answer q text) now ∙ is.0 in
    let g : Goes r (played m r) (tokens_by s ++ ts) spots = goes r (played m r) (token.move text) (tokens_by s ++ ts) spots (moved_effect r m text answer) stand in
    behind_one (move m text s) s r (played m r) ts (tokens_by s ++ ts) spots g refl refl refl refl
    (reads s level here (stepped here m) true (played m r) ts g.left is.1
    (record { turn = ap (λ (q : Setup). record { before = q; now_at = stepped q m }) now; inside = at.inside; has_move = refl }) g.stand)
reads (nag n s) level before here moved r ts spots is at stand =
    let q : Reading = record (moving r) { moves = added (item.nag n) r.moves } in
    let g : Goes r q (tokens_by s ++ ts) spots = goes r q (token.nag n) (tokens_by s ++ ts) spots (nag_effect_is r n (at.has_move ∙ is.0)) stand in
    behind_one (nag n s) s r q ts (tokens_by s ++ ts) spots g refl refl refl refl
    (reads s level before here moved q ts g.left is.1
    (record { turn = at.turn; inside = at.inside; has_move = nag_kept n r.moves.current.last ∙ at.has_move }) g.stand)
reads (comment text s) level before here moved r ts spots is at stand =
    let q : Reading = record r { moves = added (item.comment text) r.moves } in
    let g : Goes r q (tokens_by s ++ ts) spots = goes r q (token.comment text) (tokens_by s ++ ts) spots (comment_effect r text) stand in
    let kept : is_some (with_comment text r.moves.current).last ≡ moved =
    comment_kept (as_comment text) r.moves.current.lead r.moves.current.done r.moves.current.last ∙ at.has_move in
    behind_one (comment text s) s r q ts (tokens_by s ++ ts) spots g refl refl refl refl
    (reads s level before here moved q ts g.left is (record { turn = at.turn; inside = at.inside; has_move = kept }) g.stand)
reads (variation inner s) level before here moved r ts spots is at stand =
    let behind : List Token = tokens_by s ++ ts in
    let under : length r.outer < 200 = omega (arith, at.inside, is.0.1) in
    let one : Goes r (opened r) ((tokens_by inner ++ (token.closes ∷ tokens_by s)) ++ ts) spots =
    goes r (opened r) token.opens ((tokens_by inner ++ (token.closes ∷ tokens_by s)) ++ ts) spots (opens_effect_is r under (at.has_move ∙ is.0.0)) stand in
    let i : Reads inner (opened r) (token.closes ∷ behind) one.left =
    reads inner (suc level) before before false (opened r) (token.closes ∷ behind) one.left is.1.0 (opened_at level before here moved r at)
    (subst (λ (l : List Token). StandFirst l one.left) (append_assoc (tokens_by inner) (token.closes ∷ tokens_by s) ts) one.stand) in
    let q : Reading = closing i.to r.turn r.outer in
    let two : Goes i.to q behind i.left = goes i.to q token.closes behind i.left (closes_effect i.to r.turn r.outer i.outer) i.stand in
    let whole : Goes r q behind spots = record { left = two.left; same = one.same ∙ i.same ∙ two.same; stand = two.stand } in
    let moves_are : q.moves ≡ added item.closes (built (items_of (movetext_by inner)) (added item.opens r.moves)) = ap (added item.closes) i.moves in
    behind_one (variation inner s) s r q ts behind spots whole i.tags i.start refl
    (ap (built (items_of (movetext_by s))) moves_are
    ∙ sym (built_append (items_of (movetext_by inner)) (item.closes ∷ items_of (movetext_by s)) (added item.opens r.moves)))
    (reads s level before here moved q ts whole.left is.1.1
    (record {
      turn = at.turn;
      inside = at.inside;
      has_move = ap (λ (b : Building). is_some b.current.last) moves_are ∙ around_kept (movetext_by inner) r.moves ∙ at.has_move;
    }) whole.stand)

-- ---- a game

ending_outside : (r : Reading) (outcome : Outcome) → r.outer ≡ [] → effect (token.ending outcome) r ≡ ends_behind outcome
unfolding effect
ending_outside r outcome outside = rw outside refl

ends : (r : Reading) (outcome : Outcome) (spots : List At) → r.outer ≡ [] → StandFirst (token.ending outcome ∷ []) spots
    → (item_from r spots).item ≡ Some (Good (head_from r.tags (Some outcome)) (game_of r))
unfolding item_from
ends r outcome [] outside stand = absurd stand
ends r outcome (spot ∷ spots) outside stand =
    ap (λ (e : Effect). (by_effect r spot (λ (q : Reading). item_from q spots) e).item)
    (spot_effect r (token.ending outcome) spot stand.0 ∙ ending_outside r outcome outside)

pub movetext_meant : (tags : List Tag) (start : Setup) (s : Spelling) (outcome : Outcome) (spots : List At) → IsSpelling 0 start start false s
    → StandFirst (tokens_by s ++ (token.ending outcome ∷ [])) spots
    → (item_from (behind_tags tags start) spots).item ≡ Some (Good (head_from tags (Some outcome)) (game_meant start (movetext_by s)))
movetext_meant tags start s outcome spots is stand =
    let r : Reading = behind_tags tags start in
    let all : Reads s r (token.ending outcome ∷ []) spots =
    reads s 0 start start false r (token.ending outcome ∷ []) spots is (record { turn = refl; inside = refl; has_move = refl }) stand in
    let meant : Meant (movetext_by s) all.to.moves = built-items_of (movetext_by s) all.to.moves all.moves in
    ap (λ (n : Next). n.item) all.same
    ∙ ends all.to outcome all.left all.outer all.stand
    ∙ (λ i. Some (Good (head_from (all.tags i) (Some outcome)) (record { start = all.start i; lead = meant.lead i; line = meant.line i })))
