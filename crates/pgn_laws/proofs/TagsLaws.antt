-- The tags of a game are read one by one.
use Rattle.std.proofs.Common.{◌≡◌, ◌≤◌, ◌+◌, ◌||◌, ◌&&◌, nat_le, nat_lt, ℕ, true, false, cond, List, [], ◌∷◌, ◌++◌, length, codes, Ok, refl, sym, ap, ◌∙◌, subst, arith, append_assoc, append-nil, length-append, flat_map}
use Rattle.std.specs.List.{list_all, AllByRecursion}
use Rattle.std.proofs.lemmas.Bool.{and_parts, leb-true, or_from}
use Rattle.std.proofs.lemmas.List.Elements.{All-from_recursion}
use Rattle.std.proofs.lemmas.List.Folds.{list_any-append}
use Rattle.chess_laws.specs.declared.setup.Setup.{Setup}
use Rattle.game_tree.specs.declared.head.Tag.{Tag}
use Rattle.game_tree.specs.Building.{opening}
use Rattle.game_tree.specs.Head.{IsName}
use Rattle.game_tree.specs.TagList.{is_named}
use Rattle.game_tree.specs.TagName.{is_tag_byte, IsTagByte, IsTagName, is_tag_name, is_among, roster_names}
use Rattle.pgn_write.specs.TagPairs.{escaped_byte, tag_text}
use Rattle.chess_text.specs.FenAnswer.{fen_answer}
use Rattle.pgn_read.specs.declared.item.GameWhat.TheVariants as what
use Rattle.pgn_read.specs.declared.item.GameWhat.TheVariants.{TagTooLong}
use Rattle.pgn_read.specs.Token.{lexed_as}
use Rattle.pgn_read.specs.Token as token
use Rattle.pgn_read.specs.Lexing.{lexed}
use Rattle.pgn_read.specs.Text.{At, skipped, behind_token}
use Rattle.pgn_read.specs.Reading.{LineTurn, Reading, Effect, goes_on, ends_before, is_faulty, effect, turn_at, with_tag, has_tag, starting, tag_effect, at_tag, is_inside, is_next_game, by_answer}
use Rattle.pgn_read.specs.Items.{item_at}
use Rattle.pgn_laws.proofs.SpelledLaws.{are_white}
use Rattle.pgn_laws.proofs.PassingLaws.{enough_room, Meets, token_met}
use Rattle.pgn_laws.proofs.RunLaws.{past_two}
use Rattle.pgn_laws.proofs.TagTextLaws.{tag_lexed}

-- While tags are read: these were, and the game starts here.
pub record IsBegun (p : Setup) (given : List Tag) (r : Reading) : Type 0 where
  pub tags : r.tags ≡ given
  pub in_moves : r.in_moves ≡ false
  pub start : r.start ≡ p
  pub moves : r.moves ≡ opening
  pub turn : r.turn ≡ turn_at p
  pub outer : r.outer ≡ []

-- Behind white space stands this text, and is within the limit but for other games.
pub record Has (text others : List ℕ) (a : At) : Type 0 where
  pub gap : List ℕ
  pub bytes : a.bytes ≡ gap ++ text
  pub white : are_white gap ≡ true
  pub fits : length a.bytes ≤ a.room + length others

-- Reading comes to where these tags were read and this text stands behind them.
pub record ComesTo (p : Setup) (given : List Tag) (text others : List ℕ) (r : Reading) (a : At) : Type 0 where
  pub to : Reading
  pub at : At
  pub same : item_at r (skipped a) ≡ item_at to (skipped at)
  pub begun : IsBegun p given to
  pub has : Has text others at

-- A tag that is taken as it stands, behind these.
pub record IsTaken (given : List Tag) (tag : Tag) : Type 0 where
  pub name : IsTagName tag.name
  pub value : IsName tag.value
  pub once : (is_among roster_names tag.name && has_tag tag.name given) ≡ false
  pub no_start : is_named (codes "FEN") tag ≡ false

abbrev pub AreTaken : List Tag → List Tag → Type 0
AreTaken given [] = Unit {0}
AreTaken given (tag ∷ tags) = IsTaken given tag × AreTaken (given ++ tag ∷ []) tags

-- ---- the bytes of a tag

tag_front : Tag → List ℕ
tag_front tag = tag.name ++ (32 ∷ 34 ∷ (flat_map escaped_byte tag.value ++ (34 ∷ 93 ∷ [])))

tag_then : (tag : Tag) (last rest : List ℕ) → (91 ∷ (tag.name ++ (32 ∷ 34 ∷ (flat_map escaped_byte tag.value ++ (34 ∷ 93 ∷ last))))) ++ rest
    ≡ 91 ∷ (tag.name ++ (32 ∷ 34 ∷ (flat_map escaped_byte tag.value ++ (34 ∷ 93 ∷ (last ++ rest)))))
tag_then tag last rest =
    ap (λ l. 91 ∷ l) (append_assoc tag.name (32 ∷ 34 ∷ (flat_map escaped_byte tag.value ++ (34 ∷ 93 ∷ last))) rest
    ∙ ap (λ l. tag.name ++ (32 ∷ 34 ∷ l)) (append_assoc (flat_map escaped_byte tag.value) (34 ∷ 93 ∷ last) rest))

tag_split : (tag : Tag) (tail : List ℕ) → tag_text tag ++ tail ≡ (91 ∷ tag_front tag) ++ (10 ∷ tail)
unfolding tag_front
tag_split tag tail = tag_then tag (10 ∷ []) tail ∙ sym (tag_then tag [] (10 ∷ tail))

front_lexed : (tag : Tag) (rest : List ℕ) → IsTagName tag.name → IsName tag.value → lexed ((91 ∷ tag_front tag) ++ rest) ≡ lexed_as (token.tag tag.name tag.value) rest
unfolding tag_front
front_lexed tag rest name value = ap lexed (tag_then tag [] rest) ∙ tag_lexed tag.name tag.value rest name value

-- ---- one tag

no_game : (r : Reading) (bytes : List ℕ) → r.in_moves ≡ false → is_next_game r bytes ≡ false
no_game r bytes none = rw none refl

pub tag_passed : (q : Setup) (given : List Tag) (tag : Tag) (tail others : List ℕ) (r s : Reading) (a : At) → r.in_moves ≡ false
    → IsTagName tag.name → IsName tag.value → effect (token.tag tag.name tag.value) r ≡ goes_on s → IsBegun q given s
    → Has (tag_text tag ++ tail) others a → length others ≤ length tail → ComesTo q given tail others r a
tag_passed q given tag tail others r s a none name value goes begun has long =
    let bytes : a.bytes ≡ has.gap ++ ((91 ∷ tag_front tag) ++ (10 ∷ tail)) = has.bytes ∙ ap (λ l. has.gap ++ l) (tag_split tag tail) in
    let meets : Meets r a (goes_on s) (10 ∷ tail) others =
    token_met r (goes_on s) a has.gap 91 (tag_front tag) (10 ∷ tail) others (token.tag tag.name tag.value) bytes has.white refl
    (front_lexed tag (10 ∷ tail) name value) (no_game r (91 ∷ (tag_front tag ++ (10 ∷ tail))) none) goes has.fits (omega (arith, long)) in
    record {
      to = s;
      at = behind_token meets.at;
      same = meets.same;
      begun = begun;
      has = record { gap = 10 ∷ []; bytes = meets.bytes; white = refl; fits = omega (arith, ap length meets.bytes, meets.fits) };
    }

begun_effect : (p : Setup) (given : List Tag) (r : Reading) (e : Effect) → IsBegun p given r → at_tag r e ≡ e
begun_effect p given r e begun =
    past_two (is_inside r) r.in_moves _ ends_before e (ap (λ (l : List LineTurn). nat_lt 0 (length l)) begun.outer) begun.in_moves

within_bounds : (name value : List ℕ) → IsTagName name → IsName value → (nat_lt 240 (length name) || nat_lt 255 (length value)) ≡ false
within_bounds name value n v = rw (enough_room 240 (length name) n.short) (enough_room 255 (length value) v.short)

plain_effect : (p : Setup) (given : List Tag) (tag : Tag) (r : Reading) → IsBegun p given r → IsTaken given tag
    → effect (token.tag tag.name tag.value) r ≡ goes_on (with_tag tag.name tag.value r)
unfolding effect
plain_effect p given tag r begun taken =
    begun_effect p given r (tag_effect tag.name tag.value r) begun
    ∙ past_two (is_among roster_names tag.name && has_tag tag.name r.tags) (nat_lt 240 (length tag.name) || nat_lt 255 (length tag.value)) _ _ _
    (ap (λ l. is_among roster_names tag.name && has_tag tag.name l) begun.tags ∙ taken.once) (within_bounds tag.name tag.value taken.name taken.value)
    ∙ ap (λ b. cond b (by_answer (λ p. with_tag (codes "FEN") tag.value (starting p r)) what.Fen (fen_answer tag.value)) (goes_on (with_tag tag.name tag.value r))) taken.no_start

begun_with : (p : Setup) (given : List Tag) (tag : Tag) (r : Reading) → IsBegun p given r → IsBegun p (given ++ tag ∷ []) (with_tag tag.name tag.value r)
begun_with p given tag r begun = record {
  tags = ap (λ l. l ++ tag ∷ []) begun.tags;
  in_moves = begun.in_moves;
  start = begun.start;
  moves = begun.moves;
  turn = begun.turn;
  outer = begun.outer;
}

plain_tag : (p : Setup) (given : List Tag) (tag : Tag) (tail others : List ℕ) (r : Reading) (a : At) → IsBegun p given r → IsTaken given tag
    → Has (tag_text tag ++ tail) others a → length others ≤ length tail → ComesTo p (given ++ tag ∷ []) tail others r a
plain_tag p given tag tail others r a begun taken has long =
    tag_passed p (given ++ tag ∷ []) tag tail others r (with_tag tag.name tag.value r) a begun.in_moves taken.name taken.value
    (plain_effect p given tag r begun taken) (begun_with p given tag r begun) has long

-- ---- the tag of a position

abbrev pub fen_tag : List ℕ → Tag
fen_tag value = record { name = codes "FEN"; value = value }

started : (p q : Setup) (given : List Tag) (r : Reading) → IsBegun p given r → has_tag (codes "FEN") given ≡ false
    → starting q r ≡ record r { start = q; turn = turn_at q }
started p q given r begun none =
    ap (λ b. cond b r (record r { start = q; turn = turn_at q })) (ap (λ l. has_tag (codes "FEN") l) begun.tags ∙ none)

fen_effect_is : (p q : Setup) (given : List Tag) (value : List ℕ) (r : Reading) → IsBegun p given r → IsName value
    → has_tag (codes "FEN") given ≡ false → fen_answer value ≡ Ok q
    → effect (token.tag (codes "FEN") value) r ≡ goes_on (with_tag (codes "FEN") value (record r { start = q; turn = turn_at q }))
unfolding effect
fen_effect_is p q given value r begun name none answer =
    begun_effect p given r (tag_effect (codes "FEN") value r) begun
    ∙ ap (λ b. cond b (is_faulty TagTooLong) (by_answer (λ p. with_tag (codes "FEN") value (starting p r)) what.Fen (fen_answer value))) (enough_room 255 (length value) name.short)
    ∙ ap (by_answer (λ p. with_tag (codes "FEN") value (starting p r)) what.Fen) answer
    ∙ ap (λ (s : Reading). goes_on (with_tag (codes "FEN") value s)) (started p q given r begun none)

pub tag_name_is : (name : List ℕ) → is_tag_name name ≡ true → IsTagName name
tag_name_is name is =
    let last = and_parts (nat_le 1 (length name) && nat_le (length name) 240) (list_all is_tag_byte name) is in
    let first = and_parts (nat_le 1 (length name)) (nat_le (length name) 240) last.0 in
    record { some = leb-true 1 (length name) first.0; short = leb-true (length name) 240 first.1; bytes = All-from_recursion IsTagByte name (each_byte name last.1) }
  where
    each_byte : (name : List ℕ) → list_all is_tag_byte name ≡ true → AllByRecursion IsTagByte name
    each_byte [] is = tt
    each_byte (b ∷ name) is = let both = and_parts (is_tag_byte b) (list_all is_tag_byte name) is in (both.0, each_byte name both.1)

fen_name : IsTagName (codes "FEN")
fen_name = tag_name_is (codes "FEN") refl

pub read_fen_tag : (p q : Setup) (given : List Tag) (value tail others : List ℕ) (r : Reading) (a : At) → IsBegun p given r → IsName value
    → has_tag (codes "FEN") given ≡ false → fen_answer value ≡ Ok q → Has (tag_text (fen_tag value) ++ tail) others a → length others ≤ length tail
    → ComesTo q (given ++ fen_tag value ∷ []) tail others r a
read_fen_tag p q given value tail others r a begun name none answer has long =
    tag_passed q (given ++ fen_tag value ∷ []) (fen_tag value) tail others r (with_tag (codes "FEN") value (record r { start = q; turn = turn_at q })) a
    begun.in_moves fen_name name (fen_effect_is p q given value r begun name none answer)
    (record {
      tags = ap (λ l. l ++ fen_tag value ∷ []) begun.tags;
      in_moves = begun.in_moves;
      start = refl;
      moves = begun.moves;
      turn = refl;
      outer = begun.outer;
    }) has long

-- ---- many tags

pub text_long : (tags : List Tag) (tail others : List ℕ) → length others ≤ length tail → length others ≤ length (flat_map tag_text tags ++ tail)
text_long tags tail others long = omega (arith, long, length-append (flat_map tag_text tags) tail)

pub and_so : (p q : Setup) (given more : List Tag) (text last others : List ℕ) (r : Reading) (a : At) → ComesTo p given text others r a
    → ((s : Reading) (b : At) → IsBegun p given s → Has text others b → ComesTo q more last others s b) → ComesTo q more last others r a
and_so p q given more text last others r a first so =
    let second : ComesTo q more last others first.to first.at = so first.to first.at first.begun first.has in
    record { to = second.to; at = second.at; same = first.same ∙ second.same; begun = second.begun; has = second.has }

pub has_same : (text other others : List ℕ) (a : At) → text ≡ other → Has text others a → Has other others a
has_same text other others a is has = record { gap = has.gap; bytes = has.bytes ∙ ap (λ l. has.gap ++ l) is; white = has.white; fits = has.fits }

begun_same : (p : Setup) (given other : List Tag) (r : Reading) → given ≡ other → IsBegun p given r → IsBegun p other r
begun_same p given other r is begun = subst (λ l. IsBegun p l r) is begun

pub comes_same : (p : Setup) (given other : List Tag) (text others : List ℕ) (r : Reading) (a : At) → given ≡ other → ComesTo p given text others r a
    → ComesTo p other text others r a
comes_same p given other text others r a is comes =
    record { to = comes.to; at = comes.at; same = comes.same; begun = begun_same p given other comes.to is comes.begun; has = comes.has }

pub read_tags : (tags : List Tag) (p : Setup) (given : List Tag) (tail others : List ℕ) (r : Reading) (a : At) → IsBegun p given r → AreTaken given tags
    → Has (flat_map tag_text tags ++ tail) others a → length others ≤ length tail → ComesTo p (given ++ tags) tail others r a
read_tags [] p given tail others r a begun taken has long =
    record { to = r; at = a; same = refl; begun = begun_same p given (given ++ []) r (sym (append-nil given)) begun; has = has }
read_tags (tag ∷ tags) p given tail others r a begun taken has long =
    let one : ComesTo p (given ++ tag ∷ []) (flat_map tag_text tags ++ tail) others r a =
    plain_tag p given tag (flat_map tag_text tags ++ tail) others r a begun taken.0
    (has_same ((tag_text tag ++ flat_map tag_text tags) ++ tail) (tag_text tag ++ (flat_map tag_text tags ++ tail)) others a (append_assoc (tag_text tag) (flat_map tag_text tags) tail) has)
    (text_long tags tail others long) in
    comes_same p ((given ++ tag ∷ []) ++ tags) (given ++ tag ∷ tags) tail others r a (append_assoc given (tag ∷ []) tags)
    (and_so p p (given ++ tag ∷ []) ((given ++ tag ∷ []) ++ tags) (flat_map tag_text tags ++ tail) tail others r a one
    (λ s b begun_s has_b. read_tags tags p (given ++ tag ∷ []) tail others s b begun_s taken.1 has_b long))

tags_text_then : (first second : List Tag) → flat_map tag_text (first ++ second) ≡ flat_map tag_text first ++ flat_map tag_text second
tags_text_then [] second = refl
tags_text_then (tag ∷ first) second =
    ap (λ l. tag_text tag ++ l) (tags_text_then first second) ∙ sym (append_assoc (tag_text tag) (flat_map tag_text first) (flat_map tag_text second))

-- The first of two parts.
pub read_part : (first second : List Tag) (p : Setup) (given : List Tag) (tail others : List ℕ) (r : Reading) (a : At) → IsBegun p given r → AreTaken given first
    → Has (flat_map tag_text (first ++ second) ++ tail) others a → length others ≤ length tail → ComesTo p (given ++ first) (flat_map tag_text second ++ tail) others r a
read_part first second p given tail others r a begun taken has long =
    read_tags first p given (flat_map tag_text second ++ tail) others r a begun taken
    (has_same (flat_map tag_text (first ++ second) ++ tail) (flat_map tag_text first ++ (flat_map tag_text second ++ tail)) others a
    (ap (λ l. l ++ tail) (tags_text_then first second) ∙ append_assoc (flat_map tag_text first) (flat_map tag_text second) tail) has)
    (text_long second tail others long)

-- None of these is the tag of a position.
pub no_start_in : (tags given : List Tag) → AreTaken given tags → has_tag (codes "FEN") given ≡ false → has_tag (codes "FEN") (given ++ tags) ≡ false
no_start_in [] given taken none = ap (has_tag (codes "FEN")) (append-nil given) ∙ none
no_start_in (tag ∷ tags) given taken none =
    ap (has_tag (codes "FEN")) (sym (append_assoc given (tag ∷ []) tags))
    ∙ no_start_in tags (given ++ tag ∷ []) taken.1
    (list_any-append (is_named (codes "FEN")) given (tag ∷ []) ∙ or_from _ _ none (or_from _ _ taken.0.no_start refl))
