-- The tags of a game are read as they were written.
use Rattle.std.proofs.Common.{◌≡◌, ◌≤◌, ◌+◌, ◌*◌, ◌/◌, ◌%◌, ◌==◌, ◌&&◌, nat_le, ℕ, zero, suc, Bool, true, false, not, cond, List, [], ◌∷◌, ◌++◌, length, take, drop, codes, Option, Some, None, Ok, refl, sym, ap, ◌∙◌, subst, arith, append_assoc, length-append, flat_map}
use Rattle.std.specs.List.{list_all, AllByRecursion}
use Rattle.std.specs.Char.{is_ascii_digit}
use Rattle.std.specs.Fmt.{decimal}
use Rattle.std.proofs.lemmas.Bool.{and_parts, and_from, leb-true, ne_eqb, not-false}
use Rattle.std.proofs.lemmas.Fmt.{length-decimal-le}
use Rattle.std.proofs.lemmas.List.{length-take}
use Rattle.std.proofs.lemmas.List.Elements.{recursion_from_All}
use Rattle.cell_core.specs.declared.man.Colour.{Colour}
use Rattle.cell_core.specs.declared.man.Colour.TheVariants.{White, Black}
use Rattle.cell_core.specs.Board.{Men}
use Rattle.chess_laws.specs.declared.setup.Rights.{Rights}
use Rattle.chess_laws.specs.declared.setup.Setup.{Setup}
use Rattle.chess_laws.specs.Position.{Sound, start_setup, is_start}
use Rattle.chess_laws.proofs.Initial.{is_start-Decides}
use Rattle.chess_text.specs.Fields.{or_word, side_text}
use Rattle.chess_text.specs.Letters.{letter_of}
use Rattle.chess_text.specs.Written.{run_text, row_text, ranks_text, placement_text, letter_where, rights_text, en_passant_text, fen_text}
use Rattle.chess_text.proofs.WritingLaws.{written_reads, written_zero_free}
use Rattle.game_tree.specs.declared.date.Date.{Date}
use Rattle.game_tree.specs.declared.head.Head.{Head}
use Rattle.game_tree.specs.declared.head.Outcome.{Outcome}
use Rattle.game_tree.specs.declared.head.Outcome.TheVariants as outcome
use Rattle.game_tree.specs.declared.head.Rating.{Rating}
use Rattle.game_tree.specs.declared.head.Tag.{Tag}
use Rattle.game_tree.specs.Date.{date_text, is_unknown}
use Rattle.game_tree.specs.Eco.{extension_text, eco_text}
use Rattle.game_tree.specs.Game.{GameTree, has_own_start}
use Rattle.game_tree.specs.Head.{IsName, is_name, IsRating, IsTag, IsBounded}
use Rattle.game_tree.specs.Marks.{mark_letters}
use Rattle.game_tree.specs.Outcome.{outcome_text}
use Rattle.game_tree.specs.TagList.{is_named}
use Rattle.game_tree.specs.TagName.{IsTagName, is_tag_name, is_among, roster_names, rating_tag}
use Rattle.game_tree.proofs.DateLemmas.{date_text-IsName}
use Rattle.game_tree.proofs.NameLemmas.{zero_free-from_test}
use Rattle.pgn_write.specs.TagPairs.{pair, roster, rating_pairs, eco_pairs, event_date_pairs, letters_set, flags_text, flags_pairs, start_pairs, tag_text, tags_of}
use Rattle.chess_text.specs.FenAnswer.{fen_answer}
use Rattle.pgn_read.specs.Reading.{Reading, has_tag, unread}
use Rattle.pgn_read.specs.Text.{At}
use Rattle.chess_text.proofs.AnswerLaws.{fen_is}
use Rattle.pgn_laws.proofs.DecimalLaws.{decimal_number}
use Rattle.pgn_read.proofs.NameLaws.{IsRatingName, rating_name, IsFreeName, free_name, no_fen_name}
use Rattle.pgn_laws.proofs.RunLaws.{apart}
use Rattle.pgn_laws.proofs.TagsLaws.{IsBegun, Has, ComesTo, IsTaken, AreTaken, tag_name_is, fen_tag, read_fen_tag, text_long, has_same, and_so, comes_same, read_tags, read_part, no_start_in}

-- A tag that is taken behind any others.
record IsPlain (tag : Tag) : Type 0 where
  name : IsTagName tag.name
  value : IsName tag.value
  no_roster : is_among roster_names tag.name ≡ false
  no_start : is_named (codes "FEN") tag ≡ false

plain_taken : (given : List Tag) (tag : Tag) → IsPlain tag → IsTaken given tag
plain_taken given tag plain = record {
  name = plain.name;
  value = plain.value;
  once = ap (λ b. b && has_tag tag.name given) plain.no_roster;
  no_start = plain.no_start;
}

all_taken : (tags given : List Tag) → AllByRecursion IsPlain tags → AreTaken given tags
all_taken [] given each = tt
all_taken (tag ∷ tags) given each = (plain_taken given tag each.0, all_taken tags (given ++ tag ∷ []) each.1)

plain_then : (xs ys : List Tag) → AllByRecursion IsPlain xs → AllByRecursion IsPlain ys → AllByRecursion IsPlain (xs ++ ys)
plain_then [] ys p q = q
plain_then (tag ∷ xs) ys p q = (p.0, plain_then xs ys p.1 q)

plain_if : (c : Bool) (xs : List Tag) → AllByRecursion IsPlain xs → AllByRecursion IsPlain (cond c [] xs)
plain_if true xs p = tt
plain_if false xs p = p

-- ---- values

name_is : (text : List ℕ) → length text ≤ 255 → list_all (λ byte. not (byte == 0)) text ≡ true → IsName text
name_is text short free = record { short = short; zero_free = zero_free-from_test text free }

tested : (text : List ℕ) → is_name text ≡ true → IsName text
tested text is =
    let parts = and_parts (nat_le (length text) 255) (list_all (λ byte. not (byte == 0)) text) is in
    name_is text (leb-true (length text) 255 parts.0) parts.1

outcome_name : (o : Outcome) → IsName (outcome_text o)
outcome_name outcome.White = tested (codes "1-0") refl
outcome_name outcome.Black = tested (codes "0-1") refl
outcome_name outcome.Draw = tested (codes "1/2-1/2") refl
outcome_name outcome.Unknown = tested (codes "*") refl

digits_free : (text : List ℕ) → list_all is_ascii_digit text ≡ true → list_all (λ byte. not (byte == 0)) text ≡ true
digits_free [] all = refl
digits_free (b ∷ text) all =
    let both = and_parts (is_ascii_digit b) (list_all is_ascii_digit text) all in
    rw (apart is_ascii_digit b 0 both.0 refl) (digits_free text both.1)

decimal_name : (n : ℕ) → n ≤ 4095 → IsName (decimal n)
decimal_name n small =
    let number = decimal_number n in
    let digits : list_all is_ascii_digit (decimal n) ≡ true = ap (list_all is_ascii_digit) number.is ∙ and_from _ _ number.digit number.digits in
    let short : length (decimal n) ≤ 4 = length-decimal-le 4 n (omega arith) (omega (arith, small)) (omega (arith, small)) in
    name_is (decimal n) (omega (arith, short)) (digits_free (decimal n) digits)

not_zero : (b : ℕ) → 1 ≤ b → not (b == 0) ≡ true
not_zero b some = ap not (ne_eqb b 0 (λ e. omega (arith, e, some)))

digit_free : (c : Bool) (n : ℕ) → list_all (λ byte. not (byte == 0)) (cond c [] ((48 + n % 5) ∷ [])) ≡ true
digit_free true n = refl
digit_free false n = rw (not_zero (48 + n % 5) (omega arith)) refl

extension_free : (n : ℕ) → list_all (λ byte. not (byte == 0)) (extension_text n) ≡ true
extension_free zero = refl
extension_free (suc n) = rw (not_zero (97 + n / 5) (omega arith)) (digit_free (n % 5 == 0) n)

digit_short : (c : Bool) (n : ℕ) → length (cond c [] ((48 + n % 5) ∷ [])) ≤ 1
digit_short true n = omega arith
digit_short false n = omega arith

extension_short : (n : ℕ) → length (extension_text n) ≤ 2
extension_short zero = omega arith
extension_short (suc n) = omega (arith, digit_short (n % 5 == 0) n)

eco_free : (n : ℕ) → list_all (λ byte. not (byte == 0)) (eco_text n) ≡ true
unfolding eco_text
eco_free zero = refl
eco_free (suc n) =
    rw (not_zero (65 + n / 13100) (omega arith)) rw (not_zero (48 + n / 1310 % 10) (omega arith)) rw (not_zero (48 + n / 131 % 10) (omega arith))
    (extension_free (n % 131))

eco_short : (n : ℕ) → length (eco_text n) ≤ 255
unfolding eco_text
eco_short zero = omega arith
eco_short (suc n) = omega (arith, extension_short (n % 131))

where_short : (b : Bool) (letter : ℕ) → length (letter_where b letter) ≤ 1
where_short true letter = omega arith
where_short false letter = omega arith

where_free : (b : Bool) (letter : ℕ) (text : List ℕ) → not (letter == 0) ≡ true → list_all (λ byte. not (byte == 0)) text ≡ true
    → list_all (λ byte. not (byte == 0)) (letter_where b letter ++ text) ≡ true
where_free true letter text some free = and_from _ _ some free
where_free false letter text some free = free

set_short : (letters : List ℕ) (marks : ℕ) → length (letters_set letters marks) ≤ length letters
set_short [] marks = omega arith
set_short (letter ∷ letters) marks =
    omega (arith, where_short (marks % 2 == 1) letter, set_short letters (marks / 2), length-append (letter_where (marks % 2 == 1) letter) (letters_set letters (marks / 2)))

set_free : (letters : List ℕ) (marks : ℕ) → list_all (λ byte. not (byte == 0)) letters ≡ true → list_all (λ byte. not (byte == 0)) (letters_set letters marks) ≡ true
set_free [] marks free = refl
set_free (letter ∷ letters) marks free =
    let both = and_parts (not (letter == 0)) (list_all (λ byte. not (byte == 0)) letters) free in
    where_free (marks % 2 == 1) letter (letters_set letters (marks / 2)) both.0 (set_free letters (marks / 2) both.1)

flags_name : (deleted : Bool) (marks : ℕ) → IsName (flags_text deleted marks)
unfolding flags_text
flags_name deleted marks =
    let set : length (letters_set mark_letters marks) ≤ 18 = set_short mark_letters marks in
    name_is (letter_where deleted 68 ++ letters_set mark_letters marks)
    (omega (arith, set, where_short deleted 68, length-append (letter_where deleted 68) (letters_set mark_letters marks)))
    (where_free deleted 68 (letters_set mark_letters marks) refl (set_free mark_letters marks refl))

-- ---- the length of a position's text

run_short : (n : ℕ) → length (run_text n) ≤ 1
run_short zero = omega arith
run_short (suc n) = omega arith

row_short : (empty : ℕ) (squares : Men) → length (row_text empty squares) ≤ 2 * length squares + 1
row_short empty [] = omega (arith, run_short empty)
row_short empty (None ∷ squares) = omega (arith, row_short (suc empty) squares)
row_short empty (Some man ∷ squares) =
    omega (arith, row_short 0 squares, run_short empty, length-append (run_text empty) (letter_of man ∷ row_text 0 squares))

eight_short : (squares : Men) → length (row_text 0 (take 8 squares)) ≤ 17
eight_short squares =
    let eight : length (take 8 squares) ≤ 8 = omega (arith, length-take 8 squares) in
    omega (arith, row_short 0 (take 8 squares), eight)

ranks_short : (n : ℕ) (board : Men) → length (ranks_text n board) ≤ 18 * (n + 1)
unfolding ranks_text
ranks_short zero board = omega (arith, eight_short board)
ranks_short (suc n) board =
    omega (
      arith,
      eight_short (drop (8 * suc n) board),
      ranks_short n board,
      length-append (row_text 0 (take 8 (drop (8 * suc n) board))) (47 ∷ ranks_text n board),
    )

dash_short : (text : List ℕ) → length (or_word text (45 ∷ [])) ≤ length text + 1
dash_short [] = omega arith
dash_short (b ∷ text) = omega arith

rights_short : (rights : Rights) → length (rights_text rights) ≤ 5
unfolding rights_text
rights_short rights =
    let a : List ℕ = letter_where rights.white_king_side 75 in
    let b : List ℕ = letter_where rights.white_queen_side 81 in
    let c : List ℕ = letter_where rights.black_king_side 107 in
    let d : List ℕ = letter_where rights.black_queen_side 113 in
    omega (
      arith,
      dash_short (a ++ (b ++ (c ++ d))),
      length-append a (b ++ (c ++ d)),
      length-append b (c ++ d),
      length-append c d,
      where_short rights.white_king_side 75,
      where_short rights.white_queen_side 81,
      where_short rights.black_king_side 107,
      where_short rights.black_queen_side 113,
    )

square_short : (square : Option ℕ) → length (en_passant_text square) ≤ 2
square_short None = omega arith
square_short (Some s) = omega arith

side_short : (side : Colour) → length (side_text side) ≤ 1
side_short White = omega arith
side_short Black = omega arith

fen_short : (p : Setup) → length (fen_text p) ≤ 255
unfolding fen_text
fen_short p =
    let counters : List ℕ = 32 ∷ 48 ∷ 32 ∷ 49 ∷ [] in
    let square : List ℕ = en_passant_text p.en_passant ++ counters in
    let rights : List ℕ = rights_text p.rights ++ 32 ∷ square in
    let side : List ℕ = side_text p.side ++ 32 ∷ rights in
    omega (
      arith,
      ranks_short 7 p.board,
      side_short p.side,
      rights_short p.rights,
      square_short p.en_passant,
      length-append (placement_text p.board) (32 ∷ side),
      length-append (side_text p.side) (32 ∷ rights),
      length-append (rights_text p.rights) (32 ∷ square),
      length-append (en_passant_text p.en_passant) counters,
    )

fen_name : (p : Setup) → Sound p → IsName (fen_text p)
fen_name p sound = record { short = fen_short p; zero_free = written_zero_free p sound }

fen_again : (p : Setup) → Sound p → fen_answer (fen_text p) ≡ Ok p
fen_again p sound = sym (fen_is (fen_text p) (Ok p) (written_reads p sound) tt)

-- ---- the tags of a head

roster_tag : (given : List Tag) (name value : List ℕ) → is_tag_name name ≡ true → IsName value → (is_among roster_names name && has_tag name given) ≡ false
    → is_named (codes "FEN") (pair name value) ≡ false → IsTaken given (pair name value)
roster_tag given name value is bounded once other = record { name = tag_name_is name is; value = bounded; once = once; no_start = other }

roster_taken : (head : Head) → IsBounded head → AreTaken [] (roster head)
roster_taken head is = (
  roster_tag _ (codes "Event") head.event refl is.event refl refl,
  (
    roster_tag _ (codes "Site") head.site refl is.site refl refl,
    (
      roster_tag _ (codes "Date") (date_text head.date) refl (date_text-IsName head.date) refl refl,
      (
        roster_tag _ (codes "Round") head.round refl is.round refl refl,
        (
          roster_tag _ (codes "White") head.white refl is.white refl refl,
          (
            roster_tag _ (codes "Black") head.black refl is.black refl refl,
            (roster_tag _ (codes "Result") (outcome_text head.result) refl (outcome_name head.result) refl refl, tt),
          ),
        ),
      ),
    ),
  ),
)

rating_plain : (side : Colour) (rating : Rating) → IsRating rating → AllByRecursion IsPlain (rating_pairs side rating)
rating_plain side rating is =
    let name : IsRatingName (rating_tag side rating.kind) = rating_name side rating.kind is.kind in
    plain_if (rating.value == 0) (pair (rating_tag side rating.kind) (decimal rating.value) ∷ [])
    (record { name = tag_name_is (rating_tag side rating.kind) name.tag_name; value = decimal_name rating.value is.value; no_roster = name.no_roster; no_start = name.no_fen }, tt)

named_plain : (name value : List ℕ) → is_tag_name name ≡ true → IsName value → is_among roster_names name ≡ false → is_named (codes "FEN") (pair name value) ≡ false
    → IsPlain (pair name value)
named_plain name value is bounded other start = record { name = tag_name_is name is; value = bounded; no_roster = other; no_start = start }

eco_plain : (eco : ℕ) → AllByRecursion IsPlain (eco_pairs eco)
eco_plain eco =
    plain_if (eco == 0) (pair (codes "ECO") (eco_text eco) ∷ []) (named_plain (codes "ECO") (eco_text eco) refl (name_is (eco_text eco) (eco_short eco) (eco_free eco)) refl refl, tt)

date_plain : (date : Date) → AllByRecursion IsPlain (event_date_pairs date)
date_plain date =
    plain_if (is_unknown date) (pair (codes "EventDate") (date_text date) ∷ []) (named_plain (codes "EventDate") (date_text date) refl (date_text-IsName date) refl refl, tt)

flags_plain : (flags : List ℕ) → IsName flags → AllByRecursion IsPlain (flags_pairs flags)
flags_plain [] is = tt
flags_plain (flag ∷ flags) is = (named_plain (codes "ScidFlags") (flag ∷ flags) refl is refl refl, tt)

free_plain : (tags : List Tag) → AllByRecursion IsTag tags → AllByRecursion IsPlain tags
free_plain [] each = tt
free_plain (tag ∷ tags) each =
    let name : IsFreeName tag.name = free_name tag.name each.0.free in
    (record { name = each.0.name; value = each.0.value; no_roster = name.no_roster; no_start = no_fen_name tag.name name.no_refused }, free_plain tags each.1)

-- The tags between the roster and the start.
abbrev pub middle : Head → List Tag
middle head =
    rating_pairs White head.white_rating ++ (rating_pairs Black head.black_rating ++ (eco_pairs head.eco ++ (event_date_pairs head.event_date
    ++ flags_pairs (flags_text head.deleted head.marks))))

middle_plain : (head : Head) → IsBounded head → AllByRecursion IsPlain (middle head)
middle_plain head is =
    plain_then (rating_pairs White head.white_rating) _ (rating_plain White head.white_rating is.white_rating)
    (plain_then (rating_pairs Black head.black_rating) _ (rating_plain Black head.black_rating is.black_rating)
    (plain_then (eco_pairs head.eco) _ (eco_plain head.eco)
    (plain_then (event_date_pairs head.event_date) _ (date_plain head.event_date)
    (flags_plain (flags_text head.deleted head.marks) (flags_name head.deleted head.marks)))))

five : (a b c d e x : List Tag) → a ++ (b ++ (c ++ (d ++ (e ++ x)))) ≡ (a ++ (b ++ (c ++ (d ++ e)))) ++ x
five a b c d e x = simp append_assoc refl

tags_split : (head : Head) (game : GameTree) → tags_of head game ≡ roster head ++ (middle head ++ (start_pairs game ++ head.tags))
tags_split head game =
    ap (λ l. roster head ++ l)
    (five (rating_pairs White head.white_rating) (rating_pairs Black head.black_rating) (eco_pairs head.eco) (event_date_pairs head.event_date)
    (flags_pairs (flags_text head.deleted head.marks)) (start_pairs game ++ head.tags))

-- ---- from the first tag on

unread_begun : IsBegun start_setup [] unread
unread_begun = record { tags = refl; in_moves = refl; start = refl; moves = refl; turn = refl; outer = refl }

abbrev front : Head → List Tag
front head = roster head ++ middle head

front_no_start : (head : Head) → IsBounded head → has_tag (codes "FEN") (front head) ≡ false
front_no_start head is = no_start_in (middle head) (roster head) (all_taken (middle head) (roster head) (middle_plain head is)) refl

-- The tags of the start and the others, behind the front.
abbrev start_tags : Bool → Setup → List Tag
start_tags own p = cond own (pair (codes "SetUp") (codes "1") ∷ pair (codes "FEN") (fen_text p) ∷ []) []

start_come : (own : Bool) (p : Setup) (head : Head) (tail others : List ℕ) (r : Reading) (a : At) → not (is_start p) ≡ own → Sound p → IsBounded head
    → IsBegun start_setup (front head) r → Has (flat_map tag_text (start_tags own p ++ head.tags) ++ tail) others a → length others ≤ length tail
    → ComesTo p (front head ++ (start_tags own p ++ head.tags)) tail others r a
start_come false p head tail others r a is sound bounded begun has long =
    let start : p ≡ start_setup = (is_start-Decides p).0 (not-false (is_start p) is) in
    subst (λ q. ComesTo q (front head ++ head.tags) tail others r a) (sym start)
    (read_tags head.tags start_setup (front head) tail others r a begun
    (all_taken head.tags (front head) (free_plain head.tags (recursion_from_All IsTag head.tags bounded.tags))) has long)
start_come true p head tail others r a is sound bounded begun has long =
    let set_up : Tag = pair (codes "SetUp") (codes "1") in
    let fen : Tag = fen_tag (fen_text p) in
    let before : List Tag = front head ++ set_up ∷ [] in
    let taken : AreTaken (front head) (set_up ∷ []) = all_taken (set_up ∷ []) (front head) (named_plain (codes "SetUp") (codes "1") refl (tested (codes "1") refl) refl refl, tt) in
    comes_same p ((before ++ fen ∷ []) ++ head.tags) (front head ++ (set_up ∷ fen ∷ head.tags)) tail others r a
    (append_assoc before (fen ∷ []) head.tags ∙ append_assoc (front head) (set_up ∷ []) (fen ∷ head.tags))
    (and_so start_setup p before ((before ++ fen ∷ []) ++ head.tags) (flat_map tag_text (fen ∷ head.tags) ++ tail) tail others r a
    (read_part (set_up ∷ []) (fen ∷ head.tags) start_setup (front head) tail others r a begun taken has long)
    (λ s b begun_s has_b.
    and_so p p (before ++ fen ∷ []) ((before ++ fen ∷ []) ++ head.tags) (flat_map tag_text head.tags ++ tail) tail others s b
    (read_fen_tag start_setup p before (fen_text p) (flat_map tag_text head.tags ++ tail) others s b begun_s (fen_name p sound)
    (no_start_in (set_up ∷ []) (front head) taken (front_no_start head bounded)) (fen_again p sound)
    (has_same ((tag_text fen ++ flat_map tag_text head.tags) ++ tail) (tag_text fen ++ (flat_map tag_text head.tags ++ tail)) others b (append_assoc (tag_text fen) (flat_map tag_text head.tags) tail) has_b)
    (text_long head.tags tail others long))
    (λ q c begun_q has_c. read_tags head.tags p (before ++ fen ∷ []) tail others q c begun_q
    (all_taken head.tags (before ++ fen ∷ []) (free_plain head.tags (recursion_from_All IsTag head.tags bounded.tags))) has_c long)))

tags_come : (head : Head) (game : GameTree) (tail others : List ℕ) (a : At) → Sound game.start → IsBounded head
    → Has (flat_map tag_text (roster head ++ (middle head ++ (start_pairs game ++ head.tags))) ++ tail) others a → length others ≤ length tail
    → ComesTo game.start (front head ++ (start_pairs game ++ head.tags)) tail others unread a
tags_come head game tail others a sound is has long =
    let rest : List Tag = start_pairs game ++ head.tags in
    and_so start_setup game.start (roster head) (front head ++ rest) (flat_map tag_text (middle head ++ rest) ++ tail) tail others unread a
    (read_part (roster head) (middle head ++ rest) start_setup [] tail others unread a unread_begun (roster_taken head is) has long)
    (λ r b begun_r has_b.
    and_so start_setup game.start (front head) (front head ++ rest) (flat_map tag_text rest ++ tail) tail others r b
    (read_part (middle head) rest start_setup (roster head) tail others r b begun_r (all_taken (middle head) (roster head) (middle_plain head is)) has_b long)
    (λ s c begun_s has_c. start_come (has_own_start game) game.start head tail others s c refl sound is begun_s has_c long))

pub read_all_tags : (head : Head) (game : GameTree) (tail others : List ℕ) (a : At) → Sound game.start → IsBounded head
    → Has (flat_map tag_text (tags_of head game) ++ tail) others a → length others ≤ length tail → ComesTo game.start (tags_of head game) tail others unread a
read_all_tags head game tail others a sound is has long =
    comes_same game.start (front head ++ (start_pairs game ++ head.tags)) (tags_of head game) tail others unread a
    (append_assoc (roster head) (middle head) (start_pairs game ++ head.tags) ∙ sym (tags_split head game))
    (tags_come head game tail others a sound is
    (subst (λ l. Has (flat_map tag_text l ++ tail) others a) (tags_split head game) has) long)
