-- The head that is read from the tags of a game is the game's head.
use Rattle.std.proofs.Common.{◌≡◌, ◌≤◌, ◌==◌, ◌||◌, ◌&&◌, ℕ, Bool, true, false, not, cond, List, [], ◌∷◌, ◌++◌, codes, Option, Some, None, is_some, refl, sym, ap, ◌∙◌, subst, arith, append_assoc, append-nil}
use Rattle.std.specs.Prelude.{option_and_then}
use Rattle.std.specs.List.{AllByRecursion}
use Rattle.std.specs.Fmt.{decimal}
use Rattle.std.proofs.lemmas.Bool.{eqb-true, eqb-false, and_parts}
use Rattle.std.proofs.lemmas.List.Elements.{recursion_from_All, filter-append}
use Rattle.cell_core.specs.declared.man.Colour.{Colour}
use Rattle.cell_core.specs.declared.man.Colour.TheVariants.{White, Black}
use Rattle.cell_core.specs.Man.{same_colour}
use Rattle.chess_text.specs.Written.{fen_text}
use Rattle.game_tree.specs.declared.date.Date.{Date}
use Rattle.game_tree.specs.declared.head.Head.{Head}
use Rattle.game_tree.specs.declared.head.Outcome.{Outcome}
use Rattle.game_tree.specs.declared.head.Outcome.TheVariants as outcome
use Rattle.game_tree.specs.declared.head.Rating.{Rating}
use Rattle.game_tree.specs.declared.head.Tag.{Tag}
use Rattle.game_tree.specs.Date.{IsDate, unknown_date, is_unknown, is_near, keeps_rule, date_read, date_text}
use Rattle.game_tree.specs.Decimal.{decimal_read}
use Rattle.game_tree.specs.Eco.{eco_text, eco_read}
use Rattle.game_tree.specs.Game.{GameTree, has_own_start}
use Rattle.game_tree.specs.Head.{IsRating, IsTag, IsBounded}
use Rattle.game_tree.specs.Marks.{mark_letters}
use Rattle.game_tree.specs.Outcome.{outcome_text, outcome_read}
use Rattle.std.specs.Option.{option_or, unwrap_or}
use Rattle.game_tree.specs.Settle.{event_date_tag, near_only, near_date, first_near_date, taken_up, settled, IsSettled}
use Rattle.game_tree.specs.TagList.{is_named}
use Rattle.game_tree.specs.TagName.{rating_tag, rating_of, is_reserved, free_of}
use Rattle.game_tree.proofs.DateLemmas.{date_read-date_text}
use Rattle.game_tree.proofs.DecimalLemmas.{decimal_read-decimal}
use Rattle.game_tree.proofs.EcoLemmas.{eco_read-eco_text}
use Rattle.game_tree.proofs.SettleLemmas.{settled-near, settled-unknown, unknown-far, settled-keeps_rule}
use Rattle.game_tree.proofs.TagNameLemmas.{rating_of-rating_tag}
use Rattle.pgn_write.specs.TagPairs.{pair, roster, rating_pairs, eco_pairs, event_date_pairs, flags_text, flags_pairs, start_pairs, tags_of}
use Rattle.pgn_read.specs.Heads.{first_told, value_of, result_from, rated, rating_as, rating_told, rating_from, flags_of, has_letter, marks_of, head_from}
use Rattle.pgn_read.proofs.NameLaws.{rating_name, free_name, no_flags_name}
use Rattle.pgn_laws.proofs.MarksLaws.{marks_again, deleted_again}

-- ---- what the first tag tells

told_or : {A : Type 0} (a b c : Option A) → option_or a (option_or b c) ≡ option_or (option_or a b) c
told_or None b c = refl
told_or (Some x) b c = refl

told_then : {A : Type 0} (told : Tag → Option A) (xs ys : List Tag) → first_told told (xs ++ ys) ≡ option_or (first_told told xs) (first_told told ys)
told_then told [] ys = refl
told_then told (tag ∷ xs) ys = ap (option_or (told tag)) (told_then told xs ys) ∙ told_or (told tag) (first_told told xs) (first_told told ys)

-- Behind tags that tell nothing.
past : {A : Type 0} (told : Tag → Option A) (xs ys : List Tag) → first_told told xs ≡ None → first_told told (xs ++ ys) ≡ first_told told ys
past told xs ys none = told_then told xs ys ∙ ap (λ o. option_or o (first_told told ys)) none

nothing_if : {A : Type 0} (told : Tag → Option A) (c : Bool) (xs : List Tag) → first_told told xs ≡ None → first_told told (cond c [] xs) ≡ None
nothing_if told true xs none = refl
nothing_if told false xs none = none

some_if : {A : Type 0} (told : Tag → Option A) (c : Bool) (xs : List Tag) → first_told told xs ≡ None → first_told told (cond c xs []) ≡ None
some_if told true xs none = none
some_if told false xs none = refl

one_none : {A : Type 0} (told : Tag → Option A) (tag : Tag) → told tag ≡ None → first_told told (tag ∷ []) ≡ None
one_none told tag none = ap (λ o. option_or o None) none

-- ---- ratings

rating_is : (side other : Colour) (kind : ℕ) (value : List ℕ) → kind ≤ 6
    → rating_told side (pair (rating_tag other kind) value) ≡ rating_as side value (other, kind)
unfolding rating_told
rating_is side other kind value small = ap (option_and_then (rating_as side value)) (rating_of-rating_tag other kind small)

roster_rating : (side : Colour) (head : Head) → first_told (rating_told side) (roster head) ≡ None
unfolding rating_told rating_of
roster_rating side head = refl

other_rating : (rating : Rating) → IsRating rating → first_told (rating_told White) (rating_pairs Black rating) ≡ None
other_rating rating is =
    nothing_if (rating_told White) (rating.value == 0) _
    (one_none (rating_told White) (pair (rating_tag Black rating.kind) (decimal rating.value)) (rating_is White Black rating.kind (decimal rating.value) is.kind))

white_rating : (rating : Rating) → IsRating rating → first_told (rating_told Black) (rating_pairs White rating) ≡ None
white_rating rating is =
    nothing_if (rating_told Black) (rating.value == 0) _
    (one_none (rating_told Black) (pair (rating_tag White rating.kind) (decimal rating.value)) (rating_is Black White rating.kind (decimal rating.value) is.kind))

free_rating : (side : Colour) (tag : Tag) → is_some (rating_of tag.name) ≡ false → rating_told side tag ≡ None
unfolding rating_told
free_rating side tag none = ap (option_and_then (rating_as side tag.value)) (none_is (rating_of tag.name) none)
  where
    none_is : {A : Type 0} (o : Option A) → is_some o ≡ false → o ≡ None
    none_is None e = refl
    none_is (Some x) e = absurd (cc)

free_ratings : (side : Colour) (tags : List Tag) → AllByRecursion IsTag tags → first_told (rating_told side) tags ≡ None
free_ratings side [] each = refl
free_ratings side (tag ∷ tags) each =
    ap (λ o. option_or o (first_told (rating_told side) tags)) (free_rating side tag (free_name tag.name each.0.free).no_rating) ∙ free_ratings side tags each.1

eco_rating : (side : Colour) (eco : ℕ) → first_told (rating_told side) (eco_pairs eco) ≡ None
unfolding rating_told rating_of
eco_rating side eco = nothing_if (rating_told side) (eco == 0) (pair (codes "ECO") (eco_text eco) ∷ []) refl

date_rating : (side : Colour) (date : Date) → first_told (rating_told side) (event_date_pairs date) ≡ None
unfolding rating_told rating_of
date_rating side date = nothing_if (rating_told side) (is_unknown date) (pair (codes "EventDate") (date_text date) ∷ []) refl

flags_rating : (side : Colour) (flags : List ℕ) → first_told (rating_told side) (flags_pairs flags) ≡ None
unfolding rating_told rating_of
flags_rating side [] = refl
flags_rating side (flag ∷ flags) = refl

start_rating : (side : Colour) (game : GameTree) → first_told (rating_told side) (start_pairs game) ≡ None
unfolding rating_told rating_of
start_rating side game = some_if (rating_told side) (has_own_start game) (pair (codes "SetUp") (codes "1") ∷ pair (codes "FEN") (fen_text game.start) ∷ []) refl

-- The tags behind the ratings.
abbrev behind_ratings : Head → GameTree → List Tag
behind_ratings head game =
    eco_pairs head.eco ++ (event_date_pairs head.event_date ++ (flags_pairs (flags_text head.deleted head.marks) ++ (start_pairs game ++ head.tags)))

rest_rating : (side : Colour) (head : Head) (game : GameTree) → IsBounded head → first_told (rating_told side) (behind_ratings head game) ≡ None
rest_rating side head game is =
    past (rating_told side) (eco_pairs head.eco) _ (eco_rating side head.eco)
    ∙ past (rating_told side) (event_date_pairs head.event_date) _ (date_rating side head.event_date)
    ∙ past (rating_told side) (flags_pairs (flags_text head.deleted head.marks)) _ (flags_rating side (flags_text head.deleted head.marks))
    ∙ past (rating_told side) (start_pairs game) head.tags (start_rating side game)
    ∙ free_ratings side head.tags (recursion_from_All IsTag head.tags is.tags)

same_side : (side : Colour) → same_colour side side ≡ true
same_side White = refl
same_side Black = refl

read_rating : (side : Colour) (rating : Rating) → IsRating rating → (rating.value == 0) ≡ false
    → rating_as side (decimal rating.value) (side, rating.kind) ≡ Some rating
read_rating side rating is some =
    let value : decimal_read 4095 (decimal rating.value) ≡ Some rating.value =
    decimal_read-decimal 4095 (decimal rating.value) rating.value (omega arith) is.value refl in
    ap (λ b. cond b (option_and_then (rated rating.kind) (decimal_read 4095 (decimal rating.value))) None) (same_side side)
    ∙ ap (option_and_then (rated rating.kind)) value
    ∙ ap (λ b. cond b None (Some (record { value = rating.value; kind = rating.kind }))) some

abbrev no_rating : Rating
no_rating = record { value = 0; kind = 0 }

no_rating_is : (rating : Rating) → IsRating rating → (rating.value == 0) ≡ true → no_rating ≡ rating
no_rating_is rating is zero_value =
    let value : rating.value ≡ 0 = eqb-true rating.value 0 zero_value in
    let kind : rating.kind ≡ 0 = is.none value in
    sym (λ i. record { value = value i; kind = kind i })

-- The side's own pair, with tags behind it that tell no rating of the side.
own_rating : (c : Bool) (side : Colour) (rating : Rating) (rest : List Tag) → (rating.value == 0) ≡ c → IsRating rating
    → first_told (rating_told side) rest ≡ None
    → unwrap_or (first_told (rating_told side) (cond c [] (pair (rating_tag side rating.kind) (decimal rating.value) ∷ []) ++ rest)) no_rating ≡ rating
own_rating true side rating rest value is none = ap (λ o. unwrap_or o no_rating) none ∙ no_rating_is rating is value
own_rating false side rating rest value is none =
    ap (λ o. unwrap_or (option_or o (first_told (rating_told side) rest)) no_rating)
    (rating_is side side rating.kind (decimal rating.value) is.kind ∙ read_rating side rating is value)

white_again : (head : Head) (game : GameTree) → IsBounded head → rating_from White (tags_of head game) ≡ head.white_rating
white_again head game is =
    let rest : List Tag = rating_pairs Black head.black_rating ++ behind_ratings head game in
    ap (λ o. unwrap_or o no_rating) (past (rating_told White) (roster head) (rating_pairs White head.white_rating ++ rest) (roster_rating White head))
    ∙ own_rating (head.white_rating.value == 0) White head.white_rating rest refl is.white_rating
    (past (rating_told White) (rating_pairs Black head.black_rating) (behind_ratings head game) (other_rating head.black_rating is.black_rating)
    ∙ rest_rating White head game is)

black_again : (head : Head) (game : GameTree) → IsBounded head → rating_from Black (tags_of head game) ≡ head.black_rating
black_again head game is =
    let rest : List Tag = behind_ratings head game in
    ap (λ o. unwrap_or o no_rating)
    (past (rating_told Black) (roster head) (rating_pairs White head.white_rating ++ (rating_pairs Black head.black_rating ++ rest)) (roster_rating Black head)
    ∙ past (rating_told Black) (rating_pairs White head.white_rating) (rating_pairs Black head.black_rating ++ rest) (white_rating head.white_rating is.white_rating))
    ∙ own_rating (head.black_rating.value == 0) Black head.black_rating rest refl is.black_rating (rest_rating Black head game is)

-- ---- the opening code

abbrev eco_told : Tag → Option ℕ
eco_told tag = cond (is_named (codes "ECO") tag) (eco_read tag.value) None

rating_eco : (side : Colour) (rating : Rating) → IsRating rating → first_told eco_told (rating_pairs side rating) ≡ None
rating_eco side rating is =
    nothing_if eco_told (rating.value == 0) _
    (one_none eco_told (pair (rating_tag side rating.kind) (decimal rating.value))
    (ap (λ b. cond b (eco_read (decimal rating.value)) None) (rating_name side rating.kind is.kind).no_eco))

free_eco : (tags : List Tag) → AllByRecursion IsTag tags → first_told eco_told tags ≡ None
free_eco [] each = refl
free_eco (tag ∷ tags) each =
    ap (λ b. option_or (cond b (eco_read tag.value) None) (first_told eco_told tags)) (free_name tag.name each.0.free).no_eco ∙ free_eco tags each.1

flags_eco : (flags : List ℕ) → first_told eco_told (flags_pairs flags) ≡ None
flags_eco [] = refl
flags_eco (flag ∷ flags) = refl

behind_eco : (head : Head) (game : GameTree) → IsBounded head
    → first_told eco_told (event_date_pairs head.event_date ++ (flags_pairs (flags_text head.deleted head.marks) ++ (start_pairs game ++ head.tags))) ≡ None
behind_eco head game is =
    past eco_told (event_date_pairs head.event_date) _ (nothing_if eco_told (is_unknown head.event_date) (pair (codes "EventDate") (date_text head.event_date) ∷ []) refl)
    ∙ past eco_told (flags_pairs (flags_text head.deleted head.marks)) _ (flags_eco (flags_text head.deleted head.marks))
    ∙ past eco_told (start_pairs game) head.tags (some_if eco_told (has_own_start game) (pair (codes "SetUp") (codes "1") ∷ pair (codes "FEN") (fen_text game.start) ∷ []) refl)
    ∙ free_eco head.tags (recursion_from_All IsTag head.tags is.tags)

own_eco : (c : Bool) (eco : ℕ) (rest : List Tag) → (eco == 0) ≡ c → eco ≤ 65500 → first_told eco_told rest ≡ None
    → unwrap_or (first_told eco_told (cond c [] (pair (codes "ECO") (eco_text eco) ∷ []) ++ rest)) 0 ≡ eco
own_eco true eco rest is small none = ap (λ o. unwrap_or o 0) none ∙ sym (eqb-true eco 0 is)
own_eco false eco rest is small none =
    let some : 1 ≤ eco = omega (arith, eqb-false eco 0 is) in
    ap (λ o. unwrap_or (option_or o (first_told eco_told rest)) 0) (eco_read-eco_text eco some small)

eco_again : (head : Head) (game : GameTree) → IsBounded head → unwrap_or (first_told eco_told (tags_of head game)) 0 ≡ head.eco
eco_again head game is =
    let rest : List Tag = event_date_pairs head.event_date ++ (flags_pairs (flags_text head.deleted head.marks) ++ (start_pairs game ++ head.tags)) in
    ap (λ o. unwrap_or o 0)
    (past eco_told (rating_pairs White head.white_rating) (rating_pairs Black head.black_rating ++ (eco_pairs head.eco ++ rest)) (rating_eco White head.white_rating is.white_rating)
    ∙ past eco_told (rating_pairs Black head.black_rating) (eco_pairs head.eco ++ rest) (rating_eco Black head.black_rating is.black_rating))
    ∙ own_eco (head.eco == 0) head.eco rest refl is.eco (behind_eco head game is)

-- ---- marks

flags_then : (xs ys : List Tag) → flags_of (xs ++ ys) ≡ flags_of xs ++ flags_of ys
flags_then [] ys = refl
flags_then (tag ∷ xs) ys =
    let own : List ℕ = cond (is_named (codes "ScidFlags") tag) tag.value [] in
    ap (λ l. own ++ l) (flags_then xs ys) ∙ sym (append_assoc own (flags_of xs) (flags_of ys))

flags_past : (xs ys : List Tag) → flags_of xs ≡ [] → flags_of (xs ++ ys) ≡ flags_of ys
flags_past xs ys none = flags_then xs ys ∙ ap (λ l. l ++ flags_of ys) none

no_flags_if : (c : Bool) (xs : List Tag) → flags_of xs ≡ [] → flags_of (cond c [] xs) ≡ []
no_flags_if true xs none = refl
no_flags_if false xs none = none

flags_some_if : (c : Bool) (xs : List Tag) → flags_of xs ≡ [] → flags_of (cond c xs []) ≡ []
flags_some_if true xs none = none
flags_some_if false xs none = refl

one_flags : (tag : Tag) → is_named (codes "ScidFlags") tag ≡ false → flags_of (tag ∷ []) ≡ []
one_flags tag other = ap (λ b. cond b tag.value [] ++ []) other

rating_flags : (side : Colour) (rating : Rating) → IsRating rating → flags_of (rating_pairs side rating) ≡ []
rating_flags side rating is =
    no_flags_if (rating.value == 0) _
    (one_flags (pair (rating_tag side rating.kind) (decimal rating.value)) (rating_name side rating.kind is.kind).no_flags)

free_flags : (tags : List Tag) → AllByRecursion IsTag tags → flags_of tags ≡ []
free_flags [] each = refl
free_flags (tag ∷ tags) each =
    ap (λ b. cond b tag.value [] ++ flags_of tags) (no_flags_name tag.name (free_name tag.name each.0.free).no_refused) ∙ free_flags tags each.1

own_flags : (flags : List ℕ) → flags_of (flags_pairs flags) ≡ flags
own_flags [] = refl
own_flags (flag ∷ flags) = append-nil (flag ∷ flags)

flags_again : (head : Head) (game : GameTree) → IsBounded head → flags_of (tags_of head game) ≡ flags_text head.deleted head.marks
flags_again head game is =
    let flags : List ℕ = flags_text head.deleted head.marks in
    flags_past (rating_pairs White head.white_rating) _ (rating_flags White head.white_rating is.white_rating)
    ∙ flags_past (rating_pairs Black head.black_rating) _ (rating_flags Black head.black_rating is.black_rating)
    ∙ flags_past (eco_pairs head.eco) _ (no_flags_if (head.eco == 0) (pair (codes "ECO") (eco_text head.eco) ∷ []) refl)
    ∙ flags_past (event_date_pairs head.event_date) _ (no_flags_if (is_unknown head.event_date) (pair (codes "EventDate") (date_text head.event_date) ∷ []) refl)
    ∙ flags_then (flags_pairs flags) (start_pairs game ++ head.tags)
    ∙ ap (λ l. flags_of (flags_pairs flags) ++ l)
    (flags_past (start_pairs game) head.tags (flags_some_if (has_own_start game) (pair (codes "SetUp") (codes "1") ∷ pair (codes "FEN") (fen_text game.start) ∷ []) refl)
    ∙ free_flags head.tags (recursion_from_All IsTag head.tags is.tags))
    ∙ append-nil (flags_of (flags_pairs flags))
    ∙ own_flags flags

-- ---- other tags

free_then : (xs ys : List Tag) → free_of (xs ++ ys) ≡ free_of xs ++ free_of ys
free_then xs ys = filter-append (λ (tag : Tag). not (is_reserved tag.name)) xs ys

free_past : (xs ys : List Tag) → free_of xs ≡ [] → free_of (xs ++ ys) ≡ free_of ys
free_past xs ys none = free_then xs ys ∙ ap (λ l. l ++ free_of ys) none

none_free_if : (c : Bool) (xs : List Tag) → free_of xs ≡ [] → free_of (cond c [] xs) ≡ []
none_free_if true xs none = refl
none_free_if false xs none = none

free_some_if : (c : Bool) (xs : List Tag) → free_of xs ≡ [] → free_of (cond c xs []) ≡ []
free_some_if true xs none = none
free_some_if false xs none = refl

one_free : (tag : Tag) → is_reserved tag.name ≡ true → free_of (tag ∷ []) ≡ []
one_free tag reserved = ap (λ b. cond (not b) (tag ∷ []) []) reserved

all_free : (tags : List Tag) → AllByRecursion IsTag tags → free_of tags ≡ tags
all_free [] each = refl
all_free (tag ∷ tags) each =
    ap (λ b. cond (not b) (tag ∷ free_of tags) (free_of tags)) each.0.free ∙ ap (λ l. tag ∷ l) (all_free tags each.1)

roster_free : (head : Head) → free_of (roster head) ≡ []
unfolding is_reserved rating_of
roster_free head = refl

eco_free : (eco : ℕ) → free_of (eco_pairs eco) ≡ []
unfolding is_reserved rating_of
eco_free eco = none_free_if (eco == 0) (pair (codes "ECO") (eco_text eco) ∷ []) refl

date_free : (date : Date) → free_of (event_date_pairs date) ≡ event_date_pairs date
unfolding is_reserved rating_of
date_free date = kept (is_unknown date) (pair (codes "EventDate") (date_text date) ∷ []) refl
  where
    kept : (c : Bool) (xs : List Tag) → free_of xs ≡ xs → free_of (cond c [] xs) ≡ cond c [] xs
    kept true xs is = refl
    kept false xs is = is

flags_free : (flags : List ℕ) → free_of (flags_pairs flags) ≡ []
unfolding is_reserved rating_of
flags_free [] = refl
flags_free (flag ∷ flags) = refl

start_free : (game : GameTree) → free_of (start_pairs game) ≡ []
unfolding is_reserved rating_of
start_free game = free_some_if (has_own_start game) (pair (codes "SetUp") (codes "1") ∷ pair (codes "FEN") (fen_text game.start) ∷ []) refl

rating_free : (side : Colour) (rating : Rating) → IsRating rating → free_of (rating_pairs side rating) ≡ []
rating_free side rating is =
    none_free_if (rating.value == 0) _ (one_free (pair (rating_tag side rating.kind) (decimal rating.value)) (rating_name side rating.kind is.kind).reserved)

tags_again : (head : Head) (game : GameTree) → IsBounded head → free_of (tags_of head game) ≡ event_date_pairs head.event_date ++ head.tags
tags_again head game is =
    let flags : List ℕ = flags_text head.deleted head.marks in
    free_past (roster head) _ (roster_free head)
    ∙ free_past (rating_pairs White head.white_rating) _ (rating_free White head.white_rating is.white_rating)
    ∙ free_past (rating_pairs Black head.black_rating) _ (rating_free Black head.black_rating is.black_rating)
    ∙ free_past (eco_pairs head.eco) _ (eco_free head.eco)
    ∙ free_then (event_date_pairs head.event_date) (flags_pairs flags ++ (start_pairs game ++ head.tags))
    ∙ (λ i. date_free head.event_date i ++ others i)
  where
    others : free_of (flags_pairs (flags_text head.deleted head.marks) ++ (start_pairs game ++ head.tags)) ≡ head.tags
    others =
        free_past (flags_pairs (flags_text head.deleted head.marks)) _ (flags_free (flags_text head.deleted head.marks))
        ∙ free_past (start_pairs game) head.tags (start_free game)
        ∙ all_free head.tags (recursion_from_All IsTag head.tags is.tags)

-- ---- the head before it is settled

result_again : (o : Outcome) (tags : List Tag) → value_of (codes "Result") tags ≡ Some (outcome_text o) → result_from o tags ≡ o
result_again outcome.White tags is = refl
result_again outcome.Black tags is = refl
result_again outcome.Draw tags is = refl
result_again outcome.Unknown tags is = ap (λ v. unwrap_or (option_and_then outcome_read v) outcome.Unknown) is

date_again : (head : Head) (game : GameTree) → IsBounded head → unwrap_or (option_and_then date_read (value_of (codes "Date") (tags_of head game))) unknown_date ≡ head.date
date_again head game is = ap (λ o. unwrap_or o unknown_date) (date_read-date_text head.date is.date)

abbrev unsettled : Head → Head
unsettled head = record head { event_date = unknown_date; tags = event_date_pairs head.event_date ++ head.tags }

told_again : (head : Head) (game : GameTree) → IsBounded head → head_from (tags_of head game) (Some head.result) ≡ settled (unsettled head)
unfolding head_from
told_again head game is =
    let date : unwrap_or (option_and_then date_read (value_of (codes "Date") (tags_of head game))) unknown_date ≡ head.date = date_again head game is in
    let result : result_from head.result (tags_of head game) ≡ head.result = result_again head.result (tags_of head game) refl in
    let white : rating_from White (tags_of head game) ≡ head.white_rating = white_again head game is in
    let black : rating_from Black (tags_of head game) ≡ head.black_rating = black_again head game is in
    let eco : unwrap_or (first_told eco_told (tags_of head game)) 0 ≡ head.eco = eco_again head game is in
    let marks : marks_of (flags_of (tags_of head game)) mark_letters ≡ head.marks =
    ap (λ l. marks_of l mark_letters) (flags_again head game is) ∙ marks_again head.deleted head.marks is.marks in
    let deleted : has_letter (flags_of (tags_of head game)) 68 ≡ head.deleted =
    ap (λ l. has_letter l 68) (flags_again head game is) ∙ deleted_again head.deleted head.marks in
    let tags : free_of (tags_of head game) ≡ event_date_pairs head.event_date ++ head.tags = tags_again head game is in
    λ i. settled (record {
      white = head.white;
      black = head.black;
      event = head.event;
      site = head.site;
      round = head.round;
      date = date i;
      event_date = unknown_date;
      result = result i;
      white_rating = white i;
      black_rating = black i;
      eco = eco i;
      marks = marks i;
      deleted = deleted i;
      tags = tags i;
    })

-- ---- settled again

unknown_is : (d : Date) → is_unknown d ≡ true → d ≡ unknown_date
unknown_is d is =
    let last = and_parts ((d.year == 0) && (d.month == 0)) (d.day == 0) is in
    let first = and_parts (d.year == 0) (d.month == 0) last.0 in
    let year : d.year ≡ 0 = eqb-true d.year 0 first.0 in
    let month : d.month ≡ 0 = eqb-true d.month 0 first.1 in
    let day : d.day ≡ 0 = eqb-true d.day 0 last.1 in
    λ i. record { year = year i; month = month i; day = day i }

rule_near : (head : Head) → IsSettled head → is_unknown head.event_date ≡ false → is_near head.event_date head.date ≡ true
rule_near head settled_so known =
    let keeps : keeps_rule head.event_date head.date ≡ true = subst (λ (h : Head). keeps_rule h.event_date h.date ≡ true) settled_so (settled-keeps_rule head) in
    second (is_unknown head.event_date) (is_near head.event_date head.date) known keeps
  where
    second : (a b : Bool) → a ≡ false → (a || b) ≡ true → b ≡ true
    second a b none either = rw none at either

near_is : (head : Head) → IsDate head.event_date → is_near head.event_date head.date ≡ true
    → near_date head.date (event_date_tag head.event_date) ≡ Some head.event_date
unfolding near_date
near_is head is near = ap (near_only head.date) (date_read-date_text head.event_date is) ∙ ap (λ b. cond b (Some head.event_date) None) near

settled_known : (head : Head) → IsBounded head → IsSettled head → is_unknown head.event_date ≡ false
    → settled (record head { event_date = unknown_date; tags = event_date_tag head.event_date ∷ head.tags }) ≡ head
settled_known head is settled_so known =
    let near : is_near head.event_date head.date ≡ true = rule_near head settled_so known in
    let told : Head = record head { event_date = unknown_date; tags = event_date_tag head.event_date ∷ head.tags } in
    settled-unknown told (unknown-far head.date) refl
    ∙ ap (λ o. taken_up told (option_or o (first_near_date head.date head.tags))) (near_is head is.event_date near)
    ∙ sym (settled-near head near)
    ∙ settled_so

settled_again : (c : Bool) (head : Head) → is_unknown head.event_date ≡ c → IsBounded head → IsSettled head
    → settled (record head { event_date = unknown_date; tags = cond c [] (pair (codes "EventDate") (date_text head.event_date) ∷ []) ++ head.tags }) ≡ head
settled_again true head unknown is settled_so =
    ap (λ (d : Date). settled (record head { event_date = d })) (sym (unknown_is head.event_date unknown)) ∙ settled_so
settled_again false head known is settled_so = settled_known head is settled_so known

pub head_again : (head : Head) (game : GameTree) → IsBounded head → IsSettled head → head_from (tags_of head game) (Some head.result) ≡ head
head_again head game is settled_so =
    told_again head game is ∙ settled_again (is_unknown head.event_date) head refl is settled_so
