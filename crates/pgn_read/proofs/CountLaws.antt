-- Laws of the number of items: each has a byte, so a text has no more than it has bytes.
use Rattle.std.proofs.Common.{◌≡◌, ◌≤◌, ◌<◌, ◌-◌, ◌==◌, ◌&&◌, ℕ, zero, suc, Bool, true, false, cond, List, [], ◌∷◌, length, drop, Option, Some, None, refl, sym, ap, ◌∙◌, subst, arith, length-drop, ◌||◌, nat_lt}
use Rattle.std.specs.Option.{option_map_or}
use Rattle.std.specs.Prelude.{codes}
use Rattle.pgn_read.specs.declared.item.Item.{Item}
use Rattle.pgn_read.specs.declared.place.Place.{Place}
use Rattle.pgn_read.specs.Bytes.{begins}
use Rattle.pgn_read.specs.Place.{next_place}
use Rattle.pgn_read.specs.Lexing.{lexed, size}
use Rattle.pgn_read.specs.Text.{At, behind_mark, here, longest, passed, skipped, behind_token}
use Rattle.pgn_read.specs.Reading.{Effect, Reading, ends_before, ends_behind, goes_on, is_faulty, is_inside, unread}
use Rattle.pgn_read.specs.Items.{AreItems, Next, PgnReads, begins_game, by_effect, effect_at, ended, first_token, item_at, items_at, items_of, next, next_item, resumed, text_start}
use Rattle.pgn_read.proofs.ItemLaws.{at_short, end_at, gap_short, next_short, not_end, one_list, token_taken}
use Rattle.pgn_read.proofs.LexingLaws.{token_shorter}

-- ---- where reading goes on

resumed_short : (place : Place) (room : ℕ) (bytes : List ℕ) → length (resumed place room bytes).bytes ≤ length bytes
resumed_short place room [] = omega arith
resumed_short place room (byte ∷ bytes) =
    at_short (begins_game place room (byte ∷ bytes)) (suc (length bytes)) _ _ (omega arith) (omega (arith, resumed_short (next_place place byte) (room - 1) bytes))

none_begins : (a : Bool) (b : Bool) → (a && (false && b)) ≡ false
none_begins true b = refl
none_begins false b = refl

-- Behind a fault at an item's first byte reading goes on further back.
resumed_further : (place : Place) (byte : ℕ) (bytes : List ℕ) → length (resumed place longest (byte ∷ bytes)).bytes ≤ length bytes
resumed_further place byte bytes =
    let test : begins_game place longest (byte ∷ bytes) ≡ false = none_begins (place.column == 1) (begins (codes "[Event \"") (byte ∷ bytes)) in
    let P : Bool → Type 0 = λ c. length (cond c (here place longest (byte ∷ bytes)) (resumed (next_place place byte) (longest - 1) bytes)).bytes ≤ length bytes in
    subst P (sym test) (resumed_short (next_place place byte) (longest - 1) bytes)

passed_short : (n : ℕ) (a : At) → length (passed n a).bytes ≤ length a.bytes
passed_short n a = let h : length (drop n a.bytes) ≡ length a.bytes - n = length-drop n a.bytes in omega (arith, h)

mark_short : (a : At) → length (behind_mark a).bytes ≤ length a.bytes
mark_short a = at_short _ (length a.bytes) (passed 3 a) a (passed_short 3 a) (omega arith)

first_short : (a : At) → length (first_token a).bytes ≤ length a.bytes
first_short a =
    let mark : length (behind_mark a).bytes ≤ length a.bytes = mark_short a in
    let gap : length (skipped (behind_mark a)).bytes ≤ length (behind_mark a).bytes = gap_short false (behind_mark a).place (behind_mark a).room (behind_mark a).bytes in
    omega (arith, mark, gap)

-- ---- an item

-- Where it ends, it does not end before this place.
abbrev Short : ℕ → Next → Type 0
Short count n = (item : Item) → n.item ≡ Some item → length n.at.bytes ≤ count

next_same : (c : Bool) (r : Reading) (a : At) → length (cond c (ended r None a) (next None a)).at.bytes ≤ length a.bytes
next_same true r a = omega arith
next_same false r a = omega arith

effect_short : (r : Reading) (a : At) (later : Reading → Next) (e : Effect) → ((s : Reading) → e ≡ goes_on s → Short (length a.bytes) (later s)) → Short (length a.bytes) (by_effect r a later e)
effect_short r a later (goes_on s) goes item is = goes s refl item is
effect_short r a later (ends_behind outcome) goes item is = passed_short (size a.bytes) a
effect_short r a later ends_before goes item is = next_same (r.in_moves || nat_lt 0 (length r.tags)) r a
effect_short r a later (is_faulty what) goes item is = resumed_short a.place a.room a.bytes

-- The next token stands no further back.
next_fits_at : (r s : Reading) (place : Place) (room : ℕ) (bytes : List ℕ) → effect_at r (here place room bytes) ≡ goes_on s
    → length (skipped (behind_token (here place room bytes))).bytes < length bytes
next_fits_at r s place room [] goes = absurd (not_end (is_inside r) s (sym (end_at r place room) ∙ goes))
next_fits_at r s place room (byte ∷ bytes) goes = let h : length (skipped (behind_token (here place room (byte ∷ bytes)))).bytes ≤ length bytes = next_short place room byte bytes in omega (arith, h)

next_fits : (r s : Reading) (a : At) → effect_at r a ≡ goes_on s → length (skipped (behind_token a)).bytes < length a.bytes
next_fits r s a goes = next_fits_at r s a.place a.room a.bytes goes

item_short : (n : ℕ) (r : Reading) (a : At) → length a.bytes < n → Short (length a.bytes) (item_at r a)
item_short zero r a below item is = absurd (omega (arith, below))
item_short (suc n) r a below item is =
    let P : Next → Type 0 = Short (length a.bytes) in
    subst P (sym (token_taken r a))
    (effect_short r a (λ s. item_at s (skipped (behind_token a))) (effect_at r a)
    (λ s goes item' is'.
    let fits : length (skipped (behind_token a)).bytes < length a.bytes = next_fits r s a goes in
    let h : length (item_at s (skipped (behind_token a))).at.bytes ≤ length (skipped (behind_token a)).bytes = item_short n s (skipped (behind_token a)) (omega (arith, fits, below)) item' is' in
    omega (arith, fits, h)))
    item is

-- An item's first token has a byte.
first_further : (place : Place) (byte : ℕ) (bytes : List ℕ) (later : Reading → Next) (e : Effect)
    → ((s : Reading) → e ≡ goes_on s → Short (length bytes) (later s)) → Short (length bytes) (by_effect unread (here place longest (byte ∷ bytes)) later e)
first_further place byte bytes later (goes_on s) goes item is = goes s refl item is
first_further place byte bytes later (ends_behind outcome) goes item is =
    let h : length (drop (size (byte ∷ bytes)) (byte ∷ bytes)) ≡ length (byte ∷ bytes) - size (byte ∷ bytes) = length-drop (size (byte ∷ bytes)) (byte ∷ bytes) in
    let t : length (lexed (byte ∷ bytes)).rest ≤ length bytes = token_shorter byte bytes in
    omega (arith, h, t)
first_further place byte bytes later ends_before goes item is = let e : None ≡ Some item = is in absurd (cc)
first_further place byte bytes later (is_faulty what) goes item is = resumed_further place byte bytes

item_further : (place : Place) (bytes : List ℕ) (item : Item) → (item_at unread (here place longest bytes)).item ≡ Some item
    → length (item_at unread (here place longest bytes)).at.bytes < length bytes
item_further place [] item is =
    let none : item_at unread (here place longest []) ≡ next None (here place longest []) =
    token_taken unread (here place longest []) ∙ ap (by_effect unread (here place longest []) (λ s. item_at s (skipped (behind_token (here place longest []))))) (end_at unread place longest) in
    let e : None ≡ Some item = sym (ap (λ (n : Next). n.item) none) ∙ is in absurd (cc)
item_further place (byte ∷ bytes) item is =
    let a : At = here place longest (byte ∷ bytes) in
    let P : Next → Type 0 = Short (length bytes) in
    let h : length (item_at unread a).at.bytes ≤ length bytes =
    subst P (sym (token_taken unread a))
    (first_further place byte bytes (λ s. item_at s (skipped (behind_token a))) (effect_at unread a)
    (λ s goes item' is'.
    let fits : length (skipped (behind_token a)).bytes ≤ length bytes = next_short place longest byte bytes in
    let h' : length (item_at s (skipped (behind_token a))).at.bytes ≤ length (skipped (behind_token a)).bytes = item_short (suc (length (skipped (behind_token a)).bytes)) s (skipped (behind_token a)) (omega arith) item' is' in
    omega (arith, fits, h')))
    item is in
    omega (arith, h)

-- Reading goes on behind an item's first byte.
pub next_further : (a : At) (item : Item) → (next_item a).item ≡ Some item → length (next_item a).at.bytes < length a.bytes
unfolding next_item
next_further a item is =
    let first : length (first_token a).bytes ≤ length a.bytes = first_short a in
    let h : length (item_at unread (first_token a)).at.bytes < length (first_token a).bytes = item_further (first_token a).place (first_token a).bytes item is in
    omega (arith, first, h)

-- ---- the items of a text

items_by : (n : ℕ) (a : At) (rest : Option Item) → (next_item a).item ≡ rest → ((item : Item) → (next_item a).item ≡ Some item → AreItems (next_item a).at (items_at n (next_item a).at))
    → AreItems a (items_at (suc n) a)
items_by n a None is later =
    let P : Option Item → Type 0 = λ o. AreItems a (option_map_or (λ item. item ∷ items_at n (next_item a).at) o []) in
    subst P (sym is) is
items_by n a (Some item) is later =
    let P : Option Item → Type 0 = λ o. AreItems a (option_map_or (λ x. x ∷ items_at n (next_item a).at) o []) in
    subst P (sym is) (is, later item is)

no_items : (a : At) (rest : Option Item) → (next_item a).item ≡ rest → length a.bytes ≤ 0 → (next_item a).item ≡ None
no_items a None is fits = is
no_items a (Some item) is fits = let h : length (next_item a).at.bytes < length a.bytes = next_further a item is in absurd (omega (arith, h, fits))

pub are_items : (n : ℕ) (a : At) → length a.bytes ≤ n → AreItems a (items_at n a)
are_items zero a fits = no_items a (next_item a).item refl fits
are_items (suc n) a fits =
    items_by n a (next_item a).item refl
    (λ item is. let h : length (next_item a).at.bytes < length a.bytes = next_further a item is in are_items n (next_item a).at (omega (arith, h, fits)))

-- The items that are computed are those of the text.
pub listed : (text : List ℕ) → PgnReads text (items_of text)
listed text = are_items (length text) (text_start text) (omega arith)

pub listed_alone : (text : List ℕ) (items : List Item) → PgnReads text items → items ≡ items_of text
listed_alone text items reads = one_list text items (items_of text) reads (listed text)
