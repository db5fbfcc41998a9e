-- Laws of bodies: where one ends is told by the bytes up to there, and what is read of it is its front.
use Rattle.std.proofs.Common.{◌&&◌, ◌≡◌, ◌≤◌, ◌<◌, ◌+◌, ◌-◌, ◌==◌, ℕ, zero, suc, Bool, true, false, not, cond, List, [], ◌∷◌, ◌++◌, length, take, drop, Option, Some, None, option_map, refl, sym, ap, ◌∙◌, arith, append_assoc, append-nil}
use Rattle.std.specs.Prelude.{slice_index_or}
use Rattle.std.specs.Str.{bytes_eq}
use Rattle.std.proofs.lemmas.List.{take-append-drop, take_all, length-append, length-take-le}
use Rattle.std.proofs.lemmas.Slice.Eq.{bytes_eq-Decides}
use Rattle.script_text.specs.Reading.{shorn}
use Rattle.script_lines.specs.Bodies.{Body, body, body_of, feed_at, first_line, is_word, led}
use Rattle.script_lines.specs.Fronts.{EndsAt, Says, begins_otherwise}
use Rattle.script_lines.specs.Standing.{is_fresh}
use Rattle.script_lines.specs.declared.place.At.{At}
use Rattle.script_lines.specs.declared.place.Front.TheVariants as at_front
use Rattle.script_lines.specs.declared.place.At.TheVariants.{Line, Inside, Behind, End}
use Rattle.script_lines.proofs.ScriptLaws.{feed_at_position, feed_within, first_feed, no_feed, shorn_length}

-- ---- the first line

line_kept_by : (byte : ℕ) (bytes more : List ℕ) (place : ℕ) (test : Bool) → (byte == 10) ≡ test → (rest : Option ℕ) → first_feed bytes ≡ rest
    → cond test (Some 0) (option_map suc rest) ≡ Some place → ((p : ℕ) → first_feed bytes ≡ Some p → first_line (bytes ++ more) ≡ first_line bytes)
    → first_line (byte ∷ (bytes ++ more)) ≡ first_line (byte ∷ bytes)
line_kept_by byte bytes more place true is rest there at later = rw is refl
line_kept_by byte bytes more place false is None there at later = cc
line_kept_by byte bytes more place false is (Some p) there at later = rw (is, later p there) refl

-- Bytes with a line feed have the same first line whatever follows.
line_kept : (bytes more : List ℕ) (place : ℕ) → first_feed bytes ≡ Some place → first_line (bytes ++ more) ≡ first_line bytes
line_kept [] more place at = cc
line_kept (byte ∷ bytes) more place at = line_kept_by byte bytes more place (byte == 10) refl (first_feed bytes) refl at (λ p there. line_kept bytes more p there)

-- Those without one are its beginning.
pub open_line : (bytes more : List ℕ) → first_feed bytes ≡ None → first_line (bytes ++ more) ≡ bytes ++ first_line more
open_line [] more none = refl
open_line (byte ∷ bytes) more none =
    let none' : ((byte == 10) ≡ false) × (first_feed bytes ≡ None) = no_feed (byte == 10) (first_feed bytes) none in
    rw (none'.0, open_line bytes more none'.1) refl

line_taken_by : (byte : ℕ) (bytes : List ℕ) (place : ℕ) (test : Bool) → (byte == 10) ≡ test → (rest : Option ℕ) → first_feed bytes ≡ rest
    → cond test (Some 0) (option_map suc rest) ≡ Some place → ((p : ℕ) → first_feed bytes ≡ Some p → first_line bytes ≡ take p bytes)
    → first_line (byte ∷ bytes) ≡ take place (byte ∷ bytes)
line_taken_by byte bytes zero true is rest there at later = rw is refl
line_taken_by byte bytes (suc place) true is rest there at later = cc
line_taken_by byte bytes place false is None there at later = cc
line_taken_by byte bytes zero false is (Some p) there at later = cc
line_taken_by byte bytes (suc place) false is (Some p) there at later =
    let e : p ≡ place = cc in rw (is, later place (there ∙ ap Some e)) refl

-- The first line is what stands before the first line feed.
pub line_taken : (bytes : List ℕ) (place : ℕ) → first_feed bytes ≡ Some place → first_line bytes ≡ take place bytes
line_taken [] place at = cc
line_taken (byte ∷ bytes) place at = line_taken_by byte bytes place (byte == 10) refl (first_feed bytes) refl at (λ p there. line_taken bytes p there)

pub line_whole : (bytes : List ℕ) → first_feed bytes ≡ None → first_line bytes ≡ bytes
line_whole bytes none = ap first_line (sym (append-nil bytes)) ∙ open_line bytes [] none ∙ append-nil bytes

feed_front_by : (byte : ℕ) (bytes : List ℕ) (place k : ℕ) (test : Bool) → (byte == 10) ≡ test → (rest : Option ℕ) → first_feed bytes ≡ rest
    → cond test (Some 0) (option_map suc rest) ≡ Some place → place < suc k → ((p : ℕ) → first_feed bytes ≡ Some p → p < k → first_feed (take k bytes) ≡ Some p)
    → first_feed (byte ∷ take k bytes) ≡ Some place
feed_front_by byte bytes zero k true is rest there at below later = rw is refl
feed_front_by byte bytes (suc place) k true is rest there at below later = cc
feed_front_by byte bytes place k false is None there at below later = cc
feed_front_by byte bytes zero k false is (Some p) there at below later = cc
feed_front_by byte bytes (suc place) k false is (Some p) there at below later =
    let e : p ≡ place = cc in
    let below' : place < k = omega (arith, below) in
    rw (is, later place (there ∙ ap Some e) below') refl

-- The first line feed stands in each front that is long enough.
feed_front : (bytes : List ℕ) (place k : ℕ) → first_feed bytes ≡ Some place → place < k → first_feed (take k bytes) ≡ Some place
feed_front [] place k at below = cc
feed_front (byte ∷ bytes) place zero at below = absurd (omega (arith, below))
feed_front (byte ∷ bytes) place (suc k) at below =
    feed_front_by byte bytes place k (byte == 10) refl (first_feed bytes) refl at below (λ p there b. feed_front bytes p k there b)

feed_kept_by : (byte : ℕ) (bytes more : List ℕ) (place : ℕ) (test : Bool) → (byte == 10) ≡ test → (rest : Option ℕ) → first_feed bytes ≡ rest
    → cond test (Some 0) (option_map suc rest) ≡ Some place → ((p : ℕ) → first_feed bytes ≡ Some p → first_feed (bytes ++ more) ≡ Some p)
    → first_feed (byte ∷ (bytes ++ more)) ≡ Some place
feed_kept_by byte bytes more zero true is rest there at later = rw is refl
feed_kept_by byte bytes more (suc place) true is rest there at later = cc
feed_kept_by byte bytes more place false is None there at later = cc
feed_kept_by byte bytes more zero false is (Some p) there at later = cc
feed_kept_by byte bytes more (suc place) false is (Some p) there at later =
    let e : p ≡ place = cc in rw (is, later place (there ∙ ap Some e)) refl

pub feed_kept : (bytes more : List ℕ) (place : ℕ) → first_feed bytes ≡ Some place → first_feed (bytes ++ more) ≡ Some place
feed_kept [] more place at = cc
feed_kept (byte ∷ bytes) more place at = feed_kept_by byte bytes more place (byte == 10) refl (first_feed bytes) refl at (λ p there. feed_kept bytes more p there)

feed_behind_by : (part more : List ℕ) (place : ℕ) (rest : Option ℕ) → first_feed (part ++ more) ≡ rest → option_map suc (first_feed (part ++ more)) ≡ Some place
    → ((p : ℕ) → first_feed (part ++ more) ≡ Some p → length part ≤ p) → suc (length part) ≤ place
feed_behind_by part more place None there at later = let e : option_map suc None ≡ Some place = ap (option_map suc) (sym there) ∙ at in cc
feed_behind_by part more place (Some p) there at later =
    let e : Some (suc p) ≡ Some place = ap (option_map suc) (sym there) ∙ at in
    let e' : suc p ≡ place = cc in
    let below : length part ≤ p = later p there in
    omega (arith, e', below)

-- Where the first line feed stands in front of such bytes, it stands behind them.
feed_behind : (part more : List ℕ) (place : ℕ) → first_feed part ≡ None → first_feed (part ++ more) ≡ Some place → length part ≤ place
feed_behind [] more place none at = omega arith
feed_behind (byte ∷ part) more place none at =
    let none' : ((byte == 10) ≡ false) × (first_feed part ≡ None) = no_feed (byte == 10) (first_feed part) none in
    feed_behind_by part more place (first_feed (part ++ more)) refl (rw none'.0 at at) (λ p there. feed_behind part more p none'.1 there)

-- ---- the word

pub word_kept : (word bytes more : List ℕ) (place : ℕ) → first_feed bytes ≡ Some place → is_word word (bytes ++ more) ≡ is_word word bytes
word_kept word bytes more place at = ap (λ line. bytes_eq (shorn line) word) (line_kept bytes more place at)

-- The word is told by each front that has the first line feed.
word_front : (word bytes more : List ℕ) (place k : ℕ) → first_feed bytes ≡ Some place → place < k → is_word word (take k bytes ++ more) ≡ is_word word bytes
word_front word bytes more place k at below =
    let there : first_feed (take k bytes) ≡ Some place = feed_front bytes place k at below in
    word_kept word (take k bytes) more place there ∙ sym (word_kept word (take k bytes) (drop k bytes) place there) ∙ ap (is_word word) (take-append-drop k bytes)

too_long_by : (word line : List ℕ) (test : Bool) → bytes_eq (shorn line) word ≡ test → length word + 1 < length line → bytes_eq (shorn line) word ≡ false
too_long_by word line true is long =
    let same : shorn line ≡ word = (bytes_eq-Decides (shorn line) word).0 is in
    let size : length line ≤ length (shorn line) + 1 = shorn_length line in
    let equal : length (shorn line) ≡ length word = ap length same in
    absurd (omega (arith, size, equal, long))
too_long_by word line false is long = is

-- A line with more bytes than the word and a carriage return is not the word, whatever follows.
pub too_long : (word bytes more : List ℕ) → first_feed bytes ≡ None → length word + 1 < length bytes → is_word word (bytes ++ more) ≡ false
too_long word bytes more none long =
    let size : length (bytes ++ first_line more) ≡ length bytes + length (first_line more) = length-append bytes (first_line more) in
    ap (λ line. bytes_eq (shorn line) word) (open_line bytes more none)
    ∙ too_long_by word (bytes ++ first_line more) (bytes_eq (shorn (bytes ++ first_line more)) word) refl (omega (arith, size, long))

-- A line that was compared with the word.
pub word_at : (word bytes line : List ℕ) (place : ℕ) (found : Bool) → Some place ≡ feed_at bytes → line ≡ take place bytes → found ≡ bytes_eq (shorn line) word
    → is_word word bytes ≡ found
word_at word bytes line place found at is compared =
    ap (λ l. bytes_eq (shorn l) word) (line_taken bytes place (sym (at ∙ feed_at_position bytes)) ∙ sym is) ∙ sym compared

-- ---- a line that begins with another byte than the word

other_line : (byte wanted : ℕ) (word line : List ℕ) → (byte == wanted) ≡ false → bytes_eq (byte ∷ line) (wanted ∷ word) ≡ false
other_line byte wanted word line other = rw other refl

other_part : (byte wanted n : ℕ) (word line : List ℕ) → (byte == wanted) ≡ false → bytes_eq (take n (byte ∷ line)) (wanted ∷ word) ≡ false
other_part byte wanted zero word line other = refl
other_part byte wanted (suc n) word line other = other_line byte wanted word (take n line) other

other_shorn : (byte wanted : ℕ) (word line : List ℕ) → (byte == wanted) ≡ false → (test : Bool)
    → (slice_index_or (byte ∷ line) (length (byte ∷ line) - 1) 0 == 13) ≡ test → bytes_eq (shorn (byte ∷ line)) (wanted ∷ word) ≡ false
unfolding shorn
other_shorn byte wanted word line other true is = rw is (other_part byte wanted (length (byte ∷ line) - 1) word line other)
other_shorn byte wanted word line other false is = rw is (other_line byte wanted word line other)

none_shorn : (wanted : ℕ) (word : List ℕ) → bytes_eq (shorn []) (wanted ∷ word) ≡ false
unfolding shorn
none_shorn wanted word = refl

other_word : (byte wanted : ℕ) (word bytes : List ℕ) → (byte == wanted) ≡ false → (test : Bool) → (byte == 10) ≡ test → is_word (wanted ∷ word) (byte ∷ bytes) ≡ false
other_word byte wanted word bytes other true is = rw is (none_shorn wanted word)
other_word byte wanted word bytes other false is =
    rw is (other_shorn byte wanted word (first_line bytes) other (slice_index_or (byte ∷ first_line bytes) (length (byte ∷ first_line bytes) - 1) 0 == 13) refl)

other_by : (byte wanted : ℕ) (test : Bool) → (byte == wanted) ≡ test → true ≡ not (byte == wanted) → (byte == wanted) ≡ false
other_by byte wanted true is other = let bad : true ≡ not true = other ∙ ap not is in cc
other_by byte wanted false is other = is

-- Such bytes are no word, whatever follows.
pub otherwise_begun : (word bytes : List ℕ) → true ≡ begins_otherwise word bytes → Says word true bytes at_front.Body
otherwise_begun [] bytes is = cc
otherwise_begun (wanted ∷ word) [] is = cc
otherwise_begun (wanted ∷ word) (byte ∷ bytes) is =
    (omega arith, λ more. other_word byte wanted word (bytes ++ more) (other_by byte wanted (byte == wanted) refl is) (byte == 10) refl)

pub word_whole : (word bytes : List ℕ) → feed_at bytes ≡ None → is_word word bytes ≡ bytes_eq (shorn bytes) word
word_whole word bytes none = ap (λ l. bytes_eq (shorn l) word) (line_whole bytes (sym (feed_at_position bytes) ∙ none))

-- ---- bodies byte by byte

pub front_open : (word : List ℕ) (fresh : Bool) (byte : ℕ) (bytes : List ℕ) → (fresh && is_word word (byte ∷ bytes)) ≡ false
    → body_of word fresh (byte ∷ bytes) ≡ led byte (body_of word (byte == 10) bytes)
unfolding body_of
front_open word fresh byte bytes misses = rw misses refl

pub front_ends : (word : List ℕ) (fresh : Bool) (byte : ℕ) (bytes : List ℕ) → (fresh && is_word word (byte ∷ bytes)) ≡ true
    → body_of word fresh (byte ∷ bytes) ≡ body [] (option_map suc (feed_at (byte ∷ bytes)))
unfolding body_of
front_ends word fresh byte bytes meets = rw meets refl

pub body_none : (word : List ℕ) (fresh : Bool) → body_of word fresh [] ≡ body [] None
unfolding body_of
body_none word fresh = refl

-- These bytes and then a body.
abbrev pub led_all : List ℕ → Body → Body
led_all part b = body (part ++ b.bytes) b.end

inside_part : (word part more : List ℕ) → first_feed part ≡ None → body_of word false (part ++ more) ≡ led_all part (body_of word false more)
inside_part word [] more none = refl
inside_part word (byte ∷ part) more none =
    let none' : ((byte == 10) ≡ false) × (first_feed part ≡ None) = no_feed (byte == 10) (first_feed part) none in
    front_open word false byte (part ++ more) refl
    ∙ ap (λ (f : Bool). led byte (body_of word f (part ++ more))) none'.0
    ∙ ap (led byte) (inside_part word part more none'.1)

line_part_by : (word : List ℕ) (byte : ℕ) (part more : List ℕ) (place : ℕ) (test : Bool) → (byte == 10) ≡ test → (rest : Option ℕ) → first_feed part ≡ rest
    → cond test (Some 0) (option_map suc rest) ≡ Some place → suc place ≡ suc (length part)
    → ((p : ℕ) → first_feed part ≡ Some p → suc p ≡ length part → body_of word false (part ++ more) ≡ led_all part (body_of word true more))
    → body_of word false (byte ∷ (part ++ more)) ≡ led_all (byte ∷ part) (body_of word true more)
line_part_by word byte [] more place true is rest there at size later =
    front_open word false byte more refl ∙ ap (λ (f : Bool). led byte (body_of word f more)) is
line_part_by word byte (next ∷ part) more zero true is rest there at size later = absurd (omega (arith, size))
line_part_by word byte (next ∷ part) more (suc place) true is rest there at size later = cc
line_part_by word byte part more place false is None there at size later = cc
line_part_by word byte part more zero false is (Some p) there at size later = cc
line_part_by word byte part more (suc place) false is (Some p) there at size later =
    let e : p ≡ place = cc in
    let size' : suc place ≡ length part = omega (arith, size) in
    front_open word false byte (part ++ more) refl
    ∙ ap (λ (f : Bool). led byte (body_of word f (part ++ more))) is
    ∙ ap (led byte) (later place (there ∙ ap Some e) size')

line_part : (word part more : List ℕ) (place : ℕ) → first_feed part ≡ Some place → suc place ≡ length part
    → body_of word false (part ++ more) ≡ led_all part (body_of word true more)
line_part word [] more place at size = cc
line_part word (byte ∷ part) more place at size =
    line_part_by word byte part more place (byte == 10) refl (first_feed part) refl at size (λ p there size'. line_part word part more p there size')

part_inside_by : (word part more : List ℕ) (rest : Option ℕ) → first_feed part ≡ rest → option_map suc (first_feed part) ≡ Some (length part)
    → body_of word false (part ++ more) ≡ led_all part (body_of word true more)
part_inside_by word part more None there ends = let e : option_map suc None ≡ Some (length part) = ap (option_map suc) (sym there) ∙ ends in cc
part_inside_by word part more (Some place) there ends =
    let e : Some (suc place) ≡ Some (length part) = ap (option_map suc) (sym there) ∙ ends in
    let size : suc place ≡ length part = cc in
    line_part word part more place there size

-- A part of a body, of one line at most, is its front.
part_inside : (word part more : List ℕ) (at : At) → EndsAt part at → body_of word false (part ++ more) ≡ led_all part (body_of word (is_fresh at) more)
part_inside word part more Line ends = part_inside_by word part more (first_feed part) refl (ap (option_map suc) (sym (feed_at_position part)) ∙ ends)
part_inside word part more Inside ends = inside_part word part more (sym (feed_at_position part) ∙ ends)
part_inside word part more (Behind line) ends = absurd ends
part_inside word part more End ends = absurd ends

pub part_given : (word part more : List ℕ) (fresh : Bool) (at : At) → 0 < length part → EndsAt part at → (fresh && is_word word (part ++ more)) ≡ false
    → body_of word fresh (part ++ more) ≡ led_all part (body_of word (is_fresh at) more)
part_given word [] more fresh at some ends misses = absurd (omega (arith, some))
part_given word (byte ∷ part) more fresh at some ends misses =
    front_open word fresh byte (part ++ more) misses ∙ sym (front_open word false byte (part ++ more) refl) ∙ part_inside word (byte ∷ part) more at ends

-- ---- the end of a body

-- What is known of a body at its first byte: a line ends it there, or the byte is one of it.
end_by : (word : List ℕ) (fresh : Bool) (byte : ℕ) (bytes : List ℕ) (test : Bool) → (fresh && is_word word (byte ∷ bytes)) ≡ test → first_feed (byte ∷ bytes) ≡ None
    → ((f : Bool) → (body_of word f bytes).end ≡ None) → (body_of word fresh (byte ∷ bytes)).end ≡ None
end_by word fresh byte bytes true is none later =
    ap (λ (b : Body). b.end) (front_ends word fresh byte bytes is) ∙ ap (option_map suc) (feed_at_position (byte ∷ bytes) ∙ none)
end_by word fresh byte bytes false is none later = ap (λ (b : Body). b.end) (front_open word fresh byte bytes is) ∙ later (byte == 10)

-- No line ends a body within bytes without a line feed.
pub no_end : (word : List ℕ) (fresh : Bool) (bytes : List ℕ) → first_feed bytes ≡ None → (body_of word fresh bytes).end ≡ None
no_end word fresh [] none = ap (λ (b : Body). b.end) (body_none word fresh)
no_end word fresh (byte ∷ bytes) none =
    let none' : ((byte == 10) ≡ false) × (first_feed bytes ≡ None) = no_feed (byte == 10) (first_feed bytes) none in
    end_by word fresh byte bytes (fresh && is_word word (byte ∷ bytes)) refl none (λ f. no_end word f bytes none'.1)

-- A body that a line of so many bytes ends.
pub record Ended (word : List ℕ) (fresh : Bool) (bytes : List ℕ) (line : ℕ) : Type 0 where
  pub size : length (body_of word fresh bytes).bytes + line ≤ length bytes
  pub first : (place : ℕ) → first_feed bytes ≡ Some place → place < length (body_of word fresh bytes).bytes + line
  pub kept : (k : ℕ) (more : List ℕ) → k ≡ length (body_of word fresh bytes).bytes + line → body_of word fresh (take k bytes ++ more) ≡ body_of word fresh bytes

feed_below : (bytes : List ℕ) (place : ℕ) → first_feed bytes ≡ Some place → place < length bytes
feed_below bytes place at = (feed_within (length bytes) bytes place (ap first_feed (take_all (length bytes) bytes (omega arith)) ∙ at)).1

feed_one : (place : ℕ) → Some (suc place) ≡ Some (place + 1)
feed_one place = let e : suc place ≡ place + 1 = omega arith in ap (λ n. Some n) e

-- The place behind a line feed.
pub behind_feed : (bytes : List ℕ) (place : ℕ) → Some place ≡ feed_at bytes → option_map suc (feed_at bytes) ≡ Some (place + 1)
behind_feed bytes place at = ap (option_map suc) (sym at) ∙ feed_one place

pub feed_inside : (bytes : List ℕ) (place : ℕ) → Some place ≡ feed_at bytes → place < length bytes
feed_inside bytes place at = feed_below bytes place (sym (at ∙ feed_at_position bytes))

-- A part up to and with the first line feed.
pub part_ended : (bytes : List ℕ) (place : ℕ) → Some place ≡ feed_at bytes → EndsAt (take (place + 1) bytes) Line
part_ended bytes place at =
    let there : first_feed bytes ≡ Some place = sym (at ∙ feed_at_position bytes) in
    let front : first_feed (take (place + 1) bytes) ≡ Some place = feed_front bytes place (place + 1) there (omega arith) in
    let below : place < length bytes = feed_below bytes place there in
    let size : length (take (place + 1) bytes) ≡ place + 1 = length-take-le (place + 1) bytes (omega (arith, below)) in
    ap (option_map suc) (feed_at_position (take (place + 1) bytes) ∙ front) ∙ feed_one place ∙ ap (λ n. Some n) (sym size)

-- All of some bytes.
pub whole_part : (bytes : List ℕ) → None ≡ feed_at bytes → feed_at (take (length bytes) bytes) ≡ None
whole_part bytes none = ap feed_at (take_all (length bytes) bytes (omega arith)) ∙ sym none

-- The end stands at the front.
front_kept : (word : List ℕ) (fresh : Bool) (byte : ℕ) (bytes more : List ℕ) (place k : ℕ) → first_feed (byte ∷ bytes) ≡ Some place → place < k
    → (fresh && is_word word (byte ∷ bytes)) ≡ true → body_of word fresh (take k (byte ∷ bytes) ++ more) ≡ body [] (Some (suc place))
front_kept word fresh byte bytes more place zero at below meets = absurd (omega (arith, below))
front_kept word fresh byte bytes more place (suc k) at below meets =
    let test : (fresh && is_word word (byte ∷ (take k bytes ++ more))) ≡ true =
    ap (λ (w : Bool). fresh && w) (word_front word (byte ∷ bytes) more place (suc k) at below) ∙ meets in
    let there : first_feed (byte ∷ (take k bytes ++ more)) ≡ Some place =
    feed_kept (take (suc k) (byte ∷ bytes)) more place (feed_front (byte ∷ bytes) place (suc k) at below) in
    front_ends word fresh byte (take k bytes ++ more) test
    ∙ ap (λ (f : Option ℕ). body [] (option_map suc f)) (feed_at_position (byte ∷ (take k bytes ++ more)) ∙ there)

ended_front : (word : List ℕ) (fresh : Bool) (byte : ℕ) (bytes : List ℕ) (line place : ℕ) → (fresh && is_word word (byte ∷ bytes)) ≡ true
    → first_feed (byte ∷ bytes) ≡ Some place → (body_of word fresh (byte ∷ bytes)).end ≡ Some line → Ended word fresh (byte ∷ bytes) line
ended_front word fresh byte bytes line place meets at end =
    let b : body_of word fresh (byte ∷ bytes) ≡ body [] (Some (suc place)) =
    front_ends word fresh byte bytes meets ∙ ap (λ (f : Option ℕ). body [] (option_map suc f)) (feed_at_position (byte ∷ bytes) ∙ at) in
    let e : Some (suc place) ≡ Some line = sym (ap (λ (x : Body). x.end) b) ∙ end in
    let size : suc place ≡ line = cc in
    let none : length (body_of word fresh (byte ∷ bytes)).bytes ≡ 0 = ap (λ (x : Body). length x.bytes) b in
    let below : place < length (byte ∷ bytes) = feed_below (byte ∷ bytes) place at in
    record {
      size = omega (arith, none, size, below);
      first = λ p there. let same : Some place ≡ Some p = sym at ∙ there in let same' : place ≡ p = cc in omega (arith, none, size, same');
      kept = λ k more is. front_kept word fresh byte bytes more place k at (omega (arith, is, none, size)) meets ∙ sym b;
    }

-- The end stands behind the first byte.
open_kept : (word : List ℕ) (fresh : Bool) (byte : ℕ) (bytes more : List ℕ) (line place k : ℕ) → (fresh && is_word word (byte ∷ bytes)) ≡ false
    → first_feed (byte ∷ bytes) ≡ Some place → place < k → k ≡ suc (length (body_of word (byte == 10) bytes).bytes + line) → Ended word (byte == 10) bytes line
    → body_of word fresh (take k (byte ∷ bytes) ++ more) ≡ led byte (body_of word (byte == 10) bytes)
open_kept word fresh byte bytes more line place zero misses at below is behind = absurd (omega (arith, below))
open_kept word fresh byte bytes more line place (suc k) misses at below is behind =
    let test : (fresh && is_word word (byte ∷ (take k bytes ++ more))) ≡ false =
    ap (λ (w : Bool). fresh && w) (word_front word (byte ∷ bytes) more place (suc k) at below) ∙ misses in
    front_open word fresh byte (take k bytes ++ more) test ∙ ap (led byte) (behind.kept k more (omega (arith, is)))

first_open : (byte : ℕ) (bytes : List ℕ) (place count : ℕ) (test : Bool) → (byte == 10) ≡ test → (rest : Option ℕ) → first_feed bytes ≡ rest
    → cond test (Some 0) (option_map suc rest) ≡ Some place → ((p : ℕ) → first_feed bytes ≡ Some p → p < count) → place < suc count
first_open byte bytes zero count true is rest there at later = omega arith
first_open byte bytes (suc place) count true is rest there at later = cc
first_open byte bytes place count false is None there at later = cc
first_open byte bytes zero count false is (Some p) there at later = cc
first_open byte bytes (suc place) count false is (Some p) there at later =
    let e : p ≡ place = cc in
    let below : p < count = later p there in
    omega (arith, e, below)

ended_open : (word : List ℕ) (fresh : Bool) (byte : ℕ) (bytes : List ℕ) (line place : ℕ) → (fresh && is_word word (byte ∷ bytes)) ≡ false
    → first_feed (byte ∷ bytes) ≡ Some place → Ended word (byte == 10) bytes line → Ended word fresh (byte ∷ bytes) line
ended_open word fresh byte bytes line place misses at behind =
    let b : body_of word fresh (byte ∷ bytes) ≡ led byte (body_of word (byte == 10) bytes) = front_open word fresh byte bytes misses in
    let size : length (body_of word fresh (byte ∷ bytes)).bytes ≡ suc (length (body_of word (byte == 10) bytes).bytes) = ap (λ (x : Body). length x.bytes) b in
    let fits : length (body_of word (byte == 10) bytes).bytes + line ≤ length bytes = behind.size in
    let count : ℕ = length (body_of word (byte == 10) bytes).bytes + line in
    let first : (p : ℕ) → first_feed (byte ∷ bytes) ≡ Some p → p < suc count =
    λ p there. first_open byte bytes p count (byte == 10) refl (first_feed bytes) refl there behind.first in
    record {
      size = omega (arith, size, fits);
      first = λ p there. let below : p < suc count = first p there in omega (arith, size, below);
      kept = λ k more is.
          let k' : k ≡ suc count = omega (arith, is, size) in
          let below : place < suc count = first place at in
          open_kept word fresh byte bytes more line place k misses at (omega (arith, k', below)) k' behind ∙ sym b;
    }

ended_by : (word : List ℕ) (fresh : Bool) (byte : ℕ) (bytes : List ℕ) (line : ℕ) (test : Bool) → (fresh && is_word word (byte ∷ bytes)) ≡ test
    → (rest : Option ℕ) → first_feed (byte ∷ bytes) ≡ rest → (body_of word fresh (byte ∷ bytes)).end ≡ Some line
    → ((body_of word (byte == 10) bytes).end ≡ Some line → Ended word (byte == 10) bytes line) → Ended word fresh (byte ∷ bytes) line
ended_by word fresh byte bytes line test is None at end later =
    let none : None ≡ Some line = sym (no_end word fresh (byte ∷ bytes) at) ∙ end in cc
ended_by word fresh byte bytes line true is (Some place) at end later = ended_front word fresh byte bytes line place is at end
ended_by word fresh byte bytes line false is (Some place) at end later =
    ended_open word fresh byte bytes line place is at (later (sym (ap (λ (x : Body). x.end) (front_open word fresh byte bytes is)) ∙ end))

pub ended : (word : List ℕ) (fresh : Bool) (bytes : List ℕ) (line : ℕ) → (body_of word fresh bytes).end ≡ Some line → Ended word fresh bytes line
ended word fresh [] line end = let none : None ≡ Some line = sym (ap (λ (x : Body). x.end) (body_none word fresh)) ∙ end in cc
ended word fresh (byte ∷ bytes) line end =
    ended_by word fresh byte bytes line (fresh && is_word word (byte ∷ bytes)) refl (first_feed (byte ∷ bytes)) refl end (λ there. ended word (byte == 10) bytes line there)

-- ---- bytes in which a body does not end

rejoined : (k : ℕ) (bytes more : List ℕ) → take k bytes ++ (drop k bytes ++ more) ≡ bytes ++ more
rejoined k bytes more = sym (append_assoc (take k bytes) (drop k bytes) more) ∙ ap (λ l. l ++ more) (take-append-drop k bytes)

-- A front of a body, and a part of a line: the end would be told by them alone.
not_ended_by : (word : List ℕ) (fresh : Bool) (front part more : List ℕ) (rest : Option ℕ) → (body_of word true (front ++ part)).end ≡ rest
    → (body_of word true ((front ++ part) ++ more)).bytes ≡ front ++ (body_of word fresh (part ++ more)).bytes
    → (body_of word true ((front ++ part) ++ more)).end ≡ (body_of word fresh (part ++ more)).end
    → (first : Option ℕ) → first_feed (part ++ more) ≡ first → first_feed part ≡ None → (body_of word true (front ++ part)).end ≡ None
not_ended_by word fresh front part more None is bytes end first there none = is
not_ended_by word fresh front part more (Some line) is bytes end None there none =
    let b = ended word true (front ++ part) line is in
    let k : ℕ = length (body_of word true (front ++ part)).bytes + line in
    let same : body_of word true ((front ++ part) ++ more) ≡ body_of word true (front ++ part) =
    sym (ap (body_of word true) (rejoined k (front ++ part) more)) ∙ b.kept k (drop k (front ++ part) ++ more) refl in
    let e : None ≡ Some line = sym (no_end word fresh (part ++ more) there) ∙ sym end ∙ ap (λ (x : Body). x.end) same ∙ is in cc
not_ended_by word fresh front part more (Some line) is bytes end (Some place) there none =
    let b = ended word true (front ++ part) line is in
    let k : ℕ = length (body_of word true (front ++ part)).bytes + line in
    let same : body_of word true ((front ++ part) ++ more) ≡ body_of word true (front ++ part) =
    sym (ap (body_of word true) (rejoined k (front ++ part) more)) ∙ b.kept k (drop k (front ++ part) ++ more) refl in
    let later = ended word fresh (part ++ more) line (sym end ∙ ap (λ (x : Body). x.end) same ∙ is) in
    let below : place < length (body_of word fresh (part ++ more)).bytes + line = later.first place there in
    let past : length part ≤ place = feed_behind part more place none there in
    let count : length (body_of word true (front ++ part)).bytes ≡ length front + length (body_of word fresh (part ++ more)).bytes =
    sym (ap (λ (x : Body). length x.bytes) same) ∙ ap length bytes ∙ length-append front (body_of word fresh (part ++ more)).bytes in
    let all : length (front ++ part) ≡ length front + length part = length-append front part in
    let fits : length (body_of word true (front ++ part)).bytes + line ≤ length (front ++ part) = b.size in
    absurd (omega (arith, below, past, count, all, fits))

pub not_ended : (word : List ℕ) (fresh : Bool) (front part more : List ℕ)
    → (body_of word true ((front ++ part) ++ more)).bytes ≡ front ++ (body_of word fresh (part ++ more)).bytes
    → (body_of word true ((front ++ part) ++ more)).end ≡ (body_of word fresh (part ++ more)).end → first_feed part ≡ None
    → (body_of word true (front ++ part)).end ≡ None
not_ended word fresh front part more bytes end none =
    not_ended_by word fresh front part more (body_of word true (front ++ part)).end refl bytes end (first_feed (part ++ more)) refl none
