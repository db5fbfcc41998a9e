-- Laws of scripts: a line is read by its beginning alone, and what bytes say in front of others.
use Rattle.std.proofs.Common.{if◌then◌else◌, ◌⊎◌, inl, inr, Ok, Err, ◌≡◌, ◌≤◌, ◌<◌, ◌+◌, ◌-◌, ◌==◌, ℕ, zero, suc, Bool, true, false, cond, nat_lt, List, [], ◌∷◌, ◌++◌, length, take, drop, Option, Some, None, option_map, slice_index_or, refl, sym, ap, ◌∙◌, arith, append_assoc, append-nil, min}
use Rattle.std.specs.List.{position_or_len}
use Rattle.std.proofs.lemmas.List.{drop-take, take_all, length-take, length-take-le}
use Prim.Native.Nat.compare
use Rattle.script_text.specs.declared.command.Command.TheVariants.{Nothing}
use Rattle.script_text.specs.declared.fault.ScriptFault.TheVariants.{TooLong}
use Rattle.script_text.specs.Reading.{reading, shorn, is_remark}
use Rattle.script_lines.specs.Bytewise.{script_from, with_byte}
use Rattle.script_text.specs.Tasks.{Order}
use Rattle.script_lines.specs.Clients.{Clients, Tagged, desk_line, line_of, named, said, tagged_task, unclaimed}
use Rattle.script_lines.specs.Script.{Script, script}
use Rattle.script_lines.specs.Bodies.{feed_at}
use Rattle.script_lines.specs.Reading.{grown, led_on, most_kept}

-- ---- lines that are too long

shorn_long : (test : Bool) (line : List ℕ) → length line ≤ length (cond test (take (length line - 1) line) line) + 1
shorn_long true line = let h : length (take (length line - 1) line) ≡ length line - 1 = length-take-le (length line - 1) line (omega arith) in omega (arith, h)
shorn_long false line = omega arith

pub shorn_length : (line : List ℕ) → length line ≤ length (shorn line) + 1
unfolding shorn
shorn_length line = shorn_long (slice_index_or line (length line - 1) 0 == 13) line

lt_true : (a b : ℕ) → a < b → nat_lt a b ≡ true
lt_true a b below = search (arith, below)

-- A line of more than 65,537 bytes is a remark or too long.
read_long : (line : List ℕ) → 65537 < length line → reading line ≡ cond (is_remark line) (Ok Nothing) (Err TooLong)
unfolding reading
read_long line long =
    let h : length line ≤ length (shorn line) + 1 = shorn_length line in
    rw (lt_true 65536 (length (shorn line)) (omega (arith, h, long))) refl

remark_kept : (most : ℕ) (line : List ℕ) → 0 < most → is_remark (take most line) ≡ is_remark line
remark_kept zero line some = absurd (omega (arith, some))
remark_kept (suc most) [] some = refl
remark_kept (suc most) (byte ∷ line) some = refl

kept_either : (most : ℕ) (line : List ℕ) → (length line ≤ most) ⊎ (most < length line)
kept_either most line = search arith

-- What is kept of a command says what the whole does.
reading_kept : (most : ℕ) (line : List ℕ) → 65538 ≤ most → reading (take most line) ≡ reading line
reading_kept most line enough = elim (kept_either most line) [
  | inl short ↦ ap reading (take_all most line short)
  | inr long ↦
      let n : length (take most line) ≡ most = length-take-le most line (omega (arith, long)) in
      read_long (take most line) (omega (arith, n, enough)) ∙ ap (λ test. cond test (Ok Nothing) (Err TooLong)) (remark_kept most line (omega (arith, enough)))
      ∙ sym (read_long line (omega (arith, long, enough)))
]

-- ---- what is kept of a line

named_kept : (line : List ℕ) → named (take most_kept line) ≡ named line
unfolding named
named_kept [] = refl
named_kept (sign ∷ []) = refl
named_kept (sign ∷ digit ∷ []) = refl
named_kept (sign ∷ digit ∷ blank ∷ line) = refl

desk_kept : (client : Option ℕ) (line : List ℕ) → desk_line client (take most_kept line) ≡ desk_line client line
desk_kept None line = ap (λ (o : Order). said None (unclaimed o)) (reading_kept most_kept line (omega arith))
desk_kept (Some client) line =
    ap (λ (l : List ℕ). said (Some client) (reading l)) (drop-take 3 65538 line) ∙ ap (λ (o : Order). said (Some client) o) (reading_kept 65538 (drop 3 line) (omega arith))

-- What is kept of a line says what the line says.
pub line_kept : (tagged : Bool) (line : List ℕ) → line_of tagged (take most_kept line) ≡ line_of tagged line
unfolding line_of
line_kept true line = ap (λ (c : Option ℕ). desk_line c (take most_kept line)) (named_kept line) ∙ desk_kept (named line) line
line_kept false line = ap (λ (o : Order). said (Some 0) o) (reading_kept most_kept line (omega arith))

-- ---- bytes in front of others

-- The place of the first line feed, byte by byte.
abbrev pub first_feed : List ℕ → Option ℕ
first_feed [] = None
first_feed (byte ∷ bytes) = if byte == 10 then Some 0 else option_map suc (first_feed bytes)

-- A byte that is no line feed goes behind the line so far.
byte_read : (last : Tagged → List Tagged) (clients : Clients) (line : List ℕ) (byte : ℕ) (bytes : List ℕ) → (byte == 10) ≡ false
    → script_from last clients 0 line (byte ∷ bytes) ≡ with_byte (script_from last clients 0 (line ++ byte ∷ []) bytes)
unfolding script_from
byte_read last clients line byte bytes other = rw other refl

-- A line feed ends the line.
pub feed_read : (last : Tagged → List Tagged) (clients : Clients) (line : List ℕ) (byte : ℕ) (bytes : List ℕ) → (byte == 10) ≡ true
    → script_from last clients 0 line (byte ∷ bytes) ≡ with_byte (led_on last clients (line_of clients.tagged line) bytes)
unfolding script_from
feed_read last clients line byte bytes feed = rw feed refl

pub no_feed : (test : Bool) (rest : Option ℕ) → cond test (Some 0) (option_map suc rest) ≡ None → (test ≡ false) × (rest ≡ None)
no_feed true rest none = cc
no_feed false None none = (refl, refl)
no_feed false (Some place) none = cc

pub grown_none : (s : Script) → grown 0 s ≡ s
grown_none s = ap (script s.tasks) (omega arith)

pub grown_byte : (n : ℕ) (s : Script) → with_byte (grown n s) ≡ grown (suc n) s
grown_byte n s = ap (script s.tasks) (omega arith)

-- Bytes without a line feed go behind the line so far.
pub part_read : (last : Tagged → List Tagged) (clients : Clients) (line part more : List ℕ) → first_feed part ≡ None
    → script_from last clients 0 line (part ++ more) ≡ grown (length part) (script_from last clients 0 (line ++ part) more)
part_read last clients line [] more none =
    sym (grown_none (script_from last clients 0 line more)) ∙ ap (λ l. grown 0 (script_from last clients 0 l more)) (sym (append-nil line))
part_read last clients line (byte ∷ part) more none =
    let none' : ((byte == 10) ≡ false) × (first_feed part ≡ None) = no_feed (byte == 10) (first_feed part) none in
    byte_read last clients line byte (part ++ more) none'.0
    ∙ ap with_byte (part_read last clients (line ++ byte ∷ []) part more none'.1)
    ∙ grown_byte (length part) (script_from last clients 0 ((line ++ byte ∷ []) ++ part) more)
    ∙ ap (λ l. grown (suc (length part)) (script_from last clients 0 l more)) (append_assoc line (byte ∷ []) part)

-- The first line feed ends the line.
grown_line : (byte : ℕ) (s : Script) → with_byte s ≡ grown 1 s
grown_line byte s = ap (script s.tasks) (omega arith)

line_read_behind : (last : Tagged → List Tagged) (clients : Clients) (line : List ℕ) (byte : ℕ) (bytes more : List ℕ) (place : ℕ) (rest : Option ℕ) → (byte == 10) ≡ false
    → ((p : ℕ) → first_feed bytes ≡ Some p → script_from last clients 0 (line ++ byte ∷ []) (take (suc p) bytes ++ more) ≡ grown (suc p) (led_on last clients (line_of clients.tagged ((line ++ byte ∷ []) ++ take p bytes)) more))
    → first_feed bytes ≡ rest → option_map suc rest ≡ Some place
    → script_from last clients 0 line (take (suc place) (byte ∷ bytes) ++ more) ≡ grown (suc place) (led_on last clients (line_of clients.tagged (line ++ take place (byte ∷ bytes))) more)
line_read_behind last clients line byte bytes more place None other rest there at = cc
line_read_behind last clients line byte bytes more zero (Some p) other rest there at = cc
line_read_behind last clients line byte bytes more (suc place) (Some p) other rest there at =
    let e : p ≡ place = cc in
    let there' : first_feed bytes ≡ Some place = there ∙ ap Some e in
    byte_read last clients line byte (take (suc place) bytes ++ more) other
    ∙ ap with_byte (rest place there')
    ∙ grown_byte (suc place) (led_on last clients (line_of clients.tagged ((line ++ byte ∷ []) ++ take place bytes)) more)
    ∙ ap (λ l. grown (suc (suc place)) (led_on last clients (line_of clients.tagged l) more)) (append_assoc line (byte ∷ []) (take place bytes))

line_read_by : (last : Tagged → List Tagged) (clients : Clients) (line : List ℕ) (byte : ℕ) (bytes more : List ℕ) (place : ℕ) (test : Bool) → (byte == 10) ≡ test
    → ((p : ℕ) → first_feed bytes ≡ Some p → script_from last clients 0 (line ++ byte ∷ []) (take (suc p) bytes ++ more) ≡ grown (suc p) (led_on last clients (line_of clients.tagged ((line ++ byte ∷ []) ++ take p bytes)) more))
    → cond test (Some 0) (option_map suc (first_feed bytes)) ≡ Some place
    → script_from last clients 0 line (take (suc place) (byte ∷ bytes) ++ more) ≡ grown (suc place) (led_on last clients (line_of clients.tagged (line ++ take place (byte ∷ bytes))) more)
line_read_by last clients line byte bytes more zero true is rest at =
    feed_read last clients line byte more is
    ∙ grown_line byte (led_on last clients (line_of clients.tagged line) more)
    ∙ ap (λ l. grown 1 (led_on last clients (line_of clients.tagged l) more)) (sym (append-nil line))
line_read_by last clients line byte bytes more (suc place) true is rest at = cc
line_read_by last clients line byte bytes more place false is rest at = line_read_behind last clients line byte bytes more place (first_feed bytes) is rest refl at

pub line_read : (last : Tagged → List Tagged) (clients : Clients) (line bytes more : List ℕ) (place : ℕ) → first_feed bytes ≡ Some place
    → script_from last clients 0 line (take (suc place) bytes ++ more) ≡ grown (suc place) (led_on last clients (line_of clients.tagged (line ++ take place bytes)) more)
line_read last clients line [] more place at = cc
line_read last clients line (byte ∷ bytes) more place at =
    line_read_by last clients line byte bytes more place (byte == 10) refl (λ p there. line_read last clients (line ++ byte ∷ []) bytes more p there) at

-- ---- what is kept of a line

take_twice : (n : ℕ) (a b : List ℕ) → take n (take n a ++ b) ≡ take n (a ++ b)
take_twice zero a b = refl
take_twice (suc n) [] b = refl
take_twice (suc n) (x ∷ a) b = ap (λ l. x ∷ l) (take_twice n a b)

-- What is kept of a line says what the whole line does, whatever follows.
pub script_kept : (last : Tagged → List Tagged) (clients : Clients) (line bytes : List ℕ) → script_from last clients 0 (take most_kept line) bytes ≡ script_from last clients 0 line bytes
unfolding script_from
script_kept last clients line [] = ap (λ l. script (last (tagged_task l [])) 0) (line_kept clients.tagged line)
script_kept last clients line (byte ∷ bytes) =
    let longer : script_from last clients 0 (take most_kept line ++ byte ∷ []) bytes ≡ script_from last clients 0 (line ++ byte ∷ []) bytes =
    sym (script_kept last clients (take most_kept line ++ byte ∷ []) bytes)
    ∙ ap (λ l. script_from last clients 0 l bytes) (take_twice most_kept line (byte ∷ []))
    ∙ script_kept last clients (line ++ byte ∷ []) bytes in
    rw (line_kept clients.tagged line, longer) refl

-- ---- the first line feed of a part

feed_within_by : (n byte : ℕ) (bytes : List ℕ) (place : ℕ) (test : Bool) → (byte == 10) ≡ test → (rest : Option ℕ) → first_feed (take n bytes) ≡ rest
    → ((p : ℕ) → first_feed (take n bytes) ≡ Some p → (first_feed bytes ≡ Some p) × (p < length bytes))
    → cond test (Some 0) (option_map suc rest) ≡ Some place → (first_feed (byte ∷ bytes) ≡ Some place) × (place < length (byte ∷ bytes))
feed_within_by n byte bytes zero true is rest there later at = (rw is refl, omega arith)
feed_within_by n byte bytes (suc place) true is rest there later at = cc
feed_within_by n byte bytes place false is None there later at = cc
feed_within_by n byte bytes zero false is (Some p) there later at = cc
feed_within_by n byte bytes (suc place) false is (Some p) there later at =
    let e : p ≡ place = cc in
    let h : (first_feed bytes ≡ Some place) × (place < length bytes) = later place (there ∙ ap Some e) in
    (rw (is, h.0) refl, omega (arith, h.1))

pub feed_within : (n : ℕ) (bytes : List ℕ) (place : ℕ) → first_feed (take n bytes) ≡ Some place → (first_feed bytes ≡ Some place) × (place < length bytes)
feed_within zero bytes place at = cc
feed_within (suc n) [] place at = cc
feed_within (suc n) (byte ∷ bytes) place at = feed_within_by n byte bytes place (byte == 10) refl (first_feed (take n bytes)) refl (λ p there. feed_within n bytes p there) at

-- ---- the place of a line feed

abbrev is_feed : ℕ → Bool
is_feed byte = byte == 10

place_behind_by : (n : ℕ) (test : Bool) → cond test (Some (suc n)) None ≡ option_map suc (cond test (Some n) None)
place_behind_by n true = refl
place_behind_by n false = refl

place_behind : (n count : ℕ) → cond (nat_lt (suc n) (suc count)) (Some (suc n)) None ≡ option_map suc (cond (nat_lt n count) (Some n) None)
place_behind n count = rw (compare.suc-suc (suc n) count) (place_behind_by n (nat_lt n count))

feed_at_by : (byte : ℕ) (bytes : List ℕ) (test : Bool) → (byte == 10) ≡ test → cond (nat_lt (position_or_len is_feed bytes) (length bytes)) (Some (position_or_len is_feed bytes)) None ≡ first_feed bytes
    → cond (nat_lt (position_or_len is_feed (byte ∷ bytes)) (length (byte ∷ bytes))) (Some (position_or_len is_feed (byte ∷ bytes))) None ≡ first_feed (byte ∷ bytes)
feed_at_by byte bytes true is rest =
    let here : position_or_len is_feed (byte ∷ bytes) ≡ 0 = rw is refl in
    let there : first_feed (byte ∷ bytes) ≡ Some 0 = rw is refl in
    ap (λ k. cond (nat_lt k (suc (length bytes))) (Some k) None) here
    ∙ ap (λ test. cond test (Some 0) None) (lt_true 0 (suc (length bytes)) (omega arith)) ∙ sym there
feed_at_by byte bytes false is rest =
    let here : position_or_len is_feed (byte ∷ bytes) ≡ suc (position_or_len is_feed bytes) = rw is (omega arith) in
    let there : first_feed (byte ∷ bytes) ≡ option_map suc (first_feed bytes) = rw is refl in
    ap (λ k. cond (nat_lt k (suc (length bytes))) (Some k) None) here
    ∙ place_behind (position_or_len is_feed bytes) (length bytes) ∙ ap (option_map suc) rest ∙ sym there

pub feed_at_position : (bytes : List ℕ) → feed_at bytes ≡ first_feed bytes
feed_at_position [] = refl
feed_at_position (byte ∷ bytes) = feed_at_by byte bytes (byte == 10) refl (feed_at_position bytes)

-- The place of a line feed within so many bytes.
pub feed_room : (n : ℕ) (bytes : List ℕ) (place : ℕ) → feed_at (take n bytes) ≡ Some place → (first_feed bytes ≡ Some place) × (place < length bytes) × (place < n)
feed_room n bytes place at =
    let first : first_feed (take n bytes) ≡ Some place = sym (feed_at_position (take n bytes)) ∙ at in
    let all : first_feed (take (length (take n bytes)) (take n bytes)) ≡ Some place = ap first_feed (take_all (length (take n bytes)) (take n bytes) (omega arith)) ∙ first in
    let short : place < length (take n bytes) = (feed_within (length (take n bytes)) (take n bytes) place all).1 in
    let size : length (take n bytes) ≡ min n (length bytes) = length-take n bytes in
    let there : (first_feed bytes ≡ Some place) × (place < length bytes) = feed_within n bytes place first in
    (there.0, there.1, omega (arith, short, size))
