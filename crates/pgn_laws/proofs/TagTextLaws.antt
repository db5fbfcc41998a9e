-- A tag that is written is one token, and is read as the same name and the same value.
use Rattle.std.proofs.Common.{◌≡◌, ◌≢◌, ◌≤◌, ◌==◌, ◌||◌, ◌&&◌, nat_le, ℕ, Bool, true, false, not, cond, List, [], ◌∷◌, ◌++◌, drop, refl, ap, ◌∙◌, arith, append_assoc, flat_map, take}
use Rattle.std.specs.List.{list_all, AllByRecursion}
use Rattle.std.proofs.lemmas.Bool.{ne_eqb, leb-true, and_parts, and_right, or_parts}
use Rattle.std.proofs.lemmas.List.Elements.{recursion_from_All}
use Rattle.game_tree.specs.Head.{IsName}
use Rattle.game_tree.specs.TagName.{is_tag_byte, IsTagByte, IsTagName}
use Rattle.pgn_write.specs.TagPairs.{escaped_byte}
use Rattle.pgn_read.specs.Bytes.{is_white, has_zero, front, behind}
use Rattle.pgn_read.specs.Token.{lexed_as}
use Rattle.pgn_read.specs.Token as token
use Rattle.pgn_read.specs.TagText.{unescaped_from, closing, quoting, naming, value_len}
use Rattle.pgn_read.specs.Lexing.{lexed}
use Rattle.pgn_laws.proofs.RunLaws.{front_run, behind_run}

-- ---- values

-- The bytes of a value as they stand, and those from its closing quotation mark on.
abbrev pub raw_value : Bool → List ℕ → List ℕ
raw_value escaped text = take (value_len escaped text) text

abbrev pub behind_value : Bool → List ℕ → List ℕ
behind_value escaped text = drop (value_len escaped text) text

raw_byte : (c : Bool) (b : ℕ) (e text : List ℕ) → ((b == 34) || (b == 92)) ≡ c → raw_value false text ≡ e
    → raw_value false (cond c (92 ∷ b ∷ []) (b ∷ []) ++ text) ≡ cond c (92 ∷ b ∷ []) (b ∷ []) ++ e
raw_byte true b e text is rest = ap (λ l. 92 ∷ b ∷ l) rest
raw_byte false b e text is rest =
    let n = or_parts (b == 34) (b == 92) is in
    rw n.0 rw n.1 (ap (λ l. b ∷ l) rest)

raw_escaped : (value rest : List ℕ) → raw_value false (flat_map escaped_byte value ++ 34 ∷ rest) ≡ flat_map escaped_byte value
raw_escaped [] rest = refl
raw_escaped (b ∷ value) rest =
    ap (raw_value false) (append_assoc (escaped_byte b) (flat_map escaped_byte value) (34 ∷ rest))
    ∙ raw_byte ((b == 34) || (b == 92)) b (flat_map escaped_byte value) (flat_map escaped_byte value ++ 34 ∷ rest) refl (raw_escaped value rest)

behind_byte : (c : Bool) (b : ℕ) (e text : List ℕ) → ((b == 34) || (b == 92)) ≡ c → behind_value false text ≡ e
    → behind_value false (cond c (92 ∷ b ∷ []) (b ∷ []) ++ text) ≡ e
behind_byte true b e text is rest = rest
behind_byte false b e text is rest =
    let n = or_parts (b == 34) (b == 92) is in
    rw n.0 rw n.1 rest

behind_escaped : (value rest : List ℕ) → behind_value false (flat_map escaped_byte value ++ 34 ∷ rest) ≡ 34 ∷ rest
behind_escaped [] rest = refl
behind_escaped (b ∷ value) rest =
    ap (behind_value false) (append_assoc (escaped_byte b) (flat_map escaped_byte value) (34 ∷ rest))
    ∙ behind_byte ((b == 34) || (b == 92)) b (34 ∷ rest) (flat_map escaped_byte value ++ 34 ∷ rest) refl (behind_escaped value rest)

meant_byte : (c : Bool) (b : ℕ) (v text : List ℕ) → ((b == 34) || (b == 92)) ≡ c → unescaped_from false text ≡ v
    → unescaped_from false (cond c (92 ∷ b ∷ []) (b ∷ []) ++ text) ≡ b ∷ v
meant_byte true b v text is rest = rw is (ap (λ l. b ∷ l) rest)
meant_byte false b v text is rest =
    let n = or_parts (b == 34) (b == 92) is in
    rw n.1 (ap (λ l. b ∷ l) rest)

unescaped_escaped : (value : List ℕ) → unescaped_from false (flat_map escaped_byte value) ≡ value
unescaped_escaped [] = refl
unescaped_escaped (b ∷ value) = meant_byte ((b == 34) || (b == 92)) b value (flat_map escaped_byte value) refl (unescaped_escaped value)

zero_byte : (c : Bool) (b : ℕ) (text : List ℕ) → b ≢ 0 → has_zero text ≡ false → has_zero (cond c (92 ∷ b ∷ []) (b ∷ []) ++ text) ≡ false
zero_byte true b text some rest = rw (ne_eqb b 0 some) rest
zero_byte false b text some rest = rw (ne_eqb b 0 some) rest

zero_escaped : (value : List ℕ) → AllByRecursion (λ byte. byte ≢ 0) value → has_zero (flat_map escaped_byte value) ≡ false
zero_escaped [] free = refl
zero_escaped (b ∷ value) free = zero_byte ((b == 34) || (b == 92)) b (flat_map escaped_byte value) free.0 (zero_escaped value free.1)

-- ---- names

name_bytes : (name : List ℕ) → AllByRecursion IsTagByte name → list_all is_tag_byte name ≡ true
name_bytes [] each = refl
name_bytes (b ∷ name) each =
    let first : is_tag_byte b ≡ true = each.0 in
    rw first (name_bytes name each.1)

above_white : (b : ℕ) → 33 ≤ b → is_white b ≡ false
above_white b far =
    let high : nat_le b 13 ≡ false = search (arith, far) in
    rw (ne_eqb b 32 (λ e. omega (arith, e, far))) rw high (and_right (nat_le 9 b) false refl)

first_and : (a b c d : Bool) → (a && b && c && d) ≡ true → a ≡ true
first_and true b c d is = refl
first_and false b c d is = is

pub name_no_white : (b : ℕ) → is_tag_byte b ≡ true → is_white b ≡ false
name_no_white b tag = above_white b (leb-true 33 b (first_and (nat_le 33 b) (nat_le b 126) (not (b == 34)) (not (b == 93)) tag))

-- ---- the whole tag

pub closed_so : (name raw rest : List ℕ) → has_zero raw ≡ false → closing name raw (93 ∷ rest) ≡ lexed_as (token.tag name (unescaped_from false raw)) rest
closed_so name raw rest free = rw free refl

quoted : (name value rest : List ℕ) → AllByRecursion (λ byte. byte ≢ 0) value
    → quoting name (34 ∷ (flat_map escaped_byte value ++ (34 ∷ 93 ∷ rest))) ≡ lexed_as (token.tag name value) rest
quoted name value rest free =
    (λ i. closing name (raw_escaped value (93 ∷ rest) i) (behind is_white (drop 1 (behind_escaped value (93 ∷ rest) i))))
    ∙ closed_so name (flat_map escaped_byte value) rest (zero_escaped value free)
    ∙ ap (λ v. lexed_as (token.tag name v) rest) (unescaped_escaped value)

pub tag_lexed : (name value rest : List ℕ) → IsTagName name → IsName value
    → lexed (91 ∷ (name ++ (32 ∷ 34 ∷ (flat_map escaped_byte value ++ (34 ∷ 93 ∷ rest))))) ≡ lexed_as (token.tag name value) rest
unfolding lexed
tag_lexed [] value rest is named_so = absurd (omega (arith, is.some))
tag_lexed (b ∷ name) value rest is value_is =
    let bytes : list_all is_tag_byte (b ∷ name) ≡ true = name_bytes (b ∷ name) (recursion_from_All IsTagByte (b ∷ name) is.bytes) in
    let tail : List ℕ = 32 ∷ 34 ∷ (flat_map escaped_byte value ++ (34 ∷ 93 ∷ rest)) in
    let begins : behind is_white ((b ∷ name) ++ tail) ≡ (b ∷ name) ++ tail =
    rw (name_no_white b (and_parts (is_tag_byte b) (list_all is_tag_byte name) bytes).0) refl in
    ap (λ x. naming (front is_tag_byte x) (behind is_tag_byte x)) begins
    ∙ (λ i. naming (front_run is_tag_byte (b ∷ name) tail bytes refl i) (behind_run is_tag_byte (b ∷ name) tail bytes refl i))
    ∙ quoted (b ∷ name) value rest (recursion_from_All (λ byte. byte ≢ 0) value value_is.zero_free)
