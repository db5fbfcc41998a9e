-- Laws of lines behind a tag.
use Rattle.std.proofs.Common.{◌≡◌, ◌≤◌, ◌<◌, ◌+◌, ◌-◌, ◌==◌, ℕ, zero, suc, Bool, true, false, cond, List, [], ◌∷◌, ◌++◌, length, take, drop, get_or, refl, sym, ap, ◌∙◌, arith, append_assoc}
use Rattle.std.proofs.lemmas.Bool.{eq-eqb, eqb-true}
use Rattle.std.proofs.lemmas.List.{drop-append-le, drop_all, drop_more, get_or-take, length-take-le, take-take}
use Rattle.base_files.specs.Told.{IsPrefix}
use Rattle.command_runs.specs.Lines.{line_size}
use Rattle.command_runs.specs.Tagged.{line_begins, tagged, tagged_lines, untagged}

-- ---- what the definitions say

pub tagged_none : (begins : Bool) (tag : List ℕ) → tagged_lines begins tag [] ≡ []
unfolding tagged_lines
tagged_none begins tag = refl

pub tagged_byte : (begins : Bool) (tag : List ℕ) (byte : ℕ) (bytes : List ℕ) → tagged_lines begins tag (byte ∷ bytes) ≡ cond begins tag [] ++ byte ∷ tagged_lines (byte == 10) tag bytes
unfolding tagged_lines
tagged_byte begins tag byte bytes = refl

pub begins_none : (begins : Bool) → line_begins begins [] ≡ begins
unfolding line_begins
begins_none begins = refl

pub begins_byte : (begins : Bool) (byte : ℕ) (bytes : List ℕ) → line_begins begins (byte ∷ bytes) ≡ line_begins (byte == 10) bytes
unfolding line_begins
begins_byte begins byte bytes = refl

size_none : line_size [] ≡ 0
unfolding line_size
size_none = refl

size_byte : (byte : ℕ) (bytes : List ℕ) → line_size (byte ∷ bytes) ≡ cond (byte == 10) 1 (suc (line_size bytes))
unfolding line_size
size_byte byte bytes = refl

-- ---- two texts, one behind the other

pub begins_append : (begins : Bool) (xs ys : List ℕ) → line_begins begins (xs ++ ys) ≡ line_begins (line_begins begins xs) ys
unfolding line_begins
begins_append begins [] ys = refl
begins_append begins (byte ∷ xs) ys = begins_append (byte == 10) xs ys

pub tagged_append : (begins : Bool) (tag xs ys : List ℕ) → tagged_lines begins tag (xs ++ ys) ≡ tagged_lines begins tag xs ++ tagged_lines (line_begins begins xs) tag ys
unfolding tagged_lines line_begins
tagged_append begins tag [] ys = refl
tagged_append begins tag (byte ∷ xs) ys =
    ap (λ (l : List ℕ). cond begins tag [] ++ byte ∷ l) (tagged_append (byte == 10) tag xs ys)
    ∙ sym (append_assoc (cond begins tag []) (byte ∷ tagged_lines (byte == 10) tag xs) (tagged_lines (line_begins (byte == 10) xs) tag ys))

-- The tagged text of a front part is a front part of the tagged text.
pub tagged_prefix : (tag front text : List ℕ) → IsPrefix front text → IsPrefix (tagged tag front) (tagged tag text)
tagged_prefix tag front text p =
    (tagged_lines (line_begins true front) tag p.0, ap (tagged tag) p.1 ∙ tagged_append true tag front p.0)

-- ---- a tagged text without its tags

untagged_tag : (size : ℕ) (tag bytes : List ℕ) → untagged size (length tag) (tag ++ bytes) ≡ untagged size 0 bytes
unfolding untagged
untagged_tag size [] bytes = refl
untagged_tag size (byte ∷ tag) bytes = untagged_tag size tag bytes

-- Its tags are found again.
pub untagged_lines : (begins : Bool) (tag text : List ℕ) → untagged (length tag) (cond begins (length tag) 0) (tagged_lines begins tag text) ≡ text
unfolding untagged tagged_lines
untagged_lines begins tag [] = refl
untagged_lines true tag (byte ∷ text) =
    untagged_tag (length tag) tag (byte ∷ tagged_lines (byte == 10) tag text)
    ∙ ap (λ (l : List ℕ). byte ∷ l) (untagged_lines (byte == 10) tag text)
untagged_lines false tag (byte ∷ text) = ap (λ (l : List ℕ). byte ∷ l) (untagged_lines (byte == 10) tag text)

-- ---- one line

within_line_by : (tag : List ℕ) (byte : ℕ) (bytes : List ℕ) (n : ℕ) (test : Bool) → (byte == 10) ≡ test → suc n ≤ cond test 1 (suc (line_size bytes))
    → (n ≤ line_size bytes → tagged_lines false tag (take n bytes) ≡ take n bytes)
    → tagged_lines test tag (take n bytes) ≡ take n bytes
within_line_by tag byte bytes zero test is fits later = tagged_none test tag
within_line_by tag byte bytes (suc n) true is fits later = absurd (omega (arith, fits))
within_line_by tag byte bytes (suc n) false is fits later = later (omega (arith, fits))

-- No further tag stands in a part of one line.
within_line : (tag bytes : List ℕ) (n : ℕ) → n ≤ line_size bytes → tagged_lines false tag (take n bytes) ≡ take n bytes
within_line tag bytes zero fits = tagged_none false tag
within_line tag [] (suc n) fits = tagged_none false tag
within_line tag (byte ∷ bytes) (suc n) fits =
    tagged_byte false tag byte (take n bytes)
    ∙ ap (λ (l : List ℕ). byte ∷ l)
    (within_line_by tag byte bytes n (byte == 10) refl (rw (sym (size_byte byte bytes)) fits) (λ less. within_line tag bytes n less))

-- A part of one line stands behind one tag, or behind none.
pub line_tagged : (begins : Bool) (tag bytes : List ℕ) (n : ℕ) → 0 < n → n ≤ line_size bytes → n ≤ length bytes
    → tagged_lines begins tag (take n bytes) ≡ cond begins tag [] ++ take n bytes
line_tagged begins tag bytes zero some fits within = absurd (omega (arith, some))
line_tagged begins tag [] (suc n) some fits within = absurd (omega (arith, within))
line_tagged begins tag (byte ∷ bytes) (suc n) some fits within =
    tagged_byte begins tag byte (take n bytes)
    ∙ ap (λ (l : List ℕ). cond begins tag [] ++ l) (sym (tagged_byte false tag byte (take n bytes)) ∙ within_line tag (byte ∷ bytes) (suc n) fits)

-- ---- the size of a line, byte by byte

no_feed_by : (byte : ℕ) (test : Bool) → (byte == 10) ≡ test → (byte ≡ 10 → ⊥) → test ≡ false
no_feed_by byte true is other = absurd (other (eqb-true byte 10 is))
no_feed_by byte false is other = refl

pub size_more : (bytes : List ℕ) (i d : ℕ) → i < length bytes → (get_or bytes i d ≡ 10 → ⊥) → line_size (drop i bytes) ≡ suc (line_size (drop (i + 1) bytes))
size_more bytes i d inside other =
    ap line_size (drop_more bytes i d inside)
    ∙ size_byte (get_or bytes i d) (drop (i + 1) bytes)
    ∙ ap (λ (b : Bool). cond b 1 (suc (line_size (drop (i + 1) bytes)))) (no_feed_by (get_or bytes i d) (get_or bytes i d == 10) refl other)

pub size_end : (bytes : List ℕ) (i d : ℕ) → i < length bytes → get_or bytes i d ≡ 10 → line_size (drop i bytes) ≡ 1
size_end bytes i d inside feed =
    ap line_size (drop_more bytes i d inside)
    ∙ size_byte (get_or bytes i d) (drop (i + 1) bytes)
    ∙ ap (λ (b : Bool). cond b 1 (suc (line_size (drop (i + 1) bytes)))) (eq-eqb (get_or bytes i d) 10 feed)

pub size_all : (bytes : List ℕ) (i : ℕ) → length bytes ≤ i → line_size (drop i bytes) ≡ 0
size_all bytes i past = ap line_size (drop_all i bytes past) ∙ size_none

-- Whether a line begins is told by the last byte.
begins_at : (begins : Bool) (bytes : List ℕ) (n d : ℕ) → n < length bytes → line_begins begins (take (suc n) bytes) ≡ (get_or bytes n d == 10)
begins_at begins [] n d within = absurd (omega (arith, within))
begins_at begins (byte ∷ bytes) zero d within = begins_byte begins byte [] ∙ begins_none (byte == 10)
begins_at begins (byte ∷ bytes) (suc n) d within = begins_byte begins byte (take (suc n) bytes) ∙ begins_at (byte == 10) bytes n d (omega (arith, within))

pub begins_last : (begins : Bool) (bytes front : List ℕ) (n d : ℕ) → 0 < n → n ≤ length bytes → front ≡ take n bytes → (get_or front (n - 1) d == 10) ≡ line_begins begins (take n bytes)
begins_last begins bytes front n d some within is =
    let last : suc (n - 1) ≡ n = omega (arith, some) in
    ap (λ (b : ℕ). b == 10) (ap (λ (l : List ℕ). get_or l (n - 1) d) is ∙ get_or-take n bytes (n - 1) d (omega (arith, some)))
    ∙ sym (begins_at begins bytes (n - 1) d (omega (arith, some, within)))
    ∙ ap (λ (k : ℕ). line_begins begins (take k bytes)) last

-- ---- a page

-- The front of a part is the front of the whole.
pub part_front : (part piece : List ℕ) (n m : ℕ) → part ≡ take m piece → n ≤ length part → m ≤ length piece → take n part ≡ take n piece
part_front part piece n m is within there =
    let size : length part ≡ m = ap length is ∙ length-take-le m piece there in
    ap (take n) is ∙ take-take n m piece (omega (arith, within, size))

pub put_is : (old lead front items part piece tag : List ℕ) (written n m : ℕ) (begins : Bool) → items ≡ old ++ lead ++ front → lead ≡ cond begins tag [] → part ≡ take m piece → front ≡ take n part
    → written ≤ length old → 0 < n → n ≤ line_size part → n ≤ length part → m ≤ length piece → drop written items ≡ drop written old ++ tagged_lines begins tag (take n piece)
put_is old lead front items part piece tag written n m begins both led is front_is inside some fits within there =
    ap (drop written) (both ∙ append_assoc old lead front)
    ∙ drop-append-le written old (lead ++ front) inside
    ∙ ap (λ (l : List ℕ). drop written old ++ l)
    (ap (λ (l : List ℕ). l ++ front) led
    ∙ ap (λ (l : List ℕ). cond begins tag [] ++ l) front_is
    ∙ sym (line_tagged begins tag part n some fits within)
    ∙ ap (tagged_lines begins tag) (part_front part piece n m is within there))
