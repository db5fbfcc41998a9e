-- A tag that is spelled with white space and escapes as they may stand is read as its name and its value.
use Rattle.std.proofs.Common.{◌≡◌, ◌==◌, ℕ, Bool, true, false, not, List, [], ◌∷◌, ◌++◌, drop, refl, sym, ap, ◌∙◌, arith}
use Rattle.std.specs.List.{list_all}
use Rattle.std.proofs.lemmas.Bool.{and_parts, or_parts, true≢false}
use Rattle.game_tree.specs.TagName.{is_tag_byte}
use Rattle.pgn_read.specs.Bytes.{is_white, has_zero, front, behind}
use Rattle.pgn_read.specs.Token.{lexed_as}
use Rattle.pgn_read.specs.Token as token
use Rattle.pgn_read.specs.TagText.{unescaped_from, closing, quoting, naming}
use Rattle.pgn_laws.specs.TagSpelling.{Spelling, done, byte, escape, alone, spelled, said_by, is_escaped, IsSpelling, TagParts, AreParts, tag_before}
use Rattle.pgn_read.specs.Lexing.{lexed}
use Rattle.pgn_laws.proofs.RunLaws.{ends_run, front_run, behind_run}
use Rattle.pgn_laws.proofs.TagTextLaws.{name_no_white, closed_so, raw_value, behind_value}

-- ---- values

raw_plain : (b : ℕ) (e t : List ℕ) → is_escaped b ≡ false → raw_value false t ≡ e → raw_value false (b ∷ t) ≡ b ∷ e
raw_plain b e t is rest =
    let n = or_parts (b == 34) (b == 92) is in
    rw n.0 rw n.1 (ap (λ l. b ∷ l) rest)

pub raw_spelled : (s : Spelling) (rest : List ℕ) → IsSpelling s → raw_value false (spelled s ++ 34 ∷ rest) ≡ spelled s
raw_spelled done rest is = refl
raw_spelled (byte b s) rest is = raw_plain b (spelled s) (spelled s ++ 34 ∷ rest) is.0 (raw_spelled s rest is.1)
raw_spelled (escape b s) rest is = ap (λ l. 92 ∷ b ∷ l) (raw_spelled s rest is.1)
raw_spelled (alone b s) rest is = ap (λ l. 92 ∷ b ∷ l) (raw_spelled s rest is.1)

behind_plain : (b : ℕ) (e t : List ℕ) → is_escaped b ≡ false → behind_value false t ≡ e → behind_value false (b ∷ t) ≡ e
behind_plain b e t is rest =
    let n = or_parts (b == 34) (b == 92) is in
    rw n.0 rw n.1 rest

behind_spelled : (s : Spelling) (rest : List ℕ) → IsSpelling s → behind_value false (spelled s ++ 34 ∷ rest) ≡ 34 ∷ rest
behind_spelled done rest is = refl
behind_spelled (byte b s) rest is = behind_plain b (34 ∷ rest) (spelled s ++ 34 ∷ rest) is.0 (behind_spelled s rest is.1)
behind_spelled (escape b s) rest is = behind_spelled s rest is.1
behind_spelled (alone b s) rest is = behind_spelled s rest is.1

meant_plain : (b : ℕ) (v t : List ℕ) → is_escaped b ≡ false → unescaped_from false t ≡ v → unescaped_from false (b ∷ t) ≡ b ∷ v
meant_plain b v t is rest =
    let n = or_parts (b == 34) (b == 92) is in
    rw n.1 (ap (λ l. b ∷ l) rest)

meant_escape : (b : ℕ) (v t : List ℕ) → is_escaped b ≡ true → unescaped_from false t ≡ v → unescaped_from false (92 ∷ b ∷ t) ≡ b ∷ v
meant_escape b v t is rest = rw is (ap (λ l. b ∷ l) rest)

meant_alone : (b : ℕ) (v t : List ℕ) → is_escaped b ≡ false → unescaped_from false t ≡ v → unescaped_from false (92 ∷ b ∷ t) ≡ 92 ∷ b ∷ v
meant_alone b v t is rest = rw is (ap (λ l. 92 ∷ b ∷ l) rest)

pub unescaped_spelled : (s : Spelling) → IsSpelling s → unescaped_from false (spelled s) ≡ said_by s
unescaped_spelled done is = refl
unescaped_spelled (byte b s) is = meant_plain b (said_by s) (spelled s) is.0 (unescaped_spelled s is.1)
unescaped_spelled (escape b s) is = meant_escape b (said_by s) (spelled s) is.0 (unescaped_spelled s is.1)
unescaped_spelled (alone b s) is = meant_alone b (said_by s) (spelled s) is.0 (unescaped_spelled s is.1)

-- ---- where names and white space end

white_no_tag : (c : Bool) (b : ℕ) → is_tag_byte b ≡ c → is_white b ≡ true → is_tag_byte b ≡ false
white_no_tag true b is white = absurd (true≢false (sym white ∙ name_no_white b is))
white_no_tag false b is white = is

name_ends : (between text : List ℕ) → list_all is_white between ≡ true → ends_run is_tag_byte (between ++ 34 ∷ text) ≡ true
name_ends [] text white = refl
name_ends (b ∷ between) text white = ap not (white_no_tag (is_tag_byte b) b refl (and_parts (is_white b) (list_all is_white between) white).0)

name_begins : (b : ℕ) (name text : List ℕ) → list_all is_tag_byte (b ∷ name) ≡ true → ends_run is_white ((b ∷ name) ++ text) ≡ true
name_begins b name text bytes = ap not (name_no_white b (and_parts (is_tag_byte b) (list_all is_tag_byte name) bytes).0)

-- ---- the whole tag

quoted : (name gap rest : List ℕ) (s : Spelling) → IsSpelling s → list_all is_white gap ≡ true → has_zero (spelled s) ≡ false
    → quoting name (34 ∷ (spelled s ++ (34 ∷ (gap ++ (93 ∷ rest))))) ≡ lexed_as (token.tag name (said_by s)) rest
quoted name gap rest s is white free =
    let tail : List ℕ = gap ++ (93 ∷ rest) in
    (λ i. closing name (raw_spelled s tail is i) (behind is_white (drop 1 (behind_spelled s tail is i))))
    ∙ ap (closing name (spelled s)) (behind_run is_white gap (93 ∷ rest) white refl)
    ∙ closed_so name (spelled s) rest free
    ∙ ap (λ v. lexed_as (token.tag name v) rest) (unescaped_spelled s is)

tag_so : (before name between gap rest : List ℕ) (s : Spelling) (b : ℕ) → list_all is_white before ≡ true → list_all is_white between ≡ true
    → list_all is_white gap ≡ true → list_all is_tag_byte (b ∷ name) ≡ true → IsSpelling s → has_zero (spelled s) ≡ false
    → lexed (tag_before (record { before = before; name = b ∷ name; between = between; value = s; behind = gap }) rest)
    ≡ lexed_as (token.tag (b ∷ name) (said_by s)) rest
unfolding lexed
tag_so before name between gap rest s b white between_white gap_white bytes is free =
    let quote : List ℕ = 34 ∷ (spelled s ++ (34 ∷ (gap ++ (93 ∷ rest)))) in
    let tail : List ℕ = between ++ quote in
    let ends : ends_run is_tag_byte tail ≡ true = name_ends between (spelled s ++ (34 ∷ (gap ++ (93 ∷ rest)))) between_white in
    ap (λ x. naming (front is_tag_byte x) (behind is_tag_byte x)) (behind_run is_white before ((b ∷ name) ++ tail) white (name_begins b name tail bytes))
    ∙ (λ i. naming (front_run is_tag_byte (b ∷ name) tail bytes ends i) (behind_run is_tag_byte (b ∷ name) tail bytes ends i))
    ∙ ap (quoting (b ∷ name)) (behind_run is_white between quote between_white refl)
    ∙ quoted (b ∷ name) gap rest s is gap_white free

by_name : (before name between gap rest : List ℕ) (s : Spelling) → AreParts (record { before = before; name = name; between = between; value = s; behind = gap })
    → lexed (tag_before (record { before = before; name = name; between = between; value = s; behind = gap }) rest) ≡ lexed_as (token.tag name (said_by s)) rest
by_name before [] between gap rest s are = absurd (omega (arith, are.some))
by_name before (b ∷ name) between gap rest s are = tag_so before name between gap rest s b are.before are.between are.behind are.name are.value are.zero_free

pub tag_spelled : (tag : TagParts) (rest : List ℕ) → AreParts tag → lexed (tag_before tag rest) ≡ lexed_as (token.tag tag.name (said_by tag.value)) rest
tag_spelled tag rest are = by_name tag.before tag.name tag.between tag.behind rest tag.value are
