-- What is read as a tag is spelled as one: the spelling is built from the bytes.
use Rattle.std.proofs.Common.{◌≡◌, ◌==◌, ℕ, suc, Bool, true, false, not, cond, List, [], ◌∷◌, ◌++◌, drop, Option, None, Some, option_map, codes, refl, sym, ap, ◌∙◌, subst, arith}
use Rattle.std.specs.List.{list_all, position_from}
use Rattle.std.specs.Option.{unwrap_or}
use Rattle.std.specs.Str.{bytes_eq}
use Rattle.std.specs.Str.Lines.{strip_carriage_return}
use Rattle.std.specs.Char.{is_ascii_digit}
use Rattle.std.proofs.lemmas.Bool.{eqb-true, true≢false}
use Rattle.game_tree.specs.Decimal.{decimal_read}
use Rattle.game_tree.specs.TagName.{is_tag_byte}
use Rattle.pgn_read.specs.Bytes.{is_white, is_move_byte, is_glyph, has_zero, front, behind, begins}
use Rattle.pgn_read.specs.Token.{Token, Lexed, lexed_as}
use Rattle.pgn_read.specs.Token as token
use Rattle.pgn_read.specs.TagText.{unescaped_from, closing, quoting, naming, tag_from, value_len}
use Rattle.pgn_laws.specs.TagSpelling.{Spelling, done, byte, escape, alone, spelled, said_by, is_escaped, IsSpelling, TagParts, AreParts, tag_before}
use Rattle.pgn_read.specs.Lexing.{braced, suffixes, suffix_of, digit_from, by_kind, lexed}
use Rattle.pgn_laws.proofs.TagTextLaws.{raw_value, behind_value}
use Rattle.pgn_laws.proofs.TagSpellingLaws.{raw_spelled, unescaped_spelled}

-- ---- runs

all_byte : (test : ℕ → Bool) (c : Bool) (b : ℕ) (run : List ℕ) → test b ≡ c → list_all test run ≡ true → list_all test (cond c (b ∷ run) []) ≡ true
all_byte test true b run is all = rw is all
all_byte test false b run is all = refl

front_all : (test : ℕ → Bool) (text : List ℕ) → list_all test (front test text) ≡ true
front_all test [] = refl
front_all test (b ∷ text) = all_byte test (test b) b (front test text) refl (front_all test text)

split_byte : (c : Bool) (b : ℕ) (text run more : List ℕ) → text ≡ run ++ more → b ∷ text ≡ cond c (b ∷ run) [] ++ cond c more (b ∷ text)
split_byte true b text run more is = ap (λ l. b ∷ l) is
split_byte false b text run more is = refl

front_behind : (test : ℕ → Bool) (text : List ℕ) → text ≡ front test text ++ behind test text
front_behind test [] = refl
front_behind test (b ∷ text) = split_byte (test b) b text (front test text) (behind test text) (front_behind test text)

-- ---- values

-- A value that a quotation mark ends.
record HasSpelling (text more : List ℕ) : Type 0 where
  s : Spelling
  is : IsSpelling s
  bytes : text ≡ spelled s ++ 34 ∷ more

-- Behind a backslash that is not escaped, the text with it.
abbrev pending : Bool → List ℕ → List ℕ
pending true text = 92 ∷ text
pending false text = text

escaped_so : (c : Bool) (b : ℕ) (text more : List ℕ) → is_escaped b ≡ c → HasSpelling text more → HasSpelling (92 ∷ b ∷ text) more
escaped_so true b text more is rest = record { s = escape b rest.s; is = (is, rest.is); bytes = ap (λ l. 92 ∷ b ∷ l) rest.bytes }
escaped_so false b text more is rest = record { s = alone b rest.s; is = (is, rest.is); bytes = ap (λ l. 92 ∷ b ∷ l) rest.bytes }

plain_so : (quote slash : Bool) (b : ℕ) (text more : List ℕ) (mark : ℕ) → (b == 34) ≡ quote → (b == 92) ≡ slash
    → drop (cond quote 0 (suc (value_len slash text))) (b ∷ text) ≡ mark ∷ more
    → ((escaped : Bool) → behind_value escaped text ≡ mark ∷ more → HasSpelling (pending escaped text) more) → HasSpelling (b ∷ text) more
plain_so true slash b text more mark is other ends later =
    let same : b ≡ 34 = eqb-true b 34 is in
    record { s = done; is = tt; bytes = cc }
plain_so false true b text more mark is other ends later =
    subst (λ (n : ℕ). HasSpelling (n ∷ text) more) (sym (eqb-true b 92 other)) (later true ends)
plain_so false false b text more mark is other ends later =
    let rest = later false ends in
    record { s = byte b rest.s; is = (rw is other, rest.is); bytes = ap (λ l. b ∷ l) rest.bytes }

value_so : (escaped : Bool) (text more : List ℕ) (mark : ℕ) → behind_value escaped text ≡ mark ∷ more → HasSpelling (pending escaped text) more
value_so true [] more mark ends = absurd (cc)
value_so false [] more mark ends = absurd (cc)
value_so true (b ∷ text) more mark ends = escaped_so (is_escaped b) b text more refl (value_so false text more mark ends)
value_so false (b ∷ text) more mark ends =
    plain_so (b == 34) (b == 92) b text more mark refl refl ends (λ escaped e. value_so escaped text more mark e)

-- ---- what is no tag

abbrev is_tag : Token → Bool
is_tag (token.tag name value) = true
is_tag token.bad_tag = false
is_tag (token.comment text) = false
is_tag token.open_comment = false
is_tag (token.nag n) = false
is_tag token.opens = false
is_tag token.closes = false
is_tag (token.ending outcome) = false
is_tag token.number = false
is_tag (token.move text) = false
is_tag token.bad = false
is_tag token.the_end = false

no_tag : {A : Type 0} (l : Lexed) (name value rest : List ℕ) → is_tag l.token ≡ false → l ≡ lexed_as (token.tag name value) rest → A
no_tag l name value rest none is = absurd (true≢false (sym (ap (λ (x : Lexed). is_tag x.token) is) ∙ none))

neither : (c : Bool) (x y : Lexed) → is_tag x.token ≡ false → is_tag y.token ≡ false → is_tag (cond c x y).token ≡ false
neither true x y p q = p
neither false x y p q = q

nag_no_tag : (n : Option ℕ) → is_tag (unwrap_or (option_map token.nag n) token.bad) ≡ false
nag_no_tag None = refl
nag_no_tag (Some n) = refl

suffix_no_tag : (glyphs : List ℕ) → is_tag (suffix_of glyphs) ≡ false
unfolding suffix_of
suffix_no_tag glyphs = nag_no_tag (position_from (bytes_eq glyphs) 1 suffixes)

comment_no_tag : (c : Bool) (text : List ℕ) → is_tag (cond c token.bad (token.comment text)) ≡ false
comment_no_tag true text = refl
comment_no_tag false text = refl

braced_no_tag : (text x : List ℕ) → is_tag (braced text x).token ≡ false
braced_no_tag text [] = refl
braced_no_tag text (b ∷ x) = comment_no_tag (has_zero text) text

digit_no_tag : (text : List ℕ) → is_tag (digit_from text).token ≡ false
unfolding digit_from
digit_no_tag text =
    neither (begins (codes "1-0") text) _ _ refl
    (neither (begins (codes "0-1") text) _ _ refl
    (neither (begins (codes "1/2-1/2") text) _ _ refl
    (neither (begins (codes "1/2") text) _ _ refl
    (neither (begins (codes "0-0") text) _ _ refl refl))))

kind_no_tag : (b : ℕ) (text more : List ℕ) → is_tag (by_kind b text more).token ≡ false
kind_no_tag b text more =
    neither (is_glyph b) _ _ (suffix_no_tag (front is_glyph text))
    (neither (is_ascii_digit b) _ _ (digit_no_tag text)
    (neither (is_move_byte b) _ _ refl refl))

-- What does not begin with an opening bracket.
other_no_tag : (b : ℕ) (text : List ℕ) → (b == 91) ≡ false → is_tag (lexed (b ∷ text)).token ≡ false
unfolding lexed
other_no_tag b text other =
    rw other
    (neither (b == 123) _ _ (braced_no_tag (front (λ byte. not (byte == 125)) text) (behind (λ byte. not (byte == 125)) text))
    (neither (b == 59) _ _ (comment_no_tag (has_zero (strip_carriage_return (front (λ byte. not (byte == 10)) text))) (strip_carriage_return (front (λ byte. not (byte == 10)) text)))
    (neither (b == 36) _ _ (nag_no_tag (decimal_read 255 (front is_ascii_digit text)))
    (neither (b == 40) _ _ refl
    (neither (b == 41) _ _ refl
    (neither (b == 42) _ _ refl
    (neither (b == 46) _ _ refl (kind_no_tag b (b ∷ text) text))))))))

-- ---- the whole tag

-- The parts that a tag's closing bracket shows.
record Closes (name raw text rest name_read value : List ℕ) : Type 0 where
  bytes : text ≡ 93 ∷ rest
  zero_free : has_zero raw ≡ false
  same_name : name ≡ name_read
  same_value : unescaped_from false raw ≡ value

closed_token : (zero : Bool) (b : ℕ) (name raw text rest name_read value : List ℕ) → has_zero raw ≡ zero → b ≡ 93
    → lexed_as (cond zero token.bad_tag (token.tag name (unescaped_from false raw))) text ≡ lexed_as (token.tag name_read value) rest
    → Closes name raw (b ∷ text) rest name_read value
closed_token true b name raw text rest name_read value none bracket is = no_tag _ name_read value rest refl is
closed_token false b name raw text rest name_read value none bracket is =
    let token_is = ap (λ (l : Lexed). l.token) is in
    let rest_is = ap (λ (l : Lexed). l.rest) is in
    record { bytes = cc; zero_free = none; same_name = cc; same_value = cc }

closed_byte : (c : Bool) (b : ℕ) (name raw text rest name_read value : List ℕ) → (b == 93) ≡ c
    → cond c (lexed_as (cond (has_zero raw) token.bad_tag (token.tag name (unescaped_from false raw))) text) (lexed_as token.bad_tag (b ∷ text))
    ≡ lexed_as (token.tag name_read value) rest
    → Closes name raw (b ∷ text) rest name_read value
closed_byte true b name raw text rest name_read value bracket is =
    closed_token (has_zero raw) b name raw text rest name_read value refl (eqb-true b 93 bracket) is
closed_byte false b name raw text rest name_read value bracket is = no_tag _ name_read value rest refl is

closes : (name raw text rest name_read value : List ℕ) → closing name raw text ≡ lexed_as (token.tag name_read value) rest
    → Closes name raw text rest name_read value
closes name raw [] rest name_read value is = no_tag _ name_read value rest refl is
closes name raw (b ∷ text) rest name_read value is = closed_byte (b == 93) b name raw text rest name_read value refl is

-- From the opening quotation mark on.
record Quotes (name text rest name_read value : List ℕ) : Type 0 where
  s : Spelling
  gap : List ℕ
  is : IsSpelling s
  white : list_all is_white gap ≡ true
  zero_free : has_zero (spelled s) ≡ false
  bytes : text ≡ 34 ∷ (spelled s ++ (34 ∷ (gap ++ (93 ∷ rest))))
  same_name : name ≡ name_read
  same_value : said_by s ≡ value

quoted_value : (name text rest name_read value tail : List ℕ) → behind_value false text ≡ tail
    → closing name (raw_value false text) (behind is_white (drop 1 tail)) ≡ lexed_as (token.tag name_read value) rest
    → Quotes name (34 ∷ text) rest name_read value
quoted_value name text rest name_read value [] ends is = no_tag _ name_read value rest refl is
quoted_value name text rest name_read value (mark ∷ more) ends is =
    let v : HasSpelling text more = value_so false text more mark ends in
    let c : Closes name (raw_value false text) (behind is_white more) rest name_read value =
    closes name (raw_value false text) (behind is_white more) rest name_read value is in
    let raw : raw_value false text ≡ spelled v.s = ap (raw_value false) v.bytes ∙ raw_spelled v.s more v.is in
    record {
      s = v.s;
      gap = front is_white more;
      is = v.is;
      white = front_all is_white more;
      zero_free = sym (ap has_zero raw) ∙ c.zero_free;
      bytes = ap (λ l. 34 ∷ l) v.bytes ∙ ap (λ l. 34 ∷ (spelled v.s ++ 34 ∷ l)) (front_behind is_white more ∙ ap (λ l. front is_white more ++ l) c.bytes);
      same_name = c.same_name;
      same_value = sym (ap (unescaped_from false) raw ∙ unescaped_spelled v.s v.is) ∙ c.same_value;
    }

quoted_byte : (c : Bool) (b : ℕ) (name text rest name_read value : List ℕ) → (b == 34) ≡ c
    → cond c (closing name (raw_value false text) (behind is_white (drop 1 (behind_value false text)))) (lexed_as token.bad_tag (b ∷ text))
    ≡ lexed_as (token.tag name_read value) rest
    → Quotes name (b ∷ text) rest name_read value
quoted_byte true b name text rest name_read value quote is =
    subst (λ (n : ℕ). Quotes name (n ∷ text) rest name_read value) (sym (eqb-true b 34 quote))
    (quoted_value name text rest name_read value (behind_value false text) refl is)
quoted_byte false b name text rest name_read value quote is = no_tag _ name_read value rest refl is

quotes : (name text rest name_read value : List ℕ) → quoting name text ≡ lexed_as (token.tag name_read value) rest
    → Quotes name text rest name_read value
quotes name [] rest name_read value is = no_tag _ name_read value rest refl is
quotes name (b ∷ text) rest name_read value is = quoted_byte (b == 34) b name text rest name_read value refl is

-- A tag that these bytes spell.
abbrev IsTagSpelled : List ℕ → List ℕ → List ℕ → List ℕ → Type 0
IsTagSpelled text rest name value =
    (tag : TagParts) × (AreParts tag × ((text ≡ tag_before tag rest) × ((tag.name ≡ name) × (said_by tag.value ≡ value))))

named_tag : (before name text rest name_read value : List ℕ) → list_all is_white before ≡ true → list_all is_tag_byte name ≡ true
    → naming name text ≡ lexed_as (token.tag name_read value) rest
    → IsTagSpelled (91 ∷ (before ++ (name ++ text))) rest name_read value
named_tag before [] text rest name_read value white bytes is = no_tag _ name_read value rest refl is
named_tag before (b ∷ name) text rest name_read value white bytes is =
    let q : Quotes (b ∷ name) (behind is_white text) rest name_read value = quotes (b ∷ name) (behind is_white text) rest name_read value is in (
      record { before = before; name = b ∷ name; between = front is_white text; value = q.s; behind = q.gap },
      (
        record {
          before = white;
          between = front_all is_white text;
          behind = q.white;
          some = omega arith;
          name = bytes;
          value = q.is;
          zero_free = q.zero_free;
        },
        (
          ap (λ l. 91 ∷ (before ++ ((b ∷ name) ++ l))) (front_behind is_white text ∙ ap (λ l. front is_white text ++ l) q.bytes),
          (q.same_name, q.same_value),
        ),
      ),
    )

bracketed_tag : (text rest name value : List ℕ) → tag_from text ≡ lexed_as (token.tag name value) rest → IsTagSpelled (91 ∷ text) rest name value
bracketed_tag text rest name value is =
    let x : List ℕ = behind is_white text in
    subst (λ (l : List ℕ). IsTagSpelled (91 ∷ l) rest name value)
    (sym (front_behind is_white text ∙ ap (λ l. front is_white text ++ l) (front_behind is_tag_byte x)))
    (named_tag (front is_white text) (front is_tag_byte x) (behind is_tag_byte x) rest name value (front_all is_white text) (front_all is_tag_byte x) is)

first_byte : (c : Bool) (b : ℕ) (text rest name value : List ℕ) → (b == 91) ≡ c → lexed (b ∷ text) ≡ lexed_as (token.tag name value) rest
    → IsTagSpelled (b ∷ text) rest name value
unfolding lexed
first_byte true b text rest name value bracket is =
    let same : b ≡ 91 = eqb-true b 91 bracket in
    subst (λ (n : ℕ). IsTagSpelled (n ∷ text) rest name value) (sym same)
    (bracketed_tag text rest name value (sym (ap (λ (n : ℕ). lexed (n ∷ text)) same) ∙ is))
first_byte false b text rest name value bracket is = no_tag (lexed (b ∷ text)) name value rest (other_no_tag b text bracket) is

no_byte : (rest name value : List ℕ) → lexed [] ≡ lexed_as (token.tag name value) rest → IsTagSpelled [] rest name value
unfolding lexed
no_byte rest name value is = no_tag (lexed []) name value rest refl is

pub spelled_so : (text rest name value : List ℕ) → lexed text ≡ lexed_as (token.tag name value) rest
    → (tag : TagParts) × (AreParts tag × ((text ≡ tag_before tag rest) × ((tag.name ≡ name) × (said_by tag.value ≡ value))))
spelled_so [] rest name value is = no_byte rest name value is
spelled_so (b ∷ text) rest name value is = first_byte (b == 91) b text rest name value refl is
