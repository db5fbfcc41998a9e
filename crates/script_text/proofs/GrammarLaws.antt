-- A line is cut into the words that it spells, and every line spells some.
use Rattle.std.proofs.Common.{◌≡◌, ◌==◌, ℕ, Bool, true, false, ◌⊎◌, inl, inr, List, [], ◌∷◌, ◌++◌, Some, None, refl, sym, ◌∙◌, ap}
use Rattle.std.specs.List.{AllByRecursion}
use Rattle.std.proofs.lemmas.Bool.{cases_Bool, or_parts, or_from, eqb-true}
use Rattle.script_text.specs.Words.{Word, front, cut, words_of, is_blank, is_escaped}
use Rattle.script_text.specs.Grammar.{Mark, plain, escape, lone, mark_bytes, mark_text, IsMark, Part, bare, quoted, part_bytes, part_text, IsPart, Line, end, word, unclosed, last_backslash, line_bytes, line_words, AreBlanks, IsApart, IsLine, Spells}
use Rattle.script_text.specs.declared.words.Place.{Place}
use Rattle.script_text.specs.declared.words.Place.TheVariants.{Between, Inside, Quoted, Escaped}
use Rattle.script_text.proofs.WordLaws.{front_none, front_front, append_none}

-- A quoted part, and what follows its bytes.
marks_cut : (marks : List Mark) (rest : List ℕ) → AllByRecursion IsMark marks
    → cut Quoted (mark_bytes marks ++ rest) ≡ front (mark_text marks) (cut Quoted rest)
unfolding cut
marks_cut [] rest good = sym (front_none (cut Quoted rest))
marks_cut (plain byte ∷ marks) rest good =
    let parts = or_parts (byte == 34) (byte == 92) good.0 in
    rw (parts.0, parts.1) (ap (λ words. front (byte ∷ []) words) (marks_cut marks rest good.1) ∙ front_front (byte ∷ []) (mark_text marks) (cut Quoted rest))
marks_cut (escape byte ∷ marks) rest good =
    rw good.0 (ap (λ words. front (byte ∷ []) words) (marks_cut marks rest good.1) ∙ front_front (byte ∷ []) (mark_text marks) (cut Quoted rest))
marks_cut (lone byte ∷ marks) rest good =
    rw good.0 (ap (λ words. front (92 ∷ byte ∷ []) words) (marks_cut marks rest good.1) ∙ front_front (92 ∷ byte ∷ []) (mark_text marks) (cut Quoted rest))

-- A closed quoted part.
quoted_cut : (marks : List Mark) (rest : List ℕ) → AllByRecursion IsMark marks
    → cut Quoted (mark_bytes marks ++ 34 ∷ rest) ≡ front (mark_text marks) (cut Inside rest)
unfolding cut
quoted_cut marks rest good = marks_cut marks (34 ∷ rest) good

-- The parts of a word.
parts_cut : (parts : List Part) (rest : List ℕ) → AllByRecursion IsPart parts
    → cut Inside (part_bytes parts rest) ≡ front (part_text parts) (cut Inside rest)
unfolding cut
parts_cut [] rest good = sym (front_none (cut Inside rest))
parts_cut (bare byte ∷ parts) rest good =
    rw (good.0.no_blank, good.0.no_quote) (ap (λ words. front (byte ∷ []) words) (parts_cut parts rest good.1) ∙ front_front (byte ∷ []) (part_text parts) (cut Inside rest))
parts_cut (quoted marks ∷ parts) rest good =
    quoted_cut marks (part_bytes parts rest) good.0
    ∙ ap (λ words. front (mark_text marks) words) (parts_cut parts rest good.1)
    ∙ front_front (mark_text marks) (part_text parts) (cut Inside rest)

-- The first part of a word begins it.
word_cut : (parts : List Part) (rest : List ℕ) → (parts ≡ [] → ⊥) → AllByRecursion IsPart parts
    → cut Between (part_bytes parts rest) ≡ front (part_text parts) (cut Inside rest)
unfolding cut
word_cut [] rest some good = absurd (some refl)
word_cut (bare byte ∷ parts) rest some good =
    rw (good.0.no_blank, good.0.no_quote) (ap (λ words. front (byte ∷ []) words) (parts_cut parts rest good.1) ∙ front_front (byte ∷ []) (part_text parts) (cut Inside rest))
word_cut (quoted marks ∷ parts) rest some good =
    quoted_cut marks (part_bytes parts rest) good.0
    ∙ ap (λ words. front (mark_text marks) words) (parts_cut parts rest good.1)
    ∙ front_front (mark_text marks) (part_text parts) (cut Inside rest)

-- Blanks before a word.
blanks_cut : (blanks rest : List ℕ) → AreBlanks blanks → cut Between (blanks ++ rest) ≡ cut Between rest
unfolding cut
blanks_cut [] rest good = refl
blanks_cut (byte ∷ blanks) rest good = rw good.0 (blanks_cut blanks rest good.1)

-- What stands behind a word ends it.
behind : (rest : List ℕ) (blanks : List ℕ) → AreBlanks blanks → (blanks ≡ [] → ⊥)
    → cut Inside (blanks ++ rest) ≡ Some [] ∷ cut Between (blanks ++ rest)
unfolding cut
behind rest [] good some = absurd (some refl)
behind rest (byte ∷ blanks) good some = rw good.0 refl

apart_cut : (line : Line) → IsApart line → IsLine line → cut Inside (line_bytes line) ≡ Some [] ∷ cut Between (line_bytes line)
unfolding cut
apart_cut (end []) apart good = refl
apart_cut (end (byte ∷ blanks)) apart good = rw good.0 refl
apart_cut (word blanks parts line) apart good = behind (part_bytes parts (line_bytes line)) blanks good.0 apart
apart_cut (unclosed blanks parts marks backslash) apart good =
    behind (part_bytes parts (34 ∷ mark_bytes marks ++ last_backslash backslash)) blanks good.0 apart

-- A word that is not closed has no text, whatever stands before.
stopped_cut : (marks : List Mark) (backslash : Bool) → AllByRecursion IsMark marks
    → cut Quoted (mark_bytes marks ++ last_backslash backslash) ≡ None ∷ []
unfolding cut
stopped_cut marks true good = marks_cut marks (92 ∷ []) good
stopped_cut marks false good = marks_cut marks [] good

unclosed_cut : (parts : List Part) (marks : List Mark) (backslash : Bool) → AllByRecursion IsPart parts → AllByRecursion IsMark marks
    → cut Between (part_bytes parts (34 ∷ mark_bytes marks ++ last_backslash backslash)) ≡ None ∷ []
unfolding cut
unclosed_cut [] marks backslash good stops = stopped_cut marks backslash stops
unclosed_cut (bare byte ∷ parts) marks backslash good stops =
    word_cut (bare byte ∷ parts) (34 ∷ mark_bytes marks ++ last_backslash backslash) (λ none. absurd (cc)) good
    ∙ ap (λ words. front (part_text (bare byte ∷ parts)) words) (stopped_cut marks backslash stops)
unclosed_cut (quoted first ∷ parts) marks backslash good stops =
    word_cut (quoted first ∷ parts) (34 ∷ mark_bytes marks ++ last_backslash backslash) (λ none. absurd (cc)) good
    ∙ ap (λ words. front (part_text (quoted first ∷ parts)) words) (stopped_cut marks backslash stops)

-- A line is cut into the words that it spells.
line_cut : (line : Line) → IsLine line → cut Between (line_bytes line) ≡ line_words line
unfolding cut
line_cut (end blanks) good = ap (λ bytes. cut Between bytes) (sym (append_none blanks)) ∙ blanks_cut blanks [] good
line_cut (word blanks parts line) good =
    blanks_cut blanks (part_bytes parts (line_bytes line)) good.0
    ∙ word_cut parts (line_bytes line) good.1 good.2
    ∙ ap (λ words. front (part_text parts) words) (apart_cut line good.3 good.4)
    ∙ rw (append_none (part_text parts)) (ap (λ words. Some (part_text parts) ∷ words) (line_cut line good.4))
line_cut (unclosed blanks parts marks backslash) good =
    blanks_cut blanks (part_bytes parts (34 ∷ mark_bytes marks ++ last_backslash backslash)) good.0
    ∙ unclosed_cut parts marks backslash good.1 good.2

pub spelled_once : (bytes : List ℕ) (words : List Word) → Spells bytes words → words ≡ words_of bytes
spelled_once bytes words spells =
    spells.words_are ∙ sym (line_cut spells.line spells.is_line) ∙ sym (ap (λ line. words_of line) spells.bytes_are)

-- ---- each line spells some words

-- What stands behind the parts of a word: the rest of the line, or a quoted part that is not closed.
data Tail : Type 0 where
  goes : Line → Tail
  stops : List Mark → Bool → Tail

tail_bytes : Tail → List ℕ
tail_bytes (goes line) = line_bytes line
tail_bytes (stops marks backslash) = 34 ∷ mark_bytes marks ++ last_backslash backslash

IsTail : Tail → Type 0
IsTail (goes line) = IsApart line × IsLine line
IsTail (stops marks backslash) = AllByRecursion IsMark marks

-- A word with blanks before it and this behind it, as a line.
line_of : List ℕ → List Part → Tail → Line
line_of blanks parts (goes line) = word blanks parts line
line_of blanks parts (stops marks backslash) = unclosed blanks parts marks backslash

-- The bytes are a line.
record Lines (bytes : List ℕ) : Type 0 where
  line : Line
  is_line : IsLine line
  are : bytes ≡ line_bytes line

-- The bytes are the rest of a word, and what stands behind it.
record Words (bytes : List ℕ) : Type 0 where
  parts : List Part
  tail : Tail
  are_parts : AllByRecursion IsPart parts
  is_tail : IsTail tail
  are : bytes ≡ part_bytes parts (tail_bytes tail)

-- Words that begin right here: with a part, or with a quoted part that is not closed.
IsBegun : List Part → Tail → Type 0
IsBegun [] (goes line) = ⊥
IsBegun [] (stops marks backslash) = Unit {0}
IsBegun (part ∷ parts) tail = Unit {0}

-- A closed quoted part, its closing quote, and the rest of a word.
record Closed (bytes : List ℕ) : Type 0 where
  marks : List Mark
  rest : List ℕ
  are_marks : AllByRecursion IsMark marks
  word : Words rest
  are : bytes ≡ mark_bytes marks ++ 34 ∷ rest

-- A quoted part that the line ends.
record Open (bytes : List ℕ) : Type 0 where
  marks : List Mark
  backslash : Bool
  are_marks : AllByRecursion IsMark marks
  are : bytes ≡ mark_bytes marks ++ last_backslash backslash

-- What the rest of a line is, from each place.
Found : Place → List ℕ → Type 0
Found Between bytes = Lines bytes
Found Inside bytes = Words bytes
Found Quoted bytes = Closed bytes ⊎ Open bytes
Found Escaped bytes = Closed (92 ∷ bytes) ⊎ Open (92 ∷ bytes)

-- A blank before a line.
blank_before : ℕ → Line → Line
blank_before byte (end blanks) = end (byte ∷ blanks)
blank_before byte (word blanks parts line) = word (byte ∷ blanks) parts line
blank_before byte (unclosed blanks parts marks backslash) = unclosed (byte ∷ blanks) parts marks backslash

blank_is_line : (byte : ℕ) (line : Line) → is_blank byte ≡ true → IsLine line → IsLine (blank_before byte line)
unfolding blank_before
blank_is_line byte (end blanks) blank good = (blank, good)
blank_is_line byte (word blanks parts line) blank good = ((blank, good.0), good.1, good.2, good.3, good.4)
blank_is_line byte (unclosed blanks parts marks backslash) blank good = ((blank, good.0), good.1, good.2)

blank_is_apart : (byte : ℕ) (line : Line) → IsApart (blank_before byte line)
unfolding blank_before
blank_is_apart byte (end blanks) = tt
blank_is_apart byte (word blanks parts line) = λ none. absurd (cc)
blank_is_apart byte (unclosed blanks parts marks backslash) = λ none. absurd (cc)

blank_bytes : (byte : ℕ) (line : Line) → byte ∷ line_bytes line ≡ line_bytes (blank_before byte line)
unfolding blank_before
blank_bytes byte (end blanks) = refl
blank_bytes byte (word blanks parts line) = refl
blank_bytes byte (unclosed blanks parts marks backslash) = refl

-- The line of a word that begins right here.
line_is_line : (parts : List Part) (tail : Tail) → IsBegun parts tail → AllByRecursion IsPart parts → IsTail tail → IsLine (line_of [] parts tail)
unfolding IsBegun IsTail line_of
line_is_line [] (goes line) begun good is = absurd begun
line_is_line [] (stops marks backslash) begun good is = (tt, good, is)
line_is_line (part ∷ parts) (goes line) begun good is = (tt, (λ none. absurd (cc)), good, is.0, is.1)
line_is_line (part ∷ parts) (stops marks backslash) begun good is = (tt, good, is)

line_of_bytes : (parts : List Part) (tail : Tail) → part_bytes parts (tail_bytes tail) ≡ line_bytes (line_of [] parts tail)
unfolding tail_bytes line_of
line_of_bytes parts (goes line) = refl
line_of_bytes parts (stops marks backslash) = refl

line_from : (parts : List Part) (tail : Tail) (bytes : List ℕ) → IsBegun parts tail → AllByRecursion IsPart parts → IsTail tail
    → bytes ≡ part_bytes parts (tail_bytes tail) → Lines bytes
line_from parts tail bytes begun good is are = record {
  line = line_of [] parts tail;
  is_line = line_is_line parts tail begun good is;
  are = are ∙ line_of_bytes parts tail;
}

-- A word that begins with a quote.
record Begun (bytes : List ℕ) : Type 0 where
  word : Words bytes
  begun : IsBegun word.parts word.tail

quote_begins : (bytes : List ℕ) → Found Quoted bytes → Begun (34 ∷ bytes)
unfolding Found IsBegun IsTail tail_bytes
quote_begins bytes (inl closed) = record {
  word = record {
    parts = quoted closed.marks ∷ closed.word.parts;
    tail = closed.word.tail;
    are_parts = (closed.are_marks, closed.word.are_parts);
    is_tail = closed.word.is_tail;
    are = ap (λ (b : List ℕ). 34 ∷ b) (closed.are ∙ ap (λ (b : List ℕ). mark_bytes closed.marks ++ 34 ∷ b) closed.word.are);
  };
  begun = tt;
}
quote_begins bytes (inr opened) = record {
  word = record {
    parts = [];
    tail = stops opened.marks opened.backslash;
    are_parts = tt;
    is_tail = opened.are_marks;
    are = ap (λ (b : List ℕ). 34 ∷ b) opened.are;
  };
  begun = tt;
}

begun_line : (bytes : List ℕ) → Begun bytes → Lines bytes
begun_line bytes b = line_from b.word.parts b.word.tail bytes b.begun b.word.are_parts b.word.is_tail b.word.are

bare_begins : (byte : ℕ) (bytes : List ℕ) → is_blank byte ≡ false → (byte == 34) ≡ false → Words bytes → Begun (byte ∷ bytes)
unfolding IsBegun
bare_begins byte bytes no_blank no_quote w = record {
  word = record {
    parts = bare byte ∷ w.parts;
    tail = w.tail;
    are_parts = (record { no_blank = no_blank; no_quote = no_quote }, w.are_parts);
    is_tail = w.is_tail;
    are = ap (λ (b : List ℕ). byte ∷ b) w.are;
  };
  begun = tt;
}

-- A mark before those of a quoted part.
mark_before : (mark : Mark) (bytes more : List ℕ) → IsMark mark → ((marks : List Mark) (rest : List ℕ) → mark_bytes (mark ∷ marks) ++ rest ≡ bytes ++ (mark_bytes marks ++ rest))
    → Closed more ⊎ Open more → Closed (bytes ++ more) ⊎ Open (bytes ++ more)
mark_before mark bytes more good spells (inl closed) = inl (record {
  marks = mark ∷ closed.marks;
  rest = closed.rest;
  are_marks = (good, closed.are_marks);
  word = closed.word;
  are = ap (λ (b : List ℕ). bytes ++ b) closed.are ∙ sym (spells closed.marks (34 ∷ closed.rest));
})
mark_before mark bytes more good spells (inr opened) = inr (record {
  marks = mark ∷ opened.marks;
  backslash = opened.backslash;
  are_marks = (good, opened.are_marks);
  are = ap (λ (b : List ℕ). bytes ++ b) opened.are ∙ sym (spells opened.marks (last_backslash opened.backslash));
})

-- ---- one byte at each place

found_between : (byte : ℕ) (bytes : List ℕ) → ((place : Place) → Found place bytes) → Lines (byte ∷ bytes)
unfolding Found
found_between byte bytes later =
    elim (cases_Bool (is_blank byte)) [
      | inl blank ↦ record {
        line = blank_before byte (later Between).line;
        is_line = blank_is_line byte (later Between).line blank (later Between).is_line;
        are = ap (λ (b : List ℕ). byte ∷ b) (later Between).are ∙ blank_bytes byte (later Between).line;
      }
      | inr no_blank ↦ elim (cases_Bool (byte == 34)) [
        | inl quote ↦ rw (eqb-true byte 34 quote) (begun_line (34 ∷ bytes) (quote_begins bytes (later Quoted)))
        | inr no_quote ↦ begun_line (byte ∷ bytes) (bare_begins byte bytes no_blank no_quote (later Inside))
      ]
    ]

found_inside : (byte : ℕ) (bytes : List ℕ) → ((place : Place) → Found place bytes) → Words (byte ∷ bytes)
unfolding Found IsTail tail_bytes
found_inside byte bytes later =
    elim (cases_Bool (is_blank byte)) [
      | inl blank ↦ record {
        parts = [];
        tail = goes (blank_before byte (later Between).line);
        are_parts = tt;
        is_tail = (blank_is_apart byte (later Between).line, blank_is_line byte (later Between).line blank (later Between).is_line);
        are = ap (λ (b : List ℕ). byte ∷ b) (later Between).are ∙ blank_bytes byte (later Between).line;
      }
      | inr no_blank ↦ elim (cases_Bool (byte == 34)) [
        | inl quote ↦ rw (eqb-true byte 34 quote) (quote_begins bytes (later Quoted)).word
        | inr no_quote ↦ (bare_begins byte bytes no_blank no_quote (later Inside)).word
      ]
    ]

found_quoted : (byte : ℕ) (bytes : List ℕ) → ((place : Place) → Found place bytes) → Closed (byte ∷ bytes) ⊎ Open (byte ∷ bytes)
unfolding Found
found_quoted byte bytes later =
    elim (cases_Bool (byte == 34)) [
      | inl quote ↦ rw (eqb-true byte 34 quote) (inl (record { marks = []; rest = bytes; are_marks = tt; word = later Inside; are = refl }))
      | inr no_quote ↦ elim (cases_Bool (byte == 92)) [
        | inl backslash ↦ rw (eqb-true byte 92 backslash) (later Escaped)
        | inr no_backslash ↦
            mark_before (plain byte) (byte ∷ []) bytes (or_from (byte == 34) (byte == 92) no_quote no_backslash) (λ marks rest. refl) (later Quoted)
      ]
    ]

found_escaped : (byte : ℕ) (bytes : List ℕ) → ((place : Place) → Found place bytes) → Closed (92 ∷ byte ∷ bytes) ⊎ Open (92 ∷ byte ∷ bytes)
unfolding Found
found_escaped byte bytes later =
    elim (cases_Bool (is_escaped byte)) [
      | inl is ↦ mark_before (escape byte) (92 ∷ byte ∷ []) bytes is (λ marks rest. refl) (later Quoted)
      | inr is_not ↦ mark_before (lone byte) (92 ∷ byte ∷ []) bytes is_not (λ marks rest. refl) (later Quoted)
    ]

found_at_end : (place : Place) → Found place []
unfolding Found IsTail tail_bytes
found_at_end Between = record { line = end []; is_line = tt; are = refl }
found_at_end Inside = record { parts = []; tail = goes (end []); are_parts = tt; is_tail = (tt, tt); are = refl }
found_at_end Quoted = inr (record { marks = []; backslash = false; are_marks = tt; are = refl })
found_at_end Escaped = inr (record { marks = []; backslash = true; are_marks = tt; are = refl })

found_before : (place : Place) (byte : ℕ) (bytes : List ℕ) → ((later : Place) → Found later bytes) → Found place (byte ∷ bytes)
unfolding Found
found_before Between byte bytes later = found_between byte bytes later
found_before Inside byte bytes later = found_inside byte bytes later
found_before Quoted byte bytes later = found_quoted byte bytes later
found_before Escaped byte bytes later = found_escaped byte bytes later

found : (bytes : List ℕ) (place : Place) → Found place bytes
found [] place = found_at_end place
found (byte ∷ bytes) place = found_before place byte bytes (found bytes)

pub spelled : (bytes : List ℕ) → Spells bytes (words_of bytes)
unfolding Found
spelled bytes =
    let lines = found bytes Between in
    record {
      line = lines.line;
      is_line = lines.is_line;
      bytes_are = lines.are;
      words_are = ap (λ b. words_of b) lines.are ∙ line_cut lines.line lines.is_line;
    }
