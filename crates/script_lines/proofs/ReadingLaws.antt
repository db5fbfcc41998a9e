-- Laws of what a reader of lines has taken.
use Rattle.std.proofs.Common.{Result, Ok, Bool, false, true≢false, ◌⊎◌, ◌-◌, ◌==◌, ◌∷◌, zero, not, true, inl, inr, min, ◌≡◌, ◌≤◌, ◌<◌, ◌+◌, ℕ, suc, List, [], ◌++◌, length, take, drop, Option, Some, None, refl, sym, ap, ◌∙◌, arith, append_assoc, subst}
use Rattle.std.specs.List.{copy_within}
use Rattle.std.proofs.lemmas.Bool.{eqb-true}
use Rattle.std.proofs.Math.Seq.{take-add, take-append-add}
use Rattle.std.proofs.lemmas.List.Edits.{take-paste}
use Rattle.std.proofs.lemmas.List.{take-append-le, take-take, take_all, take-append-drop, drop-append-le, drop-drop, drop-take, drop_all, length-drop, length-take, length-take-le, length-append}
use borrow.Rule.Slice.PartMut.{post_of, put_mid}
use Rattle.base_files.specs.Told.{before}
use Rattle.base_files.proofs.Telling.{before-nil, before-append}
use Rattle.script_lines.specs.Bytewise.{script_from}
use Rattle.script_lines.specs.Clients.{line_of}
use Rattle.script_lines.specs.Script.{Script, script}
use Rattle.script_lines.specs.declared.line.Line.{Line}
use Rattle.script_lines.specs.Bodies.{feed_at}
use Rattle.script_lines.specs.Reading.{Reader, TookLine, TookPart, grown, led_on, most_kept}
use Rattle.script_lines.proofs.ScriptLaws.{feed_at_position, feed_room, first_feed, grown_none, line_kept, line_read, part_read, script_kept}

-- What is ahead is a front part of the unread bytes, and what is ahead then.
rest_ahead : (n : ℕ) (unread later : List ℕ) (l : Option (List ℕ)) → later ≡ drop n unread → before unread l ≡ before (take n unread) (before later l)
rest_ahead n unread later l rest =
    ap (λ u. before u l) (sym (take-append-drop n unread) ∙ ap (λ r. take n unread ++ r) (sym rest)) ∙ before-append (take n unread) later l

-- The bytes up to a line feed were taken.
pub took_line : (old new : Reader) (within place : ℕ) (l : Option (List ℕ)) → feed_at (take within old.unread) ≡ Some place
    → new.unread ≡ drop 1 (drop place old.unread) → new.tagged ≡ old.tagged → new.line ≡ take most_kept (old.line ++ take place old.unread) → new.used ≡ old.used + place + 1
    → TookLine old.line old l (line_of new.tagged new.line) new l
took_line old new within place l at unread tagged line used =
    let there : (first_feed old.unread ≡ Some place) × (place < length old.unread) × (place < within) = feed_room within old.unread place at in
    let n : length (take (suc place) old.unread) ≡ suc place = length-take-le (suc place) old.unread (omega (arith, there.1)) in
    let same : line_of old.tagged (old.line ++ take place old.unread) ≡ line_of new.tagged new.line =
    sym (line_kept old.tagged (old.line ++ take place old.unread)) ∙ ap (line_of old.tagged) (sym line) ∙ ap (λ (b : Bool). line_of b new.line) (sym tagged) in
    let e : place + 1 ≡ suc place = omega arith in
    record {
      front = take (suc place) old.unread;
      ahead = rest_ahead (suc place) old.unread new.unread l (unread ∙ drop-drop 1 place old.unread ∙ ap (λ k. drop k old.unread) e);
      tagged = tagged;
      used = omega (arith, used, n);
      ends = λ last clients more kind.
          line_read last clients old.line old.unread more place there.0
          ∙ ap (λ (b : Bool). grown (suc place) (led_on last clients (line_of b (old.line ++ take place old.unread)) more)) kind
          ∙ ap (λ says. grown (suc place) (led_on last clients says more)) same
          ∙ ap (λ k. grown k (led_on last clients (line_of new.tagged new.line) more)) (sym n);
    }

-- Bytes without a line feed were taken.
pub took_part : (old new : Reader) (within : ℕ) (l : Option (List ℕ)) → feed_at (take within old.unread) ≡ None → within ≤ length old.unread
    → new.unread ≡ drop within old.unread → new.tagged ≡ old.tagged → new.line ≡ take most_kept (old.line ++ take within old.unread) → new.used ≡ old.used + within
    → TookPart old.line old l new l
took_part old new within l none fits unread tagged line used =
    let n : length (take within old.unread) ≡ within = length-take-le within old.unread fits in
    record {
      front = take within old.unread;
      ahead = rest_ahead within old.unread new.unread l unread;
      tagged = tagged;
      used = omega (arith, used, n);
      feeds = λ last clients more.
          part_read last clients old.line (take within old.unread) more (sym (feed_at_position (take within old.unread)) ∙ none)
          ∙ ap (grown (length (take within old.unread)))
          (sym (script_kept last clients (old.line ++ take within old.unread) more) ∙ ap (λ k. script_from last clients 0 k more) (sym line));
    }

-- Nothing was taken yet.
pub took_none : (reader : Reader) (l : Option (List ℕ)) → reader.line ≡ [] → TookPart [] reader l reader l
took_none reader l fresh = record {
  front = [];
  ahead = sym (before-nil (before reader.unread l));
  tagged = refl;
  used = omega arith;
  feeds = λ last clients more. ap (λ k. script_from last clients 0 k more) (sym fresh) ∙ sym (grown_none (script_from last clients 0 reader.line more));
}

-- More was read.
pub took_filled : (line : List ℕ) (old mid new : Reader) (l l' l'' : Option (List ℕ)) → TookPart line old l mid l'
    → before mid.unread l' ≡ before new.unread l'' → new.tagged ≡ mid.tagged → new.line ≡ mid.line → new.used ≡ mid.used → TookPart line old l new l''
took_filled line old mid new l l' l'' took given same_tagged same_line same_used = record {
  front = took.front;
  ahead = took.ahead ∙ ap (before took.front) given;
  tagged = same_tagged ∙ took.tagged;
  used = same_used ∙ took.used;
  feeds = λ last clients more. took.feeds last clients more ∙ ap (λ k. grown (length took.front) (script_from last clients 0 k more)) (sym same_line);
}

grown_twice : (m n : ℕ) (s : Script) → grown m (grown n s) ≡ grown (m + n) s
grown_twice m n s = ap (script s.tasks) (omega arith)

behind : (front more : List ℕ) (a b c : Option (List ℕ)) → a ≡ before front b → b ≡ before more c → a ≡ before (front ++ more) c
behind front more a b c first second = first ∙ ap (before front) second ∙ sym (before-append front more c)

-- A part of a line, and then another.
pub took_twice : (line : List ℕ) (old mid new : Reader) (l l' l'' : Option (List ℕ)) → TookPart line old l mid l' → TookPart mid.line mid l' new l''
    → TookPart line old l new l''
took_twice line old mid new l l' l'' first second =
    let n : length (first.front ++ second.front) ≡ length first.front + length second.front = length-append first.front second.front in
    record {
      front = first.front ++ second.front;
      ahead = behind first.front second.front _ _ _ first.ahead second.ahead;
      tagged = second.tagged ∙ first.tagged;
      used = omega (arith, first.used, second.used, n);
      feeds = λ last clients more.
          ap (script_from last clients 0 line) (append_assoc first.front second.front more)
          ∙ first.feeds last clients (second.front ++ more)
          ∙ ap (grown (length first.front)) (second.feeds last clients more)
          ∙ grown_twice (length first.front) (length second.front) (script_from last clients 0 new.line more)
          ∙ ap (λ k. grown k (script_from last clients 0 new.line more)) (sym n);
    }

-- A part of a line, and then its rest.
pub took_rest : (line : List ℕ) (old mid new : Reader) (says : Line) (l l' l'' : Option (List ℕ)) → TookPart line old l mid l' → TookLine mid.line mid l' says new l''
    → TookLine line old l says new l''
took_rest line old mid new says l l' l'' first second =
    let n : length (first.front ++ second.front) ≡ length first.front + length second.front = length-append first.front second.front in
    record {
      front = first.front ++ second.front;
      ahead = behind first.front second.front _ _ _ first.ahead second.ahead;
      tagged = second.tagged ∙ first.tagged;
      used = omega (arith, first.used, second.used, n);
      ends = λ last clients more kind.
          ap (script_from last clients 0 line) (append_assoc first.front second.front more)
          ∙ first.feeds last clients (second.front ++ more)
          ∙ ap (grown (length first.front)) (second.ends last clients more (kind ∙ sym first.tagged))
          ∙ grown_twice (length first.front) (length second.front) (led_on last clients says more)
          ∙ ap (λ k. grown k (led_on last clients says more)) (sym n);
    }

-- ---- what is kept of a line

either_first : (a b : ℕ) → (a ≤ b) ⊎ (b ≤ a)
either_first a b = search arith

take_least : (room count : ℕ) (bytes : List ℕ) → take room (take count bytes) ≡ take (min count room) bytes
take_least room count bytes = elim (either_first room count) [
  | inl less ↦
      let m : min count room ≡ room = omega (arith, less) in
      take-take room count bytes less ∙ ap (λ n. take n bytes) (sym m)
  | inr less ↦
      let m : min count room ≡ count = omega (arith, less) in
      let n : length (take count bytes) ≡ min count (length bytes) = length-take count bytes in
      take_all room (take count bytes) (omega (arith, n, less)) ∙ ap (λ n. take n bytes) (sym m)
]

-- Of a part that is taken no more goes into the line than there is room for.
pub kept_more : (most count : ℕ) (line bytes : List ℕ) → length line ≤ most → line ++ take (min count (most - length line)) bytes ≡ take most (line ++ take count bytes)
kept_more most count line bytes fits =
    let e : most ≡ length line + (most - length line) = omega (arith, fits) in
    ap (λ l. line ++ l) (sym (take_least (most - length line) count bytes))
    ∙ sym (take-append-add line (take count bytes) (most - length line))
    ∙ ap (λ n. take n (line ++ take count bytes)) (sym e)

-- A front part is as many bytes as it has.
pub front_part : (n : ℕ) (bytes : List ℕ) → take (length (take n bytes)) bytes ≡ take n bytes
front_part zero bytes = refl
front_part (suc n) [] = refl
front_part (suc n) (byte ∷ bytes) = ap (λ l. byte ∷ l) (front_part n bytes)

not_is : (b : Bool) → not b ≡ false → b ≡ true
not_is true e = refl
not_is false e = absurd (true≢false e)

pub none_more : (n : ℕ) → not (n == 0) ≡ false → n ≡ 0
none_more n e = eqb-true n 0 (not_is (n == 0) e)

pub some_more : (n : ℕ) → not (n == 0) ≡ true → 0 < n
some_more zero more = cc
some_more (suc n) more = omega arith

pub ok_is : {E : Type 0} {a b : Bool} → ◌≡◌ {A = Result Bool E} (Ok a) (Ok b) → a ≡ b
ok_is {E} {a} {b} same = cc

-- ---- bytes that are moved to the front, and others behind them

pub moved_front : (from to : ℕ) (bytes : List ℕ) → from ≤ to → to ≤ length bytes → take (to - from) (copy_within bytes from to 0) ≡ drop from (take to bytes)
moved_front from to bytes order inside =
    let rest : length (drop from bytes) ≡ length bytes - from = length-drop from bytes in
    let all : from + (to - from) ≡ to = omega (arith, order) in
    let none : 0 + (to - from) ≡ to - from = omega arith in
    ap (λ n. take n (copy_within bytes from to 0)) (sym none)
    ∙ take-paste bytes 0 (drop from bytes) (to - from) (omega arith) (omega (arith, rest, order, inside))
    ∙ sym (drop-take from (to - from) bytes) ∙ ap (λ n. drop from (take n bytes)) all

-- What was read behind the first bytes.
pub tail_read : (kept n k : ℕ) (xs ys : List ℕ) → kept ≤ length xs → n ≤ length ys → drop kept (take (kept + n) (put_mid kept k xs ys)) ≡ take n ys
tail_read kept n k xs ys fits few =
    let size : length (take kept xs) ≡ kept = length-take-le kept xs fits in
    let none : drop kept (take kept xs) ≡ [] = drop_all kept (take kept xs) (omega (arith, size)) in
    drop-take kept n (put_mid kept k xs ys)
    ∙ ap (take n) (drop-append-le kept (take kept xs) (ys ++ post_of kept k xs) (omega (arith, size)) ∙ ap (λ l. l ++ (ys ++ post_of kept k xs)) none)
    ∙ take-append-le n ys (post_of kept k xs) few

pub filled_behind : (u n : ℕ) (new unread : List ℕ) (l l' : Option (List ℕ)) → take u new ≡ unread → l ≡ before (drop u (take (u + n) new)) l'
    → before unread l ≡ before (take (u + n) new) l'
filled_behind u n new unread l l' front given =
    let all : unread ++ drop u (take (u + n) new) ≡ take (u + n) new =
    ap (λ b. b ++ drop u (take (u + n) new)) (sym front) ∙ ap (λ b. take u new ++ b) (drop-take u n new) ∙ sym (take-add u n new) in
    ap (before unread) given ∙ sym (before-append unread (drop u (take (u + n) new)) l') ∙ ap (λ b. before b l') all

-- All of a vector was lent as a slice.
pub all_lent : (n : ℕ) (new old : List ℕ) → length new ≡ n → take n (new ++ drop (length new) old) ≡ new
all_lent n new old size = take-append-le n new (drop (length new) old) (omega (arith, size)) ∙ take_all n new (omega (arith, size))

some_fed : (bytes : List ℕ) → (feed_at bytes ≡ None → ⊥) → 0 < length bytes
some_fed [] some = absurd (some refl)
some_fed (byte ∷ bytes) some = omega arith

-- Where a line feed stands unread, nothing was asked of the input so far, and so nothing is now.
pub unasked_still : {S : Type 0} (first unread : List ℕ) (old now new : S) (P : Type 0) → ((feed_at first ≡ None → ⊥) → (now ≡ old) × (unread ≡ first))
    → (0 < length unread → (new ≡ now) × P) → (feed_at first ≡ None → ⊥) → new ≡ old
unasked_still first unread old now new P before still some =
    let b = before some in
    (still (subst (λ (l : List ℕ). 0 < length l) (sym b.1) (some_fed first some))).0 ∙ b.0

-- A part without a line feed was all that stood unread, so that none had stood there.
pub never_open : {S : Type 0} (first unread : List ℕ) (old now new : S) (reader refilled : Reader) (P : Type 0) → ((feed_at first ≡ None → ⊥) → (now ≡ old) × (reader.unread ≡ first))
    → (0 < length reader.unread → (new ≡ now) × (refilled ≡ reader)) → feed_at refilled.unread ≡ None → (feed_at first ≡ None → ⊥) → P
never_open first unread old now new reader refilled P before still none some =
    let b = before some in
    let s = still (subst (λ (l : List ℕ). 0 < length l) (sym b.1) (some_fed first some)) in
    absurd (some (ap feed_at (sym (ap (λ (r : Reader). r.unread) s.1 ∙ b.1)) ∙ none))
