-- Laws of the places in a body.
use Rattle.std.proofs.Common.{◌&&◌, ◌⊎◌, inl, inr, ◌≡◌, ◌≤◌, ◌<◌, ◌+◌, ◌-◌, ℕ, suc, Bool, true, false, List, [], ◌∷◌, ◌++◌, length, take, drop, min, Option, Some, None, option_map, refl, sym, ap, ◌∙◌, subst, arith, append-nil, append_assoc}
use Rattle.std.proofs.Math.Seq.{take-add}
use Rattle.std.proofs.lemmas.List.{take-append-drop, take-append-le, take-take, take_all, drop-append-le, drop-drop, length-append, length-drop, length-take, length-take-le}
use Rattle.base_files.specs.Counters.{Rose, raised}
use Rattle.base_files.specs.Feeds.{told_after}
use Rattle.base_files.specs.Told.{before, Tells}
use Rattle.script_lines.specs.Bodies.{Body, body, body_of, feed_at, is_word}
use Rattle.script_lines.specs.Fronts.{EndsAt, Says, StopsAt, within}
use Rattle.script_lines.specs.Reading.{Reader}
use Rattle.script_lines.specs.Script.{longest_script}
use Rattle.script_lines.specs.Standing.{IsBegun, IsRead, NoEnd, Standing, Start, is_fresh, is_open, rest_of, rest_told, start_at}
use Rattle.script_lines.specs.declared.place.At.{At}
use Rattle.script_lines.specs.declared.place.At.TheVariants.{Line, Inside, Behind, End}
use Rattle.script_lines.specs.declared.place.Front.TheVariants as front
use Rattle.script_lines.specs.declared.place.Place.{Place}
use Rattle.script_lines.specs.declared.reader.ReadError.{ReadError}
use Rattle.script_lines.specs.declared.reader.ReadError.TheVariants as error
use Rattle.script_lines.proofs.BodyLaws.{body_none, feed_kept, front_ends, led_all, no_end, not_ended, part_given, word_kept}
use Rattle.script_lines.proofs.ScriptLaws.{feed_at_position, feed_within, first_feed}

-- ---- what is ahead

-- What is told ahead of a place: the unread bytes, and what the input has left.
pub record Told (unread : List ℕ) (left : Option (List ℕ)) (count : ℕ) (ahead : List ℕ) : Type 0 where
  pub later : List ℕ
  pub is : left ≡ Some later
  pub bytes : unread ++ later ≡ drop count ahead

pub told_by : (unread : List ℕ) (left : Option (List ℕ)) (count : ℕ) (ahead : List ℕ) → before unread left ≡ Some (drop count ahead) → Told unread left count ahead
told_by unread None count ahead same = cc
told_by unread (Some later) count ahead same = record { later = later; is = refl; bytes = cc }

pub told : (s : Start) (p : Place) (left : Option (List ℕ)) (budget faults : ℕ) (ahead : List ℕ) → Standing s p left budget faults → s.ahead ≡ Some ahead
    → Told p.reader.unread left (p.reader.used - s.used) ahead
told s p left budget faults ahead st is =
    told_by p.reader.unread left (p.reader.used - s.used) ahead (st.ahead ∙ ap (told_after (p.reader.used - s.used)) is)

-- So many of the unread bytes were taken.
before_drop : (count : ℕ) (unread : List ℕ) (left : Option (List ℕ)) → count ≤ length unread → before (drop count unread) left ≡ told_after count (before unread left)
before_drop count unread None fits = refl
before_drop count unread (Some later) fits = ap (λ (l : List ℕ). Some l) (sym (drop-append-le count unread later fits))

told_twice : (m n : ℕ) (x : Option (List ℕ)) → told_after m (told_after n x) ≡ told_after (n + m) x
told_twice m n None = refl
told_twice m n (Some bytes) = ap (λ (l : List ℕ). Some l) (drop-drop m n bytes)

later_ahead : (m n : ℕ) (unread : List ℕ) (left ahead : Option (List ℕ)) → m ≤ length unread → before unread left ≡ told_after n ahead
    → before (drop m unread) left ≡ told_after (n + m) ahead
later_ahead m n unread left ahead fits same = before_drop m unread left fits ∙ ap (told_after m) same ∙ told_twice m n ahead

told_none : (x : Option (List ℕ)) → told_after 0 x ≡ x
told_none None = refl
told_none (Some bytes) = refl

-- ---- the beginning

pub standing_begun : (reader : Reader) (word : List ℕ) (p : Place) (left : Option (List ℕ)) (budget faults : ℕ) → length word ≤ 32 → IsBegun reader word p
    → Standing (start_at word reader left budget faults) p left budget faults
standing_begun reader word p left budget faults short b =
    let used : p.reader.used ≡ reader.used = ap (λ (r : Reader). r.used) b.reader in
    let unread : p.reader.unread ≡ reader.unread = ap (λ (r : Reader). r.unread) b.reader in
    let count : p.reader.used - reader.used ≡ 0 = omega (arith, used) in
    let size : length p.reader.unread ≡ length reader.unread = ap length unread in
    let none : (e : ReadError) → p.stuck ≡ Some e → None ≡ Some e = λ e is. sym b.free ∙ is in
    record {
      tagged = ap (λ (r : Reader). r.tagged) b.reader;
      word = b.word;
      short = let n : length p.word.items ≡ length word = ap length b.word in omega (arith, n, short);
      ahead =
          ap (λ u. before u left) unread ∙ sym (told_none (before reader.unread left)) ∙ ap (λ n. told_after n (before reader.unread left)) (sym count);
      there = λ ahead is. omega (arith, used);
      begins = omega (arith, used);
      sum = omega (arith, used, size);
      falls = omega arith;
      counts = omega arith;
      inside = λ is ahead told'.
          let P : ℕ → Bool → Type 0 = λ n f. IsRead word ahead n f in
          subst (λ n. P n (is_fresh p.at)) (sym count) (subst (P 0) (ap is_fresh (sym b.at)) (record { bytes = refl; end = refl }));
      behind = λ line is. let e : Line ≡ Behind line = sym b.at ∙ is in absurd (cc);
      ended = λ is. let e : Line ≡ End = sym b.at ∙ is in absurd (cc);
      at_end = λ is later there. let e : Line ≡ End = sym b.at ∙ is in absurd (cc);
      within = λ is. let e : Line ≡ End = sym b.at ∙ is in absurd (cc);
      free = λ is. b.refused;
      failed = λ is. let e = none error.Failed is in absurd (cc);
      in_vain = λ is. let e = none error.Failed is in absurd (cc);
      too_long = λ is. let e = none error.TooLong is in absurd (cc);
      full = λ is. let e = none error.TooLong is in absurd (cc);
      no_other = λ is. let e = none error.Memory is in absurd (cc);
    }

-- ---- more was read

pub standing_filled : (s : Start) (p : Place) (reader : Reader) (l l' : Option (List ℕ)) (b b' f f' : ℕ) → before reader.unread l' ≡ before p.reader.unread l
    → reader.tagged ≡ p.reader.tagged → reader.used ≡ p.reader.used → b' + length reader.unread ≡ b + length p.reader.unread → b' ≤ b → f ≤ f' → is_open p.at ≡ true → p.stuck ≡ None
    → Standing s p l b f → Standing s (record p { reader = reader }) l' b' f'
standing_filled s p reader l l' b b' f f' kept tagged used sum falls counts at free st =
    let count : reader.used - s.used ≡ p.reader.used - s.used = ap (λ n. n - s.used) used in
    let closed : (a : At) → p.at ≡ a → is_open a ≡ true = λ a is. ap is_open (sym is) ∙ at in
    let none : (e : ReadError) → p.stuck ≡ Some e → None ≡ Some e = λ e is. sym free ∙ is in
    record {
      tagged = tagged ∙ st.tagged;
      word = st.word;
      short = st.short;
      ahead = kept ∙ st.ahead ∙ ap (λ n. told_after n s.ahead) (sym count);
      there = λ ahead is. let h = st.there ahead is in omega (arith, h, used);
      begins = omega (arith, st.begins, used);
      sum = omega (arith, st.sum, used, sum);
      falls = omega (arith, st.falls, falls);
      counts = omega (arith, st.counts, counts);
      inside = λ is ahead told'. subst (λ n. IsRead s.word ahead n (is_fresh p.at)) (sym count) (st.inside is ahead told');
      behind = λ line is. let e = closed (Behind line) is in absurd (cc);
      ended = λ is. let e = closed End is in absurd (cc);
      at_end = λ is later there. let e = closed End is in absurd (cc);
      within = λ is. let e = closed End is in absurd (cc);
      free = st.free;
      failed = λ is. let e = none error.Failed is in absurd (cc);
      in_vain = λ is. let e = none error.Failed is in absurd (cc);
      too_long = λ is. let e = none error.TooLong is in absurd (cc);
      full = λ is. let e = none error.TooLong is in absurd (cc);
      no_other = λ is. let e = none error.Memory is in absurd (cc);
    }

-- ---- a part of the body was given

taken_front : (count : ℕ) (unread later ahead : List ℕ) (k : ℕ) → count ≤ length unread → unread ++ later ≡ drop k ahead
    → take (k + count) ahead ≡ take k ahead ++ take count unread
taken_front count unread later ahead k fits bytes =
    take-add k count ahead ∙ ap (λ l. take k ahead ++ l) (ap (take count) (sym bytes) ∙ take-append-le count unread later fits)

taken_rest : (count : ℕ) (unread later ahead : List ℕ) (k : ℕ) → count ≤ length unread → unread ++ later ≡ drop k ahead
    → drop (k + count) ahead ≡ drop count unread ++ later
taken_rest count unread later ahead k fits bytes = sym (drop-drop count k ahead) ∙ ap (drop count) (sym bytes) ∙ drop-append-le count unread later fits

parted : (count : ℕ) (unread later : List ℕ) → unread ++ later ≡ take count unread ++ (drop count unread ++ later)
parted count unread later = ap (λ l. l ++ later) (sym (take-append-drop count unread)) ∙ append_assoc (take count unread) (drop count unread) later

-- The body from a place on is what is given, and then the body from there on.
given_body : (word unread later : List ℕ) (fresh : Bool) (at : At) (count : ℕ) → 0 < length (take count unread) → EndsAt (take count unread) at
    → (fresh && is_word word (unread ++ later)) ≡ false → body_of word fresh (unread ++ later) ≡ led_all (take count unread) (body_of word (is_fresh at) (drop count unread ++ later))
given_body word unread later fresh at count some ends misses =
    ap (body_of word fresh) (parted count unread later)
    ∙ part_given word (take count unread) (drop count unread ++ later) fresh at some ends (ap (λ l. fresh && is_word word l) (sym (parted count unread later)) ∙ misses)

read_given : (word ahead unread later : List ℕ) (fresh : Bool) (at : At) (k count : ℕ) → count ≤ length unread → 0 < length (take count unread) → EndsAt (take count unread) at
    → (fresh && is_word word (unread ++ later)) ≡ false → unread ++ later ≡ drop k ahead → IsRead word ahead k fresh → IsRead word ahead (k + count) (is_fresh at)
read_given word ahead unread later fresh at k count fits some ends misses bytes read =
    let b : body_of word fresh (drop k ahead) ≡ led_all (take count unread) (body_of word (is_fresh at) (drop (k + count) ahead)) =
    ap (body_of word fresh) (sym bytes) ∙ given_body word unread later fresh at count some ends misses
    ∙ ap (λ l. led_all (take count unread) (body_of word (is_fresh at) l)) (sym (taken_rest count unread later ahead k fits bytes)) in
    record {
      bytes =
          read.bytes ∙ ap (λ (x : Body). take k ahead ++ x.bytes) b
          ∙ sym (append_assoc (take k ahead) (take count unread) (body_of word (is_fresh at) (drop (k + count) ahead)).bytes)
          ∙ ap (λ l. l ++ (body_of word (is_fresh at) (drop (k + count) ahead)).bytes) (sym (taken_front count unread later ahead k fits bytes));
      end = read.end ∙ ap (λ (x : Body). x.end) b;
    }

pub open_ends : (part : List ℕ) (at : At) → EndsAt part at → is_open at ≡ true
open_ends part Line ends = refl
open_ends part Inside ends = refl
open_ends part (Behind line) ends = absurd ends
open_ends part End ends = absurd ends

pub standing_given : (s : Start) (p : Place) (reader : Reader) (at : At) (l : Option (List ℕ)) (b f count : ℕ) → count ≤ length p.reader.unread → 0 < count
    → reader.tagged ≡ p.reader.tagged → reader.unread ≡ drop count p.reader.unread → reader.used ≡ p.reader.used + count → EndsAt (take count p.reader.unread) at → is_open p.at ≡ true → p.stuck ≡ None
    → ((ahead : List ℕ) → before p.reader.unread l ≡ Some ahead → (is_fresh p.at && is_word p.word.items ahead) ≡ false)
    → Standing s p l b f → Standing s (record p { reader = reader; at = at }) l b f
standing_given s p reader at l b f count fits some tagged unread used ends inside free misses st =
    let shift : reader.used - s.used ≡ (p.reader.used - s.used) + count = omega (arith, used, st.begins) in
    let size : length reader.unread ≡ length p.reader.unread - count = ap length unread ∙ length-drop count p.reader.unread in
    let part : length (take count p.reader.unread) ≡ count = length-take-le count p.reader.unread fits in
    let opened : is_open at ≡ true = open_ends (take count p.reader.unread) at ends in
    let closed : (a : At) → at ≡ a → is_open a ≡ true = λ a is. ap is_open (sym is) ∙ opened in
    let none : (e : ReadError) → p.stuck ≡ Some e → None ≡ Some e = λ e is. sym free ∙ is in
    record {
      tagged = tagged ∙ st.tagged;
      word = st.word;
      short = st.short;
      ahead =
          ap (λ u. before u l) unread ∙ later_ahead count (p.reader.used - s.used) p.reader.unread l s.ahead fits st.ahead
          ∙ ap (λ n. told_after n s.ahead) (sym shift);
      there = λ ahead is.
          let t = told s p l b f ahead st is in
          let all : length p.reader.unread + length t.later ≡ length ahead - (p.reader.used - s.used) =
          sym (length-append p.reader.unread t.later) ∙ ap length t.bytes ∙ length-drop (p.reader.used - s.used) ahead in
          let h = st.there ahead is in
          omega (arith, used, fits, all, h, st.begins);
      begins = omega (arith, st.begins, used);
      sum = omega (arith, st.sum, used, size, fits);
      falls = st.falls;
      counts = st.counts;
      inside = λ is ahead told'.
          let t = told s p l b f ahead st told' in
          let here : (is_fresh p.at && is_word s.word (p.reader.unread ++ t.later)) ≡ false =
          ap (λ w. is_fresh p.at && is_word w (p.reader.unread ++ t.later)) (sym st.word) ∙ misses (p.reader.unread ++ t.later) (ap (before p.reader.unread) t.is) in
          subst (λ n. IsRead s.word ahead n (is_fresh at)) (sym shift)
          (read_given s.word ahead p.reader.unread t.later (is_fresh p.at) at (p.reader.used - s.used) count fits (omega (arith, part, some)) ends here t.bytes
          (st.inside inside ahead told'));
      behind = λ line is. let e = closed (Behind line) is in absurd (cc);
      ended = λ is. let e = closed End is in absurd (cc);
      at_end = λ is later there. let e = closed End is in absurd (cc);
      within = λ is. let e = closed End is in absurd (cc);
      free = st.free;
      failed = λ is. let e = none error.Failed is in absurd (cc);
      in_vain = λ is. let e = none error.Failed is in absurd (cc);
      too_long = λ is. let e = none error.TooLong is in absurd (cc);
      full = λ is. let e = none error.TooLong is in absurd (cc);
      no_other = λ is. let e = none error.Memory is in absurd (cc);
    }

-- ---- the line that ends the body

ends_by : (word : List ℕ) (fresh : Bool) (bytes more : List ℕ) (line : ℕ) (rest : Option ℕ) → first_feed bytes ≡ rest → fresh ≡ true
    → option_map suc (first_feed bytes) ≡ Some line → is_word word bytes ≡ true → body_of word fresh (bytes ++ more) ≡ body [] (Some line)
ends_by word fresh bytes more line None there is at meets = let e : option_map suc None ≡ Some line = ap (option_map suc) (sym there) ∙ at in cc
ends_by word fresh [] more line (Some place) there is at meets = cc
ends_by word fresh (byte ∷ bytes) more line (Some place) there is at meets =
    let e : Some (suc place) ≡ Some line = ap (option_map suc) (sym there) ∙ at in
    let test : (fresh && is_word word (byte ∷ (bytes ++ more))) ≡ true =
    ap (λ (f : Bool). f && is_word word (byte ∷ (bytes ++ more))) is ∙ word_kept word (byte ∷ bytes) more place there ∙ meets in
    front_ends word fresh byte (bytes ++ more) test
    ∙ ap (λ (f : Option ℕ). body [] (option_map suc f)) (feed_at_position (byte ∷ (bytes ++ more)) ∙ feed_kept (byte ∷ bytes) more place there)
    ∙ ap (body []) e

-- The body ends here, of what is ahead.
ends_here : (word : List ℕ) (fresh : Bool) (bytes more : List ℕ) (line : ℕ) → fresh ≡ true → option_map suc (feed_at bytes) ≡ Some line → is_word word bytes ≡ true
    → body_of word fresh (bytes ++ more) ≡ body [] (Some line)
ends_here word fresh bytes more line is at meets = ends_by word fresh bytes more line (first_feed bytes) refl is (ap (option_map suc) (sym (feed_at_position bytes)) ∙ at) meets

line_fits : (bytes : List ℕ) (line : ℕ) (rest : Option ℕ) → first_feed bytes ≡ rest → option_map suc (feed_at bytes) ≡ Some line → line ≤ length bytes
line_fits bytes line None there at = let e : option_map suc None ≡ Some line = ap (option_map suc) (sym (feed_at_position bytes ∙ there)) ∙ at in cc
line_fits bytes line (Some place) there at =
    let e : Some (suc place) ≡ Some line = ap (option_map suc) (sym (feed_at_position bytes ∙ there)) ∙ at in
    let e' : suc place ≡ line = cc in
    let below : place < length bytes = (feed_within (length bytes) bytes place (ap first_feed (take_all (length bytes) bytes (omega arith)) ∙ there)).1 in
    omega (arith, e', below)

-- The line that ends it stands within the bytes in which it was found.
pub end_fits : (bytes : List ℕ) (line : ℕ) → option_map suc (feed_at bytes) ≡ Some line → line ≤ length bytes
end_fits bytes line at = line_fits bytes line (first_feed bytes) refl at

-- The first bytes, and what stands behind them.
split_at : (n : ℕ) (unread later : List ℕ) → unread ++ later ≡ take n unread ++ (drop n unread ++ later)
split_at n unread later = parted n unread later

ended_body : (word unread later : List ℕ) (fresh : Bool) (n line : ℕ) → fresh ≡ true → option_map suc (feed_at (take n unread)) ≡ Some line → is_word word (take n unread) ≡ true
    → body_of word fresh (unread ++ later) ≡ body [] (Some line)
ended_body word unread later fresh n line is at meets =
    ap (body_of word fresh) (split_at n unread later) ∙ ends_here word fresh (take n unread) (drop n unread ++ later) line is at meets

pub standing_ended : (s : Start) (p : Place) (reader : Reader) (l : Option (List ℕ)) (b f line : ℕ)
    → Says p.word.items (is_fresh p.at) (within p.reader) (front.Ends line) → line ≤ length p.reader.unread
    → reader.tagged ≡ p.reader.tagged → reader.unread ≡ drop line p.reader.unread → reader.used ≡ p.reader.used + line → is_open p.at ≡ true → p.stuck ≡ None
    → Standing s p l b f → Standing s (record p { reader = reader; at = Behind line }) l b f
standing_ended s p reader l b f line says fits tagged unread used inside free st =
    let shift : reader.used - s.used ≡ (p.reader.used - s.used) + line = omega (arith, used, st.begins) in
    let size : length reader.unread ≡ length p.reader.unread - line = ap length unread ∙ length-drop line p.reader.unread in
    let none : (e : ReadError) → p.stuck ≡ Some e → None ≡ Some e = λ e is. sym free ∙ is in
    let shut : (x : Bool) → x ≡ false → x ≡ true → false ≡ true = λ x misses meets. sym misses ∙ meets in
    record {
      tagged = tagged ∙ st.tagged;
      word = st.word;
      short = st.short;
      ahead =
          ap (λ u. before u l) unread ∙ later_ahead line (p.reader.used - s.used) p.reader.unread l s.ahead fits st.ahead
          ∙ ap (λ n. told_after n s.ahead) (sym shift);
      there = λ ahead is.
          let t = told s p l b f ahead st is in
          let all : length p.reader.unread + length t.later ≡ length ahead - (p.reader.used - s.used) =
          sym (length-append p.reader.unread t.later) ∙ ap length t.bytes ∙ length-drop (p.reader.used - s.used) ahead in
          let h = st.there ahead is in
          omega (arith, used, fits, all, h, st.begins);
      begins = omega (arith, st.begins, used);
      sum = omega (arith, st.sum, used, size, fits);
      falls = st.falls;
      counts = st.counts;
      inside = λ is. let e : false ≡ true = is in absurd (cc);
      behind = λ n is ahead told'.
          let t = told s p l b f ahead st told' in
          let same : line ≡ n = cc in
          let k : ℕ = p.reader.used - s.used in
          let whole : body_of s.word (is_fresh p.at) (drop k ahead) ≡ body [] (Some line) =
          ap (body_of s.word (is_fresh p.at)) (sym t.bytes) ∙ ap (λ w. body_of w (is_fresh p.at) (p.reader.unread ++ t.later)) (sym st.word)
          ∙ ended_body p.word.items p.reader.unread t.later (is_fresh p.at) (longest_script - p.reader.used) line says.0 says.1.0 says.1.1 in
          let read = st.inside inside ahead told' in
          let back : (reader.used - s.used) - n ≡ k = omega (arith, shift, same) in
          record {
            fits = omega (arith, shift, same);
            bytes =
                read.bytes ∙ ap (λ (x : Body). take k ahead ++ x.bytes) whole ∙ append-nil (take k ahead) ∙ ap (λ m. take m ahead) (sym back);
            end = read.end ∙ ap (λ (x : Body). x.end) whole ∙ ap (λ m. Some m) same;
          };
      ended = λ is. let e : Behind line ≡ End = is in absurd (cc);
      at_end = λ is later there. let e : Behind line ≡ End = is in absurd (cc);
      within = λ is. let e : Behind line ≡ End = is in absurd (cc);
      free = st.free;
      failed = λ is. let e = none error.Failed is in absurd (cc);
      in_vain = λ is. let e = none error.Failed is in absurd (cc);
      too_long = λ is. let e = none error.TooLong is in absurd (cc);
      full = λ is. let e = none error.TooLong is in absurd (cc);
      no_other = λ is. let e = none error.Memory is in absurd (cc);
    }

-- ---- the end of the input

tells_nothing : (left : Option (List ℕ)) (later : List ℕ) → left ≡ Some later → Tells left [] → later ≡ []
tells_nothing None later is none = cc
tells_nothing (Some bytes) later is none = let e : bytes ≡ later = cc in sym e ∙ sym none

pub standing_over : (s : Start) (p : Place) (l : Option (List ℕ)) (b f : ℕ) → feed_at p.reader.unread ≡ None → Tells l [] → p.reader.used + length p.reader.unread ≤ longest_script
    → is_open p.at ≡ true → p.stuck ≡ None → Standing s p l b f → Standing s (record p { at = End }) l b f
standing_over s p l b f none tells within inside free st =
    let stuck : (e : ReadError) → p.stuck ≡ Some e → None ≡ Some e = λ e is. sym free ∙ is in
    record {
      tagged = st.tagged;
      word = st.word;
      short = st.short;
      ahead = st.ahead;
      there = st.there;
      begins = st.begins;
      sum = st.sum;
      falls = st.falls;
      counts = st.counts;
      inside = λ is. let e : false ≡ true = is in absurd (cc);
      behind = λ line is. let e : End ≡ Behind line = is in absurd (cc);
      ended = λ is ahead told'.
          let t = told s p l b f ahead st told' in
          let k : ℕ = p.reader.used - s.used in
          let all : p.reader.unread ≡ drop k ahead =
          sym (append-nil p.reader.unread) ∙ ap (λ l. p.reader.unread ++ l) (sym (tells_nothing l t.later t.is tells)) ∙ t.bytes in
          ap (λ l. (body_of s.word true l).end) (take_all (length ahead) ahead (omega arith))
          ∙ (st.inside inside ahead told').end
          ∙ ap (λ l. (body_of s.word (is_fresh p.at) l).end) (sym all)
          ∙ no_end s.word (is_fresh p.at) p.reader.unread (sym (feed_at_position p.reader.unread) ∙ none);
      at_end = λ is later there. tells_nothing l later there tells;
      within = λ is. within;
      free = st.free;
      failed = λ is. let e = stuck error.Failed is in absurd (cc);
      in_vain = λ is. let e = stuck error.Failed is in absurd (cc);
      too_long = λ is. let e = stuck error.TooLong is in absurd (cc);
      full = λ is. let e = stuck error.TooLong is in absurd (cc);
      no_other = λ is. let e = stuck error.Memory is in absurd (cc);
    }

-- ---- no more can be read

-- Within a front of what is ahead that ends with a part without a line feed, no line ends the body.
no_end_at : (word ahead unread later : List ℕ) (fresh : Bool) (k m : ℕ) → m ≤ length unread → unread ++ later ≡ drop k ahead → IsRead word ahead k fresh
    → feed_at (take m unread) ≡ None → NoEnd word ahead (k + m)
no_end_at word ahead unread later fresh k m fits bytes read none =
    let front : take (k + m) ahead ≡ take k ahead ++ take m unread = taken_front m unread later ahead k fits bytes in
    let rest : drop (k + m) ahead ≡ drop m unread ++ later = taken_rest m unread later ahead k fits bytes in
    let all : (take k ahead ++ take m unread) ++ (drop m unread ++ later) ≡ ahead =
    ap (λ l. l ++ (drop m unread ++ later)) (sym front) ∙ ap (λ l. take (k + m) ahead ++ l) (sym rest) ∙ take-append-drop (k + m) ahead in
    let tail : drop k ahead ≡ take m unread ++ (drop m unread ++ later) = sym bytes ∙ parted m unread later in
    ap (λ l. (body_of word true l).end) front
    ∙ not_ended word fresh (take k ahead) (take m unread) (drop m unread ++ later)
    (ap (λ l. (body_of word true l).bytes) all ∙ read.bytes ∙ ap (λ l. take k ahead ++ (body_of word fresh l).bytes) tail)
    (ap (λ l. (body_of word true l).end) all ∙ read.end ∙ ap (λ l. (body_of word fresh l).end) tail)
    (sym (feed_at_position (take m unread)) ∙ none)

either_of : (a b : ℕ) → Rose a b → raised a 1 ≤ b
either_of a b (inl less) = omega (arith, less)
either_of a b (inr last) = omega (arith, last)

pub standing_failed : (s : Start) (p : Place) (l : Option (List ℕ)) (b f f' refused : ℕ) → feed_at p.reader.unread ≡ None → Rose f f' → f ≤ f'
    → is_open p.at ≡ true → Standing s p l b f → Standing s (record p { stuck = Some error.Failed; refused = refused }) l b f'
standing_failed s p l b f f' refused none rose grew inside st =
    let closed : (a : At) → p.at ≡ a → is_open a ≡ true = λ a is. ap is_open (sym is) ∙ inside in
    let raised' : raised f 1 ≤ f' = either_of f f' rose in
    record {
      tagged = st.tagged;
      word = st.word;
      short = st.short;
      ahead = st.ahead;
      there = st.there;
      begins = st.begins;
      sum = st.sum;
      falls = st.falls;
      counts = omega (arith, st.counts, grew);
      inside = st.inside;
      behind = λ line is. let e = closed (Behind line) is in absurd (cc);
      ended = λ is. let e = closed End is in absurd (cc);
      at_end = λ is later there. let e = closed End is in absurd (cc);
      within = λ is. let e = closed End is in absurd (cc);
      free = λ is. absurd (cc);
      failed = λ is. omega (arith, raised', st.counts);
      in_vain = λ is ahead told'.
          let t = told s p l b f ahead st told' in
          no_end_at s.word ahead p.reader.unread t.later (is_fresh p.at) (p.reader.used - s.used) (length p.reader.unread) (omega arith) t.bytes (st.inside inside ahead told')
          (ap feed_at (take_all (length p.reader.unread) p.reader.unread (omega arith)) ∙ none);
      too_long = λ is. absurd (cc);
      full = λ is. absurd (cc);
      no_other = λ is. absurd (cc);
    }

pub standing_full : (s : Start) (p : Place) (l : Option (List ℕ)) (b f refused : ℕ) → feed_at (within p.reader) ≡ None
    → longest_script < p.reader.used + length p.reader.unread → p.reader.used ≤ longest_script → is_open p.at ≡ true
    → Standing s p l b f → Standing s (record p { stuck = Some error.TooLong; refused = refused }) l b f
standing_full s p l b f refused none over used inside st =
    let closed : (a : At) → p.at ≡ a → is_open a ≡ true = λ a is. ap is_open (sym is) ∙ inside in
    let count : (p.reader.used - s.used) + (longest_script - p.reader.used) ≡ longest_script - s.used = omega (arith, st.begins, used) in
    record {
      tagged = st.tagged;
      word = st.word;
      short = st.short;
      ahead = st.ahead;
      there = st.there;
      begins = st.begins;
      sum = st.sum;
      falls = st.falls;
      counts = st.counts;
      inside = st.inside;
      behind = λ line is. let e = closed (Behind line) is in absurd (cc);
      ended = λ is. let e = closed End is in absurd (cc);
      at_end = λ is later there. let e = closed End is in absurd (cc);
      within = λ is. let e = closed End is in absurd (cc);
      free = λ is. absurd (cc);
      failed = λ is. absurd (cc);
      in_vain = λ is. absurd (cc);
      too_long = λ is. over;
      full = λ is ahead told'.
          let t = told s p l b f ahead st told' in
          ap (λ n. (body_of s.word true (take n ahead)).end) (sym count)
          ∙ no_end_at s.word ahead p.reader.unread t.later (is_fresh p.at) (p.reader.used - s.used) (longest_script - p.reader.used) (omega (arith, over)) t.bytes
          (st.inside inside ahead told') none;
      no_other = λ is. absurd (cc);
    }

-- ---- what is left of the body

rest_open : (word : List ℕ) (at : At) (ahead : List ℕ) → is_open at ≡ true → rest_of word at ahead ≡ (body_of word (is_fresh at) ahead).bytes
rest_open word Line ahead inside = refl
rest_open word Inside ahead inside = refl
rest_open word (Behind line) ahead inside = cc
rest_open word End ahead inside = cc

-- A part that is given goes before what is left then.
pub left_given : (word unread : List ℕ) (old at : At) (count : ℕ) (left : Option (List ℕ)) → 0 < count → count ≤ length unread → EndsAt (take count unread) at → is_open old ≡ true
    → ((ahead : List ℕ) → before unread left ≡ Some ahead → (is_fresh old && is_word word ahead) ≡ false)
    → rest_told word old (before unread left) ≡ before (take count unread) (rest_told word at (before (drop count unread) left))
left_given word unread old at count None some fits ends inside misses = refl
left_given word unread old at count (Some later) some fits ends inside misses =
    let part : length (take count unread) ≡ count = length-take-le count unread fits in
    ap (λ (l : List ℕ). Some l)
    (rest_open word old (unread ++ later) inside
    ∙ ap (λ (x : Body). x.bytes) (given_body word unread later (is_fresh old) at count (omega (arith, part, some)) ends (misses (unread ++ later) refl))
    ∙ ap (λ l. take count unread ++ l) (sym (rest_open word at (drop count unread ++ later) (open_ends (take count unread) at ends))))

-- Where the line comes that ends the body, nothing of it is left.
pub left_ended : (word unread : List ℕ) (old : At) (n line : ℕ) (left left' : Option (List ℕ)) (unread' : List ℕ) → is_fresh old ≡ true → option_map suc (feed_at (take n unread)) ≡ Some line
    → is_word word (take n unread) ≡ true → left' ≡ left → is_open old ≡ true
    → rest_told word old (before unread left) ≡ rest_told word (Behind line) (before unread' left')
left_ended word unread old n line None left' unread' is at meets same inside = let P : Option (List ℕ) → Type 0 = λ x. None ≡ rest_told word (Behind line) (before unread' x) in subst P (sym same) refl
left_ended word unread old n line (Some later) left' unread' is at meets same inside =
    let P : Option (List ℕ) → Type 0 = λ x. rest_told word old (before unread (Some later)) ≡ rest_told word (Behind line) (before unread' x) in
    subst P (sym same)
    (ap (λ (l : List ℕ). Some l)
    (rest_open word old (unread ++ later) inside ∙ ap (λ (x : Body). x.bytes) (ended_body word unread later (is_fresh old) n line is at meets)))

over_bytes : (word : List ℕ) (fresh : Bool) (bytes : List ℕ) → (bytes ≡ []) ⊎ ((fresh && is_word word bytes) ≡ true) → (body_of word fresh bytes).bytes ≡ []
over_bytes word fresh [] ends = ap (λ (x : Body). x.bytes) (body_none word fresh)
over_bytes word fresh (byte ∷ bytes) (inl none) = cc
over_bytes word fresh (byte ∷ bytes) (inr meets) = ap (λ (x : Body). x.bytes) (front_ends word fresh byte bytes meets)

-- Nor where the input ends it.
pub left_over : (word unread : List ℕ) (old : At) (left : Option (List ℕ)) → Tells left [] → (unread ≡ []) ⊎ ((is_fresh old && is_word word unread) ≡ true) → is_open old ≡ true
    → rest_told word old (before unread left) ≡ rest_told word End (before unread left)
left_over word unread old None tells ends inside = refl
left_over word unread old (Some later) tells ends inside =
    let none : later ≡ [] = sym tells in
    ap (λ (l : List ℕ). Some l)
    (rest_open word old (unread ++ later) inside ∙ ap (λ l. (body_of word (is_fresh old) (unread ++ l)).bytes) none
    ∙ ap (λ l. (body_of word (is_fresh old) l).bytes) (append-nil unread) ∙ over_bytes word (is_fresh old) unread ends)

-- What is over tells nothing more.
pub left_none : (word : List ℕ) (at : At) (told' : Option (List ℕ)) → is_open at ≡ false → Tells (rest_told word at told') []
left_none word at None shut = tt
left_none word Line (Some ahead) shut = cc
left_none word Inside (Some ahead) shut = cc
left_none word (Behind line) (Some ahead) shut = refl
left_none word End (Some ahead) shut = refl

-- What no longer can be read, for either reason.
pub standing_stuck : (s : Start) (p : Place) (l : Option (List ℕ)) (b f f' refused : ℕ) (e : ReadError) → StopsAt p.reader e → (e ≡ error.Failed → Rose f f') → f ≤ f'
    → p.reader.used ≤ longest_script → is_open p.at ≡ true → Standing s p l b f → Standing s p l b f' → Standing s (record p { stuck = Some e; refused = refused }) l b f'
standing_stuck s p l b f f' refused error.Failed stops rose grew used inside st st' = standing_failed s p l b f f' refused stops (rose refl) grew inside st
standing_stuck s p l b f f' refused error.TooLong stops rose grew used inside st st' = standing_full s p l b f' refused stops.0 stops.1 used inside st'
standing_stuck s p l b f f' refused error.Memory stops rose grew used inside st st' = absurd stops

-- ---- reads that fail again

pub standing_again : (s : Start) (p : Place) (l : Option (List ℕ)) (b f refused : ℕ) → (p.stuck ≡ None → ⊥) → Standing s p l b f
    → Standing s (record p { refused = refused }) l b f
standing_again s p l b f refused stuck st = record {
  tagged = st.tagged;
  word = st.word;
  short = st.short;
  ahead = st.ahead;
  there = st.there;
  begins = st.begins;
  sum = st.sum;
  falls = st.falls;
  counts = st.counts;
  inside = st.inside;
  behind = st.behind;
  ended = st.ended;
  at_end = st.at_end;
  within = st.within;
  free = λ is. absurd (stuck is);
  failed = st.failed;
  in_vain = st.in_vain;
  too_long = st.too_long;
  full = st.full;
  no_other = st.no_other;
}

-- The same place, by another name.
pub standing_at : (s : Start) (p p' : Place) (l : Option (List ℕ)) (b f : ℕ) → p' ≡ p → Standing s p l b f → Standing s p' l b f
standing_at s p p' l b f same st = subst (λ x. Standing s x l b f) (sym same) st

-- No more than a part of the unread bytes is given.
pub taken_within : (n m k : ℕ) (most bytes unread : List ℕ) → most ≡ take m bytes → bytes ≡ take k unread → n ≤ length most → take n most ≡ take n unread
taken_within n m k most bytes unread first second fits =
    let least : (i : ℕ) (l : List ℕ) → length (take i l) ≤ i = λ i l. let h : length (take i l) ≡ min i (length l) = length-take i l in omega (arith, h) in
    let a : n ≤ m = let h : length (take m bytes) ≤ m = least m bytes in let e : length most ≡ length (take m bytes) = ap length first in omega (arith, fits, h, e) in
    let b : n ≤ k =
    let e : length most ≡ min m (length bytes) = ap length first ∙ length-take m bytes in
    let e' : length bytes ≡ min k (length unread) = ap length second ∙ length-take k unread in
    omega (arith, fits, e, e') in
    ap (take n) first ∙ take-take n m bytes a ∙ ap (take n) second ∙ take-take n k unread b
