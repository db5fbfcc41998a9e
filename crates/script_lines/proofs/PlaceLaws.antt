-- Laws of a read at a place in a body: what was looked at, given and passed.
use Rattle.std.proofs.Common.{◌&&◌, ◌⊎◌, ◌≡◌, ◌≤◌, ◌<◌, ◌+◌, ◌-◌, ℕ, Bool, true, false, not, List, [], ◌++◌, length, take, drop, Option, Some, None, is_some, refl, sym, ap, ◌∙◌, append_assoc}
use Rattle.std.proofs.lemmas.List.{take-append-drop}
use Rattle.base_files.specs.Told.{before, Tells}
use Rattle.base_files.proofs.Telling.{before-nil}
use Rattle.script_lines.specs.Bodies.{is_word}
use Rattle.script_lines.specs.Fronts.{EndsAt, Says, Seen, within}
use Rattle.script_lines.specs.Script.{longest_script}
use Rattle.script_lines.specs.Standing.{Standing, Start, is_fresh, is_open, left_of, rest_told}
use Rattle.script_lines.specs.declared.place.At.{At}
use Rattle.script_lines.specs.declared.place.At.TheVariants.{Line, Inside, Behind, End}
use Rattle.script_lines.specs.declared.place.Front.TheVariants as front
use Rattle.script_lines.specs.declared.place.Place.{Place}
use Rattle.script_lines.specs.declared.reader.ReadError.{ReadError}
use Rattle.script_lines.proofs.StandingLaws.{left_ended, left_given, left_over, standing_at, standing_filled}

-- Only more was read.
pub record Looked (p q : Place) (l l' : Option (List ℕ)) : Type 0 where
  pub rest : q ≡ record p { reader = q.reader }
  pub kept : before q.reader.unread l' ≡ before p.reader.unread l
  pub tagged : q.reader.tagged ≡ p.reader.tagged
  pub used : q.reader.used ≡ p.reader.used
  pub inside : is_open p.at ≡ true
  pub free : p.stuck ≡ None

pub looked_at : (p q : Place) (l l' : Option (List ℕ)) → Looked p q l l' → q.at ≡ p.at
looked_at p q l l' seen = ap (λ (x : Place). x.at) seen.rest

pub looked_word : (p q : Place) (l l' : Option (List ℕ)) → Looked p q l l' → q.word.items ≡ p.word.items
looked_word p q l l' seen = ap (λ (x : Place). x.word.items) seen.rest

pub looked_open : (p q : Place) (l l' : Option (List ℕ)) → Looked p q l l' → is_open q.at ≡ true
looked_open p q l l' seen = ap is_open (looked_at p q l l' seen) ∙ seen.inside

pub looked_free : (p q : Place) (l l' : Option (List ℕ)) → Looked p q l l' → q.stuck ≡ None
looked_free p q l l' seen = ap (λ (x : Place). x.stuck) seen.rest ∙ seen.free

pub looked_left : (p q : Place) (l l' : Option (List ℕ)) → Looked p q l l' → left_of p l ≡ left_of q l'
looked_left p q l l' seen =
    ap (λ w. rest_told w p.at (before p.reader.unread l)) (sym (looked_word p q l l' seen))
    ∙ ap (λ a. rest_told q.word.items a (before p.reader.unread l)) (sym (looked_at p q l l' seen))
    ∙ ap (rest_told q.word.items q.at) (sym seen.kept)

pub looked_stands : (s : Start) (p q : Place) (l l' : Option (List ℕ)) (b b' f f' : ℕ) → Looked p q l l' → b' + length q.reader.unread ≡ b + length p.reader.unread
    → b' ≤ b → f ≤ f' → Standing s p l b f → Standing s q l' b' f'
looked_stands s p q l l' b b' f f' seen sum falls counts st =
    standing_at s (record p { reader = q.reader }) q l' b' f' seen.rest
    (standing_filled s p q.reader l l' b b' f f' seen.kept seen.tagged seen.used sum falls counts seen.inside seen.free st)

-- A part of the body was given.
pub given_left : (p q r : Place) (l l' : Option (List ℕ)) (count : ℕ) (part : List ℕ) → Looked p q l l' → r ≡ record q { reader = r.reader; at = r.at } → 0 < count
    → count ≤ length q.reader.unread → EndsAt (take count q.reader.unread) r.at
    → ((ahead : List ℕ) → before q.reader.unread l' ≡ Some ahead → (is_fresh q.at && is_word q.word.items ahead) ≡ false)
    → part ≡ take count q.reader.unread → r.reader.unread ≡ drop count q.reader.unread → left_of p l ≡ before part (left_of r l')
given_left p q r l l' count part seen rest some fits ends misses is unread =
    let word : r.word.items ≡ q.word.items = ap (λ (x : Place). x.word.items) rest in
    looked_left p q l l' seen
    ∙ left_given q.word.items q.reader.unread q.at r.at count l' some fits ends (looked_open p q l l' seen) misses
    ∙ ap (λ b. before b (rest_told q.word.items r.at (before (drop count q.reader.unread) l'))) (sym is)
    ∙ ap (λ u. before part (rest_told q.word.items r.at (before u l'))) (sym unread)
    ∙ ap (λ w. before part (rest_told w r.at (before r.reader.unread l'))) (sym word)

-- The line was passed that ends the body.
pub ended_left : (p q r : Place) (l l' : Option (List ℕ)) (line : ℕ) (part : List ℕ) → Looked p q l l' → r ≡ record q { reader = r.reader; at = Behind line }
    → Says q.word.items (is_fresh q.at) (within q.reader) (front.Ends line) → part ≡ [] → left_of p l ≡ before part (left_of r l')
ended_left p q r l l' line part seen rest says none =
    let word : r.word.items ≡ q.word.items = ap (λ (x : Place). x.word.items) rest in
    let at : r.at ≡ Behind line = ap (λ (x : Place). x.at) rest in
    looked_left p q l l' seen
    ∙ left_ended q.word.items q.reader.unread q.at (longest_script - q.reader.used) line l' l' r.reader.unread says.0 says.1.0 says.1.1 refl (looked_open p q l l' seen)
    ∙ ap (λ w. rest_told w (Behind line) (before r.reader.unread l')) (sym word)
    ∙ ap (λ a. rest_told r.word.items a (before r.reader.unread l')) (sym at)
    ∙ sym (before-nil (left_of r l')) ∙ ap (λ b. before b (left_of r l')) (sym none)

-- The input ended the body.
pub over_left : (p q : Place) (l l' : Option (List ℕ)) (part : List ℕ) → Looked p q l l' → Tells l' []
    → (q.reader.unread ≡ []) ⊎ ((is_fresh q.at && is_word q.word.items q.reader.unread) ≡ true) → part ≡ []
    → left_of p l ≡ before part (rest_told q.word.items End (before q.reader.unread l'))
over_left p q l l' part seen tells ends none =
    looked_left p q l l' seen
    ∙ left_over q.word.items q.reader.unread q.at l' tells ends (looked_open p q l l' seen)
    ∙ sym (before-nil (rest_told q.word.items End (before q.reader.unread l')))
    ∙ ap (λ b. before b (rest_told q.word.items End (before q.reader.unread l'))) (sym none)

-- A place is open that is not over.
not_over : (a : At) (over : Bool) → over ≡ not (is_open a) → over ≡ false → is_open a ≡ true
not_over Line over is no' = refl
not_over Inside over is no' = refl
not_over (Behind line) over is no' = absurd (cc)
not_over End over is no' = absurd (cc)

-- What is not stuck.
none_stuck : (stuck : Option ReadError) (some : Bool) → some ≡ is_some stuck → some ≡ false → stuck ≡ None
none_stuck None some is misses = refl
none_stuck (Some e) some is misses = absurd (cc)

pub looked : (p q : Place) (l l' : Option (List ℕ)) (over some : Bool) → q ≡ record p { reader = q.reader } → before q.reader.unread l' ≡ before p.reader.unread l
    → q.reader.tagged ≡ p.reader.tagged → q.reader.used ≡ p.reader.used → over ≡ not (is_open p.at) → over ≡ false → some ≡ is_some p.stuck → some ≡ false → Looked p q l l'
looked p q l l' over some rest kept tagged used over_is over_not some_is some_not =
    record { rest = rest; kept = kept; tagged = tagged; used = used; inside = not_over p.at over over_is over_not; free = none_stuck p.stuck some some_is some_not }

seen_by : (unread : List ℕ) (l : Option (List ℕ)) (k : ℕ) (fresh : Bool) (word ahead : List ℕ) → ((more : List ℕ) → (fresh && is_word word (take k unread ++ more)) ≡ false)
    → before unread l ≡ Some ahead → (fresh && is_word word ahead) ≡ false
seen_by unread None k fresh word ahead misses is = cc
seen_by unread (Some later) k fresh word ahead misses is =
    let same : unread ++ later ≡ ahead = cc in
    ap (λ b. fresh && is_word word b) (sym same ∙ ap (λ b. b ++ later) (sym (take-append-drop k unread)) ∙ append_assoc (take k unread) (drop k unread) later)
    ∙ misses (drop k unread ++ later)

-- What stands within the greatest length of a script stands at the front of all.
pub body_seen : (p : Place) (l : Option (List ℕ)) → Says p.word.items (is_fresh p.at) (within p.reader) front.Body → Seen p l front.Body
body_seen p l says = (says.0, λ ahead is. seen_by p.reader.unread l (longest_script - p.reader.used) (is_fresh p.at) p.word.items ahead says.1 is)
