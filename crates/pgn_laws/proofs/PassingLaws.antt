-- One token is passed, with the white space before it.
use Rattle.std.proofs.Common.{◌≡◌, ◌≤◌, ◌+◌, ◌-◌, ◌==◌, ◌||◌, nat_lt, ℕ, Bool, true, false, not, List, [], ◌∷◌, ◌++◌, length, drop, refl, ap, ◌∙◌, arith, length-append, fold}
use Rattle.pgn_laws.proofs.RunLaws.{apart, past_two}
use Rattle.std.proofs.lemmas.Bool.{and_parts, and_right, or_parts, not-true}
use Rattle.pgn_read.specs.declared.place.Place.{Place}
use Rattle.pgn_read.specs.Place.{next_place}
use Rattle.pgn_read.specs.Bytes.{is_white}
use Rattle.pgn_read.specs.declared.item.GameWhat.TheVariants.{TooLong}
use Rattle.pgn_read.specs.Token.{Token, Lexed, lexed_as}
use Rattle.pgn_read.specs.Lexing.{lexed, size}
use Rattle.pgn_read.specs.Text.{At, here, behind_gap, skipped, behind_token}
use Rattle.pgn_read.specs.Reading.{Reading, Effect, ends_before, is_faulty, effect, is_next_game}
use Rattle.pgn_read.specs.Items.{effect_at, by_effect, item_at}
use Rattle.pgn_read.proofs.ItemLaws.{token_taken}
use Rattle.pgn_laws.proofs.SpelledLaws.{are_white}

-- The first byte of a token: no white space, and no sign of a line that is skipped.
abbrev pub begins_token : ℕ → Bool
begins_token byte = not (is_white byte || (byte == 37))

sub_none : (room : ℕ) → room ≡ room - 0
sub_none room = omega arith

pub gap_passed : (gap : List ℕ) (place : Place) (room byte : ℕ) (text : List ℕ) → are_white gap ≡ true → begins_token byte ≡ true
    → behind_gap false place room (gap ++ byte ∷ text) ≡ here (fold next_place place gap) (room - length gap) (byte ∷ text)
gap_passed [] place room byte text white begins =
    let n = or_parts (is_white byte) (byte == 37) (not-true (is_white byte || (byte == 37)) begins) in
    rw n.1 rw (and_right (place.column == 1) false refl) rw n.0 (ap (λ k. here place k (byte ∷ text)) (sub_none room))
gap_passed (w ∷ gap) place room byte text white begins =
    let b = and_parts (is_white w) (are_white gap) white in
    let rest = gap_passed gap (next_place place w) (room - 1) byte text b.1 begins in
    let count : room - 1 - length gap ≡ room - length (w ∷ gap) = omega arith in
    rw (apart is_white w 37 b.0 refl) rw (and_right (place.column == 1) false refl) rw b.0 (rest ∙ ap (λ n. here (fold next_place (next_place place w) gap) n (byte ∷ text)) count)

drop_all : (xs ys : List ℕ) → drop (length xs) (xs ++ ys) ≡ ys
drop_all [] ys = refl
drop_all (x ∷ xs) ys = drop_all xs ys

size_is : (body more : List ℕ) (t : Token) → lexed (body ++ more) ≡ lexed_as t more → size (body ++ more) ≡ length body
size_is body more t e =
    let rest : length (lexed (body ++ more)).rest ≡ length more = ap (λ (l : Lexed). length l.rest) e in
    omega (arith, rest, length-append body more)

pub enough_room : (room n : ℕ) → n ≤ room → nat_lt room n ≡ false
enough_room room n fits = search (arith, fits)

-- Behind white space stands a token with this effect. What is left behind it is within the limit, but for the bytes of later games.
pub record Meets (r : Reading) (a : At) (e : Effect) (more others : List ℕ) : Type 0 where
  pub at : At
  pub same : item_at r (skipped a) ≡ by_effect r at (λ s. item_at s (skipped (behind_token at))) e
  pub bytes : (behind_token at).bytes ≡ more
  pub fits : length more ≤ (behind_token at).room + length others

pub token_met : (r : Reading) (e : Effect) (a : At) (gap : List ℕ) (byte : ℕ) (body more others : List ℕ) (t : Token)
    → a.bytes ≡ gap ++ ((byte ∷ body) ++ more) → are_white gap ≡ true → begins_token byte ≡ true
    → lexed ((byte ∷ body) ++ more) ≡ lexed_as t more → is_next_game r (byte ∷ (body ++ more)) ≡ false → effect t r ≡ e
    → length a.bytes ≤ a.room + length others → length others ≤ length more → Meets r a e more others
token_met r e a gap byte body more others t bytes white begins lexes game is fits suffix =
    let text : List ℕ = (byte ∷ body) ++ more in
    let b : At = here (fold next_place a.place gap) (a.room - length gap) text in
    let stands : skipped a ≡ b =
    ap (λ w. behind_gap false a.place a.room w) bytes ∙ gap_passed gap a.place a.room byte (body ++ more) white begins in
    let n : size text ≡ length (byte ∷ body) = size_is (byte ∷ body) more t lexes in
    let whole : length a.bytes ≡ length gap + (length (byte ∷ body) + length more) =
    ap length bytes ∙ length-append gap text ∙ ap (λ k. length gap + k) (length-append (byte ∷ body) more) in
    let within : size text ≤ a.room - length gap = omega (arith, n, whole, fits, suffix) in
    let step : effect_at r b ≡ e =
    past_two (is_next_game r text) (nat_lt (a.room - length gap) (size text)) ends_before (is_faulty TooLong) (effect (lexed text).token r) game
    (enough_room (a.room - length gap) (size text) within)
    ∙ ap (λ (l : Lexed). effect l.token r) lexes
    ∙ is in
    record {
      at = b;
      same = ap (item_at r) stands ∙ token_taken r b ∙ ap (by_effect r b (λ q. item_at q (skipped (behind_token b)))) step;
      bytes = ap (λ k. drop k text) n ∙ drop_all (byte ∷ body) more;
      fits = omega (arith, n, whole, fits, suffix);
    }
