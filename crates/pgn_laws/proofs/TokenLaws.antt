-- Each token that is written is read as the same token, whatever may stand behind it.
use Rattle.std.proofs.Common.{◌≡◌, ◌<◌, ◌==◌, ℕ, Bool, true, false, not, cond, List, [], ◌∷◌, ◌++◌, map, codes, Some, option_map, refl, sym, ap, ◌∙◌, arith, append_assoc, append-nil}
use Rattle.std.proofs.lemmas.Bool.{and_from, and_parts, and_right}
use Rattle.std.specs.List.{list_all}
use Rattle.std.specs.Option.{unwrap_or}
use Rattle.std.specs.Char.{is_ascii_digit}
use Rattle.std.specs.Fmt.{decimal}
use Rattle.cell_core.specs.declared.man.Colour.{Colour}
use Rattle.cell_core.specs.declared.man.Colour.TheVariants.{White, Black}
use Rattle.game_tree.specs.declared.head.Outcome.{Outcome}
use Rattle.game_tree.specs.declared.head.Outcome.TheVariants as outcome
use Rattle.game_tree.specs.Decimal.{decimal_read}
use Rattle.game_tree.proofs.DecimalLemmas.{decimal_read-decimal}
use Rattle.pgn_write.specs.Token.{Token as Written, token_text, without_brace}
use Rattle.pgn_write.specs.Token as written
use Rattle.pgn_write.specs.Layout.{holds_next}
use Rattle.pgn_read.specs.Bytes.{is_move_byte, is_glyph, has_zero, behind, begins}
use Rattle.pgn_read.specs.Token.{Token, Lexed, lexed_as}
use Rattle.pgn_read.specs.Token as token
use Rattle.pgn_read.specs.Lexing.{braced, run_from, number_from, digit_from, by_kind, lexed}
use Rattle.pgn_laws.proofs.SpelledLaws.{are_white, stops}
use Rattle.pgn_laws.proofs.PassingLaws.{begins_token}
use Rattle.pgn_laws.proofs.RunLaws.{apart, ends_run, front_run, behind_run, stops_run, digit_moving, move_no_gap}
use Rattle.pgn_laws.proofs.DecimalLaws.{IsNumber, decimal_number}

-- A written token is read as this one. White space that it ends with stands behind the token that is read.
pub record IsReadAs (w : Written) (t : Token) : Type 0 where
  pub first : ℕ
  pub body : List ℕ
  pub trail : List ℕ
  pub spelled : token_text w ≡ (first ∷ body) ++ trail
  pub white : are_white trail ≡ true
  pub begins : begins_token first ≡ true
  pub no_tag : (first == 91) ≡ false
  pub lexes : (more : List ℕ) → (holds_next w ≡ false → stops more ≡ true) → lexed (first ∷ (body ++ (trail ++ more))) ≡ lexed_as t (trail ++ more)

-- ---- brackets and results

pub opens_read : IsReadAs written.opens token.opens
unfolding lexed
opens_read = record { first = 40; body = []; trail = []; spelled = refl; white = refl; begins = refl; no_tag = refl; lexes = λ more stop. refl }

pub closes_read : IsReadAs written.closes token.closes
unfolding lexed
closes_read = record { first = 41; body = []; trail = []; spelled = refl; white = refl; begins = refl; no_tag = refl; lexes = λ more stop. refl }

pub ending_read : (outcome : Outcome) → IsReadAs (written.ending outcome) (token.ending outcome)
unfolding lexed digit_from
ending_read outcome.White = record { first = 49; body = codes "-0"; trail = []; spelled = refl; white = refl; begins = refl; no_tag = refl; lexes = λ more stop. refl }
ending_read outcome.Black = record { first = 48; body = codes "-1"; trail = []; spelled = refl; white = refl; begins = refl; no_tag = refl; lexes = λ more stop. refl }
ending_read outcome.Draw = record { first = 49; body = codes "/2-1/2"; trail = []; spelled = refl; white = refl; begins = refl; no_tag = refl; lexes = λ more stop. refl }
ending_read outcome.Unknown = record { first = 42; body = []; trail = []; spelled = refl; white = refl; begins = refl; no_tag = refl; lexes = λ more stop. refl }

-- ---- comments

no_brace : (byte : ℕ) (c : Bool) → (byte == 125) ≡ c → (cond c 41 byte == 125) ≡ false
no_brace byte true is = refl
no_brace byte false is = is

braces_out : (text : List ℕ) → list_all (λ byte. not (byte == 125)) (map without_brace text) ≡ true
braces_out [] = refl
braces_out (byte ∷ text) = rw (no_brace byte (byte == 125) refl) (braces_out text)

pub comment_read : (text : List ℕ) → has_zero (map without_brace text) ≡ false → IsReadAs (written.comment text) (token.comment (map without_brace text))
unfolding lexed
comment_read text free =
    let inner : List ℕ = map without_brace text in
    record {
      first = 123;
      body = inner ++ 125 ∷ [];
      trail = [];
      spelled = sym (append-nil (123 ∷ inner ++ 125 ∷ []));
      white = refl;
      begins = refl;
      no_tag = refl;
      lexes = λ more stop.
          let whole : (inner ++ 125 ∷ []) ++ more ≡ inner ++ 125 ∷ more = append_assoc inner (125 ∷ []) more in
          ap (λ l. lexed (123 ∷ l)) whole
          ∙ (λ i. braced (front_run (λ byte. not (byte == 125)) inner (125 ∷ more) (braces_out text) refl i)
          (behind_run (λ byte. not (byte == 125)) inner (125 ∷ more) (braces_out text) refl i))
          ∙ rw free refl;
    }

-- ---- NAGs

number_whole : (text : List ℕ) → IsNumber text → list_all is_ascii_digit text ≡ true
number_whole text n = ap (list_all is_ascii_digit) n.is ∙ and_from _ _ n.digit n.digits

pub nag_read : (n : ℕ) → n < 256 → IsReadAs (written.nag n) (token.nag n)
unfolding lexed
nag_read n small =
    let digits : list_all is_ascii_digit (decimal n) ≡ true = number_whole (decimal n) (decimal_number n) in
    let value : decimal_read 255 (decimal n) ≡ Some n = decimal_read-decimal 255 (decimal n) n (omega arith) (omega arith) refl in
    record {
      first = 36;
      body = decimal n;
      trail = [];
      spelled = sym (append-nil (36 ∷ decimal n));
      white = refl;
      begins = refl;
      no_tag = refl;
      lexes = λ more stop.
          let ends : ends_run is_ascii_digit more ≡ true = stops_run is_ascii_digit more (stop refl) refl refl refl in
          (λ i. lexed_as (unwrap_or (option_map token.nag (decimal_read 255 (front_run is_ascii_digit (decimal n) more digits ends i))) token.bad)
          (behind_run is_ascii_digit (decimal n) more digits ends i))
          ∙ ap (λ v. lexed_as (unwrap_or (option_map token.nag v) token.bad) more) value;
    }

-- ---- numbers and moves

-- A byte that begins no token of another kind.
by_kind_is : (b : ℕ) (text : List ℕ) → (b == 91) ≡ false → (b == 123) ≡ false → (b == 59) ≡ false → (b == 36) ≡ false → (b == 40) ≡ false
    → (b == 41) ≡ false → (b == 42) ≡ false → (b == 46) ≡ false → lexed (b ∷ text) ≡ by_kind b (b ∷ text) text
unfolding lexed
by_kind_is b text p q r s t u v w = rw p rw q rw r rw s rw t rw u rw v rw w refl

move_byte_kind : (b : ℕ) (text : List ℕ) → is_move_byte b ≡ true → lexed (b ∷ text) ≡ by_kind b (b ∷ text) text
move_byte_kind b text moves =
    by_kind_is b text (apart is_move_byte b 91 moves refl) (apart is_move_byte b 123 moves refl) (apart is_move_byte b 59 moves refl)
    (apart is_move_byte b 36 moves refl) (apart is_move_byte b 40 moves refl) (apart is_move_byte b 41 moves refl)
    (apart is_move_byte b 42 moves refl) (apart is_move_byte b 46 moves refl)

no_glyph : (b : ℕ) → is_move_byte b ≡ true → is_glyph b ≡ false
no_glyph b moves = rw (apart is_move_byte b 33 moves refl) (apart is_move_byte b 63 moves refl)

move_begins : (b : ℕ) → is_move_byte b ≡ true → begins_token b ≡ true
move_begins b moves = ap not (move_no_gap b moves)

-- The text of a move: bytes of moves, of which the first is no digit.
pub record IsSanText (text : List ℕ) : Type 0 where
  pub first : ℕ
  pub more : List ℕ
  pub is : text ≡ first ∷ more
  pub moves : is_move_byte first ≡ true
  pub no_digit : is_ascii_digit first ≡ false
  pub all : list_all is_move_byte more ≡ true

second : (a b : Bool) (x y z : Lexed) → a ≡ false → b ≡ true → cond a x (cond b y z) ≡ y
second a b x y z p q = rw p rw q refl

third : (a b c : Bool) (x y z w : Lexed) → a ≡ false → b ≡ false → c ≡ true → cond a x (cond b y (cond c z w)) ≡ z
third a b c x y z w p q r = rw p rw q rw r refl

by_move : (b : ℕ) (text more : List ℕ) → is_glyph b ≡ false → is_ascii_digit b ≡ false → is_move_byte b ≡ true → by_kind b text more ≡ run_from is_move_byte token.move text
by_move b text more p q r = third (is_glyph b) (is_ascii_digit b) (is_move_byte b) _ _ (run_from is_move_byte token.move text) _ p q r

by_digit : (b : ℕ) (text more : List ℕ) → is_glyph b ≡ false → is_ascii_digit b ≡ true → by_kind b text more ≡ digit_from text
by_digit b text more p q = second (is_glyph b) (is_ascii_digit b) _ (digit_from text) _ p q

pub move_read : (text : List ℕ) → IsSanText text → IsReadAs (written.move text) (token.move text)
move_read text san =
    let whole : list_all is_move_byte (san.first ∷ san.more) ≡ true = and_from _ _ san.moves san.all in
    record {
      first = san.first;
      body = san.more;
      trail = [];
      spelled = san.is ∙ sym (append-nil (san.first ∷ san.more));
      white = refl;
      begins = move_begins san.first san.moves;
      no_tag = apart is_move_byte san.first 91 san.moves refl;
      lexes = λ more stop.
          let ends : ends_run is_move_byte more ≡ true = stops_run is_move_byte more (stop refl) refl refl refl in
          let all : List ℕ = san.first ∷ (san.more ++ more) in
          move_byte_kind san.first (san.more ++ more) san.moves
          ∙ by_move san.first all (san.more ++ more) (no_glyph san.first san.moves) san.no_digit san.moves
          ∙ (λ i. lexed_as (token.move (front_run is_move_byte (san.first ∷ san.more) more whole ends i))
          (behind_run is_move_byte (san.first ∷ san.more) more whole ends i))
          ∙ ap (λ l. lexed_as (token.move l) more) (sym san.is);
    }

-- A number and a dot begin no end mark, and no castling in digits.
no_mark : (f g : ℕ) (form : List ℕ) (d : ℕ) (ds more : List ℕ) → list_all is_ascii_digit ds ≡ true → is_ascii_digit g ≡ false → (46 == g) ≡ false
    → begins (f ∷ g ∷ form) (d ∷ (ds ++ 46 ∷ more)) ≡ false
no_mark f g form d [] more digits other_digit other = rw other (and_right (d == f) false refl)
no_mark f g form d (e ∷ ds) more digits other_digit other =
    rw (apart is_ascii_digit e g (and_parts (is_ascii_digit e) (list_all is_ascii_digit ds) digits).0 other_digit) (and_right (d == f) false refl)

numbered : (d : ℕ) (ds more : List ℕ) → list_all is_ascii_digit ds ≡ true → digit_from (d ∷ (ds ++ 46 ∷ more)) ≡ number_from (d ∷ (ds ++ 46 ∷ more))
unfolding digit_from
numbered d ds more digits =
    rw (no_mark 49 45 (codes "0") d ds more digits refl refl)
    rw (no_mark 48 45 (codes "1") d ds more digits refl refl)
    rw (no_mark 49 47 (codes "2-1/2") d ds more digits refl refl)
    rw (no_mark 49 47 (codes "2") d ds more digits refl refl)
    rw (no_mark 48 45 (codes "0") d ds more digits refl refl)
    refl

dotted : (d : ℕ) (ds dots more : List ℕ) → is_ascii_digit d ≡ true → list_all is_ascii_digit ds ≡ true → list_all (λ byte. byte == 46) dots ≡ true
    → lexed (d ∷ (ds ++ 46 ∷ (dots ++ 32 ∷ more))) ≡ lexed_as token.number (32 ∷ more)
dotted d ds dots more digit digits are =
    let text : List ℕ = ds ++ 46 ∷ (dots ++ 32 ∷ more) in
    let moves : is_move_byte d ≡ true = digit_moving d digit in
    move_byte_kind d text moves
    ∙ by_digit d (d ∷ text) text (no_glyph d moves) digit
    ∙ numbered d ds (dots ++ 32 ∷ more) digits
    ∙ ap (λ l. lexed_as token.number (behind (λ byte. byte == 46) l))
    (behind_run is_ascii_digit (d ∷ ds) (46 ∷ (dots ++ 32 ∷ more)) (and_from _ _ digit digits) refl)
    ∙ ap (lexed_as token.number) (behind_run (λ byte. byte == 46) (46 ∷ dots) (32 ∷ more) are refl)

number_spelled : (n : ℕ) (d : ℕ) (ds dots : List ℕ) → decimal n ≡ d ∷ ds → decimal n ++ 46 ∷ (dots ++ 32 ∷ []) ≡ (d ∷ (ds ++ 46 ∷ dots)) ++ 32 ∷ []
number_spelled n d ds dots is =
    ap (λ l. l ++ 46 ∷ (dots ++ 32 ∷ [])) is ∙ ap (λ l. d ∷ l) (sym (append_assoc ds (46 ∷ dots) (32 ∷ [])))

number_by : (n : ℕ) (side : Colour) (dots : List ℕ) → token_text (written.number n side) ≡ decimal n ++ 46 ∷ (dots ++ 32 ∷ []) → list_all (λ byte. byte == 46) dots ≡ true
    → IsReadAs (written.number n side) token.number
number_by n side dots text are =
    let number = decimal_number n in
    record {
      first = number.first;
      body = number.more ++ 46 ∷ dots;
      trail = 32 ∷ [];
      spelled = text ∙ number_spelled n number.first number.more dots number.is;
      white = refl;
      begins = move_begins number.first (digit_moving number.first number.digit);
      no_tag = apart is_ascii_digit number.first 91 number.digit refl;
      lexes = λ more stop.
          ap (λ l. lexed (number.first ∷ l)) (append_assoc number.more (46 ∷ dots) (32 ∷ more))
          ∙ dotted number.first number.more dots more number.digit number.digits are;
    }

pub number_read : (n : ℕ) (side : Colour) → IsReadAs (written.number n side) token.number
number_read n White = number_by n White [] refl refl
number_read n Black = number_by n Black (codes "..") refl refl
