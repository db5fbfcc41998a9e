-- The fields: what is read is spelled so, and what is spelled is read again.
use Rattle.std.proofs.Common.{◌≡◌, ◌≤◌, ◌<◌, ◌+◌, ◌*◌, ◌^◌, ◌/◌, ◌%◌, ℕ, zero, suc, Bool, true, false, cond, ltb, ◌||◌, List, [], ◌∷◌, ◌++◌, length, take, drop, get_or, Option, Some, None, unwrap_or, Result, Ok, Err, refl, sym, ap, subst, ◌∙◌, arith}
use Rattle.std.proofs.lemmas.Bool.{ltb-false, le-ltb}
use Rattle.std.proofs.lemmas.List.{get_or-drop, take-append-drop, take_at, drop_at, length-append, length-take-le}
use Rattle.byteorder.specs.Endian.{big_number, big_bytes}
use Rattle.byteorder.specs.Numbers.{big_from-lt, big_number-reads_back, length-bytes_high_first}
use Rattle.name_base.specs.declared.fault.NameWhat.TheVariants.{Short, Prefix, Zero}
use Rattle.name_base.specs.NameLists.{has_zero}
use Rattle.name_base.specs.NamesFile.{shared_byte}
use Rattle.name_base.specs.Reading.{◌>>=◌, number_at, skip_at, byte_at, shared_at, own_at}

-- A list of bytes.
abbrev pub IsBytes : List ℕ → Type 0
IsBytes bytes = (i : ℕ) → get_or bytes i 0 < 256

pub IsBytes-drop : (n : ℕ) (bytes : List ℕ) → IsBytes bytes → IsBytes (drop n bytes)
IsBytes-drop n bytes h i = rw get_or-drop (h (n + i))

pub IsBytes-rest : (byte : ℕ) (bytes : List ℕ) → IsBytes (byte ∷ bytes) → IsBytes bytes
IsBytes-rest byte bytes h i = h (suc i)

-- A number of at most three bytes is below 2 ^ 24.
pub big_number-small : (n : ℕ) (bytes : List ℕ) → n ≤ 3 → IsBytes bytes → big_number n bytes < 16777216
big_number-small zero bytes le fits = omega arith
big_number-small (suc zero) bytes le fits = let h = big_from-lt 0 1 bytes fits in omega (arith, h)
big_number-small (suc (suc zero)) bytes le fits = let h = big_from-lt 0 2 bytes fits in omega (arith, h)
big_number-small (suc (suc (suc zero))) bytes le fits = let h = big_from-lt 0 3 bytes fits in omega (arith, h)
big_number-small (suc (suc (suc (suc n)))) bytes le fits = absurd (omega arith)

two_back : (a b : ℕ) → a < 256 → b < 256 → (x : ℕ) → x ≡ a * 256 + b → ((x / 256) % 256 ≡ a) × (x % 256 ≡ b)
two_back a b la lb x e = (omega arith, omega arith)

three_back : (a b c : ℕ) → a < 256 → b < 256 → c < 256 → (x : ℕ) → x ≡ a * 65536 + b * 256 + c → ((x / 65536) % 256 ≡ a) × ((x / 256) % 256 ≡ b) × (x % 256 ≡ c)
three_back a b c la lb lc x e = (omega arith, omega arith, omega arith)

pub big_bytes-number_2 : (bytes : List ℕ) → IsBytes bytes → 2 ≤ length bytes → big_bytes 2 (big_number 2 bytes) ≡ take 2 bytes
big_bytes-number_2 [] fits le = absurd (omega arith)
big_bytes-number_2 (a ∷ []) fits le = absurd (omega arith)
big_bytes-number_2 (a ∷ b ∷ rest) fits le =
    let e = two_back a b (fits 0) (fits 1) (big_number 2 (a ∷ b ∷ rest)) (omega arith) in
    λ i. e.0 i ∷ e.1 i ∷ []

pub big_bytes-number_3 : (bytes : List ℕ) → IsBytes bytes → 3 ≤ length bytes → big_bytes 3 (big_number 3 bytes) ≡ take 3 bytes
big_bytes-number_3 [] fits le = absurd (omega arith)
big_bytes-number_3 (a ∷ []) fits le = absurd (omega arith)
big_bytes-number_3 (a ∷ b ∷ []) fits le = absurd (omega arith)
big_bytes-number_3 (a ∷ b ∷ c ∷ rest) fits le =
    let e = three_back a b c (fits 0) (fits 1) (fits 2) (big_number 3 (a ∷ b ∷ c ∷ rest)) (omega arith) in
    λ i. e.0 i ∷ e.1 i ∷ e.2 i ∷ []

-- ---- steps that may fail.

-- The value of a step that did not fail.
pub bind_ok : {A B E : Type 0} (r : Result A E) (f : A → Result B E) (y : B) → (r >>= f) ≡ Ok y → (x : A) × (r ≡ Ok x) × (f x ≡ Ok y)
bind_ok (Ok x) f y e = (x, refl, e)
bind_ok (Err d) f y e = absurd cc

-- A test that did not fail.
pub guard_ok : {A E : Type 0} (b : Bool) (d : E) (r : Result A E) (y : A) → cond b (Err d) r ≡ Ok y → (b ≡ false) × (r ≡ Ok y)
guard_ok true d r y e = absurd cc
guard_ok false d r y e = (refl, e)

abbrev ok_of : {A E : Type 0} → A → Result A E
ok_of x = Ok x

pub ok_is : {A E : Type 0} (x y : A) → ok_of {A = A} {E = E} x ≡ ok_of y → x ≡ y
ok_is x y e = cc

-- ---- what a field took, and that it is read again.

-- The bytes are the field's and then the rest, which are bytes.
pub record Takes (bytes text rest : List ℕ) : Type 0 where
  pub parts : bytes ≡ text ++ rest
  pub fits : IsBytes rest

-- The widths of a number here.
pub record IsWidth (w : ℕ) : Type 0 where
  pub back : (bytes : List ℕ) → IsBytes bytes → w ≤ length bytes → big_bytes w (big_number w bytes) ≡ take w bytes
  pub small : (bytes : List ℕ) → IsBytes bytes → big_number w bytes < 16777216

pub width_2 : IsWidth 2
width_2 = record { back = big_bytes-number_2; small = λ bytes fits. big_number-small 2 bytes (omega arith) fits }

pub width_3 : IsWidth 3
width_3 = record { back = big_bytes-number_3; small = λ bytes fits. big_number-small 3 bytes (omega arith) fits }

pub number_takes : (w : ℕ) (bytes : List ℕ) (x : ℕ × List ℕ) → IsWidth w → IsBytes bytes → number_at w bytes ≡ Ok x → Takes bytes (big_bytes w x.0) x.1 × (x.0 < 16777216)
unfolding number_at
number_takes w bytes x wide fits e =
    let g = guard_ok (ltb (length bytes) w) Short (Ok (big_number w bytes, drop w bytes)) x e in
    let long : w ≤ length bytes = ltb-false _ _ g.0 in
    let whole : Takes bytes (big_bytes w (big_number w bytes)) (drop w bytes) × (big_number w bytes < 16777216) =
    (record { parts = sym (take-append-drop w bytes) ∙ ap (λ t. t ++ drop w bytes) (sym (wide.back bytes fits long)); fits = IsBytes-drop w bytes fits }, wide.small bytes fits) in
    subst (λ (y : ℕ × List ℕ). Takes bytes (big_bytes w y.0) y.1 × (y.0 < 16777216)) (ok_is (big_number w bytes, drop w bytes) x g.1) whole

pub number_again : (w n : ℕ) (rest : List ℕ) → n < 256 ^ w → number_at w (big_bytes w n ++ rest) ≡ Ok (n, rest)
unfolding number_at
number_again w n rest lt =
    let len : length (big_bytes w n) ≡ w = length-bytes_high_first w n in
    let long : ltb (length (big_bytes w n ++ rest)) w ≡ false = le-ltb _ _ (omega (arith, length-append (big_bytes w n) rest)) in
    rw (long, big_number-reads_back w n rest lt, drop_at (big_bytes w n) rest w len) refl

pub skip_takes : (n : ℕ) (bytes rest : List ℕ) → IsBytes bytes → skip_at n bytes ≡ Ok rest → Takes bytes (take n bytes) rest × (length (take n bytes) ≡ n)
unfolding skip_at
skip_takes n bytes rest fits e =
    let g = guard_ok (ltb (length bytes) n) Short (Ok (drop n bytes)) rest e in
    let long : n ≤ length bytes = ltb-false _ _ g.0 in
    let whole : Takes bytes (take n bytes) (drop n bytes) = record { parts = sym (take-append-drop n bytes); fits = IsBytes-drop n bytes fits } in
    (subst (Takes bytes (take n bytes)) (ok_is (drop n bytes) rest g.1) whole, length-take-le n bytes long)

pub skip_again : (n : ℕ) (text rest : List ℕ) → length text ≡ n → skip_at n (text ++ rest) ≡ Ok rest
unfolding skip_at
skip_again n text rest len =
    let long : ltb (length (text ++ rest)) n ≡ false = le-ltb _ _ (omega (arith, length-append text rest)) in
    rw (long, drop_at text rest n len) refl

pub byte_takes : (bytes : List ℕ) (x : ℕ × List ℕ) → IsBytes bytes → byte_at bytes ≡ Ok x → Takes bytes (x.0 ∷ []) x.1 × (x.0 < 256)
unfolding byte_at
byte_takes [] x fits e = absurd cc
byte_takes (b ∷ bytes) x fits e =
    let whole : Takes (b ∷ bytes) (b ∷ []) bytes × (b < 256) = (record { parts = refl; fits = IsBytes-rest b bytes fits }, fits 0) in
    subst (λ (y : ℕ × List ℕ). Takes (b ∷ bytes) (y.0 ∷ []) y.1 × (y.0 < 256)) (ok_is (b, bytes) x e) whole

pub byte_again : (b : ℕ) (rest : List ℕ) → byte_at (b ∷ rest) ≡ Ok (b, rest)
unfolding byte_at
byte_again b rest = refl

-- Neither of two tests.
pub neither : (a b : Bool) → (a || b) ≡ false → (a ≡ false) × (b ≡ false)
neither true b e = absurd cc
neither false b e = (refl, e)

pub shared_takes : (before : Option (List ℕ)) (len : ℕ) (bytes : List ℕ) (x : ℕ × List ℕ) → IsBytes bytes → shared_at before len bytes ≡ Ok x
    → Takes bytes (shared_byte before x.0) x.1 × (x.0 ≤ len) × (x.0 ≤ length (unwrap_or before []))
unfolding shared_at
shared_takes None len bytes x fits e =
    let whole : Takes bytes [] bytes × (0 ≤ len) × (0 ≤ 0) = (record { parts = refl; fits = fits }, omega arith, omega arith) in
    subst (λ (y : ℕ × List ℕ). Takes bytes [] y.1 × (y.0 ≤ len) × (y.0 ≤ 0)) (ok_is (0, bytes) x e) whole
shared_takes (Some before) len bytes x fits e =
    let a = bind_ok (byte_at bytes) (λ s. cond (ltb len s.0 || ltb (length before) s.0) (Err Prefix) (Ok s)) x e in
    let g = guard_ok (ltb len a.0.0 || ltb (length before) a.0.0) Prefix (Ok a.0) x a.2 in
    let n = neither (ltb len a.0.0) (ltb (length before) a.0.0) g.0 in
    let t = byte_takes bytes a.0 fits a.1 in
    let whole : Takes bytes (a.0.0 ∷ []) a.0.1 × (a.0.0 ≤ len) × (a.0.0 ≤ length before) = (t.0, ltb-false _ _ n.0, ltb-false _ _ n.1) in
    subst (λ (y : ℕ × List ℕ). Takes bytes (y.0 ∷ []) y.1 × (y.0 ≤ len) × (y.0 ≤ length before)) (ok_is a.0 x g.1) whole

pub shared_again : (before : Option (List ℕ)) (len shared : ℕ) (rest : List ℕ) → shared ≤ len → shared ≤ length (unwrap_or before []) → shared_at before len (shared_byte before shared ++ rest) ≡ Ok (shared, rest)
unfolding shared_at byte_at
shared_again None len shared rest le within = let zero-is : 0 ≡ shared = omega arith in ap (λ s. Ok (s, rest)) zero-is
shared_again (Some before) len shared rest le within = rw (le-ltb len shared le, le-ltb (length before) shared within) refl

pub own_takes : (n : ℕ) (bytes : List ℕ) (x : List ℕ × List ℕ) → IsBytes bytes → own_at n bytes ≡ Ok x → Takes bytes x.0 x.1 × (length x.0 ≡ n) × (has_zero x.0 ≡ false)
unfolding own_at
own_takes n bytes x fits e =
    let z = guard_ok (has_zero (take n bytes)) Zero (cond (ltb (length bytes) n) (Err Short) (Ok (take n bytes, drop n bytes))) x e in
    let g = guard_ok (ltb (length bytes) n) Short (Ok (take n bytes, drop n bytes)) x z.1 in
    let long : n ≤ length bytes = ltb-false _ _ g.0 in
    let whole : Takes bytes (take n bytes) (drop n bytes) × (length (take n bytes) ≡ n) × (has_zero (take n bytes) ≡ false) =
    (record { parts = sym (take-append-drop n bytes); fits = IsBytes-drop n bytes fits }, length-take-le n bytes long, z.0) in
    subst (λ (y : List ℕ × List ℕ). Takes bytes y.0 y.1 × (length y.0 ≡ n) × (has_zero y.0 ≡ false)) (ok_is (take n bytes, drop n bytes) x g.1) whole

pub own_again : (n : ℕ) (own rest : List ℕ) → length own ≡ n → has_zero own ≡ false → own_at n (own ++ rest) ≡ Ok (own, rest)
unfolding own_at
own_again n own rest len whole =
    let long : ltb (length (own ++ rest)) n ≡ false = le-ltb _ _ (omega (arith, length-append own rest)) in
    rw (take_at own rest n len, whole, long, drop_at own rest n len) refl
