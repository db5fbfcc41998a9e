-- Laws of bytes that are known to have none of a kind: a search may begin behind them.
use Rattle.std.proofs.Common.{◌≡◌, ◌≤◌, ◌+◌, ◌-◌, ◌==◌, inl, inr, ℕ, zero, suc, min, Bool, true, false, not, List, [], ◌∷◌, ◌++◌, length, take, drop, refl, sym, ap, ◌∙◌, subst, arith, length-append, length-drop}
use Rattle.std.specs.List.{list_all}
use Rattle.std.proofs.lemmas.Bool.{and_parts, and_from, cases_lt, not-true}
use Rattle.std.proofs.lemmas.List.{take-take, take_all, length-take, length-take-le, drop-take}
use Rattle.pgn_read.specs.declared.clear.Clear.{Clear}
use Rattle.pgn_read.specs.declared.run.Run.{Run}
use Rattle.pgn_read.specs.declared.run.Run.TheVariants as run
use Rattle.pgn_read.specs.Bytes.{is_of, front, behind, has_zero}
use Rattle.pgn_read.specs.Clear.{BeginsWith, IsClear}

-- ---- the front of a text

front_one : (test : ℕ → Bool) (b : ℕ) (t : List ℕ) (c : Bool) → test b ≡ c → take (length (front test t)) t ≡ front test t
    → take (length (front test (b ∷ t))) (b ∷ t) ≡ front test (b ∷ t)
front_one test b t true is later = rw is (ap (λ l. b ∷ l) later)
front_one test b t false is later = rw is refl

front_taken : (test : ℕ → Bool) (t : List ℕ) → take (length (front test t)) t ≡ front test t
front_taken test [] = refl
front_taken test (b ∷ t) = front_one test b t (test b) refl (front_taken test t)

behind_one : (test : ℕ → Bool) (b : ℕ) (t : List ℕ) (c : Bool) → test b ≡ c → drop (length (front test t)) t ≡ behind test t
    → drop (length (front test (b ∷ t))) (b ∷ t) ≡ behind test (b ∷ t)
behind_one test b t true is later = rw is later
behind_one test b t false is later = rw is refl

behind_dropped : (test : ℕ → Bool) (t : List ℕ) → drop (length (front test t)) t ≡ behind test t
behind_dropped test [] = refl
behind_dropped test (b ∷ t) = behind_one test b t (test b) refl (behind_dropped test t)

all_one : (test : ℕ → Bool) (b : ℕ) (t : List ℕ) (c : Bool) → test b ≡ c → list_all test (front test t) ≡ true → list_all test (front test (b ∷ t)) ≡ true
all_one test b t true is later = rw is rw is later
all_one test b t false is later = rw is refl

all_front : (test : ℕ → Bool) (t : List ℕ) → list_all test (front test t) ≡ true
all_front test [] = refl
all_front test (b ∷ t) = all_one test b t (test b) refl (all_front test t)

short_one : (test : ℕ → Bool) (b : ℕ) (t : List ℕ) (c : Bool) → test b ≡ c → length (front test t) ≤ length t → length (front test (b ∷ t)) ≤ length (b ∷ t)
short_one test b t true is later = rw is omega (arith, later)
short_one test b t false is later = rw is omega arith

front_short : (test : ℕ → Bool) (t : List ℕ) → length (front test t) ≤ length t
front_short test [] = omega arith
front_short test (b ∷ t) = short_one test b t (test b) refl (front_short test t)

-- ---- a search that begins behind the first bytes

front_from : (test : ℕ → Bool) (n : ℕ) (t : List ℕ) → n ≤ length t → list_all test (take n t) ≡ true → front test t ≡ take n t ++ front test (drop n t)
front_from test zero t there all = refl
front_from test (suc n) [] there all = absurd (omega (arith, there))
front_from test (suc n) (b ∷ t) there all =
    let both = and_parts (test b) (list_all test (take n t)) all in
    rw both.0 (ap (λ l. b ∷ l) (front_from test n t (omega (arith, there)) both.1))

size_from : (test : ℕ → Bool) (n : ℕ) (more t : List ℕ) → n ≤ length t → list_all test (take n t) ≡ true → more ≡ front test (drop n t)
    → n + length more ≡ length (front test t)
size_from test n more t there all is =
    let whole : length (front test t) ≡ length (take n t) + length more =
    ap length (front_from test n t there all) ∙ length-append (take n t) (front test (drop n t)) ∙ ap (λ l. length (take n t) + length l) (sym is) in
    omega (arith, whole, length-take-le n t there)

pub front_behind : (kind : Run) (n : ℕ) (more t : List ℕ) → BeginsWith kind n t → more ≡ front (is_of kind) (drop n t)
    → take (n + length more) t ≡ front (is_of kind) t
front_behind kind n more t known is = ap (λ k. take k t) (size_from (is_of kind) n more t known.there known.all is) ∙ front_taken (is_of kind) t

pub rest_behind : (kind : Run) (n : ℕ) (more t : List ℕ) → BeginsWith kind n t → more ≡ front (is_of kind) (drop n t)
    → drop (n + length more) t ≡ behind (is_of kind) t
rest_behind kind n more t known is = ap (λ k. drop k t) (size_from (is_of kind) n more t known.there known.all is) ∙ behind_dropped (is_of kind) t

pub room_behind : (kind : Run) (n : ℕ) (more t : List ℕ) → BeginsWith kind n t → more ≡ front (is_of kind) (drop n t) → n + length more ≤ length t
room_behind kind n more t known is = omega (arith, size_from (is_of kind) n more t known.there known.all is, front_short (is_of kind) t)

zero_from : (n : ℕ) (t : List ℕ) → n ≤ length t → list_all (λ byte. not (byte == 0)) (take n t) ≡ true → has_zero (drop n t) ≡ has_zero t
zero_from zero t there all = refl
zero_from (suc n) [] there all = absurd (omega (arith, there))
zero_from (suc n) (b ∷ t) there all =
    let both = and_parts (not (b == 0)) (list_all (λ byte. not (byte == 0)) (take n t)) all in
    rw (not-true (b == 0) both.0) (zero_from n t (omega (arith, there)) both.1)

pub zero_behind : (n : ℕ) (t : List ℕ) → BeginsWith run.ToZero n t → has_zero (drop n t) ≡ has_zero t
zero_behind n t known = zero_from n t known.there known.all

-- ---- what is known of other texts

pub found : (kind : Run) (n : ℕ) (t : List ℕ) → n ≡ length (front (is_of kind) t) → BeginsWith kind n t
found kind n t is = record {
  there = omega (arith, is, front_short (is_of kind) t);
  all = ap (λ k. list_all (is_of kind) (take k t)) is ∙ ap (list_all (is_of kind)) (front_taken (is_of kind) t) ∙ all_front (is_of kind) t;
}

take_fewer : (k n : ℕ) (t : List ℕ) → k ≤ n → take k (take n t) ≡ take k t
take_fewer k n t few = take-take k n t few

-- Of a text's beginning and of the whole text.
pub of_front : (kind : Run) (k n : ℕ) (t : List ℕ) → BeginsWith kind k t → k ≤ n → BeginsWith kind k (take n t)
of_front kind k n t known few = record {
  there = omega (arith, known.there, few, length-take n t);
  all = ap (list_all (is_of kind)) (take_fewer k n t few) ∙ known.all;
}

pub of_whole : (kind : Run) (k n : ℕ) (t : List ℕ) → BeginsWith kind k (take n t) → BeginsWith kind k t
of_whole kind k n t known =
    let few : k ≤ n = omega (arith, known.there, length-take n t) in
    record {
      there = omega (arith, known.there, length-take n t);
      all = ap (list_all (is_of kind)) (sym (take_fewer k n t few)) ∙ known.all;
    }

all_fewer : (test : ℕ → Bool) (k n : ℕ) (t : List ℕ) → k ≤ n → list_all test (take n t) ≡ true → list_all test (take k t) ≡ true
all_fewer test zero n t few all = refl
all_fewer test (suc k) zero t few all = absurd (omega (arith, few))
all_fewer test (suc k) (suc n) [] few all = refl
all_fewer test (suc k) (suc n) (b ∷ t) few all =
    let both = and_parts (test b) (list_all test (take n t)) all in
    and_from _ _ both.0 (all_fewer test k n t (omega (arith, few)) both.1)

-- A comment of which the beginning is known.
pub in_front : (kind other : Run) (k n : ℕ) (part t : List ℕ) → BeginsWith kind n t → part ≡ front (is_of other) t → k ≡ min n (length part) → BeginsWith kind k part
in_front kind other k n part t known is least =
    let fewer : BeginsWith kind k t = record {
      there = omega (arith, known.there, least);
      all = all_fewer (is_of kind) k n t (omega (arith, least)) known.all;
    } in
    let whole : take (length part) t ≡ part = ap (λ l. take (length l) t) is ∙ front_taken (is_of other) t ∙ sym is in
    subst (λ l. BeginsWith kind k l) whole (of_front kind k (length part) t fewer (omega (arith, least)))

all_dropped : (test : ℕ → Bool) (c : ℕ) (t : List ℕ) → list_all test t ≡ true → list_all test (drop c t) ≡ true
all_dropped test zero t all = all
all_dropped test (suc c) [] all = refl
all_dropped test (suc c) (b ∷ t) all = all_dropped test c t (and_parts (test b) (list_all test t) all).1

none_known : (kind : Run) (n : ℕ) (t : List ℕ) → n ≡ 0 → BeginsWith kind n t
none_known kind n t is = record { there = omega (arith, is); all = ap (λ k. list_all (is_of kind) (take k t)) is }

-- The same of the text behind its first bytes.
pub passed_known : (kind : Run) (n c : ℕ) (t : List ℕ) → BeginsWith kind n t → BeginsWith kind (n - c) (drop c t)
passed_known kind n c t known = elim (cases_lt n c) [
  | inl below ↦ none_known kind (n - c) (drop c t) (omega (arith, below))
  | inr above ↦
      let whole : take (n - c) (drop c t) ≡ drop c (take (c + (n - c)) t) = sym (drop-take c (n - c) t) in
      let all : c + (n - c) ≡ n = omega (arith, above) in
      record {
        there = omega (arith, known.there, length-drop c t);
        all =
            ap (list_all (is_of kind)) (whole ∙ ap (λ k. drop c (take k t)) all)
            ∙ all_dropped (is_of kind) c (take n t) known.all;
      }
]

grown_known : (kind : Run) (n : ℕ) (t u : List ℕ) → BeginsWith kind n t → take (length t) u ≡ t → BeginsWith kind n u
grown_known kind n t u known front = of_whole kind n (length t) u (rw front known)

-- ---- of both

pub passed_clear : (clear later : Clear) (c : ℕ) (t : List ℕ) → IsClear clear t → later.braces ≡ clear.braces - c → later.zeros ≡ clear.zeros - c
    → IsClear later (drop c t)
passed_clear clear later c t known braces zeros = record {
  braces = rw braces (passed_known run.ToBrace clear.braces c t known.braces);
  zeros = rw zeros (passed_known run.ToZero clear.zeros c t known.zeros);
}

pub grown_clear : (clear : Clear) (t u : List ℕ) → IsClear clear t → take (length t) u ≡ t → IsClear clear u
grown_clear clear t u known front = record {
  braces = grown_known run.ToBrace clear.braces t u known.braces front;
  zeros = grown_known run.ToZero clear.zeros t u known.zeros front;
}

pub none_clear : (t : List ℕ) → IsClear (record { braces = 0; zeros = 0 }) t
none_clear t = record { braces = none_known run.ToBrace 0 t refl; zeros = none_known run.ToZero 0 t refl }

pub behind_first : (clear later : Clear) (t : List ℕ) → IsClear clear t → later.braces ≡ clear.braces - 1 → later.zeros ≡ clear.zeros - 1
    → IsClear later (take (length t - 1) (drop 1 t))
behind_first clear later t known braces zeros =
    subst (λ l. IsClear later l) (sym (take_all (length t - 1) (drop 1 t) (omega (arith, length-drop 1 t)))) (passed_clear clear later 1 t known braces zeros)
