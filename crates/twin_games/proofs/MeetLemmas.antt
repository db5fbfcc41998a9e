-- Which games are shared and which are twins, one game after the other.
use Rattle.std.proofs.Common.{◌≡◌, ℕ, ◌+◌, ◌-◌, ◌<◌, ◌≤◌, zero, suc, Bool, true, false, cond, ◌&&◌, ◌||◌, not, List, [], ◌∷◌, get_or, length, take, Option, None, Some, refl, sym, ap, ◌∙◌, subst, arith, inl, inr}
use Rattle.std.specs.Prelude.{nat_le, slice_get}
use Rattle.std.specs.List.{count_by, filter, list_any, range_with_len, sum_by}
use Rattle.std.proofs.lemmas.Bool.{and_from, and_parts, and_right, both_ways, cases_Bool, le-leb, not-true, not_from_false}
use Rattle.std.proofs.lemmas.List.Sums.{sum_by-append, sum_by-cons}
use Rattle.std.proofs.lemmas.Option.{get_or_from_slice_get}
use Rattle.indexmap.specs.IndexSet.{IndexSet, contains}
use Rattle.base_files.specs.Told.{Tells}
use Rattle.base_files.specs.declared.extent.Extent.{Extent}
use Rattle.chess_laws.specs.Position.{Sound}
use Rattle.game_tree.specs.Game.{GameTree}
use Rattle.game_tree.specs.declared.head.Head.{Head}
use Rattle.game_codec.specs.Record.{IsSomeRecord}
use Rattle.sig_index.specs.Games.{HasChanged, Holds, extent_in, head_in, no_head, record_told}
use Rattle.sig_index.specs.declared.signature.Sig.{Sig}
use Rattle.sig_index.proofs.ReadLemmas.{some_at}
use Rattle.sig_index.proofs.RecordLemmas.{game_sound}
use Rattle.twin_games.specs.declared.meeting.Met.{Met}
use Rattle.twin_games.specs.Asking.{agreeing, is_shared, price, price_below}
use Rattle.twin_games.specs.Keys.{HasMet, IsMet, same_met}
use Rattle.twin_games.specs.Twins.{agrees, begins_like, game_in, is_twin, matches, no_game}
use Rattle.twin_games.proofs.CountLemmas.{agreeing_same}
use Rattle.twin_games.proofs.KeyLemmas.{met_eq}
use Rattle.twin_games.proofs.RangeLemmas.{any_more, any_none, filter_with, filter_without}
use Rattle.twin_games.proofs.TestLemmas.{agrees-Decides}

-- ---- two that pass

count_next : {X : Type 0} (p : X → Bool) (x : X) (xs : List X) → count_by p (x ∷ xs) ≡ cond (p x) 1 0 + count_by p xs
count_next p x xs = sum_by-cons (λ y. cond (p y) 1 0) x xs

one_passes : {X : Type 0} (p : X → Bool) (xs : List X) (i : ℕ) (d : X) → i < length xs → p (get_or xs i d) ≡ true → 1 ≤ count_by p xs
one_passes p [] i d less holds = absurd (omega (arith, less))
one_passes p (x ∷ xs) zero d less holds =
    let first : cond {A = ℕ} (p x) 1 0 ≡ 1 = ap (λ (t : Bool). cond t 1 0) holds in
    omega (arith, count_next p x xs, first)
one_passes p (x ∷ xs) (suc i) d less holds =
    let rest : 1 ≤ count_by p xs = one_passes p xs i d (omega (arith, less)) holds in
    omega (arith, count_next p x xs, rest)

two_pass : {X : Type 0} (p : X → Bool) (xs : List X) (i j : ℕ) (d : X) → j < i → i < length xs → p (get_or xs i d) ≡ true → p (get_or xs j d) ≡ true → 2 ≤ count_by p xs
two_pass p [] i j d before less holds holds' = absurd (omega (arith, less))
two_pass p (x ∷ xs) zero j d before less holds holds' = absurd (omega (arith, before))
two_pass p (x ∷ xs) (suc i) zero d before less holds holds' =
    let rest : 1 ≤ count_by p xs = one_passes p xs i d (omega (arith, less)) holds in
    let first : cond {A = ℕ} (p x) 1 0 ≡ 1 = ap (λ (t : Bool). cond t 1 0) holds' in
    omega (arith, count_next p x xs, first, rest)
two_pass p (x ∷ xs) (suc i) (suc j) d before less holds holds' =
    let rest : 2 ≤ count_by p xs = two_pass p xs i j d (omega (arith, before)) (omega (arith, less)) holds holds' in
    omega (arith, count_next p x xs, rest)

-- ---- shared games

itself : (head : Head) → agrees head head ≡ true
itself head = (agrees-Decides head head).1 (record { white = refl; black = refl; date = refl; result = refl })

-- A game that agrees with an undeleted one before it is shared.
shared_by : (heads : List Head) (i j : ℕ) → j < i → i < length heads → (head_in heads i).deleted ≡ false → (head_in heads j).deleted ≡ false
    → agrees (head_in heads j) (head_in heads i) ≡ true → is_shared heads i ≡ true
shared_by heads i j before here kept earlier agree =
    let head = head_in heads i in
    let test : Head → Bool = λ other. not other.deleted && agrees other head in
    and_from (not head.deleted) (nat_le 2 (agreeing head heads)) (not_from_false head.deleted kept)
    (le-leb 2 (agreeing head heads)
    (two_pass test heads i j no_head before here
    (and_from (not head.deleted) (agrees head head) (not_from_false head.deleted kept) (itself head))
    (and_from (not (head_in heads j).deleted) (agrees (head_in heads j) head) (not_from_false (head_in heads j).deleted earlier) agree)))

pub record Matched (heads : List Head) (games : List GameTree) (depth i j : ℕ) : Type 0 where
  pub kept : (head_in heads j).deleted ≡ false
  pub agree : agrees (head_in heads j) (head_in heads i) ≡ true
  pub begins : begins_like depth (game_in games j) (game_in games i) ≡ true

pub matched : (heads : List Head) (games : List GameTree) (depth i j : ℕ) → matches heads games depth i j ≡ true → Matched heads games depth i j
matched heads games depth i j holds =
    let a = agrees (head_in heads j) (head_in heads i) in
    let b = begins_like depth (game_in games j) (game_in games i) in
    let both = and_parts (not (head_in heads j).deleted) (a && b) holds in
    let rest = and_parts a b both.1 in
    record { kept = not-true (head_in heads j).deleted both.0; agree = rest.0; begins = rest.1 }

-- A game that is not shared is no twin.
pub untwinned : (heads : List Head) (games : List GameTree) (depth i : ℕ) → i < length heads → is_shared heads i ≡ false → is_twin heads games depth i ≡ false
untwinned heads games depth i here not_shared = elim (cases_Bool (head_in heads i).deleted) [
  | inl deleted ↦ (λ k. not (deleted k) && list_any (matches heads games depth i) (range_with_len 0 i))
  | inr kept ↦ and_right (not (head_in heads i).deleted) (list_any (matches heads games depth i) (range_with_len 0 i))
      (any_none (matches heads games depth i) 0 i (λ j from less.
      elim (cases_Bool (matches heads games depth i j)) [
        | inl holds ↦
            let m = matched heads games depth i j holds in
            absurd (both_ways (is_shared heads i) not_shared (shared_by heads i j (omega (arith, less)) here kept m.kept m.agree))
        | inr fails ↦ fails
      ]))
]

-- A game that matches a shared one is shared.
passed_on : (heads : List Head) (games : List GameTree) (depth i n : ℕ) → is_shared heads i ≡ true → matches heads games depth i n ≡ true → is_shared heads n ≡ true
passed_on heads games depth i n shared holds =
    let m = matched heads games depth i n holds in
    let many = (and_parts (not (head_in heads i).deleted) (nat_le 2 (agreeing (head_in heads i) heads)) shared).1 in
    let same = agreeing_same (head_in heads n) (head_in heads i) heads ((agrees-Decides (head_in heads n) (head_in heads i)).0 m.agree) in
    and_from (not (head_in heads n).deleted) (nat_le 2 (agreeing (head_in heads n) heads)) (not_from_false (head_in heads n).deleted m.kept)
    (ap (λ (c : ℕ). nat_le 2 c) same ∙ many)

-- ---- what is kept of the games that were read

pub none_met : {S : Type 0} (heads : List Head) (games : List GameTree) (depth : ℕ) (seen : IndexSet Met S) → seen.keys ≡ [] → HasMet heads games depth 0 seen
none_met heads games depth seen empty i kept here shared is = ap (λ (keys : List Met). list_any (same_met kept) keys) empty

or_false : (s t : Bool) → t ≡ false → s ≡ (s || t)
or_false true t fails = refl
or_false false t fails = sym fails

pub not_met : {S : Type 0} (heads : List Head) (games : List GameTree) (depth n : ℕ) (seen : IndexSet Met S) → is_shared heads n ≡ false
    → HasMet heads games depth n seen → HasMet heads games depth (n + 1) seen
not_met heads games depth n seen not_shared before i kept here shared is =
    let fails : matches heads games depth i n ≡ false = elim (cases_Bool (matches heads games depth i n)) [
      | inl holds ↦ absurd (both_ways (is_shared heads n) not_shared (passed_on heads games depth i n shared holds))
      | inr other ↦ other
    ] in
    before i kept here shared is
    ∙ or_false (list_any (matches heads games depth i) (range_with_len 0 n)) (matches heads games depth i n) fails
    ∙ sym (any_more (matches heads games depth i) n)

cond_or : (t old : Bool) → cond t true old ≡ (old || t)
cond_or true true = refl
cond_or true false = refl
cond_or false true = refl
cond_or false false = refl

-- The starts of games whose records are held keep the rules of a position.
starts_sound : (told : List ℕ) (extents : List Extent) (sigs : List Sig) (games : List GameTree) (i : ℕ) → Holds told extents sigs games → i < length sigs
    → Sound (game_in games i).start
starts_sound told extents sigs games i holds here =
    let sig = some_at sigs i here in
    let game = some_at games i (omega (arith, holds.count, here)) in
    let held = holds.each i sig.0 game.0 sig.1 game.1 in
    subst (λ (g : GameTree). Sound g.start) (sym (get_or_from_slice_get games i game.0 no_game game.1)) (game_sound _ held.tags game.0 held.is_record)

pub game_there : (games : List GameTree) (i : ℕ) (game : GameTree) → slice_get games i ≡ Some game → game ≡ game_in games i
game_there games i game there = sym (get_or_from_slice_get games i game no_game there)

shared_kept : (heads : List Head) (i : ℕ) → is_shared heads i ≡ true → (head_in heads i).deleted ≡ false
shared_kept heads i shared =
    not-true (head_in heads i).deleted (and_parts (not (head_in heads i).deleted) (nat_le 2 (agreeing (head_in heads i) heads)) shared).0

pub just_met : {S : Type 0} (told : List ℕ) (extents : List Extent) (sigs : List Sig) (heads : List Head) (games : List GameTree) (depth n : ℕ)
    (old new : IndexSet Met S) (key : Met) → Holds told extents sigs games → length heads ≡ length sigs → n < length heads → is_shared heads n ≡ true
    → IsMet depth key (head_in heads n) (game_in games n) → ((q : Met) → contains same_met new q ≡ cond (same_met key q) true (contains same_met old q))
    → HasMet heads games depth n old → HasMet heads games depth (n + 1) new
just_met told extents sigs heads games depth n old new key holds count there shared is updates before i kept here shared' are =
    let a = agrees (head_in heads n) (head_in heads i) in
    let b = begins_like depth (game_in games n) (game_in games i) in
    let same : same_met key kept ≡ (a && b) =
    met_eq depth key kept (head_in heads n) (head_in heads i) (game_in games n) (game_in games i) is are
    (starts_sound told extents sigs games n holds (omega (arith, count, there))) (starts_sound told extents sigs games i holds (omega (arith, count, here))) in
    let this : same_met key kept ≡ matches heads games depth i n = same ∙ sym (λ k. not (shared_kept heads n shared k) && (a && b)) in
    updates kept
    ∙ (λ k. cond (this k) true (before i kept here shared' are k))
    ∙ cond_or (matches heads games depth i n) (list_any (matches heads games depth i) (range_with_len 0 n))
    ∙ sym (any_more (matches heads games depth i) n)

twice : (t : Bool) → not (not t) ≡ t
twice true = refl
twice false = refl

-- What was met before tells whether a game is a twin.
pub twin_is : {S : Type 0} (heads : List Head) (games : List GameTree) (depth n : ℕ) (seen : IndexSet Met S) (key : Met) (added : Bool)
    → n < length heads → is_shared heads n ≡ true → IsMet depth key (head_in heads n) (game_in games n)
    → added ≡ not (contains same_met seen key) → HasMet heads games depth n seen → not added ≡ is_twin heads games depth n
twin_is heads games depth n seen key added there shared is fresh before =
    ap not fresh ∙ twice (contains same_met seen key) ∙ before n key there shared is
    ∙ sym (λ k. not (shared_kept heads n shared k) && list_any (matches heads games depth n) (range_with_len 0 n))

-- ---- the bytes asked

pub price_with : (heads : List Head) (extents : List Extent) (n : ℕ) → price_below heads extents (n + 1) ≡ price_below heads extents n + cond (is_shared heads n) (extent_in extents n).len 0
price_with heads extents n = elim (cases_Bool (is_shared heads n)) [
  | inl there ↦
      let len : ℕ → ℕ = λ i. (extent_in extents i).len in
      let listed = ap (sum_by len) (filter_with (is_shared heads) n there) ∙ sum_by-append len (filter (is_shared heads) (range_with_len 0 n)) (n ∷ []) in
      let alone : len n + 0 ≡ len n = omega arith in
      listed ∙ ap (λ (m : ℕ). price_below heads extents n + m) (sum_by-cons len n [] ∙ alone) ∙ sym (ap (λ (t : Bool). price_below heads extents n + cond t (len n) 0) there)
  | inr away ↦
      let same = ap (sum_by (λ (i : ℕ). (extent_in extents i).len)) (filter_without (is_shared heads) n away) in
      let none : price_below heads extents n ≡ price_below heads extents n + 0 = omega arith in
      same ∙ none ∙ sym (ap (λ (t : Bool). price_below heads extents n + cond t (extent_in extents n).len 0) away)
]

-- Those of the first games are at most those of all.
price_rises : (heads : List Head) (extents : List Extent) (n more : ℕ) → price_below heads extents n ≤ price_below heads extents (n + more)
price_rises heads extents n zero =
    (let same : n + zero ≡ n = omega arith in subst (λ (k : ℕ). price_below heads extents n ≤ price_below heads extents k) (sym same) (omega arith))
price_rises heads extents n (suc more) =
    let before = price_rises heads extents n more in
    let step = price_with heads extents (n + more) in
    let same : n + more + 1 ≡ n + suc more = omega arith in
    subst (λ (k : ℕ). price_below heads extents n ≤ price_below heads extents k) same (omega (arith, before, step))

pub price_within : (heads : List Head) (extents : List Extent) (n : ℕ) → n ≤ length heads → price_below heads extents n ≤ price heads extents
price_within heads extents n within =
    let same : n + (length heads - n) ≡ length heads = omega (arith, within) in
    subst (λ (k : ℕ). price_below heads extents n ≤ price_below heads extents k) same (price_rises heads extents n (length heads - n))

-- Bytes that are no record show that the game's record has changed.
pub changed : (games : Option (List ℕ)) (extents : List Extent) (sigs : List Sig) (i : ℕ) (buffer bytes : List ℕ) (len : ℕ) (sig : Sig)
    → len ≡ (extent_in extents i).len → bytes ≡ take len buffer
    → Tells (record_told games (extent_in extents i)) (take len buffer) → slice_get sigs i ≡ Some sig → (IsSomeRecord bytes → ⊥)
    → HasChanged sigs extents games buffer i sig None
changed games extents sigs i buffer bytes len sig has front tells kept none = record {
  is_kept = kept;
  is_told = subst (λ (n : ℕ). Tells (record_told games (extent_in extents i)) (take n buffer)) has tells;
  is_shown = λ is. none (subst IsSomeRecord (sym (front ∙ ap (λ (n : ℕ). take n buffer) has)) is);
  is_other = λ e. absurd (cc);
}
