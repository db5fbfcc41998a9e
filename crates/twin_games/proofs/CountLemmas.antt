-- How many undeleted games agree with a head, one game after the other.
use Rattle.std.proofs.Common.{◌≡◌, ℕ, ◌+◌, ◌<◌, ◌≤◌, Bool, true, false, cond, ◌&&◌, not, List, [], take, length, Option, Some, sym, ap, ◌∙◌, arith, inl, inr}
use Rattle.std.specs.Prelude.{◌==◌, nat_le, unwrap_or}
use Rattle.std.specs.List.{count_by}
use Rattle.std.specs.Map.{lookup}
use Rattle.std.specs.Str.{bytes_eq}
use Rattle.std.proofs.lemmas.Bool.{and_right, cases_Bool, cond-false, cond-true}
use Rattle.std.proofs.lemmas.List.{length-take, take_all}
use Rattle.std.proofs.lemmas.List.Sums.{count_by-le-length, count_by_more_no, count_by_more_yes}
use Rattle.indexmap.specs.IndexMap.{IndexMap}
use Rattle.game_tree.specs.declared.head.Head.{Head}
use Rattle.sig_index.specs.Games.{head_in, no_head}
use Rattle.twin_games.specs.declared.pairing.Pairing.{Pairing}
use Rattle.twin_games.specs.Asking.{agreeing, is_shared}
use Rattle.twin_games.specs.Keys.{AreCounts, IsPairing, count_in, same_pairing}
use Rattle.game_tree.specs.Outcome.{outcome_number}
use Rattle.twin_games.specs.Twins.{Agree, agrees, same_date}
use Rattle.twin_games.proofs.KeyLemmas.{pairing_eq}
use Rattle.twin_games.proofs.TestLemmas.{agrees-Decides}

-- As many agree with one head as with another that agrees with it.
pub agreeing_same : (a b : Head) (heads : List Head) → Agree a b → agreeing a heads ≡ agreeing b heads
unfolding agrees
agreeing_same a b heads e =
    λ i. count_by (λ (other : Head). not other.deleted && (bytes_eq other.white (e.white i) && (bytes_eq other.black (e.black i)
    && (same_date other.date (e.date i) && (outcome_number other.result == outcome_number (e.result i)))))) heads

pub none_counted : {S : Type 0} (counts : IndexMap Pairing ℕ S) → counts.entries ≡ [] → AreCounts counts []
none_counted counts empty head pairing is = ap (λ (entries : List (Pairing × ℕ)). unwrap_or (lookup (same_pairing pairing) entries) 0) empty

-- A game more was counted.
pub one_counted : {S : Type 0} (old new : IndexMap Pairing ℕ S) (heads : List Head) (i : ℕ) (pairing : Pairing)
    → i < length heads → (head_in heads i).deleted ≡ false → IsPairing pairing (head_in heads i)
    → ((q : Pairing) → count_in new q ≡ cond (same_pairing pairing q) (count_in old pairing + 1) (count_in old q))
    → AreCounts old (take i heads) → AreCounts new (take (i + 1) heads)
one_counted old new heads i pairing here kept is added counts head q are =
    let this = head_in heads i in
    let test : Head → Bool = λ other. not other.deleted && agrees other head in
    let same : same_pairing pairing q ≡ agrees this head = pairing_eq pairing q this head is are in
    let step = added q in
    elim (cases_Bool (agrees this head)) [
      | inl agree ↦ step ∙ cond-true (same_pairing pairing q) (count_in old pairing + 1) (count_in old q) (same ∙ agree)
          ∙ ap (λ (n : ℕ). n + 1) (counts this pairing is ∙ agreeing_same this head (take i heads) ((agrees-Decides this head).0 agree))
          ∙ sym (count_by_more_yes test heads i no_head here (λ j. not (kept j) && agree j))
      | inr apart ↦ step ∙ cond-false (same_pairing pairing q) (count_in old pairing + 1) (count_in old q) (same ∙ apart)
          ∙ counts head q are
          ∙ sym (count_by_more_no test heads i no_head here (and_right (not this.deleted) (agrees this head) apart))
    ]

-- A deleted one was not.
pub none_more : {S : Type 0} (counts : IndexMap Pairing ℕ S) (heads : List Head) (i : ℕ) → i < length heads → (head_in heads i).deleted ≡ true
    → AreCounts counts (take i heads) → AreCounts counts (take (i + 1) heads)
none_more counts heads i here deleted before head q are =
    before head q are
    ∙ sym (count_by_more_no (λ (other : Head). not other.deleted && agrees other head) heads i no_head here
    (λ j. not (deleted j) && agrees (head_in heads i) head))

-- At most as many were counted as there are games before.
pub few_counted : {S : Type 0} (counts : IndexMap Pairing ℕ S) (heads : List Head) (i : ℕ) (head : Head) (pairing : Pairing)
    → AreCounts counts (take i heads) → IsPairing pairing head → count_in counts pairing ≤ i
few_counted counts heads i head pairing are is =
    let same = are head pairing is in
    let most = count_by-le-length (λ (other : Head). not other.deleted && agrees other head) (take i heads) in
    let long : length (take i heads) ≤ i = rw length-take (omega arith) in
    omega (arith, same, most, long)

-- All were counted.
pub all_counted : {S : Type 0} (counts : IndexMap Pairing ℕ S) (heads : List Head) (i : ℕ) → length heads ≤ i → AreCounts counts (take i heads) → AreCounts counts heads
all_counted counts heads i all are head pairing is = are head pairing is ∙ ap (agreeing head) (take_all i heads all)

-- One more at a pairing.
pub added : (t : Bool) (count : ℕ) (now old : Option ℕ) → now ≡ cond t (Some (count + 1)) old → unwrap_or now 0 ≡ cond t (count + 1) (unwrap_or old 0)
added true count now old is = ap (λ (o : Option ℕ). unwrap_or o 0) is
added false count now old is = ap (λ (o : Option ℕ). unwrap_or o 0) is

-- What the counts tell of a game.
pub deleted_unshared : (heads : List Head) (i : ℕ) → (head_in heads i).deleted ≡ true → false ≡ is_shared heads i
deleted_unshared heads i deleted = sym (λ k. not (deleted k) && nat_le 2 (agreeing (head_in heads i) heads))

pub many_shared : (heads : List Head) (i count : ℕ) → (head_in heads i).deleted ≡ false → count ≡ agreeing (head_in heads i) heads → nat_le 2 count ≡ is_shared heads i
many_shared heads i count kept is = ap (nat_le 2) is ∙ sym (λ k. not (kept k) && nat_le 2 (agreeing (head_in heads i) heads))
