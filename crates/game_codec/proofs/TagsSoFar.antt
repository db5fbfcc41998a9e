-- What the loop that reads tags has read.
use Rattle.std.proofs.Common.{not, ◌≡◌, ℕ, ◌+◌, ◌-◌, List, [], ◌∷◌, ◌++◌, Err, length, drop, refl, sym, ap, ◌∙◌, arith, append_assoc, length-append}
use Rattle.std.proofs.lemmas.List.{append-nil, drop_at}
use Rattle.std.proofs.lemmas.List.Elements.{filter-append}
use Rattle.game_tree.specs.declared.head.Tag.{Tag}
use Rattle.game_tree.specs.TagName.{free_of, is_reserved}
use Rattle.game_codec.specs.TagReading.{tag_at, BreaksTags, BeginsTag, BeginsTags}
use Rattle.game_codec.specs.Breach.{Tells}
use Rattle.game_codec.specs.declared.breach.Breach.{Breach}
use Rattle.game_codec.specs.declared.fault.RecordWhat.{RecordWhat}
use Rattle.game_codec.proofs.TagReadingLaws.{tag_at-behind}

-- Behind some tags of the bytes this is left, and those of them without a reserved name are these: whatever is read from
-- here on, tags or a fault, is read of all the bytes behind them.
pub record ReadSoFar (bytes rest : List ℕ) (free : List Tag) : Type 0 where
  pub all : List Tag
  pub front : List ℕ
  pub spelled : bytes ≡ front ++ rest
  pub free_are : free ≡ free_of all
  pub begins : (more : List Tag) (later : List ℕ) → BeginsTags rest more later → BeginsTags bytes (all ++ more) later
  pub breaks : (more : List Tag) (later : List ℕ) (what : RecordWhat) → BreaksTags rest more later what
      → BreaksTags bytes (all ++ more) later what

-- Of nothing yet.
pub read_none : (bytes : List ℕ) → ReadSoFar bytes bytes []
read_none bytes = record {
  all = [];
  front = [];
  spelled = refl;
  free_are = refl;
  begins = λ more later begins. begins;
  breaks = λ more later what breaks. breaks;
}

pub read_more : (bytes rest later : List ℕ) (free : List Tag) (tag : Tag) → ReadSoFar bytes rest free
    → BeginsTag rest tag later → ReadSoFar bytes later (free ++ free_of (tag ∷ []))
read_more bytes rest later free tag h next = let (first, (front, is)) = tag_at-behind rest tag later next in record {
  all = h.all ++ tag ∷ [];
  front = h.front ++ first ∷ front;
  spelled = h.spelled ∙ ap (λ (b : List ℕ). h.front ++ b) is ∙ sym (append_assoc h.front (first ∷ front) later);
  free_are = rw (filter-append (λ (tag : Tag). not (is_reserved tag.name)) h.all (tag ∷ []), ← h.free_are) refl;
  begins = λ more end from. rw (append_assoc h.all (tag ∷ []) more) (h.begins (tag ∷ more) end (later, next, from));
  breaks = λ more end what from.
      rw (append_assoc h.all (tag ∷ []) more) (h.breaks (tag ∷ more) end what (later, next, from));
}

-- The zero byte ends the tags.
pub read_all : (bytes rest : List ℕ) (free : List Tag) (used : ℕ) → ReadSoFar bytes rest free
    → ((later : List ℕ) × (rest ≡ 0 ∷ later)) → used ≡ length bytes - length rest + 1
    → (all : List Tag) × (BeginsTags bytes all (drop used bytes) × (free ≡ free_of all))
read_all bytes rest free used h (later, end) is =
    let spelled : bytes ≡ (h.front ++ 0 ∷ []) ++ later
    = h.spelled ∙ ap (λ (b : List ℕ). h.front ++ b) end ∙ sym (append_assoc h.front (0 ∷ []) later) in
    let size : length (h.front ++ 0 ∷ []) ≡ used
    = omega (arith, length-append {A = ℕ}, ap length h.spelled, ap length end, is) in
    let left : drop used bytes ≡ later
    = ap (λ (b : List ℕ). drop used b) spelled ∙ drop_at (h.front ++ 0 ∷ []) later used size in
    (h.all ++ [], (rw left (h.begins [] later end), rw (append-nil h.all) h.free_are))

-- A fault ends them.
read_fault : (bytes rest : List ℕ) (free : List Tag) (what : RecordWhat) → ReadSoFar bytes rest free
    → tag_at rest ≡ Err what → (all : List Tag) × BreaksTags bytes all rest what
read_fault bytes rest free what h fault = (h.all ++ [], h.breaks [] rest what (refl, fault))

pub read_told : (bytes rest : List ℕ) (free : List Tag) (breach : Breach) → ReadSoFar bytes rest free
    → Tells (λ from what. (from ≡ rest) × (tag_at rest ≡ Err what)) breach
    → Tells (λ from what. (all : List Tag) × BreaksTags bytes all from what) breach
read_told bytes rest free breach h (from, left, (here, fault)) = (from, left, rw here (read_fault bytes rest free breach.what h fault))
