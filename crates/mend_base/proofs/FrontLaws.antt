-- What is saved of a record, step by step.
use Rattle.std.proofs.Common.{◌≡◌, ◌≤◌, ◌<◌, ◌+◌, ◌-◌, ℕ, zero, suc, List, ◌++◌, length, take, Option, None, Some, Result, Ok, Err, refl, sym, ap, ◌∙◌, subst, arith}
use Rattle.std.specs.Option.{option_map_or}
use Rattle.std.proofs.lemmas.Bool.{le-ltb, lt-ltb}
use Rattle.std.proofs.lemmas.List.{take_at}
use Rattle.game_codec.specs.RecordAnswer.{record_answer}
use Rattle.game_codec.specs.declared.fault.RecordFault.{RecordFault}
use Rattle.game_tree.specs.Game.{GameTree}
use Rattle.game_tree.specs.declared.head.Tag.{Tag}
use Rattle.index_entry.specs.declared.entry.Entry.{Entry}
use Rattle.base_core.specs.Reading.{IsMended}
use Rattle.mend_base.specs.Finding.{IsSaved}
use Rattle.mend_base.specs.Fronts.{Saved, if_short, left_by, left_of, saved_in}
use Rattle.mend_base.specs.Marks.{spot_behind}
use Rattle.mend_base.specs.declared.marks.Spot.{Spot}

-- ---- what is left without the first fault.

pub none_left : (found : Option (List ℕ)) → found ≡ None → if_short found ≡ None
none_left found is = ap if_short is

pub long_left : (found : Option (List ℕ)) (left : List ℕ) → found ≡ Some left → 131071 < length left → if_short found ≡ None
long_left found left is long = ap if_short is ∙ rw (lt-ltb 131071 (length left) long) refl

pub short_left : (found : Option (List ℕ)) (left : List ℕ) → found ≡ Some left → length left ≤ 131071 → if_short found ≡ Some left
short_left found left is short = ap if_short is ∙ rw (le-ltb 131071 (length left) short) refl

-- By the spot where it stands.
pub left-same : (bytes before : List ℕ) (place : ℕ) (first at : Spot) → before ≡ take place bytes → first ≡ spot_behind 0 before → at ≡ spot_behind first.depth before → left_by at bytes ≡ left_of bytes place
unfolding left_of
left-same bytes before place first at is begins stands =
    let S : Spot → List ℕ → Option (List ℕ) = λ s b. left_by (spot_behind s.depth b) bytes in
    ap (λ (s : Spot). left_by s bytes) stands ∙ (ap (λ (s : Spot). S s before) begins ∙ ap (λ (b : List ℕ). S (spot_behind 0 b) b) is)

-- ---- step by step.

read_in : (steps : ℕ) (bytes : List ℕ) (read : List Tag × GameTree) → saved_in steps bytes (Ok read) ≡ Some (record { bytes = bytes; read = read })
unfolding saved_in
read_in zero bytes read = refl
read_in (suc steps) bytes read = refl

module _ (steps : ℕ) (bytes : List ℕ) (fault : RecordFault) where
  -- By what is left.
  by_left : saved_in (suc steps) bytes (Err fault) ≡ option_map_or (λ (left : List ℕ). saved_in steps left (record_answer left)) (left_of bytes fault.place) None
  unfolding saved_in
  by_left = refl

  step_none : left_of bytes fault.place ≡ None → saved_in (suc steps) bytes (Err fault) ≡ None
  step_none is = by_left ∙ ap (λ (o : Option (List ℕ)). option_map_or (λ (left : List ℕ). saved_in steps left (record_answer left)) o None) is

  step_some : (left : List ℕ) → left_of bytes fault.place ≡ Some left → saved_in (suc steps) bytes (Err fault) ≡ saved_in steps left (record_answer left)
  step_some left is = by_left ∙ ap (λ (o : Option (List ℕ)). option_map_or (λ (l : List ℕ). saved_in steps l (record_answer l)) o None) is

  step_read : (left : List ℕ) (read : List Tag × GameTree) → left_of bytes fault.place ≡ Some left → record_answer left ≡ Ok read → saved_in (suc steps) bytes (Err fault) ≡ Some (record { bytes = left; read = read })
  step_read left read is answer = step_some left is ∙ (ap (λ (r : Result (List Tag × GameTree) RecordFault). saved_in steps left r) answer ∙ read_in steps left read)

  step_next : (left : List ℕ) (next : RecordFault) → left_of bytes fault.place ≡ Some left → record_answer left ≡ Err next → saved_in (suc steps) bytes (Err fault) ≡ saved_in steps left (Err next)
  step_next left next is answer = step_some left is ∙ ap (λ (r : Result (List Tag × GameTree) RecordFault). saved_in steps left r) answer

pub no-step : (bytes : List ℕ) (fault : RecordFault) → saved_in 0 bytes (Err fault) ≡ None
unfolding saved_in
no-step bytes fault = refl

-- All steps were made.
pub none-behind : (steps step : ℕ) (bytes rest : List ℕ) (fault first : RecordFault) → saved_in (steps - step) rest (Err first) ≡ saved_in steps bytes (Err fault) → steps ≤ step → saved_in steps bytes (Err fault) ≡ None
none-behind steps step bytes rest fault first so_far all =
    let none : steps - step ≡ 0 = omega (arith, all) in
    sym so_far ∙ (ap (λ (n : ℕ). saved_in n rest (Err first)) none ∙ no-step rest first)

module _ (steps step : ℕ) (bytes rest : List ℕ) (fault first : RecordFault) (so_far : saved_in (steps - step) rest (Err first) ≡ saved_in steps bytes (Err fault)) (below : step < steps) where
  one_more : steps - step ≡ suc (steps - (step + 1))
  one_more = omega (arith, below)

  here : saved_in (suc (steps - (step + 1))) rest (Err first) ≡ saved_in steps bytes (Err fault)
  here = ap (λ (n : ℕ). saved_in n rest (Err first)) (sym one_more) ∙ so_far

  -- Nothing is saved.
  pub none-left : left_of rest first.place ≡ None → saved_in steps bytes (Err fault) ≡ None
  none-left is = sym here ∙ step_none (steps - (step + 1)) rest first is

  -- What is left has another fault.
  pub next-left : (left : List ℕ) (next : RecordFault) → left_of rest first.place ≡ Some left → record_answer left ≡ Err next → saved_in (steps - (step + 1)) left (Err next) ≡ saved_in steps bytes (Err fault)
  next-left left next is answer = sym (step_next (steps - (step + 1)) rest first left next is answer) ∙ here

  -- What is left has none.
  pub saved-left : (left : List ℕ) (e over kept : Entry) → left_of rest first.place ≡ Some left → over ≡ record e { offset = 0; len = length left } → IsMended left over kept → IsSaved steps e bytes fault left kept
  saved-left left e over kept is same mended =
      let here_mended : IsMended left (record e { offset = 0; len = length left }) kept = subst (λ (x : Entry). IsMended left x kept) same mended in
      let signed = here_mended.1.1.0 in
      record { mended = here_mended; saved = sym here ∙ step_read (steps - (step + 1)) rest first left (signed.tags, signed.tree) is signed.read.answer }

-- ---- in the front of a buffer.

pub saved-front : (steps : ℕ) (e : Entry) (bytes : List ℕ) (fault : RecordFault) (left : List ℕ) (kept : Entry) (front behind : List ℕ) → IsSaved steps e bytes fault left kept → front ≡ left → kept.len ≡ length left →
    IsSaved steps e bytes fault (take kept.len (front ++ behind)) kept
saved-front steps e bytes fault left kept front behind saved same long =
    let at : take kept.len (front ++ behind) ≡ left =
    take_at front behind kept.len (ap (λ (xs : List ℕ). length xs) same ∙ sym long) ∙ same in
    subst (λ (xs : List ℕ). IsSaved steps e bytes fault xs kept) (sym at) saved
