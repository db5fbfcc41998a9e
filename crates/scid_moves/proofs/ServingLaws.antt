-- Laws of the run over the whole input.
use Rattle.std.proofs.Common.{◌≡◌, ℕ, List, [], ◌++◌, length, take, Option, None, Some, refl, sym, ap, ◌∙◌, subst, append-nil}
use Rattle.base_files.specs.Told.{adds, before, Grew}
use Rattle.base_files.proofs.Telling.{before-append, before-nil}
use Rattle.scid_moves.specs.Lines.{all_lines, answers, whole_lines}
use Rattle.scid_moves.specs.Serving.{Answered, Broken}
use Rattle.scid_moves.specs.Standing.{Cut, Reached, Stands, Stopped}
use Rattle.scid_moves.proofs.StandingLaws.{cut_stands, stands_first}

-- Nothing was read yet.
pub reached_first : (left taken : Option (List ℕ)) → Reached left left taken taken []
reached_first left taken = record { bytes = []; read = sym (before-nil left); stands = stands_first taken }

-- More was read, and answered.
pub reached_more : (left later last taken given next : Option (List ℕ)) (kept kept' bytes : List ℕ) → Reached left later taken given kept → later ≡ before bytes last
    → ((front : List ℕ) (t : Option (List ℕ)) → Stands front kept t given → Stands (front ++ bytes) kept' t next) → Reached left last taken next kept'
reached_more left later last taken given next kept kept' bytes reached read answered = record {
  bytes = reached.bytes ++ bytes;
  read = reached.read ∙ ap (before reached.bytes) read ∙ sym (before-append reached.bytes bytes last);
  stands = answered reached.bytes taken reached.stands;
}

-- The input failed, which takes nothing.
pub failed_answered : (left later last taken given : Option (List ℕ)) (kept : List ℕ) → Reached left later taken given kept → last ≡ later → Answered whole_lines left last taken given
failed_answered left later last taken given kept reached same = record {
  bytes = reached.bytes;
  read = reached.read ∙ ap (before reached.bytes) (sym same);
  written = reached.stands.written;
}

pub failed_broken : (left later last taken given : Option (List ℕ)) (kept : List ℕ) → Reached left later taken given kept → last ≡ later → Broken left last taken given
failed_broken left later last taken given kept reached same =
    let cut = cut_stands reached.bytes kept taken given reached.stands in
    record {
      bytes = reached.bytes;
      rest = [];
      read = reached.read ∙ ap (before reached.bytes) (sym same ∙ sym (before-nil last));
      kept = cut.kept;
      no_more = cut.no_more;
    }

-- The input ended.
pub ended_answered : (count : ℕ) (left later last taken given next : Option (List ℕ)) (kept piece : List ℕ) → Reached left later taken given kept → count ≡ 0 → later ≡ before (take count piece) last
    → ((front : List ℕ) (t : Option (List ℕ)) → Stands front kept t given → next ≡ adds t (answers (all_lines front))) → Answered all_lines left last taken next
ended_answered count left later last taken given next kept piece reached none read answered = record {
  bytes = reached.bytes;
  read = reached.read ∙ ap (before reached.bytes) (read ∙ ap (λ (n : ℕ). before (take n piece) last) none ∙ before-nil last);
  written = answered reached.bytes taken reached.stands;
}

pub ended_broken : (left later last taken given next : Option (List ℕ)) (kept bytes : List ℕ) → Reached left later taken given kept → later ≡ before bytes last
    → ((front : List ℕ) (t : Option (List ℕ)) → Stands front kept t given → Cut front t next) → Broken left last taken next
ended_broken left later last taken given next kept bytes reached read answered =
    let cut = answered reached.bytes taken reached.stands in
    record {
      bytes = reached.bytes;
      rest = bytes;
      read = reached.read ∙ ap (before reached.bytes) read;
      kept = cut.kept;
      no_more = cut.no_more;
    }

-- An answer to a line of a piece was not written.
pub piece_broken : (left later last taken given next : Option (List ℕ)) (kept bytes : List ℕ) → Reached left later taken given kept → later ≡ before bytes last
    → ((front : List ℕ) (t : Option (List ℕ)) → Stands front kept t given → Stopped front bytes t next) → Broken left last taken next
piece_broken left later last taken given next kept bytes reached read answered =
    let stopped = answered reached.bytes taken reached.stands in
    record {
      bytes = reached.bytes ++ stopped.front;
      rest = stopped.rest;
      read =
          reached.read ∙ ap (before reached.bytes) (read ∙ ap (λ (b : List ℕ). before b last) stopped.parts ∙ before-append stopped.front stopped.rest last)
          ∙ sym (before-append reached.bytes stopped.front (before stopped.rest last));
      kept = stopped.cut.kept;
      no_more = stopped.cut.no_more;
    }
