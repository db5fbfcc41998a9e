-- Laws of how far the lines are answered.
use Rattle.std.proofs.Common.{if◌then◌else◌, ◌≡◌, ◌<◌, ◌≤◌, ◌+◌, ◌==◌, ℕ, suc, Bool, true, false, List, [], ◌∷◌, ◌++◌, length, take, flat_map, Option, None, Some, refl, sym, ap, ◌∙◌, subst, arith, append_assoc, append-nil, inl, inr}
use Rattle.std.proofs.lemmas.Bool.{cases_lt, ne_eqb}
use Rattle.std.proofs.lemmas.List.{length-append, length-take-le, take-append-le, take_all}
use Rattle.std.proofs.lemmas.Grind.{flat_map-append}
use Rattle.base_files.specs.Told.{adds, Grew}
use Rattle.base_files.proofs.Telling.{adds-append, adds-nil, Grew-adds, Grew-refl, Grew-trans}
use Rattle.scid_moves.specs.Answers.{answer}
use Rattle.scid_moves.specs.Lines.{all_lines, answers, lines_from, open_line, whole_lines}
use Rattle.scid_moves.specs.Standing.{Cut, Stands, Stopped, most_kept}
use Rattle.scid_moves.proofs.LineLaws.{answer_kept, lines_more}

-- The answers to lines, and to one more.
answers-more : (lines : List (List ℕ)) (line : List ℕ) → answers (lines ++ line ∷ []) ≡ answers lines ++ answer line
answers-more lines line = flat_map-append answer lines (line ∷ []) ∙ ap (λ (l : List ℕ). answers lines ++ l) (append-nil (answer line))

-- Before the first byte nothing is answered.
pub stands_first : (taken : Option (List ℕ)) → Stands [] [] taken taken
unfolding lines_from
stands_first taken = record { line = refl; written = sym (adds-nil taken) }

-- A line feed comes, and the answer to its line was written.
pub stands_fed : (byte : ℕ) (bytes kept : List ℕ) (taken given later : Option (List ℕ)) → byte ≡ 10 → Stands bytes kept taken given → later ≡ adds given (answer kept)
    → Stands (bytes ++ byte ∷ []) [] taken later
stands_fed byte bytes kept taken given later feed stands written =
    let is : lines_from [] (bytes ++ byte ∷ []) ≡ (whole_lines bytes ++ open_line bytes ∷ [], []) =
    ap (λ (b : ℕ). lines_from [] (bytes ++ b ∷ [])) feed ∙ lines_more 10 [] bytes in
    let answered : answer kept ≡ answer (open_line bytes) = ap answer stands.line ∙ answer_kept (open_line bytes) in
    record {
      line = ap (λ (read : List (List ℕ) × List ℕ). take most_kept read.1) (sym is);
      written =
          written ∙ ap (λ (t : Option (List ℕ)). adds t (answer kept)) stands.written
          ∙ sym (adds-append taken (answers (whole_lines bytes)) (answer kept))
          ∙ ap (λ (l : List ℕ). adds taken (answers (whole_lines bytes) ++ l)) answered
          ∙ ap (adds taken) (sym (answers-more (whole_lines bytes) (open_line bytes)))
          ∙ ap (λ (read : List (List ℕ) × List ℕ). adds taken (answers read.0)) (sym is);
    }

-- ---- a byte of a line

long_open : (line : List ℕ) → length (take most_kept line) < most_kept → length line < most_kept
long_open line short = elim (cases_lt (length line) most_kept) [
  | inl few ↦ few
  | inr many ↦ omega (arith, short, length-take-le most_kept line many)
]

full-open : (line : List ℕ) → most_kept ≤ length (take most_kept line) → most_kept ≤ length line
full-open line full = elim (cases_lt (length line) most_kept) [
  | inl few ↦ omega (arith, full, ap length (take_all most_kept line (omega (arith, few))))
  | inr many ↦ many
]

byte-lines : (byte : ℕ) (bytes : List ℕ) → (byte == 10) ≡ false → lines_from [] (bytes ++ byte ∷ []) ≡ (whole_lines bytes, open_line bytes ++ byte ∷ [])
byte-lines byte bytes none = lines_more byte [] bytes ∙ (rw none refl)

-- A byte of a line was kept.
pub stands_kept : (byte : ℕ) (bytes kept later : List ℕ) (taken given : Option (List ℕ)) → (byte == 10) ≡ false → length kept < most_kept → Stands bytes kept taken given
    → later ≡ kept ++ byte ∷ [] → Stands (bytes ++ byte ∷ []) later taken given
stands_kept byte bytes kept later taken given none room stands pushed =
    let is = byte-lines byte bytes none in
    let line = open_line bytes in
    let short : length line < most_kept = long_open line (omega (arith, room, ap length stands.line)) in
    let whole : take most_kept line ≡ line = take_all most_kept line (omega (arith, short)) in
    let fits : take most_kept (line ++ byte ∷ []) ≡ line ++ byte ∷ [] = take_all most_kept (line ++ byte ∷ []) (omega (arith, short, length-append line (byte ∷ []))) in
    record {
      line =
          pushed ∙ ap (λ (l : List ℕ). l ++ byte ∷ []) (stands.line ∙ whole) ∙ sym fits
          ∙ ap (λ (read : List (List ℕ) × List ℕ). take most_kept read.1) (sym is);
      written = stands.written ∙ ap (λ (read : List (List ℕ) × List ℕ). adds taken (answers read.0)) (sym is);
    }

-- A byte of a line that is too long was not kept.
pub stands_full : (byte : ℕ) (bytes kept : List ℕ) (taken given : Option (List ℕ)) → (byte == 10) ≡ false → most_kept ≤ length kept → Stands bytes kept taken given
    → Stands (bytes ++ byte ∷ []) kept taken given
stands_full byte bytes kept taken given none full stands =
    let is = byte-lines byte bytes none in
    let line = open_line bytes in
    let long : most_kept ≤ length line = full-open line (omega (arith, full, ap length stands.line)) in
    record {
      line =
          stands.line ∙ sym (take-append-le most_kept line (byte ∷ []) long)
          ∙ ap (λ (read : List (List ℕ) × List ℕ). take most_kept read.1) (sym is);
      written = stands.written ∙ ap (λ (read : List (List ℕ) × List ℕ). adds taken (answers read.0)) (sym is);
    }

-- ---- where it ends early

whole-all : (bytes : List ℕ) (taken : Option (List ℕ)) → Grew (adds taken (answers (whole_lines bytes))) (adds taken (answers (all_lines bytes)))
whole-all bytes taken =
    let last : List (List ℕ) = if length (open_line bytes) == 0 then [] else open_line bytes ∷ [] in
    subst (λ (t : Option (List ℕ)). Grew (adds taken (answers (whole_lines bytes))) t)
    (sym (ap (adds taken) (flat_map-append answer (whole_lines bytes) last) ∙ adds-append taken (answers (whole_lines bytes)) (answers last)))
    (Grew-adds (adds taken (answers (whole_lines bytes))) (answers last))

-- Nothing was written behind the answers to the lines that were read whole.
pub cut_stands : (bytes kept : List ℕ) (taken given : Option (List ℕ)) → Stands bytes kept taken given → Cut bytes taken given
cut_stands bytes kept taken given stands = record {
  kept = subst (λ (t : Option (List ℕ)). Grew taken t) (sym stands.written) (Grew-adds taken (answers (whole_lines bytes)));
  no_more = subst (λ (t : Option (List ℕ)). Grew t (adds taken (answers (all_lines bytes)))) (sym stands.written) (whole-all bytes taken);
}

-- A byte of a line could not be kept.
pub cut_byte : (byte : ℕ) (bytes kept : List ℕ) (taken given : Option (List ℕ)) → (byte == 10) ≡ false → Stands bytes kept taken given → Cut (bytes ++ byte ∷ []) taken given
cut_byte byte bytes kept taken given none stands =
    let is = byte-lines byte bytes none in
    let after : Stands (bytes ++ byte ∷ []) (take most_kept (open_line (bytes ++ byte ∷ []))) taken given = record {
      line = refl;
      written = stands.written ∙ ap (λ (read : List (List ℕ) × List ℕ). adds taken (answers read.0)) (sym is);
    } in
    cut_stands (bytes ++ byte ∷ []) (take most_kept (open_line (bytes ++ byte ∷ []))) taken given after

-- No more was written than a front part of an answer.
cut-answer : (all : List ℕ) (taken given later : Option (List ℕ)) → Grew taken given → Grew given later → Grew later (adds taken (answers (whole_lines all)))
    → Cut all taken later
cut-answer all taken given later first kept no_more = record {
  kept = Grew-trans taken given later first kept;
  no_more = Grew-trans later (adds taken (answers (whole_lines all))) (adds taken (answers (all_lines all))) no_more (whole-all all taken);
}

pub cut_fed : (byte : ℕ) (bytes kept : List ℕ) (taken given later : Option (List ℕ)) → byte ≡ 10 → Stands bytes kept taken given → Grew given later → Grew later (adds given (answer kept))
    → Cut (bytes ++ byte ∷ []) taken later
cut_fed byte bytes kept taken given later feed stands grew no_more =
    let whole = stands_fed byte bytes kept taken given (adds given (answer kept)) feed stands refl in
    cut-answer (bytes ++ byte ∷ []) taken given later (cut_stands bytes kept taken given stands).kept grew
    (subst (λ (t : Option (List ℕ)). Grew later t) whole.written no_more)

-- ---- the end of the input

-- The last line is empty where nothing of it is kept.
none-open : (line : List ℕ) → length (take most_kept line) ≡ 0 → (length line == 0) ≡ true
none-open [] none = refl
none-open (byte ∷ line) none = absurd (omega (arith, none))

some-open : (line : List ℕ) → (length (take most_kept line) ≡ 0 → ⊥) → (length line == 0) ≡ false
some-open [] some = absurd (some refl)
some-open (byte ∷ line) some = ne_eqb (length (byte ∷ line)) 0 (λ none. absurd (omega (arith, none)))

pub last_empty : (bytes kept : List ℕ) (taken given : Option (List ℕ)) → length kept ≡ 0 → Stands bytes kept taken given → given ≡ adds taken (answers (all_lines bytes))
last_empty bytes kept taken given none stands =
    let empty = none-open (open_line bytes) (sym (ap length stands.line) ∙ none) in
    let same : all_lines bytes ≡ whole_lines bytes = rw empty (append-nil (whole_lines bytes)) in
    stands.written ∙ ap (λ (lines : List (List ℕ)). adds taken (answers lines)) (sym same)

last-is : (bytes kept : List ℕ) (taken given : Option (List ℕ)) → (length kept ≡ 0 → ⊥) → Stands bytes kept taken given → adds given (answer kept) ≡ adds taken (answers (all_lines bytes))
last-is bytes kept taken given some stands =
    let there = some-open (open_line bytes) (λ none. some (ap length stands.line ∙ none)) in
    let same : all_lines bytes ≡ whole_lines bytes ++ open_line bytes ∷ [] = rw there refl in
    let answered : answer kept ≡ answer (open_line bytes) = ap answer stands.line ∙ answer_kept (open_line bytes) in
    ap (λ (t : Option (List ℕ)). adds t (answer kept)) stands.written
    ∙ sym (adds-append taken (answers (whole_lines bytes)) (answer kept))
    ∙ ap (λ (l : List ℕ). adds taken (answers (whole_lines bytes) ++ l)) answered
    ∙ ap (adds taken) (sym (answers-more (whole_lines bytes) (open_line bytes)))
    ∙ ap (λ (lines : List (List ℕ)). adds taken (answers lines)) (sym same)

pub last_written : (bytes kept : List ℕ) (taken given later : Option (List ℕ)) → (length kept ≡ 0 → ⊥) → Stands bytes kept taken given → later ≡ adds given (answer kept)
    → later ≡ adds taken (answers (all_lines bytes))
last_written bytes kept taken given later some stands written = written ∙ last-is bytes kept taken given some stands

pub last_cut : (bytes kept : List ℕ) (taken given later : Option (List ℕ)) → (length kept ≡ 0 → ⊥) → Stands bytes kept taken given → Grew given later → Grew later (adds given (answer kept))
    → Cut bytes taken later
last_cut bytes kept taken given later some stands grew no_more = record {
  kept = Grew-trans taken given later (cut_stands bytes kept taken given stands).kept grew;
  no_more = subst (λ (t : Option (List ℕ)). Grew later t) (last-is bytes kept taken given some stands) no_more;
}
