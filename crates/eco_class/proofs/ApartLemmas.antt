-- The lines of a table that is read end apart.
use Rattle.std.proofs.Common.{◌≡◌, ℕ, zero, suc, ◌+◌, ◌<◌, ◌==◌, Bool, true, false, cond, List, [], ◌∷◌, ◌++◌, length, get_or, Option, None, Some, refl, subst, arith}
use Rattle.std.specs.Prelude.{AllPairs, Result, Ok, Err, nat_le, option_map, slice_index}
use Rattle.std.specs.List.{find}
use Rattle.std.specs.Str.Lines.{strip_carriage_return}
use Rattle.std.proofs.lemmas.Bool.{and_from, both_ways}
use Rattle.std.proofs.lemmas.List.Quantifiers.{all_pairs_push}
use Rattle.cell_core.specs.declared.man.Colour.{Colour}
use Rattle.cell_core.specs.Board.{Men, same_men}
use Rattle.cell_core.specs.Man.{same_colour}
use Rattle.cell_core.proofs.Same.{same_colour-Decides, same_men-Decides}
use Rattle.cell_core.specs.Steps.{blamed, ◌>>=◌}
use Rattle.chess_laws.specs.Position.{start_setup}
use Rattle.chess_laws.specs.declared.setup.Setup.{Setup}
use Rattle.chess_text.specs.declared.fault.SanFault.{SanFault}
use Rattle.game_tree.specs.Eco.{eco_read}
use Rattle.eco_class.specs.Cutting.{lines_of, words_of}
use Rattle.eco_class.specs.Table.{EndApart, Opening, ends_at, line_at}
use Rattle.eco_class.specs.Reading.{joined, played, table_of, with_code, with_line, with_lines, with_words}
use Rattle.eco_class.specs.Kept.{opening}
use Rattle.eco_class.specs.declared.fault.EcoFault.{EcoFault}
use Rattle.eco_class.specs.declared.fault.EcoWhat.TheVariants.{Lines, San}

-- A line that is not found ends elsewhere.
not_here : (board : Men) (side : Colour) (line : Opening) → ends_at board side line ≡ false → line.board ≡ board → line.side ≡ side → ⊥
not_here board side line not same_board same_side =
    both_ways (ends_at board side line) not
    (and_from (same_men line.board board) (same_colour line.side side) ((same_men-Decides line.board board).1 same_board) ((same_colour-Decides line.side side).1 same_side))

elsewhere : (table : List Opening) (board : Men) (side : Colour) (k : ℕ) (d : Opening) → line_at table board side ≡ None → k < length table
    → (get_or table k d).board ≡ board → (get_or table k d).side ≡ side → ⊥
elsewhere [] board side k d none less = absurd (omega (arith, less))
elsewhere (line ∷ table) board side k d none less = by (λ rest j. elsewhere table board side j d rest) (ends_at board side line) refl none k less
  where
    by : (line_at table board side ≡ None → (j : ℕ) → j < length table → (get_or table j d).board ≡ board → (get_or table j d).side ≡ side → ⊥) → (t : Bool) → ends_at board side line ≡ t
        → option_map (λ (o : Opening). o.line) (cond t (Some line) (find (ends_at board side) table)) ≡ None → (k : ℕ) → k < length (line ∷ table)
        → (get_or (line ∷ table) k d).board ≡ board → (get_or (line ∷ table) k d).side ≡ side → ⊥
    by later true at some k less = absurd (cc)
    by later false at rest zero less = not_here board side line at
    by later false at rest (suc k) less = later rest k (omega (arith, less))

apart_joined : (table next : List Opening) (new : Opening) (earlier : Option ℕ) → line_at table new.board new.side ≡ earlier → AllPairs EndApart table
    → joined table new earlier ≡ Ok next → AllPairs EndApart next
apart_joined table next new None none apart is =
    subst (AllPairs EndApart) (let same : table ++ new ∷ [] ≡ next = cc in same)
    (all_pairs_push EndApart table new apart (λ k d less. elsewhere table new.board new.side k d none less))
apart_joined table next new (Some earlier) some apart is = absurd (cc)

apart_place : (table next : List Opening) (number code : ℕ) (place : Result Setup SanFault) → AllPairs EndApart table
    → (blamed (λ fault. record { line = number; what = San fault }) place >>= λ p. joined table (opening number code p) (line_at table p.board p.side)) ≡ Ok next
    → AllPairs EndApart next
apart_place table next number code (Err fault) apart is = absurd (cc)
apart_place table next number code (Ok p) apart is =
    apart_joined table next (opening number code p) (line_at table p.board p.side) refl apart is

apart_code : (table next : List Opening) (number : ℕ) (moves : List (List ℕ)) (code : Option ℕ) → AllPairs EndApart table
    → with_code table number moves code ≡ Ok next → AllPairs EndApart next
apart_code table next number moves None apart is = absurd (cc)
apart_code table next number moves (Some code) apart is = by (nat_le 65536 (length table)) is
  where
    by : (t : Bool) → cond t (Err (record { line = number; what = Lines }))
        (blamed (λ fault. record { line = number; what = San fault }) (played start_setup moves) >>= λ p. joined table (opening number code p) (line_at table p.board p.side))
        ≡ Ok next → AllPairs EndApart next
    by true bad = absurd (cc)
    by false good = apart_place table next number code (played start_setup moves) apart good

apart_words : (table next : List Opening) (number : ℕ) (words : List (List ℕ)) → AllPairs EndApart table → with_words table number words ≡ Ok next
    → AllPairs EndApart next
apart_words table next number [] apart is = subst (AllPairs EndApart) (let same : table ≡ next = cc in same) apart
apart_words table next number (first ∷ moves) apart is = apart_code table next number moves (eco_read first) apart is

apart_line : (table next : List Opening) (number : ℕ) (line : List ℕ) → AllPairs EndApart table → with_line table number line ≡ Ok next
    → AllPairs EndApart next
unfolding with_line
apart_line table next number line apart is = by (slice_index line 0 == 35) is
  where
    by : (t : Bool) → cond t (Ok table) (with_words table number (words_of (strip_carriage_return line))) ≡ Ok next → AllPairs EndApart next
    by true same = subst (AllPairs EndApart) (let it : table ≡ next = cc in it) apart
    by false rest = apart_words table next number (words_of (strip_carriage_return line)) apart rest

apart_lines : (lines : List (List ℕ)) (table whole : List Opening) (number : ℕ) → AllPairs EndApart table → with_lines table number lines ≡ Ok whole
    → AllPairs EndApart whole
unfolding with_lines
apart_lines [] table whole number apart is = subst (AllPairs EndApart) (let same : table ≡ whole = cc in same) apart
apart_lines (line ∷ lines) table whole number apart is = by (λ next. apart_lines lines next whole (number + 1)) (with_line table number line) refl is
  where
    by : ((next : List Opening) → AllPairs EndApart next → with_lines next (number + 1) lines ≡ Ok whole → AllPairs EndApart whole) → (answer : Result (List Opening) EcoFault) → with_line table number line ≡ answer
        → (answer >>= λ next. with_lines next (number + 1) lines) ≡ Ok whole → AllPairs EndApart whole
    by later (Err fault) at bad = absurd (cc)
    by later (Ok next) at rest = later next (apart_line table next number line apart at) rest

pub lines_apart : (text : List ℕ) (table : List Opening) → table_of text ≡ Ok table → AllPairs EndApart table
lines_apart text table is = apart_lines (lines_of text) [] table 1 (λ i j d before less. absurd (omega (arith, less))) is
