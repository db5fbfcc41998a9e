-- The items of a search of material (this project's own).
use Rattle.std.specs.List.{position_from}
use Rattle.std.specs.Prelude.{ℕ, nat_le, true, if◌then◌else◌, List, [], ◌∷◌, Option, Some, None, option_map, option_and_then, slice_set, codes}
use Rattle.std.specs.Str.{bytes_eq}
use Rattle.game_tree.specs.Decimal.{decimal_read}
use Rattle.sig_index.specs.declared.span.Span.{Span}
use Rattle.sig_index.specs.declared.mat_query.MatQuery.{MatQuery}
use Rattle.script_text.specs.Numbers.{span}

-- The place of a count in a range by its key, which is the colour and the letter of the man.
abbrev pub count_place : List ℕ → Option ℕ
count_place key =
    position_from (bytes_eq key) 0
    (codes "wq" ∷ codes "wr" ∷ codes "wb" ∷ codes "wn" ∷ codes "wp" ∷ codes "bq" ∷ codes "br" ∷ codes "bb" ∷ codes "bn" ∷ codes "bp" ∷ [])

-- The query with a span of one count.
abbrev pub with_count : MatQuery → ℕ → Span → MatQuery
with_count query place span =
    record query {
      range = record { lo = slice_set query.range.lo place span.lo; hi = slice_set query.range.hi place span.hi };
    }

-- A streak: a number from 1 to 131,071.
abbrev pub streak : List ℕ → Option ℕ
streak value = option_and_then (λ n. if nat_le 1 n then Some n else None) (decimal_read 131071 value)

-- The query with the value of a count, which is from 0 to 16.
unfoldable pub count_item : MatQuery → List ℕ → List ℕ → Option MatQuery
count_item query key value =
    option_and_then (λ place. option_map (λ span. with_count query place span) (span (decimal_read 16) value)) (count_place key)

-- The query with the value of an item, by the key of the item.
unfoldable pub mat_item : MatQuery → List ℕ → List ℕ → Option MatQuery
mat_item query key value =
    if bytes_eq key (codes "ply")
    then option_map (λ span. record query { ply_lo = span.lo; ply_hi = span.hi }) (span (decimal_read 131071) value)
    else if bytes_eq key (codes "streak")
    then option_map (λ plies. record query { streak = plies }) (streak value)
    else if bytes_eq key (codes "swap")
    then (if bytes_eq value (codes "yes") then Some (record query { swap = true }) else None)
    else count_item query key value
