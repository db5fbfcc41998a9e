-- The items of a search of heads (this project's own).
use Rattle.std.specs.Prelude.{ℕ, if◌then◌else◌, List, Option, Some, None, option_map, codes}
use Rattle.std.specs.Str.{bytes_eq}
use Rattle.game_tree.specs.Eco.{eco_read}
use Rattle.game_tree.specs.Outcome.{outcome_read}
use Rattle.sig_index.specs.declared.head_query.HeadQuery.{HeadQuery}
use Rattle.script_text.specs.Forms.{answer, mark_bit, name_text}
use Rattle.script_text.specs.Numbers.{number, span}

-- The query with the value of an item, by the key of the item.
unfoldable pub name_item : HeadQuery → List ℕ → List ℕ → Option HeadQuery
name_item query key value =
    if bytes_eq key (codes "white") then option_map (λ text. record query { white = Some text }) (name_text value)
    else if bytes_eq key (codes "black") then option_map (λ text. record query { black = Some text }) (name_text value)
    else if bytes_eq key (codes "player") then option_map (λ text. record query { player = Some text }) (name_text value)
    else if bytes_eq key (codes "event") then option_map (λ text. record query { event = Some text }) (name_text value)
    else if bytes_eq key (codes "site") then option_map (λ text. record query { site = Some text }) (name_text value)
    else if bytes_eq key (codes "round") then option_map (λ text. record query { round = Some text }) (name_text value)
    else None

unfoldable pub span_item : HeadQuery → List ℕ → List ℕ → Option HeadQuery
span_item query key value =
    if bytes_eq key (codes "year") then option_map (λ span. record query { year = Some span }) (span number value)
    else if bytes_eq key (codes "welo") then option_map (λ span. record query { welo = Some span }) (span number value)
    else if bytes_eq key (codes "belo") then option_map (λ span. record query { belo = Some span }) (span number value)
    else if bytes_eq key (codes "plies") then option_map (λ span. record query { plies = Some span }) (span number value)
    else if bytes_eq key (codes "eco") then option_map (λ span. record query { eco = Some span }) (span eco_read value)
    else name_item query key value

unfoldable pub head_item : HeadQuery → List ℕ → List ℕ → Option HeadQuery
head_item query key value =
    if bytes_eq key (codes "result") then option_map (λ outcome. record query { result = Some outcome }) (outcome_read value)
    else if bytes_eq key (codes "deleted") then option_map (λ yes. record query { deleted = Some yes }) (answer value)
    else if bytes_eq key (codes "mark") then option_map (λ bit. record query { mark = Some bit }) (mark_bit value)
    else span_item query key value
