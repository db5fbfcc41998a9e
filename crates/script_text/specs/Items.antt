-- Items KEY=VALUE, each key at most once and one item at least (this project's own).
use Rattle.std.specs.Prelude.{ℕ, ◌+◌, nat_le, Bool, false, if◌then◌else◌, List, [], ◌∷◌, ◌++◌, length, drop, Option, Some, None, option_and_then, ok_or, Result, Ok, Err}
use Rattle.std.specs.List.{list_any}
use Rattle.std.specs.Option.{option_map_or}
use Rattle.std.specs.Str.{bytes_eq}
use Rattle.cell_core.specs.Steps.{◌>>=◌}
use Rattle.script_text.specs.declared.fault.ScriptFault.{ScriptFault}
use Rattle.script_text.specs.declared.fault.ScriptFault.TheVariants.{Argument}
use Rattle.script_text.specs.Words.{Word}
use Rattle.script_text.specs.Numbers.{split_once}

-- Key and value: what stands before the first `=`, and what stands behind it.
abbrev pub key_and_value : Word → Option (List ℕ × List ℕ)
key_and_value word = option_and_then (split_once 61) word

-- Whether one of these words is an item of this key.
abbrev pub has_key : List Word → List ℕ → Bool
has_key words key = list_any (λ word. option_map_or (λ parts. bytes_eq parts.0 key) (key_and_value word) false) words

-- Key and value of the next item, if no item before it has its key.
abbrev pub new_item : List Word → Word → Option (List ℕ × List ℕ)
new_item before word = option_and_then (λ parts. if has_key before parts.0 then None else Some parts) (key_and_value word)

-- A query with one item more, whose key and value `add` knows.
unfoldable pub with_item : {Q : Type 0} → (Q → List ℕ → List ℕ → Option Q) → List Word → Q → Word → Option Q
with_item add before query word = option_and_then (λ parts. add query parts.0 parts.1) (new_item before word)

-- A query with the items of these words; `before` are the items before them, of which the first was word 3.
unfoldable pub with_items : {Q : Type 0} → (Q → List ℕ → List ℕ → Option Q) → List Word → List Word → Q → Result Q ScriptFault
with_items add before [] query = Ok query
with_items add before (word ∷ words) query = do
  longer ← ok_or (with_item add before query word) (Argument (length before + 3))
  with_items add (before ++ word ∷ []) words longer

-- The query of the items from word 3 on, of which there is one at least.
unfoldable pub items : {Q : Type 0} → (Q → List ℕ → List ℕ → Option Q) → Q → List Word → Result Q ScriptFault
items add any words = if nat_le (length words) 3 then Err (Argument 3) else with_items add [] (drop 3 words) any
