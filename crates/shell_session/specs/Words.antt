-- The words that the program is run with. This project's own.
use Rattle.std.specs.Prelude.{ℕ, ◌==◌, ◌||◌, Bool, true, false, not, if◌then◌else◌, List, [], ◌∷◌, Option, Some, None, codes, is_some, option_and_then, option_map}
use Rattle.std.specs.Str.{bytes_eq}

-- What the words ask for: a base, whether its absent files are made, whether its derived fields count at opening, and whether the script is said
-- at a desk of four clients. The first of the words may ask for no base yet.
pub record Wanted (Name : Type 0) : Type 0 where
  pub name : Name
  pub create : Bool
  pub strict : Bool
  pub desk : Bool

-- A word that can be a base name: it is not empty and does not begin with `-` (45).
abbrev pub is_base_name : List ℕ → Bool
is_base_name [] = false
is_base_name (byte ∷ word) = not (byte == 45)

-- One word more: each of the four comes at most once.
abbrev pub with_word : Wanted (Option (List ℕ)) → List ℕ → Option (Wanted (Option (List ℕ)))
with_word said word =
    if bytes_eq word (codes "--create") then (if said.create then None else Some (record said { create = true }))
    else if bytes_eq word (codes "--strict") then (if said.strict then None else Some (record said { strict = true }))
    else if bytes_eq word (codes "--desk") then (if said.desk then None else Some (record said { desk = true }))
    else if is_some said.name || not (is_base_name word) then None else Some (record said { name = Some word })

abbrev pub with_words : Wanted (Option (List ℕ)) → List (List ℕ) → Option (Wanted (Option (List ℕ)))
with_words said [] = Some said
with_words said (word ∷ words) = option_and_then (λ more. with_words more words) (with_word said word)

-- The words are one base name and the options `--create`, `--strict` and `--desk`, each at most once, in any order; else they say nothing.
unfoldable pub words_read : List (List ℕ) → Option (Wanted (List ℕ))
words_read words =
    option_and_then
    (λ said. option_map (λ name. record { name = name; create = said.create; strict = said.strict; desk = said.desk }) said.name)
    (with_words (record { name = None; create = false; strict = false; desk = false }) words)
