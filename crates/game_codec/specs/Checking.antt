-- The texts of a record if their number alone is known. No public contract cites these words.
use Rattle.std.specs.Prelude.{◌≡◌, ℕ, suc, List, [], ◌∷◌, length}
use Rattle.game_codec.specs.Texts.{AreTexts}

-- How many of these texts are not empty.
abbrev pub full_among : List (List ℕ) → ℕ
full_among [] = 0
full_among ([] ∷ texts) = full_among texts
full_among ((c ∷ cs) ∷ texts) = suc (full_among texts)

-- The bytes are so many texts, and so many of them are not empty.
abbrev pub AreSomeTexts : ℕ → List ℕ → ℕ → Type 0
AreSomeTexts due bytes full = (texts : List (List ℕ)) × (AreTexts bytes texts × ((length texts ≡ due) × (full ≡ full_among texts)))
