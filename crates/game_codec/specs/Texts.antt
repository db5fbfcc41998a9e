-- The texts of a record's comments, behind its moves: each is ended by a zero byte (this project's own, after Scid's
-- format).
use Rattle.std.specs.Prelude.{◌≡◌, ◌≢◌, ℕ, ◌<◌, List, [], ◌∷◌, ◌++◌, length, All}
use Rattle.cell_core.specs.Text.{IsZeroFree}
use Rattle.game_tree.specs.Movetext.{Movetext, end, move, nag, comment, variation}
use Rattle.game_codec.specs.declared.fault.RecordWhat.{RecordWhat}
use Rattle.game_codec.specs.declared.fault.RecordWhat.TheVariants as what

-- The texts of a movetext's comments in the order of their marks.
abbrev pub texts_of : Movetext → List (List ℕ)
texts_of end = []
texts_of (move m s) = texts_of s
texts_of (nag n s) = texts_of s
texts_of (comment text s) = text ∷ texts_of s
texts_of (variation inner s) = texts_of inner ++ texts_of s

-- These texts, each with a zero byte behind it.
abbrev pub ended : List (List ℕ) → List ℕ
ended [] = []
ended (text ∷ texts) = text ++ 0 ∷ ended texts

-- The bytes are these texts, of which none has a zero byte.
pub record AreTexts (bytes : List ℕ) (texts : List (List ℕ)) : Type 0 where
  pub spelled : bytes ≡ ended texts
  pub zero_free : All IsZeroFree texts

-- Behind so many texts, of as many as are due, stands no whole text, or there is more.
abbrev pub TextFault : ℕ → ℕ → List ℕ → RecordWhat → Type 0
TextFault read due rest what.Short = (read < due) × IsZeroFree rest
TextFault read due rest what.Extra = (read ≡ due) × (rest ≢ [])
TextFault read due rest _ = ⊥

-- The bytes begin with some texts, and what follows them, from there on, has this fault, if so many texts are due.
pub record BreaksTexts (due : ℕ) (bytes rest : List ℕ) (what : RecordWhat) : Type 0 where
  pub texts : List (List ℕ)
  pub zero_free : All IsZeroFree texts
  pub spelled : bytes ≡ ended texts ++ rest
  pub fault : TextFault (length texts) due rest what
