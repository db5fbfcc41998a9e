-- Laws of texts that the files left unfinished.
use Rattle.std.proofs.Common.{◌≡◌, ℕ, Bool, true, false, List, [], ◌∷◌, ◌++◌, Option, refl, sym, ap, ◌∙◌, subst, append_assoc}
use Rattle.base_files.proofs.Telling.{Grew-adds, adds-append, adds-nil}
use Rattle.base_files.specs.Told.{Grew, adds}
use Rattle.shell_state.specs.Stands.{Unfinished}

-- Nothing was written.
pub unfinished_late : (early : Bool) (text : List ℕ) (told : Option (List ℕ)) → early ≡ false → Unfinished early text told told
unfinished_late false text told late = refl
unfinished_late true text told late = absurd cc

-- Nor of a text that goes out early, and has a byte.
pub unfinished_none : (text : List ℕ) (told : Option (List ℕ)) → (text ≡ [] → ⊥) → Unfinished true text told told
unfinished_none [] told some = absurd (some refl)
unfinished_none (byte ∷ rest) told some = ([], byte, rest, refl, Grew-adds told [])

-- What is unfinished of a text with a byte, whenever it goes out.
pub unfinished_by : (early : Bool) (text : List ℕ) (told told' : Option (List ℕ)) → (text ≡ [] → ⊥) → Unfinished early text told told' → Unfinished true text told told'
unfinished_by true text told told' some part = part
unfinished_by false text told told' some none =
    let P : Option (List ℕ) → Type 0 = λ t. Unfinished true text told t in
    subst P (sym none) (unfinished_none text told some)

-- Behind a text that was written.
pub unfinished_behind : (front text : List ℕ) (told told' told'' : Option (List ℕ)) → told' ≡ adds told front → Unfinished true text told' told'' → Unfinished true (front ++ text) told told''
unfinished_behind front text told told' told'' written part =
    let P : Option (List ℕ) → Type 0 = λ t. Grew told'' t in (
      front ++ part.0,
      part.1,
      part.2,
      ap (λ (l : List ℕ). front ++ l) part.3 ∙ sym (append_assoc front part.0 (part.1 ∷ part.2)),
      subst P (ap (λ (t : Option (List ℕ)). adds t part.0) written ∙ sym (adds-append told front part.0)) part.4,
    )

-- Before another text.
pub unfinished_more : (text more : List ℕ) (told told' : Option (List ℕ)) → Unfinished true text told told' → Unfinished true (text ++ more) told told'
unfinished_more text more told told' part =
    (part.0, part.1, part.2 ++ more, ap (λ (l : List ℕ). l ++ more) part.3 ∙ append_assoc part.0 (part.1 ∷ part.2) more, part.4)

-- At most the front of it was written.
pub unfinished_within : (front text : List ℕ) (told told' : Option (List ℕ)) → Grew told' (adds told front) → (text ≡ [] → ⊥) → Unfinished true (front ++ text) told told'
unfinished_within front [] told told' within some = absurd (some refl)
unfinished_within front (byte ∷ rest) told told' within some = (front, byte, rest, refl, within)

-- All of a text was written, and nothing of what stands behind it.
pub unfinished_at : (front text : List ℕ) (told told' : Option (List ℕ)) → told' ≡ adds told front → (text ≡ [] → ⊥) → Unfinished true (front ++ text) told told'
unfinished_at front text told told' written some = unfinished_behind front text told told' told' written (unfinished_none text told' some)

-- A text has a byte.
pub some_behind : (front text : List ℕ) → (text ≡ [] → ⊥) → front ++ text ≡ [] → ⊥
some_behind [] text some none = some none
some_behind (x ∷ front) text some none = absurd cc

pub has_byte : (front : List ℕ) (byte : ℕ) (rest : List ℕ) → front ++ byte ∷ rest ≡ [] → ⊥
has_byte [] byte rest none = absurd cc
has_byte (x ∷ front) byte rest none = absurd cc
