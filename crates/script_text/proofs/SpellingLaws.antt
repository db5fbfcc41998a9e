-- Words in quotes are read as they are.
use Rattle.std.proofs.Common.{◌≡◌, ◌==◌, ℕ, inl, inr, List, [], ◌∷◌, ◌++◌, Some, map, refl, sym, ◌∙◌, ap}
use Rattle.std.proofs.lemmas.Bool.{cases_Bool, or_parts}
use Rattle.script_text.specs.Words.{front, cut, words_of, is_escaped}
use Rattle.script_text.specs.Spelling.{escaped, quoted_line}
use Rattle.script_text.specs.declared.words.Place.TheVariants.{Inside, Quoted}
use Rattle.script_text.proofs.WordLaws.{front_none, front_front, append_none}

-- The text of a quoted part, and what follows its quote.
quoted_part : (text rest : List ℕ) → cut Quoted (escaped text ++ 34 ∷ rest) ≡ front text (cut Inside rest)
unfolding cut
quoted_part [] rest = sym (front_none (cut Inside rest))
quoted_part (byte ∷ text) rest =
    let more = ap (λ words. front (byte ∷ []) words) (quoted_part text rest)
    ∙ front_front (byte ∷ []) text (cut Inside rest) in
    elim (cases_Bool (is_escaped byte)) [
      | inl is ↦ rw (is, is) more
      | inr is_not ↦
          let parts = or_parts (byte == 34) (byte == 92) is_not in
          rw (is_not, parts.0, parts.1) more
    ]

pub quoted_line_read : (texts : List (List ℕ)) → words_of (quoted_line texts) ≡ map (λ text. Some text) texts
unfolding cut
quoted_line_read [] = refl
quoted_line_read (text ∷ texts) =
    quoted_part text (32 ∷ quoted_line texts)
    ∙ rw (append_none text, quoted_line_read texts) refl
