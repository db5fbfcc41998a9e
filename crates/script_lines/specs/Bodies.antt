-- The body of a command: the bytes of the lines behind its own, up to one that is the word
-- (this project's own). Only the reader's contracts cite it.
use Rattle.std.specs.Prelude.{ℕ, suc, ◌==◌, Bool, ◌&&◌, if◌then◌else◌, List, [], ◌∷◌, Option, None, option_map}
use Rattle.std.specs.List.{position}
use Rattle.std.specs.Str.{bytes_eq}
use Rattle.script_text.specs.Reading.{shorn}

-- The place of the first line feed.
abbrev pub feed_at : List ℕ → Option ℕ
feed_at bytes = position (λ byte. byte == 10) bytes

-- The bytes up to the first line feed.
abbrev pub first_line : List ℕ → List ℕ
first_line [] = []
first_line (byte ∷ bytes) = if byte == 10 then [] else byte ∷ first_line bytes

-- Whether a line is the word.
abbrev pub says_word : List ℕ → List ℕ → Bool
says_word word line = bytes_eq (shorn line) word

-- Whether the first line is.
abbrev pub is_word : List ℕ → List ℕ → Bool
is_word word bytes = says_word word (first_line bytes)

-- The bytes of a body as they stand, and how many bytes the line has that ends it, with its line feed: none if the script ends first.
pub record Body : Type 0 where
  pub bytes : List ℕ
  pub end : Option ℕ

abbrev pub body : List ℕ → Option ℕ → Body
body bytes end = record { bytes = bytes; end = end }

abbrev pub led : ℕ → Body → Body
led byte b = body (byte ∷ b.bytes) b.end

-- The body that these bytes begin with; a line begins with them if they are fresh.
unfoldable pub body_of : List ℕ → Bool → List ℕ → Body
body_of word fresh [] = body [] None
body_of word fresh (byte ∷ bytes) =
    if fresh && is_word word (byte ∷ bytes) then body [] (option_map suc (feed_at (byte ∷ bytes)))
    else led byte (body_of word (byte == 10) bytes)
