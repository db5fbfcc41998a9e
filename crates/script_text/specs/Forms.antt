-- The forms of arguments: what a word stands for, or none (this project's own).
use Rattle.std.specs.Prelude.{ℕ, ◌==◌, nat_le, Bool, true, false, not, ◌&&◌, ◌||◌, if◌then◌else◌, List, [], ◌∷◌, length, Option, Some, None, codes}
use Rattle.std.specs.List.{list_all, position_from}
use Rattle.std.specs.Str.{bytes_eq}
use Rattle.std.specs.Char.{is_ascii_alphanumeric}
use Rattle.cell_core.specs.declared.man.Colour.{Colour}
use Rattle.cell_core.specs.declared.man.Colour.TheVariants as colour
use Rattle.game_filter.specs.declared.op.Op.{Op}
use Rattle.game_filter.specs.declared.op.Op.TheVariants.{Ignore, And, Or}
use Rattle.game_tree.specs.Marks.{mark_letters}
use Rattle.sig_index.specs.declared.pos_query.Mode.{Mode}
use Rattle.sig_index.specs.declared.pos_query.Mode.TheVariants.{Exact, Pawns, Files, Material}
use Rattle.script_text.specs.declared.forms.SearchKind.{SearchKind}
use Rattle.script_text.specs.declared.forms.SearchKind.TheVariants as kind

-- What a word stands for by a table of words, if it is one of them.
abbrev pub by_word : {A : Type 0} → List (List ℕ × A) → List ℕ → Option A
by_word [] word = None
by_word (row ∷ rows) word = if bytes_eq word row.0 then Some row.1 else by_word rows word

-- SIDE: w or b.
abbrev pub side : List ℕ → Option Colour
side word = by_word ((codes "w", colour.White) ∷ (codes "b", colour.Black) ∷ []) word

-- OP: how a search joins the filter that it finds.
abbrev pub op : List ℕ → Option Op
op word = by_word ((codes "ignore", Ignore) ∷ (codes "and", And) ∷ (codes "or", Or) ∷ []) word

-- KIND: what a search looks at.
abbrev pub search_kind : List ℕ → Option SearchKind
search_kind word = by_word ((codes "position", kind.Position) ∷ (codes "material", kind.Material) ∷ (codes "header", kind.Header) ∷ []) word

-- MODE: what a position has in common with the board that is sought.
abbrev pub mode : List ℕ → Option Mode
mode word = by_word ((codes "exact", Exact) ∷ (codes "pawns", Pawns) ∷ (codes "files", Files) ∷ (codes "material", Material) ∷ []) word

-- vars: variations are looked at too.
abbrev pub vars : List ℕ → Option Bool
vars word = if bytes_eq word (codes "vars") then Some true else None

-- on or off.
abbrev pub switch : List ℕ → Option Bool
switch word = by_word ((codes "on", true) ∷ (codes "off", false) ∷ []) word

-- yes or no.
abbrev pub answer : List ℕ → Option Bool
answer word = by_word ((codes "yes", true) ∷ (codes "no", false) ∷ []) word

-- LETTER of a mark, as the bit of the marks that it names: the user marks from 0 on, then the custom marks. The letters are those of ScidFlags.
abbrev pub mark_bit : List ℕ → Option ℕ
mark_bit (byte ∷ []) = position_from (λ letter. letter == byte) 0 mark_letters
mark_bit _ = None

-- A word of 1 to 32 such bytes.
abbrev pub short_word : (ℕ → Bool) → List ℕ → Option (List ℕ)
short_word test word = if nat_le 1 (length word) && nat_le (length word) 32 && list_all test word then Some word else None

-- NAME of a filter: letters, digits and underscores.
unfoldable pub filter_name : List ℕ → Option (List ℕ)
filter_name word = short_word (λ byte. is_ascii_alphanumeric byte || byte == 95) word

-- A name of the base, or the beginning of one: any bytes but zero.
abbrev pub name_text : List ℕ → Option (List ℕ)
name_text word = if list_all (λ byte. not (byte == 0)) word then Some word else None

-- <<WORD, where WORD has letters and digits: the word that ends a body.
unfoldable pub body_end : List ℕ → Option (List ℕ)
body_end (first ∷ second ∷ word) = if first == 60 && second == 60 then short_word is_ascii_alphanumeric word else None
body_end _ = None
