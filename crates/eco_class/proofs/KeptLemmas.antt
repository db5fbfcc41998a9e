-- The entries of a table's map as its lines.
use Rattle.std.proofs.Common.{◌≡◌, ℕ, ◌<◌, ◌≤◌, Bool, true, false, cond, ◌&&◌, List, [], ◌∷◌, ◌++◌, length, min, Option, None, Some, refl, sym, ap, ◌∙◌, subst, arith, length-append, rules}
use Rattle.std.specs.Prelude.{All, IfSome, Ok, nat_eq, nat_le, option_map}
use Rattle.std.specs.Bool.{Decides, OnFalse}
use Rattle.std.specs.List.{find}
use Rattle.std.specs.Map.{lookup}
use Rattle.std.specs.Cmp.Lexicographic.{pointwise}
use Rattle.std.proofs.lemmas.Bool.{and_from, and_parts, leb-false}
use Rattle.std.proofs.lemmas.Bool.Decides.{Decides-and, Decides-eqb, Decides-like}
use Rattle.std.proofs.lemmas.List.{length-map, map-append}
use Rattle.std.proofs.lemmas.Slice.Eq.{slice_eq-Decides}
use Rattle.std.proofs.lemmas.List.Elements.{All-head, All-map, All-nil, All-push, All-tail, All-weaker}
use Rattle.cell_core.specs.contracts.man.ColourPartialEq.TheImpl as colour
use Rattle.cell_core.specs.contracts.packed.PackedBoardPartialEq.TheImpl as packed
use Rattle.cell_core.specs.declared.man.Colour.{Colour}
use Rattle.cell_core.specs.Board.{Men, same_men}
use Rattle.cell_core.specs.Man.{same_colour}
use Rattle.cell_core.specs.Packed.{Packed, cells_of, men_of, packed_of}
use Rattle.cell_core.proofs.Same.{same_colour-Decides, same_men-Decides}
use Rattle.chess_laws.specs.declared.setup.Setup.{Setup}
use Rattle.sig_index.proofs.LeavingLemmas.{same_tests}
use Rattle.eco_class.specs.declared.table.Named.{Named}
use Rattle.eco_class.specs.Table.{Opening, ends_at, line_at}
use Rattle.eco_class.specs.Reading.{joined}
use Rattle.eco_class.specs.Kept.{GivesBack, IsEntry, IsKept, men_in, opening_of, openings_of, opening}

same_packed : (a b : Packed) → a.cells ≡ b.cells → a.side ≡ b.side → a ≡ b
same_packed a b cells side = λ i. record { cells = cells i; side = side i }

-- A key is that of an entry where the entry's line ends on the key's board with its side to move.
same_test : (eq : Packed → Packed → Bool) → ((a b : Packed) → Decides (eq a b) (a ≡ b)) → (key other : Packed) → GivesBack key → GivesBack other
    → eq key other ≡ (same_men (men_of other.cells) (men_of key.cells) && same_colour other.side key.side)
same_test eq decides key other back back' =
    same_tests (eq key other) (same_men (men_of other.cells) (men_of key.cells) && same_colour other.side key.side)
    (λ holds.
    let same : key ≡ other = (decides key other).0 holds in
    and_from (same_men (men_of other.cells) (men_of key.cells)) (same_colour other.side key.side)
    ((same_men-Decides (men_of other.cells) (men_of key.cells)).1 (ap (λ (k : Packed). men_of k.cells) (sym same)))
    ((same_colour-Decides other.side key.side).1 (ap (λ (k : Packed). k.side) (sym same))))
    (λ holds.
    let both = and_parts (same_men (men_of other.cells) (men_of key.cells)) (same_colour other.side key.side) holds in
    let men : men_of other.cells ≡ men_of key.cells = (same_men-Decides (men_of other.cells) (men_of key.cells)).0 both.0 in
    let side : other.side ≡ key.side = (same_colour-Decides other.side key.side).0 both.1 in
    (decides key other).1 (same_packed key other (sym back ∙ ap cells_of (sym men) ∙ back') (sym side)))

-- What is kept of a line is found by its key.
pub found_by : (eq : Packed → Packed → Bool) → ((a b : Packed) → Decides (eq a b) (a ≡ b)) → (f : Named → ℕ) (g : Opening → ℕ)
    → ((e : Packed × Named) → f e.1 ≡ g (opening_of e)) → (least : ℕ) (entries : List (Packed × Named)) (key : Packed) → GivesBack key → All (IsEntry least) entries
    → option_map f (lookup (eq key) entries) ≡ option_map g (find (ends_at (men_of key.cells) key.side) (openings_of entries))
found_by eq decides f g same least [] key back all = refl
found_by eq decides f g same least (entry ∷ entries) key back all =
    rw (same_test eq decides key entry.0 back (All-head (IsEntry least) entry entries all).key)
    (by (found_by eq decides f g same least entries key back (All-tail (IsEntry least) entry entries all)) (ends_at (men_of key.cells) key.side (opening_of entry)))
  where
    by : option_map f (lookup (eq key) entries) ≡ option_map g (find (ends_at (men_of key.cells) key.side) (openings_of entries))
        → (t : Bool) → option_map f (cond t (Some entry.1) (lookup (eq key) entries))
        ≡ option_map g (cond t (Some (opening_of entry)) (find (ends_at (men_of key.cells) key.side) (openings_of entries)))
    by rest true = ap Some (same entry)
    by rest false = rest

-- A code that is found is one.
pub found_small : (test : Packed → Bool) (least : ℕ) (entries : List (Packed × Named)) → All (IsEntry least) entries
    → IfSome (lookup test entries) (λ named. (1 ≤ named.code) × (named.code ≤ 65500))
found_small test least [] all = tt
found_small test least (entry ∷ entries) all = by (found_small test least entries (All-tail (IsEntry least) entry entries all)) (test entry.0)
  where
    here : IsEntry least entry
    here = All-head (IsEntry least) entry entries all

    by : IfSome (lookup test entries) (λ named. (1 ≤ named.code) × (named.code ≤ 65500)) → (t : Bool) → IfSome (cond t (Some entry.1) (lookup test entries)) (λ named. (1 ≤ named.code) × (named.code ≤ 65500))
    by rest true = (here.some, here.small)
    by rest false = rest

-- No line, and one line more.
pub kept_none : (least : ℕ) (entries : List (Packed × Named)) → entries ≡ [] → IsKept entries least
kept_none least entries none =
    subst (λ (es : List (Packed × Named)). IsKept es least) (sym none) (record { each = All-nil (IsEntry least); few = omega arith })

pub kept_more : (least men least' : ℕ) (entries : List (Packed × Named)) (entry : Packed × Named) → IsKept entries least → length entries < 65536
    → GivesBack entry.0 → 1 ≤ entry.1.code → entry.1.code ≤ 65500 → men ≡ men_in (men_of entry.0.cells) → least' ≤ least → least' ≤ men
    → IsKept (entries ++ entry ∷ []) least'
kept_more least men least' entries entry kept few back some small is less less' = record {
  each = All-push (IsEntry least') entries entry
      (All-weaker (IsEntry least) (IsEntry least') (λ e is_entry. record { key = is_entry.key; some = is_entry.some; small = is_entry.small; men = omega (arith, is_entry.men, less) }) entries kept.each)
      (record { key = back; some = some; small = small; men = omega (arith, is, less') });
  few = simp length-append (omega (arith, few));
}

-- The lesser of two numbers.
pub lesser : (a b m : ℕ) → m ≡ min a b → (m ≤ a) × (m ≤ b)
lesser a b m is = (omega (arith, is), omega (arith, is))

-- Where fewer men are left than at the end of each line.
pub over_all : (least men : ℕ) (entries : List (Packed × Named)) → All (IsEntry least) entries → men < least
    → All (λ (line : Opening). men < men_in line.board) (openings_of entries)
over_all least men entries all less =
    All-map (λ (line : Opening). men < men_in line.board) opening_of entries
    (All-weaker (IsEntry least) (λ e. men < men_in (men_of e.0.cells)) (λ e is_entry. omega (arith, is_entry.men, less)) entries all)

pub over_is : (t : Bool) (least men bound : ℕ) (entries : List (Packed × Named)) (table : List Opening) → t ≡ nat_le least men → men ≡ bound
    → All (IsEntry least) entries → openings_of entries ≡ table → OnFalse t (All (λ (line : Opening). bound < men_in line.board) table)
over_is true least men bound entries table is at all seen = tt
over_is false least men bound entries table is at all seen =
    subst (λ (lines : List Opening). All (λ (line : Opening). bound < men_in line.board) lines) seen
    (over_all least bound entries all (let less = leb-false least men (sym is) in omega (arith, less, at)))

-- ---- keys

-- Two packed boards are equal where their bytes and their sides are.
same_side : (a b : Colour) → Decides ((colour.ghosts).eq a b) (a ≡ b)
same_side a b = search rules

pub packed_decides : (a b : Packed) → Decides ((packed.ghosts).eq a b) (a ≡ b)
packed_decides a b =
    Decides-like (pointwise nat_eq a.cells b.cells && (colour.ghosts).eq a.side b.side)
    (λ (h : (a.cells ≡ b.cells) × (a.side ≡ b.side)). same_packed a b h.0 h.1)
    (λ (h : a ≡ b). (ap (λ (k : Packed). k.cells) h, ap (λ (k : Packed). k.side) h))
    (Decides-and (pointwise nat_eq a.cells b.cells) ((colour.ghosts).eq a.side b.side)
    (slice_eq-Decides Decides-eqb a.cells b.cells (pointwise nat_eq a.cells b.cells) refl) (same_side a.side b.side))

-- What is kept of a line is found by its key.
pub found : (f : Named → ℕ) (g : Opening → ℕ) → ((e : Packed × Named) → f e.1 ≡ g (opening_of e)) → (least : ℕ) (entries : List (Packed × Named)) (table : List Opening)
    (key : Packed) → GivesBack key → IsKept entries least → openings_of entries ≡ table
    → option_map f (lookup ((packed.ghosts).eq key) entries) ≡ option_map g (find (ends_at (men_of key.cells) key.side) table)
found f g same least entries table key back kept seen =
    found_by (packed.ghosts).eq packed_decides f g same least entries key back kept.each
    ∙ ap (λ (lines : List Opening). option_map g (find (ends_at (men_of key.cells) key.side) lines)) seen

-- No line is found, so no entry has the key.
pub not_found : (least : ℕ) (entries : List (Packed × Named)) (table : List Opening) (key : Packed) → GivesBack key → IsKept entries least
    → openings_of entries ≡ table → line_at table (men_of key.cells) key.side ≡ None → lookup ((packed.ghosts).eq key) entries ≡ None
not_found least entries table key back kept seen none =
    by (lookup ((packed.ghosts).eq key) entries) (found (λ named. named.line) (λ line. line.line) (λ e. refl) least entries table key back kept seen ∙ none)
  where
    by : (r : Option Named) → option_map (λ (named : Named). named.line) r ≡ None → r ≡ None
    by None h = refl
    by (Some named) h = absurd (cc)

pub gives_back : (men : Men) (side : Colour) (key : Packed) → key ≡ packed_of men side → men_of key.cells ≡ men → GivesBack key
gives_back men side key is back = ap cells_of back ∙ sym (ap (λ (k : Packed). k.cells) is)

-- So many entries as lines.
pub entries_few : (entries : List (Packed × Named)) (table : List Opening) → openings_of entries ≡ table → length table < 65536 → length entries < 65536
entries_few entries table seen few = subst (λ (n : ℕ). n < 65536) (sym (ap length seen) ∙ length-map entries opening_of) few

-- The line of a new entry is the last of the table.
pub joined_new : (table : List Opening) (number code : ℕ) (p : Setup) (key : Packed) (entries after : List (Packed × Named))
    → men_of key.cells ≡ p.board → key.side ≡ p.side → line_at table (men_of key.cells) key.side ≡ None → openings_of entries ≡ table
    → after ≡ entries ++ (key, record { line = number; code = code }) ∷ []
    → joined table (opening number code p) (line_at table p.board p.side) ≡ Ok (openings_of after)
joined_new table number code p key entries after board side none seen is =
    ap (joined table (opening number code p)) (sym (λ i. line_at table (board i) (side i)) ∙ none)
    ∙ ap Ok (sym (ap openings_of is ∙ map-append opening_of entries ((key, record { line = number; code = code }) ∷ [])
    ∙ (λ i. seen i ++ (record { line = number; code = code; board = board i; side = side i }) ∷ [])))
