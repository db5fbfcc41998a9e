-- Files that are put down one after the other.
use Rattle.std.proofs.Common.{◌≡◌, ◌<◌, ◌+◌, ℕ, List, [], ◌∷◌, ◌++◌, Option, None, Some, length, refl, sym, ◌∙◌, subst, arith, inl, inr}
use Rattle.std.specs.Prelude.{All, Contains, IfSome, slice_get}
use Rattle.std.proofs.lemmas.Bool.{cases_eq}
use Rattle.std.proofs.lemmas.List.Elements.{Contains-append_left, Contains-push}
use Rattle.std.proofs.lemmas.Option.{same_Some}
use Rattle.cell_core.specs.Packed.{Packed}
use Rattle.game_tree.specs.declared.head.Head.{Head}
use Rattle.tree_rows.specs.declared.row.Row.{Row}
use Rattle.book_pages.specs.Book.{Pages}
use Rattle.page_html.specs.Names.{file_of}
use Rattle.scid_page.specs.Putting.{HasPageAt, HaveFirst, IsPageAt, Stay}
use Rattle.scid_page.specs.Shelf.{File, HasPage, HasPages, with_file}

-- Files stay.
pub same_stay : (files : Option (List File)) → Stay files files
same_stay None = tt
same_stay (Some files) = λ file has. has

pub stay_on : (old mid new : Option (List File)) → Stay old mid → Stay mid new → Stay old new
stay_on old mid None first second = tt
stay_on old None (Some files) first second = absurd second
stay_on None (Some mid) (Some files) first second = absurd first
stay_on (Some before) (Some mid) (Some files) first second = λ file has. second file (first file has)

pub put_stays : (old new : Option (List File)) (file : File) → new ≡ with_file old file → Stay old new
put_stays old new file is = subst (λ (files : Option (List File)). Stay old files) (sym is) (by old)
  where
    by : (old : Option (List File)) → Stay old (with_file old file)
    by None = tt
    by (Some files) = λ other has. Contains-append_left files (file ∷ []) other has

-- A page that was put down is there, and stays.
pub put_has : (pages : Pages) (heads : List Head) (number : ℕ) (here : Packed) (name text : List ℕ) (old new : Option (List File))
    → slice_get pages.boards number ≡ Some here → name ≡ file_of here → new ≡ with_file old (record { name = name; text = text })
    → IsPageAt pages heads number text → IfSome new (HasPageAt pages heads number)
put_has pages heads number here name text old new is_here named is page =
    subst (λ (files : Option (List File)). IfSome files (HasPageAt pages heads number)) (sym is) (by old)
  where
    by : (old : Option (List File)) → IfSome (with_file old (record { name = name; text = text })) (HasPageAt pages heads number)
    by None = tt
    by (Some files) = λ board rows is_board is_rows. record {
      file = record { name = name; text = text };
      there = Contains-push files (record { name = name; text = text });
      name = named ∙ (λ i. file_of (same_Some here board (sym is_here ∙ is_board) i));
      page = page board rows is_board is_rows;
    }

pub page_stays : (pages : Pages) (heads : List Head) (number : ℕ) (old new : Option (List File)) → Stay old new → IfSome old (HasPageAt pages heads number)
    → IfSome new (HasPageAt pages heads number)
page_stays pages heads number old None stay has = tt
page_stays pages heads number None (Some files) stay has = absurd stay
page_stays pages heads number (Some before) (Some files) stay has = λ board rows is_board is_rows.
    let one = has board rows is_board is_rows in
    record { file = one.file; there = stay one.file one.there; name = one.name; page = one.page }

pub all_stay : (pages : Pages) (heads : List Head) (numbers : List ℕ) (n : ℕ) (old new : Option (List File)) → Stay old new
    → IfSome old (HaveFirst pages heads numbers n) → IfSome new (HaveFirst pages heads numbers n)
all_stay pages heads numbers n old None stay have = tt
all_stay pages heads numbers n None (Some files) stay have = absurd stay
all_stay pages heads numbers n (Some before) (Some files) stay have = λ i number below at apart.
    page_stays pages heads number (Some before) (Some files) stay (have i number below at apart)

-- One page more.
pub one_more_page : (pages : Pages) (heads : List Head) (numbers : List ℕ) (n number : ℕ) (old new : Option (List File)) → Stay old new
    → slice_get numbers n ≡ Some number → ((number ≡ 0 → ⊥) → IfSome new (HasPageAt pages heads number))
    → IfSome old (HaveFirst pages heads numbers n) → IfSome new (HaveFirst pages heads numbers (n + 1))
one_more_page pages heads numbers n number old None stay at has have = tt
one_more_page pages heads numbers n number None (Some files) stay at has have = absurd stay
one_more_page pages heads numbers n number (Some before) (Some files) stay at has have = λ i other below is apart. elim (cases_eq i n) [
  | inl same ↦
      let number_is : number ≡ other = same_Some number other (sym at ∙ (λ j. slice_get numbers (sym same j)) ∙ is) in
      subst (λ (p : ℕ). HasPageAt pages heads p files) number_is (has (λ e. apart (sym number_is ∙ e)))
  | inr not ↦ page_stays pages heads other (Some before) (Some files) stay (have i other (omega (arith, below, not)) is apart)
]
