-- What is kept while the order of pages is found. Only private functions cite these words.
use Rattle.std.specs.Prelude.{◌≡◌, ◌<◌, ℕ, Bool, true, false, All, Contains, List, length, slice_index_or}

-- The pages that were found, with a sign for each page of the book: a page that has it is one of them.
pub record AreFound (signs : List Bool) (found : List ℕ) : Type 0 where
  pub pages : All (λ page. page < length signs) found
  pub signed : (page : ℕ) → slice_index_or signs page false ≡ true → Contains found page

-- More pages are found: as many have signs, and none is lost.
pub record GoesOn (signs : List Bool) (found : List ℕ) (signs' : List Bool) (found' : List ℕ) : Type 0 where
  pub are : AreFound signs' found'
  pub pages : length signs' ≡ length signs
  pub stay : (page : ℕ) → Contains found page → Contains found' page
