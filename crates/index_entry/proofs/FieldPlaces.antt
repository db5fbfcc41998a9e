-- The places of the fields that `entry_in` reads, by their names.
use Rattle.std.specs.Prelude.{ℕ, List, [], ◌∷◌, ◌++◌}
use Rattle.index_entry.specs.Bits.{bits}

abbrev pub offset : List ℕ
offset = bits 0 0 32

abbrev pub len : List ℕ
len = bits 6 0 1 ++ bits 4 0 16

abbrev pub marks : List ℕ
marks = bits 6 2 6 ++ bits 7 0 12

abbrev pub deleted : List ℕ
deleted = bits 7 12 1

abbrev pub under : List ℕ
under = bits 7 13 1

abbrev pub promo : List ℕ
promo = bits 7 14 1

abbrev pub own_start : List ℕ
own_start = bits 7 15 1

abbrev pub white : List ℕ
white = bits 9 0 4 ++ bits 10 0 16

abbrev pub black : List ℕ
black = bits 9 4 4 ++ bits 12 0 16

abbrev pub event : List ℕ
event = bits 14 0 3 ++ bits 15 0 16

abbrev pub site : List ℕ
site = bits 14 3 3 ++ bits 17 0 16

abbrev pub round : List ℕ
round = bits 14 6 2 ++ bits 19 0 16

abbrev pub nags : List ℕ
nags = bits 21 4 4

abbrev pub comments : List ℕ
comments = bits 21 8 4

abbrev pub vars : List ℕ
vars = bits 21 12 4

abbrev pub date : List ℕ
date = bits 25 12 20

abbrev pub material : List (List ℕ)
material =
    bits 34 0 2 ∷ bits 34 2 2 ∷ bits 34 4 2 ∷ bits 34 6 2 ∷ bits 34 8 4
    ∷ bits 34 12 2 ∷ bits 34 14 2 ∷ bits 34 16 2 ∷ bits 34 18 2 ∷ bits 34 20 4
    ∷ []

abbrev pub plies : List ℕ
plies = bits 38 0 2 ++ bits 37 0 8
