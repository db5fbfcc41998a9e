-- The letters of a game's marks (after Scid).
use Rattle.std.specs.Prelude.{ℕ, List, codes}

-- From the lowest bit of the marks on: the twelve user marks and the six custom marks.
abbrev pub mark_letters : List ℕ
mark_letters = codes "WBMENPTKQ!?U123456"
