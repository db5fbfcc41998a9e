-- Which games a search of counts of men can leave unread, by the men that they did not have at the start (this project's own).
use Rattle.std.specs.Prelude.{ℕ, ◌+◌, ◌==◌, ◌&&◌, ◌||◌, nat_le, Bool, List, [], ◌∷◌, slice_index}
use Rattle.sig_index.specs.declared.mat_query.MatRange.{MatRange}
use Rattle.sig_index.specs.declared.signature.Sig.{Sig}
use Rattle.sig_index.specs.Coming.{lack, over_lesser, over_pieces}

-- The ten counts of the initial position: a queen, two rooks, two bishops, two knights and eight pawns a side (FIDE Laws, Article 2.2).
abbrev pub start_counts : List ℕ
start_counts = 1 ∷ 2 ∷ 2 ∷ 2 ∷ 8 ∷ 1 ∷ 2 ∷ 2 ∷ 2 ∷ 8 ∷ []

-- One colour's counts can have been at least those of the range in a game from the initial position. The queens, rooks,
-- bishops and knights that are missing at the start were made of pawns that are more than the least. The game had
-- promotions if any is missing, and promotions to other men than queens if a rook, bishop or knight is.
abbrev pub colour_can_have : Sig → MatRange → ℕ → Bool
colour_can_have sig range queens =
    nat_le (over_pieces (lack range start_counts) queens + slice_index range.lo (queens + 4)) 8
    && (sig.promo || (over_pieces (lack range start_counts) queens == 0))
    && (sig.under || (over_lesser (lack range start_counts) queens == 0))

-- The counts of a game with this signature can have been at least those of the range at some ply: White's and Black's, or the game has a
-- start of its own.
unfoldable pub can_have : Sig → MatRange → Bool
can_have sig range = sig.own_start || (colour_can_have sig range 0 && colour_can_have sig range 5)
