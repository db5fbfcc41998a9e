-- What a search of heads asks of a game (this project's own; the keys are those of Scid's search of headers).
use Rattle.std.specs.Prelude.{ℕ, ◌==◌, nat_le, nat_lt, not, if◌then◌else◌, Bool, true, ◌&&◌, ◌||◌, List, [], ◌∷◌, Option, None, Some}
use Rattle.std.specs.Int.{bit_at}
use Rattle.std.specs.List.{starts_with}
use Rattle.game_tree.specs.declared.head.Head.{Head}
use Rattle.game_tree.specs.declared.head.Outcome.{Outcome}
use Rattle.game_tree.specs.Outcome.{outcome_number}
use Rattle.sig_index.specs.declared.head_query.HeadQuery.{HeadQuery}
use Rattle.sig_index.specs.declared.signature.Sig.{Sig}
use Rattle.sig_index.specs.declared.span.Span.{Span}

-- An item of a query holds: it is not there, or its value passes the test.
abbrev pub holds : {T : Type 0} → Option T → (T → Bool) → Bool
holds None test = true
holds (Some value) test = test value

-- A number is one of a span's, both ends among them.
abbrev pub is_in : Span → ℕ → Bool
is_in span n = nat_le span.lo n && nat_le n span.hi

-- A name begins with these bytes, byte by byte.
abbrev pub begins : List ℕ → List ℕ → Bool
begins name text = starts_with (λ a b. a == b) name text

-- An item beside what a game has there. Items are of a name, of either player's name, of a result, of a number, of the
-- opening code, of the deleted mark and of a mark. An item of the opening code never holds of a game without one.
unfoldable pub name_item : Option (List ℕ) → List ℕ → Bool
name_item asked name = holds asked (λ text. begins name text)

unfoldable pub player_item : Option (List ℕ) → List ℕ → List ℕ → Bool
player_item asked white black = holds asked (λ text. begins white text || begins black text)

unfoldable pub result_item : Option Outcome → Outcome → Bool
result_item asked found = holds asked (λ result. outcome_number found == outcome_number result)

unfoldable pub span_item : Option Span → ℕ → Bool
span_item asked n = holds asked (λ span. is_in span n)

unfoldable pub eco_item : Option Span → ℕ → Bool
eco_item asked eco = holds asked (λ span. nat_lt 0 eco && is_in span eco)

unfoldable pub deleted_item : Option Bool → Bool → Bool
deleted_item asked deleted = holds asked (λ yes. if yes then deleted else not deleted)

unfoldable pub mark_item : Option ℕ → ℕ → Bool
mark_item asked marks = holds asked (λ bit. bit_at marks bit == 1)

-- All items hold but those of plies and of names. Each key asks for one field:
--
-- - `deleted` for whether the game is marked as deleted, and `mark` for a mark that is set;
-- - `year` for that of the game's date (an unknown year is 0);
-- - `welo` and `belo` for the ratings of White and Black, of any kind (no rating is 0);
-- - `eco` for the opening code.
abbrev pub numbers_match : Head → HeadQuery → Bool
numbers_match head query =
    deleted_item query.deleted head.deleted && mark_item query.mark head.marks && result_item query.result head.result
    && span_item query.year head.date.year && span_item query.welo head.white_rating.value && span_item query.belo head.black_rating.value
    && eco_item query.eco head.eco

-- All items of names hold: each key asks for the beginning of that name, `player` of White's or of Black's.
abbrev pub names_match : Head → HeadQuery → Bool
names_match head query =
    name_item query.white head.white && name_item query.black head.black && player_item query.player head.white head.black
    && name_item query.event head.event && name_item query.site head.site && name_item query.round head.round

-- A game with this head and so many plies (of the main line; more than 1,023 count as 1,023) is one that is asked for: every item holds.
unfoldable pub head_matches : Head → ℕ → HeadQuery → Bool
head_matches head plies query = numbers_match head query && (span_item query.plies plies && names_match head query)

-- The first ply at which a game matches: a search of heads matches at ply 0 or not at all.
abbrev pub first_of : HeadQuery → Head → ℕ → Option ℕ
first_of query head plies = if head_matches head plies query then Some 0 else None

-- The first matching plies of all games.
abbrev pub firsts_of : HeadQuery → List Head → List Sig → List (Option ℕ)
firsts_of query [] sigs = []
firsts_of query (head ∷ heads) [] = []
firsts_of query (head ∷ heads) (sig ∷ sigs) = first_of query head sig.plies ∷ firsts_of query heads sigs
