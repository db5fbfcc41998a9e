-- The half points of all names are twice the games with a known result.
use Rattle.std.proofs.Common.{◌≡◌, ◌<◌, ◌+◌, ◌*◌, ℕ, zero, suc, Bool, true, false, true≢false, cond, not, ◌&&◌, List, [], ◌∷◌, length, map, filter, get_or, Option, Some, None, refl, sym, ap, subst, ◌∙◌, add-zero, zero-add, arith}
use Rattle.std.specs.Prelude.{count_by}
use Rattle.std.specs.List.{AllByRecursion, IsDistinct, cons_option, filter_map, fold, sum_by}
use Rattle.std.specs.Str.{bytes_eq}
use Rattle.std.proofs.lemmas.List.Sums.{sum_by-cons}
use Rattle.std.proofs.lemmas.List.Elements.{All-from_recursion}
use Rattle.std.proofs.lemmas.Map.Keys.{IsDistinct-head, IsDistinct-tail}
use Rattle.game_tree.specs.declared.head.Head.{Head}
use Rattle.game_tree.specs.declared.head.Outcome.{Outcome}
use Rattle.game_tree.specs.declared.head.Outcome.TheVariants.{Unknown, White, Black, Draw}
use Rattle.cross_table.specs.declared.played.Played.{Played}
use Rattle.cross_table.specs.declared.score.Score.TheVariants.{Won, Lost}
use Rattle.cross_table.specs.Crosstable.{CrossLine, Meeting, Pairing, crosstable, event_games, half_points, half_points_of, has_result, is_of, line_of, meeting, meetings, names_of, ranked, stands_before, with_ranked, score_by}
use Rattle.cross_table.specs.Keeping.{Entered, entrants, pairing_of}
use Rattle.cross_table.proofs.NameLaws.{bytes_equiv}
use Rattle.cross_table.proofs.Numbering.{IsNumbered, IsWithin, named, numbered}
use Rattle.cross_table.proofs.Sums.{exchanged, sum_by-both, sum_by-map, turned}

-- ---- what a game gives a name

abbrev points_in : Option Meeting → ℕ
points_in None = 0
points_in (Some m) = half_points_of m.score

abbrev gain : List ℕ → Pairing → ℕ
gain name game = points_in (meeting name game)

half_is : (name : List ℕ) (games : List Pairing) → half_points name games ≡ sum_by (gain name) games
unfolding half_points meetings
half_is name [] = refl
half_is name (game ∷ games) =
    by (meeting name game) ∙ ap (λ (n : ℕ). gain name game + n) (half_is name games) ∙ sym (sum_by-cons (gain name) game games)
  where
    by : (o : Option Meeting) → sum_by (λ (m : Meeting). half_points_of m.score) (cons_option o (filter_map (meeting name) games))
        ≡ points_in o + sum_by (λ (m : Meeting). half_points_of m.score) (filter_map (meeting name) games)
    by None = sym (zero-add (sum_by (λ (m : Meeting). half_points_of m.score) (filter_map (meeting name) games)))
    by (Some m) = sum_by-cons (λ (m : Meeting). half_points_of m.score) m (filter_map (meeting name) games)

-- ---- what a game gives all names

gain_by : (b c : Bool) (x y : Meeting) → (b ≡ true → c ≡ false)
    → points_in (cond b (Some x) (cond c (Some y) None)) ≡ cond b (half_points_of x.score) 0 + cond c (half_points_of y.score) 0
gain_by true true x y apart = absurd (true≢false (apart refl))
gain_by true false x y apart = sym (add-zero (half_points_of x.score))
gain_by false true x y apart = sym (zero-add (half_points_of y.score))
gain_by false false x y apart = refl

gain_is : (game : Pairing) → bytes_eq game.white game.black ≡ false → (name : List ℕ)
    → gain name game ≡ cond (bytes_eq name game.white) (half_points_of (score_by Won Lost game.result)) 0
    + cond (bytes_eq name game.black) (half_points_of (score_by Lost Won game.result)) 0
gain_is game apart name =
    gain_by (bytes_eq name game.white) (bytes_eq name game.black)
    (record { other = game.black; score = score_by Won Lost game.result }) (record { other = game.white; score = score_by Lost Won game.result })
    (λ same. bytes_equiv.congr name game.white game.black same ∙ apart)

none_others : (name : List ℕ) (points : ℕ) (names : List (List ℕ)) → AllByRecursion (λ (y : List ℕ). bytes_eq name y ≡ false) names
    → sum_by (λ (n : List ℕ). cond (bytes_eq n name) points 0) names ≡ 0
none_others name points [] all = refl
none_others name points (first ∷ names) all =
    sum_by-cons (λ (n : List ℕ). cond (bytes_eq n name) points 0) first names
    ∙ (λ j. cond ((bytes_equiv.symm first name ∙ all.0) j) points 0 + none_others name points names all.1 j)

gets_once : (names : List (List ℕ)) → IsDistinct bytes_eq names → (k : ℕ) → k < length names → (points : ℕ)
    → sum_by (λ (n : List ℕ). cond (bytes_eq n (get_or names k [])) points 0) names ≡ points
gets_once [] once k below points = absurd (omega (arith, below))
gets_once (name ∷ names) once zero below points =
    sum_by-cons (λ (n : List ℕ). cond (bytes_eq n name) points 0) name names
    ∙ (λ j. cond (bytes_equiv.refl name j) points 0 + none_others name points names (IsDistinct-head bytes_eq name names once) j)
    ∙ add-zero points
gets_once (name ∷ names) once (suc k) below points =
    let apart : bytes_eq name (get_or names k []) ≡ false
    = All-from_recursion (λ (y : List ℕ). bytes_eq name y ≡ false) names (IsDistinct-head bytes_eq name names once) k [] (omega (arith, below)) in
    sum_by-cons (λ (n : List ℕ). cond (bytes_eq n (get_or names k [])) points 0) name names
    ∙ (λ j. cond (apart j) points 0 + gets_once names (IsDistinct-tail bytes_eq name names once) k (omega (arith, below)) points j)
    ∙ zero-add points

both : (r : Outcome) → half_points_of (score_by Won Lost r) + half_points_of (score_by Lost Won r) ≡ 2 * cond (has_result r) 1 0
both Unknown = refl
both White = refl
both Black = refl
both Draw = refl

one_game : (names : List (List ℕ)) → IsDistinct bytes_eq names → (game : Played) → IsWithin (length names) game
    → bytes_eq (get_or names game.white []) (get_or names game.black []) ≡ false
    → sum_by (λ (n : List ℕ). gain n (named names game)) names ≡ 2 * cond (has_result game.result) 1 0
one_game names once game within apart =
    (λ j. sum_by (λ (n : List ℕ). gain_is (named names game) apart n j) names)
    ∙ sum_by-both (λ (n : List ℕ). cond (bytes_eq n (get_or names game.white [])) (half_points_of (score_by Won Lost game.result)) 0)
    (λ (n : List ℕ). cond (bytes_eq n (get_or names game.black [])) (half_points_of (score_by Lost Won game.result)) 0) names
    ∙ (λ j. gets_once names once game.white within.0 (half_points_of (score_by Won Lost game.result)) j
    + gets_once names once game.black within.1 (half_points_of (score_by Lost Won game.result)) j)
    ∙ both game.result

abbrev AreApart : Pairing → Type 0
AreApart game = bytes_eq game.white game.black ≡ false

doubled : (m n : ℕ) → 2 * m + 2 * n ≡ 2 * (m + n)
doubled m n = omega arith

all_games : (names : List (List ℕ)) → IsDistinct bytes_eq names → (games : List Played) → AllByRecursion (IsWithin (length names)) games
    → AllByRecursion AreApart (map (named names) games)
    → sum_by (λ (g : Pairing). sum_by (λ (n : List ℕ). gain n g) names) (map (named names) games)
    ≡ 2 * count_by (λ (g : Pairing). has_result g.result) (map (named names) games)
all_games names once [] within apart = refl
all_games names once (game ∷ games) within apart =
    sum_by-cons (λ (g : Pairing). sum_by (λ (n : List ℕ). gain n g) names) (named names game) (map (named names) games)
    ∙ (λ j. one_game names once game within.0 apart.0 j + all_games names once games within.1 apart.1 j)
    ∙ doubled (cond (has_result game.result) 1 0) (count_by (λ (g : Pairing). has_result g.result) (map (named names) games))
    ∙ ap (λ (n : ℕ). 2 * n) (sym (sum_by-cons (λ (g : Pairing). cond (has_result g.result) 1 0) (named names game) (map (named names) games)))

apart_in : (event : List ℕ) (heads : List Head) → AllByRecursion AreApart (map pairing_of (filter (is_of event) heads))
apart_in event [] = tt
apart_in event (head ∷ heads) =
    by head.deleted (bytes_eq head.event event) (bytes_eq head.white head.black) refl (apart_in event heads)
  where
    by : (d e s : Bool) → bytes_eq head.white head.black ≡ s → AllByRecursion AreApart (map pairing_of (filter (is_of event) heads))
        → AllByRecursion AreApart (map pairing_of (cond (not d && (e && not s)) (head ∷ filter (is_of event) heads) (filter (is_of event) heads)))
    by true e s is rest = rest
    by false false s is rest = rest
    by false true true is rest = rest
    by false true false is rest = (is, rest)

-- ---- ranks change no sum

put_sum : (f : List ℕ → ℕ) (games : List Pairing) (names : List (List ℕ)) (name : List ℕ)
    → sum_by f (with_ranked games names name) ≡ f name + sum_by f names
put_sum f games [] name = sum_by-cons f name []
put_sum f games (first ∷ names) name = by (stands_before games first name) (put_sum f games names name)
  where
    by : (b : Bool) → sum_by f (with_ranked games names name) ≡ f name + sum_by f names
        → sum_by f (cond b (first ∷ with_ranked games names name) (name ∷ first ∷ names)) ≡ f name + sum_by f (first ∷ names)
    by true rest =
        sum_by-cons f first (with_ranked games names name)
        ∙ ap (λ (n : ℕ). f first + n) rest
        ∙ turned (f first) (f name) (sum_by f names)
        ∙ ap (λ (n : ℕ). f name + n) (sym (sum_by-cons f first names))
    by false rest = sum_by-cons f name (first ∷ names)

rank_sum : (f : List ℕ → ℕ) (games : List Pairing) (names done : List (List ℕ))
    → sum_by f (fold (with_ranked games) done names) ≡ sum_by f done + sum_by f names
rank_sum f games [] done = sym (add-zero (sum_by f done))
rank_sum f games (name ∷ names) done =
    rank_sum f games names (with_ranked games done name)
    ∙ ap (λ (n : ℕ). n + sum_by f names) (put_sum f games done name)
    ∙ regrouped (f name) (sum_by f done) (sum_by f names)
    ∙ ap (λ (n : ℕ). sum_by f done + n) (sym (sum_by-cons f name names))
  where
    regrouped : (p q s : ℕ) → (p + q) + s ≡ q + (p + s)
    regrouped p q s = omega arith

-- ---- all together

apart_of : (event : List ℕ) (heads : List Head) → AllByRecursion AreApart (event_games event heads)
unfolding event_games
apart_of event heads = apart_in event heads

pub shared_points : (event : List ℕ) (heads : List Head)
    → sum_by (λ (line : CrossLine). line.half_points) (crosstable event heads).lines
    ≡ 2 * count_by (λ (game : Pairing). has_result game.result) (event_games event heads)
unfolding crosstable ranked
shared_points event heads =
    let e : Entered = entrants event heads in
    let games : List Pairing = event_games event heads in
    let is : IsNumbered e games = numbered event heads in
    let apart : AllByRecursion AreApart games = apart_of event heads in
    sum_by-map (line_of games (ranked games)) (λ (line : CrossLine). line.half_points) (ranked games)
    ∙ rank_sum (λ (n : List ℕ). half_points n games) games (names_of games) []
    ∙ zero-add (sum_by (λ (n : List ℕ). half_points n games) (names_of games))
    ∙ (λ j. sum_by (λ (n : List ℕ). half_points n games) (sym is.names j))
    ∙ (λ j. sum_by (λ (n : List ℕ). half_is n games j) e.names)
    ∙ exchanged gain e.names games
    ∙ ap (λ (l : List Pairing). sum_by (λ (g : Pairing). sum_by (λ (n : List ℕ). gain n g) e.names) l) is.same
    ∙ all_games e.names is.distinct e.games is.within (subst (AllByRecursion AreApart) is.same apart)
    ∙ ap (λ (l : List Pairing). 2 * count_by (λ (game : Pairing). has_result game.result) l) (sym is.same)
