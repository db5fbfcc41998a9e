-- What is kept of a name by places says the same as its games by names.
use Rattle.std.proofs.Common.{◌≡◌, ◌<◌, ◌==◌, ℕ, Bool, true, false, cond, List, [], ◌∷◌, length, map, filter, get_or, Some, None, refl, sym, ap, ◌∙◌}
use Rattle.std.specs.List.{AllByRecursion, IsDistinct, cons_option, filter_map, sum_by}
use Rattle.std.specs.Str.{bytes_eq}
use Rattle.cross_table.specs.declared.played.Played.{Played}
use Rattle.cross_table.specs.declared.played.Met.{Met}
use Rattle.cross_table.specs.declared.score.Score.TheVariants.{Won, Lost}
use Rattle.cross_table.specs.Crosstable.{Pairing, Meeting, meeting, meetings, half_points, half_points_of, games_known, is_known, sign, score_by}
use Rattle.cross_table.specs.Keeping.{Entered, Standing, mets, signs_with, standing_of}
use Rattle.cross_table.proofs.NameLaws.{same_places}
use Rattle.cross_table.proofs.Numbering.{IsNumbered, IsWithin, named}
use Rattle.cross_table.proofs.Sums.{sum_by-map}

abbrev pub met_named : List (List ℕ) → Met → Meeting
met_named names met = record { other = get_or names met.other []; score = met.score }

abbrev as_white : Played → Met
as_white game = record { other = game.black; score = score_by Won Lost game.result }

abbrev as_black : Played → Met
as_black game = record { other = game.white; score = score_by Lost Won game.result }

met_step : (names : List (List ℕ)) (b c : Bool) (x y : Met) (rest : List Met)
    → cons_option (cond b (Some (met_named names x)) (cond c (Some (met_named names y)) None)) (map (met_named names) rest)
    ≡ map (met_named names) (cons_option (cond b (Some x) (cond c (Some y) None)) rest)
met_step names true c x y rest = refl
met_step names false true x y rest = refl
met_step names false false x y rest = refl

mets_named : (names : List (List ℕ)) → IsDistinct bytes_eq names → (id : ℕ) → id < length names → (games : List Played)
    → AllByRecursion (IsWithin (length names)) games
    → filter_map (meeting (get_or names id [])) (map (named names) games) ≡ map (met_named names) (mets id games)
mets_named names once id below [] all = refl
mets_named names once id below (game ∷ games) all =
    let white : bytes_eq (get_or names id []) (get_or names game.white []) ≡ (id == game.white) = same_places names once id game.white below all.0.0 in
    let black : bytes_eq (get_or names id []) (get_or names game.black []) ≡ (id == game.black) = same_places names once id game.black below all.0.1 in
    (λ j. cons_option (cond (white j) (Some (met_named names (as_white game))) (cond (black j) (Some (met_named names (as_black game))) None))
    (mets_named names once id below games all.1 j))
    ∙ met_step names (id == game.white) (id == game.black) (as_white game) (as_black game) (mets id games)

others : (n id : ℕ) (games : List Played) → AllByRecursion (IsWithin n) games → AllByRecursion (λ (m : Met). m.other < n) (mets id games)
others n id [] all = tt
others n id (game ∷ games) all = by (id == game.white) (id == game.black) (others n id games all.1)
  where
    by : (b c : Bool) → AllByRecursion (λ (m : Met). m.other < n) (mets id games)
        → AllByRecursion (λ (m : Met). m.other < n) (cons_option (cond b (Some (as_white game)) (cond c (Some (as_black game)) None)) (mets id games))
    by true c rest = (all.0.1, rest)
    by false true rest = (all.0.0, rest)
    by false false rest = rest

pub signs_named : (names : List (List ℕ)) → IsDistinct bytes_eq names → (id : ℕ) → id < length names → (met : List Met)
    → AllByRecursion (λ (m : Met). m.other < length names) met
    → map (λ (m : Meeting). sign m.score) (filter (λ (m : Meeting). bytes_eq (get_or names id []) m.other) (map (met_named names) met)) ≡ signs_with id met
signs_named names once id below [] all = refl
signs_named names once id below (m ∷ met) all =
    (λ j. map (λ (m : Meeting). sign m.score) (cond (same_places names once id m.other below all.0 j)
    (met_named names m ∷ filter (λ (m : Meeting). bytes_eq (get_or names id []) m.other) (map (met_named names) met))
    (filter (λ (m : Meeting). bytes_eq (get_or names id []) m.other) (map (met_named names) met))))
    ∙ by (id == m.other) (signs_named names once id below met all.1)
  where
    by : (b : Bool)
        → map (λ (m : Meeting). sign m.score) (filter (λ (m : Meeting). bytes_eq (get_or names id []) m.other) (map (met_named names) met)) ≡ signs_with id met
        → map (λ (m : Meeting). sign m.score) (cond b
        (met_named names m ∷ filter (λ (m : Meeting). bytes_eq (get_or names id []) m.other) (map (met_named names) met))
        (filter (λ (m : Meeting). bytes_eq (get_or names id []) m.other) (map (met_named names) met)))
        ≡ map (λ (m : Met). sign m.score) (cond b (m ∷ filter (λ (m : Met). id == m.other) met) (filter (λ (m : Met). id == m.other) met))
    by true rest = ap (λ (l : List ℕ). sign m.score ∷ l) rest
    by false rest = rest

-- What a row says of its name.
pub record IsRow (names : List (List ℕ)) (games : List Pairing) (row : Standing) : Type 0 where
  pub within : row.id < length names
  pub name : row.name ≡ get_or names row.id []
  pub half : row.half_points ≡ half_points row.name games
  pub known : row.games ≡ games_known row.name games
  pub met : meetings row.name games ≡ map (met_named names) row.met
  pub others : AllByRecursion (λ (m : Met). m.other < length names) row.met

pub row_is : (e : Entered) (games : List Pairing) → IsNumbered e games → (id : ℕ) → id < length e.names
    → IsRow e.names games (standing_of id (get_or e.names id []) e.games)
unfolding standing_of half_points games_known meetings
row_is e games is id below =
    let met : filter_map (meeting (get_or e.names id [])) games ≡ map (met_named e.names) (mets id e.games)
    = ap (λ (list : List Pairing). filter_map (meeting (get_or e.names id [])) list) is.same ∙ mets_named e.names is.distinct id below e.games is.within in
    record {
      within = below;
      name = refl;
      half = sym (ap (λ (list : List Meeting). sum_by (λ (m : Meeting). half_points_of m.score) list) met
          ∙ sum_by-map (met_named e.names) (λ (m : Meeting). half_points_of m.score) (mets id e.games));
      known = sym (ap (λ (list : List Meeting). sum_by (λ (m : Meeting). cond (is_known m.score) 1 0) list) met
          ∙ sum_by-map (met_named e.names) (λ (m : Meeting). cond (is_known m.score) 1 0) (mets id e.games));
      met = met;
      others = others (length e.names) id e.games is.within;
    }
