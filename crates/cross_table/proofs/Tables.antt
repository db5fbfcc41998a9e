-- The table of the rows is the event's crosstable.
use Rattle.std.proofs.Common.{◌≡◌, ◌==◌, ℕ, cond, List, [], ◌∷◌, ◌++◌, length, map, filter, refl, sym, ap, ◌∙◌, arith}
use Rattle.std.specs.Prelude.{codes, if◌then◌else◌}
use Rattle.std.specs.List.{AllByRecursion, IsDistinct, fold}
use Rattle.std.specs.Str.{bytes_eq}
use Rattle.std.proofs.lemmas.List.{length-map, take_all}
use Rattle.game_tree.specs.declared.head.Head.{Head}
use Rattle.cross_table.specs.Crosstable.{Meeting, Pairing, cells, crosstable, event_games, line_of, or_dot, ranked, sign, signs, with_ranked}
use Rattle.cross_table.specs.Causes.{players}
use Rattle.cross_table.specs.Keeping.{Entered, Standing, entrants, row_cell, row_cells, row_line, rows_below, signs_with, table_in}
use Rattle.cross_table.proofs.NameLaws.{same_places}
use Rattle.cross_table.proofs.Numbering.{IsNumbered, named, numbered}
use Rattle.cross_table.proofs.Meetings.{IsRow, signs_named}
use Rattle.cross_table.proofs.Ranking.{names_in, ranked_rows}

-- The cell of two names.
abbrev pub cell : List Pairing → List ℕ → List ℕ → List ℕ
cell games row column = if bytes_eq row column then codes "x" else or_dot (signs games row column)

module _ (names : List (List ℕ)) (games : List Pairing) (once : IsDistinct bytes_eq names) where
  cell_is : (row column : Standing) → IsRow names games row → IsRow names games column → row_cell row column ≡ cell games row.name column.name
  unfolding signs
  cell_is row column first second =
      let same : bytes_eq row.name column.name ≡ (row.id == column.id)
      = (λ j. bytes_eq (first.name j) (second.name j)) ∙ same_places names once row.id column.id first.within second.within in
      let seen : signs games row.name column.name ≡ signs_with column.id row.met
      = (λ j. map (λ (m : Meeting). sign m.score) (filter (λ (m : Meeting). bytes_eq (second.name j) m.other) (first.met j)))
      ∙ signs_named names once column.id second.within row.met first.others in
      sym (λ j. cond (same j) (codes "x") (or_dot (seen j)))

  cells_are : (row : Standing) (columns : List Standing) → IsRow names games row → AllByRecursion (IsRow names games) columns
      → row_cells row columns ≡ cells games (names_in columns) row.name
  cells_are row [] is all = refl
  cells_are row (column ∷ columns) is all = λ j. (32 ∷ cell_is row column is all.0 j) ++ cells_are row columns is all.1 j

  lines_are : (rows some : List Standing) → AllByRecursion (IsRow names games) rows → AllByRecursion (IsRow names games) some
      → map (row_line rows) some ≡ map (line_of games (names_in rows)) (names_in some)
  lines_are rows [] all each = refl
  lines_are rows (row ∷ some) all each = λ j.
      record {
        name = row.name;
        half_points = each.0.half j;
        games = each.0.known j;
        cells = cells_are row rows each.0 all j;
      } ∷ lines_are rows some all each.1 j

pub table_is : (event : List ℕ) (heads : List Head)
    → table_in (rows_below (entrants event heads) (length (entrants event heads).names)) (length (entrants event heads).games) ≡ crosstable event heads
unfolding crosstable ranked table_in
table_is event heads =
    let e : Entered = entrants event heads in
    let games : List Pairing = event_games event heads in
    let is : IsNumbered e games = numbered event heads in
    let rows : List Standing = rows_below e (length e.names) in
    let are = ranked_rows e games is (length e.names) (omega arith) in
    let order : names_in rows ≡ ranked games
    = are.in_order ∙ ap (λ (l : List (List ℕ)). fold (with_ranked games) [] l) (take_all (length e.names) e.names (omega arith) ∙ is.names) in
    λ j. record {
      lines = (lines_are e.names games is.distinct rows rows are.each are.each ∙ (λ i. map (line_of games (order i)) (order i))) j;
      games = sym (ap (λ (l : List Pairing). length l) is.same ∙ length-map e.games (named e.names)) j;
    }

-- How many names play.
pub players_are : (event : List ℕ) (heads : List Head) (e : Entered) → e ≡ entrants event heads → length e.names ≡ players event heads
players_are event heads e is =
    ap (λ (entered : Entered). length entered.names) is ∙ ap (λ (l : List (List ℕ)). length l) (numbered event heads).names
