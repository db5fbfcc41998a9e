-- A tree while its items are read one by one: the lines that are open, each with its last move apart, since what follows
-- may still belong to it (this project's own).
use Rattle.std.specs.Prelude.{◌≡◌, ◌≢◌, ℕ, ◌-◌, IsSome, List, [], ◌∷◌, ◌++◌, length, take, slice_get, Option, Some, None, option_map, refl}
use Rattle.std.specs.Coded.{Coded, code_by, coded×, coded_ℕ, coded_list, coded_option}
use Rattle.cell_core.specs.declared.step.Move.{Move}
use Rattle.game_tree.specs.Tree.{Line, Branches, none, more, Played, Variation, line_of}
use Rattle.game_tree.specs.TreeCode.{coded_played}
use Rattle.game_tree.specs.Item.{Item}
use Rattle.game_tree.specs.Item as item
use Rattle.game_tree.specs.Movetext.{as_comment, joined}

-- An open line: its comment, the moves before the last one, and the last one.
pub record Open : Type 0 where
  pub lead : Option (List ℕ)
  pub done : List Played
  pub last : Option Played

-- The innermost open line, and those round it from the inside out.
pub record Building : Type 0 where
  pub current : Open
  pub outer : List Open

-- The open line of these moves.
abbrev pub open_of : Option (List ℕ) → List Played → Open
open_of lead line = record { lead = lead; done = take (length line - 1) line; last = slice_get line (length line - 1) }

-- A line of which nothing was read.
abbrev pub fresh : Open
fresh = record { lead = None; done = []; last = None }

abbrev pub opening : Building
opening = record { current = fresh; outer = [] }

-- A list with one more element, if there is one.
abbrev pub and_last : {X : Type 0} → List X → Option X → List X
and_last xs None = xs
and_last xs (Some x) = xs ++ x ∷ []

-- The line as far as it was read.
abbrev pub read_line : Open → Line
read_line o = line_of (and_last o.done o.last)

-- A move of which nothing more was read.
abbrev pub bare : Move → Played
bare m = record { mv = m; nags = []; comment = None; variations = none }

abbrev pub with_move : Played → Open → Open
with_move p o = record { lead = o.lead; done = and_last o.done o.last; last = Some p }

-- A move with one more NAG, with more of its comment, and with one more variation behind the others.
abbrev pub more_nags : ℕ → Played → Played
more_nags n p = record p { nags = p.nags ++ n ∷ [] }

abbrev pub more_comment : Option (List ℕ) → Played → Played
more_comment t p = record p { comment = joined p.comment t }

abbrev pub with_branch : Branches → Variation → Branches
with_branch none v = more v.lead v.line none
with_branch (more lead line others) v = more lead line (with_branch others v)

abbrev pub more_variations : Variation → Played → Played
more_variations v p = record p { variations = with_branch p.variations v }

-- A NAG belongs to the last move.
abbrev pub with_nag : ℕ → Open → Open
with_nag n o = record o { last = option_map (more_nags n) o.last }

-- A comment belongs to the last move, or to the line if it has no move yet.
abbrev pub with_comment_on : Option (List ℕ) → Option (List ℕ) → List Played → Option Played → Open
with_comment_on t lead done None = record { lead = joined lead t; done = done; last = None }
with_comment_on t lead done (Some p) = record { lead = lead; done = done; last = Some (more_comment t p) }

abbrev pub with_comment : List ℕ → Open → Open
with_comment t o = with_comment_on (as_comment t) o.lead o.done o.last

-- A variation belongs to the last move.
abbrev pub with_variation : Variation → Open → Open
with_variation v o = record o { last = option_map (more_variations v) o.last }

-- The variation that an open line is.
abbrev pub variation_of : Open → Variation
variation_of o = record { lead = o.lead; line = read_line o }

-- The end of a variation hangs it on the last move of the line round it.
abbrev pub closed : Open → List Open → Building
closed o [] = record { current = o; outer = [] }
closed o (round ∷ outer) = record { current = with_variation (variation_of o) round; outer = outer }

-- Where an item may stand: a NAG and a variation behind a move, and the end of a variation if one is open.
abbrev pub MayStand : Item → Building → Type 0
MayStand (item.move m) b = Unit {0}
MayStand (item.nag n) b = IsSome b.current.last
MayStand (item.comment t) b = Unit {0}
MayStand item.opens b = IsSome b.current.last
MayStand item.closes b = b.outer ≢ []

-- The state after one more item.
abbrev pub added : Item → Building → Building
added (item.move m) b = record { current = with_move (bare m) b.current; outer = b.outer }
added (item.nag n) b = record { current = with_nag n b.current; outer = b.outer }
added (item.comment t) b = record { current = with_comment t b.current; outer = b.outer }
added item.opens b = record { current = fresh; outer = b.current ∷ b.outer }
added item.closes b = closed b.current b.outer

-- The state after these items.
abbrev pub built : List Item → Building → Building
built [] b = b
built (next ∷ items) b = built items (added next b)

-- What was read has this comment and this line.
pub record Gives (read : Variation) (lead : Option (List ℕ)) (line : Line) : Type 0 where
  pub lead_is : read.lead ≡ lead
  pub line_is : read.line ≡ line

abbrev pub coded_open : Coded Open
coded_open =
    code_by (Option (List ℕ) × (List Played × Option Played))
    (coded× (coded_option (coded_list coded_ℕ)) (coded× (coded_list coded_played) (coded_option coded_played)))
    (λ o. (o.lead, (o.done, o.last)))
    (λ t. record { lead = t.0; done = t.1.0; last = t.1.1 })
    (λ _. refl)

abbrev pub coded_building : Coded Building
coded_building =
    code_by (Open × List Open) (coded× coded_open (coded_list coded_open)) (λ b. (b.current, b.outer)) (λ t. record { current = t.0; outer = t.1 }) (λ _. refl)
