-- What a search leaves in a filter. This project's own; the three ways are those of Scid's searches.
use Rattle.std.specs.Prelude.{ℕ, List, ◌++◌, drop, length, map, Option, Bool, true, is_some, is_none}
use Rattle.std.specs.List.{zip}
use Rattle.std.specs.Option.{option_and, option_or}
use Rattle.game_filter.specs.declared.op.Op.{Op}
use Rattle.game_filter.specs.declared.op.Op.TheVariants.{Ignore, And, Or}

-- The entry of a game after a search, from its entry before and its first matching ply, if any.
-- Ignore takes the match for every game; And takes it if the game was in, and leaves the others
-- out; Or keeps the ply of a game that was in, and takes the match for the others.
abbrev pub entry_after : Op → Option ℕ → Option ℕ → Option ℕ
entry_after Ignore _ first = first
entry_after And old first = option_and old first
entry_after Or old first = option_or old first

-- A filter after a search, from the first matching plies of the games, one each, that were searched. The games behind them have their
-- old entries.
abbrev pub searched : Op → List (Option ℕ) → List (Option ℕ) → List (Option ℕ)
searched op firsts plies = map (λ (game : Option ℕ × Option ℕ). entry_after op game.1 game.0) (zip firsts plies) ++ drop (length firsts) plies

-- Whether the search looks at a game with this entry: at all games, at those in, at those out.
abbrev pub looks_at : Op → Option ℕ → Bool
looks_at Ignore _ = true
looks_at And old = is_some old
looks_at Or old = is_none old
