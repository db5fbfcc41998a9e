-- What edits make of a base: functions of plain bases, without a word of ids or entries (this project's own).
use Rattle.std.specs.Prelude.{ℕ, zero, suc, ◌+◌, ◌*◌, ◌/◌, ◌%◌, ◌^◌, Bool, true, false, if◌then◌else◌, List, [], ◌∷◌, ◌++◌, length, slice_get, Option, None, Some}
use Rattle.block_store.specs.Placing.{end_after}
use Rattle.game_codec.specs.Written.{written_record}
use Rattle.game_tree.specs.Game.{GameTree}
use Rattle.game_tree.specs.TagEdit.{edited}
use Rattle.game_tree.specs.declared.head.Head.{Head}
use Rattle.game_tree.specs.declared.tag_edit.TagEdit.{TagEdit}
use Rattle.name_base.specs.NameLists.{NameLists, with_name}
use Rattle.base_core.specs.Base.{Base, Held}

-- The games with the one of this number changed so, if there is one.
abbrev pub changed_at : (Held → Held) → ℕ → List Held → List Held
changed_at change i [] = []
changed_at change zero (held ∷ games) = change held ∷ games
changed_at change (suc i) (held ∷ games) = held ∷ changed_at change i games

-- The base with the head of a game changed so.
abbrev pub with_head : (Head → Head) → ℕ → Base → Base
with_head change i base = record base { games = changed_at (λ held. record held { head = change held.head }) i base.games }

-- Marking a game as deleted, and taking that mark away.
unfoldable pub deleted : ℕ → Base → Base
deleted i base = with_head (λ head. record head { deleted = true }) i base

unfoldable pub undeleted : ℕ → Base → Base
undeleted i base = with_head (λ head. record head { deleted = false }) i base

-- The marks with this one on or off: those above it, the mark, and those below it.
unfoldable pub with_mark : ℕ → ℕ → Bool → ℕ
with_mark marks bit on = marks / 2 ^ (bit + 1) * 2 ^ (bit + 1) + (if on then 2 ^ bit else 0) + marks % 2 ^ bit

-- Setting one of the eighteen other marks of a game, or taking it away.
unfoldable pub marked : ℕ → ℕ → Bool → Base → Base
marked i bit on base = with_head (λ head. record head { marks = with_mark head.marks bit on }) i base

-- Giving a game an opening code.
unfoldable pub classified : ℕ → ℕ → Base → Base
classified i eco base = with_head (λ head. record head { eco = eco }) i base

-- A game of a base whose record is the written one.
abbrev pub held_of : Head → GameTree → Held
held_of head game = record { head = head; game = game; len = length (written_record head.tags game) }

-- The names with those of a head, added in the order white, black, event, site, round.
abbrev pub names_with : Head → NameLists → NameLists
names_with head names = record {
  players = with_name (with_name names.players head.white) head.black;
  events = with_name names.events head.event;
  sites = with_name names.sites head.site;
  rounds = with_name names.rounds head.round;
}

-- The end of the games file with the record of a game placed behind the others.
abbrev pub end_with : Head → GameTree → ℕ → ℕ
end_with head game end = end_after end (length (written_record head.tags game))

-- The base with one game more: it comes last, with its names, and its record is placed at the end of the games file.
abbrev pub with_game : Held → Base → Base
with_game held base = record {
  header = record base.header { games = base.header.games + 1 };
  names = names_with held.head base.names;
  games = base.games ++ held ∷ [];
  end = end_after base.end held.len;
}

-- Adding a game.
unfoldable pub added : Head → GameTree → Base → Base
added head game base = with_game (held_of head game) base

-- Putting a game in the place of another one. The record of the old one stays in the games file, with nothing that points to it.
unfoldable pub game_replaced : ℕ → Head → GameTree → Base → Base
game_replaced i head game base = record base {
  names = names_with head base.names;
  games = changed_at (λ _. held_of head game) i base.games;
  end = end_with head game base.end;
}

-- Setting a tag of a game: the game is put in its own place with the edited head.
abbrev pub tagged_at : ℕ → TagEdit → Option Held → Base → Base
tagged_at i edit None base = base
tagged_at i edit (Some held) base = game_replaced i (edited held.head edit) held.game base

unfoldable pub tagged : ℕ → TagEdit → Base → Base
tagged i edit base = tagged_at i edit (slice_get base.games i) base
