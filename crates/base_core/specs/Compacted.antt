-- What a compaction makes of a base: a function of plain bases, without a word of ids or entries (this project's own).
use Rattle.std.specs.Prelude.{ℕ, not, Bool, filter, fold, List, [], ◌∷◌, length, map}
use Rattle.block_store.specs.Placing.{end_after}
use Rattle.name_base.specs.NameLists.{no_names}
use Rattle.base_core.specs.Base.{Base, Held}
use Rattle.base_core.specs.Edits.{names_with}

-- Whether a game stays: it is not marked as deleted.
abbrev pub stays : Held → Bool
stays held = not held.head.deleted

-- Where a games file that ends there ends with records of these lengths placed behind it.
abbrev pub end_of : ℕ → List ℕ → ℕ
end_of end [] = end
end_of end (len ∷ lens) = end_of (end_after end len) lens

-- The base of these games alone. It has the names that they use, in the order of their first use, game by game white,
-- black, event, site, round. Their records are placed from the beginning of the games file.
unfoldable pub only : List Held → Base → Base
only games base = record {
  header = record base.header { games = length games };
  names = fold (λ names held. names_with held.head names) no_names games;
  games = games;
  end = end_of 0 (map (λ held. held.len) games);
}

-- The base after a compaction: the undeleted games in their order.
unfoldable pub compacted : Base → Base
compacted base = only (filter stays base.games) base
