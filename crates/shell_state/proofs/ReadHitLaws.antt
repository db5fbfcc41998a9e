-- Laws of the hit of one game that is read.
use Rattle.std.proofs.Common.{◌≡◌, ℕ, Option, Some, None, refl, sym, List, map, option_map, ap, ◌∙◌, length}
use Rattle.std.proofs.lemmas.Option.{slice_get-map, get_or_from_slice_get}
use Rattle.std.specs.Prelude.{slice_get}
use Rattle.base_core.proofs.GamesLaws.{heads-are}
use Rattle.base_core.specs.Base.{Held, Base}
use Rattle.base_core.specs.Represents.{Kept, Represents, heads_of}
use Rattle.cell_core.specs.Board.{Men}
use Rattle.cell_core.specs.Packed.{men_of, packed_of}
use Rattle.cell_core.specs.declared.man.Colour.{Colour}
use Rattle.cell_core.specs.declared.man.Colour.TheVariants.{White, Black}
use Rattle.cell_core.specs.declared.step.Move.{Move}
use Rattle.cell_core.proofs.Packing.{given_back}
use Rattle.game_tree.specs.Game.{GameTree}
use Rattle.game_tree.specs.Head.{without_tags}
use Rattle.game_tree.specs.declared.head.Head.{Head}
use Rattle.pos_search.specs.InMemory.{Seeks, next_of}
use Rattle.pos_search.specs.Matching.{IsLegalFrom, hit_of as found_of}
use Rattle.sig_index.specs.Games.{head_in}
use Rattle.sig_index.specs.declared.pos_query.Mode.TheVariants.{Exact}
use Rattle.sig_index.specs.declared.pos_query.PosQuery.{PosQuery}
use Rattle.tree_rows.specs.Hits.{hit_of}
use Rattle.tree_rows.specs.MoveText.{IsKey}
use Rattle.tree_rows.specs.declared.hit.GameHit.{GameHit}
use Rattle.shell_state.specs.Hits.{hit_on}
use Rattle.shell_state.specs.Slots.{exactly_on, hit_of_game}

-- The move after an exact match is a key of the tree.
pub key-from : (query : PosQuery) (ply : ℕ) (next : Option Move) → length query.board ≡ 64 → query.mode ≡ Exact → IsLegalFrom query (Some (ply, next))
    → IsKey query.board query.side next
key-from query ply None squares exact legal = tt
key-from query ply (Some m) squares exact legal =
    let from = legal ply m exact refl in
    record {
      position = from.position;
      sound = from.sound;
      board = from.board ∙ given_back query.board squares;
      to_move = from.to_move;
      legal = from.legal;
    }

-- What is counted of a game does not look at its tags.
untagged : (next : Option Move) (side : Colour) (head : Head) → hit_of next side (without_tags head) ≡ hit_of next side head
untagged next White head = refl
untagged next Black head = refl

-- The game at a place.
pub game-at : (games : List Held) (i : ℕ) (held : Held) → slice_get games i ≡ Some held → slice_get (map (λ (h : Held). h.game) games) i ≡ Some held.game
game-at games i held at = slice_get-map (λ (h : Held). h.game) games i ∙ ap (option_map (λ (h : Held). h.game)) at

-- The hit of a game, by the head that the base keeps and by what the search found.
pub hit-read : (kept : Kept) (games : List ℕ) (base : Base) (held : Held) (i : ℕ) (query : PosQuery) (ply : ℕ) (next : Option Move) (hit : GameHit)
    → Represents kept games base → slice_get base.games i ≡ Some held → Some (ply, next) ≡ found_of query held.game
    → hit ≡ hit_of next query.side (head_in (heads_of kept) i) → Some hit ≡ hit_of_game query held
hit-read kept games base held i query ply next hit is at found counted =
    let bare : Held → Head = λ h. without_tags h.head in
    let there : slice_get (heads_of kept) i ≡ Some (bare held) =
    ap (λ (heads : List Head). slice_get heads i) (heads-are kept games base is) ∙ (slice_get-map bare base.games i ∙ ap (option_map bare) at) in
    let same : head_in (heads_of kept) i ≡ bare held = get_or_from_slice_get (heads_of kept) i (bare held) _ there in
    ap (λ (h : GameHit). Some h) (counted ∙ (ap (hit_of next query.side) same ∙ untagged next query.side held.head))
    ∙ ap (λ (f : Option (ℕ × Option Move)). option_map (λ (x : ℕ × Option Move). hit_of x.1 query.side held.head) f) found

-- A game that the search did not find has none.
pub none-read : (held : Held) (query : PosQuery) → None ≡ found_of query held.game → None ≡ hit_of_game query held
none-read held query found = ap (λ (f : Option (ℕ × Option Move)). option_map (λ (x : ℕ × Option Move). hit_of x.1 query.side held.head) f) found

-- What seeks a board exactly.
pub seeks-exactly : (men : Men) (side : Colour) → length men ≡ 64 → Seeks (exactly_on (packed_of men side)) (packed_of men side)
seeks-exactly men side squares =
    let back : men_of (packed_of men side).cells ≡ men = given_back men squares in
    record {
      exact = refl;
      squares = ap (λ (m : Men). length m) back ∙ squares;
      board = ap (λ (m : Men). packed_of m side) (sym back);
      main = refl;
    }

-- The hit of a game in memory, by the move that was found there.
pub hit-in-memory : (head : Head) (game : GameTree) (men : Men) (side : Colour) (next : Option (Option Move)) → length men ≡ 64
    → ((query : PosQuery) → Seeks query (packed_of men side) → next ≡ next_of query game)
    → option_map (λ (m : Option Move). hit_of m side head) next ≡ hit_on head game (packed_of men side)
hit-in-memory head game men side next squares found =
    ap (option_map (λ (m : Option Move). hit_of m side head)) (found (exactly_on (packed_of men side)) (seeks-exactly men side squares))
    ∙ by (found_of (exactly_on (packed_of men side)) game)
  where
    by : (f : Option (ℕ × Option Move))
        → option_map (λ (m : Option Move). hit_of m side head) (option_map (λ (x : ℕ × Option Move). x.1) f) ≡ option_map (λ (x : ℕ × Option Move). hit_of x.1 side head) f
    by None = refl
    by (Some x) = refl
