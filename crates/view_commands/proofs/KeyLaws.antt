-- The moves behind the matches of told games are keys of their tree.
use Rattle.std.proofs.Common.{◌≡◌, ℕ, suc, ◌+◌, ◌<◌, List, [], ◌∷◌, Option, Some, None, All, option_map, refl, subst, arith}
use Rattle.std.proofs.lemmas.List.Elements.{All-append, All-nil, All-push}
use Rattle.std.proofs.lemmas.Option.{slice_get_within}
use Rattle.std.specs.Option.{option_or}
use Rattle.std.specs.Prelude.{slice_get, option_to_list}
use Rattle.base_core.proofs.Lists.{get_some}
use Rattle.base_core.specs.Base.{Base, Held}
use Rattle.base_core.specs.Entries.{extent_of}
use Rattle.base_core.specs.Represents.{Kept, Represents}
use Rattle.base_files.specs.Extents.{record_in}
use Rattle.cell_core.specs.declared.step.Move.{Move}
use Rattle.chess_laws.specs.Position.{Sound}
use Rattle.chess_laws.specs.Step.{Step}
use Rattle.game_tree.specs.Game.{GameTree}
use Rattle.game_tree.specs.Legal.{IsLegalGame}
use Rattle.game_tree.specs.Replay.{main_moves, next_at, plies_of, position_at}
use Rattle.game_tree.proofs.LegalLemmas.{IsLegalGame-next}
use Rattle.pos_search.specs.Matching.{first_if_aside, first_on_main, hit_of, matches_at}
use Rattle.pos_search.proofs.Words.{hit_aside}
use Rattle.pos_search.proofs.MatchLemmas.{matched}
use Rattle.shell_state.specs.Slots.{hit_of_game}
use Rattle.shell_state.specs.Meeting.{hit_if_in, tree_hits}
use Rattle.sig_index.proofs.PrefixLemmas.{moves_at}
use Rattle.sig_index.proofs.Ranges.{found_first}
use Rattle.sig_index.proofs.RecordLemmas.{game_legal, game_sound}
use Rattle.sig_index.specs.declared.pos_query.Mode.TheVariants.{Exact}
use Rattle.sig_index.specs.declared.pos_query.PosQuery.{PosQuery}
use Rattle.tree_rows.specs.Hits.{hit_of as counted_of}
use Rattle.tree_rows.specs.MoveText.{IsKey}
use Rattle.tree_rows.specs.declared.hit.GameHit.{GameHit}

-- A game begins with a position that keeps the rules, and its moves are legal.
pub record IsSoundGame (game : GameTree) : Type 0 where
  pub start : Sound game.start
  pub legal : IsLegalGame game

-- The move after the first match on the main line.
main_key : (query : PosQuery) (game : GameTree) (ply : ℕ) → query.mode ≡ Exact → IsSoundGame game → first_on_main query game ≡ Some ply
    → IsKey query.board query.side (next_at game ply)
main_key query game ply exact sound is = by (next_at game ply) refl
  where
    by : (next : Option Move) → next_at game ply ≡ next → IsKey query.board query.side next
    by None at = tt
    by (Some m) at =
        let found = found_first (matches_at query game) 0 (plies_of game + 1) ply is in
        let met = matched query (position_at game ply) found.passes in
        let less : ply < plies_of game = slice_get_within (main_moves game) ply m at in
        let next = IsLegalGame-next game sound.legal ply less in
        let same : next.0 ≡ m = cc (next.1.0, at) in
        record {
          position = position_at game ply;
          sound = (moves_at game ply sound.start sound.legal less).sound;
          board = met.exact exact;
          to_move = met.side;
          legal = (position_at game (ply + 1), subst (λ (n : Move). Step (position_at game ply) n (position_at game (ply + 1))) same next.1.1);
        }

-- The move after the first match.
hit_key : (query : PosQuery) (game : GameTree) (found : ℕ × Option Move) → query.mode ≡ Exact → IsSoundGame game → hit_of query game ≡ Some found
    → IsKey query.board query.side found.1
hit_key query game found exact sound is = by (first_on_main query game) refl is
  where
    K : ℕ × Option Move → Type 0
    K hit = IsKey query.board query.side hit.1

    aside : (first : Option ℕ) → option_map hit_aside first ≡ Some found → K found
    aside None is = absurd (cc)
    aside (Some ply) is = let same : hit_aside ply ≡ found = cc in subst K same tt

    by : (first : Option ℕ) → first_on_main query game ≡ first
        → option_or (option_map (λ (ply : ℕ). (ply, next_at game ply)) first) (option_map hit_aside (first_if_aside query game)) ≡ Some found → K found
    by None at is = aside (first_if_aside query game) is
    by (Some ply) at is = let same : (ply, next_at game ply) ≡ found = cc in subst K same (main_key query game ply exact sound at)

held_key : (query : PosQuery) (held : Held) (hit : GameHit) → query.mode ≡ Exact → IsSoundGame held.game → hit_of_game query held ≡ Some hit → IsKey query.board query.side hit.next
held_key query held hit exact sound is = by (hit_of query held.game) refl is
  where
    by : (found : Option (ℕ × Option Move)) → hit_of query held.game ≡ found
        → option_map (λ (x : ℕ × Option Move). counted_of x.1 query.side held.head) found ≡ Some hit → IsKey query.board query.side hit.next
    by None at is = absurd (cc)
    by (Some found) at is =
        let same : counted_of found.1 query.side held.head ≡ hit = cc in
        subst (λ (h : GameHit). IsKey query.board query.side h.next) same (hit_key query held.game found exact sound at)

-- The hits of a tree have keys of it.
tree_keys : (query : PosQuery) (plies : List (Option ℕ)) (games : List Held) → query.mode ≡ Exact → ((i : ℕ) (held : Held) → slice_get games i ≡ Some held → IsSoundGame held.game)
    → All (λ (hit : GameHit). IsKey query.board query.side hit.next) (tree_hits query plies games)
tree_keys query [] games exact sound = All-nil (λ (hit : GameHit). IsKey query.board query.side hit.next)
tree_keys query (ply ∷ plies) [] exact sound = All-nil (λ (hit : GameHit). IsKey query.board query.side hit.next)
tree_keys query (ply ∷ plies) (held ∷ games) exact sound =
    All-append P (option_to_list (hit_if_in query ply held)) (tree_hits query plies games) (one ply) (tree_keys query plies games exact (λ i. sound (suc i)))
  where
    P : GameHit → Type 0
    P hit = IsKey query.board query.side hit.next

    listed : (hit : Option GameHit) → hit_of_game query held ≡ hit → All P (option_to_list hit)
    listed None is = All-nil P
    listed (Some hit) is = All-push P [] hit (All-nil P) (held_key query held hit exact (sound 0 held refl) is)

    one : (ply : Option ℕ) → All P (option_to_list (hit_if_in query ply held))
    one None = All-nil P
    one (Some p) = listed (hit_of_game query held) refl

-- So have those of a base that is told.
pub told_keys : (kept : Kept) (told : List ℕ) (base : Base) (query : PosQuery) (plies : List (Option ℕ)) → Represents kept told base → query.mode ≡ Exact
    → All (λ (hit : GameHit). IsKey query.board query.side hit.next) (tree_hits query plies base.games)
told_keys kept told base query plies is exact =
    tree_keys query plies base.games exact (λ i held at.
    let e = get_some kept.entries i (omega (arith, slice_get_within base.games i held at, is.count)) in
    let read = (is.each i e.0 held e.1 at).says in
    record {
      start = game_sound (record_in told (extent_of e.0)) read.tags held.game read.read;
      legal = game_legal (record_in told (extent_of e.0)) read.tags held.game read.read;
    })
