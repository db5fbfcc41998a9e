-- What is kept after a ply.
use Rattle.std.proofs.Common.{◌≡◌, ℕ, Bool, true, false, not, ◌&&◌, List, sym, ap, ◌∙◌, arith}
use Rattle.std.proofs.lemmas.Bool.{and_parts, not-true}
use Rattle.chess_laws.specs.Counts.{counts_of}
use Rattle.chess_laws.specs.declared.setup.Setup.{Setup}
use Rattle.game_tree.specs.Game.{GameTree}
use Rattle.game_tree.specs.Replay.{position_at}
use Rattle.sig_index.specs.declared.mat_query.MatQuery.{MatQuery}
use Rattle.sig_index.specs.declared.mat_query.MatRange.{MatRange}
use Rattle.mat_search.specs.declared.looking.Kept.{Kept}
use Rattle.mat_search.specs.Looking.{IsKept, LooksAt, is_whole}
use Rattle.mat_search.specs.Matching.{exchanged}
use Rattle.mat_search.specs.Streaks.{streak_after}
use Rattle.mat_search.proofs.StreakLemmas.{Run, step_short}
use Rattle.mat_search.proofs.MatchLemmas.{other_at, own_at}
use Rattle.mat_search.proofs.WalkLemmas.{IsAt, Looked, looked_by, other_less, own_less}

-- Counts that are in no range, and stay, leave all as it is.
pub idle_keeps : (query : MatQuery) (other : MatRange) (ply : ℕ) (counts : List ℕ) (kept : Kept) → IsKept query other kept → kept.standing.idle ≡ true
    → kept.standing.counts ≡ counts → LooksAt query other ply counts kept kept
idle_keeps query other ply counts kept is idle same =
    let standing = kept.standing in
    let waits = and_parts (not standing.own && not standing.other) standing.later (sym is.stands.idles ∙ idle) in
    let out = and_parts (not standing.own) (not standing.other) waits.0 in
    let own_out : standing.own ≡ false = not-true standing.own out.0 in
    let other_out : standing.other ≡ false = not-true standing.other out.1 in
    record {
      counts_are = same;
      stands = is.stands;
      own_after = is.own_none own_out ∙ sym (ap (streak_after query kept.streaks.own ply) own_out);
      other_after = is.other_none other_out ∙ sym (ap (streak_after query kept.streaks.other ply) other_out);
    }

-- Where no streak is whole, all is kept as before.
pub still_kept : (query : MatQuery) (other : MatRange) (ply : ℕ) (counts : List ℕ) (old new : Kept) → IsKept query other old
    → LooksAt query other ply counts old new → is_whole query new ≡ false → IsKept query other new
still_kept query other ply counts old new is looks unfinished = record {
  stands = looks.stands;
  own_short = own_less new.streaks.own new.streaks.other query.streak (step_short query ply old.streaks.own new.streaks.own _ is.own_short looks.own_after) unfinished;
  other_short = other_less new.streaks.own new.streaks.other query.streak (step_short query ply old.streaks.other new.streaks.other _ is.other_short looks.other_after) unfinished;
  own_none = λ out. looks.own_after ∙ ap (streak_after query old.streaks.own ply) out;
  other_none = λ out. looks.other_after ∙ ap (streak_after query old.streaks.other ply) out;
}

-- What is known of a game after a ply of its main line.
pub seen : (query : MatQuery) (game : GameTree) (ply walked : ℕ) (other : MatRange) (counts : List ℕ) (old new : Kept) (p : Setup)
    → IsAt query game walked old.streaks.own old.streaks.other → IsKept query other old → ply ≡ walked → p ≡ position_at game walked → counts ≡ counts_of p.board
    → other ≡ exchanged query.range → LooksAt query other ply counts old new → Looked query game ply new.streaks.own new.streaks.other new.standing.counts
seen query game ply walked other counts old new p at is here there count exchanges looks =
    looked_by query game ply walked old.streaks.own old.streaks.other new.streaks.own new.streaks.other new.standing.counts p other at is.own_short is.other_short
    here there (looks.counts_are ∙ count) exchanges (looks.own_after ∙ ap (streak_after query old.streaks.own ply) looks.stands.in_own)
    (looks.other_after ∙ ap (streak_after query old.streaks.other ply) looks.stands.in_other)

-- Before the first ply no streak is under way.
at_first : (test : ℕ → Bool) (query : MatQuery) (ply streak : ℕ) → ply ≡ 0 → streak ≡ 0 → Run test query ply streak
at_first test query ply streak first none = record {
  within = omega (arith, first, none);
  from_lo = λ some. absurd (omega (arith, none, some));
  to_hi = λ some. absurd (omega (arith, none, some));
  passed = λ k from less. absurd (omega (arith, first, less));
  before = λ k less lo hi. absurd (omega (arith, first, less));
}

pub at_start : (query : MatQuery) (game : GameTree) (ply own other : ℕ) → ply ≡ 0 → own ≡ 0 → other ≡ 0 → IsAt query game ply own other
at_start query game ply own other first own_none other_none = record {
  own_run = at_first (own_at query game) query ply own first own_none;
  other_run = at_first (other_at query game) query ply other first other_none;
}
