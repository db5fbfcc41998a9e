-- A walk over all lines from one move to the next.
use Rattle.std.proofs.Common.{◌≡◌, ℕ, zero, suc, ◌+◌, ◌<◌, ◌≤◌, ◌^◌, true, List, [], ◌∷◌, ◌++◌, Some, None, Ok, Err, length, drop, refl, sym, ap, subst, ◌∙◌, add-one, append-nil, inl, inr, arith}
use Rattle.std.specs.Prelude.{slice_get, reverse}
use Rattle.cell_core.specs.declared.step.Move.{Move}
use Rattle.game_tree.specs.Game.{GameTree}
use Rattle.game_tree.specs.Movetext.{meaning}
use Rattle.game_tree.specs.Tree.{Branches}
use Rattle.game_tree.specs.declared.head.Tag.{Tag}
use Rattle.move_codec.specs.Numbers.{Numbered}
use Rattle.game_codec.specs.Blank.{kept_in}
use Rattle.game_codec.specs.Fault.{IsRecordFault}
use Rattle.game_codec.specs.Flat.{FlatBreaks}
use Rattle.game_codec.specs.Open.{AreReadTo, AreSound, HasGone, HasLeft, IsAllWalk, Follows, Opened, all_lines, opened, nest_at, visit_now, visits_in}
use Rattle.game_codec.specs.Place.{beginning}
use Rattle.game_codec.specs.Record.{IsRecord, IsSpelled}
use Rattle.game_codec.specs.RecordAnswer.{place_of}
use Rattle.game_codec.specs.Scanning.{Scans, nest_of, tokens_then}
use Rattle.game_codec.specs.Start.{BeginsStart}
use Rattle.game_codec.specs.TagReading.{BeginsTags}
use Rattle.game_codec.specs.Visits.{Visit, all_visits, branch_visits, line_visits}
use Rattle.game_codec.specs.declared.breach.Breach.{Breach}
use Rattle.game_codec.specs.declared.all_walk.Lines.{Lines}
use Rattle.game_codec.specs.declared.fault.RecordFault.{RecordFault}
use Rattle.game_codec.specs.declared.fault.RecordWhat.{RecordWhat}
use Rattle.game_codec.proofs.DecodeLaws.{break-one, break-only}
use Rattle.game_codec.proofs.MovetextLaws.{spelled-scans}
use Rattle.game_codec.proofs.OpenLaws.{left_of, no_hanging, visits-then}
use Rattle.game_codec.proofs.RecordAnswerLaws.{either, to_broken, to_spelled}

-- The lines at the start of a record.
abbrev begun : Numbered → Opened
begun start = record { line = record { place = beginning 0 start; ply = 0 }; outer = [] }

-- There all moves of its game are left.
all_left : (bytes : List ℕ) (tags : List Tag) (game : GameTree) (r : IsSpelled bytes tags game) → all_visits game ≡ visits_in (begun r.start) (tokens_then r.movetext [])
all_left bytes tags game r =
    let said = meaning r.movetext in
    let start = beginning 0 r.start in
    ap (λ (g : GameTree). all_visits g) r.game_is
    ∙ ap (λ (vs : Branches). branch_visits r.start.position 0 vs ++ line_visits true r.start.position 0 said.line)
    (sym (no_hanging start r.movetext r.behind_start r.behind_moves refl r.then_moves))
    ∙ sym (append-nil (left_of start 0 said))
    ∙ sym (visits-then start 0 [] r.movetext r.behind_start r.behind_moves [] [] r.then_moves (λ o. refl))

pub start_walk : (bytes : List ℕ) (start : Numbered) (used : ℕ) (lines : Lines) → length bytes < 2 ^ 32
    → ((tags : List Tag) × ((behind : List ℕ) × (BeginsTags bytes tags behind × BeginsStart behind start (drop used bytes))))
    → ((tags : List Tag) (game : GameTree) (r : IsSpelled bytes tags game) → (r.start ≡ start) × (r.behind_start ≡ drop used bytes))
    → lines.ahead.now ≡ drop used bytes → length lines.ahead.now ≤ length bytes → lines.line.place ≡ beginning 0 start → lines.line.ply ≡ 0 → kept_in lines.outer.now ≡ []
    → IsAllWalk bytes lines 0
start_walk bytes start used lines few begins starts ahead within place ply outer =
    let same : opened lines ≡ begun start = λ i. record { line = record { place = place i; ply = ply i }; outer = reverse (outer i) } in
    record {
      few = few;
      within = omega (arith, within);
      sound = subst (λ (a : Opened). AreSound (length lines.ahead.now) (all_lines a)) (sym same) (refl, (omega (arith, within, few), tt));
      read = record {
        tags = begins.0;
        start = start;
        behind_tags = begins.1.0;
        behind_start = lines.ahead.now;
        tags_first = begins.1.1.0;
        then_start = subst (BeginsStart begins.1.0 start) (sym ahead) begins.1.1.1;
        on = λ ts stop h. (ts, subst (λ (a : Opened). Scans (nest_at a) lines.ahead.now ts stop) same h);
      };
      follows = λ tags game read.
          let r = to_spelled bytes tags game read in
          let at = starts tags game r in
          let scans = spelled-scans r.start r.movetext r.behind_start r.behind_moves r.then_moves in
          record {
            tokens = tokens_then r.movetext [];
            behind = r.behind_moves;
            scans = subst (λ (a : Opened). Scans (nest_at a) lines.ahead.now (tokens_then r.movetext []) (Ok r.behind_moves)) (sym same)
                (subst (λ (n : Numbered). Scans (nest_of n) lines.ahead.now (tokens_then r.movetext []) (Ok r.behind_moves)) at.0
                (subst (λ (l : List ℕ). Scans (nest_of r.start) l (tokens_then r.movetext []) (Ok r.behind_moves)) (at.1 ∙ sym ahead) scans));
            left_are = all_left bytes tags game r ∙ ap (λ (n : Numbered). visits_in (begun n) (tokens_then r.movetext [])) at.0
                ∙ ap (λ (a : Opened). visits_in a (tokens_then r.movetext [])) (sym same);
          };
    }

-- The next of a list from a place on.
pub next_of : (xs : List Visit) (k : ℕ) (x : Visit) (more : List Visit) → drop k xs ≡ x ∷ more → (slice_get xs k ≡ Some x) × (drop (suc k) xs ≡ more)
next_of [] zero x more e = absurd (cc)
next_of [] (suc k) x more e = absurd (cc)
next_of (y ∷ ys) zero x more e =
    let same : y ∷ ys ≡ x ∷ more = e in
    let head : y ≡ x = cc in
    let tail : ys ≡ more = cc in
    (ap Some head, tail)
next_of (y ∷ ys) (suc k) x more e = next_of ys k x more e

pub none_of : (xs : List Visit) (k : ℕ) → drop k xs ≡ [] → slice_get xs k ≡ None
none_of [] k e = refl
none_of (y ∷ ys) zero e = absurd (let same : y ∷ ys ≡ [] = e in cc)
none_of (y ∷ ys) (suc k) e = none_of ys k e

-- A fault of the items is that of the bytes.
flat-fault : (bytes rest : List ℕ) (fault : RecordFault) → FlatBreaks bytes rest fault.what → fault.place ≡ place_of (length bytes) rest fault.what → IsRecordFault bytes fault
flat-fault bytes rest fault breaks place =
    elim (either bytes) [
      | inl some ↦ absurd (break-only bytes some.0 some.1.0 rest fault.what breaks (to_spelled bytes some.0 some.1.0 some.1.1))
      | inr other ↦
          let broken = to_broken bytes other.0 other.1 in
          let same = break-one bytes rest broken.rest fault.what other.0.what breaks broken.breaks in
          let at : fault.place ≡ other.0.place = place ∙ same.place (length bytes) ∙ sym broken.place in
          subst (IsRecordFault bytes) (sym (λ i. record { place = at i; what = same.same i })) other.1
    ]

module _ (bytes : List ℕ) (old new : Lines) (given : ℕ) (is : IsAllWalk bytes old given) where
  read-on : Follows old new → AreReadTo bytes new
  read-on follows = record {
    tags = is.read.tags;
    start = is.read.start;
    behind_tags = is.read.behind_tags;
    behind_start = is.read.behind_start;
    tags_first = is.read.tags_first;
    then_start = is.read.then_start;
    on = λ ts stop h. let there = follows.on ts stop h in is.read.on there.0 stop there.1;
  }

  -- All moves were given.
  pub walk_none : HasGone old (Ok None) new → IsAllWalk bytes new given
  walk_none gone = record {
    few = is.few;
    within = omega (arith, is.within, gone.follows.within);
    sound = gone.follows.sound;
    read = read-on gone.follows;
    follows = λ tags game r. (gone.leaves (drop given (all_visits game)) (is.follows tags game r)).1;
  }

  pub next_none : HasGone old (Ok None) new → (tags : List Tag) (game : GameTree) → IsRecord bytes tags game → slice_get (all_visits game) given ≡ None
  next_none gone tags game r = none_of (all_visits game) given (gone.leaves (drop given (all_visits game)) (is.follows tags game r)).0

  -- One more was given.
  module _ (m : Move) (gone : HasGone old (Ok (Some m)) new) where
    pub walk_some : IsAllWalk bytes new (given + 1)
    walk_some = record {
      few = is.few;
      within = omega (arith, is.within, gone.leaves.0);
      sound = gone.follows.sound;
      read = read-on gone.follows;
      follows = λ tags game r.
          let found = gone.leaves.1 (drop given (all_visits game)) (is.follows tags game r) in
          let rest = (next_of (all_visits game) given (visit_now new m) found.0 found.1.0).1 in
          subst (λ (n : ℕ). HasLeft new (drop n (all_visits game))) (sym (add-one given)) (subst (HasLeft new) (sym rest) found.1.1);
    }

    pub next_some : (tags : List Tag) (game : GameTree) → IsRecord bytes tags game → slice_get (all_visits game) given ≡ Some (visit_now new m)
    next_some tags game r =
        let found = gone.leaves.1 (drop given (all_visits game)) (is.follows tags game r) in
        (next_of (all_visits game) given (visit_now new m) found.0 found.1.0).0

  -- The bytes have a fault.
  module _ (e : Breach) (gone : HasGone old (Err e) new) where
    breaks : FlatBreaks bytes gone.fault.0 e.what
    breaks =
        let there = is.read.on gone.fault.2.0 (Err (gone.fault.0, e.what)) gone.fault.2.1 in
        inr (inr (inl (record {
          tags = is.read.tags;
          start = is.read.start;
          tokens = there.0;
          behind_tags = is.read.behind_tags;
          behind_start = is.read.behind_start;
          tags_first = is.read.tags_first;
          then_start = is.read.then_start;
          breaks = there.1;
        })))

    pub first_fault : (fault : RecordFault) → fault.what ≡ e.what
        → ((rest : List ℕ) → length rest ≡ e.left → fault.place ≡ place_of (length bytes) rest e.what) → IsRecordFault bytes fault
    first_fault fault what place =
        flat-fault bytes gone.fault.0 fault (subst (λ (w : RecordWhat). FlatBreaks bytes gone.fault.0 w) (sym what) breaks)
        (place gone.fault.0 gone.fault.1 ∙ ap (λ (w : RecordWhat). place_of (length bytes) gone.fault.0 w) (sym what))

    pub walk_fault : IsAllWalk bytes new given
    walk_fault = record {
      few = is.few;
      within = omega (arith, is.within, gone.follows.within);
      sound = gone.follows.sound;
      read = read-on gone.follows;
      follows = λ tags game r. absurd (break-only bytes tags game gone.fault.0 e.what breaks (to_spelled bytes tags game r));
    }
