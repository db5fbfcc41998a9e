-- A walk from one half-move of a main line to the next.
use Rattle.std.proofs.Common.{◌≡◌, ℕ, zero, suc, ◌+◌, List, [], ◌∷◌, Some, None, Ok, Err, length, drop, take, refl, sym, ap, subst, ◌∙◌, add-one, length-drop, arith}
use Rattle.std.specs.Prelude.{fold, slice_get}
use Rattle.std.proofs.lemmas.List.{drop-drop}
use Rattle.cell_core.specs.declared.step.Move.{Move}
use Rattle.chess_laws.specs.declared.setup.Setup.{Setup}
use Rattle.chess_laws.specs.Step.{Step, stepped}
use Rattle.game_tree.specs.Game.{GameTree}
use Rattle.game_tree.specs.Replay.{main_moves, next_at}
use Rattle.game_tree.specs.declared.head.Tag.{Tag}
use Rattle.chess_laws.proofs.Stepping.{Step-stepped}
use Rattle.move_codec.specs.declared.fault.MoveFault.{MoveFault}
use Rattle.move_codec.specs.Numbers.{Numbered}
use Rattle.move_codec.specs.Packed.{Decodes}
use Rattle.move_codec.proofs.RoundTrip.{Decodes-one}
use Rattle.move_codec.proofs.Decoding.{same_ok}
use Rattle.game_codec.specs.TagReading.{BreaksTags, BeginsTags}
use Rattle.game_codec.specs.Start.{BeginsStart, BreaksStart}
use Rattle.game_codec.specs.Place.{IsMoveDue, beginning, numbered_after}
use Rattle.game_codec.specs.Moves.{SpellsMoves}
use Rattle.game_codec.specs.Record.{IsRecord, IsSomeRecord, IsSpelled}
use Rattle.game_codec.specs.Walking.{GoesOn, IsBehind}
use Rattle.game_codec.specs.declared.fault.RecordWhat.{RecordWhat}
use Rattle.game_codec.proofs.RecordAnswerLaws.{to_spelled}
use Rattle.game_codec.proofs.TagLaws.{BeginsTags-one, BeginsTags-unbroken}
use Rattle.game_codec.proofs.StartLaws.{BeginsStart-one, BeginsStart-unbroken}
use Rattle.game_codec.proofs.WalkLaws.{front_move}

-- The bytes of a move are the game's next move, and the main line goes on behind them.
pub move_goes : (here next : Numbered) (due ahead : List ℕ) (m : Move) (taken : ℕ) → IsMoveDue due → Decodes here due (Ok (m, taken))
    → next ≡ numbered_after here m → ahead ≡ drop taken due → (left : List Move) → GoesOn here left due
    → (more : List Move) × ((left ≡ m ∷ more) × GoesOn next more ahead)
move_goes here next due ahead m taken is_due decodes next_is ahead_is left g =
    let p = front_move here left due is_due g in
    let same : (p.m, p.used) ≡ (m, taken) =
    same_ok (p.m, p.used) (m, taken) (Decodes-one here due (Ok (p.m, p.used)) (Ok (m, taken)) p.decodes decodes) in
    let on : GoesOn (numbered_after here m) p.more (drop taken due) =
    subst (λ (d : Move × ℕ). GoesOn (numbered_after here d.0) p.more (drop d.1 due)) same p.on in (
      p.more,
      (p.are ∙ ap (λ (d : Move × ℕ). d.0 ∷ p.more) same, rw (next_is, ahead_is) on),
    )

-- Bytes that are no move are in no main line.
pub move_bad : (here : Numbered) (due : List ℕ) (fault : MoveFault) → IsMoveDue due → Decodes here due (Err fault) → (left : List Move)
    → GoesOn here left due → ⊥
move_bad here due fault is_due decodes left g =
    let p = front_move here left due is_due g in
    let same = Decodes-one here due (Ok (p.m, p.used)) (Err fault) p.decodes decodes in
    absurd (cc)

-- The moves from one on, and the replay up to it.
along : (f : Setup → Move → Setup) (moves : List Move) (k : ℕ) (s : Setup) (m : Move) (more : List Move) → drop k moves ≡ m ∷ more
    → (slice_get moves k ≡ Some m) × ((drop (suc k) moves ≡ more) × (fold f s (take (suc k) moves) ≡ f (fold f s (take k moves)) m))
along f [] zero s m more e = absurd (cc)
along f [] (suc k) s m more e = absurd (cc)
along f (x ∷ xs) zero s m more e =
    let same : x ∷ xs ≡ m ∷ more = e in
    let head : x ≡ m = cc in
    let tail : xs ≡ more = cc in
    (ap Some head, (tail, ap (f s) head))
along f (x ∷ xs) (suc k) s m more e = along f xs k (f s x) m more e

at_end : (moves : List Move) (k : ℕ) → drop k moves ≡ [] → slice_get moves k ≡ None
at_end [] k e = refl
at_end (x ∷ xs) zero e = absurd (let same : x ∷ xs ≡ [] = e in cc)
at_end (x ∷ xs) (suc k) e = at_end xs k e

module _ (game : GameTree) (here : Numbered) (ply : ℕ) (bytes : List ℕ) (is : IsBehind game here ply bytes) where
  -- At the end of the main line.
  pub behind_ends : ((left : List Move) → GoesOn here left bytes → left ≡ []) → next_at game ply ≡ None
  behind_ends none = at_end (main_moves game) ply (none (drop ply (main_moves game)) is.line)

  module _ (next : Numbered) (ahead : List ℕ) (m : Move) (step : Step here.position m next.position)
      (goes : (left : List Move) → GoesOn here left bytes → (more : List Move) × ((left ≡ m ∷ more) × GoesOn next more ahead)) where
    pub behind_next : next_at game ply ≡ Some m
    behind_next =
        let found = goes (drop ply (main_moves game)) is.line in
        (along stepped (main_moves game) ply game.start m found.0 found.1.0).0

    pub behind_more : IsBehind game next (ply + 1) ahead
    behind_more =
        let moves = main_moves game in
        let found = goes (drop ply moves) is.line in
        let by = along stepped moves ply game.start m found.0 found.1.0 in
        let size : length (drop ply moves) ≡ suc (length found.0) = ap (λ (ms : List Move). length ms) found.1.0 in
        rw (add-one ply)
        (record {
          within = omega (arith, size, length-drop ply moves);
          position =
              Step-stepped here.position m next.position step ∙ ap (λ (p : Setup). stepped p m) is.position ∙ sym by.1.1;
          line = subst (λ (left : List Move). GoesOn next left ahead) (sym by.1.0) found.1.1;
        })

-- The start of a walk.
pub begun : (bytes : List ℕ) (all : List Tag) (start : Numbered) (used used' : ℕ) → BeginsTags bytes all (drop used bytes)
    → BeginsStart (drop used bytes) start (drop used' (drop used bytes)) → (tags : List Tag) (game : GameTree) → IsRecord bytes tags game
    → IsBehind game start 0 (drop (used + used') bytes)
begun bytes all start used used' first then tags game read =
    let r = to_spelled bytes tags game read in
    let same = BeginsTags-one bytes r.all_tags all r.behind_tags (drop used bytes) r.tags_first first in
    let begins : BeginsStart (drop used bytes) r.start r.behind_start =
    subst (λ (l : List ℕ). BeginsStart l r.start r.behind_start) same.1 r.then_start in
    let starts = BeginsStart-one (drop used bytes) r.start start r.behind_start (drop used' (drop used bytes)) begins then in
    let left : drop used' (drop used bytes) ≡ drop (used + used') bytes = drop-drop used' used bytes in
    record {
      within = omega arith;
      position = ap (λ (n : Numbered). n.position) (sym starts.0) ∙ sym (ap (λ (g : GameTree). g.start) r.game_is);
      line = record {
        place = beginning 0 r.start;
        movetext = r.movetext;
        behind = r.behind_moves;
        main = refl;
        here_is = starts.0;
        spells = subst (λ (l : List ℕ). SpellsMoves (beginning 0 r.start) r.movetext l r.behind_moves) (starts.1 ∙ left) r.then_moves;
        moves_are = sym (ap (λ (g : GameTree). main_moves g) r.game_is);
      };
    }

-- The start of a record is the one that is read.
pub starts_so : (bytes : List ℕ) (all : List Tag) (start : Numbered) (used used' : ℕ) → BeginsTags bytes all (drop used bytes)
    → BeginsStart (drop used bytes) start (drop used' (drop used bytes)) → (tags : List Tag) (game : GameTree) (r : IsSpelled bytes tags game)
    → (r.start ≡ start) × (r.behind_start ≡ drop (used + used') bytes)
starts_so bytes all start used used' first then tags game r =
    let same = BeginsTags-one bytes r.all_tags all r.behind_tags (drop used bytes) r.tags_first first in
    let begins : BeginsStart (drop used bytes) r.start r.behind_start =
    subst (λ (l : List ℕ). BeginsStart l r.start r.behind_start) same.1 r.then_start in
    let starts = BeginsStart-one (drop used bytes) r.start start r.behind_start (drop used' (drop used bytes)) begins then in
    (starts.0, starts.1 ∙ drop-drop used' used bytes)

-- Bytes whose tags or whose start has a fault are no record.
pub no_tags : (bytes rest : List ℕ) (what : RecordWhat) → ((all : List Tag) × BreaksTags bytes all rest what) → IsSomeRecord bytes → ⊥
no_tags bytes rest what breaks some =
    let r = to_spelled bytes some.0 some.1.0 some.1.1 in
    BeginsTags-unbroken bytes r.all_tags breaks.0 r.behind_tags rest what r.tags_first breaks.1

pub no_start : (bytes : List ℕ) (all : List Tag) (used : ℕ) (rest : List ℕ) (what : RecordWhat) → BeginsTags bytes all (drop used bytes)
    → BreaksStart (drop used bytes) rest what → IsSomeRecord bytes → ⊥
no_start bytes all used rest what first breaks some =
    let r = to_spelled bytes some.0 some.1.0 some.1.1 in
    let same = BeginsTags-one bytes r.all_tags all r.behind_tags (drop used bytes) r.tags_first first in
    let begins : BeginsStart (drop used bytes) r.start r.behind_start =
    subst (λ (l : List ℕ). BeginsStart l r.start r.behind_start) same.1 r.then_start in
    BeginsStart-unbroken (drop used bytes) r.start r.behind_start rest what begins breaks
