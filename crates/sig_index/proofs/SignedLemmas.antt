-- The pawns that leave along a main line that is read move by move.
use Rattle.std.proofs.Common.{◌≡◌, ℕ, ◌+◌, ◌≤◌, ◌<◌, zero, suc, Bool, true, false, not, if◌then◌else◌, min, List, [], ◌∷◌, ◌++◌, Some, None, length, take, drop, refl, sym, ap, ◌∙◌, subst, arith, add-one, append-nil, append_assoc, length-append}
use Rattle.std.specs.Prelude.{All, fold, slice_get}
use Rattle.std.specs.Bool.{MatchBool}
use Rattle.std.proofs.lemmas.List.Elements.{All-nil}
use Rattle.std.specs.List.{filter}
use Rattle.std.proofs.lemmas.List.Filters.{length-filter_both}
use Rattle.cell_core.specs.declared.step.Move.{Move}
use Rattle.chess_laws.specs.Counts.{is_home}
use Rattle.chess_laws.specs.Position.{start_setup}
use Rattle.chess_laws.specs.Step.{Step, stepped}
use Rattle.chess_laws.specs.declared.setup.Setup.{Setup}
use Rattle.chess_laws.proofs.Stepping.{Step-stepped}
use Rattle.game_tree.specs.Game.{GameTree}
use Rattle.game_tree.specs.Replay.{main_moves, next_at, plies_of, position_at}
use Rattle.game_codec.specs.Totals.{AreTotals}
use Rattle.game_codec.specs.declared.totals.Totals.{Totals}
use Rattle.index_entry.specs.Counts.{count_code}
use Rattle.index_entry.specs.Entry.{AreCounts}
use Rattle.sig_index.specs.Leaving.{AreHome}
use Rattle.sig_index.specs.Signature.{IsSig, IsSigBounded, all_homes, home_list, leaving, left_of, material_of}
use Rattle.sig_index.specs.declared.signature.Sig.{Sig}
use Rattle.sig_index.proofs.BoundLemmas.{few_homes, few_left, no_homes, small_homes, small_left}
use Rattle.sig_index.proofs.LeavingLemmas.{All-filter, all_small, along, along_is, start-home}
use Rattle.sig_index.proofs.SigOf.{parts, whole}

-- What leaves along the main line: nothing where the start is an own one.
abbrev pub left_from : Bool → GameTree → List ℕ
left_from own game = if own then [] else left_of game

-- At a ply of the main line these have left and these are still at home, and of these leave behind it those that do in the game.
abbrev pub Leaves : Bool → GameTree → ℕ → List ℕ → List ℕ → Type 0
Leaves own game ply still left = left ++ leaving still (along (position_at game ply) (drop ply (main_moves game))) ≡ left_from own game

none_leave : (positions : List Setup) → leaving [] positions ≡ []
none_leave [] = refl
none_leave (p ∷ positions) = none_leave positions

pub Leaves-begin : (own : Bool) (game : GameTree) (ply : ℕ) (still left : List ℕ) → ply ≡ 0 → still ≡ (if own then [] else all_homes) → left ≡ [] → Leaves own game ply still left
Leaves-begin true game ply still left begun homes none =
    rw (begun, homes, none) (none_leave (along game.start (main_moves game)))
Leaves-begin false game ply still left begun homes none =
    rw (begun, homes, none) (ap (leaving all_homes) (sym (along_is game.start (main_moves game))))

next_drop : (moves : List Move) (k : ℕ) (m : Move) → slice_get moves k ≡ Some m → drop k moves ≡ m ∷ drop (suc k) moves
next_drop [] k m e = absurd (cc)
next_drop (x ∷ xs) zero m e = let same : x ≡ m = cc in ap (λ (y : Move). y ∷ xs) same
next_drop (x ∷ xs) (suc k) m e = next_drop xs k m e

none_drop : (moves : List Move) (k : ℕ) → slice_get moves k ≡ None → drop k moves ≡ []
none_drop [] zero e = refl
none_drop [] (suc k) e = refl
none_drop (x ∷ xs) zero e = absurd (cc)
none_drop (x ∷ xs) (suc k) e = none_drop xs k e

-- The position behind the next move.
fold_take : (p : Setup) (moves : List Move) (k : ℕ) (m : Move) → slice_get moves k ≡ Some m
    → fold stepped p (take (suc k) moves) ≡ stepped (fold stepped p (take k moves)) m
fold_take p [] k m e = absurd (cc)
fold_take p (x ∷ xs) zero m e = let same : x ≡ m = cc in ap (stepped p) same
fold_take p (x ∷ xs) (suc k) m e = fold_take (stepped p x) xs k m e

pub goes-on : (game : GameTree) (ply : ℕ) (m : Move) (p q : Setup) → Some m ≡ next_at game ply → p ≡ position_at game ply → Step p m q
    → q ≡ position_at game (ply + 1)
goes-on game ply m p q next at step =
    Step-stepped p m q step
    ∙ ap (λ (s : Setup). stepped s m) at
    ∙ sym (fold_take game.start (main_moves game) ply m (sym next))
    ∙ ap (λ (k : ℕ). position_at game k) (sym (add-one ply))

pub Leaves-more : (own : Bool) (game : GameTree) (ply : ℕ) (m : Move) (p q : Setup) (still left still_now left_now : List ℕ) → Some m ≡ next_at game ply
    → p ≡ position_at game ply → q ≡ position_at game (ply + 1) → Step p m q → still_now ≡ filter (λ v. is_home q.board v) still
    → left_now ≡ left ++ filter (λ v. not (is_home q.board v)) still → Leaves own game ply still left → Leaves own game (ply + 1) still_now left_now
Leaves-more own game ply m p q still left still_now left_now next at after step stay go leaves =
    let moves : drop ply (main_moves game) ≡ m ∷ drop (ply + 1) (main_moves game) =
    next_drop (main_moves game) ply m (sym next) ∙ ap (λ (k : ℕ). m ∷ drop k (main_moves game)) (sym (add-one ply)) in
    let later : List Move = drop (ply + 1) (main_moves game) in
    let e : q ≡ stepped (position_at game ply) m = Step-stepped p m q step ∙ ap (λ (s : Setup). stepped s m) at in
    (λ i. go i ++ leaving (stay i) (along (sym after i) later))
    ∙ append_assoc left (filter (λ v. not (is_home q.board v)) still) (leaving (filter (λ v. is_home q.board v) still) (along q later))
    ∙ ap (λ (s : Setup). left ++ (filter (λ v. not (is_home s.board v)) still ++ leaving (filter (λ v. is_home s.board v) still) (along s later))) e
    ∙ ap (λ (ms : List Move). left ++ leaving still (along (position_at game ply) ms)) (sym moves)
    ∙ leaves

pub Leaves-all : (own : Bool) (game : GameTree) (ply : ℕ) (still left : List ℕ) → None ≡ next_at game ply → Leaves own game ply still left → left ≡ left_from own game
Leaves-all own game ply still left none leaves =
    let over : drop ply (main_moves game) ≡ [] = none_drop (main_moves game) ply (sym none) in
    sym (append-nil left) ∙ ap (λ (ms : List Move). left ++ leaving still (along (position_at game ply) ms)) (sym over) ∙ leaves

pub still_small : (q : Setup) (still still_now : List ℕ) → still_now ≡ filter (λ v. is_home q.board v) still → All (λ v. v < 16) still → All (λ v. v < 16) still_now
still_small q still still_now stay all = subst (All (λ v. v < 16)) (sym stay) (All-filter (λ v. is_home q.board v) still all)

pub room_left : (q : Setup) (still left still_now left_now : List ℕ) → still_now ≡ filter (λ v. is_home q.board v) still
    → left_now ≡ left ++ filter (λ v. not (is_home q.board v)) still → length still + length left ≤ 16 → length still_now + length left_now ≤ 16
room_left q still left still_now left_now stay go room =
    let halves = length-filter_both (λ v. is_home q.board v) (λ v. not (is_home q.board v)) (λ _. refl) still in
    rw (stay, go, length-append left (filter (λ v. not (is_home q.board v)) still)) (omega (arith, halves, room))

pub homes_begin : (own : Bool) (still left : List ℕ) → still ≡ (if own then [] else all_homes) → left ≡ []
    → All (λ v. v < 16) still × (length still + length left ≤ 16)
homes_begin true still left homes none = (subst (All (λ v. v < 16)) (sym homes) (All-nil (λ v. v < 16)), rw (homes, none) (omega arith))
homes_begin false still left homes none = (subst (All (λ v. v < 16)) (sym homes) all_small, rw (homes, none) (omega arith))

-- The pawns that are looked for are at home at the start.
pub home_begin : (own : Bool) (still : List ℕ) (p : Setup) → still ≡ (if own then [] else all_homes) → (own ≡ false → p ≡ start_setup) → AreHome p still
home_begin true still p homes start = subst (AreHome p) (sym homes) (All-nil (λ v. is_home p.board v ≡ true))
home_begin false still p homes start = subst (λ (s : Setup). AreHome s still) (sym (start refl)) (subst (AreHome start_setup) (sym homes) start-home)

-- The signature, part by part

few-either : (own : Bool) (game : GameTree) → length (left_from own game) ≤ 16
few-either true game = omega arith
few-either false game = few_left game

small-either : (own : Bool) (game : GameTree) → All (λ v. v < 16) (left_from own game)
small-either true game = no_homes
small-either false game = small_left game

pub sig-is : (game : GameTree) (s : Sig) (final : Setup) (ply : ℕ) (t : Totals)
    → MatchBool s.own_start (game.start ≡ start_setup → ⊥) (game.start ≡ start_setup)
    → s.material ≡ material_of final.board → final ≡ position_at game ply → ply ≤ plies_of game → plies_of game ≤ ply
    → s.home ≡ home_list (left_from s.own_start game) → s.plies ≡ min ply 1023
    → s.promo ≡ t.promo → s.under ≡ t.under → s.vars ≡ count_code t.variations → s.comments ≡ count_code t.comments → s.nags ≡ count_code t.nags
    → AreTotals game t → IsSig game s
sig-is game s final ply t own material at within all home plies promo under vars comments nags totals =
    let same : ply ≡ plies_of game = omega (arith, within, all) in
    whole game s (record {
      material = material ∙ ap (λ (p : Setup). material_of p.board) (at ∙ ap (position_at game) same);
      own_start = own;
      home = home;
      plies = plies ∙ ap (λ (n : ℕ). min n 1023) same;
      promo = promo ∙ totals.promo;
      under = under ∙ totals.under;
      vars = vars ∙ ap count_code totals.variations;
      comments = comments ∙ ap count_code totals.comments;
      nags = nags ∙ ap count_code totals.nags;
    })

pub sig-bounded : (game : GameTree) (s : Sig) → IsSig game s → AreCounts s.material → s.vars < 16 → s.comments < 16 → s.nags < 16 → IsSigBounded s
sig-bounded game s is counts vars comments nags =
    let has = parts game s is in
    record {
      material = counts;
      home_count = few_homes s.home (left_from s.own_start game) has.home (few-either s.own_start game);
      home = small_homes s.home (left_from s.own_start game) has.home (few-either s.own_start game) (small-either s.own_start game);
      plies = omega (arith, has.plies);
      vars = vars;
      comments = comments;
      nags = nags;
    }
