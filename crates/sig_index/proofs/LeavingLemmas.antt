-- The pawns that leave their own squares along a main line, move by move.
use Rattle.std.proofs.Common.{◌≡◌, ℕ, ◌+◌, ◌<◌, ◌≤◌, zero, suc, Bool, true, false, cond, not, List, [], ◌∷◌, ◌++◌, length, map, get_or, take, drop, refl, sym, ap, ◌∙◌, subst, arith, add-one, append_assoc, eq-eqb}
use Rattle.std.specs.Prelude.{fold, IsTrue, nat_eq, All, ◌↔◌}
use Rattle.std.specs.List.{filter, list_all, range_with_len}
use Rattle.std.specs.Int.{bit_at, IsBitSet}
use Rattle.std.proofs.lemmas.List.{append-nil, drop_all, drop_more, length-append}
use Rattle.std.proofs.lemmas.List.Elements.{All-nil, All-cons, All-head, All-tail}
use Rattle.std.proofs.lemmas.List.Filters.{length-filter_both}
use Rattle.std.proofs.lemmas.Nat.{bit_set_by_shift}
use Rattle.std.proofs.lemmas.Nat.Bits.{shr_and_one}
use Rattle.std.proofs.lemmas.Bool.{and_parts, eqb-true}
use Rattle.std.proofs.lemmas.List.FromFn.{get_or-range_with_len}
use Rattle.cell_core.specs.declared.step.Move.{Move}
use Rattle.chess_laws.specs.Counts.{is_home}
use Rattle.chess_laws.specs.Position.{Sound, start_setup}
use Rattle.chess_laws.specs.declared.setup.Setup.{Setup}
use Rattle.chess_laws.specs.Step.{stepped}
use Rattle.game_tree.specs.Game.{GameTree}
use Rattle.game_tree.specs.Tree.{Line, Played, line_of, moves_of}
use Rattle.game_tree.specs.Replay.{main_moves}
use Rattle.game_tree.specs.Legal.{IsLegalGame, IsLegalLine}
use Rattle.chess_laws.proofs.Start.{start-sound}
use Rattle.sig_index.specs.Leaving.{AreHome, gone, staying}
use Rattle.sig_index.specs.Signature.{all_homes, leaving, left_of}
use Rattle.sig_index.proofs.Paying.{stepped-Sound}
use Rattle.sig_index.proofs.StayLemmas.{filter-home, gone-is, staying-is}

-- ---- the positions after each move

abbrev pub along : Setup → List Move → List Setup
along p [] = []
along p (m ∷ moves) = stepped p m ∷ along (stepped p m) moves

map-shift : (f : ℕ → Setup) (a n : ℕ) → map f (range_with_len (a + 1) n) ≡ map (λ k. f (k + 1)) (range_with_len a n)
map-shift f a zero = refl
map-shift f a (suc n) = ap (λ (xs : List Setup). f (a + 1) ∷ xs) (map-shift f (a + 1) n)

pub along_is : (p : Setup) (moves : List Move) → map (λ k. fold stepped p (take k moves)) (range_with_len 1 (length moves)) ≡ along p moves
along_is p [] = refl
along_is p (m ∷ moves) =
    let shifted : map (λ k. fold stepped p (take k (m ∷ moves))) (range_with_len 2 (length moves)) ≡ map (λ k. fold stepped p (take (k + 1) (m ∷ moves))) (range_with_len 1 (length moves)) =
    map-shift (λ k. fold stepped p (take k (m ∷ moves))) 1 (length moves) in
    let step : (k : ℕ) → fold stepped p (take (k + 1) (m ∷ moves)) ≡ fold stepped (stepped p m) (take k moves) =
    λ k. ap (λ j. fold stepped p (take j (m ∷ moves))) (add-one k) in
    let rest : map (λ k. fold stepped p (take (k + 1) (m ∷ moves))) (range_with_len 1 (length moves)) ≡ map (λ k. fold stepped (stepped p m) (take k moves)) (range_with_len 1 (length moves)) =
    λ i. map (λ k. step k i) (range_with_len 1 (length moves)) in
    ap (λ (xs : List Setup). stepped p m ∷ xs) (shifted ∙ rest ∙ along_is (stepped p m) moves)

-- ---- values in a set

-- a value's bit is set
abbrev pub in_set : ℕ → ℕ → Bool
in_set set value = nat_eq (bit_at set value) 1

pub same_tests : (a b : Bool) → (a ≡ true → b ≡ true) → (b ≡ true → a ≡ true) → a ≡ b
same_tests true b f g = sym (f refl)
same_tests false true f g = g refl
same_tests false false f g = refl

-- the set is that of the values at home
abbrev pub IsHomeSet : Setup → ℕ → Type 0
IsHomeSet p set = (v : ℕ) → v < 16 → (IsBitSet set v ↔ IsTrue (is_home p.board v))

pub home_is : (p : Setup) (set v : ℕ) → IsHomeSet p set → v < 16 → in_set set v ≡ is_home p.board v
home_is p set v h lt =
    let shift = bit_set_by_shift set v in
    let both = h v lt in
    same_tests (in_set set v) (is_home p.board v)
    (λ e. both.0 (shift.0 (shr_and_one set v ∙ eqb-true (bit_at set v) 1 e)))
    (λ e. eq-eqb (bit_at set v) 1 (sym (shr_and_one set v) ∙ shift.1 (both.1 e)))

pub filter_same : (f g : ℕ → Bool) (xs : List ℕ) → All (λ v. v < 16) xs → ((v : ℕ) → v < 16 → f v ≡ g v) → filter f xs ≡ filter g xs
filter_same f g [] all h = refl
filter_same f g (x ∷ xs) all h =
    let here = h x (All-head (λ v. v < 16) x xs all) in
    let rest = filter_same f g xs (All-tail (λ v. v < 16) x xs all) h in
    λ i. cond (here i) (x ∷ rest i) (rest i)

All-cond : (t : Bool) (x : ℕ) (xs : List ℕ) → x < 16 → All (λ v. v < 16) xs → All (λ v. v < 16) (cond t (x ∷ xs) xs)
All-cond true x xs here all = All-cons (λ v. v < 16) x xs here all
All-cond false x xs here all = all

pub All-filter : (f : ℕ → Bool) (xs : List ℕ) → All (λ v. v < 16) xs → All (λ v. v < 16) (filter f xs)
All-filter f [] all = All-nil (λ v. v < 16)
All-filter f (x ∷ xs) all = All-cond (f x) x (filter f xs) (All-head (λ v. v < 16) x xs all) (All-filter f xs (All-tail (λ v. v < 16) x xs all))

-- ---- the replay

-- what is left of a main line from a position on: the values that are still at home leave in it as they do in the game
pub record Replays (game : GameTree) (line : Line) (position : Setup) (still left : List ℕ) : Type 0 where
  pub legal : IsLegalLine position line
  pub sound : Sound position
  pub values : All (λ v. v < 16) still
  pub home : AreHome position still
  pub room : length still + length left ≡ 16
  pub leaves : left ++ leaving still (along position (moves_of line)) ≡ left_of game

-- from some position on
pub record ReplaysOn (game : GameTree) (line : Line) (still left : List ℕ) : Type 0 where
  pub position : Setup
  pub replays : Replays game line position still left

pub all_small : All (λ v. v < 16) all_homes
all_small = λ k d lt. subst (λ n. n < 16) (sym (get_or-range_with_len 0 16 k d lt)) (omega arith)

pub all_true : (f : ℕ → Bool) (xs : List ℕ) → list_all f xs ≡ true → All (λ v. f v ≡ true) xs
all_true f [] h = All-nil (λ v. f v ≡ true)
all_true f (x ∷ xs) h =
    let parts = and_parts (f x) (list_all f xs) h in
    All-cons (λ v. f v ≡ true) x xs parts.0 (all_true f xs parts.1)

-- the pawns of the initial position are at home
pub start-home : AreHome start_setup all_homes
start-home = all_true (is_home start_setup.board) all_homes refl

pub Replays-begin : (game : GameTree) (line : List Played) (still left : List ℕ) → IsLegalGame game → game.start ≡ start_setup → game.line ≡ line_of line
    → still ≡ all_homes → left ≡ [] → ReplaysOn game (line_of line) still left
Replays-begin game line still left legal start same homes none = record {
  position = game.start;
  replays = rw (homes, none) (record {
    legal = subst (IsLegalLine game.start) same legal.line;
    sound = subst Sound (sym start) start-sound;
    values = all_small;
    home = subst (λ (p : Setup). AreHome p all_homes) (sym start) start-home;
    room = refl;
    leaves = ap (λ (l : Line). leaving all_homes (along game.start (moves_of l))) (sym same) ∙ ap (leaving all_homes) (sym (along_is game.start (main_moves game)));
  });
}

-- one move more
replays-by : (game : GameTree) (n : Played) (rest : List Played) (p : Setup) (still left still_now left_now : List ℕ) → Replays game (line_of (n ∷ rest)) p still left
    → still_now ≡ staying n.mv still → left_now ≡ left ++ gone n.mv still → Replays game (line_of rest) (stepped p n.mv) still_now left_now
replays-by game n rest p still left still_now left_now all stayed went =
    let q = stepped p n.mv in
    let step = all.legal.0 in
    let stay = stayed ∙ staying-is p n.mv q still all.sound step all.values all.home in
    let go = went ∙ ap (λ (vs : List ℕ). left ++ vs) (gone-is p n.mv q still all.sound step all.values all.home) in
    let moves = moves_of (line_of rest) in
    let halves = length-filter_both (λ v. is_home q.board v) (λ v. not (is_home q.board v)) (λ _. refl) still in
    let room = all.room in
    record {
      legal = all.legal.1.1.1;
      sound = stepped-Sound p n.mv all.sound step;
      values = subst (All (λ v. v < 16)) (sym stay) (All-filter (λ v. is_home q.board v) still all.values);
      home = subst (AreHome q) (sym stay) (filter-home (λ v. is_home q.board v) still);
      room = rw (stay, go, length-append left (filter (λ v. not (is_home q.board v)) still)) (omega arith);
      leaves =
          (λ i. go i ++ leaving (stay i) (along q moves))
          ∙ append_assoc left (filter (λ v. not (is_home q.board v)) still) (leaving (filter (λ v. is_home q.board v) still) (along q moves))
          ∙ all.leaves;
    }

pub Replays-more : (game : GameTree) (line : List Played) (i : ℕ) (n : Played) (still left still_now left_now : List ℕ) → i < length line → n ≡ get_or line i n
    → ReplaysOn game (line_of (drop i line)) still left → still_now ≡ staying n.mv still → left_now ≡ left ++ gone n.mv still
    → ReplaysOn game (line_of (drop (i + 1) line)) still_now left_now
Replays-more game line i n still left still_now left_now under item r stayed went =
    let rest : drop i line ≡ n ∷ drop (i + 1) line = drop_more line i n under ∙ ap (λ (m : Played). m ∷ drop (i + 1) line) (sym item) in
    let all = subst (λ (ns : List Played). Replays game (line_of ns) r.position still left) rest r.replays in
    record {
      position = stepped r.position n.mv;
      replays = replays-by game n (drop (i + 1) line) r.position still left still_now left_now all stayed went;
    }

-- at the end of the line
pub Replays-all : (game : GameTree) (line : List Played) (i : ℕ) (still left : List ℕ) → length line ≤ i → ReplaysOn game (line_of (drop i line)) still left
    → left ≡ left_of game
Replays-all game line i still left over r =
    let all = subst (λ (ns : List Played). Replays game (line_of ns) r.position still left) (drop_all i line over) r.replays in
    sym (append-nil left) ∙ all.leaves
