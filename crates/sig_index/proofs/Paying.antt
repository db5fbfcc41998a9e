-- What becomes of the counts of men along the moves of a line: each man that is new was one of his side's pawns.
use Rattle.std.proofs.Common.{◌≡◌, ℕ, ◌+◌, ◌-◌, ◌<◌, ◌≤◌, zero, suc, Bool, true, false, cond, ◌&&◌, ◌||◌, length, take, Option, Some, None, is_some, IsTrue, refl, sym, subst, arith}
use Rattle.std.specs.Prelude.{fold}
use Rattle.std.proofs.lemmas.Bool.{or_parts}
use Rattle.cell_core.specs.declared.man.Colour.{Colour}
use Rattle.cell_core.specs.declared.man.Kind.{Kind}
use Rattle.cell_core.specs.declared.man.Kind.TheVariants.{King, Queen, Rook, Bishop, Knight, Pawn}
use Rattle.cell_core.specs.declared.man.Man.{Man}
use Rattle.cell_core.specs.declared.step.Move.{Move}
use Rattle.cell_core.specs.Board.{Men, man_at, put}
use Rattle.cell_core.specs.Man.{is_man, man, same_colour, same_kind}
use Rattle.chess_laws.specs.Counts.{count_of}
use Rattle.chess_laws.specs.Castling.{rook_home, rook_target}
use Rattle.chess_laws.specs.Position.{Sound}
use Rattle.chess_laws.specs.Step.{Case, PlainCase, Step, arriving, board_after, effect_of, may_become, moved, passed_square, stepped}
use Rattle.chess_laws.specs.declared.effect.Effect.{Effect}
use Rattle.chess_laws.specs.declared.effect.Effect.TheVariants.{Plain, Double, Passing, Castle, Null}
use Rattle.chess_laws.specs.declared.setup.Setup.{Setup}
use Rattle.chess_laws.proofs.Boards.{count-put, length-put, on_board, one_if}
use Rattle.chess_laws.proofs.Following.{case-on_board}
use Rattle.chess_laws.proofs.Keeping.{castle-rook_goes, castle-squares}
use Rattle.chess_laws.proofs.MovedKings.{Sound-after}
use Rattle.game_tree.specs.Legal.{IsLegalLine}
use Rattle.game_tree.specs.Promotions.{branches_any, is_promotion, is_underpromotion, is_underpromotion_to, line_any}
use Rattle.game_tree.specs.Tree.{Line, ends, goes, moves_of}

-- ---- what rose

-- How far a count rose, those of a side's rooks, bishops and knights, and those of its queens too.
abbrev pub rose : Men → Men → Colour → Kind → ℕ
rose old new c k = count_of new c k - count_of old c k

abbrev pub lesser_rose : Men → Men → Colour → ℕ
lesser_rose old new c = rose old new c Rook + rose old new c Bishop + rose old new c Knight

abbrev pub all_rose : Men → Men → Colour → ℕ
all_rose old new c = rose old new c Queen + lesser_rose old new c

-- From the old men to the new ones, with promotions or without any, with underpromotions or without any: what rose was paid by pawns,
-- and without promotions nothing rose.
pub record Pays (promo under : Bool) (old new : Men) : Type 0 where
  pub paid : (c : Colour) → all_rose old new c + count_of new c Pawn ≤ count_of old c Pawn
  pub unpromoted : promo ≡ false → (c : Colour) → all_rose old new c ≡ 0
  pub queens_alone : under ≡ false → (c : Colour) → lesser_rose old new c ≡ 0

-- ---- one after the other

rose_by : (a b c : ℕ) → c - a ≤ (b - a) + (c - b)
rose_by a b c = omega arith

lesser_by : (a b c : Men) (d : Colour) → lesser_rose a c d ≤ lesser_rose a b d + lesser_rose b c d
lesser_by a b c d =
    sum3 (rose a c d Rook) (rose a c d Bishop) (rose a c d Knight) (rose a b d Rook) (rose a b d Bishop) (rose a b d Knight)
    (rose b c d Rook) (rose b c d Bishop) (rose b c d Knight)
    (rose_by (count_of a d Rook) (count_of b d Rook) (count_of c d Rook))
    (rose_by (count_of a d Bishop) (count_of b d Bishop) (count_of c d Bishop))
    (rose_by (count_of a d Knight) (count_of b d Knight) (count_of c d Knight))
  where
    sum3 : (x y z x1 y1 z1 x2 y2 z2 : ℕ) → x ≤ x1 + x2 → y ≤ y1 + y2 → z ≤ z1 + z2 → x + y + z ≤ (x1 + y1 + z1) + (x2 + y2 + z2)
    sum3 x y z x1 y1 z1 x2 y2 z2 h i j = omega arith

all_by : (a b c : Men) (d : Colour) → all_rose a c d ≤ all_rose a b d + all_rose b c d
all_by a b c d =
    sum2 (rose a c d Queen) (lesser_rose a c d) (rose a b d Queen) (lesser_rose a b d) (rose b c d Queen) (lesser_rose b c d)
    (rose_by (count_of a d Queen) (count_of b d Queen) (count_of c d Queen)) (lesser_by a b c d)
  where
    sum2 : (x y x1 y1 x2 y2 : ℕ) → x ≤ x1 + x2 → y ≤ y1 + y2 → x + y ≤ (x1 + y1) + (x2 + y2)
    sum2 x y x1 y1 x2 y2 h i = omega arith

paid_on : (x x1 x2 p1 p2 p3 : ℕ) → x ≤ x1 + x2 → x1 + p2 ≤ p1 → x2 + p3 ≤ p2 → x + p3 ≤ p1
paid_on x x1 x2 p1 p2 p3 h i j = omega arith

none_on : (x x1 x2 : ℕ) → x ≤ x1 + x2 → x1 ≡ 0 → x2 ≡ 0 → x ≡ 0
none_on x x1 x2 h i j = omega arith

pub pays_on : (promo under : Bool) (promo' under' : Bool) (a b c : Men) → Pays promo under a b → Pays promo' under' b c → Pays (promo || promo') (under || under') a c
pays_on promo under promo' under' a b c first second = record {
  paid = λ d. paid_on (all_rose a c d) (all_rose a b d) (all_rose b c d) (count_of a d Pawn) (count_of b d Pawn) (count_of c d Pawn)
      (all_by a b c d) (first.paid d) (second.paid d);
  unpromoted = λ none d.
      let both = or_parts promo promo' none in
      none_on (all_rose a c d) (all_rose a b d) (all_rose b c d) (all_by a b c d) (first.unpromoted both.0 d) (second.unpromoted both.1 d);
  queens_alone = λ none d.
      let both = or_parts under under' none in
      none_on (lesser_rose a c d) (lesser_rose a b d) (lesser_rose b c d) (lesser_by a b c d) (first.queens_alone both.0 d) (second.queens_alone both.1 d);
}

-- The same with more marks.
pub pays_more : (promo under : Bool) (promo' under' : Bool) (a b : Men) → Pays promo under a b → (promo' ≡ false → promo ≡ false) → (under' ≡ false → under ≡ false)
    → Pays promo' under' a b
pays_more promo under promo' under' a b pays h i = record {
  paid = pays.paid;
  unpromoted = λ none. pays.unpromoted (h none);
  queens_alone = λ none. pays.queens_alone (i none);
}

-- ---- one move

-- Nothing rises where no count does.
none_rose : (a b : ℕ) → b ≤ a → b - a ≡ 0
none_rose a b h = omega arith

sum_zero : (x y z : ℕ) → x ≡ 0 → y ≡ 0 → z ≡ 0 → x + y + z ≡ 0
sum_zero x y z h i j = omega arith

calm : (promo under : Bool) (old new : Men) → ((c : Colour) (k : Kind) → count_of new c k ≤ count_of old c k) → Pays promo under old new
calm promo under old new falls =
    let each : (c : Colour) (k : Kind) → rose old new c k ≡ 0 = λ c k. none_rose (count_of old c k) (count_of new c k) (falls c k) in
    let lesser : (c : Colour) → lesser_rose old new c ≡ 0 =
    λ c. sum_zero (rose old new c Rook) (rose old new c Bishop) (rose old new c Knight) (each c Rook) (each c Bishop) (each c Knight) in
    let all : (c : Colour) → all_rose old new c ≡ 0 = λ c. sum_none (rose old new c Queen) (lesser_rose old new c) (each c Queen) (lesser c) in
    record {
      paid = λ c. paid_none (all_rose old new c) (count_of new c Pawn) (count_of old c Pawn) (all c) (falls c Pawn);
      unpromoted = λ _. all;
      queens_alone = λ _. lesser;
    }
  where
    sum_none : (x y : ℕ) → x ≡ 0 → y ≡ 0 → x + y ≡ 0
    sum_none x y h i = omega arith

    paid_none : (x p q : ℕ) → x ≡ 0 → p ≤ q → x + p ≤ q
    paid_none x p q h i = omega arith

-- A man goes from one square to another, where he may become another.
goes-count : (men : Men) (a b : ℕ) (x y : Man) (c : Colour) (k : Kind) → length men ≡ 64 → man_at men a ≡ Some x → b < 64
    → count_of (put (put men a None) b (Some y)) c k + one_if (is_man c k (Some x)) ≤ count_of men c k + one_if (is_man c k (Some y))
goes-count men a b x y c k long stands on =
    let left : count_of (put men a None) c k + one_if (is_man c k (Some x)) ≡ count_of men c k + 0 =
    rw stands at (count-put (is_man c k) men a None long (on_board men a x long stands)) in
    let came = count-put (is_man c k) (put men a None) b (Some y) (length-put men a None long) on in
    omega arith

gone-count : (men : Men) (s : ℕ) (c : Colour) (k : Kind) → length men ≡ 64 → s < 64 → count_of (put men s None) c k ≤ count_of men c k
gone-count men s c k long on =
    let gone : count_of (put men s None) c k + one_if (is_man c k (man_at men s)) ≡ count_of men c k + 0 = count-put (is_man c k) men s None long on in
    omega arith

stays-count : (men : Men) (a b : ℕ) (x : Man) (c : Colour) (k : Kind) → length men ≡ 64 → man_at men a ≡ Some x → b < 64
    → count_of (put (put men a None) b (Some x)) c k ≤ count_of men c k
stays-count men a b x c k long stands on = let count = goes-count men a b x x c k long stands on in omega arith

moved-long : (p : Setup) (m : Move) → Sound p → length (moved p m) ≡ 64
moved-long p m sound = length-put (put p.board m.from None) m.to (arriving p m m.promo) (length-put p.board m.from None sound.squares)

-- A man that stays what he is.
moved-calm : (p : Setup) (m : Move) (k : Kind) (c : Colour) (j : Kind) → Sound p → man_at p.board m.from ≡ Some (man p.side k) → m.to < 64 → m.promo ≡ None
    → count_of (moved p m) c j ≤ count_of p.board c j
moved-calm p m k c j sound stands on none = rw (none, stands) (stays-count p.board m.from m.to (man p.side k) c j sound.squares stands on)

step-calm : (p : Setup) (m : Move) (e : Effect) (c : Colour) (j : Kind) → Sound p → effect_of p m ≡ e → Case p m e → m.promo ≡ None
    → count_of (board_after p m e) c j ≤ count_of p.board c j
step-calm p m Plain c j sound is case none = moved-calm p m case.kind c j sound case.stands (case-on_board p m Plain sound is case) none
step-calm p m Double c j sound is case none = moved-calm p m Pawn c j sound case.stands (case-on_board p m Double sound is case) none
step-calm p m Passing c j sound is case none =
    let first = moved-calm p m Pawn c j sound case.stands (case-on_board p m Passing sound is case) none in
    let second = gone-count (moved p m) (passed_square m) c j (moved-long p m sound) (on_board p.board (passed_square m) _ sound.squares case.passed) in
    omega (arith, first, second)
step-calm p m (Castle wing) c j sound is case none =
    let rook = castle-rook_goes p m wing sound (moved-long p m sound) (castle-squares p m wing case.stands is) case in
    let first = moved-calm p m King c j sound case.stands (case-on_board p m (Castle wing) sound is case) none in
    let second = stays-count (moved p m) (rook_home p.side wing) (rook_target p.side wing) (man p.side Rook) c j (moved-long p m sound) rook.from rook.target in
    omega (arith, first, second)
step-calm p m Null c j sound is case none = omega arith

-- What a promotion is: a pawn that becomes one of four men.
promoted : (k j : Kind) (last : Bool) → IsTrue (cond (same_kind k Pawn && last) (may_become (Some j)) false) → (k ≡ Pawn) × IsTrue (may_become (Some j))
promoted Pawn j true h = (refl, h)
promoted Pawn j false h = absurd (cc)
promoted King j last h = absurd (cc)
promoted Queen j last h = absurd (cc)
promoted Rook j last h = absurd (cc)
promoted Bishop j last h = absurd (cc)
promoted Knight j last h = absurd (cc)

paid_by : (same : Bool) (j : Kind) (q r b n w q' r' b' n' w' : ℕ) → IsTrue (may_become (Some j))
    → q' + one_if (same && false) ≤ q + one_if (same && same_kind j Queen)
    → r' + one_if (same && false) ≤ r + one_if (same && same_kind j Rook)
    → b' + one_if (same && false) ≤ b + one_if (same && same_kind j Bishop)
    → n' + one_if (same && false) ≤ n + one_if (same && same_kind j Knight)
    → w' + one_if (same && true) ≤ w + one_if (same && same_kind j Pawn)
    → (q' - q) + ((r' - r) + (b' - b) + (n' - n)) + w' ≤ w
paid_by false j q r b n w q' r' b' n' w' may hq hr hb hn hw = omega arith
paid_by true Queen q r b n w q' r' b' n' w' may hq hr hb hn hw = omega arith
paid_by true Rook q r b n w q' r' b' n' w' may hq hr hb hn hw = omega arith
paid_by true Bishop q r b n w q' r' b' n' w' may hq hr hb hn hw = omega arith
paid_by true Knight q r b n w q' r' b' n' w' may hq hr hb hn hw = omega arith
paid_by true King q r b n w q' r' b' n' w' may hq hr hb hn hw = absurd (cc)
paid_by true Pawn q r b n w q' r' b' n' w' may hq hr hb hn hw = absurd (cc)

queens_by : (same : Bool) (j : Kind) (r b n r' b' n' : ℕ) → is_underpromotion_to (Some j) ≡ false
    → r' + one_if (same && false) ≤ r + one_if (same && same_kind j Rook)
    → b' + one_if (same && false) ≤ b + one_if (same && same_kind j Bishop)
    → n' + one_if (same && false) ≤ n + one_if (same && same_kind j Knight)
    → (r' - r) + (b' - b) + (n' - n) ≡ 0
queens_by false j r b n r' b' n' queen hr hb hn = omega arith
queens_by true Queen r b n r' b' n' queen hr hb hn = omega arith
queens_by true Rook r b n r' b' n' queen hr hb hn = absurd (cc)
queens_by true Bishop r b n r' b' n' queen hr hb hn = absurd (cc)
queens_by true Knight r b n r' b' n' queen hr hb hn = absurd (cc)
queens_by true King r b n r' b' n' queen hr hb hn = absurd (cc)
queens_by true Pawn r b n r' b' n' queen hr hb hn = absurd (cc)

promotion-pays : (side : Colour) (j : Kind) (old new : Men) → IsTrue (may_become (Some j))
    → ((c : Colour) (k : Kind) → count_of new c k + one_if (is_man c k (Some (man side Pawn))) ≤ count_of old c k + one_if (is_man c k (Some (man side j))))
    → Pays true (is_underpromotion_to (Some j)) old new
promotion-pays side j old new may count = record {
  paid = λ c. paid_by (same_colour side c) j (count_of old c Queen) (count_of old c Rook) (count_of old c Bishop) (count_of old c Knight) (count_of old c Pawn)
      (count_of new c Queen) (count_of new c Rook) (count_of new c Bishop) (count_of new c Knight) (count_of new c Pawn) may
      (count c Queen) (count c Rook) (count c Bishop) (count c Knight) (count c Pawn);
  unpromoted = λ none. absurd (cc);
  queens_alone = λ queen c. queens_by (same_colour side c) j (count_of old c Rook) (count_of old c Bishop) (count_of old c Knight)
      (count_of new c Rook) (count_of new c Bishop) (count_of new c Knight) queen (count c Rook) (count c Bishop) (count c Knight);
}

plain-pays : (p : Setup) (m : Move) (j : Kind) → Sound p → effect_of p m ≡ Plain → PlainCase p m → m.promo ≡ Some j
    → Pays true (is_underpromotion_to (Some j)) p.board (moved p m)
plain-pays p m j sound is case named =
    let on = case-on_board p m Plain sound is case in
    let both = promoted case.kind j _ (rw named at case.promotes) in
    let pawn : man_at p.board m.from ≡ Some (man p.side Pawn) = subst (λ (k : Kind). man_at p.board m.from ≡ Some (man p.side k)) both.0 case.stands in
    rw named (promotion-pays p.side j p.board (put (put p.board m.from None) m.to (Some (man p.side j))) both.1
    (λ c k. goes-count p.board m.from m.to (man p.side Pawn) (man p.side j) c k sound.squares pawn on))

case-pays : (p : Setup) (m : Move) (e : Effect) (promo : Option Kind) → Sound p → effect_of p m ≡ e → Case p m e → m.promo ≡ promo
    → Pays (is_some promo) (is_underpromotion_to promo) p.board (board_after p m e)
case-pays p m e None sound is case named = calm false false p.board (board_after p m e) (λ c k. step-calm p m e c k sound is case named)
case-pays p m Plain (Some j) sound is case named = plain-pays p m j sound is case named
case-pays p m Double (Some j) sound is case named = absurd (cc (named, case.promo))
case-pays p m Passing (Some j) sound is case named = absurd (cc (named, case.promo))
case-pays p m (Castle wing) (Some j) sound is case named = absurd (cc (named, case.promo))
case-pays p m Null (Some j) sound is case named = absurd (cc (named, case.promo))

pub step-pays : (p : Setup) (m : Move) (q : Setup) → Sound p → Step p m q → Pays (is_promotion m) (is_underpromotion m) p.board q.board
step-pays p m q sound step =
    subst (λ (s : Setup). Pays (is_promotion m) (is_underpromotion m) p.board s.board) (sym step.becomes)
    (case-pays p m (effect_of p m) m.promo sound refl step.allowed refl)

-- ---- a line

stays-pays : (men : Men) → Pays false false men men
stays-pays men = calm false false men men (λ c k. omega arith)

pub stepped-Sound : (p : Setup) (m : Move) → Sound p → Step p m (stepped p m) → Sound (stepped p m)
stepped-Sound p m sound step = subst Sound (sym step.becomes) (Sound-after p m sound (stepped p m, step))

-- From one ply of a line to a later one.
pub line-pays : (p : Setup) (l : Line) (i j : ℕ) → Sound p → IsLegalLine p l → i ≤ j
    → Pays (line_any is_promotion l) (line_any is_underpromotion l) (fold stepped p (take i (moves_of l))).board (fold stepped p (take j (moves_of l))).board
line-pays p ends zero zero sound legal h = stays-pays p.board
line-pays p ends zero (suc j) sound legal h = stays-pays p.board
line-pays p ends (suc i) zero sound legal h = stays-pays p.board
line-pays p ends (suc i) (suc j) sound legal h = stays-pays p.board
line-pays p (goes m nags comment variations line) (suc i) zero sound legal h = absurd (omega (arith, h))
line-pays p (goes m nags comment variations line) zero zero sound legal h =
    pays_more false false (line_any is_promotion (goes m nags comment variations line)) (line_any is_underpromotion (goes m nags comment variations line))
    p.board p.board (stays-pays p.board) (λ _. refl) (λ _. refl)
line-pays p (goes m nags comment variations line) zero (suc j) sound legal h =
    let q = stepped p m in
    let later = line-pays q line zero j (stepped-Sound p m sound legal.0) legal.1.1.1 (omega arith) in
    let last = (fold stepped q (take j (moves_of line))).board in
    pays_on (is_promotion m) (is_underpromotion m) (branches_any is_promotion variations || line_any is_promotion line)
    (branches_any is_underpromotion variations || line_any is_underpromotion line) p.board q.board last
    (step-pays p m q sound legal.0)
    (pays_more (line_any is_promotion line) (line_any is_underpromotion line) (branches_any is_promotion variations || line_any is_promotion line)
    (branches_any is_underpromotion variations || line_any is_underpromotion line) q.board last later
    (λ none. (or_parts (branches_any is_promotion variations) (line_any is_promotion line) none).1)
    (λ none. (or_parts (branches_any is_underpromotion variations) (line_any is_underpromotion line) none).1))
line-pays p (goes m nags comment variations line) (suc i) (suc j) sound legal h =
    let q = stepped p m in
    let later = line-pays q line i j (stepped-Sound p m sound legal.0) legal.1.1.1 (omega (arith, h)) in
    pays_more (line_any is_promotion line) (line_any is_underpromotion line) (line_any is_promotion (goes m nags comment variations line))
    (line_any is_underpromotion (goes m nags comment variations line)) (fold stepped q (take i (moves_of line))).board (fold stepped q (take j (moves_of line))).board later
    (λ none. (or_parts (branches_any is_promotion variations) (line_any is_promotion line) (or_parts (is_promotion m) _ none).1).1)
    (λ none. (or_parts (branches_any is_underpromotion variations) (line_any is_underpromotion line) (or_parts (is_underpromotion m) _ none).1).1)
