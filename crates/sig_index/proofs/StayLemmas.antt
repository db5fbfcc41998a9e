-- Of pawns at home just those leave at whose own squares a move begins or ends, so that no position is needed to tell them.
use Rattle.std.proofs.Common.{◌≡◌, ◌≢◌, ◌⊎◌, inl, inr, ℕ, ◌<◌, ◌≤◌, Bool, true, false, true≢false, cond, not, eqb, eq-eqb, List, [], ◌∷◌, ◌++◌, length, Option, None, Some, refl, sym, ap, ◌∙◌, subst, arith}
use Rattle.std.specs.Prelude.{All}
use Rattle.std.specs.List.{filter}
use Rattle.std.proofs.lemmas.Bool.{cases_eq, eqb-true, or_cases, or_parts}
use Rattle.std.proofs.lemmas.List.{append-nil}
use Rattle.std.proofs.lemmas.List.Elements.{All-nil, All-cons, All-head, All-tail}
use Rattle.cell_core.specs.declared.man.Colour.{Colour}
use Rattle.cell_core.specs.declared.man.Colour.TheVariants.{White, Black}
use Rattle.cell_core.specs.declared.man.Kind.{Kind}
use Rattle.cell_core.specs.declared.man.Kind.TheVariants.{King, Queen, Rook, Bishop, Knight, Pawn}
use Rattle.cell_core.specs.declared.man.Man.{Man}
use Rattle.cell_core.specs.declared.step.Move.{Move}
use Rattle.cell_core.specs.Board.{Men, man_at, put}
use Rattle.cell_core.specs.Man.{is_man, man, other}
use Rattle.chess_laws.specs.Castling.{king_target, rook_home, rook_target, touches}
use Rattle.chess_laws.specs.Counts.{is_home, home_colour, home_square}
use Rattle.chess_laws.specs.Geometry.{file_of, rank_of, square}
use Rattle.chess_laws.specs.Position.{HasFitEnPassant, Sound, en_passant_rank}
use Rattle.chess_laws.specs.Step.{Case, GoesPlainly, PassingCase, Step, arriving, board_after, effect_of, moved, passed_square, pawn_rank}
use Rattle.chess_laws.specs.declared.effect.Effect.{Effect}
use Rattle.chess_laws.specs.declared.effect.Effect.TheVariants.{Plain, Double, Passing, Castle, Null}
use Rattle.chess_laws.specs.declared.setup.Setup.{Setup}
use Rattle.chess_laws.specs.declared.setup.Wing.{Wing}
use Rattle.chess_laws.specs.declared.setup.Wing.TheVariants.{KingSide, QueenSide}
use Rattle.chess_laws.proofs.Boards.{length-put, man-colour, man-kind, on_board, put-other, put-same}
use Rattle.chess_laws.proofs.Keeping.{arriving-lands, castle-squares, lands_as}
use Rattle.chess_laws.proofs.Kings.{is_man-Some}
use Rattle.sig_index.specs.Leaving.{AreHome, gone, stays, staying}
use Rattle.sig_index.proofs.HomeLemmas.{Ahead, captures-ahead, far_ahead, home_fits, plain-ahead}

-- ---- squares that other men come from and go to

inside : (d : Colour) (t : ℕ) → rank_of t ≡ pawn_rank d → (8 ≤ t) × (t < 56)
inside White t home = (omega (arith, home), omega (arith, home))
inside Black t home = (omega (arith, home), omega (arith, home))

rook_home_apart : (c : Colour) (w : Wing) (t : ℕ) → (8 ≤ t) × (t < 56) → t ≡ rook_home c w → ⊥
rook_home_apart White KingSide t h same = omega (arith, h.0, same)
rook_home_apart White QueenSide t h same = omega (arith, h.0, same)
rook_home_apart Black KingSide t h same = omega (arith, h.1, same)
rook_home_apart Black QueenSide t h same = omega (arith, h.1, same)

rook_target_apart : (c : Colour) (w : Wing) (t : ℕ) → (8 ≤ t) × (t < 56) → t ≡ rook_target c w → ⊥
rook_target_apart White KingSide t h same = omega (arith, h.0, same)
rook_target_apart White QueenSide t h same = omega (arith, h.0, same)
rook_target_apart Black KingSide t h same = omega (arith, h.1, same)
rook_target_apart Black QueenSide t h same = omega (arith, h.1, same)

-- A pawn that is captured en passant stands on the fourth or the fifth rank.
passed_between : (c : Colour) (from to : ℕ) → rank_of to ≡ en_passant_rank c → Ahead c from to → (24 ≤ square (file_of to) (rank_of from)) × (square (file_of to) (rank_of from) < 40)
passed_between White from to on ahead = (omega (arith, on, ahead), omega (arith, on, ahead))
passed_between Black from to on ahead = (omega (arith, on, ahead), omega (arith, on, ahead))

passed_apart : (d : Colour) (t s : ℕ) → rank_of t ≡ pawn_rank d → (24 ≤ s) × (s < 40) → t ≡ s → ⊥
passed_apart White t s home h same = omega (arith, home, h.0, same)
passed_apart Black t s home h same = omega (arith, home, h.1, same)

passed_is_apart : (p : Setup) (m : Move) (d : Colour) (t : ℕ) → Sound p → PassingCase p m → rank_of t ≡ pawn_rank d → t ≡ passed_square m → ⊥
passed_is_apart p m d t sound case home =
    passed_apart d t (passed_square m) home
    (passed_between p.side m.from m.to (subst (HasFitEnPassant p.side) case.target sound.en_passant) (captures-ahead p.side m.from m.to case.goes))

-- ---- what stands on a square after a move that does not touch it

moved_stays : (p : Setup) (m : Move) (t : ℕ) → t ≢ m.from → t ≢ m.to → man_at (moved p m) t ≡ man_at p.board t
moved_stays p m t from to = put-other (put p.board m.from None) m.to t (arriving p m m.promo) to ∙ put-other p.board m.from t None from

stays_by : (p : Setup) (m : Move) (t : ℕ) (d : Colour) (e : Effect) → Sound p → Case p m e → rank_of t ≡ pawn_rank d → t ≢ m.from → t ≢ m.to
    → man_at (board_after p m e) t ≡ man_at p.board t
stays_by p m t d Plain sound case home from to = moved_stays p m t from to
stays_by p m t d Double sound case home from to = moved_stays p m t from to
stays_by p m t d Passing sound case home from to =
    put-other (moved p m) (passed_square m) t None (passed_is_apart p m d t sound case home) ∙ moved_stays p m t from to
stays_by p m t d (Castle wing) sound case home from to =
    put-other (put (moved p m) (rook_home p.side wing) None) (rook_target p.side wing) t (Some (man p.side Rook)) (rook_target_apart p.side wing t (inside d t home))
    ∙ (put-other (moved p m) (rook_home p.side wing) t None (rook_home_apart p.side wing t (inside d t home)) ∙ moved_stays p m t from to)
stays_by p m t d Null sound case home from to = refl

-- Whether a pawn stands at home is the same after such a move.
pub stays_home : (p : Setup) (m : Move) (q : Setup) (v : ℕ) → Sound p → Step p m q → v < 16 → home_square v ≢ m.from → home_square v ≢ m.to
    → is_home q.board v ≡ is_home p.board v
stays_home p m q v sound step small from to =
    ap (λ (x : Option Man). is_man (home_colour v) Pawn x)
    (ap (λ (s : Setup). man_at s.board (home_square v)) step.becomes
    ∙ stays_by p m (home_square v) (home_colour v) (effect_of p m) sound step.allowed (home_fits v small).1 from to)

-- ---- what stands on a square that a move begins or ends at

not_itself : (c : Colour) (a : ℕ) → Ahead c a a → ⊥
not_itself White a h = omega (arith, h)
not_itself Black a h = omega (arith, h)

never : (x : Man) → None ≡ Some x → ⊥
never x h = cc

no_king : King ≡ Pawn → ⊥
no_king h = cc

other_apart : (c : Colour) → c ≡ other c → ⊥
other_apart White h = absurd (cc)
other_apart Black h = absurd (cc)

-- A man of one side is none of the other.
other_man : (c d : Colour) (k : Kind) → (d ≡ c → ⊥) → is_man d Pawn (Some (man c k)) ≡ false
other_man White White k apart = absurd (apart refl)
other_man White Black k apart = refl
other_man Black White k apart = refl
other_man Black Black k apart = absurd (apart refl)

king_target_apart : (c : Colour) (w : Wing) (t : ℕ) → (8 ≤ t) × (t < 56) → t ≡ king_target c w → ⊥
king_target_apart White KingSide t h same = omega (arith, h.0, same)
king_target_apart White QueenSide t h same = omega (arith, h.0, same)
king_target_apart Black KingSide t h same = omega (arith, h.1, same)
king_target_apart Black QueenSide t h same = omega (arith, h.1, same)

emptied : (men : Men) (s t : ℕ) → length men ≡ 64 → s < 64 → man_at men t ≡ None → man_at (put men s None) t ≡ None
emptied men s t long on none = elim (cases_eq t s) [
  | inl same ↦ ap (man_at (put men s None)) same ∙ put-same men s None long on
  | inr apart ↦ put-other men s t None apart ∙ none
]

-- A man that went to another square left its own one empty.
left_empty : (p : Setup) (m : Move) → length p.board ≡ 64 → m.from < 64 → m.from ≢ m.to → man_at (moved p m) m.from ≡ None
left_empty p m long on apart = put-other (put p.board m.from None) m.to m.from (arriving p m m.promo) apart ∙ put-same p.board m.from None long on

-- The square that a pawn leaves is empty.
from_by : (p : Setup) (m : Move) (d : Colour) (e : Effect) → Sound p → Case p m e → m.from < 64 → man_at p.board m.from ≡ Some (man d Pawn)
    → man_at (board_after p m e) m.from ≡ None
from_by p m d Plain sound case on stands =
    let pawn : case.kind ≡ Pawn = man-kind p.side d case.kind Pawn (sym case.stands ∙ stands) in
    let ahead = plain-ahead p m (subst (λ (k : Kind). GoesPlainly p k m) pawn case.goes) in
    left_empty p m sound.squares on (λ same. not_itself p.side m.from (subst (Ahead p.side m.from) (sym same) ahead))
from_by p m d Double sound case on stands =
    left_empty p m sound.squares on (λ same. far_ahead p.side p.board m.from m.to case.own_rank case.walks (ap rank_of (sym same) ∙ case.own_rank))
from_by p m d Passing sound case on stands =
    emptied (moved p m) (passed_square m) m.from (length-put (put p.board m.from None) m.to (arriving p m m.promo) (length-put p.board m.from None sound.squares))
    (on_board p.board (passed_square m) (man (other p.side) Pawn) sound.squares case.passed)
    (left_empty p m sound.squares on (λ same. not_itself p.side m.from (subst (Ahead p.side m.from) (sym same) (captures-ahead p.side m.from m.to case.goes))))
from_by p m d (Castle wing) sound case on stands = absurd (no_king (man-kind p.side d King Pawn (sym case.stands ∙ stands)))
from_by p m d Null sound case on stands = absurd (no_king (man-kind p.side d King Pawn (sym case.stands ∙ stands)))

-- No plain move goes to a pawn of its own side.
own_target : (p : Setup) (k : Kind) (m : Move) (d : Colour) → GoesPlainly p k m → man_at p.board m.to ≡ Some (man d Pawn) → d ≡ p.side → ⊥
own_target p Pawn m d (inl steps) stands same = never (man d Pawn) (sym steps.1 ∙ stands)
own_target p Pawn m d (inr takes) stands same =
    other_apart p.side (sym same ∙ man-colour (other p.side) d takes.1.0 Pawn (sym takes.1.1 ∙ stands))
own_target p King m d goes stands same = goes.1 Pawn (stands ∙ ap (λ (c : Colour). Some (man c Pawn)) same)
own_target p Queen m d goes stands same = goes.1 Pawn (stands ∙ ap (λ (c : Colour). Some (man c Pawn)) same)
own_target p Rook m d goes stands same = goes.1 Pawn (stands ∙ ap (λ (c : Colour). Some (man c Pawn)) same)
own_target p Bishop m d goes stands same = goes.1 Pawn (stands ∙ ap (λ (c : Colour). Some (man c Pawn)) same)
own_target p Knight m d goes stands same = goes.1 Pawn (stands ∙ ap (λ (c : Colour). Some (man c Pawn)) same)

-- A pawn to which a move goes is captured.
to_by : (p : Setup) (m : Move) (d : Colour) (e : Effect) → Sound p → effect_of p m ≡ e → Case p m e → m.to < 64 → rank_of m.to ≡ pawn_rank d
    → man_at p.board m.to ≡ Some (man d Pawn) → is_man d Pawn (man_at (board_after p m e) m.to) ≡ false
to_by p m d Plain sound is case on home stands =
    ap (λ (x : Option Man). is_man d Pawn x)
    (put-same (put p.board m.from None) m.to (arriving p m m.promo) (length-put p.board m.from None sound.squares) on ∙ arriving-lands p m case.kind m.promo case.stands)
    ∙ other_man p.side d (lands_as case.kind m.promo) (own_target p case.kind m d case.goes stands)
to_by p m d Double sound is case on home stands = absurd (never (man d Pawn) (sym case.target ∙ stands))
to_by p m d Passing sound is case on home stands = absurd (never (man d Pawn) (sym case.empty ∙ stands))
to_by p m d (Castle wing) sound is case on home stands =
    absurd (king_target_apart p.side wing m.to (inside d m.to home) (castle-squares p m wing case.stands is).to)
to_by p m d Null sound is case on home stands =
    absurd (no_king (man-kind p.side d King Pawn (sym case.stands ∙ ap (man_at p.board) (sym case.stays) ∙ stands)))

-- A pawn at home on a square that a move begins or ends at has left it then.
touched_at : (p : Setup) (m : Move) (t : ℕ) (d : Colour) (e : Effect) → Sound p → effect_of p m ≡ e → Case p m e → t < 64 → rank_of t ≡ pawn_rank d
    → man_at p.board t ≡ Some (man d Pawn) → (m.from ≡ t) ⊎ (m.to ≡ t) → is_man d Pawn (man_at (board_after p m e) t) ≡ false
touched_at p m t d e sound is case on home stands (inl from) =
    ap (λ (x : Option Man). is_man d Pawn x)
    (ap (man_at (board_after p m e)) (sym from)
    ∙ from_by p m d e sound case (subst (λ (s : ℕ). s < 64) (sym from) on) (ap (man_at p.board) from ∙ stands))
touched_at p m t d e sound is case on home stands (inr to) =
    ap (λ (s : ℕ). is_man d Pawn (man_at (board_after p m e) s)) (sym to)
    ∙ to_by p m d e sound is case (subst (λ (s : ℕ). s < 64) (sym to) on) (ap rank_of to ∙ home) (ap (man_at p.board) to ∙ stands)

pub touched : (m : Move) (t : ℕ) → touches m t ≡ true → (m.from ≡ t) ⊎ (m.to ≡ t)
touched m t h = elim (or_cases (eqb m.from t) (eqb m.to t) h) [
  | inl from ↦ inl (eqb-true m.from t from)
  | inr to ↦ inr (eqb-true m.to t to)
]

pub untouched : (m : Move) (t : ℕ) → touches m t ≡ false → (t ≢ m.from) × (t ≢ m.to)
untouched m t h =
    let parts = or_parts (eqb m.from t) (eqb m.to t) h in
    (λ same. true≢false (sym (eq-eqb m.from t (sym same)) ∙ parts.0), λ same. true≢false (sym (eq-eqb m.to t (sym same)) ∙ parts.1))

-- A pawn at home is there after a move just where the move does not touch its square.
home_by : (touch : Bool) (p : Setup) (m : Move) (q : Setup) (v : ℕ) → touches m (home_square v) ≡ touch → Sound p → Step p m q → v < 16
    → is_home p.board v ≡ true → not touch ≡ is_home q.board v
home_by true p m q v is sound step small home =
    let fits = home_fits v small in
    sym (ap (λ (s : Setup). is_home s.board v) step.becomes
    ∙ touched_at p m (home_square v) (home_colour v) (effect_of p m) sound refl step.allowed fits.0 fits.1
    (is_man-Some (home_colour v) Pawn (man_at p.board (home_square v)) home) (touched m (home_square v) is))
home_by false p m q v is sound step small home =
    let apart = untouched m (home_square v) is in
    sym (stays_home p m q v sound step small apart.0 apart.1 ∙ home)

stays_by_move : (p : Setup) (m : Move) (q : Setup) (v : ℕ) → Sound p → Step p m q → v < 16 → is_home p.board v ≡ true → stays m v ≡ is_home q.board v
stays_by_move p m q v sound step small home = home_by (touches m (home_square v)) p m q v refl sound step small home

-- ---- of pawns at home those stay that a move does not touch

filter_agree : (f g : ℕ → Bool) (xs : List ℕ) → All (λ v. f v ≡ g v) xs → filter f xs ≡ filter g xs
filter_agree f g [] all = refl
filter_agree f g (x ∷ xs) all =
    let here = All-head (λ v. f v ≡ g v) x xs all in
    let rest = filter_agree f g xs (All-tail (λ v. f v ≡ g v) x xs all) in
    λ i. cond (here i) (x ∷ rest i) (rest i)

all_agree : (p : Setup) (m : Move) (q : Setup) (homes : List ℕ) → Sound p → Step p m q → All (λ v. v < 16) homes → AreHome p homes
    → All (λ v. stays m v ≡ is_home q.board v) homes
all_agree p m q [] sound step small home = All-nil (λ v. stays m v ≡ is_home q.board v)
all_agree p m q (x ∷ xs) sound step small home =
    All-cons (λ v. stays m v ≡ is_home q.board v) x xs
    (stays_by_move p m q x sound step (All-head (λ v. v < 16) x xs small) (All-head (λ v. is_home p.board v ≡ true) x xs home))
    (all_agree p m q xs sound step (All-tail (λ v. v < 16) x xs small) (All-tail (λ v. is_home p.board v ≡ true) x xs home))

pub staying-is : (p : Setup) (m : Move) (q : Setup) (homes : List ℕ) → Sound p → Step p m q → All (λ v. v < 16) homes → AreHome p homes
    → staying m homes ≡ filter (λ v. is_home q.board v) homes
unfolding staying
staying-is p m q homes sound step small home = filter_agree (stays m) (λ v. is_home q.board v) homes (all_agree p m q homes sound step small home)

not_agree : (f g : ℕ → Bool) (xs : List ℕ) → All (λ v. f v ≡ g v) xs → All (λ v. not (f v) ≡ not (g v)) xs
not_agree f g [] all = All-nil (λ v. not (f v) ≡ not (g v))
not_agree f g (x ∷ xs) all =
    All-cons (λ v. not (f v) ≡ not (g v)) x xs (ap not (All-head (λ v. f v ≡ g v) x xs all)) (not_agree f g xs (All-tail (λ v. f v ≡ g v) x xs all))

pub gone-is : (p : Setup) (m : Move) (q : Setup) (homes : List ℕ) → Sound p → Step p m q → All (λ v. v < 16) homes → AreHome p homes
    → gone m homes ≡ filter (λ v. not (is_home q.board v)) homes
unfolding gone
gone-is p m q homes sound step small home =
    filter_agree (λ v. not (stays m v)) (λ v. not (is_home q.board v)) homes
    (not_agree (stays m) (λ v. is_home q.board v) homes (all_agree p m q homes sound step small home))

-- Those that stay are at home after the move.
kept_home : (f : ℕ → Bool) (t : Bool) (x : ℕ) (xs : List ℕ) → f x ≡ t → All (λ v. f v ≡ true) xs → All (λ v. f v ≡ true) (cond t (x ∷ xs) xs)
kept_home f true x xs here all = All-cons (λ v. f v ≡ true) x xs here all
kept_home f false x xs here all = all

pub filter-home : (f : ℕ → Bool) (xs : List ℕ) → All (λ v. f v ≡ true) (filter f xs)
filter-home f [] = All-nil (λ v. f v ≡ true)
filter-home f (x ∷ xs) = kept_home f (f x) x (filter f xs) refl (filter-home f xs)

-- Where a move touches none, all stay.
pub all_pass : (f : ℕ → Bool) (xs : List ℕ) → All (λ v. f v ≡ true) xs → filter f xs ≡ xs
all_pass f [] all = refl
all_pass f (x ∷ xs) all =
    ap (λ t. cond t (x ∷ filter f xs) (filter f xs)) (All-head (λ v. f v ≡ true) x xs all)
    ∙ ap (λ (rest : List ℕ). x ∷ rest) (all_pass f xs (All-tail (λ v. f v ≡ true) x xs all))

none_pass : (f : ℕ → Bool) (xs : List ℕ) → All (λ v. f v ≡ true) xs → filter (λ v. not (f v)) xs ≡ []
none_pass f [] all = refl
none_pass f (x ∷ xs) all =
    ap (λ t. cond (not t) (x ∷ filter (λ v. not (f v)) xs) (filter (λ v. not (f v)) xs)) (All-head (λ v. f v ≡ true) x xs all)
    ∙ none_pass f xs (All-tail (λ v. f v ≡ true) x xs all)

pub untouched-stay : (m : Move) (homes : List ℕ) → All (λ v. stays m v ≡ true) homes → homes ≡ staying m homes
unfolding staying
untouched-stay m homes all = sym (all_pass (stays m) homes all)

pub untouched-gone : (m : Move) (homes left : List ℕ) → All (λ v. stays m v ≡ true) homes → left ≡ left ++ gone m homes
unfolding gone
untouched-gone m homes left all = sym (ap (λ (rest : List ℕ). left ++ rest) (none_pass (stays m) homes all) ∙ append-nil left)
