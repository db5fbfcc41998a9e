-- The text of a legal move is one token, and is read as the move.
use Rattle.std.proofs.Common.{not, ◌≡◌, ◌<◌, ◌+◌, ◌/◌, ◌%◌, ◌==◌, ◌&&◌, nat_le, ℕ, Bool, true, false, cond, List, [], ◌∷◌, ◌++◌, codes, Option, Some, None, Ok, refl, sym, ap, ◌∙◌, subst, arith}
use Rattle.std.proofs.lemmas.Bool.{and_from, and_right}
use Rattle.std.proofs.lemmas.List.Folds.{list_all-append}
use Rattle.std.specs.List.{list_all}
use Rattle.std.specs.Char.{is_ascii_digit}
use Rattle.cell_core.specs.declared.man.Kind.{Kind}
use Rattle.cell_core.specs.declared.man.Kind.TheVariants.{King, Queen, Rook, Bishop, Knight, Pawn}
use Rattle.cell_core.specs.declared.step.Move.{Move}
use Rattle.cell_core.specs.Board.{man_at}
use Rattle.cell_core.specs.Man.{man}
use Rattle.chess_laws.specs.declared.setup.Setup.{Setup}
use Rattle.chess_laws.specs.declared.setup.Wing.{Wing}
use Rattle.chess_laws.specs.declared.setup.Wing.TheVariants.{KingSide, QueenSide}
use Rattle.chess_laws.specs.declared.effect.Effect.{Effect}
use Rattle.chess_laws.specs.declared.effect.Effect.TheVariants as effect
use Rattle.chess_laws.specs.Geometry.{file_of, rank_of}
use Rattle.chess_laws.specs.LegalNow.{some_below, in_check_now}
use Rattle.chess_laws.specs.Position.{Sound}
use Rattle.chess_laws.specs.Step.{Legal, Case, effect_of, after, is_capture, stepped}
use Rattle.chess_laws.proofs.Boards.{on_board}
use Rattle.chess_laws.proofs.Following.{case-on_board}
use Rattle.chess_laws.proofs.MovedKings.{legal-allowed, Sound-after}
use Rattle.chess_text.specs.Squares.{file_text, rank_text, square_text}
use Rattle.chess_text.specs.SanShape.{castling_text}
use Rattle.chess_text.specs.San.{capture_text, promotion_text, pawn_text}
use Rattle.chess_text.specs.SanText.{is_rival_now, origin_now, kind_now, going_now, has_move_now, sign_now, san_now, san_text}
use Rattle.chess_text.specs.SanReads.{SanReads}
use Rattle.chess_text.proofs.SearchLaws.{one-move, no-move}
use Rattle.chess_text.proofs.TextLaws.{computed}
use Rattle.chess_text.proofs.WrittenSan.{san-reads}
use Rattle.pgn_read.specs.Bytes.{is_move_byte}
use Rattle.chess_text.specs.SanAnswer.{san_answer}
use Rattle.chess_text.proofs.AnswerLaws.{san_is}
use Rattle.pgn_laws.proofs.RunLaws.{small_letter, digit_byte, digit_moving}
use Rattle.pgn_laws.proofs.TokenLaws.{IsSanText}

-- ---- it is read as the move

pub san_again : (p : Setup) (m : Move) → Sound p → Legal p m → san_answer p (san_text p m) ≡ Ok m
san_again p m sound legal =
    let reads : SanReads p (san_text p m) m = san-reads p m (san_text p m) sound legal (computed p m sound legal) in
    sym (san_is p (san_text p m) (Ok m) sound
    (λ n other. ap Ok (one-move p (san_text p m) m n reads other))
    (λ fault broken. absurd (no-move p (san_text p m) m fault reads broken)))

-- ---- its bytes

moves_then : (a b : List ℕ) → list_all is_move_byte a ≡ true → list_all is_move_byte b ≡ true → list_all is_move_byte (a ++ b) ≡ true
moves_then a b p q = list_all-append is_move_byte a b ∙ and_from _ _ p q

moves_if : (c : Bool) (a b : List ℕ) → list_all is_move_byte a ≡ true → list_all is_move_byte b ≡ true → list_all is_move_byte (cond c a b) ≡ true
moves_if true a b p q = p
moves_if false a b p q = q

file_moves : (s : ℕ) → is_move_byte (97 + file_of s) ≡ true
file_moves s =
    let small : s % 8 < 8 = omega arith in
    small_letter (97 + s % 8) (omega arith) (omega (arith, small))

rank_moves : (s : ℕ) → s < 64 → is_move_byte (49 + rank_of s) ≡ true
rank_moves s board =
    let small : s / 8 < 8 = omega (arith, board) in
    digit_moving (49 + s / 8) (digit_byte (49 + s / 8) (omega arith) (omega (arith, small)))

file_text_moves : (s : ℕ) → list_all is_move_byte (file_text (file_of s)) ≡ true
file_text_moves s = and_from _ _ (file_moves s) refl

rank_text_moves : (s : ℕ) → s < 64 → list_all is_move_byte (rank_text (rank_of s)) ≡ true
rank_text_moves s board = and_from _ _ (rank_moves s board) refl

square_moves : (s : ℕ) → s < 64 → list_all is_move_byte (square_text s) ≡ true
square_moves s board = and_from _ _ (file_moves s) (rank_text_moves s board)

origin_moves : (p : Setup) (k : Kind) (m : Move) → m.from < 64 → list_all is_move_byte (origin_now p k m) ≡ true
unfolding origin_now
origin_moves p k m board =
    moves_if (not (some_below (is_rival_now p k m) 64)) [] _ refl
    (moves_if (not (some_below (λ s. is_rival_now p k m s && (file_of s == file_of m.from)) 64)) _ _ (file_text_moves m.from)
    (moves_if (not (some_below (λ s. is_rival_now p k m s && (rank_of s == rank_of m.from)) 64)) _ _ (rank_text_moves m.from board) (square_moves m.from board)))

capture_moves : (p : Setup) (m : Move) → list_all is_move_byte (capture_text p m) ≡ true
capture_moves p m = moves_if (is_capture p m) (codes "x") [] refl refl

sign_moves : (q : Setup) → list_all is_move_byte (sign_now q) ≡ true
sign_moves q = moves_if (in_check_now q.board q.side) _ [] (moves_if (has_move_now q) (codes "+") (codes "#") refl refl) refl

piece_rest : (p : Setup) (k : Kind) (m : Move) → m.from < 64 → m.to < 64 → list_all is_move_byte (origin_now p k m ++ (capture_text p m ++ square_text m.to)) ≡ true
piece_rest p k m from to = moves_then (origin_now p k m) _ (origin_moves p k m from) (moves_then (capture_text p m) (square_text m.to) (capture_moves p m) (square_moves m.to to))

-- A first byte that is no digit, and the others.
begun_by : (b : ℕ) (more : List ℕ) → is_move_byte b ≡ true → is_ascii_digit b ≡ false → list_all is_move_byte more ≡ true → IsSanText (b ∷ more)
begun_by b more moves plain all = record { first = b; more = more; is = refl; moves = moves; no_digit = plain; all = all }

signed : (text sign : List ℕ) → IsSanText text → list_all is_move_byte sign ≡ true → IsSanText (text ++ sign)
signed text sign san all = record {
  first = san.first;
  more = san.more ++ sign;
  is = ap (λ l. l ++ sign) san.is;
  moves = san.moves;
  no_digit = san.no_digit;
  all = moves_then san.more sign san.all all;
}

promotion_moves : (promo : Option Kind) → list_all is_move_byte (promotion_text promo) ≡ true
promotion_moves None = refl
promotion_moves (Some King) = refl
promotion_moves (Some Queen) = refl
promotion_moves (Some Rook) = refl
promotion_moves (Some Bishop) = refl
promotion_moves (Some Knight) = refl
promotion_moves (Some Pawn) = refl

file_no_digit : (s : ℕ) → is_ascii_digit (97 + file_of s) ≡ false
file_no_digit s =
    let above : nat_le (97 + s % 8) 57 ≡ false = search arith in
    rw above (and_right (nat_le 48 (97 + s % 8)) false refl)

file_begins : (s : ℕ) (more : List ℕ) → list_all is_move_byte more ≡ true → IsSanText (file_text (file_of s) ++ more)
file_begins s more all = begun_by (97 + file_of s) more (file_moves s) (file_no_digit s) all

pawn_begins : (c : Bool) (from to : ℕ) (promo : Option Kind) → to < 64
    → IsSanText (cond c (file_text (file_of from) ++ codes "x") [] ++ (square_text to ++ promotion_text promo))
pawn_begins true from to promo board =
    file_begins from (codes "x" ++ (square_text to ++ promotion_text promo))
    (and_from _ _ refl (moves_then (square_text to) (promotion_text promo) (square_moves to board) (promotion_moves promo)))
pawn_begins false from to promo board =
    file_begins to (rank_text (rank_of to) ++ promotion_text promo)
    (moves_then (rank_text (rank_of to)) (promotion_text promo) (rank_text_moves to board) (promotion_moves promo))

kind_bytes : (p : Setup) (k : Kind) (m : Move) → m.from < 64 → m.to < 64 → IsSanText (kind_now p k m)
unfolding pawn_text
kind_bytes p King m from to = begun_by 75 _ refl refl (piece_rest p King m from to)
kind_bytes p Queen m from to = begun_by 81 _ refl refl (piece_rest p Queen m from to)
kind_bytes p Rook m from to = begun_by 82 _ refl refl (piece_rest p Rook m from to)
kind_bytes p Bishop m from to = begun_by 66 _ refl refl (piece_rest p Bishop m from to)
kind_bytes p Knight m from to = begun_by 78 _ refl refl (piece_rest p Knight m from to)
kind_bytes p Pawn m from to = pawn_begins (is_capture p m) m.from m.to m.promo to

going_bytes : (p : Setup) (m : Move) (k : Kind) (q : Setup) → Sound p → m.to < 64 → man_at p.board m.from ≡ Some (man p.side k)
    → IsSanText (going_now (man_at p.board m.from) p m ++ sign_now q)
going_bytes p m k q sound to stands =
    let from : m.from < 64 = on_board p.board m.from (man p.side k) sound.squares stands in
    subst (λ standing. IsSanText (going_now standing p m ++ sign_now q)) (sym stands)
    (signed (kind_now p k m) (sign_now q) (kind_bytes p k m from to) (sign_moves q))

castle_begins : (wing : Wing) → IsSanText (castling_text wing)
castle_begins KingSide = begun_by 79 _ refl refl refl
castle_begins QueenSide = begun_by 79 _ refl refl refl

by_effect_bytes : (p : Setup) (m : Move) (e : Effect) → Sound p → m.to < 64 → Case p m e → IsSanText (san_now e p m)
by_effect_bytes p m effect.Plain sound to case = going_bytes p m case.kind (after p m effect.Plain) sound to case.stands
by_effect_bytes p m effect.Double sound to case = going_bytes p m Pawn (after p m effect.Double) sound to case.stands
by_effect_bytes p m effect.Passing sound to case = going_bytes p m Pawn (after p m effect.Passing) sound to case.stands
by_effect_bytes p m (effect.Castle wing) sound to case = signed (castling_text wing) (sign_now (after p m (effect.Castle wing))) (castle_begins wing) (sign_moves _)
by_effect_bytes p m effect.Null sound to case = begun_by 45 _ refl refl refl

pub san_bytes : (p : Setup) (m : Move) → Sound p → Legal p m → IsSanText (san_text p m)
unfolding san_text
san_bytes p m sound legal =
    let case : Case p m (effect_of p m) = legal-allowed p m legal in
    by_effect_bytes p m (effect_of p m) sound (case-on_board p m (effect_of p m) sound refl case) case

-- ---- the position behind it

pub stepped_sound : (p : Setup) (m : Move) → Sound p → Legal p m → Sound (stepped p m)
unfolding stepped
stepped_sound p m sound legal = Sound-after p m sound legal
