-- The written form of a FEN is in the grammar, and reads as the position that was written.
use Rattle.std.proofs.Common.{◌≡◌, ◌≢◌, ℕ, zero, suc, ◌+◌, ◌-◌, ◌*◌, ◌<◌, ◌≤◌, inl, inr, Bool, true, false, ◌&&◌, List, [], ◌∷◌, ◌++◌, Option, Some, None, length, take, drop, replicate, refl, sym, ◌∙◌, ap, subst, arith, append_assoc, lit<, lit≤, IsTrue, length-append}
use Rattle.std.specs.List.{AllByRecursion}
use Rattle.std.proofs.lemmas.List.{append-nil, take_all, length-take, length-drop}
use Rattle.std.proofs.Math.Seq.{take-add}
use Rattle.std.proofs.lemmas.List.Elements.{All-from_recursion}
use Rattle.cell_core.specs.declared.man.Colour.{Colour}
use Rattle.cell_core.specs.declared.man.Colour.TheVariants.{White, Black}
use Rattle.cell_core.specs.declared.man.Man.{Man}
use Rattle.cell_core.specs.Board.{Men}
use Rattle.cell_core.specs.Man.{man}
use Rattle.cell_core.specs.Text.{IsZeroFree}
use Rattle.chess_laws.specs.declared.setup.Rights.{Rights}
use Rattle.chess_laws.specs.declared.setup.Setup.{Setup}
use Rattle.chess_laws.specs.declared.setup.Wing.{Wing}
use Rattle.chess_laws.specs.declared.setup.Wing.TheVariants.{KingSide, QueenSide}
use Rattle.chess_laws.specs.Castling.{StandAtHome}
use Rattle.chess_laws.specs.Position.{Sound, HasFitRights, HasFitEnPassant, has_bit, bits_of, is_at_home, rights_of}
use Rattle.chess_text.specs.Letters.{letter_of}
use Rattle.chess_text.specs.Placement.{Stands, RankText, RanksText, PlacementText}
use Rattle.chess_text.specs.Fields.{or_word, IsWord, Spaced, side_text, RightsText, EnPassantText}
use Rattle.chess_text.specs.Fen.{FenText, FenReads, kept}
use Rattle.chess_text.specs.Written.{run_text, row_text, ranks_text, placement_text, letter_where, rights_text, en_passant_text, fen_text}
use Rattle.chess_text.proofs.PlacementLaws.{letter_above}
use Rattle.chess_text.proofs.FieldLaws.{same_rights}
use Rattle.chess_text.proofs.WordLaws.{spaced_space}

-- ---- writing the ranks

-- one rank and the slash behind it
pub writes_rank : (out row new old : List ℕ) (k : ℕ) (board squares cells : Men) → squares ≡ cells → cells ≡ board → k < 7
    → row ≡ out ++ row_text 0 (take (8 * (7 - k) + 8 - 8 * (7 - k)) (drop (8 * (7 - k)) squares)) → new ≡ row ++ 47 ∷ []
    → out ++ ranks_text (7 - k) board ≡ old → new ++ ranks_text (7 - (k + 1)) board ≡ old
unfolding ranks_text
writes_rank out row new old k board squares cells same same' below is_row is_new is =
    let n = 7 - (k + 1) in
    let up : 7 - k ≡ suc n = omega arith in
    let eight : 8 * (7 - k) + 8 - 8 * (7 - k) ≡ 8 = omega arith in
    let is_row' : row ≡ out ++ row_text 0 (take 8 (drop (8 * suc n) board)) = rw (eight, up, same, same') at is_row in
    let is' : out ++ (row_text 0 (take 8 (drop (8 * suc n) board)) ++ 47 ∷ ranks_text n board) ≡ old = rw up at is in
    rw (is_new, is_row') (append_assoc _ (47 ∷ []) (ranks_text n board)
    ∙ append_assoc out _ (47 ∷ ranks_text n board) ∙ is')

-- ---- the placement

-- a run of empty squares before a row
run_reads : (n : ℕ) (text : List ℕ) (squares : Men) → n ≤ 8 → RankText text squares
    → RankText (run_text n ++ text) (replicate n None ++ squares)
run_reads zero text squares few reads = reads
run_reads (suc n) text squares few reads =
    (replicate (suc n) None, squares, refl, inr (suc n, omega arith, few, refl, refl), reads)

row_reads : (n : ℕ) (squares : Men) → n + length squares ≤ 8 → RankText (row_text n squares) (replicate n None ++ squares)
row_reads n [] few =
    subst (λ (text : List ℕ). RankText text (replicate n None ++ [])) (append-nil (run_text n))
    (run_reads n [] [] (omega arith) refl)
row_reads n (None ∷ squares) few =
    subst (λ (all : Men). RankText (row_text (suc n) squares) all)
    (ap (λ (empty : Men). empty ++ squares) (sym (next_empty n)) ∙ append_assoc (replicate n None) (None ∷ []) squares)
    (row_reads (suc n) squares (omega arith))
  where
    next_empty : (n : ℕ) → replicate n None ++ None ∷ [] ≡ replicate {A = Option Man} (suc n) None
    next_empty zero = refl
    next_empty (suc n) = ap (λ (empty : Men). None ∷ empty) (next_empty n)
row_reads n (Some man ∷ squares) few =
    run_reads n (letter_of man ∷ row_text 0 squares) (Some man ∷ squares) (omega arith)
    (Some man ∷ [], squares, refl, inl (man, refl, refl), row_reads 0 squares (omega arith))

-- the ranks from rank n + 1 down
ranks_read : (n : ℕ) (board : Men) → 8 * n + 8 ≤ length board → RanksText n (ranks_text n board) (take (8 * n + 8) board)
unfolding RanksText ranks_text
ranks_read zero board room =
    let len : length (take 8 board) ≡ 8 = simp length-take (omega arith) in
    (row_reads 0 (take 8 board) (omega arith), len)
ranks_read (suc n) board room =
    let rank = take 8 (drop (8 * suc n) board) in
    let len : length rank ≡ 8 = simp (length-take, length-drop) (omega arith) in
    let next : 8 * suc n ≡ 8 * n + 8 = omega arith in (
      row_text 0 rank,
      ranks_text n board,
      rank,
      take (8 * n + 8) board,
      refl,
      take-add (8 * suc n) 8 board ∙ ap (λ (k : ℕ). take k board ++ rank) next,
      row_reads 0 rank (omega arith),
      len,
      ranks_read n board (omega arith),
    )

placement_reads : (board : Men) → length board ≡ 64 → PlacementText (placement_text board) board
unfolding PlacementText
placement_reads board squares =
    subst (λ (all : Men). RanksText 7 (ranks_text 7 board) all) (take_all 64 board (omega arith))
    (ranks_read 7 board (omega arith))

-- ---- words

-- each byte is above a space
Shown : List ℕ → Type 0
Shown text = AllByRecursion (λ byte. 32 < byte) text

all_append : (P : ℕ → Type 0) (s t : List ℕ) → AllByRecursion P s → AllByRecursion P t → AllByRecursion P (s ++ t)
all_append P [] t p q = q
all_append P (byte ∷ s) t p q = (p.0, all_append P s t p.1 q)

shown_append : (s t : List ℕ) → Shown s → Shown t → Shown (s ++ t)
unfolding Shown
shown_append s t p q = all_append (λ byte. 32 < byte) s t p q

shown_stands : (byte : ℕ) (squares : Men) → Stands byte squares → 32 < byte
shown_stands byte squares (inl (man, letter, one)) = let above = letter_above man in omega arith
shown_stands byte squares (inr (n, low, high, digit, empty)) = omega arith

shown_rank : (text : List ℕ) (squares : Men) → RankText text squares → Shown text
unfolding Shown
shown_rank [] squares reads = tt
shown_rank (byte ∷ text) squares (first, rest, parts, stands, reads) =
    (shown_stands byte first stands, shown_rank text rest reads)

shown_ranks : (n : ℕ) (text : List ℕ) (squares : Men) → RanksText n text squares → Shown text
unfolding RanksText Shown
shown_ranks zero text squares (reads, full) = shown_rank text squares reads
shown_ranks (suc n) text squares (top, below, rank, lower, parts, ranks, reads, full, left) =
    rw parts (shown_append top (47 ∷ below) (shown_rank top rank reads) (lit< tt, shown_ranks n below lower left))

shown_placement : (board : Men) → length board ≡ 64 → Shown (placement_text board)
unfolding PlacementText
shown_placement board squares = shown_ranks 7 (placement_text board) board (placement_reads board squares)

shown_side : (side : Colour) → Shown (side_text side)
unfolding Shown
shown_side White = (lit< tt, tt)
shown_side Black = (lit< tt, tt)

shown_where : (right : Bool) (letter : ℕ) → 32 < letter → Shown (letter_where right letter)
unfolding Shown
shown_where true letter above = (above, tt)
shown_where false letter above = tt

shown_dash : (text : List ℕ) → Shown text → Shown (or_word text (45 ∷ []))
unfolding Shown
shown_dash [] shown = (lit< tt, tt)
shown_dash (byte ∷ text) shown = shown

shown_rights : (r : Rights) → Shown (rights_text r)
unfolding rights_text
shown_rights r =
    shown_dash _ (shown_append _ _ (shown_where r.white_king_side 75 (lit< tt))
    (shown_append _ _ (shown_where r.white_queen_side 81 (lit< tt))
    (shown_append _ _ (shown_where r.black_king_side 107 (lit< tt)) (shown_where r.black_queen_side 113 (lit< tt)))))

shown_en_passant : (square : Option ℕ) → Shown (en_passant_text square)
unfolding Shown
shown_en_passant None = (lit< tt, tt)
shown_en_passant (Some s) = (omega arith, (omega arith, tt))

-- such a text has no space and no zero
no_space : (text : List ℕ) → Shown text → AllByRecursion (λ byte. byte ≢ 32) text
unfolding Shown
no_space [] shown = tt
no_space (byte ∷ text) shown = ((λ e. omega (arith, e, shown.0)), no_space text shown.1)

NoZero : List ℕ → Type 0
NoZero text = AllByRecursion (λ byte. byte ≢ 0) text

no_zero : (text : List ℕ) → Shown text → NoZero text
unfolding Shown NoZero
no_zero [] shown = tt
no_zero (byte ∷ text) shown = ((λ e. omega (arith, e, shown.0)), no_zero text shown.1)

long : (s t : List ℕ) (byte : ℕ) → 0 < length (s ++ byte ∷ t)
long s t byte = simp length-append (omega arith)

placement_word : (board : Men) → length board ≡ 64 → IsWord (placement_text board)
unfolding ranks_text
placement_word board squares =
    (long (row_text 0 (take 8 (drop 56 board))) (ranks_text 6 board) 47, no_space _ (shown_placement board squares))

side_word : (side : Colour) → IsWord (side_text side)
side_word White = (lit< tt, no_space _ (shown_side White))
side_word Black = (lit< tt, no_space _ (shown_side Black))

dash_long : (text : List ℕ) → 0 < length (or_word text (45 ∷ []))
dash_long [] = lit< tt
dash_long (byte ∷ text) = omega arith

rights_word : (r : Rights) → IsWord (rights_text r)
rights_word r = ((unfold rights_text in dash_long _), no_space _ (shown_rights r))

en_passant_word : (square : Option ℕ) → IsWord (en_passant_text square)
en_passant_word None = (lit< tt, no_space _ (shown_en_passant None))
en_passant_word (Some s) = (lit< tt, no_space _ (shown_en_passant (Some s)))

spaced_word : (word : List ℕ) (words : List (List ℕ)) (text : List ℕ) → IsWord word → Spaced words text
    → Spaced (word ∷ words) (word ++ 32 ∷ text)
spaced_word word words text is_word spaced = (0, 32 ∷ text, refl, is_word, refl, spaced_space words text spaced)

-- ---- the castling rights

rights_read : (a b c d : Bool)
    → let r : Rights = record { white_king_side = a; white_queen_side = b; black_king_side = c; black_queen_side = d } in
    RightsText (rights_text r) r
unfolding rights_text
rights_read true true true true =
    inr (record { some = lit< tt; white_king_side = refl; white_queen_side = refl; black_king_side = refl; black_queen_side = refl; no_other = refl })
rights_read true true true false =
    inr (record { some = lit< tt; white_king_side = refl; white_queen_side = refl; black_king_side = refl; black_queen_side = refl; no_other = refl })
rights_read true true false true =
    inr (record { some = lit< tt; white_king_side = refl; white_queen_side = refl; black_king_side = refl; black_queen_side = refl; no_other = refl })
rights_read true true false false =
    inr (record { some = lit< tt; white_king_side = refl; white_queen_side = refl; black_king_side = refl; black_queen_side = refl; no_other = refl })
rights_read true false true true =
    inr (record { some = lit< tt; white_king_side = refl; white_queen_side = refl; black_king_side = refl; black_queen_side = refl; no_other = refl })
rights_read true false true false =
    inr (record { some = lit< tt; white_king_side = refl; white_queen_side = refl; black_king_side = refl; black_queen_side = refl; no_other = refl })
rights_read true false false true =
    inr (record { some = lit< tt; white_king_side = refl; white_queen_side = refl; black_king_side = refl; black_queen_side = refl; no_other = refl })
rights_read true false false false =
    inr (record { some = lit< tt; white_king_side = refl; white_queen_side = refl; black_king_side = refl; black_queen_side = refl; no_other = refl })
rights_read false true true true =
    inr (record { some = lit< tt; white_king_side = refl; white_queen_side = refl; black_king_side = refl; black_queen_side = refl; no_other = refl })
rights_read false true true false =
    inr (record { some = lit< tt; white_king_side = refl; white_queen_side = refl; black_king_side = refl; black_queen_side = refl; no_other = refl })
rights_read false true false true =
    inr (record { some = lit< tt; white_king_side = refl; white_queen_side = refl; black_king_side = refl; black_queen_side = refl; no_other = refl })
rights_read false true false false =
    inr (record { some = lit< tt; white_king_side = refl; white_queen_side = refl; black_king_side = refl; black_queen_side = refl; no_other = refl })
rights_read false false true true =
    inr (record { some = lit< tt; white_king_side = refl; white_queen_side = refl; black_king_side = refl; black_queen_side = refl; no_other = refl })
rights_read false false true false =
    inr (record { some = lit< tt; white_king_side = refl; white_queen_side = refl; black_king_side = refl; black_queen_side = refl; no_other = refl })
rights_read false false false true =
    inr (record { some = lit< tt; white_king_side = refl; white_queen_side = refl; black_king_side = refl; black_queen_side = refl; no_other = refl })
rights_read false false false false = inl (refl, refl)

-- ---- rights from their bits

-- the bits of rights give each right back
bits_back : (a b c d : Bool)
    → let bits : ℕ = bits_of (record { white_king_side = a; white_queen_side = b; black_king_side = c; black_queen_side = d }) in
    (has_bit bits 0 ≡ a) × (has_bit bits 1 ≡ b) × (has_bit bits 2 ≡ c) × (has_bit bits 3 ≡ d)
bits_back true true true true = (refl, refl, refl, refl)
bits_back true true true false = (refl, refl, refl, refl)
bits_back true true false true = (refl, refl, refl, refl)
bits_back true true false false = (refl, refl, refl, refl)
bits_back true false true true = (refl, refl, refl, refl)
bits_back true false true false = (refl, refl, refl, refl)
bits_back true false false true = (refl, refl, refl, refl)
bits_back true false false false = (refl, refl, refl, refl)
bits_back false true true true = (refl, refl, refl, refl)
bits_back false true true false = (refl, refl, refl, refl)
bits_back false true false true = (refl, refl, refl, refl)
bits_back false true false false = (refl, refl, refl, refl)
bits_back false false true true = (refl, refl, refl, refl)
bits_back false false true false = (refl, refl, refl, refl)
bits_back false false false true = (refl, refl, refl, refl)
bits_back false false false false = (refl, refl, refl, refl)

-- what stands at home is at home
at_home : (men : Men) (colour : Colour) (wing : Wing) → StandAtHome men colour wing → is_at_home men colour wing ≡ true
at_home men White wing home = rw (home.king, home.rook) refl
at_home men Black wing home = rw (home.king, home.rook) refl

-- a right that only stands with king and rook at home is not dropped
right_kept : (bit right : Bool) (home : Bool) → bit ≡ right → (IsTrue right → home ≡ true) → (bit && home) ≡ right
right_kept bit true home e stands = rw (e, stands refl) refl
right_kept bit false home e stands = rw e refl

rights_kept : (p : Setup) → HasFitRights p → rights_of p.board (bits_of p.rights) ≡ p.rights
rights_kept p fit =
    let r = p.rights in
    let back = bits_back r.white_king_side r.white_queen_side r.black_king_side r.black_queen_side in
    same_rights (rights_of p.board (bits_of r)) r
    (right_kept _ _ _ back.0 (λ h. at_home p.board White KingSide (fit White KingSide h)))
    (right_kept _ _ _ back.1 (λ h. at_home p.board White QueenSide (fit White QueenSide h)))
    (right_kept _ _ _ back.2 (λ h. at_home p.board Black KingSide (fit Black KingSide h)))
    (right_kept _ _ _ back.3 (λ h. at_home p.board Black QueenSide (fit Black QueenSide h)))

setup_kept : (p : Setup) → Sound p → p ≡ kept p
setup_kept p sound = ap (λ (r : Rights). record p { rights = r }) (sym (rights_kept p sound.rights))

-- ---- the whole text

en_passant_reads : (side : Colour) (square : Option ℕ) → HasFitEnPassant side square
    → EnPassantText side (en_passant_text square) square
en_passant_reads side None fit = refl
en_passant_reads side (Some s) fit = (fit, refl)

text_says : (p : Setup) → Sound p → FenText (fen_text p) p
unfolding fen_text
text_says p sound =
    let r = p.rights in
    let counters : List (List ℕ) = (48 ∷ []) ∷ (49 ∷ []) ∷ [] in
    let counters_text : List ℕ = 48 ∷ 32 ∷ 49 ∷ [] in
    let square = en_passant_text p.en_passant in
    let rights = rights_text r in
    record {
      words = placement_text p.board ∷ side_text p.side ∷ rights ∷ square ∷ counters;
      spaced = spaced_word (placement_text p.board) (side_text p.side ∷ rights ∷ square ∷ counters)
          (side_text p.side ++ 32 ∷ (rights ++ 32 ∷ (square ++ 32 ∷ counters_text))) (placement_word p.board sound.squares)
          (spaced_word (side_text p.side) (rights ∷ square ∷ counters)
          (rights ++ 32 ∷ (square ++ 32 ∷ counters_text)) (side_word p.side)
          (spaced_word rights (square ∷ counters) (square ++ 32 ∷ counters_text) (rights_word r)
          (spaced_word square counters counters_text (en_passant_word p.en_passant)
          (spaced_word (48 ∷ []) ((49 ∷ []) ∷ []) (49 ∷ []) (lit< tt, (λ e. omega (arith, e), tt))
          (0, [], refl, (lit< tt, (λ e. omega (arith, e), tt)), tt, (0, refl))))));
      placement = placement_reads p.board sound.squares;
      side = refl;
      rights = rights_read r.white_king_side r.white_queen_side r.black_king_side r.black_queen_side;
      en_passant = en_passant_reads p.side p.en_passant sound.en_passant;
      half_moves = (lit< tt, ((lit≤ tt, lit≤ tt), tt));
      moves = (lit< tt, ((lit≤ tt, lit≤ tt), tt));
      no_seventh = lit≤ tt;
    }

-- what is written is read again
pub written_reads : (p : Setup) → Sound p → FenReads (fen_text p) p
written_reads p sound = record { says = p; fields = text_says p sound; position = setup_kept p sound; sound = sound }

zero_free_word : (word text : List ℕ) → Shown word → NoZero text → NoZero (word ++ 32 ∷ text)
unfolding NoZero
zero_free_word word text shown free =
    all_append (λ byte. byte ≢ 0) word (32 ∷ text) (no_zero word shown) ((λ e. omega (arith, e)), free)

-- no byte of what is written is zero
pub written_zero_free : (p : Setup) → Sound p → IsZeroFree (fen_text p)
unfolding fen_text
written_zero_free p sound =
    All-from_recursion (λ byte. byte ≢ 0) (fen_text p)
    (unfold NoZero in
    zero_free_word (placement_text p.board) _ (shown_placement p.board sound.squares)
    (zero_free_word (side_text p.side) _ (shown_side p.side)
    (zero_free_word (rights_text p.rights) _ (shown_rights p.rights)
    (zero_free_word (en_passant_text p.en_passant) _ (shown_en_passant p.en_passant)
    ((λ e. omega (arith, e)), ((λ e. omega (arith, e)), ((λ e. omega (arith, e)), tt)))))))
