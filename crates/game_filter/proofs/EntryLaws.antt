-- Entries that are kept as plies beside words of bits, by number of the game.
use Rattle.std.proofs.Common.{◌≡◌, ◌≢◌, ℕ, ◌+◌, ◌-◌, ◌*◌, ◌<◌, ◌≤◌, ◌/◌, ◌%◌, ◌^◌, ◌==◌, ◌&&◌, min, zero, suc, List, [], ◌∷◌, ◌++◌, Option, Some, None, Bool, true, false, length, get_or, set, take, map, replicate, slice_get, is_some, refl, sym, ap, ◌∙◌, arith, inl, inr}
use Rattle.std.specs.Int.{bit_at}
use Rattle.std.specs.Int.Bits.{bit_and, bit_xor}
use Rattle.std.specs.Option.{unwrap_or}
use Rattle.std.proofs.lemmas.Bool.{cases_eq}
use Rattle.std.proofs.lemmas.Option.{get_or_from_slice_get}
use Rattle.std.proofs.lemmas.Grind.{get_or_default_zero}
use Rattle.std.proofs.lemmas.List.{get_or-set_same, get_or-set_other, get_or-take, get_or-replicate, get_or-map, get_or_append_left, length-take, length-set, take_all, take_more_set}
use Rattle.std.proofs.Math.Seq.{take-append_seam}
use Rattle.std.proofs.lemmas.Nat.Bits.{bit_at-zero, bit_at_and, bit_at_ones, bit_at_xor, bit_at-lt}
use Rattle.game_filter.specs.Entries.{has_bit, entry, entries_from, entries_of, words_for}
use Rattle.game_filter.specs.Filter.{all_in, all_out, in_both, intersection, negated, turned}

pub length-entries : (at : ℕ) (words plies : List ℕ) → length (entries_from at words plies) ≡ length plies
length-entries at words [] = refl
length-entries at words (ply ∷ plies) = ap suc (length-entries (at + 1) words plies)

-- Words with the same bits for these games give the same entries.
pub entries-same : (at : ℕ) (words new plies : List ℕ) → ((j : ℕ) → at ≤ j → j < at + length plies → has_bit new j ≡ has_bit words j)
    → entries_from at new plies ≡ entries_from at words plies
entries-same at words new [] same = refl
entries-same at words new (ply ∷ plies) same =
    ap (λ (b : Bool). entry b ply ∷ entries_from (at + 1) new plies) (same at (omega arith) (omega arith))
    ∙ ap (λ (rest : List (Option ℕ)). entry (has_bit words at) ply ∷ rest)
    (entries-same (at + 1) words new plies (λ j from below. same j (omega (arith, from)) (omega (arith, below))))

pub entry-at : (at i : ℕ) (words plies : List ℕ) → i < length plies
    → slice_get (entries_from at words plies) i ≡ Some (entry (has_bit words (at + i)) (get_or plies i 0))
entry-at at i words [] within = absurd (omega (arith, within))
entry-at at zero words (ply ∷ plies) within = ap (λ (j : ℕ). Some (entry (has_bit words j) ply)) (omega arith)
entry-at at (suc i) words (ply ∷ plies) within =
    entry-at (at + 1) i words plies (omega (arith, within))
    ∙ ap (λ (j : ℕ). Some (entry (has_bit words j) (get_or plies i 0))) (omega arith)

-- One bit and one ply are set.
pub entries-set : (at i : ℕ) (words new plies : List ℕ) (ply : ℕ) (e : Option ℕ) → i < length plies
    → ((j : ℕ) → j ≢ at + i → has_bit new j ≡ has_bit words j) → entry (has_bit new (at + i)) ply ≡ e
    → entries_from at new (set plies i ply) ≡ set (entries_from at words plies) i e
entries-set at i words new [] ply e within others here = absurd (omega (arith, within))
entries-set at zero words new (old ∷ plies) ply e within others here =
    let same : at + 0 ≡ at = omega arith in
    ap (λ (rest : List (Option ℕ)). entry (has_bit new at) ply ∷ rest)
    (entries-same (at + 1) words new plies (λ j from below. others j (λ is. absurd (omega (arith, is, from)))))
    ∙ ap (λ (x : Option ℕ). x ∷ entries_from (at + 1) words plies) (ap (λ (j : ℕ). entry (has_bit new j) ply) (sym same) ∙ here)
entries-set at (suc i) words new (old ∷ plies) ply e within others here =
    let next : at + 1 + i ≡ at + suc i = omega arith in
    ap (λ (b : Bool). entry b old ∷ entries_from (at + 1) new (set plies i ply)) (others at (λ is. absurd (omega (arith, is))))
    ∙ ap (λ (rest : List (Option ℕ)). entry (has_bit words at) old ∷ rest)
    (entries-set (at + 1) i words new plies ply e (omega (arith, within)) (λ j apart. others j (λ is. apart (omega (arith, is))))
    (ap (λ (j : ℕ). entry (has_bit new j) ply) next ∙ here))

-- One word is set, of which one bit differs.
pub other-bits : (words : List ℕ) (i word j : ℕ) → i / 64 < length words
    → ((k : ℕ) → k < 64 → k ≢ i % 64 → bit_at word k ≡ bit_at (get_or words (i / 64) 0) k) → j ≢ i
    → has_bit (set words (i / 64) word) j ≡ has_bit words j
other-bits words i word j within same apart = elim (cases_eq (j / 64) (i / 64)) [
  | inl together ↦
      let k : j % 64 ≢ i % 64 = λ is. apart (omega (arith, is, together)) in
      ap (λ (w : ℕ). bit_at w (j % 64) == 1)
      (ap (λ (p : ℕ). get_or (set words (i / 64) word) p 0) together ∙ get_or-set_same words (i / 64) word 0 within)
      ∙ ap (λ (b : ℕ). b == 1) (same (j % 64) (omega arith) k ∙ ap (λ (p : ℕ). bit_at (get_or words p 0) (j % 64)) (sym together))
  | inr elsewhere ↦ ap (λ (w : ℕ). bit_at w (j % 64) == 1) (get_or-set_other words (i / 64) (j / 64) word 0 elsewhere)
]

pub same-bit : (words : List ℕ) (i word : ℕ) (b : Bool) → i / 64 < length words → (bit_at word (i % 64) == 1) ≡ b → has_bit (set words (i / 64) word) i ≡ b
same-bit words i word b within here = ap (λ (w : ℕ). bit_at w (i % 64) == 1) (get_or-set_same words (i / 64) word 0 within) ∙ here

-- The first games.
pub entries-take : (at n : ℕ) (words plies : List ℕ) → entries_from at words (take n plies) ≡ take n (entries_from at words plies)
entries-take at zero words plies = refl
entries-take at (suc n) words [] = refl
entries-take at (suc n) words (ply ∷ plies) = ap (λ (rest : List (Option ℕ)). entry (has_bit words at) ply ∷ rest) (entries-take (at + 1) n words plies)

pub entries-size : (words plies : List ℕ) (all : List (Option ℕ)) → entries_of words plies ≡ all → length plies ≡ length all
entries-size words plies all is = sym (length-entries 0 words plies) ∙ ap (λ (l : List (Option ℕ)). length l) is

read-entry : (words plies : List ℕ) (all : List (Option ℕ)) (i word : ℕ) (has : Bool) → entries_of words plies ≡ all → i < length plies
    → i / 64 < length words → word ≡ get_or words (i / 64) word → has ≡ (bit_at word (i % 64) == 1) → slice_get all i ≡ Some (entry has (get_or plies i 0))
read-entry words plies all i word has is within there read bit =
    let here : 0 + i ≡ i = omega arith in
    let word_is : get_or words (i / 64) 0 ≡ word = sym (read ∙ get_or_default_zero words (i / 64) word there) in
    ap (λ (l : List (Option ℕ)). slice_get l i) (sym is) ∙ entry-at 0 i words plies within
    ∙ ap (λ (b : Bool). Some (entry b (get_or plies i 0))) (ap (has_bit words) here ∙ ap (λ (w : ℕ). bit_at w (i % 64) == 1) word_is ∙ sym bit)

-- The entry of a game that is in, and of one that is out.
pub entry-in : (words plies : List ℕ) (all : List (Option ℕ)) (i word ply : ℕ) (has : Bool) → entries_of words plies ≡ all → i < length plies
    → i / 64 < length words → word ≡ get_or words (i / 64) word → has ≡ (bit_at word (i % 64) == 1) → has ≡ true → ply ≡ get_or plies i ply
    → slice_get all i ≡ Some (Some ply)
entry-in words plies all i word ply has is within there read bit true_bit ply_is =
    read-entry words plies all i word has is within there read bit
    ∙ ap (λ (b : Bool). Some (entry b (get_or plies i 0))) true_bit
    ∙ ap (λ (n : ℕ). Some (Some n)) (sym (ply_is ∙ get_or_default_zero plies i ply within))

pub entry-out : (words plies : List ℕ) (all : List (Option ℕ)) (i word : ℕ) (has : Bool) → entries_of words plies ≡ all → i < length plies
    → i / 64 < length words → word ≡ get_or words (i / 64) word → has ≡ (bit_at word (i % 64) == 1) → has ≡ false → slice_get all i ≡ Some None
entry-out words plies all i word has is within there read bit out =
    read-entry words plies all i word has is within there read bit ∙ ap (λ (b : Bool). Some (entry b (get_or plies i 0))) out

-- Whether a game is in.
pub entry-bit : (words plies : List ℕ) (all : List (Option ℕ)) (i word : ℕ) (has : Bool) → entries_of words plies ≡ all → i < length plies
    → i / 64 < length words → word ≡ get_or words (i / 64) word → has ≡ (bit_at word (i % 64) == 1) → has ≡ is_some (get_or all i None)
entry-bit words plies all i word has is within there read bit =
    told has (get_or plies i 0)
    ∙ ap is_some (sym (get_or_from_slice_get all i (entry has (get_or plies i 0)) None (read-entry words plies all i word has is within there read bit)))
  where
    told : (b : Bool) (ply : ℕ) → b ≡ is_some (entry b ply)
    told true ply = refl
    told false ply = refl

-- A game gets another entry.
pub entry-put : (words plies : List ℕ) (all : List (Option ℕ)) (i word old ply : ℕ) (e : Option ℕ) → entries_of words plies ≡ all → i < length plies
    → i / 64 < length words → old ≡ get_or words (i / 64) old → (bit_at word (i % 64) == 1) ≡ is_some e
    → ((k : ℕ) → k < 64 → k ≢ i % 64 → bit_at word k ≡ bit_at old k) → ply ≡ unwrap_or e 0
    → entries_of (set words (i / 64) word) (set plies i ply) ≡ set all i e
entry-put words plies all i word old ply e is within there read bit others ply_is =
    let new : List ℕ = set words (i / 64) word in
    let here : 0 + i ≡ i = omega arith in
    let old_is : old ≡ get_or words (i / 64) 0 = read ∙ get_or_default_zero words (i / 64) old there in
    entries-set 0 i words new plies ply e within
    (λ j apart. other-bits words i word j there (λ k below differs. others k below differs ∙ ap (λ (w : ℕ). bit_at w k) old_is) (λ same. apart (same ∙ sym here)))
    (ap (λ (j : ℕ). entry (has_bit new j) ply) here ∙ ap (λ (b : Bool). entry b ply) (same-bit words i word (is_some e) there bit) ∙ whole e ply ply_is)
    ∙ ap (λ (l : List (Option ℕ)). set l i e) is
  where
    whole : (e : Option ℕ) (ply : ℕ) → ply ≡ unwrap_or e 0 → entry (is_some e) ply ≡ e
    whole None ply same = refl
    whole (Some n) ply same = ap Some same

-- The first games, of as many words as they need.
pub entries-cut : (words plies now_words now_plies : List ℕ) (all : List (Option ℕ)) (n count : ℕ) → entries_of words plies ≡ all → count ≡ words_for n
    → now_words ≡ take count words → now_plies ≡ take n plies → entries_of now_words now_plies ≡ take n all
entries-cut words plies now_words now_plies all n count is size words_are plies_are =
    (λ j. entries_of (words_are j) (plies_are j))
    ∙ entries-same 0 words (take count words) (take n plies)
    (λ j from below. ap (λ (w : ℕ). bit_at w (j % 64) == 1) (get_or-take count words (j / 64) 0 (omega (arith, below, length-take n plies, size))))
    ∙ entries-take 0 n words plies ∙ ap (λ (l : List (Option ℕ)). take n l) is

-- All games in, at ply 0.
pub entries-full : (at n count : ℕ) → at + n ≤ 64 * count → entries_from at (replicate count (2 ^ 64 - 1)) (replicate n 0) ≡ all_in n
entries-full at zero count room = refl
entries-full at (suc n) count room =
    let set_here : has_bit (replicate count (2 ^ 64 - 1)) at ≡ true =
    ap (λ (w : ℕ). bit_at w (at % 64) == 1) (get_or-replicate count (at / 64) (2 ^ 64 - 1) 0 (omega (arith, room))) ∙ ap (λ (b : ℕ). b == 1) (bit_at_ones 64 (at % 64) (omega arith)) in
    ap (λ (b : Bool). entry b 0 ∷ entries_from (at + 1) (replicate count (2 ^ 64 - 1)) (replicate n 0)) set_here
    ∙ ap (λ (rest : List (Option ℕ)). Some 0 ∷ rest) (entries-full (at + 1) n count (omega (arith, room)))

-- All games out.
pub entries-empty : (at count : ℕ) (plies : List ℕ) → at + length plies ≤ 64 * count → entries_from at (replicate count 0) plies ≡ all_out (length plies)
entries-empty at count [] room = refl
entries-empty at count (ply ∷ plies) room =
    let clear_here : has_bit (replicate count 0) at ≡ false =
    ap (λ (w : ℕ). bit_at w (at % 64) == 1) (get_or-replicate count (at / 64) 0 0 (omega (arith, room))) ∙ ap (λ (b : ℕ). b == 1) (bit_at-zero (at % 64)) in
    ap (λ (b : Bool). entry b ply ∷ entries_from (at + 1) (replicate count 0) plies) clear_here
    ∙ ap (λ (rest : List (Option ℕ)). None ∷ rest) (entries-empty (at + 1) count plies (omega (arith, room)))

-- Each game turned.
pub entries-turned : (at : ℕ) (words plies : List ℕ) → at + length plies ≤ 64 * length words
    → entries_from at (map (λ (word : ℕ). bit_xor word (2 ^ 64 - 1)) words) (replicate (length plies) 0) ≡ negated (entries_from at words plies)
entries-turned at words [] room = refl
entries-turned at words (ply ∷ plies) room =
    let turned_words : List ℕ = map (λ (word : ℕ). bit_xor word (2 ^ 64 - 1)) words in
    let word : ℕ = get_or words (at / 64) 0 in
    let turned_here : has_bit turned_words at ≡ (bit_at (bit_xor word (2 ^ 64 - 1)) (at % 64) == 1) =
    ap (λ (w : ℕ). bit_at w (at % 64) == 1) (get_or-map (λ (w : ℕ). bit_xor w (2 ^ 64 - 1)) words (at / 64) 0 0 (omega (arith, room))) in
    ap (λ (b : Bool). entry b 0 ∷ entries_from (at + 1) turned_words (replicate (length plies) 0)) turned_here
    ∙ ap (λ (x : Option ℕ). x ∷ entries_from (at + 1) turned_words (replicate (length plies) 0)) (one word (at % 64) ply (omega arith))
    ∙ ap (λ (rest : List (Option ℕ)). turned (entry (has_bit words at) ply) ∷ rest) (entries-turned (at + 1) words plies (omega (arith, room)))
  where
    flipped : (b r ply : ℕ) → b < 2 → r ≡ (b + 1) % 2 → entry (r == 1) 0 ≡ turned (entry (b == 1) ply)
    flipped zero r ply below is = ap (λ (n : ℕ). entry (n == 1) 0) is
    flipped (suc zero) r ply below is = ap (λ (n : ℕ). entry (n == 1) 0) is
    flipped (suc (suc b)) r ply below is = absurd (omega (arith, below))

    one : (word k ply : ℕ) → k < 64 → entry (bit_at (bit_xor word (2 ^ 64 - 1)) k == 1) 0 ≡ turned (entry (bit_at word k == 1) ply)
    one word k ply within =
        flipped (bit_at word k) (bit_at (bit_xor word (2 ^ 64 - 1)) k) ply (bit_at-lt word k)
        (bit_at_xor word (2 ^ 64 - 1) k ∙ ap (λ (b : ℕ). (bit_at word k + b) % 2) (bit_at_ones 64 k within))

-- The games that are in both, at the own plies.
pub entries-both : (at : ℕ) (words others new plies plies' : List ℕ) → length plies ≡ length plies'
    → ((j : ℕ) → at ≤ j → j < at + length plies → has_bit new j ≡ (has_bit words j && has_bit others j))
    → entries_from at new plies ≡ intersection (entries_from at words plies) (entries_from at others plies')
entries-both at words others new [] plies' same bits = refl
entries-both at words others new (ply ∷ plies) [] same bits = absurd (omega (arith, same))
entries-both at words others new (ply ∷ plies) (ply' ∷ plies') same bits =
    ap (λ (b : Bool). entry b ply ∷ entries_from (at + 1) new plies) (bits at (omega arith) (omega arith))
    ∙ ap (λ (e : Option ℕ). e ∷ entries_from (at + 1) new plies) (one (has_bit words at) (has_bit others at) ply ply')
    ∙ ap (λ (rest : List (Option ℕ)). in_both (entry (has_bit words at) ply) (entry (has_bit others at) ply') ∷ rest)
    (entries-both (at + 1) words others new plies plies' (omega (arith, same)) (λ j from below. bits j (omega (arith, from)) (omega (arith, below))))
  where
    one : (b d : Bool) (ply ply' : ℕ) → entry (b && d) ply ≡ in_both (entry b ply) (entry d ply')
    one true true ply ply' = refl
    one true false ply ply' = refl
    one false true ply ply' = refl
    one false false ply ply' = refl

common-bit : (words others new : List ℕ) (j : ℕ) → get_or new (j / 64) 0 ≡ bit_and (get_or words (j / 64) 0) (get_or others (j / 64) 0)
    → has_bit new j ≡ (has_bit words j && has_bit others j)
common-bit words others new j is =
    ap (λ (w : ℕ). bit_at w (j % 64) == 1) is
    ∙ ap (λ (b : ℕ). b == 1) (bit_at_and (get_or words (j / 64) 0) (get_or others (j / 64) 0) (j % 64))
    ∙ lesser (bit_at (get_or words (j / 64) 0) (j % 64)) (bit_at (get_or others (j / 64) 0) (j % 64)) (bit_at-lt (get_or words (j / 64) 0) (j % 64))
    (bit_at-lt (get_or others (j / 64) 0) (j % 64))
  where
    lesser : (b d : ℕ) → b < 2 → d < 2 → (min b d == 1) ≡ ((b == 1) && (d == 1))
    lesser zero d one two = let none : min 0 d ≡ 0 = omega arith in ap (λ (n : ℕ). n == 1) none
    lesser (suc zero) zero one two = refl
    lesser (suc zero) (suc zero) one two = refl
    lesser (suc zero) (suc (suc d)) one two = absurd (omega (arith, two))
    lesser (suc (suc b)) d one two = absurd (omega (arith, one))

pub common : (words others plies plies' new wrote : List ℕ) (all both : List (Option ℕ)) → entries_of words plies ≡ all → entries_of others plies' ≡ both
    → length all ≡ length both → length words ≡ words_for (length plies) → new ≡ wrote
    → ((k : ℕ) → k < length words → get_or wrote k 0 ≡ bit_and (get_or words k 0) (get_or others k 0)) → entries_of new plies ≡ intersection all both
common words others plies plies' new wrote all both is is' same size back wrote_is =
    let games = entries-size words plies all is in
    let games' = entries-size others plies' both is' in
    entries-both 0 words others new plies plies' (omega (arith, games, games', same))
    (λ j from below. common-bit words others new j (ap (λ (l : List ℕ). get_or l (j / 64) 0) back ∙ wrote_is (j / 64) (omega (arith, below, size))))
    ∙ (λ i. intersection (is i) (is' i))

-- One more game, with whatever entry.
pub entries-more : (words plies new new_plies : List ℕ) (all : List (Option ℕ)) (ply : ℕ) → entries_of words plies ≡ all → new_plies ≡ plies ++ ply ∷ []
    → ((j : ℕ) → j < length plies → has_bit new j ≡ has_bit words j) → take (length all) (entries_of new new_plies) ≡ all
entries-more words plies new new_plies all ply is more same =
    let games : length all ≡ length plies = sym (entries-size words plies all is) in
    let first : take (length all) new_plies ≡ plies = ap (λ (l : List ℕ). take (length all) l) more ∙ ap (λ (n : ℕ). take n (plies ++ ply ∷ [])) games ∙ take-append_seam plies (ply ∷ []) in
    sym (entries-take 0 (length all) new new_plies) ∙ ap (λ (l : List ℕ). entries_of new l) first
    ∙ entries-same 0 words new plies (λ j from below. same j (omega (arith, below))) ∙ is

-- The methods, from what they leave in the words and the plies.
pub filled : (words plies new new_plies wrote wrote_plies : List ℕ) (all : List (Option ℕ)) → entries_of words plies ≡ all → length words ≡ words_for (length plies)
    → new ≡ wrote → new_plies ≡ wrote_plies → wrote ≡ replicate (length words) (2 ^ 64 - 1) → wrote_plies ≡ replicate (length plies) 0
    → entries_of new new_plies ≡ all_in (length all)
filled words plies new new_plies wrote wrote_plies all is size back plies_back words_are plies_are =
    (λ j. entries_of ((back ∙ words_are) j) ((plies_back ∙ plies_are) j)) ∙ entries-full 0 (length plies) (length words) (omega (arith, size))
    ∙ ap all_in (entries-size words plies all is)

pub made : (words plies : List ℕ) (n count : ℕ) → plies ≡ replicate n 0 → words ≡ replicate count (2 ^ 64 - 1) → count ≡ words_for n → entries_of words plies ≡ all_in n
made words plies n count plies_are words_are size = (λ j. entries_of (words_are j) (plies_are j)) ∙ entries-full 0 n count (omega (arith, size))

pub emptied : (words plies new wrote : List ℕ) (all : List (Option ℕ)) → entries_of words plies ≡ all → length words ≡ words_for (length plies)
    → new ≡ wrote → wrote ≡ replicate (length words) 0 → entries_of new plies ≡ all_out (length all)
emptied words plies new wrote all is size back words_are =
    ap (λ (l : List ℕ). entries_of l plies) (back ∙ words_are) ∙ entries-empty 0 (length words) plies (omega (arith, size)) ∙ ap all_out (entries-size words plies all is)

pub negation : (words plies new new_plies wrote wrote_plies : List ℕ) (all : List (Option ℕ)) → entries_of words plies ≡ all → length words ≡ words_for (length plies)
    → new ≡ wrote → new_plies ≡ wrote_plies → wrote ≡ map (λ (word : ℕ). bit_xor word (2 ^ 64 - 1)) words → wrote_plies ≡ replicate (length plies) 0
    → entries_of new new_plies ≡ negated all
negation words plies new new_plies wrote wrote_plies all is size back plies_back words_are plies_are =
    (λ j. entries_of ((back ∙ words_are) j) ((plies_back ∙ plies_are) j)) ∙ entries-turned 0 words plies (omega (arith, size)) ∙ ap negated is

-- A game that was added gets its entry.
pub last-set : (old added : List (Option ℕ)) (games : ℕ) (e : Option ℕ) → take (length old) added ≡ old → length added ≡ length old + 1 → games ≡ length old
    → set added games e ≡ old ++ e ∷ []
last-set old added games e first more at =
    let within : games < length added = omega (arith, more, at) in
    sym (take_all (games + 1) (set added games e) (omega (arith, length-set added games e, more, at)))
    ∙ take_more_set added games e within ∙ ap (λ (l : List (Option ℕ)). l ++ e ∷ []) (ap (λ (n : ℕ). take n added) at ∙ first)

-- A word more does not touch the bits of the games before it.
pub word-more : (words new : List ℕ) (games : ℕ) → length words ≡ words_for games → new ≡ words ++ 0 ∷ [] → (j : ℕ) → j < games → has_bit new j ≡ has_bit words j
word-more words new games size is j below =
    ap (λ (l : List ℕ). has_bit l j) is
    ∙ ap (λ (w : ℕ). bit_at w (j % 64) == 1) (get_or_append_left words (0 ∷ []) 0 (j / 64) (omega (arith, below, size)))
