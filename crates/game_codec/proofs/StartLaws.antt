-- The start of a record has one reading.
use Rattle.std.proofs.Common.{◌≡◌, ℕ, ◌%◌, inl, inr, List, [], ◌∷◌, ◌++◌, refl, sym, ap, ◌∙◌, arith}
use Rattle.cell_core.specs.Text.{IsZeroFree}
use Rattle.chess_laws.specs.declared.setup.Setup.{Setup}
use Rattle.chess_laws.specs.Position.{Sound}
use Rattle.chess_laws.proofs.Start.{start-sound}
use Rattle.chess_text.specs.Written.{fen_text}
use Rattle.chess_text.proofs.AnswerLaws.{reads_answer, answer_sound}
use Rattle.chess_text.proofs.WritingLaws.{written_reads, written_zero_free}
use Rattle.move_codec.specs.declared.numbers.Numbers.{Numbers}
use Rattle.move_codec.specs.Numbers.{Numbered, AreNumbers, text_numbers}
use Rattle.move_codec.proofs.Text.{AreNumbers-standard, AreNumbers-text}
use Rattle.game_codec.specs.Start.{standard_start, IsOwnStart, BeginsStart, IsCutStart, IsBadStart, BreaksStart}
use Rattle.game_codec.specs.declared.fault.RecordWhat.{RecordWhat}
use Rattle.game_codec.specs.declared.fault.RecordWhat.TheVariants as what
use Rattle.game_codec.proofs.SameFault.{SameFault}
use Rattle.game_codec.proofs.SameFaultLaws.{SameFault-same, SameFault-short}
use Rattle.game_codec.proofs.ZeroLaws.{text_ends-one, text_ends-zero}

-- One start

same_numbered : (a b : Numbered) → a.position ≡ b.position → a.numbers ≡ b.numbers → a ≡ b
same_numbered a b position numbers =
    ap (λ (p : Setup). record a { position = p }) position ∙ ap (λ (n : Numbers). record b { numbers = n }) numbers

-- Two texts that flags and a zero byte enclose are one.
text-one : (bytes : List ℕ) (f g : ℕ) (t u r s : List ℕ) → IsZeroFree t → IsZeroFree u → bytes ≡ f ∷ t ++ 0 ∷ r
    → bytes ≡ g ∷ u ++ 0 ∷ s → (t ≡ u) × (r ≡ s)
text-one bytes f g t u r s free free' e e' = text_ends-one t u r s free free' (cc)

-- The flags of two readings of the same bytes are the same.
flags-one : (bytes : List ℕ) (f g : ℕ) (r s : List ℕ) → bytes ≡ f ∷ r → bytes ≡ g ∷ s → f ≡ g
flags-one bytes f g r s e e' = cc

rest-one : (bytes : List ℕ) (f g : ℕ) (r s : List ℕ) → bytes ≡ f ∷ r → bytes ≡ g ∷ s → r ≡ s
rest-one bytes f g r s e e' = cc

pub BeginsStart-one : (bytes : List ℕ) (a b : Numbered) (r s : List ℕ) → BeginsStart bytes a r → BeginsStart bytes b s
    → (a ≡ b) × (r ≡ s)
BeginsStart-one bytes a b r s (inl h) (inl k) =
    (h.start_is ∙ sym k.start_is, rest-one bytes h.flags k.flags r s h.spelled k.spelled)
BeginsStart-one bytes a b r s (inl h) (inr k) =
    let same = flags-one bytes h.flags k.flags _ _ h.spelled k.spelled in absurd (omega arith)
BeginsStart-one bytes a b r s (inr h) (inl k) =
    let same = flags-one bytes h.flags k.flags _ _ h.spelled k.spelled in absurd (omega arith)
BeginsStart-one bytes a b r s (inr h) (inr k) =
    let texts = text-one bytes h.flags k.flags h.text k.text r s h.zero_free k.zero_free h.spelled k.spelled in
    let position : a.position ≡ b.position = let one = texts.0 in let a_reads = h.reads in let b_reads = k.reads in cc in
    (same_numbered a b position (h.numbers ∙ ap (λ (p : Setup). text_numbers p.board) position ∙ sym k.numbers), texts.1)

-- A start or a fault

own-not_cut : (bytes : List ℕ) (a : Numbered) (r : List ℕ) → IsOwnStart bytes a r → IsCutStart bytes → ⊥
own-not_cut bytes a r h k =
    let e = rest-one bytes h.flags k.flags (h.text ++ 0 ∷ r) k.text h.spelled k.spelled in
    text_ends-zero h.text r (rw e k.zero_free)

own-not_bad : (bytes : List ℕ) (a : Numbered) (r s : List ℕ) → IsOwnStart bytes a r → IsBadStart bytes s → ⊥
own-not_bad bytes a r s h k =
    let e = rest-one bytes h.flags k.flags (h.text ++ 0 ∷ r) s h.spelled k.spelled in
    let texts = text_ends-one h.text k.text r k.later h.zero_free k.zero_free (e ∙ k.text_is) in
    let one = texts.0 in let reads = h.reads in let faulty = k.faulty in cc

cut-not_bad : (bytes s : List ℕ) → IsCutStart bytes → IsBadStart bytes s → ⊥
cut-not_bad bytes s h k =
    let e = rest-one bytes h.flags k.flags h.text s h.spelled k.spelled in
    text_ends-zero k.text k.later (rw (e ∙ k.text_is) at h.zero_free)

-- A fault of the start is one of three.
data Faulty (bytes rest : List ℕ) (w : RecordWhat) : Type 0 where
  empty : w ≡ what.Short → bytes ≡ [] → Faulty bytes rest w
  cut : w ≡ what.Short → IsCutStart bytes → Faulty bytes rest w
  bad : w ≡ what.Fen → IsBadStart bytes rest → Faulty bytes rest w

faulty : (bytes rest : List ℕ) (w : RecordWhat) → BreaksStart bytes rest w → Faulty bytes rest w
faulty bytes rest what.Short (inl h) = empty refl h
faulty bytes rest what.Short (inr h) = cut refl h
faulty bytes rest what.Fen h = bad refl h
faulty bytes rest what.TagCode h = absurd h
faulty bytes rest what.TagName h = absurd h
faulty bytes rest what.TagValue h = absurd h
faulty bytes rest (what.Move fault) h = absurd h
faulty bytes rest what.Mark h = absurd h
faulty bytes rest what.TwoComments h = absurd h
faulty bytes rest what.Depth h = absurd h
faulty bytes rest what.Extra h = absurd h

begins-unbroken : (bytes : List ℕ) (a : Numbered) (r s : List ℕ) (w : RecordWhat) → BeginsStart bytes a r
    → Faulty bytes s w → ⊥
begins-unbroken bytes a r s w (inl h) (empty is none) = let e = h.spelled in cc
begins-unbroken bytes a r s w (inl h) (cut is k) =
    let same = flags-one bytes h.flags k.flags _ _ h.spelled k.spelled in omega arith
begins-unbroken bytes a r s w (inl h) (bad is k) =
    let same = flags-one bytes h.flags k.flags _ _ h.spelled k.spelled in omega arith
begins-unbroken bytes a r s w (inr h) (empty is none) = let e = h.spelled in cc
begins-unbroken bytes a r s w (inr h) (cut is k) = own-not_cut bytes a r h k
begins-unbroken bytes a r s w (inr h) (bad is k) = own-not_bad bytes a r s h k

pub BeginsStart-unbroken : (bytes : List ℕ) (a : Numbered) (r s : List ℕ) (w : RecordWhat) → BeginsStart bytes a r
    → BreaksStart bytes s w → ⊥
BeginsStart-unbroken bytes a r s w h k = begins-unbroken bytes a r s w h (faulty bytes s w k)

alike : (bytes r s : List ℕ) (w v : RecordWhat) → Faulty bytes r w → Faulty bytes s v → SameFault r w s v
alike bytes r s w v (empty is none) (empty is' none') = SameFault-short r s w v is is'
alike bytes r s w v (empty is none) (cut is' k) = SameFault-short r s w v is is'
alike bytes r s w v (empty is none) (bad is' k) = let e = k.spelled in absurd (cc)
alike bytes r s w v (cut is h) (empty is' none') = SameFault-short r s w v is is'
alike bytes r s w v (cut is h) (cut is' k) = SameFault-short r s w v is is'
alike bytes r s w v (cut is h) (bad is' k) = absurd (cut-not_bad bytes s h k)
alike bytes r s w v (bad is h) (empty is' none') = let e = h.spelled in absurd (cc)
alike bytes r s w v (bad is h) (cut is' k) = absurd (cut-not_bad bytes r k h)
alike bytes r s w v (bad is h) (bad is' k) =
    SameFault-same r s w v (rest-one bytes h.flags k.flags r s h.spelled k.spelled) (is ∙ sym is')

pub BreaksStart-one : (bytes : List ℕ) (r s : List ℕ) (w v : RecordWhat) → BreaksStart bytes r w → BreaksStart bytes s v
    → SameFault r w s v
BreaksStart-one bytes r s w v h k = alike bytes r s w v (faulty bytes r w h) (faulty bytes s v k)

-- What is written

pub standard-begins : (flags : ℕ) (rest : List ℕ) → flags % 2 ≡ 0 → BeginsStart (flags ∷ rest) standard_start rest
standard-begins flags rest clear = inl (record { flags = flags; clear = clear; spelled = refl; start_is = refl })

pub own-begins : (flags : ℕ) (p : Setup) (rest : List ℕ) → flags % 2 ≡ 1 → Sound p
    → BeginsStart (flags ∷ fen_text p ++ 0 ∷ rest) (record { position = p; numbers = text_numbers p.board }) rest
own-begins flags p rest set sound =
    inr (record {
      flags = flags;
      set = set;
      text = fen_text p;
      zero_free = written_zero_free p sound;
      spelled = refl;
      reads = reads_answer (fen_text p) p (written_reads p sound);
      numbers = refl;
    })

-- What is read

pub BeginsStart-Sound : (bytes : List ℕ) (a : Numbered) (r : List ℕ) → BeginsStart bytes a r → Sound a.position
BeginsStart-Sound bytes a r (inl h) = rw h.start_is start-sound
BeginsStart-Sound bytes a r (inr h) = answer_sound h.text a.position h.reads

pub BeginsStart-numbers : (bytes : List ℕ) (a : Numbered) (r : List ℕ) → BeginsStart bytes a r
    → AreNumbers a.position.board a.numbers
BeginsStart-numbers bytes a r (inl h) = rw h.start_is AreNumbers-standard
BeginsStart-numbers bytes a r (inr h) =
    let sound = answer_sound h.text a.position h.reads in
    rw h.numbers (AreNumbers-text a.position.board sound.squares sound.kings sound.few)
