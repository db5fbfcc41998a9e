-- The texts of a record's comments have one reading.
use Rattle.std.proofs.Common.{◌≡◌, ◌≢◌, ℕ, ◌+◌, ◌<◌, ◌≤◌, ◌⊎◌, inl, inr, List, [], ◌∷◌, ◌++◌, All, length, refl, sym, ◌∙◌, arith, append_assoc}
use Rattle.std.proofs.lemmas.List.{append-nil}
use Rattle.std.proofs.lemmas.List.Elements.{All-head, All-tail}
use Rattle.cell_core.specs.Text.{IsZeroFree}
use Rattle.game_codec.specs.Texts.{ended, AreTexts, TextFault, BreaksTexts}
use Rattle.game_codec.specs.declared.fault.RecordWhat.{RecordWhat}
use Rattle.game_codec.specs.declared.fault.RecordWhat.TheVariants as what
use Rattle.game_codec.proofs.SameFault.{SameFault}
use Rattle.game_codec.proofs.SameFaultLaws.{SameFault-same, SameFault-short}
use Rattle.game_codec.proofs.ZeroLaws.{text_ends-one, text_ends-zero}

ended-one : (a b : List (List ℕ)) → All IsZeroFree a → All IsZeroFree b → ended a ≡ ended b → a ≡ b
ended-one [] [] free free' e = refl
ended-one [] ([] ∷ b) free free' e = absurd (cc)
ended-one [] ((byte ∷ text) ∷ b) free free' e = absurd (cc)
ended-one ([] ∷ a) [] free free' e = absurd (cc)
ended-one ((byte ∷ text) ∷ a) [] free free' e = absurd (cc)
ended-one (t ∷ a) (u ∷ b) free free' e =
    let i = text_ends-one t u _ _ (All-head IsZeroFree t a free) (All-head IsZeroFree u b free') e in
    let later = ended-one a b (All-tail IsZeroFree t a free) (All-tail IsZeroFree u b free') i.1 in
    cc

pub AreTexts-one : (bytes : List ℕ) (a b : List (List ℕ)) → AreTexts bytes a → AreTexts bytes b → a ≡ b
AreTexts-one bytes a b h k = ended-one a b h.zero_free k.zero_free (sym h.spelled ∙ k.spelled)

-- The first of two lists of texts that the same bytes begin with is the shorter one: the bytes behind it begin with the
-- texts that it lacks.
abbrev GoesOn : List (List ℕ) → List (List ℕ) → List ℕ → List ℕ → Type 0
GoesOn a b r s = (more : List (List ℕ)) × (length b ≡ length a + length more) × (r ≡ ended more ++ s)

goes_on : (a b : List (List ℕ)) (r s : List ℕ) → length a ≤ length b → All IsZeroFree a → All IsZeroFree b
    → ended a ++ r ≡ ended b ++ s → GoesOn a b r s
goes_on [] b r s few free free' e = (b, omega arith, e)
goes_on (t ∷ a) [] r s few free free' e = absurd (omega arith)
goes_on (t ∷ a) (u ∷ b) r s few free free' e =
    let e' : t ++ 0 ∷ (ended a ++ r) ≡ u ++ 0 ∷ (ended b ++ s)
    = sym (append_assoc t (0 ∷ ended a) r) ∙ e ∙ append_assoc u (0 ∷ ended b) s in
    let i = text_ends-one t u _ _ (All-head IsZeroFree t a free) (All-head IsZeroFree u b free') e' in
    let later = goes_on a b r s (omega arith) (All-tail IsZeroFree t a free) (All-tail IsZeroFree u b free') i.1 in
    (later.0, let size = later.1 in omega arith, later.2)

-- Where both lists have as many texts, the same bytes follow.
same_rest : (a b : List (List ℕ)) (r s : List ℕ) → length a ≡ length b → GoesOn a b r s → r ≡ s
same_rest a b r s same ([], size, spelled) = spelled
same_rest a b r s same (t ∷ more, size, spelled) = absurd (omega arith)

-- Where the second has more texts, the bytes behind the first have a zero byte.
has_zero : (a b : List (List ℕ)) (r s : List ℕ) → length a < length b → GoesOn a b r s → IsZeroFree r → ⊥
has_zero a b r s fewer ([], size, spelled) free = omega arith
has_zero a b r s fewer (t ∷ more, size, spelled) free =
    text_ends-zero t (ended more ++ s) (rw (spelled, append_assoc t (0 ∷ ended more) s) at free)

-- A fault of the texts is one of two.
abbrev Faulty : ℕ → ℕ → List ℕ → RecordWhat → Type 0
Faulty read due rest w =
    ((w ≡ what.Short) × (read < due) × IsZeroFree rest) ⊎ ((w ≡ what.Extra) × (read ≡ due) × (rest ≢ []))

faulty : (read due : ℕ) (rest : List ℕ) (w : RecordWhat) → TextFault read due rest w → Faulty read due rest w
faulty read due rest what.Short h = inl (refl, h.0, h.1)
faulty read due rest what.Extra h = inr (refl, h.0, h.1)
faulty read due rest what.TagCode h = absurd h
faulty read due rest what.TagName h = absurd h
faulty read due rest what.TagValue h = absurd h
faulty read due rest what.Fen h = absurd h
faulty read due rest (what.Move fault) h = absurd h
faulty read due rest what.Mark h = absurd h
faulty read due rest what.TwoComments h = absurd h
faulty read due rest what.Depth h = absurd h

pub AreTexts-unbroken : (bytes : List ℕ) (a : List (List ℕ)) (due : ℕ) (s : List ℕ) (w : RecordWhat) → length a ≡ due
    → AreTexts bytes a → BreaksTexts due bytes s w → ⊥
AreTexts-unbroken bytes a due s w size h k =
    let e : ended k.texts ++ s ≡ ended a ++ [] = sym k.spelled ∙ h.spelled ∙ sym (append-nil (ended a)) in
    elim (faulty (length k.texts) due s w k.fault) [
      | inl (is, few, free) ↦
          has_zero k.texts a s [] (omega arith) (goes_on k.texts a s [] (omega arith) k.zero_free h.zero_free e) free
      | inr (is, all, some) ↦
          some (same_rest k.texts a s [] (omega arith) (goes_on k.texts a s [] (omega arith) k.zero_free h.zero_free e))
    ]

faulty_alike : (due : ℕ) (a b : List (List ℕ)) (r s : List ℕ) (w v : RecordWhat) → All IsZeroFree a → All IsZeroFree b
    → ended a ++ r ≡ ended b ++ s → Faulty (length a) due r w → Faulty (length b) due s v → SameFault r w s v
faulty_alike due a b r s w v free free' e (inl (is, few, no_zero)) (inl (is', few', no_zero')) =
    SameFault-short r s w v is is'
faulty_alike due a b r s w v free free' e (inl (is, few, no_zero)) (inr (is', all, some)) =
    absurd (has_zero a b r s (omega arith) (goes_on a b r s (omega arith) free free' e) no_zero)
faulty_alike due a b r s w v free free' e (inr (is, all, some)) (inl (is', few, no_zero)) =
    absurd (has_zero b a s r (omega arith) (goes_on b a s r (omega arith) free' free (sym e)) no_zero)
faulty_alike due a b r s w v free free' e (inr (is, all, some)) (inr (is', all', some')) =
    SameFault-same r s w v (same_rest a b r s (omega arith) (goes_on a b r s (omega arith) free free' e)) (is ∙ sym is')

pub BreaksTexts-one : (due : ℕ) (bytes r s : List ℕ) (w v : RecordWhat) → BreaksTexts due bytes r w
    → BreaksTexts due bytes s v → SameFault r w s v
BreaksTexts-one due bytes r s w v h k =
    faulty_alike due h.texts k.texts r s w v h.zero_free k.zero_free (sym h.spelled ∙ k.spelled)
    (faulty (length h.texts) due r w h.fault) (faulty (length k.texts) due s v k.fault)
