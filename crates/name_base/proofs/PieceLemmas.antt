-- One name: what is read is spelled so, and what is spelled is read again.
use Rattle.std.proofs.Common.{◌≡◌, ◌≤◌, ◌<◌, ◌+◌, ◌-◌, ◌^◌, ℕ, zero, suc, Bool, true, false, cond, eqb, ltb, leb, ◌||◌, List, [], ◌∷◌, ◌++◌, length, take, Option, Some, None, unwrap_or, Ok, Err, refl, sym, ap, subst, ◌∙◌, arith, slice_get}
use Rattle.std.specs.Prelude.{IfSome}
use Rattle.std.specs.List.{list_any, AllByRecursion}
use Rattle.std.proofs.lemmas.Bool.{ltb-true, leb-false, lt-leb}
use Rattle.std.proofs.lemmas.List.{length-append, length-take-le}
use Rattle.std.proofs.lemmas.List.Folds.{list_any-append}
use Rattle.byteorder.specs.Endian.{big_bytes}
use Rattle.name_base.specs.declared.header.Shape.{Shape}
use Rattle.name_base.specs.declared.fault.NameWhat.TheVariants.{IdRange, IdTwice, Repeated}
use Rattle.name_base.specs.NameLists.{IsName, has_zero, is_in}
use Rattle.name_base.specs.NamesFile.{Stored, Entry, Fits, id_width, frequency_width, shared_byte, name_after, stored_bytes}
use Rattle.name_base.specs.Reading.{◌>>=◌, Piece, number_at, skip_at, byte_at, shared_at, own_at, id_at, piece_at, entry_at, has_id, names_of, last_name, name_of_piece}
use Rattle.name_base.proofs.FieldLemmas.{IsBytes, Takes, IsWidth, width_2, width_3, bind_ok, guard_ok, ok_is, number_takes, number_again, skip_takes, skip_again, byte_takes, byte_again, shared_takes, shared_again, own_takes, own_again, neither}

-- ---- the id.

id_width-IsWidth : (count : ℕ) → IsWidth (id_width count)
id_width-IsWidth count = by (ltb count 65536)
  where
    by : (b : Bool) → IsWidth (cond b 2 3)
    by true = width_2
    by false = width_3

id_width-fits : (count id : ℕ) → id < count → count ≤ 16777216 → id < 256 ^ id_width count
id_width-fits count id lt le = by (ltb count 65536) refl
  where
    by : (b : Bool) → ltb count 65536 ≡ b → id < 256 ^ (cond b 2 3)
    by true e = let few : count < 65536 = ltb-true _ _ e in omega arith
    by false e = omega arith

id_takes : (count : ℕ) (met : List Entry) (bytes : List ℕ) (x : ℕ × List ℕ) → IsBytes bytes → id_at count met bytes ≡ Ok x
    → Takes bytes (big_bytes (id_width count) x.0) x.1 × (x.0 < count) × (has_id met x.0 ≡ false)
unfolding id_at
id_takes count met bytes x fits e =
    let a = bind_ok (number_at (id_width count) bytes) (λ id. cond (leb count id.0) (Err IdRange) (cond (has_id met id.0) (Err IdTwice) (Ok id))) x e in
    let g = guard_ok (leb count a.0.0) IdRange (cond (has_id met a.0.0) (Err IdTwice) (Ok a.0)) x a.2 in
    let h = guard_ok (has_id met a.0.0) IdTwice (Ok a.0) x g.1 in
    let t = number_takes (id_width count) bytes a.0 (id_width-IsWidth count) fits a.1 in
    let whole : Takes bytes (big_bytes (id_width count) a.0.0) a.0.1 × (a.0.0 < count) × (has_id met a.0.0 ≡ false) = (t.0, leb-false _ _ g.0, h.0) in
    subst (λ (y : ℕ × List ℕ). Takes bytes (big_bytes (id_width count) y.0) y.1 × (y.0 < count) × (has_id met y.0 ≡ false)) (ok_is a.0 x h.1) whole

id_again : (count : ℕ) (met : List Entry) (id : ℕ) (rest : List ℕ) → id < count → count ≤ 16777216 → has_id met id ≡ false
    → id_at count met (big_bytes (id_width count) id ++ rest) ≡ Ok (id, rest)
unfolding id_at
id_again count met id rest lt le new = rw (number_again (id_width count) id rest (id_width-fits count id lt le), lt-leb count id lt, new) refl

-- ---- the name.

list_any-take : {X : Type 0} (p : X → Bool) (n : ℕ) (xs : List X) → list_any p xs ≡ false → list_any p (take n xs) ≡ false
list_any-take p zero xs e = refl
list_any-take p (suc n) [] e = refl
list_any-take p (suc n) (x ∷ xs) e = by (p x) e (list_any-take p n xs)
  where
    by : (b : Bool) → (b || list_any p xs) ≡ false → (list_any p xs ≡ false → list_any p (take n xs) ≡ false) → (b || list_any p (take n xs)) ≡ false
    by true e rest = absurd cc
    by false e rest = rest e

-- What holds of each holds of the one at a place.
pub at_place : {X : Type 0} (P : X → Type 0) (xs : List X) (i : ℕ) → AllByRecursion P xs → IfSome (slice_get xs i) P
at_place P [] i h = tt
at_place P (x ∷ xs) zero h = h.0
at_place P (x ∷ xs) (suc i) h = at_place P xs i h.1

names_hold : (P : List ℕ → Type 0) (met : List Entry) → AllByRecursion (λ e. P e.name) met → AllByRecursion P (names_of met)
names_hold P [] h = tt
names_hold P (e ∷ es) h = (h.0, names_hold P es h.1)

-- The last name holds no zero byte.
last_whole : (met : List Entry) → AllByRecursion (λ e. IsName e.name) met → has_zero (unwrap_or (last_name met) []) ≡ false
last_whole met each = by (last_name met) (at_place IsName (names_of met) (length met - 1) (names_hold IsName met each))
  where
    by : (o : Option (List ℕ)) → IfSome o IsName → has_zero (unwrap_or o []) ≡ false
    by None h = refl
    by (Some name) h = h.whole

no_zero_joined : (a b : List ℕ) → has_zero a ≡ false → has_zero b ≡ false → has_zero (a ++ b) ≡ false
no_zero_joined a b ea eb = list_any-append (λ byte. eqb byte 0) a b ∙ (λ i. ea i || eb i)

abbrev pub stored_of : List ℕ → Piece → Stored
stored_of frequency p = record { id = p.id; frequency = frequency; shared = p.shared; own = p.own }

-- What the parts of a name took.
pub record PieceTakes (shape : Shape) (met : List Entry) (bytes : List ℕ) (p : Piece) : Type 0 where
  pub frequency : List ℕ
  pub spelled : bytes ≡ stored_bytes shape (last_name met) (stored_of frequency p) p.rest
  pub fits : Fits shape (last_name met) (stored_of frequency p)
  pub new : has_id met p.id ≡ false
  pub rest : IsBytes p.rest

pub piece_takes : (shape : Shape) (met : List Entry) (bytes : List ℕ) (p : Piece) → IsBytes bytes → AllByRecursion (λ e. IsName e.name) met → piece_at shape met bytes ≡ Ok p → PieceTakes shape met bytes p
unfolding piece_at stored_bytes
piece_takes shape met bytes p fits each e =
    let before : Option (List ℕ) = last_name met in
    let a = bind_ok (id_at shape.count met bytes) (λ id. skip_at (frequency_width shape.greatest) id.1 >>= λ after. byte_at after >>= λ len. shared_at (last_name met) len.0 len.1 >>= λ shared. own_at (len.0 - shared.0) shared.1 >>= λ own. Ok (record { id = id.0; shared = shared.0; own = own.0; rest = own.1 })) p e in
    let b = bind_ok (skip_at (frequency_width shape.greatest) a.0.1) (λ after. byte_at after >>= λ len. shared_at (last_name met) len.0 len.1 >>= λ shared. own_at (len.0 - shared.0) shared.1 >>= λ own. Ok (record { id = a.0.0; shared = shared.0; own = own.0; rest = own.1 })) p a.2 in
    let c = bind_ok (byte_at b.0) (λ len. shared_at (last_name met) len.0 len.1 >>= λ shared. own_at (len.0 - shared.0) shared.1 >>= λ own. Ok (record { id = a.0.0; shared = shared.0; own = own.0; rest = own.1 })) p b.2 in
    let d = bind_ok (shared_at (last_name met) c.0.0 c.0.1) (λ shared. own_at (c.0.0 - shared.0) shared.1 >>= λ own. Ok (record { id = a.0.0; shared = shared.0; own = own.0; rest = own.1 })) p c.2 in
    let o = bind_ok (own_at (c.0.0 - d.0.0) d.0.1) (λ own. Ok (record { id = a.0.0; shared = d.0.0; own = own.0; rest = own.1 })) p d.2 in
    let ta = id_takes shape.count met bytes a.0 fits a.1 in
    let tb = skip_takes (frequency_width shape.greatest) a.0.1 b.0 ta.0.fits b.1 in
    let tc = byte_takes b.0 c.0 tb.0.fits c.1 in
    let td = shared_takes (last_name met) c.0.0 c.0.1 d.0 tc.0.fits d.1 in
    let to = own_takes (c.0.0 - d.0.0) d.0.1 o.0 td.0.fits o.1 in
    let frequency : List ℕ = take (frequency_width shape.greatest) a.0.1 in
    let len-is : c.0.0 ≡ d.0.0 + length o.0.0 = omega (arith, to.1, td.1) in
    let made : Piece = record { id = a.0.0; shared = d.0.0; own = o.0.0; rest = o.0.1 } in
    let whole : PieceTakes shape met bytes made = record {
      frequency = frequency;
      spelled = ta.0.parts ∙ ap (λ t. big_bytes (id_width shape.count) a.0.0 ++ t) (tb.0.parts ∙ ap (λ t. frequency ++ t) (tc.0.parts ∙ (λ i. len-is i ∷ (td.0.parts ∙ ap (λ t. shared_byte (last_name met) d.0.0 ++ t) to.0.parts) i)));
      fits = record {
        id = ta.1;
        frequency = tb.1;
        shared = td.2;
        name = record {
          long = omega (arith, length-append (take d.0.0 (unwrap_or (last_name met) [])) o.0.0, length-take-le d.0.0 (unwrap_or (last_name met) []) td.2, len-is, tc.1);
          whole = no_zero_joined (take d.0.0 (unwrap_or (last_name met) [])) o.0.0 (list_any-take (λ byte. eqb byte 0) d.0.0 (unwrap_or (last_name met) []) (last_whole met each)) to.2;
        };
      };
      new = ta.2;
      rest = to.0.fits;
    } in
    subst (PieceTakes shape met bytes) (ok_is made p o.2) whole

-- The parts of a stored name are read again.
pub piece_again : (shape : Shape) (met : List Entry) (s : Stored) (rest : List ℕ) → shape.count ≤ 16777216 → Fits shape (last_name met) s → has_id met s.id ≡ false
    → piece_at shape met (stored_bytes shape (last_name met) s rest) ≡ Ok (record { id = s.id; shared = s.shared; own = s.own; rest = rest })
unfolding piece_at stored_bytes
piece_again shape met s rest le fits new =
    let own-is : length s.own ≡ (s.shared + length s.own) - s.shared = omega arith in
    let own_whole : has_zero s.own ≡ false =
    (neither (has_zero (take s.shared (unwrap_or (last_name met) []))) (has_zero s.own) (sym (list_any-append (λ byte. eqb byte 0) (take s.shared (unwrap_or (last_name met) [])) s.own) ∙ fits.name.whole)).1 in
    let a = id_again shape.count met s.id (s.frequency ++ ((s.shared + length s.own) ∷ (shared_byte (last_name met) s.shared ++ (s.own ++ rest)))) fits.id le new in
    let b = skip_again (frequency_width shape.greatest) s.frequency ((s.shared + length s.own) ∷ (shared_byte (last_name met) s.shared ++ (s.own ++ rest))) fits.frequency in
    let c = byte_again (s.shared + length s.own) (shared_byte (last_name met) s.shared ++ (s.own ++ rest)) in
    let d = shared_again (last_name met) (s.shared + length s.own) s.shared (s.own ++ rest) (omega arith) fits.shared in
    let o = own_again ((s.shared + length s.own) - s.shared) s.own rest own-is own_whole in
    rw (a, b, c, d, o) refl

-- ---- a whole name.

abbrev pub entry_of : Option (List ℕ) → Stored → Entry
entry_of before s = record { id = s.id; name = name_after before s }

-- What a name took, after those that were met.
pub record EntryTakes (shape : Shape) (met : List Entry) (bytes : List ℕ) (after : List Entry × List ℕ) : Type 0 where
  pub stored : Stored
  pub spelled : bytes ≡ stored_bytes shape (last_name met) stored after.1
  pub fits : Fits shape (last_name met) stored
  pub new_id : has_id met stored.id ≡ false
  pub new_name : is_in (names_of met) (name_after (last_name met) stored) ≡ false
  pub added : after.0 ≡ met ++ entry_of (last_name met) stored ∷ []
  pub rest : IsBytes after.1

pub entry_takes : (shape : Shape) (met : List Entry) (bytes : List ℕ) (x : List Entry × List ℕ) → IsBytes bytes → AllByRecursion (λ e. IsName e.name) met → entry_at shape met bytes ≡ Ok x → EntryTakes shape met bytes x
unfolding entry_at
entry_takes shape met bytes x fits each e =
    let a = bind_ok (piece_at shape met bytes) (λ p. cond (is_in (names_of met) (name_of_piece met p)) (Err Repeated) (Ok (met ++ record { id = p.id; name = name_of_piece met p } ∷ [], p.rest))) x e in
    let g = guard_ok (is_in (names_of met) (name_of_piece met a.0)) Repeated (Ok (met ++ record { id = a.0.id; name = name_of_piece met a.0 } ∷ [], a.0.rest)) x a.2 in
    let t = piece_takes shape met bytes a.0 fits each a.1 in
    let whole : EntryTakes shape met bytes (met ++ record { id = a.0.id; name = name_of_piece met a.0 } ∷ [], a.0.rest) = record {
      stored = stored_of t.frequency a.0;
      spelled = t.spelled;
      fits = t.fits;
      new_id = t.new;
      new_name = g.0;
      added = refl;
      rest = t.rest;
    } in
    subst (EntryTakes shape met bytes) (ok_is (met ++ record { id = a.0.id; name = name_of_piece met a.0 } ∷ [], a.0.rest) x g.1) whole

pub entry_again : (shape : Shape) (met : List Entry) (s : Stored) (rest : List ℕ) → shape.count ≤ 16777216 → Fits shape (last_name met) s → has_id met s.id ≡ false → is_in (names_of met) (name_after (last_name met) s) ≡ false
    → entry_at shape met (stored_bytes shape (last_name met) s rest) ≡ Ok (met ++ entry_of (last_name met) s ∷ [], rest)
unfolding entry_at
entry_again shape met s rest le fits new_id new_name =
    rw (piece_again shape met s rest le fits new_id, new_name) refl
