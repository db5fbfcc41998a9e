-- Entries one after the other in a list of bytes.
use Rattle.std.proofs.Common.{◌≡◌, ◌<◌, ◌≤◌, ◌+◌, ◌*◌, ◌≢◌, ℕ, List, [], ◌∷◌, ◌++◌, length, map, take, drop, slice_get, slice_set, get_or, Some, Ok, refl, sym, ap, ◌∙◌, subst, inl, inr, arith, eq-or-lt_of_le}
use Rattle.std.specs.List.{range_with_len}
use Rattle.std.proofs.lemmas.Bool.{cases_eq, cases_order}
use Rattle.std.proofs.lemmas.Option.{same_Some, slice_get-get_or, slice_get_within}
use Rattle.std.proofs.lemmas.List.{drop-append-le, drop-drop, take-append-le, drop_all, take_all, ext_get_or, length-append, length-drop, length-take-le, length-set, get_or-set_same, get_or-set_other, get_or-take, take-append-drop, append_assoc}
use Rattle.std.proofs.lemmas.Slice.{drop-append-drop}
use Rattle.std.proofs.lemmas.List.FromFn.{get_or-map-range_with_len, length-map-range_with_len, map-range_with_len_more}
use Rattle.index_entry.specs.Entry.{IsWritten, entry_in, entry_read}
use Rattle.index_entry.specs.declared.entry.Entry.{Entry}
use Rattle.base_core.specs.Packing.{AreFirst, ArePacked, AreWritten, entries_in, packed_at}
use Rattle.base_core.proofs.CheckLaws.{read_is}

pub entries-length : (bytes : List ℕ) (count : ℕ) → length (entries_in bytes count) ≡ count
unfolding entries_in
entries-length bytes count = length-map-range_with_len (λ i. entry_in (packed_at bytes i)) 0 count

pub entries-get : (bytes : List ℕ) (count i : ℕ) → i < count → slice_get (entries_in bytes count) i ≡ Some (entry_in (packed_at bytes i))
unfolding entries_in
entries-get bytes count i below =
    let f : ℕ → Entry = λ k. entry_in (packed_at bytes k) in
    let long : i < length (map f (range_with_len 0 count)) = subst (λ n. i < n) (sym (length-map-range_with_len f 0 count)) below in
    slice_get-get_or (map f (range_with_len 0 count)) i (f i) long
    ∙ ap (λ (e : Entry). Some e) (get_or-map-range_with_len f 0 count i i (f i) below (omega arith))

-- The bytes of an entry stay where they are as bytes are added behind them.
packed-old : (bytes more : List ℕ) (i : ℕ) → 47 * i + 47 ≤ length bytes → packed_at (bytes ++ more) i ≡ packed_at bytes i
packed-old bytes more i within =
    let at : 47 * i ≤ length bytes = omega (arith, within) in
    let long : 47 ≤ length (drop (47 * i) bytes) = omega (arith, within, length-drop (47 * i) bytes) in
    ap (λ (b : List ℕ). take 47 b) (drop-append-le (47 * i) bytes more at) ∙ take-append-le 47 (drop (47 * i) bytes) more long

packed-new : (bytes more : List ℕ) (count : ℕ) → length bytes ≡ 47 * count → length more ≡ 47 → packed_at (bytes ++ more) count ≡ more
packed-new bytes more count long size =
    ap (λ (b : List ℕ). take 47 b) (drop-append-le (47 * count) bytes more (omega (arith, long)) ∙ ap (λ (b : List ℕ). b ++ more) (drop_all (47 * count) bytes (omega (arith, long))))
    ∙ take_all 47 more (omega (arith, size))

pub within : (bytes : List ℕ) (count i : ℕ) → length bytes ≡ 47 * count → i < count → 47 * i + 47 ≤ length bytes
within bytes count i long below = omega (arith, long, below)

pub entries-push : (bytes more : List ℕ) (count : ℕ) (e : Entry) → length bytes ≡ 47 * count → length more ≡ 47 → entry_read more ≡ Ok e → entries_in (bytes ++ more) (count + 1) ≡ entries_in bytes count ++ e ∷ []
unfolding entries_in
entries-push bytes more count e long size read =
    let f : ℕ → Entry = λ k. entry_in (packed_at bytes k) in
    let g : ℕ → Entry = λ k. entry_in (packed_at (bytes ++ more) k) in
    let front : map g (range_with_len 0 count) ≡ map f (range_with_len 0 count) =
    ext_get_or e (map g (range_with_len 0 count)) (map f (range_with_len 0 count)) (length-map-range_with_len g 0 count ∙ sym (length-map-range_with_len f 0 count))
    (λ i below.
    let at : i < count = subst (λ n. i < n) (length-map-range_with_len g 0 count) below in
    get_or-map-range_with_len g 0 count i i e at (omega arith)
    ∙ (ap (λ (b : List ℕ). entry_in b) (packed-old bytes more i (within bytes count i long at)) ∙ sym (get_or-map-range_with_len f 0 count i i e at (omega arith))))
    in
    let last : g count ≡ e = ap (λ (b : List ℕ). entry_in b) (packed-new bytes more count long size) ∙ read_is more e read in
    map-range_with_len_more g 0 count count (omega arith)
    ∙ (ap (λ (es : List Entry). es ++ g count ∷ []) front ∙ ap (λ (x : Entry). map f (range_with_len 0 count) ++ x ∷ []) last)

-- An entry in its written form.
abbrev IsOwn : List ℕ → Type 0
IsOwn bytes = IsWritten bytes (entry_in bytes)

written-as : {bytes more : List ℕ} (e : Entry) → bytes ≡ more → IsWritten more e → IsOwn bytes
written-as {bytes} {more} e same is =
    let W : Entry → Type 0 = λ x. IsWritten more x in
    subst IsOwn (sym same) (subst W (sym (read_is more e is.says)) is)

pub packed-push : (bytes more : List ℕ) (count : ℕ) (e : Entry) → ArePacked bytes count → IsWritten more e → ArePacked (bytes ++ more) (count + 1)
packed-push bytes more count e are is = record {
  size = length-append bytes more ∙ omega (arith, are.size, is.size);
  each = λ i below.
      let last : i ≤ count = omega (arith, below) in
      elim (eq-or-lt_of_le last) [
        | inl same ↦ written-as e (ap (λ (k : ℕ). packed_at (bytes ++ more) k) same ∙ packed-new bytes more count are.size is.size) is
        | inr less ↦ subst IsOwn (sym (packed-old bytes more i (within bytes count i are.size less))) (are.each i less)
      ];
}

-- ---- another entry in one place.

-- The bytes with these in the place of an entry.
abbrev pub put_at : List ℕ → ℕ → List ℕ → List ℕ
put_at bytes i more = take (47 * i) bytes ++ (more ++ drop (47 * i + 47) bytes)

pub put-length : (bytes more : List ℕ) (count i : ℕ) → length bytes ≡ 47 * count → length more ≡ 47 → i < count → length (put_at bytes i more) ≡ 47 * count
put-length bytes more count i long size below =
    length-append (take (47 * i) bytes) (more ++ drop (47 * i + 47) bytes)
    ∙ (rw (length-append more (drop (47 * i + 47) bytes), length-take-le (47 * i) bytes (omega (arith, long, below)), length-drop (47 * i + 47) bytes) (omega (arith, long, size, below)))

put-same : (bytes more : List ℕ) (i : ℕ) → 47 * i + 47 ≤ length bytes → length more ≡ 47 → packed_at (put_at bytes i more) i ≡ more
put-same bytes more i long size =
    let front : length (take (47 * i) bytes) ≡ 47 * i = length-take-le (47 * i) bytes (omega (arith, long)) in
    let at : 47 * i ≤ length (take (47 * i) bytes) = omega (arith, front) in
    ap (λ (b : List ℕ). take 47 b) (drop-append-le (47 * i) (take (47 * i) bytes) (more ++ drop (47 * i + 47) bytes) at ∙ ap (λ (b : List ℕ). b ++ (more ++ drop (47 * i + 47) bytes)) (drop_all (47 * i) (take (47 * i) bytes) (omega (arith, front))))
    ∙ (take-append-le 47 more (drop (47 * i + 47) bytes) (omega (arith, size)) ∙ take_all 47 more (omega (arith, size)))

-- An entry before the place, of whatever bytes stand behind.
front-at : (bytes rest : List ℕ) (i j : ℕ) → 47 * i ≤ length bytes → j < i → packed_at (take (47 * i) bytes ++ rest) j ≡ packed_at (take (47 * i) bytes) j
front-at bytes rest i j within less =
    let front : length (take (47 * i) bytes) ≡ 47 * i = length-take-le (47 * i) bytes within in
    packed-old (take (47 * i) bytes) rest j (omega (arith, front, less))

put-before : (bytes more : List ℕ) (i j : ℕ) → 47 * i ≤ length bytes → j < i → packed_at (put_at bytes i more) j ≡ packed_at bytes j
put-before bytes more i j in_file less =
    front-at bytes (more ++ drop (47 * i + 47) bytes) i j in_file less
    ∙ (sym (front-at bytes (drop (47 * i) bytes) i j in_file less) ∙ ap (λ (b : List ℕ). packed_at b j) (take-append-drop (47 * i) bytes))

put-behind : (bytes more : List ℕ) (count i j : ℕ) → length bytes ≡ 47 * count → length more ≡ 47 → i < count → i < j → packed_at (put_at bytes i more) j ≡ packed_at bytes j
put-behind bytes more count i j long size below less =
    let front : length (take (47 * i) bytes ++ more) ≡ 47 * i + 47 =
    length-append (take (47 * i) bytes) more ∙ rw (length-take-le (47 * i) bytes (omega (arith, long, below)), size) refl
    in
    let joined : put_at bytes i more ≡ (take (47 * i) bytes ++ more) ++ drop (47 * i + 47) bytes = sym (append_assoc (take (47 * i) bytes) more (drop (47 * i + 47) bytes)) in
    ap (λ (b : List ℕ). packed_at b j) joined ∙ ap (λ (b : List ℕ). take 47 b) (drop-append-drop (47 * i + 47) bytes (take (47 * i) bytes ++ more) (47 * j) (omega (arith, less)) front)

put-other : (bytes more : List ℕ) (count i j : ℕ) → length bytes ≡ 47 * count → length more ≡ 47 → i < count → j ≢ i → packed_at (put_at bytes i more) j ≡ packed_at bytes j
put-other bytes more count i j long size below other =
    elim (cases_order j i) [
      | inl same ↦ absurd (other same)
      | inr apart ↦ elim apart [
        | inl before ↦ put-before bytes more i j (omega (arith, long, below)) before
        | inr behind ↦ put-behind bytes more count i j long size below behind
      ]
    ]

pub packed-put : (bytes more : List ℕ) (count i : ℕ) (e : Entry) → ArePacked bytes count → IsWritten more e → i < count → ArePacked (put_at bytes i more) count
packed-put bytes more count i e are is below = record {
  size = put-length bytes more count i are.size is.size below;
  each = λ j there.
      elim (cases_eq j i) [
        | inl same ↦ written-as e (ap (λ (k : ℕ). packed_at (put_at bytes i more) k) same ∙ put-same bytes more i (within bytes count i are.size below) is.size) is
        | inr other ↦ subst IsOwn (sym (put-other bytes more count i j are.size is.size below other)) (are.each j there)
      ];
}

pub entries-put : (bytes more : List ℕ) (count i : ℕ) (e : Entry) → length bytes ≡ 47 * count → IsWritten more e → i < count → entries_in (put_at bytes i more) count ≡ slice_set (entries_in bytes count) i e
unfolding entries_in
entries-put bytes more count i e long is below =
    let f : ℕ → Entry = λ k. entry_in (packed_at bytes k) in
    let g : ℕ → Entry = λ k. entry_in (packed_at (put_at bytes i more) k) in
    let fs : length (map f (range_with_len 0 count)) ≡ count = length-map-range_with_len f 0 count in
    let gs : length (map g (range_with_len 0 count)) ≡ count = length-map-range_with_len g 0 count in
    ext_get_or e (map g (range_with_len 0 count)) (slice_set (map f (range_with_len 0 count)) i e) (gs ∙ (sym fs ∙ sym (length-set (map f (range_with_len 0 count)) i e)))
    (λ j there.
    let at : j < count = subst (λ n. j < n) gs there in
    get_or-map-range_with_len g 0 count j j e at (omega arith)
    ∙ (elim (cases_eq j i) [
      | inl same ↦
          let new : g i ≡ e = ap (λ (b : List ℕ). entry_in b) (put-same bytes more i (within bytes count i long below) is.size) ∙ read_is more e is.says in
          ap g same ∙ (new ∙ sym (ap (λ (k : ℕ). get_or (slice_set (map f (range_with_len 0 count)) i e) k e) same ∙ get_or-set_same (map f (range_with_len 0 count)) i e e (subst (λ n. i < n) (sym fs) below)))
      | inr other ↦
          ap (λ (b : List ℕ). entry_in b) (put-other bytes more count i j long is.size below other)
          ∙ sym (get_or-set_other (map f (range_with_len 0 count)) i j e e other ∙ get_or-map-range_with_len f 0 count j j e at (omega arith))
    ]))

-- ---- the first entries.

front-own : (bytes : List ℕ) (count i : ℕ) → 47 * count ≤ length bytes → i < count → packed_at (take (47 * count) bytes) i ≡ packed_at bytes i
front-own bytes count i within below =
    let front : length (take (47 * count) bytes) ≡ 47 * count = length-take-le (47 * count) bytes within in
    sym (packed-old (take (47 * count) bytes) (drop (47 * count) bytes) i (omega (arith, front, below))) ∙ ap (λ (b : List ℕ). packed_at b i) (take-append-drop (47 * count) bytes)

pub packed-front : (bytes : List ℕ) (all count : ℕ) → ArePacked bytes all → count ≤ all → ArePacked (take (47 * count) bytes) count
packed-front bytes all count are few =
    let within : 47 * count ≤ length bytes = omega (arith, are.size, few) in
    record {
      size = length-take-le (47 * count) bytes within;
      each = λ i below. subst IsOwn (sym (front-own bytes count i within below)) (are.each i (omega (arith, below, few)));
    }

pub entries-front : (bytes : List ℕ) (all count : ℕ) → length bytes ≡ 47 * all → count ≤ all → entries_in (take (47 * count) bytes) count ≡ take count (entries_in bytes all)
unfolding entries_in
entries-front bytes all count long few =
    let f : ℕ → Entry = λ k. entry_in (packed_at bytes k) in
    let g : ℕ → Entry = λ k. entry_in (packed_at (take (47 * count) bytes) k) in
    let within : 47 * count ≤ length bytes = omega (arith, long, few) in
    let fs : length (map f (range_with_len 0 all)) ≡ all = length-map-range_with_len f 0 all in
    let gs : length (map g (range_with_len 0 count)) ≡ count = length-map-range_with_len g 0 count in
    let e : Entry = entry_in bytes in
    ext_get_or e (map g (range_with_len 0 count)) (take count (map f (range_with_len 0 all))) (gs ∙ sym (length-take-le count (map f (range_with_len 0 all)) (omega (arith, fs, few))))
    (λ i below.
    let at : i < count = subst (λ n. i < n) gs below in
    get_or-map-range_with_len g 0 count i i e at (omega arith)
    ∙ (ap (λ (b : List ℕ). entry_in b) (front-own bytes count i within at)
    ∙ sym (get_or-take count (map f (range_with_len 0 all)) i e at ∙ get_or-map-range_with_len f 0 all i i e (omega (arith, at, few)) (omega arith))))

pub none-packed : ArePacked [] 0
none-packed = record { size = refl; each = λ i below. absurd (omega (arith, below)) }

pub no-entries : entries_in [] 0 ≡ []
unfolding entries_in
no-entries = refl

-- ---- entries of which the first were read.

pub none-first : (bytes : List ℕ) → AreFirst bytes 0
none-first bytes = record { within = omega arith; each = λ i below. absurd (omega (arith, below)) }

pub none-read : (bytes : List ℕ) → entries_in bytes 0 ≡ []
unfolding entries_in
none-read bytes = refl

pub put-size : (bytes more : List ℕ) (i : ℕ) → length more ≡ 47 → 47 * i + 47 ≤ length bytes → length (put_at bytes i more) ≡ length bytes
put-size bytes more i size there =
    length-append (take (47 * i) bytes) (more ++ drop (47 * i + 47) bytes)
    ∙ (rw (length-append more (drop (47 * i + 47) bytes), length-take-le (47 * i) bytes (omega (arith, there)), length-drop (47 * i + 47) bytes) (omega (arith, size, there)))

pub first-put : (bytes more : List ℕ) (count : ℕ) (e : Entry) → AreFirst bytes count → IsWritten more e → 47 * count + 47 ≤ length bytes → AreFirst (put_at bytes count more) (count + 1)
first-put bytes more count e are is there = record {
  within =
      let long : length (put_at bytes count more) ≡ length bytes = put-size bytes more count is.size there in
      omega (arith, long, there);
  each = λ i below.
      let last : i ≤ count = omega (arith, below) in
      elim (eq-or-lt_of_le last) [
        | inl same ↦ written-as e (ap (λ (k : ℕ). packed_at (put_at bytes count more) k) same ∙ put-same bytes more count there is.size) is
        | inr less ↦ subst IsOwn (sym (put-before bytes more count i are.within less)) (are.each i less)
      ];
}

pub entries-put-next : (bytes more : List ℕ) (count : ℕ) (e : Entry) → IsWritten more e → 47 * count + 47 ≤ length bytes → entries_in (put_at bytes count more) (count + 1) ≡ entries_in bytes count ++ e ∷ []
unfolding entries_in
entries-put-next bytes more count e is there =
    let f : ℕ → Entry = λ k. entry_in (packed_at bytes k) in
    let g : ℕ → Entry = λ k. entry_in (packed_at (put_at bytes count more) k) in
    let in_file : 47 * count ≤ length bytes = omega (arith, there) in
    let front : map g (range_with_len 0 count) ≡ map f (range_with_len 0 count) =
    ext_get_or e (map g (range_with_len 0 count)) (map f (range_with_len 0 count)) (length-map-range_with_len g 0 count ∙ sym (length-map-range_with_len f 0 count))
    (λ i below.
    let at : i < count = subst (λ n. i < n) (length-map-range_with_len g 0 count) below in
    get_or-map-range_with_len g 0 count i i e at (omega arith)
    ∙ (ap (λ (b : List ℕ). entry_in b) (put-before bytes more count i in_file at) ∙ sym (get_or-map-range_with_len f 0 count i i e at (omega arith))))
    in
    let last : g count ≡ e = ap (λ (b : List ℕ). entry_in b) (put-same bytes more count there is.size) ∙ read_is more e is.says in
    map-range_with_len_more g 0 count count (omega arith)
    ∙ (ap (λ (es : List Entry). es ++ g count ∷ []) front ∙ ap (λ (x : Entry). map f (range_with_len 0 count) ++ x ∷ []) last)

-- What stands behind an entry stays where it is.
pub ahead-put : (bytes more : List ℕ) (count : ℕ) → length more ≡ 47 → 47 * count + 47 ≤ length bytes → drop (47 * (count + 1)) (put_at bytes count more) ≡ drop 47 (drop (47 * count) bytes)
ahead-put bytes more count size there =
    let front : length (take (47 * count) bytes ++ more) ≡ 47 * count + 47 =
    length-append (take (47 * count) bytes) more ∙ rw (length-take-le (47 * count) bytes (omega (arith, there)), size) refl
    in
    let joined : put_at bytes count more ≡ (take (47 * count) bytes ++ more) ++ drop (47 * count + 47) bytes = sym (append_assoc (take (47 * count) bytes) more (drop (47 * count + 47) bytes)) in
    ap (λ (b : List ℕ). drop (47 * (count + 1)) b) joined
    ∙ (drop-append-drop (47 * count + 47) bytes (take (47 * count) bytes ++ more) (47 * (count + 1)) (omega arith) front
    ∙ (ap (λ (n : ℕ). drop n bytes) (omega arith) ∙ sym (drop-drop 47 (47 * count) bytes)))

pub first-packed : (bytes : List ℕ) (count : ℕ) → AreFirst bytes count → ArePacked (take (47 * count) bytes) count
first-packed bytes count are = record {
  size = length-take-le (47 * count) bytes are.within;
  each = λ i below. subst IsOwn (sym (front-own bytes count i are.within below)) (are.each i below);
}

pub entries-first : (bytes : List ℕ) (count : ℕ) → AreFirst bytes count → entries_in (take (47 * count) bytes) count ≡ entries_in bytes count
unfolding entries_in
entries-first bytes count are =
    let f : ℕ → Entry = λ k. entry_in (packed_at bytes k) in
    let g : ℕ → Entry = λ k. entry_in (packed_at (take (47 * count) bytes) k) in
    let e : Entry = entry_in bytes in
    ext_get_or e (map g (range_with_len 0 count)) (map f (range_with_len 0 count)) (length-map-range_with_len g 0 count ∙ sym (length-map-range_with_len f 0 count))
    (λ i below.
    let at : i < count = subst (λ n. i < n) (length-map-range_with_len g 0 count) below in
    get_or-map-range_with_len g 0 count i i e at (omega arith)
    ∙ (ap (λ (b : List ℕ). entry_in b) (front-own bytes count i are.within at) ∙ sym (get_or-map-range_with_len f 0 count i i e at (omega arith))))

-- The bytes of the list are the written forms of its entries.
pub are-written : (bytes : List ℕ) (count : ℕ) → ArePacked bytes count → AreWritten bytes (entries_in bytes count)
are-written bytes count are = record {
  size = are.size ∙ ap (λ n. 47 * n) (sym (entries-length bytes count));
  each = λ i e at.
      let below : i < count = subst (λ n. i < n) (entries-length bytes count) (slice_get_within (entries_in bytes count) i e at) in
      let W : Entry → Type 0 = λ x. IsWritten (packed_at bytes i) x in
      subst W (same_Some (entry_in (packed_at bytes i)) e (sym (entries-get bytes count i below) ∙ at)) (are.each i below);
}
