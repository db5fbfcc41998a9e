-- What is kept of a game whose marks or opening code were changed.
use Rattle.std.proofs.Common.{◌≡◌, ◌≢◌, ◌<◌, ◌≤◌, ◌+◌, ◌*◌, ◌/◌, ◌%◌, ◌-◌, ◌^◌, ℕ, zero, suc, Bool, true, List, [], ◌∷◌, length, slice_get, slice_set, get_or, option_map, Option, Some, None, refl, sym, ap, ◌∙◌, subst, inl, inr, arith}
use Rattle.std.proofs.lemmas.Bool.{cases_Bool, cases_eq}
use Rattle.std.proofs.lemmas.List.{length-set}
use Rattle.std.proofs.lemmas.List.Elements.{All-set}
use Rattle.std.proofs.lemmas.Option.{same_Some, get_or_from_slice_get, slice_get_within}
use Rattle.std.proofs.Math.Nat.{div-lt_iff_lt-mul, mod-lt, mul-le-mul_right, one-le-pow, suc-mul}
use Rattle.std.proofs.Math.Seq.{map-set_same}
use Rattle.std.proofs.lemmas.Nat.{pow-add}
use Rattle.game_tree.specs.Date.{is_near, is_unknown}
use Rattle.game_tree.specs.Settle.{first_near_date, settled, taken_up}
use Rattle.game_tree.specs.declared.date.Date.{Date}
use Rattle.game_tree.specs.declared.head.Head.{Head}
use Rattle.game_tree.proofs.SettleLemmas.{settled-near, settled-unknown, settled-far}
use Rattle.index_entry.specs.Entry.{IsEntry}
use Rattle.index_entry.specs.declared.entry.Entry.{Entry}
use Rattle.name_base.specs.NameLists.{NameLists}
use Rattle.base_core.specs.Base.{Held}
use Rattle.base_core.specs.Edited.{ChangedHeads, Does}
use Rattle.base_core.specs.Edits.{changed_at, with_head, with_mark}
use Rattle.base_core.specs.Entries.{extent_of, head_of, sig_in}
use Rattle.base_core.specs.FirstFault.{place_fault}
use Rattle.base_core.specs.Represents.{IsKept, IsSound, Keeps, Kept}
use Rattle.base_core.proofs.GamesLaws.{at-all}
use Rattle.base_core.proofs.KeptLaws.{settled-rest}
use Rattle.base_core.proofs.Lists.{get_some, get-set_same, get-set_other}

-- A head and an entry with these marks and this opening code.
abbrev marked_head : Bool → ℕ → ℕ → Head → Head
marked_head d m c head = record head { deleted = d; marks = m; eco = c }

abbrev pub marked_entry : Bool → ℕ → ℕ → Entry → Entry
marked_entry d m c e = record e { deleted = d; marks = m; eco = c }

-- Settling does not look at marks or at the code.
taken_up-marked : (head : Head) (found : Option Date) (d : Bool) (m c : ℕ) → taken_up (marked_head d m c head) found ≡ marked_head d m c (taken_up head found)
taken_up-marked head None d m c = refl
taken_up-marked head (Some date) d m c = refl

settled-marked : (head : Head) (d : Bool) (m c : ℕ) → settled (marked_head d m c head) ≡ marked_head d m c (settled head)
settled-marked head d m c =
    elim (cases_Bool (is_near head.event_date head.date)) [
      | inl near ↦ settled-near (marked_head d m c head) near ∙ sym (ap (marked_head d m c) (settled-near head near))
      | inr far ↦ elim (cases_Bool (is_unknown head.event_date)) [
        | inl unknown ↦
            settled-unknown (marked_head d m c head) far unknown
            ∙ (taken_up-marked head (first_near_date head.date head.tags) d m c ∙ sym (ap (marked_head d m c) (settled-unknown head far unknown)))
        | inr known ↦ settled-far (marked_head d m c head) far known ∙ sym (ap (marked_head d m c) (settled-far head far known))
      ]
    ]

keeps-marked : (names : NameLists) (games : List ℕ) (e : Entry) (held : Held) (d : Bool) (m c : ℕ) → Keeps names games e held →
    Keeps names games (marked_entry d m c e) (record held { head = marked_head d m c held.head })
unfolding head_of
keeps-marked names games e held d m c is = record {
  says = record {
    tags = is.says.tags;
    within = is.says.within;
    read = is.says.read;
    head = ap (marked_head d m c) is.says.head ∙ sym (settled-marked (head_of names e is.says.tags) d m c);
    len = is.says.len;
  };
  event_date = is.event_date;
  signed = is.signed;
}

-- The marks and the code of a game are those of its entry.
keeps-marks : (names : NameLists) (games : List ℕ) (e : Entry) (held : Held) → Keeps names games e held → held.head.marks ≡ e.marks
unfolding head_of
keeps-marks names games e held is =
    ap (λ (h : Head). h.marks) is.says.head ∙ ap (λ (h : Head). h.marks) (settled-rest (head_of names e is.says.tags))

keeps-eco : (names : NameLists) (games : List ℕ) (e : Entry) (held : Held) → Keeps names games e held → held.head.eco ≡ e.eco
unfolding head_of
keeps-eco names games e held is =
    ap (λ (h : Head). h.eco) is.says.head ∙ ap (λ (h : Head). h.eco) (settled-rest (head_of names e is.says.tags))

keeps-deleted : (names : NameLists) (games : List ℕ) (e : Entry) (held : Held) → Keeps names games e held → held.head.deleted ≡ e.deleted
unfolding head_of
keeps-deleted names games e held is =
    ap (λ (h : Head). h.deleted) is.says.head ∙ ap (λ (h : Head). h.deleted) (settled-rest (head_of names e is.says.tags))

-- ---- one game of a list.

pub changed-length : (change : Held → Held) (i : ℕ) (games : List Held) → length (changed_at change i games) ≡ length games
changed-length change i [] = refl
changed-length change zero (held ∷ games) = refl
changed-length change (suc i) (held ∷ games) = ap suc (changed-length change i games)

pub changed-same : (change : Held → Held) (i : ℕ) (games : List Held) → slice_get (changed_at change i games) i ≡ option_map change (slice_get games i)
changed-same change i [] = refl
changed-same change zero (held ∷ games) = refl
changed-same change (suc i) (held ∷ games) = changed-same change i games

pub changed-other : (change : Held → Held) (i j : ℕ) (games : List Held) → j ≢ i → slice_get (changed_at change i games) j ≡ slice_get games j
changed-other change i j [] other = refl
changed-other change zero zero (held ∷ games) other = absurd (other refl)
changed-other change zero (suc j) (held ∷ games) other = refl
changed-other change (suc i) zero (held ∷ games) other = refl
changed-other change (suc i) (suc j) (held ∷ games) other = changed-other change i j games (λ same. other (ap suc same))

-- ---- what is kept.

-- What is kept with another entry in one place.
abbrev pub put : Kept → ℕ → Entry → Kept
put kept i e = record kept { entries = slice_set kept.entries i e; unsaved = true }

-- A game's entry is replaced by that of the game with another head.
put-does : (old : Kept) (i : ℕ) (e f : Entry) (change : Head → Head) → slice_get old.entries i ≡ Some e →
    ((games : List ℕ) (held : Held) → Keeps old.names games e held → Keeps old.names games f (record held { head = change held.head })) → Does (with_head change i) old (put old i f)
put-does old i e f change at keeps = λ games base is.
    let whole : Held → Held = λ held. record held { head = change held.head } in
    let below : i < length old.entries = slice_get_within old.entries i e at in
    let before = get_some base.games i (subst (λ n. i < n) is.count below) in
    let now = keeps games before.0 (is.each i e before.0 at before.1) in
    record {
      header = is.header;
      names = is.names;
      end = is.end;
      count = length-set old.entries i f ∙ (is.count ∙ sym (changed-length whole i base.games));
      each = λ j x held at_x at_held.
          elim (cases_eq j i) [
            | inl same ↦
                let entry : f ≡ x = same_Some f x (sym (get-set_same old.entries i f below) ∙ subst (λ k. slice_get (slice_set old.entries i f) k ≡ Some x) same at_x) in
                let game : whole before.0 ≡ held =
                same_Some (whole before.0) held (sym (changed-same whole i base.games ∙ ap (option_map whole) before.1) ∙ subst (λ k. slice_get (changed_at whole i base.games) k ≡ Some held) same at_held)
                in
                let E : Entry → Type 0 = λ y. Keeps old.names games y (whole before.0) in
                let H : Held → Type 0 = λ y. Keeps old.names games x y in
                subst H game (subst E entry now)
            | inr other ↦ is.each j x held (sym (get-set_other old.entries i j f other) ∙ at_x) (sym (changed-other whole i j base.games other) ∙ at_held)
          ];
    }

-- A head that has the marks and the code of its entry.
pub record AreOf (e : Entry) (head : Head) : Type 0 where
  pub deleted : head.deleted ≡ e.deleted
  pub marks : head.marks ≡ e.marks
  pub eco : head.eco ≡ e.eco

-- The marks and the code, where the change of the head sets them so.
pub marks-do : (old : Kept) (i : ℕ) (e : Entry) (d : Bool) (m c : ℕ) (change : Head → Head) → slice_get old.entries i ≡ Some e →
    ((head : Head) → AreOf e head → marked_head d m c head ≡ change head) → Does (with_head change i) old (put old i (marked_entry d m c e))
marks-do old i e d m c change at so =
    put-does old i e (marked_entry d m c e) change at
    (λ games held is.
    let K : Head → Type 0 = λ h. Keeps old.names games (marked_entry d m c e) (record held { head = h }) in
    let are : AreOf e held.head = record { deleted = keeps-deleted old.names games e held is; marks = keeps-marks old.names games e held is; eco = keeps-eco old.names games e held is } in
    subst K (so held.head are) (keeps-marked old.names games e held d m c is))

pub deletes : (e : Entry) (d : Bool) (head : Head) → AreOf e head → marked_head d e.marks e.eco head ≡ record head { deleted = d }
deletes e d head are =
    ap (λ (m : ℕ). marked_head d m e.eco head) (sym are.marks) ∙ ap (λ (c : ℕ). marked_head d head.marks c head) (sym are.eco)

pub marks : (e : Entry) (bit : ℕ) (on : Bool) (m : ℕ) → m ≡ with_mark e.marks bit on → (head : Head) → AreOf e head →
    marked_head e.deleted m e.eco head ≡ record head { marks = with_mark head.marks bit on }
marks e bit on m is head are =
    ap (λ (d : Bool). marked_head d m e.eco head) (sym are.deleted)
    ∙ (ap (λ (n : ℕ). marked_head head.deleted n e.eco head) (is ∙ ap (λ (n : ℕ). with_mark n bit on) (sym are.marks))
    ∙ ap (λ (c : ℕ). marked_head head.deleted (with_mark head.marks bit on) c head) (sym are.eco))

pub classifies : (e : Entry) (c : ℕ) (head : Head) → AreOf e head → marked_head e.deleted e.marks c head ≡ record head { eco = c }
classifies e c head are =
    ap (λ (d : Bool). marked_head d e.marks c head) (sym are.deleted) ∙ ap (λ (m : ℕ). marked_head head.deleted m c head) (sym are.marks)

-- Only the head of the game was changed.
pub put-heads : (old : Kept) (i : ℕ) (e : Entry) (d : Bool) (m c : ℕ) → slice_get old.entries i ≡ Some e → ChangedHeads old (put old i (marked_entry d m c e))
put-heads old i e d m c at =
    let is : get_or old.entries i e ≡ e = get_or_from_slice_get old.entries i e e at in
    record {
      header = refl;
      names = refl;
      extents = map-set_same extent_of old.entries i (marked_entry d m c e) e (ap extent_of (sym is));
      sigs = map-set_same sig_in old.entries i (marked_entry d m c e) e (ap sig_in (sym is));
      end = refl;
      unsaved = refl;
    }

-- An entry with other marks and another code is kept as the old one was.
pub marked-entry : (e : Entry) (d : Bool) (m c : ℕ) → IsEntry e → m < 2 ^ 18 → c ≤ 65500 → IsEntry (marked_entry d m c e)
marked-entry e d m c is few low = record {
  len = is.len;
  marks = few;
  white = is.white;
  black = is.black;
  event = is.event;
  site = is.site;
  round = is.round;
  vars = is.vars;
  comments = is.comments;
  nags = is.nags;
  eco = low;
  date = is.date;
  event_date = is.event_date;
  event_rule = is.event_rule;
  white_rating = is.white_rating;
  black_rating = is.black_rating;
  material = is.material;
  plies = is.plies;
  home_count = is.home_count;
  home = is.home;
}

marked-kept : (names : NameLists) (end : ℕ) (e : Entry) (d : Bool) (m c : ℕ) → IsKept names end e → m < 2 ^ 18 → c ≤ 65500 → IsKept names end (marked_entry d m c e)
unfolding place_fault
marked-kept names end e d m c is few low = record {
  fields = marked-entry e d m c is.fields few low;
  named = record { white = is.named.white; black = is.named.black; event = is.named.event; site = is.named.site; round = is.named.round };
  placed = is.placed;
  homes = is.homes;
}

pub marked-sound : (old : Kept) (i : ℕ) (e : Entry) (d : Bool) (m c : ℕ) → slice_get old.entries i ≡ Some e → IsSound old → m < 2 ^ 18 → c ≤ 65500 → IsSound (put old i (marked_entry d m c e))
marked-sound old i e d m c at is few low = record {
  header = is.header;
  count = length-set old.entries i (marked_entry d m c e) ∙ is.count;
  names = is.names;
  entries = All-set (IsKept old.names old.end) old.entries i (marked_entry d m c e) (marked-kept old.names old.end e d m c (at-all (IsKept old.names old.end) old.entries i e is.entries at) few low) is.entries;
}

-- ---- one mark.

-- The marks with one set or not are as few as they were.
pub with_mark-few : (marks bit this : ℕ) → marks < 2 ^ 18 → bit < 18 → this ≤ 2 ^ bit → marks / 2 ^ (bit + 1) * 2 ^ (bit + 1) + this + marks % 2 ^ bit < 2 ^ 18
with_mark-few marks bit this few below little =
    let p = 2 ^ (bit + 1) in
    let k = 2 ^ (17 - bit) in
    let sum : 17 - bit + (bit + 1) ≡ 18 = omega (arith, below) in
    let whole : k * p ≡ 2 ^ 18 = sym (pow-add 2 (17 - bit) (bit + 1)) ∙ ap (λ n. 2 ^ n) sum in
    let twice : p ≡ 2 ^ bit * 2 = pow-add 2 bit 1 in
    let some : 0 < 2 ^ bit = one-le-pow bit 2 (omega arith) in
    let some_p : 0 < p = omega (arith, twice, some) in
    let q : marks / p < k = (div-lt_iff_lt-mul some_p).1 (subst (λ n. marks < n) (sym whole) few) in
    let up : suc (marks / p) * p ≤ k * p = mul-le-mul_right p q in
    let more : suc (marks / p) * p ≡ marks / p * p + p = suc-mul (marks / p) p in
    let rest : marks % 2 ^ bit < 2 ^ bit = mod-lt marks some in
    omega (arith, up, more, rest, little, whole, twice)
