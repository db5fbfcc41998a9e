-- What holds of names that were read, whatever the bytes: ids that differ and are below the count, and no more names than the limits.
use Rattle.std.proofs.Common.{◌≡◌, ◌≤◌, ◌<◌, ◌+◌, ◌-◌, ℕ, zero, suc, false, cond, eqb, ltb, leb, List, [], ◌∷◌, ◌++◌, length, Some, Ok, Err, refl, sym, ap, subst, ◌∙◌, arith}
use Rattle.std.specs.List.{AllByRecursion, IsDistinct}
use Rattle.std.specs.Cmp.{nat_eq_equiv}
use Rattle.std.proofs.lemmas.Bool.{leb-false, ltb-false}
use Rattle.std.proofs.lemmas.List.{length-append, map-append}
use Rattle.std.proofs.lemmas.Map.Keys.{IsDistinct-push}
use Rattle.name_base.specs.declared.header.Shape.{Shape}
use Rattle.name_base.specs.declared.header.PerKind.{PerKind}
use Rattle.name_base.specs.declared.header.Header.{Header}
use Rattle.name_base.specs.declared.kind.NameKind.{NameKind}
use Rattle.name_base.specs.declared.kind.NameKind.TheVariants.{Player, Event, Site, Round}
use Rattle.name_base.specs.declared.fault.NameWhat.TheVariants.{Count, IdRange, IdTwice, Repeated}
use Rattle.name_base.specs.NameLists.{is_in, limit_of}
use Rattle.name_base.specs.NamesFile.{Entry, AreCounts, id_width, frequency_width}
use Rattle.name_base.specs.Reading.{◌>>=◌, Piece, blamed, number_at, skip_at, byte_at, shared_at, own_at, id_at, piece_at, entry_at, entries_at, has_id, names_of, last_name, name_of_piece, count_at, per_kind_at, magic_at, header_at}
use Rattle.name_base.proofs.NameLemmas.{list_any-map, AllByRecursion-push}
use Rattle.name_base.proofs.FieldLemmas.{bind_ok, guard_ok, ok_is}
use Rattle.name_base.proofs.ByIdLemmas.{ids_of}
use Rattle.name_base.proofs.KindLemmas.{blamed_ok}

-- ---- ids.

id_new : (count : ℕ) (met : List Entry) (bytes : List ℕ) (x : ℕ × List ℕ) → id_at count met bytes ≡ Ok x → (x.0 < count) × (has_id met x.0 ≡ false)
unfolding id_at
id_new count met bytes x e =
    let a = bind_ok (number_at (id_width count) bytes) (λ id. cond (leb count id.0) (Err IdRange) (cond (has_id met id.0) (Err IdTwice) (Ok id))) x e in
    let g = guard_ok (leb count a.0.0) IdRange (cond (has_id met a.0.0) (Err IdTwice) (Ok a.0)) x a.2 in
    let h = guard_ok (has_id met a.0.0) IdTwice (Ok a.0) x g.1 in
    subst (λ (y : ℕ × List ℕ). (y.0 < count) × (has_id met y.0 ≡ false)) (ok_is a.0 x h.1) (leb-false _ _ g.0, h.0)

piece_new : (shape : Shape) (met : List Entry) (bytes : List ℕ) (p : Piece) → piece_at shape met bytes ≡ Ok p → (p.id < shape.count) × (has_id met p.id ≡ false)
unfolding piece_at
piece_new shape met bytes p e =
    let a = bind_ok (id_at shape.count met bytes) (λ id. skip_at (frequency_width shape.greatest) id.1 >>= λ after. byte_at after >>= λ len. shared_at (last_name met) len.0 len.1 >>= λ shared. own_at (len.0 - shared.0) shared.1 >>= λ own. Ok (record { id = id.0; shared = shared.0; own = own.0; rest = own.1 })) p e in
    let b = bind_ok (skip_at (frequency_width shape.greatest) a.0.1) (λ after. byte_at after >>= λ len. shared_at (last_name met) len.0 len.1 >>= λ shared. own_at (len.0 - shared.0) shared.1 >>= λ own. Ok (record { id = a.0.0; shared = shared.0; own = own.0; rest = own.1 })) p a.2 in
    let c = bind_ok (byte_at b.0) (λ len. shared_at (last_name met) len.0 len.1 >>= λ shared. own_at (len.0 - shared.0) shared.1 >>= λ own. Ok (record { id = a.0.0; shared = shared.0; own = own.0; rest = own.1 })) p b.2 in
    let d = bind_ok (shared_at (last_name met) c.0.0 c.0.1) (λ shared. own_at (c.0.0 - shared.0) shared.1 >>= λ own. Ok (record { id = a.0.0; shared = shared.0; own = own.0; rest = own.1 })) p c.2 in
    let o = bind_ok (own_at (c.0.0 - d.0.0) d.0.1) (λ own. Ok (record { id = a.0.0; shared = d.0.0; own = own.0; rest = own.1 })) p d.2 in
    let made : Piece = record { id = a.0.0; shared = d.0.0; own = o.0.0; rest = o.0.1 } in
    subst (λ (q : Piece). (q.id < shape.count) × (has_id met q.id ≡ false)) (ok_is made p o.2) (id_new shape.count met bytes a.0 a.1)

-- The names are those before and a new one.
record Adds (shape : Shape) (met after : List Entry) : Type 0 where
  one : Entry
  added : after ≡ met ++ one ∷ []
  below : one.id < shape.count
  new : has_id met one.id ≡ false

entry_new : (shape : Shape) (met : List Entry) (bytes : List ℕ) (x : List Entry × List ℕ) → entry_at shape met bytes ≡ Ok x → Adds shape met x.0
unfolding entry_at
entry_new shape met bytes x e =
    let a = bind_ok (piece_at shape met bytes) (λ p. cond (is_in (names_of met) (name_of_piece met p)) (Err Repeated) (Ok (met ++ record { id = p.id; name = name_of_piece met p } ∷ [], p.rest))) x e in
    let g = guard_ok (is_in (names_of met) (name_of_piece met a.0)) Repeated (Ok (met ++ record { id = a.0.id; name = name_of_piece met a.0 } ∷ [], a.0.rest)) x a.2 in
    let p = piece_new shape met bytes a.0 a.1 in
    let made : List Entry × List ℕ = (met ++ record { id = a.0.id; name = name_of_piece met a.0 } ∷ [], a.0.rest) in
    subst (λ (y : List Entry × List ℕ). Adds shape met y.0) (ok_is made x g.1) (record { one = record { id = a.0.id; name = name_of_piece met a.0 }; added = refl; below = p.0; new = p.1 })

-- So many names more, with ids that differ.
pub record AddsAll (shape : Shape) (n : ℕ) (met after : List Entry) : Type 0 where
  pub ids : IsDistinct eqb (ids_of after)
  pub below : AllByRecursion (λ e. e.id < shape.count) after
  pub long : length after ≡ n + length met

pub entries_new : (kind : NameKind) (shape : Shape) (n : ℕ) (met : List Entry) (bytes : List ℕ) (x : List Entry × List ℕ) → IsDistinct eqb (ids_of met) → AllByRecursion (λ e. e.id < shape.count) met
    → entries_at kind shape n met bytes ≡ Ok x → AddsAll shape n met x.0
unfolding entries_at
entries_new kind shape zero met bytes x ids below e =
    subst (λ (y : List Entry × List ℕ). AddsAll shape zero met y.0) (ok_is (met, bytes) x e) (record { ids = ids; below = below; long = omega arith })
entries_new kind shape (suc n) met bytes x ids below e =
    let a = bind_ok (blamed (Some kind) (length met) (entry_at shape met bytes)) (λ more. entries_at kind shape n more.0 more.1) x e in
    let t = entry_new shape met bytes a.0 (blamed_ok (Some kind) (length met) (entry_at shape met bytes) a.0 a.1) in
    let ids_more : IsDistinct eqb (ids_of (met ++ t.one ∷ [])) =
    subst (IsDistinct eqb) (sym (map-append (λ e. e.id) met (t.one ∷ []))) (IsDistinct-push nat_eq_equiv (ids_of met) t.one.id ids (list_any-map (λ e. e.id) (eqb t.one.id) met ∙ t.new)) in
    let all_below : AllByRecursion (λ e. e.id < shape.count) (met ++ t.one ∷ []) = AllByRecursion-push (λ e. e.id < shape.count) met t.one below t.below in
    let rest = entries_new kind shape n a.0.0 a.0.1 x (subst (λ es. IsDistinct eqb (ids_of es)) (sym t.added) ids_more) (subst (λ es. AllByRecursion (λ e. e.id < shape.count) es) (sym t.added) all_below) a.2 in
    let one_longer : length a.0.0 ≡ length met + 1 = ap length t.added ∙ length-append met (t.one ∷ []) in
    record { ids = rest.ids; below = rest.below; long = omega (arith, rest.long, one_longer) }

-- ---- counts.

count_few : (kind : NameKind) (bytes : List ℕ) (x : ℕ × List ℕ) → count_at kind bytes ≡ Ok x → x.0 ≤ limit_of kind
unfolding count_at
count_few kind bytes x e =
    let a = bind_ok (number_at 3 bytes) (λ count. cond (ltb (limit_of kind) count.0) (Err Count) (Ok count)) x e in
    let g = guard_ok (ltb (limit_of kind) a.0.0) Count (Ok a.0) x a.2 in
    subst (λ (y : ℕ × List ℕ). y.0 ≤ limit_of kind) (ok_is a.0 x g.1) (ltb-false _ _ g.0)

counts_few : (bytes : List ℕ) (x : PerKind × List ℕ) → per_kind_at count_at bytes ≡ Ok x → AreCounts x.0
unfolding per_kind_at
counts_few bytes x e =
    let a = bind_ok (count_at Player bytes) (λ players. count_at Event players.1 >>= λ events. count_at Site events.1 >>= λ sites. count_at Round sites.1 >>= λ rounds. Ok (record { players = players.0; events = events.0; sites = sites.0; rounds = rounds.0 }, rounds.1)) x e in
    let b = bind_ok (count_at Event a.0.1) (λ events. count_at Site events.1 >>= λ sites. count_at Round sites.1 >>= λ rounds. Ok (record { players = a.0.0; events = events.0; sites = sites.0; rounds = rounds.0 }, rounds.1)) x a.2 in
    let c = bind_ok (count_at Site b.0.1) (λ sites. count_at Round sites.1 >>= λ rounds. Ok (record { players = a.0.0; events = b.0.0; sites = sites.0; rounds = rounds.0 }, rounds.1)) x b.2 in
    let d = bind_ok (count_at Round c.0.1) (λ rounds. Ok (record { players = a.0.0; events = b.0.0; sites = c.0.0; rounds = rounds.0 }, rounds.1)) x c.2 in
    let made : PerKind × List ℕ = (record { players = a.0.0; events = b.0.0; sites = c.0.0; rounds = d.0.0 }, d.0.1) in
    subst (λ (y : PerKind × List ℕ). AreCounts y.0) (ok_is made x d.2)
    (record { players = count_few Player bytes a.0 a.1; events = count_few Event a.0.1 b.0 b.1; sites = count_few Site b.0.1 c.0 c.1; rounds = count_few Round c.0.1 d.0 d.1 })

pub header_few : (bytes : List ℕ) (x : Header × List ℕ) → header_at bytes ≡ Ok x → AreCounts x.0.counts
unfolding header_at
header_few bytes x e =
    let m = bind_ok (magic_at bytes) (λ stamp. skip_at 4 stamp >>= λ rest. per_kind_at count_at rest >>= λ counts. per_kind_at (λ _. number_at 3) counts.1 >>= λ greatest. Ok (record { counts = counts.0; greatest = greatest.0 }, greatest.1)) x e in
    let k = bind_ok (skip_at 4 m.0) (λ rest. per_kind_at count_at rest >>= λ counts. per_kind_at (λ _. number_at 3) counts.1 >>= λ greatest. Ok (record { counts = counts.0; greatest = greatest.0 }, greatest.1)) x m.2 in
    let a = bind_ok (per_kind_at count_at k.0) (λ counts. per_kind_at (λ _. number_at 3) counts.1 >>= λ greatest. Ok (record { counts = counts.0; greatest = greatest.0 }, greatest.1)) x k.2 in
    let b = bind_ok (per_kind_at (λ _. number_at 3) a.0.1) (λ greatest. Ok (record { counts = a.0.0; greatest = greatest.0 }, greatest.1)) x a.2 in
    let made : Header × List ℕ = (record { counts = a.0.0; greatest = b.0.0 }, b.0.1) in
    subst (λ (y : Header × List ℕ). AreCounts y.0.counts) (ok_is made x b.2) (counts_few k.0 a.0 a.1)
