-- The names of a names file as far as they were read.
use Rattle.std.proofs.Common.{◌≡◌, ◌≤◌, ◌<◌, ◌+◌, ◌-◌, ℕ, zero, suc, eqb, Bool, true, false, List, [], ◌∷◌, length, map, get_or, slice_get, unwrap_or, replicate, is_some, Option, Some, None, Result, Ok, Err, refl, sym, ap, subst, ◌∙◌, arith, true≢false}
use Rattle.std.specs.List.{AllByRecursion, IsDistinct, range_with_len}
use Rattle.std.specs.Option.{option_map}
use Rattle.std.proofs.lemmas.List.{get_or-replicate, get_or_past, length-map, length-replicate, same_lists}
use Rattle.std.proofs.lemmas.List.FromFn.{get_or-map-range_with_len, length-map-range_with_len}
use Rattle.std.proofs.lemmas.Option.{none-some, same_Some, slice_get_within, slice_get-get_or, slice_get-map, unwrap_or-slice_get}
use Rattle.name_base.specs.declared.header.Header.{Header}
use Rattle.name_base.specs.declared.header.Shape.{Shape}
use Rattle.name_base.specs.declared.fault.NameFault.{NameFault}
use Rattle.name_base.specs.declared.fault.NameWhat.{NameWhat}
use Rattle.name_base.specs.declared.fault.NamesError.TheVariants.{Bad, Memory}
use Rattle.name_base.specs.declared.kind.NameKind.{NameKind}
use Rattle.name_base.specs.declared.kind.NameKind.TheVariants.{Player, Event, Site, Round}
use Rattle.name_base.specs.NameLists.{IsName, NameLists, limit_of, of_kind}
use Rattle.name_base.specs.NamesFile.{Entry, NameFile, event_shape, player_shape, round_shape, site_shape}
use Rattle.name_base.specs.KindRead.{AreMet}
use Rattle.name_base.specs.KindReading.{IsReading}
use Rattle.name_base.specs.Reading.{◌>>=◌, blamed, by_id, entries_at, entry_at, has_id, header_at, kind_at, names_at}
use Rattle.name_base.specs.PartNames.{AreKnown, Known, Part, PartLists, all_known, entries_in_part, filled, filled_names, kind_in_part, known, marked, marks, met_then, name_met, names_in_part, or_unknown, part_of_kind, unknown}
use Rattle.name_base.proofs.ByIdLemmas.{covers, found, ids_of, length-put_names, placed}
use Rattle.name_base.proofs.FieldLemmas.{bind_ok, ok_is}
use Rattle.name_base.proofs.FileLemmas.{names_again}
use Rattle.name_base.proofs.KindLemmas.{blamed_ok}
use Rattle.name_base.proofs.ReadLemmas.{entries_new, header_few}

-- ---- names that are marked.

-- A name that is marked is there, and is known.
pub marked-there : (ts : List Bool) (names : List (List ℕ)) (id : ℕ) → length ts ≡ length names → unwrap_or (slice_get ts id) false ≡ true → name_met (marked ts names) id ≡ slice_get names id
marked-there [] names id long is = absurd (true≢false (sym is))
marked-there (t ∷ ts) [] id long is = absurd (omega (arith, long))
marked-there (true ∷ ts) (name ∷ names) zero long is = refl
marked-there (false ∷ ts) (name ∷ names) zero long is = absurd (true≢false (sym is))
marked-there (true ∷ ts) (name ∷ names) (suc id) long is = marked-there ts names id (omega (arith, long)) is
marked-there (false ∷ ts) (name ∷ names) (suc id) long is = marked-there ts names id (omega (arith, long)) is

-- One that is not is not known.
pub marked-none : (ts : List Bool) (names : List (List ℕ)) (id : ℕ) → unwrap_or (slice_get ts id) false ≡ false → name_met (marked ts names) id ≡ None
marked-none [] names id is = refl
marked-none (t ∷ ts) [] id is = refl
marked-none (true ∷ ts) (name ∷ names) zero is = absurd (true≢false is)
marked-none (false ∷ ts) (name ∷ names) zero is = refl
marked-none (true ∷ ts) (name ∷ names) (suc id) is = marked-none ts names id is
marked-none (false ∷ ts) (name ∷ names) (suc id) is = marked-none ts names id is

-- What is marked is below the number of marks.
pub mark-within : (ts : List Bool) (id : ℕ) → unwrap_or (slice_get ts id) false ≡ true → id < length ts
mark-within ts id is = by (slice_get ts id) refl is
  where
    by : (o : Option Bool) → slice_get ts id ≡ o → unwrap_or o false ≡ true → id < length ts
    by None at is = absurd (true≢false (sym is))
    by (Some t) at is = slice_get_within ts id t at

-- The name with an id below the number of marks, as it is looked up.
pub known-here : {X : Type 0} (f : X → List ℕ) (ts : List Bool) (vs : List X) (id : ℕ) (t : Bool) (v : X) → length ts ≡ length (map f vs) → id < length ts → t ≡ get_or ts id t → t ≡ true → v ≡ get_or vs id v →
    name_met (marked ts (map f vs)) id ≡ Some (f v)
known-here f ts vs id t v long lt is there at =
    let mark : unwrap_or (slice_get ts id) false ≡ true = ap (λ o. unwrap_or o false) (slice_get-get_or ts id t lt) ∙ (sym is ∙ there) in
    let below : id < length vs = omega (arith, lt, long, length-map vs f) in
    marked-there ts (map f vs) id long mark ∙ (slice_get-map f vs id ∙ ap (option_map f) (slice_get-get_or vs id v below ∙ ap Some (sym at)))

-- None is known there.
pub unknown-here : (ts : List Bool) (names : List (List ℕ)) (id : ℕ) (t : Bool) → id < length ts → t ≡ get_or ts id t → t ≡ false → name_met (marked ts names) id ≡ None
unknown-here ts names id t lt is none = marked-none ts names id (ap (λ o. unwrap_or o false) (slice_get-get_or ts id t lt) ∙ (sym is ∙ none))

-- Nor is one behind the marks.
pub unknown-past : (ts : List Bool) (names : List (List ℕ)) (id : ℕ) → length ts ≤ id → name_met (marked ts names) id ≡ None
unknown-past ts names id le = marked-none ts names id (unwrap_or-slice_get ts id false ∙ get_or_past ts id false le)

-- ---- names by id.

-- The marks of a reader say of each id whether it was met.
pub taken-marks : (taken : List Bool) (count : ℕ) (es : List Entry) → length taken ≡ count → IsReading taken es → taken ≡ marks count es
taken-marks taken count es long is = same_lists taken (marks count es) (long ∙ sym (length-map-range_with_len (has_id es) 0 count)) each
  where
    each : (k : ℕ) (d : Bool) → k < length taken → get_or taken k d ≡ get_or (marks count es) k d
    each k d lt =
        let there = slice_get-get_or taken k d lt in
        let mine : get_or taken k d ≡ has_id es k = ap (λ (o : Option Bool). unwrap_or o false) (sym there) ∙ (unwrap_or-slice_get taken k false ∙ is.marks k lt) in
        mine ∙ sym (get_or-map-range_with_len (has_id es) 0 count k k d (subst (λ n. k < n) long lt) (omega arith))

pub known-is : (taken : List Bool) (count : ℕ) (es : List Entry) → length taken ≡ count → IsReading taken es → marked taken (by_id count es) ≡ known count es
unfolding known
known-is taken count es long reading = ap (λ ts. marked ts (by_id count es)) (taken-marks taken count es long reading)

-- Names that are put by their ids.
pub length-by_id : (count : ℕ) (es : List Entry) → length (by_id count es) ≡ count
unfolding by_id
length-by_id count es = length-put_names es (replicate count []) ∙ length-replicate count []

placed_by_id : (count : ℕ) (es : List Entry) → AreMet count es → AllByRecursion (λ e. slice_get (by_id count es) e.id ≡ Some e.name) es
unfolding by_id
placed_by_id count es are = placed es (replicate count []) are.ids (subst (λ n. AllByRecursion (λ e. e.id < n) es) (sym (length-replicate count [])) are.below)

with_both : (P Q : Entry → Type 0) (es : List Entry) → AllByRecursion P es → AllByRecursion Q es → AllByRecursion (λ e. P e × Q e) es
with_both P Q [] p q = tt
with_both P Q (e ∷ es) p q = ((p.0, q.0), with_both P Q es p.1 q.1)

-- The names by id are names where they are marked.
pub known-names : (taken : List Bool) (count : ℕ) (es : List Entry) → length taken ≡ count → IsReading taken es → AreMet count es → AreKnown taken (by_id count es)
known-names taken count es long reading are = record { same = long ∙ sym (length-by_id count es); each = each }
  where
    each : (id : ℕ) (name : List ℕ) → name_met (marked taken (by_id count es)) id ≡ Some name → IsName name
    each id name is = by (unwrap_or (slice_get taken id) false) refl
      where
        by : (b : Bool) → unwrap_or (slice_get taken id) false ≡ b → IsName name
        by false none = absurd (none-some name (sym (marked-none taken (by_id count es) id none) ∙ is))
        by true there =
            let lt : id < length taken = mark-within taken id there in
            let at : slice_get (by_id count es) id ≡ Some name = sym (marked-there taken (by_id count es) id (long ∙ sym (length-by_id count es)) there) ∙ is in
            let met : has_id es id ≡ true = sym (reading.marks id lt) ∙ (sym (unwrap_or-slice_get taken id false) ∙ there) in
            let f = found (λ e. (slice_get (by_id count es) e.id ≡ Some e.name) × IsName e.name) es id
            (with_both (λ e. slice_get (by_id count es) e.id ≡ Some e.name) (λ e. IsName e.name) es (placed_by_id count es are) are.each) met in
            let same : f.entry.name ≡ name = same_Some f.entry.name name (sym f.holds.0 ∙ (ap (slice_get (by_id count es)) f.id ∙ at)) in
            subst (λ n. IsName n) same f.holds.1

-- A fault is no want of memory.
pub no-memory : (fault : NameFault) → Bad fault ≡ Memory → ⊥
no-memory fault is = absurd cc

-- ---- names read one after the other, up to a fault.

module _ (kind : NameKind) (shape : Shape) (i : ℕ) (met : List Entry) (bytes : List ℕ) (total : Part)
    (lt : i < shape.count) (index : i ≡ length met) (so_far : entries_in_part shape (shape.count - i) met bytes ≡ total) where
  part_more : total ≡ met_then met (entry_at shape met bytes) (λ more. entries_in_part shape (shape.count - (i + 1)) more.0 more.1)
  unfolding entries_in_part
  part_more =
      let k : shape.count - i ≡ suc (shape.count - (i + 1)) = omega arith in
      sym so_far ∙ ap (λ n. entries_in_part shape n met bytes) k

  -- The faulty name is the end.
  pub part_fails : (fault : NameFault) → blamed (Some kind) i (entry_at shape met bytes) ≡ Err fault → total ≡ (met, None)
  part_fails fault h = part_more ∙ by (entry_at shape met bytes) h
    where
      by : (r : Result (List Entry × List ℕ) NameWhat) → blamed (Some kind) i r ≡ Err fault → met_then met r (λ more. entries_in_part shape (shape.count - (i + 1)) more.0 more.1) ≡ (met, None)
      by (Ok more) h = absurd cc
      by (Err what) h = refl

  pub part_goes : (after : List Entry) (rest : List ℕ) → blamed (Some kind) i (entry_at shape met bytes) ≡ Ok (after, rest) → entries_in_part shape (shape.count - (i + 1)) after rest ≡ total
  part_goes after rest h =
      let read : entry_at shape met bytes ≡ Ok (after, rest) = blamed_ok (Some kind) i (entry_at shape met bytes) (after, rest) h in
      sym (part_more ∙ ap (λ r. met_then met r (λ more. entries_in_part shape (shape.count - (i + 1)) more.0 more.1)) read)

-- Once all were read.
pub part_done : (shape : Shape) (i : ℕ) (met : List Entry) (bytes : List ℕ) (total : Part) → shape.count ≤ i → entries_in_part shape (shape.count - i) met bytes ≡ total → total ≡ (met, Some bytes)
unfolding entries_in_part
part_done shape i met bytes total le so_far =
    let k : shape.count - i ≡ 0 = omega arith in
    sym so_far ∙ ap (λ n. entries_in_part shape n met bytes) k

-- ---- a file without a fault.

entries_whole : (kind : NameKind) (shape : Shape) (n : ℕ) (met : List Entry) (bytes : List ℕ) (x : List Entry × List ℕ) → entries_at kind shape n met bytes ≡ Ok x → entries_in_part shape n met bytes ≡ (x.0, Some x.1)
unfolding entries_at entries_in_part
entries_whole kind shape zero met bytes x e = ap (λ (y : List Entry × List ℕ). (y.0, Some y.1)) (ok_is (met, bytes) x e)
entries_whole kind shape (suc n) met bytes x e =
    let a = bind_ok (blamed (Some kind) (length met) (entry_at shape met bytes)) (λ more. entries_at kind shape n more.0 more.1) x e in
    let read : entry_at shape met bytes ≡ Ok a.0 = blamed_ok (Some kind) (length met) (entry_at shape met bytes) a.0 a.1 in
    ap (λ r. met_then met r (λ more. entries_in_part shape n more.0 more.1)) read ∙ entries_whole kind shape n a.0.0 a.0.1 x a.2

marked-all : (n : ℕ) (names : List (List ℕ)) → length names ≡ n → marked (replicate n true) names ≡ map Some names
marked-all zero [] long = refl
marked-all zero (name ∷ names) long = absurd (omega (arith, long))
marked-all (suc n) [] long = absurd (omega (arith, long))
marked-all (suc n) (name ∷ names) long = ap (λ ns. Some name ∷ ns) (marked-all n names (omega (arith, long)))

all-marked : (count : ℕ) (es : List Entry) → IsDistinct eqb (ids_of es) → AllByRecursion (λ e. e.id < count) es → length es ≡ count → marks count es ≡ replicate count true
all-marked count es ids below all = same_lists (marks count es) (replicate count true) (length-map-range_with_len (has_id es) 0 count ∙ sym (length-replicate count true)) each
  where
    each : (k : ℕ) (d : Bool) → k < length (marks count es) → get_or (marks count es) k d ≡ get_or (replicate count true) k d
    each k d lt =
        let within : k < count = subst (λ n. k < n) (length-map-range_with_len (has_id es) 0 count) lt in
        get_or-map-range_with_len (has_id es) 0 count k k d within (omega arith) ∙ (covers count es ids below all k within ∙ sym (get_or-replicate count k true d within))

known-all : (count : ℕ) (es : List Entry) → IsDistinct eqb (ids_of es) → AllByRecursion (λ e. e.id < count) es → length es ≡ count → known count es ≡ map Some (by_id count es)
unfolding known
known-all count es ids below all = ap (λ ts. marked ts (by_id count es)) (all-marked count es ids below all) ∙ marked-all count (by_id count es) (length-by_id count es)

-- What is read of a kind without a fault.
record ReadsWhole (shape : Shape) (names : List (List ℕ)) (bytes rest : List ℕ) : Type 0 where
  rest_is : (kind_in_part shape (Some bytes)).1 ≡ Some rest
  names_are : known shape.count (kind_in_part shape (Some bytes)).0 ≡ map Some names
  long : length names ≡ shape.count

kind_whole : (kind : NameKind) (shape : Shape) (bytes : List ℕ) (x : List (List ℕ) × List ℕ) → kind_at kind shape bytes ≡ Ok x → ReadsWhole shape x.0 bytes x.1
unfolding kind_at kind_in_part IsDistinct
kind_whole kind shape bytes x e =
    let a = bind_ok (entries_at kind shape shape.count [] bytes) (λ es. Ok (by_id shape.count es.0, es.1)) x e in
    let new = entries_new kind shape shape.count [] bytes a.0 tt tt a.1 in
    let all : length a.0.0 ≡ shape.count = omega (arith, new.long) in
    let part : entries_in_part shape shape.count [] bytes ≡ (a.0.0, Some a.0.1) = entries_whole kind shape shape.count [] bytes a.0 a.1 in
    let whole : ReadsWhole shape (by_id shape.count a.0.0) bytes a.0.1 = record {
      rest_is = ap (λ (p : Part). p.1) part;
      names_are = ap (λ (p : Part). known shape.count p.0) part ∙ known-all shape.count a.0.0 new.ids new.below all;
      long = length-by_id shape.count a.0.0;
    } in
    subst (λ (y : List (List ℕ) × List ℕ). ReadsWhole shape y.0 bytes y.1) (ok_is (by_id shape.count a.0.0, a.0.1) x a.2) whole

-- No kind has more names than its limit.
pub record AreFew (lists : NameLists) : Type 0 where
  pub players : length lists.players ≤ limit_of Player
  pub events : length lists.events ≤ limit_of Event
  pub sites : length lists.sites ≤ limit_of Site
  pub rounds : length lists.rounds ≤ limit_of Round

parts_whole : (bytes : List ℕ) (x : Header × List ℕ) (players events sites rounds : List (List ℕ)) (two three four rest : List ℕ) → header_at bytes ≡ Ok x → ReadsWhole (player_shape x.0) players x.1 two →
    ReadsWhole (event_shape x.0) events two three → ReadsWhole (site_shape x.0) sites three four → ReadsWhole (round_shape x.0) rounds four rest →
    names_in_part bytes ≡ all_known (record { players = players; events = events; sites = sites; rounds = rounds })
unfolding names_in_part
parts_whole bytes x players events sites rounds two three four rest header p e s r =
    rw (header, p.names_are, p.rest_is, e.names_are, e.rest_is, s.names_are, s.rest_is, r.names_are) refl

-- A file without a fault is read whole, and has few names.
pub record IsReadWhole (bytes : List ℕ) (lists : NameLists) : Type 0 where
  pub part : names_in_part bytes ≡ all_known lists
  pub few : AreFew lists

pub read-whole : (bytes : List ℕ) (lists : NameLists) → names_at bytes ≡ Ok lists → IsReadWhole bytes lists
unfolding names_at
read-whole bytes lists e =
    let h = bind_ok (blamed None 0 (header_at bytes)) (λ header. kind_at Player (player_shape header.0) header.1 >>= λ players. kind_at Event (event_shape header.0) players.1 >>= λ events. kind_at Site (site_shape header.0) events.1 >>= λ sites. kind_at Round (round_shape header.0) sites.1 >>= λ rounds. Ok (record { players = players.0; events = events.0; sites = sites.0; rounds = rounds.0 })) lists e in
    let a = bind_ok (kind_at Player (player_shape h.0.0) h.0.1) (λ players. kind_at Event (event_shape h.0.0) players.1 >>= λ events. kind_at Site (site_shape h.0.0) events.1 >>= λ sites. kind_at Round (round_shape h.0.0) sites.1 >>= λ rounds. Ok (record { players = players.0; events = events.0; sites = sites.0; rounds = rounds.0 })) lists h.2 in
    let b = bind_ok (kind_at Event (event_shape h.0.0) a.0.1) (λ events. kind_at Site (site_shape h.0.0) events.1 >>= λ sites. kind_at Round (round_shape h.0.0) sites.1 >>= λ rounds. Ok (record { players = a.0.0; events = events.0; sites = sites.0; rounds = rounds.0 })) lists a.2 in
    let c = bind_ok (kind_at Site (site_shape h.0.0) b.0.1) (λ sites. kind_at Round (round_shape h.0.0) sites.1 >>= λ rounds. Ok (record { players = a.0.0; events = b.0.0; sites = sites.0; rounds = rounds.0 })) lists b.2 in
    let d = bind_ok (kind_at Round (round_shape h.0.0) c.0.1) (λ rounds. Ok (record { players = a.0.0; events = b.0.0; sites = c.0.0; rounds = rounds.0 })) lists c.2 in
    let header : header_at bytes ≡ Ok h.0 = blamed_ok None 0 (header_at bytes) h.0 h.1 in
    let players = kind_whole Player (player_shape h.0.0) h.0.1 a.0 a.1 in
    let events = kind_whole Event (event_shape h.0.0) a.0.1 b.0 b.1 in
    let sites = kind_whole Site (site_shape h.0.0) b.0.1 c.0 c.1 in
    let rounds = kind_whole Round (round_shape h.0.0) c.0.1 d.0 d.1 in
    let counts = header_few bytes h.0 header in
    let made : NameLists = record { players = a.0.0; events = b.0.0; sites = c.0.0; rounds = d.0.0 } in
    subst (IsReadWhole bytes) (ok_is made lists d.2) (record {
      part = parts_whole bytes h.0 a.0.0 b.0.0 c.0.0 d.0.0 a.0.1 b.0.1 c.0.1 d.0.1 header players events sites rounds;
      few = record {
        players = omega (arith, players.long, counts.players);
        events = omega (arith, events.long, counts.events);
        sites = omega (arith, sites.long, counts.sites);
        rounds = omega (arith, rounds.long, counts.rounds);
      };
    })

pub part-whole : (bytes : List ℕ) (lists : NameLists) → NameFile bytes lists → names_in_part bytes ≡ all_known lists
part-whole bytes lists f = (read-whole bytes lists (names_again bytes lists f)).part

-- ---- names for all ids.

pub length-filled : (limit : ℕ) (names : Known) → length (filled limit names) ≡ limit
unfolding filled
length-filled limit names = length-map-range_with_len (λ id. or_unknown (name_met names id)) 0 limit

pub filled-at : (limit : ℕ) (names : Known) (id : ℕ) → id < limit → slice_get (filled limit names) id ≡ Some (or_unknown (name_met names id))
unfolding filled
filled-at limit names id below =
    let f : ℕ → List ℕ = λ k. or_unknown (name_met names k) in
    let within : id < length (map f (range_with_len 0 limit)) = subst (λ n. id < n) (sym (length-map-range_with_len f 0 limit)) below in
    slice_get-get_or (map f (range_with_len 0 limit)) id (f id) within ∙ ap Some (get_or-map-range_with_len f 0 limit id id (f id) below (omega arith))

-- Of a kind.
pub filled-of : (kind : NameKind) (lists : PartLists) → of_kind kind (filled_names lists) ≡ filled (limit_of kind) (part_of_kind kind lists)
filled-of Player lists = refl
filled-of Event lists = refl
filled-of Site lists = refl
filled-of Round lists = refl

pub name-filled : (kind : NameKind) (lists : PartLists) (id : ℕ) (name : Option (List ℕ)) → id < limit_of kind → name ≡ name_met (part_of_kind kind lists) id → slice_get (of_kind kind (filled_names lists)) id ≡ Some (or_unknown name)
name-filled kind lists id name below is =
    ap (λ ns. slice_get ns id) (filled-of kind lists) ∙ (filled-at (limit_of kind) (part_of_kind kind lists) id below ∙ ap (λ (o : Option (List ℕ)). Some (or_unknown o)) (sym is))

-- `?` is a name.
pub unknown-name : IsName unknown
unknown-name = record { long = omega arith; whole = refl }

-- Names that are all known.
known-at : (names : List (List ℕ)) (id : ℕ) (name : List ℕ) → slice_get names id ≡ Some name → name_met (map Some names) id ≡ Some name
known-at [] id name at = absurd (none-some name at)
known-at (n ∷ names) zero name at = at
known-at (n ∷ names) (suc id) name at = known-at names id name at

pub all-filled : (limit : ℕ) (names : List (List ℕ)) (id : ℕ) (name : List ℕ) → length names ≤ limit → slice_get names id ≡ Some name → slice_get (filled limit (map Some names)) id ≡ Some name
all-filled limit names id name few at =
    let within = slice_get_within names id name at in
    filled-at limit (map Some names) id (omega (arith, within, few)) ∙ ap (λ (o : Option (List ℕ)). Some (or_unknown o)) (known-at names id name at)

pub all-met : (names : List (List ℕ)) (id : ℕ) → id < length names → is_some (name_met (map Some names) id) ≡ true
all-met [] id less = absurd (omega (arith, less))
all-met (n ∷ names) zero less = refl
all-met (n ∷ names) (suc id) less = all-met names id (omega (arith, less))
