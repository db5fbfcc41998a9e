-- The whole file: what is read is spelled so, and what is spelled so is read.
use Rattle.std.proofs.Common.{◌≡◌, ◌≤◌, ◌<◌, ℕ, Bool, true, false, cond, ltb, List, ◌++◌, length, take, drop, None, Result, Ok, Err, refl, sym, ap, subst, ◌∙◌, arith}
use Rattle.std.specs.Prelude.{IfOk}
use Rattle.std.specs.Str.{bytes_eq}
use Rattle.std.proofs.lemmas.Bool.{ltb-false, le-ltb}
use Rattle.std.proofs.lemmas.List.{take-append-drop}
use Rattle.std.proofs.lemmas.Slice.Eq.{bytes_eq-Decides}
use Rattle.byteorder.specs.Endian.{big_bytes}
use Rattle.name_base.specs.declared.header.PerKind.{PerKind}
use Rattle.name_base.specs.declared.header.Header.{Header}
use Rattle.name_base.specs.declared.kind.NameKind.{NameKind}
use Rattle.name_base.specs.declared.kind.NameKind.TheVariants.{Player, Event, Site, Round}
use Rattle.name_base.specs.declared.fault.NameWhat.TheVariants.{Short, Magic, Count}
use Rattle.name_base.specs.declared.fault.NameFault.{NameFault}
use Rattle.name_base.specs.declared.fault.NamesError.{NamesError}
use Rattle.name_base.specs.NameLists.{NameLists, limit_of}
use Rattle.name_base.specs.NamesFile.{magic, four_bytes, header_bytes, kind_bytes, AreCounts, AreSmall, player_shape, event_shape, site_shape, round_shape, NameFile}
use Rattle.name_base.specs.Reading.{◌>>=◌, Answers, blamed, number_at, skip_at, magic_at, count_at, per_kind_at, header_at, kind_at, names_at}
use Rattle.name_base.proofs.FieldLemmas.{IsBytes, IsBytes-drop, Takes, width_3, bind_ok, guard_ok, ok_is, number_takes, number_again, skip_takes, skip_again}
use Rattle.name_base.proofs.KindLemmas.{blamed_ok, kind_takes, kind_again}

-- A test that passed.
guard_yes : {A E : Type 0} (b : Bool) (d : E) (x y : A) → cond b (Ok x) (Err d) ≡ Ok y → (b ≡ true) × (x ≡ y)
guard_yes true d x y e = (refl, cc)
guard_yes false d x y e = absurd cc

magic_takes : (bytes rest : List ℕ) → IsBytes bytes → magic_at bytes ≡ Ok rest → Takes bytes magic rest
unfolding magic_at
magic_takes bytes rest fits e =
    let g = guard_ok (ltb (length bytes) 8) Short (cond (bytes_eq (take 8 bytes) magic) (Ok (drop 8 bytes)) (Err Magic)) rest e in
    let h = guard_yes (bytes_eq (take 8 bytes) magic) Magic (drop 8 bytes) rest g.1 in
    let same : take 8 bytes ≡ magic = (bytes_eq-Decides (take 8 bytes) magic).0 h.0 in
    record {
      parts = sym (take-append-drop 8 bytes) ∙ (λ i. same i ++ h.1 i);
      fits = subst IsBytes h.1 (IsBytes-drop 8 bytes fits);
    }

magic_again : (rest : List ℕ) → magic_at (magic ++ rest) ≡ Ok rest
unfolding magic_at
magic_again rest =
    let long : ltb (length (magic ++ rest)) 8 ≡ false = le-ltb (length (magic ++ rest)) 8 (omega arith) in
    rw long refl

count_takes : (kind : NameKind) (bytes : List ℕ) (x : ℕ × List ℕ) → IsBytes bytes → count_at kind bytes ≡ Ok x → Takes bytes (big_bytes 3 x.0) x.1 × (x.0 ≤ limit_of kind)
unfolding count_at
count_takes kind bytes x fits e =
    let a = bind_ok (number_at 3 bytes) (λ count. cond (ltb (limit_of kind) count.0) (Err Count) (Ok count)) x e in
    let g = guard_ok (ltb (limit_of kind) a.0.0) Count (Ok a.0) x a.2 in
    let t = number_takes 3 bytes a.0 width_3 fits a.1 in
    let whole : Takes bytes (big_bytes 3 a.0.0) a.0.1 × (a.0.0 ≤ limit_of kind) = (t.0, ltb-false _ _ g.0) in
    subst (λ (y : ℕ × List ℕ). Takes bytes (big_bytes 3 y.0) y.1 × (y.0 ≤ limit_of kind)) (ok_is a.0 x g.1) whole

limit_small : (kind : NameKind) → limit_of kind < 16777216
limit_small Player = omega arith
limit_small Event = omega arith
limit_small Site = omega arith
limit_small Round = omega arith

count_again : (kind : NameKind) (count : ℕ) (rest : List ℕ) → count ≤ limit_of kind → count_at kind (big_bytes 3 count ++ rest) ≡ Ok (count, rest)
unfolding count_at
count_again kind count rest le =
    let small = limit_small kind in
    rw (number_again 3 count rest (omega arith), le-ltb (limit_of kind) count le) refl

-- What four numbers took.
record FourTake (P : PerKind → Type 0) (bytes : List ℕ) (x : PerKind × List ℕ) : Type 0 where
  spelled : bytes ≡ four_bytes x.0 x.1
  holds : P x.0
  rest : IsBytes x.1

four_parts : (bytes t1 t2 t3 rest : List ℕ) (n : PerKind) → bytes ≡ big_bytes 3 n.players ++ t1 → t1 ≡ big_bytes 3 n.events ++ t2 → t2 ≡ big_bytes 3 n.sites ++ t3 → t3 ≡ big_bytes 3 n.rounds ++ rest → bytes ≡ four_bytes n rest
unfolding four_bytes
four_parts bytes t1 t2 t3 rest n a b c d =
    a ∙ ap (λ t. big_bytes 3 n.players ++ t) (b ∙ ap (λ t. big_bytes 3 n.events ++ t) (c ∙ ap (λ t. big_bytes 3 n.sites ++ t) d))

counts_take : (bytes : List ℕ) (x : PerKind × List ℕ) → IsBytes bytes → per_kind_at count_at bytes ≡ Ok x → FourTake AreCounts bytes x
unfolding per_kind_at
counts_take bytes x fits e =
    let a = bind_ok (count_at Player bytes) (λ players. count_at Event players.1 >>= λ events. count_at Site events.1 >>= λ sites. count_at Round sites.1 >>= λ rounds. Ok (record { players = players.0; events = events.0; sites = sites.0; rounds = rounds.0 }, rounds.1)) x e in
    let b = bind_ok (count_at Event a.0.1) (λ events. count_at Site events.1 >>= λ sites. count_at Round sites.1 >>= λ rounds. Ok (record { players = a.0.0; events = events.0; sites = sites.0; rounds = rounds.0 }, rounds.1)) x a.2 in
    let c = bind_ok (count_at Site b.0.1) (λ sites. count_at Round sites.1 >>= λ rounds. Ok (record { players = a.0.0; events = b.0.0; sites = sites.0; rounds = rounds.0 }, rounds.1)) x b.2 in
    let d = bind_ok (count_at Round c.0.1) (λ rounds. Ok (record { players = a.0.0; events = b.0.0; sites = c.0.0; rounds = rounds.0 }, rounds.1)) x c.2 in
    let ta = count_takes Player bytes a.0 fits a.1 in
    let tb = count_takes Event a.0.1 b.0 ta.0.fits b.1 in
    let tc = count_takes Site b.0.1 c.0 tb.0.fits c.1 in
    let td = count_takes Round c.0.1 d.0 tc.0.fits d.1 in
    let n : PerKind = record { players = a.0.0; events = b.0.0; sites = c.0.0; rounds = d.0.0 } in
    let whole : FourTake AreCounts bytes (n, d.0.1) = record {
      spelled = four_parts bytes a.0.1 b.0.1 c.0.1 d.0.1 n ta.0.parts tb.0.parts tc.0.parts td.0.parts;
      holds = record { players = ta.1; events = tb.1; sites = tc.1; rounds = td.1 };
      rest = td.0.fits;
    } in
    subst (FourTake AreCounts bytes) (ok_is (n, d.0.1) x d.2) whole

counts_again : (n : PerKind) (rest : List ℕ) → AreCounts n → per_kind_at count_at (four_bytes n rest) ≡ Ok (n, rest)
unfolding per_kind_at four_bytes
counts_again n rest are =
    rw (
      count_again Player n.players (big_bytes 3 n.events ++ (big_bytes 3 n.sites ++ (big_bytes 3 n.rounds ++ rest))) are.players,
      count_again Event n.events (big_bytes 3 n.sites ++ (big_bytes 3 n.rounds ++ rest)) are.events,
      count_again Site n.sites (big_bytes 3 n.rounds ++ rest) are.sites,
      count_again Round n.rounds rest are.rounds,
    ) refl

greatest_take : (bytes : List ℕ) (x : PerKind × List ℕ) → IsBytes bytes → per_kind_at (λ _. number_at 3) bytes ≡ Ok x → FourTake AreSmall bytes x
unfolding per_kind_at
greatest_take bytes x fits e =
    let a = bind_ok (number_at 3 bytes) (λ players. number_at 3 players.1 >>= λ events. number_at 3 events.1 >>= λ sites. number_at 3 sites.1 >>= λ rounds. Ok (record { players = players.0; events = events.0; sites = sites.0; rounds = rounds.0 }, rounds.1)) x e in
    let b = bind_ok (number_at 3 a.0.1) (λ events. number_at 3 events.1 >>= λ sites. number_at 3 sites.1 >>= λ rounds. Ok (record { players = a.0.0; events = events.0; sites = sites.0; rounds = rounds.0 }, rounds.1)) x a.2 in
    let c = bind_ok (number_at 3 b.0.1) (λ sites. number_at 3 sites.1 >>= λ rounds. Ok (record { players = a.0.0; events = b.0.0; sites = sites.0; rounds = rounds.0 }, rounds.1)) x b.2 in
    let d = bind_ok (number_at 3 c.0.1) (λ rounds. Ok (record { players = a.0.0; events = b.0.0; sites = c.0.0; rounds = rounds.0 }, rounds.1)) x c.2 in
    let ta = number_takes 3 bytes a.0 width_3 fits a.1 in
    let tb = number_takes 3 a.0.1 b.0 width_3 ta.0.fits b.1 in
    let tc = number_takes 3 b.0.1 c.0 width_3 tb.0.fits c.1 in
    let td = number_takes 3 c.0.1 d.0 width_3 tc.0.fits d.1 in
    let n : PerKind = record { players = a.0.0; events = b.0.0; sites = c.0.0; rounds = d.0.0 } in
    let whole : FourTake AreSmall bytes (n, d.0.1) = record {
      spelled = four_parts bytes a.0.1 b.0.1 c.0.1 d.0.1 n ta.0.parts tb.0.parts tc.0.parts td.0.parts;
      holds = record { players = ta.1; events = tb.1; sites = tc.1; rounds = td.1 };
      rest = td.0.fits;
    } in
    subst (FourTake AreSmall bytes) (ok_is (n, d.0.1) x d.2) whole

greatest_again : (n : PerKind) (rest : List ℕ) → AreSmall n → per_kind_at (λ _. number_at 3) (four_bytes n rest) ≡ Ok (n, rest)
unfolding per_kind_at four_bytes
greatest_again n rest are =
    rw (
      number_again 3 n.players (big_bytes 3 n.events ++ (big_bytes 3 n.sites ++ (big_bytes 3 n.rounds ++ rest))) are.players,
      number_again 3 n.events (big_bytes 3 n.sites ++ (big_bytes 3 n.rounds ++ rest)) are.events,
      number_again 3 n.sites (big_bytes 3 n.rounds ++ rest) are.sites,
      number_again 3 n.rounds rest are.rounds,
    ) refl

-- What the header took.
record HeaderTakes (bytes : List ℕ) (x : Header × List ℕ) : Type 0 where
  stamp : List ℕ
  spelled : bytes ≡ header_bytes stamp x.0 x.1
  stamped : length stamp ≡ 4
  counts : AreCounts x.0.counts
  greatest : AreSmall x.0.greatest
  rest : IsBytes x.1

header_takes : (bytes : List ℕ) (x : Header × List ℕ) → IsBytes bytes → header_at bytes ≡ Ok x → HeaderTakes bytes x
unfolding header_at header_bytes
header_takes bytes x fits e =
    let m = bind_ok (magic_at bytes) (λ stamp. skip_at 4 stamp >>= λ rest. per_kind_at count_at rest >>= λ counts. per_kind_at (λ _. number_at 3) counts.1 >>= λ greatest. Ok (record { counts = counts.0; greatest = greatest.0 }, greatest.1)) x e in
    let k = bind_ok (skip_at 4 m.0) (λ rest. per_kind_at count_at rest >>= λ counts. per_kind_at (λ _. number_at 3) counts.1 >>= λ greatest. Ok (record { counts = counts.0; greatest = greatest.0 }, greatest.1)) x m.2 in
    let a = bind_ok (per_kind_at count_at k.0) (λ counts. per_kind_at (λ _. number_at 3) counts.1 >>= λ greatest. Ok (record { counts = counts.0; greatest = greatest.0 }, greatest.1)) x k.2 in
    let b = bind_ok (per_kind_at (λ _. number_at 3) a.0.1) (λ greatest. Ok (record { counts = a.0.0; greatest = greatest.0 }, greatest.1)) x a.2 in
    let tm = magic_takes bytes m.0 fits m.1 in
    let tk = skip_takes 4 m.0 k.0 tm.fits k.1 in
    let ta = counts_take k.0 a.0 tk.0.fits a.1 in
    let tb = greatest_take a.0.1 b.0 ta.rest b.1 in
    let made : Header × List ℕ = (record { counts = a.0.0; greatest = b.0.0 }, b.0.1) in
    let whole : HeaderTakes bytes made = record {
      stamp = take 4 m.0;
      spelled = tm.parts ∙ ap (λ t. magic ++ t) (tk.0.parts ∙ ap (λ t. take 4 m.0 ++ t) (ta.spelled ∙ ap (four_bytes a.0.0) tb.spelled));
      stamped = tk.1;
      counts = ta.holds;
      greatest = tb.holds;
      rest = tb.rest;
    } in
    subst (HeaderTakes bytes) (ok_is made x b.2) whole

pub header_again : (stamp : List ℕ) (h : Header) (rest : List ℕ) → length stamp ≡ 4 → AreCounts h.counts → AreSmall h.greatest → header_at (header_bytes stamp h rest) ≡ Ok (h, rest)
unfolding header_at header_bytes
header_again stamp h rest stamped counts greatest =
    rw (
      magic_again (stamp ++ four_bytes h.counts (four_bytes h.greatest rest)),
      skip_again 4 stamp (four_bytes h.counts (four_bytes h.greatest rest)) stamped,
      counts_again h.counts (four_bytes h.greatest rest) counts,
      greatest_again h.greatest rest greatest,
    ) refl

-- ---- the two laws.

pub names_take : (bytes : List ℕ) (lists : NameLists) → IsBytes bytes → names_at bytes ≡ Ok lists → NameFile bytes lists
unfolding names_at
names_take bytes lists fits e =
    let h = bind_ok (blamed None 0 (header_at bytes)) (λ header. kind_at Player (player_shape header.0) header.1 >>= λ players. kind_at Event (event_shape header.0) players.1 >>= λ events. kind_at Site (site_shape header.0) events.1 >>= λ sites. kind_at Round (round_shape header.0) sites.1 >>= λ rounds. Ok (record { players = players.0; events = events.0; sites = sites.0; rounds = rounds.0 })) lists e in
    let a = bind_ok (kind_at Player (player_shape h.0.0) h.0.1) (λ players. kind_at Event (event_shape h.0.0) players.1 >>= λ events. kind_at Site (site_shape h.0.0) events.1 >>= λ sites. kind_at Round (round_shape h.0.0) sites.1 >>= λ rounds. Ok (record { players = players.0; events = events.0; sites = sites.0; rounds = rounds.0 })) lists h.2 in
    let b = bind_ok (kind_at Event (event_shape h.0.0) a.0.1) (λ events. kind_at Site (site_shape h.0.0) events.1 >>= λ sites. kind_at Round (round_shape h.0.0) sites.1 >>= λ rounds. Ok (record { players = a.0.0; events = events.0; sites = sites.0; rounds = rounds.0 })) lists a.2 in
    let c = bind_ok (kind_at Site (site_shape h.0.0) b.0.1) (λ sites. kind_at Round (round_shape h.0.0) sites.1 >>= λ rounds. Ok (record { players = a.0.0; events = b.0.0; sites = sites.0; rounds = rounds.0 })) lists b.2 in
    let d = bind_ok (kind_at Round (round_shape h.0.0) c.0.1) (λ rounds. Ok (record { players = a.0.0; events = b.0.0; sites = c.0.0; rounds = rounds.0 })) lists c.2 in
    let th = header_takes bytes h.0 fits (blamed_ok None 0 (header_at bytes) h.0 h.1) in
    let ta = kind_takes Player (player_shape h.0.0) h.0.1 a.0 th.rest a.1 in
    let tb = kind_takes Event (event_shape h.0.0) a.0.1 b.0 ta.rest b.1 in
    let tc = kind_takes Site (site_shape h.0.0) b.0.1 c.0 tb.rest c.1 in
    let td = kind_takes Round (round_shape h.0.0) c.0.1 d.0 tc.rest d.1 in
    let whole : NameFile bytes (record { players = a.0.0; events = b.0.0; sites = c.0.0; rounds = d.0.0 }) = record {
      stamp = th.stamp;
      header = h.0.0;
      players = ta.stored;
      events = tb.stored;
      sites = tc.stored;
      rounds = td.stored;
      rest = d.0.1;
      spelled = th.spelled ∙ ap (header_bytes th.stamp h.0.0) (ta.spelled ∙ ap (kind_bytes (player_shape h.0.0) None ta.stored) (tb.spelled ∙ ap (kind_bytes (event_shape h.0.0) None tb.stored) (tc.spelled ∙ ap (kind_bytes (site_shape h.0.0) None tc.stored) td.spelled)));
      stamped = th.stamped;
      counts = th.counts;
      greatest = th.greatest;
      player_names = ta.names;
      event_names = tb.names;
      site_names = tc.names;
      round_names = td.names;
    } in
    subst (NameFile bytes) (ok_is (record { players = a.0.0; events = b.0.0; sites = c.0.0; rounds = d.0.0 }) lists d.2) whole

pub names_again : (bytes : List ℕ) (lists : NameLists) → NameFile bytes lists → names_at bytes ≡ Ok lists
unfolding names_at
names_again bytes lists f =
    let header = header_again f.stamp f.header (kind_bytes (player_shape f.header) None f.players (kind_bytes (event_shape f.header) None f.events (kind_bytes (site_shape f.header) None f.sites (kind_bytes (round_shape f.header) None f.rounds f.rest)))) f.stamped f.counts f.greatest in
    let players = kind_again Player (player_shape f.header) f.players lists.players (kind_bytes (event_shape f.header) None f.events (kind_bytes (site_shape f.header) None f.sites (kind_bytes (round_shape f.header) None f.rounds f.rest))) (omega (arith, f.counts.players)) f.player_names in
    let events = kind_again Event (event_shape f.header) f.events lists.events (kind_bytes (site_shape f.header) None f.sites (kind_bytes (round_shape f.header) None f.rounds f.rest)) (omega (arith, f.counts.events)) f.event_names in
    let sites = kind_again Site (site_shape f.header) f.sites lists.sites (kind_bytes (round_shape f.header) None f.rounds f.rest) (omega (arith, f.counts.sites)) f.site_names in
    let rounds = kind_again Round (round_shape f.header) f.rounds lists.rounds f.rest (omega (arith, f.counts.rounds)) f.round_names in
    rw (f.spelled, header, players, events, sites, rounds) refl

-- What a call that reads exactly found.
pub is_found : (bytes : List ℕ) (r : Result NameLists NamesError) → IsBytes bytes → Answers (λ names. names) r (names_at bytes) → IfOk r (λ names. NameFile bytes names)
is_found bytes (Ok names) fits exact = names_take bytes names fits exact
is_found bytes (Err e) fits exact = tt

pub is_only : (bytes : List ℕ) (r : Result NameLists NamesError) → Answers (λ names. names) r (names_at bytes) → (lists : NameLists) → NameFile bytes lists → Answers (λ names. names) r (Ok lists)
is_only bytes r exact lists file = subst (λ (read : Result NameLists NameFault). Answers (λ names. names) r read) (names_again bytes lists file) exact
