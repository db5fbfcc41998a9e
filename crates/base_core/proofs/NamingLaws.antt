-- Names that are added to those of a base, and taken back.
use Rattle.std.proofs.Common.{◌≡◌, ◌<◌, ◌≤◌, ◌+◌, ℕ, zero, suc, List, [], ◌∷◌, ◌++◌, length, take, slice_get, get_or, unwrap_or, Bool, true, false, Option, Some, None, if◌then◌else◌, refl, sym, ap, ◌∙◌, subst, arith, le_of_suc-le-suc}
use Rattle.std.proofs.lemmas.Bool.{le-ltb, lt-ltb, ne_eqb}
use Rattle.std.proofs.lemmas.List.{length_push}
use Rattle.std.proofs.lemmas.List.Folds.{list_any_none}
use Rattle.std.proofs.lemmas.List.Quantifiers.{position-Some}
use Rattle.std.proofs.lemmas.Option.{slice_get-get_or, slice_get_within}
use Rattle.std.proofs.lemmas.Slice.Eq.{bytes_eq-Decides}
use Rattle.std.proofs.Math.Seq.{take-append_seam}
use Rattle.std.specs.Str.{bytes_eq}
use Rattle.game_tree.specs.Head.{IsName}
use Rattle.game_tree.specs.declared.head.Head.{Head}
use Rattle.name_base.specs.NameLists.{AreSound, NameLists, id_in, is_in, limit_of, of_kind, with_kind, with_name}
use Rattle.name_base.specs.NameLists.{IsName as IsBaseName}
use Rattle.name_base.specs.declared.kind.NameKind.{NameKind}
use Rattle.name_base.specs.declared.kind.NameKind.TheVariants.{Player, Event, Site, Round}
use Rattle.name_base.proofs.NameLemmas.{with_name-absent, with_name-present}
use Rattle.base_core.specs.declared.fault.EditError.{EditError}
use Rattle.base_core.specs.declared.fault.EditError.TheVariants as error
use Rattle.base_core.specs.declared.fault.What.{What}
use Rattle.base_core.specs.declared.fault.What.TheVariants as what
use Rattle.base_core.specs.declared.naming.NameCounts.{NameCounts}
use Rattle.base_core.specs.declared.naming.NameIds.{NameIds}
use Rattle.base_core.specs.Edited.{full_names}
use Rattle.base_core.specs.Edits.{names_with}
use Rattle.base_core.specs.Means.{HoldsNames}
use Rattle.base_core.specs.Placing.{AreCountsOf, AreIds, IfFull, cut_to, names_of}
use Rattle.base_core.proofs.Lists.{get_push_new}
use Rattle.base_core.proofs.SaveLaws.{holds-more}

-- A name of a head can be one of a base.
pub base-name : (text : List ℕ) → IsName text → IsBaseName text
base-name text is = record { long = is.short; whole = list_any_none _ text (λ i d below. ne_eqb (get_or text i d) 0 (is.zero_free i d below)) }

-- The id of a name that was added.
name-by : (names : List (List ℕ)) (name : List ℕ) (found : Option ℕ) → id_in names name ≡ found → slice_get (with_name names name) (unwrap_or found (length names)) ≡ Some name
name-by names name None none = ap (λ (all : List (List ℕ)). slice_get all (length names)) (with_name-absent names name none) ∙ get_push_new names name
name-by names name (Some id) some =
    let at = position-Some (bytes_eq name) names id name some in
    let same : name ≡ get_or names id name = (bytes_eq-Decides name (get_or names id name)).0 at.1 in
    ap (λ (all : List (List ℕ)). slice_get all id) (sym (with_name-present names name id (sym some)))
    ∙ (slice_get-get_or names id name at.0 ∙ ap (λ (x : List ℕ). Some x) (sym same))

name-added : (names : List (List ℕ)) (name : List ℕ) → slice_get (with_name names name) (unwrap_or (id_in names name) (length names)) ≡ Some name
name-added names name = name-by names name (id_in names name) refl

kind-same : (kind : NameKind) (lists : NameLists) (names : List (List ℕ)) → of_kind kind (with_kind kind lists names) ≡ names
kind-same Player lists names = refl
kind-same Event lists names = refl
kind-same Site lists names = refl
kind-same Round lists names = refl

pub added-at : (kind : NameKind) (old new : NameLists) (given name : List ℕ) (id : ℕ) → given ≡ name → id ≡ unwrap_or (id_in (of_kind kind old) given) (length (of_kind kind old)) →
    new ≡ with_kind kind old (with_name (of_kind kind old) given) → slice_get (of_kind kind new) id ≡ Some name
added-at kind old new given name id same is done =
    ap (λ (n : NameLists). slice_get (of_kind kind n) id) done
    ∙ (ap (λ (all : List (List ℕ)). slice_get all id) (kind-same kind old (with_name (of_kind kind old) given))
    ∙ (ap (λ (k : ℕ). slice_get (with_name (of_kind kind old) given) k) is ∙ (name-added (of_kind kind old) given ∙ ap (λ (x : List ℕ). Some x) same)))

-- A new name is one more.
pub full-more : (names : List (List ℕ)) (given name : List ℕ) (limit : ℕ) → given ≡ name → (id_in names given ≡ None) × (length names ≡ limit) → limit < length (with_name names name)
full-more names given name limit same is =
    let more : length (with_name names given) ≡ length names + 1 = ap (λ (all : List (List ℕ)). length all) (with_name-absent names given is.0) ∙ length_push names given in
    let W : List ℕ → Type 0 = λ n. limit < length (with_name names n) in
    subst W same (omega (arith, more, is.1))

-- There are no fewer names with one that is added.
longer-by : (names : List (List ℕ)) (name : List ℕ) (b : Bool) → length names ≤ length (if b then names else names ++ name ∷ [])
longer-by names name true = omega arith
longer-by names name false = omega (arith, length_push names name)

longer : (names : List (List ℕ)) (name : List ℕ) → length names ≤ length (with_name names name)
longer names name = longer-by names name (is_in names name)

-- ---- which kind of names is full first.

full-players : (n : NameLists) → limit_of Player < length n.players → full_names n ≡ Some what.Players
unfolding full_names
full-players n over = rw (lt-ltb (limit_of Player) (length n.players) over) refl

full-events : (n : NameLists) → length n.players ≤ limit_of Player → limit_of Event < length n.events → full_names n ≡ Some what.Events
unfolding full_names
full-events n players over = rw (le-ltb (limit_of Player) (length n.players) players, lt-ltb (limit_of Event) (length n.events) over) refl

full-sites : (n : NameLists) → length n.players ≤ limit_of Player → length n.events ≤ limit_of Event → limit_of Site < length n.sites → full_names n ≡ Some what.Sites
unfolding full_names
full-sites n players events over =
    rw (le-ltb (limit_of Player) (length n.players) players, le-ltb (limit_of Event) (length n.events) events, lt-ltb (limit_of Site) (length n.sites) over) refl

full-rounds : (n : NameLists) → length n.players ≤ limit_of Player → length n.events ≤ limit_of Event → length n.sites ≤ limit_of Site → limit_of Round < length n.rounds → full_names n ≡ Some what.Rounds
unfolding full_names
full-rounds n players events sites over =
    rw (
      le-ltb (limit_of Player) (length n.players) players,
      le-ltb (limit_of Event) (length n.events) events,
      le-ltb (limit_of Site) (length n.sites) sites,
      lt-ltb (limit_of Round) (length n.rounds) over,
    ) refl

pub none-full : (n : NameLists) → AreSound n → full_names n ≡ None
unfolding full_names
none-full n sound =
    rw (
      le-ltb (limit_of Player) (length n.players) sound.players.within,
      le-ltb (limit_of Event) (length n.events) sound.events.within,
      le-ltb (limit_of Site) (length n.sites) sound.sites.within,
      le-ltb (limit_of Round) (length n.rounds) sound.rounds.within,
    ) refl

if-full : (P Q : What → Type 0) (e : EditError) → ((w : What) → P w → Q w) → IfFull P e → IfFull Q e
if-full P Q (error.Full w) f is = f w is
if-full P Q error.Memory f is = tt
if-full P Q error.Failed f is = absurd is
if-full P Q (error.NoGame n) f is = absurd is
if-full P Q (error.TooLong n) f is = absurd is
if-full P Q (error.Changed game kept found) f is = absurd is

-- ---- the names of a head one after the other.

abbrev pub with_white : Head → NameLists → NameLists
with_white head n = record n { players = with_name n.players head.white }

abbrev pub with_black : Head → NameLists → NameLists
with_black head n = record (with_white head n) { players = with_name (with_name n.players head.white) head.black }

abbrev pub with_event : Head → NameLists → NameLists
with_event head n = record (with_black head n) { events = with_name n.events head.event }

abbrev pub with_site : Head → NameLists → NameLists
with_site head n = record (with_event head n) { sites = with_name n.sites head.site }

-- Why a name of a kind is not added.
abbrev Over : NameKind → NameLists → List ℕ → What → Type 0
Over kind m name = λ w. (w ≡ names_of kind) × (limit_of kind < length (with_name (of_kind kind m) name))

-- So the names of the head would be full.
abbrev Fills : Head → NameLists → What → Type 0
Fills head n = λ w. full_names (names_with head n) ≡ Some w

as_some : (head : Head) (n : NameLists) (a b : What) → a ≡ b → Fills head n b → Fills head n a
as_some head n a b same is = is ∙ ap (λ (w : What). Some w) (sym same)

pub over-white : (head : Head) (n : NameLists) (e : EditError) → IfFull (Over Player n head.white) e → IfFull (Fills head n) e
over-white head n e why =
    if-full (Over Player n head.white) (Fills head n) e
    (λ w over. as_some head n w what.Players over.0 (full-players (names_with head n) (omega (arith, over.1, longer (with_name n.players head.white) head.black)))) why

pub over-black : (head : Head) (n m : NameLists) (e : EditError) → m ≡ with_white head n → IfFull (Over Player m head.black) e → IfFull (Fills head n) e
over-black head n m e is why =
    let O : NameLists → Type 0 = λ k. IfFull (Over Player k head.black) e in
    if-full (Over Player (with_white head n) head.black) (Fills head n) e
    (λ w over. as_some head n w what.Players over.0 (full-players (names_with head n) over.1)) (subst O is why)

pub over-event : (head : Head) (n m : NameLists) (e : EditError) → m ≡ with_black head n → AreSound m → IfFull (Over Event m head.event) e → IfFull (Fills head n) e
over-event head n m e is sound why =
    let O : NameLists → Type 0 = λ k. IfFull (Over Event k head.event) e in
    let s : AreSound (with_black head n) = subst AreSound is sound in
    if-full (Over Event (with_black head n) head.event) (Fills head n) e
    (λ w over. as_some head n w what.Events over.0 (full-events (names_with head n) s.players.within over.1)) (subst O is why)

pub over-site : (head : Head) (n m : NameLists) (e : EditError) → m ≡ with_event head n → AreSound m → IfFull (Over Site m head.site) e → IfFull (Fills head n) e
over-site head n m e is sound why =
    let O : NameLists → Type 0 = λ k. IfFull (Over Site k head.site) e in
    let s : AreSound (with_event head n) = subst AreSound is sound in
    if-full (Over Site (with_event head n) head.site) (Fills head n) e
    (λ w over. as_some head n w what.Sites over.0 (full-sites (names_with head n) s.players.within s.events.within over.1)) (subst O is why)

pub over-round : (head : Head) (n m : NameLists) (e : EditError) → m ≡ with_site head n → AreSound m → IfFull (Over Round m head.round) e → IfFull (Fills head n) e
over-round head n m e is sound why =
    let O : NameLists → Type 0 = λ k. IfFull (Over Round k head.round) e in
    let s : AreSound (with_site head n) = subst AreSound is sound in
    if-full (Over Round (with_site head n) head.round) (Fills head n) e
    (λ w over. as_some head n w what.Rounds over.0 (full-rounds (names_with head n) s.players.within s.events.within s.sites.within over.1)) (subst O is why)

-- The names after each step, by those before it.
pub then_black : (head : Head) (n m k : NameLists) → m ≡ with_white head n → k ≡ with_kind Player m (with_name m.players head.black) → k ≡ with_black head n
then_black head n m k is done = done ∙ ap (λ (x : NameLists). with_kind Player x (with_name x.players head.black)) is

pub then_event : (head : Head) (n m k : NameLists) → m ≡ with_black head n → k ≡ with_kind Event m (with_name m.events head.event) → k ≡ with_event head n
then_event head n m k is done = done ∙ ap (λ (x : NameLists). with_kind Event x (with_name x.events head.event)) is

pub then_site : (head : Head) (n m k : NameLists) → m ≡ with_event head n → k ≡ with_kind Site m (with_name m.sites head.site) → k ≡ with_site head n
then_site head n m k is done = done ∙ ap (λ (x : NameLists). with_kind Site x (with_name x.sites head.site)) is

-- ---- ids stay as names are added.

get-more : {X : Type 0} (xs more : List X) (i : ℕ) → i < length xs → slice_get (xs ++ more) i ≡ slice_get xs i
get-more [] more i below = absurd (omega (arith, below))
get-more (x ∷ xs) more zero below = refl
get-more (x ∷ xs) more (suc i) below = get-more xs more i (le_of_suc-le-suc below)

pub id-stays : (all names : List (List ℕ)) (id : ℕ) (name : List ℕ) → ((more : List (List ℕ)) × (all ≡ names ++ more)) → slice_get names id ≡ Some name → slice_get all id ≡ Some name
id-stays all names id name is at = ap (λ (x : List (List ℕ)). slice_get x id) is.1 ∙ (get-more names is.0 id (slice_get_within names id name at) ∙ at)

pub are-ids : (head : Head) (n1 n2 n3 n4 n5 : NameLists) (ids : NameIds) → HoldsNames n2 n1 → HoldsNames n3 n2 → HoldsNames n4 n3 → HoldsNames n5 n4 →
    slice_get n1.players ids.white ≡ Some head.white → slice_get n2.players ids.black ≡ Some head.black → slice_get n3.events ids.event ≡ Some head.event → slice_get n4.sites ids.site ≡ Some head.site →
    slice_get n5.rounds ids.round ≡ Some head.round → AreIds n5 head ids
are-ids head n1 n2 n3 n4 n5 ids h2 h3 h4 h5 white black event site round =
    let h53 = holds-more n5 n4 n3 h5 h4 in
    let h52 = holds-more n5 n3 n2 h53 h3 in
    let h51 = holds-more n5 n2 n1 h52 h2 in
    record {
      white = id-stays n5.players n1.players ids.white head.white h51.players white;
      black = id-stays n5.players n2.players ids.black head.black h52.players black;
      event = id-stays n5.events n3.events ids.event head.event h53.events event;
      site = id-stays n5.sites n4.sites ids.site head.site h5.sites site;
      round = round;
    }

-- ---- names that are taken back.

cut-one : (all names : List (List ℕ)) (count : ℕ) → ((more : List (List ℕ)) × (all ≡ names ++ more)) → count ≡ length names → take count all ≡ names
cut-one all names count is long =
    ap (λ (k : ℕ). take k all) long ∙ (ap (λ (x : List (List ℕ)). take (length names) x) is.1 ∙ take-append_seam names is.0)

pub cut-back : (all names : NameLists) (counts : NameCounts) → HoldsNames all names → AreCountsOf names counts → cut_to counts all ≡ names
cut-back all names counts holds are =
    rw (
      cut-one all.players names.players counts.players holds.players are.players,
      cut-one all.events names.events counts.events holds.events are.events,
      cut-one all.sites names.sites counts.sites holds.sites are.sites,
      cut-one all.rounds names.rounds counts.rounds holds.rounds are.rounds,
    ) refl
