-- What opening answers, of what was read.
use Rattle.std.proofs.Common.{◌≡◌, ◌<◌, ◌+◌, ℕ, suc, Bool, cond, true, false, List, [], length, ◌∷◌, slice_get, count_by, Option, Some, None, is_some, Result, Ok, Err, IfOk, IfSome, ◌&&◌, MatchBool, refl, sym, ap, ap₂, ◌∙◌, subst, inl, inr, arith, true≢false}
use Rattle.std.specs.List.{enumerate_from}
use Rattle.std.proofs.lemmas.List.Sums.{sum_by-cons}
use Rattle.std.proofs.lemmas.Option.{none-some, slice_get_within}
use Rattle.base_files.specs.Seen.{Seen}
use Rattle.base_files.specs.Told.{Tells, TellsLength}
use Rattle.index_entry.specs.Entry.{entry_in}
use Rattle.index_entry.specs.Index.{index_read, entry_bytes}
use Rattle.index_entry.specs.declared.entry.Entry.{Entry}
use Rattle.index_entry.specs.declared.index.IndexHead.{IndexHead}
use Rattle.index_entry.specs.declared.fault.IndexFault.{IndexFault}
use Rattle.name_base.specs.declared.fault.NameFault.{NameFault}
use Rattle.name_base.specs.NameLists.{NameLists, no_names}
use Rattle.name_base.specs.Reading.{Fails, names_at}
use Rattle.name_base.specs.declared.fault.NamesError.{NamesError}
use Rattle.name_base.specs.declared.fault.NamesError.TheVariants as failed
use Rattle.base_core.specs.Errors.{names_error}
use Rattle.base_core.specs.declared.fault.BaseFault.TheVariants.{Index, Names}
use Rattle.base_core.specs.declared.fault.DerivedField.{DerivedField}
use Rattle.base_core.specs.declared.fault.OpenError.{OpenError}
use Rattle.base_core.specs.declared.fault.OpenError.TheVariants as opening
use Rattle.base_core.specs.Base.{Base, Held, empty_base, empty_header}
use Rattle.base_core.specs.Means.{AreGames, Means}
use Rattle.base_core.specs.FirstFault.{Whole, whole_read, derived_fault, EntryFails, FirstFault}
use Rattle.base_core.specs.Represents.{IsSound, Kept, Represents, Mended, extents_of}
use Rattle.base_core.specs.Opening.{IfBad, IfTold, Opens, Refuses, are_empty, is_created}
use Rattle.base_core.specs.Reading.{AreRead, IsRead}
use Rattle.base_core.proofs.CheckLaws.{checked, read_is}
use Rattle.base_core.proofs.Lists.{get_some}
use Rattle.sig_index.specs.Games.{AreWithin}
use Rattle.sig_index.specs.Signature.{sig_of}
use Rattle.sig_index.specs.declared.signature.Sig.{Sig}
use Rattle.base_core.proofs.GamesLaws.{are-within}
use Rattle.base_core.proofs.ReadLaws.{passes_of}
use Rattle.base_core.proofs.OneFault.{none_fails}
use Rattle.base_core.proofs.OneBase.{means-one}

-- The header and the names, each read without a fault.
pub whole_is : (index names : List ℕ) (header : IndexHead) (lists : NameLists) → index_read index ≡ Ok header → names_at names ≡ Ok lists → whole_read index names ≡ Ok (record { header = header; names = lists })
unfolding whole_read
whole_is index names header lists one two = rw (one, two) refl

pub index_fails : (index names : List ℕ) (fault : IndexFault) → index_read index ≡ Err fault → whole_read index names ≡ Err (Index fault)
unfolding whole_read
index_fails index names fault one = rw one refl

pub names_fail : (index names : List ℕ) (header : IndexHead) (fault : NameFault) → index_read index ≡ Ok header → names_at names ≡ Err fault → whole_read index names ≡ Err (Names fault)
unfolding whole_read
names_fail index names header fault one two = rw (one, two) refl

pub names_refuse : (index names : List ℕ) (header : IndexHead) (error : NamesError) → index_read index ≡ Ok header → Fails error (names_at names) → IfBad (λ fault. whole_read index names ≡ Err fault) (names_error error)
names_refuse index names header (failed.Bad fault) one two = names_fail index names header fault one two
names_refuse index names header failed.Memory one two = tt

-- The game of a place, where the lists are as long.
held_at : (strict : Bool) (index : List ℕ) (names : NameLists) (games : List ℕ) (entries : List Entry) (mended : ℕ) (r : AreRead strict index names games entries mended) (i : ℕ) (held : Held) → slice_get r.all i ≡ Some held →
    (e : Entry) × ((field : Option DerivedField) × ((slice_get entries i ≡ Some e) × ((slice_get r.fields i ≡ Some field) × IsRead strict names games i (entry_bytes index i) e held field)))
held_at strict index names games entries mended r i held at =
    let below : i < length r.all = slice_get_within r.all i held at in
    let e = get_some entries i (subst (λ n. i < n) r.held below) in
    let f = get_some r.fields i (subst (λ n. i < n) (r.held ∙ sym r.compared) below) in
    (e.0, (f.0, (e.1, (f.1, r.each i e.0 held f.0 e.1 at f.1))))

games_of : (strict : Bool) (index : List ℕ) (names : NameLists) (games : List ℕ) (entries : List Entry) (mended count : ℕ) (r : AreRead strict index names games entries mended) → length entries ≡ count → AreGames index names games count r.all
games_of strict index names games entries mended count r long = record {
  long = r.held ∙ long;
  each = λ i held at.
      let h = held_at strict index names games entries mended r i held at in
      let read = h.1.1.1.1 in
      let c = checked names (length games) i (entry_bytes index i) read.fields read.checked in
      record { fields = read.fields; read = c.read; named = c.named; says = read.says };
}

-- What is counted of each is counted of all.
counts : {X F : Type 0} (p : ℕ × X → Bool) (n : ℕ) (all : List X) (fields : List (Option F)) → length fields ≡ length all →
    ((i : ℕ) (x : X) (field : Option F) → slice_get all i ≡ Some x → slice_get fields i ≡ Some field → is_some field ≡ p (n + i, x)) → count_by is_some fields ≡ count_by p (enumerate_from n all)
counts p n [] [] long each = refl
counts p n [] (field ∷ fields) long each = absurd (omega (arith, long))
counts p n (x ∷ all) [] long each = absurd (omega (arith, long))
counts p n (x ∷ all) (field ∷ fields) long each =
    let none : n + 0 ≡ n = omega arith in
    let one : is_some field ≡ p (n, x) = each 0 x field refl refl ∙ ap (λ (k : ℕ). p (k, x)) none in
    let next = counts p (n + 1) all fields (omega (arith, long)) (λ i y f at_y at_f. let same : n + suc i ≡ n + 1 + i = omega arith in each (suc i) y f at_y at_f ∙ ap (λ (k : ℕ). p (k, y)) same) in
    sum_by-cons (λ f. cond (is_some f) 1 0) field fields
    ∙ (ap₂ (λ b k. cond b 1 0 + k) one next ∙ sym (sum_by-cons (λ q. cond (p q) 1 0) (n, x) (enumerate_from (n + 1) all)))

mended_of : (strict : Bool) (index : List ℕ) (names : NameLists) (games : List ℕ) (entries : List Entry) (mended : ℕ) (r : AreRead strict index names games entries mended) → Mended index r.all mended
mended_of strict index names games entries mended r =
    let differs : ℕ × Held → Bool = λ game. is_some (derived_fault (entry_in (entry_bytes index game.0)) (sig_of game.1.game)) in
    r.mends ∙ counts differs 0 r.all r.fields (r.compared ∙ sym r.held) (λ i held field at_held at_field.
    let e = get_some entries i (subst (λ n. i < n) r.held (slice_get_within r.all i held at_held)) in
    let read = r.each i e.0 held field e.1 at_held at_field in
    let c = checked names (length games) i (entry_bytes index i) read.fields read.checked in
    let at : i ≡ 0 + i = omega arith in
    let fields : derived_fault (entry_in (entry_bytes index i)) read.sig ≡ field = rw (read_is (entry_bytes index i) read.fields c.read) read.differs in
    let D : Sig → Type 0 = λ s. derived_fault (entry_in (entry_bytes index i)) s ≡ field in
    ap is_some (sym (subst D read.signed fields)) ∙ ap (λ (k : ℕ). differs (k, held)) at)

-- What was read of three files opens them.
pub opens : (strict : Bool) (index names games : List ℕ) (header : IndexHead) (lists : NameLists) (entries : List Entry) (mended end : ℕ) → index_read index ≡ Ok header → names_at names ≡ Ok lists → end ≡ length games →
    length entries ≡ header.games → AreRead strict index lists games entries mended → (create : Bool) → is_created create index names games ≡ false →
    Opens create strict index names games (record { header = header; names = lists; entries = entries; end = end; unsaved = false }) mended
opens strict index names games header lists entries mended end one two long count r create there =
    let base : Base = record { header = header; names = lists; games = r.all; end = end } in
    let means : Means index names games base = record {
      header = one;
      lists = two;
      end = long;
      held = games_of strict index lists games entries mended header.games r count;
    } in
    let B : Bool → Type 0 = λ b. MatchBool b (base ≡ empty_base) (Means index names games base) in
    let whole : Whole = record { header = header; names = lists } in
    record {
      base = base;
      means = subst B (sym there) means;
      represents = record {
        header = refl;
        names = refl;
        end = refl;
        count = sym r.held;
        each = λ i e held at_e at_held.
            let f = get_some r.fields i (subst (λ n. i < n) (sym r.compared) (slice_get_within entries i e at_e)) in
            (r.each i e held f.0 at_e at_held f.1).keeps;
      };
      mends = mended_of strict index lists games entries mended r;
      strictly = r.strictly;
      sound = λ fault refuses.
          none_fails strict index names games whole fault (whole_is index names header lists one two)
          (λ i below. passes_of strict index lists games entries mended r i (subst (λ n. i < n) (sym count) below)) refuses.first;
      saved = refl;
    }

-- A base that is created.
pub opens_empty : (create strict : Bool) (index names games : List ℕ) → is_created create index names games ≡ true →
    Opens create strict index names games (record { header = empty_header; names = no_names; entries = []; end = 0; unsaved = false }) 0
opens_empty create strict index names games created =
    let B : Bool → Type 0 = λ b. MatchBool b (empty_base ≡ empty_base) (Means index names games empty_base) in
    record {
      base = empty_base;
      means = subst B (sym created) refl;
      represents = record { header = refl; names = refl; end = refl; count = refl; each = λ i e held at_e at_held. absurd (none-some e at_e) };
      mends = refl;
      strictly = λ is. refl;
      sound = λ fault refuses. true≢false (sym created ∙ refuses.there);
      saved = refl;
    }

-- What was opened stands for the base that the files mean.
pub opened_meant : (create strict : Bool) (index names games : List ℕ) (kept : Kept) (mended : ℕ) (base : Base) → is_created create index names games ≡ false → Opens create strict index names games kept mended →
    Means index names games base → Represents kept games base
opened_meant create strict index names games kept mended base there o means =
    let M : Bool → Type 0 = λ b. MatchBool b (o.base ≡ empty_base) (Means index names games o.base) in
    let R : Base → Type 0 = λ b. Represents kept games b in
    subst R (means-one index names games o.base base (subst M there o.means) means) o.represents

-- ---- where the files may be told.

pub opens_told : (told : Option (List ℕ)) (strict : Bool) (index names : List ℕ) (header : IndexHead) (lists : NameLists) (entries : List Entry) (mended end : ℕ) → index_read index ≡ Ok header → names_at names ≡ Ok lists →
    TellsLength told end → length entries ≡ header.games → IfSome told (λ games. AreRead strict index lists games entries mended) →
    IfSome told (λ games. (create : Bool) → is_created create index names games ≡ false → Opens create strict index names games (record { header = header; names = lists; entries = entries; end = end; unsaved = false }) mended)
opens_told None strict index names header lists entries mended end one two long count read = tt
opens_told (Some games) strict index names header lists entries mended end one two long count read = λ create there.
    opens strict index names games header lists entries mended end one two long count read create there

-- The first fault, by what was read of the whole base.
pub whole_refuses : (told : Option (List ℕ)) (strict : Bool) (index names : List ℕ) (error : OpenError) → IfBad (λ fault. whole_read index names ≡ Err fault) error →
    IfBad (λ fault. IfSome told (λ games. FirstFault strict index names games fault)) error
whole_refuses None strict index names (opening.Bad fault) fails = tt
whole_refuses (Some games) strict index names (opening.Bad fault) fails = inl fails
whole_refuses told strict index names opening.Failed fails = tt
whole_refuses told strict index names opening.Memory fails = tt

pub entries_refuse : (told : Option (List ℕ)) (strict : Bool) (index names : List ℕ) (header : IndexHead) (lists : NameLists) (error : OpenError) → index_read index ≡ Ok header → names_at names ≡ Ok lists →
    IfBad (λ fault. IfSome told (λ games. EntryFails strict index lists games header.games fault)) error → IfBad (λ fault. IfSome told (λ games. FirstFault strict index names games fault)) error
entries_refuse None strict index names header lists (opening.Bad fault) one two fails = tt
entries_refuse (Some games) strict index names header lists (opening.Bad fault) one two fails =
    inr (record { header = header; names = lists }, (whole_is index names header lists one two, fails))
entries_refuse told strict index names header lists opening.Failed one two fails = tt
entries_refuse told strict index names header lists opening.Memory one two fails = tt

-- What is told of the three files is what was loaded.
created_is : (create : Bool) (index names games : List ℕ) (end : ℕ) (b : Bool) → end ≡ length games → (create && are_empty index names end) ≡ b → is_created create index names games ≡ b
created_is create index names games end b long is = ap (λ (n : ℕ). create && are_empty index names n) (sym long) ∙ is

some_by : (told : Option (List ℕ)) (P Q : List ℕ → Type 0) → ((g : List ℕ) → P g → Q g) → IfSome told P → IfSome told Q
some_by None P Q more is = tt
some_by (Some g) P Q more is = more g is

every : (told : Option (List ℕ)) (P : List ℕ → Type 0) → ((g : List ℕ) → P g) → IfSome told P
every None P all = tt
every (Some g) P all = all g

length_by : (told : Option (List ℕ)) (end : ℕ) (P : List ℕ → Type 0) → TellsLength told end → IfSome told (λ g. end ≡ length g → P g) → IfSome told P
length_by None end P long is = tt
length_by (Some g) end P long is = is long

told_by : (told : Option (List ℕ)) (bytes : List ℕ) (P : List ℕ → Type 0) → Tells told bytes → P bytes → IfSome told P
told_by None bytes P tells is = tt
told_by (Some b) bytes P tells is = subst P tells is

lift : (seen : Seen) (index names : List ℕ) (Fact : List ℕ → List ℕ → List ℕ → Type 0) → Tells seen.index index → Tells seen.names names → IfSome seen.games (λ g. Fact index names g) → IfTold seen Fact
lift seen index names Fact one two is =
    told_by seen.index index (λ i. IfSome seen.names (λ n. IfSome seen.games (λ g. Fact i n g))) one
    (told_by seen.names names (λ n. IfSome seen.games (λ g. Fact index n g)) two is)

pub opened_told : (seen : Seen) (create strict : Bool) (index names : List ℕ) (end : ℕ) (kept : Kept) (mended : ℕ) → Tells seen.index index → Tells seen.names names → TellsLength seen.games end → (create && are_empty index names end) ≡ false →
    IfSome seen.games (λ games. (c : Bool) → is_created c index names games ≡ false → Opens c strict index names games kept mended) →
    IfTold seen (λ i n g. Opens create strict i n g kept mended)
opened_told seen create strict index names end kept mended one two long there o =
    lift seen index names (λ i n g. Opens create strict i n g kept mended) one two
    (length_by seen.games end (λ g. Opens create strict index names g kept mended) long
    (some_by seen.games (λ games. (c : Bool) → is_created c index names games ≡ false → Opens c strict index names games kept mended) (λ g. end ≡ length g → Opens create strict index names g kept mended)
    (λ g h same. h create (created_is create index names g end false same there)) o))

pub created_told : (seen : Seen) (create strict : Bool) (index names : List ℕ) (end : ℕ) → Tells seen.index index → Tells seen.names names → TellsLength seen.games end → (create && are_empty index names end) ≡ true →
    IfTold seen (λ i n g. Opens create strict i n g (record { header = empty_header; names = no_names; entries = []; end = 0; unsaved = false }) 0)
created_told seen create strict index names end one two long there =
    let kept : Kept = record { header = empty_header; names = no_names; entries = []; end = 0; unsaved = false } in
    lift seen index names (λ i n g. Opens create strict i n g kept 0) one two
    (length_by seen.games end (λ g. Opens create strict index names g kept 0) long
    (every seen.games (λ g. end ≡ length g → Opens create strict index names g kept 0)
    (λ g same. opens_empty create strict index names g (created_is create index names g end true same there))))

pub refused_told : (seen : Seen) (create strict : Bool) (index names : List ℕ) (end : ℕ) (error : OpenError) → Tells seen.index index → Tells seen.names names → TellsLength seen.games end → (create && are_empty index names end) ≡ false →
    IfBad (λ fault. IfSome seen.games (λ games. FirstFault strict index names games fault)) error → IfBad (λ fault. IfTold seen (λ i n g. Refuses create strict i n g fault)) error
refused_told seen create strict index names end (opening.Bad fault) one two long there is =
    lift seen index names (λ i n g. Refuses create strict i n g fault) one two
    (length_by seen.games end (λ g. Refuses create strict index names g fault) long
    (some_by seen.games (λ g. FirstFault strict index names g fault) (λ g. end ≡ length g → Refuses create strict index names g fault)
    (λ g first same. record { there = created_is create index names g end false same there; first = first }) is))
refused_told seen create strict index names end opening.Failed one two long there is = tt
refused_told seen create strict index names end opening.Memory one two long there is = tt

-- The records of what was opened lie within the games file.
pub within_so : (r : Result (Kept × ℕ) OpenError) (end known : ℕ) → end ≡ known → IfOk r (λ opened. IsSound opened.0) → IfOk r (λ opened. opened.0.end ≡ end) → IfOk r (λ opened. AreWithin known (extents_of opened.0))
within_so (Ok opened) end known same sound is = are-within opened.0 known sound (omega (arith, is, same))
within_so (Err error) end known same sound is = tt
