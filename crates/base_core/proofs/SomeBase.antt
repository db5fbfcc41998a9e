-- Three files have a first fault, or mean a base of which each entry passes.
use Rattle.std.proofs.Common.{◌≡◌, ◌<◌, ◌≤◌, ◌+◌, ◌⊎◌, ℕ, zero, suc, Bool, true, false, List, [], ◌∷◌, ◌++◌, length, slice_get, Option, Some, None, Result, Ok, Err, IfOk, IfErr, refl, sym, ap, ◌∙◌, subst, inl, inr, arith, true≢false, eq-or-lt_of_le}
use Rattle.std.proofs.lemmas.List.{length_push}
use Rattle.std.proofs.lemmas.Option.{same_Some, none-some, slice_get_within}
use Rattle.base_files.specs.Extents.{record_in}
use Rattle.game_tree.specs.Game.{GameTree}
use Rattle.game_tree.specs.Settle.{settled}
use Rattle.game_tree.specs.declared.head.Tag.{Tag}
use Rattle.game_codec.specs.Fault.{IsRecordFault}
use Rattle.game_codec.specs.Record.{IsRecord}
use Rattle.game_codec.specs.declared.fault.RecordFault.{RecordFault}
use Rattle.index_entry.specs.Entry.{entry_read}
use Rattle.index_entry.specs.Index.{entry_bytes, index_read}
use Rattle.index_entry.specs.declared.entry.Entry.{Entry}
use Rattle.index_entry.specs.declared.index.IndexHead.{IndexHead}
use Rattle.index_entry.specs.declared.fault.IndexFault.{IndexFault}
use Rattle.name_base.specs.NameLists.{NameLists}
use Rattle.name_base.specs.Reading.{names_at}
use Rattle.name_base.specs.declared.fault.NameFault.{NameFault}
use Rattle.sig_index.specs.Signature.{IsSig}
use Rattle.sig_index.specs.declared.signature.Sig.{Sig}
use Rattle.base_core.specs.declared.fault.BaseFault.{BaseFault}
use Rattle.base_core.specs.declared.fault.BaseFault.TheVariants.{Packed, Derived}
use Rattle.base_core.specs.declared.fault.DerivedField.{DerivedField}
use Rattle.base_core.specs.Base.{Base, Held}
use Rattle.base_core.specs.Entries.{extent_of, head_of}
use Rattle.base_core.specs.FirstFault.{AllPass, entry_checked, derived_fault, Signs, Passes, Fails, EntryFails, FirstFault}
use Rattle.base_core.specs.Means.{IsEntryOf, Means}
use Rattle.base_core.specs.Reading.{IsDecided, IsGameDecided}
use Rattle.base_core.proofs.CheckLaws.{checked, ends_within}
use Rattle.base_core.proofs.Lists.{get_push_new, get_push_old}
use Rattle.base_core.proofs.Results.{same_ok}
use Rattle.base_core.proofs.OneFault.{checked-fails, derived-fails, packed-fails, passes_fails}
use Rattle.base_core.proofs.OpenLaws.{whole_is, index_fails, names_fail}

-- Bytes are decided by what their reading answers.
pub decided_by : (r : Result Sig RecordFault) (bytes : List ℕ) → IfOk r (λ s. (tags : List Tag) × ((tree : GameTree) × (IsRecord bytes tags tree × IsSig tree s))) →
    IfErr r (IsRecordFault bytes) → IsDecided bytes
decided_by (Ok s) bytes ok err = inl (s, record { tags = ok.0; tree = ok.1.0; read = ok.1.1.0; signed = ok.1.1.1 })
decided_by (Err what) bytes ok err = inr (what, err)

pub game_decided : (index games bytes : List ℕ) (game : ℕ) (e : Entry) → Ok e ≡ entry_read bytes → bytes ≡ entry_bytes index game → IsDecided (record_in games (extent_of e)) → IsGameDecided index games game
game_decided index games bytes game e exact same decided = λ other read within.
    let is : e ≡ other = same_ok (entry_read bytes) e other (sym exact) (ap (λ (b : List ℕ). entry_read b) same ∙ read) in
    subst (λ (x : Entry). IsDecided (record_in games (extent_of x))) is decided

-- One game more.
pub one_decided : (index games : List ℕ) (n : ℕ) → ((i : ℕ) → i < n → IsGameDecided index games i) → IsGameDecided index games n → (i : ℕ) → i < n + 1 → IsGameDecided index games i
one_decided index games n before next i less =
    elim (eq-or-lt_of_le {n = i} {m = n} (omega (arith, less))) [
      | inl same ↦ subst (λ (k : ℕ). IsGameDecided index games k) (sym same) next
      | inr lower ↦ before i lower
    ]

-- An entry passes or fails.
abbrev PassesOrFails : Bool → NameLists → List ℕ → List ℕ → ℕ → Type 0
PassesOrFails strict names index games game =
    Passes strict names games game (entry_bytes index game) ⊎ ((fault : BaseFault) × Fails strict names games game (entry_bytes index game) fault)

by_derived : (strict : Bool) (names : NameLists) (games : List ℕ) (game : ℕ) (bytes : List ℕ) (e : Entry) (s : Sig) (d : Option DerivedField) → entry_checked names (length games) game bytes ≡ Ok e →
    Signs (record_in games (extent_of e)) s → derived_fault e s ≡ d → Passes strict names games game bytes ⊎ ((fault : BaseFault) × Fails strict names games game bytes fault)
by_derived strict names games game bytes e s None passed signs same = inl (record { fields = e; checked = passed; sig = s; signs = signs; derived = λ is. same })
by_derived true names games game bytes e s (Some field) passed signs same = inr (Derived game field, derived-fails names games game bytes e s field passed signs same)
by_derived false names games game bytes e s (Some field) passed signs same =
    inl (record { fields = e; checked = passed; sig = s; signs = signs; derived = λ is. absurd (true≢false (sym is)) })

by_record : (strict : Bool) (names : NameLists) (games : List ℕ) (game : ℕ) (bytes : List ℕ) (e : Entry) → entry_checked names (length games) game bytes ≡ Ok e → IsDecided (record_in games (extent_of e)) →
    Passes strict names games game bytes ⊎ ((fault : BaseFault) × Fails strict names games game bytes fault)
by_record strict names games game bytes e passed (inl d) = by_derived strict names games game bytes e d.0 (derived_fault e d.0) passed d.1 refl
by_record strict names games game bytes e passed (inr d) = inr (Packed game d.0, packed-fails strict names games game bytes e d.0 passed d.1)

by_checks : (strict : Bool) (names : NameLists) (index games : List ℕ) (game : ℕ) (r : Result Entry BaseFault) → entry_checked names (length games) game (entry_bytes index game) ≡ r →
    IsGameDecided index games game → PassesOrFails strict names index games game
by_checks strict names index games game (Err fault) same decided = inr (fault, checked-fails strict names games game (entry_bytes index game) fault same)
by_checks strict names index games game (Ok e) same decided =
    let c = checked names (length games) game (entry_bytes index game) e same in
    by_record strict names games game (entry_bytes index game) e same (decided e c.read (ends_within (length games) e c.placed))

-- The first so many entries pass, or one of them is the first that fails.
abbrev Until : Bool → NameLists → List ℕ → List ℕ → ℕ → ℕ → Type 0
Until strict names index games count n =
    ((i : ℕ) → i < n → Passes strict names games i (entry_bytes index i)) ⊎ ((fault : BaseFault) × EntryFails strict index names games count fault)

one_more : (strict : Bool) (names : NameLists) (index games : List ℕ) (count n : ℕ) → n < count → Until strict names index games count n → PassesOrFails strict names index games n → Until strict names index games count (suc n)
one_more strict names index games count n below (inr fails) next = inr fails
one_more strict names index games count n below (inl before) (inr fails) =
    inr (fails.0, record { game = n; there = below; before = λ i less earlier. passes_fails strict names games i (entry_bytes index i) earlier (before i less); fails = fails.1 })
one_more strict names index games count n below (inl before) (inl passes) =
    inl (λ i less. elim (eq-or-lt_of_le {n = i} {m = n} (omega (arith, less))) [
      | inl same ↦ subst (λ (k : ℕ). Passes strict names games k (entry_bytes index k)) (sym same) passes
      | inr lower ↦ before i lower
    ])

until : (strict : Bool) (names : NameLists) (index games : List ℕ) (count n : ℕ) → n ≤ count → ((i : ℕ) → i < count → IsGameDecided index games i) → Until strict names index games count n
until strict names index games count zero within decided = inl (λ i less. absurd (omega (arith, less)))
until strict names index games count (suc n) within decided =
    one_more strict names index games count n (omega (arith, within)) (until strict names index games count n (omega (arith, within)) decided)
    (by_checks strict names index games n (entry_checked names (length games) n (entry_bytes index n)) refl (decided n (omega (arith, within))))

-- The games of entries that pass.
abbrev AreFirst : NameLists → List ℕ → List ℕ → ℕ → List Held → Type 0
AreFirst names index games n all =
    (length all ≡ n) × ((i : ℕ) (held : Held) → slice_get all i ≡ Some held → IsEntryOf names games (entry_bytes index i) held)

game_of : (strict : Bool) (names : NameLists) (games : List ℕ) (game : ℕ) (bytes : List ℕ) → Passes strict names games game bytes → (held : Held) × IsEntryOf names games bytes held
game_of strict names games game bytes p =
    let e = p.fields in
    let c = checked names (length games) game bytes e p.checked in
    let held : Held = record { head = settled (head_of names e p.signs.tags); game = p.signs.tree; len = e.len } in (
      held,
      record {
        fields = e;
        read = c.read;
        named = c.named;
        says = record { tags = p.signs.tags; within = ends_within (length games) e c.placed; read = p.signs.read; head = refl; len = refl };
      },
    )

one_longer : (names : NameLists) (index games : List ℕ) (n : ℕ) (all : List Held) (held : Held) → AreFirst names index games n all → IsEntryOf names games (entry_bytes index n) held → AreFirst names index games (suc n) (all ++ held ∷ [])
one_longer names index games n all held first next =
    let long : length (all ++ held ∷ []) ≡ suc n = length_push all held ∙ omega (arith, first.0) in (
      long,
      λ i other at.
          elim (eq-or-lt_of_le {n = i} {m = n} (omega (arith, slice_get_within (all ++ held ∷ []) i other at, long))) [
            | inl same ↦
                let here : slice_get (all ++ held ∷ []) i ≡ Some held = ap (λ (k : ℕ). slice_get (all ++ held ∷ []) k) (same ∙ sym first.0) ∙ get_push_new all held in
                let is : held ≡ other = same_Some held other (sym here ∙ at) in
                subst (λ (k : ℕ). IsEntryOf names games (entry_bytes index k) other) (sym same) (subst (λ (h : Held). IsEntryOf names games (entry_bytes index n) h) is next)
            | inr lower ↦ first.1 i other (sym (get_push_old all held i (omega (arith, lower, first.0))) ∙ at)
          ],
    )

games_upto : (strict : Bool) (names : NameLists) (index games : List ℕ) (n : ℕ) → ((i : ℕ) → i < n → Passes strict names games i (entry_bytes index i)) → (all : List Held) × AreFirst names index games n all
games_upto strict names index games zero passes = ([], (refl, λ i held at. absurd (none-some held at)))
games_upto strict names index games (suc n) passes =
    let before = games_upto strict names index games n (λ i less. passes i (omega (arith, less))) in
    let next = game_of strict names games n (entry_bytes index n) (passes n (omega arith)) in
    (before.0 ++ next.0 ∷ [], one_longer names index games n before.0 next.0 before.1 next.1)

-- A fault or a base, by what the whole base has.
abbrev pub FaultOrBase : Bool → List ℕ → List ℕ → List ℕ → Type 0
FaultOrBase strict index names games =
    ((fault : BaseFault) × FirstFault strict index names games fault)
    ⊎ ((base : Base) × (Means index names games base × AllPass strict index base.names games base.header.games))

by_entries : (strict : Bool) (index names games : List ℕ) (header : IndexHead) (lists : NameLists) → index_read index ≡ Ok header → names_at names ≡ Ok lists →
    Until strict lists index games header.games header.games → FaultOrBase strict index names games
by_entries strict index names games header lists one two (inr fails) =
    inl (fails.0, inr (record { header = header; names = lists }, (whole_is index names header lists one two, fails.1)))
by_entries strict index names games header lists one two (inl passes) =
    let all = games_upto strict lists index games header.games passes in
    inr (
      record { header = header; names = lists; games = all.0; end = length games },
      (record { header = one; lists = two; end = refl; held = record { long = all.1.0; each = all.1.1 } }, passes),
    )

by_names : (strict : Bool) (index names games : List ℕ) (header : IndexHead) (r : Result NameLists NameFault) → index_read index ≡ Ok header → names_at names ≡ r →
    ((i : ℕ) → i < header.games → IsGameDecided index games i) → FaultOrBase strict index names games
by_names strict index names games header (Err fault) one two decided = inl (_, inl (names_fail index names header fault one two))
by_names strict index names games header (Ok lists) one two decided =
    by_entries strict index names games header lists one two (until strict lists index games header.games header.games (omega arith) decided)

-- Three files of which each record is decided have a first fault, or mean a base of which each entry passes.
pub fault_or_base : (strict : Bool) (index names games : List ℕ) (r : Result IndexHead IndexFault) → r ≡ index_read index →
    IfOk r (λ header. (i : ℕ) → i < header.games → IsGameDecided index games i) → FaultOrBase strict index names games
fault_or_base strict index names games (Err fault) one decided = inl (_, inl (index_fails index names fault (sym one)))
fault_or_base strict index names games (Ok header) one decided = by_names strict index names games header (names_at names) (sym one) refl decided
