-- The names of a base are within the bounds of a head's, and so is the head of an entry.
use Rattle.std.proofs.Common.{◌≡◌, ◌≢◌, ◌<◌, ℕ, zero, suc, false, List, [], ◌∷◌, length, All, slice_get, Some, sym, ap, subst, inl, inr, true≢false, ◌==◌, unwrap_or}
use Rattle.std.specs.List.{AllByRecursion}
use Rattle.std.proofs.lemmas.Bool.{cases_Bool, eqb-false}
use Rattle.std.proofs.lemmas.Option.{same_Some, none-some}
use Rattle.std.proofs.lemmas.List.Elements.{All-nil, All-cons}
use Rattle.cell_core.specs.Text.{IsZeroFree}
use Rattle.game_tree.specs.Head.{IsBounded, IsName, IsTag}
use Rattle.game_tree.specs.declared.head.Tag.{Tag}
use Rattle.index_entry.specs.Entry.{IsEntry}
use Rattle.index_entry.specs.declared.entry.Entry.{Entry}
use Rattle.name_base.specs.NameLists.{NameLists, AreNames, AreSound, has_zero, of_kind}
use Rattle.name_base.specs.NameLists.{IsName as IsBaseName}
use Rattle.name_base.specs.declared.kind.NameKind.{NameKind}
use Rattle.name_base.specs.declared.kind.NameKind.TheVariants.{Player, Event, Site, Round}
use Rattle.base_core.specs.Entries.{HasNames, head_of, name_at}
use Rattle.base_core.proofs.Lists.{get_some}

get-all : {X : Type 0} (P : X → Type 0) (xs : List X) (i : ℕ) (x : X) → AllByRecursion P xs → slice_get xs i ≡ Some x → P x
get-all P [] i x all at = absurd (none-some x at)
get-all P (y ∷ xs) zero x all at = subst P (same_Some y x at) all.0
get-all P (y ∷ xs) (suc i) x all at = get-all P xs i x all.1 at

zero_free : (text : List ℕ) → has_zero text ≡ false → IsZeroFree text
zero_free [] none = All-nil (λ (byte : ℕ). byte ≢ 0)
zero_free (byte ∷ text) none =
    elim (cases_Bool (byte == 0)) [
      | inl empty ↦ absurd (true≢false (rw empty at none))
      | inr other ↦ All-cons (λ (b : ℕ). b ≢ 0) byte text (eqb-false byte 0 other) (zero_free text (rw other at none))
    ]

name-is : (text : List ℕ) → IsBaseName text → IsName text
name-is text is = record { short = is.long; zero_free = zero_free text is.whole }

among : (limit : ℕ) (names : List (List ℕ)) (id : ℕ) (text : List ℕ) → AreNames limit names → slice_get names id ≡ Some text → IsName text
among limit names id text are at = name-is text (get-all IsBaseName names id text are.each at)

-- A name of a base can be one of a head.
pub named : (kind : NameKind) (lists : NameLists) (id : ℕ) (text : List ℕ) → AreSound lists → slice_get (of_kind kind lists) id ≡ Some text → IsName text
named Player lists id text sound at = among _ lists.players id text sound.players at
named Event lists id text sound at = among _ lists.events id text sound.events at
named Site lists id text sound at = among _ lists.sites id text sound.sites at
named Round lists id text sound at = among _ lists.rounds id text sound.rounds at

name-bounded : (limit : ℕ) (names : List (List ℕ)) (id : ℕ) → AreNames limit names → id < length names → IsName (name_at names id)
name-bounded limit names id are below =
    let n = get_some names id below in
    let is : name_at names id ≡ n.0 = ap (λ o. unwrap_or o []) n.1 in
    subst IsName (sym is) (among limit names id n.0 are n.1)

-- The head of an entry whose ids have names is within its bounds.
pub head-bounded : (names : NameLists) (e : Entry) (given : List Tag) → AreSound names → HasNames names e → IsEntry e → All IsTag given → IsBounded (head_of names e given)
unfolding head_of
head-bounded names e given sound has is tagged = record {
  white = name-bounded _ names.players e.white sound.players has.white;
  black = name-bounded _ names.players e.black sound.players has.black;
  event = name-bounded _ names.events e.event sound.events has.event;
  site = name-bounded _ names.sites e.site sound.sites has.site;
  round = name-bounded _ names.rounds e.round sound.rounds has.round;
  date = is.date;
  event_date = is.event_date;
  white_rating = is.white_rating;
  black_rating = is.black_rating;
  eco = is.eco;
  marks = is.marks;
  tags = tagged;
}
