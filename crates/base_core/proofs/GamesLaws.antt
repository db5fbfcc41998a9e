-- The games of an open base as searches see them.
use Rattle.std.proofs.Common.{◌≡◌, ◌<◌, ◌≤◌, ◌+◌, ℕ, List, [], length, map, slice_get, option_map, Some, All, sym, ap, ◌∙◌, subst, inl, inr, arith}
use Rattle.std.proofs.lemmas.Option.{slice_get-map, get_or_from_slice_get, slice_get_cases, slice_get_within, same_Some}
use Rattle.std.proofs.lemmas.List.{length-map, get_or_past}
use Rattle.base_files.specs.declared.extent.Extent.{Extent}
use Rattle.game_tree.specs.Game.{GameTree}
use Rattle.game_tree.specs.Head.{without_tags}
use Rattle.game_tree.specs.Settle.{settled}
use Rattle.game_tree.specs.declared.date.Date.{Date}
use Rattle.game_tree.specs.declared.head.Head.{Head}
use Rattle.index_entry.specs.declared.entry.Entry.{Entry}
use Rattle.name_base.specs.NameLists.{NameLists}
use Rattle.sig_index.specs.Games.{AreWithin, Holds, IsHeld, extent_in, head_in, plies_in}
use Rattle.sig_index.specs.Signature.{IsSigBounded}
use Rattle.sig_index.specs.declared.signature.Sig.{Sig}
use Rattle.base_core.specs.Base.{Base, Held}
use Rattle.base_core.specs.Entries.{extent_of, head_of, sig_in}
use Rattle.base_core.specs.Represents.{IsKept, IsSound, Keeps, Kept, Represents, extents_of, heads_of, sigs_of}
use Rattle.base_core.proofs.CheckLaws.{ends_within}
use Rattle.base_core.proofs.KeptLaws.{settled-rest}
use Rattle.base_core.proofs.Lists.{get_some, same_lists}

-- What a list of entries gives at a place.
pub at-map : {X : Type 0} (f : Entry → X) (entries : List Entry) (i : ℕ) (e : Entry) → slice_get entries i ≡ Some e → slice_get (map f entries) i ≡ Some (f e)
at-map f entries i e at = slice_get-map f entries i ∙ ap (option_map f) at

pub extent-at : (entries : List Entry) (i : ℕ) (e : Entry) → slice_get entries i ≡ Some e → extent_of e ≡ extent_in (map extent_of entries) i
extent-at entries i e at = sym (get_or_from_slice_get (map extent_of entries) i (extent_of e) _ (at-map extent_of entries i e at))

-- What searches read of a game's entry.
pub head-at : (kept : Kept) (i : ℕ) (e : Entry) → slice_get kept.entries i ≡ Some e → head_in (heads_of kept) i ≡ head_of kept.names e []
head-at kept i e at = get_or_from_slice_get (heads_of kept) i (head_of kept.names e []) _ (at-map (λ d. head_of kept.names d []) kept.entries i e at)

pub plies-at : (kept : Kept) (i : ℕ) (e : Entry) → slice_get kept.entries i ≡ Some e → plies_in (sigs_of kept) i ≡ e.plies
plies-at kept i e at =
    get_or_from_slice_get (map (λ (s : Sig). s.plies) (sigs_of kept)) i e.plies 0
    (slice_get-map (λ (s : Sig). s.plies) (sigs_of kept) i ∙ ap (option_map (λ (s : Sig). s.plies)) (at-map sig_in kept.entries i e at))

pub sig-bounded : (names : NameLists) (end : ℕ) (e : Entry) → IsKept names end e → IsSigBounded (sig_in e)
sig-bounded names end e is = record {
  material = is.fields.material;
  home_count = is.homes;
  home = is.fields.home;
  plies = omega (arith, is.fields.plies);
  vars = is.fields.vars;
  comments = is.fields.comments;
  nags = is.fields.nags;
}

-- An element of which all hold.
pub at-all : {X : Type 0} (P : X → Type 0) (xs : List X) (i : ℕ) (x : X) → All P xs → slice_get xs i ≡ Some x → P x
at-all P xs i x all at = subst P (get_or_from_slice_get xs i x x at) (all i x (slice_get_within xs i x at))

pub kept-at : (kept : Kept) (i : ℕ) (e : Entry) → IsSound kept → slice_get kept.entries i ≡ Some e → IsKept kept.names kept.end e
kept-at kept i e sound at = at-all (IsKept kept.names kept.end) kept.entries i e sound.entries at

-- Each record of an open base lies within its games file.
pub are-within : (kept : Kept) (known : ℕ) → IsSound kept → kept.end ≤ known → AreWithin known (extents_of kept)
are-within kept known sound end i =
    elim (slice_get_cases kept.entries i).1 [
      | inl there ↦
          let is = at-all (IsKept kept.names kept.end) kept.entries i there.0 sound.entries there.2 in
          let ends : there.0.offset + there.0.len ≤ kept.end = ends_within kept.end there.0 is.placed in
          let W : Extent → Type 0 = λ x. x.offset + x.len ≤ known in
          subst W (extent-at kept.entries i there.0 there.2) (omega (arith, ends, end))
      | inr past ↦
          let W : Extent → Type 0 = λ x. x.offset + x.len ≤ known in
          let long : length (map extent_of kept.entries) ≤ i = subst (λ n. n ≤ i) (sym (length-map kept.entries extent_of)) past.0 in
          subst W (sym (get_or_past (map extent_of kept.entries) i (record { offset = 0; len = 0 }) long)) (omega arith)
    ]

-- An element of a list of images is the image of the one at its place.
from-map : {X Y : Type 0} (f : X → Y) (xs : List X) (i : ℕ) (y : Y) → slice_get (map f xs) i ≡ Some y → (x : X) × ((slice_get xs i ≡ Some x) × (f x ≡ y))
from-map f xs i y at =
    let below : i < length xs = subst (λ n. i < n) (length-map xs f) (slice_get_within (map f xs) i y at) in
    let x = get_some xs i below in
    (x.0, (x.1, same_Some (f x.0) y (sym (slice_get-map f xs i ∙ ap (option_map f) x.1) ∙ at)))

-- The games file holds the records of the games that an open base stands for.
pub holds : (kept : Kept) (games : List ℕ) (base : Base) → Represents kept games base → Holds games (extents_of kept) (sigs_of kept) (map (λ held. held.game) base.games)
holds kept games base is = record {
  count = length-map base.games (λ held. held.game) ∙ (sym is.count ∙ sym (length-map kept.entries sig_in));
  each = λ i sig game at_sig at_game.
      let e = from-map sig_in kept.entries i sig at_sig in
      let held = from-map (λ (h : Held). h.game) base.games i game at_game in
      let keeps = is.each i e.0 held.0 e.1.0 held.1.0 in
      let H : Extent → Sig → GameTree → Type 0 = λ x s g. IsHeld games x s g in
      let one : IsHeld games (extent_of e.0) (sig_in e.0) held.0.game = record { tags = keeps.says.tags; is_record = keeps.says.read; is_sig = keeps.signed } in
      let two = subst (λ x. H x (sig_in e.0) held.0.game) (extent-at kept.entries i e.0 e.1.0) one in
      let three = subst (λ s. H (extent_in (map extent_of kept.entries) i) s held.0.game) e.1.1 two in
      subst (λ g. H (extent_in (map extent_of kept.entries) i) sig g) held.1.1 three;
}

head-is : (names : NameLists) (games : List ℕ) (e : Entry) (held : Held) → Keeps names games e held → head_of names e [] ≡ without_tags held.head
unfolding head_of
head-is names games e held keeps =
    let H : Head = head_of names e keeps.says.tags in
    let dates : (settled H).event_date ≡ e.event_date = ap (λ (h : Head). h.event_date) (sym keeps.says.head) ∙ keeps.event_date in
    let dated : record H { event_date = (settled H).event_date; tags = [] } ≡ record H { tags = [] } = ap (λ (d : Date). record H { event_date = d; tags = [] }) dates in
    sym (ap (λ (h : Head). without_tags h) keeps.says.head ∙ (settled-rest H ∙ dated))

-- The heads that searches see are those of the games, without their tags.
pub heads-are : (kept : Kept) (games : List ℕ) (base : Base) → Represents kept games base → heads_of kept ≡ map (λ held. without_tags held.head) base.games
heads-are kept games base is =
    same_lists (heads_of kept) (map (λ held. without_tags held.head) base.games)
    (length-map kept.entries (λ e. head_of kept.names e []) ∙ (is.count ∙ sym (length-map base.games (λ held. without_tags held.head))))
    (λ i x y at_x at_y.
    let e = from-map (λ (d : Entry). head_of kept.names d []) kept.entries i x at_x in
    let held = from-map (λ (h : Held). without_tags h.head) base.games i y at_y in
    sym e.1.1 ∙ (head-is kept.names games e.0 held.0 (is.each i e.0 held.0 e.1.0 held.1.0) ∙ held.1.1))
