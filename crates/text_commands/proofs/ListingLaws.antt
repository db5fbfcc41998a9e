-- Laws of `list`: what the machine lists is what the base has.
use Rattle.std.proofs.Common.{◌≡◌, ◌<◌, ◌≤◌, ℕ, [], length, Some, sym, subst, ◌∙◌, ◌+◌, List, ◌∷◌, ◌++◌, map, Option, None, refl, ap, Result, Ok, Err, OnOk, append_assoc}
use Rattle.std.proofs.lemmas.List.Elements.{All-nil}
use Rattle.std.proofs.lemmas.Option.{same_Some}
use Rattle.std.specs.Prelude.{slice_get}
use Rattle.base_core.proofs.GamesLaws.{at-all, at-map, heads-are}
use Rattle.base_core.proofs.Lists.{get_some}
use Rattle.base_core.proofs.NameLaws.{head-bounded}
use Rattle.base_core.specs.Base.{Held}
use Rattle.base_core.specs.Entries.{head_of}
use Rattle.base_core.specs.Represents.{IsKept, IsSound, Kept, heads_of}
use Rattle.base_files.specs.Seen.{Seen}
use Rattle.game_tree.specs.Head.{IsTag, without_tags}
use Rattle.game_tree.specs.declared.head.Head.{Head}
use Rattle.index_entry.specs.declared.entry.Entry.{Entry}
use Rattle.shell_state.proofs.Quietly.{filter_is}
use Rattle.shell_state.specs.Lines.{texts_from, filter_line}
use Rattle.shell_state.specs.Stands.{Holding, Stands}
use Rattle.shell_state.specs.State.{State}
use Rattle.text_commands.specs.Listing.{listed, listed_if_in, list_of, list_text}

-- The opening code of a head is within its bound.
pub eco_bound : (kept : Kept) (i : ℕ) (head : Head) → IsSound kept → i < length kept.entries → slice_get (heads_of kept) i ≡ Some head → head.eco ≤ 65500
eco_bound kept i head sound below at =
    let e = get_some kept.entries i below in
    let is = at-all (IsKept kept.names kept.end) kept.entries i e.0 sound.entries e.1 in
    let f : Entry → Head = λ d. head_of kept.names d [] in
    let same : f e.0 ≡ head = same_Some (f e.0) head (sym (at-map f kept.entries i e.0 e.1) ∙ at) in
    let B : Head → Type 0 = λ h. h.eco ≤ 65500 in
    subst B same (head-bounded kept.names e.0 [] sound.names is.named is.fields (All-nil IsTag)).eco

-- No line shows the tags.
untagged : (n : ℕ) (plies : List (Option ℕ)) (games : List Held)
    → texts_from listed_if_in n plies (map (λ (held : Held). without_tags held.head) games) ≡ texts_from listed_if_in n plies (map (λ (held : Held). held.head) games)
untagged n [] games = refl
untagged n (ply ∷ plies) [] = refl
untagged n (Some ply ∷ plies) (held ∷ games) = ap (λ (l : List ℕ). listed n ply held.head ++ l) (untagged (n + 1) plies games)
untagged n (None ∷ plies) (held ∷ games) = untagged (n + 1) plies games

-- The list of a machine is that of the state for which it stands.
pub listed_text : (holding : Holding) (seen : Seen) (s : State) → Stands holding seen s → list_of holding.seat.filter (heads_of holding.kept) ≡ list_text s
listed_text holding seen s st =
    ap (λ (plies : List (Option ℕ)). list_of plies (heads_of holding.kept)) (filter_is st)
    ∙ ap (λ (heads : List Head). list_of s.seat.filter heads) (heads-are holding.kept st.games s.shared.base st.base)
    ∙ ap (λ (l : List ℕ). l ++ filter_line s.seat.filter) (untagged 0 s.seat.filter s.shared.base.games)

-- Three parts, put behind a text.
pub three : {A E : Type 0} (r : Result A E) (old one two new a b c : List ℕ) → one ≡ old ++ a → two ≡ one ++ b → OnOk r (new ≡ two ++ c) → OnOk r (new ≡ old ++ (a ++ (b ++ c)))
three (Ok x) old one two new a b c first second third =
    third ∙ ap (λ (l : List ℕ). l ++ c) (second ∙ ap (λ (l : List ℕ). l ++ b) first ∙ append_assoc old a b)
    ∙ append_assoc old (a ++ b) c ∙ ap (λ (l : List ℕ). old ++ l) (append_assoc a b c)
three (Err e) old one two new a b c first second third = tt

-- There is a head for each entry.
pub head_there : (kept : Kept) (i : ℕ) → i < length kept.entries → (head : Head) × (slice_get (heads_of kept) i ≡ Some head)
head_there kept i below =
    let e = get_some kept.entries i below in
    let f : Entry → Head = λ d. head_of kept.names d [] in
    (f e.0, at-map f kept.entries i e.0 e.1)
