-- Laws of bodies that are to have one game.
use Rattle.std.proofs.Common.{◌≡◌, List, [], ◌∷◌, None, refl, Some, sym, ap, ◌∙◌, subst, Option, ◌+◌, ℕ, Err, ◌<◌, length, arith, ◌≤◌, Result, Ok, OnOk, inl, inr}
use Rattle.std.proofs.lemmas.Option.{slice_get_past}
use Rattle.std.specs.Prelude.{slice_get, IfOk}
use Rattle.base_core.proofs.Lists.{get_some}
use Rattle.base_core.specs.Base.{Base, Held}
use Rattle.base_core.specs.Edited.{WhyNotPlaced}
use Rattle.base_core.specs.declared.fault.EditError.{EditError}
use Rattle.base_core.specs.declared.fault.EditError.TheVariants as edit
use Rattle.base_core.specs.declared.fault.What.{What}
use Rattle.base_files.specs.Seen.{Seen}
use Rattle.game_tree.specs.Game.{GameTree}
use Rattle.game_tree.specs.declared.head.Head.{Head}
use Rattle.pgn_read.proofs.CountLaws.{listed_alone}
use Rattle.pgn_read.specs.Items.{AreItems, next_item, Next, next, items_of, text_start}
use Rattle.pgn_read.specs.Readers.{Follows, Reader, fresh_reader, told}
use Rattle.pgn_read.specs.Text.{At}
use Rattle.pgn_read.specs.declared.item.GameFault.{GameFault}
use Rattle.pgn_read.specs.declared.item.Item.{Item}
use Rattle.pgn_read.specs.declared.item.Item.TheVariants.{Good, Bad}
use Rattle.intake_commands.proofs.IntakeLaws.{follows_at, no_item_at, are_more, rest_at}
use Rattle.intake_commands.specs.Importing.{first_faulty, the_one, the_new, unless_line, faulty_line, line_with, state_with}
use Rattle.intake_commands.proofs.ByCase.{one_game_line, new_game, replace_text, replace_after}
use Rattle.intake_commands.specs.Intakes.{IsBegun, IsLeft, ReadOn, IsRest, IsOnly}
use Rattle.intake_commands.specs.declared.replacing.Only.{Only}
use Rattle.intake_commands.specs.declared.replacing.Only.TheVariants as only
use Rattle.shell_state.proofs.AddingLaws.{edit_device}
use Rattle.shell_state.specs.Ends.{EndsAs, IsDevice, refused_edit, refused_line}
use Rattle.shell_state.specs.Lines.{no_game_line}
use Rattle.shell_state.specs.Stands.{Holding, Stands}
use Rattle.shell_state.specs.State.{State}
use Rattle.shell_state.specs.declared.halt.Halt.{Halt}

-- ---- items behind the first

-- What stands where an item is read.
none_there : (at : At) (later : List Item) → AreItems at later → (next_item at).item ≡ None → later ≡ []
none_there at [] are is = refl
none_there at (item ∷ later) are is = absurd (cc (are.0, is))

one_there : (at at' : At) (item : Item) (later : List Item) → AreItems at later → next_item at ≡ next (Some item) at' → (rest : List Item) × (later ≡ item ∷ rest) × AreItems at' rest
one_there at at' item [] are is = let e : (next_item at).item ≡ Some item = ap (λ (n : Next). n.item) is in absurd (cc (are, e))
one_there at at' item (x ∷ later) are is =
    let e : (next_item at).item ≡ Some item = ap (λ (n : Next). n.item) is in
    let f : Some x ≡ Some item = sym are.0 ∙ e in
    let same : x ≡ item = cc in
    (later, ap (λ (i : Item). i ∷ later) same, subst (λ (a : At). AreItems a later) (ap (λ (n : Next). n.at) is) are.1)

-- A game more.
some_begun : (items later rest : List Item) (item : Item) (more : Option Only) → IsBegun items more later → later ≡ item ∷ rest → items ≡ [] → ⊥
some_begun items later rest item None begun is none = cc
some_begun items later rest item (Some only.Other) begun is none = begun none
some_begun items later rest item (Some (only.Game head game)) begun is none = begun
some_begun items later rest item (Some (only.Faulty number fault)) begun is none = begun

left_more : (items : List Item) (number : ℕ) (more : Option Only) (at at' : At) (head : Head) (game : GameTree) → IsLeft items number more at → next_item at ≡ next (Some (Good head game)) at'
    → IsLeft items (number + 1) (Some only.Other) at'
left_more items number more at at' head game l is =
    let one = one_there at at' (Good head game) l.later l.are is in
    record {
      later = one.0;
      are = one.2;
      faulty = l.faulty ∙ ap (first_faulty number) one.1;
      begun = some_begun items l.later one.0 (Good head game) more l.begun one.1;
    }

pub read_more : (at : At) (ahead ahead' : Option At) (number number' : ℕ) (more : Option Only) (head : Head) (game : GameTree) → ReadOn at ahead number more → Follows ahead (Some (Good head game)) ahead' → number' ≡ number + 1
    → ReadOn at ahead' number' (Some only.Other)
read_more at ahead ahead' number number' more head game r follows is =
    let F : Option At → Type 0 = λ o. Follows o (Some (Good head game)) ahead' in
    let there = follows_at r.here (Good head game) ahead' (subst F r.there follows) in
    let on : ReadOn at ahead' (number + 1) (Some only.Other) = record { here = there.0; there = there.1; all = λ items are. left_more items number more r.here there.0 head game (r.all items are) there.2 } in
    subst (λ (n : ℕ). ReadOn at ahead' n (Some only.Other)) (sym is) on

-- The end.
left_end : (items : List Item) (number : ℕ) (more : Option Only) (at : At) → IsLeft items number more at → (next_item at).item ≡ None → IsRest items more
left_end items number None at l is = l.begun ∙ none_there at l.later l.are is
left_end items number (Some only.Other) at l is = (l.faulty ∙ ap (first_faulty number) (none_there at l.later l.are is), l.begun)
left_end items number (Some (only.Game head game)) at l is = l.begun
left_end items number (Some (only.Faulty n fault)) at l is = absurd l.begun

pub read_end : (at : At) (ahead ahead' : Option At) (number : ℕ) (more : Option Only) (items : List Item) → ReadOn at ahead number more → Follows ahead None ahead' → AreItems at items → IsRest items more
read_end at ahead ahead' number more items r follows are =
    let F : Option At → Type 0 = λ o. Follows o None ahead' in
    left_end items number more r.here (r.all items are) (no_item_at r.here ahead' (subst F r.there follows))

-- An item that is no game.
pub read_faulty : (at : At) (ahead ahead' : Option At) (number : ℕ) (more : Option Only) (fault : GameFault) (items : List Item) → ReadOn at ahead number more → Follows ahead (Some (Bad fault)) ahead' → AreItems at items
    → IsRest items (Some (only.Faulty number fault))
read_faulty at ahead ahead' number more fault items r follows are =
    let F : Option At → Type 0 = λ o. Follows o (Some (Bad fault)) ahead' in
    let there = follows_at r.here (Bad fault) ahead' (subst F r.there follows) in
    let left = r.all items are in
    let one = one_there r.here there.0 (Bad fault) left.later left.are there.2 in
    left.faulty ∙ ap (first_faulty number) one.1

-- ---- the whole body

-- What the body is, by what stands behind a good first item.
abbrev pub only_with : Head → GameTree → Option Only → Only
only_with head game None = only.Game head game
only_with head game (Some other) = other

only_by : (items rest : List Item) (head : Head) (game : GameTree) (given : Option Only) → items ≡ Good head game ∷ rest → IsRest rest given → IsOnly items (only_with head game given)
only_by items rest head game None is none = is ∙ ap (λ (l : List Item). Good head game ∷ l) none
only_by items rest head game (Some only.Other) is (none, some) = (ap (first_faulty 1) is ∙ none, λ h g one. some (cc (is, one)))
only_by items rest head game (Some (only.Faulty n fault)) is faulty = ap (first_faulty 1) is ∙ faulty
only_by items rest head game (Some (only.Game h g)) is none = absurd none

only_of : (text : List ℕ) (ahead ahead' : Option At) (head : Head) (game : GameTree) (given : Option Only) → ahead ≡ Some (text_start text) → Follows ahead (Some (Good head game)) ahead'
    → ((at : At) → ahead' ≡ Some at → (items : List Item) → AreItems at items → IsRest items given) → IsOnly (items_of text) (only_with head game given)
only_of text ahead ahead' head game given is follows behind =
    let F : Option At → Type 0 = λ o. Follows o (Some (Good head game)) ahead' in
    let there = follows_at (text_start text) (Good head game) ahead' (subst F is follows) in
    let rest = rest_at there.0 in
    let all : items_of text ≡ Good head game ∷ rest.0 = sym (listed_alone text (Good head game ∷ rest.0) (are_more (text_start text) there.0 (Good head game) rest.0 there.2 rest.1)) in
    only_by (items_of text) rest.0 head game given all (behind there.0 there.1 rest.0 rest.1)

-- The same where what stands behind it is known by an equation.
pub only_so : (text : List ℕ) (ahead ahead' : Option At) (head : Head) (game : GameTree) (given other : Option Only) → given ≡ other → ahead ≡ Some (text_start text) → Follows ahead (Some (Good head game)) ahead'
    → ((at : At) → ahead' ≡ Some at → (items : List Item) → AreItems at items → IsRest items given) → IsOnly (items_of text) (only_with head game other)
only_so text ahead ahead' head game given other same is follows behind =
    let P : Option Only → Type 0 = λ o. IsOnly (items_of text) (only_with head game o) in
    subst P same (only_of text ahead ahead' head game given is follows behind)

-- A fresh reader stands at the start of its text.
pub fresh_told : (text : List ℕ) (reader : Reader) (left : Option (List ℕ)) → reader ≡ fresh_reader → left ≡ Some text → told reader left ≡ Some (text_start text)
fresh_told text reader left fresh is = ap (λ (r : Reader). told r left) fresh ∙ ap (told fresh_reader) is

pub only_faulty : (text : List ℕ) (ahead ahead' : Option At) (fault : GameFault) → ahead ≡ Some (text_start text) → Follows ahead (Some (Bad fault)) ahead' → IsOnly (items_of text) (only.Faulty 1 fault)
only_faulty text ahead ahead' fault is follows =
    let F : Option At → Type 0 = λ o. Follows o (Some (Bad fault)) ahead' in
    let there = follows_at (text_start text) (Bad fault) ahead' (subst F is follows) in
    let rest = rest_at there.0 in
    ap (first_faulty 1) (sym (listed_alone text (Bad fault ∷ rest.0) (are_more (text_start text) there.0 (Bad fault) rest.0 there.2 rest.1)))

-- ---- what comes of it

the_one_other : (base : Base) (items : List Item) → ((head : Head) (game : GameTree) → items ≡ Good head game ∷ [] → ⊥) → the_one base items ≡ Err one_game_line
the_one_other base [] other = refl
the_one_other base (Good head game ∷ []) other = absurd (other head game refl)
the_one_other base (Good head game ∷ item ∷ items) other = refl
the_one_other base (Bad fault ∷ items) other = refl

new_of_game : (s : State) (i : ℕ) (text : List ℕ) (held : Held) (head : Head) (game : GameTree) → slice_get s.shared.base.games i ≡ Some held → items_of text ≡ Good head game ∷ [] → the_new s i text ≡ the_one s.shared.base (Good head game ∷ [])
new_of_game s i text held head game there is = ap (λ (o : Option Held). new_game s i o (items_of text)) there ∙ ap (new_game s i (Some held)) is

new_of_other : (s : State) (i : ℕ) (text : List ℕ) (held : Held) → slice_get s.shared.base.games i ≡ Some held → IsOnly (items_of text) only.Other → the_new s i text ≡ Err one_game_line
new_of_other s i text held there (none, other) =
    ap (λ (o : Option Held). new_game s i o (items_of text)) there
    ∙ ap (λ (r : Option (List ℕ)). unless_line r (the_one s.shared.base (items_of text))) none
    ∙ the_one_other s.shared.base (items_of text) other

new_of_faulty : (s : State) (i : ℕ) (text : List ℕ) (held : Held) (number : ℕ) (fault : GameFault) → slice_get s.shared.base.games i ≡ Some held → IsOnly (items_of text) (only.Faulty number fault)
    → the_new s i text ≡ Err (faulty_line number fault)
new_of_faulty s i text held number fault there faulty =
    ap (λ (o : Option Held). new_game s i o (items_of text)) there ∙ ap (λ (r : Option (List ℕ)). unless_line r (the_one s.shared.base (items_of text))) faulty

new_of_none : (s : State) (i : ℕ) (text : List ℕ) → slice_get s.shared.base.games i ≡ None → the_new s i text ≡ Err (no_game_line i)
new_of_none s i text none = ap (λ (o : Option Held). new_game s i o (items_of text)) none

-- ---- what comes of it, by what stands there

held_there : (holding : Holding) (seen : Seen) (s : State) (i : ℕ) → Stands holding seen s → i < length holding.kept.entries → (held : Held) × (slice_get s.shared.base.games i ≡ Some held)
held_there holding seen s i st there = get_some s.shared.base.games i (omega (arith, there, st.base.count))

pub game_new : (holding : Holding) (seen : Seen) (s : State) (i : ℕ) (text : List ℕ) (head : Head) (game : GameTree) → Stands holding seen s → i < length holding.kept.entries → IsOnly (items_of text) (only.Game head game)
    → the_one s.shared.base (Good head game ∷ []) ≡ the_new s i text
game_new holding seen s i text head game st there is =
    let held = held_there holding seen s i st there in
    sym (new_of_game s i text held.0 head game held.1 is)

pub other_new : (holding : Holding) (seen : Seen) (s : State) (i : ℕ) (text : List ℕ) → Stands holding seen s → i < length holding.kept.entries → IsOnly (items_of text) only.Other
    → Err one_game_line ≡ the_new s i text
other_new holding seen s i text st there is =
    let held = held_there holding seen s i st there in
    sym (new_of_other s i text held.0 held.1 is)

pub faulty_new : (holding : Holding) (seen : Seen) (s : State) (i : ℕ) (text : List ℕ) (number : ℕ) (fault : GameFault) → Stands holding seen s → i < length holding.kept.entries
    → IsOnly (items_of text) (only.Faulty number fault) → Err (faulty_line number fault) ≡ the_new s i text
faulty_new holding seen s i text number fault st there is =
    let held = held_there holding seen s i st there in
    sym (new_of_faulty s i text held.0 number fault held.1 is)

pub none_new : (holding : Holding) (seen : Seen) (s : State) (i : ℕ) (text : List ℕ) → Stands holding seen s → length holding.kept.entries ≤ i → Err (no_game_line i) ≡ the_new s i text
none_new holding seen s i text st past = sym (new_of_none s i text (slice_get_past s.shared.base.games i (omega (arith, past, st.base.count))))

-- The text and the state of a command for a game and those for its body.
abbrev pub New : Type 0
New = Result (Head × GameTree) (List ℕ)

pub says_new : {A E : Type 0} (r : Result A E) (items : A → List ℕ) (i : ℕ) (one new : New) → one ≡ new → IfOk r (λ line. items line ≡ line_with i one) → IfOk r (λ line. items line ≡ line_with i new)
says_new (Ok line) items i one new same says = says ∙ ap (line_with i) same
says_new (Err e) items i one new same says = tt

pub stands_new : {A E : Type 0} (r : Result A E) (holding : Holding) (seen : Seen) (s : State) (i : ℕ) (one new : New) → one ≡ new → OnOk r (Stands holding seen (state_with s i one)) → OnOk r (Stands holding seen (state_with s i new))
stands_new (Ok line) holding seen s i one new same st = subst (Stands holding seen) (ap (state_with s i) same) st
stands_new (Err e) holding seen s i one new same st = tt

-- The same for the number of a game.
pub says_at : {A E : Type 0} (r : Result A E) (items : A → List ℕ) (s : State) (text : List ℕ) (i number : ℕ) → i ≡ number → IfOk r (λ line. items line ≡ replace_text s i text) → IfOk r (λ line. items line ≡ replace_text s number text)
says_at (Ok line) items s text i number same says = says ∙ ap (λ (n : ℕ). replace_text s n text) same
says_at (Err e) items s text i number same says = tt

pub stands_at : {A E : Type 0} (r : Result A E) (holding : Holding) (seen : Seen) (s : State) (text : List ℕ) (i number : ℕ) → i ≡ number → OnOk r (Stands holding seen (replace_after s i text))
    → OnOk r (Stands holding seen (replace_after s number text))
stands_at (Ok line) holding seen s text i number same st = subst (λ (n : ℕ). Stands holding seen (replace_after s n text)) same st
stands_at (Err e) holding seen s text i number same st = tt

-- A line that changes nothing.
pub refused_new : (holding : Holding) (seen : Seen) (s : State) (i : ℕ) (line : List ℕ) (new : New) → Err line ≡ new → Stands holding seen s → Stands holding seen (state_with s i new)
refused_new holding seen s i line new same st = subst (λ (n : New). Stands holding seen (state_with s i n)) same st

-- ---- how putting a game there ends

not_put_so : (e : EditError) (h : Halt) (len : ℕ) (full : Option What) → WhyNotPlaced len full e → refused_line e ≡ Err h → refused_edit e ≡ Err h
not_put_so (edit.TooLong n) h len full why ends = absurd (cc)
not_put_so (edit.Full what) h len full why ends = absurd (cc)
not_put_so (edit.NoGame n) h len full why ends = absurd why
not_put_so (edit.Changed g sig found) h len full why ends = absurd why
not_put_so edit.Failed h len full why ends = cc
not_put_so edit.Memory h len full why ends = cc

pub not_put_device : (e : EditError) (h : Halt) (len : ℕ) (full : Option What) → WhyNotPlaced len full e → EndsAs (refused_line e) h → IsDevice h
not_put_device e h len full why (inl memory) = subst IsDevice (sym memory) tt
not_put_device e h len full why (inr ends) = edit_device e h len full why (not_put_so e h len full why ends)
