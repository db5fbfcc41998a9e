-- What a line brings to the seats of the others.
use Rattle.std.proofs.Common.{◌≡◌, ℕ, Bool, true, false, cond, List, [], ◌∷◌, Option, Some, None, Result, Ok, Err, All, OnOk, length, map, refl, sym, ap, subst, ◌∙◌, ◌⊎◌, inl, inr}
use Rattle.std.proofs.lemmas.List.Elements.{All-cons, All-head, All-nil, All-tail}
use Rattle.std.specs.Prelude.{IfSome, IsTrue, nat_lt, ◌↔◌}
use Rattle.base_core.specs.Base.{Base}
use Rattle.base_core.specs.Compacted.{compacted}
use Rattle.base_core.specs.Represents.{Kept, Represents}
use Rattle.compact_base.specs.Compacting.{numbering}
use Rattle.edit_commands.proofs.CompactLaws.{kept_same, numbers_same}
use Rattle.edit_commands.specs.Compacting.{numbers_of}
use Rattle.filter_seat.proofs.FollowLaws.{fits_after, seat_same}
use Rattle.filter_seat.specs.Following.{CanFollow, Moving, Rising, games_after, seat_after}
use Rattle.filter_seat.specs.Seats.{FitsGames, Seat}
use Rattle.game_filter.specs.Renumbering.{Numbering}
use Rattle.script_text.specs.Tasks.{Order}
use Rattle.script_text.specs.declared.command.Command.TheVariants.{Import, Replace, Demo, Compact}
use Rattle.desk_commands.specs.Desk.{brought, moved_by}
use Rattle.desk_commands.specs.Doing.{IsNoted}
use Rattle.desk_commands.specs.Kinds.{order_kind}
use Rattle.desk_commands.specs.declared.kinds.Kind.TheVariants.{Private, Public, Adds}
use Rattle.desk_commands.specs.declared.moving.Before.{Before}

-- ---- what a line of a kind moves

pub none_moved : (order : Order) (before after : Base) → (order_kind order ≡ Private) ⊎ (order_kind order ≡ Public) → moved_by order before after ≡ Moving.nothing
none_moved (Ok (Import word)) before after (inl is) = absurd cc
none_moved (Ok (Import word)) before after (inr is) = absurd cc
none_moved (Ok (Demo seed games)) before after (inl is) = absurd cc
none_moved (Ok (Demo seed games)) before after (inr is) = absurd cc
none_moved (Ok (Replace game word)) before after (inl is) = absurd cc
none_moved (Ok (Replace game word)) before after (inr is) = absurd cc
none_moved (Ok Compact) before after (inl is) = absurd cc
none_moved (Ok Compact) before after (inr is) = absurd cc
none_moved _ before after is = refl

pub some_added : (order : Order) (before after : Base) → order_kind order ≡ Adds → moved_by order before after ≡ Moving.added (length after.games)
some_added (Ok (Import word)) before after is = refl
some_added (Ok (Demo seed games)) before after is = refl
some_added _ before after is = absurd cc

pub none_brought : (order : Order) (before after : Base) (seat : Seat) → (order_kind order ≡ Private) ⊎ (order_kind order ≡ Public) → brought order before after seat ≡ seat
none_brought order before after seat is = ap (λ (m : Moving). seat_after m seat) (none_moved order before after is) ∙ seat_same seat

-- ---- what the machine tells

numbers_are : (old : Kept) (games : List ℕ) (before : Base) → Represents old games before → numbering old.entries ≡ record { to = numbers_of before; kept = length (compacted before).games }
numbers_are old games before is =
    ap (λ (to : List (Option ℕ)). record { to = to; kept = (numbering old.entries).kept }) (numbers_same old games before is)
    ∙ ap (λ (n : ℕ). record { to = numbers_of before; kept = n }) (kept_same old games before is)

if_noted : (o : Option Numbering) (numbers : Numbering) (P : Numbering → Type 0) → o ≡ Some numbers → IfSome o P → P numbers
if_noted o numbers P is so = subst (λ (x : Option Numbering). IfSome x P) is so

pub tells_numbered : (order : Order) (old new : Kept) (noted : Before) (told : Moving) → order ≡ Ok Compact
    → IfSome noted.numbering (λ (numbers : Numbering). told ≡ cond (nat_lt (length new.entries) noted.games) (Moving.numbered numbers) Moving.nothing)
    → (games later : List ℕ) (before after : Base) → IsNoted old order noted → Represents old games before → Represents new later after → told ≡ moved_by order before after
tells_numbered order old new noted told is so = λ games later before after notes old_is new_is.
    let numbers = if_noted noted.numbering (numbering old.entries) (λ (n : Numbering). told ≡ cond (nat_lt (length new.entries) noted.games) (Moving.numbered n) Moving.nothing) (notes.numbers is) so in
    numbers ∙ (ap (λ (n : Numbering). cond (nat_lt (length new.entries) noted.games) (Moving.numbered n) Moving.nothing) (numbers_are old games before old_is)
    ∙ (ap (λ (n : ℕ). cond (nat_lt n noted.games) (Moving.numbered (record { to = numbers_of before; kept = length (compacted before).games })) Moving.nothing) new_is.count
    ∙ (ap (λ (n : ℕ). cond (nat_lt (length after.games) n) (Moving.numbered (record { to = numbers_of before; kept = length (compacted before).games })) Moving.nothing) (notes.games ∙ old_is.count)
    ∙ ap (λ (o : Order). moved_by o before after) (sym is))))

-- ---- the seats then

abbrev pub Fitting : ℕ → Seat → Type 0
Fitting games seat = FitsGames seat games

seats_after : (moving : Moving) (games : ℕ) (seats : List Seat) → CanFollow moving games → Rising moving → All (Fitting games) seats → All (Fitting (games_after moving games)) (map (seat_after moving) seats)
seats_after moving games [] follows rises fit = All-nil (Fitting (games_after moving games))
seats_after moving games (seat ∷ seats) follows rises fit =
    All-cons (Fitting (games_after moving games)) (seat_after moving seat) (map (seat_after moving) seats)
    (fits_after None moving seat (seat_after moving seat) games (All-head (Fitting games) seat seats fit) follows rises refl refl)
    (seats_after moving games seats follows rises (All-tail (Fitting games) seat seats fit))

-- They can follow, if they are to.
pub leads_so : (b : Bool) (P : Type 0) → b ≡ true → (IsTrue b ↔ P) → P
leads_so b P is leads = leads.0 is

pub fit_after : {A E : Type 0} (r : Result A E) (moving : Moving) (games later : ℕ) (old new : List Seat) → CanFollow moving games → Rising moving → later ≡ games_after moving games → All (Fitting games) old → OnOk r (new ≡ map (seat_after moving) old)
    → OnOk r (All (Fitting later) new)
fit_after (Ok x) moving games later old new follows rises same fit is =
    subst (λ (n : ℕ). All (Fitting n) new) (sym same) (subst (λ (l : List Seat). All (Fitting (games_after moving games)) l) (sym is) (seats_after moving games old follows rises fit))
fit_after (Err e) moving games later old new follows rises same fit is = tt

pub brought_after : {A E : Type 0} (r : Result A E) (told : Moving) (order : Order) (before after : Base) (old new : List Seat) → told ≡ moved_by order before after → OnOk r (new ≡ map (seat_after told) old) → OnOk r (new ≡ map (brought order before after) old)
brought_after (Ok x) told order before after old new same is = is ∙ ap (λ (m : Moving). map (seat_after m) old) same
brought_after (Err e) told order before after old new same is = tt
