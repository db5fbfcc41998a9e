-- Laws of what the files carry while a script runs.
use Rattle.std.proofs.Common.{true≢false, ◌≡◌, false, sym, subst, Bool, Option, Some, inl, Result, Ok, Err, ℕ, true, List, ◌++◌, ap, ◌∙◌, inr, None}
use Rattle.std.specs.Prelude.{IfErr, IfSome, IsSomeAnd, ◌⊎◌}
use Rattle.base_core.proofs.GrowLaws.{holds-own, means-carries, carries-longer}
use Rattle.base_core.proofs.SaveLaws.{holds-more}
use Rattle.base_core.specs.Base.{Base}
use Rattle.base_core.specs.Means.{HoldsNames, Means}
use Rattle.base_core.specs.Represents.{Kept}
use Rattle.base_core.specs.Saved.{AreWhole}
use Rattle.base_files.specs.Seen.{Seen, appended}
use Rattle.base_files.specs.Told.{adds, Grew}
use Rattle.name_base.specs.NameLists.{NameLists}
use Rattle.shell_state.specs.Carrying.{Beside, Contents, AreBeside, AreLeft, CarryIt, Settled, StillCarry}
use Rattle.shell_state.specs.Stands.{Holding, Stands}
use Rattle.shell_state.specs.State.{Carried, State}
use Rattle.shell_state.specs.declared.halt.Halt.{Halt}

-- Files that mean a base whose names are kept.
pub beside_meant : (kept : Kept) (seen : Seen) (base : Base) (sound : Bool) → (c : Contents seen) → kept.names ≡ base.names → Means c.index c.names c.games base → (sound ≡ true → AreWhole c.index c.names c.games base)
    → Beside kept seen false (record { base = base; sound = sound })
beside_meant kept seen base sound c names means whole =
    let carries = means-carries c.index c.names c.games base means in
    record {
      contents = c;
      carries = record { header = means.header; all_names = base.names; lists = means.lists; more_names = holds-own base.names; end = carries.end; held = means.held };
      names = subst (λ (n : NameLists). HoldsNames n base.names) (sym names) (holds-own base.names);
      means = λ clean. means;
      whole = λ clean. whole;
    }

-- After the commands of a script, and where one was broken off.
pub carried_left : (kept : Kept) (seen : Seen) (unsaved : Bool) (carried : Option Carried) → AreBeside kept seen unsaved carried → AreLeft seen carried unsaved
carried_left kept seen unsaved (Some carried) b = ((b.contents, b.carries), (λ clean. (b.contents, b.means clean), λ clean sound. (b.contents, b.whole clean sound)))
carried_left kept seen unsaved None b = b

-- Where there is a base that is carried: it, or what a command leaves of another one; and it alone.
abbrev pub MayCarry : Seen → Option Carried → Option (Base → Base) → Base → Type 0
MayCarry seen carried left base = IfSome carried (λ (own : Carried). CarryIt seen own.base ⊎ IsSomeAnd left (λ leaves. CarryIt seen (leaves base)))

abbrev pub CarryAfter : Seen → Option Carried → Type 0
CarryAfter seen carried = IfSome carried (λ (own : Carried). CarryIt seen own.base)

pub may_carry : (kept : Kept) (seen : Seen) (unsaved : Bool) (carried : Option Carried) (left : Option (Base → Base)) (base : Base) → AreBeside kept seen unsaved carried → MayCarry seen carried left base
may_carry kept seen unsaved (Some own) left base b = inl (b.contents, b.carries)
may_carry kept seen unsaved None left base b = tt

pub left_of : (holding : Holding) (seen : Seen) (s : State) → Stands holding seen s → AreLeft seen s.shared.carried s.shared.unsaved
left_of holding seen s st = carried_left holding.kept seen s.shared.unsaved s.shared.carried st.carried

carry_after : (kept : Kept) (seen : Seen) (unsaved : Bool) (carried : Option Carried) → AreBeside kept seen unsaved carried → CarryAfter seen carried
carry_after kept seen unsaved (Some own) b = (b.contents, b.carries)
carry_after kept seen unsaved None b = tt

-- Beside a machine that stands for the state behind a command.
pub settled_of : (holding : Holding) (seen : Seen) (later : State) (told told' : Option (List ℕ)) → Stands holding seen later → Settled seen later told told'
settled_of holding seen later told told' st = inr (carry_after holding.kept seen later.shared.unsaved later.shared.carried st.carried)

pub carry_of : (holding : Holding) (seen : Seen) (s : State) (left : Option (Base → Base)) → Stands holding seen s → StillCarry seen s left
carry_of holding seen s left st = may_carry holding.kept seen s.shared.unsaved s.shared.carried left s.shared.base st.carried

-- A command that changes no file.
pub carry_same : (holding : Holding) (seen seen' : Seen) (s : State) (left : Option (Base → Base)) → seen' ≡ seen → Stands holding seen s → StillCarry seen' s left
carry_same holding seen seen' s left same st = subst (λ (x : Seen). StillCarry x s left) (sym same) (carry_of holding seen s left st)

pub if_err : {A : Type 0} (r : Result A Halt) (P : Type 0) → P → IfErr r (λ _. P)
if_err (Ok x) P p = tt
if_err (Err e) P p = p

-- ---- as files and names grow

-- Bytes were added to the games file, and names to those that are kept; then the base is not saved.
pub beside_grown : (old new : Kept) (seen seen' : Seen) (more : List ℕ) (unsaved : Bool) (carried : Option Carried) → seen' ≡ appended more seen → HoldsNames new.names old.names
    → AreBeside old seen unsaved carried → AreBeside new seen' true carried
beside_grown old new seen seen' more unsaved (Some carried) is names b =
    let later = carries-longer b.contents.index b.contents.names b.contents.games more carried.base b.carries in
    record {
      contents = record {
        index = b.contents.index;
        names = b.contents.names;
        games = b.contents.games ++ more;
        index_told = ap (λ (s : Seen). s.index) is ∙ b.contents.index_told;
        names_told = ap (λ (s : Seen). s.names) is ∙ b.contents.names_told;
        games_told = ap (λ (s : Seen). s.games) is ∙ ap (λ (g : Option (List ℕ)). adds g more) b.contents.games_told;
      };
      carries = record {
        header = b.carries.header;
        all_names = b.carries.all_names;
        lists = b.carries.lists;
        more_names = b.carries.more_names;
        end = later.end;
        held = later.held;
      };
      names = holds-more new.names old.names b.carries.all_names names b.names;
      means = λ clean. absurd (true≢false clean);
      whole = λ clean. absurd (true≢false clean);
    }
beside_grown old new seen seen' more unsaved None is names b = (ap (λ (s : Seen). s.index) is ∙ b.0, ap (λ (s : Seen). s.names) is ∙ b.1)

-- What is carried then, whatever was broken off.
pub carry_appended : (holding : Holding) (seen seen' : Seen) (more : List ℕ) (s : State) (left : Option (Base → Base)) → seen' ≡ appended more seen → Stands holding seen s → StillCarry seen' s left
carry_appended holding seen seen' more s left is st =
    may_carry holding.kept seen' true s.shared.carried left s.shared.base (beside_grown holding.kept holding.kept seen seen' more s.shared.unsaved s.shared.carried is (holds-own holding.kept.names) st.carried)

-- The base was edited, and no file was changed.
pub beside_edited : (old new : Kept) (seen : Seen) (unsaved : Bool) (carried : Option Carried) → new.names ≡ old.names → AreBeside old seen unsaved carried → AreBeside new seen true carried
beside_edited old new seen unsaved (Some base) names b = record {
  contents = b.contents;
  carries = b.carries;
  names = subst (λ (n : NameLists). HoldsNames n b.carries.all_names) (sym names) b.names;
  means = λ clean. absurd (true≢false clean);
  whole = λ clean. absurd (true≢false clean);
}
beside_edited old new seen unsaved None names b = b

-- The games file grew, however far the bytes came.
told_longer : (games : List ℕ) (g : Option (List ℕ)) → Grew (Some games) g → (more : List ℕ) × (g ≡ Some (games ++ more))
told_longer games None grew = absurd grew
told_longer games (Some now) grew = (grew.0, ap (λ (x : List ℕ). Some x) grew.1)

carry_in_part : (seen seen' : Seen) (base : Base) → seen' ≡ record seen { games = seen'.games } → Grew seen.games seen'.games → CarryIt seen base → CarryIt seen' base
carry_in_part seen seen' base is grew (c, carries) =
    let G : Option (List ℕ) → Type 0 = λ g. Grew g seen'.games in
    let more = told_longer c.games seen'.games (subst G c.games_told grew) in (
      record {
        index = c.index;
        names = c.names;
        games = c.games ++ more.0;
        index_told = ap (λ (s : Seen). s.index) is ∙ c.index_told;
        names_told = ap (λ (s : Seen). s.names) is ∙ c.names_told;
        games_told = more.1;
      },
      carries-longer c.index c.names c.games more.0 base carries,
    )

may_in_part : (kept : Kept) (seen seen' : Seen) (unsaved : Bool) (carried : Option Carried) (left : Option (Base → Base)) (base : Base) → seen' ≡ record seen { games = seen'.games } → Grew seen.games seen'.games
    → AreBeside kept seen unsaved carried → MayCarry seen' carried left base
may_in_part kept seen seen' unsaved (Some own) left base is grew b = inl (carry_in_part seen seen' own.base is grew (b.contents, b.carries))
may_in_part kept seen seen' unsaved None left base is grew b = tt

pub carry_grown : (holding : Holding) (seen seen' : Seen) (s : State) (left : Option (Base → Base)) → seen' ≡ record seen { games = seen'.games } → Grew seen.games seen'.games → Stands holding seen s → StillCarry seen' s left
carry_grown holding seen seen' s left is grew st = may_in_part holding.kept seen seen' s.shared.unsaved s.shared.carried left s.shared.base is grew st.carried

-- What is carried beside another state of the same script.
pub carry_later : (holding : Holding) (seen : Seen) (s s' : State) (left : Option (Base → Base)) → s'.shared.carried ≡ s.shared.carried → Stands holding seen s' → StillCarry seen s left
carry_later holding seen s s' left same st =
    subst (λ (c : Option Carried). MayCarry seen c left s.shared.base) same (may_carry holding.kept seen s'.shared.unsaved s'.shared.carried left s.shared.base st.carried)

-- What is carried where nothing is left in its place is carried whatever breaks off.
carried_always : (seen : Seen) (carried : Option Carried) (left : Option (Base → Base)) (base base' : Base) → MayCarry seen carried None base' → MayCarry seen carried left base
carried_always seen (Some own) left base base' (inl carry) = inl carry
carried_always seen (Some own) left base base' (inr none) = absurd none
carried_always seen None left base base' may = tt

pub carry_before : (seen : Seen) (s s' : State) (left : Option (Base → Base)) → s'.shared.carried ≡ s.shared.carried → StillCarry seen s' None → StillCarry seen s left
carry_before seen s s' left same carry =
    let P : Option Carried → Type 0 = λ c. MayCarry seen c None s'.shared.base in
    carried_always seen s.shared.carried left s.shared.base s'.shared.base (subst P same carry)
