-- Laws of the opening of a session.
use Rattle.std.proofs.Common.{◌≡◌, ℕ, Bool, true, false, ◌&&◌, nat_eq, List, [], ◌∷◌, length, Option, Some, None, IfSome, refl, ap, ◌∙◌, subst, arith, eqb-true}
use Rattle.std.specs.Bool.{MatchBool}
use Rattle.base_files.specs.Seen.{Seen}
use Rattle.base_core.specs.Base.{Base, empty_base}
use Rattle.base_core.specs.Means.{Means}
use Rattle.base_core.specs.Opening.{IfBad, IfTold, Opens, Refuses, are_empty, is_created}
use Rattle.base_core.specs.Represents.{Kept}
use Rattle.base_core.specs.declared.fault.OpenError.{OpenError}
use Rattle.base_core.specs.declared.fault.OpenError.TheVariants as error
use Rattle.shell_state.specs.Carrying.{AreEmpty, Contents}
use Rattle.desk_commands.specs.Desk.{desk_begin}
use Rattle.desk_commands.specs.Standing.{DeskHolding, DeskStands}
use Rattle.shell_state.specs.Slots.{Slot}
use Rattle.shell_state.specs.Stands.{IsOpen, ShowNone}
use Rattle.shell_session.specs.Running.{Opening, OpeningRefused}
use Rattle.session_status.specs.Stops.{status_of_opening}
use Rattle.session_status.specs.declared.status.Status.TheVariants.{FilesFault}

-- A base that is not opened ends the session.
pub refused_by : (e : OpenError) (create strict : Bool) (seen : Seen) → IfBad (λ fault. IfTold seen (λ index names games. Refuses create strict index names games fault)) e
    → OpeningRefused create strict seen (status_of_opening e)
refused_by (error.Bad fault) create strict seen refuses = refuses
refused_by error.Failed create strict seen refuses = tt
refused_by error.Memory create strict seen refuses = tt

pub failed_is : (e : OpenError) → status_of_opening e ≡ FilesFault → e ≡ error.Failed
failed_is (error.Bad fault) is = cc
failed_is error.Failed is = refl
failed_is error.Memory is = cc

-- The files of a base that is created are empty.
none_of : (bytes : List ℕ) → nat_eq (length bytes) 0 ≡ true → bytes ≡ []
none_of [] is = refl
none_of (byte ∷ bytes) is = absurd (omega (arith, eqb-true (length (byte ∷ bytes)) 0 is))

both_so : (a b : Bool) → (a && b) ≡ true → (a ≡ true) × (b ≡ true)
both_so true b is = (refl, is)
both_so false b is = absurd (cc)

empty_parts : (create : Bool) (index names games : List ℕ) → is_created create index names games ≡ true → (index ≡ []) × (names ≡ [])
empty_parts create index names games is =
    let are = (both_so create (are_empty index names (length games)) is).1 in
    let both = both_so (nat_eq (length index) 0) (nat_eq (length names) 0) (both_so (nat_eq (length index) 0 && nat_eq (length names) 0) (nat_eq (length games) 0) are).0 in
    (none_of index both.0, none_of names both.1)

meant_so : (created : Bool) (seen : Seen) (base : Base) (c : Contents seen) → MatchBool created (base ≡ empty_base) (Means c.index c.names c.games base)
    → (created ≡ true → (c.index ≡ []) × (c.names ≡ [])) → MatchBool created (AreEmpty seen) (Means c.index c.names c.games base)
meant_so true seen base c means empty =
    let parts = empty refl in
    let S : List ℕ → Option (List ℕ) = λ x. Some x in
    (c.index_told ∙ ap S parts.0, c.names_told ∙ ap S parts.1)
meant_so false seen base c means empty = means

-- A machine over what is kept stands for the desk in which a script begins, where its base was opened or created.
abbrev pub Starts : Kept → Bool → DeskHolding → Type 0
Starts kept desk held = (seen : Seen) (created : Bool) (slots : List Slot) (base : Base) → ShowNone slots → IsOpen kept seen created base → DeskStands held seen (desk_begin desk created seen.fresh slots base)

opening_by : (create strict desk : Bool) (i n g fresh : Option (List ℕ)) (seen : Seen) (kept : Kept) (held : DeskHolding) (mended : ℕ)
    → IfSome i (λ index. IfSome n (λ names. IfSome g (λ games. Opens create strict index names games kept mended)))
    → seen.index ≡ i → seen.names ≡ n → seen.games ≡ g → seen.fresh ≡ fresh → Starts kept desk held
    → IfSome i (λ index. IfSome n (λ names. IfSome g (λ games. Opening create strict desk index names games fresh held seen mended)))
opening_by create strict desk None n g fresh seen kept held mended opens is ns gs same starts = tt
opening_by create strict desk (Some index) None g fresh seen kept held mended opens is ns gs same starts = tt
opening_by create strict desk (Some index) (Some names) None fresh seen kept held mended opens is ns gs same starts = tt
opening_by create strict desk (Some index) (Some names) (Some games) fresh seen kept held mended opens is ns gs same starts =
    let c : Contents seen = record { index = index; names = names; games = games; index_told = is; names_told = ns; games_told = gs } in
    let created : Bool = is_created create index names games in
    record {
      base = opens.base;
      means = opens.means;
      mends = opens.mends;
      faultless = opens.sound;
      stands = λ slots none. subst (λ (f : Option (List ℕ)). DeskStands held seen (desk_begin desk created f slots opens.base)) same
          (starts seen created slots opens.base none (record {
            contents = c;
            represents = opens.represents;
            saved = opens.saved;
            means = meant_so created seen opens.base c opens.means (empty_parts create index names games);
          }));
    }

pub opening : (create strict desk : Bool) (old seen : Seen) (kept : Kept) (held : DeskHolding) (mended : ℕ) → IfTold old (λ index names games. Opens create strict index names games kept mended)
    → seen.index ≡ old.index → seen.names ≡ old.names → seen.games ≡ old.games → seen.fresh ≡ old.fresh → Starts kept desk held
    → IfTold old (λ index names games. Opening create strict desk index names games old.fresh held seen mended)
opening create strict desk old seen kept held mended opens is ns gs same starts = opening_by create strict desk old.index old.names old.games old.fresh seen kept held mended opens is ns gs same starts
