-- What the committed files are.
use Rattle.std.proofs.Common.{◌≡◌, ◌≤◌, ℕ, List, length, Option, Some, None, option_map, IfSome, sym, ap, ◌∙◌, subst, arith}
use Rattle.base_files.specs.Seen.{FreshAlone, Seen, committed, told_instead}
use Rattle.base_files.specs.Told.{TellsLength}
use Rattle.block_store.specs.Placing.{IsEnd, longest_file}
use Rattle.index_entry.specs.declared.entry.Entry.{Entry}
use Rattle.base_core.specs.Base.{Base}
use Rattle.base_core.specs.Represents.{Kept, Represents}
use Rattle.base_core.specs.Saved.{MeansIt, OpensAgain, Writes}
use Rattle.compact_base.specs.declared.fault.CompactError.{CompactError}
use Rattle.compact_base.specs.declared.fault.CompactError.TheVariants as error
use Rattle.compact_base.specs.Compacting.{Compacts, IsCommitted, WhyNotCompacted, new_end, new_games, staying}
use Rattle.compact_base.specs.Drafting.{CopiedFirst, HasFirst, WhyNotCopied, WhyNotDrafted}
use Rattle.compact_base.proofs.FirstLaws.{all-stand, all-taken}

-- After all records were copied.
copied_all : (kept : Kept) (end : ℕ) (old mid : Seen) → CopiedFirst (length kept.entries) kept end old mid → mid ≡ record old { fresh = option_map (new_games kept.entries) old.games; added = new_end kept.entries }
copied_all kept end old mid has =
    let S : List Entry → Type 0 = λ es. mid ≡ record old { fresh = option_map (new_games es) old.games; added = new_end es } in
    subst S (all-taken kept.entries) has.seen

drafted_end : (kept draft : Kept) → HasFirst (length kept.entries) kept draft → draft.end ≡ new_end kept.entries
drafted_end kept draft has = subst (λ (es : List Entry). draft.end ≡ new_end es) (all-taken kept.entries) has.end

pub drafted-count : (kept draft : Kept) → HasFirst (length kept.entries) kept draft → length draft.entries ≡ length (staying kept.entries)
drafted-count kept draft has = subst (λ (es : List Entry). length draft.entries ≡ length (staying es)) (all-taken kept.entries) has.count

pub in-room : (kept draft : Kept) → HasFirst (length kept.entries) kept draft → new_end kept.entries ≤ longest_file
in-room kept draft has = subst (λ (n : ℕ). n ≤ longest_file) (drafted_end kept draft has) has.room

pub committed-so : (kept draft : Kept) (end : ℕ) (old mid new : Seen) (index names : List ℕ) → CopiedFirst (length kept.entries) kept end old mid → new ≡ committed names index mid → Writes draft index names → IsCommitted kept draft old new
committed-so kept draft end old mid new index names has is writes = record {
  index = index;
  names = names;
  writes = writes;
  put = is ∙ ap (λ (s : Seen). committed names index s) (copied_all kept end old mid has);
}

compacts_by : (kept draft : Kept) (games fresh : Option (List ℕ)) → HasFirst (length kept.entries) kept draft → fresh ≡ option_map (new_games kept.entries) games → Compacts kept draft games fresh
compacts_by kept draft None fresh has is = tt
compacts_by kept draft (Some told) fresh has is =
    let C : Option (List ℕ) → Type 0 = λ f. Compacts kept draft (Some told) f in
    subst C (sym is) (λ base stands. all-stand kept draft told base has stands)

pub compacts : (kept draft : Kept) (end : ℕ) (old mid new : Seen) (index names : List ℕ) → HasFirst (length kept.entries) kept draft → CopiedFirst (length kept.entries) kept end old mid → new ≡ committed names index mid →
    Compacts kept draft old.games new.games
compacts kept draft end old mid new index names has copied is =
    compacts_by kept draft old.games new.games has (ap (λ (s : Seen). s.games) is ∙ ap (λ (s : Seen). s.fresh) (copied_all kept end old mid copied))

means_by : (draft : Kept) (i n fresh : Option (List ℕ)) (index names : List ℕ) → TellsLength fresh draft.end →
    ((games : List ℕ) (base : Base) → draft.end ≡ length games → Represents draft games base → OpensAgain index names games base) →
    IfSome (told_instead index i) (λ x. IfSome (told_instead names n) (λ y. IfSome fresh (λ z. (base : Base) → Represents draft z base → OpensAgain x y z base)))
means_by draft None n fresh index names long opens = tt
means_by draft (Some i) None fresh index names long opens = tt
means_by draft (Some i) (Some n) None index names long opens = tt
means_by draft (Some i) (Some n) (Some games) index names long opens = λ base is. opens games base long is

-- Where the draft ends, the new games file ends.
fresh_end : (kept draft : Kept) (old mid : Seen) → HasFirst (length kept.entries) kept draft → CopiedFirst (length kept.entries) kept (new_end kept.entries) old mid → TellsLength mid.fresh draft.end
fresh_end kept draft old mid has copied = subst (λ (n : ℕ). TellsLength mid.fresh n) (sym (drafted_end kept draft has)) copied.long

pub means-it : (kept draft : Kept) (old mid new : Seen) (index names : List ℕ) → HasFirst (length kept.entries) kept draft → CopiedFirst (length kept.entries) kept (new_end kept.entries) old mid → new ≡ committed names index mid →
    ((games : List ℕ) (base : Base) → draft.end ≡ length games → Represents draft games base → OpensAgain index names games base) → MeansIt draft new
means-it kept draft old mid new index names has copied is opens =
    subst (λ (s : Seen). MeansIt draft s) (sym is) (means_by draft mid.index mid.names mid.fresh index names (fresh_end kept draft old mid has copied) opens)

pub ends-there : (kept draft : Kept) (old mid new : Seen) (index names : List ℕ) → HasFirst (length kept.entries) kept draft → CopiedFirst (length kept.entries) kept (new_end kept.entries) old mid → new ≡ committed names index mid →
    IsEnd draft.end new
ends-there kept draft old mid new index names has copied is =
    let known : mid.added ≡ new_end kept.entries = ap (λ (s : Seen). s.added) (copied_all kept (new_end kept.entries) old mid copied) in
    subst (λ (s : Seen). IsEnd draft.end s) (sym is) (record { known = omega (arith, known, drafted_end kept draft has); told = fresh_end kept draft old mid has copied })

-- The current files are as they were.
pub end-stays : (end : ℕ) (old new : Seen) → IsEnd end old → FreshAlone old new → IsEnd end new
end-stays end old new is left = subst (λ (s : Seen). IsEnd end s) (sym left) (record { known = is.known; told = is.told })

-- ---- why it is not done.

pub why-not-drafted : (kept : Kept) (told : Option (List ℕ)) (buf : List ℕ) (e : CompactError) → WhyNotDrafted (new_end kept.entries) e → WhyNotCompacted kept told buf e
why-not-drafted kept told buf error.Full why = why
why-not-drafted kept told buf error.Memory why = tt
why-not-drafted kept told buf error.Failed why = absurd why
why-not-drafted kept told buf (error.Changed game sig found) why = absurd why

pub why-not-copied : (kept : Kept) (told : Option (List ℕ)) (buf : List ℕ) (e : CompactError) → new_end kept.entries ≤ longest_file → WhyNotCopied kept told buf e → WhyNotCompacted kept told buf e
why-not-copied kept told buf (error.Changed game sig found) room why = (room, why)
why-not-copied kept told buf error.Failed room why = room
why-not-copied kept told buf error.Memory room why = tt
why-not-copied kept told buf error.Full room why = absurd why
