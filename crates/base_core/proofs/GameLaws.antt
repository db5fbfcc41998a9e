-- What reading one game answers, where the games file is told.
use Rattle.std.proofs.Common.{◌≡◌, ◌<◌, ℕ, List, slice_get, Option, Some, None, IfSome, sym, ap, ◌∙◌, subst}
use Rattle.std.proofs.lemmas.Option.{slice_get_within}
use Rattle.base_files.specs.Extents.{record_in}
use Rattle.base_files.specs.Told.{Tells, part_told}
use Rattle.game_tree.specs.Game.{GameTree}
use Rattle.game_tree.specs.Settle.{settled}
use Rattle.game_tree.specs.declared.head.Head.{Head}
use Rattle.game_tree.specs.declared.head.Tag.{Tag}
use Rattle.game_codec.specs.Record.{IsRecord}
use Rattle.game_codec.proofs.RecordAnswerLaws.{record-one}
use Rattle.index_entry.specs.declared.entry.Entry.{Entry}
use Rattle.sig_index.specs.Signature.{IsSig}
use Rattle.sig_index.specs.declared.signature.Sig.{Sig}
use Rattle.base_core.specs.declared.fault.EditError.{EditError}
use Rattle.base_core.specs.declared.fault.EditError.TheVariants as edit
use Rattle.base_core.specs.Base.{Base}
use Rattle.base_core.specs.Entries.{extent_of, head_of, sig_in}
use Rattle.base_core.specs.GameAt.{IfChanged, IsGameAt, ShowChange, TellsChange}
use Rattle.base_core.specs.Represents.{Kept, Represents}
use Rattle.base_core.proofs.Lists.{get_some}
use Rattle.base_core.proofs.OneFault.{sig-one}

game_at : (games : List ℕ) (kept : Kept) (i : ℕ) (e : Entry) (tags : List Tag) (tree : GameTree) (head : Head) → slice_get kept.entries i ≡ Some e → IsRecord (record_in games (extent_of e)) tags tree →
    head ≡ settled (head_of kept.names e tags) → IsGameAt kept games i head tree
game_at games kept i e tags tree head at read is = λ base held represents at_held.
    let keeps = represents.each i e held at at_held in
    let one = record-one (record_in games (extent_of e)) tags keeps.says.tags tree held.game read keeps.says.read in
    (is ∙ (ap (λ (t : List Tag). settled (head_of kept.names e t)) one.0 ∙ sym keeps.says.head), one.1)

-- The game of a record is the base's.
pub game_told : (told : Option (List ℕ)) (kept : Kept) (i : ℕ) (e : Entry) (bytes : List ℕ) (tags : List Tag) (tree : GameTree) (head : Head) → slice_get kept.entries i ≡ Some e → Tells (part_told told e.offset e.len) bytes →
    IsRecord bytes tags tree → head ≡ settled (head_of kept.names e tags) → IfSome told (λ games. IsGameAt kept games i head tree)
game_told None kept i e bytes tags tree head at tells read is = tt
game_told (Some games) kept i e bytes tags tree head at tells read is =
    let R : List ℕ → Type 0 = λ b. IsRecord b tags tree in game_at games kept i e tags tree head at (subst R tells read) is

no_change : (games : List ℕ) (kept : Kept) (i : ℕ) (e : Entry) (found : Option Sig) (base : Base) → slice_get kept.entries i ≡ Some e → ShowChange (record_in games (extent_of e)) (sig_in e) found → Represents kept games base → ⊥
no_change games kept i e None base at shown represents =
    let held = get_some base.games i (subst (λ n. i < n) represents.count (slice_get_within kept.entries i e at)) in
    let keeps = represents.each i e held.0 at held.1 in
    shown (keeps.says.tags, (held.0.game, keeps.says.read))
no_change games kept i e (Some found) base at shown represents =
    let held = get_some base.games i (subst (λ n. i < n) represents.count (slice_get_within kept.entries i e at)) in
    let keeps = represents.each i e held.0 at held.1 in
    let one = record-one (record_in games (extent_of e)) shown.0 keeps.says.tags shown.1.0 held.0.game shown.1.1.0 keeps.says.read in
    let S : GameTree → Type 0 = λ g. IsSig g found in
    shown.1.1.1.1 (sig-one held.0.game found (sig_in e) (subst S one.1 shown.1.1.1.0) keeps.signed)

-- A base that the files hold has not changed.
pub unchanged_told : (told : Option (List ℕ)) (kept : Kept) (i : ℕ) (e : Entry) (bytes : List ℕ) (error : EditError) → slice_get kept.entries i ≡ Some e → Tells (part_told told e.offset e.len) bytes →
    TellsChange i (sig_in e) bytes error → IfChanged error (IfSome told (λ games. (base : Base) → Represents kept games base → ⊥))
unchanged_told None kept i e bytes (edit.Changed game sig found) at tells change = tt
unchanged_told (Some games) kept i e bytes (edit.Changed game sig found) at tells change =
    let B : List ℕ → Type 0 = λ b. ShowChange b (sig_in e) found in
    λ base represents. no_change games kept i e found base at (subst B tells change.1.1) represents
unchanged_told told kept i e bytes edit.Memory at tells change = tt
unchanged_told told kept i e bytes edit.Failed at tells change = absurd change
unchanged_told told kept i e bytes (edit.NoGame game) at tells change = absurd change
unchanged_told told kept i e bytes (edit.TooLong n) at tells change = absurd change
unchanged_told told kept i e bytes (edit.Full what) at tells change = absurd change
