-- Records that are held do not change, since bytes are the record of one game, and a game has one signature.
use Rattle.std.proofs.Common.{◌≡◌, ℕ, suc, zero, List, [], ◌∷◌, length, take, Option, None, Some, refl, sym, ap, subst, arith}
use Rattle.std.specs.Prelude.{slice_get}
use Rattle.base_files.specs.declared.extent.Extent.{Extent}
use Rattle.game_codec.specs.Record.{IsRecord}
use Rattle.game_codec.proofs.RecordAnswerLaws.{record-one}
use Rattle.game_tree.specs.Game.{GameTree}
use Rattle.game_tree.specs.declared.head.Tag.{Tag}
use Rattle.sig_index.specs.Games.{HasChanged, Holds, Shows, extent_in}
use Rattle.sig_index.specs.Signature.{IsSig}
use Rattle.sig_index.specs.declared.signature.Sig.{Sig}
use Rattle.sig_index.proofs.SigOf.{signature_one}

there : {X Y : Type 0} (xs : List X) (ys : List Y) (i : ℕ) (x : X) → length ys ≡ length xs → slice_get xs i ≡ Some x → (y : Y) × (slice_get ys i ≡ Some y)
there [] ys i x same h = absurd cc
there (a ∷ xs) [] i x same h = absurd (omega (arith, same))
there (a ∷ xs) (b ∷ ys) zero x same h = (b, refl)
there (a ∷ xs) (b ∷ ys) (suc i) x same h = there xs ys i x (omega (arith, same)) h

shown : (bytes : List ℕ) (tags : List Tag) (game : GameTree) (sig : Sig) (found : Option Sig) → IsRecord bytes tags game → IsSig game sig
    → Shows bytes found → found ≡ Some sig
shown bytes tags game sig None r is shows = absurd (shows (tags, (game, r)))
shown bytes tags game sig (Some other) r is shows =
    let same : shows.1.0 ≡ game = (record-one bytes shows.0 tags shows.1.0 game shows.1.1.0 r).1 in
    ap (λ (s : Sig). Some s) (signature_one game other sig (subst (λ (g : GameTree). IsSig g other) same shows.1.1.1) is)

pub held_stays : (games : List ℕ) (extents : List Extent) (sigs : List Sig) (list : List GameTree) (buffer : List ℕ) (game : ℕ) (kept : Sig) (found : Option Sig)
    → Holds games extents sigs list → HasChanged sigs extents (Some games) buffer game kept found → ⊥
held_stays games extents sigs list buffer game kept found holds changed =
    let g = there sigs list game kept holds.count changed.is_kept in
    let held = holds.each game kept g.0 changed.is_kept g.1 in
    changed.is_other
    (shown (take (extent_in extents game).len buffer) held.tags g.0 kept found
    (subst (λ (b : List ℕ). IsRecord b held.tags g.0) (sym changed.is_told) held.is_record) held.is_sig changed.is_shown)
