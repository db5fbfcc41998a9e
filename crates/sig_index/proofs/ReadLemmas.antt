-- What is read of games whose records are held.
use Rattle.std.proofs.Common.{◌≡◌, ◌<◌, ℕ, List, zero, suc, [], ◌∷◌, length, get_or, take, Option, Some, sym, ap, subst, inl, inr, arith}
use Rattle.std.specs.Prelude.{slice_get}
use Rattle.std.proofs.lemmas.Option.{slice_get_cases}
use Rattle.base_files.specs.Told.{Tells}
use Rattle.base_files.specs.Extents.{record_in}
use Rattle.base_files.specs.declared.extent.Extent.{Extent}
use Rattle.game_codec.specs.Record.{IsRecord}
use Rattle.game_tree.specs.Game.{GameTree}
use Rattle.game_tree.specs.declared.head.Tag.{Tag}
use Rattle.sig_index.specs.Games.{Holds, extent_in, plies_in, record_told}
use Rattle.sig_index.specs.MemGames.{Kept, sigs_of}
use Rattle.sig_index.specs.declared.signature.Sig.{Sig}

-- There is an element for each number below the length: a signature, or a game.
pub some_at : {X : Type 0} (list : List X) (i : ℕ) → i < length list → (x : X) × (slice_get list i ≡ Some x)
some_at list i below = elim (slice_get_cases list i).1 [
  | inl at ↦ (at.0, at.2)
  | inr past ↦ absurd (omega (arith, past.0, below))
]

-- The plies of what is kept of a game.
pub kept_plies : (games : List Kept) (i : ℕ) (kept : Kept) → i < length games → kept ≡ get_or games i kept → kept.sig.plies ≡ plies_in (sigs_of games) i
kept_plies [] i kept below is = absurd (omega (arith, below))
kept_plies (game ∷ games) zero kept below is = ap (λ (k : Kept). k.sig.plies) is
kept_plies (game ∷ games) (suc i) kept below is = kept_plies games i kept (omega (arith, below)) is

-- What was read of a games file that is told is the game's record.
pub game_read : (games : Option (List ℕ)) (told : List ℕ) (extents : List Extent) (sigs : List Sig) (list : List GameTree) (i : ℕ) (game : GameTree) (bytes : List ℕ)
    → games ≡ Some told → Holds told extents sigs list → i < length sigs → slice_get list i ≡ Some game → Tells (record_told games (extent_in extents i)) bytes
    → (tags : List Tag) × IsRecord bytes tags game
game_read games told extents sigs list i game bytes same holds below there tells =
    let sig = some_at sigs i below in
    let held = holds.each i sig.0 game sig.1 there in
    let read : bytes ≡ record_in told (extent_in extents i) =
    (let T : Option (List ℕ) → Type 0 = λ o. Tells (record_told o (extent_in extents i)) bytes in subst T same tells) in
    let P : List ℕ → Type 0 = λ b. IsRecord b held.tags game in
    (held.tags, subst P (sym read) held.is_record)

-- The front of the buffer is what was read.
pub front_is : (games : Option (List ℕ)) (extents : List Extent) (i : ℕ) (buffer bytes : List ℕ) (len : ℕ) → bytes ≡ take len buffer
    → Tells (record_told games (extent_in extents i)) (take len buffer) → Tells (record_told games (extent_in extents i)) bytes
front_is games extents i buffer bytes len front tells =
    let T : List ℕ → Type 0 = λ b. Tells (record_told games (extent_in extents i)) b in
    subst T (sym front) tells
