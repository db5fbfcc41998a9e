-- The items of a record's moves have one reading.
use Rattle.std.proofs.Common.{◌≡◌, ℕ, List, [], ◌∷◌, Ok, Err, refl, sym, ◌∙◌, subst}
use Rattle.game_codec.specs.Place.{Takes}
use Rattle.game_codec.specs.Scanning.{Nest, IsInner, Scans, Stop, StopsAt, nest_after}
use Rattle.game_codec.specs.Token.{Token, End}
use Rattle.game_codec.proofs.ItemLaws.{Takes-one, Takes-unbroken, FaultAt-one}

-- Two stops are one.
abbrev pub IsSameStop : Stop → Stop → Type 0
IsSameStop (Ok r) (Ok s) = r ≡ s
IsSameStop (Err f) (Err g) = (f.0 ≡ g.0) × (f.1 ≡ g.1)
IsSameStop (Ok r) (Err g) = ⊥
IsSameStop (Err f) (Ok s) = ⊥

StopsAt-one : (n : Nest) (bytes : List ℕ) (s t : Stop) → StopsAt n bytes s → StopsAt n bytes t → IsSameStop s t
StopsAt-one n bytes (Ok r) (Ok s) first second = (Takes-one n.current bytes End End r s first second).1
StopsAt-one n bytes (Ok r) (Err g) first second = Takes-unbroken n.current bytes End r g.1 first second.1
StopsAt-one n bytes (Err f) (Ok s) first second = Takes-unbroken n.current bytes End s f.1 second first.1
StopsAt-one n bytes (Err f) (Err g) first second =
    (first.0 ∙ sym second.0, FaultAt-one n.current bytes f.1 g.1 first.1 second.1)

-- Where the reading stops, no further item stands.
StopsAt-last : (n : Nest) (bytes : List ℕ) (s : Stop) (token : Token) (later : List ℕ) → StopsAt n bytes s → IsInner token
    → Takes n.current bytes token later → ⊥
StopsAt-last n bytes (Ok r) token later stops inner takes =
    subst IsInner (Takes-one n.current bytes token End later r takes stops).0 inner
StopsAt-last n bytes (Err f) token later stops inner takes = Takes-unbroken n.current bytes token later f.1 takes stops.1

-- Bytes are read as the same items, and the same stops the reading.
pub Scans-one : (n : Nest) (bytes : List ℕ) (a b : List Token) (s t : Stop) → Scans n bytes a s → Scans n bytes b t → (a ≡ b) × IsSameStop s t
Scans-one n bytes [] [] s t first second = (refl, StopsAt-one n bytes s t first second)
Scans-one n bytes [] (b ∷ tail') s t first (inner, (later, takes, more)) = absurd (StopsAt-last n bytes s b later first inner takes)
Scans-one n bytes (a ∷ tail) [] s t (inner, (later, takes, more)) second = absurd (StopsAt-last n bytes t a later second inner takes)
Scans-one n bytes (a ∷ tail) (b ∷ tail') s t (inner, (later, takes, more)) (inner', (later', takes', more')) =
    let same = Takes-one n.current bytes a b later later' takes takes' in
    let moved : Scans (nest_after n a) later tail' t = rw (same.0, same.1) more' in
    let rest = Scans-one (nest_after n a) later tail tail' s t more moved in
    (rw (same.0, rest.0) refl, rest.1)
