-- What stands at the front of a main line, and what is passed in a variation, by the first byte.
use Rattle.std.proofs.Common.{◌≡◌, ℕ, zero, suc, ◌+◌, ◌-◌, ◌/◌, ◌%◌, ◌<◌, ◌≤◌, ◌⊎◌, inl, inr, Bool, true, false, cond, eqb, ◌&&◌, nat_le, nat_lt, List, [], ◌∷◌, Option, Some, None, Ok, drop, refl, sym, ap, subst, ◌∙◌, add-one, arith}
use Rattle.std.specs.Prelude.{Result, slice_get}
use Rattle.std.proofs.lemmas.Bool.{and_parts, leb-true}
use Rattle.std.proofs.lemmas.Bool.Decides.{nat_tests}
use Rattle.cell_core.specs.declared.man.Colour.{Colour}
use Rattle.cell_core.specs.declared.man.Kind.{Kind}
use Rattle.cell_core.specs.declared.man.Kind.TheVariants.{King, Queen, Rook, Bishop, Knight, Pawn}
use Rattle.cell_core.specs.declared.man.Man.{Man}
use Rattle.cell_core.specs.declared.step.Move.{Move}
use Rattle.cell_core.specs.Board.{man_at}
use Rattle.chess_laws.specs.Geometry.{file_of}
use Rattle.game_tree.specs.Movetext.{Movetext, end, move, nag, comment, variation, meaning}
use Rattle.game_tree.specs.Tree.{moves_of}
use Rattle.move_codec.specs.declared.fault.MoveFault.{MoveFault}
use Rattle.move_codec.specs.Numbers.{Numbered, squares_of}
use Rattle.move_codec.specs.Packed.{Decodes, diagonal_move, diagonal_square, is_diagonal, is_mark, king_differences, knight_differences, by_difference, named, named_by, named_from, named_value, on_diagonal, on_line, pawn_square, promotion, to_square}
use Rattle.move_codec.proofs.Decoding.{to_square-takes, to_decodes}
use Rattle.game_codec.specs.Token.{Token, Play, Close, End}
use Rattle.game_codec.specs.Place.{Place, Takes, IsMoveDue, numbered_after, after_move, after_comment, variation_of}
use Rattle.game_codec.specs.Moves.{SpellsMoves}
use Rattle.game_codec.specs.Walking.{GoesOn, IsInside, Within}
use Rattle.game_codec.proofs.MovetextLaws.{ending-inner, ending-main}

-- The second byte of a move

-- A move takes one byte, or two of which the second is at least 64.
abbrev Second : List ℕ → Result (Move × ℕ) MoveFault → Type 0
Second rest named =
    (decoded : Move × ℕ) → named ≡ Ok decoded
    → (decoded.1 ≡ 1) ⊎ ((decoded.1 ≡ 2) × ((byte : ℕ) × ((later : List ℕ) × ((rest ≡ byte ∷ later) × (64 ≤ byte)))))

one-second : (from : ℕ) (promo : Option Kind) (square : Option ℕ) (rest : List ℕ) → Second rest (to_square from promo 1 square)
one-second from promo square rest decoded h = inl (to_square-takes from promo 1 square decoded h)

tested : (test : Bool) (from to : ℕ) (decoded : Move × ℕ) → to_square from None 2 (cond test (Some to) None) ≡ Ok decoded → test ≡ true
tested true from to decoded h = refl
tested false from to decoded h = absurd (cc)

diagonal-second : (from : ℕ) (rest : List ℕ) → Second rest (diagonal_move from rest)
diagonal-second from [] decoded h = absurd (cc)
diagonal-second from (byte ∷ rest) decoded h =
    let test = tested (nat_le 64 byte && nat_lt byte 128 && is_diagonal from (byte - 64)) from (byte - 64) decoded h in
    let above = and_parts (nat_le 64 byte) (nat_lt byte 128) (and_parts (nat_le 64 byte && nat_lt byte 128) (is_diagonal from (byte - 64)) test).0 in
    inr (to_square-takes from None 2 (diagonal_square from byte) decoded h, (byte, (rest, (refl, leb-true 64 byte above.0))))

queen-second : (own : Bool) (from value : ℕ) (rest : List ℕ)
    → Second rest (cond own (diagonal_move from rest) (to_square from None 1 (on_line from value)))
queen-second true from value rest = diagonal-second from rest
queen-second false from value rest = one-second from None (on_line from value) rest

value-second : (kind : Kind) (side : Colour) (from value : ℕ) (rest : List ℕ) → Second rest (named_value kind side from value rest)
unfolding named_value
value-second King side from value rest = one-second from None (by_difference king_differences from value) rest
value-second Queen side from value rest = queen-second (eqb value (file_of from)) from value rest
value-second Rook side from value rest = one-second from None (on_line from value) rest
value-second Bishop side from value rest = one-second from None (on_diagonal from value) rest
value-second Knight side from value rest = one-second from None (by_difference knight_differences from value) rest
value-second Pawn side from value rest = one-second from (promotion value) (pawn_square side from value) rest

by-second : (o : Option Man) (side : Colour) (from value : ℕ) (rest : List ℕ) → Second rest (named_by o side from value rest)
by-second None side from value rest decoded h = absurd (cc)
by-second (Some man) side from value rest decoded h = value-second man.kind side from value rest decoded h

from-second : (n : Numbered) (o : Option ℕ) (value : ℕ) (rest : List ℕ) → Second rest (named_from n o value rest)
from-second n None value rest decoded h = absurd (cc)
from-second n (Some from) value rest decoded h = by-second (man_at n.position.board from) n.position.side from value rest decoded h

named-second : (n : Numbered) (byte : ℕ) (rest : List ℕ) → Second rest (named n (byte ∷ rest))
named-second n byte rest decoded h = from-second n (slice_get (squares_of n.position.side n.numbers) (byte / 16)) (byte % 16) rest decoded h

-- In a variation

not_mark : (byte : ℕ) → 64 ≤ byte → is_mark byte ≡ false
not_mark byte big = grind (arith, nat_tests)

-- What the first byte is, and what is left of the variation behind it.
pub data Stands (byte : ℕ) (later behind : List ℕ) : Type 0 where
  closes : byte ≡ 14 → later ≡ behind → Stands byte later behind
  nags : byte ≡ 11 → (n : ℕ) (rest : List ℕ) → later ≡ n ∷ rest → IsInside rest behind → Stands byte later behind
  notes : byte ≡ 12 → IsInside later behind → Stands byte later behind
  opens : byte ≡ 13 → (middle : List ℕ) → IsInside later middle → IsInside middle behind → Stands byte later behind
  moves : is_mark byte ≡ false → IsInside later behind → Stands byte later behind

module _ (byte : ℕ) (later behind : List ℕ) where
  moved : (p : Place) → 0 < p.depth → (m : Move) (s : Movetext) (rest : List ℕ) → Takes p (byte ∷ later) (Play m) rest
      → SpellsMoves (after_move p m) s rest behind → IsInside later behind
  moved p deep m s rest takes spells =
      elim (named-second p.here byte later (m, takes.1.0) (to_decodes p.here (byte ∷ later) (Ok (m, takes.1.0)) takes.1.1).0) [
        | inl one ↦
            let left : rest ≡ later = takes.1.2 ∙ ap (λ (n : ℕ). drop n (byte ∷ later)) one in
            record { place = after_move p m; movetext = s; inner = deep; spells = inl (subst (λ (l : List ℕ). SpellsMoves (after_move p m) s l behind) left spells) }
        | inr two ↦
            let left : rest ≡ two.1.1.0 = takes.1.2 ∙ ap (λ (n : ℕ). drop n (byte ∷ later)) two.0 ∙ ap (λ (l : List ℕ). drop 1 l) two.1.1.1.0 in
            record {
              place = after_move p m;
              movetext = s;
              inner = deep;
              spells = inr (two.1.0, (two.1.1.0, (two.1.1.1.0, (two.1.1.1.1, subst (λ (l : List ℕ). SpellsMoves (after_move p m) s l behind) left spells))));
            }
      ]

  first : (p : Place) → 0 < p.depth → (s : Movetext) → SpellsMoves p s (byte ∷ later) behind → Stands byte later behind
  first p deep end spells =
      let taken : Takes p (byte ∷ later) Close behind = subst (λ (t : Token). Takes p (byte ∷ later) t behind) (ending-inner p.depth deep) spells in
      let same : byte ∷ later ≡ 14 ∷ behind = taken.1 in
      closes (cc) (cc)
  first p deep (move m s) spells =
      let due = spells.1.0 in
      let same : byte ∷ later ≡ due.0 ∷ due.1 = due.2 in
      let head : byte ≡ due.0 = cc in
      moves (ap is_mark head ∙ due.3) (moved p deep m s spells.0 spells.1 spells.2)
  first p deep (nag n s) spells =
      let same : byte ∷ later ≡ 11 ∷ n ∷ spells.0 = spells.1.1 in
      nags (cc) n spells.0 (cc) (record { place = p; movetext = s; inner = deep; spells = inl spells.2 })
  first p deep (comment text s) spells =
      let same : byte ∷ later ≡ 12 ∷ spells.0 = spells.1.1 in
      let rest : spells.0 ≡ later = cc in
      notes (cc) (record { place = after_comment p; movetext = s; inner = deep; spells = inl (subst (λ (l : List ℕ). SpellsMoves (after_comment p) s l behind) rest spells.2) })
  first p deep (variation inner s) spells =
      let same : byte ∷ later ≡ 13 ∷ spells.0 = spells.1.2 in
      let rest : spells.0 ≡ later = cc in
      opens (cc) spells.2.0
      (record { place = variation_of p; movetext = inner; inner = omega arith; spells = inl (subst (λ (l : List ℕ). SpellsMoves (variation_of p) inner l spells.2.0) rest spells.2.1) })
      (record { place = p; movetext = s; inner = deep; spells = inl spells.2.2 })

  pub stands : IsInside (byte ∷ later) behind → Stands byte later behind
  stands inside =
      elim inside.spells [
        | inl spells ↦ first inside.place inside.inner inside.movetext spells
        | inr half ↦
            let same : byte ∷ later ≡ half.0 ∷ half.1.0 = half.1.1.0 in
            let head : half.0 ≡ byte = cc in
            let rest : half.1.0 ≡ later = cc in
            moves (not_mark byte (subst (λ (b : ℕ). 64 ≤ b) head half.1.1.1.0))
            (record { place = inside.place; movetext = inside.movetext; inner = inside.inner; spells = inl (subst (λ (l : List ℕ). SpellsMoves inside.place inside.movetext l behind) rest half.1.1.1.1) })
      ]

none_inside : (behind : List ℕ) → IsInside [] behind → ⊥
none_inside behind inside =
    elim inside.spells [
      | inl spells ↦ none inside.movetext spells
      | inr half ↦ absurd (let same : [] ≡ half.0 ∷ half.1.0 = half.1.1.0 in cc)
    ]
  where
    none : (s : Movetext) → SpellsMoves inside.place s [] behind → ⊥
    none end spells =
        let taken : Takes inside.place [] Close behind = subst (λ (t : Token). Takes inside.place [] t behind) (ending-inner inside.place.depth inside.inner) spells in
        let same : [] ≡ 14 ∷ behind = taken.1 in
        absurd (cc)
    none (move m s) spells = let same : [] ≡ spells.1.0.0 ∷ spells.1.0.1 = spells.1.0.2 in absurd (cc)
    none (nag n s) spells = let same : [] ≡ 11 ∷ n ∷ spells.0 = spells.1.1 in absurd (cc)
    none (comment text s) spells = let same : [] ≡ 12 ∷ spells.0 = spells.1.1 in absurd (cc)
    none (variation inner s) spells = let same : [] ≡ 13 ∷ spells.0 = spells.1.2 in absurd (cc)

-- The bytes do not end inside a variation.
pub within_none : (depth : ℕ) (behind : List ℕ) → 0 < depth → Within depth [] behind → ⊥
within_none zero behind deep within = omega (arith, deep)
within_none (suc depth) behind deep within = none_inside within.0 within.1.0

-- A mark is a mark.
is_no_move : (byte : ℕ) → 11 ≤ byte → byte ≤ 15 → is_mark byte ≡ false → ⊥
is_no_move byte above below plain =
    let mark : is_mark byte ≡ true = grind (arith, nat_tests) in
    absurd (cc)

module _ (byte : ℕ) (later behind : List ℕ) where
  -- A variation begins.
  pub within_opens : (depth : ℕ) → 0 < depth → byte ≡ 13 → Within depth (byte ∷ later) behind → Within (depth + 1) later behind
  within_opens zero deep is within = absurd (omega (arith, deep))
  within_opens (suc depth) deep is within =
      elim (stands byte later within.0 within.1.0) [
        | closes e same ↦ absurd (omega (arith, e, is))
        | nags e n rest same inside ↦ absurd (omega (arith, e, is))
        | notes e inside ↦ absurd (omega (arith, e, is))
        | opens e middle inner inside ↦
            subst (λ (n : ℕ). Within n later behind) (sym (add-one (suc depth))) (middle, (inner, (within.0, (inside, within.1.1))))
        | moves plain inside ↦ absurd (is_no_move byte (omega (arith, is)) (omega (arith, is)) plain)
      ]

  -- One ends.
  pub within_closes : (depth : ℕ) → 0 < depth → byte ≡ 14 → Within depth (byte ∷ later) behind → Within (depth - 1) later behind
  within_closes zero deep is within = absurd (omega (arith, deep))
  within_closes (suc depth) deep is within =
      let less : suc depth - 1 ≡ depth = omega arith in
      elim (stands byte later within.0 within.1.0) [
        | closes e same ↦ subst (λ (n : ℕ). Within n later behind) (sym less) (subst (λ (l : List ℕ). Within depth l behind) (sym same) within.1.1)
        | nags e n rest same inside ↦ absurd (omega (arith, e, is))
        | notes e inside ↦ absurd (omega (arith, e, is))
        | opens e middle inner inside ↦ absurd (omega (arith, e, is))
        | moves plain inside ↦ absurd (is_no_move byte (omega (arith, is)) (omega (arith, is)) plain)
      ]

  -- The game does not end there.
  pub within_ends : (depth : ℕ) → 0 < depth → byte ≡ 15 → Within depth (byte ∷ later) behind → ⊥
  within_ends zero deep is within = omega (arith, deep)
  within_ends (suc depth) deep is within =
      elim (stands byte later within.0 within.1.0) [
        | closes e same ↦ absurd (omega (arith, e, is))
        | nags e n rest same inside ↦ absurd (omega (arith, e, is))
        | notes e inside ↦ absurd (omega (arith, e, is))
        | opens e middle inner inside ↦ absurd (omega (arith, e, is))
        | moves plain inside ↦ is_no_move byte (omega (arith, is)) (omega (arith, is)) plain
      ]

  -- Any other byte but a NAG's mark is passed alone.
  pub within_passes : (depth : ℕ) → 0 < depth → (byte ≡ 11 → ⊥) → (byte ≡ 13 → ⊥) → (byte ≡ 14 → ⊥) → Within depth (byte ∷ later) behind
      → Within depth later behind
  within_passes zero deep a b c within = absurd (omega (arith, deep))
  within_passes (suc depth) deep a b c within =
      elim (stands byte later within.0 within.1.0) [
        | closes e same ↦ absurd (c e)
        | nags e n rest same inside ↦ absurd (a e)
        | notes e inside ↦ (within.0, (inside, within.1.1))
        | opens e middle inner inside ↦ absurd (b e)
        | moves plain inside ↦ (within.0, (inside, within.1.1))
      ]

-- A NAG is passed with its number, which is there.
pub within_nag : (depth : ℕ) (later behind : List ℕ) → 0 < depth → Within depth (11 ∷ later) behind → Within depth (drop 1 later) behind
within_nag zero later behind deep within = absurd (omega (arith, deep))
within_nag (suc depth) later behind deep within =
    elim (stands 11 later within.0 within.1.0) [
      | closes e same ↦ absurd (omega (arith, e))
      | nags e n rest same inside ↦ subst (λ (l : List ℕ). Within (suc depth) (drop 1 l) behind) (sym same) (within.0, (inside, within.1.1))
      | notes e inside ↦ absurd (omega (arith, e))
      | opens e middle inner inside ↦ absurd (omega (arith, e))
      | moves plain inside ↦ absurd (is_no_move 11 (omega arith) (omega arith) plain)
    ]

pub within_no_nag : (depth : ℕ) (behind : List ℕ) → 0 < depth → Within depth (11 ∷ []) behind → ⊥
within_no_nag zero behind deep within = omega (arith, deep)
within_no_nag (suc depth) behind deep within =
    elim (stands 11 [] within.0 within.1.0) [
      | closes e same ↦ absurd (omega (arith, e))
      | nags e n rest same inside ↦ absurd (cc)
      | notes e inside ↦ absurd (omega (arith, e))
      | opens e middle inner inside ↦ absurd (omega (arith, e))
      | moves plain inside ↦ is_no_move 11 (omega arith) (omega arith) plain
    ]

-- In a main line

-- What the first byte is, and how the main line goes on behind it.
pub data Fronts (here : Numbered) (left : List Move) (byte : ℕ) (later : List ℕ) : Type 0 where
  ended : byte ≡ 15 → left ≡ [] → Fronts here left byte later
  nagged : byte ≡ 11 → (n : ℕ) (rest : List ℕ) → later ≡ n ∷ rest → GoesOn here left rest → Fronts here left byte later
  noted : byte ≡ 12 → GoesOn here left later → Fronts here left byte later
  varied : byte ≡ 13 → (behind : List ℕ) → Within 1 later behind → GoesOn here left behind → Fronts here left byte later
  played : is_mark byte ≡ false → (m : Move) (used : ℕ) (more : List Move) → Decodes here (byte ∷ later) (Ok (m, used)) → left ≡ m ∷ more
      → GoesOn (numbered_after here m) more (drop used (byte ∷ later)) → Fronts here left byte later

module _ (here : Numbered) (left : List Move) (byte : ℕ) (later behind : List ℕ) (p : Place) (main : p.depth ≡ 0) (here_is : p.here ≡ here) where
  front : (s : Movetext) → SpellsMoves p s (byte ∷ later) behind → moves_of (meaning s).line ≡ left → Fronts here left byte later
  front end spells are =
      let taken : Takes p (byte ∷ later) End behind = subst (λ (t : Token). Takes p (byte ∷ later) t behind) (ending-main p.depth main) spells in
      let same : byte ∷ later ≡ 15 ∷ behind = taken.1 in
      ended (cc) (sym are)
  front (move m s) spells are =
      let due = spells.1.0 in
      let same : byte ∷ later ≡ due.0 ∷ due.1 = due.2 in
      let head : byte ≡ due.0 = cc in
      played (ap is_mark head ∙ due.3) m spells.1.1.0 (moves_of (meaning s).line)
      (subst (λ (n : Numbered). Decodes n (byte ∷ later) (Ok (m, spells.1.1.0))) here_is (to_decodes p.here (byte ∷ later) (Ok (m, spells.1.1.0)) spells.1.1.1)) (sym are)
      (record {
        place = after_move p m;
        movetext = s;
        behind = behind;
        main = main;
        here_is = ap (λ (n : Numbered). numbered_after n m) here_is;
        spells = subst (λ (l : List ℕ). SpellsMoves (after_move p m) s l behind) spells.1.1.2 spells.2;
        moves_are = refl;
      })
  front (nag n s) spells are =
      let same : byte ∷ later ≡ 11 ∷ n ∷ spells.0 = spells.1.1 in
      nagged (cc) n spells.0 (cc)
      (record { place = p; movetext = s; behind = behind; main = main; here_is = here_is; spells = spells.2; moves_are = are })
  front (comment text s) spells are =
      let same : byte ∷ later ≡ 12 ∷ spells.0 = spells.1.1 in
      let rest : spells.0 ≡ later = cc in
      noted (cc)
      (record {
        place = after_comment p;
        movetext = s;
        behind = behind;
        main = main;
        here_is = here_is;
        spells = subst (λ (l : List ℕ). SpellsMoves (after_comment p) s l behind) rest spells.2;
        moves_are = are;
      })
  front (variation inner s) spells are =
      let same : byte ∷ later ≡ 13 ∷ spells.0 = spells.1.2 in
      let rest : spells.0 ≡ later = cc in
      let in_it : IsInside later spells.2.0 = record {
        place = variation_of p;
        movetext = inner;
        inner = omega arith;
        spells = inl (subst (λ (l : List ℕ). SpellsMoves (variation_of p) inner l spells.2.0) rest spells.2.1);
      } in
      varied (cc) spells.2.0 (spells.2.0, (in_it, refl))
      (record { place = p; movetext = s; behind = behind; main = main; here_is = here_is; spells = spells.2.2; moves_are = are })

pub fronts : (here : Numbered) (left : List Move) (byte : ℕ) (later : List ℕ) → GoesOn here left (byte ∷ later) → Fronts here left byte later
fronts here left byte later g = front here left byte later g.behind g.place g.main g.here_is g.movetext g.spells g.moves_are

pub front_none : (here : Numbered) (left : List Move) → GoesOn here left [] → ⊥
front_none here left g = none g.movetext g.spells
  where
    none : (s : Movetext) → SpellsMoves g.place s [] g.behind → ⊥
    none end spells =
        let taken : Takes g.place [] End g.behind = subst (λ (t : Token). Takes g.place [] t g.behind) (ending-main g.place.depth g.main) spells in
        let same : [] ≡ 15 ∷ g.behind = taken.1 in
        absurd (cc)
    none (move m s) spells = let same : [] ≡ spells.1.0.0 ∷ spells.1.0.1 = spells.1.0.2 in absurd (cc)
    none (nag n s) spells = let same : [] ≡ 11 ∷ n ∷ spells.0 = spells.1.1 in absurd (cc)
    none (comment text s) spells = let same : [] ≡ 12 ∷ spells.0 = spells.1.1 in absurd (cc)
    none (variation inner s) spells = let same : [] ≡ 13 ∷ spells.0 = spells.1.2 in absurd (cc)

module _ (here : Numbered) (left : List Move) (byte : ℕ) (later : List ℕ) (g : GoesOn here left (byte ∷ later)) where
  pub front_ends : byte ≡ 15 → left ≡ []
  front_ends is =
      elim (fronts here left byte later g) [
        | ended e none ↦ none
        | nagged e n rest same on ↦ absurd (omega (arith, e, is))
        | noted e on ↦ absurd (omega (arith, e, is))
        | varied e behind within on ↦ absurd (omega (arith, e, is))
        | played plain m used more decodes are on ↦ absurd (is_no_move byte (omega (arith, is)) (omega (arith, is)) plain)
      ]

  -- No variation ends in a main line.
  pub front_closes : byte ≡ 14 → ⊥
  front_closes is =
      elim (fronts here left byte later g) [
        | ended e none ↦ absurd (omega (arith, e, is))
        | nagged e n rest same on ↦ absurd (omega (arith, e, is))
        | noted e on ↦ absurd (omega (arith, e, is))
        | varied e behind within on ↦ absurd (omega (arith, e, is))
        | played plain m used more decodes are on ↦ is_no_move byte (omega (arith, is)) (omega (arith, is)) plain
      ]

  pub front_comment : byte ≡ 12 → GoesOn here left later
  front_comment is =
      elim (fronts here left byte later g) [
        | ended e none ↦ absurd (omega (arith, e, is))
        | nagged e n rest same on ↦ absurd (omega (arith, e, is))
        | noted e on ↦ on
        | varied e behind within on ↦ absurd (omega (arith, e, is))
        | played plain m used more decodes are on ↦ absurd (is_no_move byte (omega (arith, is)) (omega (arith, is)) plain)
      ]

  -- A whole variation is passed by its marks alone.
  pub front_variation : (used : ℕ) → byte ≡ 13 → ((behind : List ℕ) → Within 1 later behind → drop used later ≡ behind) → GoesOn here left (drop used later)
  front_variation used is passes =
      elim (fronts here left byte later g) [
        | ended e none ↦ absurd (omega (arith, e, is))
        | nagged e n rest same on ↦ absurd (omega (arith, e, is))
        | noted e on ↦ absurd (omega (arith, e, is))
        | varied e behind within on ↦ subst (GoesOn here left) (sym (passes behind within)) on
        | played plain m used more decodes are on ↦ absurd (is_no_move byte (omega (arith, is)) (omega (arith, is)) plain)
      ]

  pub front_broken : byte ≡ 13 → ((behind : List ℕ) → Within 1 later behind → ⊥) → ⊥
  front_broken is fails =
      elim (fronts here left byte later g) [
        | ended e none ↦ absurd (omega (arith, e, is))
        | nagged e n rest same on ↦ absurd (omega (arith, e, is))
        | noted e on ↦ absurd (omega (arith, e, is))
        | varied e behind within on ↦ fails behind within
        | played plain m used more decodes are on ↦ is_no_move byte (omega (arith, is)) (omega (arith, is)) plain
      ]

pub front_nag : (here : Numbered) (left : List Move) (later : List ℕ) → GoesOn here left (11 ∷ later) → GoesOn here left (drop 1 later)
front_nag here left later g =
    elim (fronts here left 11 later g) [
      | ended e none ↦ absurd (omega (arith, e))
      | nagged e n rest same on ↦ subst (λ (l : List ℕ). GoesOn here left (drop 1 l)) (sym same) on
      | noted e on ↦ absurd (omega (arith, e))
      | varied e behind within on ↦ absurd (omega (arith, e))
      | played plain m used more decodes are on ↦ absurd (is_no_move 11 (omega arith) (omega arith) plain)
    ]

pub front_no_nag : (here : Numbered) (left : List Move) → GoesOn here left (11 ∷ []) → ⊥
front_no_nag here left g =
    elim (fronts here left 11 [] g) [
      | ended e none ↦ absurd (omega (arith, e))
      | nagged e n rest same on ↦ absurd (cc)
      | noted e on ↦ absurd (omega (arith, e))
      | varied e behind within on ↦ absurd (omega (arith, e))
      | played plain m used more decodes are on ↦ is_no_move 11 (omega arith) (omega arith) plain
    ]

-- A move of the main line

-- The move that the bytes begin with is the first that is left.
pub record Played (here : Numbered) (left : List Move) (bytes : List ℕ) : Type 0 where
  pub m : Move
  pub used : ℕ
  pub more : List Move
  pub decodes : Decodes here bytes (Ok (m, used))
  pub are : left ≡ m ∷ more
  pub on : GoesOn (numbered_after here m) more (drop used bytes)

pub front_move : (here : Numbered) (left : List Move) (bytes : List ℕ) → IsMoveDue bytes → GoesOn here left bytes → Played here left bytes
front_move here left bytes due g =
    let shown : GoesOn here left (due.0 ∷ due.1) = subst (GoesOn here left) due.2 g in
    let found : Played here left (due.0 ∷ due.1) =
    elim (fronts here left due.0 due.1 shown) [
      | ended e none ↦ absurd (is_no_move due.0 (omega (arith, e)) (omega (arith, e)) due.3)
      | nagged e n rest same on ↦ absurd (is_no_move due.0 (omega (arith, e)) (omega (arith, e)) due.3)
      | noted e on ↦ absurd (is_no_move due.0 (omega (arith, e)) (omega (arith, e)) due.3)
      | varied e behind within on ↦ absurd (is_no_move due.0 (omega (arith, e)) (omega (arith, e)) due.3)
      | played plain m used more decodes are on ↦ record { m = m; used = used; more = more; decodes = decodes; are = are; on = on }
    ] in
    subst (Played here left) (sym due.2) found
