use Rattle.std.proofs.Common.{◌≡◌, ℕ, List, drop, Ok, Err, ap, sym, subst, arith}
use Rattle.std.specs.Prelude.{◌⊎◌}
use Rattle.cell_core.specs.declared.step.Move.{Move}
use Rattle.move_codec.specs.Numbers.{Numbered}
use Rattle.move_codec.specs.Packed.{Decodes}
use Rattle.move_codec.specs.declared.fault.MoveFault.{MoveFault}
use Rattle.game_codec.specs.Place.{Place, Takes, FaultAt, IsMoveDue}
use Rattle.game_codec.specs.Token.{Play}
use Rattle.game_codec.specs.Nests.{IsCalmBehind, with_before}
use Rattle.game_codec.specs.declared.fault.RecordWhat.TheVariants as what
use Rattle.move_codec.proofs.Decoding.{from_decodes}
use Rattle.game_codec.proofs.KeptLaws.{kept_move}
use Rattle.game_codec.proofs.WritingLaws.{numbered-played}
use Rattle.game_codec.proofs.place.Place.play.Goals as goal

-- What the place that keeps another position before it decodes is what the place decodes.
takes_here : (now p : Place) (bytes : List ℕ) (m : Move) (used n : ℕ) → now ≡ with_before now.before p → IsMoveDue bytes
    → Decodes now.here bytes (Ok (m, used)) → n ≡ used → Takes p bytes (Play m) (drop n bytes)
takes_here now p bytes m used n same due decodes is =
    let here : now.here ≡ p.here = ap (λ (q : Place). q.here) same in
    let found = from_decodes p.here bytes (Ok (m, used)) (subst (λ (q : Numbered). Decodes q bytes (Ok (m, used))) here decodes) in
    (due, (used, found, ap (λ (k : ℕ). drop k bytes) is))

fault_here : (now p : Place) (bytes : List ℕ) (fault : MoveFault) → now ≡ with_before now.before p → IsMoveDue bytes
    → Decodes now.here bytes (Err fault) → FaultAt p bytes (what.Move fault)
fault_here now p bytes fault same due decodes =
    let here : now.here ≡ p.here = ap (λ (q : Place). q.here) same in
    (due, from_decodes p.here bytes (Err fault) (subst (λ (q : Numbered). Decodes q bytes (Err fault)) here decodes))

pub returns-in-Ok-clause-takes : goal.returns-in-Ok-clause-takes
returns-in-Ok-clause-takes c =
    let p = c.args.self.now in
    let now : Place = record {
      depth = c.self.inside.depth;
      before = c.self.inside.before;
      here = c.self.inside.here;
      has_move = c.self.inside.has_move;
      has_comment = c.self.inside.has_comment;
    } in
    let same : now ≡ with_before now.before p = subst (λ (q : Place). q ≡ with_before q.before p) (sym c.self.view_is) c.keep_before.ensures.same in
    takes_here now p c.args.bytes.now c.in-Ok.m c.in-Ok.used c.from.result same c.requires.due c.in-Ok.ensures.decodes (omega (arith, c.from.ensures))

pub returns-in-Err-clause-fault : goal.returns-in-Err-clause-fault
returns-in-Err-clause-fault c =
    let p = c.args.self.now in
    let now : Place = record {
      depth = c.self.inside.depth;
      before = c.self.inside.before;
      here = c.self.inside.here;
      has_move = c.self.inside.has_move;
      has_comment = c.self.inside.has_comment;
    } in
    let same : now ≡ with_before now.before p = subst (λ (q : Place). q ≡ with_before q.before p) (sym c.self.view_is) c.keep_before.ensures.same in
    fault_here now p c.args.bytes.now c.in-Err.fault same c.requires.due c.in-Err.ensures.decodes

pub returns-in-Ok-clause-past : goal.returns-in-Ok-clause-past
returns-in-Ok-clause-past c =
    let p = c.args.self.now in
    let now : Place = record {
      depth = c.self.inside.depth;
      before = c.self.inside.before;
      here = c.self.inside.here;
      has_move = c.self.inside.has_move;
      has_comment = c.self.inside.has_comment;
    } in
    let same : now ≡ with_before now.before p = subst (λ (q : Place). q ≡ with_before q.before p) (sym c.self.view_is) c.keep_before.ensures.same in
    let kept : (now.before ≡ p.here) ⊎ IsCalmBehind c.args.bytes.now =
    subst (λ (q : Place). (q.before ≡ p.here) ⊎ IsCalmBehind c.args.bytes.now) (sym c.self.view_is) c.keep_before.ensures.kept in
    kept_move p now c.in-Ok.m c.args.bytes.now c.from.result c.advance.new.self same kept
    (omega (arith, c.from.ensures, c.in-Ok.ensures.used.0)) (omega (arith, c.from.ensures, c.in-Ok.ensures.used.1.0))
    (numbered-played c.self.inside.here c.in-Ok.m c.advance.new.self c.in-Ok.ensures.step c.in-Ok.ensures.numbers)
