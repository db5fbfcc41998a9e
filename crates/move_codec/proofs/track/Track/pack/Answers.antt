-- The numbers follow a legal move as the setup does, which keeps the rules.
use Rattle.move_codec.proofs.Words.{◌≡◌, ◌<◌, ◌∙◌, ap, refl, sym, subst, Some, other, man_at, Legal, Move, Setup, Step, effect_of, Numbered, numbers_after, squares_of, capture_square, is_some, encoding}
use Rattle.chess_laws.specs.Step.{after}
use Rattle.chess_laws.proofs.MovedKings.{Sound-after}
use Rattle.move_codec.proofs.RoundTrip.{encode-told, number-small, value-small}
use Rattle.move_codec.proofs.Boards.{numbering_of, without-unless}
use Rattle.move_codec.proofs.Steps.{AreNumbers-step}
use Rattle.move_codec.proofs.track.Track.pack.Goals as goal

-- A legal move leads to what is made of it.
makes : (p : Setup) (m : Move) (q : Setup) → q ≡ after p m (effect_of p m) → Legal p m → Step p m q
makes p m q is legal = subst (Step p m) (legal.1.becomes ∙ sym is) legal.1

pub bytes_of-bytes-requires-clause-number : goal.bytes_of-bytes-requires-clause-number
bytes_of-bytes-requires-clause-number c =
    let n : Numbered = record { position = c.self.inside.setup; numbers = c.self.inside.numbers } in
    rw (c.number_of-number.ensures.number, c.of.ensures.squares)
    (number-small n c.args.m.now c.self.invariant.0.squares c.self.invariant.1
    (subst (λ (k : Numbered). Legal k.position c.args.m.now) (sym c.self.view_is) c.requires.legal))

pub bytes_of-bytes-requires-clause-value : goal.bytes_of-bytes-requires-clause-value
bytes_of-bytes-requires-clause-value c = λ x is.
    value-small (record { position = c.self.inside.setup; numbers = c.self.inside.numbers }) c.args.m.now c.self.invariant.0.squares c.self.invariant.1
    (subst (λ (k : Numbered). Legal k.position c.args.m.now) (sym c.self.view_is) c.requires.legal) x (sym c.at-standing.ensures.man ∙ is)

pub follow_by-requires-clause-none : goal.follow_by-requires-clause-none
follow_by-requires-clause-none c =
    let p = c.self.inside.setup in
    let s = capture_square c.args.m.now c.effect-effect.result in
    let taken : c.is_some-taken.result ≡ is_some (man_at p.board s) =
    c.is_some-taken.ensures ∙ ap is_some (c.at.ensures.man ∙ rw (c.capture_square.ensures) refl) in
    without-unless p.board (other p.side) (squares_of (other p.side) c.self.inside.numbers) s c.is_some-taken.result
    (numbering_of p.board c.self.inside.numbers c.self.invariant.1 (other p.side)).0 taken

pub invariant_of-self : goal.invariant_of-self
invariant_of-self c =
    let p = c.self.inside.setup in
    let m = c.args.m.now in
    let legal : Legal p m = subst (λ (k : Numbered). Legal k.position m) (sym c.self.view_is) c.requires.legal in
    let next : c.make.new.self ≡ after p m (effect_of p m) = c.make.ensures.becomes ∙ ap (after p m) c.effect-effect.ensures.effect in (
      rw next (Sound-after p m c.self.invariant.0 legal),
      rw (c.follow_by.ensures.after, c.effect-effect.ensures.effect)
          (AreNumbers-step p m c.make.new.self c.self.inside.numbers c.self.invariant.0 (makes p m c.make.new.self next legal) c.self.invariant.1),
    )

pub returns : goal.returns
returns c =
    let p = c.self.inside.setup in
    let m = c.args.m.now in
    let n : Numbered = record { position = p; numbers = c.self.inside.numbers } in
    let legal : Legal p m = subst (λ (k : Numbered). Legal k.position m) (sym c.self.view_is) c.requires.legal in
    let next : c.make.new.self ≡ after p m (effect_of p m) = c.make.ensures.becomes ∙ ap (after p m) c.effect-effect.ensures.effect in
    let bytes : c.bytes_of-bytes.result.items ≡ encoding c.args.self.now m =
    c.bytes_of-bytes.ensures
    ∙ rw (c.at-standing.ensures.man, c.number_of-number.ensures.number, c.of.ensures.squares) (ap (λ (k : Numbered). encoding k m) c.self.view_is) in
    let told = encode-told n c.args.self.now c.self.view_is m c.self.invariant.0 c.self.invariant.1 c.requires.legal c.bytes_of-bytes.result.items bytes in
    record {
      bytes = bytes;
      decodes = told.0;
      apart = told.1;
      step = subst (λ (k : Numbered). Step k.position m c.make.new.self) c.self.view_is (makes p m c.make.new.self next legal);
      numbers = rw (c.follow_by.ensures.after, c.effect-effect.ensures.effect) (ap (λ (k : Numbered). numbers_after k.position m k.numbers) c.self.view_is);
    }
