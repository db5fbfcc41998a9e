use Rattle.std.proofs.Common.{◌≡◌, ℕ, List, ◌-◌, drop, length, sym, subst, arith}
use Rattle.game_tree.specs.Movetext.{Movetext}
use Rattle.game_codec.specs.Dealing.{Deals}
use Rattle.game_codec.specs.Moves.{SpellsMoves}
use Rattle.game_codec.specs.Scanning.{tokens_then}
use Rattle.game_codec.proofs.DealLaws.{Deals-within, HasBuilt-none, built-close, built-end, built-one, built-variation, leads-close, leads-end, line-is, may-add}
use Rattle.game_codec.proofs.building.+build_line.Goals as goal

pub items-init : goal.items-init
items-init t c = HasBuilt-none c.args.place.now c.args.bytes.now c.args.texts.now c.args.builder.now c.requires.moved

pub items-preserved-in-Continue-branch-4 : goal.items-preserved-in-Continue-branch-4
items-preserved-in-Continue-branch-4 t c =
    built-variation c.args.place.now c.args.bytes.now c.items.place c.items.rest.now c.args.texts.now c.items.left.now c.args.builder.now c.items.builder c.items.invariant
    c.in_ok-next.next.used c.in_ok-next.ensures.used.1 c.in_ok-next.next.token c.in_ok-next.ensures.takes c.next_token.new.place c.in_ok-next.ensures.past
    c.split_at.result.1.now c.split_at.ensures.back c.in-Open.is c.variation-inner.result c.variation-inner.ensures.variation
    c.in_ok-taken-in-Open.taken.moves c.in_ok-taken-in-Open.ensures.moves c.split_at-in-Open.result.1.now c.split_at-in-Open.ensures.back
    c.in_ok-taken-in-Open.taken.texts c.split_at-in-Open-2.result.1.now c.split_at-in-Open-2.ensures.back
    c.open.new.self c.build_line.new.builder c.close.new.self c.in_ok-open-in-Open.ensures.added
    c.in_ok-taken-in-Open.ensures.built c.in_ok-taken-in-Open.ensures.outer c.in_ok-close-in-Open.ensures.added

pub of-requires : goal.of-requires
of-requires t c = record {
  moves = omega (arith, c.items.invariant.followed.within, c.split_at.ensures.back_len);
  texts = Deals-within c.items.invariant.tokens c.args.texts.now c.items.left.now c.args.builder.now c.items.builder c.items.invariant.deals;
}

pub returns-in-Close-clause-built : goal.returns-in-Close-clause-built
returns-in-Close-clause-built t c =
    line-is c.args.place.now c.args.bytes.now c.args.texts.now _ _ c.of.result.moves c.of.result.texts c.args.builder.now c.items.builder c.of.ensures.moves c.of.ensures.texts
    (built-close c.args.place.now c.args.bytes.now c.items.place c.items.rest.now c.args.texts.now c.items.left.now c.args.builder.now c.items.builder c.items.invariant
    c.in_ok-next.next.used c.in_ok-next.ensures.used.1 c.in_ok-next.next.token c.in_ok-next.ensures.takes c.next_token.new.place c.in_ok-next.ensures.past
    c.split_at.result.1.now c.split_at.ensures.back c.in-Close.is)

pub returns-in-End-clause-built : goal.returns-in-End-clause-built
returns-in-End-clause-built t c =
    line-is c.args.place.now c.args.bytes.now c.args.texts.now _ _ c.of-in-End.result.moves c.of-in-End.result.texts c.args.builder.now c.items.builder c.of-in-End.ensures.moves c.of-in-End.ensures.texts
    (built-end c.args.place.now c.args.bytes.now c.items.place c.items.rest.now c.args.texts.now c.items.left.now c.args.builder.now c.items.builder c.items.invariant
    c.in_ok-next.next.used c.in_ok-next.ensures.used.1 c.in_ok-next.next.token c.in_ok-next.ensures.takes c.next_token.new.place c.in_ok-next.ensures.past
    c.split_at.result.1.now c.split_at.ensures.back c.in-End.is)

pub returns-in-Close-clause-leads : goal.returns-in-Close-clause-leads
returns-in-Close-clause-leads t c =
    leads-close c.args.place.now c.args.bytes.now c.items.place c.items.rest.now c.args.texts.now c.items.left.now c.args.builder.now c.items.builder c.items.invariant
    c.in_ok-next.next.used c.in_ok-next.ensures.used.1 c.in_ok-next.next.token c.in_ok-next.ensures.takes c.next_token.new.place c.in_ok-next.ensures.past
    c.split_at.result.1.now c.split_at.ensures.back c.in-Close.is

pub returns-in-End-clause-leads : goal.returns-in-End-clause-leads
returns-in-End-clause-leads t c =
    leads-end c.args.place.now c.args.bytes.now c.items.place c.items.rest.now c.args.texts.now c.items.left.now c.args.builder.now c.items.builder c.items.invariant
    c.in_ok-next.next.used c.in_ok-next.ensures.used.1 c.in_ok-next.next.token c.in_ok-next.ensures.takes c.next_token.new.place c.in_ok-next.ensures.past
    c.split_at.result.1.now c.split_at.ensures.back c.in-End.is

pub items-preserved : goal.items-preserved
items-preserved t c =
    let same = c.in_default.token-is in
    built-one c.args.place.now c.args.bytes.now c.items.place c.items.rest.now c.args.texts.now c.items.left.now c.args.builder.now c.items.builder c.items.invariant
    c.in_ok-next.next.used c.in_ok-next.ensures.used.1 c.in_ok-next.next.token c.in_ok-next.ensures.takes c.next_token.new.place c.in_ok-next.ensures.past
    c.split_at.result.1.now c.split_at.ensures.back
    c.in_ok-used-in_default.used c.add.new.builder c.split_at-in_default.result.1.now c.in_default.not-Open c.in_default.not-Close c.in_default.not-End
    c.in_ok-used-in_default.ensures.adds c.split_at-in_default.ensures.back
