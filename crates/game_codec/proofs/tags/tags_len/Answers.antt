use Rattle.std.proofs.Common.{rules, List, [], ◌∷◌, ◌++◌, refl}
use Rattle.game_tree.specs.TagName.{free_of}
use Rattle.game_tree.specs.declared.head.Tag.{Tag}
use Rattle.game_codec.specs.Breach.{Tells}
use Rattle.game_codec.specs.TagReading.{BreaksTags}
use Rattle.game_codec.proofs.TagsSoFar.{read_none, read_more, read_all, read_told}
use Rattle.game_codec.proofs.tags.tags_len.Goals as goal

pub loop-used-init : goal.loop-used-init
loop-used-init c = ([], read_none c.args.bytes.now)

pub returns-in_err-tag_len-clause-err : goal.returns-in_err-tag_len-clause-err
returns-in_err-tag_len-clause-err c =
    let told : Tells (λ from what. (all : List Tag) × BreaksTags c.args.bytes.now all from what) c.in_err-tag_len.field-0.0 =
    read_told c.args.bytes.now c.loop-used.rest.now c.loop-used.invariant.0 c.in_err-tag_len.field-0.0 c.loop-used.invariant.1 c.in_err-tag_len.ensures.err in
    search (rules, told)

pub returns-in-None-clause-ok : goal.returns-in-None-clause-ok
returns-in-None-clause-ok c =
    let read = read_all c.args.bytes.now c.loop-used.rest.now c.loop-used.invariant.0 _ c.loop-used.invariant.1
    (rw c.in-None.is at c.in_ok-tag_len.ensures.ok) refl in
    (read.0, read.1.0)

pub loop-used-preserved : goal.loop-used-preserved
loop-used-preserved c =
    let next = rw c.in-Some.is at c.in_ok-tag_len.ensures.ok in (
      c.loop-used.invariant.0 ++ free_of (next.0 ∷ []),
      rw c.split_at.ensures.back
          (read_more c.args.bytes.now c.loop-used.rest.now _ c.loop-used.invariant.0 next.0 c.loop-used.invariant.1 next.1.0),
    )
