use Rattle.std.proofs.Common.{◌≡◌, ◌<◌, ◌+◌, ◌++◌, ℕ, List, [], ◌∷◌, Option, None, get_or, length, take, sym, ap, ◌∙◌, subst, arith, add-one}
use Rattle.std.proofs.Math.Seq.{take-suc}
use Rattle.std.proofs.lemmas.List.{length-map, length-take-le}
use Rattle.base_core.specs.Entries.{sig_in}
use Rattle.report_commands.proofs.EcoLaws.{coded_more}
use Rattle.report_commands.proofs.classifying.set_codes.Goals as goal
use Rattle.report_commands.specs.Ends.{AreCoded}

pub loop-i-preserved : goal.loop-i-preserved
loop-i-preserved c =
    let codes = c.args.codes.now in
    let i = c.loop-i.i in
    let below : i < length codes = omega (arith, c.requires.count, c.len-i-end.ensures.one_sig_each, length-map c.args.base.now.entries sig_in, c.loop-i-test.true) in
    let next : take (i + 1) codes ≡ take i codes ++ get_or codes i None ∷ [] = ap (λ (n : ℕ). take n codes) (add-one i) ∙ take-suc codes i None below in
    let at : i ≡ length (take i codes) = sym (length-take-le i codes (omega (arith, below))) in
    record {
      coded = subst (λ (x : List (Option ℕ)). AreCoded x c.args.base.now c.set_code.new.base) (sym next)
          (coded_more (take i codes) i (get_or codes i None) c.args.base.now c.loop-i.base c.set_code.new.base at c.loop-i.invariant.coded c.set_code.ensures.coded);
    }
