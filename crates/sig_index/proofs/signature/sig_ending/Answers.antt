-- Each part of the signature.
use Rattle.std.proofs.Common.{[], not, ap, ◌∙◌, sym, subst, arith}
use Rattle.std.specs.Prelude.{min, length}
use Rattle.std.proofs.lemmas.Bool.{cond-true, cond-false}
use Rattle.chess_laws.specs.declared.setup.Setup.{Setup}
use Rattle.game_tree.specs.Game.{GameTree}
use Rattle.game_tree.specs.Tree.{Line, line_of, moves_of}
use Rattle.game_tree.specs.Counts.{variations_of, comments_of, nags_of}
use Rattle.game_tree.proofs.TreeLemmas.{length-moves_of}
use Rattle.sig_index.specs.Signature.{material_of, left_of, home_list}
use Rattle.sig_index.proofs.BoundLemmas.{few_homes, few_left, no_homes, small_homes, small_left}
use Rattle.chess_laws.specs.Position.{Sound}
use Rattle.game_tree.specs.Replay.{plies_of}
use Rattle.sig_index.proofs.PrefixLemmas.{sound_at}
use Rattle.sig_index.proofs.SigLemmas.{own_is, code_is}
use Rattle.sig_index.proofs.SigOf.{whole}
use Rattle.sig_index.proofs.signature.sig_ending.Goals as goal
use Rattle.sig_index.proofs.signature.sig_ending.Goals.{then-own_start, else-own_start}

pub material_at-requires : goal.material_at-requires
material_at-requires c =
    let start : Sound c.args.g.now.start = subst (λ (g : GameTree). Sound g.start) c.g.view_is c.setup-start.ensures.sound in
    record { sound = subst Sound (sym c.requires.last) (sound_at c.args.g.now (plies_of c.args.g.now) start c.requires.legal (omega arith)) }

pub returns : goal.returns
returns c =
    record {
      signature = whole _ _ (record {
        material = c.material_at.ensures.material ∙ ap (λ (p : Setup). material_of p.board) c.requires.last;
        own_start = own_is c.is_start-own_start.result _ c.args.g.now.start _ c.is_start-own_start.ensures.start (ap (λ (g : GameTree). g.start) c.g.view_is);
        home = elim c.if-own_start.branch [
          | then-own_start w ↦ w.result-is ∙ w.home_list.ensures ∙ ap home_list (sym (cond-true (not c.is_start-own_start.result) [] (left_of c.args.g.now) (ap not w.if-own_start.true)))
          | else-own_start w ↦ w.result-is ∙ w.left_along.ensures.left ∙ ap home_list (sym (cond-false (not c.is_start-own_start.result) [] (left_of c.args.g.now) (ap not w.if-own_start.false)))
        ];
        plies = c.min.ensures ∙ ap (λ n. min n 1023) (sym (length-moves_of c.as_slice.result.now)
            ∙ ap (λ (l : Line). length (moves_of l)) (ap line_of c.as_slice.ensures.value ∙ ap (λ (g : GameTree). g.line) c.g.view_is));
        promo = c.promotions-promotions.ensures.any;
        under = c.promotions-promotions.ensures.under;
        vars = c.count_code.ensures.code ∙ code_is (variations_of c.args.g.now) c.counts-counts.result.variations c.counts-counts.ensures.variations;
        comments = c.count_code-2.ensures.code ∙ code_is (comments_of c.args.g.now) c.counts-counts.result.comments c.counts-counts.ensures.comments;
        nags = c.count_code-3.ensures.code ∙ code_is (nags_of c.args.g.now) c.counts-counts.result.nags c.counts-counts.ensures.nags;
      });
      bounded = record {
        material = c.material_at.ensures.bounded;
        home_count = elim c.if-own_start.branch [
          | then-own_start w ↦ few_homes _ [] (w.result-is ∙ w.home_list.ensures) (omega arith)
          | else-own_start w ↦ few_homes _ (left_of c.args.g.now) (w.result-is ∙ w.left_along.ensures.left) (few_left c.args.g.now)
        ];
        home = elim c.if-own_start.branch [
          | then-own_start w ↦ small_homes _ [] (w.result-is ∙ w.home_list.ensures) (omega arith) no_homes
          | else-own_start w ↦ small_homes _ (left_of c.args.g.now) (w.result-is ∙ w.left_along.ensures.left) (few_left c.args.g.now) (small_left c.args.g.now)
        ];
        plies = omega (arith, c.min.ensures);
        vars = c.count_code.ensures.small;
        comments = c.count_code-2.ensures.small;
        nags = c.count_code-3.ensures.small;
      };
    }
