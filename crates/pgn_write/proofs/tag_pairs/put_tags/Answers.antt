use Rattle.std.proofs.Common.{ℕ, List, ◌++◌, ap, sym, ◌∙◌, flat_map}
use Rattle.cell_core.specs.declared.man.Colour.TheVariants.{White, Black}
use Rattle.game_tree.specs.declared.head.Head.{Head}
use Rattle.game_tree.specs.Head.{head_of}
use Rattle.pgn_write.specs.TagPairs.{roster, rating_pairs, eco_pairs, event_date_pairs, flags_text, flags_pairs, start_pairs, tag_text}
use Rattle.pgn_write.proofs.TagLaws.{tags_of-parts, eight-parts}
use Rattle.pgn_write.proofs.tag_pairs.put_tags.Goals as goal

pub returns : goal.returns
returns c =
    let head : Head = head_of c.args.head.now c.args.tags.now in
    record {
      tags =
          eight-parts c.args.out.now.items c.put_roster.new.out.items c.put_rating.new.out.items c.put_rating-2.new.out.items c.put_eco.new.out.items
          c.put_event_date.new.out.items c.put_flags.new.out.items c.put_start.new.out.items c.put_others.new.out.items
          (flat_map tag_text (roster head)) (flat_map tag_text (rating_pairs White head.white_rating)) (flat_map tag_text (rating_pairs Black head.black_rating))
          (flat_map tag_text (eco_pairs head.eco)) (flat_map tag_text (event_date_pairs head.event_date)) (flat_map tag_text (flags_pairs (flags_text head.deleted head.marks)))
          (flat_map tag_text (start_pairs c.args.g.now)) (flat_map tag_text head.tags)
          c.in_ok-put_roster.ensures.tags c.in_ok-put_rating.ensures.tags c.in_ok-put_rating-2.ensures.tags c.in_ok-put_eco.ensures.tags
          c.in_ok-put_event_date.ensures.tags c.in_ok-put_flags.ensures.tags c.in_ok-put_start.ensures.tags c.in_ok-put_others.ensures.tags
          ∙ ap (λ (text : List ℕ). c.args.out.now.items ++ text) (sym (tags_of-parts head c.args.g.now));
    }
