use Rattle.std.proofs.Common.{sym, ap, ◌∙◌}
use Rattle.game_tree.specs.TagList.{is_named}
use Rattle.pgn_read.specs.Field.{name_text}
use Rattle.pgn_read.proofs.FieldLaws.{named_by_field}
use Rattle.pgn_read.proofs.read_tag.ReadTag.is.Goals as goal

pub returns-clause-named : goal.returns-clause-named
returns-clause-named c =
    c.is.ensures.own ∙ sym (named_by_field c.self.inside.field c.self.inside.extra c.args.name c.self.invariant)
    ∙ ap (is_named (name_text c.args.name)) c.self.view_is
