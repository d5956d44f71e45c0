use Rattle.std.proofs.Common.{◌∙◌, ap}
use Rattle.std.specs.Str.{bytes_eq}
use Rattle.source_lists.specs.checked.NameMarks.{is_among}
use Rattle.source_lists.proofs.KeptLemmas.{any_named}
use Rattle.source_lists.proofs.name_marks.is_among.Goals as goal

pub returns : goal.returns
returns c =
    c.has_text.ensures ∙ (any_named (bytes_eq c.args.frame.now) c.get.result.now ∙ ap (λ names. is_among names c.args.frame.now) c.get.ensures)
