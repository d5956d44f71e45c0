use Rattle.std.proofs.Common.{◌<◌, length, ap, sym, ◌∙◌}
use Rattle.std.proofs.lemmas.Bool.{ltb-true}
use Rattle.std.proofs.lemmas.List.{get_or_default}
use Rattle.folded_lines.specs.Lines.{is_semicolon}
use Rattle.folded_lines.proofs.SharingLemmas.{IsEnd-at}
use Rattle.folded_lines.proofs.shared_names.is_end.Goals as goal

pub returns-in-Some : goal.returns-in-Some
returns-in-Some c = λ is.
    let head = c.args.head.now in
    let within : c.args.at < length head = ltb-true c.args.at (length head) (sym c.in-Some.ensures.lookup.0) in
    IsEnd-at head c.args.at within (ap is_semicolon (get_or_default head c.args.at 0 _ within ∙ sym c.in-Some.ensures.lookup.1) ∙ is)
