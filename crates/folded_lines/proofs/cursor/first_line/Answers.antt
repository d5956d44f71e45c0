use Rattle.std.proofs.Common.{◌∙◌}
use Rattle.folded_lines.proofs.LineLemmas.{line_len-all, line_len-found, without_terminator-all, without_terminator-found}
use Rattle.folded_lines.proofs.cursor.first_line.Goals as goal

pub returns-in-None-clause-text : goal.returns-in-None-clause-text
returns-in-None-clause-text c = without_terminator-all c.args.bytes.now c.requires c.in-None.ensures

pub returns-in-None-clause-len : goal.returns-in-None-clause-len
returns-in-None-clause-len c = line_len-all c.args.bytes.now c.in-None.ensures

pub returns-in-Some-clause-text : goal.returns-in-Some-clause-text
returns-in-Some-clause-text c =
    let found = c.in-Some.ensures in
    c.without_cr.ensures.text ∙ without_terminator-found c.args.bytes.now c.in-Some.at found.0.high found.0.before found.1

pub returns-in-Some-clause-len : goal.returns-in-Some-clause-len
returns-in-Some-clause-len c =
    let found = c.in-Some.ensures in
    line_len-found c.args.bytes.now c.in-Some.at found.0.high found.0.before found.1
