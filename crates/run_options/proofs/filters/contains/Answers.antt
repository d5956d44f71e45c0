use Rattle.std.proofs.lemmas.Str.Pattern.{contains_text}
use Rattle.run_options.proofs.FilterLemmas.{found_text}
use Rattle.run_options.proofs.filters.contains.Goals as goal

pub returns : goal.returns
returns c =
    let name = c.args.name.now in
    let text = c.args.text.now in
    found_text c.contains.result name text (contains_text c.contains.result text name c.contains.ensures.cases)
