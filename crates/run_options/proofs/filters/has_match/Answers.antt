use Rattle.std.proofs.Common.{◌∙◌, ap, map, string_bytes}
use Rattle.run_options.specs.Filters.{has_match}
use Rattle.run_options.proofs.FilterLemmas.{match_named}
use Rattle.run_options.proofs.filters.has_match.Goals as goal

pub returns : goal.returns
returns c =
    let stack = c.args.stack.now in
    c.any_has_any.ensures ∙ match_named c.get.result.now stack ∙ ap (λ texts. has_match texts (map string_bytes stack)) c.get.ensures
