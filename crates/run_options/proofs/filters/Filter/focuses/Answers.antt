use Rattle.std.proofs.Common.{◌∙◌, ◌∷◌, [], ap}
use Rattle.run_options.specs.Filters.{has_match}
use Rattle.run_options.proofs.FilterLemmas.{one_matched}
use Rattle.run_options.proofs.filters.Filter.focuses.Goals as goal

pub returns : goal.returns
returns c =
    c.has_any.ensures ∙ (one_matched c.get.result.now c.args.name.now ∙ ap (λ texts. has_match texts (c.args.name.now ∷ [])) c.get.ensures)
