use Rattle.std.proofs.Common.{◌++◌, ◌-◌, ap, sym, ◌∙◌, refl}
use Rattle.std.proofs.lemmas.Iterator.{YieldsList-from_range}
use Rattle.std.proofs.lemmas.Iterator.Adapters.{fact_from_extend}
use Rattle.std.proofs.lemmas.List.{map-id}
use Rattle.sample_tables.proofs.stacks.number.Goals as goal

pub returns-clause-ok : goal.returns-clause-ok
returns-clause-ok c =
    fact_from_extend (λ x. x) c.extend.result c.extend.ensures.ran
    (λ it h. YieldsList-from_range c.args.from c.args.to (c.args.to - c.args.from) h refl)
    (λ xs e h. h.0 ∙ ap (λ ys. c.args.frames.now.items ++ ys) (sym (map-id xs) ∙ e))
