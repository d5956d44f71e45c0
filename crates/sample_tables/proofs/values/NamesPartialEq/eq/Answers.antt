use Rattle.std.proofs.Common.{string_bytes, nat_eq, ◌∙◌}
use Rattle.std.specs.Cmp.Lexicographic.{pointwise}
use Rattle.sample_tables.proofs.Texts.{pointwise-map}
use Rattle.sample_tables.proofs.values.NamesPartialEq.eq.Goals as goal

pub returns : goal.returns
returns c =
    rw (← c.self.view_is, ← c.other.view_is) (c.eq.ensures ∙ pointwise-map string_bytes (pointwise nat_eq) c.self.inside.plain.items c.other.inside.plain.items)
