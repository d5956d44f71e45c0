use Rattle.std.proofs.Common.{◌≡◌, ◌<◌, ◌^◌, ◌∙◌, true, length, IsSomeAnd, sym, subst}
use Rattle.folded_lines.proofs.StreamPlaceLemmas.{starts, starts_strictly, start_place}
use Rattle.folded_lines.proofs.streams.FoldedStream.read_by.Goals as goal

pub invariant_of-result : goal.invariant_of-result
invariant_of-result g c =
    let small = subst (λ inlet. g.I.Inlet.is_sure inlet ≡ true → IsSomeAnd (g.I.Inlet.remaining inlet) (λ known. length known < 2 ^ 64)) (sym c.over.ensures.inlet) c.requires.small in
    record { place = start_place _ _ c.over.result c.over.ensures.state c.over.ensures.unread small }

pub returns-clause-gives : goal.returns-clause-gives
returns-clause-gives g c = rw c.over.ensures.inlet (λ loose.
    starts _ _ c.over.result c.over.ensures.state c.over.ensures.unread (c.over.ensures.strictness ∙ loose))

pub returns-clause-strict : goal.returns-clause-strict
returns-clause-strict g c = rw c.over.ensures.inlet (λ strict.
    starts_strictly _ _ c.over.result c.over.ensures.state c.over.ensures.unread (c.over.ensures.strictness ∙ strict))
