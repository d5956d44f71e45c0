use Rattle.std.proofs.Common.{rules, ◌∙◌, ◌+◌, ◌∷◌, [], All, ap, length, length-append, subst, sym}
use Rattle.std.proofs.lemmas.List.Elements.{All-push}
use Rattle.std.proofs.lemmas.Result.{IfOk-from_err}
use Rattle.ring_collect.specs.checked.RunningSources.{IsOfSize}
use Rattle.ring_collect.proofs.room.make_rings.Goals as goal

pub loop-preserved : goal.loop-preserved
loop-preserved c =
    let size = IsOfSize c.args.handover.ring in
    let ring = c.in_ok-make_ring.field-0 in
    record {
      count = ap length c.in_ok-push.ensures.items ∙ length-append c.loop.rings.items (ring ∷ []) ∙ ap (λ n. n + 1) c.loop.invariant.count;
      size = subst (All size) (sym c.in_ok-push.ensures.items) (All-push size c.loop.rings.items ring c.loop.invariant.size c.in_ok-make_ring.ensures);
    }

pub returns-in_err-rings : goal.returns-in_err-rings
returns-in_err-rings c = search (rules, IfOk-from_err)

pub returns-in_err-make_ring : goal.returns-in_err-make_ring
returns-in_err-make_ring c = search (rules, IfOk-from_err)

pub returns-in_err-push : goal.returns-in_err-push
returns-in_err-push c = search (rules, IfOk-from_err)
