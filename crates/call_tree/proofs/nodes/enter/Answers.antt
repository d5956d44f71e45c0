use Rattle.std.proofs.Common.{rules, ◌+◌, inl, inr, ap, ◌∙◌, arith, set, refl as reflexivity}
use Rattle.std.proofs.lemmas.Grind.{get_or_default_zero}
use Rattle.call_tree.proofs.nodes.enter.Goals as goal

pub returns-then-is_new-clause-child : goal.returns-then-is_new-clause-child
returns-then-is_new-clause-child c =
    let new = c.enter-index.ensures.new c.if-is_new.true in
    inr (record {
      absent = new.absent;
      child_is = omega (arith, new.next);
      links_grow = new.grow;
      owns_grow = search (rules, c.push.ensures.items, c.push.ensures.succeeds c.requires.owns_room);
      totals_grow = search (rules, c.push-then-is_new.ensures.items, c.push-then-is_new.ensures.succeeds c.requires.totals_room);
    })

pub returns-clause-child : goal.returns-clause-child
returns-clause-child c =
    let known = c.enter-index.ensures.known c.if-is_new.false in
    inl (record {
      at = c.enter-index.result.0;
      within = known.within;
      stands = known.stands;
      child_is = reflexivity;
      links_stay = known.stay;
      owns_stay = reflexivity;
      total_grows = ap (λ n. set c.args.totals.now.items (c.enter-index.result.0 + 1) (n + c.args.weight))
          (c.index_mut.ensures.value ∙ get_or_default_zero c.args.totals.now.items (c.enter-index.result.0 + 1) c.index_mut.result.now (omega arith));
    })
