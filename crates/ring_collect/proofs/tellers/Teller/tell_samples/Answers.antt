use Rattle.std.proofs.Common.{◌+◌, ◌<◌, ◌^◌, ◌∙◌, sym, ap, subst, refl, rules, []}
use Rattle.stack_core.specs.Records.{IsWellTold}
use Rattle.ring_collect.specs.checked.Tellers.{told_by}
use Rattle.ring_collect.proofs.Progress.{ToldSoFar, nothing_told, next_index, one_more, closed, closed_names, closed_well}
use Rattle.ring_collect.proofs.tellers.Teller.tell_samples.Goals as goal

pub loop-init : goal.loop-init
loop-init g c = record {
  ends = (tt, tt);
  ring = ((refl, refl, refl, refl), refl);
  rows = c.requires.nothing_told ∙ ap told_by (sym c.requires.nothing_sent);
  well_told = subst IsWellTold (sym c.requires.nothing_sent) tt;
  told = λ rest is. record {
    rest = rest;
    is_given = is;
    holds = subst (ToldSoFar (g.G.Gate.may_go c.args.gate.now) c.args.source rest rest 0 (g.R.RowReader.told c.args.self.now.reader)) (sym c.requires.nothing_sent)
        (subst (λ rows. ToldSoFar (g.G.Gate.may_go c.args.gate.now) c.args.source rest rest 0 rows []) (sym c.requires.nothing_told) nothing_told);
  };
}

pub returns-in-Some-tell_next-clause-told : goal.returns-in-Some-tell_next-clause-told
returns-in-Some-tell_next-clause-told g c =
    let closes = c.in-Some-tell_next.ensures.closes in
    let whole = c.loop.invariant.told closes.rest closes.is_given in
    record { rest = whole.rest; is_given = whole.is_given; holds = closed whole.holds (g.G.Gate.may_stop c.args.gate.now) closes.holds }

pub returns-in-Some-tell_next-clause-well_told : goal.returns-in-Some-tell_next-clause-well_told
returns-in-Some-tell_next-clause-well_told g c =
    let closes = c.in-Some-tell_next.ensures.closes in
    closed_well (c.loop.invariant.told closes.rest closes.is_given).holds (g.G.Gate.may_stop c.args.gate.now) closes.holds

pub returns-in-Some-tell_next-clause-in_order : goal.returns-in-Some-tell_next-clause-in_order
returns-in-Some-tell_next-clause-in_order g c =
    let closes = c.in-Some-tell_next.ensures.closes in
    closed_names (c.loop.invariant.told closes.rest closes.is_given).holds (g.G.Gate.may_stop c.args.gate.now) closes.holds

pub loop-preserved : goal.loop-preserved
loop-preserved g c =
    let invariant = c.loop.invariant in
    let possible = c.tell_next.ensures.possible in
    let one = c.in_default.ensures.told possible.rest possible.is_given in
    record {
      ends = (tt, tt);
      ring = search rules;
      rows = one.holds.rows;
      well_told = one.holds.tells.well_told invariant.well_told;
      told = λ after is.
          let next = c.in_default.ensures.told after is in
          let whole = invariant.told next.rest next.is_given in
          record { rest = whole.rest; is_given = whole.is_given; holds = one_more whole.holds (c.tell_next.ensures.few next.rest next.is_given) next.holds };
    }

pub overflow_add-index : goal.overflow_add-index
overflow_add-index g c =
    let possible = c.tell_next.ensures.possible in
    let next = c.in_default.ensures.told possible.rest possible.is_given in
    let below : c.loop.index + 1 < 2 ^ 64 = next_index (c.loop.invariant.told next.rest next.is_given).holds (c.tell_next.ensures.few next.rest next.is_given) next.holds in
    search rules
