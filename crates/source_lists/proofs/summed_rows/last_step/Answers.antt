use Rattle.std.proofs.Common.{◌∙◌, ◌≤◌, ap, arith}
use Rattle.std.specs.Prelude.{Some}
use Rattle.std.proofs.lemmas.List.Elements.{All-pop}
use Rattle.sample_tables.specs.declared.samples.TheConstants.{WEIGHT_LIMIT}
use Rattle.source_lists.specs.checked.SummedRows.{pending, weigh}
use Rattle.source_lists.proofs.SummedLemmas.{pending_push, taken, weigh_zero}
use Rattle.source_lists.proofs.summed_rows.last_step.Goals as goal

pub returns-then-weight-gt0 : goal.returns-then-weight-gt0
returns-then-weight-gt0 c =
    let before = c.loop-weight.invariant in
    taken c.len.result c.in-Some.weight c.args.sums.now.items c.loop-weight.sums.items c.pop.new.self.items c.in-Some.ensures.items (omega (arith, c.len.ensures, c.pop.new.self.ok.0)) c.if-weight-gt0.true before.limits before.rows before.weights before.given

pub loop-weight-preserved : goal.loop-weight-preserved
loop-weight-preserved c =
    let before = c.loop-weight.invariant in
    let new = c.pop.new.self.items in
    let weight = c.in-Some.weight in
    let is = c.in-Some.ensures.items in
    record {
      limits = (All-pop (λ sum. sum ≤ WEIGHT_LIMIT) c.loop-weight.sums.items new (Some weight) is before.limits).0;
      rows = omega arith;
      weights = λ number. before.weights number ∙ (ap (weigh number) is ∙ weigh_zero number new weight c.if-weight-gt0.false);
      given = omega (arith, before.given, ap pending is, pending_push new weight, c.if-weight-gt0.false);
    }
