use Rattle.source_lists.proofs.SummedLemmas.{few_new, given_last, left_out, left_refused, named_new, on_err, passed_again, passed_new, rows_new, told_again}
use Rattle.source_lists.proofs.summed_rows.SummedRows.try_next.Goals as goal

pub returns-in_err-names-clause-refused : goal.returns-in_err-names-clause-refused
returns-in_err-names-clause-refused g c =
    let r = g.R.RowReader in
    let old = c.args.self.now in
    let new = c.next_row.new.self in
    on_err c.from_residual.result _ (left_refused (r.gives old.reader) (r.gives new) (r.told old.reader) (r.told new) old.sums.items c.in_err-names.ensures.refused c.in_err-names.ensures.names c.in_err-names.ensures.stacks old.numbers old.rows)

pub invariant_of-self-in-New-1 : goal.invariant_of-self-in-New-1
invariant_of-self-in-New-1 g c =
    let r = g.R.RowReader in
    let old = c.args.self.now in
    let new = c.next_row.new.self in
    let among = rw c.in-New.is at c.in_ok-names.ensures.step in
    record {
      rows = rows_new (r.gives old.reader) (r.gives new) (r.told old.reader) (r.told new) old.sums.items c.in-New.names c.in-New.frames c.in-New.weight c.next_row.ensures.possible old.rows among;
      numbers = named_new (r.gives old.reader) (r.gives new) (r.told old.reader) (r.told new) old.sums.items c.in-New.names c.in-New.frames c.in-New.weight c.next_row.ensures.possible old.numbers among;
      limits = old.limits;
      few = λ some. few_new (r.gives old.reader) (r.gives new) (r.told old.reader) (r.told new) old.sums.items c.in-New.names c.in-New.frames c.in-New.weight (old.few some) among;
    }

pub returns-in-New-clause-passes : goal.returns-in-New-clause-passes
returns-in-New-clause-passes g c =
    let r = g.R.RowReader in
    let old = c.args.self.now in
    let new = c.next_row.new.self in
    passed_new (r.gives old.reader) (r.gives new) (r.told old.reader) (r.told new) old.sums.items c.in-New.names c.in-New.frames c.in-New.weight old.numbers old.rows
    (rw c.in-New.is at c.in_ok-names.ensures.step)

pub returns-then-keep-clause-passes : goal.returns-then-keep-clause-passes
returns-then-keep-clause-passes g c =
    let r = g.R.RowReader in
    let old = c.args.self.now in
    let new = c.next_row.new.self in
    let row = c.in-Again.row in
    let weight = c.in-Again.weight in
    let among = rw c.in-Again.is at c.in_ok-names.ensures.step in (
      left_out (r.gives old.reader) (r.gives new) (r.told old.reader) (r.told new) old.sums.items row weight c.keep.new.sums.items c.if-keep.ensures.sums among,
      (told_again (r.gives old.reader) (r.gives new) (r.told old.reader) (r.told new) old.sums.items row weight c.next_row.ensures.possible among).0,
    )

pub returns-else-keep-clause-passes : goal.returns-else-keep-clause-passes
returns-else-keep-clause-passes g c =
    let r = g.R.RowReader in
    let old = c.args.self.now in
    let new = c.next_row.new.self in
    passed_again (r.gives old.reader) (r.gives new) (r.told old.reader) (r.told new) old.sums.items c.in-Again.row c.in-Again.weight c.keep.new.sums.items c.if-keep.ensures.sums
    (rw c.in-Again.is at c.in_ok-names.ensures.step)

pub returns-in-End-clause-passes : goal.returns-in-End-clause-passes
returns-in-End-clause-passes g c =
    let r = g.R.RowReader in
    let old = c.args.self.now in
    let new = c.next_row.new.self in
    given_last (r.gives old.reader) (r.gives new) (r.told old.reader) (r.told new) old.sums.items c.in-End.ending c.last_step.new.sums.items c.last_step.result c.last_step.ensures old.rows
    (rw c.in-End.is at c.in_ok-names.ensures.step)
