use Rattle.std.proofs.Common.{◌∙◌, ◌+◌, ap, sym, length, sum_by, arith}
use Rattle.std.proofs.lemmas.List.Sums.{sum_by_push}
use Rattle.ranked_rows.specs.declared.rows.RankedRow.{RankedRow}
use Rattle.ranked_rows.proofs.JoinedRows.{put_in, put_in-within, put_apart}
use Rattle.ranked_rows.proofs.rows.put_in_front.Goals as goal

pub overflow_add-weight : goal.overflow_add-weight
overflow_add-weight c =
    let weigh = λ (row : RankedRow). row.weight in
    omega (arith, c.requires.total, ap (sum_by weigh) c.in-Some.ensures.items ∙ sum_by_push weigh c.pop.new.self.items c.in-Some.next)

pub returns-then-has_ranks-clause-within : goal.returns-then-has_ranks-clause-within
returns-then-has_ranks-clause-within c =
    put_in-within c.args.frames.now (c.in-Some.next.weight + c.args.weight) c.args.rows.now.items c.pop.new.self.items c.push-then-has_ranks.new.self.items c.in-Some.next c.in-Some.ensures.items c.in_ok-push-2.ensures.items c.requires.within

pub returns-then-has_ranks-clause-joined : goal.returns-then-has_ranks-clause-joined
returns-then-has_ranks-clause-joined c =
    put_in c.args.frames.now c.args.ranks.now c.args.weight c.args.rows.now.items c.pop.new.self.items c.push-then-has_ranks.new.self.items c.in-Some.next c.in-Some.ensures.items c.in_ok-push-2.ensures.items (sym c.has_ranks.ensures ∙ c.if-has_ranks.true)

pub returns-clause-joined : goal.returns-clause-joined
returns-clause-joined c =
    put_apart c.args.frames.now c.args.ranks.now c.args.start (c.args.start + length c.args.ranks.now) c.args.weight c.args.rows.now.items c.pop.new.self.items c.push-2.new.self.items c.push-3.new.self.items c.in-Some.next
    c.in-Some.ensures.items c.in_ok-push-3.ensures.items c.in_ok-push-4.ensures.items c.requires.ranks (sym c.has_ranks.ensures ∙ c.if-has_ranks.false)
