use Rattle.std.proofs.Common.{sym, subst, arith}
use Rattle.merged_stacks.specs.checked.Ranked.{HasSums}
use Rattle.merged_stacks.proofs.GivenStacks.{after_none, none_left}
use Rattle.merged_stacks.proofs.list_sums.give_list.Goals as goal

pub begin-requires : goal.begin-requires
begin-requires c = none_left c.args.rows.now (omega (arith, c.len.ensures, c.if-len-gt0.false))

pub returns : goal.returns
returns c names samples by before =
    after_none names samples c.args.list.samples c.args.rows.now c.begin.new.self (none_left c.args.rows.now (omega (arith, c.len.ensures, c.if-len-gt0.false))) before
    (subst (HasSums names c.args.list.samples) (sym c.begin.ensures) (c.in_ok-rows_of_list.ensures names by))
