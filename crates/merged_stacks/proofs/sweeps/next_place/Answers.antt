use Rattle.std.proofs.Common.{◌∙◌, sym, arith}
use Rattle.std.specs.Ordering.{nat_cmp}
use Rattle.std.specs.Cmp.Lexicographic.{slice_cmp}
use Rattle.std.specs.declared.cmp.Ordering.TheVariants.{Less, Equal, Greater}
use Rattle.merged_stacks.proofs.SweepSteps.{swept_after, swept_before, swept_met}
use Rattle.merged_stacks.proofs.sweeps.next_place.Goals as goal

pub returns-then-before-len-clause-next : goal.returns-then-before-len-clause-next
returns-then-before-len-clause-next c = swept_after c.args.lefts.now c.args.rights.now c.args.before c.args.after (omega (arith, c.if-before-len.true, c.len.ensures)) (omega (arith, c.if-before-len.true, c.len.ensures, c.requires.more))

pub returns-then-after-len-clause-next : goal.returns-then-after-len-clause-next
returns-then-after-len-clause-next c = swept_before c.args.lefts.now c.args.rights.now c.args.before c.args.after (omega (arith, c.if-after-len.true, c.len-2.ensures, c.requires.more)) (omega (arith, c.if-after-len.true, c.len-2.ensures))

pub returns-in-Less-clause-next : goal.returns-in-Less-clause-next
returns-in-Less-clause-next c =
    swept_met c.args.lefts.now c.args.rights.now c.args.before c.args.after Less (omega (arith, c.if-before-len.false, c.len.ensures, c.requires.before)) (omega (arith, c.if-after-len.false, c.len-2.ensures, c.requires.after))
    ((λ i. slice_cmp nat_cmp (sym c.ranks.ensures i) (sym c.ranks-2.ensures i)) ∙ sym c.cmp.ensures ∙ c.in-Less.is)

pub returns-in-Equal-clause-next : goal.returns-in-Equal-clause-next
returns-in-Equal-clause-next c =
    swept_met c.args.lefts.now c.args.rights.now c.args.before c.args.after Equal (omega (arith, c.if-before-len.false, c.len.ensures, c.requires.before)) (omega (arith, c.if-after-len.false, c.len-2.ensures, c.requires.after))
    ((λ i. slice_cmp nat_cmp (sym c.ranks.ensures i) (sym c.ranks-2.ensures i)) ∙ sym c.cmp.ensures ∙ c.in-Equal.is)

pub returns-in-Greater-clause-next : goal.returns-in-Greater-clause-next
returns-in-Greater-clause-next c =
    swept_met c.args.lefts.now c.args.rights.now c.args.before c.args.after Greater (omega (arith, c.if-before-len.false, c.len.ensures, c.requires.before)) (omega (arith, c.if-after-len.false, c.len-2.ensures, c.requires.after))
    ((λ i. slice_cmp nat_cmp (sym c.ranks.ensures i) (sym c.ranks-2.ensures i)) ∙ sym c.cmp.ensures ∙ c.in-Greater.is)
