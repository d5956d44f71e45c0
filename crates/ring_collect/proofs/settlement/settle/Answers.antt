use Rattle.std.proofs.lemmas.Option.{IfSome_then}
use Rattle.ring_collect.proofs.SettlementLemmas.{left_settled}
use Rattle.ring_collect.proofs.settlement.settle.Goals as goal

pub returns-clause-settled : goal.returns-clause-settled
returns-clause-settled g c =
    left_settled (λ gate. g.G.Gate.may_stop gate) (λ gate. g.G.Gate.may_go gate) (λ reader. g.R.RowReader.gives reader) c.args.running c.join.result c.settle_by.result c.requires
    (IfSome_then c.join.result c.join.ensures (λ left sent. record { rest = sent.rest; is_given = sent.is_given; holds = sent.holds.all })) c.settle_by.ensures.received c.settle_by.ensures.unshown
