use Rattle.std.proofs.Common.{rules, sym, subst}
use Rattle.std.proofs.lemmas.Option.{IfSome_then}
use Rattle.std.specs.Arc.{arc_value}
use Rattle.ring_collect.specs.checked.Batches.{records_of_all}
use Rattle.ring_collect.specs.checked.Tellers.{TellsAll}
use Rattle.ring_collect.proofs.tellers.tell_all.Goals as goal

pub returns : goal.returns
returns g c =
    let told = c.tell_source.ensures.told in
    IfSome_then c.finish.result c.finish.ensures (λ left finishes. record {
      rest = told.rest;
      is_given = told.is_given;
      holds = record {
        ring = search rules;
        all = subst (λ batches. TellsAll (g.G.Gate.may_stop (arc_value c.args.gate)) (g.G.Gate.may_go (arc_value c.args.gate)) c.args.source told.rest (records_of_all batches)) (sym finishes.1)
            (subst (λ gate. TellsAll (g.G.Gate.may_stop gate) (g.G.Gate.may_go gate) c.args.source told.rest (records_of_all c.tell_source.new.self.outlet.producer.end.past)) c.deref.ensures told.holds);
      };
    })
