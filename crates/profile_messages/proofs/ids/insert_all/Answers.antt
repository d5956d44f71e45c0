use Rattle.std.proofs.Common.{rules, sym, ◌∙◌, ap, map, subst, take}
use Rattle.std.proofs.lemmas.List.{drop_all, take_all}
use Rattle.std.specs.Prelude.{is_some}
use Rattle.profile_messages.specs.Message.{first}
use Rattle.profile_messages.specs.SeenIndex.{IsIndexOf}
use Rattle.profile_messages.specs.Tables.{id_faults}
use Rattle.profile_messages.proofs.IndexLemmas.{duplicate_here, ids_of, new_here, IsIndexOf-more}
use Rattle.profile_messages.proofs.ids.insert_all.Goals as goal

pub returns-then-is_some-clause-fault : goal.returns-then-is_some-clause-fault
returns-then-is_some-clause-fault g c =
    sym c.loop-place.invariant.faults
    ∙ duplicate_here g.E.Entry.id_of c.args.table.now c.loop-place.place c.index-table-place.result c.id-at.result c.loop-place.index c.loop-place-test.true
    c.loop-place.invariant.places (search rules) c.if-id-eq0.false (ap is_some (sym c.get.ensures) ∙ sym c.is_some.ensures ∙ c.if-is_some.true)

pub loop-place-preserved : goal.loop-place-preserved
loop-place-preserved g c = record {
  faults = new_here g.E.Entry.id_of c.args.table.now c.loop-place.place c.index-table-place.result c.id-at.result c.loop-place.index c.loop-place-test.true
      c.loop-place.invariant.places (search rules) c.if-id-eq0.false (ap is_some (sym c.get.ensures) ∙ sym c.is_some.ensures ∙ c.if-is_some.false)
      ∙ c.loop-place.invariant.faults;
  places = IsIndexOf-more g.E.Entry.id_of c.args.table.now c.loop-place.place c.index-table-place.result c.id-at.result c.loop-place.index _ c.loop-place-test.true
      c.loop-place.invariant.places (search rules) (ap is_some (sym c.get.ensures) ∙ sym c.is_some.ensures ∙ c.if-is_some.false) c.in_ok-insert.ensures;
}

pub returns-clause-ids : goal.returns-clause-ids
returns-clause-ids g c =
    let id_of = g.E.Entry.id_of in
    let table = c.args.table.now in
    let place = c.loop-place.place in
    sym c.loop-place.invariant.faults ∙ ap (λ behind. first (id_faults (ids_of id_of (take place table)) (map id_of behind))) (drop_all place table c.loop-place-test.false)

pub returns-clause-places : goal.returns-clause-places
returns-clause-places g c =
    subst (λ seen. IsIndexOf g.E.Entry.id_of seen c.loop-place.index) (take_all c.loop-place.place c.args.table.now c.loop-place-test.false) c.loop-place.invariant.places
