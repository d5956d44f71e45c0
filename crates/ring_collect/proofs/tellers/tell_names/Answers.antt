use Rattle.std.proofs.Common.{◌∙◌, ◌++◌, ◌∷◌, [], ap, sym, rules, map, append_assoc}
use Rattle.std.proofs.lemmas.List.{map-append}
use Rattle.stack_core.specs.declared.records.RingRecord.TheVariants.{Name}
use Rattle.ring_collect.specs.checked.Batches.{told_to}
use Rattle.ring_collect.proofs.tellers.tell_names.Goals as goal

pub loop-name-preserved : goal.loop-name-preserved
loop-name-preserved g c =
    let so_far = c.loop-name.invariant in
    let before = told_to c.args.outlet.now in
    record {
      ring = search rules;
      told = c.in_ok-tell.ensures.told ∙ ap (λ records. records ++ Name c.in-Some.name ∷ []) so_far.told ∙ append_assoc before (map Name c.loop-name.yielded) (Name c.in-Some.name ∷ [])
          ∙ ap (λ records. before ++ records) (sym (map-append Name c.loop-name.yielded (c.in-Some.name ∷ [])));
    }
