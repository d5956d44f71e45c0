use Rattle.std.proofs.Common.{◌∙◌, ◌++◌, ◌∷◌, [], ap, append-nil, length, sym}
use Rattle.ring_collect.specs.declared.flat_records.Step.TheVariants.{Row}
use Rattle.ring_collect.proofs.FlatLemmas.{appended, whole_row_fits, whole_row_is}
use Rattle.ring_collect.proofs.flat_records.FlatRecords.push_row.Goals as goal

pub invariant_of-self-2 : goal.invariant_of-self-2
invariant_of-self-2 c =
    (appended c.self.inside.steps.items _ _ (Row (length c.args.frames.now) c.args.weight) [] c.args.frames.now c.self.invariant (whole_row_fits c.args.frames.now c.args.weight) c.self.view_is (whole_row_is c.args.frames.now c.args.weight)
    (c.in_ok-push.ensures.items ∙ ap (λ steps. steps ++ Row (length c.args.frames.now) c.args.weight ∷ []) c.in_ok-reserve.ensures.items) (sym (append-nil _)) c.in_ok-extend_from_slice.ensures.items).fit

pub returns-clause-ok : goal.returns-clause-ok
returns-clause-ok c =
    (appended c.self.inside.steps.items _ _ (Row (length c.args.frames.now) c.args.weight) [] c.args.frames.now c.self.invariant (whole_row_fits c.args.frames.now c.args.weight) c.self.view_is (whole_row_is c.args.frames.now c.args.weight)
    (c.in_ok-push.ensures.items ∙ ap (λ steps. steps ++ Row (length c.args.frames.now) c.args.weight ∷ []) c.in_ok-reserve.ensures.items) (sym (append-nil _)) c.in_ok-extend_from_slice.ensures.items).records_are
