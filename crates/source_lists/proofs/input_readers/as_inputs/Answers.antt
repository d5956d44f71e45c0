use Rattle.std.proofs.Common.{◌++◌, ◌∷◌, [], List, subst, sym}
use Rattle.std.specs.List.{AllZip}
use Rattle.source_lists.specs.declared.input_readers.InputReader.{InputReader}
use Rattle.source_lists.proofs.KnownInputs.{zip_push}
use Rattle.source_lists.proofs.input_readers.as_inputs.Goals as goal

pub loop-part-preserved : goal.loop-part-preserved
loop-part-preserved g c =
    let parts = c.loop-part.yielded in
    let readers = c.loop-part.readers.items in
    subst (λ (readers : List InputReader). AllZip (λ part reader. g.R.Into.converts part reader) (parts ++ c.in-Some.part ∷ []) readers) (sym c.in_ok-push.ensures.items)
    (zip_push (λ part reader. g.R.Into.converts part reader) parts readers c.in-Some.part c.into.result c.loop-part.invariant c.into.ensures)
