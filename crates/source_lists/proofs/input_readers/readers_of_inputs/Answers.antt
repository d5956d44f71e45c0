use Rattle.std.proofs.Common.{◌++◌, ◌∷◌, [], List, subst, sym}
use Rattle.std.specs.List.{AllZip}
use Rattle.source_lists.specs.checked.InputReaders.{IsReaderOf}
use Rattle.source_lists.specs.declared.input_readers.InputReader.{InputReader}
use Rattle.source_lists.proofs.KnownInputs.{zip_push}
use Rattle.source_lists.proofs.input_readers.readers_of_inputs.Goals as goal

pub loop-input-preserved : goal.loop-input-preserved
loop-input-preserved c =
    let is_of = IsReaderOf c.args.options.now in
    let inputs = c.loop-input.yielded in
    let readers = c.loop-input.readers.items in
    subst (λ (readers : List InputReader). AllZip is_of (inputs ++ c.in-Some.input ∷ []) readers) (sym c.in_ok-push.ensures.items)
    (zip_push is_of inputs readers c.in-Some.input c.in_ok-over.field-0 c.loop-input.invariant c.in_ok-over.ensures)
