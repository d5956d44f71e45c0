use denote.Param.Send.{sendable}
use Rattle.std.proofs.Common.{◌≡◌, ◌∙◌, ◌<◌, All, IfSome, List, [], Ok, Option, ap, arith, length, map, subst, sym, ℕ}
use Rattle.stack_core.specs.Ledgers.{ListState}
use Rattle.stack_core.specs.Reading.{IsSourceLimited, Rest}
use Rattle.stack_core.specs.RowReading.{GivesSome}
use Rattle.ring_collect.specs.Collection.{seen_as_rest}
use Rattle.source_lists.specs.Lists.{ListsState}
use Rattle.source_lists.specs.Runs.{IsReadOut}
use Rattle.source_lists.specs.checked.InputReaders.{IsReaderOf, input_gives, input_told}
use Rattle.source_lists.specs.checked.OpenRuns.{ReadsOpen}
use Rattle.source_lists.specs.declared.run_faults.RunFault.TheVariants.{Collect}
use Rattle.source_lists.proofs.FaultLemmas.{handed_on}
use Rattle.source_lists.proofs.InputLemmas.{found_count, whole_read}
use Rattle.source_lists.proofs.KnownInputs.{zip_all, zip_count}
use Rattle.source_lists.proofs.PartLemmas.{all_given}
use Rattle.source_lists.proofs.ReaderThreads.{input_send}
use Rattle.source_lists.proofs.FoundRests.{found_totals, list_totals}
use Rattle.source_lists.proofs.runners.Runner.collect_each.Goals as goal

pub run_open-requires-send-R : goal.run_open-requires-send-R
run_open-requires-send-R g c = search (sendable, input_send) depth 30

pub run_open-requires-after_bounds : goal.run_open-requires-after_bounds
run_open-requires-after_bounds g c = λ _ _.
    let is_of = IsReaderOf c.args.self.now.options.now in
    let inputs = c.args.inputs.items in
    let readers = c.in_ok-readers.readers.items in
    let are = c.in_ok-readers.ensures in
    record {
      few = omega (arith, zip_count is_of inputs readers are, c.requires);
      nothing_told = zip_all is_of (λ reader. input_told reader ≡ record { names = []; stacks = [] }) (λ input reader of. of.told) inputs readers are;
      possible = zip_all is_of (λ reader. GivesSome (input_gives reader)) (λ input reader of. of.possible) inputs readers are;
    }

pub returns-in_err-run-clause-err : goal.returns-in_err-run-clause-err
returns-in_err-run-clause-err g c =
    let readers = c.in_ok-readers.readers.items in
    let inputs = c.args.inputs.items in
    handed_on c.from_residual-in_err-run.result (length readers) (length inputs) (Collect c.in_err-run.field-0.0) c.from_residual-in_err-run.ensures.1
    (omega (arith, zip_count (IsReaderOf c.args.self.now.options.now) inputs readers c.in_ok-readers.ensures)) c.in_err-run.ensures.err

pub returns-in-Some-clause-err : goal.returns-in-Some-clause-err
returns-in-Some-clause-err g c =
    let readers = c.in_ok-readers.readers.items in
    let below = subst (λ (found : Option ℕ). IfSome found (λ source. source < length c.deref-2.result.now)) c.in-Some.is c.in_ok-source.ensures.within in
    omega (arith, below, ap length c.deref-2.ensures.value, found_count c.args.self.now.is_summed readers c.in_ok-run.run'.lists.items c.in_ok-run.ensures.given, zip_count (IsReaderOf c.args.self.now.options.now) c.args.inputs.items readers c.in_ok-readers.ensures)

pub of-requires-clause-few : goal.of-requires-clause-few
of-requires-clause-few g c =
    let readers = c.in_ok-readers.readers.items in
    omega (arith, c.requires, found_count c.args.self.now.is_summed readers c.in_ok-run.run'.lists.items c.in_ok-run.ensures.given, zip_count (IsReaderOf c.args.self.now.options.now) c.args.inputs.items readers c.in_ok-readers.ensures)

pub of-requires-clause-totals : goal.of-requires-clause-totals
of-requires-clause-totals g c =
    let is_of = IsReaderOf c.args.self.now.options.now in
    let readers = c.in_ok-readers.readers.items in
    let lists = c.in_ok-run.run'.lists.items in
    let given = c.in_ok-run.ensures.given in
    let each = zip_all is_of (λ reader. (rest : Rest) → input_gives reader rest → IsSourceLimited rest.samples) (λ input reader of. of.limited) c.args.inputs.items readers c.in_ok-readers.ensures in
    list_totals lists (found_totals c.args.self.now.is_summed given.rests (map seen_as_rest lists) given.are_found (all_given input_gives (λ rest. IsSourceLimited rest.samples) readers given.rests each given.are_given))

pub returns-clause-reads : goal.returns-clause-reads
returns-clause-reads g c =
    let options = c.args.self.now.options.now in
    let is_summed = c.args.self.now.is_summed in
    let inputs = c.args.inputs.items in
    let readers = c.in_ok-readers.readers.items in
    let lists = c.in_ok-run.run'.lists.items in
    let given = c.in_ok-run.ensures.given in
    let out = subst (λ (lists : List ListState). All IsReadOut lists) c.deref-2.ensures.value (c.first_unreadable.ensures.none (c.in_ok-source.was ∙ ap Ok c.in_default.is)) in
    subst (λ (run : ListsState). ReadsOpen options is_summed inputs run.lists) (sym c.of.ensures) (record {
      whole = whole_read options inputs readers is_summed lists c.in_ok-readers.ensures given out;
      count = found_count is_summed readers lists given ∙ zip_count (IsReaderOf options) inputs readers c.in_ok-readers.ensures;
      unstopped = out;
    })
