use Rattle.std.proofs.Common.{◌≡◌, ◌∙◌, Some, arith, refl, sym}
use Rattle.std.proofs.lemmas.Result.{IfOk-weaker}
use Rattle.folded_lines.specs.Reading.{read_folded}
use Rattle.folded_lines.specs.State as folded
use Rattle.profile_tables.specs.Samples.{read_pprof}
use Rattle.profile_tables.specs.State as pprof
use Rattle.source_lists.specs.Sources.{read_bytes, whole_rest}
use Rattle.source_lists.specs.checked.InputReaders.{of_folded, of_pprof}
use Rattle.source_lists.specs.checked.PartRuns.{AreOfParts}
use Rattle.source_lists.proofs.PartLemmas.{known_readers, limited_bytes}
use Rattle.source_lists.proofs.part_runs.loaded_readers.Goals as goal

pub returns-in_ok-parts-in-Folded : goal.returns-in_ok-parts-in-Folded
returns-in_ok-parts-in-Folded c =
    let options = c.args.options.now in
    let source = c.args.source.now in
    let parts = c.in_ok-parts-in-Folded in
    let same : whole_rest options source ≡ read_folded c.in_ok-bytes.bytes =
    λ i. read_bytes ((sym c.format.ensures ∙ c.in-Folded.is) i) ((sym c.bytes.ensures ∙ sym c.in_ok-bytes.ensures.cases) i) options.pick options.naming in
    IfOk-weaker c.as_inputs.result _ (λ readers. AreOfParts (Some (whole_rest options source)) readers.items)
    (λ readers zip. known_readers of_folded (λ (reader : folded.State). reader.rest) (λ reader rest is. is) (λ reader. refl) (whole_rest options source) _ parts.field-0.items readers.items zip
    (omega (arith, parts.ensures.count, c.reader_count-count.ensures.few)) parts.ensures.told same parts.ensures.parts (limited_bytes source.0 source.1 options.pick options.naming)) c.as_inputs.ensures

pub returns-in_ok-parts-in-Pprof : goal.returns-in_ok-parts-in-Pprof
returns-in_ok-parts-in-Pprof c =
    let options = c.args.options.now in
    let source = c.args.source.now in
    let parts = c.in_ok-parts-in-Pprof in
    let same : whole_rest options source ≡ read_pprof c.in_ok-bytes.bytes options.pick options.naming =
    λ i. read_bytes ((sym c.format.ensures ∙ c.in-Pprof.is) i) ((sym c.bytes.ensures ∙ sym c.in_ok-bytes.ensures.cases) i) options.pick options.naming in
    IfOk-weaker c.as_inputs-in-Pprof.result _ (λ readers. AreOfParts (Some (whole_rest options source)) readers.items)
    (λ readers zip. known_readers of_pprof (λ (reader : pprof.State). reader.rest) (λ reader rest is. is) (λ reader. refl) (whole_rest options source) _ parts.field-0.items readers.items zip
    (omega (arith, parts.ensures.few, c.reader_count-count.ensures.few)) parts.ensures.told same parts.ensures.parts (limited_bytes source.0 source.1 options.pick options.naming)) c.as_inputs-in-Pprof.ensures
