use denote.Param.Send.{sendable}
use Rattle.std.proofs.Common.{List, map, subst}
use Rattle.std.specs.Prelude.{option_map}
use Rattle.stack_core.specs.Ledgers.{ListState}
use Rattle.ring_collect.specs.Collection.{seen_as_rest}
use Rattle.source_lists.specs.Sources.{known_input, whole_rest}
use Rattle.source_lists.specs.checked.PartRuns.{AreOfParts}
use Rattle.source_lists.specs.checked.Parts.{AreCleanParts}
use Rattle.source_lists.proofs.PartLemmas.{parts_found}
use Rattle.source_lists.proofs.ReaderThreads.{input_send}
use Rattle.source_lists.proofs.runners.Runner.read_parts.Goals as goal

pub run_open-requires-send-R : goal.run_open-requires-send-R
run_open-requires-send-R g c = search (sendable, input_send) depth 30

pub returns-in-Some-ignored_by_clean-clause-parts : goal.returns-in-Some-ignored_by_clean-clause-parts
returns-in-Some-ignored_by_clean-clause-parts g c =
    let whole = option_map (whole_rest c.args.self.now.options.now) (known_input c.args.input.now) in
    let of : AreOfParts whole c.in-Some.readers.items = rw c.in-Some.is at c.in_ok-readers.ensures in
    parts_found c.args.self.now.is_summed whole c.in-Some.readers.items (map seen_as_rest c.in-Ok.run'.lists.items) c.in-Some-ignored_by_clean.ignored of c.in-Ok.ensures.given
    (subst (λ (lists : List ListState). AreCleanParts (map seen_as_rest lists) c.in-Some-ignored_by_clean.ignored) c.deref.ensures.value c.in-Some-ignored_by_clean.ensures)
