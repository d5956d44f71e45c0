use Rattle.std.proofs.Common.{◌∙◌, ◌++◌, ◌∷◌, ◌≤◌, [], ap, sym, arith, length, map, slice_index_or, string_bytes}
use Rattle.std.proofs.lemmas.List.{length-map, map_more, take_all}
use Rattle.sample_tables.specs.Rows.{name_at}
use Rattle.stack_core.specs.Records.{names_at}
use Rattle.ring_collect.proofs.row_samples.set_frames.Goals as goal

pub loop-at-preserved : goal.loop-at-preserved
loop-at-preserved c =
    let so_far = c.loop-at.invariant in
    let set = c.in_ok-set_frame.ensures in
    let told = c.args.ledger.now.told in
    let frames = c.args.frames.now in
    let at = c.loop-at.at in
    let count = set.count in
    let within = c.loop-at-test.true in
    let no_more = so_far.no_more in
    record {
      reached = omega arith;
      no_more = omega arith;
      named = set.set ∙ ap (λ names. names ++ name_at told (slice_index_or frames at 0) ∷ []) so_far.named ∙ sym (map_more (name_at told) frames at 0 within);
    }

pub returns : goal.returns
returns c =
    let names = map string_bytes c.loop-at.names.items in
    let all = c.loop-at-test.false in
    let no_more = c.loop-at.invariant.no_more in
    let few : length names ≤ c.loop-at.at = let count = length-map c.loop-at.names.items string_bytes in omega arith in
    sym (take_all c.loop-at.at names few) ∙ c.loop-at.invariant.named ∙ ap (names_at c.args.ledger.now.told) (take_all c.loop-at.at c.args.frames.now all)
