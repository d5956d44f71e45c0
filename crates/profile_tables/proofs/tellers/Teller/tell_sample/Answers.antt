use Rattle.std.proofs.Common.{◌≡◌, ℕ, List, Option, Some, None, Ok, sym, subst}
use Rattle.std.specs.Prelude.{option_map, IfSome}
use Rattle.profile_tables.specs.declared.fronts.Front.{Front}
use Rattle.profile_messages.specs.Message.{first}
use Rattle.profile_tables.specs.Samples.{SampleTables, sample_faults, location_ids}
use Rattle.profile_tables.specs.checked.Fronts.{IsFront}
use Rattle.profile_messages.specs.Offsets.{content_at}
use Rattle.profile_tables.specs.checked.Outcome.{IsChecked}
use Rattle.profile_tables.specs.checked.SeenOutline.{seen_outline}
use Rattle.profile_tables.specs.checked.Tellers.{IsRunOf}
use Rattle.profile_tables.proofs.StepLemmas.{ids-known, depth-limit, run-of-front}
use Rattle.profile_tables.proofs.tellers.Teller.tell_sample.Goals as goal

run-of : (file : List ℕ) (at : ℕ) (tables : SampleTables) (front : Option Front) (total : ℕ) (ids : List ℕ) → IfSome front (λ front. IsFront file at tables front.run front.weight) → first (sample_faults tables total (content_at file at)) ≡ None → ids ≡ location_ids (content_at file at) → IfSome (option_map (λ (front : Front). front.run) front) (IsRunOf file ids)
run-of file at tables None total ids front none is = tt
run-of file at tables (Some it) total ids front none is = run-of-front file at tables it.run it.weight total ids front none is

checked : (c : goal.After-sample-in-Ok-1) → IsChecked (seen_outline c.args.outline.now) c.args.total (content_at c.args.file.now c.args.at) (Ok c.in-Ok.sample)
checked c =
    subst (λ (bytes : List ℕ). IsChecked (seen_outline c.args.outline.now) c.args.total bytes (Ok c.in-Ok.sample)) c.content_at.ensures
    (subst (λ outcome. IsChecked (seen_outline c.args.outline.now) c.args.total c.content_at.result.now outcome) c.in-Ok.is c.in_ok-sample.ensures)

pub tell-requires-clause-known : goal.tell-requires-clause-known
tell-requires-clause-known c = ids-known (seen_outline c.args.outline.now) c.args.total (content_at c.args.file.now c.args.at) c.in-Ok.sample.ids.items (checked c).0 (checked c).1

pub tell-requires-clause-depth : goal.tell-requires-clause-depth
tell-requires-clause-depth c = depth-limit (seen_outline c.args.outline.now) c.args.total (content_at c.args.file.now c.args.at) c.in-Ok.sample.ids.items (checked c).0 (checked c).1

pub tell-requires-clause-run : goal.tell-requires-clause-run
tell-requires-clause-run c =
    subst (λ run. IfSome run (IsRunOf c.args.file.now c.in-Ok.sample.ids.items)) (sym c.run_of-run.ensures)
    (run-of c.args.file.now c.args.at (seen_outline c.args.outline.now) c.args.front c.args.total c.in-Ok.sample.ids.items c.requires.front (checked c).0 (checked c).1)
