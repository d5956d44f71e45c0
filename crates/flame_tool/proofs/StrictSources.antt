-- Sources without a strict fault have no fault.
use Rattle.std.proofs.Common.{◌≡◌, ℕ, List, [], ◌∷◌, length, Option, Some, None, ap, refl, false, ◌||◌}
use Rattle.std.proofs.lemmas.Bool.{or_parts}
use Rattle.std.specs.Prelude.{is_some}
use Rattle.std.specs.List.{list_any}
use Rattle.stack_core.specs.Reading.{Rest}
use Rattle.stack_core.specs.declared.endings.SourceEnd.{SourceEnd}
use Rattle.stack_core.specs.declared.endings.SourceEnd.TheVariants as ends
use Rattle.sample_tables.specs.declared.samples.Sample.{Sample}
use Rattle.folded_lines.proofs.StrictLemmas.{accepted}
use Rattle.run_options.specs.declared.formats.Format.{Format}
use Rattle.run_options.specs.declared.formats.Format.TheVariants.{Folded, Pprof}
use Rattle.run_options.specs.declared.options.Options.{Options}
use Rattle.profile_tables.specs.Samples.{read_pprof}
use Rattle.source_lists.specs.Sources.{asked_rest, asked_rests}
use Rattle.source_lists.specs.Strictness.{fault_of_rest, source_fault}
use Rattle.source_views.specs.Failures.{ends_in_fault}
use Rattle.flame_tool.specs.StrictRuns.{has_strict_fault}

pub none_of : {A : Type 0} (found : Option A) → is_some found ≡ false → found ≡ None
none_of None none = refl
none_of (Some x) none = cc

clean_profile : (at : ℕ) (ending : SourceEnd) (samples : List Sample) → fault_of_rest at (record { samples = samples; ending = ending }) ≡ None → ends_in_fault ending ≡ false
clean_profile at (ends.Clean ignored) samples none = refl
clean_profile at (ends.Fault fault) samples none = cc
clean_profile at (ends.Stopped after) samples none = refl

clean_source : (options : Options) (source : Format × List ℕ) → source_fault options source ≡ None → ends_in_fault (asked_rest options source.0 source.1).ending ≡ false
clean_source options (Folded, bytes) none = ap ends_in_fault (accepted bytes none).1
clean_source options (Pprof, bytes) none =
    let rest = read_pprof bytes options.pick options.naming in
    clean_profile (length bytes) rest.ending rest.samples none

pub clean_sources : (options : Options) (sources : List (Format × List ℕ)) → has_strict_fault options sources ≡ false → list_any (λ (rest : Rest). ends_in_fault rest.ending) (asked_rests options sources) ≡ false
clean_sources options [] none = refl
clean_sources options (source ∷ sources) none =
    let both = or_parts (is_some (source_fault options source)) (has_strict_fault options sources) none in
    (λ i. clean_source options source (none_of (source_fault options source) both.0) i || clean_sources options sources both.1 i)
