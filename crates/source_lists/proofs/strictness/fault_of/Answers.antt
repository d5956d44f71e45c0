use Rattle.std.proofs.Common.{◌≡◌, ◌∙◌, List, subst, sym, ℕ}
use Rattle.run_options.specs.declared.formats.Format.{Format}
use Rattle.run_options.specs.declared.formats.Format.TheVariants.{Pprof}
use Rattle.source_lists.specs.Sources.{read_bytes}
use Rattle.source_lists.specs.Strictness.{strict_fault_in}
use Rattle.source_lists.proofs.strictness.fault_of.Goals as goal

pub returns-in-Pprof : goal.returns-in-Pprof
returns-in-Pprof c = λ options.
    let ending = c.args.ending.now in
    let found = c.fault_of_profile.result in
    subst (λ (format : Format). ending ≡ (read_bytes format c.args.source.now.1 options.pick options.naming).ending → found ≡ strict_fault_in format c.args.source.now.1 options.pick options.naming) (sym c.in-Pprof.is ∙ c.format.ensures)
    (subst (λ (bytes : List ℕ). ending ≡ (read_bytes Pprof bytes options.pick options.naming).ending → found ≡ strict_fault_in Pprof bytes options.pick options.naming) (c.as_slice-bytes.ensures ∙ c.bytes.ensures)
    (c.fault_of_profile.ensures options.pick options.naming))
