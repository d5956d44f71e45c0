use Rattle.std.proofs.Common.{◌≡◌, ◌≢◌, [], ◌∷◌, refl, map, string_bytes, sym}
use Rattle.clap.specs.Kinds.{Kinds}
use Rattle.command_line.specs.CommandLine.{command_line}
use Rattle.command_line.specs.Plans.{IsFaultAmong, fault_of}
use Rattle.command_line.specs.declared.destinations.Destination.{Destination}
use Rattle.command_line.specs.declared.plans.PlanFault.{PlanFault}
use Rattle.command_line.specs.declared.plans.PlanFault.TheVariants as fault
use Rattle.command_line.proofs.PlannedWords.{among_none}
use Rattle.command_line.proofs.destinations.asked_destination.Goals as goal

-- a fault that is no want of memory is one of some kinds
with_fault : (kinds : Kinds) (f : PlanFault) → IsFaultAmong kinds f → f ≢ fault.OutOfMemory → (clean faulty : Destination)
    → elim kinds [ [] ↦ clean | first ∷ others ↦ faulty ] ≡ faulty
with_fault [] f among other clean faulty = absurd (other (among_none f among))
with_fault (first ∷ others) f among other clean faulty = refl

pub returns-in-Err-Words : goal.returns-in-Err-Words
returns-in-Err-Words c =
    let kinds = fault_of command_line (map string_bytes c.args.words.now) in
    sym (with_fault kinds c.in-Err-Words.field-0 c.in-Err-Words.ensures.refused (λ memory. cc) _ _)

pub returns : goal.returns
returns c =
    let kinds = fault_of command_line (map string_bytes c.args.words.now) in
    sym (with_fault kinds c.in-Err-Help.field-0 c.in-Err-Help.ensures.refused (λ memory. cc) _ _)
