-- Heads that are known stay told while more is told.
use Rattle.std.proofs.Common.{◌≡◌, ℕ, ◌<◌, ◌≤◌, ◌+◌, cond, List, [], ◌++◌, length, Option, Some, None, sym, ap, subst, ◌∙◌, arith, All, length-append}
use Rattle.std.proofs.lemmas.Bool.{le-ltb}
use Rattle.std.proofs.lemmas.List.{get_or_append_left}
use Rattle.stack_core.specs.Prefixes.{IsPrefixOf}
use Rattle.stack_core.specs.Records.{names_at}
use Rattle.stack_core.specs.RowReading.{sample_by}
use Rattle.stack_core.specs.declared.endings.ReadKind.{ReadKind}
use Rattle.stack_core.specs.declared.endings.ReadKind.TheVariants.{TotalTooLarge}
use Rattle.sample_tables.specs.Rows.{ToldRows, stack_at}
use Rattle.sample_tables.specs.declared.samples.TheConstants.{WEIGHT_LIMIT}
use Rattle.call_tree.proofs.NameNumbers.{numbers-longer, names_at-longer}
use Rattle.folded_lines.specs.Lines.{names_of}
use Rattle.folded_lines.specs.Line.{Line}
use Rattle.folded_lines.specs.Line.{Fault, Sample}
use Rattle.folded_lines.specs.checked.RowLines.{line_of_head}
use Rattle.folded_lines.specs.checked.Scanning.{within_total}
use Rattle.folded_lines.specs.checked.Telling.{IsToldAs}

-- a row keeps its stack, and the stack its names
pub IsToldAs-later : (told told' : ToldRows) (head : List ℕ) (row : ℕ) (more : List (List ℕ)) → IsPrefixOf told.names told'.names → told'.stacks ≡ told.stacks ++ more
    → IsToldAs told head row → IsToldAs told' head row
IsToldAs-later told told' head row more names stacks was =
    let same : stack_at told'.stacks row ≡ stack_at told.stacks row = ap (λ all. stack_at all row) stacks ∙ get_or_append_left told.stacks more [] row was.known in
    record {
      known = omega (arith, was.known, ap length stacks, length-append told.stacks more);
      numbers = subst (λ (frames : List ℕ). All (λ k. k < length told'.names) frames) (sym same) (numbers-longer told.names told'.names (stack_at told.stacks row) names was.numbers);
      named = ap (names_at told'.names) same ∙ names_at-longer told.names told'.names (stack_at told.stacks row) names was.numbers ∙ was.named;
      faultless = was.faultless;
    }

-- its row and a weight are the line of the head
pub line-known : (told : ToldRows) (head : List ℕ) (row weight total : ℕ) → IsToldAs told head row → total + weight ≤ WEIGHT_LIMIT
    → Sample (sample_by told.names (stack_at told.stacks row) weight) ≡ within_total total (line_of_head head weight)
line-known told head row weight total is fits =
    let sample : List (List ℕ) → Line = λ stack. Sample (record { stack = stack; weight = weight }) in
    let judged : Option ReadKind → Line = λ fault. elim fault [ None ↦ sample (names_of head) | Some kind ↦ Fault kind ] in
    ap sample is.named
    ∙ sym (ap (λ fault. within_total total (judged fault)) is.faultless ∙ ap (λ b. cond b (Fault TotalTooLarge) (sample (names_of head))) (le-ltb WEIGHT_LIMIT (total + weight) fits))
