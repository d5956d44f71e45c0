use Rattle.std.proofs.Common.{◌≡◌, ◌++◌, List, ℕ, drop, sym, ap, subst, ◌∙◌}
use Rattle.call_tree.proofs.NameNumbers.{IsPrefixOf-rest}
use Rattle.folded_lines.specs.Lines.{names_of}
use Rattle.folded_lines.specs.checked.Telling.{IsNumbered}
use Rattle.folded_lines.proofs.numbering.new_stack.Goals as goal

pub returns-clause-numbered : goal.returns-clause-numbered
returns-clause-numbered c =
    let frames : c.number_names.new.frames.items ≡ c.of-frames.result =
    sym (c.of-frames.ensures ∙ c.in_ok-from_slice.ensures.items ∙ c.as_slice.ensures.value) in
    subst (λ (numbers : List ℕ). IsNumbered (names_of c.args.head.now) c.args.table.now c.number_names.new.table numbers) frames c.in_ok-number_names.ensures.ok

pub returns-clause-names : goal.returns-clause-names
returns-clause-names c =
    let old : List (List ℕ) = c.args.table.now in
    let table : List (List ℕ) = c.number_names.new.table in
    IsPrefixOf-rest old table c.number_names.ensures.grows
    ∙ ap (λ n. old ++ drop n table) (sym c.len-told.ensures.count) ∙ ap (λ names. old ++ names) (sym c.in_ok-names.ensures)
