-- What is told of the sources of a run is what their bytes say of their endings.
use Rattle.std.proofs.Common.{◌≡◌, ◌∙◌, ◌++◌, ◌+◌, ◌<◌, ℕ, take, get_or, length, length-take-le, Bool, List, Option, map, ap, arith, refl, subst, sym, true, false}
use Rattle.command_line.specs.declared.plans.Plan.{Plan}
use Rattle.std.proofs.lemmas.Bool.{true≢false}
use Rattle.std.proofs.lemmas.List.{take_more}
use Rattle.std.specs.List.{AllZip}
use Rattle.stack_core.specs.Ledgers.{ListState}
use Rattle.run_options.specs.declared.formats.Format.{Format}
use Rattle.ring_collect.specs.Collection.{seen_as_rest}
use Rattle.source_lists.specs.Sources.{asked_rests}
use Rattle.source_views.specs.Messages.{said_of_each}
use Rattle.source_views.proofs.MessageTexts.{said_of_more, said_of_seen}
use Rattle.flame_tool.specs.checked.SummedPlans.{is_summed}
use Rattle.source_lists.specs.Summing.{IsFound}
use Rattle.flame_tool.specs.checked.Saying.{TellsEndings}
use Rattle.flame_tool.proofs.FoundSources.{endings_found}

-- what was told of lists was told of what was read
pub told_of_read : (plan : Plan) (sources : List (Format × List ℕ)) (lists told : List ListState) (old new : Option (List ℕ)) (before after : ℕ) → AllZip (IsFound (is_summed plan)) (asked_rests plan.options sources) (map seen_as_rest lists) → told ≡ lists
    → TellsEndings plan.files old new before after (map (λ list. list.ending) told) → TellsEndings plan.files old new before after (map (λ rest. rest.ending) (asked_rests plan.options sources))
told_of_read plan sources lists told old new before after found is tells =
    subst (TellsEndings plan.files old new before after) (ap (map (λ list. list.ending)) is ∙ endings_found (is_summed plan) (asked_rests plan.options sources) lists found) tells

-- of one of a list more
pub said_of_first : {A : Type 0} (say : ℕ → A → List ℕ) (xs : List A) (at : ℕ) (none : A) → at < length xs → said_of_each say 0 (take (at + 1) xs) ≡ said_of_each say 0 (take at xs) ++ say at (get_or xs at none)
said_of_first say xs at none less =
    let before = take at xs in
    let long : 0 + length before ≡ at = omega (arith, length-take-le at xs (omega (arith, less))) in
    ap (said_of_each say 0) (take_more xs at none less) ∙ said_of_more say 0 before (get_or xs at none) ∙ ap (λ place. said_of_each say 0 before ++ say place (get_or xs at none)) long

-- the same of what it is seen as
pub said_of_taken : {A B : Type 0} (say : ℕ → B → List ℕ) (see : A → B) (xs : List A) (at : ℕ) (none : A) → at < length xs
    → said_of_each say 0 (map see (take (at + 1) xs)) ≡ said_of_each say 0 (map see (take at xs)) ++ say at (see (get_or xs at none))
said_of_taken say see xs at none less =
    said_of_seen say see 0 (take (at + 1) xs) ∙ said_of_first (λ at x. say at (see x)) xs at none less ∙ ap (λ text. text ++ say at (see (get_or xs at none))) (sym (said_of_seen say see 0 (take at xs)))

-- nothing may be a terminal
pub is_none : (is_terminal may_be : Bool) → (is_terminal ≡ true → may_be ≡ true) → may_be ≡ false → is_terminal ≡ false
is_none true may_be told none = absurd (true≢false (sym (told refl) ∙ none))
is_none false may_be told none = refl
