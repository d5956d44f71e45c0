-- Worked examples of runs over known files, computed on the definitions.
use Rattle.std.proofs.Common.{◌≡◌, ℕ, List, [], ◌∷◌, codes, refl, Option, Some, None, option_map}
use Rattle.std.specs.Prelude.{Bool, true, false, if◌then◌else◌, option_and_then}
use Rattle.std.specs.Fmt.{digits}
use Rattle.std.specs.Str.{bytes_eq}
use Rattle.clap.proofs.OnLiterals.{clap_on_literals}
use Rattle.call_tree.specs.PathSums.{total_of, own_of}
use Rattle.clap.specs.Walk.{Text}
use Rattle.stack_core.specs.Reading.{Rest}
use Rattle.folded_lines.proofs.Computing.{computing}
use Rattle.merged_stacks.specs.Merged.{merged, stacks_of, sum_at}
use Rattle.flame_tool.specs.Facts.{told_whole}
use Rattle.flame_tool.specs.KnownFacts.{facts_of, known_sources, wanted_rests}
use Rattle.flame_tool.specs.Requests.{asked_plan}
use Rattle.flame_tool.specs.Runs.{wanted_lists}
use Rattle.flame_tool.specs.StrictRuns.{has_strict_fault}
use Rattle.source_views.specs.Texts.{view_text}

-- three files, of which one is named as a profile and is none
abbrev two_files : List ℕ → Option (List ℕ)
two_files path =
    if bytes_eq path (codes "x") then Some (codes "a 1\n")
    else (if bytes_eq path (codes "y") then Some (codes "b 4\na 2\n")
    else (if bytes_eq path (codes "z.pb") then Some (codes "a 1\n") else None))

abbrev rests_asked : List Text → Option (List ℕ) → Option (List Rest)
rests_asked words input = option_and_then (λ plan. option_map (wanted_rests plan) (known_sources plan input two_files)) (asked_plan words)

-- the text that words ask for, where no order is left in it
abbrev text_asked : List Text → Option (List ℕ) → Option (List ℕ)
text_asked words input =
    option_and_then (λ plan. option_map (λ sources. view_text plan.view (wanted_lists plan sources) [] None) (known_sources plan input two_files)) (asked_plan words)

-- what the words let a text tell of the weight of all samples
abbrev whole_asked : List Text → Option (List ℕ) → Option ℕ
whole_asked words input =
    option_and_then (λ plan. option_and_then (λ sources. told_whole plan (facts_of plan.options sources)) (known_sources plan input two_files)) (asked_plan words)

-- it is that of all samples, whatever a filter keeps
whole_of_the_focus : whole_asked (codes "top" ∷ codes "--focus" ∷ codes "b" ∷ codes "y" ∷ codes "x" ∷ []) None ≡ Some 7
unfolding clap_on_literals computing digits
whole_of_the_focus = refl

whole_from_a_name : whole_asked (codes "top" ∷ codes "--from" ∷ codes "b" ∷ codes "y" ∷ codes "x" ∷ []) None ≡ Some 7
unfolding clap_on_literals computing digits
whole_from_a_name = refl

whole_of_everything : whole_asked (codes "top" ∷ codes "y" ∷ []) None ≡ None
unfolding clap_on_literals computing digits
whole_of_everything = refl

fold_of_two : text_asked (codes "fold" ∷ codes "y" ∷ codes "x" ∷ []) None ≡ Some (codes "a 3\nb 4\n")
unfolding clap_on_literals merged stacks_of sum_at computing digits
fold_of_two = refl

-- a file twice is read twice
fold_of_one_twice : text_asked (codes "fold" ∷ codes "x" ∷ codes "x" ∷ []) None ≡ Some (codes "a 2\n")
unfolding clap_on_literals merged stacks_of sum_at computing digits
fold_of_one_twice = refl

compared : text_asked (codes "compare" ∷ codes "x" ∷ codes "y" ∷ []) None ≡ Some (codes "a 1 2\nb 0 4\n")
unfolding clap_on_literals computing digits total_of own_of
compared = refl

compared_in_reverse : text_asked (codes "compare" ∷ codes "y" ∷ codes "x" ∷ []) None ≡ Some (codes "a 2 1\nb 4 0\n")
unfolding clap_on_literals computing digits total_of own_of
compared_in_reverse = refl

-- without words, and without files, the input
folded_input : text_asked [] (Some (codes "a;b 2\na 1\na;b 3\n")) ≡ Some (codes "a 1\na;b 5\n")
unfolding clap_on_literals merged stacks_of sum_at computing digits
folded_input = refl

fold_of_the_input : text_asked (codes "fold" ∷ []) (Some (codes "a 1\n")) ≡ Some (codes "a 1\n")
unfolding clap_on_literals merged stacks_of sum_at computing digits
fold_of_the_input = refl

-- a format that is asked for is that of each file
folded_whatever_the_name : text_asked (codes "fold" ∷ codes "--format" ∷ codes "folded" ∷ codes "z.pb" ∷ []) None ≡ Some (codes "a 1\n")
unfolding clap_on_literals merged stacks_of sum_at computing digits
folded_whatever_the_name = refl

-- what is not in the focus, or is hidden, is left out of each file
fold_of_the_focus : text_asked (codes "fold" ∷ codes "--focus" ∷ codes "a" ∷ codes "y" ∷ codes "x" ∷ []) None ≡ Some (codes "a 3\n")
unfolding clap_on_literals merged stacks_of sum_at computing digits
fold_of_the_focus = refl

fold_of_the_rest : text_asked (codes "fold" ∷ codes "--hide=a" ∷ codes "y" ∷ codes "x" ∷ []) None ≡ Some (codes "b 4\n")
unfolding clap_on_literals merged stacks_of sum_at computing digits
fold_of_the_rest = refl

nothing_in_focus : text_asked (codes "fold" ∷ codes "--focus" ∷ codes "c" ∷ []) (Some (codes "a 1\n")) ≡ Some []
unfolding clap_on_literals merged stacks_of sum_at computing digits
nothing_in_focus = refl

-- each stack begins at its first frame of a name, and samples without one are left out; a filter sees the whole stack
fold_from_a_name : text_asked (codes "fold" ∷ codes "--from" ∷ codes "b" ∷ []) (Some (codes "a;b;c 2\nd;b;c 1\na 4\nb;b 3\n")) ≡ Some (codes "b;b 3\nb;c 3\n")
unfolding clap_on_literals merged stacks_of sum_at computing digits
fold_from_a_name = refl

fold_from_in_focus : text_asked (codes "fold" ∷ codes "--from=b" ∷ codes "--focus=d" ∷ []) (Some (codes "a;b;c 2\nd;b;c 1\n")) ≡ Some (codes "b;c 1\n")
unfolding clap_on_literals merged stacks_of sum_at computing digits
fold_from_in_focus = refl

compared_from_a_name : text_asked (codes "compare" ∷ codes "--from" ∷ codes "a" ∷ codes "x" ∷ codes "y" ∷ []) None ≡ Some (codes "a 1 2\n")
unfolding clap_on_literals computing digits total_of own_of
compared_from_a_name = refl

-- the frames of names are taken out of what is left of each stack, and each sample stays
fold_without_a_name : text_asked (codes "fold" ∷ codes "--omit" ∷ codes "b" ∷ []) (Some (codes "a;b;c 2\nb;a;c 1\nb;b 4\n")) ≡ Some (codes " 4\na;c 3\n")
unfolding clap_on_literals merged stacks_of sum_at computing digits
fold_without_a_name = refl

fold_without_where_it_begins : text_asked (codes "fold" ∷ codes "--from=b" ∷ codes "--omit=b" ∷ codes "--omit=c" ∷ codes "--focus=b" ∷ []) (Some (codes "a;b;c;d 2\nd;b;d 1\na 4\n")) ≡ Some (codes "d 3\n")
unfolding clap_on_literals merged stacks_of sum_at computing digits
fold_without_where_it_begins = refl

-- which leaves out no sample
whole_without_a_name : whole_asked (codes "top" ∷ codes "--omit" ∷ codes "a" ∷ codes "y" ∷ []) None ≡ None
unfolding clap_on_literals computing digits
whole_without_a_name = refl

-- nothing is known of a run where a file or the input is not known
unknown_file : rests_asked (codes "fold" ∷ codes "x" ∷ codes "z" ∷ []) (Some (codes "a 1\n")) ≡ None
unfolding clap_on_literals computing
unknown_file = refl

unknown_input : rests_asked [] None ≡ None
unknown_input = refl

-- whether words ask strictly, of which sources one has an ignored line, a fault or no sample
abbrev refused_strictly : List Text → Option (List ℕ) → Option Bool
refused_strictly words input =
    option_and_then (λ plan. if plan.is_strict then option_map (has_strict_fault plan.options) (known_sources plan input two_files) else None) (asked_plan words)

strict_whole_files : refused_strictly (codes "fold" ∷ codes "--strict" ∷ codes "x" ∷ codes "y" ∷ []) None ≡ Some false
unfolding clap_on_literals computing
strict_whole_files = refl

strict_ignored_line : refused_strictly (codes "fold" ∷ codes "--strict" ∷ []) (Some (codes "a 1\nb\n")) ≡ Some true
unfolding clap_on_literals computing
strict_ignored_line = refl

strict_empty_input : refused_strictly (codes "fold" ∷ codes "--strict" ∷ codes "--hide" ∷ codes "x" ∷ []) (Some []) ≡ Some true
unfolding clap_on_literals computing
strict_empty_input = refl

not_strict : refused_strictly (codes "fold" ∷ []) (Some []) ≡ None
unfolding clap_on_literals computing
not_strict = refl
