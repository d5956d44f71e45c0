-- Whether functions grew over a limit, by the line that names them.
use Rattle.std.proofs.Common.{◌≡◌, ◌≢◌, ◌∙◌, ℕ, Bool, true, false, not, true≢false, List, [], ◌∷◌, length, Option, Some, None, Result, Ok, Err, IfOk, ap, arith, refl, sym}
use Rattle.std.proofs.lemmas.Bool.{ne_eqb}
use Rattle.std.specs.Prelude.{◌==◌, IsSome}
use Rattle.sample_tables.specs.declared.samples.Sample.{Sample}
use Rattle.stack_core.specs.Interleaving.{list_of}
use Rattle.run_options.specs.declared.formats.Format.{Format}
use Rattle.command_line.specs.Plans.{limit_of}
use Rattle.command_line.specs.declared.plans.Plan.{Plan}
use Rattle.command_line.specs.declared.plans.View.{View}
use Rattle.command_line.specs.declared.plans.View.TheVariants.{Fold, Graph, Chart, Pairs, PairBoxes, Top, Diff}
use Rattle.source_views.specs.declared.failures.Failure.{Failure}
use Rattle.source_views.specs.Texts.{grown_names, grown_over, growth_line, limit_line, order_of}
use Rattle.flame_tool.specs.Runs.{wanted_lists}
use Rattle.flame_tool.specs.checked.Failures.{TellsGrowth}

-- something is said
abbrev pub is_said : List ℕ → Bool
is_said line = not (length line == 0)

abbrev is_cons : {A : Type 0} → List A → Bool
is_cons [] = false
is_cons (x ∷ xs) = true

said_is_cons : (line : List ℕ) → is_said line ≡ is_cons line
said_is_cons [] = refl
said_is_cons (x ∷ xs) = ap not (ne_eqb (length (x ∷ xs)) 0 (λ is. omega arith))

-- a line that is not empty comes of a limit, and of names
said_of_limit : (limit : Option ℕ) (names : List (List ℕ)) → is_said (limit_line limit names) ≡ true → IsSome limit
said_of_limit None names says = absurd (true≢false (sym says))
said_of_limit (Some points) names says = refl

said_of_names : (limit : Option ℕ) (names : List (List ℕ)) → is_said (limit_line limit names) ≡ true → names ≢ []
said_of_names None names says = absurd (true≢false (sym says))
said_of_names (Some points) [] says = absurd (true≢false (sym says))
said_of_names (Some points) (name ∷ names) says = λ none. absurd (true≢false (ap is_cons none))

-- and an empty one of none
unsaid_names : (limit : Option ℕ) (names : List (List ℕ)) → (limit ≡ None → names ≡ []) → is_said (limit_line limit names) ≡ false → names ≡ []
unsaid_names None names none says = none refl
unsaid_names (Some points) [] none says = refl
unsaid_names (Some points) (name ∷ names) none says = absurd (true≢false (sym (said_is_cons (limit_line (Some points) (name ∷ names))) ∙ says))

-- without a limit nothing grows over it
no_limit : (view : View) (lists : List (List Sample)) → limit_of view ≡ None → grown_names view lists ≡ []
no_limit Fold lists none = refl
no_limit (Graph width) lists none = refl
no_limit (Chart width) lists none = refl
no_limit Pairs lists none = refl
no_limit (PairBoxes width) lists none = refl
no_limit (Top top) lists none = refl
no_limit (Diff diff) lists none =
    ap (λ limit. grown_over limit (order_of diff (list_of lists 0) (list_of lists 1)) (list_of lists 0) (list_of lists 1)) none

pub limit_said : (view : View) (lists : List (List Sample)) (line : List ℕ) (is_over : Bool) → line ≡ growth_line view lists → is_over ≡ is_said line → is_over ≡ true → IsSome (limit_of view)
limit_said view lists line is_over is says over = said_of_limit (limit_of view) (grown_names view lists) (sym (says ∙ ap is_said is) ∙ over)

-- the same of what a run answers
pub limit_told : (view : View) (lists : List (List Sample)) (result : Result Bool Failure) → IfOk result (λ is_over. is_over ≡ is_said (growth_line view lists))
    → IfOk result (λ is_over. is_over ≡ true → IsSome (limit_of view))
limit_told view lists (Ok is_over) says = limit_said view lists (growth_line view lists) is_over refl says
limit_told view lists (Err failure) says = tt

pub tells_growth : (plan : Plan) (sources : List (Format × List ℕ)) (line : List ℕ) (is_over : Bool) → line ≡ growth_line plan.view (wanted_lists plan sources) → is_over ≡ is_said line → TellsGrowth is_over plan sources
tells_growth plan sources line true is says = said_of_names (limit_of plan.view) (grown_names plan.view (wanted_lists plan sources)) (sym (says ∙ ap is_said is))
tells_growth plan sources line false is says = λ samples. unsaid_names (limit_of plan.view) (grown_names plan.view (wanted_lists plan sources)) (no_limit plan.view (wanted_lists plan sources)) (sym (says ∙ ap is_said is))
