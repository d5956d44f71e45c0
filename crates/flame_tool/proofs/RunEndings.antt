-- How a run ends, by its words and by its plan.
use Rattle.std.proofs.Common.{◌≡◌, ◌<◌, ◌⊎◌, inl, inr, ℕ, zero, suc, get_or, List, [], ◌∷◌, map, length, Option, Some, None, IfSome, true, ap, sym, ◌∙◌, subst, refl, arith, take, append-nil}
use Rattle.std.specs.Prelude.{IsSomeAnd}
use Rattle.std.specs.Io.KnownBytes.{Appends, Keeps}
use Rattle.std.proofs.lemmas.Option.{same_Some}
use Rattle.clap.specs.Kinds.{Kinds}
use Rattle.clap.specs.Walk.{Text}
use Rattle.stack_core.specs.Reading.{Rest}
use Rattle.sample_tables.specs.declared.samples.Sample.{Sample}
use Rattle.command_line.specs.CommandLine.{command_line}
use Rattle.folded_lines.specs.Reading.{read_folded}
use Rattle.run_options.specs.Filters.{everything, kept_rest}
use Rattle.run_options.proofs.FilterLemmas.{all_is_kept}
use Rattle.function_sums.specs.declared.call_sides.CallSide.TheVariants.{Callers, Callees}
use Rattle.merging.specs.Sums.{all_samples}
use Rattle.view_texts.specs.Fold.{fold_text}
use Rattle.command_line.specs.Plans.{default_plan, fault_of}
use Rattle.command_line.specs.declared.plans.Form.{Form}
use Rattle.command_line.specs.declared.plans.Form.TheVariants as form
use Rattle.command_line.specs.declared.plans.Plan.{Plan}
use Rattle.command_line.specs.declared.plans.View.{View}
use Rattle.command_line.specs.declared.plans.View.TheVariants.{Fold, Graph, Chart, Pairs, PairBoxes, Top, Diff}
use Rattle.function_sums.specs.Told.{Told}
use Rattle.flame_tool.specs.declared.run_facts.RunFacts.{RunFacts}
use Rattle.source_lists.specs.OmittedNames.{rest_without, shown_rests}
use Rattle.source_lists.proofs.CutLemmas.{shown_whole}
use Rattle.flame_tool.specs.KnownFacts.{facts_of, known_sources}
use Rattle.run_options.specs.declared.formats.Format.{Format}
use Rattle.flame_tool.specs.checked.Telling.{form_tells, view_tells}
use Rattle.flame_tool.specs.Requests.{asked_faults, asked_plan}
use Rattle.flame_tool.specs.Pages.{called_text, page_text, peeked_text, picture_text, shown_text, text_in, told_in}
use Rattle.source_views.specs.Texts.{IsOrderless, told_text, view_text}
use Rattle.flame_tool.specs.StrictRuns.{HasPlainFault}
use Rattle.flame_tool.specs.Runs.{lists_of, wanted_lists, text_of, GainsFront, IsClean, IsFault, Shows, ShowsFront, ShowsSamples, IsOfSamples}

-- ---- a text without snapshots

module _ (told : Told) (lists : List (List Sample)) (order : List ℕ) (every : Option ℕ) where
  pub orderless : (view : View) → IsOrderless view every → told_text told view lists order every ≡ told_text told view lists [] None
  orderless Fold is = refl
  orderless (Graph width) is = ap (view_text (Graph width) lists order) is
  orderless (Chart width) is = refl
  orderless Pairs is = refl
  orderless (PairBoxes width) is = refl
  orderless (Top top) is = refl
  orderless (Diff table) is = refl

-- a text that says nothing but what the samples are
pub plainly : (told : Told) (lists : List (List Sample)) (view : View) → IsOfSamples view → told_text told view lists [] None ≡ view_text view lists [] None
plainly told lists Fold tells = refl
plainly told lists (Graph width) tells = refl
plainly told lists (Chart width) tells = refl
plainly told lists Pairs tells = refl
plainly told lists (PairBoxes width) tells = refl
plainly told lists (Top top) tells = absurd tells
plainly told lists (Diff table) tells = absurd tells

-- what was shown in a form whose text has no order of the samples
pub form_exactly : (plan : Plan) (old new : Option (List ℕ)) (written : Form) (text : RunFacts → List (List Sample) → List ℕ) → ShowsSamples written
    → ((facts : RunFacts) (lists : List (List Sample)) (order : List ℕ) → text_in written plan facts lists order plan.options.every ≡ text facts lists)
    → (known : Option (List (Format × List ℕ))) → IfSome known (Shows plan old new) → plan.form ≡ written
    → IfSome known (λ sources. Appends old new (text (facts_of plan.options sources) (wanted_lists plan sources)))
form_exactly plan old new written text samples told_as None shows is = tt
form_exactly plan old new written text samples told_as (Some sources) shows is =
    let facts = facts_of plan.options sources in
    let lists = wanted_lists plan sources in
    let shown = shows (subst ShowsSamples (sym is) samples) in
    subst (Appends old new) (shown.1.text_is ∙ ap (λ (form : Form). text_in form plan facts lists shown.1.order plan.options.every) is ∙ told_as facts lists shown.1.order) shown.2

-- what tells no types is the same whatever they are
pub same_shown : (plan : Plan) (one other : RunFacts) (lists : List (List Sample)) (order : List ℕ) (every : Option ℕ) → one.whole ≡ other.whole
    → (form_tells plan.form plan.view ≡ true → one.types ≡ other.types) → shown_text plan one lists order every ≡ shown_text plan other lists order every
same_shown plan one other lists order every weighed typed = go plan.form typed
  where
    with_types : one.types ≡ other.types → (text : RunFacts → List ℕ) → text one ≡ text other
    with_types same text = λ i. text (record { whole = weighed i; types = same i })

    viewed : (view : View) → (view_tells view ≡ true → one.types ≡ other.types) → told_text (told_in plan one lists) view lists order every ≡ told_text (told_in plan other lists) view lists order every
    viewed Fold typed = refl
    viewed (Graph width) typed = refl
    viewed (Chart width) typed = refl
    viewed Pairs typed = refl
    viewed (PairBoxes width) typed = refl
    viewed (Top top) typed = with_types (typed refl) (λ facts. told_text (told_in plan facts lists) (Top top) lists order every)
    viewed (Diff table) typed = with_types (typed refl) (λ facts. told_text (told_in plan facts lists) (Diff table) lists order every)

    go : (written : Form) → (form_tells written plan.view ≡ true → one.types ≡ other.types) → text_in written plan one lists order every ≡ text_in written plan other lists order every
    go form.Text typed = viewed plan.view typed
    go (form.Page page) typed = with_types (typed refl) (λ facts. page_text plan facts page lists order every)
    go (form.Picture picture) typed = with_types (typed refl) (λ facts. picture_text plan facts picture lists)
    go form.Types typed = viewed plan.view typed
    go form.Live typed = viewed plan.view typed
    go (form.Callers table) typed = with_types (typed refl) (λ facts. called_text Callers table plan facts lists)
    go (form.Callees table) typed = with_types (typed refl) (λ facts. called_text Callees table plan facts lists)
    go (form.Peek table) typed = with_types (typed refl) (λ facts. peeked_text table plan facts lists)

-- ---- without words

-- the input is folded, and all of it is kept
whole_input : (bytes : List ℕ) → fold_text (all_samples (lists_of (shown_rests None [] (kept_rest everything (read_folded bytes) ∷ [])))) ≡ text_of bytes
whole_input bytes =
    ap (λ rests. fold_text (all_samples (lists_of rests))) (sym (shown_whole (kept_rest everything (read_folded bytes) ∷ [])))
    ∙ (ap (λ rest. fold_text (all_samples (lists_of (rest ∷ [])))) (all_is_kept everything refl (read_folded bytes))
    ∙ ap fold_text (append-nil (read_folded bytes).samples))

module _ (input : Option (List ℕ)) (files : List ℕ → Option (List ℕ)) (old new : Option (List ℕ)) where
  pub input_text : (plan : Plan) → plan ≡ default_plan → IfSome (known_sources plan input files) (Shows plan old new) → IfSome input (λ bytes. Appends old new (text_of bytes))
  input_text plan is shows = go input (subst (λ (p : Plan). IfSome (known_sources p input files) (Shows p old new)) is shows)
    where
      go : (known : Option (List ℕ)) → IfSome (known_sources default_plan known files) (Shows default_plan old new) → IfSome known (λ bytes. Appends old new (text_of bytes))
      go None shows = tt
      go (Some bytes) shows =
          let shown = shows tt in
          subst (Appends old new) (shown.1.text_is ∙ whole_input bytes) shown.2

  pub input_clean : (plan : Plan) → plan ≡ default_plan → IfSome (known_sources plan input files) (Shows plan old new) → IfSome input (λ bytes. IsClean (read_folded bytes).ending)
  input_clean plan is shows = go input (subst (λ (p : Plan). IfSome (known_sources p input files) (Shows p old new)) is shows)
    where
      go : (known : Option (List ℕ)) → IfSome (known_sources default_plan known files) (Shows default_plan old new) → IfSome known (λ bytes. IsClean (read_folded bytes).ending)
      go None shows = tt
      go (Some bytes) shows =
          let shown = shows tt in
          shown.1.clean 0 (read_folded bytes) (omega arith)

  -- a fault among the endings of one source is its
  of_one : (rest found : Rest) (at : ℕ) → at < 1 → get_or (rest ∷ []) at found ≡ found → IsFault found.ending → IsFault rest.ending
  of_one rest found zero within is faulty = subst (λ (rest : Rest). IsFault rest.ending) (sym is) faulty
  of_one rest found (suc at) within is faulty = absurd (omega arith)

  pub input_fault : (plan : Plan) → plan ≡ default_plan → IfSome (known_sources plan input files) (HasPlainFault plan) → IfSome input (λ bytes. IsFault (read_folded bytes).ending)
  input_fault plan is faulty = go input (subst (λ (p : Plan). IfSome (known_sources p input files) (HasPlainFault p)) is faulty)
    where
      go : (known : Option (List ℕ)) → IfSome (known_sources default_plan known files) (HasPlainFault default_plan) → IfSome known (λ bytes. IsFault (read_folded bytes).ending)
      go None faulty = tt
      go (Some bytes) faulty =
          let found = faulty refl in
          of_one (rest_without [] (kept_rest everything (read_folded bytes))) found.1 found.0 found.2 found.3 found.4

  unchanged : (before after : Option (List ℕ)) → Keeps before after → Appends before after []
  unchanged None after kept = tt
  unchanged (Some xs) None kept = kept
  unchanged (Some xs) (Some ys) kept = kept ∙ sym (append-nil xs)

  pub input_front : (plan : Plan) → plan ≡ default_plan → Keeps old new ⊎ IfSome (known_sources plan input files) (ShowsFront plan old new)
      → IfSome input (λ bytes. GainsFront bytes old new)
  input_front plan is (inl kept) = go input
    where
      go : (known : Option (List ℕ)) → IfSome known (λ bytes. GainsFront bytes old new)
      go None = tt
      go (Some bytes) = (0, unchanged old new kept)
  input_front plan is (inr shows) = go input (subst (λ (p : Plan). IfSome (known_sources p input files) (ShowsFront p old new)) is shows)
    where
      go : (known : Option (List ℕ)) → IfSome (known_sources default_plan known files) (ShowsFront default_plan old new) → IfSome known (λ bytes. GainsFront bytes old new)
      go None shows = tt
      go (Some bytes) shows =
          let shown = shows tt in
          (shown.2.0, subst (λ t. Appends old new (take shown.2.0 t)) (shown.1.text_is ∙ whole_input bytes) shown.2.1)

-- ---- words

pub words_have : (words : List Text) (plan : Plan) (P : Plan → Type 0) → asked_plan words ≡ Some plan → P plan → IsSomeAnd (asked_plan words) P
words_have words plan P asked holds = subst (λ asked. IsSomeAnd asked P) (sym asked) holds

-- what holds of the faults of words, where there are some
pub of_words : {A : Type 0} (bytes : A → List ℕ) (words : List A) (P : Kinds → Type 0) → (length words ≡ 0 → ⊥) → P (fault_of command_line (map bytes words)) → P (asked_faults (map bytes words))
of_words bytes [] P some holds = absurd (some refl)
of_words bytes (word ∷ words) P some holds = holds

-- without words the plan is that of the input
pub default_is : (words : List Text) (plan : Plan) → length words ≡ 0 → asked_plan words ≡ Some plan → plan ≡ default_plan
default_is [] plan none asked = same_Some plan default_plan (sym asked)
default_is (word ∷ words) plan none asked = absurd (omega (arith, none))

pub one_input : (plan : Plan) → plan ≡ default_plan → 64 < length plan.files → ⊥
one_input plan is many = omega (arith, subst (λ (p : Plan). 64 < length p.files) is many)
