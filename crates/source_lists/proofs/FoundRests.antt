-- What was found of sources, summed or not.
use Rattle.std.proofs.Common.{◌≡◌, ◌≢◌, ◌∙◌, ◌+◌, ◌*◌, ◌≤◌, ℕ, suc, Bool, true, false, cond, refl, sym, ap, arith, subst, List, [], ◌∷◌, ◌++◌, All, Option, None, Some, map}
use Rattle.std.specs.Prelude.{sum_by}
use Rattle.std.specs.List.{AllZip, filter}
use Rattle.std.proofs.lemmas.List.Elements.{All-cons, All-nil}
use Rattle.std.proofs.lemmas.List.Sums.{sum_by-append, sum_by-cons}
use Rattle.sample_tables.specs.Samples.{total_weight}
use Rattle.sample_tables.specs.declared.samples.Sample.{Sample}
use Rattle.sample_tables.specs.declared.samples.TheConstants.{WEIGHT_LIMIT}
use Rattle.stack_core.specs.Ledgers.{ListState}
use Rattle.stack_core.specs.Parts.{IsClean, ignored_of, joined, samples_of_parts}
use Rattle.stack_core.specs.Reading.{IsSourceLimited, Rest}
use Rattle.stack_core.specs.RowReading.{GivesSuch}
use Rattle.stack_core.specs.declared.endings.SourceEnd.TheVariants.{Clean, Stopped}
use Rattle.merged_stacks.specs.Merged.{all_samples}
use Rattle.merged_stacks.specs.Timeline.{Stack}
use Rattle.run_options.specs.Filters.{keeps, kept_rest}
use Rattle.run_options.specs.declared.filters.Filter.{Filter}
use Rattle.source_lists.specs.FromNames.{has_name, rest_from, stack_from}
use Rattle.source_lists.specs.OmittedNames.{rest_without, shown_rests, stack_without}
use Rattle.source_lists.specs.Summing.{IsFound, IsSummed, WeighAlike}
use Rattle.source_lists.specs.checked.Parts.{AreCleanParts, ignored_by}
use Rattle.source_lists.specs.checked.SummedRuns.{FindsGiven}
use Rattle.ring_collect.specs.Collection.{AreGiven, seen_as_rest}

-- ---- sums

abbrev weigh : (Stack → ℕ) → Sample → ℕ
weigh number sample = number sample.stack * sample.weight

sum_edited : (f : Sample → ℕ) (edit : Sample → Sample) (samples : List Sample) → sum_by f (map edit samples) ≡ sum_by (λ sample. f (edit sample)) samples
sum_edited f edit [] = refl
sum_edited f edit (sample ∷ samples) =
    sum_by-cons f (edit sample) (map edit samples)
    ∙ (ap (λ n. f (edit sample) + n) (sum_edited f edit samples) ∙ sym (sum_by-cons (λ sample. f (edit sample)) sample samples))

one_kept : (f : Sample → ℕ) (b : Bool) (sample : Sample) (samples : List Sample) → sum_by f (cond b (sample ∷ samples) samples) ≡ cond b (f sample) 0 + sum_by f samples
one_kept f true sample samples = sum_by-cons f sample samples
one_kept f false sample samples = omega arith

sum_kept : (f : Sample → ℕ) (keep : Sample → Bool) (samples : List Sample) → sum_by f (filter keep samples) ≡ sum_by (λ sample. cond (keep sample) (f sample) 0) samples
sum_kept f keep [] = refl
sum_kept f keep (sample ∷ samples) =
    one_kept f (keep sample) sample (filter keep samples)
    ∙ (ap (λ n. cond (keep sample) (f sample) 0 + n) (sum_kept f keep samples) ∙ sym (sum_by-cons (λ sample. cond (keep sample) (f sample) 0) sample samples))

kept_times : (b : Bool) (n w : ℕ) → cond b (n * w) 0 ≡ cond b n 0 * w
kept_times true n w = refl
kept_times false n w = omega arith

one_time : (w : ℕ) → 1 * w ≡ w
one_time w = omega arith

-- ---- samples that weigh alike

pub alike_kept : (keep : Stack → Bool) (one other : List Sample) → WeighAlike one other → WeighAlike (filter (λ sample. keep sample.stack) one) (filter (λ sample. keep sample.stack) other)
alike_kept keep one other alike number =
    let of = λ (samples : List Sample). sum_kept (weigh number) (λ sample. keep sample.stack) samples
    ∙ ap (λ (f : Sample → ℕ). sum_by f samples) (λ i sample. kept_times (keep sample.stack) (number sample.stack) sample.weight i) in
    of one ∙ (alike (λ stack. cond (keep stack) (number stack) 0) ∙ sym (of other))

pub alike_edited : (edit : Stack → Stack) (one other : List Sample) → WeighAlike one other
    → WeighAlike (map (λ (sample : Sample). record { stack = edit sample.stack; weight = sample.weight }) one) (map (λ (sample : Sample). record { stack = edit sample.stack; weight = sample.weight }) other)
alike_edited edit one other alike number =
    let of = sum_edited (weigh number) (λ sample. record { stack = edit sample.stack; weight = sample.weight }) in
    of one ∙ (alike (λ stack. number (edit stack)) ∙ sym (of other))

pub alike_append : (one other more others : List Sample) → WeighAlike one other → WeighAlike more others → WeighAlike (one ++ more) (other ++ others)
alike_append one other more others alike later number =
    sum_by-append (weigh number) one more ∙ ((λ i. alike number i + later number i) ∙ sym (sum_by-append (weigh number) other others))

pub alike_total : (one other : List Sample) → WeighAlike one other → total_weight one ≡ total_weight other
alike_total one other alike =
    let of = λ (samples : List Sample). ap (λ (f : Sample → ℕ). sum_by f samples) (λ i (sample : Sample). one_time sample.weight i) in
    sym (of one) ∙ (alike (λ _. 1) ∙ of other)

-- ---- what was found of a source

pub found_samples : (is_summed : Bool) (rest found : Rest) → IsFound is_summed rest found → WeighAlike found.samples rest.samples
found_samples false rest found is = λ number. ap (λ (rest : Rest). sum_by (weigh number) rest.samples) is
found_samples true rest found is = is.samples

pub found_ending : (is_summed : Bool) (rest found : Rest) → IsFound is_summed rest found → found.ending ≡ rest.ending
found_ending false rest found is = ap (λ (rest : Rest). rest.ending) is
found_ending true rest found is = is.ending

found_kept : (is_summed : Bool) (asked : Filter) (rest found : Rest) → IsFound is_summed rest found → IsFound is_summed (kept_rest asked rest) (kept_rest asked found)
found_kept false asked rest found is = ap (kept_rest asked) is
found_kept true asked rest found is = record { samples = alike_kept (keeps asked) found.samples rest.samples is.samples; ending = is.ending }

found_from : (is_summed : Bool) (name : List ℕ) (rest found : Rest) → IsFound is_summed rest found → IsFound is_summed (rest_from name rest) (rest_from name found)
found_from false name rest found is = ap (rest_from name) is
found_from true name rest found is = record {
  samples =
      alike_edited (stack_from name) (filter (λ (sample : Sample). has_name name sample.stack) found.samples) (filter (λ (sample : Sample). has_name name sample.stack) rest.samples)
      (alike_kept (has_name name) found.samples rest.samples is.samples);
  ending = is.ending;
}

found_without : (is_summed : Bool) (names : List (List ℕ)) (rest found : Rest) → IsFound is_summed rest found → IsFound is_summed (rest_without names rest) (rest_without names found)
found_without false names rest found is = ap (rest_without names) is
found_without true names rest found is = record { samples = alike_edited (stack_without names) found.samples rest.samples is.samples; ending = is.ending }

-- ---- of several

zip_mapped : (R : Rest → Rest → Type 0) (f : Rest → Rest) → ((rest found : Rest) → R rest found → R (f rest) (f found)) → (rests found : List Rest) → AllZip R rests found → AllZip R (map f rests) (map f found)
zip_mapped R f holds [] [] each = tt
zip_mapped R f holds [] (one ∷ found) each = absurd each
zip_mapped R f holds (rest ∷ rests) [] each = absurd each
zip_mapped R f holds (rest ∷ rests) (one ∷ found) each = (holds rest one each.0, zip_mapped R f holds rests found each.1)

pub all_found_kept : (is_summed : Bool) (asked : Filter) (rests found : List Rest) → AllZip (IsFound is_summed) rests found → AllZip (IsFound is_summed) (map (kept_rest asked) rests) (map (kept_rest asked) found)
all_found_kept is_summed asked rests found each = zip_mapped (IsFound is_summed) (kept_rest asked) (found_kept is_summed asked) rests found each

-- neither where stacks begin nor which frames are left out tells them apart
pub found_shown : (is_summed : Bool) (from : Option (List ℕ)) (omitted : List (List ℕ)) (rests found : List Rest) → AllZip (IsFound is_summed) rests found
    → AllZip (IsFound is_summed) (shown_rests from omitted rests) (shown_rests from omitted found)
found_shown is_summed None omitted rests found each = zip_mapped (IsFound is_summed) (rest_without omitted) (found_without is_summed omitted) rests found each
found_shown is_summed (Some name) omitted rests found each =
    zip_mapped (IsFound is_summed) (rest_without omitted) (found_without is_summed omitted) (map (rest_from name) rests) (map (rest_from name) found)
    (zip_mapped (IsFound is_summed) (rest_from name) (found_from is_summed name) rests found each)

pub found_same : (rests found : List Rest) → AllZip (IsFound false) rests found → found ≡ rests
found_same [] [] each = refl
found_same [] (one ∷ found) each = absurd each
found_same (rest ∷ rests) [] each = absurd each
found_same (rest ∷ rests) (one ∷ found) each = λ i. each.0 i ∷ found_same rests found each.1 i

one_found : (is_summed : Bool) (rest : Rest) → IsFound is_summed rest rest
one_found false rest = refl
one_found true rest = record { samples = λ number. refl; ending = refl }

pub found_self : (is_summed : Bool) (rests : List Rest) → AllZip (IsFound is_summed) rests rests
found_self is_summed [] = tt
found_self is_summed (rest ∷ rests) = (one_found is_summed rest, found_self is_summed rests)

pub alike_parts : (is_summed : Bool) (rests found : List Rest) → AllZip (IsFound is_summed) rests found → WeighAlike (samples_of_parts found) (samples_of_parts rests)
alike_parts is_summed [] [] each = λ number. refl
alike_parts is_summed [] (one ∷ found) each = absurd each
alike_parts is_summed (rest ∷ rests) [] each = absurd each
alike_parts is_summed (rest ∷ rests) (one ∷ found) each =
    alike_append one.samples rest.samples (samples_of_parts found) (samples_of_parts rests) (found_samples is_summed rest one each.0) (alike_parts is_summed rests found each.1)

pub same_ignored : (is_summed : Bool) (rests found : List Rest) → AllZip (IsFound is_summed) rests found → ignored_by found ≡ ignored_by rests
same_ignored is_summed [] [] each = refl
same_ignored is_summed [] (one ∷ found) each = absurd each
same_ignored is_summed (rest ∷ rests) [] each = absurd each
same_ignored is_summed (rest ∷ rests) (one ∷ found) each =
    let ignored = λ (part : Rest). ignored_of part.ending in
    sum_by-cons ignored one found
    ∙ ((λ i. ignored_of (found_ending is_summed rest one each.0 i) + same_ignored is_summed rests found each.1 i) ∙ sym (sum_by-cons ignored rest rests))

pub found_joined : (is_summed : Bool) (rests found : List Rest) → AllZip (IsFound is_summed) rests found → IsFound is_summed (joined rests) (joined found)
found_joined false rests found each = ap joined (found_same rests found each)
found_joined true rests found each = record { samples = alike_parts true rests found each; ending = ap Clean (same_ignored true rests found each) }

all_clean : (is_summed : Bool) (rests found : List Rest) → AllZip (IsFound is_summed) rests found → All IsClean found → All IsClean rests
all_clean is_summed [] [] each clean = All-nil IsClean
all_clean is_summed [] (one ∷ found) each clean = absurd each
all_clean is_summed (rest ∷ rests) [] each clean = absurd each
all_clean is_summed (rest ∷ rests) (one ∷ found) each clean =
    let first : IsClean one = clean 0 one (omega arith) in
    All-cons IsClean rest rests (first.0, sym (found_ending is_summed rest one each.0) ∙ first.1) (all_clean is_summed rests found each.1 (λ k d within. clean (suc k) d (omega (arith, within))))

pub found_clean : (is_summed : Bool) (rests found : List Rest) (ignored : ℕ) → AllZip (IsFound is_summed) rests found → AreCleanParts found ignored → AreCleanParts rests ignored
found_clean is_summed rests found ignored each clean = record {
  clean = all_clean is_summed rests found each clean.clean;
  weight = subst (λ weight. weight ≤ WEIGHT_LIMIT) (alike_total (samples_of_parts found) (samples_of_parts rests) (alike_parts is_summed rests found each)) clean.weight;
  ignored_is = clean.ignored_is ∙ same_ignored is_summed rests found each;
}

alike_all : (is_summed : Bool) (rests found : List Rest) → AllZip (IsFound is_summed) rests found
    → WeighAlike (all_samples (map (λ (rest : Rest). rest.samples) found)) (all_samples (map (λ (rest : Rest). rest.samples) rests))
alike_all is_summed [] [] each = λ number. refl
alike_all is_summed [] (one ∷ found) each = absurd each
alike_all is_summed (rest ∷ rests) [] each = absurd each
alike_all is_summed (rest ∷ rests) (one ∷ found) each =
    alike_append one.samples rest.samples (all_samples (map (λ (rest : Rest). rest.samples) found)) (all_samples (map (λ (rest : Rest). rest.samples) rests)) (found_samples is_summed rest one each.0) (alike_all is_summed rests found each.1)

pub found_weight : (is_summed : Bool) (rests found : List Rest) → AllZip (IsFound is_summed) rests found
    → total_weight (all_samples (map (λ (rest : Rest). rest.samples) found)) ≡ total_weight (all_samples (map (λ (rest : Rest). rest.samples) rests))
found_weight is_summed rests found each =
    alike_total (all_samples (map (λ (rest : Rest). rest.samples) found)) (all_samples (map (λ (rest : Rest). rest.samples) rests)) (alike_all is_summed rests found each)

-- no more is found of a source than it may weigh
pub found_totals : (is_summed : Bool) (rests found : List Rest) → AllZip (IsFound is_summed) rests found → All (λ rest. IsSourceLimited rest.samples) rests → All (λ rest. total_weight rest.samples ≤ WEIGHT_LIMIT) found
found_totals is_summed [] [] each limited = All-nil (λ rest. total_weight rest.samples ≤ WEIGHT_LIMIT)
found_totals is_summed [] (one ∷ found) each limited = absurd each
found_totals is_summed (rest ∷ rests) [] each limited = absurd each
found_totals is_summed (rest ∷ rests) (one ∷ found) each limited =
    All-cons (λ rest. total_weight rest.samples ≤ WEIGHT_LIMIT) one found
    (subst (λ weight. weight ≤ WEIGHT_LIMIT) (sym (alike_total one.samples rest.samples (found_samples is_summed rest one each.0))) (limited 0 rest (omega arith)).total)
    (found_totals is_summed rests found each.1 (λ k d within. limited (suc k) d (omega (arith, within))))

pub list_totals : (lists : List ListState) → All (λ rest. total_weight rest.samples ≤ WEIGHT_LIMIT) (map seen_as_rest lists) → All (λ list. total_weight list.samples ≤ WEIGHT_LIMIT) lists
list_totals [] totals = All-nil (λ (list : ListState). total_weight list.samples ≤ WEIGHT_LIMIT)
list_totals (list ∷ lists) totals =
    All-cons (λ (list : ListState). total_weight list.samples ≤ WEIGHT_LIMIT) list lists (totals 0 (seen_as_rest list) (omega arith))
    (list_totals lists (λ k d within. totals (suc k) d (omega (arith, within))))

-- it was read to its end
abbrev pub IsNotCutOff : Rest → Type 0
IsNotCutOff rest = (after : ℕ) → rest.ending ≢ Stopped after

-- what was found was read to its end, so the rests are
pub rests_out : (is_summed : Bool) (rests found : List Rest) → AllZip (IsFound is_summed) rests found → All IsNotCutOff found → All IsNotCutOff rests
rests_out is_summed [] [] each out = All-nil IsNotCutOff
rests_out is_summed [] (one ∷ found) each out = absurd each
rests_out is_summed (rest ∷ rests) [] each out = absurd each
rests_out is_summed (rest ∷ rests) (one ∷ found) each out =
    All-cons IsNotCutOff rest rests (λ after is. out 0 one (omega arith) after (found_ending is_summed rest one each.0 ∙ is)) (rests_out is_summed rests found each.1 (λ k d within. out (suc k) d (omega (arith, within))))

-- ---- what readers gave

one_more : {R : Type 0} (gives : R → Rest → Type 0) (reader : R) (readers : List R) (one : Rest) (found : List Rest) → GivesSuch (gives reader) (λ rest. IsSummed rest one) → FindsGiven gives true readers found
    → FindsGiven gives true (reader ∷ readers) (one ∷ found)
one_more gives reader readers one found first later = record {
  rests = first.rest ∷ later.rests;
  are_given = (first.is_given, later.are_given);
  are_found = (first.holds, later.are_found);
}

-- through readers that sum
pub given_summed : {R S : Type 0} (gives : R → Rest → Type 0) (sums : S → Rest → Type 0) (readers : List R) (summed : List S) (found : List Rest)
    → AllZip (λ reader one. (found : Rest) → sums one found → GivesSuch (gives reader) (λ rest. IsSummed rest found)) readers summed → AreGiven sums summed found → FindsGiven gives true readers found
given_summed gives sums [] [] [] each given = record { rests = []; are_given = tt; are_found = tt }
given_summed gives sums [] [] (one ∷ found) each given = absurd given
given_summed gives sums [] (reader ∷ summed) found each given = absurd each
given_summed gives sums (reader ∷ readers) [] found each given = absurd each
given_summed gives sums (reader ∷ readers) (sum ∷ summed) [] each given = absurd given
given_summed gives sums (reader ∷ readers) (sum ∷ summed) (one ∷ found) each given =
    one_more gives reader readers one found (each.0 one given.0) (given_summed gives sums readers summed found each.1 given.1)

pub given_in_order : {R : Type 0} (gives : R → Rest → Type 0) (readers : List R) (found : List Rest) → AreGiven gives readers found → FindsGiven gives false readers found
given_in_order gives readers found given = record { rests = found; are_given = given; are_found = found_self false found }
