-- What a reader of sums still may give, step by step.
use Rattle.std.proofs.Common.{◌≡◌, ◌∙◌, ◌+◌, ◌*◌, ◌<◌, ◌≤◌, ◌^◌, ℕ, zero, suc, Bool, true, false, cond, min, List, [], ◌∷◌, ◌++◌, All, ap, arith, length, get_or, set, replicate, refl, subst, sym, take, zero-add, ◌-◌}
use Rattle.std.proofs.Math.Nat.{mul-add}
use Rattle.std.proofs.lemmas.List.{append-nil, get_or_append_left, length-append, length-replicate, length-set, take_all}
use Rattle.std.proofs.lemmas.List.Elements.{All-append, All-head, All-pop, All-push, All-replicate, All-same, All-set, All-tail, All-weaker}
use Rattle.std.proofs.lemmas.List.Folds.{sum_by-replicate}
use Rattle.std.proofs.lemmas.List.Sums.{sum_by-append, sum_by-cons, sum_by-set, sum_by_push}
use Rattle.merged_stacks.specs.Timeline.{Stack}
use Rattle.sample_tables.specs.Rows.{ToldRows, stack_at}
use Rattle.sample_tables.specs.declared.samples.Sample.{Sample}
use Rattle.stack_core.specs.Prefixes.{IsPrefixOf}
use Rattle.stack_core.specs.Reading.{Rest}
use Rattle.stack_core.specs.Records.{names_at}
use Rattle.stack_core.specs.RowReading.{GivesSome, GivesSuch, StepsAmong, TellsAgain, sample_by}
use Rattle.stack_core.specs.declared.endings.SourceEnd.{SourceEnd}
use Rattle.stack_core.specs.declared.readers.RowStep.{RowStep}
use Rattle.stack_core.specs.declared.readers.RowStep.TheVariants as step
use Rattle.source_lists.specs.Summing.{IsSummed}
use Rattle.sample_tables.specs.declared.samples.TheConstants.{WEIGHT_LIMIT}
use Rattle.std.specs.Prelude.{Err, IsSome, None, Ok, OnErr, Option, Result, Some}
use Rattle.source_lists.specs.checked.SummedRows.{Ends, GivesLeft, Grows, HasNoSum, HaveNames, Keeps, PassesAmong, TakesSum, number_of_row, pending, weigh, worth}

-- ---- weights of rows as one sum

pub weigh_push : (number : ℕ → ℕ) (sums : List ℕ) (sum : ℕ) → weigh number (sums ++ sum ∷ []) ≡ weigh number sums + number (length sums) * sum
weigh_push number [] sum = omega arith
weigh_push number (one ∷ sums) sum = omega (arith, weigh_push (λ row. number (suc row)) sums sum)

weigh_none : (number : ℕ → ℕ) (n : ℕ) → weigh number (replicate n 0) ≡ 0
weigh_none number zero = refl
weigh_none number (suc n) = omega (arith, weigh_none (λ row. number (suc row)) n)

-- sums of 0 behind the others weigh nothing
pub weigh_more : (number : ℕ → ℕ) (sums : List ℕ) (n : ℕ) → weigh number (sums ++ replicate n 0) ≡ weigh number sums
weigh_more number [] n = weigh_none number n
weigh_more number (one ∷ sums) n = ap (λ rest. number 0 * one + rest) (weigh_more (λ row. number (suc row)) sums n)

pub weigh_set : (number : ℕ → ℕ) (sums : List ℕ) (row weight d : ℕ) → row < length sums → weigh number (set sums row (get_or sums row d + weight)) ≡ weigh number sums + number row * weight
weigh_set number [] row weight d below = absurd (omega (arith, below))
weigh_set number (one ∷ sums) zero weight d below = omega (arith, mul-add (number 0) one weight)
weigh_set number (one ∷ sums) (suc row) weight d below = omega (arith, weigh_set (λ row. number (suc row)) sums row weight d (omega (arith, below)))

weigh_same : (one other : ℕ → ℕ) (sums : List ℕ) → ((row : ℕ) → row < length sums → one row ≡ other row) → weigh one sums ≡ weigh other sums
weigh_same one other [] same = refl
weigh_same one other (sum ∷ sums) same =
    λ i. same 0 (omega arith) i * sum + weigh_same (λ row. one (suc row)) (λ row. other (suc row)) sums (λ row below. same (suc row) (omega (arith, below))) i

-- ---- how many sums are still to be given

pub pending_more : (sums : List ℕ) (n : ℕ) → pending (sums ++ replicate n 0) ≡ pending sums
pending_more sums n = omega (arith, sum_by-append (λ sum. min sum 1) sums (replicate n 0), sum_by-replicate (λ sum. min sum 1) n 0)

pub pending_push : (sums : List ℕ) (sum : ℕ) → pending (sums ++ sum ∷ []) ≡ pending sums + min sum 1
pending_push sums sum = sum_by_push (λ sum. min sum 1) sums sum

pub pending_set : (sums : List ℕ) (row sum : ℕ) → row < length sums → pending (set sums row sum) ≤ pending sums + 1
pending_set sums row sum below = omega (arith, sum_by-set (λ sum. min sum 1) sums row sum 0 below)

-- ---- room for a sum, and a weight added to one

pub grown : (row n : ℕ) (old new : List ℕ) (has_place : Bool) → length old ≤ row → n ≡ row + 1 - length old → new ≡ cond has_place (take (row + 1) old ++ replicate n 0) old → Grows row old has_place new
grown row n old new true outside count is =
    let all : new ≡ old ++ replicate n 0 = is ∙ ap (λ front. front ++ replicate n 0) (take_all (row + 1) old (omega (arith, outside))) in
    subst (Grows row old true) (sym all) (record {
      place = λ _. omega (arith, outside, count, length-append old (replicate n 0), length-replicate {A = ℕ} n 0);
      rows = λ count' below short. omega (arith, outside, count, below, short, length-append old (replicate n 0), length-replicate {A = ℕ} n 0);
      limits = λ limits. All-append (λ sum. sum ≤ WEIGHT_LIMIT) old (replicate n 0) limits (All-replicate (λ sum. sum ≤ WEIGHT_LIMIT) n 0 (omega arith));
      weights = λ number. weigh_more number old n;
      given = pending_more old n;
    })
grown row n old new false outside count is = subst (Grows row old false) (sym is) (record {
  place = λ yes. absurd cc;
  rows = λ count' below short. short;
  limits = λ limits. limits;
  weights = λ number. refl;
  given = refl;
})

pub kept : (row weight sum : ℕ) (old mid : List ℕ) → Grows row old true mid → All (λ sum. sum ≤ WEIGHT_LIMIT) old → sum ≡ get_or mid row sum → sum + weight ≤ WEIGHT_LIMIT → Keeps row weight old true (set mid row (sum + weight))
kept row weight sum old mid grows limits at within = record {
  rows = λ count below short. omega (arith, length-set mid row (sum + weight), grows.rows count below short);
  limits = All-set (λ sum. sum ≤ WEIGHT_LIMIT) mid row (sum + weight) within (grows.limits limits);
  weights = λ number.
      ap (λ (one : ℕ). weigh number (set mid row (one + weight))) at
      ∙ (weigh_set number mid row weight sum (grows.place refl) ∙ ap (λ (all : ℕ). all + number row * weight) (grows.weights number));
  given = omega (arith, pending_set mid row (sum + weight) (grows.place refl), grows.given);
}

-- the last sum is taken out, where those behind it were 0
pub taken : (row weight : ℕ) (first old new : List ℕ) → old ≡ new ++ weight ∷ [] → row ≡ length new → 0 < weight → All (λ sum. sum ≤ WEIGHT_LIMIT) old → length old ≤ length first → ((number : ℕ → ℕ) → weigh number first ≡ weigh number old)
    → pending first ≡ pending old → TakesSum row weight first new
taken row weight first old new is at some limits rows weights given =
    let limited = All-pop (λ sum. sum ≤ WEIGHT_LIMIT) old new (Some weight) is limits in
    record {
      known = omega (arith, ap length is, length-append new (weight ∷ []), at, rows);
      limit = limited.1;
      rows = omega (arith, ap length is, length-append new (weight ∷ []), rows);
      limits = limited.0;
      weights = λ number. omega (arith, weights number, ap (weigh number) is, weigh_push number new weight, ap (λ (row : ℕ). number row * weight) at);
      given = omega (arith, given, ap pending is, pending_push new weight, some);
    }

pub weigh_zero : (number : ℕ → ℕ) (sums : List ℕ) (sum : ℕ) → sum ≤ 0 → weigh number (sums ++ sum ∷ []) ≡ weigh number sums
weigh_zero number sums zero none = omega (arith, weigh_push number sums 0)
weigh_zero number sums (suc sum) none = absurd (omega (arith, none))

-- ---- what was told stays, whatever is told after it

names_same : (names more : List (List ℕ)) (frames : List ℕ) → All (λ number. number < length names) frames → names_at (names ++ more) frames ≡ names_at names frames
names_same names more [] below = refl
names_same names more (frame ∷ frames) below =
    λ i. get_or_append_left names more [] frame (All-head (λ number. number < length names) frame frames below) i ∷ names_same names more frames (All-tail (λ number. number < length names) frame frames below) i

row_same : (told told' : ToldRows) (names : List (List ℕ)) (stacks : List (List ℕ)) (row : ℕ) → told'.names ≡ told.names ++ names → told'.stacks ≡ told.stacks ++ stacks → HaveNames told → row < length told.stacks
    → names_at told'.names (stack_at told'.stacks row) ≡ names_at told.names (stack_at told.stacks row)
row_same told told' names stacks row of_names of_stacks named below =
    (λ i. names_at (of_names i) (stack_at (of_stacks i) row))
    ∙ (ap (names_at (told.names ++ names)) (get_or_append_left told.stacks stacks [] row below)
    ∙ names_same told.names names (stack_at told.stacks row) (named row [] below))

pub weigh_told : (told told' : ToldRows) (names : List (List ℕ)) (stacks : List (List ℕ)) (sums : List ℕ) → told'.names ≡ told.names ++ names → told'.stacks ≡ told.stacks ++ stacks → HaveNames told → length sums ≤ length told.stacks
    → (number : Stack → ℕ) → weigh (number_of_row number told') sums ≡ weigh (number_of_row number told) sums
weigh_told told told' names stacks sums of_names of_stacks named rows number =
    weigh_same (number_of_row number told') (number_of_row number told) sums (λ row below. ap number (row_same told told' names stacks row of_names of_stacks named (omega (arith, below, rows))))

-- ---- the samples that were left out

left_samples : (ℕ → Stack) → List ℕ → List Sample
left_samples stack [] = []
left_samples stack (zero ∷ sums) = left_samples (λ row. stack (suc row)) sums
left_samples stack (suc n ∷ sums) = record { stack = stack 0; weight = suc n } ∷ left_samples (λ row. stack (suc row)) sums

left_worth : (number : Stack → ℕ) (stack : ℕ → Stack) (sums : List ℕ) → worth number (left_samples stack sums) ≡ weigh (λ row. number (stack row)) sums
unfolding left_samples
left_worth number stack [] = refl
left_worth number stack (zero ∷ sums) = omega (arith, left_worth number (λ row. stack (suc row)) sums)
left_worth number stack (suc n ∷ sums) =
    sum_by-cons (λ sample. number sample.stack * sample.weight) (record { stack = stack 0; weight = suc n }) (left_samples (λ row. stack (suc row)) sums)
    ∙ ap (λ rest. number (stack 0) * suc n + rest) (left_worth number (λ row. stack (suc row)) sums)

left_count : (stack : ℕ → Stack) (sums : List ℕ) → length (left_samples stack sums) ≡ pending sums
unfolding left_samples
left_count stack [] = refl
left_count stack (zero ∷ sums) = omega (arith, left_count (λ row. stack (suc row)) sums, sum_by-cons (λ (sum : ℕ). min sum 1) 0 sums)
left_count stack (suc n ∷ sums) = omega (arith, left_count (λ row. stack (suc row)) sums, sum_by-cons (λ (sum : ℕ). min sum 1) (suc n) sums)

pub on_err : {A E : Type 0} (result : Result A E) (P : Type 0) → P → OnErr result P
on_err (Ok x) P is = tt
on_err (Err e) P is = is

pub not_some : {A : Type 0} (found : Option A) → found ≡ None → IsSome found → ⊥
not_some None is some = cc
not_some (Some x) is some = cc

-- a sample was left out, and nothing else
pub left_all : (old new : Rest → Type 0) (told told' : ToldRows) (found : Option RowStep) → found ≡ None → PassesAmong old new told found told' → ((rest : Rest) → new rest → old rest) × (told' ≡ told)
left_all old new told told' found is passes = subst (λ (found : Option RowStep). PassesAmong old new told found told') is passes

empty : {A : Type 0} (xs : List A) → length xs ≤ 0 → xs ≡ []
empty [] none = refl
empty (x ∷ xs) none = absurd (omega (arith, none))

worth_cons : (number : Stack → ℕ) (sample : Sample) (samples : List Sample) → worth number (sample ∷ samples) ≡ number sample.stack * sample.weight + worth number samples
worth_cons number sample samples = sum_by-cons (λ sample. number sample.stack * sample.weight) sample samples

-- ---- over what a reader may give

-- there is a rest that may be given
pub left_possible : (gives : Rest → Type 0) (told : ToldRows) (sums : List ℕ) → GivesSome gives → GivesSome (GivesLeft gives told sums)
left_possible gives told sums some =
    let stack : ℕ → Stack = λ row. names_at told.names (stack_at told.stacks row) in
    let left = left_samples stack sums in
    record {
      rest = record { samples = left ++ some.rest.samples; ending = some.rest.ending };
      is_given = record {
        rest = some.rest;
        is_given = some.is_given;
        holds = record {
          weights = λ number.
              sum_by-append (λ sample. number sample.stack * sample.weight) left some.rest.samples
              ∙ ap (λ front. front + worth number some.rest.samples) (left_worth number stack sums);
          ending = refl;
          count = omega (arith, length-append left some.rest.samples, left_count stack sums);
        };
      };
    }

-- where nothing was left out, what is found weighs like a rest
pub left_none : (gives : Rest → Type 0) (told : ToldRows) (found : Rest) → GivesLeft gives told [] found → GivesSuch gives (λ rest. IsSummed rest found)
left_none gives told found given = record {
  rest = given.rest;
  is_given = given.is_given;
  holds = record { samples = λ number. given.holds.weights number ∙ zero-add (worth number given.rest.samples); ending = given.holds.ending };
}

-- ---- one step

module _ (gives gives' : Rest → Type 0) (told told' : ToldRows) (sums : List ℕ) where
  -- these samples and what is found after a step are found before it, where a rest before has them more, or the sums
  found_more : (front : List Sample) (sums' : List ℕ) (before after : Rest) → gives before → (given : GivesLeft gives' told' sums' after) → given.rest.ending ≡ before.ending
      → ((number : Stack → ℕ) → worth number front + weigh (number_of_row number told') sums' + worth number given.rest.samples ≡ weigh (number_of_row number told) sums + worth number before.samples)
      → length front + pending sums' + length given.rest.samples ≤ pending sums + length before.samples → GivesLeft gives told sums (record { samples = front ++ after.samples; ending = after.ending })
  found_more front sums' before after is_given given ending weights count = record {
    rest = before;
    is_given = is_given;
    holds = record {
      weights = λ number. omega (arith, sum_by-append (λ sample. number sample.stack * sample.weight) front after.samples, given.holds.weights number, weights number);
      ending = given.holds.ending ∙ ending;
      count = omega (arith, given.holds.count, count, length-append front after.samples);
    };
  }

  -- a sample of a stack that was told, of which the rest before or the sums have more, is found
  found_again : (row weight : ℕ) (sums' : List ℕ) (before after : Rest) → gives before → (given : GivesLeft gives' told' sums' after) → given.rest.ending ≡ before.ending → row < length told.stacks → told' ≡ told
      → ((number : Stack → ℕ) → number_of_row number told row * weight + weigh (number_of_row number told) sums' + worth number given.rest.samples ≡ weigh (number_of_row number told) sums + worth number before.samples)
      → suc (pending sums') + length given.rest.samples ≤ pending sums + length before.samples → GivesSuch (GivesLeft gives told sums) (λ found. TellsAgain told told' row weight found after)
  found_again row weight sums' before after is_given given ending known same weights count =
      let sample : Sample = sample_by told.names (stack_at told.stacks row) weight in
      record {
        rest = record { samples = sample ∷ after.samples; ending = after.ending };
        is_given = found_more (sample ∷ []) sums' before after is_given given ending
            (λ number. omega (arith, worth_cons number sample [], ap (λ (told : ToldRows). weigh (number_of_row number told) sums') same, weights number)) (omega (arith, count));
        holds = record { known = known; same = same; gives = record { samples = refl; ending = refl } };
      }

  -- want of memory leaves what may be given
  pub left_refused : ((rest : Rest) → gives' rest → gives rest) → IsPrefixOf told.names told'.names → told'.stacks ≡ told.stacks → HaveNames told → length sums ≤ length told.stacks → (found : Rest) → GivesLeft gives' told' sums found
      → GivesLeft gives told sums found
  left_refused kept names stacks named rows found given =
      found_more [] sums given.rest found (kept given.rest given.is_given) given refl
      (λ number. omega (arith, weigh_told told told' names.0 [] sums (sym names.1) (stacks ∙ sym (append-nil told.stacks)) named rows number)) (omega arith)

  -- a stack that is told is passed on, with its sample
  pub passed_new : (names : List (List ℕ)) (frames : List ℕ) (weight : ℕ) → HaveNames told → length sums ≤ length told.stacks → StepsAmong gives gives' told (step.New names frames weight) told'
      → StepsAmong (GivesLeft gives told sums) (GivesLeft gives' told' sums) told (step.New names frames weight) told'
  passed_new names frames weight named rows among after given =
      let before = among given.rest given.is_given in
      let tells = before.holds in
      let sample : Sample = sample_by told'.names frames weight in
      record {
        rest = record { samples = sample ∷ after.samples; ending = after.ending };
        is_given = found_more (sample ∷ []) sums before.rest after before.is_given given tells.gives.ending
            (λ number. omega (
              arith,
              worth_cons number sample [],
              weigh_told told told' names (frames ∷ []) sums tells.names_told tells.stacks named rows number,
              ap (worth number) tells.gives.samples,
              worth_cons number sample given.rest.samples,
            )) (omega (arith, ap length tells.gives.samples));
        holds = record {
          names_told = tells.names_told;
          in_order = tells.in_order;
          numbers = tells.numbers;
          stacks = tells.stacks;
          gives = record { samples = refl; ending = refl };
        };
      }

  -- after a stack was told each stack has names that were told, and each sum a stack
  pub named_new : (names : List (List ℕ)) (frames : List ℕ) (weight : ℕ) → GivesSome gives' → HaveNames told → StepsAmong gives gives' told (step.New names frames weight) told' → HaveNames told'
  named_new names frames weight some named among =
      let tells = (among some.rest some.is_given).holds in
      let more : length told.names ≤ length told'.names = omega (arith, ap length tells.names_told, length-append told.names names) in
      let Named : List ℕ → Type 0 = All (λ number. number < length told'.names) in
      All-same Named told'.stacks (told.stacks ++ frames ∷ []) tells.stacks
      (All-push Named told.stacks frames
      (All-weaker (All (λ number. number < length told.names)) Named (λ frames below k d inside. omega (arith, below k d inside, more)) told.stacks named) tells.numbers)

  pub rows_new : (names : List (List ℕ)) (frames : List ℕ) (weight : ℕ) → GivesSome gives' → length sums ≤ length told.stacks → StepsAmong gives gives' told (step.New names frames weight) told' → length sums ≤ length told'.stacks
  rows_new names frames weight some rows among = omega (arith, rows, ap length (among some.rest some.is_given).holds.stacks, length-append told.stacks (frames ∷ []))

  -- what is left is one sample fewer
  pub few_new : (names : List (List ℕ)) (frames : List ℕ) (weight : ℕ) → ((rest : Rest) → gives rest → pending sums + length rest.samples < 2 ^ 64) → StepsAmong gives gives' told (step.New names frames weight) told'
      → (rest : Rest) → gives' rest → pending sums + length rest.samples < 2 ^ 64
  few_new names frames weight few among rest given =
      let before = among rest given in
      omega (arith, few before.rest before.is_given, ap length before.holds.gives.samples)

  -- a sample of a known stack leaves what was told as it was
  pub told_again : (row weight : ℕ) → GivesSome gives' → StepsAmong gives gives' told (step.Again row weight) told' → (told' ≡ told) × (row < length told.stacks)
  told_again row weight some among =
      let tells = (among some.rest some.is_given).holds in
      (tells.same, tells.known)

  -- a sample is passed on
  pub passed_again : (row weight : ℕ) (sums' : List ℕ) → Keeps row weight sums false sums' → StepsAmong gives gives' told (step.Again row weight) told'
      → StepsAmong (GivesLeft gives told sums) (GivesLeft gives' told' sums') told (step.Again row weight) told'
  passed_again row weight sums' keeps among after given =
      let before = among given.rest given.is_given in
      let tells = before.holds in
      let sample : Sample = sample_by told.names (stack_at told.stacks row) weight in
      found_again row weight sums' before.rest after before.is_given given tells.gives.ending tells.known tells.same
      (λ number. omega (arith, keeps.weights (number_of_row number told), ap (worth number) tells.gives.samples, worth_cons number sample given.rest.samples))
      (omega (arith, keeps.given, ap length tells.gives.samples))

  -- a sample is left out, and its weight is in the sums
  pub left_out : (row weight : ℕ) (sums' : List ℕ) → Keeps row weight sums true sums' → StepsAmong gives gives' told (step.Again row weight) told' → (found : Rest) → GivesLeft gives' told' sums' found → GivesLeft gives told sums found
  left_out row weight sums' keeps among found given =
      let before = among given.rest given.is_given in
      let tells = before.holds in
      let sample : Sample = sample_by told.names (stack_at told.stacks row) weight in
      found_more [] sums' before.rest found before.is_given given tells.gives.ending
      (λ number. omega (
        arith,
        ap (λ (told : ToldRows). weigh (number_of_row number told) sums') tells.same,
        keeps.weights (number_of_row number told),
        ap (worth number) tells.gives.samples,
        worth_cons number sample given.rest.samples,
      )) (omega (arith, keeps.given, ap length tells.gives.samples))

  -- behind the last sample a sum is given
  given_sum : (last : SourceEnd) (row weight : ℕ) (sums' : List ℕ) → TakesSum row weight sums sums' → length sums ≤ length told.stacks → StepsAmong gives gives' told (step.End last) told'
      → StepsAmong (GivesLeft gives told sums) (GivesLeft gives' told' sums') told (step.Again row weight) told'
  given_sum last row weight sums' takes rows among after given =
      let before = among given.rest given.is_given in
      let left = before.holds.left in
      found_again row weight sums' before.rest after before.is_given given (ap (λ (rest : Rest). rest.ending) left) (omega (arith, takes.known, rows)) before.holds.same
      (λ number. omega (arith, takes.weights (number_of_row number told), ap (λ (rest : Rest). worth number rest.samples) left)) (omega (arith, takes.given, ap (λ (rest : Rest). length rest.samples) left))

  -- with no sum left the ending is given
  given_end : (last : SourceEnd) (sums' : List ℕ) → HasNoSum sums sums' → StepsAmong gives gives' told (step.End last) told' → StepsAmong (GivesLeft gives told sums) (GivesLeft gives' told' sums') told (step.End last) told'
  given_end last sums' none among after given =
      let before = among given.rest given.is_given in
      let tells = before.holds in
      let no_sums : pending sums' ≡ 0 = ap pending none.none in
      let as_many = ap (λ (rest : Rest). length rest.samples) tells.left in
      let same_ending = ap (λ (rest : Rest). rest.ending) tells.left in
      record {
        rest = after;
        is_given = found_more [] sums' before.rest after before.is_given given same_ending
            (λ number. omega (arith, ap (weigh (number_of_row number told')) none.none, none.weights (number_of_row number told), ap (λ (rest : Rest). worth number rest.samples) tells.left))
            (omega (arith, no_sums, none.given, as_many));
        holds = record {
          same = tells.same;
          none = empty after.samples (omega (arith, given.holds.count, no_sums, as_many, ap length tells.none));
          last = given.holds.ending ∙ (same_ending ∙ tells.last);
          left = refl;
        };
      }

  -- one or the other
  pub given_last : (ending : SourceEnd) (sums' : List ℕ) (found : RowStep) → Ends ending sums found sums' → length sums ≤ length told.stacks → StepsAmong gives gives' told (step.End ending) told'
      → StepsAmong (GivesLeft gives told sums) (GivesLeft gives' told' sums') told found told'
  given_last ending sums' (step.New names frames weight) ends rows among = absurd ends
  given_last ending sums' (step.Again row weight) ends rows among = given_sum ending row weight sums' ends rows among
  given_last ending sums' (step.End last) ends rows among =
      given_end last sums' ends.1 (subst (λ (one : SourceEnd). StepsAmong gives gives' told (step.End one) told') (sym ends.0) among)
