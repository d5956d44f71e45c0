-- Records that are told one after another.
use Rattle.std.proofs.Common.{◌≡◌, ◌≢◌, ℕ, ◌+◌, ◌<◌, Bool, true, false, List, [], ◌∷◌, ◌++◌, length, map, refl, sym, ap, subst, ◌∙◌, arith, All, append-nil, append_assoc, length-append, Some, None, slice_get, get_or, if◌then◌else◌}
use Rattle.std.specs.List.{slice_index_or, AllByRecursion}
use Rattle.std.proofs.lemmas.List.{get_or_append_left, map-append}
use Rattle.std.proofs.lemmas.List.Elements.{All-weaker, All-append, All-push, All-cons, All-nil, recursion_from_All}
use Rattle.std.proofs.lemmas.Option.{get_or_from_slice_get, slice_get_within}
use Rattle.call_tree.proofs.Names.{with_name_known}
use Rattle.std.specs.List.{list_any}
use Rattle.std.specs.Str.{bytes_eq}
use Rattle.sample_tables.specs.Rows.{stack_at, ToldRows}
use Rattle.stack_core.specs.Reading.{Rest}
use Rattle.stack_core.specs.Records.{names_told, stacks_told, names_at, stands_for, stands_for_after, IsWellTold, IsWellToldAfter}
use Rattle.stack_core.specs.RowReading.{StepsByRows, sample_by}
use Rattle.sample_tables.specs.declared.samples.Sample.{Sample}
use Rattle.stack_core.specs.declared.endings.SourceEnd.{SourceEnd}
use Rattle.stack_core.specs.declared.readers.RowStep.{RowStep}
use Rattle.stack_core.specs.declared.readers.RowStep.TheVariants as step
use Rattle.stack_core.specs.declared.endings.Item.{Item}
use Rattle.stack_core.specs.declared.endings.Item.TheVariants as item
use Rattle.stack_core.specs.declared.records.RingRecord.{RingRecord}
use Rattle.stack_core.specs.declared.records.RingRecord.TheVariants.{Name, Row, Again, Close}
use Rattle.stack_core.proofs.RecordLemmas.{names_told-append, stacks_told-append, stands_for-append, IsWellTold-append}
use Rattle.call_tree.specs.FrameTable.{with_name}
use Rattle.ring_collect.specs.checked.Tellers.{Tells, TellsOne, ending_of, records_of, told_by}
use Rattle.ring_collect.specs.NamesInOrder.{GrowsTo, with_stack}

pub tells_nothing : (old : List RingRecord) → Tells [] old old
tells_nothing old = record { stands = sym (append-nil (stands_for old)); well_told = λ w. w }

pub tells_on : (xs ys : List Item) (a b c : List RingRecord) → Tells xs a b → Tells ys b c → Tells (xs ++ ys) a c
tells_on xs ys a b c first second = record {
  stands = second.stands ∙ ap (λ s. s ++ ys) first.stands ∙ append_assoc (stands_for a) xs ys;
  well_told = λ w. second.well_told (first.well_told w);
}

-- names alone stand for no item
names_stand_for : (known stacks names : List (List ℕ)) → stands_for_after known stacks (map Name names) ≡ []
names_stand_for known stacks [] = refl
names_stand_for known stacks (name ∷ names) = names_stand_for (known ++ name ∷ []) stacks names

names_well_told : (known rows : ℕ) (names : List (List ℕ)) → IsWellToldAfter known rows (map Name names)
names_well_told known rows [] = tt
names_well_told known rows (name ∷ names) = names_well_told (known + 1) rows names

names_are_told : (names : List (List ℕ)) → names_told (map Name names) ≡ names
names_are_told [] = refl
names_are_told (name ∷ names) = ap (λ names. name ∷ names) (names_are_told names)

no_stack_is_told : (names : List (List ℕ)) → stacks_told (map Name names) ≡ []
no_stack_is_told [] = refl
no_stack_is_told (name ∷ names) = no_stack_is_told names

pub tells_names : (old : List RingRecord) (names : List (List ℕ)) → Tells [] old (old ++ map Name names)
tells_names old names = record {
  stands = stands_for-append old (map Name names) ∙ ap (λ items. stands_for old ++ items) (names_stand_for (names_told old) (stacks_told old) names);
  well_told = λ w. IsWellTold-append old (map Name names) w (names_well_told (length (names_told old)) (length (stacks_told old)) names);
}

-- a row of known numbers is the sample of their names
pub tells_row : (old : List RingRecord) (frames : List ℕ) (weight : ℕ) → All (λ number. number < length (names_told old)) frames
    → Tells (item.Sample (sample_by (names_told old) frames weight) ∷ []) old (old ++ Row frames weight ∷ [])
tells_row old frames weight known = record {
  stands = stands_for-append old (Row frames weight ∷ []);
  well_told = λ w. IsWellTold-append old (Row frames weight ∷ []) w (known, tt);
}

-- and so is a row that is told again
pub tells_again : (old : List RingRecord) (row weight : ℕ) → row < length (stacks_told old)
    → Tells (item.Sample (sample_by (names_told old) (stack_at (stacks_told old) row) weight) ∷ []) old (old ++ Again row weight ∷ [])
tells_again old row weight known = record {
  stands = stands_for-append old (Again row weight ∷ []);
  well_told = λ w. IsWellTold-append old (Again row weight ∷ []) w (known, tt);
}

-- each number of a stack has a name
abbrev AreNumbered : List (List ℕ) → List ℕ → Type 0
AreNumbered names stack = All (λ number. number < length names) stack

numbered_more : (names more : List (List ℕ)) (stack : List ℕ) → AreNumbered names stack → AreNumbered (names ++ more) stack
numbered_more names more stack h =
    All-weaker (λ number. number < length names) (λ number. number < length (names ++ more)) (λ n l. omega (arith, l, length-append names more)) stack h

stacks_numbered : (names stacks : List (List ℕ)) (records : List RingRecord) → All (AreNumbered names) stacks → IsWellToldAfter (length names) (length stacks) records
    → All (AreNumbered (names ++ names_told records)) (stacks ++ stacks_told records)
stacks_numbered names stacks [] known well =
    subst (All (AreNumbered (names ++ []))) (sym (append-nil stacks)) (All-weaker (AreNumbered names) (AreNumbered (names ++ [])) (numbered_more names []) stacks known)
stacks_numbered names stacks (Name name ∷ records) known well =
    let more : length names + 1 ≡ length (names ++ name ∷ []) = sym (length-append names (name ∷ [])) in
    subst (λ all. All (AreNumbered all) (stacks ++ stacks_told records)) (append_assoc names (name ∷ []) (names_told records))
    (stacks_numbered (names ++ name ∷ []) stacks records (All-weaker (AreNumbered names) (AreNumbered (names ++ name ∷ [])) (numbered_more names (name ∷ [])) stacks known) (subst (λ n. IsWellToldAfter n (length stacks) records) more well))
stacks_numbered names stacks (Row frames weight ∷ records) known well =
    let more : length stacks + 1 ≡ length (stacks ++ frames ∷ []) = sym (length-append stacks (frames ∷ [])) in
    subst (All (AreNumbered (names ++ names_told records))) (append_assoc stacks (frames ∷ []) (stacks_told records))
    (stacks_numbered names (stacks ++ frames ∷ []) records (All-push (AreNumbered names) stacks frames known well.0) (subst (λ n. IsWellToldAfter (length names) n records) more well.1))
stacks_numbered names stacks (Again row weight ∷ records) known well = stacks_numbered names stacks records known well.1
stacks_numbered names stacks (Close last ∷ records) known well = stacks_numbered names stacks records known well

-- the stack of a row that well told records told has known names
row_numbered : (records : List RingRecord) (row : ℕ) → IsWellTold records → row < length (stacks_told records) → AreNumbered (names_told records) (stack_at (stacks_told records) row)
row_numbered records row well known = stacks_numbered [] [] records (λ k d l. absurd (omega (arith, l))) well row [] known

-- so it brings no new name
with_known : (names : List (List ℕ)) (frames : List ℕ) → AreNumbered names frames → with_stack names (names_at names frames) ≡ names
with_known names frames known = by_cases frames (recursion_from_All (λ number. number < length names) frames known)
  where
    by_cases : (frames : List ℕ) → AllByRecursion (λ number. number < length names) frames → with_stack names (names_at names frames) ≡ names
    by_cases [] known = refl
    by_cases (number ∷ frames) known =
        ap (λ all. with_stack all (names_at names frames)) (with_name_known names (slice_index_or names number []) number (record { below = known.0; is = refl }))
        ∙ by_cases frames known.1

-- what a reader of rows gave is a sample, where it is no ending
pub steps_sample : (told told' : ToldRows) (old_rest new_rest : Rest) (step : RowStep) → StepsByRows told old_rest step told' new_rest → ending_of step ≡ None → (sample : Sample) × (old_rest.samples ≡ sample ∷ new_rest.samples)
steps_sample told told' old_rest new_rest (step.New names frames weight) steps more = (sample_by told'.names frames weight, steps.gives.samples)
steps_sample told told' old_rest new_rest (step.Again row weight) steps more = (sample_by told.names (stack_at told.stacks row) weight, steps.gives.samples)
steps_sample told told' old_rest new_rest (step.End ending) steps more = absurd (cc)

-- and where it is one, that is the ending of what there was, which had no sample
pub steps_end : (told told' : ToldRows) (old_rest new_rest : Rest) (step : RowStep) (ending : SourceEnd) → StepsByRows told old_rest step told' new_rest → ending_of step ≡ Some ending → (old_rest.samples ≡ []) × (old_rest.ending ≡ ending)
steps_end told told' old_rest new_rest (step.New names frames weight) ending steps is = absurd (cc)
steps_end told told' old_rest new_rest (step.Again row weight) ending steps is = absurd (cc)
steps_end told told' old_rest new_rest (step.End last) ending steps is = (steps.none, steps.last ∙ cc)

-- what a reader of rows gave is told by its records
pub tells_step : {may_go : ℕ → ℕ → Type 0} {source index : ℕ} {told told' : ToldRows} {old_rest new_rest : Rest} (step : RowStep) (old : List RingRecord) → StepsByRows told old_rest step told' new_rest → ending_of step ≡ None
    → may_go source index → told ≡ told_by old → IsWellTold old → TellsOne may_go source index old_rest new_rest told' old (old ++ records_of step)
tells_step {told = told} {told'} {old_rest} {new_rest} (step.New names frames weight) old steps more goes same well = record {
  sample = sample_by told'.names frames weight;
  first = steps.gives.samples;
  ending = steps.gives.ending;
  goes = goes;
  tells = subst (λ all. Tells (item.Sample (sample_by told'.names frames weight) ∷ []) old all) (append_assoc old (map Name names) (Row frames weight ∷ []))
      (tells_on [] (item.Sample (sample_by told'.names frames weight) ∷ []) old named_by (named_by ++ Row frames weight ∷ []) (tells_names old names) told_row);
  rows = ap (λ names. let rows : ToldRows = record { names = names; stacks = told'.stacks } in rows) all_names ∙ ap (λ stacks. let rows : ToldRows = record { names = names_told all; stacks = stacks } in rows) all_stacks;
  told = sym all_names ∙ steps.in_order ∙ ap (λ rows. with_stack rows.names (names_at told'.names frames)) same;
}
  where
    named_by : List RingRecord
    named_by = old ++ map Name names

    all : List RingRecord
    all = old ++ records_of (step.New names frames weight)

    names_before : told'.names ≡ names_told named_by
    names_before = steps.names_told ∙ ap (λ rows. rows.names ++ names) same ∙ sym (names_told-append old (map Name names) ∙ ap (λ more. names_told old ++ more) (names_are_told names))

    told_row : Tells (item.Sample (sample_by told'.names frames weight) ∷ []) named_by (named_by ++ Row frames weight ∷ [])
    told_row = subst (λ names. Tells (item.Sample (sample_by names frames weight) ∷ []) named_by (named_by ++ Row frames weight ∷ [])) (sym names_before)
        (tells_row named_by frames weight (subst (λ names. All (λ number. number < length names) frames) names_before steps.numbers))

    all_names : told'.names ≡ names_told all
    all_names = names_before ∙ sym (ap names_told (sym (append_assoc old (map Name names) (Row frames weight ∷ []))) ∙ names_told-append named_by (Row frames weight ∷ []) ∙ append-nil (names_told named_by))

    all_stacks : told'.stacks ≡ stacks_told all
    all_stacks = steps.stacks ∙ ap (λ rows. rows.stacks ++ frames ∷ []) same
        ∙ sym (ap stacks_told (sym (append_assoc old (map Name names) (Row frames weight ∷ []))) ∙ stacks_told-append named_by (Row frames weight ∷ [])
        ∙ ap (λ stacks. stacks ++ frames ∷ []) (stacks_told-append old (map Name names) ∙ ap (λ more. stacks_told old ++ more) (no_stack_is_told names) ∙ append-nil (stacks_told old)))
tells_step {told = told} {told'} {old_rest} {new_rest} (step.Again row weight) old steps more goes same well = record {
  sample = sample_by told.names (stack_at told.stacks row) weight;
  first = steps.gives.samples;
  ending = steps.gives.ending;
  goes = goes;
  tells = subst (λ rows. Tells (item.Sample (sample_by rows.names (stack_at rows.stacks row) weight) ∷ []) old (old ++ Again row weight ∷ [])) (sym same) (tells_again old row weight known);
  rows = steps.same ∙ same ∙ ap (λ names. let rows : ToldRows = record { names = names; stacks = stacks_told old } in rows) (sym all_names)
      ∙ ap (λ stacks. let rows : ToldRows = record { names = names_told (old ++ Again row weight ∷ []); stacks = stacks } in rows) (sym (stacks_told-append old (Again row weight ∷ []) ∙ append-nil (stacks_told old)));
  told = all_names ∙ sym (ap (λ rows. with_stack (names_told old) (names_at rows.names (stack_at rows.stacks row))) same ∙ with_known (names_told old) (stack_at (stacks_told old) row) (row_numbered old row well known));
}
  where
    known : row < length (stacks_told old)
    known = subst (λ rows. row < length rows.stacks) same steps.known

    all_names : names_told (old ++ Again row weight ∷ []) ≡ names_told old
    all_names = names_told-append old (Again row weight ∷ []) ∙ append-nil (names_told old)
tells_step (step.End ending) old steps more goes same well = absurd (cc)

-- the next number was given: the name is new
pub new_name : (old new : List (List ℕ)) (name : List ℕ) (n : ℕ) → new ≡ with_name old name → n < length new → n ≡ length old → new ≡ old ++ name ∷ []
new_name old new name n is below next = cases (list_any (bytes_eq name) old) refl
  where
    cases : (found : Bool) → list_any (bytes_eq name) old ≡ found → new ≡ old ++ name ∷ []
    cases true found = absurd (less (is ∙ ap (λ b. if b then old else old ++ name ∷ []) found))
      where
        less : new ≡ old → ⊥
        less same = let e : length new ≡ length old = ap length same in omega arith
    cases false found = is ∙ ap (λ b. if b then old else old ++ name ∷ []) found

-- an earlier number was given: the name is known
pub known_name : (old new : List (List ℕ)) (name : List ℕ) (n : ℕ) → new ≡ with_name old name → n < length new → n ≢ length old → slice_get new n ≡ Some name → new ≡ old
known_name old new name n is below other at = cases (list_any (bytes_eq name) old) refl
  where
    cases : (found : Bool) → list_any (bytes_eq name) old ≡ found → new ≡ old
    cases true found = is ∙ ap (λ b. if b then old else old ++ name ∷ []) found
    cases false found =
        let grown = is ∙ ap (λ b. if b then old else old ++ name ∷ []) found in
        let lengths : length new ≡ length old + 1 = ap length grown ∙ length-append old (name ∷ []) in
        let within : n < length old = omega arith in
        let there : get_or old n [] ≡ name = sym (get_or_append_left old (name ∷ []) [] n within) ∙ ap (λ names. get_or names n []) (sym grown) ∙ get_or_from_slice_get new n name [] at in
        is ∙ with_name_known old name n (record { below = within; is = there })

module _ (old new : List (List ℕ)) (grown : GrowsTo old new) where
  longer : (n : ℕ) → n < length old → n < length new
  longer n below = let e : length new ≡ length old + length grown.0 = ap length grown.1 ∙ length-append old grown.0 in omega arith

  pub known_grown : (numbers : List ℕ) → All (λ n. n < length old) numbers → All (λ n. n < length new) numbers
  known_grown numbers known = All-weaker (λ n. n < length old) (λ n. n < length new) longer numbers known

  name_grown : (n : ℕ) → n < length old → slice_index_or new n [] ≡ slice_index_or old n []
  name_grown n below = ap (λ names. get_or names n []) grown.1 ∙ get_or_append_left old grown.0 [] n below

  -- names that are known keep their numbers
  pub names_at_grown : (numbers : List ℕ) → All (λ n. n < length old) numbers → names_at new numbers ≡ names_at old numbers
  names_at_grown numbers known = by_cases numbers (recursion_from_All (λ n. n < length old) numbers known)
    where
      by_cases : (numbers : List ℕ) → AllByRecursion (λ n. n < length old) numbers → names_at new numbers ≡ names_at old numbers
      by_cases [] known = refl
      by_cases (n ∷ numbers) known = ap (λ name. name ∷ names_at new numbers) (name_grown n known.0) ∙ ap (λ names. slice_index_or old n [] ∷ names) (by_cases numbers known.1)

pub grown_further : (old more : List (List ℕ)) {middle new : List (List ℕ)} → middle ≡ old ++ more → GrowsTo middle new → GrowsTo old new
grown_further old more grew grown = (more ++ grown.0, grown.1 ∙ ap (λ names. names ++ grown.0) grew ∙ append_assoc old more grown.0)

-- the numbers so far and one more, which stands for this name
pub names_at_push : (old new : List (List ℕ)) (numbers : List ℕ) (n : ℕ) (name : List ℕ) (names : List (List ℕ)) → GrowsTo old new → All (λ k. k < length old) numbers
    → names_at old numbers ≡ names → slice_get new n ≡ Some name → names_at new (numbers ++ n ∷ []) ≡ names ++ name ∷ []
names_at_push old new numbers n name names grown known so_far at =
    map-append (λ k. slice_index_or new k []) numbers (n ∷ [])
    ∙ ap (λ front. front ++ slice_index_or new n [] ∷ []) (names_at_grown old new grown numbers known ∙ so_far)
    ∙ ap (λ last. names ++ last ∷ []) (get_or_from_slice_get new n name [] at)

pub known_push : (old new : List (List ℕ)) (numbers : List ℕ) (n : ℕ) (name : List ℕ) → GrowsTo old new → All (λ k. k < length old) numbers → slice_get new n ≡ Some name
    → All (λ k. k < length new) (numbers ++ n ∷ [])
known_push old new numbers n name grown known at =
    All-append (λ k. k < length new) numbers (n ∷ []) (known_grown old new grown numbers known)
    (All-cons (λ k. k < length new) n [] (slice_get_within new n name at) (All-nil (λ k. k < length new)))
