-- The first fault of a sample, check by check.
use Rattle.std.proofs.Common.{◌≡◌, [], ◌∷◌, ◌++◌, ℕ, ◌+◌, ◌<◌, ◌≤◌, ◌-◌, ◌^◌, min, List, length, Option, Some, None, true, false, refl, sym, ◌∙◌, ap, reverse, arith, length-append}
use Rattle.std.specs.Prelude.{flat_map, is_none, nat_lt, slice_index, unwrap_or, ◌==◌}
use Rattle.std.specs.List.{list_any}
use Rattle.std.proofs.lemmas.Grind.{common_steps, flat_map-append}
use Rattle.std.proofs.lemmas.List.{reverse-append}
use Rattle.sample_tables.specs.declared.samples.TheConstants.{FRAME_LIMIT, WEIGHT_LIMIT}
use Rattle.sample_tables.specs.declared.samples.Sample.{Sample}
use Rattle.stack_core.specs.declared.endings.ReadKind.TheVariants.{TooDeep, TotalTooLarge}
use Rattle.profile_messages.specs.Message.{first}
use Rattle.profile_messages.specs.Shapes.{faults_in, sample_shape}
use Rattle.profile_tables.specs.Samples.{SampleTables, location_ids, values_of, weight_of, stack_of, stack_of_ids, frames_of_ids, value_faults, id_faults_of, weight_faults, depth_faults, total_faults, sample_faults, sample_of}
use Rattle.profile_messages.proofs.FirstLemmas.{first-append_none, first-append_some}

-- what is known of a sample behind the first four checks
pub record Passes (tables : SampleTables) (sample values ids : List ℕ) (weight : ℕ) : Type 0 where
  pub message : first (faults_in sample_shape sample) ≡ None
  pub values_are : values ≡ values_of sample
  pub ids_are : ids ≡ location_ids sample
  pub count : length values ≡ tables.sample_types
  pub known : list_any (λ id. is_none (tables.frames id)) ids ≡ false
  pub weight_is : weight ≡ slice_index values (unwrap_or tables.chosen 0)
  pub positive : weight < 2 ^ 63

no_value_fault : (tables : SampleTables) (sample : List ℕ) → (length (values_of sample) == tables.sample_types) ≡ true → value_faults tables sample ≡ []
no_value_fault tables sample same = rw same refl

no_id_fault : (tables : SampleTables) (sample : List ℕ) → list_any (λ id. is_none (tables.frames id)) (location_ids sample) ≡ false → id_faults_of tables sample ≡ []
no_id_fault tables sample known = rw known refl

no_weight_fault : (tables : SampleTables) (sample : List ℕ) → nat_lt (weight_of tables.chosen sample) (2 ^ 63) ≡ true → weight_faults tables sample ≡ []
no_weight_fault tables sample positive = rw positive refl

same_length : (m n : ℕ) → m ≡ n → (m == n) ≡ true
same_length m n e = grind (arith, common_steps)

below : (m n : ℕ) → m < n → nat_lt m n ≡ true
below m n lt = grind (arith, common_steps)

pub not_below : (m n : ℕ) → n ≤ m → nat_lt m n ≡ false
not_below m n le = grind (arith, common_steps)

pub weight-passed : (tables : SampleTables) (sample values ids : List ℕ) (weight : ℕ) → Passes tables sample values ids weight → weight ≡ weight_of tables.chosen sample
weight-passed tables sample values ids weight passes = passes.weight_is ∙ ap (λ list. slice_index list (unwrap_or tables.chosen 0)) passes.values_are

passed : (tables : SampleTables) (sample values ids : List ℕ) (weight : ℕ) → Passes tables sample values ids weight → first (faults_in sample_shape sample ++ value_faults tables sample ++ id_faults_of tables sample ++ weight_faults tables sample) ≡ None
passed tables sample values ids weight passes =
    let v : value_faults tables sample ≡ [] =
    no_value_fault tables sample (same_length _ _ (ap (λ (list : List ℕ). length list) (sym passes.values_are) ∙ passes.count)) in
    let u : id_faults_of tables sample ≡ [] =
    no_id_fault tables sample (ap (list_any (λ id. is_none (tables.frames id))) (sym passes.ids_are) ∙ passes.known) in
    let n : weight_faults tables sample ≡ [] =
    no_weight_fault tables sample (ap (λ w. nat_lt w (2 ^ 63)) (sym (weight-passed tables sample values ids weight passes)) ∙ below weight (2 ^ 63) passes.positive) in
    let m = faults_in sample_shape sample in
    first-append_none (m ++ value_faults tables sample ++ id_faults_of tables sample) _
    (first-append_none (m ++ value_faults tables sample) _
    (first-append_none m _ passes.message ∙ ap first v) ∙ ap first u) ∙ ap first n

deep_fault : (tables : SampleTables) (sample : List ℕ) → nat_lt FRAME_LIMIT (length (stack_of tables.frames sample)) ≡ true → first (depth_faults tables sample) ≡ Some TooDeep
deep_fault tables sample deep = rw deep refl

no_deep_fault : (tables : SampleTables) (sample : List ℕ) → nat_lt FRAME_LIMIT (length (stack_of tables.frames sample)) ≡ false → first (depth_faults tables sample) ≡ None
no_deep_fault tables sample deep = rw deep refl

total_fault : (tables : SampleTables) (total : ℕ) (sample : List ℕ) → nat_lt WEIGHT_LIMIT (total + weight_of tables.chosen sample) ≡ true → first (total_faults tables total sample) ≡ Some TotalTooLarge
total_fault tables total sample large = rw large refl

pub no_total_fault : (tables : SampleTables) (total : ℕ) (sample : List ℕ) → nat_lt WEIGHT_LIMIT (total + weight_of tables.chosen sample) ≡ false → first (total_faults tables total sample) ≡ None
no_total_fault tables total sample large = rw large refl

-- as many frames in any order of the ids
pub length-frames_of_ids : (frames : ℕ → Option (List (List ℕ))) (ids : List ℕ) → length (stack_of_ids frames ids) ≡ length (frames_of_ids frames ids)
length-frames_of_ids frames [] = refl
length-frames_of_ids frames (id ∷ ids) =
    let f : ℕ → List (List ℕ) = λ other. unwrap_or (frames other) [] in
    let turned : length (flat_map f (reverse (id ∷ ids))) ≡ length (flat_map f (reverse ids)) + length (flat_map f (id ∷ [])) =
    ap (λ list. length (flat_map f list)) (reverse-append (id ∷ []) ids)
    ∙ ap (λ (list : List (List ℕ)). length list) (flat_map-append f (reverse ids) (id ∷ []))
    ∙ length-append (flat_map f (reverse ids)) (flat_map f (id ∷ [])) in
    let one : length (flat_map f (id ∷ [])) ≡ length (f id) + 0 = length-append (f id) [] in
    let all : length (flat_map f (id ∷ ids)) ≡ length (f id) + length (flat_map f ids) = length-append (f id) (flat_map f ids) in
    let before : length (flat_map f (reverse ids)) ≡ length (flat_map f ids) = length-frames_of_ids frames ids in
    omega arith

same-depth : (tables : SampleTables) (sample values ids : List ℕ) (weight : ℕ) → Passes tables sample values ids weight → length (stack_of tables.frames sample) ≡ length (frames_of_ids tables.frames ids)
same-depth tables sample values ids weight passes =
    ap (λ list. length (stack_of_ids tables.frames list)) (sym passes.ids_are) ∙ length-frames_of_ids tables.frames ids

-- a depth that is counted up to the greatest number
abbrev pub counted : SampleTables → List ℕ → ℕ
counted tables ids = min (length (frames_of_ids tables.frames ids)) (2 ^ 64 - 1)

pub too_deep : (tables : SampleTables) (total : ℕ) (sample values ids : List ℕ) (weight depth : ℕ) → Passes tables sample values ids weight → depth ≡ counted tables ids → FRAME_LIMIT < depth → first (sample_faults tables total sample) ≡ Some TooDeep
too_deep tables total sample values ids weight depth passes is deep =
    let same = same-depth tables sample values ids weight passes in
    first-append_some _ _ _ (first-append_none _ (depth_faults tables sample) (passed tables sample values ids weight passes)
    ∙ deep_fault tables sample (below FRAME_LIMIT (length (stack_of tables.frames sample)) (omega arith)))

behind_depth : (tables : SampleTables) (sample values ids : List ℕ) (weight depth : ℕ) → Passes tables sample values ids weight → depth ≡ counted tables ids → depth ≤ FRAME_LIMIT → first (faults_in sample_shape sample ++ value_faults tables sample ++ id_faults_of tables sample ++ weight_faults tables sample ++ depth_faults tables sample) ≡ None
behind_depth tables sample values ids weight depth passes is shallow =
    let same = same-depth tables sample values ids weight passes in
    first-append_none _ (depth_faults tables sample) (passed tables sample values ids weight passes)
    ∙ no_deep_fault tables sample (not_below FRAME_LIMIT (length (stack_of tables.frames sample)) (omega arith))

pub too_large : (tables : SampleTables) (total : ℕ) (sample values ids : List ℕ) (weight depth : ℕ) → Passes tables sample values ids weight → depth ≡ counted tables ids → depth ≤ FRAME_LIMIT → WEIGHT_LIMIT < total + weight → first (sample_faults tables total sample) ≡ Some TotalTooLarge
too_large tables total sample values ids weight depth passes is shallow large =
    first-append_none _ (total_faults tables total sample) (behind_depth tables sample values ids weight depth passes is shallow)
    ∙ total_fault tables total sample (ap (λ w. nat_lt WEIGHT_LIMIT (total + w)) (sym (weight-passed tables sample values ids weight passes)) ∙ below _ _ large)

pub no_fault : (tables : SampleTables) (total : ℕ) (sample values ids : List ℕ) (weight depth : ℕ) → Passes tables sample values ids weight → depth ≡ counted tables ids → depth ≤ FRAME_LIMIT → total + weight ≤ WEIGHT_LIMIT → first (sample_faults tables total sample) ≡ None
no_fault tables total sample values ids weight depth passes is shallow small =
    first-append_none _ (total_faults tables total sample) (behind_depth tables sample values ids weight depth passes is shallow)
    ∙ no_total_fault tables total sample (ap (λ w. nat_lt WEIGHT_LIMIT (total + w)) (sym (weight-passed tables sample values ids weight passes)) ∙ not_below _ _ small)

pub sample_is : (tables : SampleTables) (sample values ids : List ℕ) (weight : ℕ) (stack : List (List ℕ)) → Passes tables sample values ids weight → stack ≡ stack_of_ids tables.frames ids → (let read : Sample = record { stack = stack; weight = weight } in read) ≡ sample_of tables sample
sample_is tables sample values ids weight stack passes stack_is = λ i. record {
  stack = (stack_is ∙ ap (stack_of_ids tables.frames) passes.ids_are) i;
  weight = weight-passed tables sample values ids weight passes i;
}
