-- The rest of a file, sample by sample.
use Rattle.std.proofs.Common.{◌≡◌, [], ◌∷◌, ◌++◌, ℕ, zero, suc, ◌+◌, ◌<◌, ◌≤◌, List, length, Option, Some, None, Bool, true, false, cond, refl, sym, ◌∙◌, ap, subst, drop, get_or, map, add-one, drop-cons, arith}
use Rattle.std.specs.Prelude.{nat_lt, sum_by, filter_map}
use Rattle.std.specs.List.{AllByRecursion, cons_option}
use Rattle.std.proofs.lemmas.Grind.{common_steps}
use Rattle.std.proofs.lemmas.List.Recursion.{is_sum_by}
use Rattle.sample_tables.specs.declared.samples.TheConstants.{FRAME_LIMIT, WEIGHT_LIMIT}
use Rattle.sample_tables.specs.declared.samples.Sample.{Sample}
use Rattle.stack_core.specs.declared.endings.ReadKind.{ReadKind}
use Rattle.stack_core.specs.declared.endings.ReadKind.TheVariants.{TooDeep, TotalTooLarge}
use Rattle.stack_core.specs.declared.endings.ReadFault.{ReadFault}
use Rattle.stack_core.specs.declared.endings.SourceEnd.TheVariants.{Fault}
use Rattle.stack_core.specs.Reading.{Rest, IsSourceLimited}
use Rattle.sample_tables.specs.Samples.{IsLimited}
use Rattle.run_options.specs.declared.choices.Pick.{Pick}
use Rattle.run_options.specs.declared.choices.Naming.{Naming}
use Rattle.wire_fields.specs.Reading.{fields_of}
use Rattle.profile_messages.specs.Message.{first, Content, content_of}
use Rattle.profile_messages.specs.Shapes.{faults_in, sample_shape}
use Rattle.profile_messages.specs.Tables.{samples_of}
use Rattle.profile_messages.specs.Offsets.{offset_of, content_at, found_at}
use Rattle.profile_tables.specs.Samples.{SampleTables, tables_of, weight_of, stack_of, value_faults, id_faults_of, weight_faults, depth_faults, total_faults, sample_faults, sample_of, with_sample, sample_then, read_samples, rest_of, read_pprof}
use Rattle.profile_messages.specs.FileFaults.{file_faults}
use Rattle.profile_tables.specs.checked.Rests.{ended}
use Rattle.profile_messages.proofs.FirstLemmas.{first-none-parts}
use Rattle.profile_messages.proofs.OffsetLemmas.{found-samples, few-fields}

pub start_is : (file : List ℕ) (pick : Pick) (naming : Naming) (tables : SampleTables) (places : List ℕ) → first (file_faults file pick) ≡ None → tables ≡ tables_of file pick naming → places ≡ map offset_of (samples_of file) → read_samples tables 0 (map (found_at file) (drop 0 places)) ≡ read_pprof file pick naming
start_is file pick naming tables places none tables_are places_are =
    ap (λ list. read_samples tables 0 (map (found_at file) list)) places_are
    ∙ ap (read_samples tables 0) (found-samples file)
    ∙ ap (λ t. read_samples t 0 (samples_of file)) tables_are
    ∙ sym (ap (λ o. rest_of o (read_samples (tables_of file pick naming) 0 (samples_of file))) none)

places-at : (places : List ℕ) (k : ℕ) → k < length places → drop k places ≡ get_or places k 0 ∷ drop (k + 1) places
places-at places k lt = drop-cons places k 0 lt ∙ ap (λ n. get_or places k 0 ∷ drop n places) (sym (add-one k))

pub next_is : (file : List ℕ) (tables : SampleTables) (places : List ℕ) (next total at : ℕ) (sample : Sample) → next < length places → at ≡ get_or places next 0 → first (sample_faults tables total (content_at file at)) ≡ None → sample ≡ sample_of tables (content_at file at) → read_samples tables total (map (found_at file) (drop next places)) ≡ with_sample sample (read_samples tables (total + sample.weight) (map (found_at file) (drop (next + 1) places)))
next_is file tables places next total at sample lt at_is none sample_is =
    let others : List Content = map (found_at file) (drop (next + 1) places) in
    let bytes : List ℕ = content_at file at in
    ap (λ list. read_samples tables total (map (found_at file) list)) (places-at places next lt ∙ ap (λ n. n ∷ drop (next + 1) places) (sym at_is))
    ∙ ap (λ o. sample_then o at (sample_of tables bytes) (read_samples tables (total + weight_of tables.chosen bytes) others)) none
    ∙ ap (λ (read : Sample). with_sample read (read_samples tables (total + read.weight) others)) (sym sample_is)

pub fault_is : (file : List ℕ) (tables : SampleTables) (places : List ℕ) (next total at : ℕ) (kind : ReadKind) → next < length places → at ≡ get_or places next 0 → first (sample_faults tables total (content_at file at)) ≡ Some kind → read_samples tables total (map (found_at file) (drop next places)) ≡ ended (Fault (record { kind = kind; at = at }))
fault_is file tables places next total at kind lt at_is fault =
    let others : List Content = map (found_at file) (drop (next + 1) places) in
    let bytes : List ℕ = content_at file at in
    ap (λ list. read_samples tables total (map (found_at file) list)) (places-at places next lt ∙ ap (λ n. n ∷ drop (next + 1) places) (sym at_is))
    ∙ ap (λ o. sample_then o at (sample_of tables bytes) (read_samples tables (total + weight_of tables.chosen bytes) others)) fault

-- ---- the limits

none-means : (b : Bool) (kind : ReadKind) → first (cond b (kind ∷ []) []) ≡ None → b ≡ false
none-means true kind none = cc
none-means false kind none = refl

at_most : (m n : ℕ) → nat_lt m n ≡ false → n ≤ m
at_most m n is = grind (arith, common_steps)

-- what has no fault stays within the limits
pub within : (tables : SampleTables) (total : ℕ) (sample : List ℕ) → first (sample_faults tables total sample) ≡ None → (length (stack_of tables.frames sample) ≤ FRAME_LIMIT) × (total + weight_of tables.chosen sample ≤ WEIGHT_LIMIT)
within tables total sample none =
    let parts = first-none-parts (faults_in sample_shape sample ++ value_faults tables sample ++ id_faults_of tables sample ++ weight_faults tables sample ++ depth_faults tables sample) (total_faults tables total sample) none in
    let before = first-none-parts (faults_in sample_shape sample ++ value_faults tables sample ++ id_faults_of tables sample ++ weight_faults tables sample) (depth_faults tables sample) parts.0 in (
      at_most _ _ (none-means (nat_lt FRAME_LIMIT (length (stack_of tables.frames sample))) TooDeep before.1),
      at_most _ _ (none-means (nat_lt WEIGHT_LIMIT (total + weight_of tables.chosen sample)) TotalTooLarge parts.1),
    )

pub limited : (tables : SampleTables) (total : ℕ) (bytes : List ℕ) (sample : Sample) → first (sample_faults tables total bytes) ≡ None → sample ≡ sample_of tables bytes → IsLimited sample × (total + sample.weight ≤ WEIGHT_LIMIT)
limited tables total bytes sample none is =
    let h = within tables total bytes none in
    let weighs : total + weight_of tables.chosen bytes ≤ WEIGHT_LIMIT = h.1 in
    subst (λ (s : Sample). IsLimited s × (total + s.weight ≤ WEIGHT_LIMIT)) (sym is) (record { depth = h.0; weight = omega arith }, h.1)

abbrev pub weight_sum : List Sample → ℕ
weight_sum [] = 0
weight_sum (sample ∷ samples) = sample.weight + weight_sum samples

pub record AreLimited (total : ℕ) (samples : List Sample) : Type 0 where
  pub each : AllByRecursion IsLimited samples
  pub sum : total + weight_sum samples ≤ WEIGHT_LIMIT

limited-step : (o : Option ReadKind) (tables : SampleTables) (total at : ℕ) (bytes : List ℕ) (others : Rest) → total ≤ WEIGHT_LIMIT → first (sample_faults tables total bytes) ≡ o → ((total + weight_of tables.chosen bytes ≤ WEIGHT_LIMIT) → AreLimited (total + weight_of tables.chosen bytes) others.samples) → AreLimited total (sample_then o at (sample_of tables bytes) others).samples
limited-step None tables total at bytes others le is more =
    let h = limited tables total bytes (sample_of tables bytes) is refl in
    let later = more h.1 in
    let sum : total + weight_of tables.chosen bytes + weight_sum others.samples ≤ WEIGHT_LIMIT = later.sum in
    record { each = (h.0, later.each); sum = omega arith }
limited-step (Some kind) tables total at bytes others le is more = record { each = tt; sum = omega arith }

all-limited : (tables : SampleTables) (total : ℕ) (samples : List Content) → total ≤ WEIGHT_LIMIT → AreLimited total (read_samples tables total samples).samples
all-limited tables total [] le = record { each = tt; sum = omega arith }
all-limited tables total (sample ∷ samples) le =
    limited-step (first (sample_faults tables total sample.bytes)) tables total sample.at sample.bytes _ le refl
    (all-limited tables (total + weight_of tables.chosen sample.bytes) samples)

file-limited : (o : Option ReadFault) (rest : Rest) → AreLimited 0 rest.samples → AreLimited 0 (rest_of o rest).samples
file-limited None rest is = is
file-limited (Some fault) rest is = record { each = tt; sum = omega arith }

weight_sum-is : (samples : List Sample) → weight_sum samples ≡ sum_by (λ sample. sample.weight) samples
weight_sum-is samples = is_sum_by weight_sum (λ sample. sample.weight) refl (λ _ _. refl) samples

all-at : (samples : List Sample) → AllByRecursion IsLimited samples → (k : ℕ) (d : Sample) → k < length samples → IsLimited (get_or samples k d)
all-at [] all k d lt = absurd (omega arith)
all-at (sample ∷ samples) all zero d lt = all.0
all-at (sample ∷ samples) all (suc k) d lt = all-at samples all.1 k d (omega arith)

source-limited : (samples : List Sample) → AreLimited 0 samples → IsSourceLimited samples
source-limited samples is =
    let sum : weight_sum samples ≡ sum_by (λ sample. sample.weight) samples = weight_sum-is samples in
    let le : 0 + weight_sum samples ≤ WEIGHT_LIMIT = is.sum in
    record { each = λ k d lt. all-at samples is.each k d lt; total = omega (arith, sum, le) }

-- any samples that are read
pub read-limited : (tables : SampleTables) (samples : List Content) → IsSourceLimited (read_samples tables 0 samples).samples
read-limited tables samples = source-limited (read_samples tables 0 samples).samples (all-limited tables 0 samples (omega arith))

-- the samples of any file
pub pprof-limited : (file : List ℕ) (pick : Pick) (naming : Naming) → IsSourceLimited (read_pprof file pick naming).samples
pprof-limited file pick naming =
    source-limited (read_pprof file pick naming).samples
    (file-limited (first (file_faults file pick)) _ (all-limited (tables_of file pick naming) 0 (samples_of file) (omega arith)))

-- ---- no more samples than bytes

few-step : (o : Option ReadKind) (at : ℕ) (sample : Sample) (others : Rest) (n : ℕ) → length others.samples ≤ n → length (sample_then o at sample others).samples ≤ suc n
few-step None at sample others n le = omega arith
few-step (Some kind) at sample others n le = omega arith

pub few-read : (tables : SampleTables) (total : ℕ) (samples : List Content) → length (read_samples tables total samples).samples ≤ length samples
few-read tables total [] = omega arith
few-read tables total (sample ∷ samples) =
    few-step (first (sample_faults tables total sample.bytes)) sample.at (sample_of tables sample.bytes) _ (length samples) (few-read tables (total + weight_of tables.chosen sample.bytes) samples)

few-option : {A : Type 0} (o : Option A) (xs : List A) (n : ℕ) → length xs ≤ n → length (cons_option o xs) ≤ suc n
few-option None xs n le = omega arith
few-option (Some x) xs n le = omega arith

few-filter_map : {A B : Type 0} (f : A → Option B) (xs : List A) → length (filter_map f xs) ≤ length xs
few-filter_map f [] = omega arith
few-filter_map f (x ∷ xs) = few-option (f x) _ (length xs) (few-filter_map f xs)

few-of-file : (o : Option ReadFault) (rest : Rest) (n : ℕ) → length rest.samples ≤ n → length (rest_of o rest).samples ≤ n
few-of-file None rest n le = le
few-of-file (Some fault) rest n le = omega arith

pub few-pprof : (file : List ℕ) (pick : Pick) (naming : Naming) → length (read_pprof file pick naming).samples ≤ length file
few-pprof file pick naming =
    few-of-file (first (file_faults file pick)) _ (length file)
    (let a = few-read (tables_of file pick naming) 0 (samples_of file) in
    let b = few-fields file in
    let d : length (samples_of file) ≤ length (fields_of file).items = few-filter_map (content_of 2) (fields_of file).items in omega (arith, a, b, d))
