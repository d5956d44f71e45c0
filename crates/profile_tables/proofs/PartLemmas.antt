-- Samples that are read in parts, each with a total weight of its own, read as the whole.
use Rattle.std.proofs.Common.{◌≡◌, ℕ, zero, suc, ◌+◌, ◌≤◌, List, [], ◌∷◌, ◌++◌, map, take, drop, sum_by, All, Option, Some, None, refl, sym, ap, subst, ◌∙◌, arith}
use Rattle.std.proofs.lemmas.Grind.{flat_map-append}
use Rattle.std.proofs.lemmas.List.{append-nil, map-append, take-append-drop}
use Rattle.std.proofs.lemmas.List.Elements.{All-nil, All-cons, All-head, All-tail}
use Rattle.std.proofs.lemmas.List.Sums.{sum_by-append, sum_by-cons, sum_by_push}
use Rattle.sample_tables.specs.Samples.{total_weight}
use Rattle.sample_tables.specs.declared.samples.Sample.{Sample}
use Rattle.sample_tables.specs.declared.samples.TheConstants.{WEIGHT_LIMIT}
use Rattle.stack_core.specs.Parts.{ignored_of, samples_of_parts, joined, IsClean, ReadsInParts}
use Rattle.stack_core.specs.Reading.{Rest}
use Rattle.stack_core.specs.declared.endings.ReadKind.{ReadKind}
use Rattle.stack_core.specs.declared.endings.ReadFault.{ReadFault}
use Rattle.stack_core.specs.declared.endings.SourceEnd.TheVariants.{Clean, Fault}
use Rattle.profile_messages.specs.Message.{first, Content}
use Rattle.profile_messages.specs.Offsets.{found_at}
use Rattle.profile_messages.specs.Shapes.{faults_in, sample_shape}
use Rattle.profile_messages.proofs.FirstLemmas.{first-append_none, first-none-parts}
use Rattle.profile_tables.specs.declared.outline.Outline.{Outline}
use Rattle.profile_tables.specs.Samples.{SampleTables, weight_of, value_faults, id_faults_of, weight_faults, depth_faults, total_faults, sample_faults, sample_of, no_samples, with_sample, sample_then, read_samples}
use Rattle.profile_tables.specs.checked.Rests.{rest_from}
use Rattle.profile_tables.specs.checked.SeenOutline.{seen_outline}
use Rattle.profile_tables.proofs.SampleLemmas.{not_below, no_total_fault}

-- ---- the samples behind others

abbrev behind : List Sample → Rest → Rest
behind samples rest = record { samples = samples ++ rest.samples; ending = rest.ending }

after-step : (tables : SampleTables) (other : List Content) (fault : Option ReadKind) (at total n : ℕ) (sample : Sample) (one both : Rest)
    → (one.ending ≡ Clean n → both ≡ behind one.samples (read_samples tables (total + sample.weight + total_weight one.samples) other))
    → (sample_then fault at sample one).ending ≡ Clean n
    → sample_then fault at sample both ≡ behind (sample_then fault at sample one).samples (read_samples tables (total + total_weight (sample_then fault at sample one).samples) other)
after-step tables other None at total n sample one both more clean =
    let sum = sum_by-cons (λ (s : Sample). s.weight) sample one.samples in
    let same : total + sample.weight + total_weight one.samples ≡ total + total_weight (sample ∷ one.samples) = omega (arith, sum) in
    ap (with_sample sample) (more clean) ∙ ap (λ t. behind (sample ∷ one.samples) (read_samples tables t other)) same
after-step tables other (Some kind) at total n sample one both more clean = cc

after-clean : (tables : SampleTables) (one other : List Content) (total n : ℕ) → (read_samples tables total one).ending ≡ Clean n
    → read_samples tables total (one ++ other) ≡ behind (read_samples tables total one).samples (read_samples tables (total + total_weight (read_samples tables total one).samples) other)
after-clean tables [] other total n clean =
    let same : total ≡ total + 0 = omega arith in
    ap (λ t. read_samples tables t other) same
after-clean tables (sample ∷ one) other total n clean =
    after-step tables other (first (sample_faults tables total sample.bytes)) sample.at total n (sample_of tables sample.bytes) _ _
    (after-clean tables one other (total + weight_of tables.chosen sample.bytes) n) clean

-- ---- the same samples behind another total weight

fits-too : (tables : SampleTables) (a b : ℕ) (bytes : List ℕ) → first (sample_faults tables a bytes) ≡ None → b + weight_of tables.chosen bytes ≤ WEIGHT_LIMIT → first (sample_faults tables b bytes) ≡ None
fits-too tables a b bytes none fits =
    let before = faults_in sample_shape bytes ++ value_faults tables bytes ++ id_faults_of tables bytes ++ weight_faults tables bytes ++ depth_faults tables bytes in
    first-append_none before (total_faults tables b bytes) (first-none-parts before (total_faults tables a bytes) none).0
    ∙ no_total_fault tables b bytes (not_below WEIGHT_LIMIT (b + weight_of tables.chosen bytes) fits)

same-step : (tables : SampleTables) (a b at n : ℕ) (bytes : List ℕ) (fault : Option ReadKind) (here there : Rest) → first (sample_faults tables a bytes) ≡ fault
    → (here.ending ≡ Clean n → b + weight_of tables.chosen bytes + total_weight here.samples ≤ WEIGHT_LIMIT → there ≡ here)
    → (sample_then fault at (sample_of tables bytes) here).ending ≡ Clean n
    → b + total_weight (sample_then fault at (sample_of tables bytes) here).samples ≤ WEIGHT_LIMIT
    → sample_then (first (sample_faults tables b bytes)) at (sample_of tables bytes) there ≡ sample_then fault at (sample_of tables bytes) here
same-step tables a b at n bytes None here there is more clean fits =
    let sample : Sample = sample_of tables bytes in
    let sum = sum_by-cons (λ (s : Sample). s.weight) sample here.samples in
    let all : b + weight_of tables.chosen bytes + total_weight here.samples ≤ WEIGHT_LIMIT = omega (arith, sum, fits) in
    let one : b + weight_of tables.chosen bytes ≤ WEIGHT_LIMIT = omega (arith, all) in
    ap (λ o. sample_then o at sample there) (fits-too tables a b bytes is one)
    ∙ ap (with_sample sample) (more clean all)
same-step tables a b at n bytes (Some kind) here there is more clean fits = cc

same-read : (tables : SampleTables) (samples : List Content) (a b n : ℕ) → (read_samples tables a samples).ending ≡ Clean n → b + total_weight (read_samples tables a samples).samples ≤ WEIGHT_LIMIT → read_samples tables b samples ≡ read_samples tables a samples
same-read tables [] a b n clean fits = refl
same-read tables (sample ∷ samples) a b n clean fits =
    same-step tables a b sample.at n sample.bytes (first (sample_faults tables a sample.bytes)) _ _ refl
    (same-read tables samples (a + weight_of tables.chosen sample.bytes) (b + weight_of tables.chosen sample.bytes) n) clean fits

-- ---- no sample is ignored

none-step : (fault : Option ReadKind) (at n : ℕ) (sample : Sample) (rest : Rest) → (rest.ending ≡ Clean n → n ≡ 0) → (sample_then fault at sample rest).ending ≡ Clean n → n ≡ 0
none-step None at n sample rest more clean = more clean
none-step (Some kind) at n sample rest more clean = cc

none-ignored : (tables : SampleTables) (samples : List Content) (total n : ℕ) → (read_samples tables total samples).ending ≡ Clean n → n ≡ 0
none-ignored tables [] total n clean = cc
none-ignored tables (sample ∷ samples) total n clean =
    none-step (first (sample_faults tables total sample.bytes)) sample.at n (sample_of tables sample.bytes) _
    (none-ignored tables samples (total + weight_of tables.chosen sample.bytes) n) clean

-- ---- one part more

All-parts : {X : Type 0} (P : X → Type 0) (xs ys : List X) → All P (xs ++ ys) → All P xs × All P ys
All-parts P [] ys all = (All-nil P, all)
All-parts P (x ∷ xs) ys all =
    let rest = All-parts P xs ys (All-tail P x (xs ++ ys) all) in
    (All-cons P x xs (All-head P x (xs ++ ys) all) rest.0, rest.1)

reads-more : (tables : SampleTables) (one other : List Content) (rests : List Rest) → ReadsInParts (read_samples tables 0 one) rests → ReadsInParts (read_samples tables 0 (one ++ other)) (rests ++ read_samples tables 0 other ∷ [])
reads-more tables one other rests before clean fits =
    let last : Rest = read_samples tables 0 other in
    let parts = All-parts IsClean rests (last ∷ []) clean in
    let last_clean : IsClean last = All-head IsClean last [] parts.1 in
    let samples : samples_of_parts (rests ++ last ∷ []) ≡ samples_of_parts rests ++ last.samples =
    flat_map-append (λ (part : Rest). part.samples) rests (last ∷ []) ∙ ap (λ list. samples_of_parts rests ++ list) (append-nil last.samples) in
    let sum : total_weight (samples_of_parts (rests ++ last ∷ [])) ≡ total_weight (samples_of_parts rests) + total_weight last.samples =
    ap total_weight samples ∙ sum_by-append (λ (s : Sample). s.weight) (samples_of_parts rests) last.samples in
    let so_far : read_samples tables 0 one ≡ joined rests = before parts.0 (omega (arith, fits, sum)) in
    let heads : (read_samples tables 0 one).samples ≡ samples_of_parts rests = ap (λ (r : Rest). r.samples) so_far in
    let ends = ap (λ (r : Rest). r.ending) so_far in
    let weight : total_weight (read_samples tables 0 one).samples ≡ total_weight (samples_of_parts rests) = ap total_weight heads in
    let moved : read_samples tables (0 + total_weight (read_samples tables 0 one).samples) other ≡ last =
    same-read tables other 0 (0 + total_weight (read_samples tables 0 one).samples) last_clean.0 last_clean.1 (omega (arith, fits, sum, weight)) in
    let whole : read_samples tables 0 (one ++ other) ≡ behind (read_samples tables 0 one).samples last =
    after-clean tables one other 0 _ ends ∙ ap (behind (read_samples tables 0 one).samples) moved in
    let f : Rest → ℕ = λ (part : Rest). ignored_of part.ending in
    let none : last_clean.0 ≡ 0 = none-ignored tables other 0 last_clean.0 last_clean.1 in
    let none_before : sum_by f rests ≡ 0 = none-ignored tables one 0 (sum_by f rests) ends in
    let none_last : ignored_of last.ending ≡ last_clean.0 = ap ignored_of last_clean.1 in
    let push : sum_by f (rests ++ last ∷ []) ≡ sum_by f rests + ignored_of last.ending = sum_by_push f rests last in
    let count : last_clean.0 ≡ sum_by f (rests ++ last ∷ []) = omega (arith, push, none, none_before, none_last) in
    λ i. record {
      samples = (ap (λ (r : Rest). r.samples) whole ∙ (ap (λ list. list ++ last.samples) heads ∙ sym samples)) i;
      ending = (ap (λ (r : Rest). r.ending) whole ∙ (last_clean.1 ∙ ap Clean count)) i;
    }

-- ---- parts of the places

take_twice : (given past : ℕ) (places : List ℕ) → given ≤ past → take given (take past places) ≡ take given places
take_twice zero past places le = refl
take_twice (suc given) zero places le = absurd (omega arith)
take_twice (suc given) (suc past) [] le = refl
take_twice (suc given) (suc past) (place ∷ places) le = ap (λ list. place ∷ list) (take_twice given past places (omega arith))

cut-at : (given past : ℕ) (places : List ℕ) → given ≤ past → take given places ++ drop given (take past places) ≡ take past places
cut-at given past places le = ap (λ list. list ++ drop given (take past places)) (sym (take_twice given past places le)) ∙ take-append-drop given (take past places)

-- the part behind the parts before it
pub part-more : (file : List ℕ) (outline : Outline) (given past : ℕ) (rests : List Rest) → given ≤ past → ReadsInParts (rest_from file outline given 0 0) rests → ReadsInParts (rest_from file outline past 0 0) (rests ++ rest_from file outline past given 0 ∷ [])
part-more file outline given past rests le before =
    let tables : SampleTables = seen_outline outline in
    let places : List ℕ = outline.samples.items in
    let one : List Content = map (found_at file) (take given places) in
    let other : List Content = map (found_at file) (drop given (take past places)) in
    let same : one ++ other ≡ map (found_at file) (take past places) =
    sym (map-append (found_at file) (take given places) (drop given (take past places))) ∙ ap (map (found_at file)) (cut-at given past places le) in
    subst (λ contents. ReadsInParts (read_samples tables 0 contents) (rests ++ read_samples tables 0 other ∷ [])) same
    (reads-more tables one other rests before)

-- a part with a fault says nothing
pub fault-alone : (whole rest : Rest) (fault : ReadFault) → rest ≡ no_samples fault → ReadsInParts whole (rest ∷ [])
fault-alone whole rest fault is clean fits =
    let here : IsClean rest = All-head IsClean rest [] clean in
    let none : Fault fault ≡ Clean here.0 = sym (ap (λ (r : Rest). r.ending) is) ∙ here.1 in
    cc
