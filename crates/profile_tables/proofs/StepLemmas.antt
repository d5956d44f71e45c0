-- The next sample by rows: told before, or told now.
use Rattle.std.proofs.Common.{◌≡◌, ◌∷◌, ◌++◌, [], ℕ, ◌+◌, ◌<◌, ◌≤◌, List, length, map, Option, Some, None, Bool, true, false, cond, get_or, drop, refl, sym, ◌∙◌, ap, subst, arith}
use Rattle.std.specs.Prelude.{is_none, IfSome}
use Rattle.std.specs.List.{list_any}
use Rattle.wire_fields.specs.declared.fault.WireFault.{WireFault}
use Rattle.wire_fields.specs.Reading.{numbers_of}
use Rattle.stack_core.specs.declared.endings.ReadKind.TheVariants.{UnknownLocation}
use Rattle.sample_tables.specs.declared.samples.Sample.{Sample}
use Rattle.sample_tables.specs.declared.samples.TheConstants.{FRAME_LIMIT, WEIGHT_LIMIT}
use Rattle.stack_core.specs.Reading.{Rest}
use Rattle.std.proofs.lemmas.List.{length-map}
use Rattle.sample_tables.specs.Rows.{name_at, ToldRows, stack_at}
use Rattle.stack_core.specs.NamesInOrder.{with_stack}
use Rattle.stack_core.specs.Records.{names_at}
use Rattle.stack_core.specs.RowReading.{Gives, TellsNew}
use Rattle.profile_tables.specs.declared.frames.Frames.{Frames}
use Rattle.profile_messages.specs.declared.messages.Span.{Span}
use Rattle.profile_tables.specs.declared.fronts.Front.{Front}
use Rattle.profile_tables.specs.declared.outline.Outline.{Outline}
use Rattle.profile_tables.specs.declared.row_steps.KnownRow.{KnownRow}
use Rattle.profile_tables.specs.declared.tellers.Teller.{Teller}
use Rattle.profile_messages.specs.Message.{first}
use Rattle.profile_messages.specs.Shapes.{faults_in, sample_shape, kinds_of_fault}
use Rattle.profile_tables.specs.Samples.{SampleTables, location_ids, values_of, weight_of, stack_of, stack_of_ids, value_faults, id_faults_of, weight_faults, depth_faults, total_faults, sample_faults, sample_of, read_samples}
use Rattle.profile_tables.specs.checked.Frames.{frames_at}
use Rattle.profile_tables.specs.checked.Fronts.{bytes_at, IsFront}
use Rattle.profile_messages.specs.Offsets.{content_at, found_at}
use Rattle.profile_tables.specs.checked.Tellers.{told_of, IsTeller, IsStackOf, IsRunOf, TellsStack}
use Rattle.profile_tables.specs.checked.RowSteps.{IsKnownBy}
use Rattle.profile_tables.specs.checked.SeenOutline.{seen_outline}
use Rattle.profile_messages.proofs.FirstLemmas.{first-none-parts}
use Rattle.profile_tables.proofs.RestLemmas.{next_is, within}
use Rattle.profile_tables.proofs.SampleLemmas.{Passes, counted, no_fault, length-frames_of_ids}

-- ---- what a sample without a fault tells

none_there : (b : Bool) → first (cond b (UnknownLocation ∷ []) []) ≡ None → b ≡ false
none_there true none = cc
none_there false none = refl

no_wire_fault : (fault : Option WireFault) → first (kinds_of_fault fault) ≡ None → fault ≡ None
no_wire_fault None none = refl
no_wire_fault (Some fault) none = cc

-- the faults of the fields and of the ids
record EarlyParts (tables : SampleTables) (sample : List ℕ) : Type 0 where
  message : first (faults_in sample_shape sample) ≡ None
  ids : first (id_faults_of tables sample) ≡ None

early-parts : (tables : SampleTables) (total : ℕ) (sample : List ℕ) → first (sample_faults tables total sample) ≡ None → EarlyParts tables sample
early-parts tables total sample none =
    let fields = faults_in sample_shape sample in
    let values = value_faults tables sample in
    let ids = id_faults_of tables sample in
    let weights = weight_faults tables sample in
    let depths = depth_faults tables sample in
    let before_total = first-none-parts (fields ++ values ++ ids ++ weights ++ depths) (total_faults tables total sample) none in
    let before_depth = first-none-parts (fields ++ values ++ ids ++ weights) depths before_total.0 in
    let before_weight = first-none-parts (fields ++ values ++ ids) weights before_depth.0 in
    let before_ids = first-none-parts (fields ++ values) ids before_weight.0 in
    let before_values = first-none-parts fields values before_ids.0 in
    record { message = before_values.0; ids = before_ids.1 }

pub ids-known : (tables : SampleTables) (total : ℕ) (sample ids : List ℕ) → first (sample_faults tables total sample) ≡ None → ids ≡ location_ids sample → list_any (λ id. is_none (tables.frames id)) ids ≡ false
ids-known tables total sample ids none is =
    ap (list_any (λ id. is_none (tables.frames id))) is
    ∙ none_there (list_any (λ id. is_none (tables.frames id)) (location_ids sample)) (early-parts tables total sample none).ids

pub depth-limit : (tables : SampleTables) (total : ℕ) (sample ids : List ℕ) → first (sample_faults tables total sample) ≡ None → ids ≡ location_ids sample → length (stack_of_ids tables.frames ids) ≤ FRAME_LIMIT
depth-limit tables total sample ids none is =
    subst (λ (list : List ℕ). length (stack_of_ids tables.frames list) ≤ FRAME_LIMIT) (sym is) (within tables total sample none).0

-- the run of a front spells the ids of a sample without a fault
pub run-of-front : (file : List ℕ) (at : ℕ) (tables : SampleTables) (run : Span) (weight total : ℕ) (ids : List ℕ) → IsFront file at tables run weight → first (sample_faults tables total (content_at file at)) ≡ None → ids ≡ location_ids (content_at file at) → IsRunOf file ids run
run-of-front file at tables run weight total ids front none is = record {
  order = front.order;
  within = front.within;
  no_fault = no_wire_fault (numbers_of (bytes_at file run)).fault (sym front.faults ∙ (early-parts tables total (content_at file at) none).message);
  spells = sym front.ids ∙ sym is;
}

-- ---- a sample whose stack was told

module _ (file : List ℕ) (at : ℕ) (tables : SampleTables) (frames : Frames) (told : ToldRows) (run : Span) (weight total row : ℕ) (front : IsFront file at tables run weight) (is : IsStackOf frames told (bytes_at file run) row) (seen : tables.frames ≡ frames_at frames) (fits : total + weight ≤ WEIGHT_LIMIT) where
  known_ids : list_any (λ id. is_none (tables.frames id)) (location_ids (content_at file at)) ≡ false
  known_ids =
      ap (list_any (λ id. is_none (tables.frames id))) front.ids
      ∙ ap (λ at_id. list_any (λ id. is_none (at_id id)) (numbers_of (bytes_at file run)).items) seen
      ∙ is.known

  depth_of : length (stack_of_ids tables.frames (location_ids (content_at file at))) ≤ FRAME_LIMIT
  depth_of =
      subst (λ (list : List ℕ). length (stack_of_ids tables.frames list) ≤ FRAME_LIMIT) (sym front.ids)
      (subst (λ (at_id : ℕ → Option (List (List ℕ))). length (stack_of_ids at_id (numbers_of (bytes_at file run)).items) ≤ FRAME_LIMIT) (sym seen) is.depth)

  passes : Passes tables (content_at file at) (values_of (content_at file at)) (location_ids (content_at file at)) weight
  passes = record {
    message = front.faults ∙ ap (λ fault. first (kinds_of_fault fault)) is.no_fault;
    values_are = refl;
    ids_are = refl;
    count = front.count;
    known = known_ids;
    weight_is = front.weight_is;
    positive = omega (arith, fits);
  }

  pub again-none : first (sample_faults tables total (content_at file at)) ≡ None
  again-none =
      let same = length-frames_of_ids tables.frames (location_ids (content_at file at)) in
      let depth = depth_of in
      no_fault tables total (content_at file at) (values_of (content_at file at)) (location_ids (content_at file at)) weight
      (counted tables (location_ids (content_at file at))) passes refl
      (omega (arith, same, depth)) fits

  pub again-stack : names_at told.names (stack_at told.stacks row) ≡ stack_of tables.frames (content_at file at)
  again-stack =
      is.named
      ∙ ap (λ at_id. stack_of_ids at_id (numbers_of (bytes_at file run)).items) (sym seen)
      ∙ ap (stack_of_ids tables.frames) (sym front.ids)

-- a sample without a fault, whose stack was told by this number
pub record IsAgain (tables : SampleTables) (told : ToldRows) (total : ℕ) (sample : List ℕ) (known : KnownRow) : Type 0 where
  pub none : first (sample_faults tables total sample) ≡ None
  pub was_told : known.row < length told.stacks
  pub stack : names_at told.names (stack_at told.stacks known.row) ≡ stack_of tables.frames sample
  pub weight_is : known.weight ≡ weight_of tables.chosen sample
  pub fits : total + known.weight ≤ WEIGHT_LIMIT

pub known-again : (file : List ℕ) (at : ℕ) (outline : Outline) (teller : Teller) (front : Option Front) (total : ℕ) (known : KnownRow) → IfSome front (λ front. IsFront file at (seen_outline outline) front.run front.weight) → IsKnownBy file teller front total known → IsTeller file outline.frames teller → IsAgain (seen_outline outline) (told_of teller) total (content_at file at) known
known-again file at outline teller None total known front is all = absurd is
known-again file at outline teller (Some it) total known front is all =
    let stack = is.spells outline.frames all in
    let fits : total + it.weight ≤ WEIGHT_LIMIT = let limit = is.total_limit in let same = is.weight_is in omega (arith, limit, same) in
    record {
      none = again-none file at (seen_outline outline) outline.frames (told_of teller) it.run it.weight total known.row front stack refl fits;
      was_told = stack.was_told;
      stack = again-stack file at (seen_outline outline) outline.frames (told_of teller) it.run it.weight total known.row front stack refl fits;
      weight_is = is.weight_is ∙ front.weight_is;
      fits = is.total_limit;
    }

-- ---- the rest behind a sample

pub gives-next : (file : List ℕ) (tables : SampleTables) (places : List ℕ) (next total at : ℕ) (stack : List (List ℕ)) (weight : ℕ) → next < length places → at ≡ get_or places next 0 → first (sample_faults tables total (content_at file at)) ≡ None → stack ≡ stack_of tables.frames (content_at file at) → weight ≡ weight_of tables.chosen (content_at file at) → Gives (record { stack = stack; weight = weight }) (read_samples tables total (map (found_at file) (drop next places))) (read_samples tables (total + weight) (map (found_at file) (drop (next + 1) places)))
gives-next file tables places next total at stack weight lt at_is none stack_is weight_is =
    let sample : Sample = record { stack = stack; weight = weight } in
    let same : sample ≡ sample_of tables (content_at file at) = λ i. record { stack = stack_is i; weight = weight_is i } in
    let rest = next_is file tables places next total at sample lt at_is none same in
    record { samples = ap (λ (r : Rest). r.samples) rest; ending = sym (ap (λ (r : Rest). r.ending) rest) }

-- a sample that is told
pub tells-new : (told told' : ToldRows) (names : List (List ℕ)) (frames : List ℕ) (stack : List (List ℕ)) (weight : ℕ) (old new : Rest) → TellsStack told told' names frames stack → Gives (record { stack = stack; weight = weight }) old new → TellsNew told told' names frames weight old new
tells-new told told' names frames stack weight old new is gives = record {
  names_told = is.names_told;
  in_order = is.in_order ∙ ap (with_stack told.names) (sym is.named);
  numbers = is.within;
  stacks = is.stacks;
  gives = subst (λ list. Gives (record { stack = list; weight = weight }) old new) (sym is.named) gives;
}

pub tells-depth : (told told' : ToldRows) (names : List (List ℕ)) (frames : List ℕ) (stack : List (List ℕ)) → TellsStack told told' names frames stack → length frames ≡ length stack
tells-depth told told' names frames stack is =
    sym (length-map frames (name_at told'.names)) ∙ ap (λ (list : List (List ℕ)). length list) is.named
