-- Lists of the parts of a source, one after another.
use Rattle.std.proofs.Common.{◌≡◌, ◌≤◌, ◌∙◌, ◌+◌, ℕ, suc, Bool, ap, arith, refl, get_or, subst, sym, length, map, All, List, [], ◌∷◌, ◌++◌, Option, Some, None, IfOk, IfSome, Ok, Err, Result}
use Rattle.std.specs.Prelude.{option_and_then, option_map}
use Rattle.std.specs.declared.alloc.AllocError.{AllocError}
use Rattle.std.specs.List.{AllZip}
use Rattle.std.proofs.lemmas.List.{append-nil, length-map}
use Rattle.std.proofs.lemmas.List.Elements.{All-append, All-cons, All-nil}
use Rattle.std.proofs.lemmas.List.Sums.{sum_by_push}
use Rattle.std.proofs.lemmas.Grind.{flat_map-append}
use Rattle.sample_tables.specs.Samples.{IsLimited, total_weight}
use Rattle.sample_tables.specs.declared.samples.TheConstants.{WEIGHT_LIMIT}
use Rattle.stack_core.specs.Parts.{IsClean, ReadsInParts, ignored_of, joined, samples_of_parts}
use Rattle.stack_core.specs.Ledgers.{ListState}
use Rattle.stack_core.specs.Reading.{IsSourceLimited, Rest}
use Rattle.stack_core.specs.RowReading.{GivesSome}
use Rattle.stack_core.specs.declared.endings.SourceEnd.TheVariants.{Clean, Stopped}
use Rattle.ring_collect.specs.Collection.{AreGiven, seen_as_rest}
use Rattle.ring_collect.proofs.GivenRests.{known_rests}
use Rattle.run_options.specs.declared.choices.Naming.{Naming}
use Rattle.run_options.specs.declared.choices.Pick.{Pick}
use Rattle.run_options.specs.declared.formats.Format.{Format}
use Rattle.run_options.specs.declared.formats.Format.TheVariants.{Folded, Pprof}
use Rattle.run_options.specs.declared.options.Options.{Options}
use Rattle.folded_lines.specs.Reading.{read_folded}
use Rattle.profile_tables.specs.Samples.{read_pprof}
use Rattle.folded_lines.proofs.ReadLemmas.{IsSourceLimited-read_folded}
use Rattle.profile_tables.proofs.RestLemmas.{pprof-limited}
use Rattle.source_lists.specs.Runs.{IsReadOut}
use Rattle.source_lists.specs.Sources.{known_input, read_bytes, whole_rest, whole_rests}
use Rattle.source_lists.specs.Summing.{IsFound}
use Rattle.source_lists.specs.checked.OpenRuns.{ReadsOpen}
use Rattle.source_lists.specs.checked.InputReaders.{input_gives, input_told}
use Rattle.source_lists.specs.checked.PartRuns.{AreOfParts, ArePartsFound}
use Rattle.source_lists.specs.checked.Parts.{AreCleanParts, ArePartsOf, ignored_by}
use Rattle.source_lists.specs.checked.SummedRuns.{FindsGiven}
use Rattle.source_lists.specs.declared.input_readers.InputReader.{InputReader}
use Rattle.source_lists.specs.declared.part_runs.CleanParts.{CleanParts}
use Rattle.source_lists.proofs.KnownInputs.{if_some}
use Rattle.source_lists.proofs.FoundRests.{alike_parts, alike_total, found_clean, found_joined}

-- ---- one part more

pub samples_more : (parts : List Rest) (part : Rest) → samples_of_parts (parts ++ part ∷ []) ≡ samples_of_parts parts ++ part.samples
samples_more parts part =
    flat_map-append (λ (part : Rest). part.samples) parts (part ∷ []) ∙ ap (λ t. samples_of_parts parts ++ t) (append-nil part.samples)

pub ignored_more : (parts : List Rest) (part : Rest) → ignored_by (parts ++ part ∷ []) ≡ ignored_by parts + ignored_of part.ending
ignored_more parts part = sum_by_push (λ (part : Rest). ignored_of part.ending) parts part

-- ---- one list

pub limited_bytes : (format : Format) (bytes : List ℕ) (pick : Pick) (naming : Naming) → IsSourceLimited (read_bytes format bytes pick naming).samples
limited_bytes Folded bytes pick naming = IsSourceLimited-read_folded bytes
limited_bytes Pprof bytes pick naming = pprof-limited bytes pick naming

each_limited : (parts : List Rest) → All (λ part. IsSourceLimited part.samples) parts → All IsLimited (samples_of_parts parts)
each_limited [] limited = All-nil IsLimited
each_limited (part ∷ parts) limited =
    All-append IsLimited part.samples (samples_of_parts parts) (limited 0 part (omega arith)).each (each_limited parts (λ k d within. limited (suc k) d (omega (arith, within))))

-- ---- what readers gave

-- what holds of each rest that a reader may give
pub all_given : {R : Type 0} (gives : R → Rest → Type 0) (P : Rest → Type 0) (readers : List R) (rests : List Rest) → All (λ reader. (rest : Rest) → gives reader rest → P rest) readers → AreGiven gives readers rests → All P rests
all_given gives P [] [] all given = All-nil P
all_given gives P [] (rest ∷ rests) all given = absurd given
all_given gives P (reader ∷ readers) [] all given = absurd given
all_given gives P (reader ∷ readers) (rest ∷ rests) all given =
    All-cons P rest rests (all 0 reader (omega arith) rest given.0) (all_given gives P readers rests (λ k d within. all (suc k) d (omega (arith, within))) given.1)

each_given : {R : Type 0} (gives : R → Rest → Type 0) (readers : List R) (rests : List Rest) → AreGiven gives readers rests → AllZip (λ reader rest. gives reader rest) readers rests
each_given gives [] [] given = tt
each_given gives [] (rest ∷ rests) given = absurd given
each_given gives (reader ∷ readers) [] given = absurd given
each_given gives (reader ∷ readers) (rest ∷ rests) given = (given.0, each_given gives readers rests given.1)

-- the parts of bytes that are there
pub loaded_parts : {R : Type 0} (gives : R → Rest → Type 0) (rest_of : R → Rest) → ((reader : R) (other : Rest) → gives reader other → other ≡ rest_of reader) → (readers : List R) (whole : Rest) → ReadsInParts whole (map rest_of readers)
    → IsSourceLimited whole.samples → (parts : List Rest) (ignored : ℕ) → AreGiven gives readers parts → AreCleanParts parts ignored → ArePartsOf (Some whole) parts ignored
loaded_parts gives rest_of no_other readers whole reads limited parts ignored given clean =
    let same : whole ≡ joined parts = subst (ReadsInParts whole) (sym (known_rests gives rest_of no_other readers parts given)) reads clean.clean clean.weight in
    record { whole_is = same; ignored_is = clean.ignored_is; limited = subst (λ (rest : Rest). IsSourceLimited rest.samples) same limited }

-- those of a stored text
stored_whole : (text : Option (List ℕ)) (parts : List Rest) → IfSome text (λ all. ReadsInParts (read_folded all) parts) → All IsClean parts → total_weight (samples_of_parts parts) ≤ WEIGHT_LIMIT
    → IfSome (option_map read_folded text) (λ whole. whole ≡ joined parts)
stored_whole None parts reads clean weight = tt
stored_whole (Some all) parts reads clean weight = reads clean weight

pub stored_parts : {R : Type 0} (gives : R → Rest → Type 0) (readers : List R) (text : Option (List ℕ))
    → IfSome text (λ all. (rests : List Rest) → AllZip (λ reader rest. gives reader rest) readers rests → ReadsInParts (read_folded all) rests)
    → All (λ reader. (rest : Rest) → gives reader rest → IsSourceLimited rest.samples) readers
    → (parts : List Rest) (ignored : ℕ) → AreGiven gives readers parts → AreCleanParts parts ignored → ArePartsOf (option_map read_folded text) parts ignored
stored_parts {R} gives readers text reads limited parts ignored given clean = record {
  whole_is =
      stored_whole text parts
      (if_some text (λ all. (rests : List Rest) → AllZip (λ (reader : R) rest. gives reader rest) readers rests → ReadsInParts (read_folded all) rests) (λ all. ReadsInParts (read_folded all) parts)
      (λ all so. so parts (each_given gives readers parts given)) reads) clean.clean clean.weight;
  ignored_is = clean.ignored_is;
  limited = record { each = each_limited parts (all_given gives (λ rest. IsSourceLimited rest.samples) readers parts limited given); total = clean.weight };
}

-- ---- their readers as readers of inputs

module _ {R : Type 0} (wrap : R → InputReader) where
  all_wrapped : (parts : List R) (readers : List InputReader) → AllZip (λ part reader. reader ≡ wrap part) parts readers → readers ≡ map wrap parts
  all_wrapped [] [] zip = refl
  all_wrapped [] (reader ∷ readers) zip = absurd zip
  all_wrapped (part ∷ parts) [] zip = absurd zip
  all_wrapped (part ∷ parts) (reader ∷ readers) zip = λ i. zip.0 i ∷ all_wrapped parts readers zip.1 i

  given_wrapped : (parts : List R) (rests : List Rest) → AreGiven input_gives (map wrap parts) rests → AreGiven (λ part rest. input_gives (wrap part) rest) parts rests
  given_wrapped [] [] given = tt
  given_wrapped [] (rest ∷ rests) given = absurd given
  given_wrapped (part ∷ parts) [] given = absurd given
  given_wrapped (part ∷ parts) (rest ∷ rests) given = (given.0, given_wrapped parts rests given.1)

  wrapped_all : (P : InputReader → Type 0) (parts : List R) → All (λ part. P (wrap part)) parts → All P (map wrap parts)
  wrapped_all P [] all = All-nil P
  wrapped_all P (part ∷ parts) all = All-cons P (wrap part) (map wrap parts) (all 0 part (omega arith)) (wrapped_all P parts (λ k d within. all (suc k) d (omega (arith, within))))

  pub readers_of_parts : (whole : Option Rest) (parts : List R) (readers : List InputReader) → AllZip (λ part reader. reader ≡ wrap part) parts readers → length parts ≤ 64
      → All (λ part. input_told (wrap part) ≡ record { names = []; stacks = [] }) parts → All (λ part. GivesSome (input_gives (wrap part))) parts
      → ((rests : List Rest) (ignored : ℕ) → AreGiven (λ part rest. input_gives (wrap part) rest) parts rests → AreCleanParts rests ignored → ArePartsOf whole rests ignored) → AreOfParts whole readers
  readers_of_parts whole parts readers zip few told possible reads =
      subst (AreOfParts whole) (sym (all_wrapped parts readers zip)) (record {
        can_run = record {
          few = omega (arith, few, length-map parts wrap);
          nothing_told = wrapped_all (λ reader. input_told reader ≡ record { names = []; stacks = [] }) parts told;
          possible = wrapped_all (λ reader. GivesSome (input_gives reader)) parts possible;
        };
        reads = λ rests ignored given clean. reads rests ignored (given_wrapped parts rests given) clean;
      })

-- readers of rows that are known
pub known_readers : {R : Type 0} (wrap : R → InputReader) (rest_of : R → Rest) → ((reader : R) (rest : Rest) → input_gives (wrap reader) rest → rest ≡ rest_of reader)
    → ((reader : R) → input_gives (wrap reader) (rest_of reader)) → (whole other : Rest) (parts : List R) (readers : List InputReader) → AllZip (λ part reader. reader ≡ wrap part) parts readers → length parts ≤ 64
    → All (λ part. input_told (wrap part) ≡ record { names = []; stacks = [] }) parts → whole ≡ other → ReadsInParts other (map rest_of parts) → IsSourceLimited whole.samples → AreOfParts (Some whole) readers
known_readers {R} wrap rest_of no_other gives whole other parts readers zip few told same reads limited =
    readers_of_parts wrap (Some whole) parts readers zip few told (λ k d within. record { rest = rest_of (get_or parts k d); is_given = gives (get_or parts k d) })
    (loaded_parts (λ part rest. input_gives (wrap part) rest) rest_of no_other parts whole (subst (λ (whole : Rest). ReadsInParts whole (map rest_of parts)) (sym same) reads) limited)

-- a stored text stands for what it has as folded text
pub text_whole : (options : Options) (text : Option (List ℕ)) → option_map read_folded text ≡ option_map (whole_rest options) (known_input (Folded, text))
text_whole options None = refl
text_whole options (Some all) = refl

-- what a run of them finds
pub parts_found : (is_summed : Bool) (whole : Option Rest) (readers : List InputReader) (found : List Rest) (ignored : ℕ) → AreOfParts whole readers → FindsGiven input_gives is_summed readers found → AreCleanParts found ignored
    → ArePartsFound is_summed whole found ignored
parts_found is_summed whole readers found ignored of given clean = record {
  parts = given.rests;
  are_parts = of.reads given.rests ignored given.are_given (found_clean is_summed given.rests found ignored given.are_found clean);
  are_found = given.are_found;
}

-- of a profile that was loaded
profile_whole : (text : Option (List ℕ)) (pick : Pick) (naming : Naming) (bytes : List ℕ) (parts : List Rest) → IfSome text (λ all. bytes ≡ all) → read_pprof bytes pick naming ≡ joined parts
    → IfSome (option_map (λ bytes. read_pprof bytes pick naming) text) (λ whole. whole ≡ joined parts)
profile_whole None pick naming bytes parts is whole = tt
profile_whole (Some all) pick naming bytes parts is whole = ap (λ bytes. read_pprof bytes pick naming) (sym is) ∙ whole

pub profile_parts : (text : Option (List ℕ)) (options : Options) (bytes : List ℕ) (readers : List InputReader) → IfSome text (λ all. bytes ≡ all) → AreOfParts (Some (whole_rest options (Pprof, bytes))) readers
    → AreOfParts (option_map (λ bytes. read_pprof bytes options.pick options.naming) text) readers
profile_parts text options bytes readers is of = record {
  can_run = of.can_run;
  reads = λ parts ignored given clean. (let are = of.reads parts ignored given clean in record {
    whole_is = profile_whole text options.pick options.naming bytes parts is are.whole_is;
    ignored_is = are.ignored_is;
    limited = are.limited;
  });
}

-- ---- the parts as one list

clean_goes_on : (ignored after : ℕ) → Clean ignored ≡ Stopped after → ⊥
clean_goes_on ignored after is = absurd cc

pub some_parts : (is_summed : Bool) (whole : Option Rest) (result : Option CleanParts) (parts : CleanParts) → result ≡ Some parts
    → IfSome result (λ parts. ArePartsFound is_summed whole (map seen_as_rest parts.lists.items) parts.ignored) → ArePartsFound is_summed whole (map seen_as_rest parts.lists.items) parts.ignored
some_parts is_summed whole result parts is found =
    subst (λ (result : Option CleanParts). IfSome result (λ parts. ArePartsFound is_summed whole (map seen_as_rest parts.lists.items) parts.ignored)) is found

pub joined_limited : (is_summed : Bool) (whole : Option Rest) (parts : List Rest) (ignored : ℕ) (list : Rest) → ArePartsFound is_summed whole parts ignored → list ≡ joined parts → total_weight list.samples ≤ WEIGHT_LIMIT
joined_limited is_summed whole parts ignored list found is =
    subst (λ (rest : Rest). total_weight rest.samples ≤ WEIGHT_LIMIT) (sym is)
    (subst (λ weight. weight ≤ WEIGHT_LIMIT) (sym (alike_total (samples_of_parts parts) (samples_of_parts found.parts) (alike_parts is_summed found.parts parts found.are_found))) found.are_parts.limited.total)

-- of an input whose bytes may be known
one_whole : (options : Options) (is_summed : Bool) (known : Option (Format × List ℕ)) (parts : List Rest) (list : Rest) → IfSome (option_map (whole_rest options) known) (λ whole. whole ≡ joined parts) → IsFound is_summed (joined parts) list
    → IfSome (option_and_then (λ source. option_map (λ more. source ∷ more) (Some [])) known) (λ sources. AllZip (IsFound is_summed) (whole_rests options sources) (list ∷ []))
one_whole options is_summed None parts list whole found = tt
one_whole options is_summed (Some source) parts list whole found = (subst (λ (whole : Rest). IsFound is_summed whole list) (sym whole) found, tt)

pub joined_reads : (options : Options) (is_summed : Bool) (input : Format × Option (List ℕ)) (parts : List Rest) (ignored : ℕ) (list : ListState) → ArePartsFound is_summed (option_map (whole_rest options) (known_input input)) parts ignored
    → seen_as_rest list ≡ joined parts → ReadsOpen options is_summed (input ∷ []) (list ∷ [])
joined_reads options is_summed input parts ignored list found is = record {
  whole =
      one_whole options is_summed (known_input input) found.parts (seen_as_rest list) found.are_parts.whole_is
      (subst (λ (list : Rest). IsFound is_summed (joined found.parts) list) (sym is) (found_joined is_summed found.parts parts found.are_found));
  count = refl;
  unstopped = All-cons IsReadOut list [] (λ after stopped. absurd (clean_goes_on (ignored_by parts) after (sym (ap (λ (rest : Rest). rest.ending) is) ∙ stopped))) (All-nil IsReadOut);
}
