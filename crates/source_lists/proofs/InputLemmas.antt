-- What readers of inputs may give, and what was read by them.
use Rattle.std.proofs.Common.{◌≡◌, ◌≢◌, ◌∙◌, ◌⊎◌, ◌↔◌, inl, inr, ℕ, suc, Bool, false, List, [], ◌∷◌, Option, Some, None, IfSome, All, ap, arith, length, map, refl, sym, subst}
use Rattle.std.specs.List.{AllZip}
use Rattle.std.proofs.lemmas.List.{length-map}
use Rattle.std.proofs.lemmas.List.Elements.{All-map, All-nil}
use Rattle.sample_tables.specs.Samples.{IsLimited}
use Rattle.profile_tables.specs.Samples.{read_pprof}
use Rattle.profile_tables.proofs.RestLemmas.{pprof-limited}
use Rattle.folded_lines.specs.Streams.{StreamGives}
use Rattle.folded_lines.specs.declared.streams.FoldedStream.{FoldedStream}
use Rattle.folded_lines.proofs.StreamTexts.{stream_limits, stream_or_stopped, stream_possible}
use Rattle.byte_io.specs.declared.stored_range.StoredRange.{StoredRange}
use Rattle.stack_core.specs.Ledgers.{ListState}
use Rattle.stack_core.specs.Reading.{IsSourceLimited, Rest}
use Rattle.stack_core.specs.declared.endings.SourceEnd.TheVariants.{Stopped}
use Rattle.ring_collect.specs.Collection.{AreGiven, seen_as_rest}
use Rattle.ring_collect.proofs.GivenRests.{given_count}
use Rattle.run_options.specs.declared.formats.Format.{Format}
use Rattle.run_options.specs.declared.formats.Format.TheVariants.{Folded, Pprof}
use Rattle.run_options.specs.declared.choices.Naming.{Naming}
use Rattle.run_options.specs.declared.choices.Pick.{Pick}
use Rattle.run_options.specs.declared.options.Options.{Options}
use Rattle.source_lists.specs.Runs.{IsReadOut}
use Rattle.source_lists.specs.Sources.{known_input, known_inputs, whole_rest, whole_rests}
use Rattle.source_lists.specs.Summing.{IsFound}
use Rattle.source_lists.specs.checked.SummedRuns.{FindsGiven}
use Rattle.source_lists.specs.checked.InputReaders.{IsCutOff, IsReaderOf, input_gives, range, stream_gives}
use Rattle.source_lists.specs.checked.Readers.{reader_rest, reader_told}
use Rattle.source_lists.specs.checked.StoredProfiles.{ReadsSome, nothing_read, profile_gives, profile_told}
use Rattle.source_lists.specs.declared.input_readers.InputReader.{InputReader}
use Rattle.source_lists.specs.declared.input_readers.InputReader.TheVariants.{Loaded, Text, Profile}
use Rattle.source_lists.specs.declared.source_reader.SourceReader.{SourceReader}
use Rattle.source_lists.specs.declared.stored_profile.StoredProfile.{StoredProfile}
use Rattle.source_lists.proofs.KnownInputs.{found_all, if_some, zip_count}
use Rattle.source_lists.proofs.FoundRests.{IsNotCutOff, rests_out}

-- ---- one reader

pub loaded_reader : (options : Options) (source : Format × List ℕ) (reader : SourceReader) → reader_told reader ≡ record { names = []; stacks = [] } → reader_rest reader ≡ whole_rest options source
    → IsSourceLimited (whole_rest options source).samples → IsReaderOf options (source.0, Some source.1) (Loaded reader)
loaded_reader options source reader told same limited = record {
  told = told;
  possible = record { rest = reader_rest reader; is_given = refl };
  limited = λ rest is. subst (λ (rest : Rest). IsSourceLimited rest.samples) (sym (is ∙ same)) limited;
  reads = λ rest is. inr (is ∙ same);
}

known_text : (options : Options) (text : Option (List ℕ)) (rest : Rest) → StreamGives text false rest → IsCutOff rest ⊎ IfSome (known_input (Folded, text)) (λ source. rest ≡ whole_rest options source)
known_text options None rest given = inr tt
known_text options (Some bytes) rest given = stream_or_stopped bytes false rest given

pub text_reader : (options : Options) (text : Option (List ℕ)) (reader : FoldedStream StoredRange range) → reader.telling ≡ record { names = []; stacks = [] }
    → ((rest : Rest) → stream_gives reader rest ↔ StreamGives text false rest) → IsReaderOf options (Folded, text) (Text reader)
text_reader options text reader told gives =
    let some = stream_possible text false (λ sure. cc) in
    record {
      told = told;
      possible = record { rest = some.rest; is_given = (gives some.rest).1 some.is_given };
      limited = λ rest given. stream_limits text false rest ((gives rest).0 given);
      reads = λ rest given. known_text options text rest ((gives rest).0 given);
    }

known_profile : (options : Options) (text : Option (List ℕ)) (rest : Rest) → ReadsSome text options.pick options.naming rest → IfSome (known_input (Pprof, text)) (λ source. rest ≡ whole_rest options source)
known_profile options None rest some = tt
known_profile options (Some bytes) rest some = some.is_read ∙ ap (λ bytes. read_pprof bytes options.pick options.naming) some.of_known

profile_reads : (options : Options) (text : Option (List ℕ)) (rest : Rest) → (rest ≡ nothing_read) ⊎ ReadsSome text options.pick options.naming rest
    → IsCutOff rest ⊎ IfSome (known_input (Pprof, text)) (λ source. rest ≡ whole_rest options source)
profile_reads options text rest (inl none) = inl (0, ap (λ (rest : Rest). rest.ending) none)
profile_reads options text rest (inr some) = inr (known_profile options text rest some)

profile_limits : (text : Option (List ℕ)) (pick : Pick) (naming : Naming) (rest : Rest) → (rest ≡ nothing_read) ⊎ ReadsSome text pick naming rest → IsSourceLimited rest.samples
profile_limits text pick naming rest (inl none) = subst (λ (rest : Rest). IsSourceLimited rest.samples) (sym none) (record { each = All-nil IsLimited; total = omega arith })
profile_limits text pick naming rest (inr some) = subst (λ (rest : Rest). IsSourceLimited rest.samples) (sym some.is_read) (pprof-limited some.bytes pick naming)

pub profile_reader : (options : Options) (text : Option (List ℕ)) (reader : StoredProfile) → profile_told reader ≡ record { names = []; stacks = [] }
    → ((rest : Rest) → profile_gives reader rest ↔ (rest ≡ nothing_read) ⊎ ReadsSome text options.pick options.naming rest) → IsReaderOf options (Pprof, text) (Profile reader)
profile_reader options text reader told gives = record {
  told = told;
  possible = record { rest = nothing_read; is_given = (gives nothing_read).1 (inl refl) };
  limited = λ rest given. profile_limits text options.pick options.naming rest ((gives rest).0 given);
  reads = λ rest given. profile_reads options text rest ((gives rest).0 given);
}

-- ---- what was read

read_out : (rest : Rest) (Holds : Type 0) → IsCutOff rest ⊎ Holds → ((after : ℕ) → rest.ending ≢ Stopped after) → Holds
read_out rest Holds (inl cut) out = absurd (out cut.0 cut.1)
read_out rest Holds (inr holds) out = holds

each_read : (options : Options) (inputs : List (Format × Option (List ℕ))) (readers : List InputReader) (rests : List Rest) → AllZip (IsReaderOf options) inputs readers → AreGiven input_gives readers rests
    → All IsNotCutOff rests → AllZip (λ input rest. IfSome (known_input input) (λ source. rest ≡ whole_rest options source)) inputs rests
each_read options [] [] [] each given out = tt
each_read options [] (reader ∷ readers) rests each given out = absurd each
each_read options (input ∷ inputs) [] lists each given out = absurd each
each_read options [] [] (rest ∷ rests) each given out = absurd given
each_read options (input ∷ inputs) (reader ∷ readers) [] each given out = absurd given
each_read options (input ∷ inputs) (reader ∷ readers) (rest ∷ rests) each given out = (
  read_out rest (IfSome (known_input input) (λ source. rest ≡ whole_rest options source)) (each.0.reads rest given.0) (out 0 rest (omega arith)),
  each_read options inputs readers rests each.1 given.1 (λ k d within. out (suc k) d (omega (arith, within))),
)

-- what was read to its end is what the bytes stand for, where all are known
pub whole_read : (options : Options) (inputs : List (Format × Option (List ℕ))) (readers : List InputReader) (is_summed : Bool) (lists : List ListState) → AllZip (IsReaderOf options) inputs readers
    → FindsGiven input_gives is_summed readers (map seen_as_rest lists) → All IsReadOut lists → IfSome (known_inputs inputs) (λ sources. AllZip (IsFound is_summed) (whole_rests options sources) (map seen_as_rest lists))
whole_read options inputs readers is_summed lists each given out =
    let rests_are = rests_out is_summed given.rests (map seen_as_rest lists) given.are_found (All-map IsNotCutOff seen_as_rest lists out) in
    if_some (known_inputs inputs) (λ sources. given.rests ≡ whole_rests options sources) (λ sources. AllZip (IsFound is_summed) (whole_rests options sources) (map seen_as_rest lists))
    (λ sources same. subst (λ (rests : List Rest). AllZip (IsFound is_summed) rests (map seen_as_rest lists)) same given.are_found)
    (found_all known_input (whole_rest options) inputs given.rests (each_read options inputs readers given.rests each given.are_given rests_are))

-- a list was found for each reader
pub found_count : (is_summed : Bool) (readers : List InputReader) (lists : List ListState) → FindsGiven input_gives is_summed readers (map seen_as_rest lists) → length lists ≡ length readers
found_count is_summed readers lists given =
    sym (length-map lists seen_as_rest) ∙ (zip_count (IsFound is_summed) given.rests (map seen_as_rest lists) given.are_found ∙ given_count input_gives readers given.rests given.are_given)
