-- What a live run says of the texts of its streams.
use Rattle.std.proofs.Common.{◌≡◌, ◌≢◌, ℕ, zero, suc, Bool, true, false, List, [], ◌∷◌, Option, Some, None, Result, Ok, Err, IfErr, IfOk, IfSome, All, length, map, take, drop, refl, sym, ap, subst, ◌∙◌, arith, inl, inr}
use Rattle.call_tree.proofs.NameNumbers.{IsPrefixOf-trans}
use Rattle.std.proofs.lemmas.Slice.Zip.{AllZip-long}
use Rattle.std.specs.Prelude.{◌||◌, is_some, option_and_then, option_map, slice_get}
use Rattle.std.specs.List.{AllZip, list_any}
use Rattle.std.specs.Io.KnownBytes.{Appends}
use Rattle.std.specs.Result.{IsErrAnd}
use Rattle.std.proofs.lemmas.Bool.{or_parts, true≢false}
use Rattle.std.proofs.lemmas.List.{length-map, take-append-drop, take_all}
use Rattle.std.proofs.lemmas.List.Elements.{All-nil, All-cons}
use Rattle.std.proofs.lemmas.Option.{IfSome_then, same_Some}
use Rattle.sample_tables.specs.declared.samples.Sample.{Sample}
use Rattle.stack_core.specs.Interleaving.{IsInterleaving, list_of}
use Rattle.stack_core.specs.Ledgers.{ListState}
use Rattle.stack_core.specs.Prefixes.{IsPrefixOf}
use Rattle.stack_core.specs.Reading.{Rest}
use Rattle.stack_core.specs.Told.{IsCollected}
use Rattle.stack_core.specs.declared.endings.SourceEnd.{SourceEnd}
use Rattle.stack_core.specs.declared.endings.SourceEnd.TheVariants as ends
use Rattle.folded_lines.specs.StrictReading.{strict_fault}
use Rattle.folded_lines.specs.StrictStreams.{IsTellable, strict_ending_fault}
use Rattle.folded_lines.proofs.StrictStreamTexts.{strict_text_fault}
use Rattle.merged_stacks.specs.Timeline.{samples_of}
use Rattle.command_line.specs.declared.plans.Plan.{Plan}
use Rattle.ring_collect.specs.Collection.{AreGiven, Collects, GiveSuch, seen_as_rest}
use Rattle.source_views.specs.Failures.{IsOpening, ends_in_fault, has_fault, status_of}
use Rattle.source_views.specs.declared.failures.Failure.{Failure}
use Rattle.source_views.specs.declared.failures.Failure.TheVariants.{TooManyFiles, Unreadable, TooLarge, OutOfMemory, NoThread, Unfinished, Faults, Output}
use Rattle.flame_tool.specs.LiveRuns.{AreFaultless, AreFirst, HasTextFault, ShowsAllOf, ShowsFirstOf, ShowsSomeOf, has_strict_text, known_texts, live_texts, read_text, read_texts}
use Rattle.source_lists.specs.Sources.{all_found}
use Rattle.flame_tool.specs.Runs.{HasFault, IsClean, lists_of}
use Rattle.flame_tool.specs.ToldLive.{is_stopped}
use Rattle.flame_tool.specs.checked.LiveEnds.{EndsLive, FailsLive, TellsTexts, anywhere, is_faulty, live_status, status_by, strict_list_fault}
use Rattle.flame_tool.specs.checked.LiveSaying.{IsTellableList}
use Rattle.flame_tool.specs.checked.LiveStreams.{AreOpened, IsOfFile, IsOfInput, ReadsAs, ReadsText}
use Rattle.flame_tool.proofs.KnownSources.{clean_ending, faults_of_rests, faulty_rests, samples_of_rests}

-- ---- what was collected of a text

-- all that the text reads to, or first samples of it
pub record SeenOf (is_strict : Bool) (text : List ℕ) (list : ListState) : Type 0 where
  pub whole : is_stopped list.ending ≡ false → seen_as_rest list ≡ read_text is_strict text
  pub first : IsPrefixOf list.samples (read_text is_strict text).samples
  pub tellable : IsTellableList is_strict list

unstopped : (ending : SourceEnd) → is_stopped ending ≡ false → (after : ℕ) → ending ≢ ends.Stopped after
unstopped ending goes after is = true≢false (sym (ap is_stopped is) ∙ goes)

pub seen : (is_strict : Bool) (text : List ℕ) (rest : Rest) (list : ListState) (source : ℕ) → ReadsAs is_strict text rest → IsCollected anywhere anywhere source rest (seen_as_rest list) → SeenOf is_strict text list
seen is_strict text rest list source reads (IsCollected.Whole goes same) = record {
  whole = λ goes. same ∙ reads.whole (λ after is. unstopped list.ending goes after (ap (λ (rest : Rest). rest.ending) same ∙ is));
  first = subst (λ (rest : Rest). IsPrefixOf rest.samples (read_text is_strict text).samples) (sym same) reads.first;
  tellable = λ strict. subst (λ (rest : Rest). IsTellable (length rest.samples) rest.ending) (sym same) (reads.tellable strict);
}
seen is_strict text rest list source reads (IsCollected.StoppedAt i within stops goes same) = record {
  whole = λ goes. absurd (unstopped list.ending goes i (ap (λ (rest : Rest). rest.ending) same));
  first = subst (λ (rest : Rest). IsPrefixOf rest.samples (read_text is_strict text).samples) (sym same)
      (IsPrefixOf-trans (take i rest.samples) rest.samples (read_text is_strict text).samples (drop i rest.samples, take-append-drop i rest.samples) reads.first);
  tellable = λ strict. subst (λ (rest : Rest). IsTellable (length rest.samples) rest.ending) (sym same) tt;
}

seen_each : (is_strict : Bool) (texts : List (List ℕ)) (rests : List Rest) (lists : List ListState) → AllZip (ReadsAs is_strict) texts rests → length lists ≡ length rests
    → ((source : ℕ) (rest : Rest) (list : ListState) → slice_get rests source ≡ Some rest → slice_get lists source ≡ Some list → (at : ℕ) × IsCollected anywhere anywhere at rest (seen_as_rest list))
    → AllZip (SeenOf is_strict) texts lists
seen_each is_strict [] [] [] reads many each = tt
seen_each is_strict [] [] (list ∷ lists) reads many each = absurd (omega arith)
seen_each is_strict [] (rest ∷ rests) lists reads many each = absurd reads
seen_each is_strict (text ∷ texts) [] lists reads many each = absurd reads
seen_each is_strict (text ∷ texts) (rest ∷ rests) [] reads many each = absurd (omega arith)
seen_each is_strict (text ∷ texts) (rest ∷ rests) (list ∷ lists) reads many each =
    let here = each 0 rest list refl refl in
    (seen is_strict text rest list here.0 reads.0 here.1, seen_each is_strict texts rests lists reads.1 (omega arith) (λ source. each (suc source)))

pub seen_all : (is_strict : Bool) (texts : List (List ℕ)) (rests : List Rest) (lists : List ListState) → AllZip (ReadsAs is_strict) texts rests → Collects anywhere anywhere rests lists → AllZip (SeenOf is_strict) texts lists
seen_all is_strict texts rests lists reads collected = seen_each is_strict texts rests lists reads collected.count (λ source rest list is is_list. (source, collected.each source rest list is is_list))

whole_all : (is_strict : Bool) (texts : List (List ℕ)) (lists : List ListState) → AllZip (SeenOf is_strict) texts lists → list_any (λ (list : ListState). is_stopped list.ending) lists ≡ false → map seen_as_rest lists ≡ read_texts is_strict texts
whole_all is_strict [] [] seen goes = refl
whole_all is_strict [] (list ∷ lists) seen goes = absurd seen
whole_all is_strict (text ∷ texts) [] seen goes = absurd seen
whole_all is_strict (text ∷ texts) (list ∷ lists) seen goes =
    let both = or_parts (is_stopped list.ending) (list_any (λ (list : ListState). is_stopped list.ending) lists) goes in
    λ i. seen.0.whole both.0 i ∷ whole_all is_strict texts lists seen.1 both.1 i

clean_all : (lists : List ListState) → list_any (λ (list : ListState). is_stopped list.ending) lists ≡ false → has_fault lists ≡ false → All (λ (rest : Rest). IsClean rest.ending) (map seen_as_rest lists)
clean_all [] goes faultless = All-nil (λ (rest : Rest). IsClean rest.ending)
clean_all (list ∷ lists) goes faultless =
    let going = or_parts (is_stopped list.ending) (list_any (λ (list : ListState). is_stopped list.ending) lists) goes in
    let both = or_parts (ends_in_fault list.ending) (has_fault lists) faultless in
    All-cons (λ (rest : Rest). IsClean rest.ending) (seen_as_rest list) (map seen_as_rest lists)
    (clean_ending list.ending (unstopped list.ending going.0) both.0) (clean_all lists going.1 both.1)

-- what is wrong with a text that was read strictly, by what was collected of it
strict_one : (text : List ℕ) (list : ListState) → SeenOf true text list → is_stopped list.ending ≡ false → strict_list_fault list ≡ strict_fault text
strict_one text list seen goes = ap (λ (rest : Rest). strict_ending_fault (length rest.samples) rest.ending) (seen.whole goes) ∙ strict_text_fault text

strict_all : (texts : List (List ℕ)) (lists : List ListState) → AllZip (SeenOf true) texts lists → list_any (λ (list : ListState). is_stopped list.ending) lists ≡ false → is_faulty true lists ≡ has_strict_text texts
strict_all [] [] seen goes = refl
strict_all [] (list ∷ lists) seen goes = absurd seen
strict_all (text ∷ texts) [] seen goes = absurd seen
strict_all (text ∷ texts) (list ∷ lists) seen goes =
    let both = or_parts (is_stopped list.ending) (list_any (λ (list : ListState). is_stopped list.ending) lists) goes in
    λ i. is_some (strict_one text list seen.0 both.0 i) || strict_all texts lists seen.1 both.1 i

-- whether a text has a fault, where none was stopped
faultless_texts : (is_strict : Bool) (texts : List (List ℕ)) (lists : List ListState) → AllZip (SeenOf is_strict) texts lists → list_any (λ (list : ListState). is_stopped list.ending) lists ≡ false
    → is_faulty is_strict lists ≡ false → AreFaultless is_strict texts
faultless_texts false texts lists seen goes faultless = subst (λ (rests : List Rest). All (λ (rest : Rest). IsClean rest.ending) rests) (whole_all false texts lists seen goes) (clean_all lists goes faultless)
faultless_texts true texts lists seen goes faultless = sym (strict_all texts lists seen goes) ∙ faultless

faulty_texts : (is_strict : Bool) (texts : List (List ℕ)) (lists : List ListState) → AllZip (SeenOf is_strict) texts lists → list_any (λ (list : ListState). is_stopped list.ending) lists ≡ false
    → is_faulty is_strict lists ≡ true → HasTextFault is_strict texts
faulty_texts false texts lists seen goes faulty = subst HasFault (whole_all false texts lists seen goes) (faulty_rests (map seen_as_rest lists) (sym (faults_of_rests lists) ∙ faulty))
faulty_texts true texts lists seen goes faulty = sym (strict_all texts lists seen goes) ∙ faulty

-- ---- first samples

fronts_first : (is_strict : Bool) (texts : List (List ℕ)) (lists : List ListState) → AllZip (SeenOf is_strict) texts lists → (source : ℕ) (rest : Rest) → slice_get (read_texts is_strict texts) source ≡ Some rest → IsPrefixOf (list_of (samples_of lists) source) rest.samples
fronts_first is_strict [] lists seen source rest is = absurd (cc)
fronts_first is_strict (text ∷ texts) [] seen source rest is = absurd seen
fronts_first is_strict (text ∷ texts) (list ∷ lists) seen zero rest is = subst (λ (rest : Rest). IsPrefixOf list.samples rest.samples) (same_Some (read_text is_strict text) rest is) seen.0.first
fronts_first is_strict (text ∷ texts) (list ∷ lists) seen (suc source) rest is = fronts_first is_strict texts lists seen.1 source rest is

-- of first samples of rests, which are first samples of texts
reads_first : (is_strict : Bool) (texts : List (List ℕ)) (rests : List Rest) → AllZip (ReadsAs is_strict) texts rests → (source : ℕ) (all : Rest) → slice_get (read_texts is_strict texts) source ≡ Some all → (rest : Rest) × (slice_get rests source ≡ Some rest) × IsPrefixOf rest.samples all.samples
reads_first is_strict [] rests reads source all is = absurd (cc)
reads_first is_strict (text ∷ texts) [] reads source all is = absurd reads
reads_first is_strict (text ∷ texts) (rest ∷ rests) reads zero all is =
    (rest, refl, subst (λ (all : Rest). IsPrefixOf rest.samples all.samples) (same_Some (read_text is_strict text) all is) reads.0.first)
reads_first is_strict (text ∷ texts) (rest ∷ rests) reads (suc source) all is = reads_first is_strict texts rests reads.1 source all is

first_of_texts : (is_strict : Bool) (texts : List (List ℕ)) (rests : List Rest) (lists : List (List Sample)) → AllZip (ReadsAs is_strict) texts rests → AreFirst rests lists → AreFirst (read_texts is_strict texts) lists
first_of_texts is_strict texts rests lists reads first = record {
  count = first.count ∙ AllZip-long (ReadsAs is_strict) texts rests reads ∙ sym (length-map texts (read_text is_strict));
  first = λ source all is.
      let rest = reads_first is_strict texts rests reads source all is in
      IsPrefixOf-trans (list_of lists source) rest.0.samples all.samples (first.first source rest.0 rest.1) rest.2;
}

-- ---- the exit status

pub status_zero : (a b : Bool) → status_by a b ≡ 0 → (a ≡ false) × (b ≡ false)
status_zero true b is = absurd (omega arith)
status_zero false true is = absurd (omega arith)
status_zero false false is = (refl, refl)

pub status_one : (a b : Bool) → status_by a b ≡ 1 → (a ≡ false) × (b ≡ true)
status_one true b is = absurd (omega arith)
status_one false true is = (refl, refl)
status_one false false is = absurd (omega arith)

module _ (is_terminal : Bool) (plan : Plan) (old new : Option (List ℕ)) (texts : List (List ℕ)) (rests : List Rest) (reads : AllZip (ReadsAs plan.is_strict) texts rests) where
  module _ (status : ℕ) (ended : EndsLive is_terminal plan old new status rests) where
    seen_of : AllZip (SeenOf plan.is_strict) texts ended.lists
    seen_of = seen_all plan.is_strict texts rests ended.lists reads ended.collected

    shows : list_any (λ (list : ListState). is_stopped list.ending) ended.lists ≡ false → ShowsAllOf (live_texts is_terminal plan) old new (read_texts plan.is_strict texts)
    shows goes =
        let same : samples_of ended.lists ≡ lists_of (read_texts plan.is_strict texts) = samples_of_rests ended.lists ∙ ap lists_of (whole_all plan.is_strict texts ended.lists seen_of goes) in
        record {
          order = ended.order;
          ordered = subst (λ (lists : List (List Sample)). IsInterleaving ended.order lists) same ended.ordered;
          gained = subst (λ (lists : List (List Sample)). Appends old new (live_texts is_terminal plan lists ended.order)) same ended.gained;
        }

    pub ended_tells : TellsTexts is_terminal plan old new status texts
    ended_tells =
        let text = live_texts is_terminal plan (samples_of ended.lists) ended.order in
        record {
          shown = λ zero.
              let both = status_zero (list_any (λ (list : ListState). is_stopped list.ending) ended.lists) (is_faulty plan.is_strict ended.lists) (sym ended.told ∙ zero) in
              (faultless_texts plan.is_strict texts ended.lists seen_of both.0 both.1, shows both.0);
          faulty = λ one.
              let both = status_one (list_any (λ (list : ListState). is_stopped list.ending) ended.lists) (is_faulty plan.is_strict ended.lists) (sym ended.told ∙ one) in
              (faulty_texts plan.is_strict texts ended.lists seen_of both.0 both.1, shows both.0);
          front = λ three. inl (record {
            lists = samples_of ended.lists;
            are_first = record { count = length-map ended.lists (λ list. list.samples) ∙ AllZip-long (SeenOf plan.is_strict) texts ended.lists seen_of ∙ sym (length-map texts (read_text plan.is_strict)); first = fronts_first plan.is_strict texts ended.lists seen_of };
            order = ended.order;
            ordered = ended.ordered;
            gained = (length text, subst (Appends old new) (sym (take_all (length text) text (omega arith))) ended.gained);
          });
        }

  first_tells : ShowsFirstOf (live_texts is_terminal plan) old new rests → TellsTexts is_terminal plan old new 3 texts
  first_tells first = record {
    shown = λ zero. absurd (omega arith);
    faulty = λ one. absurd (omega arith);
    front = λ three. inl (record {
      lists = first.lists;
      are_first = first_of_texts plan.is_strict texts rests first.lists reads first.are_first;
      order = first.order;
      ordered = first.ordered;
      gained = first.gained;
    });
  }

  some_tells : ShowsSomeOf (live_texts is_terminal plan) old new (length rests) → TellsTexts is_terminal plan old new 3 texts
  some_tells some = record {
    shown = λ zero. absurd (omega arith);
    faulty = λ one. absurd (omega arith);
    front = λ three. inr (subst (ShowsSomeOf (live_texts is_terminal plan) old new) (AllZip-long (ReadsAs plan.is_strict) texts rests reads) some);
  }

  pub failed_tells : (failure : Failure) → FailsLive is_terminal plan old new failure rests → TellsTexts is_terminal plan old new (status_of failure) texts
  failed_tells TooManyFiles fails = absurd fails
  failed_tells (Unreadable source) fails = absurd fails
  failed_tells (TooLarge source) fails = absurd fails
  failed_tells OutOfMemory fails = first_tells fails
  failed_tells NoThread fails = first_tells fails
  failed_tells (Unfinished source) fails = some_tells fails
  failed_tells Faults fails = absurd fails
  failed_tells (Output fault) fails = first_tells fails

-- ---- known streams

texts_given : {R : Type 0} (is_strict : Bool) (gives : R → Rest → Type 0) (readers : List R) (rests : List Rest) (texts : List (List ℕ)) → AreGiven gives readers rests → AllZip (λ reader text. ReadsText is_strict (gives reader) text) readers texts
    → AllZip (ReadsAs is_strict) texts rests
texts_given is_strict gives [] [] [] given are = tt
texts_given is_strict gives [] [] (text ∷ texts) given are = absurd are
texts_given is_strict gives [] (rest ∷ rests) texts given are = absurd given
texts_given is_strict gives (reader ∷ readers) [] texts given are = absurd given
texts_given is_strict gives (reader ∷ readers) (rest ∷ rests) [] given are = absurd are
texts_given is_strict gives (reader ∷ readers) (rest ∷ rests) (text ∷ texts) given are = (are.0 rest given.0, texts_given is_strict gives readers rests texts given.1 are.1)

first_known : {R : Type 0} (is_strict : Bool) (gives : R → Rest → Type 0) (known : Option (List ℕ)) (found : Option (List (List ℕ))) (reader : R) (readers : List R) → IfSome known (ReadsText is_strict (gives reader))
    → IfSome found (AllZip (λ reader text. ReadsText is_strict (gives reader) text) readers)
    → IfSome (option_and_then (λ text. option_map (λ more. text ∷ more) found) known) (AllZip (λ reader text. ReadsText is_strict (gives reader) text) (reader ∷ readers))
first_known is_strict gives None found reader readers here more = tt
first_known is_strict gives (Some text) None reader readers here more = tt
first_known is_strict gives (Some text) (Some texts) reader readers here more = (here, more)

known_files : {R : Type 0} (is_strict : Bool) (gives : R → Rest → Type 0) (files : List ℕ → Option (List ℕ)) (paths : List (List ℕ)) (readers : List R) → AllZip (IsOfFile is_strict gives files) paths readers
    → IfSome (all_found files paths) (AllZip (λ reader text. ReadsText is_strict (gives reader) text) readers)
known_files is_strict gives files [] [] opened = tt
known_files is_strict gives files [] (reader ∷ readers) opened = absurd opened
known_files is_strict gives files (path ∷ paths) [] opened = absurd opened
known_files is_strict gives files (path ∷ paths) (reader ∷ readers) opened = first_known is_strict gives (files path) (all_found files paths) reader readers opened.0 (known_files is_strict gives files paths readers opened.1)

known_input : {R : Type 0} (is_strict : Bool) (gives : R → Rest → Type 0) (input : Option (List ℕ)) (readers : List R) → IfSome input (IsOfInput is_strict gives readers)
    → IfSome (option_map (λ text. text ∷ []) input) (AllZip (λ reader text. ReadsText is_strict (gives reader) text) readers)
known_input is_strict gives None readers opened = tt
known_input is_strict gives (Some text) [] opened = absurd opened
known_input is_strict gives (Some text) (reader ∷ []) opened = (opened, tt)
known_input is_strict gives (Some text) (reader ∷ another ∷ more) opened = absurd opened

opened_texts : {R : Type 0} (is_strict : Bool) (gives : R → Rest → Type 0) (input : Option (List ℕ)) (files : List ℕ → Option (List ℕ)) (paths : List (List ℕ)) (readers : List R) → AreOpened is_strict gives input files paths readers
    → IfSome (known_texts paths input files) (AllZip (λ reader text. ReadsText is_strict (gives reader) text) readers)
opened_texts is_strict gives input files [] readers opened = known_input is_strict gives input readers opened
opened_texts is_strict gives input files (path ∷ paths) readers opened = known_files is_strict gives files (path ∷ paths) readers opened

-- what rests that are given tell of texts, they tell of those that are known
pub known_tell : {R : Type 0} (is_strict : Bool) (gives : R → Rest → Type 0) (input : Option (List ℕ)) (files : List ℕ → Option (List ℕ)) (paths : List (List ℕ)) (readers : List R) (Holds : List Rest → Type 0) (Tells : List (List ℕ) → Type 0)
    → AreOpened is_strict gives input files paths readers → GiveSuch gives readers Holds → ((texts : List (List ℕ)) (rests : List Rest) → AllZip (ReadsAs is_strict) texts rests → Holds rests → Tells texts) → IfSome (known_texts paths input files) Tells
known_tell is_strict gives input files paths readers Holds Tells opened given so =
    IfSome_then (known_texts paths input files) {P = AllZip (λ reader text. ReadsText is_strict (gives reader) text) readers} {Q = Tells} (opened_texts is_strict gives input files paths readers opened)
    (λ texts are. so texts given.rests (texts_given is_strict gives readers given.rests texts given.are_given are) given.holds)

-- what a run's result tells
pub result_tells : {R : Type 0} (gives : R → Rest → Type 0) (input : Option (List ℕ)) (files : List ℕ → Option (List ℕ)) (paths : List (List ℕ)) (readers : List R) (is_terminal : Bool) (plan : Plan) (old new : Option (List ℕ)) (result : Result ℕ Failure)
    → AreOpened plan.is_strict gives input files paths readers → IfOk result (λ status. GiveSuch gives readers (EndsLive is_terminal plan old new status)) → IfErr result (λ failure. GiveSuch gives readers (FailsLive is_terminal plan old new failure))
    → IfSome (known_texts paths input files) (TellsTexts is_terminal plan old new (live_status result))
result_tells gives input files paths readers is_terminal plan old new (Ok status) opened ok err =
    known_tell plan.is_strict gives input files paths readers (EndsLive is_terminal plan old new status) (TellsTexts is_terminal plan old new status) opened ok (λ texts rests reads ended. ended_tells is_terminal plan old new texts rests reads status ended)
result_tells gives input files paths readers is_terminal plan old new (Err failure) opened ok err =
    known_tell plan.is_strict gives input files paths readers (FailsLive is_terminal plan old new failure) (TellsTexts is_terminal plan old new (status_of failure)) opened err (λ texts rests reads fails. failed_tells is_terminal plan old new texts rests reads failure fails)

-- where a stream was not opened nothing went out
opening_tells : (is_terminal : Bool) (plan : Plan) (out : Option (List ℕ)) (count : ℕ) (failure : Failure) (texts : List (List ℕ)) → ShowsFirstOf (live_texts is_terminal plan) out out (read_texts plan.is_strict texts) → IsOpening count failure → TellsTexts is_terminal plan out out (status_of failure) texts
opening_tells is_terminal plan out count failure texts none opening = by failure opening
  where
    blamed : TellsTexts is_terminal plan out out 3 texts
    blamed = record { shown = λ zero. absurd (omega arith); faulty = λ one. absurd (omega arith); front = λ three. inl none }

    by : (failure : Failure) → IsOpening count failure → TellsTexts is_terminal plan out out (status_of failure) texts
    by TooManyFiles opening = record { shown = λ zero. absurd (omega arith); faulty = λ one. absurd (omega arith); front = λ three. absurd (omega arith) }
    by (Unreadable source) opening = blamed
    by (TooLarge source) opening = blamed
    by OutOfMemory opening = blamed
    by NoThread opening = absurd opening
    by (Unfinished source) opening = absurd opening
    by Faults opening = absurd opening
    by (Output fault) opening = absurd opening

pub unopened_tells : (is_terminal : Bool) (plan : Plan) (out : Option (List ℕ)) (count : ℕ) (result : Result ℕ Failure) (failure : Failure) (known : Option (List (List ℕ))) → ((rests : List Rest) → ShowsFirstOf (live_texts is_terminal plan) out out rests) → IsOpening count failure
    → IsErrAnd result (λ error. error ≡ failure) → IfSome known (TellsTexts is_terminal plan out out (live_status result))
unopened_tells is_terminal plan out count (Ok status) failure known none opening is = absurd is
unopened_tells is_terminal plan out count (Err error) failure None none opening is = tt
unopened_tells is_terminal plan out count (Err error) failure (Some texts) none opening is =
    subst (λ failure. TellsTexts is_terminal plan out out (status_of failure) texts) (sym is) (opening_tells is_terminal plan out count failure texts (none (read_texts plan.is_strict texts)) opening)
