-- Streams that are opened one after another.
use Rattle.std.proofs.Common.{◌≡◌, ◌||◌, ◌+◌, ◌<◌, ◌≤◌, ◌^◌, ℕ, Bool, true, false, List, [], ◌∷◌, ◌++◌, Option, Some, None, IfSome, length, map, refl, take, get_or, ap, sym, subst, ◌∙◌, arith}
use Rattle.std.proofs.lemmas.List.Folds.{list_any_more}
use Rattle.std.specs.Prelude.{◌↔◌, IsNone, IsSomeAnd, slice_get}
use Rattle.std.specs.List.{AllZip, list_any}
use Rattle.std.proofs.lemmas.Bool.{true≢false}
use Rattle.std.proofs.lemmas.List.{length-map, map-append, take-map, take_more, take_all}
use Rattle.std.proofs.lemmas.Option.{get_or_from_slice_get}
use Rattle.std.proofs.lemmas.Slice.Zip.{all_zipped_more}
use Rattle.stack_core.specs.Reading.{Rest}
use Rattle.stack_core.specs.RowReading.{GivesSome}
use Rattle.folded_lines.proofs.StreamTexts.{stream_first, stream_possible, stream_whole}
use Rattle.folded_lines.proofs.StrictStreamTexts.{strict_front_first, strict_possible, strict_tellable, strict_whole}
use Rattle.byte_io.specs.declared.whole_input.LoadFault.{LoadFault}
use Rattle.byte_io.specs.declared.whole_input.LoadFault.TheVariants as load
use Rattle.ring_collect.proofs.RoundLemmas.{slice_get_map}
use Rattle.ring_collect.proofs.RunLemmas.{at_index}
use Rattle.source_views.specs.Failures.{IsOfLoad, failure_of_load}
use Rattle.source_views.specs.declared.failures.Failure.{Failure}
use Rattle.source_views.specs.declared.failures.Failure.TheVariants.{Unreadable}
use Rattle.flame_tool.proofs.MappedTests.{list_any-map}
use Rattle.flame_tool.specs.ToldLive.{IsMissing, stream_count}
use Rattle.flame_tool.specs.checked.LiveStreams.{AreOpened, GivesStream, IsOfFile, ReadsAs, ReadsText}

-- a reader that gives what a stream may give
possible_stream : (is_strict : Bool) (remaining : Option (List ℕ)) (is_sure : Bool) → (is_sure ≡ true → IsSomeAnd remaining (λ bytes. length bytes < 2 ^ 64)) → GivesSome (GivesStream is_strict remaining is_sure)
possible_stream false remaining is_sure small = stream_possible remaining is_sure small
possible_stream true remaining is_sure small = strict_possible remaining is_sure small

stream_reads : (is_strict : Bool) (text : List ℕ) (is_sure : Bool) (rest : Rest) → GivesStream is_strict (Some text) is_sure rest → ReadsAs is_strict text rest
stream_reads false text is_sure rest gives = record {
  whole = stream_whole text is_sure rest gives;
  first = stream_first text is_sure rest gives;
  tellable = λ strict. absurd (true≢false (sym strict));
}
stream_reads true text is_sure rest gives = record {
  whole = strict_whole text is_sure rest gives;
  first = strict_front_first text is_sure rest gives;
  tellable = λ _. strict_tellable (Some text) is_sure rest gives;
}

module _ (is_strict : Bool) (gives : Rest → Type 0) (remaining : Option (List ℕ)) (is_sure : Bool) (same : (rest : Rest) → gives rest ↔ GivesStream is_strict remaining is_sure rest) where
  pub possible_reader : (is_sure ≡ true → IsSomeAnd remaining (λ bytes. length bytes < 2 ^ 64)) → GivesSome gives
  possible_reader small =
      let some = possible_stream is_strict remaining is_sure small in
      record { rest = some.rest; is_given = (same some.rest).1 some.is_given }

  pub reader_of_text : (known : Option (List ℕ)) → IfSome known (λ text. remaining ≡ Some text) → IfSome known (ReadsText is_strict gives)
  reader_of_text None is = tt
  reader_of_text (Some text) is = λ rest given.
      stream_reads is_strict text is_sure rest (subst (λ bytes. GivesStream is_strict bytes is_sure rest) is ((same rest).0 given))

-- the reader of one path more
pub opened_more : {A R : Type 0} (is_strict : Bool) (gives : R → Rest → Type 0) (bytes : A → List ℕ) (files : List ℕ → Option (List ℕ)) (paths : List A) (at : ℕ) (path : A) (readers : List R) (reader : R)
    → at < length paths → path ≡ get_or paths at path → AllZip (IsOfFile is_strict gives files) (map bytes (take at paths)) readers → IsOfFile is_strict gives files (bytes path) reader
    → AllZip (IsOfFile is_strict gives files) (map bytes (take (at + 1) paths)) (readers ++ reader ∷ [])
opened_more is_strict gives bytes files paths at path readers reader below is opened here =
    subst (λ ps. AllZip (IsOfFile is_strict gives files) ps (readers ++ reader ∷ []))
    (sym (ap (map bytes) (take_more paths at path below ∙ ap (λ p. take at paths ++ p ∷ []) (sym is)) ∙ map-append bytes (take at paths) (path ∷ [])))
    (all_zipped_more (IsOfFile is_strict gives files) (map bytes (take at paths)) readers (bytes path) reader opened here)

-- the readers of all paths, of which there is one
pub opened_whole : {A R : Type 0} (is_strict : Bool) (gives : R → Rest → Type 0) (bytes : A → List ℕ) (input : Option (List ℕ)) (files : List ℕ → Option (List ℕ)) (paths : List A) (at : ℕ) (readers : List R)
    → 0 < length paths → length paths ≤ at → AllZip (IsOfFile is_strict gives files) (map bytes (take at paths)) readers → AreOpened is_strict gives input files (map bytes paths) readers
opened_whole is_strict gives bytes input files [] at readers some all opened = absurd (omega arith)
opened_whole is_strict gives bytes input files (path ∷ paths) at readers some all opened =
    subst (λ ps. AllZip (IsOfFile is_strict gives files) (map bytes ps) readers) (take_all at (path ∷ paths) all) opened

-- no path is known to be absent, of one more
pub present_more : {A : Type 0} (absent : List ℕ → Bool) (bytes : A → List ℕ) (paths : List A) (at : ℕ) (path : A) → at < length paths → path ≡ get_or paths at path
    → list_any absent (map bytes (take at paths)) ≡ false → absent (bytes path) ≡ false → list_any absent (map bytes (take (at + 1) paths)) ≡ false
present_more absent bytes paths at path below is none here =
    list_any-map absent bytes (take (at + 1) paths) ∙ list_any_more (λ path. absent (bytes path)) paths at path below
    ∙ (λ i. (sym (list_any-map absent bytes (take at paths)) ∙ none) i || (ap (λ path. absent (bytes path)) (sym is) ∙ here) i)

pub not_true : (b : Bool) → (b ≡ true → false ≡ true) → b ≡ false
not_true true never = sym (never refl)
not_true false never = refl

-- ---- files that can't be opened

-- of paths of which the first are not known to be absent
pub missing_file : {A : Type 0} (absent : List ℕ → Bool) (known : List ℕ → Option (List ℕ)) (bytes : A → List ℕ) (paths : List A) (at : ℕ) (path : A) (failure : Failure) → at < length paths → path ≡ get_or paths at path
    → list_any absent (map bytes (take at paths)) ≡ false → IsOfLoad at failure → (failure ≡ Unreadable at → IsNone (known (bytes path))) → IsMissing absent known (map bytes paths) failure
missing_file absent known bytes paths at path failure below same none loaded unknown = by loaded.0 loaded.1
  where
    is : slice_get paths at ≡ Some path
    is =
        let found = at_index paths at below in
        subst (λ x. slice_get paths at ≡ Some x) (sym (get_or_from_slice_get paths at found.0 path found.1) ∙ sym same) found.1

    by : (fault : LoadFault) → failure ≡ failure_of_load at fault → IsMissing absent known (map bytes paths) failure
    by load.Io same = subst (IsMissing absent known (map bytes paths)) (sym same) (
      subst (λ files. list_any absent files ≡ false) (sym (take-map bytes at paths)) none,
      subst (λ found. IfSome found (λ path. IsNone (known path))) (sym (slice_get_map bytes paths at path is)) (unknown same),
    )
    by load.TooLarge same = subst (IsMissing absent known (map bytes paths)) (sym same) tt
    by load.OutOfMemory same = subst (IsMissing absent known (map bytes paths)) (sym same) tt

-- how many streams there are
pub some_streams : {A : Type 0} (bytes : A → List ℕ) (paths : List A) → 0 < length paths → stream_count (map bytes paths) ≡ length paths
some_streams bytes [] some = absurd (omega (arith, some))
some_streams bytes (path ∷ paths) some = length-map (path ∷ paths) bytes
