-- Readers of ranges of a stored text give what the whole stands for.
use Rattle.std.proofs.Common.{◌≡◌, ◌↔◌, ℕ, ◌+◌, ◌-◌, ◌<◌, ◌≤◌, false, List, [], ◌∷◌, ◌++◌, length, length-append, map, take, drop, All, Option, Some, None, IfSome, refl, sym, ap, subst, ◌∙◌, arith, inr}
use Rattle.std.specs.List.{AllZip, concat}
use Rattle.std.proofs.Math.Seq.{take-add}
use Rattle.std.proofs.lemmas.List.{drop-append-le, length-take-le, take_all}
use Rattle.std.proofs.lemmas.List.Elements.{All-nil, All-head, All-push, All-tail}
use Rattle.byte_io.specs.Stored.{known_range, unread_range}
use Rattle.byte_io.specs.contracts.stored_range.StoredRangeInlet as range_inlet
use Rattle.byte_io.specs.declared.stored_range.StoredRange.{StoredRange}
use Rattle.bytes.proofs.Ranges.{drop-take_less}
use Rattle.stack_core.specs.Parts.{IsClean, ReadsInParts}
use Rattle.stack_core.specs.Reading.{IsSourceLimited, Rest}
use Rattle.stack_core.specs.RowReading.{GivesSome}
use Rattle.folded_lines.specs.Reading.{read_folded}
use Rattle.folded_lines.specs.Streams.{StreamGives}
use Rattle.folded_lines.specs.TextParts.{IsWholeLines}
use Rattle.folded_lines.specs.checked.StreamPlaces.{GivesBy}
use Rattle.folded_lines.specs.declared.streams.FoldedStream.{FoldedStream}
use Rattle.folded_lines.proofs.PartReaders.{concat_push, cut_before, parts_read}
use Rattle.folded_lines.proofs.StreamTexts.{stream_limits, stream_possible, stream_whole}

-- ---- cuts

-- bytes between two places, of which the latter is behind a line feed
lines_between : (all front : List ℕ) (begin end : ℕ) → begin < end → end ≤ length all → take end all ≡ front ++ 10 ∷ [] → IsWholeLines (take (end - begin) (drop begin all))
lines_between all front begin end before within feed =
    let room : begin ≤ length front = omega (arith, before, ap length feed, length-append front (10 ∷ []), length-take-le end all within) in
    inr (drop begin front, sym (drop-take_less all begin end (omega arith)) ∙ ap (drop begin) feed ∙ drop-append-le begin front (10 ∷ []) room)

pub known_lines : (known : Option (List ℕ)) (begin end : ℕ) → begin < end → IfSome known (λ all. (end ≤ length all) × ((front : List ℕ) × (take end all ≡ front ++ 10 ∷ [])))
    → IfSome known (λ all. IsWholeLines (take (end - begin) (drop begin all)))
known_lines None begin end before line = tt
known_lines (Some all) begin end before line = lines_between all line.1.0 begin end before line.0 line.1.1

-- ---- readers of ranges

abbrev pub RangeStream : Type 0
RangeStream = FoldedStream StoredRange range_inlet.TheImpl.ghosts

abbrev pub gives_rest : RangeStream → Rest → Type 0
gives_rest reader rest = GivesBy (unread_range reader.lines.inlet) false reader.lines reader.counts reader.ended rest

-- it told nothing, and reads bytes of which these are known
pub record IsRangeReader (known : Option (List ℕ)) (reader : RangeStream) : Type 0 where
  pub gives : (rest : Rest) → gives_rest reader rest ↔ StreamGives known false rest
  pub told : reader.telling ≡ record { names = []; stacks = [] }

abbrev pub IsSomeRange : RangeStream → Type 0
IsSomeRange reader = (known : Option (List ℕ)) × IsRangeReader known reader

abbrev pub IsPartReader : RangeStream → List ℕ → Type 0
IsPartReader reader part = IsRangeReader (Some part) reader

-- readers of the parts of a text up to a place
pub record AreReadTo (all : List ℕ) (readers : List RangeStream) (place : ℕ) : Type 0 where
  pub parts : List (List ℕ)
  pub lines : All IsWholeLines parts
  pub within : place ≤ length all
  pub so_far : concat parts ≡ take place all
  pub read : AllZip IsPartReader readers parts

read_push : (readers : List RangeStream) (parts : List (List ℕ)) (reader : RangeStream) (part : List ℕ) → AllZip IsPartReader readers parts → IsPartReader reader part
    → AllZip IsPartReader (readers ++ reader ∷ []) (parts ++ part ∷ [])
read_push [] [] reader part read last = (last, tt)
read_push [] (p ∷ parts) reader part read last = absurd read
read_push (r ∷ readers) [] reader part read last = absurd read
read_push (r ∷ readers) (p ∷ parts) reader part read last = (read.0, read_push readers parts reader part read.1 last)

joined_to : (all : List ℕ) (parts : List (List ℕ)) (begin end : ℕ) → begin ≤ end → concat parts ≡ take begin all → concat (parts ++ take (end - begin) (drop begin all) ∷ []) ≡ take end all
joined_to all parts begin end ordered so_far =
    let sum : begin + (end - begin) ≡ end = omega arith in
    concat_push parts (take (end - begin) (drop begin all)) ∙ ap (λ front. front ++ take (end - begin) (drop begin all)) so_far
    ∙ sym (take-add begin (end - begin) all) ∙ ap (λ n. take n all) sum

pub none_read : (known : Option (List ℕ)) → IfSome known (λ all. AreReadTo all [] 0)
none_read None = tt
none_read (Some all) = record { parts = []; lines = All-nil IsWholeLines; within = omega arith; so_far = refl; read = tt }

-- one reader more
pub read_further : (known : Option (List ℕ)) (readers readers' : List RangeStream) (reader : RangeStream) (begin end : ℕ) → readers' ≡ readers ++ reader ∷ [] → begin ≤ end
    → IfSome known (λ all. begin ≤ length all → end ≤ length all) → IfSome known (λ all. IsWholeLines (take (end - begin) (drop begin all)))
    → IsRangeReader (known_range known begin (end - begin)) reader → IfSome known (λ all. AreReadTo all readers begin) → IfSome known (λ all. AreReadTo all readers' end)
read_further None readers readers' reader begin end more ordered within lines here so_far = tt
read_further (Some all) readers readers' reader begin end more ordered within lines here so_far =
    let part = take (end - begin) (drop begin all) in
    subst (λ readers. AreReadTo all readers end) (sym more) (record {
      parts = so_far.parts ++ part ∷ [];
      lines = All-push IsWholeLines so_far.parts part so_far.lines lines;
      within = within so_far.within;
      so_far = joined_to all so_far.parts begin end ordered so_far.so_far;
      read = read_push readers so_far.parts reader part so_far.read here;
    })

-- ---- what they give

-- what has no fault was read to its end
clean_reads : (reader : RangeStream) (part : List ℕ) (rest : Rest) → IsPartReader reader part → gives_rest reader rest → IsClean rest → rest ≡ read_folded part
clean_reads reader part rest is gives clean = stream_whole part false rest ((is.gives rest).0 gives) (λ after stopped. let ends = sym clean.1 ∙ stopped in cc)

all_read : (readers : List RangeStream) (parts : List (List ℕ)) (rests : List Rest) → AllZip IsPartReader readers parts → AllZip gives_rest readers rests → All IsClean rests → rests ≡ map read_folded parts
all_read [] [] [] read given clean = refl
all_read [] [] (rest ∷ rests) read given clean = absurd given
all_read [] (part ∷ parts) rests read given clean = absurd read
all_read (reader ∷ readers) [] rests read given clean = absurd read
all_read (reader ∷ readers) (part ∷ parts) [] read given clean = absurd given
all_read (reader ∷ readers) (part ∷ parts) (rest ∷ rests) read given clean =
    λ i. clean_reads reader part rest read.0 given.0 (All-head IsClean rest rests clean) i ∷ all_read readers parts rests read.1 given.1 (All-tail IsClean rest rests clean) i

-- the last reader reads up to the end
pub readers_in_parts : (known : Option (List ℕ)) (readers readers' : List RangeStream) (reader : RangeStream) (begin end : ℕ) → readers' ≡ readers ++ reader ∷ []
    → IfSome known (λ all. end ≡ length all) → IsRangeReader (known_range known begin (end - begin)) reader → IfSome known (λ all. AreReadTo all readers begin)
    → IfSome known (λ all. (rests : List Rest) → AllZip gives_rest readers' rests → ReadsInParts (read_folded all) rests)
readers_in_parts None readers readers' reader begin end more whole here so_far = tt
readers_in_parts (Some all) readers readers' reader begin end more whole here so_far = λ rests given clean fits.
    let part = take (end - begin) (drop begin all) in
    let parts = so_far.parts ++ part ∷ [] in
    let text : concat parts ≡ all =
    joined_to all so_far.parts begin end (omega (arith, whole, so_far.within)) so_far.so_far ∙ take_all end all (omega (arith, whole)) in
    let read = read_push readers so_far.parts reader part so_far.read here in
    let same : rests ≡ map read_folded parts = all_read (readers ++ reader ∷ []) parts rests read (subst (λ readers. AllZip gives_rest readers rests) more given) clean in
    subst (λ (rests : List Rest). ReadsInParts (read_folded all) rests) (sym same)
    (subst (λ text. ReadsInParts (read_folded text) (map read_folded parts)) text (parts_read parts (cut_before so_far.parts part so_far.lines))) clean fits

-- ---- each of them

pub range_possible : (reader : RangeStream) → IsSomeRange reader → GivesSome (gives_rest reader)
range_possible reader is =
    let some = stream_possible is.0 false (λ sure. cc) in
    record { rest = some.rest; is_given = (is.1.gives some.rest).1 some.is_given }

pub range_limits : (reader : RangeStream) → IsSomeRange reader → (rest : Rest) → gives_rest reader rest → IsSourceLimited rest.samples
range_limits reader is rest gives = stream_limits is.0 false rest ((is.1.gives rest).0 gives)
