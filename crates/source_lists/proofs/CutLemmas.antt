-- What stacks are that begin at a frame of a name, and of which frames are left out, by the numbers of names.
use Rattle.std.proofs.Common.{◌≡◌, ◌∙◌, ◌<◌, ◌≤◌, ◌+◌, ℕ, zero, suc, Bool, true, false, cond, not, refl, sym, ap, arith, List, [], ◌∷◌, ◌++◌, length, take, map, get_or, All, Option, None, Some, is_some}
use Rattle.std.specs.List.{filter, list_any}
use Rattle.std.specs.Str.{bytes_eq}
use Rattle.std.proofs.lemmas.Bool.{false≢true, true≢false}
use Rattle.std.proofs.lemmas.List.{map_push, get_or-map, take_more, length-map}
use Rattle.std.proofs.lemmas.List.Elements.{All-filter, All-head, All-map, All-tail}
use Rattle.std.proofs.lemmas.List.Filters.{length-filter_both}
use Rattle.std.proofs.lemmas.List.Sums.{sum_by-cons}
use Rattle.std.proofs.lemmas.Simd.{map-map}
use Rattle.sample_tables.specs.Samples.{IsLimited, total_weight}
use Rattle.sample_tables.specs.declared.samples.Sample.{Sample}
use Rattle.sample_tables.specs.Rows.{AreNamed, name_at, named, row_at, row_by, sample_at, stack_at}
use Rattle.merged_stacks.specs.Timeline.{samples_of}
use Rattle.run_options.specs.Filters.{is_none}
use Rattle.ring_collect.specs.Collection.{seen_as_rest}
use Rattle.stack_core.specs.Interleaving.{IsInterleaving, list_of}
use Rattle.stack_core.specs.Ledgers.{ListState}
use Rattle.stack_core.specs.Reading.{IsSourceLimited, Rest}
use Rattle.source_lists.specs.FromNames.{has_name, rest_from, stack_from}
use Rattle.source_lists.specs.Lists.{AreLimited}
use Rattle.source_lists.specs.OmittedNames.{rest_without, shown_rests, stack_without}
use Rattle.source_lists.specs.checked.CutStacks.{begun_stack, edited_rest, edited_sample, from_marked, shown_numbers, shown_stack, unmarked}
use Rattle.source_lists.specs.checked.KeptStacks.{passing_rest}
use Rattle.source_lists.specs.checked.NameMarks.{begins, is_among, is_marked}
use Rattle.source_lists.proofs.KeptLemmas.{limited_lists, marked, sample_named, samples_of_rests}

-- ---- names and their marks

module _ (test : List ℕ → Bool) (told : List (List ℕ)) where
  chosen : (b : Bool) (k : ℕ) (frames left : List ℕ) → map (name_at told) (cond b (k ∷ frames) left) ≡ cond b (map (name_at told) (k ∷ frames)) (map (name_at told) left)
  chosen true k frames left = refl
  chosen false k frames left = refl

  -- the numbers without a mark are those of the names that don't pass
  pub unmarked_named : (frames : List ℕ) → All (λ k. k < length told) frames → map (name_at told) (unmarked (map test told) frames) ≡ filter (λ frame. not (test frame)) (map (name_at told) frames)
  unmarked_named [] h = refl
  unmarked_named (k ∷ frames) h =
      let later = unmarked (map test told) frames in
      chosen (not (is_marked (map test told) k)) k later later
      ∙ (λ i. cond (not (marked test told k (All-head (λ k. k < length told) k frames h) i)) (name_at told k ∷ unmarked_named frames (All-tail (λ k. k < length told) k frames h) i) (unmarked_named frames (All-tail (λ k. k < length told) k frames h) i))

-- a stack begins at its first number with a mark
begun_named : (from : Option (List ℕ)) (told : List (List ℕ)) (frames : List ℕ) → All (λ k. k < length told) frames → map (name_at told) (from_marked (map (begins from) told) frames) ≡ begun_stack from (map (name_at told) frames)
begun_named None told [] h = refl
begun_named (Some name) told [] h = refl
begun_named None told (k ∷ frames) h =
    λ i. map (name_at told) (cond (marked (begins None) told k (All-head (λ k. k < length told) k frames h) i) (k ∷ frames) (from_marked (map (begins None) told) frames))
begun_named (Some name) told (k ∷ frames) h =
    chosen (begins (Some name)) told (is_marked (map (begins (Some name)) told) k) k frames (from_marked (map (begins (Some name)) told) frames)
    ∙ (λ i. cond (marked (begins (Some name)) told k (All-head (λ k. k < length told) k frames h) i) (map (name_at told) (k ∷ frames)) (begun_named (Some name) told frames (All-tail (λ k. k < length told) k frames h) i))

-- what begins later has no other numbers
all_from_marked : (P : ℕ → Type 0) (marks : List Bool) (frames : List ℕ) → All P frames → All P (from_marked marks frames)
all_from_marked P marks [] h = h
all_from_marked P marks (k ∷ frames) h = go (is_marked marks k) (all_from_marked P marks frames (All-tail P k frames h))
  where
    go : (b : Bool) → All P (from_marked marks frames) → All P (cond b (k ∷ frames) (from_marked marks frames))
    go true later = h
    go false later = later

one_or_later : {X : Type 0} (b : Bool) (x : X) (xs later : List X) → length later ≤ length xs → length (cond b (x ∷ xs) later) ≤ length (x ∷ xs)
one_or_later true x xs later fewer = omega arith
one_or_later false x xs later fewer = omega (arith, fewer)

from_marked_shorter : (marks : List Bool) (frames : List ℕ) → length (from_marked marks frames) ≤ length frames
from_marked_shorter marks [] = omega arith
from_marked_shorter marks (k ∷ frames) =
    one_or_later (is_marked marks k) k frames (from_marked marks frames) (from_marked_shorter marks frames)

fewer : {X : Type 0} (p : X → Bool) (xs : List X) → length (filter p xs) ≤ length xs
fewer p xs = omega (arith, length-filter_both p (λ x. not (p x)) (λ _. refl) xs)

pub numbers_shorter : (begun omitted : List Bool) (frames : List ℕ) → length (shown_numbers begun omitted frames) ≤ length frames
numbers_shorter begun omitted frames =
    omega (arith, fewer (λ k. not (is_marked omitted k)) (from_marked begun frames), from_marked_shorter begun frames)

pub all_shown_numbers : (P : ℕ → Type 0) (begun omitted : List Bool) (frames : List ℕ) → All P frames → All P (shown_numbers begun omitted frames)
all_shown_numbers P begun omitted frames h =
    All-filter (λ k. not (is_marked omitted k)) P (from_marked begun frames) (all_from_marked P begun frames h)

-- the numbers of a stack that is shown
shown_named : (from : Option (List ℕ)) (omitted told : List (List ℕ)) (frames : List ℕ) → All (λ k. k < length told) frames
    → map (name_at told) (shown_numbers (map (begins from) told) (map (is_among omitted) told) frames) ≡ shown_stack from omitted (map (name_at told) frames)
shown_named from omitted told frames h =
    let begun = from_marked (map (begins from) told) frames in
    unmarked_named (is_among omitted) told begun (all_from_marked (λ k. k < length told) (map (begins from) told) frames h)
    ∙ ap (stack_without omitted) (begun_named from told frames h)

-- ---- samples

-- a sample that is taken by its stack, which is cut
pub cut_again : (from : Option (List ℕ)) (omitted : List (List ℕ)) (list : ListState) (i n w : ℕ) → AreNamed list.told list.rows list.samples → i < length list.samples → n < length list.stacks
    → stack_at list.stacks n ≡ (row_at list.rows i).frames → w ≡ (sample_at list.samples i).weight
    → named list.told (row_by (map (shown_numbers (map (begins from) list.told) (map (is_among omitted) list.told)) list.stacks) (record { stack = n; weight = w })) ≡ edited_sample (shown_stack from omitted) (sample_at list.samples i)
cut_again from omitted list i n w h within kept same weight =
    let shown = shown_numbers (map (begins from) list.told) (map (is_among omitted) list.told) in
    let frames = (row_at list.rows i).frames in
    let within_rows : i < length list.rows = omega (arith, within, ap length h.samples_named, length-map list.rows (named list.told)) in
    let cut = get_or-map shown list.stacks n [] [] kept ∙ ap shown same in
    let stack = ap (map (name_at list.told)) cut ∙ shown_named from omitted list.told frames (h.each i (record { frames = []; weight = 0 }) within_rows).numbers in
    let is = sample_named list.told list.rows list.samples i h within in
    (λ j. record { stack = stack j; weight = weight j })
    ∙ ap (λ (sample : Sample). record { stack = shown_stack from omitted sample.stack; weight = (sample_at list.samples i).weight }) (sym is)

pub cut_more : (edit : List (List ℕ) → List (List ℕ)) (samples : List Sample) (i : ℕ) → i < length samples → map (edited_sample edit) (take i samples) ++ edited_sample edit (sample_at samples i) ∷ [] ≡ map (edited_sample edit) (take (i + 1) samples)
cut_more edit samples i within =
    sym (map_push (edited_sample edit) (take i samples) (sample_at samples i))
    ∙ ap (map (edited_sample edit)) (sym (take_more samples i (record { stack = []; weight = 0 }) within))

-- cutting leaves a source within its limits
shorter : (name : List ℕ) (stack : List (List ℕ)) → length (stack_from name stack) ≤ length stack
shorter name [] = omega arith
shorter name (frame ∷ stack) =
    one_or_later (bytes_eq frame name) frame stack (stack_from name stack) (shorter name stack)

abbrev Shortens : (List (List ℕ) → List (List ℕ)) → Type 0
Shortens edit = (stack : List (List ℕ)) → length (edit stack) ≤ length stack

pub shown_shorter : (from : Option (List ℕ)) (omitted : List (List ℕ)) (stack : List (List ℕ)) → length (shown_stack from omitted stack) ≤ length stack
shown_shorter None omitted stack = fewer (λ frame. not (is_among omitted frame)) stack
shown_shorter (Some name) omitted stack = omega (arith, fewer (λ frame. not (is_among omitted frame)) (stack_from name stack), shorter name stack)

module _ (edit : List (List ℕ) → List (List ℕ)) where
  same_weight : (samples : List Sample) → total_weight (map (edited_sample edit) samples) ≡ total_weight samples
  same_weight [] = refl
  same_weight (sample ∷ samples) =
      let weight : Sample → ℕ = λ sample. sample.weight in
      sum_by-cons weight (edited_sample edit sample) (map (edited_sample edit) samples)
      ∙ (ap (λ n. sample.weight + n) (same_weight samples) ∙ sym (sum_by-cons weight sample samples))

  limited_cut : Shortens edit → (samples : List Sample) → IsSourceLimited samples → IsSourceLimited (map (edited_sample edit) samples)
  limited_cut shortens samples limited = record {
    each = All-map IsLimited (edited_sample edit) samples (λ k d within.
        let one = limited.each k d within in
        record { depth = omega (arith, one.depth, shortens (get_or samples k d).stack); weight = one.weight });
    total = omega (arith, same_weight samples, limited.total);
  }

  -- ---- lists

  pub limited_cut_lists : Shortens edit → (lists left : List ListState) → map seen_as_rest left ≡ map (edited_rest edit) (map seen_as_rest lists) → AreLimited lists → AreLimited left
  limited_cut_lists shortens lists left same limits =
      limited_lists left (map (edited_rest edit) (map seen_as_rest lists)) same
      (All-map (λ (rest : Rest). IsSourceLimited rest.samples) (edited_rest edit) (map seen_as_rest lists)
      (All-map (λ (rest : Rest). IsSourceLimited (map (edited_sample edit) rest.samples)) seen_as_rest lists
      (λ k d within. limited_cut shortens _ (limits.each k d within))))
      (omega (arith, limits.few, length-map (map seen_as_rest lists) (edited_rest edit), length-map lists seen_as_rest))

  pub samples_cut : (lists left : List ListState) → map seen_as_rest left ≡ map (edited_rest edit) (map seen_as_rest lists) → map (map (edited_sample edit)) (samples_of lists) ≡ samples_of left
  samples_cut lists left same =
      map-map (map (edited_sample edit)) (λ (list : ListState). list.samples) lists
      ∙ (sym (map-map (λ (rest : Rest). rest.samples) (λ list. edited_rest edit (seen_as_rest list)) lists)
      ∙ (ap (map (λ (rest : Rest). rest.samples)) (sym (map-map (edited_rest edit) seen_as_rest lists))
      ∙ sym (samples_of_rests left (map (edited_rest edit) (map seen_as_rest lists)) same)))

  as_long : (lists : List (List Sample)) (source : ℕ) → length (list_of (map (map (edited_sample edit)) lists) source) ≡ length (list_of lists source)
  as_long [] source = refl
  as_long (list ∷ lists) zero = length-map list (edited_sample edit)
  as_long (list ∷ lists) (suc source) = as_long lists source

  -- an order of lists is one of them cut
  pub ordered_cut : (order : List ℕ) (lists : List (List Sample)) → IsInterleaving order lists → IsInterleaving order (map (map (edited_sample edit)) lists)
  ordered_cut order lists ordered = record { as_often = λ source. ordered.as_often source ∙ sym (as_long lists source) }

-- ---- the stages

-- what is cut of the samples that have the name is what is shown
staged_rest : (name : List ℕ) (omitted : List (List ℕ)) (rest : Rest) → edited_rest (shown_stack (Some name) omitted) (passing_rest (list_any (begins (Some name))) rest) ≡ rest_without omitted (rest_from name rest)
staged_rest name omitted rest =
    let passing = (passing_rest (has_name name) rest).samples in
    λ i. record { samples = sym (map-map (edited_sample (stack_without omitted)) (edited_sample (stack_from name)) passing) i; ending = rest.ending }

maps_same : {X Y : Type 0} (f g : X → Y) → ((x : X) → f x ≡ g x) → (xs : List X) → map f xs ≡ map g xs
maps_same f g same [] = refl
maps_same f g same (x ∷ xs) = λ i. same x i ∷ maps_same f g same xs i

pub shown_staged : (from : Option (List ℕ)) (omitted : List (List ℕ)) (lists kept left : List ListState) → is_some from ≡ true → map seen_as_rest kept ≡ map (passing_rest (list_any (begins from))) (map seen_as_rest lists)
    → map seen_as_rest left ≡ map (edited_rest (shown_stack from omitted)) (map seen_as_rest kept) → map seen_as_rest left ≡ shown_rests from omitted (map seen_as_rest lists)
shown_staged None omitted lists kept left given passed cut = absurd (false≢true given)
shown_staged (Some name) omitted lists kept left given passed cut =
    let rests = map seen_as_rest lists in
    let edited = edited_rest (shown_stack (Some name) omitted) in
    let passing = passing_rest (list_any (begins (Some name))) in
    cut
    ∙ (ap (map edited) passed
    ∙ (map-map edited passing rests
    ∙ (maps_same (λ rest. edited (passing rest)) (λ rest. rest_without omitted (rest_from name rest)) (staged_rest name omitted) rests
    ∙ sym (map-map (rest_without omitted) (rest_from name) rests))))

-- where no name is given all samples are
pub shown_cut : (from : Option (List ℕ)) (omitted : List (List ℕ)) (lists left : List ListState) → is_some from ≡ false
    → map seen_as_rest left ≡ map (edited_rest (shown_stack from omitted)) (map seen_as_rest lists) → map seen_as_rest left ≡ shown_rests from omitted (map seen_as_rest lists)
shown_cut None omitted lists left none cut = cut
shown_cut (Some name) omitted lists left none cut = absurd (true≢false none)

-- where nothing is left out nothing changes
nothing_left_out : (stack : List (List ℕ)) → stack_without [] stack ≡ stack
nothing_left_out [] = refl
nothing_left_out (frame ∷ stack) = ap (λ more. frame ∷ more) (nothing_left_out stack)

same_samples : (samples : List Sample) → map (edited_sample (stack_without [])) samples ≡ samples
same_samples [] = refl
same_samples (sample ∷ samples) = λ i. record { stack = nothing_left_out sample.stack i; weight = sample.weight } ∷ same_samples samples i

pub shown_whole : (rests : List Rest) → rests ≡ shown_rests None [] rests
shown_whole [] = refl
shown_whole (rest ∷ rests) = λ i. record { samples = sym (same_samples rest.samples) i; ending = rest.ending } ∷ shown_whole rests i

pub shown_unchanged : (from : Option (List ℕ)) (omitted : List (List ℕ)) (rests : List Rest) → is_some from ≡ false → is_none omitted ≡ true → rests ≡ shown_rests from omitted rests
shown_unchanged None [] rests none empty = shown_whole rests
shown_unchanged None (name ∷ omitted) rests none empty = absurd (false≢true empty)
shown_unchanged (Some name) omitted rests none empty = absurd (true≢false none)

rests_many : (from : Option (List ℕ)) (omitted : List (List ℕ)) (rests : List Rest) → length (shown_rests from omitted rests) ≡ length rests
rests_many None omitted rests = length-map rests (rest_without omitted)
rests_many (Some name) omitted rests = length-map (map (rest_from name) rests) (rest_without omitted) ∙ length-map rests (rest_from name)

pub as_many : (from : Option (List ℕ)) (omitted : List (List ℕ)) (lists left : List ListState) → map seen_as_rest left ≡ shown_rests from omitted (map seen_as_rest lists) → length left ≡ length lists
as_many from omitted lists left same =
    omega (arith, ap length same, length-map left seen_as_rest, rests_many from omitted (map seen_as_rest lists), length-map lists seen_as_rest)
