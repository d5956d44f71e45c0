-- What is kept of lists, by the numbers of names and stacks.
use Rattle.std.proofs.Common.{◌≡◌, ◌∙◌, ◌<◌, ◌≤◌, ◌+◌, ◌||◌, ◌&&◌, ℕ, zero, suc, Bool, true, false, cond, not, refl, sym, ap, subst, arith, List, [], ◌∷◌, ◌++◌, length, take, map, get_or, All, string_bytes}
use Rattle.std.specs.List.{filter, list_any}
use Rattle.std.specs.Prelude.{Option, Some, None, String, nat_eq}
use Rattle.std.proofs.lemmas.Bool.Decides.{nat_tests}
use Rattle.std.proofs.lemmas.List.{get_or-map, take_all, take_more, length-map, map-append}
use Rattle.std.proofs.lemmas.List.Elements.{All-filter, All-head, All-tail, All-map, filter-append, filter_more}
use Rattle.std.proofs.lemmas.List.Filters.{sum_by-filter_both}
use Rattle.std.proofs.lemmas.Simd.{map-map}
use Rattle.sample_tables.specs.Samples.{IsLimited}
use Rattle.sample_tables.specs.declared.samples.Sample.{Sample}
use Rattle.sample_tables.specs.Rows.{AreNamed, Row, name_at, named, row_at, row_by, sample_at, stack_at}
use Rattle.stack_core.specs.Interleaving.{AreOf, IsInterleaving, count_of, interleaved, list_of, of_source, sources_of}
use Rattle.stack_core.specs.Ledgers.{ListState}
use Rattle.stack_core.specs.Reading.{IsSourceLimited, Rest}
use Rattle.stack_core.specs.declared.endings.Close.{Close}
use Rattle.stack_core.specs.declared.endings.Close.TheVariants.{NoMemory, Read}
use Rattle.stack_core.specs.declared.endings.SourceEnd.{SourceEnd}
use Rattle.stack_core.proofs.InterleavingLemmas.{AreOf-IsInterleaving, IsInterleaving-AreOf}
use Rattle.run_options.specs.Filters.{has_match, has_text, is_everything, is_none, keeps, kept_rest}
use Rattle.run_options.proofs.FilterLemmas.{all_is_kept}
use Rattle.run_options.specs.declared.filters.Filter.{Filter}
use Rattle.merged_stacks.specs.Timeline.{samples_of}
use Rattle.ring_collect.specs.Collection.{seen_as_rest}
use Rattle.source_lists.specs.Lists.{AreLimited}
use Rattle.source_lists.specs.checked.KeptStacks.{all_are_passing, are_passing, keeps_marked, passing_rest, passing_samples}
use Rattle.source_lists.specs.checked.NameMarks.{begins, is_marked}
use Rattle.source_lists.proofs.OrderLemmas.{length-interleaved, no_pair, pair_at}

-- ---- names and stacks

or_false : (b : Bool) → (b || false) ≡ b
or_false true = refl
or_false false = refl

and_true : (b : Bool) → (b && true) ≡ b
and_true true = refl
and_true false = refl

-- texts by their bytes
pub any_named : {Z : Type 0} (test : List ℕ → Bool) (texts : List (String Z)) → list_any (λ text. test (string_bytes text)) texts ≡ list_any test (map string_bytes texts)
any_named test [] = refl
any_named test (text ∷ texts) = ap (λ more. test (string_bytes text) || more) (any_named test texts)

module _ (test : List ℕ → Bool) (told : List (List ℕ)) where
  -- the mark of a name says whether it passes
  pub marked : (k : ℕ) → k < length told → is_marked (map test told) k ≡ test (name_at told k)
  marked k within = get_or-map test told k [] false within

  -- a stack has such a name where one of its numbers is marked
  any_passing : (frames : List ℕ) → All (λ k. k < length told) frames → list_any (is_marked (map test told)) frames ≡ list_any test (map (name_at told) frames)
  any_passing [] h = refl
  any_passing (k ∷ frames) h =
      λ i. marked k (All-head (λ k. k < length told) k frames h) i || any_passing frames (All-tail (λ k. k < length told) k frames h) i

-- a stack is matched where one of its names is
any_matched : (texts : List (List ℕ)) (stack : List (List ℕ)) → list_any (λ name. has_match texts (name ∷ [])) stack ≡ has_match texts stack
any_matched texts [] = refl
any_matched texts (name ∷ stack) = λ i. or_false (list_any (λ text. has_text text name) texts) i || any_matched texts stack i

none_marked : (numbers : List ℕ) → list_any (is_marked []) numbers ≡ false
none_marked [] = refl
none_marked (k ∷ numbers) = none_marked numbers

-- nothing is shown where there is nothing
pub none_shown : {X : Type 0} (show : X → List ℕ) (items : List X) (texts : List (List ℕ)) → map show items ≡ texts → nat_eq (length items) 0 ≡ is_none texts
none_shown show [] texts same = ap is_none same
none_shown show (item ∷ items) texts same = let some : nat_eq (length (item ∷ items)) 0 ≡ false = grind (arith, nat_tests) in some ∙ ap is_none same

not_not : (b : Bool) → not (not b) ≡ b
not_not true = refl
not_not false = refl

pub keeps_by_marks : (asked : Filter) (told : List (List ℕ)) (frames : List ℕ) → All (λ k. k < length told) frames
    → keeps_marked (not (is_none asked.focus)) (map (λ name. has_match asked.focus (name ∷ [])) told) (map (λ name. has_match asked.hide (name ∷ [])) told) frames ≡ keeps asked (map (name_at told) frames)
keeps_by_marks asked told frames h =
    let matched : (texts : List (List ℕ)) → list_any (is_marked (map (λ name. has_match texts (name ∷ [])) told)) frames ≡ has_match texts (map (name_at told) frames) =
    λ texts. any_passing (λ name. has_match texts (name ∷ [])) told frames h ∙ any_matched texts (map (name_at told) frames) in
    λ i. (not_not (is_none asked.focus) i || matched asked.focus i) && not (matched asked.hide i)

pub begun_by_marks : (from : Option (List ℕ)) (told : List (List ℕ)) (frames : List ℕ) → All (λ k. k < length told) frames
    → keeps_marked true (map (begins from) told) [] frames ≡ list_any (begins from) (map (name_at told) frames)
begun_by_marks from told frames h =
    (λ i. any_passing (begins from) told frames h i && not (none_marked frames i)) ∙ and_true (list_any (begins from) (map (name_at told) frames))

-- ---- samples

pub sample_named : (told : List (List ℕ)) (rows : List Row) (samples : List Sample) (i : ℕ) → AreNamed told rows samples → i < length samples → sample_at samples i ≡ named told (row_at rows i)
sample_named told rows samples i h within =
    let within_rows : i < length rows = omega (arith, within, ap length h.samples_named, length-map rows (named told)) in
    ap (λ samples. sample_at samples i) h.samples_named ∙ get_or-map (named told) rows i (record { frames = []; weight = 0 }) (record { stack = []; weight = 0 }) within_rows

-- a sample that is taken again by its stack
pub taken_again : (list : ListState) (i n w : ℕ) → AreNamed list.told list.rows list.samples → i < length list.samples → stack_at list.stacks n ≡ (row_at list.rows i).frames → w ≡ (sample_at list.samples i).weight
    → named list.told (row_by list.stacks (record { stack = n; weight = w })) ≡ sample_at list.samples i
taken_again list i n w h within same weight =
    let is = sample_named list.told list.rows list.samples i h within in
    (λ j. record { stack = map (name_at list.told) (same j); weight = weight j })
    ∙ ap (λ (sample : Sample). record { stack = sample.stack; weight = (sample_at list.samples i).weight }) (sym is)

-- one sample more
pub kept_more : (passes : List (List ℕ) → Bool) (samples : List Sample) (i : ℕ) → i < length samples
    → passing_samples passes (take i samples) ++ passing_samples passes (sample_at samples i ∷ []) ≡ passing_samples passes (take (i + 1) samples)
kept_more passes samples i within =
    sym (filter-append (λ (sample : Sample). passes sample.stack) (take i samples) (sample_at samples i ∷ []))
    ∙ ap (passing_samples passes) (sym (take_more samples i (record { stack = []; weight = 0 }) within))

-- ---- the order

-- the pairs whose sample is kept
abbrev kept_pairs : (List (List ℕ) → Bool) → List (ℕ × Sample) → List (ℕ × Sample)
kept_pairs passes pairs = filter (λ pair. passes pair.1.stack) pairs

-- their sources
abbrev pub kept_sources : (List (List ℕ) → Bool) → List (ℕ × Sample) → List ℕ
kept_sources passes pairs = sources_of (kept_pairs passes pairs)

sources_of_one : (b : Bool) (pair : ℕ × Sample) → sources_of (cond b (pair ∷ []) []) ≡ cond b (pair.0 ∷ []) []
sources_of_one true pair = refl
sources_of_one false pair = refl

-- one more came, which is left where it is kept
pub kept_order_more : (passes : List (List ℕ) → Bool) (lists : List (List Sample)) (order left : List ℕ) (p source at : ℕ) (b : Bool) → IsInterleaving order lists → p < length order → source ≡ get_or order p 0
    → at ≡ count_of source (take p order) → at < length (list_of lists source) → b ≡ passes (sample_at (list_of lists source) at).stack → left ≡ kept_sources passes (take p (interleaved order lists))
    → left ++ cond b (source ∷ []) [] ≡ kept_sources passes (take (p + 1) (interleaved order lists))
kept_order_more passes lists order left p source at b ordered within is counted in_list kept left_is =
    let pairs = interleaved order lists in
    let of_pair : ℕ × Sample → Bool = λ pair. passes pair.1.stack in
    let here = pair_at lists order p source at ordered within is counted in_list in
    sym
    (ap sources_of (filter_more of_pair pairs p no_pair (omega (arith, within, length-interleaved lists order ordered)))
    ∙ (map-append (λ (pair : ℕ × Sample). pair.0) (filter of_pair (take p pairs)) (cond (of_pair (get_or pairs p no_pair)) (get_or pairs p no_pair ∷ []) [])
    ∙ ((λ j. sym left_is j ++ sources_of (cond (of_pair (here j)) (here j ∷ []) []))
    ∙ (ap (λ more. left ++ more) (sources_of_one (passes (sample_at (list_of lists source) at).stack) (source, sample_at (list_of lists source) at))
    ∙ ap (λ b. left ++ cond b (source ∷ []) []) (sym kept)))))

list_of_kept : (passes : List (List ℕ) → Bool) (lists : List (List Sample)) (source : ℕ) → list_of (map (passing_samples passes) lists) source ≡ passing_samples passes (list_of lists source)
list_of_kept passes [] source = refl
list_of_kept passes (list ∷ lists) zero = refl
list_of_kept passes (list ∷ lists) (suc source) = list_of_kept passes lists source

-- two tests of one item, in either order
swapped : {X : Type 0} (a b : Bool) (x : X) (xs : List X) → cond a (cond b (x ∷ xs) xs) xs ≡ cond b (cond a (x ∷ xs) xs) xs
swapped true true x xs = refl
swapped true false x xs = refl
swapped false true x xs = refl
swapped false false x xs = refl

filter-cond : {X : Type 0} (p : X → Bool) (b : Bool) (x : X) (xs : List X) → filter p (cond b (x ∷ xs) xs) ≡ cond b (cond (p x) (x ∷ filter p xs) (filter p xs)) (filter p xs)
filter-cond p true x xs = refl
filter-cond p false x xs = refl

filter-filter : {X : Type 0} (p q : X → Bool) (xs : List X) → filter p (filter q xs) ≡ filter q (filter p xs)
filter-filter p q [] = refl
filter-filter p q (x ∷ xs) =
    let later = filter-filter p q xs in
    filter-cond p (q x) x (filter q xs)
    ∙ ((λ i. cond (q x) (cond (p x) (x ∷ later i) (later i)) (later i))
    ∙ (swapped (q x) (p x) x (filter q (filter p xs)) ∙ sym (filter-cond q (p x) x (filter p xs))))

map-cond : {X Y : Type 0} (f : X → Y) (b : Bool) (x : X) (xs : List X) → map f (cond b (x ∷ xs) xs) ≡ cond b (f x ∷ map f xs) (map f xs)
map-cond f true x xs = refl
map-cond f false x xs = refl

map-filter : {X Y : Type 0} (f : X → Y) (p : Y → Bool) (xs : List X) → map f (filter (λ x. p (f x)) xs) ≡ filter p (map f xs)
map-filter f p [] = refl
map-filter f p (x ∷ xs) =
    map-cond f (p (f x)) x (filter (λ x. p (f x)) xs)
    ∙ (λ i. cond (p (f x)) (f x ∷ map-filter f p xs i) (map-filter f p xs i))

kept_of_source : (passes : List (List ℕ) → Bool) (source : ℕ) (pairs : List (ℕ × Sample)) → of_source source (kept_pairs passes pairs) ≡ passing_samples passes (of_source source pairs)
kept_of_source passes source pairs =
    let is_of : ℕ × Sample → Bool = λ pair. nat_eq pair.0 source in
    ap (map (λ (pair : ℕ × Sample). pair.1)) (filter-filter is_of (λ pair. passes pair.1.stack) pairs)
    ∙ map-filter (λ (pair : ℕ × Sample). pair.1) (λ (sample : Sample). passes sample.stack) (filter is_of pairs)

kept_are_of : (passes : List (List ℕ) → Bool) (lists : List (List Sample)) (order : List ℕ) → IsInterleaving order lists → AreOf (kept_pairs passes (interleaved order lists)) (map (passing_samples passes) lists)
kept_are_of passes lists order ordered = record {
  by_source = λ source.
      kept_of_source passes source (interleaved order lists)
      ∙ (ap (passing_samples passes) ((IsInterleaving-AreOf order lists ordered).by_source source) ∙ sym (list_of_kept passes lists source));
}

-- the order of all that are kept
pub kept_order_all : (passes : List (List ℕ) → Bool) (lists : List (List Sample)) (order left : List ℕ) (p : ℕ) → IsInterleaving order lists → length order ≤ p → left ≡ kept_sources passes (take p (interleaved order lists))
    → IsInterleaving left (map (passing_samples passes) lists)
kept_order_all passes lists order left p ordered past left_is =
    let is : left ≡ kept_sources passes (interleaved order lists) =
    left_is ∙ ap (kept_sources passes) (take_all p (interleaved order lists) (omega (arith, past, length-interleaved lists order ordered))) in
    let lists_left = map (passing_samples passes) lists in
    subst (λ (order : List ℕ). IsInterleaving order lists_left) (sym is)
    (AreOf-IsInterleaving (kept_pairs passes (interleaved order lists)) lists_left (kept_are_of passes lists order ordered))

-- ---- lists and their marks

pub marks_at : {X : Type 0} (items : X → List Bool) (passes : List (List ℕ) → Bool) (lists : List ListState) (kept : List X) (k : ℕ) (marks : X) (list : ListState) → map items kept ≡ all_are_passing passes lists → k < length kept → k < length lists
    → marks ≡ get_or kept k marks → list ≡ get_or lists k list → items marks ≡ are_passing passes list
marks_at items passes lists kept k marks list flags in_kept in_lists marks_is list_is =
    ap items marks_is
    ∙ (sym (get_or-map items kept k marks [] in_kept)
    ∙ (ap (λ l. get_or l k []) flags
    ∙ (get_or-map (are_passing passes) lists k list [] in_lists ∙ ap (are_passing passes) (sym list_is))))

read_ending : SourceEnd → Option Close → SourceEnd
read_ending other (Some (Read ending)) = ending
read_ending other (Some NoMemory) = other
read_ending other None = other

pub same_ending : (one other : SourceEnd) → Some (Read one) ≡ Some (Read other) → one ≡ other
unfolding read_ending
same_ending one other e = ap (read_ending one) e

-- the samples of lists that were read as rests
pub samples_of_rests : (lists : List ListState) (rests : List Rest) → map seen_as_rest lists ≡ rests → samples_of lists ≡ map (λ rest. rest.samples) rests
samples_of_rests lists rests same =
    sym (map-map (λ (rest : Rest). rest.samples) seen_as_rest lists) ∙ ap (map (λ (rest : Rest). rest.samples)) same

pub samples_kept : (passes : List (List ℕ) → Bool) (lists left : List ListState) → map seen_as_rest left ≡ map (passing_rest passes) (map seen_as_rest lists) → map (passing_samples passes) (samples_of lists) ≡ samples_of left
samples_kept passes lists left same =
    map-map (passing_samples passes) (λ (list : ListState). list.samples) lists
    ∙ (sym (map-map (λ (rest : Rest). rest.samples) (λ list. passing_rest passes (seen_as_rest list)) lists)
    ∙ (ap (map (λ (rest : Rest). rest.samples)) (sym (map-map (passing_rest passes) seen_as_rest lists))
    ∙ sym (samples_of_rests left (map (passing_rest passes) (map seen_as_rest lists)) same)))

-- some of the samples of a source are within its limits
limited_passing : (passes : List (List ℕ) → Bool) (samples : List Sample) → IsSourceLimited samples → IsSourceLimited (passing_samples passes samples)
limited_passing passes samples limited =
    let parted = sum_by-filter_both (λ (sample : Sample). passes sample.stack) (λ sample. not (passes sample.stack)) (λ _. refl) (λ sample. sample.weight) samples in
    record {
      each = All-filter (λ sample. passes sample.stack) IsLimited samples limited.each;
      total = omega (arith, parted, limited.total);
    }

-- lists that were read as rests within the limits
pub limited_lists : (lists : List ListState) (rests : List Rest) → map seen_as_rest lists ≡ rests → All (λ rest. IsSourceLimited rest.samples) rests → length rests ≤ 64 → AreLimited lists
limited_lists lists rests same limits few = record {
  few = omega (arith, few, ap length same, length-map lists seen_as_rest);
  each = λ k d within.
      subst (λ (rest : Rest). IsSourceLimited rest.samples) (get_or-map seen_as_rest lists k d (seen_as_rest d) within)
      (subst (λ (rests : List Rest). All (λ rest. IsSourceLimited rest.samples) rests) (sym same) limits k (seen_as_rest d) (omega (arith, within, length-map lists seen_as_rest)));
}

pub limited_kept_lists : (passes : List (List ℕ) → Bool) (lists left : List ListState) → map seen_as_rest left ≡ map (passing_rest passes) (map seen_as_rest lists) → AreLimited lists → AreLimited left
limited_kept_lists passes lists left same limits =
    limited_lists left (map (passing_rest passes) (map seen_as_rest lists)) same
    (All-map (λ (rest : Rest). IsSourceLimited rest.samples) (passing_rest passes) (map seen_as_rest lists)
    (All-map (λ (rest : Rest). IsSourceLimited (passing_samples passes rest.samples)) seen_as_rest lists
    (λ k d within. limited_passing passes _ (limits.each k d within))))
    (omega (arith, limits.few, length-map (map seen_as_rest lists) (passing_rest passes), length-map lists seen_as_rest))

-- where all is kept nothing changes
pub kept_everything : (asked : Filter) → is_everything asked ≡ true → (rests : List Rest) → rests ≡ map (kept_rest asked) rests
kept_everything asked e [] = refl
kept_everything asked e (rest ∷ rests) = λ i. sym (all_is_kept asked e rest) i ∷ kept_everything asked e rests i
