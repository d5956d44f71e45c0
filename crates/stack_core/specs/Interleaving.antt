use Rattle.std.specs.Prelude.{◌≡◌, ℕ, List, [], ◌∷◌, ◌++◌, length, take, map, filter, count_by, nat_eq}
use Rattle.std.specs.List.{slice_get, slice_index_or}
use Rattle.std.specs.Option.{option_map, option_to_list}

-- how often a source stands in an order
abbrev pub count_of : ℕ → List ℕ → ℕ
count_of source order = count_by (λ entry. nat_eq entry source) order

-- how often each source stands among the first m
abbrev pub counts_at : ℕ → List ℕ → ℕ → ℕ
counts_at m order source = count_of source (take m order)

-- the list of a source, which is empty where there is no such source
abbrev pub list_of : {A : Type 0} → List (List A) → ℕ → List A
list_of lists source = slice_index_or lists source []

-- an order of the lists: it holds each source as often as its list is long
pub record IsInterleaving {A : Type 0} (order : List ℕ) (lists : List (List A)) : Type 0 where
  pub as_often : (source : ℕ) → count_of source order ≡ length (list_of lists source)

-- the entry of a source that stands behind these: the item at the place of its list that counts them
abbrev pub entry_after : {A : Type 0} → List (List A) → List ℕ → ℕ → List (ℕ × A)
entry_after lists before source =
    option_to_list (option_map (λ item. (source, item)) (slice_get (list_of lists source) (count_of source before)))

abbrev pub interleaved_after : {A : Type 0} → List (List A) → List ℕ → List ℕ → List (ℕ × A)
interleaved_after lists before [] = []
interleaved_after lists before (source ∷ order) =
    entry_after lists before source ++ interleaved_after lists (before ++ source ∷ []) order

-- what an order of lists stands for: entry k is of source order[k], with the item of its list at the place
-- counts_at k order order[k]
abbrev pub interleaved : {A : Type 0} → List ℕ → List (List A) → List (ℕ × A)
interleaved order lists = interleaved_after lists [] order

-- the sources of pairs of a source and an item, in order
abbrev pub sources_of : {A : Type 0} → List (ℕ × A) → List ℕ
sources_of pairs = map (λ pair. pair.0) pairs

-- what pairs have of one source, in order
abbrev pub of_source : {A : Type 0} → ℕ → List (ℕ × A) → List A
of_source source pairs = map (λ pair. pair.1) (filter (λ pair. nat_eq pair.0 source) pairs)

-- the form by source: what the pairs have of each source is its list
pub record AreOf {A : Type 0} (pairs : List (ℕ × A)) (lists : List (List A)) : Type 0 where
  pub by_source : (source : ℕ) → of_source source pairs ≡ list_of lists source

-- pairs in an order of the lists, and for which it stands
pub record AreInterleaved {A : Type 0} (pairs : List (ℕ × A)) (lists : List (List A)) : Type 0 where
  pub order : IsInterleaving (sources_of pairs) lists
  pub entries : interleaved (sources_of pairs) lists ≡ pairs
