-- The names that a head shares with the one before, by their numbers.
use Rattle.std.proofs.Common.{◌≡◌, ℕ, ◌+◌, ◌<◌, ◌≤◌, ◌≢◌, false, eqb, List, [], ◌∷◌, ◌++◌, length, take, map, All, count_by, Option, Some, refl, sym, ap, subst, ◌∙◌, arith}
use Rattle.std.specs.Borrow.{Bor}
use Rattle.std.specs.List.{slice_split}
use Rattle.std.proofs.Math.Seq.{take-append_seam}
use Rattle.std.specs.Str.{bytes_eq}
use Rattle.std.proofs.lemmas.Bool.{cond-true, eqb-false}
use Rattle.std.proofs.lemmas.List.{length-append, length-map, length-take, map-append, get_or-take, take-map}
use Rattle.std.proofs.lemmas.List.Elements.{All-head, All-nil, All-tail}
use Rattle.std.proofs.lemmas.List.Folds.{list_any_at}
use Rattle.std.proofs.lemmas.Slice.Eq.{bytes_eq-Decides}
use Rattle.std.proofs.lemmas.List.Splits.{length-slice_split}
use Rattle.sample_tables.specs.Rows.{name_at}
use Rattle.stack_core.specs.NamesInOrder.{with_name, with_stack}
use Rattle.stack_core.specs.Records.{names_at}
use Rattle.folded_lines.specs.Lines.{is_semicolon, lossy_text, names_of}
use Rattle.folded_lines.specs.checked.Cutting.{without_trailing_semicolons}
use Rattle.folded_lines.specs.checked.Sharing.{BeginsIn, IsNamedBy, IsSharedEnd, parts_behind, parts_left}
use Rattle.folded_lines.specs.checked.Telling.{IsNumbered}
use Rattle.folded_lines.proofs.SplitLemmas.{names_of-something}

All-front : (P : ℕ → Type 0) (n : ℕ) (xs : List ℕ) → All P xs → All P (take n xs)
All-front P n xs all = λ k d within. subst P (sym (get_or-take n xs k d (omega (arith, within, length-take n xs)))) (all k d (omega (arith, within, length-take n xs)))

module _ (last left head : List ℕ) (end count : ℕ) (trimmed : left ≡ without_trailing_semicolons last) (some : 0 < length left)
    (shared : IsSharedEnd left head end) (counted : count ≡ count_by is_semicolon (take end left)) where
  abbrev front : List (List ℕ)
  front = slice_split is_semicolon (take end left)

  front_length : length front ≡ count + 1
  front_length = length-slice_split is_semicolon (take end left) ∙ ap (λ n. n + 1) (sym counted)

  parts : names_of last ≡ map lossy_text (front ++ parts_behind left end)
  parts = names_of-something last left trimmed some ∙ ap (map lossy_text) shared.last_end

  -- there are so many
  pub shared_within : (numbers : List ℕ) → length numbers ≡ length (names_of last) → count + 1 ≤ length numbers
  shared_within numbers same =
      let all : length (names_of last) ≡ length (map lossy_text (front ++ parts_behind left end)) = ap length parts in
      omega (arith, same, all, length-map (front ++ parts_behind left end) lossy_text, length-append front (parts_behind left end), front_length)

  front_taken : take (count + 1) (front ++ parts_behind left end) ≡ front
  front_taken = ap (λ n. take n (front ++ parts_behind left end)) (sym front_length) ∙ take-append_seam front (parts_behind left end)

  named : (names : List (List ℕ)) (numbers : List ℕ) → names_at names numbers ≡ names_of last
      → names_at names (take (count + 1) numbers) ≡ map lossy_text (slice_split is_semicolon (take end head))
  named names numbers is =
      sym (take-map (name_at names) (count + 1) numbers) ∙ ap (take (count + 1)) (is ∙ parts)
      ∙ take-map lossy_text (count + 1) (front ++ parts_behind left end) ∙ ap (map lossy_text) front_taken
      ∙ ap (λ bytes. map lossy_text (slice_split is_semicolon bytes)) shared.same

  -- the head begins with their names
  pub BeginsIn-shared : (names : List (List ℕ)) (numbers frames : List ℕ) (rest : Option (Bor (List ℕ))) → IsNamedBy names last numbers
      → frames ≡ take (count + 1) numbers → parts_behind head end ≡ parts_left rest → BeginsIn names head frames rest
  BeginsIn-shared names numbers frames rest by taken behind =
      subst (λ (all : List ℕ). BeginsIn names head all rest) (sym taken) (record {
        known = All-front (λ k. k < length names) (count + 1) numbers by.known;
        parts =
            ap (map lossy_text) shared.head_end ∙ map-append lossy_text (slice_split is_semicolon (take end head)) (parts_behind head end)
            ∙ (λ i. sym (named names numbers by.named) i ++ map lossy_text (behind i));
      })

pub above_none : (n : ℕ) → eqb n 0 ≡ false → 0 < n
above_none n not = let other : n ≢ 0 = eqb-false n 0 not in omega arith

-- none is shared
pub BeginsIn-nothing : (names : List (List ℕ)) (frames : List ℕ) (head : Bor (List ℕ)) → frames ≡ [] → BeginsIn names head.now frames (Some head)
BeginsIn-nothing names frames head none =
    subst (λ (all : List ℕ). BeginsIn names head.now all (Some head)) (sym none) (record { known = All-nil (λ k. k < length names); parts = refl })

with_known : (names : List (List ℕ)) (frames : List ℕ) → All (λ k. k < length names) frames → with_stack names (names_at names frames) ≡ names
with_known names [] known = refl
with_known names (k ∷ frames) known =
    let here : with_name names (name_at names k) ≡ names = cond-true _ _ _ (list_any_at (bytes_eq (name_at names k)) names k [] (All-head (λ j. j < length names) k frames known) ((bytes_eq-Decides (name_at names k) (name_at names k)).1 refl)) in
    ap (λ all. with_stack all (names_at names frames)) here ∙ with_known names frames (All-tail (λ j. j < length names) k frames known)

-- names of a table are numbered in it as it is
pub IsNumbered-known : (names : List (List ℕ)) (frames : List ℕ) → All (λ k. k < length names) frames → IsNumbered (names_at names frames) names names frames
IsNumbered-known names frames known = record { named = refl; numbers = known; in_order = sym (with_known names frames known) }

-- the names of a head, by those that it begins with and those that are left
pub names_of-begun : (names : List (List ℕ)) (head left frames : List ℕ) (rest : Option (Bor (List ℕ))) → left ≡ without_trailing_semicolons head → 0 < length left
    → BeginsIn names left frames rest → names_at names frames ++ map lossy_text (parts_left rest) ≡ names_of head
names_of-begun names head left frames rest trimmed some begins = sym (names_of-something head left trimmed some ∙ begins.parts)
