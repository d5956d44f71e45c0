-- Told names, of which equal ones are mostly kept once.
use Rattle.std.proofs.Common.{◌≡◌, ◌∙◌, ◌<◌, ◌≤◌, ◌+◌, ℕ, List, [], ◌∷◌, ◌++◌, false, length, map, get_or, All, IsPermutation, refl, sym, ap, subst, arith, is_lt, length-append}
use Rattle.std.specs.Prelude.{slice_index}
use Rattle.std.specs.List.{enumerate_from}
use Rattle.std.proofs.lemmas.List.{get_or-map, get_or_append_left, length-map, map-append, map_push}
use Rattle.std.proofs.lemmas.List.Elements.{All-head, All-map, All-push, All-tail, All-weaker}
use Rattle.sample_tables.specs.Rows.{name_at}
use Rattle.ranked_rows.specs.Ranks.{AreRanks}
use Rattle.ranked_rows.specs.checked.Names.{ArePlaced, AreKept, AreSorted, IsKept, KeepsMore, NameAt, kept_name, kept_names, placed_name}
use Rattle.ranked_rows.proofs.RankedNames.{enumerate_push, name_cmp, names_sorted}

-- ---- a name is kept

-- at the next place
pub kept_last : (kept new : List NameAt) (name : NameAt) → new ≡ kept ++ name ∷ [] → name.1 ≡ length kept → KeepsMore kept new
kept_last kept new name grown at = record { more = name ∷ []; grown = grown; placed = placed }
  where
    one : placed_name name ≡ (0 + length (kept_names kept), name.0.now)
    one = let here : name.1 ≡ 0 + length (kept_names kept) = omega (arith, at, length-map kept kept_name) in λ i. (here i, name.0.now)

    placed : ArePlaced kept → ArePlaced new
    placed h =
        ap (map placed_name) grown ∙ map_push placed_name kept name ∙ (λ i. h i ++ one i ∷ []) ∙ sym (enumerate_push 0 (kept_names kept) name.0.now)
        ∙ ap (enumerate_from 0) (sym (map_push kept_name kept name) ∙ sym (ap kept_names grown))

-- ---- names are told

told_before : (kept more : List NameAt) (places : List ℕ) → All (λ place. place < length kept) places
    → map (name_at (kept_names (kept ++ more))) places ≡ map (name_at (kept_names kept)) places
told_before kept more [] within = refl
told_before kept more (place ∷ places) within =
    let lt : place < length kept = All-head (λ place. place < length kept) place places within in
    let here : name_at (kept_names (kept ++ more)) place ≡ name_at (kept_names kept) place =
    ap (λ names. name_at names place) (map-append kept_name kept more) ∙ get_or_append_left (kept_names kept) (kept_names more) [] place (omega (arith, lt, length-map kept kept_name)) in
    λ i. here i ∷ told_before kept more places (All-tail (λ place. place < length kept) place places within) i

pub told_one : (told : List (List ℕ)) (name : List ℕ) (kept new : List NameAt) (places : List ℕ) (place : ℕ) → KeepsMore kept new → IsKept new place name
    → AreKept told kept places → AreKept (told ++ name ∷ []) new (places ++ place ∷ [])
told_one told name kept new places place keeps one h = record {
  placed = keeps.placed h.placed;
  within = All-push (λ place. place < length new) places place
      (All-weaker (λ place. place < length kept) (λ place. place < length new) (λ place below. omega (arith, below, ap length keeps.grown, length-append kept keeps.more)) places h.within)
      one.within;
  same = map_push (name_at (kept_names new)) places place ∙ (λ i. before i ++ one.same i ∷ []);
}
  where
    before : map (name_at (kept_names new)) places ≡ told
    before = ap (λ (all : List NameAt). map (name_at (kept_names all)) places) keeps.grown ∙ told_before kept keeps.more places h.within ∙ h.same

-- ---- kept names are ranked

pub kept_sorted : (told : List (List ℕ)) (kept sorted seen : List NameAt) (places : List ℕ) → AreKept told kept places → IsPermutation kept sorted
    → ((k : ℕ) (d : NameAt) → 0 ≤ k → k + 1 < length sorted → is_lt (name_cmp (get_or sorted (k + 1) d) (get_or sorted k d)) ≡ false) → seen ≡ sorted → AreSorted (kept_names kept) seen
kept_sorted told kept sorted seen places h moved up is = subst (AreSorted (kept_names kept)) (sym is) (names_sorted (kept_names kept) kept sorted h.placed moved up)

module _ (known : List (List ℕ)) (kept : List NameAt) (ranks : List ℕ) (ranked : AreRanks (kept_names kept) known ranks) where
  many : length ranks ≡ length kept
  many = sym (length-map ranks (name_at known)) ∙ ap length ranked.named ∙ length-map kept kept_name

  named_by : (places : List ℕ) → All (λ place. place < length kept) places → map (name_at known) (map (slice_index ranks) places) ≡ map (name_at (kept_names kept)) places
  named_by [] within = refl
  named_by (place ∷ places) within =
      let lt : place < length kept = All-head (λ place. place < length kept) place places within in
      let here : name_at known (slice_index ranks place) ≡ name_at (kept_names kept) place =
      sym (get_or-map (name_at known) ranks place 0 [] (omega (arith, lt, many))) ∙ ap (λ names. name_at names place) ranked.named in
      λ i. here i ∷ named_by places (All-tail (λ place. place < length kept) place places within) i

  -- a told name has the rank of the equal one that is kept
  pub told_ranks : (told : List (List ℕ)) (places : List ℕ) → AreKept told kept places → AreRanks told known (map (slice_index ranks) places)
  told_ranks told places h = record {
    rising = ranked.rising;
    below = All-map (λ rank. rank < length known) (slice_index ranks) places
        (All-weaker (λ place. place < length kept) (λ place. slice_index ranks place < length known) (λ place below. ranked.below place 0 (omega (arith, below, many))) places h.within);
    named = named_by places h.within ∙ h.same;
  }
