-- Which snapshots rows have.
use Rattle.std.proofs.Common.{◌≡◌, ◌<◌, ◌≤◌, ◌+◌, ◌*◌, ◌/◌, ◌%◌, ℕ, Bool, true, false, cond, nat_eq, List, [], ◌∷◌, ◌++◌, length, get_or, take, map, sym, ap, ◌∙◌, arith, refl, Option, Some, None, All, inl, inr, eq-eqb}
use Rattle.std.proofs.lemmas.Bool.{cases_lt, ne_eqb, false≢true}
use Rattle.sample_tables.proofs.Spans.{map_agree}
use Rattle.std.specs.Prelude.{IfSome}
use Rattle.std.specs.List.{range_with_len}
use Rattle.std.specs.Option.{option_to_list}
use Rattle.std.specs.FinMap as tree_map
use Rattle.std.proofs.lemmas.Nat.{div-add-mod', mul-le, div-mul-add, mod-mul-add, mod_below}
use Rattle.std.proofs.lemmas.List.{append-nil, map-append, take_all, take-append-le, length-map, length_push, map_push, take-map}
use Rattle.std.proofs.lemmas.List.Elements.{All-map, All-weaker}
use Rattle.std.proofs.lemmas.List.FromFn.{length-range_with_len, get_or-range_with_len, map-range_with_len_more}
use Rattle.std.proofs.lemmas.List.Sums.{fold_push}
use Rattle.call_tree.specs.CallTree.{Tree, tree_of, with_weight}
use Rattle.merging.specs.declared.snapshots.Snapshot.{Snapshot}
use Rattle.merging.specs.Snapshots.{multiples_upto, snapshot_places, source_counts}
use Rattle.merging.specs.checked.TakenRows.{TakenRow, order_of, paths_of}
use Rattle.merging.specs.checked.Merging.{snapshot_of, snapshots_of, is_due, due_after}

-- ---- where snapshots are

pub places_within : (every : Option ℕ) (n : ℕ) → All (λ m. m ≤ n) (snapshot_places every n)
places_within None n = λ k d l. absurd (omega (arith, l))
places_within (Some every) n =
    All-map (λ m. m ≤ n) (λ i. i * every) (range_with_len 1 (n / every)) (λ k d l.
    let within : k < n / every = omega (arith, l, length-range_with_len 1 (n / every)) in
    let at : get_or (range_with_len 1 (n / every)) k d ≡ 1 + k = get_or-range_with_len 1 (n / every) k d within in
    omega (arith, at, mul-le (get_or (range_with_len 1 (n / every)) k d) every (n / every) every (omega (arith, at)) (omega arith), div-add-mod' n every))

-- one place more where the next number is a multiple
pub places-push : (every : Option ℕ) (n : ℕ) → IfSome every (λ k. 1 ≤ k) → snapshot_places every (n + 1) ≡ snapshot_places every n ++ cond (is_due every (n + 1)) ((n + 1) ∷ []) []
places-push None n h = refl
places-push (Some k) n h = elim (cases_lt (n % k + 1) k) [
  | inl short ↦
      let sum : n + 1 ≡ n / k * k + (n % k + 1) = omega (arith, div-add-mod' n k) in
      let quotient : (n + 1) / k ≡ n / k = ap (λ m. m / k) sum ∙ div-mul-add (n / k) k (n % k + 1) short in
      let remainder : (n + 1) % k ≡ n % k + 1 = ap (λ m. m % k) sum ∙ mod-mul-add (n / k) k (n % k + 1) short in
      let no : nat_eq ((n + 1) % k) 0 ≡ false = ne_eqb ((n + 1) % k) 0 (λ e. omega (arith, e, remainder)) in
      ap (λ q. map (λ i. i * k) (range_with_len 1 q)) quotient ∙ (sym (append-nil (multiples_upto n k)) ∙ ap (λ b. multiples_upto n k ++ cond b ((n + 1) ∷ []) []) (sym no))
  | inr long ↦
      let full : n % k + 1 ≡ k = omega (arith, long, mod_below n k h) in
      let sum : n + 1 ≡ (n / k + 1) * k + 0 = omega (arith, div-add-mod' n k, full) in
      let quotient : (n + 1) / k ≡ n / k + 1 = ap (λ m. m / k) sum ∙ div-mul-add (n / k + 1) k 0 h in
      let remainder : (n + 1) % k ≡ 0 = ap (λ m. m % k) sum ∙ mod-mul-add (n / k + 1) k 0 h in
      let yes : nat_eq ((n + 1) % k) 0 ≡ true = eq-eqb ((n + 1) % k) 0 remainder in
      let last : (1 + n / k) * k ≡ n + 1 = omega (arith, sum) in
      ap (λ q. map (λ i. i * k) (range_with_len 1 q)) quotient
      ∙ (map-range_with_len_more (λ i. i * k) 1 (n / k) (1 + n / k) refl
      ∙ ((λ i. multiples_upto n k ++ last i ∷ []) ∙ ap (λ b. multiples_upto n k ++ cond b ((n + 1) ∷ []) []) (sym yes)))
]

-- ---- what they have

-- what is known where snapshots are wanted is known where one is due
pub where_due : (every : Option ℕ) (m : ℕ) (p : Type 0) → is_due every m ≡ true → IfSome every (λ every. p) → p
where_due None m p due h = absurd (false≢true due)
where_due (Some every) m p due h = h

-- one row more in the tree
pub tree_of-push : (rows : List TakenRow) (row : TakenRow) → tree_of (paths_of (rows ++ row ∷ [])) ≡ with_weight (tree_of (paths_of rows)) row.numbers row.weight
tree_of-push rows row =
    ap tree_of (map_push (λ row. (row.numbers, row.weight)) rows row)
    ∙ fold_push (λ (t : Tree) (path : List ℕ × ℕ). with_weight t path.0 path.1) tree_map.empty (paths_of rows) (row.numbers, row.weight)

-- the snapshot of all rows
pub snapshot_of-all : (rows : List TakenRow) → snapshot_of rows (length rows) ≡ record { at = length rows; counts = source_counts (order_of rows); tree = tree_of (paths_of rows) }
snapshot_of-all rows =
    let order = take_all (length rows) (order_of rows) (omega (arith, length-map rows (λ row. row.source))) in
    let whole = take_all (length rows) rows (omega arith) in
    λ i. record { at = length rows; counts = source_counts (order i); tree = tree_of (paths_of (whole i)) }

-- the snapshot that is due with one row more
pub due_with : (every : Option ℕ) (rows : List TakenRow) (row : TakenRow) (at : ℕ) (counts : List ℕ) (tree new : Tree) → at ≡ length rows + 1 → is_due every at ≡ true → counts ≡ source_counts (order_of rows ++ row.source ∷ []) → tree ≡ tree_of (paths_of rows) → new ≡ with_weight tree row.numbers row.weight
    → Some (record { at = at; counts = counts; tree = new }) ≡ due_after every (rows ++ row ∷ [])
due_with every rows row at counts tree new a due c t n =
    let all = rows ++ row ∷ [] in
    let long : at ≡ length (rows ++ row ∷ []) = omega (arith, a, length_push rows row) in
    let counted : counts ≡ source_counts (order_of (rows ++ row ∷ [])) = c ∙ ap source_counts (sym (map_push (λ row. row.source) rows row)) in
    let grown : new ≡ tree_of (paths_of (rows ++ row ∷ [])) = n ∙ (ap (λ tr. with_weight tr row.numbers row.weight) t ∙ sym (tree_of-push rows row)) in
    let whole : record { at = at; counts = counts; tree = new } ≡ snapshot_of all (length all) =
    (λ i. let s : Snapshot = record { at = long i; counts = counted i; tree = grown i } in s) ∙ sym (snapshot_of-all all) in
    let yes : is_due every (length (rows ++ row ∷ [])) ≡ true = ap (is_due every) (sym long) ∙ due in
    ap (λ s. Some s) whole ∙ ap (λ b. cond b (Some (snapshot_of all (length all))) None) (sym yes)

-- the snapshots of rows, and the one that is due with one row more
snapshot_of-first : (rows : List TakenRow) (row : TakenRow) (m : ℕ) → m ≤ length rows → snapshot_of (rows ++ row ∷ []) m ≡ snapshot_of rows m
snapshot_of-first rows row m l =
    let front = take-append-le m rows (row ∷ []) l in
    let order : take m (order_of (rows ++ row ∷ [])) ≡ take m (order_of rows) =
    take-map (λ row. row.source) m (rows ++ row ∷ []) ∙ (ap order_of front ∙ sym (take-map (λ row. row.source) m rows)) in
    λ i. record { at = m; counts = source_counts (order i); tree = tree_of (paths_of (front i)) }

due_list : (every : Option ℕ) (rows : List TakenRow) (b : Bool) → map (snapshot_of rows) (cond b (length rows ∷ []) []) ≡ option_to_list (cond b (Some (snapshot_of rows (length rows))) None)
due_list every rows true = refl
due_list every rows false = refl

pub snapshots_of-push : (every : Option ℕ) (rows : List TakenRow) (row : TakenRow) → IfSome every (λ k. 1 ≤ k) → snapshots_of every (rows ++ row ∷ []) ≡ snapshots_of every rows ++ option_to_list (due_after every (rows ++ row ∷ []))
snapshots_of-push every rows row h =
    let all = rows ++ row ∷ [] in
    let n = length rows in
    let long : length (rows ++ row ∷ []) ≡ length rows + 1 = length_push rows row in
    let here : snapshot_places every (length (rows ++ row ∷ [])) ≡ snapshot_places every (length rows) ++ cond (is_due every (length (rows ++ row ∷ []))) (length (rows ++ row ∷ []) ∷ []) [] =
    ap (snapshot_places every) long ∙ (places-push every n h ∙ (λ i. snapshot_places every n ++ cond (is_due every (sym long i)) (sym long i ∷ []) [])) in
    ap (map (snapshot_of all)) here
    ∙ (map-append (snapshot_of all) (snapshot_places every n) (cond (is_due every (length all)) (length all ∷ []) [])
    ∙ (λ i. map_agree (snapshot_of all) (snapshot_of rows) (snapshot_places every n) (All-weaker (λ m. m ≤ n) (λ m. snapshot_of all m ≡ snapshot_of rows m) (snapshot_of-first rows row) (snapshot_places every n) (places_within every n)) i
    ++ due_list every all (is_due every (length all)) i))
