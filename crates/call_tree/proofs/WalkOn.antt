-- What a walk leaves that makes a new node.
use Rattle.std.proofs.Common.{◌≡◌, ℕ, ◌+◌, ◌<◌, ◌≤◌, ◌⊎◌, inl, inr, Bool, false, List, [], ◌∷◌, ◌++◌, length, get_or, nat_eq, sym, ap, subst, ◌∙◌, arith, true≢false, zero-add, if◌then◌else◌}
use Rattle.std.specs.List.{sum_by, zip}
use Rattle.std.specs.Cmp.Lexicographic.{pointwise}
use Rattle.std.proofs.lemmas.List.{length-append, get_or_append_left, append-nil}
use Rattle.std.proofs.Math.Seq.{get_or-append_seam}
use Rattle.call_tree.specs.declared.links.Link.{Link}
use Rattle.call_tree.specs.PathSums.{begins_with, total_of, own_of}
use Rattle.call_tree.specs.CallTree.{tree_of}
use Rattle.call_tree.specs.checked.Nodes.{paths_of, path_of, samples_of, IsNodeOf}
use Rattle.call_tree.proofs.Begins.{begins_with_push, begins_with-itself}
use Rattle.call_tree.proofs.Paths.{length-paths_of, paths_of_push, path_of_kept, path_of_last}
use Rattle.call_tree.proofs.Shape.{no_node}
use Rattle.call_tree.proofs.TreeSums.{tree_of_same}
use Rattle.call_tree.proofs.Walk.{IsWalked, unequal_paths, or_false}
use Rattle.call_tree.proofs.Weights.{weight_where, sum_none, sum_push}

module _ (links : List Link) (owns totals : List ℕ) (front : List ℕ) (w node f : ℕ) (k : IsWalked links owns totals front w) (is : IsNodeOf links front node)
    (absent : (i : ℕ) → i < length links → get_or links i (record { parent = node; frame = f }) ≡ record { parent = node; frame = f } → ⊥) where
  abbrev grown_links : List Link
  grown_links = links ++ record { parent = node; frame = f } ∷ []

  abbrev grown_owns : List ℕ
  grown_owns = owns ++ 0 ∷ []

  abbrev grown_totals : List ℕ
  grown_totals = totals ++ w ∷ []

  -- no node's path begins with the new one
  apart : (i : ℕ) → i < length links + 1 → begins_with nat_eq (front ++ f ∷ []) (path_of links i) ≡ false
  apart i li =
      ap (λ q. begins_with nat_eq q (path_of links i)) (sym (append-nil (front ++ f ∷ [])))
      ∙ no_node links owns totals k.shape node front f [] is.0 is.1 absent i li

  not_new : (i : ℕ) → i < length links + 1 → path_of links i ≡ front ++ f ∷ [] → ⊥
  not_new i li e = true≢false (sym (ap (begins_with nat_eq (front ++ f ∷ [])) e ∙ begins_with-itself (front ++ f ∷ [])) ∙ apart i li)

  new_path : path_of grown_links (length links + 1) ≡ front ++ f ∷ []
  new_path = path_of_last links (record { parent = node; frame = f }) ∙ ap (λ p. p ++ f ∷ []) is.1

  grown_len : length grown_links ≡ length links + 1
  grown_len = length-append links (record { parent = node; frame = f } ∷ [])

  -- the samples of the grown tree, summed over any test of paths
  kept_sums : (test : List ℕ → Bool) → sum_by (weight_where test) (samples_of grown_links grown_owns) ≡ sum_by (weight_where test) (samples_of links owns)
  kept_sums test =
      ap (λ ps. sum_by (weight_where test) (zip ps grown_owns)) (paths_of_push links (record { parent = node; frame = f }))
      ∙ sum_push test (paths_of links) owns _ (length-paths_of links ∙ sym k.shape.owns_len)

  old_or_new : (i : ℕ) → i < length grown_links + 1 → (i < length links + 1) ⊎ (i ≡ length links + 1)
  old_or_new i li = grind (arith, grown_len)

  kept_path : (i : ℕ) → i < length links + 1 → path_of grown_links i ≡ path_of links i
  kept_path i li = path_of_kept links (record { parent = node; frame = f }) i li

  grown_distinct : (i j : ℕ) → i < length grown_links + 1 → j < length grown_links + 1 → path_of grown_links i ≡ path_of grown_links j → i ≡ j
  grown_distinct i j li lj e = elim (old_or_new i li) [
    | inl oi ↦ elim (old_or_new j lj) [
      | inl oj ↦ k.shape.distinct i j oi oj (sym (kept_path i oi) ∙ e ∙ kept_path j oj)
      | inr nj ↦ absurd (not_new i oi (sym (kept_path i oi) ∙ e ∙ ap (path_of grown_links) nj ∙ new_path))
    ]
    | inr ni ↦ elim (old_or_new j lj) [
      | inl oj ↦ absurd (not_new j oj (sym (kept_path j oj) ∙ sym e ∙ ap (path_of grown_links) ni ∙ new_path))
      | inr nj ↦ ni ∙ sym nj
    ]
  ]

  grown_after_parent : (i : ℕ) (d : Link) → i < length grown_links → (get_or grown_links i d).parent ≤ i
  grown_after_parent i d li = elim (last_or_before (omega (arith, grown_len))) [
    | inl lt ↦ subst (λ (x : Link). x.parent ≤ i) (sym (get_or_append_left links _ d i lt)) (k.shape.after_parent i d lt)
    | inr e ↦ subst (λ (x : Link). x.parent ≤ i) (sym (ap (λ j. get_or grown_links j d) e ∙ get_or-append_seam links _ [] d)) (omega (arith, is.0))
  ]
    where
      last_or_before : i < length links + 1 → (i < length links) ⊎ (i ≡ length links)
      last_or_before lt = grind arith

  grown_total : (i : ℕ) → i < length links + 1 → get_or grown_totals i 0 ≡ get_or totals i 0
  grown_total i li = get_or_append_left totals (w ∷ []) 0 i (omega (arith, k.shape.totals_len))

  new_total : get_or grown_totals (length links + 1) 0 ≡ w
  new_total = ap (λ n. get_or grown_totals n 0) (sym k.shape.totals_len) ∙ get_or-append_seam totals w [] 0

  pub walk_makes_node : IsNodeOf grown_links (front ++ f ∷ []) (length links + 1)
  walk_makes_node = (omega (arith, grown_len), new_path)

  -- the walk goes on to a new child
  pub walk_makes : 0 < w → IsWalked grown_links grown_owns grown_totals (front ++ f ∷ []) w
  unfolding total_of
  walk_makes pos = record {
    shape = record {
      owns_len = omega (arith, length-append owns (0 ∷ []), k.shape.owns_len, grown_len);
      totals_len = omega (arith, length-append totals (w ∷ []), k.shape.totals_len, grown_len);
      after_parent = grown_after_parent;
      distinct = grown_distinct;
    };
    sums = λ i li. elim (old_or_new i li) [
      | inl oi ↦
          grown_total i oi ∙ k.sums i oi
          ∙ ap (λ b. total_of nat_eq (samples_of links owns) (path_of links i) + (if b then w else 0))
          (sym (begins_with_push (path_of links i) front f ∙ or_false _ _ (unequal_paths _ _ (not_new i oi))))
          ∙ ap (λ n. n + (if begins_with nat_eq (path_of links i) (front ++ f ∷ []) then w else 0)) (sym (kept_sums (begins_with nat_eq (path_of links i))))
          ∙ ap (λ p. total_of nat_eq (samples_of grown_links grown_owns) p + (if begins_with nat_eq p (front ++ f ∷ []) then w else 0)) (sym (kept_path i oi))
      | inr ni ↦
          ap (λ j. get_or grown_totals j 0) ni ∙ new_total ∙ sym (zero-add w)
          ∙ ap (λ n. n + w) (sym (sum_none (begins_with nat_eq (front ++ f ∷ [])) (paths_of links) owns (λ j lj. apart j (omega (arith, length-paths_of links)))))
          ∙ ap (λ n. n + w) (sym (kept_sums (begins_with nat_eq (front ++ f ∷ []))))
          ∙ ap (λ b. total_of nat_eq (samples_of grown_links grown_owns) (front ++ f ∷ []) + (if b then w else 0)) (sym (begins_with-itself (front ++ f ∷ [])))
          ∙ ap (λ p. total_of nat_eq (samples_of grown_links grown_owns) p + (if begins_with nat_eq p (front ++ f ∷ []) then w else 0)) (sym (ap (path_of grown_links) ni ∙ new_path))
    ];
    positive = λ i more li. elim (old_or_new i li) [
      | inl oi ↦ subst (λ n. 0 < n) (sym (grown_total i oi)) (k.positive i more oi)
      | inr ni ↦ subst (λ n. 0 < n) (sym (ap (λ j. get_or grown_totals j 0) ni ∙ new_total)) pos
    ];
  }

  -- and leaves the weights as they were
  pub walk_makes_tree : tree_of (samples_of grown_links grown_owns) ≡ tree_of (samples_of links owns)
  unfolding own_of
  walk_makes_tree = tree_of_same (samples_of grown_links grown_owns) (samples_of links owns) (λ q. kept_sums (pointwise nat_eq q))
