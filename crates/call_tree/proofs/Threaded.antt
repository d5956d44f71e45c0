-- How a list leads through the nodes of the rows so far, in the order of their names.
use Rattle.std.proofs.Common.{◌≡◌, ℕ, ◌+◌, ◌<◌, ◌≢◌, ◌⊎◌, inl, inr, List, [], ◌∷◌, ◌++◌, length, get_or, refl, sym, ap, subst, ◌∙◌, arith}
use Rattle.std.specs.Cmp.Lexicographic.{slice_cmp}
use Rattle.std.specs.Ordering.{nat_cmp}
use Rattle.std.specs.declared.cmp.Ordering.TheVariants.{Less}
use Rattle.std.proofs.lemmas.Cmp.{nat_list_cmp_total}
use Rattle.std.proofs.lemmas.List.{length-set}
use Rattle.call_tree.specs.declared.links.Link.{Link}
use Rattle.call_tree.specs.FrameTable.{HasDistinctNames}
use Rattle.call_tree.specs.Listing.{named}
use Rattle.call_tree.specs.checked.NodeOrder.{HasFramesOf, Row, AreRows, LeadsByName}
use Rattle.call_tree.specs.checked.Nodes.{path_of, HasShape}
use Rattle.call_tree.proofs.NameOrder.{names_order}
use Rattle.call_tree.proofs.Shape.{origin}
use Rattle.call_tree.proofs.Siblings.{names_cmp, not_below_itself, child_after, child_before}
use Rattle.call_tree.proofs.Steps.{zero_or_more, last_or_before, far}
use Rattle.call_tree.proofs.Threads.{IsIn, Chained, Leads, led_through, Parted, parted, contains_in, in_contains, old_or_new, still_in, new_in, length_inserted, chained_at, leads_after, leads_within, rises_after, rises_within}

abbrev pub no_row : Row
no_row = (0, record { 0 = record { ref_ptr = (0, 0); now = [] } }, 0)

-- node b's path comes after node a's
abbrev pub Rises : List (List ℕ) → List Link → ℕ → ℕ → Type 0
Rises names links a b = names_cmp (named names (path_of links a)) (named names (path_of links b)) ≡ Less

-- from the root on, `next` leads through the nodes of the first k rows, in the order of their names
pub record IsThreaded (names : List (List ℕ)) (links : List Link) (rows : List Row) (k : ℕ) (next : List ℕ) : Type 0 where
  pub rest : List ℕ
  pub len : length next ≡ length links + 1
  pub count : length rest ≡ k
  pub leads : Chained (Leads next) 0 rest
  pub rises : Chained (Rises names links) 0 rest
  pub rows_of : (node : ℕ) → IsIn node rest → (i : ℕ) × (i < k) × ((get_or rows i no_row).2 ≡ node)
  pub nodes_of : (i : ℕ) → i < k → IsIn (get_or rows i no_row).2 rest

-- the root alone
pub root_threaded : (names : List (List ℕ)) (links : List Link) (rows : List Row) (next : List ℕ) → length next ≡ length links + 1 → IsThreaded names links rows 0 next
root_threaded names links rows next len = record {
  rest = [];
  len = len;
  count = refl;
  leads = tt;
  rises = tt;
  rows_of = λ node has. absurd has;
  nodes_of = λ i lt. absurd (omega arith);
}

module _ (names : List (List ℕ)) (links : List Link) (owns totals : List ℕ) (s : HasShape links owns totals) (distinct : HasDistinctNames names)
    (frames : HasFramesOf names links) (rows : List Row) (r : AreRows names links rows) where
  rises_trans : (a b c : ℕ) → Rises names links a b → Rises names links b c → Rises names links a c
  rises_trans a b c = names_order.trans (named names (path_of links a)) (named names (path_of links b)) (named names (path_of links c))

  rises_strict : (a : ℕ) → Rises names links a a → ⊥
  rises_strict a = not_below_itself names_cmp names_order (named names (path_of links a))

  abbrev row : ℕ → Row
  row i = get_or rows i no_row

  -- a row's parent comes before its node, and both are nodes
  pub parent_first : (i : ℕ) → i < length rows → ((row i).0 < (row i).2) × ((row i).2 < length links + 1)
  parent_first i lt =
      let found = r.rows_are i no_row lt in
      (omega (arith, found.2.parent origin, found.2.number, s.after_parent found.0 origin found.1), omega (arith, found.2.number, found.1))

  -- two rows of one node are one row
  one_row : (i k : ℕ) → i < k → k < length rows → (row i).2 ≡ (row k).2 → ⊥
  one_row i k lt lk e =
      let a = r.rows_are i no_row (omega arith) in
      let b = r.rows_are k no_row lk in
      let same : a.0 ≡ b.0 = omega (arith, a.2.number, b.2.number) in
      let parents : (row i).0 ≡ (row k).0 = a.2.parent origin ∙ ap (λ n. (get_or links n origin).parent) same ∙ sym (b.2.parent origin) in
      let texts : (row i).1.0.now ≡ (row k).1.0.now = a.2.name origin ∙ ap (λ n. get_or names (get_or links n origin).frame []) same ∙ sym (b.2.name origin) in
      elim (r.ordered i k no_row lt lk) [
        | inl less ↦ omega arith
        | inr beside ↦ not_below_itself (slice_cmp nat_cmp) nat_list_cmp_total (row k).1.0.now (subst (λ x. slice_cmp nat_cmp (row k).1.0.now x ≡ Less) texts beside.1)
      ]

  -- the parent of a row is the root or the node of an earlier one
  earlier : (k : ℕ) → k < length rows → ((row k).0 ≡ 0) ⊎ ((i : ℕ) × (i < k) × ((row i).2 ≡ (row k).0))
  earlier k lk = elim (zero_or_more (row k).0) [
    | inl z ↦ inl z
    | inr m ↦
        let above = parent_first k lk in
        let found = r.each m.0 no_row (omega (arith, above.0, above.1, m.1)) in
        let number : (row found.0).2 ≡ (row k).0 = found.2.number ∙ sym m.1 in
        let parent = parent_first found.0 found.1 in
        elim (three_ways found.0 k) [
          | inl less ↦ inr (found.0, less, number)
          | inr not_less ↦ absurd (elim not_less [
            | inl same ↦ omega (arith, above.0, ap (λ i. (row i).2) same, number)
            | inr more ↦ elim (r.ordered k found.0 no_row more found.1) [
              | inl before ↦ omega (arith, before, parent.0, number)
              | inr beside ↦ omega (arith, beside.0, parent.0, number)
            ]
          ])
        ]
  ]
    where
      three_ways : (i k : ℕ) → (i < k) ⊎ ((i ≡ k) ⊎ (k < i))
      three_ways i k = grind arith

  module _ (k : ℕ) (lk : k < length rows) (next : List ℕ) (t : IsThreaded names links rows k next) where
    fresh : (row k).2 ≢ 0
    fresh e = omega (arith, (parent_first k lk).0)

    not_yet : IsIn (row k).2 t.rest → ⊥
    not_yet has = let old = t.rows_of (row k).2 has in one_row old.0 k old.1 lk old.2

    child_rises : Rises names links (row k).0 (row k).2
    child_rises =
        let a = r.rows_are k no_row lk in
        subst (Rises names links (row k).0) (sym a.2.number) (child_after names links owns totals s distinct frames a.0 (row k) a.1 a.2)

    rises_below : (node : ℕ) → IsIn node t.rest → Rises names links (row k).0 node → Rises names links (row k).2 node
    rises_below node has behind =
        let old = t.rows_of node has in
        let a = r.rows_are k no_row lk in
        let b = r.rows_are old.0 no_row (omega (arith, old.1)) in
        let number : b.0 + 1 ≡ node = sym b.2.number ∙ old.2 in
        subst (λ n. Rises names links n node) (sym a.2.number) (subst (Rises names links (a.0 + 1)) number
        (child_before names links owns totals s distinct frames a.0 b.0 (row k) (row old.0) a.1 b.1 a.2 b.2 (r.ordered old.0 k no_row old.1 lk)
        (subst (Rises names links (row k).0) (sym number) behind)))

    next_len : length (led_through next (row k).0 (row k).2) ≡ length links + 1
    next_len = omega (arith, length-set {A = ℕ}, t.len)

    -- the next row's parent and node are indices of the list
    pub within : ((row k).0 < length next) × ((row k).2 < length next)
    within = let first = parent_first k lk in (omega (arith, first.0, first.1, t.len), omega (arith, first.1, t.len))

    apart : (row k).2 ≢ (row k).0
    apart e = omega (arith, (parent_first k lk).0, e)

    old_row : (node : ℕ) → (i : ℕ) × (i < k) × ((row i).2 ≡ node) → (i : ℕ) × (i < k + 1) × ((row i).2 ≡ node)
    old_row node old = (old.0, omega (arith, old.1), old.2)

    below_root : (row k).0 ≡ 0 → IsThreaded names links rows (k + 1) (led_through next (row k).0 (row k).2)
    below_root z = record {
      rest = (row k).2 ∷ t.rest;
      len = next_len;
      count = omega (arith, t.count);
      leads = subst (λ n. Chained (Leads (led_through next (row k).0 (row k).2)) n ((row k).2 ∷ t.rest)) z
          (leads_after next (row k).0 (row k).2 within.0 within.1 apart (Rises names links) rises_trans rises_strict t.rest not_yet
          (subst (λ n. Chained (Rises names links) n t.rest) (sym z) t.rises) (subst (λ n. Chained (Leads next) n t.rest) (sym z) t.leads));
      rises = subst (λ n. Chained (Rises names links) n ((row k).2 ∷ t.rest)) z
          (rises_after (Rises names links) (row k).0 (row k).2 child_rises t.rest rises_below (subst (λ n. Chained (Rises names links) n t.rest) (sym z) t.rises));
      rows_of = λ node has. elim has [ inl e ↦ (k, omega arith, sym e) | inr old ↦ old_row node (t.rows_of node old) ];
      nodes_of = λ i lt. elim (last_or_before i k lt) [ inl e ↦ inl (ap (λ n. (row n).2) e) | inr before ↦ inr (t.nodes_of i before) ];
    }

    below_node : Parted (row k).0 t.rest → IsThreaded names links rows (k + 1) (led_through next (row k).0 (row k).2)
    below_node parts = record {
      rest = parts.front ++ (row k).0 ∷ (row k).2 ∷ parts.back;
      len = next_len;
      count = omega (arith, length_inserted (row k).0 (row k).2 parts.front parts.back, ap length parts.is, t.count);
      leads = leads_within next (row k).0 (row k).2 within.0 within.1 apart (Rises names links) rises_trans rises_strict 0 parts.front parts.back fresh
          (λ has. not_yet (subst (IsIn (row k).2) (sym parts.is) has)) (subst (Chained (Rises names links) 0) parts.is t.rises) (subst (Chained (Leads next) 0) parts.is t.leads);
      rises = rises_within (Rises names links) (row k).0 (row k).2 child_rises 0 parts.front parts.back (λ y has. rises_below y (subst (IsIn y) (sym parts.is) has))
          (subst (Chained (Rises names links) 0) parts.is t.rises);
      rows_of = λ node has. elim (old_or_new node (row k).0 (row k).2 parts.front parts.back has) [
        | inl e ↦ (k, omega arith, sym e)
        | inr old ↦ old_row node (t.rows_of node (subst (IsIn node) (sym parts.is) old))
      ];
      nodes_of = λ i lt. elim (last_or_before i k lt) [
        | inl e ↦ subst (λ n. IsIn n (parts.front ++ (row k).0 ∷ (row k).2 ∷ parts.back)) (ap (λ n. (row n).2) (sym e)) (new_in (row k).0 (row k).2 parts.front parts.back)
        | inr before ↦ still_in (row i).2 (row k).0 (row k).2 parts.front parts.back (subst (IsIn (row i).2) parts.is (t.nodes_of i before))
      ];
    }

    -- the list with the node of one more row behind its parent
    pub row_threaded : IsThreaded names links rows (k + 1) (led_through next (row k).0 (row k).2)
    row_threaded = elim (earlier k lk) [
      | inl z ↦ below_root z
      | inr up ↦ below_node (parted (row k).0 t.rest (subst (λ n. IsIn n t.rest) up.2 (t.nodes_of up.0 up.1)))
    ]

  -- behind the last row
  pub all_threaded : (next : List ℕ) → IsThreaded names links rows (length rows) next → LeadsByName names links next
  all_threaded next t = record {
    order = 0 ∷ t.rest;
    len = t.len;
    count = omega (arith, t.count, r.len);
    first = refl;
    follows = chained_at (Leads next) 0 t.rest t.leads;
    rises = λ i j lt lj. far (Rises names links) rises_trans (λ k. get_or (0 ∷ t.rest) k 0) (length (0 ∷ t.rest)) (chained_at (Rises names links) 0 t.rest t.rises) i j lt lj;
    members = λ node. (
      (λ has. elim (contains_in node node (0 ∷ t.rest) has.0 has.1 has.2) [
        | inl e ↦ omega (arith, e)
        | inr old ↦ let found = t.rows_of node old in omega (arith, (parent_first found.0 found.1).1, found.2)
      ]),
      (λ lt. in_contains node node (0 ∷ t.rest) (elim (root_or_row node lt) [
        | inl z ↦ inl z
        | inr found ↦ inr (subst (λ n. IsIn n t.rest) found.2 (t.nodes_of found.0 found.1))
      ])),
    );
  }
    where
      root_or_row : (node : ℕ) → node < length links + 1 → (node ≡ 0) ⊎ ((i : ℕ) × (i < length rows) × ((row i).2 ≡ node))
      root_or_row node lt = elim (zero_or_more node) [
        | inl z ↦ inl z
        | inr m ↦ let found = r.each m.0 no_row (omega (arith, m.1)) in inr (found.0, found.1, found.2.number ∙ sym m.1)
      ]
