-- The children of a node by the names of their paths: behind the node, and before what comes after it and is no child.
use Rattle.std.proofs.Common.{◌≡◌, ℕ, ◌+◌, ◌<◌, ◌≤◌, ◌⊎◌, inl, inr, List, [], ◌∷◌, ◌++◌, length, get_or, refl, sym, ap, ◌∙◌, arith, suc, zero, append_assoc}
use Rattle.std.specs.Ordering.{nat_cmp, ordering_then, ordering_reverse}
use Rattle.std.specs.Cmp.{IsTotalOrder}
use Rattle.std.specs.Cmp.Lexicographic.{slice_cmp}
use Rattle.std.specs.FinMap.{slice_cmp-IsAntisymmetric, nat_cmp-IsAntisymmetric}
use Rattle.std.specs.declared.cmp.Ordering.{Ordering}
use Rattle.std.specs.declared.cmp.Ordering.TheVariants.{Less, Equal, Greater}
use Rattle.std.proofs.lemmas.Cmp.{nat_list_cmp_total}
use Rattle.std.proofs.lemmas.List.{append-nil, map-append}
use Rattle.call_tree.specs.declared.links.Link.{Link}
use Rattle.call_tree.specs.FrameTable.{HasDistinctNames}
use Rattle.call_tree.specs.Listing.{named, AreIn}
use Rattle.call_tree.specs.checked.NodeOrder.{HasFramesOf, Row, IsRowOf, StandsBefore}
use Rattle.call_tree.specs.checked.Nodes.{path_of, HasShape}
use Rattle.call_tree.proofs.Begins.{same_ends, no_push_empty}
use Rattle.call_tree.proofs.NameOrder.{AreIn-path_of}
use Rattle.call_tree.proofs.Paths.{path_of_child, path_of_root}
use Rattle.call_tree.proofs.Shape.{origin, root_or_stands}

abbrev pub names_cmp : List (List ℕ) → List (List ℕ) → Ordering
names_cmp = slice_cmp (slice_cmp nat_cmp)

tie_itself : {K : Type 0} (R : K → K → Ordering) → IsTotalOrder R → (x : K) → R x x ≡ Equal
tie_itself R o x = by (R x x) refl
  where
    by : (r : Ordering) → r ≡ R x x → R x x ≡ Equal
    by Less e = let turned = o.antisymm x x in absurd (no_less (e ∙ turned ∙ ap ordering_reverse (sym e)))
      where
        no_less : Less ≡ Greater → ⊥
        no_less e = cc
    by Equal e = sym e
    by Greater e = let turned = o.antisymm x x in absurd (no_greater (e ∙ turned ∙ ap ordering_reverse (sym e)))
      where
        no_greater : Greater ≡ Less → ⊥
        no_greater e = cc

pub not_below_itself : {K : Type 0} (R : K → K → Ordering) → IsTotalOrder R → (x : K) → R x x ≡ Less → ⊥
not_below_itself R o x e = apart (sym (tie_itself R o x) ∙ e)
  where
    apart : Equal ≡ Less → ⊥
    apart e = cc

-- a list is below what goes on from it
longer_after : (xs : List (List ℕ)) (y : List ℕ) → names_cmp xs (xs ++ y ∷ []) ≡ Less
longer_after [] y = refl
longer_after (x ∷ xs) y = ap (λ o. ordering_then o (names_cmp xs (xs ++ y ∷ []))) (tie_itself _ nat_list_cmp_total x) ∙ longer_after xs y

last_decides : (xs : List (List ℕ)) (y z : List ℕ) → slice_cmp nat_cmp y z ≡ Less → names_cmp (xs ++ y ∷ []) (xs ++ z ∷ []) ≡ Less
last_decides [] y z e = ap (λ o. ordering_then o Equal) e
last_decides (x ∷ xs) y z e = ap (λ o. ordering_then o (names_cmp (xs ++ y ∷ []) (xs ++ z ∷ []))) (tie_itself _ nat_list_cmp_total x) ∙ last_decides xs y z e

-- `ys` goes on from `xs`
pub record GoesOn (xs ys : List (List ℕ)) : Type 0 where
  pub first : List ℕ
  pub more : List (List ℕ)
  pub is : ys ≡ xs ++ first ∷ more

-- what is above a list goes on from it, or is above whatever goes on from it
pub goes_on_or_above : (xs ys : List (List ℕ)) → names_cmp xs ys ≡ Less → GoesOn xs ys ⊎ ((zs : List (List ℕ)) → names_cmp (xs ++ zs) ys ≡ Less)
goes_on_or_above [] [] e = cc
goes_on_or_above [] (y ∷ ys) e = inl (record { first = y; more = ys; is = refl })
goes_on_or_above (x ∷ xs) [] e = cc
goes_on_or_above (x ∷ xs) (y ∷ ys) e = by (slice_cmp nat_cmp x y) refl e (goes_on_or_above xs ys)
  where
    by : (o : Ordering) → o ≡ slice_cmp nat_cmp x y → ordering_then o (names_cmp xs ys) ≡ Less
        → (names_cmp xs ys ≡ Less → GoesOn xs ys ⊎ ((zs : List (List ℕ)) → names_cmp (xs ++ zs) ys ≡ Less))
        → GoesOn (x ∷ xs) (y ∷ ys) ⊎ ((zs : List (List ℕ)) → names_cmp (x ∷ xs ++ zs) (y ∷ ys) ≡ Less)
    by Less is e rest = inr (λ zs. ap (λ o. ordering_then o (names_cmp (xs ++ zs) ys)) (sym is))
    by Equal is e rest = elim (rest e) [
      | inl on ↦
          let same : x ≡ y = slice_cmp-IsAntisymmetric nat_cmp-IsAntisymmetric x y (sym is) in
          inl (record { first = on.first; more = on.more; is = λ i. sym same i ∷ on.is i })
      | inr above ↦ inr (λ zs. ap (λ o. ordering_then o (names_cmp (xs ++ zs) ys)) (sym is) ∙ above zs)
    ]
    by Greater is e rest = cc

-- numbers whose names go on from those of others go on from these
named_onward : (names : List (List ℕ)) → HasDistinctNames names → (p q : List ℕ) → AreIn names p → AreIn names q → (rest : List (List ℕ)) → named names q ≡ named names p ++ rest
    → (r : List ℕ) × (q ≡ p ++ r) × (named names r ≡ rest)
named_onward names distinct [] q ip iq rest e = (q, refl, e)
named_onward names distinct (x ∷ p) [] ip iq rest e = cc
named_onward names distinct (x ∷ p) (y ∷ q) ip iq rest e =
    let heads : get_or names y [] ≡ get_or names x [] = cc in
    let tails : named names q ≡ named names p ++ rest = cc in
    let h : y ≡ x = distinct y x iq.0 ip.0 heads in
    let t = named_onward names distinct p q ip.1 iq.1 rest tails in
    (t.0, (λ i. h i ∷ t.1 i), t.2)

front_and_last : (r : List ℕ) → (r ≡ []) ⊎ ((front : List ℕ) × (last : ℕ) × (r ≡ front ++ last ∷ []))
front_and_last [] = inl refl
front_and_last (x ∷ r) = elim (front_and_last r) [
  | inl e ↦ inr ([], x, ap (λ q. x ∷ q) e)
  | inr f ↦ inr (x ∷ f.0, f.1, ap (λ q. x ∷ q) f.2)
]

module _ (names : List (List ℕ)) (links : List Link) (owns totals : List ℕ) (s : HasShape links owns totals) (distinct : HasDistinctNames names)
    (frames : HasFramesOf names links) where
  abbrev pub key : ℕ → List (List ℕ)
  key node = named names (path_of links node)

  -- no node comes before one that its path goes on from
  ancestor_before : (fuel node p : ℕ) (r : List ℕ) → node < fuel → node < length links + 1 → p < length links + 1 → path_of links node ≡ path_of links p ++ r → p ≤ node
  ancestor_before zero node p r lt ln lp e = absurd (omega arith)
  ancestor_before (suc fuel) node p r lt ln lp e = elim (front_and_last r) [
    | inl none ↦
        let same : node ≡ p = s.distinct node p ln lp (e ∙ ap (λ q. path_of links p ++ q) none ∙ append-nil (path_of links p)) in
        omega arith
    | inr f ↦
        let whole : path_of links node ≡ (path_of links p ++ f.0) ++ f.1 ∷ [] = e ∙ ap (λ q. path_of links p ++ q) f.2 ∙ sym (append_assoc (path_of links p) f.0 (f.1 ∷ [])) in
        elim (root_or_stands links owns totals s node ln) [
          | inl z ↦ absurd (no_push_empty (path_of links p ++ f.0) f.1 (sym (path_of_root links) ∙ ap (path_of links) (sym z) ∙ whole))
          | inr st ↦
              let up = (same_ends _ _ _ _ (sym st.path ∙ whole)).fronts in
              let before = ancestor_before fuel (get_or links st.at origin).parent p f.0 (omega (arith, st.before, st.is)) (omega (arith, st.before, st.within)) lp up in
              omega (arith, before, st.before, st.is)
        ]
  ]

  -- so its parent does not either, where the path goes on from there
  parent_not_before : (at p : ℕ) (r : List ℕ) → at < length links → p < length links + 1 → path_of links (at + 1) ≡ path_of links p ++ r → (r ≡ [] → ⊥) → p ≤ (get_or links at origin).parent
  parent_not_before at p r lt lp e some = elim (front_and_last r) [
    | inl none ↦ absurd (some none)
    | inr f ↦
        let path = path_of_child links at origin lt (s.after_parent at origin lt) in
        let whole : path_of links (at + 1) ≡ (path_of links p ++ f.0) ++ f.1 ∷ [] = e ∙ ap (λ q. path_of links p ++ q) f.2 ∙ sym (append_assoc (path_of links p) f.0 (f.1 ∷ [])) in
        let before : (get_or links at origin).parent ≤ at = s.after_parent at origin lt in
        ancestor_before (at + 1) (get_or links at origin).parent p f.0 (omega (arith, before)) (omega (arith, before)) lp (same_ends _ _ _ _ (sym path ∙ whole)).fronts
  ]

  key_of_row : (at : ℕ) (row : Row) → at < length links → IsRowOf names links at row → key (at + 1) ≡ key row.0 ++ row.1.0.now ∷ []
  key_of_row at row lt is =
      ap (named names) (path_of_child links at origin lt (s.after_parent at origin lt))
      ∙ map-append (λ n. get_or names n []) (path_of links (get_or links at origin).parent) ((get_or links at origin).frame ∷ [])
      ∙ (λ i. key (sym (is.parent origin) i) ++ sym (is.name origin) i ∷ [])

  pub child_after : (at : ℕ) (row : Row) → at < length links → IsRowOf names links at row → names_cmp (key row.0) (key (at + 1)) ≡ Less
  child_after at row lt is = ap (names_cmp (key row.0)) (key_of_row at row lt is) ∙ longer_after (key row.0) row.1.0.now

  -- a child comes before what an earlier row has put behind its parent
  pub child_before : (at later : ℕ) (row other : Row) → at < length links → later < length links → IsRowOf names links at row → IsRowOf names links later other
      → StandsBefore other row → names_cmp (key row.0) (key (later + 1)) ≡ Less → names_cmp (key (at + 1)) (key (later + 1)) ≡ Less
  child_before at later row other lt ll is are (inl less) behind = elim (goes_on_or_above (key row.0) (key (later + 1)) behind) [
    | inl on ↦
        let parent : row.0 < length links + 1 = omega (arith, is.parent origin, s.after_parent at origin lt) in
        let r = named_onward names distinct (path_of links row.0) (path_of links (later + 1)) (AreIn-path_of names links owns totals s frames row.0 parent)
        (AreIn-path_of names links owns totals s frames (later + 1) (omega arith)) (on.first ∷ on.more) on.is in
        let not_before = parent_not_before later row.0 r.0 ll parent r.1 (λ none. some on.first on.more (sym r.2 ∙ ap (named names) none)) in
        absurd (omega (arith, not_before, are.parent origin))
    | inr above ↦ ap (λ k. names_cmp k (key (later + 1))) (key_of_row at row lt is) ∙ above (row.1.0.now ∷ [])
  ]
    where
      some : (x : List ℕ) (xs : List (List ℕ)) → x ∷ xs ≡ [] → ⊥
      some x xs e = cc
  child_before at later row other lt ll is are (inr beside) behind =
      ap (λ k. names_cmp k (key (later + 1))) (key_of_row at row lt is)
      ∙ ap (names_cmp (key row.0 ++ row.1.0.now ∷ [])) (key_of_row later other ll are ∙ ap (λ p. key p ++ other.1.0.now ∷ []) beside.0)
      ∙ last_decides (key row.0) row.1.0.now other.1.0.now beside.1
