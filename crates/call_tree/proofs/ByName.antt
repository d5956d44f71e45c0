-- Sums by names are sums by numbers, where the numbers are a table's.
use Rattle.std.proofs.Common.{◌≡◌, ℕ, ◌+◌, ◌<◌, Bool, true, false, ◌&&◌, List, [], ◌∷◌, length, get_or, nat_eq, refl, sym, ap, ◌∙◌, true≢false, eq-eqb, eqb-true, if◌then◌else◌}
use Rattle.std.specs.Cmp.Lexicographic.{pointwise}
use Rattle.std.specs.Str.{bytes_eq}
use Rattle.std.proofs.lemmas.Slice.Eq.{bytes_eq-Decides}
use Rattle.call_tree.specs.FrameTable.{HasDistinctNames}
use Rattle.call_tree.specs.Listing.{named, AreIn, AreAllIn, named_samples}
use Rattle.call_tree.specs.PathSums.{begins_with, total_of, own_of}
use Rattle.call_tree.proofs.TreeSums.{total_of-cons, own_of-cons}

module _ (names : List (List ℕ)) (distinct : HasDistinctNames names) where
  same_test : (x y : ℕ) → x < length names → y < length names → bytes_eq (get_or names x []) (get_or names y []) ≡ nat_eq x y
  same_test x y lx ly = by (nat_eq x y) refl (bytes_eq (get_or names x []) (get_or names y [])) refl
    where
      by : (a : Bool) → nat_eq x y ≡ a → (b : Bool) → bytes_eq (get_or names x []) (get_or names y []) ≡ b → b ≡ a
      by true e true f = refl
      by false e false f = refl
      by true e false f = absurd (true≢false (sym ((bytes_eq-Decides (get_or names x []) (get_or names y [])).1 (ap (λ n. get_or names n []) (eqb-true x y e))) ∙ f))
      by false e true f = absurd (true≢false (sym (eq-eqb x y (distinct x y lx ly ((bytes_eq-Decides (get_or names x []) (get_or names y [])).0 f))) ∙ e))

  begins_named : (q p : List ℕ) → AreIn names q → AreIn names p → begins_with bytes_eq (named names q) (named names p) ≡ begins_with nat_eq q p
  begins_named [] p iq ip = refl
  begins_named (x ∷ q) [] iq ip = refl
  begins_named (x ∷ q) (y ∷ p) iq ip = λ i. same_test x y iq.0 ip.0 i && begins_named q p iq.1 ip.1 i

  is_named : (q p : List ℕ) → AreIn names q → AreIn names p → pointwise bytes_eq (named names q) (named names p) ≡ pointwise nat_eq q p
  is_named [] [] iq ip = refl
  is_named [] (y ∷ p) iq ip = refl
  is_named (x ∷ q) [] iq ip = refl
  is_named (x ∷ q) (y ∷ p) iq ip = λ i. same_test x y iq.0 ip.0 i && is_named q p iq.1 ip.1 i

  pub total_of-named : (samples : List (List ℕ × ℕ)) (path : List ℕ) → AreAllIn names samples → AreIn names path → total_of bytes_eq (named_samples names samples) (named names path) ≡ total_of nat_eq samples path
  unfolding total_of
  total_of-named [] path all in_table = refl
  total_of-named (s ∷ samples) path all in_table =
      total_of-cons bytes_eq (named names s.0, s.1) (named_samples names samples) (named names path)
      ∙ (λ i. (if begins_named path s.0 in_table all.0 i then s.1 else 0) + total_of-named samples path all.1 in_table i)
      ∙ sym (total_of-cons nat_eq s samples path)

  pub own_of-named : (samples : List (List ℕ × ℕ)) (path : List ℕ) → AreAllIn names samples → AreIn names path → own_of bytes_eq (named_samples names samples) (named names path) ≡ own_of nat_eq samples path
  unfolding own_of
  own_of-named [] path all in_table = refl
  own_of-named (s ∷ samples) path all in_table =
      own_of-cons bytes_eq (named names s.0, s.1) (named_samples names samples) (named names path)
      ∙ (λ i. (if is_named path s.0 in_table all.0 i then s.1 else 0) + own_of-named samples path all.1 in_table i)
      ∙ sym (own_of-cons nat_eq s samples path)
