use Rattle.std.proofs.Common.{◌≡◌, ◌∙◌, ◌+◌, ◌-◌, ◌<◌, ◌⊎◌, inl, inr, false, ℕ, List, arith, map, string_bytes, length, get_or, sym, ap, subst, is_lt, set}
use Rattle.std.specs.Ordering.{nat_cmp}
use Rattle.std.specs.Cmp.Lexicographic.{slice_cmp}
use Rattle.std.proofs.lemmas.Bool.{cases_eq}
use Rattle.std.proofs.lemmas.List.{length-map, length-set, get_or_default}
use Rattle.sample_tables.specs.Rows.{name_at}
use Rattle.ranked_rows.specs.checked.Names.{NameAt}
use Rattle.ranked_rows.proofs.RankedNames.{no_name, AreRanked, ranked_more, ranked_all}
use Rattle.ranked_rows.proofs.name_ranks.rank.Goals as goal

pub rank_next-requires-clause-next : goal.rank_next-requires-clause-next
rank_next-requires-clause-next c some = by (cases_eq i 0)
  where
    i : ℕ
    i = c.loop-name.name-index

    last : List ℕ
    last = name_at (map string_bytes c.loop-name.names.items) (length c.loop-name.names.items - 1)

    by : (i ≡ 0) ⊎ (i ≡ 0 → ⊥) → is_lt (slice_cmp nat_cmp (get_or c.args.told.now i no_name).0.now last) ≡ false
    by (inl z) = absurd (omega (arith, c.loop-name.invariant.none z))
    by (inr n) =
        let next : i ≡ i - 1 + 1 = omega (arith, n) in
        ap (λ x. is_lt (slice_cmp nat_cmp (get_or c.args.told.now i no_name).0.now x)) (c.loop-name.invariant.last (i - 1) no_name next)
        ∙ subst (λ k. is_lt (slice_cmp nat_cmp (get_or c.args.told.now k no_name).0.now (get_or c.args.told.now (i - 1) no_name).0.now) ≡ false) (sym next) (c.requires.1.ordered (i - 1) no_name (omega arith))

pub loop-name-preserved : goal.loop-name-preserved
loop-name-preserved c =
    let i : ℕ = c.loop-name.name-index in
    let told : List NameAt = c.args.told.now in
    let e : NameAt = get_or told i no_name in
    let old : List (List ℕ) = map string_bytes c.loop-name.names.items in
    let new : List (List ℕ) = map string_bytes c.rank_next.new.names.items in
    let rank : ℕ = c.in_ok-ranks-2.field-0 in
    let grows = c.in_ok-ranks-2.ensures.grows in
    let within : i < length told = omega arith in
    let is : e ≡ get_or told i e = get_or_default told i no_name e within in
    let many = length-map c.rank_next.new.names.items string_bytes in
    let named : name_at new rank ≡ e.0.now = c.in_ok-ranks-2.ensures.name in
    let below : rank < length new = omega (arith, many, c.in_ok-ranks-2.ensures.last) in
    record {
      rising = c.in_ok-ranks-2.ensures.rising;
      none = λ z. absurd (omega arith);
      last = λ k d next.
          ap (name_at new) (let r : length c.rank_next.new.names.items - 1 ≡ rank = omega (arith, c.in_ok-ranks-2.ensures.last) in r) ∙ named
          ∙ ap (λ (x : NameAt). x.0.now) (get_or_default told i no_name d within ∙ ap (λ n. get_or told n d) (let r : i ≡ k = omega arith in r));
      len = length-set c.loop-name.ranks.items e.1 rank ∙ c.loop-name.invariant.len;
      ranked = subst (λ known. AreRanked told known (set c.loop-name.ranks.items e.1 rank) (i + 1)) (sym grows.1)
          (ranked_more c.requires.0 told old grows.0 c.loop-name.ranks.items i rank e c.requires.1 c.loop-name.invariant.len within is (subst (λ (xs : List (List ℕ)). rank < length xs) grows.1 below) (ap (λ xs. name_at xs rank) (sym grows.1) ∙ named) c.loop-name.invariant.ranked);
    }

pub returns : goal.returns
returns c names s =
    ranked_all names c.args.told.now (map string_bytes c.loop-name.names.items) c.loop-name.ranks.items s c.loop-name.invariant.len c.loop-name.invariant.rising
    (subst (AreRanked c.args.told.now (map string_bytes c.loop-name.names.items) c.loop-name.ranks.items) (omega arith) c.loop-name.invariant.ranked)
