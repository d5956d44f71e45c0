use Rattle.std.proofs.Common.{◌≡◌, ◌∙◌, ◌++◌, List, ℕ, ap, sym, subst, map, string_bytes, length, take, drop, arith, length-append}
use Rattle.std.proofs.lemmas.List.{length-map}
use Rattle.sample_tables.specs.Rows.{name_at}
use Rattle.merged_stacks.specs.checked.Ranks.{AreRanks}
use Rattle.merged_stacks.specs.checked.Ranked.{IsNamedBy}
use Rattle.merged_stacks.specs.checked.Swept.{paired_of}
use Rattle.merged_stacks.proofs.JoinedStacks.{ranks_name, named_front, named_rest}
use Rattle.merged_stacks.proofs.SweptRows.{swept_are, places_are}
use Rattle.merged_stacks.proofs.paired.PairedStacks.of.Goals as goal

-- the ranks of the first list's names, and of the second's
named_left : (names one other : List (List ℕ)) (all ranks slice : List ℕ) (n : ℕ) → AreRanks (one ++ other) names all → ranks ≡ all → slice ≡ take n ranks → n ≡ length one → IsNamedBy names slice one
named_left names one other all ranks slice n h is cut e =
    subst (λ xs. IsNamedBy names xs one) (sym (cut ∙ ap (λ k. take k ranks) e)) (named_front names ranks one other (subst (λ xs. IsNamedBy names xs (one ++ other)) (sym is) (ranks_name (one ++ other) names all h)))

named_right : (names one other : List (List ℕ)) (all ranks slice : List ℕ) (n : ℕ) → AreRanks (one ++ other) names all → ranks ≡ all → slice ≡ drop n ranks → n ≡ length one → IsNamedBy names slice other
named_right names one other all ranks slice n h is cut e =
    subst (λ xs. IsNamedBy names xs other) (sym (cut ∙ ap (λ k. drop k ranks) e)) (named_rest names ranks one other (subst (λ xs. IsNamedBy names xs (one ++ other)) (sym is) (ranks_name (one ++ other) names all h)))

pub split_at-requires : goal.split_at-requires
split_at-requires g c =
    let long = ap length c.deref.ensures.value ∙ sym (length-map c.in_ok-names.field-0.ranks.items (name_at (map string_bytes c.in_ok-names.field-0.names.items))) ∙ ap length c.in_ok-names.ensures.named ∙ length-append c.args.before.now.told c.args.after.now.told in
    omega (arith, long, c.told.ensures)

pub merged_rows-requires-clause-named : goal.merged_rows-requires-clause-named
merged_rows-requires-clause-named g c = (
  map string_bytes c.in_ok-names.field-0.names.items,
  named_left (map string_bytes c.in_ok-names.field-0.names.items) c.args.before.now.told c.args.after.now.told c.in_ok-names.field-0.ranks.items c.deref.result.now c.split_at.result.0.now c.told.result c.in_ok-names.ensures c.deref.ensures.value c.split_at.ensures.front c.told.ensures,
)

pub merged_rows-requires-2-clause-named : goal.merged_rows-requires-2-clause-named
merged_rows-requires-2-clause-named g c = (
  map string_bytes c.in_ok-names.field-0.names.items,
  named_right (map string_bytes c.in_ok-names.field-0.names.items) c.args.before.now.told c.args.after.now.told c.in_ok-names.field-0.ranks.items c.deref.result.now c.split_at.result.1.now c.told.result c.in_ok-names.ensures c.deref.ensures.value c.split_at.ensures.back c.told.ensures,
)

pub invariant_of-result : goal.invariant_of-result
invariant_of-result g c =
    let names = map string_bytes c.in_ok-names.field-0.names.items in
    let before = c.in_ok-lefts.ensures names c.in_ok-names.ensures.rising (named_left names c.args.before.now.told c.args.after.now.told c.in_ok-names.field-0.ranks.items c.deref.result.now c.split_at.result.0.now c.told.result c.in_ok-names.ensures c.deref.ensures.value c.split_at.ensures.front c.told.ensures) in
    let after = c.in_ok-rights.ensures names c.in_ok-names.ensures.rising (named_right names c.args.before.now.told c.args.after.now.told c.in_ok-names.field-0.ranks.items c.deref.result.now c.split_at.result.1.now c.told.result c.in_ok-names.ensures c.deref.ensures.value c.split_at.ensures.back c.told.ensures) in
    record { before = before.merged; after = after.merged; within = c.in_ok-places.ensures.within; rows = c.in_ok-places.ensures.rows }

pub returns : goal.returns
returns g c =
    let names = map string_bytes c.in_ok-names.field-0.names.items in
    let before = c.in_ok-lefts.ensures names c.in_ok-names.ensures.rising (named_left names c.args.before.now.told c.args.after.now.told c.in_ok-names.field-0.ranks.items c.deref.result.now c.split_at.result.0.now c.told.result c.in_ok-names.ensures c.deref.ensures.value c.split_at.ensures.front c.told.ensures) in
    let after = c.in_ok-rights.ensures names c.in_ok-names.ensures.rising (named_right names c.args.before.now.told c.args.after.now.told c.in_ok-names.field-0.ranks.items c.deref.result.now c.split_at.result.1.now c.told.result c.in_ok-names.ensures c.deref.ensures.value c.split_at.ensures.back c.told.ensures) in
    places_are names c.in_ok-lefts.lefts c.in_ok-rights.rights c.in_ok-places.places.items ∙ ap (map (paired_of names)) c.in_ok-places.ensures.rows
    ∙ swept_are names c.args.before.now.samples c.args.after.now.samples c.in_ok-lefts.lefts c.in_ok-rights.rights before.merged after.merged before.sums after.sums
