-- What is found of a name is what the functions with weight tell of it.
use Rattle.std.proofs.Common.{◌≡◌, ◌||◌, ℕ, ◌+◌, ◌-◌, ◌<◌, ◌≤◌, inl, inr, ⊎_elim, Bool, true, false, cond, List, [], ◌∷◌, length, get_or, map, take, All, Option, Some, refl, sym, ap, ◌∙◌, arith, true≢false}
use Rattle.std.specs.Prelude.{nat_lt, unwrap_or}
use Rattle.std.specs.BTreeMap.{BTreeMap, get_by}
use Rattle.std.specs.Cmp.Lexicographic.{slice_cmp}
use Rattle.std.specs.List.{list_any}
use Rattle.std.specs.Map.{update}
use Rattle.std.specs.Ordering.{nat_cmp}
use Rattle.std.specs.Str.{bytes_eq}
use Rattle.std.proofs.lemmas.Bool.{and_parts, cases_lt, ltb-true, or_left, or_right}
use Rattle.std.proofs.lemmas.List.{take_more}
use Rattle.std.proofs.lemmas.List.Folds.{list_any-append}
use Rattle.std.proofs.lemmas.List.Sums.{sum_by-cons}
use Rattle.std.proofs.lemmas.Slice.Eq.{bytes_eq-Decides}
use denote.Ref.{Bor}
use Rattle.sample_tables.specs.declared.samples.Sample.{Sample}
use Rattle.sample_tables.specs.Rows.{name_at}
use Rattle.merged_stacks.specs.Timeline.{Stack}
use Rattle.function_sums.specs.declared.sides.Weights.{Weights}
use Rattle.function_sums.specs.declared.sums.FunctionSum.{FunctionSum}
use Rattle.function_sums.specs.FunctionSums.{stands_in, ends, own_of, total_of, sums_of, AreFunctionSums}
use Rattle.function_sums.specs.checked.Sides.{no_weight, weights_of, found}
use Rattle.function_sums.proofs.Counting.{among-at, or-false}
use Rattle.function_sums.proofs.OneTable.{Among, among-contained}
use Rattle.run_options.specs.declared.orders.FunctionOrder.{FunctionOrder as Order}

-- whether one of some functions has the name
abbrev pub is_named : List ℕ → List FunctionSum → Bool
is_named name sums = list_any (λ sum. bytes_eq name sum.name) sums

-- the weights of the name, where one of the functions has it
abbrev pub told_weights : List Sample → List ℕ → List FunctionSum → Weights
told_weights samples name sums = cond (is_named name sums) (weights_of samples name) no_weight

-- ---- a function more

updated : (samples : List Sample) (name key : List ℕ) (sums : List FunctionSum) (own total : ℕ) (before : Option Weights) → own ≡ own_of key samples → total ≡ total_of key samples
    → unwrap_or before no_weight ≡ told_weights samples name sums
    → unwrap_or (cond (bytes_eq key name) (Some (record { own = own; total = total })) before) no_weight ≡ cond (is_named name sums || bytes_eq name key) (weights_of samples name) no_weight
updated samples name key sums own total before owned totalled so_far = by (bytes_eq key name) (bytes_eq name key) refl refl
  where
    by : (b c : Bool) → bytes_eq key name ≡ b → bytes_eq name key ≡ c
        → unwrap_or (cond b (Some (record { own = own; total = total })) before) no_weight ≡ cond (is_named name sums || c) (weights_of samples name) no_weight
    by true true e f =
        let same : key ≡ name = (bytes_eq-Decides key name).0 e in
        (λ i. record { own = (owned ∙ ap (λ n. own_of n samples) same) i; total = (totalled ∙ ap (λ n. total_of n samples) same) i })
        ∙ ap (λ b. cond b (weights_of samples name) no_weight) (sym (or_right (is_named name sums) true refl))
    by true false e f = absurd (true≢false (sym ((bytes_eq-Decides name key).1 (sym ((bytes_eq-Decides key name).0 e))) ∙ f))
    by false true e f = absurd (true≢false (sym ((bytes_eq-Decides key name).1 (sym ((bytes_eq-Decides name key).0 f))) ∙ e))
    by false false e f = so_far ∙ ap (λ b. cond b (weights_of samples name) no_weight) (sym (or-false (is_named name sums)))

named_more : (name : List ℕ) (sums : List FunctionSum) (at : ℕ) (sum : FunctionSum) → at < length sums → is_named name (take (at + 1) sums) ≡ (is_named name (take at sums) || bytes_eq name (get_or sums at sum).name)
named_more name sums at sum within =
    ap (is_named name) (take_more sums at sum within) ∙ list_any-append (λ (s : FunctionSum). bytes_eq name s.name) (take at sums) (get_or sums at sum ∷ []) ∙ ap (λ b. is_named name (take at sums) || b) (or-false (bytes_eq name (get_or sums at sum).name))

pub found_more : (samples : List Sample) (sums : List FunctionSum) (at : ℕ) (sum : FunctionSum) (key : List ℕ) (own total : ℕ) (old new : BTreeMap (Bor (List ℕ)) Weights) (name : List ℕ)
    → at < length sums → sum ≡ get_or sums at sum → All (λ s. s ≡ sums_of samples s.name) sums → key ≡ sum.name → own ≡ sum.own → total ≡ sum.total
    → get_by (λ k. slice_cmp nat_cmp name k.now) new ≡ update bytes_eq (λ n. get_by (λ k. slice_cmp nat_cmp n k.now) old) key (Some (record { own = own; total = total })) name
    → found old name ≡ told_weights samples name (take at sums) → found new name ≡ told_weights samples name (take (at + 1) sums)
found_more samples sums at sum key own total old new name within is each keyed owns totals updates so_far =
    let told : sum ≡ sums_of samples sum.name = is ∙ each at sum within ∙ ap (λ (s : FunctionSum). sums_of samples s.name) (sym is) in
    let first : own ≡ own_of key samples = owns ∙ ap (λ (s : FunctionSum). s.own) told ∙ ap (λ n. own_of n samples) (sym keyed) in
    let second : total ≡ total_of key samples = totals ∙ ap (λ (s : FunctionSum). s.total) told ∙ ap (λ n. total_of n samples) (sym keyed) in
    ap (λ o. unwrap_or o no_weight) updates
    ∙ updated samples name key (take at sums) own total (get_by (λ k. slice_cmp nat_cmp name k.now) old) first second so_far
    ∙ ap (λ b. cond b (weights_of samples name) no_weight) (ap (λ n. is_named name (take at sums) || bytes_eq name n) (keyed ∙ ap (λ (s : FunctionSum). s.name) is) ∙ sym (named_more name sums at sum within))

-- ---- all functions

ends-stands : (name : List ℕ) (stack : Stack) → ends name stack ≡ true → stands_in name stack ≡ true
ends-stands name stack e =
    let both = and_parts (nat_lt 0 (length stack)) (bytes_eq name (name_at stack (length stack - 1))) e in
    among-at name stack (length stack - 1) (omega (arith, ltb-true 0 (length stack) both.0)) ((bytes_eq-Decides name (name_at stack (length stack - 1))).0 both.1)

own-le-total : (name : List ℕ) (samples : List Sample) → own_of name samples ≤ total_of name samples
own-le-total name [] = omega arith
own-le-total name (sample ∷ samples) =
    omega (
      arith,
      sum_by-cons (λ (s : Sample). cond (ends name s.stack) s.weight 0) sample samples,
      sum_by-cons (λ (s : Sample). cond (stands_in name s.stack) s.weight 0) sample samples,
      own-le-total name samples,
      by (ends name sample.stack) (stands_in name sample.stack) (ends-stands name sample.stack),
    )
  where
    by : (b c : Bool) → (b ≡ true → c ≡ true) → cond b sample.weight 0 ≤ cond c sample.weight 0
    by true true h = omega arith
    by true false h = absurd (true≢false (sym (h refl)))
    by false c h = omega arith

named-contained : (name : List ℕ) (sums : List FunctionSum) → Among name (map (λ (sum : FunctionSum). sum.name) sums) → is_named name sums ≡ true
named-contained name [] m = absurd m
named-contained name (sum ∷ sums) (inl e) = or_left (bytes_eq name sum.name) (is_named name sums) ((bytes_eq-Decides name sum.name).1 e)
named-contained name (sum ∷ sums) (inr m) = or_right (bytes_eq name sum.name) (is_named name sums) (named-contained name sums m)

weightless : (n : ℕ) → (0 < n → ⊥) → n ≡ 0
weightless n h = ⊎_elim (λ l. absurd (h l)) (λ g. omega (arith, g)) (cases_lt 0 n)

pub found_all : (by : Order) (samples : List Sample) (sums : List FunctionSum) (name : List ℕ) → AreFunctionSums by samples sums → told_weights samples name sums ≡ weights_of samples name
found_all by samples sums name are = cases (is_named name sums) refl
  where
    cases : (b : Bool) → is_named name sums ≡ b → cond b (weights_of samples name) no_weight ≡ weights_of samples name
    cases true e = refl
    cases false e =
        let total : total_of name samples ≡ 0 = weightless (total_of name samples) (λ weight.
        true≢false (sym (named-contained name sums (among-contained (map (λ (sum : FunctionSum). sum.name) sums) name ((are.all name).1 weight))) ∙ e)) in
        let own : own_of name samples ≡ 0 = omega (arith, total, own-le-total name samples) in
        λ i. record { own = sym own i; total = sym total i }
