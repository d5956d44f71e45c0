-- the list of the functions is their table, that of callers or callees is theirs, and that of the changes is theirs
use Rattle.std.proofs.Common.{◌≡◌, ◌⊎◌, inl, inr, ⊎_elim, ℕ, ◌+◌, ◌<◌, Bool, true, false, cond, List, [], ◌∷◌, ◌++◌, length, refl, ap, arith}
use Rattle.std.specs.Prelude.{nat_lt}
use Rattle.std.specs.List.{flat_map}
use Rattle.std.specs.Str.{bytes_eq}
use Rattle.std.specs.Ordering.{nat_cmp}
use Rattle.std.specs.FinMap.{slice_cmp-IsAntisymmetric, nat_cmp-IsAntisymmetric}
use Rattle.std.specs.declared.cmp.Ordering.TheVariants.{Equal}
use Rattle.std.proofs.lemmas.Bool.{cases_lt, or_cases, or_left, or_right, ltb-true}
use Rattle.std.proofs.lemmas.Slice.Eq.{bytes_eq-Decides}
use Rattle.std.proofs.lemmas.List.Sums.{sum_by-cons}
use Rattle.sample_tables.specs.declared.samples.Sample.{Sample}
use Rattle.merged_stacks.specs.Timeline.{drawn, is_drawn}
use Rattle.flame_layout.proofs.Sums.{SameSums, same_tested}
use Rattle.function_sums.specs.declared.changes.ChangeOrder.{ChangeOrder}
use Rattle.function_sums.specs.declared.changes.FunctionChange.{FunctionChange}
use Rattle.function_sums.specs.declared.sums.FunctionSum.{FunctionSum}
use Rattle.run_options.specs.declared.orders.FunctionOrder.{FunctionOrder as Order}
use Rattle.function_sums.specs.Calls.{call_of, calls_of, with_beside, AreCalls}
use Rattle.function_sums.specs.declared.call_sides.CallSide.{CallSide}
use Rattle.run_options.specs.declared.orders.FunctionOrder.TheVariants.{Total}
use Rattle.function_sums.specs.FunctionChanges.{change_of, size_of, change_cmp, AreFunctionChanges}
use Rattle.function_sums.specs.FunctionSums.{stands_in, ends, own_of, total_of, sums_of, weight_of, sum_cmp, AreFunctionSums}
use Rattle.function_sums.specs.FunctionList.{names_in, functions_of, changes_of}
use Rattle.function_sums.proofs.Functions.{sum_total, change_total, then_equal}
use Rattle.function_sums.proofs.OneTable as tables
use Rattle.function_sums.proofs.OneTable.{Among, told_alike}

-- ---- the names of samples with weight

pub among-append : (x : List ℕ) (xs ys : List (List ℕ)) → Among x (xs ++ ys) → Among x xs ⊎ Among x ys
among-append x [] ys m = inr m
among-append x (y ∷ xs) ys (inl e) = inl (inl e)
among-append x (y ∷ xs) ys (inr m) = ⊎_elim (λ n. inl (inr n)) (λ n. inr n) (among-append x xs ys m)

pub among-front : (x : List ℕ) (xs ys : List (List ℕ)) → Among x xs → Among x (xs ++ ys)
among-front x [] ys m = absurd m
among-front x (y ∷ xs) ys (inl e) = inl e
among-front x (y ∷ xs) ys (inr m) = inr (among-front x xs ys m)

pub among-back : (x : List ℕ) (xs ys : List (List ℕ)) → Among x ys → Among x (xs ++ ys)
among-back x [] ys m = m
among-back x (y ∷ xs) ys m = inr (among-back x xs ys m)

standing : (name : List ℕ) (stack : List (List ℕ)) → Among name stack → stands_in name stack ≡ true
standing name [] m = absurd m
standing name (x ∷ stack) (inl e) = or_left (bytes_eq name x) (stands_in name stack) ((bytes_eq-Decides name x).1 e)
standing name (x ∷ stack) (inr m) = or_right (bytes_eq name x) (stands_in name stack) (standing name stack m)

stood : (name : List ℕ) (stack : List (List ℕ)) → stands_in name stack ≡ true → Among name stack
stood name [] e = (let no : false ≡ true = e in cc)
stood name (x ∷ stack) e = ⊎_elim (λ t. inl ((bytes_eq-Decides name x).0 t)) (λ t. inr (stood name stack t)) (or_cases (bytes_eq name x) (stands_in name stack) e)

abbrev share : List ℕ → Sample → ℕ
share name sample = cond (stands_in name sample.stack) sample.weight 0

share-cons : (name : List ℕ) (s : Sample) (samples : List Sample) → total_of name (s ∷ samples) ≡ share name s + total_of name samples
share-cons name s samples = sum_by-cons (share name) s samples

-- the names with one sample more, which has weight or has none
abbrev names_with : Bool → Sample → List Sample → List (List ℕ)
names_with b s samples = flat_map (λ sample. sample.stack) (cond b (s ∷ drawn samples) (drawn samples))

weighs-more : (name : List ℕ) (s : Sample) (samples : List Sample) (b : Bool) → is_drawn s ≡ b → (Among name (names_in samples) → 0 < total_of name samples) → Among name (names_with b s samples) → 0 < total_of name (s ∷ samples)
weighs-more name s samples true e later m =
    ⊎_elim (λ here. omega (arith, ltb-true 0 s.weight e, share-cons name s samples, ap (λ b. cond b s.weight 0) (standing name s.stack here)))
    (λ there. omega (arith, later there, share-cons name s samples))
    (among-append name s.stack (names_in samples) m)
weighs-more name s samples false e later m = omega (arith, later m, share-cons name s samples)

weighs : (name : List ℕ) (samples : List Sample) → Among name (names_in samples) → 0 < total_of name samples
weighs name [] m = absurd m
weighs name (s ∷ samples) m = weighs-more name s samples (is_drawn s) refl (weighs name samples) m

weightless : (n : ℕ) → nat_lt 0 n ≡ false → n ≡ 0
weightless n e = grind (arith, e)

weighed-more : (name : List ℕ) (s : Sample) (samples : List Sample) (b c : Bool) → is_drawn s ≡ b → stands_in name s.stack ≡ c → (0 < total_of name samples → Among name (names_in samples)) → 0 < total_of name (s ∷ samples) → Among name (names_with b s samples)
weighed-more name s samples true true e f later h = among-front name s.stack (names_in samples) (stood name s.stack f)
weighed-more name s samples true false e f later h =
    among-back name s.stack (names_in samples) (later (omega (arith, h, share-cons name s samples, ap (λ b. cond b s.weight 0) f)))
weighed-more name s samples false true e f later h = later (omega (arith, h, weightless s.weight e, share-cons name s samples, ap (λ b. cond b s.weight 0) f))
weighed-more name s samples false false e f later h = later (omega (arith, h, share-cons name s samples, ap (λ b. cond b s.weight 0) f))

weighed : (name : List ℕ) (samples : List Sample) → 0 < total_of name samples → Among name (names_in samples)
weighed name [] h = absurd (omega (arith, h))
weighed name (s ∷ samples) h = weighed-more name s samples (is_drawn s) (stands_in name s.stack) refl refl (weighed name samples) h

-- ---- the functions

abbrev named : FunctionSum → List ℕ
named sum = sum.name

-- functions in one place have one name
one_name : (by : Order) (one other : FunctionSum) → sum_cmp by one other ≡ Equal → one.name ≡ other.name
one_name by one other e =
    slice_cmp-IsAntisymmetric nat_cmp-IsAntisymmetric one.name other.name (then_equal (nat_cmp (weight_of by other) (weight_of by one)) _ e)

pub listed : (by : Order) (samples : List Sample) → AreFunctionSums by samples (functions_of by samples)
unfolding functions_of
listed by samples =
    tables.listed (sum_cmp by) (sum_total by) named (sums_of samples) (λ name. total_of name samples) (one_name by) (λ name. refl) (names_in samples) (λ name. weighs name samples) (λ name. weighed name samples)

-- and it is the only one
pub one_table : (by : Order) (samples : List Sample) (one other : List FunctionSum) → AreFunctionSums by samples one → AreFunctionSums by samples other → one ≡ other
one_table by samples = tables.one_table (sum_cmp by) (sum_total by) named (sums_of samples) (λ name. total_of name samples)

pub listed_alone : (by : Order) (samples : List Sample) (sums : List FunctionSum) → AreFunctionSums by samples sums → sums ≡ functions_of by samples
listed_alone by samples sums are = one_table by samples sums (functions_of by samples) are (listed by samples)

-- ---- callers and callees

pub calls_listed : (side : CallSide) (name : List ℕ) (samples : List Sample) → AreCalls side name samples (calls_of side name samples)
unfolding calls_of
calls_listed side name samples =
    let beside = with_beside side name samples in
    tables.listed (sum_cmp Total) (sum_total Total) named (call_of side name samples) (λ other. total_of other beside) (one_name Total) (λ other. refl) (names_in beside) (λ other. weighs other beside) (λ other. weighed other beside)

pub calls_alone : (side : CallSide) (name : List ℕ) (samples : List Sample) (calls : List FunctionSum) → AreCalls side name samples calls → calls ≡ calls_of side name samples
calls_alone side name samples calls are =
    tables.one_table (sum_cmp Total) (sum_total Total) named (call_of side name samples) (λ other. total_of other (with_beside side name samples)) calls (calls_of side name samples) are (calls_listed side name samples)

-- ---- samples with the same sums

module _ (xs ys : List Sample) (same : SameSums xs ys) where
  own_is : (name : List ℕ) → own_of name xs ≡ own_of name ys
  own_is name = same_tested (ends name) (length xs) xs ys (omega arith) same

  total_is : (name : List ℕ) → total_of name xs ≡ total_of name ys
  total_is name = same_tested (stands_in name) (length xs) xs ys (omega arith) same

  sums_is : (name : List ℕ) → sums_of xs name ≡ sums_of ys name
  sums_is name i = record { name = name; own = own_is name i; total = total_is name i }

-- they have the same functions
pub same_functions : (by : Order) (xs ys : List Sample) → SameSums xs ys → functions_of by xs ≡ functions_of by ys
same_functions by xs ys same =
    listed_alone by ys (functions_of by xs) (told_alike (sum_cmp by) named (sums_of xs) (sums_of ys) (λ name. total_of name xs) (λ name. total_of name ys) (functions_of by xs) (sums_is xs ys same) (total_is xs ys same) (listed by xs))

-- ---- the changes

pub either : (a b : ℕ) → 0 < a + b → (0 < a) ⊎ (0 < b)
either a b h = ⊎_elim (λ l. inl l) (λ g. inr (omega (arith, h, g))) (cases_lt 0 a)

abbrev changing : FunctionChange → List ℕ
changing change = change.name

abbrev both : List Sample → List Sample → List ℕ → ℕ
both before after name = total_of name before + total_of name after

one_change : (by : ChangeOrder) (one other : FunctionChange) → change_cmp by one other ≡ Equal → one.name ≡ other.name
one_change by one other e =
    slice_cmp-IsAntisymmetric nat_cmp-IsAntisymmetric one.name other.name (then_equal (nat_cmp (size_of by other) (size_of by one)) _ e)

pub changes_listed : (by : ChangeOrder) (before after : List Sample) → AreFunctionChanges by before after (changes_of by before after)
unfolding changes_of
changes_listed by before after =
    tables.listed (change_cmp by) (change_total by) changing (change_of before after) (both before after) (one_change by) (λ name. refl) (names_in before ++ names_in after) weigh stand
  where
    weigh : (name : List ℕ) → Among name (names_in before ++ names_in after) → 0 < both before after name
    weigh name m = ⊎_elim (λ here. omega (arith, weighs name before here)) (λ there. omega (arith, weighs name after there)) (among-append name (names_in before) (names_in after) m)

    stand : (name : List ℕ) → 0 < both before after name → Among name (names_in before ++ names_in after)
    stand name h =
        ⊎_elim (λ here. among-front name (names_in before) (names_in after) (weighed name before here)) (λ there. among-back name (names_in before) (names_in after) (weighed name after there)) (either (total_of name before) (total_of name after) h)

pub changes_alone : (by : ChangeOrder) (before after : List Sample) (changes : List FunctionChange) → AreFunctionChanges by before after changes → changes ≡ changes_of by before after
changes_alone by before after changes are =
    tables.one_table (change_cmp by) (change_total by) changing (change_of before after) (both before after) changes (changes_of by before after) are (changes_listed by before after)

-- sides with the same sums have the same changes
pub same_changes : (by : ChangeOrder) (old new before after : List Sample) → SameSums old before → SameSums new after → changes_of by old new ≡ changes_of by before after
same_changes by old new before after first second =
    changes_alone by before after (changes_of by old new)
    (told_alike (change_cmp by) changing (change_of old new) (change_of before after) (both old new) (both before after) (changes_of by old new) told weight (changes_listed by old new))
  where
    told : (name : List ℕ) → change_of old new name ≡ change_of before after name
    told name i = record {
      name = name;
      own = record { before = own_is old before first name i; after = own_is new after second name i };
      total = record { before = total_is old before first name i; after = total_is new after second name i };
    }

    weight : (name : List ℕ) → both old new name ≡ both before after name
    weight name i = total_is old before first name i + total_is new after second name i
