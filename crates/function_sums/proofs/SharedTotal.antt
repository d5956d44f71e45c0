-- what a function weighs is shared by itself and its callees
use Rattle.std.proofs.Common.{◌≡◌, ◌⊎◌, inl, inr, ⊎_elim, ℕ, zero, suc, ◌+◌, ◌*◌, ◌-◌, ◌<◌, ◌≤◌, Bool, true, false, cond, ◌||◌, ◌&&◌, List, [], ◌∷◌, ◌++◌, All, filter, length, map, sum_by, refl, sym, ap, subst, ◌∙◌, arith, true≢false, add-mul, add-zero, add_comm, mul-zero, one-mul, suc-mul, zero-add, zero-mul}
use Rattle.std.specs.List.{AllByRecursion}
use Rattle.std.specs.List.Sorted.{IsStrictlySortedBy}
use Rattle.std.specs.Str.{bytes_eq}
use Rattle.std.specs.declared.cmp.Ordering.TheVariants.{Less}
use Rattle.std.proofs.lemmas.Bool.{lt-ltb, or_left}
use Rattle.std.proofs.lemmas.List.Elements.{All-head, All-tail, recursion_from_All}
use Rattle.std.proofs.lemmas.List.Sums.{sum_by-cons}
use Rattle.std.proofs.lemmas.Map.Keys.{sorted_head, sorted_tail}
use Rattle.std.proofs.lemmas.Slice.Eq.{bytes_eq-Decides}
use Rattle.sample_tables.specs.declared.samples.Sample.{Sample}
use Rattle.sample_tables.specs.Rows.{name_at}
use Rattle.merged_stacks.specs.Timeline.{Stack}
use Rattle.function_sums.specs.Calls.{beside_in, call_of, times_shared, with_beside, AreCalls}
use Rattle.function_sums.specs.declared.call_sides.CallSide.TheVariants.{Callees}
use Rattle.function_sums.specs.declared.sums.FunctionSum.{FunctionSum}
use Rattle.function_sums.specs.FunctionSums.{ends, stands_in, own_of, total_of, sum_cmp}
use Rattle.function_sums.proofs.CutSamples.{cut-tested, tested}
use Rattle.function_sums.proofs.Functions.{sum_total}
use Rattle.function_sums.proofs.OneTable.{Among, among-contained, never}
use Rattle.run_options.specs.declared.orders.FunctionOrder.TheVariants.{Total}

-- ---- each sample as often as it has callees

abbrev standing : List FunctionSum → Stack → List FunctionSum
standing calls frames = filter (λ call. stands_in call.name frames) calls

abbrev weight_of_callees : List ℕ → List FunctionSum → Sample → ℕ
weight_of_callees name calls sample = length (standing calls (beside_in Callees name sample.stack)) * sample.weight

both : (a b c x y z : ℕ) → a + b ≡ c → x + y ≡ z → (a + x) + (b + y) ≡ c + z
both a b c x y z e f = omega (arith, e, f)

one_more : (b : Bool) (call : FunctionSum) (rest : List FunctionSum) (weight : ℕ) → cond b weight 0 + length rest * weight ≡ length (cond b (call ∷ rest) rest) * weight
one_more true call rest weight = add_comm weight (length rest * weight) ∙ sym (suc-mul (length rest) weight)
one_more false call rest weight = zero-add (length rest * weight)

module _ (name : List ℕ) where
  nobody : (samples : List Sample) → 0 ≡ sum_by (weight_of_callees name []) samples
  nobody [] = refl
  nobody (s ∷ samples) = sym (sum_by-cons (weight_of_callees name []) s samples ∙ ap (λ n. n + sum_by (weight_of_callees name []) samples) (zero-mul s.weight) ∙ zero-add (sum_by (weight_of_callees name []) samples) ∙ sym (nobody samples))

  callee_more : (call : FunctionSum) (calls : List FunctionSum) (samples : List Sample)
      → sum_by (tested (λ stack. stands_in call.name (beside_in Callees name stack))) samples + sum_by (weight_of_callees name calls) samples ≡ sum_by (weight_of_callees name (call ∷ calls)) samples
  callee_more call calls [] = refl
  callee_more call calls (s ∷ samples) =
      let test = λ (stack : Stack). stands_in call.name (beside_in Callees name stack) in
      (λ i. sum_by-cons (tested test) s samples i + sum_by-cons (weight_of_callees name calls) s samples i)
      ∙ both (tested test s) (weight_of_callees name calls s) (weight_of_callees name (call ∷ calls) s) (sum_by (tested test) samples) (sum_by (weight_of_callees name calls) samples) (sum_by (weight_of_callees name (call ∷ calls)) samples)
      (one_more (test s.stack) call (standing calls (beside_in Callees name s.stack)) s.weight) (callee_more call calls samples)
      ∙ sym (sum_by-cons (weight_of_callees name (call ∷ calls)) s samples)

  callees_weigh : (samples : List Sample) (calls : List FunctionSum) → AllByRecursion (λ call. call ≡ call_of Callees name samples call.name) calls
      → sum_by (λ (sum : FunctionSum). sum.total) calls ≡ sum_by (weight_of_callees name calls) samples
  callees_weigh samples [] each = nobody samples
  callees_weigh samples (call ∷ calls) each =
      sum_by-cons (λ (sum : FunctionSum). sum.total) call calls
      ∙ (λ i. (ap (λ (sum : FunctionSum). sum.total) each.0 ∙ cut-tested (stands_in call.name) (beside_in Callees name) samples) i + callees_weigh samples calls each.1 i)
      ∙ callee_more call calls samples

  with_own : (calls : List FunctionSum) (samples : List Sample) → own_of name samples + sum_by (weight_of_callees name calls) samples ≡ sum_by (λ (s : Sample). times_shared name calls s.stack * s.weight) samples
  with_own calls [] = refl
  with_own calls (s ∷ samples) =
      let all = λ (s : Sample). times_shared name calls s.stack * s.weight in
      (λ i. sum_by-cons (tested (ends name)) s samples i + sum_by-cons (weight_of_callees name calls) s samples i)
      ∙ both (tested (ends name) s) (weight_of_callees name calls s) (all s) (own_of name samples) (sum_by (weight_of_callees name calls) samples) (sum_by all samples)
      (by (ends name s.stack) (length (standing calls (beside_in Callees name s.stack)))) (with_own calls samples)
      ∙ sym (sum_by-cons all s samples)
    where
      by : (b : Bool) (n : ℕ) → cond b s.weight 0 + n * s.weight ≡ (cond b 1 0 + n) * s.weight
      by true n = ap (λ k. k + n * s.weight) (sym (one-mul s.weight)) ∙ sym (add-mul 1 n s.weight)
      by false n = zero-add (n * s.weight) ∙ ap (λ k. k * s.weight) (sym (zero-add n))

pub shared_often : (name : List ℕ) (samples : List Sample) (calls : List FunctionSum) → AreCalls Callees name samples calls
    → own_of name samples + sum_by (λ sum. sum.total) calls ≡ sum_by (λ sample. times_shared name calls sample.stack * sample.weight) samples
shared_often name samples calls are =
    ap (λ n. own_of name samples + n) (callees_weigh name samples calls (recursion_from_All (λ call. call ≡ call_of Callees name samples call.name) calls are.each)) ∙ with_own name calls samples

-- ---- a stack in which the name stands once at most

-- the name stands nowhere, or it is the last, or one frame is directly below it
pub record Part (name : List ℕ) (stack : Stack) (stands is_last : Bool) (below : Stack) : Type 0 where
  standing : stands_in name stack ≡ stands
  last : ends name stack ≡ is_last
  beside : beside_in Callees name stack ≡ below

later : (name frame below : List ℕ) (rest : Stack) → ends name (frame ∷ below ∷ rest) ≡ ends name (below ∷ rest)
later name frame below rest =
    let long : suc (suc (length rest)) - 1 ≡ suc (length rest) = omega arith in
    let short : suc (length rest) - 1 ≡ length rest = omega arith in
    (λ i. lt-ltb 0 (suc (suc (length rest))) (omega arith) i && bytes_eq name (name_at (frame ∷ below ∷ rest) (long i)))
    ∙ sym (λ i. lt-ltb 0 (suc (length rest)) (omega arith) i && bytes_eq name (name_at (below ∷ rest) (short i)))

nowhere : (name : List ℕ) (stack : Stack) → length (filter (bytes_eq name) stack) ≤ 0 → Part name stack false false []
nowhere name [] h = record { standing = refl; last = refl; beside = refl }
nowhere name (frame ∷ []) h = by (bytes_eq name frame) refl
  where
    by : (b : Bool) → bytes_eq name frame ≡ b → Part name (frame ∷ []) false false []
    by true e = absurd (omega (arith, h, ap (λ b. length (cond b (frame ∷ []) [])) e))
    by false e = record { standing = ap (λ b. b || false) e; last = e; beside = refl }
nowhere name (frame ∷ below ∷ rest) h =
    by (bytes_eq name frame) refl (λ e. nowhere name (below ∷ rest) (omega (arith, h, ap (λ b. length (cond b (frame ∷ filter (bytes_eq name) (below ∷ rest)) (filter (bytes_eq name) (below ∷ rest)))) e)))
  where
    by : (b : Bool) → bytes_eq name frame ≡ b → (bytes_eq name frame ≡ false → Part name (below ∷ rest) false false []) → Part name (frame ∷ below ∷ rest) false false []
    by true e after = absurd (omega (arith, h, ap (λ b. length (cond b (frame ∷ filter (bytes_eq name) (below ∷ rest)) (filter (bytes_eq name) (below ∷ rest)))) e))
    by false e after =
        let rest_part = after e in
        record {
          standing = λ i. e i || rest_part.standing i;
          last = later name frame below rest ∙ rest_part.last;
          beside = λ i. cond (e i) (below ∷ []) [] ++ rest_part.beside i;
        }

abbrev Parts : List ℕ → Stack → Type 0
Parts name stack = Part name stack false false [] ⊎ (Part name stack true true [] ⊎ ((below : List ℕ) × Part name stack true false (below ∷ [])))

parts : (name : List ℕ) (stack : Stack) → length (filter (bytes_eq name) stack) ≤ 1 → Parts name stack
parts name [] h = inl record { standing = refl; last = refl; beside = refl }
parts name (frame ∷ []) h = by (bytes_eq name frame) refl
  where
    by : (b : Bool) → bytes_eq name frame ≡ b → Parts name (frame ∷ [])
    by true e = inr (inl record { standing = ap (λ b. b || false) e; last = e; beside = refl })
    by false e = inl record { standing = ap (λ b. b || false) e; last = e; beside = refl }
parts name (frame ∷ below ∷ rest) h =
    by (bytes_eq name frame) refl (λ e. parts name (below ∷ rest) (omega (arith, h, ap (λ b. length (cond b (frame ∷ filter (bytes_eq name) (below ∷ rest)) (filter (bytes_eq name) (below ∷ rest)))) e)))
  where
    after : List (List ℕ)
    after = filter (bytes_eq name) (below ∷ rest)

    more : bytes_eq name frame ≡ false → (stands is_last : Bool) (found : Stack) → Part name (below ∷ rest) stands is_last found → Part name (frame ∷ below ∷ rest) stands is_last found
    more e stands is_last found part = record {
      standing = λ i. e i || part.standing i;
      last = later name frame below rest ∙ part.last;
      beside = λ i. cond (e i) (below ∷ []) [] ++ part.beside i;
    }

    by : (b : Bool) → bytes_eq name frame ≡ b → (bytes_eq name frame ≡ false → Parts name (below ∷ rest)) → Parts name (frame ∷ below ∷ rest)
    by true e rest_parts =
        let rest_part = nowhere name (below ∷ rest) (omega (arith, h, ap (λ b. length (cond b (frame ∷ after) after)) e)) in
        inr (inr (below, record { standing = λ i. e i || rest_part.standing i; last = later name frame below rest ∙ rest_part.last; beside = λ i. cond (e i) (below ∷ []) [] ++ rest_part.beside i }))
    by false e rest_parts =
        ⊎_elim (λ part. inl (more e false false [] part)) (⊎_elim (λ part. inr (inl (more e true true [] part))) (λ one. inr (inr (one.0, more e true false (one.0 ∷ []) one.1)))) (rest_parts e)

-- ---- the rows of one callee

none_stands : (calls : List FunctionSum) → length (standing calls []) ≡ 0
none_stands [] = refl
none_stands (call ∷ calls) = none_stands calls

module _ (told : List ℕ → FunctionSum) (callee : List ℕ) where
  gone : (call : FunctionSum) (calls : List FunctionSum) → call ≡ told callee → AllByRecursion (λ it. it ≡ told it.name) calls → AllByRecursion (λ it. sum_cmp Total call it ≡ Less) calls → length (standing calls (callee ∷ [])) ≡ 0
  gone call [] is each less = refl
  gone call (other ∷ calls) is each less = by (bytes_eq other.name callee) refl (gone call calls is each.1 less.1)
    where
      by : (b : Bool) → bytes_eq other.name callee ≡ b → length (standing calls (callee ∷ [])) ≡ 0 → length (cond (b || false) (other ∷ standing calls (callee ∷ [])) (standing calls (callee ∷ []))) ≡ 0
      by true e later =
          let same : other ≡ call = each.0 ∙ ap told ((bytes_eq-Decides other.name callee).0 e) ∙ sym is in
          absurd (never (sum_cmp Total) (sum_total Total) call (subst (λ it. sum_cmp Total call it ≡ Less) same less.0))
      by false e later = later

  one_stands : (calls : List FunctionSum) → AllByRecursion (λ it. it ≡ told it.name) calls → IsStrictlySortedBy (sum_cmp Total) calls → Among callee (map (λ (it : FunctionSum). it.name) calls) → length (standing calls (callee ∷ [])) ≡ 1
  one_stands [] each up m = absurd m
  one_stands (call ∷ calls) each up m = by (bytes_eq call.name callee) refl (one_stands calls each.1 (sorted_tail (sum_cmp Total) call calls up))
    where
      by : (b : Bool) → bytes_eq call.name callee ≡ b → (Among callee (map (λ (it : FunctionSum). it.name) calls) → length (standing calls (callee ∷ [])) ≡ 1)
          → length (cond (b || false) (call ∷ standing calls (callee ∷ [])) (standing calls (callee ∷ []))) ≡ 1
      by true e rest = ap suc (gone call calls (each.0 ∙ ap told ((bytes_eq-Decides call.name callee).0 e)) each.1 (sorted_head (sum_cmp Total) call calls up))
      by false e rest =
          ⊎_elim (λ is. absurd (true≢false (sym ((bytes_eq-Decides call.name callee).1 (sym is)) ∙ e)))
          (λ later. rest later) m

-- ---- so the weight of each sample counts once

module _ (name : List ℕ) (all : List Sample) (calls : List FunctionSum) (are : AreCalls Callees name all calls) where
  one_sample : (s : Sample) → Parts name s.stack → (0 < s.weight → (callee : List ℕ) → beside_in Callees name s.stack ≡ callee ∷ [] → 0 < total_of callee (with_beside Callees name all))
      → tested (ends name) s + weight_of_callees name calls s ≡ tested (stands_in name) s
  one_sample s (inl part) weighs = (λ i. cond (part.last i) s.weight 0 + (ap (λ frames. length (standing calls frames)) part.beside ∙ none_stands calls) i * s.weight) ∙ ap (λ n. 0 + n) (zero-mul s.weight) ∙ ap (λ b. cond b s.weight 0) (sym part.standing)
  one_sample s (inr (inl part)) weighs =
      (λ i. cond (part.last i) s.weight 0 + (ap (λ frames. length (standing calls frames)) part.beside ∙ none_stands calls) i * s.weight) ∙ ap (λ n. s.weight + n) (zero-mul s.weight) ∙ add-zero s.weight ∙ ap (λ b. cond b s.weight 0) (sym part.standing)
  one_sample s (inr (inr (callee, part))) weighs =
      (λ i. cond (part.last i) s.weight 0 + length (standing calls (part.beside i)) * s.weight)
      ∙ zero-add (length (standing calls (callee ∷ [])) * s.weight)
      ∙ ⊎_elim
      (λ none. ap (λ w. length (standing calls (callee ∷ [])) * w) none ∙ mul-zero (length (standing calls (callee ∷ []))) ∙ sym none)
      (λ heavy. ap (λ n. n * s.weight) (one_stands (call_of Callees name all) callee calls (recursion_from_All (λ call. call ≡ call_of Callees name all call.name) calls are.each) are.ordered
      (among-contained (map (λ (call : FunctionSum). call.name) calls) callee ((are.all callee).1 (weighs heavy callee part.beside)))) ∙ one-mul s.weight)
      (light_or_heavy s.weight)
      ∙ ap (λ b. cond b s.weight 0) (sym part.standing)
    where
      light_or_heavy : (n : ℕ) → (n ≡ 0) ⊎ (0 < n)
      light_or_heavy zero = inl refl
      light_or_heavy (suc n) = inr (omega arith)

  stands_beside : (s : Sample) (samples : List Sample) (callee : List ℕ) → 0 < s.weight → beside_in Callees name s.stack ≡ callee ∷ [] → 0 < total_of callee (with_beside Callees name (s ∷ samples))
  stands_beside s samples callee heavy is =
      let hit : stands_in callee (beside_in Callees name s.stack) ≡ true = ap (stands_in callee) is ∙ or_left (bytes_eq callee callee) false ((bytes_eq-Decides callee callee).1 refl) in
      omega (arith, heavy, sum_by-cons (tested (stands_in callee)) (record { stack = beside_in Callees name s.stack; weight = s.weight }) (with_beside Callees name samples), ap (λ b. cond b s.weight 0) hit)

  -- of some last samples of all
  each_once : (samples : List Sample) → All (λ s. length (filter (bytes_eq name) s.stack) ≤ 1) samples → ((callee : List ℕ) → 0 < total_of callee (with_beside Callees name samples) → 0 < total_of callee (with_beside Callees name all))
      → own_of name samples + sum_by (weight_of_callees name calls) samples ≡ total_of name samples
  each_once [] once among = refl
  each_once (s ∷ samples) once among =
      let P = λ (s : Sample). length (filter (bytes_eq name) s.stack) ≤ 1 in
      (λ i. sum_by-cons (tested (ends name)) s samples i + sum_by-cons (weight_of_callees name calls) s samples i)
      ∙ both (tested (ends name) s) (weight_of_callees name calls s) (tested (stands_in name) s) (own_of name samples) (sum_by (weight_of_callees name calls) samples) (total_of name samples)
      (one_sample s (parts name s.stack (All-head P s samples once)) (λ heavy callee is. among callee (stands_beside s samples callee heavy is)))
      (each_once samples (All-tail P s samples once) (λ callee weight. among callee (omega (arith, weight, sum_by-cons (tested (stands_in callee)) (record { stack = beside_in Callees name s.stack; weight = s.weight }) (with_beside Callees name samples)))))
      ∙ sym (sum_by-cons (tested (stands_in name)) s samples)

pub shared_once : (name : List ℕ) (samples : List Sample) (calls : List FunctionSum) → AreCalls Callees name samples calls → All (λ sample. length (filter (bytes_eq name) sample.stack) ≤ 1) samples
    → own_of name samples + sum_by (λ sum. sum.total) calls ≡ total_of name samples
shared_once name samples calls are once =
    ap (λ n. own_of name samples + n) (callees_weigh name samples calls (recursion_from_All (λ call. call ≡ call_of Callees name samples call.name) calls are.each))
    ∙ each_once name samples calls are samples once (λ callee weight. weight)
