-- samples of which the frames beside a name are left
use Rattle.std.proofs.Common.{◌≡◌, ⊎_elim, ℕ, ◌+◌, ◌-◌, ◌≤◌, Bool, true, false, cond, List, [], ◌∷◌, ◌++◌, Option, None, Some, drop, map, length, sum_by, refl, sym, ap, ◌∙◌, arith, true≢false}
use Rattle.std.specs.Str.{bytes_eq}
use Rattle.std.proofs.lemmas.Bool.{or_cases, or_left, or_right}
use Rattle.std.proofs.lemmas.List.{drop-map, length-map, map_push}
use Rattle.std.proofs.lemmas.List.Folds.{list_any-append}
use Rattle.std.proofs.lemmas.List.Sums.{sum_by-cons}
use Rattle.sample_tables.specs.declared.samples.Sample.{Sample}
use Rattle.merged_stacks.specs.Timeline.{Stack, total_weight}
use Rattle.flame_layout.proofs.Sums.{SameSums, same_tested}
use Rattle.function_sums.specs.Calls.{beside, beside_in, last_two}
use Rattle.function_sums.specs.FunctionSums.{stands_in, ends, own_of, total_of}
use Rattle.function_sums.specs.checked.Cuts.{counted_of, lasts_of}
use Rattle.function_sums.specs.declared.call_sides.CallSide.{CallSide}
use Rattle.function_sums.specs.declared.call_sides.CallSide.TheVariants.{Callers, Callees}
use Rattle.function_sums.specs.declared.calls.Call.{Call}

-- ---- sums of samples whose stacks are cut

abbrev pub cut_by : (Stack → Stack) → Sample → Sample
cut_by cut sample = record { stack = cut sample.stack; weight = sample.weight }

abbrev pub tested : (Stack → Bool) → Sample → ℕ
tested test sample = cond (test sample.stack) sample.weight 0

pub cut-tested : (test : Stack → Bool) (cut : Stack → Stack) (samples : List Sample) → sum_by (tested test) (map (cut_by cut) samples) ≡ sum_by (tested (λ stack. test (cut stack))) samples
cut-tested test cut [] = refl
cut-tested test cut (s ∷ samples) =
    sum_by-cons (tested test) (cut_by cut s) (map (cut_by cut) samples) ∙ ap (λ n. tested test (cut_by cut s) + n) (cut-tested test cut samples) ∙ sym (sum_by-cons (tested (λ stack. test (cut stack))) s samples)

cut-weight : (cut : Stack → Stack) (samples : List Sample) → total_weight (map (cut_by cut) samples) ≡ total_weight samples
cut-weight cut [] = refl
cut-weight cut (s ∷ samples) =
    omega (arith, sum_by-cons (λ (sample : Sample). sample.weight) (cut_by cut s) (map (cut_by cut) samples), sum_by-cons (λ (sample : Sample). sample.weight) s samples, cut-weight cut samples)

-- samples with the same sums have the same when they are cut
module _ (xs ys : List Sample) (same : SameSums xs ys) where
  same_cut : (test : Stack → Bool) (cut : Stack → Stack) → sum_by (tested test) (map (cut_by cut) xs) ≡ sum_by (tested test) (map (cut_by cut) ys)
  same_cut test cut = cut-tested test cut xs ∙ same_tested (λ stack. test (cut stack)) (length xs) xs ys (omega arith) same ∙ sym (cut-tested test cut ys)

  pub same_lasts : (call : Option Call) (name : List ℕ) → own_of name (lasts_of call xs) ≡ own_of name (lasts_of call ys)
  same_lasts None name = same_tested (ends name) (length xs) xs ys (omega arith) same
  same_lasts (Some call) name = same_cut (ends name) (λ stack. beside_in call.side call.name.now (last_two stack))

  pub same_counted : (call : Option Call) (name : List ℕ) → total_of name (counted_of call xs) ≡ total_of name (counted_of call ys)
  same_counted None name = same_tested (stands_in name) (length xs) xs ys (omega arith) same
  same_counted (Some call) name = same_cut (stands_in name) (beside_in call.side call.name.now)

-- ---- one sample more

pub lasts-weight : (call : Option Call) (samples : List Sample) → total_weight (lasts_of call samples) ≡ total_weight samples
lasts-weight None samples = refl
lasts-weight (Some call) samples = cut-weight (λ stack. beside_in call.side call.name.now (last_two stack)) samples

pub counted-weight : (call : Option Call) (samples : List Sample) → total_weight (counted_of call samples) ≡ total_weight samples
counted-weight None samples = refl
counted-weight (Some call) samples = cut-weight (beside_in call.side call.name.now) samples

-- ---- what stands beside a name

-- what stands beside it stands in the stack
pub within : (side : CallSide) (called name : List ℕ) (stack : Stack) → stands_in name (beside_in side called stack) ≡ true → stands_in name stack ≡ true
within side called name [] e = e
within side called name (frame ∷ []) e = (let no : false ≡ true = e in cc)
within side called name (above ∷ below ∷ rest) e =
    ⊎_elim (λ here. one side refl here) (λ there. or_right (bytes_eq name above) (stands_in name (below ∷ rest)) (within side called name (below ∷ rest) there))
    (or_cases (stands_in name (beside side called above below)) (stands_in name (beside_in side called (below ∷ rest))) (sym (list_any-append (bytes_eq name) (beside side called above below) (beside_in side called (below ∷ rest))) ∙ e))
  where
    first : (b : Bool) → stands_in name (cond b (above ∷ []) []) ≡ true → stands_in name (above ∷ below ∷ rest) ≡ true
    first true h = ⊎_elim (λ t. or_left (bytes_eq name above) (stands_in name (below ∷ rest)) t) (λ f. (let no : false ≡ true = f in cc)) (or_cases (bytes_eq name above) false h)
    first false h = (let no : false ≡ true = h in cc)

    second : (b : Bool) → stands_in name (cond b (below ∷ []) []) ≡ true → stands_in name (above ∷ below ∷ rest) ≡ true
    second true h =
        ⊎_elim (λ t. or_right (bytes_eq name above) (stands_in name (below ∷ rest)) (or_left (bytes_eq name below) (stands_in name rest) t)) (λ f. (let no : false ≡ true = f in cc)) (or_cases (bytes_eq name below) false h)
    second false h = (let no : false ≡ true = h in cc)

    one : (which : CallSide) → side ≡ which → stands_in name (beside side called above below) ≡ true → stands_in name (above ∷ below ∷ rest) ≡ true
    one Callers is h = first (bytes_eq called below) (sym (ap (λ s. stands_in name (beside s called above below)) is) ∙ h)
    one Callees is h = second (bytes_eq called above) (sym (ap (λ s. stands_in name (beside s called above below)) is) ∙ h)

le-tested : (test other : Stack → Bool) → ((stack : Stack) → test stack ≡ true → other stack ≡ true) → (samples : List Sample) → sum_by (tested test) samples ≤ sum_by (tested other) samples
le-tested test other implies [] = omega arith
le-tested test other implies (s ∷ samples) =
    omega (arith, sum_by-cons (tested test) s samples, sum_by-cons (tested other) s samples, le-tested test other implies samples, by (test s.stack) (other s.stack) (implies s.stack))
  where
    by : (b c : Bool) → (b ≡ true → c ≡ true) → cond b s.weight 0 ≤ cond c s.weight 0
    by true true h = omega arith
    by true false h = absurd (true≢false (sym (h refl)))
    by false c h = omega arith

-- so what weighs nothing weighs nothing beside it
pub counted-light : (call : Option Call) (name : List ℕ) (samples : List Sample) → total_of name samples ≡ 0 → total_of name (counted_of call samples) ≡ 0
counted-light None name samples light = light
counted-light (Some call) name samples light =
    omega (
      arith,
      light,
      cut-tested (stands_in name) (beside_in call.side call.name.now) samples,
      le-tested (λ stack. stands_in name (beside_in call.side call.name.now stack)) (stands_in name) (within call.side call.name.now name) samples,
    )

-- ---- no sample, and one more

pub lasts-nil : (call : Option Call) → lasts_of call [] ≡ []
lasts-nil None = refl
lasts-nil (Some call) = refl

pub counted-nil : (call : Option Call) → counted_of call [] ≡ []
counted-nil None = refl
counted-nil (Some call) = refl

pub lasts-push : (call : Call) (samples : List Sample) (s : Sample) → lasts_of (Some call) (samples ++ s ∷ []) ≡ lasts_of (Some call) samples ++ cut_by (λ stack. beside_in call.side call.name.now (last_two stack)) s ∷ []
lasts-push call samples s = map_push (cut_by (λ stack. beside_in call.side call.name.now (last_two stack))) samples s

pub counted-push : (call : Call) (samples : List Sample) (s : Sample) → counted_of (Some call) (samples ++ s ∷ []) ≡ counted_of (Some call) samples ++ cut_by (beside_in call.side call.name.now) s ∷ []
counted-push call samples s = map_push (cut_by (beside_in call.side call.name.now)) samples s

pub last_two-map : (f : ℕ → List ℕ) (ranks : List ℕ) → last_two (map f ranks) ≡ map f (drop (length ranks - 2) ranks)
last_two-map f ranks = ap (λ n. drop (n - 2) (map f ranks)) (length-map ranks f) ∙ drop-map f (length ranks - 2) ranks
