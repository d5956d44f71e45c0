-- the sums of a path, as the proofs compute them
use Rattle.std.proofs.Common.{◌≡◌, ℕ, ◌+◌, List, [], ◌∷◌, Bool, true, false, ◌&&◌, cond, length, sum_by, sym, ◌∙◌, ap, refl, arith, leb, suc, ⊎_elim}
use Rattle.std.specs.Prelude.{if◌then◌else◌}
use Rattle.std.specs.Str.{bytes_eq}
use Rattle.std.specs.Cmp.Lexicographic.{pointwise}
use Rattle.std.proofs.lemmas.List.Sums.{sum_by-cons}
use Rattle.std.proofs.lemmas.Bool.{le-leb, lt-leb, cases_lt}
use Rattle.call_tree.specs.PathSums.{begins_with, total_of, own_of}
use Rattle.sample_tables.specs.declared.samples.Sample.{Sample}
use Rattle.merged_stacks.specs.Timeline.{Stack}
use Rattle.flame_layout.specs.Chart.{names_shared, begins_alike}
use Rattle.merged_stacks.specs.Merged.{weighed}
use Rattle.flame_layout.specs.Paths.{total_at, own_at, Visit, visit_at}

-- the sum of the weights of the samples whose stack begins with the path
abbrev pub path_total : Stack → List Sample → ℕ
path_total path samples = sum_by (λ sample. cond (begins_alike (length path) path sample) sample.weight 0) samples

-- the sum of the weights of the samples whose stack is the path
abbrev pub path_own : Stack → List Sample → ℕ
path_own path samples = sum_by (λ sample. cond (pointwise bytes_eq path sample.stack) sample.weight 0) samples

abbrev pub visit_of : List Sample → Stack → Visit
visit_of samples path = record { path = path; own = path_own path samples; total = path_total path samples }

leb_more : (n m : ℕ) → leb n m ≡ leb (suc n) (1 + m)
leb_more n m = ⊎_elim (λ l. lt-leb n m l ∙ sym (lt-leb (suc n) (1 + m) (omega arith))) (λ g. le-leb n m g ∙ sym (le-leb (suc n) (1 + m) (omega arith))) (cases_lt m n)

pub begins-alike : (path stack : Stack) → begins_with bytes_eq path stack ≡ leb (length path) (names_shared path stack)
begins-alike [] stack = sym (le-leb 0 (names_shared [] stack) (omega arith))
begins-alike (x ∷ path) [] = sym (lt-leb (suc (length path)) 0 (omega arith))
begins-alike (x ∷ path) (y ∷ stack) = by (bytes_eq x y) (begins-alike path stack)
  where
    by : (b : Bool) → begins_with bytes_eq path stack ≡ leb (length path) (names_shared path stack) →
        (b && begins_with bytes_eq path stack) ≡ leb (suc (length path)) (cond b (1 + names_shared path stack) 0)
    by true ih = ih ∙ leb_more (length path) (names_shared path stack)
    by false ih = sym (lt-leb (suc (length path)) 0 (omega arith))

pub total_at-is : (path : Stack) (xs : List Sample) → total_at path xs ≡ path_total path xs
unfolding total_of
total_at-is path [] = refl
total_at-is path (s ∷ xs) =
    sum_by-cons (λ (p : Stack × ℕ). if begins_with bytes_eq path p.0 then p.1 else 0) (s.stack, s.weight) (weighed xs) ∙
    ((λ i. cond (begins-alike path s.stack i) s.weight 0 + total_at-is path xs i) ∙ sym (sum_by-cons (λ (t : Sample). cond (begins_alike (length path) path t) t.weight 0) s xs))

pub own_at-is : (path : Stack) (xs : List Sample) → own_at path xs ≡ path_own path xs
unfolding own_of
own_at-is path [] = refl
own_at-is path (s ∷ xs) =
    sum_by-cons (λ (p : Stack × ℕ). if pointwise bytes_eq path p.0 then p.1 else 0) (s.stack, s.weight) (weighed xs) ∙
    (ap (λ n. cond (pointwise bytes_eq path s.stack) s.weight 0 + n) (own_at-is path xs) ∙ sym (sum_by-cons (λ (t : Sample). cond (pointwise bytes_eq path t.stack) t.weight 0) s xs))

pub visit_at-is : (xs : List Sample) → visit_at xs ≡ visit_of xs
visit_at-is xs = λ i path. record { path = path; own = own_at-is path xs i; total = total_at-is path xs i }
