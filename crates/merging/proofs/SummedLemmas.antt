-- Stacks that are kept, each with the sum of its samples.
use Rattle.std.proofs.Common.{◌≡◌, ◌∙◌, ◌<◌, ◌≤◌, ◌+◌, ◌^◌, ◌++◌, ◌∷◌, [], ℕ, zero, suc, Bool, true, false, List, ap, arith, cond, get_or, length, length-append, map, refl, set, subst, sum_by, sym}
use Rattle.std.specs.List.{AllByRecursion}
use Rattle.std.specs.Ordering.{is_eq}
use Rattle.std.proofs.lemmas.List.{map_push}
use Rattle.std.proofs.lemmas.List.Sums.{sum_by-cons, sum_by-set, sum_by_push}
use Rattle.sample_tables.specs.Rows.{named, sample_at}
use Rattle.sample_tables.specs.Tables.{Table}
use Rattle.sample_tables.specs.declared.samples.Sample.{Sample}
use Rattle.call_tree.specs.Listing.{AreIn}
use Rattle.flame_layout.proofs.Held.{each-push, known-grows, named-grows}
use Rattle.merged_stacks.specs.Merged.{sum_at, weighed}
use Rattle.merged_stacks.specs.Order.{stack_cmp}
use Rattle.merged_stacks.specs.Timeline.{Stack, total_weight}
use Rattle.merged_stacks.specs.Sums.{HaveSameSums, kept_samples}
use Rattle.merged_stacks.proofs.MergedRows.{sum_at-cons, sum_at-nil}
use Rattle.ring_collect.specs.NamesInOrder.{GrowsTo}
use Rattle.merging.specs.Snapshots.{samples_of_pairs}
use Rattle.merging.specs.checked.Summed.{AreMergedPairs, AreSummed}
use Rattle.merging.specs.checked.TakenRows.{AreNumbersOf}

-- numbers that have the same names, one by one
pub named-agree : (f g : ℕ → List ℕ) (xs ys : List ℕ) → length xs ≡ length ys → ((k : ℕ) → k < length xs → f (get_or xs k 0) ≡ g (get_or ys k 0)) → map f xs ≡ map g ys
named-agree f g [] [] e h = refl
named-agree f g [] (y ∷ ys) e h = absurd (omega arith)
named-agree f g (x ∷ xs) [] e h = absurd (omega arith)
named-agree f g (x ∷ xs) (y ∷ ys) e h = λ i. h 0 (omega arith) i ∷ named-agree f g xs ys (omega arith) (λ k lt. h (suc k) (omega (arith, lt))) i

-- ---- the stacks as samples

abbrev pub with_sum : List (List ℕ) → List ℕ → ℕ → Sample
with_sum names frames sum = named names (record { frames = frames; weight = sum })

kept-grows : (names longer stacks : List (List ℕ)) (sums : List ℕ) → GrowsTo names longer → AllByRecursion (AreIn names) stacks → kept_samples longer stacks sums ≡ kept_samples names stacks sums
kept-grows names longer [] sums g h = refl
kept-grows names longer (frames ∷ stacks) [] g h = refl
kept-grows names longer (frames ∷ stacks) (sum ∷ sums) g h =
    λ i. record { stack = sym (named-grows names longer frames g h.0) i; weight = sum } ∷ kept-grows names longer stacks sums g h.1 i

stacks-grow : (names longer stacks : List (List ℕ)) → GrowsTo names longer → AllByRecursion (AreIn names) stacks → AllByRecursion (AreIn longer) stacks
stacks-grow names longer [] g h = tt
stacks-grow names longer (frames ∷ stacks) g h = (known-grows names longer frames g h.0, stacks-grow names longer stacks g h.1)

kept-push : (names stacks : List (List ℕ)) (sums frames : List ℕ) (sum : ℕ) → length sums ≡ length stacks → kept_samples names (stacks ++ frames ∷ []) (sums ++ sum ∷ []) ≡ kept_samples names stacks sums ++ with_sum names frames sum ∷ []
kept-push names [] [] frames sum e = refl
kept-push names [] (one ∷ sums) frames sum e = absurd (omega arith)
kept-push names (one ∷ stacks) [] frames sum e = absurd (omega arith)
kept-push names (one ∷ stacks) (first ∷ sums) frames sum e = ap (λ rest. with_sum names one first ∷ rest) (kept-push names stacks sums frames sum (omega arith))

pub kept-len : (names stacks : List (List ℕ)) (sums : List ℕ) → length sums ≡ length stacks → length (kept_samples names stacks sums) ≡ length stacks
kept-len names [] sums e = refl
kept-len names (frames ∷ stacks) [] e = absurd (omega arith)
kept-len names (frames ∷ stacks) (sum ∷ sums) e = let rest = kept-len names stacks sums (omega arith) in omega (arith, rest)

pub kept-at : (names stacks : List (List ℕ)) (sums : List ℕ) (k : ℕ) → length sums ≡ length stacks → k < length stacks → sample_at (kept_samples names stacks sums) k ≡ with_sum names (get_or stacks k []) (get_or sums k 0)
kept-at names [] sums k e lt = absurd (omega arith)
kept-at names (frames ∷ stacks) [] k e lt = absurd (omega arith)
kept-at names (frames ∷ stacks) (sum ∷ sums) zero e lt = refl
kept-at names (frames ∷ stacks) (sum ∷ sums) (suc k) e lt = kept-at names stacks sums k (omega arith) (omega arith)

pub kept-set : (names stacks : List (List ℕ)) (sums : List ℕ) (k more : ℕ) → length sums ≡ length stacks → k < length stacks
    → kept_samples names stacks (set sums k (get_or sums k 0 + more))
    ≡ set (kept_samples names stacks sums) k (record (sample_at (kept_samples names stacks sums) k) { weight = (sample_at (kept_samples names stacks sums) k).weight + more })
kept-set names [] sums k more e lt = absurd (omega arith)
kept-set names (frames ∷ stacks) [] k more e lt = absurd (omega arith)
kept-set names (frames ∷ stacks) (sum ∷ sums) zero more e lt = refl
kept-set names (frames ∷ stacks) (sum ∷ sums) (suc k) more e lt = ap (λ rest. with_sum names frames sum ∷ rest) (kept-set names stacks sums k more (omega arith) (omega arith))

-- ---- what is kept changes

-- stacks that are kept, as samples
pub record AreKept (names stacks : List (List ℕ)) (sums : List ℕ) (samples : List Sample) : Type 0 where
  pub summed : AreSummed names stacks sums
  pub are : kept_samples names stacks sums ≡ samples

-- names came
pub names-come : (names longer stacks same : List (List ℕ)) (sums reserved : List ℕ) (samples : List Sample) → AreKept names stacks sums samples → GrowsTo names longer → same ≡ stacks → reserved ≡ sums → AreKept longer same reserved samples
names-come names longer stacks same sums reserved samples h g is also =
    subst (λ (all : List (List ℕ)). AreKept longer all reserved samples) (sym is)
    (subst (λ (all : List ℕ). AreKept longer stacks all samples) (sym also) (record {
      summed = record { len = h.summed.len; known = stacks-grow names longer stacks g h.summed.known };
      are = kept-grows names longer stacks sums g h.summed.known ∙ h.are;
    }))

-- and the stack of some of them, without samples
pub stack-comes : (names stacks : List (List ℕ)) (table : Table) (sums longer frames numbers : List ℕ) (stack : List (List ℕ)) (samples : List Sample) → AreKept names stacks sums samples → AreNumbersOf stack names numbers → frames ≡ numbers
    → table.names ≡ names → table.stacks ≡ stacks ++ frames ∷ [] → longer ≡ sums ++ 0 ∷ [] → AreKept table.names table.stacks longer (samples ++ record { stack = stack; weight = 0 } ∷ [])
stack-comes names stacks table sums longer frames numbers stack samples h numbered same named_by is also =
    subst (λ (all : List (List ℕ)). AreKept all table.stacks longer more) (sym named_by)
    (subst (λ (all : List (List ℕ)). AreKept names all longer more) (sym (is ∙ ap (λ (last : List ℕ). stacks ++ last ∷ []) same))
    (subst (λ (all : List ℕ). AreKept names (stacks ++ numbers ∷ []) all more) (sym also) (record {
      summed = record {
        len = omega (arith, h.summed.len, length-append stacks (numbers ∷ []), length-append sums (0 ∷ []));
        known = each-push (AreIn names) stacks numbers h.summed.known numbered.known;
      };
      are =
          kept-push names stacks sums numbers 0 h.summed.len
          ∙ (λ i. h.are i ++ record { stack = numbered.named_as i; weight = 0 } ∷ []);
    })))
  where
    more : List Sample
    more = samples ++ record { stack = stack; weight = 0 } ∷ []

-- ---- sums of samples

-- what a sample adds to the sum of a stack
abbrev weight_for : Stack → Sample → ℕ
weight_for q sample = cond (is_eq (stack_cmp q sample.stack)) sample.weight 0

sum_for : (samples : List Sample) (q : Stack) → sum_at (weighed samples) q ≡ sum_by (weight_for q) samples
sum_for [] q = sum_at-nil q
sum_for (sample ∷ samples) q =
    sum_at-cons (sample.stack, sample.weight) (weighed samples) q ∙ ap (λ n. weight_for q sample + n) (sum_for samples q) ∙ sym (sum_by-cons (weight_for q) sample samples)

nothing : (b : Bool) (none : ℕ) → cond b none none ≡ none
nothing true none = refl
nothing false none = refl

-- a stack without samples changes no sum
pub same-none : (kept samples : List Sample) (stack : Stack) → HaveSameSums kept samples → HaveSameSums (kept ++ record { stack = stack; weight = 0 } ∷ []) samples
same-none kept samples stack h = record {
  sums = λ q. omega (
    arith,
    sum_for (kept ++ record { stack = stack; weight = 0 } ∷ []) q,
    sum_by_push (weight_for q) kept (record { stack = stack; weight = 0 }),
    nothing (is_eq (stack_cmp q stack)) 0,
    sum_for kept q,
    h.sums q,
  );
  total = omega (arith, sum_by_push (λ (sample : Sample). sample.weight) kept (record { stack = stack; weight = 0 }), h.total);
}

split : (b : Bool) (n more : ℕ) → cond b (n + more) 0 ≡ cond b n 0 + cond b more 0
split true n more = refl
split false n more = refl

-- a sample of a stack that is kept
same-more : (kept samples : List Sample) (k : ℕ) (sample : Sample) → HaveSameSums kept samples → k < length kept → (sample_at kept k).stack ≡ sample.stack
    → HaveSameSums (set kept k (record (sample_at kept k) { weight = (sample_at kept k).weight + sample.weight })) (samples ++ sample ∷ [])
same-more kept samples k sample h lt is = record {
  sums = λ q.
      let here : weight_for q more ≡ weight_for q was + weight_for q sample =
      split (is_eq (stack_cmp q was.stack)) was.weight sample.weight ∙ ap (λ stack. weight_for q was + cond (is_eq (stack_cmp q stack)) sample.weight 0) is in
      omega (
        arith,
        sum_for (set kept k more) q,
        sum_by-set (weight_for q) kept k more (record { stack = []; weight = 0 }) lt,
        here,
        sum_for kept q,
        h.sums q,
        sum_for samples q,
        sum_for (samples ++ sample ∷ []) q,
        sum_by_push (weight_for q) samples sample,
      );
  total = omega (
    arith,
    sum_by-set (λ (sample : Sample). sample.weight) kept k more (record { stack = []; weight = 0 }) lt,
    h.total,
    sum_by_push (λ (sample : Sample). sample.weight) samples sample,
  );
}
  where
    was : Sample
    was = sample_at kept k

    more : Sample
    more = record (sample_at kept k) { weight = (sample_at kept k).weight + sample.weight }

-- ---- samples by rows, merged

-- one pair more
pub pairs-more : (stacks : List Sample) (total sum k : ℕ) (pairs all : List (ℕ × Sample)) (source : ℕ) (sample : Sample) → AreMergedPairs stacks total pairs → k < length stacks → (sample_at stacks k).stack ≡ sample.stack → sum ≡ total + sample.weight → sum < 2 ^ 64
    → all ≡ pairs ++ (source, sample) ∷ []
    → AreMergedPairs (set stacks k (record (sample_at stacks k) { weight = (sample_at stacks k).weight + sample.weight })) sum all
pairs-more stacks total sum k pairs all source sample h lt is adds fits more =
    subst (λ (all : List (ℕ × Sample)). AreMergedPairs stacks' sum all) (sym more) (record {
      same = subst (λ (samples : List Sample). HaveSameSums stacks' samples) (sym samples) (same-more stacks (samples_of_pairs pairs) k sample h.same lt is);
      total_is = omega (arith, h.total_is, adds, ap total_weight samples, sum_by_push (λ (sample : Sample). sample.weight) (samples_of_pairs pairs) sample);
      fits = fits;
    })
  where
    stacks' : List Sample
    stacks' = set stacks k (record (sample_at stacks k) { weight = (sample_at stacks k).weight + sample.weight })

    samples : samples_of_pairs (pairs ++ (source, sample) ∷ []) ≡ samples_of_pairs pairs ++ sample ∷ []
    samples = map_push (λ pair. pair.1) pairs (source, sample)
