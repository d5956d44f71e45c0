-- counting the names of stacks, frame by frame
use Rattle.std.proofs.Common.{◌≡◌, ℕ, ◌+◌, ◌-◌, ◌<◌, ◌≤◌, ◌^◌, Bool, true, false, cond, ◌&&◌, ◌||◌, zero, suc, List, [], ◌∷◌, ◌++◌, Some, length, map, get_or, set, take, drop, sum_by, ltb, All, refl, sym, ap, subst, ◌∙◌, arith, ⊎_elim}
use Rattle.std.specs.List.{list_any, slice_get}
use Rattle.std.specs.Str.{bytes_eq}
use Rattle.std.proofs.lemmas.Bool.{cases_Bool, cases_eq, or_right, or_left, false_from_ne_true, le-ltb, lt-ltb, true≢false}
use Rattle.std.proofs.lemmas.Slice.Eq.{bytes_eq-Decides}
use Rattle.std.proofs.lemmas.List.{append-nil, drop_all, take_all, length-map, length-set, get_or-map, get_or-set_same, get_or-set_other, map_more, take-map}
use Rattle.std.proofs.lemmas.List.Folds.{list_any-append}
use Rattle.std.proofs.lemmas.List.Sums.{sum_by-append, sum_by-cons, sum_by-take-le}
use Rattle.std.proofs.lemmas.Option.{get_or_from_slice_get, slice_get-get_or, slice_get_within}
use Rattle.sample_tables.specs.declared.samples.Sample.{Sample}
use Rattle.sample_tables.specs.Rows.{name_at, sample_at}
use Rattle.merged_stacks.specs.Order.{AreRising}
use Rattle.merged_stacks.specs.RankedStacks.{Ranking, ranked_samples, ranks_at, sample_of}
use Rattle.merged_stacks.proofs.JoinedStacks.{names_distinct}
use Rattle.merged_stacks.specs.Timeline.{Stack, total_weight}
use Rattle.function_sums.specs.declared.counts.Count.{Count}
use Rattle.function_sums.specs.FunctionSums.{stands_in, ends, total_of}
use Rattle.function_sums.specs.checked.Counted.{counted, ended, HasRoom, IsCount, AreCounts}

pub same_name : (a b : List ℕ) → bytes_eq a b ≡ true → a ≡ b
same_name a b h = (bytes_eq-Decides a b).0 h

is_same : (a b : List ℕ) → a ≡ b → bytes_eq a b ≡ true
is_same a b e = (bytes_eq-Decides a b).1 e

pub or-false : (b : Bool) → (b || false) ≡ b
or-false true = refl
or-false false = refl

abbrev pub none : Count
none = record { own = 0; total = 0; stamp = 0 }

-- ---- whether a name stands among others, with one more

among-other : (name m : List ℕ) (front : Stack) → bytes_eq name m ≡ false → list_any (bytes_eq name) (front ++ m ∷ []) ≡ list_any (bytes_eq name) front
among-other name m front h =
    list_any-append (bytes_eq name) front (m ∷ []) ∙ (ap (λ b. list_any (bytes_eq name) front || (b || false)) h ∙ or-false (list_any (bytes_eq name) front))

among-last : (name m : List ℕ) (front : Stack) → bytes_eq name m ≡ true → list_any (bytes_eq name) (front ++ m ∷ []) ≡ true
among-last name m front h =
    list_any-append (bytes_eq name) front (m ∷ []) ∙ or_right (list_any (bytes_eq name) front) (bytes_eq name m || false) (ap (λ b. b || false) h)

pub among-at : (name : List ℕ) (names : List (List ℕ)) (i : ℕ) → i < length names → name ≡ name_at names i → list_any (bytes_eq name) names ≡ true
among-at name [] i h e = absurd (omega (arith, h))
among-at name (x ∷ names) zero h e = or_left (bytes_eq name x) (list_any (bytes_eq name) names) (is_same name x e)
among-at name (x ∷ names) (suc i) h e = or_right (bytes_eq name x) (list_any (bytes_eq name) names) (among-at name names i (omega (arith, h)) e)

-- ---- one name, with one frame more

count-other : (name m : List ℕ) (lasts done : List Sample) (front : Stack) (weight stamp : ℕ) (count : Count) → IsCount name lasts done front weight stamp count → bytes_eq name m ≡ false → IsCount name lasts done (front ++ m ∷ []) weight stamp count
count-other name m lasts done front weight stamp count k h =
    let same = among-other name m front h in
    record {
      own = k.own;
      total = k.total ∙ ap (λ b. total_of name done + cond b weight 0) (sym same);
      marked = λ e. k.marked (sym same ∙ e);
      unmarked = λ e. k.unmarked (sym same ∙ e);
    }

abbrev counted_more : ℕ → ℕ → Count → Count
counted_more weight stamp count = record { own = count.own; total = count.total + weight; stamp = stamp }

count-again : (name m : List ℕ) (lasts done : List Sample) (front : Stack) (weight stamp : ℕ) (count : Count) → IsCount name lasts done front weight stamp count → bytes_eq name m ≡ true → IsCount name lasts done (front ++ m ∷ []) weight stamp (counted weight stamp count)
count-again name m lasts done front weight stamp count k h = cases (stands_in name front) refl
  where
    last : stands_in name (front ++ m ∷ []) ≡ true
    last = among-last name m front h

    cases : (b : Bool) → stands_in name front ≡ b → IsCount name lasts done (front ++ m ∷ []) weight stamp (counted weight stamp count)
    cases true e =
        subst (IsCount name lasts done (front ++ m ∷ []) weight stamp) (sym (ap (λ b. cond b (counted_more weight stamp count) count) (le-ltb count.stamp stamp (omega (arith, k.marked e))))) record {
          own = k.own;
          total = k.total ∙ ap (λ b. total_of name done + cond b weight 0) (e ∙ sym last);
          marked = λ _. k.marked e;
          unmarked = λ miss. absurd (true≢false (sym last ∙ miss));
        }
    cases false e =
        subst (IsCount name lasts done (front ++ m ∷ []) weight stamp) (sym (ap (λ b. cond b (counted_more weight stamp count) count) (lt-ltb count.stamp stamp (k.unmarked e)))) record {
          own = k.own;
          total = omega (arith, k.total, ap (λ b. cond b weight 0) e, ap (λ b. cond b weight 0) last);
          marked = λ _. refl;
          unmarked = λ miss. absurd (true≢false (sym last ∙ miss));
        }

-- ---- all names, with one frame more

-- names at two places are two names
apart : (names : List (List ℕ)) → AreRising names → (i n : ℕ) → i < length names → n < length names → (i ≡ n → ⊥) → bytes_eq (name_at names i) (name_at names n) ≡ false
apart names rising i n li ln ne = false_from_ne_true _ (λ hit. ne (names_distinct names rising i n li ln (same_name (name_at names i) (name_at names n) hit)))

pub frame_more : (names : List (List ℕ)) (counts after : List Count) (lasts done : List Sample) (front : Stack) (weight stamp n : ℕ) → AreCounts names counts lasts done front weight stamp → AreRising names → n < length names
    → ((d : Count) → after ≡ set counts n (counted weight stamp (get_or counts n d))) → AreCounts names after lasts done (front ++ name_at names n ∷ []) weight stamp
frame_more names counts after lasts done front weight stamp n are rising within put = record {
  many = ap length (put none) ∙ (length-set counts n _ ∙ are.many);
  each = λ i d lt. ⊎_elim (λ e. here i d e) (λ ne. beside i d lt ne) (cases_eq i n);
}
  where
    m : List ℕ
    m = name_at names n

    here : (i : ℕ) (d : Count) → i ≡ n → IsCount (name_at names i) lasts done (front ++ m ∷ []) weight stamp (get_or after i d)
    here i d e =
        let count = get_or counts n d in
        let now : get_or after n d ≡ counted weight stamp count = ap (λ (all : List Count). get_or all n d) (put d) ∙ get_or-set_same counts n (counted weight stamp count) d (omega (arith, within, are.many)) in
        subst (λ k. IsCount (name_at names k) lasts done (front ++ m ∷ []) weight stamp (get_or after k d)) (sym e)
        (subst (IsCount m lasts done (front ++ m ∷ []) weight stamp) (sym now) (count-again m m lasts done front weight stamp count (are.each n d within) (is_same m m refl)))

    beside : (i : ℕ) (d : Count) → i < length names → (i ≡ n → ⊥) → IsCount (name_at names i) lasts done (front ++ m ∷ []) weight stamp (get_or after i d)
    beside i d lt ne =
        let now : get_or after i d ≡ get_or counts i d = ap (λ (all : List Count). get_or all i d) (put d) ∙ get_or-set_other counts n i _ d ne in
        subst (IsCount (name_at names i) lasts done (front ++ m ∷ []) weight stamp) (sym now)
        (count-other (name_at names i) m lasts done front weight stamp (get_or counts i d) (are.each i d lt) (apart names rising i n lt within ne))

-- ---- a stack whose frames were all counted

tested-le : (g : Stack → Bool) (samples : List Sample) → sum_by (λ sample. cond (g sample.stack) sample.weight 0) samples ≤ total_weight samples
tested-le g [] = omega arith
tested-le g (s ∷ samples) = omega (arith, sum_by-cons (λ (sample : Sample). cond (g sample.stack) sample.weight 0) s samples, sum_by-cons (λ (sample : Sample). sample.weight) s samples, one (g s.stack), tested-le g samples)
  where
    one : (b : Bool) → cond b s.weight 0 ≤ s.weight
    one true = omega arith
    one false = omega arith

tested-push : (g : Stack → Bool) (done : List Sample) (s : Sample) → sum_by (λ sample. cond (g sample.stack) sample.weight 0) (done ++ s ∷ []) ≡ sum_by (λ sample. cond (g sample.stack) sample.weight 0) done + cond (g s.stack) s.weight 0
tested-push g done s =
    let f = λ (sample : Sample). cond (g sample.stack) sample.weight 0 in
    omega (arith, sum_by-append f done (s ∷ []), sum_by-cons f s [])

-- before the first frame no name stands in the stack
none_more : (name : List ℕ) (weight : ℕ) → cond (stands_in name []) weight 0 ≡ 0
none_more name weight = refl

-- a stack more has room, also where some of its frames were counted
pub all_room : (names : List (List ℕ)) (counts : List Count) (lasts done : List Sample) (weight stamp : ℕ) → AreCounts names counts lasts done [] 0 stamp → total_weight lasts + weight < 2 ^ 64 → total_weight done + weight < 2 ^ 64
    → All (HasRoom weight stamp) counts
all_room names counts lasts done weight stamp are last small k d lt =
    let name = name_at names k in
    let count = are.each k d (omega (arith, lt, are.many)) in (
      omega (arith, count.own, tested-le (ends name) lasts, last),
      (λ _. omega (arith, count.total, none_more name 0, tested-le (stands_in name) done, small)),
    )

pub room_more : (counts after : List Count) (weight stamp n : ℕ) → n < length counts → All (HasRoom weight stamp) counts → ((d : Count) → after ≡ set counts n (counted weight stamp (get_or counts n d))) → All (HasRoom weight stamp) after
room_more counts after weight stamp n within room put k d lt = ⊎_elim here beside (cases_eq k n)
  where
    count : Count
    count = get_or counts n none

    one : (b : Bool) → ltb count.stamp stamp ≡ b → HasRoom weight stamp (cond b (counted_more weight stamp count) count)
    one true e = ((room n none within).0, (λ below. absurd (omega (arith, below))))
    one false e = room n none within

    here : k ≡ n → HasRoom weight stamp (get_or after k d)
    here e =
        let now : get_or after n d ≡ counted weight stamp count = ap (λ (all : List Count). get_or all n d) (put none) ∙ get_or-set_same counts n (counted weight stamp count) d within in
        subst (λ k. HasRoom weight stamp (get_or after k d)) (sym e) (subst (HasRoom weight stamp) (sym now) (one (ltb count.stamp stamp) refl))

    beside : (k ≡ n → ⊥) → HasRoom weight stamp (get_or after k d)
    beside ne =
        let now : get_or after k d ≡ get_or counts k d = ap (λ (all : List Count). get_or all k d) (put none) ∙ get_or-set_other counts n k _ d ne in
        subst (HasRoom weight stamp) (sym now) (room k d (omega (arith, lt, ap length (put none), length-set counts n (counted weight stamp count))))

-- the weight of one stack more has room
pub stack_room : (stacks : List Sample) (at : ℕ) (s : Sample) → take (at + 1) stacks ≡ take at stacks ++ s ∷ [] → total_weight (take at stacks) + s.weight ≤ total_weight stacks
stack_room stacks at s more =
    let weight = λ (sample : Sample). sample.weight in
    omega (arith, sum_by-take-le weight stacks (at + 1), ap (sum_by weight) more, sum_by-append weight (take at stacks) (s ∷ []), sum_by-cons weight s [])

-- the stack that is counted next
pub stack_more : (all : Ranking) (at weight : ℕ) (ranks : List ℕ) → at < length (ranked_samples all) → weight ≡ (sample_at (ranked_samples all) at).weight → ranks ≡ ranks_at all at
    → take (at + 1) (ranked_samples all) ≡ take at (ranked_samples all) ++ record { stack = map (name_at all.names) ranks; weight = weight } ∷ []
stack_more all at weight ranks lt w r =
    let f = sample_of all.names in
    let within : at < length all.rows = omega (arith, lt, length-map all.rows f) in
    let here = w ∙ ap (λ (s : Sample). s.weight) (get_or-map f all.rows at ([], 0) (record { stack = []; weight = 0 }) within) in
    take-map f (at + 1) all.rows ∙ map_more f all.rows at ([], 0) within ∙ (λ i. sym (take-map f at all.rows) i ++ record { stack = map (name_at all.names) (sym r i); weight = sym here i } ∷ [])

pub last_below : (ranks : List ℕ) (count last : ℕ) → All (λ rank. rank < count) ranks → slice_get ranks (length ranks - 1) ≡ Some last → last < count
last_below ranks count last below e =
    omega (arith, below (length ranks - 1) 0 (slice_get_within ranks (length ranks - 1) last e), get_or_from_slice_get ranks (length ranks - 1) last 0 e)

pub last_name : (names : List (List ℕ)) (ranks : List ℕ) (last : ℕ) → slice_get ranks (length ranks - 1) ≡ Some last → name_at names last ≡ name_at (map (name_at names) ranks) (length (map (name_at names) ranks) - 1)
last_name names ranks last e =
    sym (ap (λ n. name_at (map (name_at names) ranks) (n - 1)) (length-map ranks (name_at names)) ∙ get_or-map (name_at names) ranks (length ranks - 1) 0 [] (slice_get_within ranks (length ranks - 1) last e)
    ∙ ap (name_at names) (get_or_from_slice_get ranks (length ranks - 1) last 0 e))

abbrev pub with_own : ℕ → Count → Count
with_own weight count = record { own = count.own + weight; total = count.total; stamp = count.stamp }

count-done : (name : List ℕ) (lasts done : List Sample) (ending s : Sample) (stamp : ℕ) (count after : Count) → IsCount name lasts done s.stack s.weight stamp count → ending.weight ≡ s.weight
    → after.own ≡ count.own + cond (ends name ending.stack) s.weight 0 → after.total ≡ count.total → after.stamp ≡ count.stamp → IsCount name (lasts ++ ending ∷ []) (done ++ s ∷ []) [] 0 (stamp + 1) after
count-done name lasts done ending s stamp count after k weighs own total same = record {
  own = omega (arith, own, k.own, tested-push (ends name) lasts ending, ap (λ w. cond (ends name ending.stack) w 0) weighs);
  total = omega (arith, total, k.total, tested-push (stands_in name) done s, none_more name 0);
  marked = λ hit. absurd (true≢false (sym hit));
  unmarked = λ _. ⊎_elim (λ hit. omega (arith, same, k.marked hit)) (λ miss. omega (arith, same, k.unmarked miss)) (cases_Bool (stands_in name s.stack));
}

module _ (names : List (List ℕ)) (counts : List Count) (lasts done : List Sample) (ending s : Sample) (stamp : ℕ) (are : AreCounts names counts lasts done s.stack s.weight stamp) (weighs : ending.weight ≡ s.weight) where
  pub stack_empty : ((name : List ℕ) → ends name ending.stack ≡ false) → AreCounts names counts (lasts ++ ending ∷ []) (done ++ s ∷ []) [] 0 (stamp + 1)
  stack_empty none = record {
    many = are.many;
    each = λ i d lt. count-done (name_at names i) lasts done ending s stamp (get_or counts i d) (get_or counts i d) (are.each i d lt) weighs
        (omega (arith, ap (λ b. cond b s.weight 0) (none (name_at names i)))) refl refl;
  }

  pub stack_ended : (after : List Count) (last : ℕ) → AreRising names → last < length names → ((name : List ℕ) → ends name ending.stack ≡ bytes_eq name (name_at names last)) →
      after ≡ set counts last (with_own s.weight (get_or counts last none)) → AreCounts names after (lasts ++ ending ∷ []) (done ++ s ∷ []) [] 0 (stamp + 1)
  stack_ended after last rising within read put = record {
    many = ap length put ∙ (length-set counts last _ ∙ are.many);
    each = λ i d lt. ⊎_elim (λ e. here i d e) (λ ne. beside i d lt ne) (cases_eq i last);
  }
    where
      here : (i : ℕ) (d : Count) → i ≡ last → IsCount (name_at names i) (lasts ++ ending ∷ []) (done ++ s ∷ []) [] 0 (stamp + 1) (get_or after i d)
      here i d e =
          let count = get_or counts last none in
          let now : get_or after last d ≡ with_own s.weight count = ap (λ (all : List Count). get_or all last d) put ∙ get_or-set_same counts last (with_own s.weight count) d (omega (arith, within, are.many)) in
          let hit : ends (name_at names last) ending.stack ≡ true = read (name_at names last) ∙ is_same (name_at names last) (name_at names last) refl in
          subst (λ k. IsCount (name_at names k) (lasts ++ ending ∷ []) (done ++ s ∷ []) [] 0 (stamp + 1) (get_or after k d)) (sym e)
          (subst (IsCount (name_at names last) (lasts ++ ending ∷ []) (done ++ s ∷ []) [] 0 (stamp + 1)) (sym now)
          (count-done (name_at names last) lasts done ending s stamp count (with_own s.weight count) (are.each last none within) weighs (omega (arith, ap (λ b. cond b s.weight 0) hit)) refl refl))

      beside : (i : ℕ) (d : Count) → i < length names → (i ≡ last → ⊥) → IsCount (name_at names i) (lasts ++ ending ∷ []) (done ++ s ∷ []) [] 0 (stamp + 1) (get_or after i d)
      beside i d lt ne =
          let now : get_or after i d ≡ get_or counts i d = ap (λ (all : List Count). get_or all i d) put ∙ get_or-set_other counts last i _ d ne in
          let miss : ends (name_at names i) ending.stack ≡ false = read (name_at names i) ∙ apart names rising i last lt within ne in
          subst (IsCount (name_at names i) (lasts ++ ending ∷ []) (done ++ s ∷ []) [] 0 (stamp + 1)) (sym now)
          (count-done (name_at names i) lasts done ending s stamp (get_or counts i d) (get_or counts i d) (are.each i d lt) weighs (omega (arith, ap (λ b. cond b s.weight 0) miss)) refl refl)

-- a stack ends in the name of its last rank, where it has one
pub ended_by : (names : List (List ℕ)) (ranks : List ℕ) (name : List ℕ) → ends name (map (name_at names) ranks) ≡ ended names (slice_get ranks (length ranks - 1)) name
ended_by names [] name = refl
ended_by names (rank ∷ rest) name =
    let ranks = rank ∷ rest in
    let last = get_or ranks (length ranks - 1) 0 in
    let read = slice_get-get_or ranks (length ranks - 1) 0 (omega arith) in
    (λ i. lt-ltb 0 (length (map (name_at names) ranks)) (omega (arith, length-map ranks (name_at names))) i && bytes_eq name (sym (last_name names ranks last read) i)) ∙ ap (λ it. ended names it name) (sym read)

-- counts that were lent whole, with what was written to them
pub lent_back : (old new : List Count) (n : ℕ) → length old ≤ length new → length new ≤ n → take n (new ++ drop (length new) old) ≡ new
lent_back old new n all fits =
    ap (λ rest. take n (new ++ rest)) (drop_all (length new) old all) ∙ (ap (take n) (append-nil new) ∙ take_all n new fits)

-- nothing was counted yet
pub nothing_counted : (names : List (List ℕ)) (counts : List Count) → length counts ≡ length names → ((i : ℕ) (d : Count) → i < length counts → get_or counts i d ≡ none) → AreCounts names counts [] [] [] 0 1
nothing_counted names counts many is = record {
  many = many;
  each = λ i d lt. subst (IsCount (name_at names i) [] [] [] 0 1) (sym (is i d (omega (arith, lt, many)))) record {
    own = refl;
    total = refl;
    marked = λ hit. absurd (true≢false (sym hit));
    unmarked = λ _. omega arith;
  };
}

-- a stack of which no frame was counted yet
pub stack_begins : (names : List (List ℕ)) (counts : List Count) (lasts done : List Sample) (weight stamp : ℕ) → AreCounts names counts lasts done [] 0 stamp → AreCounts names counts lasts done [] weight stamp
stack_begins names counts lasts done weight stamp are = record {
  many = are.many;
  each = λ i d lt. (let k = are.each i d lt in record { own = k.own; total = k.total; marked = k.marked; unmarked = k.unmarked });
}
