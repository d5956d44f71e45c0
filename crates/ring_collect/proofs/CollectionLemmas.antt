-- What a run collected, from what its ledgers hold.
use Rattle.std.proofs.Common.{All, ◌≡◌, Bool, true, ℕ, zero, suc, ◌<◌, ◌≤◌, ◌⊎◌, inl, inr, List, [], ◌∷◌, ◌++◌, length, map, get_or, refl, sym, ap, subst, ◌∙◌, arith, Some, None, slice_get, Result, Ok, Err}
use Rattle.std.proofs.lemmas.List.{length-map}
use Rattle.std.proofs.lemmas.Option.{slice_get_within, get_or_from_slice_get, same_Some}
use Rattle.std.proofs.lemmas.Result.{IfOk-weaker}
use Rattle.std.specs.Result.{IfOk, IsErrAnd, IsErrOf}
use Rattle.stack_core.specs.Reading.{Rest}
use Rattle.stack_core.specs.Ledgers.{LedgerState, ListState}
use Rattle.stack_core.specs.Told.{IsCollected, told}
use Rattle.stack_core.proofs.ToldLemmas.{told_under-IsCollected, collected_whole}
use Rattle.stack_core.specs.Interleaving.{AreOf, IsInterleaving, interleaved, list_of, sources_of}
use Rattle.stack_core.proofs.InterleavingLemmas.{AreOf-IsInterleaving, AreOf-interleaved}
use Rattle.sample_tables.specs.declared.samples.Sample.{Sample}
use Rattle.stack_core.specs.declared.endings.Close.TheVariants.{Read}
use Rattle.call_tree.specs.FrameTable.{HasDistinctNames}
use Rattle.ring_collect.specs.NamesInOrder.{names_in_order}
use Rattle.ring_collect.specs.checked.Settlement.{IsAllTold, AreListsOf}
use Rattle.ring_collect.specs.checked.WholeRuns.{HandsOut, RunsWhole}
use Rattle.ring_collect.specs.Collection.{Answers, Collects, CollectsRun, AreWhole, GainsAllowed, GainsFirst, GiveSuch, seen_as_rest}
use Rattle.ring_collect.specs.declared.faults.CollectFault.{CollectFault}
use Rattle.ring_collect.specs.declared.faults.CollectFault.TheVariants.{OutOfMemory, NoThread, Unfinished}
use Rattle.ring_collect.proofs.Outcomes.{error_said}
use Rattle.ring_collect.proofs.RoundLemmas.{slice_get_map}
use Rattle.ring_collect.proofs.NameOrder.{names_in_order-distinct}
use Rattle.ring_collect.proofs.RunLemmas.{at_index, past_the_end}

-- lists are equal where they are as long and equal at each index
pub same_by_index : {A : Type 0} (xs ys : List A) → length xs ≡ length ys → ((i : ℕ) (d : A) → i < length xs → get_or xs i d ≡ get_or ys i d) → xs ≡ ys
same_by_index [] [] e same = refl
same_by_index [] (y ∷ ys) e same = absurd (omega (arith, e))
same_by_index (x ∷ xs) [] e same = absurd (omega (arith, e))
same_by_index (x ∷ xs) (y ∷ ys) e same =
    ap (λ z. z ∷ xs) (same 0 x (omega arith)) ∙ ap (λ zs. y ∷ zs) (same_by_index xs ys (omega (arith, e)) (λ i d below. same (suc i) d (omega (arith, below))))

mapped_at : {A B : Type 0} (f : A → B) (xs : List A) (i : ℕ) (x : A) (d : B) → slice_get xs i ≡ Some x → get_or (map f xs) i d ≡ f x
mapped_at f xs i x d is = get_or_from_slice_get (map f xs) i (f x) d (slice_get_map f xs i x is)

below_or_past : (m n : ℕ) → (m < n) ⊎ (n ≤ m)
below_or_past m n = grind arith

module _ {keeps : Bool} {may_stop may_go : ℕ → ℕ → Type 0} {rests : List Rest} {ledgers : List LedgerState} {order : List ℕ} {taken taken' : List (ℕ × Sample)} (runs : RunsWhole keeps may_stop may_go rests ledgers order taken taken') where
  all_told : (source : ℕ) (ledger : LedgerState) → slice_get ledgers source ≡ Some ledger → (rest : Rest) × (slice_get rests source ≡ Some rest) × IsAllTold keeps may_stop may_go source rest (list_of runs.lists source) ledger
  all_told source ledger is =
      let below = slice_get_within ledgers source ledger is in
      let count = runs.count in
      let rest = at_index rests source (omega arith) in
      (rest.0, rest.1, runs.each source rest.0 ledger rest.1 is)

  -- where samples are kept, the lists that the ledgers hand out have them
  same_lists : {lists : List ListState} → keeps ≡ true → AreListsOf ledgers lists → (source : ℕ) → list_of runs.lists source ≡ list_of (map (λ list. list.samples) lists) source
  same_lists {lists} kept are source = elim (below_or_past source (length ledgers)) [
    | inl below ↦
        let ledger = at_index ledgers source below in
        let one = all_told source ledger.0 ledger.1 in
        sym (one.2.samples kept) ∙ sym (mapped_at (λ ledger. ledger.samples) ledgers source ledger.0 [] ledger.1) ∙ ap (λ ls. list_of ls source) (sym are.samples)
    | inr past ↦
        let listed = runs.all_listed in
        let lengths = sym (length-map lists (λ list. list.samples)) ∙ ap length are.samples ∙ length-map ledgers (λ ledger. ledger.samples) in
        let mapped = length-map lists (λ list. list.samples) in
        past_the_end runs.lists source (omega arith) ∙ sym (past_the_end (map (λ list. list.samples) lists) source (omega arith))
  ]

-- lists that have the samples of the sources, and are told and closed as the ledgers are
module _ {keeps : Bool} {may_stop may_go : ℕ → ℕ → Type 0} {rests : List Rest} {ledgers : List LedgerState} {order : List ℕ} {taken taken' : List (ℕ × Sample)} (runs : RunsWhole keeps may_stop may_go rests ledgers order taken taken')
    (lists : List ListState) (arrival : List ℕ) (same_samples : (source : ℕ) → list_of runs.lists source ≡ list_of (map (λ list. list.samples) lists) source) (ordered : arrival ≡ sources_of runs.pairs)
    (closes : map (λ list. Some (Read list.ending)) lists ≡ map (λ ledger. ledger.close) ledgers) (names : map (λ list. list.told) lists ≡ map (λ ledger. ledger.told) ledgers) where
  are_of : AreOf runs.pairs (map (λ list. list.samples) lists)
  are_of = record { by_source = λ source. runs.of_lists.by_source source ∙ same_samples source }

  in_order : IsInterleaving arrival (map (λ list. list.samples) lists)
  in_order = subst (λ o. IsInterleaving o (map (λ list. list.samples) lists)) (sym ordered) (AreOf-IsInterleaving runs.pairs (map (λ list. list.samples) lists) are_of)

  pairs_are : interleaved arrival (map (λ list. list.samples) lists) ≡ runs.pairs
  pairs_are = ap (λ o. interleaved o (map (λ list. list.samples) lists)) ordered ∙ AreOf-interleaved runs.pairs (map (λ list. list.samples) lists) are_of

  gains_all : taken' ≡ taken ++ interleaved arrival (map (λ list. list.samples) lists)
  gains_all = runs.gained ∙ ap (λ pairs. taken ++ pairs) (sym pairs_are)

  of_each_source : AreOf (interleaved arrival (map (λ list. list.samples) lists)) (map (λ list. list.samples) lists)
  of_each_source = subst (λ pairs. AreOf pairs (map (λ list. list.samples) lists)) (sym pairs_are) are_of

  as_many : length lists ≡ length rests
  as_many = sym (length-map lists (λ list. list.told)) ∙ ap length names ∙ length-map ledgers (λ ledger. ledger.told) ∙ runs.count

  collected : (source : ℕ) (rest : Rest) (list : ListState) → slice_get rests source ≡ Some rest → slice_get lists source ≡ Some list → IsCollected may_stop may_go source rest (seen_as_rest list)
  collected source rest list is_rest is_list =
      let below = slice_get_within lists source list is_list in
      let many = as_many in
      let count = runs.count in
      let ledger = at_index ledgers source (omega arith) in
      let one = runs.each source rest ledger.0 is_rest ledger.1 in
      let samples = list_of runs.lists source in
      let same = same_samples source ∙ mapped_at (λ list. list.samples) lists source list [] is_list in
      let close = sym (mapped_at (λ list. Some (Read list.ending)) lists source list None is_list) ∙ ap (λ cs. get_or cs source None) closes ∙ mapped_at (λ ledger. ledger.close) ledgers source ledger.0 None ledger.1 ∙ one.closed in
      let last = same_Some (Read list.ending) one.last close in
      told_under-IsCollected may_stop may_go source rest (seen_as_rest list) (told samples one.last) one.is_told (ap (λ xs. told xs one.last) same ∙ ap (told list.samples) (sym last))

  collects : Collects may_stop may_go rests lists
  collects = record { count = as_many; each = collected }

  list_told : (source : ℕ) (list : ListState) → slice_get lists source ≡ Some list → list.told ≡ names_in_order list.samples
  list_told source list is =
      let below = slice_get_within lists source list is in
      let many = as_many in
      let count = runs.count in
      let ledger = at_index ledgers source (omega arith) in
      let one = (all_told runs source ledger.0 ledger.1).2 in
      let samples = list_of runs.lists source in
      let same = same_samples source ∙ mapped_at (λ list. list.samples) lists source list [] is in
      let close = sym (mapped_at (λ list. Some (Read list.ending)) lists source list None is) ∙ ap (λ cs. get_or cs source None) closes ∙ mapped_at (λ ledger. ledger.close) ledgers source ledger.0 None ledger.1 ∙ one.closed in
      let last = same_Some (Read list.ending) one.last close in
      sym (mapped_at (λ list. list.told) lists source list [] is) ∙ ap (λ ns. get_or ns source []) names ∙ mapped_at (λ ledger. ledger.told) ledgers source ledger.0 [] ledger.1
      ∙ one.in_order samples list.ending (ap (told samples) (sym last)) ∙ ap names_in_order same

  told_in_order : All (λ list. list.told ≡ names_in_order list.samples) lists
  told_in_order = λ source d below.
      let list = at_index lists source below in
      subst (λ list. list.told ≡ names_in_order list.samples) (sym (get_or_from_slice_get lists source list.0 d list.1)) (list_told source list.0 list.1)

  told_distinct : All (λ list. HasDistinctNames list.told) lists
  told_distinct = λ source d below. subst HasDistinctNames (sym (told_in_order source d below)) (names_in_order-distinct (get_or lists source d).samples)

  are_whole : ((source index : ℕ) → may_stop source index → ⊥) → AreWhole rests lists
  are_whole never = same_by_index (map seen_as_rest lists) rests (length-map lists seen_as_rest ∙ as_many) at
    where
      at : (i : ℕ) (d : Rest) → i < length (map seen_as_rest lists) → get_or (map seen_as_rest lists) i d ≡ get_or rests i d
      at i d below =
          let mapped = length-map lists seen_as_rest in
          let many = as_many in
          let list = at_index lists i (omega arith) in
          let rest = at_index rests i (omega arith) in
          mapped_at seen_as_rest lists i list.0 d list.1 ∙ collected_whole may_stop may_go i rest.0 (seen_as_rest list.0) (never i) (collected i rest.0 list.0 rest.1 list.1) ∙ sym (get_or_from_slice_get rests i rest.0 d rest.1)

  collects_run : CollectsRun may_stop may_go rests taken taken' lists arrival
  collects_run = record {
    lists = collects;
    whole = are_whole;
    told = told_in_order;
    distinct = told_distinct;
    order = in_order;
    sink = gains_all;
    by_source = of_each_source;
  }

-- lists with samples put into them
abbrev with_samples : (ℕ → List Sample) → List ListState → List ListState
with_samples samples_of [] = []
with_samples samples_of (list ∷ lists) = record list { samples = samples_of 0 } ∷ with_samples (λ source. samples_of (suc source)) lists

-- that changes nothing else
same_but_samples : {A : Type 0} (f : ListState → A) → ((list : ListState) (samples : List Sample) → f (record list { samples = samples }) ≡ f list) → (samples_of : ℕ → List Sample) (lists : List ListState)
    → map f (with_samples samples_of lists) ≡ map f lists
same_but_samples f same samples_of [] = refl
same_but_samples f same samples_of (list ∷ lists) =
    ap (λ one. one ∷ map f (with_samples (λ source. samples_of (suc source)) lists)) (same list (samples_of 0)) ∙ ap (λ more. f list ∷ more) (same_but_samples f same (λ source. samples_of (suc source)) lists)

samples_put : (samples_of : ℕ → List Sample) (lists : List ListState) → ((source : ℕ) → length lists ≤ source → samples_of source ≡ []) → (source : ℕ)
    → samples_of source ≡ list_of (map (λ list. list.samples) (with_samples samples_of lists)) source
samples_put samples_of [] past source = past source (omega arith)
samples_put samples_of (list ∷ lists) past zero = refl
samples_put samples_of (list ∷ lists) past (suc source) = samples_put (λ source. samples_of (suc source)) lists (λ source beyond. past (suc source) (omega (arith, beyond))) source

-- what a run hands out: where samples are not kept there are lists with them still
pub hands_out : {keeps : Bool} {may_stop may_go : ℕ → ℕ → Type 0} {rests : List Rest} {ledgers : List LedgerState} {order : List ℕ} {taken taken' : List (ℕ × Sample)} {lists : List ListState}
    → RunsWhole keeps may_stop may_go rests ledgers order taken taken' → AreListsOf ledgers lists → GainsFirst rests taken taken' → GainsAllowed may_go taken taken'
    → HandsOut keeps may_stop may_go rests taken taken' lists order
hands_out {ledgers = ledgers} {order = order} {lists = lists} runs are first allowed = record {
  kept = λ kept. collects_run runs lists order (same_lists runs kept are) (runs.ordered kept) are.closes are.names;
  fed = record {
    found = found;
    arrival = sources_of runs.pairs;
    collects = collects_run runs found (sources_of runs.pairs) (samples_put (list_of runs.lists) lists past) refl
        (same_but_samples (λ list. Some (Read list.ending)) (λ list samples. refl) (list_of runs.lists) lists ∙ are.closes) (same_but_samples (λ list. list.told) (λ list samples. refl) (list_of runs.lists) lists ∙ are.names);
    ends = sym (same_but_samples (λ list. list.ending) (λ list samples. refl) (list_of runs.lists) lists);
  };
  first = first;
  allowed = allowed;
}
  where
    found : List ListState
    found = with_samples (list_of runs.lists) lists

    past : (source : ℕ) → length lists ≤ source → list_of runs.lists source ≡ []
    past source beyond =
        let listed = runs.all_listed in
        let lengths = sym (length-map lists (λ list. list.told)) ∙ ap length are.names ∙ length-map ledgers (λ ledger. ledger.told) in
        past_the_end runs.lists source (omega arith)

-- where no source is unfinished, a run answers so for the rests that were given, and of which the sink gained the first samples
pub answers_so : {R Run : Type 0} {gives : R → Rest → Type 0} {readers : List R} {Gains : List Rest → Type 0} {Holds : List Rest → Run → Type 0} {may_go : ℕ → ℕ → Type 0} {taken taken' : List (ℕ × Sample)} {answer : Result Run CollectFault}
    (given : GiveSuch gives readers Gains) → GainsFirst given.rests taken taken' → GainsAllowed may_go taken taken' → IfOk answer (Holds given.rests) → ((source : ℕ) → IsErrOf answer (Unfinished source) → ⊥)
    → GiveSuch gives readers (λ rests. Answers (Holds rests) may_go rests taken taken' answer)
answers_so given first allowed holds finished = record {
  rests = given.rests;
  are_given = given.are_given;
  holds = record { run = holds; refused = λ _. first; popped = λ _. allowed; unfinished = λ source fault. absurd (finished source fault) };
}

-- what holds of an answer on Ok may be less
pub answers_less : {Run : Type 0} {Holds Holds' : Run → Type 0} {may_go : ℕ → ℕ → Type 0} {rests : List Rest} {taken taken' : List (ℕ × Sample)} {answer : Result Run CollectFault} → ((run : Run) → Holds run → Holds' run)
    → Answers Holds may_go rests taken taken' answer → Answers Holds' may_go rests taken taken' answer
answers_less {Holds = Holds} {Holds'} {answer = answer} less answers = record { run = IfOk-weaker answer Holds Holds' less answers.run; refused = answers.refused; popped = answers.popped; unfinished = answers.unfinished }

-- a fault says the same of any answer
as_other : {Run Run' : Type 0} (fault error : CollectFault) → (let answer : Result Run' CollectFault = Err fault in IsErrOf answer error) → (let answer : Result Run CollectFault = Err fault in IsErrOf answer error)
as_other fault error is = ap Err (error_said (λ other. fault ≡ other) (Err fault) error refl is)

-- so what is answered of it does
pub same_fault : {Run Run' : Type 0} {Holds : Run → Type 0} {Holds' : Run' → Type 0} {may_go : ℕ → ℕ → Type 0} {rests : List Rest} {taken taken' : List (ℕ × Sample)} (fault : CollectFault) (answer : Result Run' CollectFault)
    → IsErrAnd answer (λ error. error ≡ fault) → Answers Holds may_go rests taken taken' (Err fault) → Answers Holds' may_go rests taken taken' answer
same_fault fault (Ok run) said answers = absurd said
same_fault {Run} {Run'} {Holds' = Holds'} {may_go} {rests} {taken} {taken'} fault (Err error) said answers =
    subst (λ error. Answers Holds' may_go rests taken taken' (Err error)) (sym said) (record {
      run = tt;
      refused = λ is. answers.refused (either is);
      popped = λ is. answers.popped (either is);
      unfinished = λ source is. answers.unfinished source (as_other fault (Unfinished source) is);
    })
  where
    either : (let answer : Result Run' CollectFault = Err fault in IsErrOf answer OutOfMemory ⊎ IsErrOf answer NoThread) → (let answer : Result Run CollectFault = Err fault in IsErrOf answer OutOfMemory ⊎ IsErrOf answer NoThread)
    either (inl is) = inl (as_other fault OutOfMemory is)
    either (inr is) = inr (as_other fault NoThread is)
