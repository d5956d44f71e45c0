-- A run, from its start to what was settled.
use Rattle.std.proofs.Common.{All, ◌≡◌, ◌≢◌, ℕ, zero, suc, ◌<◌, ◌≤◌, ◌⊎◌, inl, inr, Bool, false, List, [], ◌∷◌, ◌++◌, length, map, get_or, refl, sym, ap, subst, ◌∙◌, arith, append-nil, Option, Some, None, slice_get, Result, Ok, Err, IsOk, OnOk, true≢false}
use Rattle.std.specs.List.{AllByRecursion}
use Rattle.std.proofs.lemmas.List.{length-map}
use Rattle.std.proofs.lemmas.List.Elements.{All-from_recursion}
use Rattle.std.proofs.lemmas.Option.{slice_get_cases, slice_get_within, same_Some}
use Rattle.stack_core.specs.Reading.{Rest}
use Rattle.stack_core.specs.RowReading.{GivesSome, GivesSuch}
use Rattle.stack_core.specs.Ledgers.{LedgerState}
use Rattle.stack_core.specs.Told.{GoesBelow, told as told_items}
use Rattle.stack_core.proofs.ToldLemmas.{told_under-IsCollected}
use Rattle.stack_core.specs.Interleaving.{list_of, of_source}
use Rattle.stack_core.specs.Prefixes.{IsPrefixOf}
use Rattle.stack_core.proofs.InterleavingLemmas.{of_source-append, of_source_at, of_source_past}
use Rattle.sample_tables.specs.declared.samples.Sample.{Sample}
use Rattle.ring_collect.specs.checked.Batches.{records_of_all}
use Rattle.ring_collect.specs.checked.Intakes.{Tracked, Tracks}
use Rattle.ring_collect.specs.checked.Rounds.{HasGained}
use Rattle.stack_core.specs.declared.endings.Close.{Close}
use Rattle.stack_core.specs.declared.endings.Close.TheVariants.{Read, NoMemory}
use Rattle.stack_core.specs.declared.endings.SourceEnd.{SourceEnd}
use Rattle.ring_collect.specs.checked.RunningSources.{ArePromised, IsFresh, AreFresh}
use Rattle.ring_collect.specs.checked.Settlement.{IsSettledAs, IsAllTold, AreSettled}
use Rattle.ring_collect.specs.Collection.{EndOfSource, GainsAllowed, GainsFirst, GainsOf, HearsAll, HearsEnd, HearsFirst, HearsSome, Unfinishes}
use Rattle.ring_collect.specs.checked.Ends.{HasHeard, HearsCloses, Held, ends_by}
use Rattle.ring_collect.specs.checked.WholeRuns.{RunsWhole, IsUnfinished}
use Rattle.std.specs.Result.{IsErrAnd, IsErrOf}
use Rattle.ring_collect.specs.declared.faults.CollectFault.{CollectFault}
use Rattle.ring_collect.specs.declared.faults.CollectFault.TheVariants.{OutOfMemory, NoThread, Unfinished}
use Rattle.ring_collect.proofs.GivenRests.{Chosen, choose, given_count, one_of_all}
use Rattle.ring_collect.proofs.Outcomes.{error_said}
use Rattle.ring_collect.proofs.RoundLemmas.{open_ends, slice_get_map}
use Rattle.ring_collect.specs.declared.intakes.Intake.{Intake}
use Rattle.ring_collect.specs.declared.intakes.Stage.{Stage}
use Rattle.ring_collect.specs.declared.intakes.Stage.TheVariants.{Taking, Dropping, Unnamed}
use Rattle.ring_collect.specs.declared.running_sources.RunningSource.{RunningSource}

taking≢dropping : Taking ≢ Dropping
taking≢dropping e = cc

taking≢unnamed : Taking ≢ Unnamed
taking≢unnamed e = cc

-- what is neither dropped nor unnamed is taken
is_taking : (stage : Stage) → stage ≢ Dropping → stage ≢ Unnamed → stage ≡ Taking
is_taking Taking a b = refl
is_taking Dropping a b = absurd (a refl)
is_taking Unnamed a b = absurd (b refl)

no_lists : {A B : Type 0} (xs : List A) (i : ℕ) → get_or (map (λ _. let none : List B = [] in none) xs) i [] ≡ []
no_lists [] i = refl
no_lists (x ∷ xs) zero = refl
no_lists (x ∷ xs) (suc i) = no_lists xs i

nothing_tracked : {keeps : Bool} → Tracked keeps [] None (record { samples = []; close = None; told = []; rows = []; stacks = []; entries = [] }) Taking []
nothing_tracked = record {
  samples = [];
  stands = refl;
  first = ([], refl);
  holds = λ _. record { is_open = refl; told = refl; kept = refl; ledger_samples = λ _. refl; all_taken = refl; well_told = tt };
  unnamed = λ e. absurd (taking≢unnamed e);
}

fresh_tracked : {keeps : Bool} {source : ℕ} (intake : Intake) → IsFresh keeps source intake → Tracks intake []
fresh_tracked intake fresh =
    subst (λ batches. Tracked intake.origin.keeps (records_of_all batches) intake.close intake.ledger intake.stage []) (sym fresh.received_nothing)
    (subst (λ close. Tracked intake.origin.keeps [] close intake.ledger intake.stage []) (sym fresh.close)
    (subst (λ ledger. Tracked intake.origin.keeps [] None ledger intake.stage []) (sym fresh.ledger)
    (subst (λ stage. Tracked intake.origin.keeps [] None (record { samples = []; close = None; told = []; rows = []; stacks = []; entries = [] }) stage []) (sym fresh.stage) nothing_tracked)))

pub at_index : {A : Type 0} (xs : List A) (i : ℕ) → i < length xs → (x : A) × (slice_get xs i ≡ Some x)
at_index xs i below = elim (slice_get_cases xs i).1 [ inl here ↦ (here.0, here.2) | inr past ↦ let h = past.0 in absurd (omega arith) ]

-- before the first record nothing is gained
fresh_gained : (keeps : Bool) (start : Held) (intakes : List Intake) (refused : Bool) → AreFresh keeps intakes → HasGained keeps start intakes start [] refused
fresh_gained keeps start intakes refused fresh = record {
  lists = map (λ _. []) intakes;
  pairs = [];
  all_listed = length-map intakes (λ _. []);
  gained = sym (append-nil start.taken);
  of_lists = record { by_source = λ source. sym (no_lists intakes source) };
  ordered = λ _ _. refl;
  each = λ source intake is.
      let one = fresh.each source intake is in
      record { number = one.number; kept = one.kept; tracks = subst (Tracks intake) (sym (no_lists intakes source)) (fresh_tracked intake one) };
  going = λ e source intake is dropping. taking≢dropping (sym (fresh.each source intake is).stage ∙ dropping);
  heard = λ few. record {
    pairs = [];
    gained = sym (append-nil start.heard);
    each = λ source intake is. sym (ap (λ close. ends_by intake.stage close (length (of_source source start.taken))) (fresh.each source intake is).close ∙ open_ends intake.stage (length (of_source source start.taken)));
    no_other = λ source past. refl;
  };
}

-- so with an order that has nothing yet
pub nothing_gained : (keeps : Bool) (start : Held) (intakes : List Intake) (order : List ℕ) (refused : Bool) → order ≡ [] → AreFresh keeps intakes → HasGained keeps start intakes start order refused
nothing_gained keeps start intakes order refused none fresh = subst (λ order. HasGained keeps start intakes start order refused) (sym none) (fresh_gained keeps start intakes refused fresh)

pub map_twice : {A B C : Type 0} (f : A → B) (g : B → C) (xs : List A) → map g (map f xs) ≡ map (λ x. g (f x)) xs
map_twice f g [] = refl
map_twice f g (x ∷ xs) = ap (λ ys. g (f x) ∷ ys) (map_twice f g xs)

-- the same handles have the same promises
same_promises : {A B C : Type 0} (f : A → B) (g : B → C) (xs ys : List A) → map f xs ≡ map f ys → map (λ x. g (f x)) xs ≡ map (λ x. g (f x)) ys
same_promises f g xs ys same = sym (map_twice f g xs) ∙ ap (map g) same ∙ map_twice f g ys

pub still_promised : {R G : Type 0} {gate : G} {readers : List R} (old new : List (RunningSource R G)) → map (λ running. running.handle) new ≡ map (λ running. running.handle) old
    → ArePromised gate readers (map (λ running. running.handle.promise) old) → ArePromised gate readers (map (λ running. running.handle.promise) new)
still_promised {gate = gate} {readers} old new same = subst (ArePromised gate readers) (sym (same_promises (λ s. s.handle) (λ h. h.promise) new old same))

pub as_many : {R G : Type 0} (old new : List (RunningSource R G)) → map (λ running. running.handle) new ≡ map (λ running. running.handle) old → length new ≡ length old
as_many old new same = sym (length-map new (λ s. s.handle)) ∙ ap length same ∙ length-map old (λ s. s.handle)

pub past_the_end : {A : Type 0} (xs : List (List A)) (i : ℕ) → length xs ≤ i → get_or xs i [] ≡ []
past_the_end [] i past = refl
past_the_end (x ∷ xs) zero past = absurd (omega arith)
past_the_end (x ∷ xs) (suc i) past = past_the_end xs i (omega arith)

-- where no source from n on has an item, the sources are below n
sources_below : (n : ℕ) (pairs : List (ℕ × Sample)) → ((source : ℕ) → n ≤ source → of_source source pairs ≡ []) → AllByRecursion (λ pair. pair.0 < n) pairs
sources_below n [] none = tt
sources_below n ((s, x) ∷ pairs) none = (is_below, sources_below n pairs (λ source past. sym (of_source_past source s x pairs (apart source past)) ∙ none source past))
  where
    some≢none : x ∷ of_source s pairs ≢ []
    some≢none e = cc

    below_or_past : (s < n) ⊎ (n ≤ s)
    below_or_past = grind arith

    is_below : s < n
    is_below = elim below_or_past [ inl below ↦ below | inr past ↦ absurd (some≢none (sym (of_source_at s s x pairs refl) ∙ none s past)) ]

    apart : (source : ℕ) → n ≤ source → s ≢ source
    apart source past e = let b = is_below in omega arith

gains_of : {keeps : Bool} {start now : Held} {intakes : List Intake} {order : List ℕ} {refused : Bool} (n : ℕ) → length intakes ≤ n → HasGained keeps start intakes now order refused → GainsOf n start.taken now.taken
gains_of n few has_gained = record {
  pairs = has_gained.pairs;
  gained = has_gained.gained;
  sources = All-from_recursion (λ pair. pair.0 < n) has_gained.pairs (sources_below n has_gained.pairs (λ source past.
      has_gained.of_lists.by_source source ∙ past_the_end has_gained.lists source (let e = has_gained.all_listed in omega arith)));
}

pub unfinishes : {keeps : Bool} {R G : Type 0} {gate : G} {readers : List R} (all : List (RunningSource R G)) {start now : Held} {order : List ℕ} {refused : Bool} (source : ℕ)
    → ArePromised gate readers (map (λ running. running.handle.promise) all) → HasGained keeps start (map (λ running. running.intake) all) now order refused
    → source < length all → Unfinishes (length readers) source start.taken now.taken
unfinishes {readers = readers} all source promised gained below = record {
  below = let n = no_more in omega arith;
  gains = gains_of (length readers) (let n = no_more in let e = length-map all (λ s. s.intake) in omega arith) gained;
}
  where
    no_more : length all ≤ length readers
    no_more = let n = promised.no_more in let e = length-map all (λ s. s.handle.promise) in omega arith

few_ends : (stage : Stage) (close : Option Close) (count : ℕ) → length (ends_by stage close count) ≤ 1
few_ends Taking None count = omega arith
few_ends Taking (Some (Read ending)) count = omega arith
few_ends Taking (Some NoMemory) count = omega arith
few_ends Dropping close count = omega arith
few_ends Unnamed close count = omega arith

-- of each source an end was heard at most once
pub hears_some : {start heard : List (ℕ × EndOfSource)} {intakes : List Intake} {taken : List (ℕ × Sample)} (count : ℕ) → length intakes ≤ count → HasHeard start intakes taken heard → HearsSome count start heard
hears_some {intakes = intakes} {taken} count few has_heard = record {
  pairs = has_heard.pairs;
  gained = has_heard.gained;
  once = once;
  no_other = λ source past. has_heard.no_other source (omega arith);
}
  where
    once : (source : ℕ) → length (of_source source has_heard.pairs) ≤ 1
    once source = elim (slice_get_cases intakes source).1 [
      | inl here ↦ subst (λ ends. length ends ≤ 1) (sym (has_heard.each source here.0 here.2)) (few_ends here.0.stage here.0.close (length (of_source source taken)))
      | inr past ↦ subst (λ (ends : List EndOfSource). length ends ≤ 1) (sym (has_heard.no_other source past.0)) (omega arith)
    ]

-- and of each that was closed by an ending that one
pub hears_all : {start heard : List (ℕ × EndOfSource)} {taken : List (ℕ × Sample)} (closes : List (Option Close)) (endings : List SourceEnd) → map (λ ending. Some (Read ending)) endings ≡ closes
    → HearsCloses start closes taken heard → HearsAll taken endings start heard
hears_all {taken = taken} closes endings same hears = record {
  pairs = hears.pairs;
  gained = hears.gained;
  each = λ source ending is. hears.each source (Some (Read ending)) (ap (λ closes. slice_get closes source) (sym same) ∙ slice_get_map (λ ending. Some (Read ending)) endings source ending is);
  no_other = λ source past. hears.no_other source (let e = ap length same in let f = length-map endings (λ ending. Some (Read ending)) in omega arith);
}

pub hears_no_first : (may_stop may_go : ℕ → ℕ → Type 0) (rests : List Rest) (taken : List (ℕ × Sample)) (heard : List (ℕ × EndOfSource)) → HearsFirst may_stop may_go rests taken taken heard heard
hears_no_first may_stop may_go rests taken heard = record { pairs = []; gained = sym (append-nil heard); each = λ source rest is. inl refl; no_other = λ source past. refl }

pub hears_nothing : (count : ℕ) (heard : List (ℕ × EndOfSource)) → HearsSome count heard heard
hears_nothing count heard = record { pairs = []; gained = sym (append-nil heard); once = λ source. omega arith; no_other = λ source past. refl }

module _ {R G : Type 0} {may_stop may_go : G → ℕ → ℕ → Type 0} {gives : R → Rest → Type 0} {gate : G} {readers : List R} {all : List (RunningSource R G)} {ledgers : List LedgerState}
    {start now : Held} {order : List ℕ} {refused keeps : Bool}
    (promised : ArePromised gate readers (map (λ started. started.handle.promise) all)) (settled : AreSettled may_stop may_go gives all ledgers)
    (has_gained : HasGained keeps start (map (λ started. started.intake) all) now order refused) where
  abbrev IsRestOf : ℕ → RunningSource R G → LedgerState → Rest → Type 0
  IsRestOf source started ledger rest = IsSettledAs keeps (may_stop gate) (may_go gate) source rest started.intake.stage (list_of has_gained.lists source) ledger

  source_settled : (source : ℕ) (started : RunningSource R G) (ledger : LedgerState) (reader : R) → slice_get all source ≡ Some started → slice_get ledgers source ≡ Some ledger → slice_get readers source ≡ Some reader
      → GivesSuch (gives reader) (IsRestOf source started ledger)
  source_settled source started ledger reader is_started is_ledger is_reader =
      let promise = promised.each source started.handle.promise reader (slice_get_map (λ s. s.handle.promise) all source started is_started) is_reader in
      let at = has_gained.each source started.intake (slice_get_map (λ s. s.intake) all source started is_started) in
      let list = list_of has_gained.lists source in
      let stage = started.intake.stage in
      let kept = started.intake.origin.keeps in
      let as_promised = settled.each source started ledger is_started is_ledger in
      let rest = as_promised.rest in
      record {
        rest = rest;
        is_given = subst (λ r. gives r rest) promise.reader_is as_promised.is_given;
        holds = subst (λ k. IsSettledAs k (may_stop gate) (may_go gate) source rest stage list ledger) at.kept
            (subst (λ s. IsSettledAs kept (may_stop gate) (may_go gate) s rest stage list ledger) promise.source_is
            (subst (λ w. IsSettledAs kept (may_stop w) (may_go w) started.handle.promise.source rest stage list ledger) promise.gate_is (as_promised.holds list at.tracks)));
      }

  -- of each that was started there is a ledger
  ledger_at : (source : ℕ) → source < length all → (ledger : LedgerState) × (slice_get ledgers source ≡ Some ledger)
  ledger_at source below = let count = settled.count in at_index ledgers source (omega arith)

  -- and a reader
  reader_at : (source : ℕ) → source < length all → (reader : R) × (slice_get readers source ≡ Some reader)
  reader_at source below = let no_more = promised.no_more in let as_many = length-map all (λ s. s.handle.promise) in at_index readers source (omega arith)

  -- the rest of a source that was started is the one by which it is settled
  abbrev IsRestAt : ℕ → Rest → Type 0
  IsRestAt source rest = (started : RunningSource R G) (ledger : LedgerState) → slice_get all source ≡ Some started → slice_get ledgers source ≡ Some ledger → IsRestOf source started ledger rest

  rest_at : All (λ reader. GivesSome (gives reader)) readers → (source : ℕ) (reader : R) → slice_get readers source ≡ Some reader → GivesSuch (gives reader) (IsRestAt source)
  rest_at possible source reader is_reader = elim (slice_get_cases all source).1 [
    | inl here ↦
        let ledger = ledger_at source here.1 in
        let one = source_settled source here.0 ledger.0 reader here.2 ledger.1 is_reader in
        record {
          rest = one.rest;
          is_given = one.is_given;
          holds = λ started l is_started is_l.
              subst (λ l. IsRestOf source started l one.rest) (same_Some ledger.0 l (sym ledger.1 ∙ is_l))
              (subst (λ started. IsRestOf source started ledger.0 one.rest) (same_Some here.0 started (sym here.2 ∙ is_started)) one.holds);
        }
    | inr past ↦
        let some = one_of_all (λ reader. GivesSome (gives reader)) readers possible source reader is_reader in
        record {
          rest = some.rest;
          is_given = some.is_given;
          holds = λ started l is_started is_l. let beyond = past.0 in let below = slice_get_within all source started is_started in absurd (omega arith);
        }
  ]

  -- of the others it is any
  pub rests_of : All (λ reader. GivesSome (gives reader)) readers → Chosen gives readers IsRestAt
  rests_of possible = choose gives IsRestAt readers (rest_at possible)

  all_listed : length has_gained.lists ≡ length all
  all_listed = has_gained.all_listed ∙ length-map all (λ s. s.intake)

  pub gains_first : (chosen : Chosen gives readers IsRestAt) → GainsFirst chosen.rests start.taken now.taken
  gains_first chosen = record {
    pairs = has_gained.pairs;
    lists = has_gained.lists;
    gained = has_gained.gained;
    of_lists = has_gained.of_lists;
    no_more = let n = promised.no_more in let e = all_listed in let f = length-map all (λ s. s.handle.promise) in let h = given_count gives readers chosen.rests chosen.are_given in omega arith;
    first = first;
  }
    where
      first : (source : ℕ) (r : Rest) → slice_get chosen.rests source ≡ Some r → IsPrefixOf (list_of has_gained.lists source) r.samples
      first source r is =
          elim (slice_get_cases all source).1 [
            | inl here ↦
                let ledger = ledger_at source here.1 in
                (chosen.each source r is here.0 ledger.0 here.2 ledger.1).first
            | inr past ↦
                let beyond = past.0 in
                let e = all_listed in
                let none = past_the_end has_gained.lists source (omega arith) in
                (r.samples, ap (λ front. front ++ r.samples) none)
          ]

  pub gains_allowed : GainsAllowed (may_go gate) start.taken now.taken
  gains_allowed = record {
    pairs = has_gained.pairs;
    gained = has_gained.gained;
    goes = λ source. subst (λ (samples : List Sample). GoesBelow (may_go gate) source (length samples)) (sym (has_gained.of_lists.by_source source)) (goes source);
  }
    where
      goes : (source : ℕ) → GoesBelow (may_go gate) source (length (list_of has_gained.lists source))
      goes source = elim (slice_get_cases all source).1 [
        | inl here ↦
            let ledger = ledger_at source here.1 in
            let reader = reader_at source here.1 in
            (source_settled source here.0 ledger.0 reader.0 here.2 ledger.1 reader.1).holds.goes
        | inr past ↦
            let beyond = past.0 in
            let e = all_listed in
            let none : length (list_of has_gained.lists source) ≡ 0 = ap length (past_the_end has_gained.lists source (omega arith)) in
            λ i below. absurd (omega arith)
      ]

  pub runs_whole : (chosen : Chosen gives readers IsRestAt) → refused ≡ false → length all ≡ length readers → RunsWhole keeps (may_stop gate) (may_go gate) chosen.rests ledgers order start.taken now.taken
  runs_whole chosen not_refused every = record {
    pairs = has_gained.pairs;
    lists = has_gained.lists;
    gained = has_gained.gained;
    of_lists = has_gained.of_lists;
    ordered = has_gained.ordered not_refused;
    all_listed = all_listed ∙ sym settled.count;
    count = settled.count ∙ every ∙ sym (given_count gives readers chosen.rests chosen.are_given);
    each = each;
  }
    where
      each : (source : ℕ) (r : Rest) (ledger : LedgerState) → slice_get chosen.rests source ≡ Some r → slice_get ledgers source ≡ Some ledger
          → IsAllTold keeps (may_stop gate) (may_go gate) source r (list_of has_gained.lists source) ledger
      each source r ledger is is_ledger =
          let count = settled.count in
          let below = slice_get_within ledgers source ledger is_ledger in
          let started = at_index all source (omega arith) in
          let one = chosen.each source r is started.0 ledger started.1 is_ledger in
          let going = has_gained.going not_refused source started.0.intake (slice_get_map (λ s. s.intake) all source started.0 started.1) in
          one.whole (is_taking started.0.intake.stage going one.taken_or_dropped)

  -- where nothing is dropped the sink heard of each how it was closed
  pub hears_closes : refused ≡ false → length all ≤ now.known → map (λ ledger. ledger.close) ledgers ≡ map (λ started. started.intake.close) all
      → HearsCloses start.heard (map (λ ledger. ledger.close) ledgers) now.taken now.heard
  hears_closes not_refused few same = record {
    pairs = heard.pairs;
    gained = heard.gained;
    each = each;
    no_other = λ source past. heard.no_other source (let e = length-map all (λ s. s.intake) in let f = length-map ledgers (λ ledger. ledger.close) in let count = settled.count in omega arith);
  }
    where
      heard : HasHeard start.heard (map (λ started. started.intake) all) now.taken now.heard
      heard = has_gained.heard (let e = length-map all (λ s. s.intake) in omega arith)

      each : (source : ℕ) (close : Option Close) → slice_get (map (λ ledger. ledger.close) ledgers) source ≡ Some close → of_source source heard.pairs ≡ ends_by Taking close (length (of_source source now.taken))
      each source close is =
          let count = settled.count in
          let e = length-map ledgers (λ ledger. ledger.close) in
          let below = slice_get_within (map (λ ledger. ledger.close) ledgers) source close is in
          let within : source < length all = omega arith in
          let started = at_index all source within in
          let ledger = ledger_at source within in
          let reader = reader_at source within in
          let is_intake = slice_get_map (λ s. s.intake) all source started.0 started.1 in
          let stage = is_taking started.0.intake.stage (has_gained.going not_refused source started.0.intake is_intake) (source_settled source started.0 ledger.0 reader.0 started.1 ledger.1 reader.1).holds.taken_or_dropped in
          let closed = same_Some started.0.intake.close close (sym (slice_get_map (λ s. s.intake.close) all source started.0 started.1) ∙ ap (λ closes. slice_get closes source) (sym same) ∙ is) in
          heard.each source started.0.intake is_intake ∙ (λ i. ends_by (stage i) (closed i) (length (of_source source now.taken)))

  -- whatever was dropped, it heard of no source but how it ended
  pub hears_first : (chosen : Chosen gives readers IsRestAt) → length all ≤ now.known → map (λ ledger. ledger.close) ledgers ≡ map (λ started. started.intake.close) all
      → HearsFirst (may_stop gate) (may_go gate) chosen.rests start.taken now.taken start.heard now.heard
  hears_first chosen few same = record {
    pairs = heard.pairs;
    gained = heard.gained;
    each = each;
    no_other = λ source past. heard.no_other source (let n = promised.no_more in let e = length-map all (λ s. s.intake) in let f = length-map all (λ s. s.handle.promise) in let h = given_count gives readers chosen.rests chosen.are_given in omega arith);
  }
    where
      heard : HasHeard start.heard (map (λ started. started.intake) all) now.taken now.heard
      heard = has_gained.heard (let e = length-map all (λ s. s.intake) in omega arith)

      gained : (source : ℕ) → of_source source now.taken ≡ of_source source start.taken ++ list_of has_gained.lists source
      gained source = ap (of_source source) has_gained.gained ∙ of_source-append source start.taken has_gained.pairs ∙ ap (λ more. of_source source start.taken ++ more) (has_gained.of_lists.by_source source)

      one : (source : ℕ) (r : Rest) (stage : Stage) (close : Option Close) (ledger : LedgerState) → ledger.close ≡ close
          → (stage ≡ Taking → IsAllTold keeps (may_stop gate) (may_go gate) source r (list_of has_gained.lists source) ledger)
          → of_source source heard.pairs ≡ ends_by stage close (length (of_source source now.taken)) → HearsEnd (may_stop gate) (may_go gate) source r start.taken now.taken (of_source source heard.pairs)
      one source r Taking (Some (Read ending)) ledger closed whole is =
          let told = whole refl in
          let list : Rest = record { samples = list_of has_gained.lists source; ending = ending } in
          let last = same_Some told.last (Read ending) (sym told.closed ∙ closed) in
          inr (list, told_under-IsCollected (may_stop gate) (may_go gate) source r list (told_items list.samples told.last) told.is_told (ap (told_items list.samples) last), gained source, is)
      one source r Taking (Some NoMemory) ledger closed whole is = inl is
      one source r Taking None ledger closed whole is = inl is
      one source r Dropping close ledger closed whole is = inl is
      one source r Unnamed close ledger closed whole is = inl is

      each : (source : ℕ) (r : Rest) → slice_get chosen.rests source ≡ Some r → HearsEnd (may_stop gate) (may_go gate) source r start.taken now.taken (of_source source heard.pairs)
      each source r is = elim (slice_get_cases all source).1 [
        | inl here ↦
            let ledger = ledger_at source here.1 in
            one source r here.0.intake.stage here.0.intake.close ledger.0
            (same_Some ledger.0.close here.0.intake.close (sym (slice_get_map (λ ledger. ledger.close) ledgers source ledger.0 ledger.1) ∙ ap (λ closes. slice_get closes source) same ∙ slice_get_map (λ s. s.intake.close) all source here.0 here.2))
            (chosen.each source r is here.0 ledger.0 here.2 ledger.1).whole
            (heard.each source here.0.intake (slice_get_map (λ s. s.intake) all source here.0 here.2))
        | inr past ↦ let e = length-map all (λ s. s.intake) in let beyond = past.0 in inl (heard.no_other source (omega arith))
      ]

pub where_ok : {A E P : Type 0} (result : Result A E) → IsOk result → OnOk result P → P
where_ok (Ok x) ok h = h
where_ok (Err e) ok h = absurd (true≢false (sym ok))

-- the sink gained nothing
pub gains_nothing : (rests : List Rest) (taken : List (ℕ × Sample)) → GainsFirst rests taken taken
gains_nothing rests taken = record {
  pairs = [];
  lists = [];
  gained = sym (append-nil taken);
  of_lists = record { by_source = λ source. refl };
  no_more = omega arith;
  first = λ source rest is. (rest.samples, refl);
}

-- the gate is asked of nothing that the sink did not gain
pub allows_nothing : (may_go : ℕ → ℕ → Type 0) (taken : List (ℕ × Sample)) → GainsAllowed may_go taken taken
allows_nothing may_go taken = record { pairs = []; gained = sym (append-nil taken); goes = λ source i below. absurd (omega arith) }

-- a run that is unfinished was refused nothing
pub refused_nothing : {T : Type 0} (count : ℕ) (taken taken' : List (ℕ × Sample)) (fault : CollectFault) (run : Result T CollectFault) → IsUnfinished count taken taken' fault → IsErrAnd run (λ error. error ≡ fault)
    → IsErrOf run OutOfMemory ⊎ IsErrOf run NoThread → ⊥
refused_nothing count taken taken' fault run ended said (inl is) = subst (IsUnfinished count taken taken') (sym (error_said _ run OutOfMemory said is)) ended
refused_nothing count taken taken' fault run ended said (inr is) = subst (IsUnfinished count taken taken') (sym (error_said _ run NoThread said is)) ended

-- it is a source that is
pub one_unfinished : (count : ℕ) (taken taken' : List (ℕ × Sample)) (fault : CollectFault) → IsUnfinished count taken taken' fault → (source : ℕ) × (fault ≡ Unfinished source)
one_unfinished count taken taken' OutOfMemory ended = absurd ended
one_unfinished count taken taken' NoThread ended = absurd ended
one_unfinished count taken taken' (Unfinished source) ended = (source, refl)
