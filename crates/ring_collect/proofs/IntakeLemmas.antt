-- What is tracked of a source, one record more.
use Rattle.std.proofs.Common.{◌≡◌, ◌≢◌, ℕ, Bool, true, false, List, [], ◌∷◌, ◌++◌, length, map, refl, sym, ap, subst, ◌∙◌, append-nil, append_assoc, Option, None, inl, inr, true≢false}
use Rattle.std.proofs.lemmas.List.{map-append}
use Rattle.std.proofs.lemmas.List.Elements.{recursion_from_All}
use Rattle.std.specs.List.{AllByRecursion}
use Rattle.rtrb.specs.Ring.{received}
use Rattle.stack_core.specs.Ledgers.{LedgerState}
use Rattle.stack_core.specs.Records.{stands_for, names_told, stacks_told, IsWellToldAfter}
use Rattle.stack_core.proofs.RecordLemmas.{stands_for-append, names_told-append, stacks_told-append, IsWellTold-append, IsWellTold-front, IsWellTold-back}
use Rattle.sample_tables.specs.declared.samples.Sample.{Sample}
use Rattle.stack_core.specs.declared.endings.Close.{Close}
use Rattle.stack_core.specs.declared.endings.Item.TheVariants as item
use Rattle.stack_core.specs.declared.records.RingRecord.{RingRecord}
use Rattle.stack_core.specs.declared.records.RingRecord.TheVariants.{Name, Row, Again, Close as CloseRecord}
use Rattle.ring_collect.specs.declared.intakes.Stage.TheVariants as stage
use Rattle.stack_core.specs.Interleaving.{sources_of}
use Rattle.ring_collect.specs.checked.Batches.{records_in, records_of_all, close_after_batch}
use Rattle.ring_collect.specs.checked.Records.{TakesRecord, RecordTaken, RecordRefused, RecordUnnamed, IsNamed, samples_in, ledger_after, close_after, of_one}
use Rattle.ring_collect.specs.checked.Rings.{IsGathered, IsLimitedBatch}
use Rattle.ring_collect.specs.checked.Intakes.{Brings, Tracked, Tracks, HoldsAll, GainsMore, close_items}
use Rattle.ring_collect.specs.declared.intakes.Intake.{Intake}
use Rattle.ring_collect.specs.declared.intakes.Origin.{Origin}
use Rattle.ring_collect.specs.declared.batches.Batch.{Batch}
use Rattle.ring_collect.specs.declared.batches.Batch.TheVariants.{One, Many}
use Rattle.ring_collect.specs.declared.intakes.Stage.{Stage}
use Rattle.ring_collect.specs.declared.intakes.Stage.TheVariants.{Taking, Unnamed}
use Rattle.ring_collect.proofs.BatchLemmas.{gathered_open, records_of_sent}

dropping≢taking : stage.Dropping ≢ Taking
dropping≢taking e = cc

unnamed≢taking : Unnamed ≢ Taking
unnamed≢taking e = cc

dropping≢unnamed : stage.Dropping ≢ Unnamed
dropping≢unnamed e = cc

-- one record more stands for its sample, or its close
pub stands_one : (records : List RingRecord) (samples : List Sample) (one : RingRecord) → stands_for records ≡ map item.Sample samples ++ []
    → stands_for (records ++ one ∷ []) ≡ map item.Sample (samples ++ samples_in (names_told records) (stacks_told records) one) ++ close_items (close_after None one)
stands_one records samples (Name name) stands =
    stands_for-append records (Name name ∷ []) ∙ append-nil (stands_for records) ∙ stands ∙ ap (λ xs. map item.Sample xs ++ []) (sym (append-nil samples))
stands_one records samples (Row frames weight) stands =
    stands_for-append records (Row frames weight ∷ [])
    ∙ ap (λ items. items ++ map item.Sample (samples_in (names_told records) (stacks_told records) (Row frames weight))) (stands ∙ append-nil (map item.Sample samples))
    ∙ sym (append-nil (map item.Sample (samples ++ samples_in (names_told records) (stacks_told records) (Row frames weight))) ∙ map-append item.Sample samples (samples_in (names_told records) (stacks_told records) (Row frames weight)))
stands_one records samples (Again row weight) stands =
    stands_for-append records (Again row weight ∷ [])
    ∙ ap (λ items. items ++ map item.Sample (samples_in (names_told records) (stacks_told records) (Again row weight))) (stands ∙ append-nil (map item.Sample samples))
    ∙ sym (append-nil (map item.Sample (samples ++ samples_in (names_told records) (stacks_told records) (Again row weight))) ∙ map-append item.Sample samples (samples_in (names_told records) (stacks_told records) (Again row weight)))
stands_one records samples (CloseRecord last) stands =
    stands_for-append records (CloseRecord last ∷ [])
    ∙ ap (λ items. items ++ item.Close last ∷ []) (stands ∙ append-nil (map item.Sample samples) ∙ ap (map item.Sample) (sym (append-nil samples)))

-- a record is dropped
pub tracked_dropped : {keeps : Bool} {records : List RingRecord} {ledger ledger' : LedgerState} {stage stage' : Stage} {list : List Sample} (one : RingRecord) → stage' ≢ Taking → (stage' ≡ Unnamed → stage ≡ Unnamed)
    → Tracked keeps records None ledger stage list → Tracked keeps (records ++ one ∷ []) (close_after None one) ledger' stage' list
tracked_dropped {records = records} {list = list} one other same_unnamed tracked = record {
  samples = tracked.samples ++ samples_in (names_told records) (stacks_told records) one;
  stands = stands_one records tracked.samples one tracked.stands;
  first = (tracked.first.0 ++ samples_in (names_told records) (stacks_told records) one, sym (append_assoc list tracked.first.0 (samples_in (names_told records) (stacks_told records) one)) ∙ ap (λ xs. xs ++ samples_in (names_told records) (stacks_told records) one) tracked.first.1);
  holds = λ e. absurd (other e);
  unnamed = λ e well. tracked.unnamed (same_unnamed e) (IsWellTold-front records (one ∷ []) well);
}

-- and so is a batch
pub batch_dropped : {keeps : Bool} {records : List RingRecord} {ledger ledger' : LedgerState} {stage stage' : Stage} {list : List Sample} (batch : Batch) → IsLimitedBatch batch → stage' ≢ Taking → (stage' ≡ Unnamed → stage ≡ Unnamed)
    → Tracked keeps records None ledger stage list → Tracked keeps (records ++ records_in batch) (close_after_batch None batch) ledger' stage' list
batch_dropped (One one) limited other same_unnamed tracked = tracked_dropped one other same_unnamed tracked
batch_dropped {keeps} {records} {ledger} {ledger'} {stage} {stage'} {list} (Many more) limited other same_unnamed tracked =
    by_cases records more (recursion_from_All IsGathered more limited)
    (record { samples = tracked.samples; stands = tracked.stands; first = tracked.first; holds = λ e. absurd (other e); unnamed = λ e. tracked.unnamed (same_unnamed e) })
  where
    by_cases : (before more : List RingRecord) → AllByRecursion IsGathered more → Tracked keeps before None ledger' stage' list → Tracked keeps (before ++ more) None ledger' stage' list
    by_cases before [] gathered tracked = subst (λ all. Tracked keeps all None ledger' stage' list) (sym (append-nil before)) tracked
    by_cases before (one ∷ more) gathered tracked =
        subst (λ all. Tracked keeps all None ledger' stage' list) (append_assoc before (one ∷ []) more)
        (by_cases (before ++ one ∷ []) more gathered.1
        (subst (λ close. Tracked keeps (before ++ one ∷ []) close ledger' stage' list) (gathered_open None one gathered.0) (tracked_dropped one other (λ e. e) tracked)))

module _ {keeps : Bool} {records : List RingRecord} {ledger : LedgerState} {samples list : List Sample} (holds : HoldsAll keeps records ledger samples list) (one : RingRecord) where
  same_samples_in : samples_in ledger.told ledger.stacks one ≡ samples_in (names_told records) (stacks_told records) one
  same_samples_in = ap (λ told. samples_in told ledger.stacks one) holds.told ∙ ap (λ stacks. samples_in (names_told records) stacks one) holds.kept

well_one : (names stacks : List (List ℕ)) (one : RingRecord) → IsNamed names stacks one → IsWellToldAfter (length names) (length stacks) (one ∷ [])
well_one names stacks (Name name) told = tt
well_one names stacks (Row frames weight) told = (told, tt)
well_one names stacks (Again row weight) told = (told, tt)
well_one names stacks (CloseRecord last) told = tt

one_well : (names stacks : List (List ℕ)) (one : RingRecord) → IsWellToldAfter (length names) (length stacks) (one ∷ []) → IsNamed names stacks one
one_well names stacks (Name name) well = tt
one_well names stacks (Row frames weight) well = well.0
one_well names stacks (Again row weight) well = well.0
one_well names stacks (CloseRecord last) well = tt

ledger_told : (keeps : Bool) (ledger : LedgerState) (one : RingRecord) → (ledger_after keeps ledger one).told ≡ ledger.told ++ names_told (one ∷ [])
ledger_told keeps ledger (Name name) = refl
ledger_told true ledger (Row frames weight) = sym (append-nil ledger.told)
ledger_told false ledger (Row frames weight) = sym (append-nil ledger.told)
ledger_told true ledger (Again row weight) = sym (append-nil ledger.told)
ledger_told false ledger (Again row weight) = sym (append-nil ledger.told)
ledger_told keeps ledger (CloseRecord last) = sym (append-nil ledger.told)

ledger_kept : (keeps : Bool) (ledger : LedgerState) (one : RingRecord) → (ledger_after keeps ledger one).stacks ≡ ledger.stacks ++ stacks_told (one ∷ [])
ledger_kept keeps ledger (Name name) = sym (append-nil ledger.stacks)
ledger_kept true ledger (Row frames weight) = refl
ledger_kept false ledger (Row frames weight) = refl
ledger_kept true ledger (Again row weight) = sym (append-nil ledger.stacks)
ledger_kept false ledger (Again row weight) = sym (append-nil ledger.stacks)
ledger_kept keeps ledger (CloseRecord last) = sym (append-nil ledger.stacks)

ledger_samples : (keeps : Bool) (ledger : LedgerState) (one : RingRecord) → keeps ≡ true → (ledger_after keeps ledger one).samples ≡ ledger.samples ++ samples_in ledger.told ledger.stacks one
ledger_samples keeps ledger (Name name) kept = sym (append-nil ledger.samples)
ledger_samples true ledger (Row frames weight) kept = refl
ledger_samples false ledger (Row frames weight) kept = absurd (true≢false (sym kept))
ledger_samples true ledger (Again row weight) kept = refl
ledger_samples false ledger (Again row weight) kept = absurd (true≢false (sym kept))
ledger_samples keeps ledger (CloseRecord last) kept = sym (append-nil ledger.samples)

ledger_open : (keeps : Bool) (ledger : LedgerState) (one : RingRecord) → (ledger_after keeps ledger one).close ≡ ledger.close
ledger_open keeps ledger (Name name) = refl
ledger_open true ledger (Row frames weight) = refl
ledger_open false ledger (Row frames weight) = refl
ledger_open true ledger (Again row weight) = refl
ledger_open false ledger (Again row weight) = refl
ledger_open keeps ledger (CloseRecord last) = refl

-- a record is taken
pub tracked_taken : {keeps : Bool} {records : List RingRecord} {ledger : LedgerState} {list : List Sample} (one : RingRecord) → IsNamed ledger.told ledger.stacks one
    → Tracked keeps records None ledger Taking list → Tracked keeps (records ++ one ∷ []) (close_after None one) (ledger_after keeps ledger one) Taking (list ++ samples_in ledger.told ledger.stacks one)
tracked_taken {keeps} {records} {ledger} {list} one told tracked =
    let holds = tracked.holds refl in
    let same = same_samples_in holds one in
    let all : list ++ samples_in ledger.told ledger.stacks one ≡ tracked.samples ++ samples_in (names_told records) (stacks_told records) one = ap (λ xs. xs ++ samples_in ledger.told ledger.stacks one) holds.all_taken ∙ ap (λ xs. tracked.samples ++ xs) same in
    record {
      samples = tracked.samples ++ samples_in (names_told records) (stacks_told records) one;
      stands = stands_one records tracked.samples one tracked.stands;
      first = ([], append-nil (list ++ samples_in ledger.told ledger.stacks one) ∙ all);
      holds = λ _. record {
        is_open = ledger_open keeps ledger one ∙ holds.is_open;
        told = ledger_told keeps ledger one ∙ ap (λ names. names ++ names_told (one ∷ [])) holds.told ∙ sym (names_told-append records (one ∷ []));
        kept = ledger_kept keeps ledger one ∙ ap (λ stacks. stacks ++ stacks_told (one ∷ [])) holds.kept ∙ sym (stacks_told-append records (one ∷ []));
        ledger_samples = λ kept. ledger_samples keeps ledger one kept ∙ ap (λ xs. xs ++ samples_in ledger.told ledger.stacks one) (holds.ledger_samples kept) ∙ ap (λ xs. tracked.samples ++ xs) same;
        all_taken = all;
        well_told = IsWellTold-append records (one ∷ []) holds.well_told (subst (λ stacks. IsWellToldAfter (length (names_told records)) (length stacks) (one ∷ [])) holds.kept (subst (λ names. IsWellToldAfter (length names) (length ledger.stacks) (one ∷ [])) holds.told (well_one ledger.told ledger.stacks one told)));
      };
      unnamed = λ e. absurd (unnamed≢taking (sym e));
    }

-- the sink has the sample, and there was want of memory
pub tracked_refused : {keeps : Bool} {records : List RingRecord} {ledger ledger' : LedgerState} {list : List Sample} (one : RingRecord)
    → Tracked keeps records None ledger Taking list → Tracked keeps (records ++ one ∷ []) (close_after None one) ledger' stage.Dropping (list ++ samples_in ledger.told ledger.stacks one)
tracked_refused {records = records} {ledger} {list = list} one tracked =
    let holds = tracked.holds refl in
    let all : list ++ samples_in ledger.told ledger.stacks one ≡ tracked.samples ++ samples_in (names_told records) (stacks_told records) one = ap (λ xs. xs ++ samples_in ledger.told ledger.stacks one) holds.all_taken ∙ ap (λ xs. tracked.samples ++ xs) (same_samples_in holds one) in
    record {
      samples = tracked.samples ++ samples_in (names_told records) (stacks_told records) one;
      stands = stands_one records tracked.samples one tracked.stands;
      first = ([], append-nil (list ++ samples_in ledger.told ledger.stacks one) ∙ all);
      holds = λ e. absurd (dropping≢taking e);
      unnamed = λ e. absurd (dropping≢unnamed e);
    }

-- a number had no name, or no stack
pub tracked_unnamed : {keeps : Bool} {records : List RingRecord} {ledger ledger' : LedgerState} {list : List Sample} (one : RingRecord) → (IsNamed ledger.told ledger.stacks one → ⊥)
    → Tracked keeps records None ledger Taking list → Tracked keeps (records ++ one ∷ []) (close_after None one) ledger' Unnamed list
tracked_unnamed {records = records} {ledger} {list = list} one unnamed tracked =
    let holds = tracked.holds refl in
    record {
      samples = tracked.samples ++ samples_in (names_told records) (stacks_told records) one;
      stands = stands_one records tracked.samples one tracked.stands;
      first = (tracked.first.0 ++ samples_in (names_told records) (stacks_told records) one, sym (append_assoc list tracked.first.0 (samples_in (names_told records) (stacks_told records) one)) ∙ ap (λ xs. xs ++ samples_in (names_told records) (stacks_told records) one) tracked.first.1);
      holds = λ e. absurd (unnamed≢taking e);
      unnamed = λ _ well. unnamed (subst (λ names. IsNamed names ledger.stacks one) (sym holds.told) (subst (λ stacks. IsNamed (names_told records) stacks one) (sym holds.kept) (one_well (names_told records) (stacks_told records) one (IsWellTold-back records (one ∷ []) well))));
    }

along_close : {keeps : Bool} {records : List RingRecord} {ledger : LedgerState} {stage : Stage} {list : List Sample} {close close' : Option Close} → close' ≡ close → Tracked keeps records close ledger stage list → Tracked keeps records close' ledger stage list
along_close {keeps} {records} {ledger} {stage} {list} e = subst (λ c. Tracked keeps records c ledger stage list) (sym e)

-- nothing more is taken
pub nothing_more : {origin : Origin} {tracks : List Sample → Type 0} {list : List Sample} {taken : List (ℕ × Sample)} {order : List ℕ} {went_well : Type 0}
    → tracks list → GainsMore origin tracks list taken taken order order went_well
nothing_more {tracks = tracks} {list} {taken} {order} tracked = record {
  more = [];
  tracked = subst tracks (sym (append-nil list)) tracked;
  gains = sym (append-nil taken);
  ordered = λ _ _. sym (append-nil order);
}

module _ {origin : Origin} {one : RingRecord} {records : List RingRecord} {ledger ledger' : LedgerState} {close' : Option Close} {taken taken' : List (ℕ × Sample)} {order order' : List ℕ} {list : List Sample} (tracked : Tracked origin.keeps records None ledger Taking list) where
  -- what a record brings, which was taken, or at which there was want of memory, or a number had no name or no stack
  pub takes_more : {stage' : Stage} → TakesRecord origin one ledger ledger' None close' taken taken' order order' stage'
      → GainsMore origin (Tracked origin.keeps (records ++ one ∷ []) close' ledger' stage') list taken taken' order order' (stage' ≢ stage.Dropping)
  takes_more (RecordTaken is named ledger_is close_is gains ordered) = record {
    more = samples_in ledger.told ledger.stacks one;
    tracked = subst (λ s. Tracked origin.keeps (records ++ one ∷ []) close' ledger' s (list ++ samples_in ledger.told ledger.stacks one)) (sym is)
        (along_close close_is
        (subst (λ l. Tracked origin.keeps (records ++ one ∷ []) (close_after None one) l Taking (list ++ samples_in ledger.told ledger.stacks one)) (sym ledger_is) (tracked_taken one named tracked)));
    gains = gains;
    ordered = λ _. ordered;
  }
  takes_more (RecordRefused is close_is (inl same)) = record {
    more = [];
    tracked = subst (λ s. Tracked origin.keeps (records ++ one ∷ []) close' ledger' s (list ++ [])) (sym is)
        (subst (Tracked origin.keeps (records ++ one ∷ []) close' ledger' stage.Dropping) (sym (append-nil list)) (along_close close_is (tracked_dropped one dropping≢taking (λ e. absurd (dropping≢unnamed e)) tracked)));
    gains = same ∙ sym (append-nil taken);
    ordered = λ other _. absurd (other is);
  }
  takes_more (RecordRefused is close_is (inr gains)) = record {
    more = samples_in ledger.told ledger.stacks one;
    tracked = subst (λ s. Tracked origin.keeps (records ++ one ∷ []) close' ledger' s (list ++ samples_in ledger.told ledger.stacks one)) (sym is) (along_close close_is (tracked_refused one tracked));
    gains = gains;
    ordered = λ other _. absurd (other is);
  }
  takes_more (RecordUnnamed is unnamed close_is taken_is order_is) = record {
    more = [];
    tracked = subst (λ s. Tracked origin.keeps (records ++ one ∷ []) close' ledger' s (list ++ [])) (sym is)
        (subst (Tracked origin.keeps (records ++ one ∷ []) close' ledger' Unnamed) (sym (append-nil list)) (along_close close_is (tracked_unnamed one unnamed tracked)));
    gains = taken_is ∙ sym (append-nil taken);
    ordered = λ _ _. order_is ∙ sym (append-nil order);
  }

pub more_weaker : {origin : Origin} {tracks : List Sample → Type 0} {list : List Sample} {taken taken' : List (ℕ × Sample)} {order order' : List ℕ} {well well' : Type 0}
    → (well' → well) → GainsMore origin tracks list taken taken' order order' well → GainsMore origin tracks list taken taken' order order' well'
more_weaker f gained = record { more = gained.more; tracked = gained.tracked; gains = gained.gains; ordered = λ h. gained.ordered (f h) }

-- what a record notes of the close
pub takes_close : {origin : Origin} {one : RingRecord} {ledger ledger' : LedgerState} {close close' : Option Close} {taken taken' : List (ℕ × Sample)} {order order' : List ℕ} {stage : Stage}
    → TakesRecord origin one ledger ledger' close close' taken taken' order order' stage → close' ≡ close_after close one
takes_close (RecordTaken is named ledger_is close_is gains ordered) = close_is
takes_close (RecordRefused is close_is gains) = close_is
takes_close (RecordUnnamed is unnamed close_is taken_is order_is) = close_is

-- what comes to a source that is open where records are taken
pub brings_taken : {one one' : RingRecord} {ledger' : LedgerState} {close' : Option Close} {stage' : Stage} {taken taken' : List (ℕ × Sample)} {order order' : List ℕ} (old : Intake) → one ≡ one' → old.close ≡ None → old.stage ≡ Taking
    → TakesRecord old.origin one old.ledger ledger' old.close close' taken taken' order order' stage' → (before : List RingRecord) (list : List Sample) → Tracked old.origin.keeps before None old.ledger old.stage list
    → GainsMore old.origin (Tracked old.origin.keeps (before ++ one' ∷ []) close' ledger' stage') list taken taken' order order' (stage' ≢ stage.Dropping)
brings_taken {one} {ledger' = ledger'} {close'} {stage'} {taken} {taken'} {order} {order'} old same unclosed taking takes before list tracked =
    takes_more (subst (λ stage. Tracked old.origin.keeps before None old.ledger stage list) taking tracked)
    (subst (λ one. TakesRecord old.origin one old.ledger ledger' None close' taken taken' order order' stage') same
    (subst (λ close. TakesRecord old.origin one old.ledger ledger' close close' taken taken' order order' stage') unclosed takes))

-- and where they are dropped
pub brings_dropped : {close' : Option Close} {taken : List (ℕ × Sample)} {order : List ℕ} (old : Intake) (one : RingRecord) → old.stage ≢ Taking → close' ≡ close_after None one
    → (before : List RingRecord) (list : List Sample) → Tracked old.origin.keeps before None old.ledger old.stage list
    → GainsMore old.origin (Tracked old.origin.keeps (before ++ one ∷ []) close' old.ledger old.stage) list taken taken order order (old.stage ≢ stage.Dropping)
brings_dropped {close'} old one other closes before list tracked =
    nothing_more {tracks = Tracked old.origin.keeps (before ++ one ∷ []) close' old.ledger old.stage} (along_close closes (tracked_dropped one other (λ e. e) tracked))

-- the sink has some samples more, and then some more
pub gains_on : {origin : Origin} {tracks tracks' : List Sample → Type 0} {list : List Sample} {taken taken' taken'' : List (ℕ × Sample)} {order order' order'' : List ℕ} {well well' : Type 0}
    (first : GainsMore origin tracks list taken taken' order order' well) → (well' → well) → GainsMore origin tracks' (list ++ first.more) taken' taken'' order' order'' well'
    → GainsMore origin tracks' list taken taken'' order order'' well'
gains_on {origin} {tracks' = tracks'} {list = list} {taken = taken} {order = order} first still second = record {
  more = first.more ++ second.more;
  tracked = subst tracks' (append_assoc list first.more second.more) second.tracked;
  gains = second.gains ∙ ap (λ pairs. pairs ++ of_one origin.number second.more) first.gains ∙ append_assoc taken (of_one origin.number first.more) (of_one origin.number second.more)
      ∙ ap (λ pairs. taken ++ pairs) (sym both);
  ordered = λ well kept. second.ordered well kept ∙ ap (λ sources. sources ++ sources_of (of_one origin.number second.more)) (first.ordered (still well) kept)
      ∙ append_assoc order (sources_of (of_one origin.number first.more)) (sources_of (of_one origin.number second.more))
      ∙ ap (λ sources. order ++ sources) (sym (ap sources_of both ∙ map-append (λ pair. pair.0) (of_one origin.number first.more) (of_one origin.number second.more)));
}
  where
    both : of_one origin.number (first.more ++ second.more) ≡ of_one origin.number first.more ++ of_one origin.number second.more
    both = map-append (λ sample. (origin.number, sample)) first.more second.more

-- no record brings nothing
pub brings_nothing : {taken : List (ℕ × Sample)} {order : List ℕ} (intake : Intake) → intake.close ≡ None → Brings [] intake intake taken taken order order
brings_nothing intake unclosed = λ before list tracked.
    nothing_more {tracks = Tracked intake.origin.keeps (before ++ []) intake.close intake.ledger intake.stage}
    (subst (λ records. Tracked intake.origin.keeps records intake.close intake.ledger intake.stage list) (sym (append-nil before)) (along_close unclosed tracked))

-- one record more
pub brings_on : {taken taken' taken'' : List (ℕ × Sample)} {order order' order'' : List ℕ} (old mid new : Intake) (records : List RingRecord) (one : RingRecord)
    → mid.origin ≡ old.origin → mid.close ≡ None → (mid.stage ≡ stage.Dropping → new.stage ≡ stage.Dropping)
    → Brings records old mid taken taken' order order' → Brings (one ∷ []) mid new taken' taken'' order' order'' → Brings (records ++ one ∷ []) old new taken taken'' order order''
brings_on {taken' = taken'} {taken''} {order' = order'} {order''} old mid new records one origin unclosed dropping first second = λ before list tracked.
    let gained = first before list tracked in
    let tracked_mid = subst (λ close. Tracked old.origin.keeps (before ++ records) close mid.ledger mid.stage (list ++ gained.more)) unclosed gained.tracked in
    gains_on gained (λ well is. well (dropping is))
    (subst (λ o. GainsMore o (Tracked o.keeps (before ++ (records ++ one ∷ [])) new.close new.ledger new.stage) (list ++ gained.more) taken' taken'' order' order'' (new.stage ≢ stage.Dropping)) origin
    (subst (λ all. GainsMore mid.origin (Tracked mid.origin.keeps all new.close new.ledger new.stage) (list ++ gained.more) taken' taken'' order' order'' (new.stage ≢ stage.Dropping)) (append_assoc before records (one ∷ []))
    (second (before ++ records) (list ++ gained.more) (subst (λ o. Tracked o.keeps (before ++ records) None mid.ledger mid.stage (list ++ gained.more)) (sym origin) tracked_mid))))

-- a batch came out of the ring, and these records in it
pub batch_came : {taken taken' : List (ℕ × Sample)} {order order' : List ℕ} (old new : Intake) (batch : Batch) → received new.consumer ≡ received old.consumer ++ batch ∷ [] → new.origin ≡ old.origin → old.close ≡ None
    → Brings (records_in batch) old new taken taken' order order' → (list : List Sample) → Tracks old list → GainsMore new.origin (Tracks new) list taken taken' order order' (new.stage ≢ stage.Dropping)
batch_came {taken} {taken'} {order} {order'} old new batch came origin unclosed brings list tracked =
    let gains = λ (o : Origin) (rs : List RingRecord). GainsMore o (Tracked o.keeps rs new.close new.ledger new.stage) list taken taken' order order' (new.stage ≢ stage.Dropping) in
    subst (λ o. gains o (records_of_all (received new.consumer))) (sym origin)
    (subst (gains old.origin) (sym (records_of_sent _ _ batch came)) (brings (records_of_all (received old.consumer)) list (along_close (sym unclosed) tracked)))
