-- What the sink gained, one look further.
use Rattle.std.proofs.Common.{◌≡◌, ◌≢◌, ℕ, ◌<◌, ◌≤◌, ◌⊎◌, inl, inr, Bool, false, List, [], ◌∷◌, ◌++◌, length, map, get_or, refl, sym, ap, subst, ◌∙◌, arith, append-nil, append_assoc, None, Some, slice_get, slice_set}
use Rattle.std.proofs.lemmas.List.{map-append, map-set, get_or-set_same, get_or-set_other, get_or-map, length-set, length-map}
use Rattle.std.proofs.Math.Seq.{map-set_same}
use Rattle.std.proofs.lemmas.Option.{slice_get-get_or, get_or_from_slice_get, slice_get_read, slice_get_within, same_Some}
use Rattle.stack_core.specs.Interleaving.{list_of, of_source, sources_of}
use Rattle.stack_core.proofs.InterleavingLemmas.{of_source-append, of_source_at, of_source_past}
use Rattle.sample_tables.specs.declared.samples.Sample.{Sample}
use Rattle.ring_collect.specs.checked.Records.{of_one}
use Rattle.ring_collect.specs.checked.Intakes.{Tracks, GainsMore}
use Rattle.ring_collect.specs.Collection.{EndOfSource}
use Rattle.ring_collect.specs.checked.Ends.{HasHeard, Held, Kept, ends_by, held, unheard}
use Rattle.ring_collect.specs.checked.Rounds.{GoesOn, HasGained, IsAt}
use Rattle.ring_collect.specs.declared.intakes.Intake.{Intake}
use Rattle.ring_collect.specs.declared.intakes.Origin.{Origin}
use Rattle.ring_collect.specs.declared.rounds.Collector.{Collector}
use Rattle.ring_collect.specs.declared.running_sources.RunningSource.{RunningSource}
use Rattle.ring_collect.specs.declared.intakes.Stage.{Stage}
use Rattle.ring_collect.specs.declared.intakes.Stage.TheVariants.{Taking, Dropping, Unnamed}

same_or_other : (m n : ℕ) → (m ≡ n) ⊎ (m ≢ n)
same_or_other m n = grind arith

of_one_same : {A : Type 0} (source : ℕ) (samples : List A) → of_source source (of_one source samples) ≡ samples
of_one_same source [] = refl
of_one_same source (x ∷ xs) = of_source_at source source x (of_one source xs) refl ∙ ap (λ rest. x ∷ rest) (of_one_same source xs)

of_one_other : {A : Type 0} (source other : ℕ) (samples : List A) → other ≢ source → of_source source (of_one other samples) ≡ []
of_one_other source other [] apart = refl
of_one_other source other (x ∷ xs) apart = of_source_past source other x (of_one other xs) apart ∙ of_one_other source other xs apart

pub slice_get_map : {A B : Type 0} (f : A → B) (xs : List A) (i : ℕ) (x : A) → slice_get xs i ≡ Some x → slice_get (map f xs) i ≡ Some (f x)
slice_get_map f xs i x is =
    let below = slice_get_within xs i x is in
    slice_get-get_or (map f xs) i (f x) (subst (λ n. i < n) (sym (length-map xs f)) below) ∙ ap Some (get_or-map f xs i x (f x) below ∙ ap f (get_or_from_slice_get xs i x x is))

module _ {A : Type 0} (xs : List A) (at : ℕ) (new : A) (within : at < length xs) where
  pub slice_get_set_same : slice_get (slice_set xs at new) at ≡ Some new
  slice_get_set_same =
      let within' : at < length (slice_set xs at new) = subst (λ n. at < n) (sym (length-set xs at new)) within in
      slice_get-get_or (slice_set xs at new) at new within' ∙ ap Some (get_or-set_same xs at new new within)

  pub slice_get_set_other : (i : ℕ) (x : A) → i ≢ at → slice_get (slice_set xs at new) i ≡ Some x → slice_get xs i ≡ Some x
  slice_get_set_other i x apart is =
      let below : i < length xs = subst (λ n. i < n) (length-set xs at new) (slice_get_within (slice_set xs at new) i x is) in
      slice_get-get_or xs i x below ∙ ap Some (sym (get_or-set_other xs at i new x apart) ∙ get_or_from_slice_get (slice_set xs at new) i x x is)

-- no end is told of a source that is open
pub open_ends : (stage : Stage) (count : ℕ) → ends_by stage None count ≡ []
open_ends Taking count = refl
open_ends Dropping count = refl
open_ends Unnamed count = refl

-- the sink was told how the source ended, if it knows it and that closed its ring
pub record TellsEnd (new : Intake) (now now' : Held) : Type 0 where
  pub known : now'.known ≡ now.known
  pub heard : new.origin.number < now.known
      → now'.heard ≡ now.heard ++ of_one new.origin.number (ends_by new.stage new.close (length (of_source new.origin.number now'.taken)))

pub tells_end : {new : Intake} {taken taken' : List (ℕ × Sample)} {kept kept' : Kept} → taken' ≡ taken → unheard kept' ≡ unheard kept
    → (new.origin.number < kept.known → kept'.heard ≡ kept.heard ++ of_one new.origin.number (ends_by new.stage new.close (length (of_source new.origin.number taken))))
    → {start : List (ℕ × Sample)} → TellsEnd new (held start kept) (held taken' kept')
tells_end {new} {kept = kept} same alike told = record {
  known = ap (λ k. k.known) alike;
  heard = λ below. told below ∙ ap (λ xs. kept.heard ++ of_one new.origin.number (ends_by new.stage new.close (length (of_source new.origin.number xs)))) (sym same);
}

pub gains_also : {origin : Origin} {tracks : List Sample → Type 0} {list : List Sample} {taken taken' taken'' : List (ℕ × Sample)} {order order' : List ℕ} {went_well : Type 0}
    → taken'' ≡ taken' → GainsMore origin tracks list taken taken' order order' went_well → GainsMore origin tracks list taken taken'' order order' went_well
gains_also {origin} {tracks} {list} {taken} {order = order} {order'} {went_well} same = subst (λ xs. GainsMore origin tracks list taken xs order order' went_well) (sym same)

-- one source is looked into
one_look : {start now now' : Held} {order order' : List ℕ} {refused refused' : Bool} {keeps : Bool} (intakes : List Intake) (at : ℕ) (old new : Intake)
    → slice_get intakes at ≡ Some old → new.origin ≡ old.origin
    → ((list : List Sample) → Tracks old list → GainsMore new.origin (Tracks new) list now.taken now'.taken order order' (refused' ≡ false))
    → old.close ≡ None → TellsEnd new now now'
    → (refused' ≡ false → refused ≡ false) → (refused' ≡ false → new.stage ≢ Dropping)
    → HasGained keeps start intakes now order refused → HasGained keeps start (slice_set intakes at new) now' order' refused'
one_look {start} {now} {now'} {order} {order'} {refused} {refused'} {keeps} intakes at old new is_old same_origin looks was_open tells not_refused not_dropping has_gained =
    record {
      lists = lists';
      pairs = has_gained.pairs ++ of_one at turns.more;
      all_listed = length-set has_gained.lists at (list ++ turns.more) ∙ has_gained.all_listed ∙ sym (length-set intakes at new);
      gained = gains ∙ ap (λ t. t ++ of_one at turns.more) has_gained.gained ∙ append_assoc start.taken has_gained.pairs (of_one at turns.more);
      of_lists = record { by_source = by_source };
      ordered = λ e kept. turns.ordered e (kept_as ∙ kept) ∙ ap (λ n. order ++ sources_of (of_one n turns.more)) number ∙ ap (λ o. o ++ sources_of (of_one at turns.more)) (has_gained.ordered (not_refused e) kept)
          ∙ sym (map-append (λ pair. pair.0) has_gained.pairs (of_one at turns.more));
      each = each;
      going = going;
      heard = heard;
    }
  where
    within : at < length intakes
    within = slice_get_within intakes at old is_old

    list : List Sample
    list = list_of has_gained.lists at

    was_at : IsAt keeps at old list
    was_at = has_gained.each at old is_old

    number : new.origin.number ≡ at
    number = ap (λ origin. origin.number) same_origin ∙ was_at.number

    kept_as : new.origin.keeps ≡ keeps
    kept_as = ap (λ origin. origin.keeps) same_origin ∙ was_at.kept

    turns : GainsMore new.origin (Tracks new) list now.taken now'.taken order order' (refused' ≡ false)
    turns = looks list was_at.tracks

    lists' : List (List Sample)
    lists' = slice_set has_gained.lists at (list ++ turns.more)

    gains : now'.taken ≡ now.taken ++ of_one at turns.more
    gains = turns.gains ∙ ap (λ n. now.taken ++ of_one n turns.more) number

    listed : at < length has_gained.lists
    listed = subst (λ n. at < n) (sym has_gained.all_listed) within

    at_same : of_source at (has_gained.pairs ++ of_one at turns.more) ≡ list_of lists' at
    at_same =
        of_source-append at has_gained.pairs (of_one at turns.more)
        ∙ ap (λ xs. xs ++ of_source at (of_one at turns.more)) (has_gained.of_lists.by_source at)
        ∙ ap (λ more. list ++ more) (of_one_same at turns.more)
        ∙ sym (get_or-set_same has_gained.lists at (list ++ turns.more) [] listed)

    elsewhere : (source : ℕ) → source ≢ at → list_of lists' source ≡ list_of has_gained.lists source
    elsewhere source apart = get_or-set_other has_gained.lists at source (list ++ turns.more) [] apart

    by_source : (source : ℕ) → of_source source (has_gained.pairs ++ of_one at turns.more) ≡ list_of lists' source
    by_source source = elim (same_or_other source at) [
      | inl e ↦ subst (λ s. of_source s (has_gained.pairs ++ of_one at turns.more) ≡ list_of lists' s) (sym e) at_same
      | inr apart ↦ of_source-append source has_gained.pairs (of_one at turns.more)
          ∙ ap (λ more. of_source source has_gained.pairs ++ more) (of_one_other source at turns.more (λ e. apart (sym e)))
          ∙ append-nil (of_source source has_gained.pairs) ∙ has_gained.of_lists.by_source source ∙ sym (elsewhere source apart)
    ]

    is_new : (source : ℕ) (intake : Intake) → source ≡ at → slice_get (slice_set intakes at new) source ≡ Some intake → new ≡ intake
    is_new source intake e is = same_Some new intake (sym (slice_get_set_same intakes at new within) ∙ ap (slice_get (slice_set intakes at new)) (sym e) ∙ is)

    new_at : IsAt keeps at new (list_of lists' at)
    new_at = record { number = number; kept = kept_as; tracks = subst (Tracks new) (sym (get_or-set_same has_gained.lists at (list ++ turns.more) [] listed)) turns.tracked }

    each : (source : ℕ) (intake : Intake) → slice_get (slice_set intakes at new) source ≡ Some intake → IsAt keeps source intake (list_of lists' source)
    each source intake is = elim (same_or_other source at) [
      | inl e ↦ subst (λ s. IsAt keeps s intake (list_of lists' s)) (sym e) (subst (λ i. IsAt keeps at i (list_of lists' at)) (is_new source intake e is) new_at)
      | inr apart ↦ subst (IsAt keeps source intake) (sym (elsewhere source apart)) (has_gained.each source intake (slice_get_set_other intakes at new within source intake apart is))
    ]

    going : refused' ≡ false → (source : ℕ) (intake : Intake) → slice_get (slice_set intakes at new) source ≡ Some intake → intake.stage ≢ Dropping
    going e source intake is dropping = elim (same_or_other source at) [
      | inl same ↦ not_dropping e (ap (λ i. i.stage) (is_new source intake same is) ∙ dropping)
      | inr apart ↦ has_gained.going (not_refused e) source intake (slice_get_set_other intakes at new within source intake apart is) dropping
    ]

    many : length (slice_set intakes at new) ≡ length intakes
    many = length-set intakes at new

    heard : length (slice_set intakes at new) ≤ now'.known → HasHeard start.heard (slice_set intakes at new) now'.taken now'.heard
    heard few = record {
      pairs = before.pairs ++ of_one at told;
      gained = tells.heard at_known ∙ (λ i. before.gained i ++ of_one (number i) (ends_by new.stage new.close (length (of_source (number i) now'.taken)))) ∙ append_assoc start.heard before.pairs (of_one at told);
      each = λ source intake is. elim (same_or_other source at) [
        | inl e ↦ subst (λ s. of_source s (before.pairs ++ of_one at told) ≡ ends_by intake.stage intake.close (length (of_source s now'.taken))) (sym e)
            (here ∙ ap (λ intake. ends_by intake.stage intake.close (length (of_source at now'.taken))) (is_new source intake e is))
        | inr apart ↦ other source apart ∙ before.each source intake (slice_get_set_other intakes at new within source intake apart is)
            ∙ ap (λ samples. ends_by intake.stage intake.close (length samples)) (sym (unmoved source apart))
      ];
      no_other = λ source past. let m = many in let w = within in other source (λ same. omega arith) ∙ before.no_other source (omega arith);
    }
      where
        before : HasHeard start.heard intakes now.taken now.heard
        before = has_gained.heard (let m = many in let k = tells.known in omega arith)

        told : List EndOfSource
        told = ends_by new.stage new.close (length (of_source at now'.taken))

        at_known : new.origin.number < now.known
        at_known = let m = many in let k = tells.known in let w = within in let n = number in omega arith

        none_before : of_source at before.pairs ≡ []
        none_before = before.each at old is_old ∙ ap (λ close. ends_by old.stage close (length (of_source at now.taken))) was_open ∙ open_ends old.stage (length (of_source at now.taken))

        here : of_source at (before.pairs ++ of_one at told) ≡ told
        here = of_source-append at before.pairs (of_one at told) ∙ ap (λ front. front ++ of_source at (of_one at told)) none_before ∙ of_one_same at told

        other : (source : ℕ) → source ≢ at → of_source source (before.pairs ++ of_one at told) ≡ of_source source before.pairs
        other source apart = of_source-append source before.pairs (of_one at told) ∙ ap (λ more. of_source source before.pairs ++ more) (of_one_other source at told (λ e. apart (sym e))) ∙ append-nil (of_source source before.pairs)

        unmoved : (source : ℕ) → source ≢ at → of_source source now'.taken ≡ of_source source now.taken
        unmoved source apart = ap (of_source source) gains ∙ of_source-append source now.taken (of_one at turns.more)
            ∙ ap (λ more. of_source source now.taken ++ more) (of_one_other source at turns.more (λ e. apart (sym e))) ∙ append-nil (of_source source now.taken)

-- what was gained does not change with what else the collecting thread has
pub gained_alike : {start now : Held} {intakes intakes' : List Intake} {order order' : List ℕ} {refused refused' : Bool} {keeps : Bool} → intakes' ≡ intakes → order' ≡ order → refused' ≡ refused
    → HasGained keeps start intakes now order refused → HasGained keeps start intakes' now order' refused'
gained_alike {start} {now} {intakes} {intakes'} {order} {order'} {refused} {refused'} {keeps} same_intakes same_order same_refused gained =
    subst (λ intakes. HasGained keeps start intakes now order' refused') (sym same_intakes)
    (subst (λ order. HasGained keeps start intakes now order refused') (sym same_order) (subst (HasGained keeps start intakes now order) (sym same_refused) gained))

module _ {R G : Type 0} where
  pub goes_on-refl : {one : Collector R G} {taken : List (ℕ × Sample)} {kept : Kept} → GoesOn one one taken taken kept kept
  goes_on-refl = record { handles = refl; gained = λ keeps start gained. gained; refused = λ goes. goes; setting = refl }

  pub goes_on-trans : {first second third : Collector R G} {taken taken' taken'' : List (ℕ × Sample)} {kept kept' kept'' : Kept}
      → GoesOn first second taken taken' kept kept' → GoesOn second third taken' taken'' kept' kept'' → GoesOn first third taken taken'' kept kept''
  goes_on-trans before after = record {
    handles = after.handles ∙ before.handles;
    gained = λ keeps start gained. after.gained keeps start (before.gained keeps start gained);
    refused = λ goes. before.refused (after.refused goes);
    setting = after.setting ∙ before.setting;
  }

  -- one of its sources was looked into, and nothing else
  pub one_looked : {old new : Collector R G} {taken taken' : List (ℕ × Sample)} {kept kept' : Kept} (at : ℕ) (was now : RunningSource R G) → at < length old.sources.items → was ≡ get_or old.sources.items at was
      → new.sources.items ≡ slice_set old.sources.items at now → now.handle ≡ was.handle → now.intake.origin ≡ was.intake.origin
      → ((list : List Sample) → Tracks was.intake list → GainsMore now.intake.origin (Tracks now.intake) list taken taken' old.order.items new.order.items (new.refused ≡ false))
      → was.intake.close ≡ None → TellsEnd now.intake (held taken kept) (held taken' kept')
      → (new.refused ≡ false → old.refused ≡ false) → (new.refused ≡ false → now.intake.stage ≢ Dropping) → unheard kept' ≡ unheard kept → GoesOn old new taken taken' kept kept'
  one_looked {old} {new} {taken' = taken'} {kept' = kept'} at was now within here items handle origin looks was_open tells not_refused not_dropping setting = record {
    handles = ap (map (λ s. s.handle)) items ∙ map-set_same (λ s. s.handle) old.sources.items at now was (handle ∙ ap (λ s. s.handle) here);
    gained = λ keeps start gained. subst (λ intakes. HasGained keeps start intakes (held taken' kept') new.order.items new.refused) (sym (ap (map (λ s. s.intake)) items ∙ map-set (λ s. s.intake) old.sources.items at now))
        (one_look (map (λ s. s.intake) old.sources.items) at was.intake now.intake (slice_get_map (λ s. s.intake) old.sources.items at was (slice_get_read old.sources.items _ at was refl within here))
        origin looks was_open tells not_refused not_dropping gained);
    refused = not_refused;
    setting = setting;
  }

  -- what else the collecting thread counts changes nothing
  pub goes_on-alike : {old new new' : Collector R G} {taken taken' : List (ℕ × Sample)} {kept kept' : Kept} → new'.sources ≡ new.sources → new'.order ≡ new.order → new'.refused ≡ new.refused
      → GoesOn old new taken taken' kept kept' → GoesOn old new' taken taken' kept kept'
  goes_on-alike sources order refused goes = record {
    handles = ap (λ sources. map (λ running. running.handle) sources.items) sources ∙ goes.handles;
    gained = λ keeps start gained.
        gained_alike (ap (λ sources. map (λ running. running.intake) sources.items) sources) (ap (λ order. order.items) order) refused (goes.gained keeps start gained);
    refused = λ not_refused. goes.refused (sym refused ∙ not_refused);
    setting = goes.setting;
  }
