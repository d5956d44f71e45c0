-- What is told of the streams of a live run, by their texts.
use Rattle.std.proofs.Common.{◌≡◌, ◌≢◌, ◌≤◌, ◌<◌, ◌+◌, ◌∙◌, ◌++◌, ℕ, zero, suc, Bool, true, false, List, [], ◌∷◌, Option, Some, None, Result, Ok, Err, IfSome, All, ap, arith, inl, inr, length, map, refl, subst, sym}
use Rattle.std.proofs.lemmas.Slice.Zip.{AllZip-long}
use Rattle.std.proofs.lemmas.Bool.{or_parts}
use Rattle.std.specs.Prelude.{◌||◌, if◌then◌else◌, slice_get}
use Rattle.std.specs.List.{AllZip, list_any}
use Rattle.std.specs.Result.{IsErrAnd}
use Rattle.std.proofs.lemmas.List.{length-map}
use Rattle.std.proofs.lemmas.List.Elements.{All-nil, All-cons}
use Rattle.std.proofs.lemmas.Option.{IfSome_then}
use Rattle.stack_core.specs.Ledgers.{ListState}
use Rattle.stack_core.specs.Reading.{Rest}
use Rattle.stack_core.specs.declared.endings.SourceEnd.TheVariants as ends
use Rattle.folded_lines.specs.Reading.{read_folded}
use Rattle.folded_lines.specs.StrictReading.{strict_fault}
use Rattle.folded_lines.specs.StrictStreams.{strict_ending_fault}
use Rattle.folded_lines.proofs.StrictStreamTexts.{strict_text_fault}
use Rattle.command_line.specs.declared.plans.Plan.{Plan}
use Rattle.ring_collect.specs.Collection.{seen_as_rest}
use Rattle.ring_collect.specs.declared.faults.CollectFault.{CollectFault}
use Rattle.ring_collect.specs.declared.faults.CollectFault.TheVariants as collect
use Rattle.source_views.specs.Failures.{IsOpening, failure_of_collect, status_of}
use Rattle.source_views.specs.Messages.{Tells, message_of_ending, message_of_failure, message_of_strict_fault}
use Rattle.source_views.specs.declared.failures.Failure.{Failure}
use Rattle.source_views.specs.declared.failures.Failure.TheVariants.{TooManyFiles, Unreadable, TooLarge, OutOfMemory, NoThread, Unfinished, Faults, Output}
use Rattle.source_views.proofs.MessageTexts.{tells_more}
use Rattle.flame_tool.specs.LiveRuns.{read_text}
use Rattle.flame_tool.specs.ToldLive.{IsOfEnded, IsOfFailure, IsOfSome, IsSaidBefore, IsSaidOfEach, TellsLiveFailure, TellsStreams, TellsSuch, is_stopped, message_of_stream, message_of_text, stream_count}
use Rattle.flame_tool.specs.checked.LiveEnds.{is_faulty, status_by, strict_list_fault}
use Rattle.flame_tool.specs.checked.LiveSaying.{IsTellableList, SaidFirst, SaidOfEnds, SaidOfFirst, SaidOfLost, SaysEnds, SaysLost, SaysSuch, message_of_list}
use Rattle.flame_tool.specs.checked.LiveStreams.{ReadsAs}
use Rattle.flame_tool.proofs.ExitStatuses.{of_others, only_many}
use Rattle.flame_tool.proofs.EachSaid.{BothAt, both_at, said_alike}
use Rattle.flame_tool.proofs.LiveTexts.{SeenOf, seen_all}

-- ---- lists and their texts

-- of a list that is all of its text
said_whole : (is_strict : Bool) (files : List (List ℕ)) (at : ℕ) (text : List ℕ) (list : ListState) → seen_as_rest list ≡ read_text is_strict text
    → (if is_strict then message_of_strict_fault files at (strict_list_fault list) else message_of_ending files at list.ending)
    ≡ (if is_strict then message_of_strict_fault files at (strict_fault text) else message_of_ending files at (read_folded text).ending)
said_whole true files at text list same =
    ap (message_of_strict_fault files at) (ap (λ (rest : Rest). strict_ending_fault (length rest.samples) rest.ending) same ∙ strict_text_fault text)
said_whole false files at text list same = ap (λ (rest : Rest). message_of_ending files at rest.ending) same

-- of one that may be stopped
pub said_by : (plan : Plan) (is_lost : Bool) (at : ℕ) (text : List ℕ) (list : ListState) (stopped : Bool) → (stopped ≡ false → seen_as_rest list ≡ read_text plan.is_strict text)
    → (if stopped then (if is_lost then [] else message_of_failure plan.files (Unreadable at))
    else (if plan.is_strict then message_of_strict_fault plan.files at (strict_list_fault list) else message_of_ending plan.files at list.ending))
    ≡ (if stopped then (if is_lost then [] else message_of_failure plan.files (Unreadable at)) else message_of_text plan at text)
said_by plan is_lost at text list true whole = refl
said_by plan is_lost at text list false whole = said_whole plan.is_strict plan.files at text list (whole refl)

-- whether the list at a place is stopped
abbrev cut_of : Option ListState → Bool
cut_of None = false
cut_of (Some list) = is_stopped list.ending

abbrev cut_at : List ListState → ℕ → Bool
cut_at lists at = cut_of (slice_get lists at)

-- what is said at a place
said_there : (plan : Plan) (is_lost : ℕ → Bool) (at : ℕ) (text : Option (List ℕ)) (list : Option ListState) → BothAt (SeenOf plan.is_strict) text list
    → elim list as (λ _. List ℕ) [ None ↦ [] | Some list ↦ message_of_list plan is_lost at list ]
    ≡ elim text as (λ _. List ℕ) [ None ↦ [] | Some text ↦ (if cut_of list then (if is_lost at then [] else message_of_failure plan.files (Unreadable at)) else message_of_text plan at text) ]
said_there plan is_lost at None None both = refl
said_there plan is_lost at None (Some list) both = absurd both
said_there plan is_lost at (Some text) None both = absurd both
said_there plan is_lost at (Some text) (Some list) both = said_by plan (is_lost at) at text list (is_stopped list.ending) both.whole

-- so what is said of lists is what is said of their texts
texts_said : (plan : Plan) (is_lost : ℕ → Bool) (texts : List (List ℕ)) (lists : List ListState) (said : List ℕ) → AllZip (SeenOf plan.is_strict) texts lists
    → IsSaidOfEach (message_of_list plan is_lost) lists said → IsSaidOfEach (message_of_stream plan is_lost (cut_at lists)) texts said
texts_said plan is_lost texts lists said seen =
    said_alike (message_of_list plan is_lost) (message_of_stream plan is_lost (cut_at lists)) lists texts said (AllZip-long (SeenOf plan.is_strict) texts lists seen)
    (λ at. said_there plan is_lost at (slice_get texts at) (slice_get lists at) (both_at (SeenOf plan.is_strict) texts lists seen at))

never_cut : (lists : List ListState) → list_any (λ (list : ListState). is_stopped list.ending) lists ≡ false → (at : ℕ) → cut_at lists at ≡ false
never_cut [] goes at = refl
never_cut (list ∷ lists) goes zero = (or_parts (is_stopped list.ending) (list_any (λ (list : ListState). is_stopped list.ending) lists) goes).0
never_cut (list ∷ lists) goes (suc at) = never_cut lists (or_parts (is_stopped list.ending) (list_any (λ (list : ListState). is_stopped list.ending) lists) goes).1 at

one_stopped : (lists : List ListState) → list_any (λ (list : ListState). is_stopped list.ending) lists ≡ true → (k : ℕ) × (k < length lists) × (cut_at lists k ≡ true)
one_stopped [] any = absurd (cc)
one_stopped (list ∷ lists) any = by (is_stopped list.ending) refl any (one_stopped lists)
  where
    by : (here : Bool) → is_stopped list.ending ≡ here → (here || list_any (λ (list : ListState). is_stopped list.ending) lists) ≡ true
        → (list_any (λ (list : ListState). is_stopped list.ending) lists ≡ true → (k : ℕ) × (k < length lists) × (cut_at lists k ≡ true))
        → (k : ℕ) × (k < length (list ∷ lists)) × (cut_at (list ∷ lists) k ≡ true)
    by true is any more = (0, omega arith, is)
    by false is any more = let found = more any in (suc found.0, omega (arith, found.1), found.2)

tellable : (is_strict : Bool) (texts : List (List ℕ)) (lists : List ListState) → AllZip (SeenOf is_strict) texts lists → All (IsTellableList is_strict) lists
tellable is_strict [] [] seen = All-nil (IsTellableList is_strict)
tellable is_strict [] (list ∷ lists) seen = absurd seen
tellable is_strict (text ∷ texts) [] seen = absurd seen
tellable is_strict (text ∷ texts) (list ∷ lists) seen = All-cons (IsTellableList is_strict) list lists seen.0.tellable (tellable is_strict texts lists seen.1)

-- ---- the exit status

low_status : (stopped faulty : Bool) → status_by stopped faulty ≤ 1 → stopped ≡ false
low_status true faulty low = absurd (omega (arith, low))
low_status false faulty low = refl

stopped_status : (stopped faulty : Bool) → status_by stopped faulty ≡ 3 → stopped ≡ true
stopped_status true faulty three = refl
stopped_status false true three = absurd (omega (arith, three))
stopped_status false false three = absurd (omega (arith, three))

never_two : (stopped faulty : Bool) → status_by stopped faulty ≢ 2
never_two true faulty two = omega (arith, two)
never_two false true two = omega (arith, two)
never_two false false two = omega (arith, two)

pub not_two : (stopped faulty : Bool) (status : ℕ) → status ≡ status_by stopped faulty → status ≢ 2
not_two stopped faulty status is two = never_two stopped faulty (sym is ∙ two)

-- ---- what was told of lists that were collected, and so of their texts

module _ (plan : Plan) (Says : List ℕ → Type 0) (texts : List (List ℕ)) (rests : List Rest) (reads : AllZip (ReadsAs plan.is_strict) texts rests) where
  pub ended_said : (status : ℕ) → SaysEnds plan Says status rests → SaidOfEnds plan Says status texts
  ended_said status ended =
      let lists = ended.lists in
      let seen = seen_all plan.is_strict texts rests lists reads ended.collected in
      let said = texts_said plan (λ _. false) texts lists ended.said seen (ended.is (tellable plan.is_strict texts lists seen)) in
      let stopped = list_any (λ (list : ListState). is_stopped list.ending) lists in
      let faulty = is_faulty plan.is_strict lists in
      record {
        low = λ low.
            let goes = never_cut lists (low_status stopped faulty (subst (λ n. n ≤ 1) ended.ended low)) in
            record {
              said = ended.said;
              is_such = subst (λ (is_cut : ℕ → Bool). IsSaidOfEach (message_of_stream plan (λ _. false) is_cut) texts ended.said) (λ i at. goes at i) said;
              says = ended.says;
            };
        unread = λ three.
            let one = one_stopped lists (stopped_status stopped faulty (sym ended.ended ∙ three)) in
            record {
              said = ended.said;
              is_such = record { is_cut = cut_at lists; one = one.0; within = subst (λ n. one.0 < n) (AllZip-long (SeenOf plan.is_strict) texts lists seen) one.1; is_unread = one.2; is = said };
              says = ended.says;
            };
      }

  pub lost_said : SaysLost plan Says rests → SaidOfLost plan Says texts
  lost_said lost =
      let lists = lost.1.lists in
      let seen = seen_all plan.is_strict texts rests lists reads lost.1.collected in (
        lost.0,
        cut_at lists,
        record { said = lost.1.said; is_such = texts_said plan lost.0 texts lists lost.1.said seen (lost.1.is (tellable plan.is_strict texts lists seen)); says = lost.1.says },
      )

-- ---- before a failure

pub first_mapped : (untold some some' first first' lost lost' : Type 0) → (some → some') → (first → first') → (lost → lost') → (failure : Failure) → SaidFirst untold some first lost failure → SaidFirst untold some' first' lost' failure
first_mapped untold some some' first first' lost lost' few those more TooManyFiles said = said
first_mapped untold some some' first first' lost lost' few those more (Unreadable source) said = said
first_mapped untold some some' first first' lost lost' few those more (TooLarge source) said = said
first_mapped untold some some' first first' lost lost' few those more OutOfMemory said = (few said.0, those said.1)
first_mapped untold some some' first first' lost lost' few those more NoThread said = (few said.0, those said.1)
first_mapped untold some some' first first' lost lost' few those more (Unfinished source) said = few said
first_mapped untold some some' first first' lost lost' few those more Faults said = said
first_mapped untold some some' first first' lost lost' few those more (Output fault) said = more said

-- where not all was collected some was
pub uncollected_said : (untold some first lost : Type 0) (fault : CollectFault) → some → (((source : ℕ) → fault ≢ collect.Unfinished source) → first) → SaidFirst untold some first lost (failure_of_collect fault)
uncollected_said untold some first lost collect.OutOfMemory said those = (said, those (λ source is. cc))
uncollected_said untold some first lost collect.NoThread said those = (said, those (λ source is. cc))
uncollected_said untold some first lost (collect.Unfinished source) said those = said

-- and where a stream was not opened nothing
pub opening_untold : (count : ℕ) (untold some first lost : Type 0) (failure : Failure) → IsOpening count failure → untold → (untold → some) → (untold → first) → SaidFirst untold some first lost failure
opening_untold count untold some first lost TooManyFiles opening said none nothing = said
opening_untold count untold some first lost (Unreadable source) opening said none nothing = said
opening_untold count untold some first lost (TooLarge source) opening said none nothing = said
opening_untold count untold some first lost OutOfMemory opening said none nothing = (none said, nothing said)
opening_untold count untold some first lost NoThread opening said none nothing = (none said, nothing said)
opening_untold count untold some first lost (Unfinished source) opening said none nothing = none said
opening_untold count untold some first lost Faults opening said none nothing = absurd opening
opening_untold count untold some first lost (Output fault) opening said none nothing = absurd opening

-- nothing was said of any stream
pub none_said : (plan : Plan) (count : ℕ) → IsOfSome plan count []
none_said plan count = record { ends = λ at. (ends.Clean 0, 0); is_lost = λ at. false; order = []; some = record { once = λ at. omega arith; no_other = λ at past. refl }; is = refl }

-- the exit status is none of a run that went to its end
pub failed_high : (untold some first lost : Type 0) (failure : Failure) → SaidFirst untold some first lost failure → status_of failure ≤ 1 → ⊥
failed_high untold some first lost failure said low =
    of_others (λ failure. status_of failure ≤ 1 → SaidFirst untold some first lost failure → ⊥) (λ low said. omega (arith, low)) (λ low said. said) failure (λ three. omega (arith, low, three)) low said

-- how some streams ended, or what there is to say of some
ended : {plan : Plan} {Says : List ℕ → Type 0} (known : Option (List (List ℕ))) → SaysSuch (IsOfSome plan (stream_count plan.files)) Says → IfSome known (SaidOfFirst plan Says) → SaysSuch (IsOfEnded plan known) Says
ended None some first = some
ended (Some texts) some first = first

-- ---- the end of a run

module _ {E : Type 0} (contents : E → Option (List ℕ)) (failures : E → ℕ) where
  abbrev Gains : E → E → List ℕ → Type 0
  Gains from to text = Tells text (contents from) (contents to) (failures from) (failures to)

  pub many_told : (plan : Plan) (start mid new : E) (some first lost : Type 0) (failure : Failure) → status_of failure ≡ 2 → SaidFirst (mid ≡ start) some first lost failure
      → Gains mid new (message_of_failure plan.files failure) → Gains start new (message_of_failure plan.files TooManyFiles)
  many_told plan start mid new some those lost failure two first told =
      let is = only_many failure two in
      subst (λ err. Gains err new (message_of_failure plan.files TooManyFiles)) (subst (SaidFirst (mid ≡ start) some those lost) is first) (subst (λ failure. Gains mid new (message_of_failure plan.files failure)) is told)

  pub alone_told : (Is : Failure → Type 0) (files : List (List ℕ)) (start mid new : E) (failure : Failure) → Is failure → mid ≡ start → Gains mid new (message_of_failure files failure)
      → TellsSuch (IsOfFailure Is files) (contents start) (contents new) (failures start) (failures new)
  alone_told Is files start mid new failure is_such same told = record {
    said = message_of_failure files failure;
    is_such = record { failure = failure; is_such = is_such; is = refl };
    told = subst (λ err. Gains err new (message_of_failure files failure)) same told;
  }

  module _ (plan : Plan) (known : Option (List (List ℕ))) (start mid new : E) where
    abbrev Fails : Type 0
    Fails = TellsLiveFailure plan known (contents start) (contents new) (failures start) (failures new)

    -- nothing was said before
    unopened : (failure : Failure) → IsSaidBefore plan known failure [] → mid ≡ start → Gains mid new (message_of_failure plan.files failure) → Fails
    unopened failure is_first same told = inl (record {
      said = message_of_failure plan.files failure;
      is_such = record { failure = failure; first = []; is_first = is_first; is = refl };
      told = subst (λ err. Gains err new (message_of_failure plan.files failure)) same told;
    })

    -- or how some streams ended
    behind : (failure : Failure) (some : SaysSuch (λ said. IsSaidBefore plan known failure said) (Gains start mid)) → Gains mid new (message_of_failure plan.files failure) → Fails
    behind failure some told = inl (record {
      said = some.said ++ message_of_failure plan.files failure;
      is_such = record { failure = failure; first = some.said; is_first = some.is_such; is = refl };
      told = tells_more some.said (message_of_failure plan.files failure) (contents start) (contents mid) (contents new) (failures start) (failures mid) (failures new) some.says told;
    })

    abbrev EndedSome : Type 0
    EndedSome = SaysSuch (IsOfSome plan (stream_count plan.files)) (Gains start mid)

    abbrev EndedFirst : Type 0
    EndedFirst = IfSome known (SaidOfFirst plan (Gains start mid))

    pub failed_told : (failure : Failure) → status_of failure ≡ 3 → SaidFirst (mid ≡ start) EndedSome EndedFirst (IfSome known (SaidOfLost plan (Gains start mid))) failure
        → Gains mid new (message_of_failure plan.files failure) → Fails
    failed_told TooManyFiles three first told = absurd (omega (arith, three))
    failed_told (Unreadable source) three first told = unopened (Unreadable source) refl first told
    failed_told (TooLarge source) three first told = unopened (TooLarge source) refl first told
    failed_told OutOfMemory three first told = behind OutOfMemory (ended known first.0 first.1) told
    failed_told NoThread three first told = behind NoThread (ended known first.0 first.1) told
    failed_told (Unfinished source) three first told = behind (Unfinished source) first told
    failed_told Faults three first told = absurd first
    failed_told (Output fault) three first told =
        inr (IfSome_then known first (λ texts lost.
        let said = lost.2 in
        record {
          said = said.said ++ message_of_failure plan.files (Output fault);
          is_such = inr (record { is_lost = lost.0; is_cut = lost.1; fault = fault; first = said.said; is_first = said.is_such; is = refl });
          told = tells_more said.said (message_of_failure plan.files (Output fault)) (contents start) (contents mid) (contents new) (failures start) (failures mid) (failures new) said.says told;
        }))

    pub unread_told : (status : ℕ) → status ≡ 3 → IfSome known (SaidOfEnds plan (Gains start new) status) → Fails
    unread_told status three said =
        inr (IfSome_then known said (λ texts ended. let unread = ended.unread three in record { said = unread.said; is_such = inl unread.is_such; told = unread.says }))

  pub low_told : (plan : Plan) (known : Option (List (List ℕ))) (start new : E) (status : ℕ) → status ≤ 1 → IfSome known (SaidOfEnds plan (Gains start new) status)
      → IfSome known (TellsStreams plan (contents start) (contents new) (failures start) (failures new))
  low_told plan known start new status low said = IfSome_then known said (λ texts ended. let all = ended.low low in record { said = all.said; is_such = all.is_such; told = all.says })

-- ---- paths

-- some path is absent, so there is one
pub some_absent : (absent : List ℕ → Bool) (paths : List (List ℕ)) → list_any absent paths ≡ true → length paths ≢ 0
some_absent absent [] any none = cc
some_absent absent (path ∷ paths) any none = omega (arith, none)

-- as many paths as files
pub as_many_paths : {A : Type 0} (bytes : A → List ℕ) (paths : List A) (files : List (List ℕ)) → map bytes paths ≡ files → length paths ≡ length files
as_many_paths bytes paths files are = sym (length-map paths bytes) ∙ ap length are

-- why it failed
pub err_and : {T : Type 0} (result : Result T Failure) (failure : Failure) (P : Failure → Type 0) → IsErrAnd result (λ error. error ≡ failure) → P failure → IsErrAnd result P
err_and (Ok x) failure P is holds = is
err_and (Err error) failure P is holds = subst P (sym is) holds
