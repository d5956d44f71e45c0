-- What a run drew, and what was told of the ends of its sources.
use Rattle.std.proofs.Common.{◌≡◌, ◌≤◌, ◌∙◌, ◌++◌, ◌∷◌, [], ℕ, Bool, true, false, List, Option, Some, ap, length, map, refl, subst, sym}
use Rattle.std.specs.Prelude.{if◌then◌else◌, slice_get}
use Rattle.std.proofs.lemmas.List.{length-map}
use Rattle.std.proofs.lemmas.Option.{get_or_from_slice_get}
use Rattle.sample_tables.specs.declared.samples.Sample.{Sample}
use Rattle.stack_core.specs.Interleaving.{of_source}
use Rattle.stack_core.specs.Ledgers.{ListState}
use Rattle.stack_core.specs.Reading.{Rest}
use Rattle.stack_core.specs.declared.endings.SourceEnd.{SourceEnd}
use Rattle.merged_stacks.specs.Timeline.{samples_of}
use Rattle.ring_collect.specs.Collection.{Collects, CollectsRun}
use Rattle.ring_collect.proofs.RoundLemmas.{slice_get_map}
use Rattle.ring_collect.specs.Collection.{EndOfSource, HearsAll, HearsSome}
use Rattle.live_lines.specs.Ends.{ToldEnd, has_lost, heard_of_each}
use Rattle.flame_tool.specs.checked.LiveEnds.{anywhere, status_of_ends}
use Rattle.flame_tool.specs.checked.LiveSaying.{AreSomeTold, AreTold, SaysEnds, SaysLost, end_of, message_of_list, said_of_ends, said_of_told}
use Rattle.flame_tool.specs.ToldLive.{IsOfSome, IsSaidOfEach}
use Rattle.flame_tool.proofs.LiveSaid.{none_said}
use Rattle.flame_tool.specs.checked.EndReports.{said_at_once}
use Rattle.command_line.specs.declared.plans.Plan.{Plan}
use Rattle.source_views.specs.Messages.{Tells}
use Rattle.source_views.proofs.MessageTexts.{tells_more}
use Rattle.flame_tool.proofs.ToldEnds.{ends_said, lists_said, lost_at, some_said, unlost_everywhere}

pub some_told : (count : ℕ) (told told' : List ToldEnd) → told ≡ [] → HearsSome count (heard_of_each told) (heard_of_each told') → AreSomeTold count told'
some_told count told told' none heard =
    let all : heard_of_each told' ≡ heard.pairs = heard.gained ∙ ap (λ (told : List ToldEnd). heard_of_each told ++ heard.pairs) none in
    record {
      once = λ source. subst (λ (pairs : List (ℕ × EndOfSource)). length (of_source source pairs) ≤ 1) (sym all) (heard.once source);
      no_other = λ source past. subst (λ (pairs : List (ℕ × EndOfSource)). of_source source pairs ≡ []) (sym all) (heard.no_other source past);
    }

pub all_told : (rests : List Rest) (taken : List (ℕ × Sample)) (lists : List ListState) (order : List ℕ) (endings : List SourceEnd) (told told' : List ToldEnd) → told ≡ [] → CollectsRun anywhere anywhere rests [] taken lists order
    → endings ≡ map (λ list. list.ending) lists → HearsAll taken endings (heard_of_each told) (heard_of_each told') → AreTold lists told'
all_told rests taken lists order endings told told' none run are heard =
    let all : heard_of_each told' ≡ heard.pairs = heard.gained ∙ ap (λ (told : List ToldEnd). heard_of_each told ++ heard.pairs) none in
    record {
      each = λ source list is.
          let ending : slice_get endings source ≡ Some list.ending = ap (λ endings. slice_get endings source) are ∙ slice_get_map (λ (list : ListState). list.ending) lists source list is in
          let samples : of_source source taken ≡ list.samples =
          ap (of_source source) run.sink ∙ (run.by_source.by_source source ∙ get_or_from_slice_get (samples_of lists) source list.samples [] (slice_get_map (λ (list : ListState). list.samples) lists source list is)) in
          ap (of_source source) all ∙ (heard.each source list.ending ending ∙ (λ i. (list.ending, length (samples i)) ∷ []));
      no_other = λ source past.
          let count : length endings ≡ length lists = ap length are ∙ length-map lists (λ (list : ListState). list.ending) in
          ap (of_source source) all ∙ heard.no_other source (subst (λ n. n ≤ source) (sym count) past);
    }

-- ---- what was said, at once or at the end

abbrev pub said_in_all : Bool → Plan → Bool → List ToldEnd → List EndOfSource → List ℕ
said_in_all is_at_once plan is_lost told ends = if is_at_once then said_of_told plan told else said_of_ends plan is_lost ends

pub tells_all : {E : Type 0} (contents : E → Option (List ℕ)) (failures : E → ℕ) (is_at_once is_lost : Bool) (plan : Plan) (told : List ToldEnd) (ends : List EndOfSource) (old mid new : E)
    → Tells (said_at_once is_at_once plan told) (contents old) (contents mid) (failures old) (failures mid)
    → (is_at_once ≡ false → Tells (said_of_ends plan is_lost ends) (contents mid) (contents new) (failures mid) (failures new)) → (is_at_once ≡ true → new ≡ mid)
    → Tells (said_in_all is_at_once plan is_lost told ends) (contents old) (contents new) (failures old) (failures new)
tells_all contents failures true is_lost plan told ends old mid new first rest stays =
    subst (λ new. Tells (said_of_told plan told) (contents old) (contents new) (failures old) (failures new)) (sym (stays refl)) first
tells_all contents failures false is_lost plan told ends old mid new first rest stays =
    tells_more [] (said_of_ends plan is_lost ends) (contents old) (contents mid) (contents new) (failures old) (failures mid) (failures new) first (rest refl)

pub says_lost : (plan : Plan) (is_at_once is_lost : Bool) (rests : List Rest) (lists : List ListState) (told : List ToldEnd) (ends : List EndOfSource) (Says : List ℕ → Type 0) → Collects anywhere anywhere rests lists → AreTold lists told → ends ≡ map end_of lists
    → Says (said_in_all is_at_once plan is_lost told ends) → SaysLost plan Says rests
says_lost plan true is_lost rests lists told ends Says collected are same says = (lost_at told, record { lists = lists; collected = collected; ended = tt; said = said_of_told plan told; is = lists_said plan lists told are; says = says })
says_lost plan false is_lost rests lists told ends Says collected are same says = ((λ _. is_lost), record { lists = lists; collected = collected; ended = tt; said = said_of_ends plan is_lost ends; is = ends_said plan is_lost ends lists same; says = says })

pub says_ends : (plan : Plan) (is_at_once is_lost : Bool) (status : ℕ) (rests : List Rest) (lists : List ListState) (told : List ToldEnd) (ends : List EndOfSource) (Says : List ℕ → Type 0) → Collects anywhere anywhere rests lists → AreTold lists told → ends ≡ map end_of lists
    → is_lost ≡ false → has_lost told ≡ false → status ≡ status_of_ends plan.is_strict lists → Says (said_in_all is_at_once plan is_lost told ends) → SaysEnds plan Says status rests
says_ends plan true is_lost status rests lists told ends Says collected are same kept unlost tells says = record {
  lists = lists;
  collected = collected;
  ended = tells;
  said = said_of_told plan told;
  is = λ tellable. subst (λ (lost : ℕ → Bool). IsSaidOfEach (message_of_list plan lost) lists (said_of_told plan told)) (unlost_everywhere told unlost) (lists_said plan lists told are tellable);
  says = says;
}
says_ends plan false is_lost status rests lists told ends Says collected are same kept unlost tells says = record {
  lists = lists;
  collected = collected;
  ended = tells;
  said = said_of_ends plan is_lost ends;
  is = λ tellable. subst (λ (lost : Bool). IsSaidOfEach (message_of_list plan (λ _. lost)) lists (said_of_ends plan is_lost ends)) kept (ends_said plan is_lost ends lists same tellable);
  says = says;
}

pub some_in_all : (is_at_once : Bool) (plan : Plan) (count : ℕ) (told : List ToldEnd) → AreSomeTold count told → IsOfSome plan count (said_at_once is_at_once plan told)
some_in_all true plan count told some = some_said plan count told some
some_in_all false plan count told some = none_said plan count
