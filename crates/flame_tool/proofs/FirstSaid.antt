-- What was said of streams before a run failed, by their texts.
use Rattle.std.proofs.Common.{◌≡◌, ◌≤◌, ◌∙◌, ◌++◌, ℕ, Bool, true, false, List, [], ◌∷◌, Option, Some, None, IfSome, ap, arith, inl, inr, length, map, refl, subst, sym}
use Rattle.std.proofs.lemmas.Slice.Zip.{AllZip-long}
use Rattle.std.specs.Prelude.{if◌then◌else◌, slice_get}
use Rattle.std.specs.List.{AllZip, flat_map}
use Rattle.std.proofs.lemmas.Bool.{cases_eq}
use Rattle.std.proofs.lemmas.Option.{slice_get_cases}
use Rattle.sample_tables.specs.declared.samples.Sample.{Sample}
use Rattle.stack_core.specs.Interleaving.{count_of, of_source}
use Rattle.stack_core.specs.Ledgers.{ListState}
use Rattle.stack_core.specs.Reading.{Rest}
use Rattle.stack_core.proofs.InterleavingLemmas.{count_of_at, count_of_past}
use Rattle.command_line.specs.declared.plans.Plan.{Plan}
use Rattle.source_views.specs.Messages.{message_of_failure}
use Rattle.source_views.specs.declared.failures.Failure.TheVariants.{Unreadable}
use Rattle.ring_collect.specs.Collection.{EndOfSource, HearsFirst}
use Rattle.live_lines.specs.Ends.{ToldEnd, heard_of_each}
use Rattle.flame_tool.specs.ToldLive.{IsOfFirst, is_stopped, message_of_stream, said_at}
use Rattle.flame_tool.specs.checked.EndReports.{said_at_once}
use Rattle.flame_tool.specs.checked.LiveEnds.{anywhere}
use Rattle.flame_tool.specs.checked.LiveSaying.{AreFirstTold, SaidOfFirst, SaysFirst, message_of_counted, said_of_told}
use Rattle.flame_tool.specs.checked.LiveStreams.{ReadsAs}
use Rattle.flame_tool.proofs.EachSaid.{BothAt, both_at}
use Rattle.flame_tool.proofs.LiveSaid.{said_by}
use Rattle.flame_tool.proofs.LiveTexts.{SeenOf, seen}
use Rattle.flame_tool.proofs.ToldEnds.{end_at, lost_at, often, order_of, said_as_list, said_by_source, seen_end, seen_held, seen_of, told_message}

-- ---- ends that were told

pub none_told : (rests : List Rest) → AreFirstTold [] rests
none_told rests = record { each = λ source rest is. inl refl; no_other = λ source past. refl }

pub first_told : (rests : List Rest) (taken : List (ℕ × Sample)) (told told' : List ToldEnd) → told ≡ [] → HearsFirst anywhere anywhere rests [] taken (heard_of_each told) (heard_of_each told') → AreFirstTold told' rests
first_told rests taken told told' none heard =
    let all : heard_of_each told' ≡ heard.pairs = heard.gained ∙ ap (λ (told : List ToldEnd). heard_of_each told ++ heard.pairs) none in
    record {
      each = λ source rest is. elim (heard.each source rest is) [
        | inl nothing ↦ inl (ap (of_source source) all ∙ nothing)
        | inr found ↦ inr (found.0, found.1, ap (of_source source) all ∙ (found.3 ∙ (λ i. (found.0.ending, length (found.2 i)) ∷ [])))
      ];
      no_other = λ source past. ap (of_source source) all ∙ heard.no_other source past;
    }

-- what was said of them, at once or not at all
pub first_in_all : (is_at_once : Bool) (plan : Plan) (Says : List ℕ → Type 0) (told : List ToldEnd) (rests : List Rest) → AreFirstTold told rests → Says (said_at_once is_at_once plan told) → SaysFirst plan Says rests
first_in_all true plan Says told rests are says = record { told = told; are = are; says = says }
first_in_all false plan Says told rests are says = record { told = []; are = none_told rests; says = says }

-- ---- what that says of texts

-- the same is said in an order where the same is said at its places
alike_in : (say say' : ℕ → List ℕ) (order : List ℕ) → ((at : ℕ) → 1 ≤ count_of at order → say at ≡ say' at) → flat_map say order ≡ flat_map say' order
alike_in say say' [] alike = refl
alike_in say say' (first ∷ order) alike =
    let here = alike first (let one = count_of_at first first order refl in omega (arith, one)) in
    let behind = alike_in say say' order (λ at some. alike at (elim (cases_eq first at) [
      | inl same ↦ let one = count_of_at at first order same in omega (arith, one)
      | inr apart ↦ subst (λ n. 1 ≤ n) (sym (count_of_past at first order apart)) some
    ])) in
    λ i. here i ++ behind i

-- a rest as a list
abbrev listed : Rest → ListState
listed rest = record { samples = rest.samples; ending = rest.ending; told = []; rows = []; stacks = []; entries = [] }

module _ (plan : Plan) (texts : List (List ℕ)) (rests : List Rest) (told : List ToldEnd) (reads : AllZip (ReadsAs plan.is_strict) texts rests) (are : AreFirstTold told rests) where
  few : (source : ℕ) → length (of_source source (heard_of_each told)) ≤ 1
  few source = elim (slice_get_cases rests source).1 [
    | inl found ↦ elim (are.each source found.0 found.2) [
      | inl nothing ↦ let none = ap length nothing in omega (arith, none)
      | inr ended ↦ let one = ap length ended.2 in omega (arith, one)
    ]
    | inr past ↦ let none = ap length (are.no_other source past.0) in omega (arith, none)
  ]

  abbrev is_cut : ℕ → Bool
  is_cut at = is_stopped (end_at told at).ending

  said_of_end : (at : ℕ) (text : List ℕ) (list : Rest) → SeenOf plan.is_strict text (listed list) → seen_end (end_at told at) ≡ (list.ending, length list.samples)
      → told_message plan at (end_at told at) ≡ message_of_stream plan (lost_at told) is_cut at text
  said_of_end at text list is_seen same =
      let lost = lost_at told at in
      let cut : is_stopped list.ending ≡ is_cut at = ap (λ (end : EndOfSource). is_stopped end.0) (sym same) in
      ap (λ (end : EndOfSource). message_of_counted plan lost at end) same
      ∙ (said_as_list plan at lost (listed list) is_seen.tellable ∙ (said_by plan lost at text (listed list) (is_stopped list.ending) is_seen.whole
      ∙ ap (λ (stopped : Bool). if stopped then (if lost then [] else message_of_failure plan.files (Unreadable at)) else message_of_stream plan (lost_at told) (λ _. false) at text) cut))

  -- what was told of an end at a place, by the text that stands there
  said_there : (at : ℕ) (text : Option (List ℕ)) (rest : Option Rest) → slice_get rests at ≡ rest → BothAt (ReadsAs plan.is_strict) text rest → 1 ≤ length (of_source at (heard_of_each told))
      → told_message plan at (end_at told at) ≡ elim text as (λ _. List ℕ) [ None ↦ [] | Some text ↦ message_of_stream plan (lost_at told) is_cut at text ]
  said_there at None None is both some = elim (slice_get_cases rests at).1 [
    | inl found ↦ absurd (let none = sym is ∙ found.2 in cc)
    | inr past ↦ absurd (let none = ap length (are.no_other at past.0) in omega (arith, none, some))
  ]
  said_there at None (Some rest) is both some = absurd both
  said_there at (Some text) None is both some = absurd both
  said_there at (Some text) (Some rest) is both some = elim (are.each at rest is) [
    | inl nothing ↦ absurd (let none = ap length nothing in omega (arith, none, some))
    | inr ended ↦ said_of_end at text ended.0 (seen plan.is_strict text rest (listed ended.0) at both ended.1) (seen_held (of_source at (map (λ (end : ToldEnd). (end.source, end)) told)) (ended.0.ending, length ended.0.samples) (sym (seen_of at told) ∙ ended.2))
  ]

  first_of_texts : IsOfFirst plan texts (said_of_told plan told)
  first_of_texts = record {
    is_lost = lost_at told;
    is_cut = is_cut;
    is = record {
      order = order_of told;
      some = record {
        once = λ at. subst (λ n. n ≤ 1) (sym (often at told)) (few at);
        no_other = λ at past. often at told ∙ ap length (are.no_other at (subst (λ n. n ≤ at) (sym (AllZip-long (ReadsAs plan.is_strict) texts rests reads)) past));
      };
      is = said_by_source plan told few ∙ alike_in (λ at. told_message plan at (end_at told at)) (said_at (message_of_stream plan (lost_at told) is_cut) texts) (order_of told)
          (λ at some. said_there at (slice_get texts at) (slice_get rests at) refl (both_at (ReadsAs plan.is_strict) texts rests reads at) (subst (λ n. 1 ≤ n) (often at told) some));
    };
  }

pub first_said : (plan : Plan) (Says : List ℕ → Type 0) (texts : List (List ℕ)) (rests : List Rest) → AllZip (ReadsAs plan.is_strict) texts rests → SaysFirst plan Says rests → SaidOfFirst plan Says texts
first_said plan Says texts rests reads first = record {
  said = said_of_told plan first.told;
  is_such = first_of_texts plan texts rests first.told reads first.are;
  says = first.says;
}

-- nothing was said
pub none_first : (plan : Plan) (Says : List ℕ → Type 0) (known : Option (List (List ℕ))) → Says [] → IfSome known (SaidOfFirst plan Says)
none_first plan Says None says = tt
none_first plan Says (Some texts) says = record {
  said = [];
  is_such = record { is_lost = λ at. false; is_cut = λ at. false; is = record { order = []; some = record { once = λ at. omega arith; no_other = λ at past. refl }; is = refl } };
  says = says;
}
