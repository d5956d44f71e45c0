-- Records that are kept flat.
use Rattle.std.proofs.Common.{◌≡◌, ℕ, List, [], ◌∷◌, ◌++◌, length, take, refl, sym, ap, subst, ◌∙◌, arith, suc, All, append-nil, append_assoc, length-append}
use Rattle.std.proofs.lemmas.List.{take-append-le, drop-append-le}
use Rattle.std.proofs.lemmas.List.Elements.{All-head, All-tail}
use Rattle.std.proofs.lemmas.List.Prefix.{front_rest}
use Rattle.stack_core.specs.declared.records.RingRecord.{RingRecord}
use Rattle.stack_core.specs.declared.records.RingRecord.TheVariants as one
use Rattle.ring_collect.specs.declared.flat_records.Step.{Step}
use Rattle.ring_collect.specs.declared.flat_records.Step.TheVariants.{Name, Row, Again}
use Rattle.ring_collect.specs.checked.FlatRecords.{record_by, names_behind, frames_behind, HasItsParts, records_by, FitTogether}

-- a step that has its parts tells the same where more names and frames stand behind them, and leaves those too
module _ (names' : List (List ℕ)) (frames' : List ℕ) where
  more_parts : (step : Step) (names : List (List ℕ)) (frames : List ℕ) → HasItsParts step names frames → HasItsParts step (names ++ names') (frames ++ frames')
  more_parts Name names frames has = omega (arith, has, length-append names names')
  more_parts (Row depth weight) names frames has = omega (arith, has, length-append frames frames')
  more_parts (Again row weight) names frames has = tt

  same_record : (step : Step) (names : List (List ℕ)) (frames : List ℕ) → HasItsParts step names frames → record_by step (names ++ names') (frames ++ frames') ≡ record_by step names frames
  same_record Name [] frames has = absurd (omega (arith, has))
  same_record Name (name ∷ names) frames has = refl
  same_record (Row depth weight) names frames has = ap (λ row. one.Row row weight) (take-append-le depth frames frames' has)
  same_record (Again row weight) names frames has = refl

  more_names : (step : Step) (names : List (List ℕ)) (frames : List ℕ) → HasItsParts step names frames → names_behind step (names ++ names') ≡ names_behind step names ++ names'
  more_names Name names frames has = drop-append-le 1 names names' has
  more_names (Row depth weight) names frames has = refl
  more_names (Again row weight) names frames has = refl

  more_frames : (step : Step) (names : List (List ℕ)) (frames : List ℕ) → HasItsParts step names frames → frames_behind step (frames ++ frames') ≡ frames_behind step frames ++ frames'
  more_frames Name names frames has = refl
  more_frames (Row depth weight) names frames has = drop-append-le depth frames frames' has
  more_frames (Again row weight) names frames has = refl

  module _ (more : List Step) where
    fit_more : (steps : List Step) (names : List (List ℕ)) (frames : List ℕ) → FitTogether steps names frames → FitTogether more names' frames' → FitTogether (steps ++ more) (names ++ names') (frames ++ frames')
    fit_more [] names frames fit behind =
        subst (λ ns. FitTogether more (ns ++ names') (frames ++ frames')) (sym fit.0) (subst (λ fs. FitTogether more names' (fs ++ frames')) (sym fit.1) behind)
    fit_more (step ∷ steps) names frames fit behind = (
      more_parts step names frames fit.0,
      subst (λ ns. FitTogether (steps ++ more) ns (frames_behind step (frames ++ frames'))) (sym (more_names step names frames fit.0))
          (subst (λ fs. FitTogether (steps ++ more) (names_behind step names ++ names') fs) (sym (more_frames step names frames fit.0))
          (fit_more steps (names_behind step names) (frames_behind step frames) fit.1 behind)),
    )

    records_by_more : (steps : List Step) (names : List (List ℕ)) (frames : List ℕ) → FitTogether steps names frames → records_by (steps ++ more) (names ++ names') (frames ++ frames') ≡ records_by steps names frames ++ records_by more names' frames'
    records_by_more [] names frames fit =
        ap (λ ns. records_by more (ns ++ names') (frames ++ frames')) fit.0 ∙ ap (λ fs. records_by more names' (fs ++ frames')) fit.1
    records_by_more (step ∷ steps) names frames fit =
        ap (λ first. first ∷ records_by (steps ++ more) (names_behind step (names ++ names')) (frames_behind step (frames ++ frames'))) (same_record step names frames fit.0)
        ∙ ap (λ ns. record_by step names frames ∷ records_by (steps ++ more) ns (frames_behind step (frames ++ frames'))) (more_names step names frames fit.0)
        ∙ ap (λ fs. record_by step names frames ∷ records_by (steps ++ more) (names_behind step names ++ names') fs) (more_frames step names frames fit.0)
        ∙ ap (λ records. record_by step names frames ∷ records) (records_by_more steps (names_behind step names) (frames_behind step frames) fit.1)

-- one record comes last
pub record Appended (records : List RingRecord) (one : RingRecord) (steps : List Step) (names : List (List ℕ)) (frames : List ℕ) : Type 0 where
  pub fit : FitTogether steps names frames
  pub records_are : records_by steps names frames ≡ records ++ one ∷ []

-- a step comes last, with its parts
pub appended : (steps : List Step) (names : List (List ℕ)) (frames : List ℕ) (step : Step) (names' : List (List ℕ)) (frames' : List ℕ) {all_steps : List Step} {all_names : List (List ℕ)} {all_frames : List ℕ} {records : List RingRecord} {one : RingRecord}
    → FitTogether steps names frames → FitTogether (step ∷ []) names' frames' → records_by steps names frames ≡ records → record_by step names' frames' ≡ one
    → all_steps ≡ steps ++ step ∷ [] → all_names ≡ names ++ names' → all_frames ≡ frames ++ frames' → Appended records one all_steps all_names all_frames
appended steps names frames step names' frames' {one = one} fit last are is is_steps is_names is_frames = record {
  fit = rw (is_steps, is_names, is_frames) (fit_more names' frames' (step ∷ []) steps names frames fit last);
  records_are = rw (is_steps, is_names, is_frames) (records_by_more names' frames' (step ∷ []) steps names frames fit ∙ ap (λ told. records_by steps names frames ++ told ∷ []) is ∙ ap (λ records. records ++ one ∷ []) are);
}

take_whole : (frames : List ℕ) → take (length frames) frames ≡ frames
take_whole [] = refl
take_whole (frame ∷ frames) = ap (λ frames. frame ∷ frames) (take_whole frames)

-- a row has its frames and no more
pub whole_row_fits : (frames : List ℕ) (weight : ℕ) → FitTogether (Row (length frames) weight ∷ []) [] frames
whole_row_fits frames weight = (omega arith, (refl, front_rest frames frames [] (sym (append-nil frames))))

pub whole_row_is : (frames : List ℕ) (weight : ℕ) → record_by (Row (length frames) weight) [] frames ≡ one.Row frames weight
whole_row_is frames weight = ap (λ row. one.Row row weight) (take_whole frames)

pub as_many_records : (steps : List Step) (names : List (List ℕ)) (frames : List ℕ) → length (records_by steps names frames) ≡ length steps
as_many_records [] names frames = refl
as_many_records (step ∷ steps) names frames = ap (λ n. suc n) (as_many_records steps (names_behind step names) (frames_behind step frames))

-- of these records those of the steps are still to come, and this holds of the others
pub record StillToCome (all : List RingRecord) (Holds : List RingRecord → Type 0) (steps : List Step) (names : List (List ℕ)) (frames : List ℕ) : Type 0 where
  pub front : List RingRecord
  pub is_all : front ++ records_by steps names frames ≡ all
  pub fit : FitTogether steps names frames
  pub holds : Holds front

module _ {all : List RingRecord} {Holds : List RingRecord → Type 0} where
  pub along_steps : {steps steps' : List Step} {names : List (List ℕ)} {frames : List ℕ} → steps ≡ steps' → StillToCome all Holds steps names frames → StillToCome all Holds steps' names frames
  along_steps {names = names} {frames} is = subst (λ steps. StillToCome all Holds steps names frames) is

  -- what holds of all records holds of the one that comes next
  pub next_of : {step : Step} {steps : List Step} {names : List (List ℕ)} {frames : List ℕ} (P : RingRecord → Type 0) → StillToCome all Holds (step ∷ steps) names frames → All P all → P (record_by step names frames)
  next_of {step} {steps} {names} {frames} P left every = behind left.front (subst (All P) (sym left.is_all) every)
    where
      behind : (front : List RingRecord) → All P (front ++ records_by (step ∷ steps) names frames) → P (record_by step names frames)
      behind [] every = All-head P _ _ every
      behind (one ∷ front) every = behind front (All-tail P one _ every)

  -- that one came
  pub one_came : {Holds' : List RingRecord → Type 0} {step : Step} {steps : List Step} {names names' : List (List ℕ)} {frames frames' : List ℕ} (left : StillToCome all Holds (step ∷ steps) names frames)
      → names' ≡ names_behind step names → frames' ≡ frames_behind step frames → Holds' (left.front ++ record_by step names frames ∷ []) → StillToCome all Holds' steps names' frames'
  one_came {Holds'} {step} {steps} {names} {frames = frames} {frames'} left is_names is_frames holds =
      subst (λ ns. StillToCome all Holds' steps ns frames') (sym is_names) (subst (StillToCome all Holds' steps (names_behind step names)) (sym is_frames) (record {
        front = left.front ++ record_by step names frames ∷ [];
        is_all = append_assoc left.front (record_by step names frames ∷ []) (records_by steps (names_behind step names) (frames_behind step frames)) ∙ left.is_all;
        fit = left.fit.1;
        holds = holds;
      }))

  -- none is left
  pub all_came : {names : List (List ℕ)} {frames : List ℕ} → StillToCome all Holds [] names frames → Holds all
  all_came left = subst Holds (sym (append-nil left.front) ∙ left.is_all) left.holds
