-- Frames by the numbers of their names: names that come later change none, and a row grows name by name.
use Rattle.std.proofs.Common.{◌≡◌, ℕ, ◌+◌, ◌-◌, ◌<◌, ◌≤◌, List, [], ◌∷◌, ◌++◌, length, Some, get_or, slice_get, take, drop, reverse, sym, ◌∙◌, ap, subst, drop-cons, add-one, arith, suc, length-append, append_assoc, append-nil, Option}
use Rattle.std.specs.Prelude.{Result, Ok, Err, OnOk, OnErr, unwrap_or}
use Rattle.std.specs.List.{slice_range}
use Rattle.std.proofs.lemmas.List.{get_or_append_left, map-append, reverse-append}
use Rattle.std.proofs.lemmas.List.Elements.{All-append, All-cons, All-nil}
use Rattle.std.proofs.lemmas.Option.{get_or_from_slice_get, slice_get_within, slice_get-get_or}
use Rattle.call_tree.proofs.Names.{with_name_known}
use Rattle.call_tree.proofs.NameNumbers.{IsPrefixOf-refl, with_stack_push, numbers-longer, names_at-longer, IsPrefixOf-with_name}
use Rattle.stack_core.specs.NamesInOrder.{with_name}
use Rattle.stack_core.specs.Prefixes.{IsPrefixOf}
use Rattle.sample_tables.specs.Rows.{name_at}
use Rattle.profile_tables.specs.declared.frames.Frames.{Frames}
use Rattle.stack_core.specs.Records.{names_at}
use Rattle.profile_messages.specs.declared.messages.Span.{Span}
use Rattle.profile_tables.specs.Samples.{frames_of_ids, stack_of_ids}
use Rattle.profile_tables.specs.checked.Frames.{frames_at}
use Rattle.profile_tables.specs.checked.FrameNumbers.{all_texts, text_at, root_first, IsPlaceOf, AreKept, IsNumbered}

-- ---- names behind others

-- a known name changes nothing
pub known-again : (names : List (List ℕ)) (name : List ℕ) (number : ℕ) → slice_get names number ≡ Some name → names ≡ with_name names name
known-again names name number at =
    sym (with_name_known names name number (record { below = slice_get_within names number name at; is = get_or_from_slice_get names number name [] at }))

still-at : (old new : List (List ℕ)) (number : ℕ) (name : List ℕ) → IsPrefixOf old new → slice_get old number ≡ Some name → slice_get new number ≡ Some name
still-at old new number name grown at =
    let below = slice_get_within old number name at in
    let longer : length new ≡ length old + length grown.0 = ap (λ (list : List (List ℕ)). length list) (sym grown.1) ∙ length-append old grown.0 in
    slice_get-get_or new number [] (omega (arith, below, longer))
    ∙ ap Some (ap (λ (list : List (List ℕ)). get_or list number []) (sym grown.1) ∙ get_or_append_left old grown.0 [] number below ∙ get_or_from_slice_get old number name [] at)

-- ---- kept numbers

pub kept-grown : (texts : ℕ → List ℕ) (old new : List (List ℕ)) (kept : List ℕ) → IsPrefixOf old new → AreKept texts old kept → AreKept texts new kept
kept-grown texts old new kept grown is place number at = still-at old new number (texts place) grown (is place number at)

-- a table that is asked for a name, and may want memory, keeps those before
pub grown-by : {E : Type 0} (asked : Result ℕ E) (old new : List (List ℕ)) (name : List ℕ) → OnOk asked (new ≡ with_name old name) → OnErr asked (new ≡ old) → IsPrefixOf old new
grown-by (Ok number) old new name is _ = subst (IsPrefixOf old) (sym is) (IsPrefixOf-with_name old name)
grown-by (Err refused) old new name _ is = subst (IsPrefixOf old) (sym is) (IsPrefixOf-refl old)

-- ---- a row

-- one name more
pub numbered-push : (before stack old new : List (List ℕ)) (row : List ℕ) (number : ℕ) (name : List ℕ) → IsNumbered before stack old row → new ≡ with_name old name → slice_get new number ≡ Some name → IsNumbered before (stack ++ name ∷ []) new (row ++ number ∷ [])
numbered-push before stack old new row number name is grown at =
    let grows : IsPrefixOf old new = subst (IsPrefixOf old) (sym grown) (IsPrefixOf-with_name old name) in
    record {
      in_order = grown ∙ ap (λ names. with_name names name) is.in_order ∙ sym (with_stack_push before stack name);
      named =
          map-append (name_at new) row (number ∷ [])
          ∙ ap (λ front. front ++ name_at new number ∷ []) (names_at-longer old new row grows is.within ∙ is.named)
          ∙ ap (λ last. stack ++ last ∷ []) (get_or_from_slice_get new number name [] at);
      within = All-append (λ n. n < length new) row (number ∷ []) (numbers-longer old new row grows is.within)
          (All-cons (λ n. n < length new) number [] (slice_get_within new number name at) (All-nil (λ n. n < length new)));
    }

-- ---- the frames of a location, from the last one on

range-cons : (texts : List (List ℕ)) (start past : ℕ) → start < past → past ≤ length texts → slice_range texts start past ≡ get_or texts start [] ∷ slice_range texts (start + 1) past
range-cons texts start past lt le =
    let size : past - start ≡ suc (past - (start + 1)) = omega arith in
    ap (take (past - start)) (drop-cons texts start [] (omega arith))
    ∙ ap (λ n. take n (get_or texts start [] ∷ drop (suc start) texts)) size
    ∙ ap (λ n. get_or texts start [] ∷ take (past - (start + 1)) (drop n texts)) (sym (add-one start))

pub root_first-step : (frames : Frames) (start past : ℕ) → start < past → past ≤ length (all_texts frames) → root_first frames start past ≡ root_first frames (start + 1) past ++ text_at frames start ∷ []
root_first-step frames start past lt le =
    ap reverse (range-cons (all_texts frames) start past lt le)
    ∙ reverse-append (text_at frames start ∷ []) (slice_range (all_texts frames) (start + 1) past)

-- ---- the ids of a sample, from the last one on

-- the frames of the last id come first
pub last-id : (at_id : ℕ → Option (List (List ℕ))) (ids before : List ℕ) (id : ℕ) (found : Option (List (List ℕ))) → ids ≡ before ++ id ∷ [] → at_id id ≡ found → stack_of_ids at_id ids ≡ unwrap_or found [] ++ stack_of_ids at_id before
last-id at_id ids before id found is at =
    ap (stack_of_ids at_id) is ∙ ap (frames_of_ids at_id) (reverse-append before (id ∷ []))
    ∙ ap (λ frames. unwrap_or frames [] ++ stack_of_ids at_id before) at

pub row-more : (frames : Frames) (before old new whole : List (List ℕ)) (row row' ids left : List ℕ) (id : ℕ) (span : Span) → IsNumbered before (names_at old row ++ root_first frames span.start span.end) new row' → IsPlaceOf frames id (Some span) → ids ≡ left ++ id ∷ [] → names_at old row ++ stack_of_ids (frames_at frames) ids ≡ whole → names_at new row' ++ stack_of_ids (frames_at frames) left ≡ whole
row-more frames before old new whole row row' ids left id span told place is so_far =
    ap (λ names. names ++ stack_of_ids (frames_at frames) left) told.named
    ∙ append_assoc (names_at old row) (root_first frames span.start span.end) (stack_of_ids (frames_at frames) left)
    ∙ ap (λ names. names_at old row ++ names) (sym (last-id (frames_at frames) ids left id _ is place.2))
    ∙ so_far

-- no id is left
pub no-more : (at_id : ℕ → Option (List (List ℕ))) (left : List ℕ) (names whole : List (List ℕ)) → length left ≡ 0 → names ++ stack_of_ids at_id left ≡ whole → names ≡ whole
no-more at_id [] names whole none is = sym (append-nil names) ∙ is
no-more at_id (id ∷ left) names whole none is = absurd (omega (arith, none))
