-- the runs of a stack by where they end
use Rattle.std.proofs.Common.{add-one, ◌≡◌, ℕ, ◌+◌, ◌-◌, ◌≤◌, ◌<◌, List, [], ◌∷◌, ◌++◌, length, take, get_or, set, sym, ◌∙◌, ap, refl, arith, ⊎_elim}
use Rattle.std.specs.List.{enumerate_from}
use Rattle.std.proofs.lemmas.List.{same_lists, get_or-map, get_or-take, get_or_append_left, get_or-append_right, get_or-set_same, get_or-set_other, length-set, length-append, length-take-le, length-map, get_or_default}
use Rattle.std.proofs.lemmas.List.FromFn.{length-enumerate_from, get_or-enumerate_from}
use Rattle.std.proofs.lemmas.Bool.{cases_lt, cases_eq}
use Rattle.flame_layout.specs.declared.chart_walks.OpenEnd.{OpenEnd}
use Rattle.merged_stacks.specs.Timeline.{Stack}
use Rattle.flame_layout.specs.Chart.{names_shared, box_name}
use Rattle.flame_layout.specs.checked.Walk.{Run, new_run, names_of}
use Rattle.flame_layout.specs.checked.ChartWalks.{named_run, named_runs}
use Rattle.flame_layout.proofs.Shared.{alike_from_shared}
use Rattle.flame_layout.proofs.Walked.{box_name-alike}
use Rattle.flame_layout.proofs.WalkSteps.{names_of-at, names_of-length}

pub no_end : OpenEnd
no_end = record { end = 0; own = 0 }

pub named_runs-length : (stack : Stack) (ends : List OpenEnd) → length (named_runs stack ends) ≡ length ends
named_runs-length stack ends = length-map (enumerate_from 0 ends) (named_run stack) ∙ length-enumerate_from 0 ends

pub named_runs-at : (stack : Stack) (ends : List OpenEnd) (k : ℕ) (e : OpenEnd) (d : Run) → k < length ends → get_or (named_runs stack ends) k d ≡ named_run stack (k, get_or ends k e)
named_runs-at stack ends k e d h =
    get_or-map (named_run stack) (enumerate_from 0 ends) k (0, e) d (omega (arith, h, length-enumerate_from 0 ends))
    ∙ ap (named_run stack) (get_or-enumerate_from 0 ends k (0, e) h ∙ ap (λ n. (n, get_or ends k e)) (omega arith))

-- their names are the stack
pub named_runs-names : (stack : Stack) (ends : List OpenEnd) → length ends ≡ length stack + 1 → names_of (named_runs stack ends) ≡ stack
named_runs-names stack ends h = same_lists _ _ long each
  where
    long : length (names_of (named_runs stack ends)) ≡ length stack
    long = names_of-length (named_runs stack ends) ∙ omega (arith, h, named_runs-length stack ends)

    each : (k : ℕ) (d : List ℕ) → k < length (names_of (named_runs stack ends)) → get_or (names_of (named_runs stack ends)) k d ≡ get_or stack k d
    each k d lt =
        let within : k < length stack = omega (arith, lt, long) in
        let some : Run = named_run stack (0, no_end) in
        get_or_default (names_of (named_runs stack ends)) k d [] lt
        ∙ (names_of-at (named_runs stack ends) k some (omega (arith, within, h, named_runs-length stack ends))
        ∙ (ap (λ (run : Run). run.name) (named_runs-at stack ends (k + 1) no_end some (omega (arith, within, h)))
        ∙ (rw (add-one k) refl ∙ get_or_default stack k [] d within)))

-- those that are kept of the runs of a stack are those of a stack that begins with the same names
pub named_runs-kept : (stack other : Stack) (ends : List OpenEnd) (keep : ℕ) → keep ≤ names_shared stack other + 1 → keep ≤ length ends →
    named_runs stack (take keep ends) ≡ take keep (named_runs other ends)
named_runs-kept stack other ends keep few there = same_lists _ _ long each
  where
    left : length (named_runs stack (take keep ends)) ≡ keep
    left = named_runs-length stack (take keep ends) ∙ length-take-le keep ends there

    long : length (named_runs stack (take keep ends)) ≡ length (take keep (named_runs other ends))
    long = left ∙ sym (length-take-le keep (named_runs other ends) (omega (arith, there, named_runs-length other ends)))

    each : (k : ℕ) (d : Run) → k < length (named_runs stack (take keep ends)) → get_or (named_runs stack (take keep ends)) k d ≡ get_or (take keep (named_runs other ends)) k d
    each k d lt =
        let below : k < keep = omega (arith, lt, left) in
        let name : box_name k stack ≡ box_name k other = box_name-alike k stack other (alike_from_shared stack other k (omega (arith, below, few))) in
        let going = get_or ends k no_end in
        named_runs-at stack (take keep ends) k no_end d (omega (arith, below, length-take-le keep ends there))
        ∙ (ap (λ e. named_run stack (k, e)) (get_or-take keep ends k no_end below)
        ∙ ((λ i. record { name = name i; end = going.end; own = going.own })
        ∙ (sym (named_runs-at other ends k no_end d (omega (arith, below, there)))
        ∙ sym (get_or-take keep (named_runs other ends) k d below))))

-- one more end is one more run
pub runs-pushed : (stack : Stack) (ends : List OpenEnd) (end : ℕ) →
    named_runs stack (ends ++ record { end = end; own = 0 } ∷ []) ≡ named_runs stack ends ++ new_run stack end (length ends) ∷ []
runs-pushed stack ends end = same_lists _ _ (left ∙ sym right) each
  where
    more : List OpenEnd
    more = ends ++ record { end = end; own = 0 } ∷ []

    left : length (named_runs stack more) ≡ length ends + 1
    left = named_runs-length stack more ∙ length-append ends _

    right : length (named_runs stack ends ++ new_run stack end (length ends) ∷ []) ≡ length ends + 1
    right = length-append (named_runs stack ends) _ ∙ omega (arith, named_runs-length stack ends)

    each : (k : ℕ) (d : Run) → k < length (named_runs stack more) → get_or (named_runs stack more) k d ≡ get_or (named_runs stack ends ++ new_run stack end (length ends) ∷ []) k d
    each k d lt =
        let within : k < length more = omega (arith, lt, left, length-append ends (record { end = end; own = 0 } ∷ [])) in
        named_runs-at stack more k no_end d within ∙ (⊎_elim
        (λ h. ap (λ e. named_run stack (k, e)) (get_or_append_left ends _ no_end k h) ∙ (sym (named_runs-at stack ends k no_end d h) ∙ sym (get_or_append_left (named_runs stack ends) _ d k (omega (arith, h, named_runs-length stack ends)))))
        (λ h.
        let last : k ≡ length ends = omega (arith, h, lt, left) in
        let first : k - length ends ≡ 0 = omega (arith, last) in
        let read : get_or more k no_end ≡ record { end = end; own = 0 } = get_or-append_right ends _ (length ends) k no_end refl h ∙ ap (λ n. get_or (record { end = end; own = 0 } ∷ []) n no_end) first in
        ap (λ e. named_run stack (k, e)) read ∙ (ap (λ n. new_run stack end n) last ∙ sym (get_or-append_right (named_runs stack ends) _ (length ends) k d (named_runs-length stack ends) h ∙ ap (λ n. get_or (new_run stack end (length ends) ∷ []) n d) first)))
        (cases_lt k (length ends)))

-- more of an own weight
pub named_runs-set : (stack : Stack) (ends : List OpenEnd) (at : ℕ) (going : OpenEnd) → at < length ends →
    named_runs stack (set ends at going) ≡ set (named_runs stack ends) at (named_run stack (at, going))
named_runs-set stack ends at going h = same_lists _ _ long each
  where
    left : length (named_runs stack (set ends at going)) ≡ length ends
    left = named_runs-length stack (set ends at going) ∙ length-set ends at going

    long : length (named_runs stack (set ends at going)) ≡ length (set (named_runs stack ends) at (named_run stack (at, going)))
    long = left ∙ sym (length-set (named_runs stack ends) at (named_run stack (at, going)) ∙ named_runs-length stack ends)

    each : (k : ℕ) (d : Run) → k < length (named_runs stack (set ends at going)) → get_or (named_runs stack (set ends at going)) k d ≡ get_or (set (named_runs stack ends) at (named_run stack (at, going))) k d
    each k d lt =
        let within : k < length ends = omega (arith, lt, left) in
        named_runs-at stack (set ends at going) k no_end d (omega (arith, within, length-set ends at going)) ∙ (⊎_elim
        (λ e. ap (λ n. named_run stack (n, get_or (set ends at going) n no_end)) e ∙ (ap (λ o. named_run stack (at, o)) (get_or-set_same ends at going no_end h)
        ∙ sym (ap (λ n. get_or (set (named_runs stack ends) at (named_run stack (at, going))) n d) e ∙ get_or-set_same (named_runs stack ends) at (named_run stack (at, going)) d (omega (arith, h, named_runs-length stack ends)))))
        (λ ne. ap (λ o. named_run stack (k, o)) (get_or-set_other ends at k going no_end ne)
        ∙ (sym (named_runs-at stack ends k no_end d within) ∙ sym (get_or-set_other (named_runs stack ends) at k (named_run stack (at, going)) d ne)))
        (cases_eq k at))
