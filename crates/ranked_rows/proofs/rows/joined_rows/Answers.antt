use Rattle.std.proofs.Common.{◌≡◌, ◌∙◌, ap, sym, map, subst, arith, All, List, sum_by}
use Rattle.std.proofs.lemmas.Result.{IfOk-weaker}
use Rattle.std.proofs.lemmas.List.Sorted.{sum_by-IsPermutation}
use Rattle.ranked_rows.specs.Joined.{Ranked, joined}
use Rattle.ranked_rows.specs.checked.Entries.{Entry, ranked_rows, ranked_entry, IsEntryOf}
use Rattle.ranked_rows.proofs.rows.joined_rows.Goals as goal

pub join-requires-clause-within : goal.join-requires-clause-within
join-requires-clause-within g c = subst (λ (xs : List Entry). All (IsEntryOf c.args.frames.now) xs) (sym c.deref.ensures.value) c.in_ok-entries.ensures.within

pub join-requires-clause-total : goal.join-requires-clause-total
join-requires-clause-total g c =
    let weight = λ (row : Ranked). row.1 in
    let all : sum_by weight (map ranked_entry c.deref.result.now) ≡ sum_by weight (ranked_rows c.args.frames.now c.args.rows.items) =
    ap (λ xs. sum_by weight (map ranked_entry xs)) c.deref.ensures.value ∙ sum_by-IsPermutation weight _ _ c.in_ok-entries.ensures.ranked in
    omega (arith, all, c.requires.total)

pub returns-clause-joined : goal.returns-clause-joined
returns-clause-joined g c =
    IfOk-weaker c.join.result _ _ (λ all h. (
      map ranked_entry c.in_ok-entries.entries.items,
      c.in_ok-entries.ensures.ranked,
      c.in_ok-entries.ensures.ascending,
      h ∙ ap (λ xs. joined (map ranked_entry xs)) c.deref.ensures.value,
    )) c.join.ensures.joined
