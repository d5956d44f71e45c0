use Rattle.std.proofs.Common.{◌≡◌, ◌∙◌, ◌∷◌, [], List, refl, ap, sym, map, subst, IsPermutation}
use Rattle.std.proofs.lemmas.Result.{IfOk-weaker}
use Rattle.std.proofs.lemmas.List.Sorted.{IsPermutation-map}
use Rattle.ranked_rows.specs.Joined.{Ranked}
use Rattle.ranked_rows.specs.checked.Entries.{Entry, ranked_rows, ranked_entry}
use Rattle.ranked_rows.proofs.rows.RankedRows.weights_in_order.Goals as goal

entry_weights : (entries : List Entry) → map (λ (entry : Entry). entry.1) entries ≡ map (λ (row : Ranked). row.1) (map ranked_entry entries)
entry_weights [] = refl
entry_weights (entry ∷ entries) = ap (λ weights. entry.1 ∷ weights) (entry_weights entries)

pub returns : goal.returns
returns c =
    let weigh = map (λ (row : Ranked). row.1) in
    let new = c.in_ok-entries.entries.items in
    let all : ranked_rows c.deref.result.now c.self.inside.rows.items ≡ c.args.self = ap (λ frames. ranked_rows frames c.self.inside.rows.items) c.deref.ensures.value ∙ c.self.view_is in
    IfOk-weaker c.weights.result _ _ (λ weights h.
    subst (IsPermutation (weigh c.args.self)) (sym (h ∙ ap (map (λ (entry : Entry). entry.1)) c.deref-2.ensures.value ∙ entry_weights new))
    (subst (λ rows. IsPermutation (weigh rows) (weigh (map ranked_entry new))) all (IsPermutation-map (λ (row : Ranked). row.1) _ _ c.in_ok-entries.ensures.ranked))) c.weights.ensures
