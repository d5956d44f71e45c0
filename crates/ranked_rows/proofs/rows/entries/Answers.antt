use Rattle.std.proofs.Common.{◌∙◌, ◌++◌, ◌∷◌, [], ap, sym, map, take, get_or, subst, All, List, arith, length}
use Rattle.ranked_rows.specs.declared.rows.RankedRow.{RankedRow}
use Rattle.std.proofs.lemmas.List.{map_push, map_more, take_all}
use Rattle.std.proofs.lemmas.List.Elements.{All-push}
use Rattle.ranked_rows.specs.checked.Entries.{Entry, ranked_row, ranked_entry, IsEntryOf}
use Rattle.ranked_rows.proofs.rows.entries.Goals as goal

abbrev no_row : RankedRow
no_row = record { start = 0; end = 0; weight = 0 }

pub loop-row-preserved : goal.loop-row-preserved
loop-row-preserved c = record {
  ranked = ap (map ranked_entry) c.in_ok-push.ensures.items ∙ map_push ranked_entry c.loop-row.all.items c.entry.result
      ∙ (λ i. c.loop-row.invariant.ranked i ++ c.entry.ensures.ranked i ∷ [])
      ∙ ap (λ xs. map (ranked_row c.args.frames.now) (take c.loop-row.row-index c.args.rows.items) ++ ranked_row c.args.frames.now (get_or xs c.loop-row.row-index no_row) ∷ []) c.deref-row-items.ensures.value
      ∙ sym (map_more (ranked_row c.args.frames.now) c.args.rows.items c.loop-row.row-index no_row (omega (arith, ap length c.deref-row-items.ensures.value)));
  within = subst (λ (xs : List Entry). All (IsEntryOf c.args.frames.now) xs) (sym c.in_ok-push.ensures.items) (All-push (IsEntryOf c.args.frames.now) c.loop-row.all.items c.entry.result c.loop-row.invariant.within c.entry.ensures.within);
}

pub returns-clause-ranked : goal.returns-clause-ranked
returns-clause-ranked c =
    c.loop-row.invariant.ranked ∙ ap (map (ranked_row c.args.frames.now)) (take_all c.loop-row.row-index c.args.rows.items (omega (arith, ap length c.deref-row-items.ensures.value)))
