use Rattle.std.proofs.Common.{◌∙◌, ◌-◌, ◌≤◌, [], ap, sym, map, drop, reverse, length, arith}
use Rattle.std.proofs.lemmas.List.{drop_all}
use Rattle.std.proofs.lemmas.List.Elements.{All-same}
use Rattle.std.proofs.lemmas.List.Sorted.{All-permutation, IsPermutation-reverse}
use Rattle.ranked_rows.specs.declared.rows.RankedRow.{RankedRow}
use Rattle.ranked_rows.specs.Joined.{joined}
use Rattle.ranked_rows.specs.checked.Entries.{Entry, ranked_row, ranked_rows, ranked_entry}
use Rattle.ranked_rows.proofs.JoinedRows.{joined-more, joined-room, map-reverse}
use Rattle.ranked_rows.proofs.rows.join.Goals as goal

abbrev no_entry : Entry
no_entry = (record { ref_ptr = (0, 0); now = [] }, 0, 0)

pub loop-index-init : goal.loop-index-init
loop-index-init c = record {
  within = All-same (λ (row : RankedRow). (row.start ≤ row.end) × (row.end ≤ length c.args.frames.now)) _ [] c.new-rows.ensures.items (λ k d lt. absurd (omega arith));
  joined = ap (λ rows. reverse (ranked_rows c.args.frames.now rows)) c.new-rows.ensures.items ∙ ap (λ entries. joined (map ranked_entry entries)) (sym (drop_all (length c.args.entries.now) c.args.entries.now (omega arith)));
}

pub loop-index-preserved : goal.loop-index-preserved
loop-index-preserved c = record {
  within = c.in_ok-put_in_front.ensures.within;
  joined = c.in_ok-put_in_front.ensures.joined
      ∙ joined-more c.args.entries.now c.loop-index.index (c.loop-index.index - 1) no_entry (reverse (ranked_rows c.args.frames.now c.loop-index.rows.items)) (omega arith) (omega arith) c.loop-index.invariant.joined;
}

pub put_in_front-requires-clause-ranks : goal.put_in_front-requires-clause-ranks
put_in_front-requires-clause-ranks c = (c.requires.within (c.loop-index.index - 1) no_entry (omega arith)).0

pub put_in_front-requires-clause-room : goal.put_in_front-requires-clause-room
put_in_front-requires-clause-room c = (c.requires.within (c.loop-index.index - 1) no_entry (omega arith)).1

pub put_in_front-requires-clause-total : goal.put_in_front-requires-clause-total
put_in_front-requires-clause-total c =
    let i = c.loop-index.index in
    omega (arith, c.requires.total, joined-room c.args.frames.now c.loop-index.rows.items c.args.entries.now i (i - 1) no_entry (omega arith) (omega arith) c.loop-index.invariant.joined)

pub returns-clause-within : goal.returns-clause-within
returns-clause-within c =
    let within = λ (row : RankedRow). (row.start ≤ row.end) × (row.end ≤ length c.args.frames.now) in
    All-same within _ _ c.reverse.ensures.items (All-permutation within _ _ (IsPermutation-reverse c.loop-index.rows.items) c.loop-index.invariant.within)

pub returns-clause-joined : goal.returns-clause-joined
returns-clause-joined c =
    ap (ranked_rows c.args.frames.now) c.reverse.ensures.items ∙ map-reverse (ranked_row c.args.frames.now) c.loop-index.rows.items ∙ c.loop-index.invariant.joined ∙ ap (λ n. joined (map ranked_entry (drop n c.args.entries.now))) {y = 0} (omega arith)
