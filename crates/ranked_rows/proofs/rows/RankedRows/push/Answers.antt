use Rattle.std.proofs.Common.{◌≡◌, ◌∙◌, ◌≤◌, ◌++◌, ◌∷◌, [], ap, map, length, length-append, arith, slice_index}
use Rattle.std.proofs.lemmas.List.Elements.{All-push, All-same}
use Rattle.ranked_rows.specs.declared.rows.RankedRow.{RankedRow}
use Rattle.ranked_rows.proofs.JoinedRows.{row_taken, within_grown}
use Rattle.ranked_rows.proofs.rows.RankedRows.push.Goals as goal

pub invariant_of-self : goal.invariant_of-self
invariant_of-self c =
    within_grown c.self.inside.frames.items c.append_ranks.ensures.grows.0 c.append_ranks.new.frames.items c.self.inside.rows.items c.append_ranks.ensures.grows.1 c.self.invariant

pub invariant_of-self-in_err-push : goal.invariant_of-self-in_err-push
invariant_of-self-in_err-push c =
    All-same (λ (row : RankedRow). (row.start ≤ row.end) × (row.end ≤ length c.append_ranks.new.frames.items)) _ _ c.in_err-push.ensures.items
    (within_grown c.self.inside.frames.items c.append_ranks.ensures.grows.0 c.append_ranks.new.frames.items c.self.inside.rows.items c.append_ranks.ensures.grows.1 c.self.invariant)

pub invariant_of-self-2 : goal.invariant_of-self-2
invariant_of-self-2 c =
    let frames = c.self.inside.frames.items in
    let new = c.append_ranks.new.frames.items in
    let more = c.append_ranks.ensures.grows in
    let start : c.len-start.result ≡ length frames = omega (arith, c.len-start.ensures, c.self.inside.frames.ok.0) in
    let end : c.len-end.result ≡ length new = omega (arith, c.len-end.ensures, c.append_ranks.new.frames.ok.0) in
    let within = λ (row : RankedRow). (row.start ≤ row.end) × (row.end ≤ length new) in
    All-same within _ _ c.in_ok-push.ensures.items
    (All-push within c.self.inside.rows.items (record { start = c.len-start.result; end = c.len-end.result; weight = c.args.weight }) (within_grown frames more.0 new c.self.inside.rows.items more.1 c.self.invariant)
    (omega (arith, start, end, ap length more.1, length-append frames more.0), omega (arith, end)))

pub returns : goal.returns
returns c =
    row_taken c.self.inside.frames.items (map (slice_index c.args.ranks.now) c.args.numbers.now) c.append_ranks.new.frames.items c.self.inside.rows.items c.push.new.self.items c.len-start.result c.len-end.result c.args.weight
    c.self.invariant c.in_ok-append_ranks.ensures.ok (omega (arith, c.len-start.ensures, c.self.inside.frames.ok.0)) (omega (arith, c.len-end.ensures, c.append_ranks.new.frames.ok.0)) c.in_ok-push.ensures.items
    ∙ ap (λ rows. rows ++ (map (slice_index c.args.ranks.now) c.args.numbers.now, c.args.weight) ∷ []) c.self.view_is
