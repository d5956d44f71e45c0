use Rattle.std.proofs.Common.{◌≡◌, ◌∙◌, ◌++◌, ◌∷◌, [], List, ap, arith, length, map, refl, rules, subst, sym}
use Rattle.sample_tables.specs.Rows.{name_at}
use Rattle.sample_tables.specs.Tables.{Table}
use Rattle.merging.proofs.SummedLemmas.{AreKept, kept-len, names-come, stack-comes}
use Rattle.merging.proofs.summed_stacks.SummedStacks.keep.Goals.{After-push_reserved, After-reserve, In_err-keep}
use Rattle.merging.proofs.summed_stacks.SummedStacks.keep.Goals as goal

-- what is kept, with room for a sum more
kept : (c : After-reserve) → AreKept c.number_frames.new.table.names c.number_frames.new.table.stacks c.reserve.new.self.items c.args.self.now
kept c =
    let s = c.self.inside in
    let came = c.number_frames.new.table in
    names-come s.table.names came.names s.table.stacks came.stacks s.sums.items c.reserve.new.self.items c.args.self.now (record { summed = c.self.invariant; are = c.self.view_is }) c.number_frames.ensures.names c.number_frames.ensures.stacks c.reserve.ensures.items

refused : (c : In_err-keep) → AreKept c.number_frames.new.table.names c.number_frames.new.table.stacks c.reserve.new.self.items c.args.self.now → AreKept c.keep.new.self.names c.keep.new.self.stacks c.reserve.new.self.items c.args.self.now
refused c kept = subst (λ (t : Table). AreKept t.names t.stacks c.reserve.new.self.items c.args.self.now) (sym c.in_err-keep.ensures.refused) kept

more : (c : After-push_reserved) → AreKept c.number_frames.new.table.names c.number_frames.new.table.stacks c.reserve.new.self.items c.args.self.now → AreKept c.keep.new.self.names c.keep.new.self.stacks c.push_reserved.new.self.items (c.args.self.now ++ record { stack = map (name_at c.args.ledger.now.told) c.args.frames.now; weight = 0 } ∷ [])
more c kept =
    let came = c.number_frames.new.table in
    stack-comes came.names came.stacks c.keep.new.self c.reserve.new.self.items c.push_reserved.new.self.items c.deref.result.now c.number_frames.new.numbers.items _ c.args.self.now kept c.in_ok-number_frames.ensures.numbers c.deref.ensures.value
    (ap (λ (t : Table). t.names) c.in_ok-keep.ensures.ok) (ap (λ (t : Table). t.stacks) c.in_ok-keep.ensures.ok) c.push_reserved.ensures.items

pub returns-in_err-number_frames-clause-refused : goal.returns-in_err-number_frames-clause-refused
returns-in_err-number_frames-clause-refused c =
    let s = c.self.inside in
    let came = c.number_frames.new.table in
    let kept = (names-come s.table.names came.names s.table.stacks came.stacks s.sums.items s.sums.items c.args.self.now (record { summed = c.self.invariant; are = c.self.view_is }) c.number_frames.ensures.names c.number_frames.ensures.stacks refl).are in
    search (rules, kept)

pub invariant_of-self-in_err-reserve : goal.invariant_of-self-in_err-reserve
invariant_of-self-in_err-reserve c = (kept (goal.at.invariant_of-self-in_err-reserve c).After-reserve).summed

pub returns-in_err-reserve-clause-refused : goal.returns-in_err-reserve-clause-refused
returns-in_err-reserve-clause-refused c =
    let kept = (kept (goal.at.returns-in_err-reserve-clause-refused c).After-reserve).are in
    search (rules, kept)

pub invariant_of-self-in_err-keep : goal.invariant_of-self-in_err-keep
invariant_of-self-in_err-keep c = (refused (goal.at.invariant_of-self-in_err-keep c).In_err-keep (kept (goal.at.invariant_of-self-in_err-keep c).After-reserve)).summed

pub returns-in_err-keep-clause-refused : goal.returns-in_err-keep-clause-refused
returns-in_err-keep-clause-refused c =
    let kept = (refused (goal.at.returns-in_err-keep-clause-refused c).In_err-keep (kept (goal.at.returns-in_err-keep-clause-refused c).After-reserve)).are in
    search (rules, kept)

pub invariant_of-self-2 : goal.invariant_of-self-2
invariant_of-self-2 c = (more (goal.at.invariant_of-self-2 c).After-push_reserved (kept (goal.at.invariant_of-self-2 c).After-reserve)).summed

pub returns-clause-kept : goal.returns-clause-kept
returns-clause-kept c = (more (goal.at.returns-clause-kept c).After-push_reserved (kept (goal.at.returns-clause-kept c).After-reserve)).are

pub returns-clause-place : goal.returns-clause-place
returns-clause-place c =
    let s = c.self.inside in
    omega (arith, ap length c.self.view_is, kept-len s.table.names s.table.stacks s.sums.items c.self.invariant.len, ap length c.number_frames.ensures.stacks, c.stack_count-place.ensures)
