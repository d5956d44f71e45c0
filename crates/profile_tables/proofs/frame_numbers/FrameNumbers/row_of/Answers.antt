use Rattle.std.proofs.Common.{rules, ◌++◌, sym, ◌∙◌, ap, subst}
use Rattle.stack_core.specs.Records.{names_at}
use Rattle.call_tree.proofs.NameNumbers.{IsPrefixOf-trans}
use Rattle.profile_tables.specs.checked.Frames.{frames_at}
use Rattle.profile_tables.specs.checked.FrameNumbers.{IsNumbered}
use Rattle.profile_tables.proofs.NumberLemmas.{last-id, row-more, no-more}
use Rattle.profile_tables.proofs.frame_numbers.FrameNumbers.row_of.Goals as goal

pub returns-in_err-row : goal.returns-in_err-row
returns-in_err-row c = search rules

pub loop-id-init : goal.loop-id-init
loop-id-init c = search rules

pub append-requires : goal.append-requires
append-requires c = search rules

pub returns-in_err-append : goal.returns-in_err-append
returns-in_err-append c = record {
  known = c.append.ensures.known;
  row = search rules;
  grows = IsPrefixOf-trans c.args.self.now.table c.loop-id.self.table c.append.new.self.table c.loop-id.invariant.grows c.append.ensures.grows;
}

pub loop-id-smaller-in_ok-append : goal.loop-id-smaller-in_ok-append
loop-id-smaller-in_ok-append c = search rules

pub loop-id-preserved-in_ok-append : goal.loop-id-preserved-in_ok-append
loop-id-preserved-in_ok-append c =
    let before = c.args.self.now.table in
    let so_far = c.loop-id.invariant in
    let new = c.append.new.self.table in
    let row = c.append.new.row.items in
    let told = c.in_ok-append.ensures.row before (names_at c.loop-id.self.table c.loop-id.row.items) so_far.row in
    record {
      known = c.append.ensures.known;
      row = subst (λ names. IsNumbered before names new row) (sym told.named) told;
      left = row-more c.args.frames.now before c.loop-id.self.table new _ c.loop-id.row.items row c.loop-id.left.now c.in-Some.before.now c.in-Some.id.now c.in-Some-span.span
          told c.in-Some-span.ensures c.in-Some.ensures.cases.0 so_far.left;
      grows = IsPrefixOf-trans before c.loop-id.self.table new so_far.grows c.append.ensures.grows;
    }

pub loop-id-smaller : goal.loop-id-smaller
loop-id-smaller c = search rules

pub loop-id-preserved : goal.loop-id-preserved
loop-id-preserved c = record {
  known = c.loop-id.invariant.known;
  row = c.loop-id.invariant.row;
  left =
      ap (λ names. names_at c.loop-id.self.table c.loop-id.row.items ++ names)
      (sym (last-id (frames_at c.args.frames.now) c.loop-id.left.now c.in-Some.before.now c.in-Some.id.now _ c.in-Some.ensures.cases.0 c.in_default-span.ensures))
      ∙ c.loop-id.invariant.left;
  grows = c.loop-id.invariant.grows;
}

pub returns : goal.returns
returns c = record {
  known = c.loop-id.invariant.known;
  row = subst (λ names. IsNumbered c.args.self.now.table names c.loop-id.self.table c.loop-id.row.items)
      (no-more (frames_at c.args.frames.now) c.loop-id.left.now _ _ c.in_default.ensures.cases c.loop-id.invariant.left)
      c.loop-id.invariant.row;
  grows = c.loop-id.invariant.grows;
}
