use Rattle.std.proofs.Common.{◌≡◌, ◌∙◌, ◌+◌, ◌<◌, ℕ, List, sym, ap, subst, length, get_or, set, take, map, arith}
use Rattle.std.proofs.lemmas.List.{get_or_default, length-set, length-map}
use Rattle.sample_tables.specs.Rows.{Row, named}
use Rattle.sample_tables.specs.declared.samples.Sample.{Sample}
use Rattle.merged_stacks.specs.checked.Kept.{ArePicked}
use Rattle.merged_stacks.proofs.KeptStacks.{picked_more, picked_room, row_weight}
use Rattle.merged_stacks.proofs.list_sums.add_sample.Goals as goal

-- a sample is that of a row
has_row : (told : List (List ℕ)) (rows : List Row) (samples : List Sample) (i : ℕ) → samples ≡ map (named told) rows → i < length samples → i < length rows
has_row told rows samples i is lt = omega (arith, lt, ap length is, length-map rows (named told))

pub overflow_add-index_mut : goal.overflow_add-index_mut
overflow_add-index_mut c =
    let list = c.args.list.now in
    let i = c.args.at in
    let sums = c.args.sums.now.items in
    let k = c.stack_number.result in
    let named = c.len-count.ensures.named.samples_named in
    let within = has_row list.told list.rows list.samples i named c.requires.at in
    let kept : k < length sums = omega (arith, c.stack_number.ensures.kept, c.requires.len) in
    let old : c.index_mut.result.now ≡ get_or sums k 0 = c.index_mut.ensures.value ∙ get_or_default sums k c.index_mut.result.now 0 kept in
    let weight = c.weight.ensures.value ∙ row_weight list.told list.rows list.samples i named within in
    omega (arith, c.requires.total, old, picked_room list.told list.stacks sums list.rows list.samples i k c.weight.result named c.requires.len within weight c.requires.picked)

pub returns-clause-len : goal.returns-clause-len
returns-clause-len c = length-set c.args.sums.now.items c.stack_number.result (c.index_mut.result.now + c.weight.result) ∙ c.requires.len

pub returns-clause-picked : goal.returns-clause-picked
returns-clause-picked c =
    let list = c.args.list.now in
    let i = c.args.at in
    let sums = c.args.sums.now.items in
    let k = c.stack_number.result in
    let named = c.len-count.ensures.named.samples_named in
    let within = has_row list.told list.rows list.samples i named c.requires.at in
    let kept : k < length sums = omega (arith, c.stack_number.ensures.kept, c.requires.len) in
    let old : c.index_mut.result.now ≡ get_or sums k 0 = c.index_mut.ensures.value ∙ get_or_default sums k c.index_mut.result.now 0 kept in
    let weight = c.weight.ensures.value ∙ row_weight list.told list.rows list.samples i named within in
    subst (λ n. ArePicked list.stacks (set sums k (n + c.weight.result)) (take (i + 1) list.rows)) (sym old)
    (picked_more list.stacks sums list.rows i k c.weight.result c.requires.len c.stack_number.ensures.kept within c.stack_number.ensures.frames weight c.requires.picked)
