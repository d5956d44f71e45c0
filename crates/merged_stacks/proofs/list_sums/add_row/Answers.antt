use Rattle.std.proofs.Common.{◌≡◌, ◌∙◌, ◌<◌, sym, ap, subst, map, length, arith, All, slice_index}
use Rattle.std.proofs.lemmas.List.{length-map}
use Rattle.std.proofs.lemmas.Result.{on_ok_weaker}
use Rattle.sample_tables.specs.Rows.{name_at, named}
use Rattle.merged_stacks.proofs.JoinedStacks.{sums_same, sums_gathered, ranked_stack, ranked_below}
use Rattle.merged_stacks.proofs.list_sums.add_row.Goals as goal

pub returns-then-weight-eq0 : goal.returns-then-weight-eq0
returns-then-weight-eq0 c names told samples by sums = sums_same names samples c.args.rows.now sums _ c.if-weight-eq0.true

pub returns : goal.returns
returns c =
    on_ok_weaker c.add.result (λ gathered names told samples by sums.
    let long : length told ≡ length c.args.ranks.now = sym (ap length by.named) ∙ length-map c.args.ranks.now (name_at names) in
    let known : All (λ number. number < length told) c.args.numbers.now = subst (λ n. All (λ number. number < n) c.args.numbers.now) (sym long) c.requires.known in
    sums_gathered names samples c.args.rows.now sums (named told (record { frames = c.args.numbers.now; weight = c.args.weight })) (map (slice_index c.args.ranks.now) c.args.numbers.now) c.add.new.self
    (ranked_stack names told c.args.ranks.now c.args.numbers.now by known) (ranked_below names told c.args.ranks.now c.args.numbers.now by known)
    (omega (arith, length-map c.args.numbers.now (slice_index c.args.ranks.now), c.requires.depth)) (omega (arith, c.if-weight-eq0.false)) gathered) c.add.ensures
