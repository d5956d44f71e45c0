use Rattle.std.proofs.Common.{◌∙◌, sym}
use Rattle.std.proofs.lemmas.Slice.Eq.{slice_eq-Decides, bytes_eq-Decides}
use Rattle.bench_rings.proofs.shared_stacks.shared.Goals as goal

pub returns-then-eq : goal.returns-then-eq
returns-then-eq c =
    let same = (slice_eq-Decides bytes_eq-Decides c.deref.result.now c.args.stack.now c.eq.result c.eq.ensures).0 c.if-eq.true in
    c.in_ok-clone.ensures.cases ∙ sym c.deref.ensures ∙ same
