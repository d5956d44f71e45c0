use Rattle.std.proofs.Common.{◌≡◌, ◌+◌, ◌++◌, ◌-◌, Bool, arith, cond, replicate, subst, sym, take}
use Rattle.std.specs.Vec.{vec_len}
use Rattle.source_lists.proofs.SummedLemmas.{grown}
use Rattle.source_lists.proofs.summed_rows.has_place.Goals as goal

pub returns-then-row-lt18446744073709551615 : goal.returns-then-row-lt18446744073709551615
returns-then-row-lt18446744073709551615 c =
    let row = c.args.row in
    let old = c.args.sums.now.items in
    let new = c.resize.new.self.items in
    let n = row + 1 - vec_len c.args.sums.now in
    grown row n old new c.is_ok.result (omega (arith, c.if-row-len.false, c.len.ensures, c.args.sums.now.ok.0)) (omega (arith, c.args.sums.now.ok.0))
    (subst (λ (b : Bool). new ≡ cond b (take (row + 1) old ++ replicate n 0) old) (sym c.is_ok.ensures.value) c.resize.ensures.items)
