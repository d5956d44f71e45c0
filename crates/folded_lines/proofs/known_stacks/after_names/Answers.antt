use Rattle.std.proofs.Common.{◌<◌, ◌∷◌, [], List, ℕ, Some, length, sym, ap, ◌∙◌, arith}
use Rattle.std.specs.Borrow.{Bor}
use Rattle.std.proofs.lemmas.Bool.Decides.{Decides-eqb}
use Rattle.std.proofs.lemmas.Slice.Eq.{strip_prefix_is}
use Rattle.folded_lines.proofs.KnownStackLemmas.{numbers-more, spelled-first, spelled-later}
use Rattle.folded_lines.proofs.known_stacks.after_names.Goals as goal
use Rattle.folded_lines.proofs.known_stacks.after_names.Goals.{then-index-gt0+in_ok-rest, else-index-gt0}

pub loop-index-preserved : goal.loop-index-preserved
loop-index-preserved c =
    let names = c.args.names.now in
    let numbers = c.args.numbers.now in
    let i = c.loop-index.index in
    let within : i < length numbers = omega arith in
    let was = c.loop-index.invariant in
    let before = c.loop-index.rest.now in
    let behind = c.in_ok-rest-2.rest.now in
    record {
      numbers = numbers-more names numbers i within was.numbers c.in_ok-rest-2.ensures.known;
      spelled = elim c.if-index-gt0.branch [
        | then-index-gt0+in_ok-rest w ↦
            spelled-later names numbers c.args.head.now before w.in_ok-rest.rest.now behind i (omega arith) within was.spelled
            (strip_prefix_is Decides-eqb before (59 ∷ []) (Some w.in_ok-rest.rest) w.in_ok-rest.ensures.cases)
            (ap (λ (left : Bor (List ℕ)). left.now) (sym w.rest-is) ∙ c.in_ok-rest-2.ensures.rest)
        | else-index-gt0 w ↦
            spelled-first names numbers c.args.head.now before behind i w.if-index-gt0.false within was.spelled
            (ap (λ (left : Bor (List ℕ)). left.now) (sym w.rest-is) ∙ c.in_ok-rest-2.ensures.rest)
      ];
    }
