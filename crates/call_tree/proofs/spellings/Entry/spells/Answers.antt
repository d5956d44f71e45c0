use Rattle.std.proofs.Common.{sym, ◌∙◌}
use Rattle.std.proofs.lemmas.Slice.Eq.{bytes_eq-Decides}
use Rattle.call_tree.proofs.spellings.Entry.spells.Goals as goal

pub returns-in-Some : goal.returns-in-Some
returns-in-Some c =
    let decides = bytes_eq-Decides c.in-Some.known.now c.args.spelling.now in
    λ same. sym c.in-Some.ensures.lookup.0.2 ∙ decides.0 (sym c.eq.ensures ∙ same)
