use Rattle.std.proofs.Common.{arith}
use Rattle.std.proofs.lemmas.Grind.{common_steps}
use Rattle.page_texts.proofs.Names.{place_is_number}
use Rattle.page_texts.proofs.keeping.kept_box.Goals as goal

pub returns-clause-kept : goal.returns-clause-kept
returns-clause-kept c =
    let made = c.in_ok-name.ensures in
    let place = place_is_number c.intern.new.self c.args.item.now.drawn.name.now c.in_ok-name.name made.distinct made.below made.number in
    grind (arith, common_steps, place)

pub returns-clause-named : goal.returns-clause-named
returns-clause-named c =
    let made = c.in_ok-name.ensures in
    let place = place_is_number c.intern.new.self c.args.item.now.drawn.name.now c.in_ok-name.name made.distinct made.below made.number in
    grind (arith, common_steps, place)
