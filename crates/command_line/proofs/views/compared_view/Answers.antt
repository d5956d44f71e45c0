use Rattle.std.proofs.Common.{refl}
use Rattle.command_line.proofs.views.compared_view.Goals as goal

pub returns-then-shows_boxes : goal.returns-then-shows_boxes
returns-then-shows_boxes c = rw (← c.shows_boxes.ensures, c.if-shows_boxes.true, c.width.ensures) refl

pub returns-else-shows_boxes : goal.returns-else-shows_boxes
returns-else-shows_boxes c = rw (← c.shows_boxes.ensures, c.if-shows_boxes.false) refl
