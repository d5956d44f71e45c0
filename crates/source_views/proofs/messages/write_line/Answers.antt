use Rattle.source_views.proofs.MessageTexts.{told_by}
use Rattle.source_views.proofs.messages.write_line.Goals as goal

pub returns : goal.returns
returns g c = record { told = told_by _ _ _ _ _ c.send_line.result c.send_line.ensures.ok c.send_line.ensures.count }
