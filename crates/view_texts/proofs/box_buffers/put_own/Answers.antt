use Rattle.std.proofs.Common.{arith}
use Rattle.view_texts.specs.checked.BoxParts.{own_text}
use Rattle.view_texts.proofs.JsonMembers.{kept_behind}
use Rattle.view_texts.proofs.box_buffers.put_own.Goals as goal

pub returns-clause-kept : goal.returns-clause-kept
returns-clause-kept c =
    kept_behind c.put_number.result c.args.tail c.put_number.new.bytes c.args.bytes.now (own_text c.args.own) (omega arith) (omega arith) c.put_number.ensures.within c.put_number.ensures.text
