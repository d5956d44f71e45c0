use Rattle.std.proofs.Common.{refl, arith}
use Rattle.serde_json.specs.Data.{string}
use Rattle.serde_json.specs.Written.{compact_text}
use Rattle.view_texts.specs.checked.BoxParts.{before_name, own_text}
use Rattle.view_texts.proofs.JsonMembers.{front_put, kept_edges}
use Rattle.view_texts.proofs.box_buffers.put_front.Goals as goal

pub returns-clause-text : goal.returns-clause-text
returns-clause-text c =
    front_put c.args.opening _ c.args.left _ _ _ _ _ _ _ _ _
    refl c.as_bytes.ensures.value refl
    c.put_before_name.ensures.text c.put_quoted-at.ensures.text c.put_number-at.ensures.text

pub returns-clause-kept : goal.returns-clause-kept
returns-clause-kept c =
    let drawn = c.args.drawn.now in
    kept_edges c.put_before_name.result c.args.tail c.put_before_name.new.bytes c.args.bytes.now
    (before_name c.args.opening drawn.depth c.args.left) (compact_text (string drawn.name.now)) (own_text drawn.own) (omega arith) (omega arith)
    (omega (arith, c.put_before_name.ensures.within, c.put_quoted-at.ensures.start, c.put_number-at.ensures.within))
    (front_put c.args.opening _ c.args.left _ _ _ _ _ _ _ _ _
    refl c.as_bytes.ensures.value refl
    c.put_before_name.ensures.text c.put_quoted-at.ensures.text c.put_number-at.ensures.text)
