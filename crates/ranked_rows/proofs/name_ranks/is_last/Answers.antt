use Rattle.std.proofs.Common.{◌≡◌, ◌∙◌, arith, string_bytes, map, sym, ap, [], ◌-◌, ◌<◌, length}
use Rattle.std.proofs.lemmas.Bool.{false≢true}
use Rattle.std.proofs.lemmas.Slice.Eq.{bytes_eq-Decides}
use Rattle.std.proofs.lemmas.List.{get_or-map}
use Rattle.sample_tables.specs.Rows.{name_at}
use Rattle.ranked_rows.proofs.name_ranks.is_last.Goals as goal

last_is : (c : goal.After-name-2-1) → name_at (map string_bytes c.args.names.now) (length c.args.names.now - 1) ≡ c.as_str.result.now
last_is c =
    let some : length c.args.names.now - 1 < length c.args.names.now = omega (arith, c.if-count-eq0.false) in
    get_or-map string_bytes c.args.names.now (length c.args.names.now - 1) c.index-names-count.result [] some ∙ ap string_bytes (sym c.index-names-count.is) ∙ sym c.as_str.ensures.value

pub returns-clause-yes : goal.returns-clause-yes
returns-clause-yes c t =
    (omega (arith, c.if-count-eq0.false), last_is c ∙ (bytes_eq-Decides c.as_str.result.now c.args.name.now).0 (sym c.eq.ensures ∙ t))

pub returns-clause-no : goal.returns-clause-no
returns-clause-no c f some e =
    false≢true (sym f ∙ c.eq.ensures ∙ (bytes_eq-Decides c.as_str.result.now c.args.name.now).1 (sym (last_is c) ∙ e))
