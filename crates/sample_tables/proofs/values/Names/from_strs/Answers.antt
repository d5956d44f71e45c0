use Rattle.std.proofs.Common.{ℕ, List, [], ◌∷◌, ◌++◌, map, take, get_or, string_bytes, sym, ap, ◌∙◌}
use Rattle.std.specs.Borrow.{Bor}
use Rattle.std.proofs.lemmas.List.{map_push, take_more}
use Rattle.sample_tables.proofs.values.Names.from_strs.Goals as goal

abbrev read : Bor (List ℕ) → List ℕ
read name = name.now

pub loop-name-preserved : goal.loop-name-preserved
loop-name-preserved c =
    let names = c.args.names.now in
    let at = c.loop-name.name-index in
    let none : Bor (List ℕ) = record { ref_ptr = (0, 0); now = [] } in
    let front = c.loop-name.invariant in
    let last = c.in_ok-from_str.ensures.ok in
    ap (map string_bytes) c.in_ok-push.ensures.items
    ∙ map_push string_bytes c.loop-name.plain.items c.in_ok-from_str.field-0
    ∙ (λ i. front i ++ last i ∷ [])
    ∙ sym (ap (map read) (take_more names at none c.loop-name-test.true) ∙ map_push read (take at names) (get_or names at none))
