use Rattle.std.proofs.Common.{◌∙◌, ◌++◌, ◌∷◌, [], List, ℕ, ap, sym, map, string_bytes}
use Rattle.std.proofs.lemmas.List.{map_push, map_more, take_all}
use denote.Ref.{Bor}
use Rattle.flame_layout.specs.checked.Paired.{names_now}
use Rattle.flame_layout.proofs.comparisons.names.Goals as goal

pub loop-name-preserved : goal.loop-name-preserved
loop-name-preserved c =
    ap (map string_bytes) c.in_ok-push.ensures.items ∙ map_push string_bytes c.loop-name.names.items c.in_ok-from_str.field-0 ∙ (λ i. c.loop-name.invariant i ++ c.in_ok-from_str.ensures.ok i ∷ [])
    ∙ sym (map_more (λ (name : Bor (List ℕ)). name.now) c.args.path.now c.loop-name.name-index (record { ref_ptr = (0, 0); now = [] }) c.loop-name-test.true)

pub returns : goal.returns
returns c = c.of.ensures ∙ c.loop-name.invariant ∙ ap names_now (take_all c.loop-name.name-index c.args.path.now c.loop-name-test.false)
