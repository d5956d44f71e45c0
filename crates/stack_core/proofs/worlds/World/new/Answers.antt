use Rattle.std.proofs.Common.{◌≡◌, map, refl, sym, ◌∙◌, ap, arith}
use Rattle.std.proofs.lemmas.List.{map-id}
use Rattle.std.proofs.lemmas.Simd.{map-map}
use Rattle.std.proofs.lemmas.Iterator.Adapters.{YieldsList-from_vec}
use Rattle.std.proofs.lemmas.Iterator.Consumers.{YieldsList-end}
use Rattle.stack_core.specs.Schedule.{unpushed}
use Rattle.stack_core.proofs.worlds.World.new.Goals as goal

pub returns : goal.returns
returns c =
    let gives = c.into_iter-items-iterator.ensures.into_iter_gives in
    let seen = YieldsList-end (YieldsList-from_vec c.args.told.items gives.0 (omega arith)) c.loop-items.yielded c.loop-items.items-iterator c.loop-items.yielded_by c.next.result c.next.new.self c.in-None.is c.next.ensures.steps in
    let whole : c.loop-items.yielded ≡ c.args.told.items = sym (map-id c.loop-items.yielded) ∙ seen.0 in
    let lanes : c.loop-items.lanes.items ≡ map unpushed (map (λ items. items.items) c.args.told.items) =
    c.loop-items.invariant ∙ (ap (map (λ items. unpushed items.items)) whole ∙ sym (map-map unpushed (λ items. items.items) c.args.told.items)) in
    rw lanes refl
