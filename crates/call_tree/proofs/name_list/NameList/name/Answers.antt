use Rattle.std.proofs.Common.{◌≡◌, ◌<◌, ℕ, List, [], length, get_or, sym, ap, subst, ◌∙◌}
use Rattle.std.specs.Str.{IsUtf8}
use Rattle.std.proofs.lemmas.List.{get_or-map, length-map}
use Rattle.sample_tables.specs.Spans.{stack_of, stacks_of}
use Rattle.call_tree.proofs.name_list.NameList.name.Goals as goal

known : (c : goal.After-from_utf8_unchecked-arg-1) → c.args.number < length (stacks_of c.self.inside.bytes.items c.self.inside.spans.items)
known c = subst (λ (names : List (List ℕ)). c.args.number < length names) (sym c.self.view_is) c.requires

name_is : (c : goal.After-from_utf8_unchecked-arg-1) → get_or (stacks_of c.self.inside.bytes.items c.self.inside.spans.items) c.args.number [] ≡ stack_of c.self.inside.bytes.items c.index-span.result.now
name_is c =
    let lt = known c in
    let within : c.args.number < length c.self.inside.spans.items = rw length-map at lt in
    get_or-map (stack_of c.self.inside.bytes.items) c.self.inside.spans.items c.args.number c.index-span.result.now [] within
    ∙ ap (stack_of c.self.inside.bytes.items) (sym c.index-span.ensures)

pub from_utf8_unchecked-requires : goal.from_utf8_unchecked-requires
from_utf8_unchecked-requires c = rw c.deref.ensures.value (subst IsUtf8 (name_is c) (c.self.invariant.texts c.args.number [] (known c)))
