use Rattle.std.proofs.Common.{ℕ, nat_eq, Option, None, Some, MatchOption, ◌∙◌}
use Rattle.std.specs.BTreeMap.{get_by_text}
use Rattle.indexmap.specs.IndexMap.{get}
use Rattle.call_tree.proofs.FoundNames.{none_if_not_found}
use Rattle.call_tree.proofs.frame_table.FrameTable.find.Goals as goal

none_if : (r : Option ℕ) (P Q : Type 0) (R : ℕ → Type 0) → (P → Q) → MatchOption r P R → MatchOption r Q R
none_if None P Q R follows none = follows none
none_if (Some n) P Q R follows some = some

pub returns : goal.returns
returns c =
    rw (← c.self.view_is)
    (none_if c.checked-2.result _ _ _
    (none_if_not_found c.self.inside.names (get nat_eq c.self.inside.hashed.numbers) (get_by_text c.self.inside.crowded) c.args.name.now c.args.hash _ _
    c.self.invariant.1 c.requires c.find-2.ensures (c.copied.ensures ∙ c.get.ensures.value) c.in_default-checked.ensures) c.checked-2.ensures)
