use Rattle.std.proofs.Common.{◌≡◌, ℕ, List, ◌∙◌}
use Rattle.std.proofs.lemmas.List.Elements.{same_from_all_zip}
use Rattle.call_tree.specs.declared.links.Link.{Link}
use Rattle.call_tree.specs.checked.Nodes.{NodeLists}
use Rattle.call_tree.proofs.nodes.Nodes.copy.Goals as goal

abbrev lists_of : List Link → List ℕ → List ℕ → NodeLists
lists_of links owns totals = record { links = links; owns = owns; totals = totals }

abbrev IsCopy : ℕ → ℕ → Type 0
IsCopy x y = y ≡ x

pub returns : goal.returns
returns c =
    let owns = same_from_all_zip IsCopy c.self.inside.owns.items c.in_ok-clone.field-0.items c.in_ok-clone.ensures.cases.0 (λ x y is. is) in
    let totals = same_from_all_zip IsCopy c.self.inside.totals.items c.in_ok-clone-2.field-0.items c.in_ok-clone-2.ensures.cases.0 (λ x y is. is) in
    (λ i. lists_of (c.in_ok-copy.ensures i) (owns i) (totals i)) ∙ c.self.view_is

pub invariant_of-result : goal.invariant_of-result
invariant_of-result c =
    let owns = same_from_all_zip IsCopy c.self.inside.owns.items c.in_ok-clone.field-0.items c.in_ok-clone.ensures.cases.0 (λ x y is. is) in
    let totals = same_from_all_zip IsCopy c.self.inside.totals.items c.in_ok-clone-2.field-0.items c.in_ok-clone-2.ensures.cases.0 (λ x y is. is) in
    rw (c.in_ok-copy.ensures, owns, totals) c.self.invariant
