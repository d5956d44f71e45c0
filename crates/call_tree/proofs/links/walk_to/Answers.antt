use Rattle.std.proofs.Common.{rules, ◌↔◌, IsTrue, true, false, ◌≡◌, ◌<◌, ℕ, List, length, get_or, true≢false, refl, sym, Ok, Err, Result}
use Rattle.std.specs.Result.{IfOk, OnErr}
use Rattle.call_tree.specs.declared.links.Link.{Link}
use Rattle.call_tree.proofs.FoundLinks.{none_if_not_met}
use Rattle.call_tree.proofs.links.walk_to.Goals as goal

known_if : (r : Result ℕ ℕ) (P Q : ℕ → Type 0) → ((n : ℕ) → P n → Q n) → IfOk r P → IfOk r Q
known_if (Ok n) P Q follows has = follows n has
known_if (Err e) P Q follows has = has

absent_if : (r : Result ℕ ℕ) (P Q : Type 0) → (P → Q) → OnErr r P → OnErr r Q
absent_if (Ok n) P Q follows has = has
absent_if (Err e) P Q follows has = follows has

abbrev HasAt : Link → ℕ → List Link → Type 0
HasAt link number links = (number < length links) × (get_or links number link ≡ link)

pub returns-clause-known : goal.returns-clause-known
returns-clause-known c = known_if c.walk.result _ _
    (λ n post.
    let says : IsTrue true ↔ HasAt c.args.link n c.args.links.now = search (rules, post) in
    let has = says.0 refl in
    record { within = has.0; stands = has.1; stay = refl }) c.walk.ensures.found

pub returns-clause-absent : goal.returns-clause-absent
returns-clause-absent c = absent_if c.walk.result _ _
    (λ missed.
    none_if_not_met c.args.links.now c.args.places.now.cells.items c.args.places.now.slots _ c.args.link c.args.hash c.requires.places c.requires.hash
    (λ n placed has.
    let says : IsTrue false ↔ HasAt c.args.link n c.args.links.now = search (rules, missed n placed) in
    true≢false (sym (says.1 has)))) c.walk.ensures.absent
