use Rattle.std.proofs.Common.{rules, ◌≡◌, ◌<◌, ◌-◌, ◌∷◌, ◌++◌, [], List, length, min, vec_capacity, true≢false, sym, ap, subst, ◌∙◌, arith}
use Rattle.call_tree.specs.declared.links.Link.{Link}
use Rattle.call_tree.specs.checked.Links.{LinkList, IsKnownLink}
use Rattle.call_tree.proofs.FoundLinks.{links_push}
use Rattle.call_tree.proofs.links.Links.enter.Goals as goal

pub invariant_of-self : goal.invariant_of-self
invariant_of-self c =
    let links = c.self.inside.links in
    let room : 0 < min c.self.inside.places.slots (vec_capacity links) - length links.items = subst (λ (l : LinkList). 0 < l.room) (sym c.self.view_is) c.requires in
    let grown : c.push-in-Err.new.self.items ≡ links.items ++ c.args.link ∷ [] =
    search (rules, c.push-in-Err.ensures.items, c.push-in-Err.ensures.succeeds (omega (arith, room, links.ok.0))) in
    let number : c.len-number.result ≡ length links.items = omega (arith, c.len-number.ensures, links.ok.0) in
    let sound = rw c.push.ensures.slots at c.push.ensures.sound in
    let len = rw (c.push.ensures.slots, number) at c.push.ensures.len in
    let placed = rw (c.push.ensures.slots, number, c.hash_of-hash.ensures) at c.push.ensures.placed in
    rw (grown, c.push.ensures.slots) (links_push c.args.link c.self.invariant sound len (omega (arith, room)) c.push.ensures.keeps placed)

pub returns-in-Ok-clause-known : goal.returns-in-Ok-clause-known
returns-in-Ok-clause-known c =
    let same = c.as_slice.ensures.value ∙ ap (λ (l : LinkList). l.keys) c.self.view_is in
    λ _. subst (λ (links : List Link). IsKnownLink links links c.args.link c.in-Ok.number) same c.in-Ok.ensures.known

pub returns-in-Ok-clause-new : goal.returns-in-Ok-clause-new
returns-in-Ok-clause-new c = λ is. absurd (true≢false (sym is))
