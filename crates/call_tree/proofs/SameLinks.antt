-- Links of nodes: when `==` holds of two.
use Rattle.std.proofs.Common.{◌≡◌, Bool, true, false, ◌&&◌, nat_eq, refl, sym, ap, ◌∙◌, true≢false, eq-eqb}
use borrow.Author.Tests.{eqb-true}
use Rattle.call_tree.specs.declared.links.Link.{Link}

abbrev pub same_link : Link → Link → Bool
same_link a b = nat_eq a.parent b.parent && nat_eq a.frame b.frame

both : (a b : Bool) → (a && b) ≡ true → (a ≡ true) × (b ≡ true)
both true b e = (refl, e)
both false b e = absurd (true≢false (sym e))

pub same_link_is : (a b : Link) → same_link a b ≡ true → a ≡ b
same_link_is a b e =
    let h = both (nat_eq a.parent b.parent) (nat_eq a.frame b.frame) e in
    let p : a.parent ≡ b.parent = eqb-true a.parent b.parent h.0 in
    let f : a.frame ≡ b.frame = eqb-true a.frame b.frame h.1 in
    λ i. record { parent = p i; frame = f i }

pub same_link_itself : (a : Link) → same_link a a ≡ true
same_link_itself a = ap (λ b. b && nat_eq a.frame a.frame) (eq-eqb a.parent a.parent refl) ∙ eq-eqb a.frame a.frame refl

pub same_link_equal : (a b : Link) → a ≡ b → same_link a b ≡ true
same_link_equal a b e = ap (same_link a) (sym e) ∙ same_link_itself a
