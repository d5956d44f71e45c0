use Rattle.std.proofs.Common.{◌≡◌, get_or, sym, ap, ◌∙◌}
use Rattle.std.proofs.lemmas.Bool.Decides.{Decides-and, Decides-eqb}
use Rattle.std.proofs.lemmas.List.{get_or_default}
use Rattle.call_tree.specs.declared.links.Link.{Link}
use Rattle.call_tree.proofs.links.has_link.Goals as goal

same_link : (a b : Link) → (a.parent ≡ b.parent) × (a.frame ≡ b.frame) → a ≡ b
same_link a b is = (λ i. record { parent = is.0 i; frame = is.1 i })

pub returns : goal.returns
returns c =
    let link = c.args.link in
    let links = c.args.links.now in
    let none : Link = record { parent = 0; frame = 0 } in
    let here : Link = get_or links c.args.number none in
    let known : get_or links c.args.number link ≡ here = get_or_default links c.args.number link none c.if-number-links.false in
    let decides = Decides-and _ _ (Decides-eqb here.parent link.parent) (Decides-eqb here.frame link.frame) in (
      λ t. (c.if-number-links.false, known ∙ same_link here link (decides.0 (sym c.eq.ensures ∙ t))),
      λ p.
          let is : here ≡ link = sym known ∙ p.1 in
          c.eq.ensures ∙ decides.1 (ap (λ (l : Link). l.parent) is, ap (λ (l : Link). l.frame) is),
    )
