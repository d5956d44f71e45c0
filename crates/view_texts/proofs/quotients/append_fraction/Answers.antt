use Rattle.std.proofs.Common.{◌≡◌, ℕ, List, ◌+◌, ◌-◌, ◌^◌, ◌/◌, ◌%◌, suc, [], ◌∷◌, ◌∙◌, ap, sym, subst, arith}
use Rattle.std.proofs.lemmas.Nat.{mod_below}
use Rattle.view_texts.specs.Quotients.{fraction}
use Rattle.view_texts.proofs.Places.{fraction_more, fraction-zero, places_some, ten_some}
use Rattle.view_texts.proofs.Progress.{Progress, further_on, done}
use Rattle.view_texts.proofs.quotients.append_fraction.Goals as goal

pub loop-left-preserved : goal.loop-left-preserved
loop-left-preserved c =
    let left = c.loop-left.left in
    let next = c.loop-left.places - 1 in
    let one = c.pow-one.result in
    let start = c.args.out.now.items in
    let out = c.loop-left.out.items in
    let text = fraction c.args.places c.args.left in
    let last : c.loop-left.places ≡ suc next = omega (arith, places_some c.loop-left.places left (omega arith) c.loop-left.invariant.within) in
    let is : one ≡ 10 ^ next = c.pow-one.ensures in
    let digits = fraction_more c.loop-left.places next left last (omega arith) ∙ ap (λ n. (48 + left / n) ∷ fraction next (left % n)) (sym is) in
    record {
      few = omega arith;
      within = omega (arith, ten_some next, mod_below left (10 ^ next) (ten_some next), ap (λ n. left % n) is);
      text = further_on start out c.push.new.self.items ((48 + left / one) ∷ []) (fraction next (left % one)) text
          (subst (λ (rest : List ℕ). Progress start out rest text) digits c.loop-left.invariant.text) c.in_ok-push.ensures.items;
    }

pub returns-clause-ok : goal.returns-clause-ok
returns-clause-ok c =
    let start = c.args.out.now.items in
    let out = c.loop-left.out.items in
    let text = fraction c.args.places c.args.left in
    let none : c.loop-left.left ≡ 0 = omega arith in
    let end = ap (fraction c.loop-left.places) none ∙ fraction-zero c.loop-left.places in
    done start out text (subst (λ (rest : List ℕ). Progress start out rest text) end c.loop-left.invariant.text)
