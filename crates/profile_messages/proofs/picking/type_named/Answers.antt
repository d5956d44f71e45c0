use Rattle.std.proofs.Common.{ℕ, List, length, refl, sym, ◌∙◌, ap, arith, below_more}
use Rattle.std.specs.Prelude.{bytes_eq}
use Rattle.profile_messages.specs.declared.messages.ValueType.{ValueType}
use Rattle.profile_messages.specs.SeenProfile.{texts_of}
use Rattle.profile_messages.proofs.PickLemmas.{place-found, place-none, name_here, length-names_of_types}
use Rattle.profile_messages.proofs.picking.type_named.Goals as goal

pub returns-then-is_match : goal.returns-then-is_match
returns-then-is_match c = sym (place-found c.args.name.now _ c.loop-place.place
    (let e = length-names_of_types c.args.profile.now in let f = ap (λ (list : List ValueType). length list) c.deref-sample_type-items.ensures.value in omega (arith, e, f))
    c.loop-place.invariant
    (ap (λ (name : List ℕ). bytes_eq name c.args.name.now) (name_here c.args.profile.now c.loop-place.place _ _ _ c.deref-sample_type-items.ensures.value (ap texts_of c.deref.ensures.value) c.loop-place-test.true refl)
    ∙ sym (c.is_match.ensures (texts_of c.deref.result.now) (c.deref-in-loop-place.ensures.value ∙ c.in_ok-matches.ensures)) ∙ c.if-is_match.true))

pub loop-place-preserved : goal.loop-place-preserved
loop-place-preserved c = below_more _ _ c.loop-place.invariant
    (ap (λ (name : List ℕ). bytes_eq name c.args.name.now) (name_here c.args.profile.now c.loop-place.place _ _ _ c.deref-sample_type-items.ensures.value (ap texts_of c.deref.ensures.value) c.loop-place-test.true refl)
    ∙ sym (c.is_match.ensures (texts_of c.deref.result.now) (c.deref-in-loop-place.ensures.value ∙ c.in_ok-matches.ensures)) ∙ c.if-is_match.false)

pub returns : goal.returns
returns c = sym (place-none c.args.name.now _
    (λ k lt. c.loop-place.invariant k (let e = length-names_of_types c.args.profile.now in let f = ap (λ (list : List ValueType). length list) c.deref-sample_type-items.ensures.value in omega (arith, e, f))))
