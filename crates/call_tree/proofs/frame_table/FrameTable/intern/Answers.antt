use Rattle.std.proofs.Common.{◌≡◌, ◌<◌, ℕ, List, [], ◌∷◌, ◌++◌, false, sym, ap, subst, ◌∙◌, length, get_or, slice_get, nat_eq}
use Rattle.std.specs.BTreeMap.{get_by_text}
use Rattle.std.specs.List.{list_any}
use Rattle.std.specs.Str.{bytes_eq}
use Rattle.indexmap.specs.IndexMap.{get}
use Rattle.call_tree.specs.FrameTable.{with_name, HasDistinctNames}
use Rattle.call_tree.specs.checked.FoundNames.{AreFound}
use Rattle.call_tree.proofs.Names.{IsAt, IsAt_push, slice_get-IsAt, with_name_known, with_name_new, HasDistinctNames_push}
use Rattle.call_tree.proofs.FoundNames.{none_among, found_keep, found_push}
use Rattle.call_tree.proofs.frame_table.FrameTable.intern.Goals as goal

found_at : (c : goal.In-Some) → IsAt c.args.self.now c.args.name.now c.in-Some.number
found_at c = record { below = c.in-Some.ensures.0; is = c.in-Some.ensures.1 }

pub returns-in-Some-clause-names : goal.returns-in-Some-clause-names
returns-in-Some-clause-names c = sym (with_name_known _ _ _ (found_at c))

pub returns-in-Some-clause-number : goal.returns-in-Some-clause-number
returns-in-Some-clause-number c = slice_get-IsAt _ _ _ (found_at c)

none_in : (names : List (List ℕ)) (now : List (List ℕ)) (name : List ℕ) → names ≡ now → ((n : ℕ) → n < length now → get_or now n [] ≡ name → ⊥) → (n : ℕ) → n < length names → get_or names n [] ≡ name → ⊥
none_in names now name is = subst (λ names. (n : ℕ) → n < length names → get_or names n [] ≡ name → ⊥) (sym is)

none_before : (c : goal.After-remember) → list_any (bytes_eq c.args.name.now) c.self.inside.names ≡ false
none_before c = none_among c.self.inside.names c.args.name.now (none_in _ _ _ c.self.view_is c.in_default.ensures)

names_after : (c : goal.After-remember) → c.push.new.self ≡ c.self.inside.names ++ c.args.name.now ∷ []
names_after c = c.in_ok-push.ensures.ok

distinct_after : (c : goal.After-remember) → HasDistinctNames c.push.new.self
distinct_after c = subst HasDistinctNames (sym (names_after c)) (HasDistinctNames_push _ _ c.self.invariant.0 (none_before c))

number_is : (c : goal.After-remember) → c.len-number.result ≡ length c.self.inside.names
number_is c = c.len-number.ensures.count

pub invariant_of-self-3 : goal.invariant_of-self-3
invariant_of-self-3 c =
    let here = rw (number_is c) at c.in_ok-enter.ensures.found in
    (distinct_after c, rw (names_after c) (found_push c.self.inside.names (get nat_eq c.self.inside.hashed.numbers) (get nat_eq c.enter.new.hashed.numbers) (get_by_text c.self.inside.crowded) (get_by_text c.enter.new.crowded) _ c.in_ok-enter.ensures.keeps (none_in _ _ _ c.self.view_is c.in_default.ensures) c.self.invariant.1 here))

pub returns-clause-names : goal.returns-clause-names
returns-clause-names c =
    names_after c ∙ sym (with_name_new _ _ (none_before c)) ∙ ap (λ names. with_name names c.args.name.now) c.self.view_is

pub returns-clause-number : goal.returns-clause-number
returns-clause-number c =
    ap (λ names. slice_get names c.len-number.result) (names_after c) ∙ ap (slice_get (c.self.inside.names ++ c.args.name.now ∷ [])) (number_is c)
    ∙ slice_get-IsAt _ _ _ (IsAt_push c.self.inside.names c.args.name.now)

pub returns-clause-distinct : goal.returns-clause-distinct
returns-clause-distinct c = distinct_after c

pub invariant_of-self-in_err-enter : goal.invariant_of-self-in_err-enter
invariant_of-self-in_err-enter c = (c.self.invariant.0, found_keep c.self.inside.names (get nat_eq c.self.inside.hashed.numbers) (get nat_eq c.enter.new.hashed.numbers) (get_by_text c.self.inside.crowded) (get_by_text c.enter.new.crowded) _ c.in_err-enter.ensures.keeps (none_in _ _ _ c.self.view_is c.in_default.ensures) c.self.invariant.1)

pub invariant_of-self-in_err-push : goal.invariant_of-self-in_err-push
invariant_of-self-in_err-push c =
    subst (λ names. HasDistinctNames names × AreFound names (get nat_eq c.enter.new.hashed.numbers) (get_by_text c.enter.new.crowded))
    (sym c.in_err-push.ensures.err)
    (c.self.invariant.0, found_keep c.self.inside.names (get nat_eq c.self.inside.hashed.numbers) (get nat_eq c.enter.new.hashed.numbers) (get_by_text c.self.inside.crowded) (get_by_text c.enter.new.crowded) _ c.in_ok-enter.ensures.keeps (none_in _ _ _ c.self.view_is c.in_default.ensures) c.self.invariant.1)
