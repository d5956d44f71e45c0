use Rattle.std.proofs.Common.{◌≡◌, ◌∙◌, ◌++◌, arith, string_bytes, map, sym, ap, subst, [], ◌∷◌, List, ℕ, length, ◌-◌, ◌<◌, is_lt, refl, String, Global}
use Rattle.std.specs.Ordering.{nat_cmp}
use Rattle.std.specs.Cmp.Lexicographic.{slice_cmp}
use Rattle.sample_tables.specs.Rows.{name_at}
use Rattle.std.proofs.lemmas.List.{map_push, length-map, get_or_push}
use Rattle.std.proofs.lemmas.Result.{IfOk-weaker}
use Rattle.ranked_rows.specs.Ranks.{AreRising}
use Rattle.ranked_rows.proofs.RankedNames.{rising_push}
use Rattle.ranked_rows.proofs.name_ranks.rank_next.Goals as goal

pushed : (c : goal.In_ok-push) → map string_bytes c.push.new.self.items ≡ map string_bytes c.args.names.now.items ++ c.args.name.now ∷ []
pushed c =
    ap (map string_bytes) c.in_ok-push.ensures.items ∙ map_push string_bytes c.args.names.now.items c.in_ok-from_str.field-0 ∙ ap (λ name. map string_bytes c.args.names.now.items ++ name ∷ []) c.in_ok-from_str.ensures.ok

pub overflow_sub-len : goal.overflow_sub-len
overflow_sub-len c =
    let some = (c.if-is_last.ensures.yes refl).0 in
    omega (arith, some, ap length c.deref.ensures.value, c.len.ensures, c.args.names.now.ok.0)

pub returns-then-is_last-clause-last : goal.returns-then-is_last-clause-last
returns-then-is_last-clause-last c =
    let some = (c.if-is_last.ensures.yes refl).0 in
    IfOk-weaker c.narrowed.result _ _ (λ rank h. omega (arith, h, some, ap length c.deref.ensures.value, c.len.ensures, c.args.names.now.ok.0)) c.narrowed.ensures

pub returns-then-is_last-clause-name : goal.returns-then-is_last-clause-name
returns-then-is_last-clause-name c =
    let names = c.args.names.now.items in
    let seen = c.deref.ensures.value in
    let last : name_at (map string_bytes names) (length names - 1) ≡ c.args.name.now = (λ i. name_at (map string_bytes (sym seen i)) (length (sym seen i) - 1)) ∙ (c.if-is_last.ensures.yes refl).1 in
    IfOk-weaker c.narrowed.result _ _ (λ rank h. ap (name_at (map string_bytes names)) (let r : rank ≡ length names - 1 = omega (arith, h, c.len.ensures, c.args.names.now.ok.0) in r) ∙ last) c.narrowed.ensures

pub returns-clause-rising : goal.returns-clause-rising
returns-clause-rising c =
    let names : List (List ℕ) = map string_bytes c.args.names.now.items in
    subst AreRising (sym (pushed c))
    (rising_push names c.args.name.now c.requires.rising
    (λ some. ap (λ n. is_lt (slice_cmp nat_cmp c.args.name.now (name_at names (n - 1)))) (length-map c.args.names.now.items string_bytes) ∙ c.requires.next (omega (arith, length-map c.args.names.now.items string_bytes)))
    (λ some e.
    let other = subst (λ (xs : List (String Global)). 0 < length xs → name_at (map string_bytes xs) (length xs - 1) ≡ c.args.name.now → ⊥) c.deref.ensures.value (c.if-is_last.ensures.no refl) in
    other (omega (arith, length-map c.args.names.now.items string_bytes)) (ap (λ n. name_at names (n - 1)) (sym (length-map c.args.names.now.items string_bytes)) ∙ e)))

pub returns-clause-grows : goal.returns-clause-grows
returns-clause-grows c = (c.args.name.now ∷ [], pushed c)

pub returns-clause-name : goal.returns-clause-name
returns-clause-name c =
    let names : List (List ℕ) = map string_bytes c.args.names.now.items in
    let last : length names ≡ c.in_ok-rank.rank = omega (arith, length-map c.args.names.now.items string_bytes, c.in_ok-rank.ensures, c.len-2.ensures, c.args.names.now.ok.0) in
    ap (λ all. name_at all c.in_ok-rank.rank) (pushed c) ∙ get_or_push names c.args.name.now [] c.in_ok-rank.rank last
