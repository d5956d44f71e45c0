use Rattle.std.proofs.Common.{◌≡◌, ℕ, List, [], ◌∷◌, ◌++◌, Result, Ok, Err, ap, ◌∙◌, append_assoc}
use Rattle.std.specs.Bool.{if◌then◌else◌}
use Rattle.std.specs.Result.{OnOk, is_ok}
use Rattle.folded_lines.specs.Writing.{column_of}
use Rattle.folded_lines.proofs.writing.append_pair_line.Goals as goal

on_ok : {T E : Type 0} (r : Result T E) (xs ys zs : List ℕ) → xs ≡ (if is_ok r then ys else zs) → OnOk r (xs ≡ ys)
on_ok (Ok _) xs ys zs e = e
on_ok (Err _) xs ys zs e = tt

pub returns-clause-ok : goal.returns-clause-ok
returns-clause-ok c =
    let names = c.in_ok-line.line.items in
    let first = c.in_ok-append_column.ensures in
    let second = c.in_ok-append_column-2.ensures ∙ ap (λ (line : List ℕ). line ++ column_of c.args.after) first in
    let end = c.deref.ensures.value ∙ c.in_ok-push.ensures.items ∙ ap (λ (line : List ℕ). line ++ 10 ∷ []) second in
    let whole = end ∙ append_assoc (names ++ column_of c.args.before) (column_of c.args.after) (10 ∷ []) ∙ append_assoc names (column_of c.args.before) (column_of c.args.after ++ 10 ∷ [])
    ∙ ap (λ (names : List ℕ). names ++ (column_of c.args.before ++ (column_of c.args.after ++ 10 ∷ []))) c.in_ok-line.ensures in
    let out = c.args.out.now.items in
    rw whole at (on_ok c.extend_from_slice.result c.extend_from_slice.new.self.items (out ++ c.deref.result.now) out c.extend_from_slice.ensures.items)
