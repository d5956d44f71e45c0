use Rattle.std.proofs.Common.{◌≡◌, ◌≢◌, ◌++◌, List, ℕ, ap, ◌∙◌, MatchOption, IfSome, Option, Some, None}
use Rattle.std.specs.Borrow.{Bor}
use Rattle.std.proofs.lemmas.Bool.Decides.{Decides-eqb}
use Rattle.std.proofs.lemmas.Slice.Eq.{strip_prefix_is}
use Rattle.sample_tables.specs.Rows.{name_at}
use Rattle.folded_lines.proofs.known_stacks.after_name.Goals as goal

rest_of : (bytes prefix name : List ℕ) (rest : Option (Bor (List ℕ))) → prefix ≡ name
    → MatchOption rest ((other : List ℕ) → bytes ≢ prefix ++ other) (λ (left : Bor (List ℕ)). bytes ≡ prefix ++ left.now)
    → IfSome rest (λ (left : Bor (List ℕ)). bytes ≡ name ++ left.now)
rest_of bytes prefix name None is cases = tt
rest_of bytes prefix name (Some left) is cases = cases ∙ ap (λ front. front ++ left.now) is

pub returns-clause-rest : goal.returns-clause-rest
returns-clause-rest c =
    let bytes = c.args.bytes.now in
    let prefix = c.as_bytes.result.now in
    rest_of bytes prefix (name_at c.args.names.now c.args.number) c.strip_prefix.result (c.as_bytes.ensures.value ∙ c.name.ensures)
    (strip_prefix_is Decides-eqb bytes prefix c.strip_prefix.result c.strip_prefix.ensures.cases)
