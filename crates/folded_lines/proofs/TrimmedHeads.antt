-- A head has the names that it has without the `;` at its end.
use Rattle.std.proofs.Common.{◌≡◌, ℕ, ◌==◌, Bool, true, false, cond, Option, Some, None, IfSome, List, [], ◌∷◌, refl, sym, ap, ◌∙◌, arith}
use Rattle.std.proofs.lemmas.Bool.{cond-false}
use Rattle.folded_lines.specs.Lines.{names_of}
use Rattle.folded_lines.specs.checked.Cutting.{onto_trimmed, without_trailing_semicolons}
use Rattle.folded_lines.specs.checked.KnownStacks.{IsRowOf}
use Rattle.folded_lines.proofs.SplitLemmas.{names_of-nothing, names_of-something}

-- nothing is trimmed twice
one_byte : (b : ℕ) (test : Bool) → b == 59 ≡ test → without_trailing_semicolons (cond test [] (b ∷ [])) ≡ cond test [] (b ∷ [])
one_byte b true is = refl
one_byte b false is = cond-false _ _ _ is

onto_twice : (b : ℕ) (trimmed : List ℕ) → without_trailing_semicolons trimmed ≡ trimmed → without_trailing_semicolons (onto_trimmed b trimmed) ≡ onto_trimmed b trimmed
onto_twice b [] twice = one_byte b (b == 59) refl
onto_twice b (c ∷ trimmed) twice = ap (onto_trimmed b) twice

trimmed_twice : (head : List ℕ) → without_trailing_semicolons (without_trailing_semicolons head) ≡ without_trailing_semicolons head
trimmed_twice [] = refl
trimmed_twice (b ∷ head) = onto_twice b (without_trailing_semicolons head) (trimmed_twice head)

by_left : (head left : List ℕ) → left ≡ without_trailing_semicolons head → left ≡ without_trailing_semicolons left → names_of left ≡ names_of head
by_left head [] is same = sym (names_of-nothing head [] is refl)
by_left head (b ∷ left) is same =
    names_of-something (b ∷ left) (b ∷ left) same (omega arith) ∙ sym (names_of-something head (b ∷ left) is (omega arith))

pub names_of-trimmed : (head : List ℕ) → names_of (without_trailing_semicolons head) ≡ names_of head
names_of-trimmed head = by_left head (without_trailing_semicolons head) refl (sym (trimmed_twice head))

-- so a row of the head without them is a row of the head
pub IsRowOf-trimmed : (names stacks : List (List ℕ)) (head trimmed : List ℕ) (found : Option ℕ) → trimmed ≡ without_trailing_semicolons head → IfSome found (λ row. IsRowOf names stacks row trimmed)
    → IfSome found (λ row. IsRowOf names stacks row head)
IsRowOf-trimmed names stacks head trimmed None is found = tt
IsRowOf-trimmed names stacks head trimmed (Some row) is found =
    record { known = found.known; named = found.named ∙ ap names_of is ∙ names_of-trimmed head }
