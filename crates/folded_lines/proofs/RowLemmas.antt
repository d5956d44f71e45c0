-- What a reader of rows tells.
use Rattle.std.proofs.Common.{◌≡◌, ℕ, ◌<◌, ◌≤◌, ◌+◌, take, drop, List, [], ◌∷◌, ◌++◌, length, get_or, slice_get, Option, Some, None, MatchOption, refl, sym, ap, subst, ◌∙◌, arith}
use Rattle.std.specs.Borrow.{Bor}
use Rattle.std.specs.List.{slice_split}
use Rattle.std.proofs.lemmas.List.{map_push, take_more, drop_all, drop-append-le, length-take}
use Rattle.std.proofs.lemmas.List.Elements.{All-nil, All-push}
use Rattle.std.proofs.lemmas.Option.{get_or_from_slice_get}
use Rattle.sample_tables.specs.Rows.{name_at}
use Rattle.stack_core.specs.NamesInOrder.{with_name}
use Rattle.stack_core.specs.Prefixes.{IsPrefixOf}
use Rattle.stack_core.specs.Records.{names_at}
use Rattle.call_tree.proofs.NameNumbers.{with_stack_push, numbers-longer, names_at-longer, IsPrefixOf-with_name}
use Rattle.folded_lines.specs.Lines.{is_semicolon}
use Rattle.folded_lines.proofs.Cuts.{names_left}
use Rattle.folded_lines.specs.checked.Telling.{IsNumbered}

pub IsNumbered-nothing : (names : List (List ℕ)) → IsNumbered [] names names []
IsNumbered-nothing names = record { named = refl; numbers = All-nil (λ k. k < length names); in_order = refl }

-- one name more
pub IsNumbered-push : (stack names before after : List (List ℕ)) (frames more : List ℕ) (name : List ℕ) (number : ℕ)
    → IsNumbered stack names before frames → after ≡ with_name before name → slice_get after number ≡ Some name → number < length after → more ≡ frames ++ number ∷ []
    → IsNumbered (stack ++ name ∷ []) names after more
IsNumbered-push stack names before after frames more name number numbered with_it found below pushed =
    let prefix : IsPrefixOf before after = subst (IsPrefixOf before) (sym with_it) (IsPrefixOf-with_name before name) in
    let front : names_at after frames ≡ stack = names_at-longer before after frames prefix numbered.numbers ∙ numbered.named in
    let last : name_at after number ≡ name = get_or_from_slice_get after number name [] found in
    subst (λ (all : List ℕ). IsNumbered (stack ++ name ∷ []) names after all) (sym pushed) (record {
      named = map_push (name_at after) frames number ∙ (λ i. front i ++ last i ∷ []);
      numbers = All-push (λ k. k < length after) frames number (numbers-longer before after frames prefix numbered.numbers) below;
      in_order = with_it ∙ ap (λ all. with_name all name) numbered.in_order ∙ sym (with_stack_push names stack name);
    })

-- the names of a text, by its first and what is left
pub names_left-first : (text name : List ℕ) (rest : Option (Bor (List ℕ)))
    → MatchOption rest (slice_split is_semicolon text ≡ name ∷ []) (λ (left : Bor (List ℕ)). slice_split is_semicolon text ≡ name ∷ slice_split is_semicolon left.now)
    → slice_split is_semicolon text ≡ name ∷ names_left rest
names_left-first text name None split = split
names_left-first text name (Some rest) split = split

-- what stands from a place on, up to another
pub between-nothing : (xs : List (List ℕ)) (first : ℕ) → drop first (take first xs) ≡ []
between-nothing xs first = drop_all first (take first xs) (omega (arith, length-take first xs))

pub between-more : (xs : List (List ℕ)) (first at : ℕ) → first ≤ at → at < length xs → drop first (take (at + 1) xs) ≡ drop first (take at xs) ++ get_or xs at [] ∷ []
between-more xs first at le lt =
    ap (drop first) (take_more xs at [] lt) ∙ drop-append-le first (take at xs) (get_or xs at [] ∷ []) (omega (arith, length-take at xs))
