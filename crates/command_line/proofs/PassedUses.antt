-- What a use of an argument without a fault makes of the entries, by `clap`'s definitions: each row
-- is of one of the command's arguments, and its values passed that argument's parser.
use Rattle.std.proofs.Common.{◌≡◌, ◌∙◌, ◌+◌, ◌&&◌, ◌||◌, ℕ, Bool, cond, true, false, refl, sym, ap, ap₂, subst, arith, List, [], ◌∷◌, ◌++◌, length, min, eqb-true, ◌==◌, Option, Some, None, true≢false, append-nil}
use Rattle.std.specs.Prelude.{unwrap_or}
use Rattle.std.specs.List.{AllByRecursion as Each, find}
use Rattle.std.specs.Str.{bytes_eq}
use Rattle.std.proofs.lemmas.List.Folds.{list_all-append}
use Rattle.std.proofs.lemmas.Slice.Eq.{bytes_eq-Decides}
use Rattle.clap.specs.Facts.{parser_of_value, unwrap_or_range}
use Rattle.clap.specs.Faults.{action_fault, count_fault, repeat_fault, set_fault, use_fault, values_fault}
use Rattle.clap.specs.Kinds.{Kinds, or_else, range_kinds, value_kinds}
use Rattle.clap.specs.Matches.{count_text}
use Rattle.clap.specs.Takes.{value_passes, values_pass}
use Rattle.clap.specs.Values.{refused_kind}
use Rattle.clap.specs.declared.error.kind.ErrorKind.TheVariants as kind
use Rattle.clap.specs.Walk.{Row, Rule, Text, action_of, arg_by_id, at_row, count_of, counted, has_row, more_values, most_values, new_count, reading_by, used, used_as, values_or_missing, with_count, with_values, without}
use Rattle.clap.specs.declared.builder.action.ArgAction.{ArgAction}
use Rattle.clap.specs.declared.builder.action.ArgAction.TheVariants as action
use Rattle.clap.specs.declared.parser.matches.ValueSource.{ValueSource}
use Rattle.clap.specs.declared.parser.matches.ValueSource.TheVariants.{CommandLine}

-- ---- lists

pub found_each : {X : Type 0} (P : X → Type 0) (test : X → Bool) (xs : List X) (x : X) → Each P xs
    → find test xs ≡ Some x → P x × (test x ≡ true)
found_each P test [] x each found = cc
found_each {X} P test (y ∷ ys) x each found = go (test y) refl found (found_each P test ys x each.1)
  where
    go : (b : Bool) → test y ≡ b → cond b (Some y) (find test ys) ≡ Some x
        → (find test ys ≡ Some x → P x × (test x ≡ true)) → P x × (test x ≡ true)
    go true e f later =
        let same : y ≡ x = ap (λ (o : Option X). unwrap_or o y) f in
        subst (λ (z : X). P z × (test z ≡ true)) same (each.0, e)
    go false e f later = later f

each_append : {X : Type 0} (P : X → Type 0) (xs ys : List X) → Each P xs → Each P ys → Each P (xs ++ ys)
each_append P [] ys a b = b
each_append P (x ∷ xs) ys a b = (a.0, each_append P xs ys a.1 b)

-- ---- kinds of faults

pub none_of_both : (a b : Kinds) → or_else a b ≡ [] → (a ≡ []) × (b ≡ [])
none_of_both [] b e = (refl, e)
none_of_both (k ∷ ks) b e = cc

value_passes_of : (a : Rule) (v : Text) → value_kinds a.ignore_case (parser_of_value a.parser) v ≡ [] → value_passes a v ≡ true
value_passes_of a v e = go (value_passes a v) e
  where
    go : (b : Bool) → cond b [] (refused_kind (parser_of_value a.parser) ∷ []) ≡ [] → b ≡ true
    go true none = refl
    go false none = cc

pub values_pass_of : (a : Rule) (values : List Text) → values_fault a values ≡ [] → values_pass a values ≡ true
values_pass_of a [] e = refl
values_pass_of a (v ∷ vs) e =
    let parts = none_of_both (value_kinds a.ignore_case (parser_of_value a.parser) v) (values_fault a vs) e in
    ap₂ (λ b d. b && d) (value_passes_of a v parts.0) (values_pass_of a vs parts.1)

values_pass_append : (a : Rule) (xs ys : List Text) → values_pass a xs ≡ true → values_pass a ys ≡ true → values_pass a (xs ++ ys) ≡ true
values_pass_append a xs ys e f = list_all-append (value_passes a) xs ys ∙ ap₂ (λ b d. b && d) e f

one_of_range : (n : ℕ) (none one : Bool) → (1 == n) ≡ one
    → cond none (kind.InvalidValue ∷ []) (cond one [] (kind.WrongNumberOfValues ∷ [])) ≡ [] → n ≡ 1
one_of_range n true one is e = cc
one_of_range n false true is e = sym (eqb-true 1 n is)
one_of_range n false false is e = cc

-- ---- rows

-- the argument takes one value a use, and is used once
abbrev pub IsSingle : Rule → Type 0
IsSingle a = (action_of a ≡ action.Set) × ((unwrap_or_range a.range).start_inclusive ≡ 1)
    × (most_values a ≡ 1) × (a.defaults ≡ [])

-- the row holds values of the argument
pub record IsRowOf (a : Rule) (r : Row) : Type 0 where
  pub reading : r.reading ≡ reading_by a
  pub passed : values_pass a r.values ≡ true
  pub single : IsSingle a → length r.values ≡ 1

-- the row is of one of the arguments
abbrev pub IsRow : List Rule → Row → Type 0
IsRow c r = (a : Rule) × (arg_by_id c r.id ≡ Some a) × IsRowOf a r

-- no argument before this one has its id
abbrev pub IsFirstOfId : List Rule → Rule → Type 0
IsFirstOfId c a = arg_by_id c a.id ≡ Some a

at_row_each : (P : Row → Type 0) (id : Text) (change : Row → List Row) (missing rows : List Row) → Each P rows
    → ((r : Row) → bytes_eq r.id id ≡ true → P r → Each P (change r)) → Each P missing
    → Each P (at_row id change missing rows)
at_row_each P id change missing [] each changed added = added
at_row_each P id change missing (r ∷ rs) each changed added =
    go (bytes_eq r.id id) refl (at_row_each P id change missing rs each.1 changed added)
  where
    go : (b : Bool) → bytes_eq r.id id ≡ b → Each P (at_row id change missing rs)
        → Each P (cond b (change r ++ rs) (r ∷ at_row id change missing rs))
    go true e rest = each_append P (change r) rs (changed r e each.0) each.1
    go false e rest = (each.0, rest)

absent_row : (id : Text) (change : Row → List Row) (missing rows : List Row) → has_row id rows ≡ false
    → at_row id change missing rows ≡ rows ++ missing
absent_row id change missing [] absent = refl
absent_row id change missing (r ∷ rs) absent = go (bytes_eq r.id id) absent (absent_row id change missing rs)
  where
    go : (b : Bool) → (b || has_row id rs) ≡ false → (has_row id rs ≡ false → at_row id change missing rs ≡ rs ++ missing)
        → cond b (change r ++ rs) (r ∷ at_row id change missing rs) ≡ r ∷ (rs ++ missing)
    go true e rest = absurd (true≢false e)
    go false e rest = ap (λ xs. r ∷ xs) (rest e)

-- ---- one use of an argument

module _ (c : List Rule) where
  without_each : (id : Text) (rows : List Row) → Each (IsRow c) rows → Each (IsRow c) (without id rows)
  without_each id rows each = at_row_each (IsRow c) id (λ _. []) [] rows each (λ r same is. tt) tt

  module _ (a : Rule) (first : IsFirstOfId c a) where
    -- a row of the argument's id is of the argument
    own_row : (r : Row) → bytes_eq r.id a.id ≡ true → IsRow c r → IsRowOf a r
    own_row r same is =
        let id : r.id ≡ a.id = (bytes_eq-Decides r.id a.id).0 same in
        let found : Some is.0 ≡ Some a = sym is.1 ∙ ap (arg_by_id c) id ∙ first in
        subst (λ (x : Rule). IsRowOf x r) (ap (λ (o : Option Rule). unwrap_or o a) found) is.2

    row_of : (r : Row) → r.id ≡ a.id → IsRowOf a r → IsRow c r
    row_of r id is = (a, ap (arg_by_id c) id ∙ first, is)

    new_row : (s : ValueSource) (n : Option ℕ) (values : List Text) → values_pass a values ≡ true → (IsSingle a → length values ≡ 1)
        → IsRow c (record { id = a.id; values = values; count = n; source = Some s; reading = reading_by a })
    new_row s n values pass single = row_of _ refl (record { reading = refl; passed = pass; single = single })

    -- values that are added
    more_each : (s : ValueSource) (values : List Text) (rows : List Row) → values_pass a values ≡ true → (IsSingle a → ⊥)
        → Each (IsRow c) rows → Each (IsRow c) (with_values a.id (reading_by a) s values rows)
    more_each s values rows pass several each =
        at_row_each (IsRow c) a.id (more_values s values) _ rows each (λ r same is.
        let of = own_row r same is in
        let id : r.id ≡ a.id = (bytes_eq-Decides r.id a.id).0 same in (
          row_of _ id (record {
            reading = of.reading;
            passed = values_pass_append a r.values values of.passed pass;
            single = λ one. absurd (several one);
          }),
          tt,
        ))
        (new_row s None values pass (λ one. absurd (several one)), tt)

    -- values where there are none yet
    pub new_each : (s : ValueSource) (values : List Text) (rows : List Row) → has_row a.id rows ≡ false → values_pass a values ≡ true
        → (IsSingle a → length values ≡ 1) → Each (IsRow c) rows → Each (IsRow c) (with_values a.id (reading_by a) s values rows)
    new_each s values rows absent pass single each =
        subst (Each (IsRow c)) (sym (absent_row a.id (more_values s values) _ rows absent))
        (each_append (IsRow c) rows _ each (new_row s None values pass single, tt))

    count_each : (n : ℕ) (rows : List Row) → value_passes a (count_text n) ≡ true → (IsSingle a → ⊥)
        → Each (IsRow c) rows → Each (IsRow c) (with_count a.id (reading_by a) CommandLine n rows)
    count_each n rows pass several each =
        let one_passes : values_pass a (count_text n ∷ []) ≡ true = ap (λ b. b && true) pass in
        at_row_each (IsRow c) a.id (new_count CommandLine n) _ rows each (λ r same is.
        let of = own_row r same is in
        let id : r.id ≡ a.id = (bytes_eq-Decides r.id a.id).0 same in (
          row_of _ id (record {
            reading = of.reading;
            passed = values_pass_append a r.values (count_text n ∷ []) of.passed one_passes;
            single = λ one. absurd (several one);
          }),
          tt,
        ))
        (new_row CommandLine (Some n) (count_text n ∷ []) one_passes (λ one. absurd (several one)), tt)

    set_each : (values : List Text) (rows : List Row) → (IsSingle a → length values ≡ 1) → set_fault false a values rows ≡ []
        → Each (IsRow c) rows → Each (IsRow c) (with_values a.id (reading_by a) CommandLine values (without a.id rows))
    set_each values rows single fault each =
        let parts = none_of_both (repeat_fault false a.id rows) (values_fault a values) fault in
        let absent : has_row a.id rows ≡ false = unused (has_row a.id rows) parts.0 in
        let same : without a.id rows ≡ rows = absent_row a.id (λ _. []) [] rows absent ∙ append-nil rows in
        subst (λ (rs : List Row). Each (IsRow c) (with_values a.id (reading_by a) CommandLine values rs)) (sym same)
        (new_each CommandLine values rows absent (values_pass_of a values parts.1) single each)
      where
        unused : (b : Bool) → cond (b && true) (kind.ArgumentConflict ∷ []) [] ≡ [] → b ≡ false
        unused false e = refl
        unused true e = cc

    counted_each : (values : List Text) (rows : List Row) → (IsSingle a → ⊥) → count_fault a values rows ≡ []
        → Each (IsRow c) rows → Each (IsRow c) (counted a.id (reading_by a) values rows)
    counted_each [] rows several fault each =
        count_each (min (count_of a.id rows + 1) 255) (without a.id rows) (value_passes_of a _ fault) several (without_each a.id rows each)
    counted_each (v ∷ vs) rows several fault each =
        more_each CommandLine (v ∷ vs) (without a.id rows) (values_pass_of a (v ∷ vs) fault) several (without_each a.id rows each)

    used_as_each : (x : ArgAction) (values : List Text) (rows : List Row) → action_of a ≡ x → (IsSingle a → length values ≡ 1)
        → action_fault x false a values rows ≡ [] → Each (IsRow c) rows → Each (IsRow c) (used_as x a.id (reading_by a) values rows)
    used_as_each action.Set values rows is single fault each = set_each values rows single fault each
    used_as_each action.SetTrue values rows is single fault each = set_each values rows single fault each
    used_as_each action.SetFalse values rows is single fault each = set_each values rows single fault each
    used_as_each action.Append values rows is single fault each =
        more_each CommandLine values rows (values_pass_of a values fault) (λ one. let no : action.Append ≡ action.Set = sym is ∙ one.0 in cc) each
    used_as_each action.Count values rows is single fault each =
        counted_each values rows (λ one. let no : action.Count ≡ action.Set = sym is ∙ one.0 in cc) fault each
    used_as_each action.Help values rows is single fault each = each
    used_as_each action.HelpShort values rows is single fault each = each
    used_as_each action.HelpLong values rows is single fault each = each
    used_as_each action.Version values rows is single fault each = each

    pub used_each : (values : List Text) (rows : List Row) → use_fault false a values rows ≡ []
        → Each (IsRow c) rows → Each (IsRow c) (used a values rows)
    used_each values rows fault each =
        let parts = none_of_both (range_kinds (unwrap_or_range a.range).start_inclusive (most_values a) (length values)) _ fault in
        used_as_each (action_of a) (values_or_missing a values) rows refl
        (λ one. one_given values (range_of_one (length values) (ap₂ (λ low high. range_kinds low high (length values)) (sym one.1) (sym one.2) ∙ parts.0)))
        parts.1 each
      where
        range_of_one : (n : ℕ) → range_kinds 1 1 n ≡ [] → n ≡ 1
        range_of_one n e = one_of_range n (n == 0) (1 == n) refl e

        one_given : (vs : List Text) → length vs ≡ 1 → length (values_or_missing a vs) ≡ 1
        one_given [] e = absurd (omega arith)
        one_given (v ∷ vs) e = e
