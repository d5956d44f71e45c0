-- What is kept of samples.
use Rattle.std.proofs.Common.{◌≡◌, ◌∙◌, ◌≤◌, ◌↔◌, ◌||◌, ◌&&◌, ℕ, Bool, cond, true, false, not, refl, sym, ap, arith, List, [], ◌∷◌, ◌++◌, length, drop, true≢false}
use Rattle.std.specs.Prelude.{String, map, nat_eq, string_bytes}
use Rattle.std.specs.List.{list_any, starts_with}
use Rattle.std.specs.Str.Iter.{HasSubslice}
use Rattle.std.proofs.lemmas.List.Elements.{All-filter}
use Rattle.std.proofs.lemmas.List.Filters.{sum_by-filter_both}
use Rattle.std.proofs.lemmas.Slice.Eq.{starts_is}
use Rattle.std.proofs.lemmas.Bool.Decides.{Decides-eqb}
use Rattle.sample_tables.specs.Samples.{IsLimited, total_weight}
use Rattle.stack_core.specs.Reading.{IsSourceLimited, Rest}
use Rattle.sample_tables.specs.declared.samples.Sample.{Sample}
use Rattle.run_options.specs.declared.filters.Filter.{Filter}
use Rattle.run_options.specs.Filters.{has_match, has_text, is_everything, is_none, keeps, kept_rest, kept_samples}

-- ---- a text in a name

at_front : (name text : List ℕ) → (starts_with nat_eq name text ≡ true → name ≡ text ++ drop (length text) name)
    × ((rest : List ℕ) → name ≡ text ++ rest → starts_with nat_eq name text ≡ true)
at_front name text = starts_is Decides-eqb name text _ refl

text_stands : (name text : List ℕ) → has_text text name ≡ true → HasSubslice name text
text_stands [] text e = ([], drop (length text) [], (at_front [] text).0 e)
text_stands (x ∷ xs) text e = go (starts_with nat_eq (x ∷ xs) text) refl (text_stands xs text) e
  where
    go : (b : Bool) → starts_with nat_eq (x ∷ xs) text ≡ b → (has_text text xs ≡ true → HasSubslice xs text) → (b || has_text text xs) ≡ true → HasSubslice (x ∷ xs) text
    go true is later e = ([], drop (length text) (x ∷ xs), (at_front (x ∷ xs) text).0 is)
    go false is later e =
        let found = later e in
        (x ∷ found.0, found.1, ap (λ l. x ∷ l) found.2)

text_is_found : (name text before after : List ℕ) → name ≡ before ++ (text ++ after) → has_text text name ≡ true
text_is_found [] text [] after e = (at_front [] text).1 after e
text_is_found [] text (y ∷ ys) after e = cc
text_is_found (x ∷ xs) text [] after e = ap (λ b. b || has_text text xs) ((at_front (x ∷ xs) text).1 after e)
text_is_found (x ∷ xs) text (y ∷ ys) after e = go (starts_with nat_eq (x ∷ xs) text) (text_is_found xs text ys after (ap (drop 1) e))
  where
    go : (b : Bool) → has_text text xs ≡ true → (b || has_text text xs) ≡ true
    go true found = refl
    go false found = found

pub found_text : (r : Bool) (name text : List ℕ) → (r ≡ true) ↔ HasSubslice name text → r ≡ has_text text name
found_text true name text iff =
    let stands = iff.0 refl in
    sym (text_is_found name text stands.0 stands.1 stands.2)
found_text false name text iff = go (has_text text name) refl
  where
    go : (b : Bool) → has_text text name ≡ b → false ≡ b
    go false e = refl
    go true e = iff.1 (text_stands name text e)

any_named : {Z : Type 0} (test : List ℕ → Bool) (xs : List (String Z)) → list_any test (map string_bytes xs) ≡ list_any (λ x. test (string_bytes x)) xs
any_named test [] = refl
any_named test (x ∷ xs) = ap (λ b. test (string_bytes x) || b) (any_named test xs)

-- the test of strings is that of their bytes
pub match_named : {Z : Type 0} (texts stack : List (String Z)) → list_any (λ name. list_any (λ text. has_text (string_bytes text) (string_bytes name)) texts) stack
    ≡ has_match (map string_bytes texts) (map string_bytes stack)
match_named texts [] = refl
match_named texts (name ∷ stack) = (λ i. sym (any_named (λ text. has_text text (string_bytes name)) texts) i || match_named texts stack i)

or_false : (b : Bool) → b ≡ (b || false)
or_false true = refl
or_false false = refl

-- the same of one name
pub one_matched : {Z : Type 0} (texts : List (String Z)) (name : List ℕ) → list_any (λ text. has_text (string_bytes text) name) texts
    ≡ has_match (map string_bytes texts) (name ∷ [])
one_matched texts name =
    or_false (list_any (λ text. has_text (string_bytes text) name) texts)
    ∙ ap (λ b. b || false) (sym (any_named (λ text. has_text text name) texts))

-- ---- the samples of a source

pub none_matches : (stack : List (List ℕ)) → has_match [] stack ≡ false
none_matches [] = refl
none_matches (name ∷ stack) = none_matches stack

module _ (asked : Filter) where
  pub keeps_each : is_everything asked ≡ true → (stack : List (List ℕ)) → keeps asked stack ≡ true
  keeps_each = go asked.focus asked.hide
    where
      go : (focus hide : List (List ℕ)) → (is_none focus && is_none hide) ≡ true → (stack : List (List ℕ)) → keeps (record { focus = focus; hide = hide }) stack ≡ true
      go [] [] e stack = rw (none_matches stack) refl
      go [] (text ∷ texts) e stack = absurd (true≢false (sym e))
      go (text ∷ texts) hide e stack = absurd (true≢false (sym e))

  all_kept : is_everything asked ≡ true → (samples : List Sample) → kept_samples asked samples ≡ samples
  all_kept e [] = refl
  all_kept e (sample ∷ samples) =
      ap (λ b. cond b (sample ∷ kept_samples asked samples) (kept_samples asked samples)) (keeps_each e sample.stack)
      ∙ ap (λ later. sample ∷ later) (all_kept e samples)

  pub all_is_kept : is_everything asked ≡ true → (rest : Rest) → kept_rest asked rest ≡ rest
  all_is_kept e rest = λ i. record { samples = all_kept e rest.samples i; ending = rest.ending }

  pub fewer_kept : (samples : List Sample) → length (kept_samples asked samples) ≤ length samples
  fewer_kept [] = omega arith
  fewer_kept (sample ∷ samples) = go (keeps asked sample.stack) (fewer_kept samples)
    where
      go : (b : Bool) → length (kept_samples asked samples) ≤ length samples
          → length (cond b (sample ∷ kept_samples asked samples) (kept_samples asked samples)) ≤ length (sample ∷ samples)
      go true fewer = omega (arith, fewer)
      go false fewer = omega (arith, fewer)

  lighter_kept : (samples : List Sample) → total_weight (kept_samples asked samples) ≤ total_weight samples
  lighter_kept samples =
      let parted = sum_by-filter_both (λ (sample : Sample). keeps asked sample.stack) (λ sample. not (keeps asked sample.stack)) (λ _. refl) (λ sample. sample.weight) samples in
      omega (arith, parted)

  -- what is kept of samples is within their limits
  pub limited_kept : (samples : List Sample) → IsSourceLimited samples → IsSourceLimited (kept_samples asked samples)
  limited_kept samples limited = record {
    each = All-filter (λ sample. keeps asked sample.stack) IsLimited samples limited.each;
    total = omega (arith, lighter_kept samples, limited.total);
  }
