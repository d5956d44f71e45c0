-- Words that are looked at one after another for a refused value, up to a wish for help.
use Rattle.std.proofs.Common.{◌≡◌, ◌∙◌, ◌||◌, ◌+◌, ◌-◌, ◌<◌, ◌≤◌, ℕ, Bool, cond, true, false, true≢false, refl, sym, ap, arith, nat_eq, List, [], ◌∷◌, length, map, drop, take, get_or, Option, Some, None, option_map}
use Rattle.std.proofs.lemmas.List.{drop_more, length-drop, take_all}
use Rattle.std.proofs.lemmas.Slice.Eq.{starts_is}
use Rattle.std.proofs.lemmas.Bool.Decides.{Decides-eqb}
use Rattle.std.specs.Borrow.{Bor}
use Rattle.std.specs.List.{starts_with}
use Rattle.std.specs.Option.{MatchOption}
use Rattle.std.specs.Str.{bytes_eq}
use Rattle.std.specs.Str.Pattern.{FindsTextPrefix, StripsPrefix}
use Rattle.clap.specs.Walk.{Text}
use Rattle.command_line.specs.EarlyValues.{asks_for_help, behind, gives_unknown, refuses_before_help, value_in}

-- the first of the words
met : (word : Text) (rest : List Text) (asks gives : Bool) → asks_for_help word ≡ asks → gives_unknown (word ∷ rest) ≡ gives
    → refuses_before_help (word ∷ rest) ≡ cond asks false (gives || refuses_before_help rest)
unfolding refuses_before_help
met word rest asks gives asking giving = rw (asking, giving) refl

module _ {A : Type 0} (bytes : A → Text) (words : List A) (at : ℕ) (word : A) (below : at < length words) (is : word ≡ get_or words at word) where
  here : map bytes (drop at words) ≡ bytes word ∷ map bytes (drop (at + 1) words)
  here = ap (map bytes) (drop_more words at word below) ∙ ap (λ w. bytes w ∷ map bytes (drop (at + 1) words)) (sym is)

  found : (asks gives : Bool) → asks_for_help (bytes word) ≡ asks → gives_unknown (map bytes (drop at words)) ≡ gives
      → refuses_before_help (map bytes (drop at words)) ≡ cond asks false (gives || refuses_before_help (map bytes (drop (at + 1) words)))
  found asks gives asking giving =
      ap refuses_before_help here ∙ met (bytes word) (map bytes (drop (at + 1) words)) asks gives asking (sym (ap gives_unknown here) ∙ giving)

  -- help is asked for
  pub stops : asks_for_help (bytes word) ≡ true → refuses_before_help (map bytes (drop at words)) ≡ false
  stops asking = found true (gives_unknown (map bytes (drop at words))) asking refl

  -- a value is refused
  pub refuses : asks_for_help (bytes word) ≡ false → gives_unknown (map bytes (drop at words)) ≡ true → refuses_before_help (map bytes (drop at words)) ≡ true
  refuses asking giving = found false true asking giving

  -- neither
  pub goes_on : asks_for_help (bytes word) ≡ false → gives_unknown (map bytes (drop at words)) ≡ false
      → refuses_before_help (map bytes (drop at words)) ≡ refuses_before_help (map bytes (drop (at + 1) words))
  goes_on asking giving = found false false asking giving

-- all words from a place on
pub from_on : {A : Type 0} (words : List A) (at : ℕ) → take (length words - at) (drop at words) ≡ drop at words
from_on words at = take_all (length words - at) (drop at words) (omega (arith, length-drop at words))

-- no word is left
pub nothing_left : {A : Type 0} (bytes : A → Text) (words : List A) (at : ℕ) → drop at words ≡ [] → refuses_before_help (map bytes (drop at words)) ≡ false
unfolding refuses_before_help
nothing_left bytes words at none = ap (λ left. refuses_before_help (map bytes left)) none

-- what stands behind the front of a word, as `strip_prefix` gives it
pub behind_is : (front word : Text) (r : Option (Bor Text)) → MatchOption r (FindsTextPrefix front word None) (λ x. StripsPrefix (FindsTextPrefix front) word x.now)
    → option_map (λ value. value.now) r ≡ behind front word
behind_is front word r strips = go r strips (starts_with nat_eq word front) refl
  where
    go : (r : Option (Bor Text)) → MatchOption r (FindsTextPrefix front word None) (λ x. StripsPrefix (FindsTextPrefix front) word x.now)
        → (b : Bool) → starts_with nat_eq word front ≡ b → option_map (λ value. value.now) r ≡ cond b (Some (drop (length front) word)) None
    go None lacks false says = refl
    go None lacks true says = absurd (lacks (drop (length front) word) ((starts_is Decides-eqb word front _ refl).0 says))
    go (Some x) strips true says = ap (λ value. Some value) (strips.2 ∙ ap (λ n. drop n word) strips.1.0)
    go (Some x) strips false says = absurd (true≢false (sym ((starts_is Decides-eqb word front _ refl).1 (drop strips.0 word) strips.1.1) ∙ says))

-- the value that the first word has behind the front
pub first_behind : {A : Type 0} (bytes : A → Text) (words : List A) (word : A) (option front : Text) (r : Option Text) → 1 ≤ length words → word ≡ get_or words 0 word
    → bytes_eq (bytes word) option ≡ false → r ≡ behind front (bytes word) → r ≡ value_in option front (map bytes words)
first_behind bytes [] word option front r some is other value = absurd (omega arith)
first_behind bytes (w ∷ rest) word option front r some is other value =
    let same : bytes w ≡ bytes word = ap bytes (sym is) in
    rw (same, other) value
