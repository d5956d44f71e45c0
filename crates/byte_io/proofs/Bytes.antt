-- What reads and writes do to known bytes and to the count of failed calls, one after the other.
use Rattle.std.proofs.Common.{◌≡◌, ℕ, ◌+◌, List, ◌++◌, length, take, drop, cond, ◌&&◌, eqb, ltb, sym, subst, ◌∙◌, ap}
use Rattle.std.proofs.Math.Seq.{take-add}
use Rattle.std.proofs.KnownBytes.{Appends-trans}
use Rattle.std.proofs.lemmas.Bool.{ne_eqb}
use Rattle.std.specs.Prelude.{Option}
use Rattle.std.specs.Io.KnownBytes.{Appends}
use Rattle.byte_io.specs.Calls.{one_more}

-- one write more, of what is left
pub Appends-more : (a b c : Option (List ℕ)) (bytes left : List ℕ) (i n : ℕ) → left ≡ drop i bytes → Appends a b (take i bytes) → Appends b c (take n left)
    → Appends a c (take (i + n) bytes)
Appends-more a b c bytes left i n is_left sent more =
    subst (Appends a c) (ap (λ l. take i bytes ++ take n l) is_left ∙ sym (take-add i n bytes)) (Appends-trans a b c _ _ sent more)

-- a write that took some bytes didn't fail
pub count-took : (old new n : ℕ) (bytes : List ℕ) → (n ≡ 0 → ⊥) → new ≡ cond (eqb n 0 && ltb 0 (length bytes)) (one_more old) old → new ≡ old
count-took old new n bytes some count =
    count ∙ ap (λ none. cond (none && ltb 0 (length bytes)) (one_more old) old) (ne_eqb n 0 some)
