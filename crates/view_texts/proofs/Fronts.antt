-- Texts that are appended one after another, and what they begin with.
use Rattle.std.proofs.Common.{◌≡◌, List, ℕ, ◌++◌, length, take, ap, ◌∙◌, append_assoc, arith}
use Rattle.std.proofs.Math.Seq.{take-append_seam}
use Rattle.std.proofs.lemmas.List.{take_all}
use Rattle.std.specs.Prelude.{Result, Ok, Err, OnOk, if◌then◌else◌, is_ok}
use Rattle.std.specs.Io.{StartsWith}

-- nothing was appended
pub same_front : (new old : List ℕ) → new ≡ old → StartsWith new old
same_front new old is = ap (take (length old)) is ∙ take_all (length old) old (omega arith)

-- a text was appended
pub longer_front : (new old text : List ℕ) → new ≡ old ++ text → StartsWith new old
longer_front new old text is = ap (take (length old)) is ∙ take-append_seam old text

-- a text was appended, or nothing
pub front_either : {T E : Type 0} (result : Result T E) (new old text : List ℕ) → new ≡ (if is_ok result then old ++ text else old) → StartsWith new old
front_either (Ok value) new old text is = longer_front new old text is
front_either (Err error) new old text is = same_front new old is

-- a text after another
pub text_after : (start middle new first second : List ℕ) → middle ≡ start ++ first → new ≡ middle ++ second → new ≡ start ++ (first ++ second)
text_after start middle new first second is more = more ∙ (ap (λ text. text ++ second) is ∙ append_assoc start first second)

-- what follows where the text was appended
pub on_ok_if : {T E Q : Type 0} (result : Result T E) (new old text : List ℕ) → new ≡ (if is_ok result then old ++ text else old) → (new ≡ old ++ text → Q) → OnOk result Q
on_ok_if (Ok value) new old text is follows = follows is
on_ok_if (Err error) new old text is follows = tt
