-- What holds where a result is no error.
use Rattle.std.proofs.Common.{◌≡◌, ◌∙◌, ap, subst, true≢false, false, Result, Ok, Err, OnOk, is_ok, is_err, if◌then◌else◌}
use Rattle.std.specs.Result.{IsErrAnd, IsErrOf}

pub on_ok : {T E P : Type 0} (result : Result T E) → is_err result ≡ false → OnOk result P → P
on_ok (Ok x) is holds = holds
on_ok (Err e) is holds = absurd (true≢false is)

pub on_ok_value : {T E A : Type 0} (result : Result T E) {value done : A} (undone : A) → is_err result ≡ false → value ≡ (if is_ok result then done else undone) → value ≡ done
on_ok_value (Ok x) undone is equal = equal
on_ok_value (Err e) undone is equal = absurd (true≢false is)

-- what is said of the error holds of each that the result is
pub error_said : {T E : Type 0} (Q : E → Type 0) (result : Result T E) (error : E) → IsErrAnd result Q → IsErrOf result error → Q error
error_said Q result error said is = subst (λ r. IsErrAnd r Q) is said

-- an answer of that error is of it under any name
pub err_is : {T E : Type 0} (result : Result T E) (error other : E) → IsErrAnd result (λ e. e ≡ error) → error ≡ other → IsErrOf result other
err_is (Ok x) error other said same = absurd said
err_is (Err e) error other said same = ap Err (said ∙ same)

-- a result that is none is of no error
pub no_err : {T E : Type 0} (x : T) (error : E) → (let result : Result T E = Ok x in IsErrOf result error) → ⊥
no_err x error is = cc
