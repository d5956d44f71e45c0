-- A ledger, while names are told.
use Rattle.std.proofs.Common.{ℕ, List, [], ◌∷◌, ◌++◌, ◌≡◌, ap, ◌∙◌, None, Result, Ok, Err, OnOk, OnErr}
use Rattle.stack_core.specs.Ledgers.{LedgerState}

-- a ledger that was told one more name, or nothing, is as open as before
pub still_open : {A E : Type 0} (name : List ℕ) (old new : LedgerState) (result : Result A E) → OnOk result (new ≡ record old { told = old.told ++ name ∷ [] }) → OnErr result (new ≡ old)
    → old.close ≡ None → new.close ≡ None
still_open name old new (Ok x) ok refused is = ap (λ l. l.close) ok ∙ is
still_open name old new (Err e) ok refused is = ap (λ l. l.close) refused ∙ is
