-- What a run says of a source that is unfinished, or can't be read.
use Rattle.std.proofs.Common.{◌≡◌, ◌<◌, ◌≤◌, ℕ, refl, arith, subst, sym, Ok, Err, IfErr, IsErrAnd, IsErrOf, Result}
use Rattle.std.proofs.lemmas.Result.{IfErr-weaker}
use Rattle.ring_collect.specs.declared.faults.CollectFault.{CollectFault}
use Rattle.ring_collect.specs.declared.faults.CollectFault.TheVariants.{OutOfMemory, NoThread, Unfinished}
use Rattle.source_lists.specs.checked.OpenRuns.{IsOfReaders, IsOfRun}
use Rattle.source_lists.specs.declared.run_faults.RunFault.{RunFault}
use Rattle.source_lists.specs.declared.run_faults.RunFault.TheVariants.{Collect, Unreadable}

pub blamed : {T : Type 0} (result : Result T CollectFault) (count : ℕ) → ((source : ℕ) → IsErrOf result (Unfinished source) → source < count) → IfErr result (IsOfReaders count)
blamed (Ok run) count below = tt
blamed (Err OutOfMemory) count below = tt
blamed (Err NoThread) count below = tt
blamed (Err (Unfinished source)) count below = below source refl

more_readers : (few many : ℕ) → few ≤ many → (fault : CollectFault) → IsOfReaders few fault → IsOfReaders many fault
more_readers few many fewer OutOfMemory of = tt
more_readers few many fewer NoThread of = tt
more_readers few many fewer (Unfinished source) of = omega (arith, fewer, of)

more_inputs : (few many : ℕ) → few ≤ many → (fault : RunFault) → IsOfRun few fault → IsOfRun many fault
more_inputs few many fewer (Collect fault) of = more_readers few many fewer fault of
more_inputs few many fewer (Unreadable source) of = omega (arith, fewer, of)

-- of more there are more
pub of_more_readers : {T : Type 0} (result : Result T CollectFault) (few many : ℕ) → few ≤ many → IfErr result (IsOfReaders few) → IfErr result (IsOfReaders many)
of_more_readers result few many fewer err = IfErr-weaker result (IsOfReaders few) (IsOfReaders many) (more_readers few many fewer) err

-- a fault that is handed on
pub handed_on : {T : Type 0} (result : Result T RunFault) (few many : ℕ) (fault : RunFault) → IsErrAnd result (λ found. found ≡ fault) → few ≤ many → IsOfRun few fault → IfErr result (IsOfRun many)
handed_on (Ok run) few many fault handed fewer of = tt
handed_on (Err found) few many fault handed fewer of = subst (IsOfRun many) (sym handed) (more_inputs few many fewer fault of)

-- what is said of any fault is said of one that is answered
pub said_of : {T : Type 0} (result : Result T RunFault) (count : ℕ) (fault : RunFault) → IfErr result (IsOfRun count) → IsErrOf result fault → IsOfRun count fault
said_of {T} result count fault err is = subst (λ (result : Result T RunFault). IfErr result (IsOfRun count)) is err
