-- worked examples of the weights by function, of their changes, and of callers and callees: recursion counts once, and a sample without frames or weight counts nowhere
use Rattle.std.proofs.Common.{◌≡◌, ℕ, false, true, List, [], ◌∷◌, None, Some, codes, refl}
use Rattle.std.specs.declared.cmp.Ordering.TheVariants.{Less}
use Rattle.sample_tables.specs.declared.samples.Sample.{Sample}
use Rattle.run_options.specs.declared.orders.FunctionOrder.{FunctionOrder as Order}
use Rattle.run_options.specs.declared.orders.FunctionOrder.TheVariants.{Own, Total}
use Rattle.function_sums.specs.declared.changes.Change.{Change}
use Rattle.function_sums.specs.declared.changes.ChangeOrder.{ChangeOrder}
use Rattle.function_sums.specs.declared.changes.FunctionChange.{FunctionChange}
use Rattle.function_sums.specs.declared.sums.FunctionSum.{FunctionSum}
use Rattle.function_sums.specs.Calls.{calls_of}
use Rattle.function_sums.specs.declared.call_sides.CallSide.TheVariants.{Callers, Callees}
use Rattle.function_sums.specs.FunctionList.{changes_of, functions_of}
use Rattle.function_sums.specs.FunctionSums.{own_of, total_of, sums_of, sum_cmp}
use Rattle.function_sums.specs.Growth.{grew_over, grown}

abbrev samples : List Sample
samples =
    record { stack = codes "f" ∷ codes "g" ∷ codes "f" ∷ codes "g" ∷ []; weight = 1 } ∷
    record { stack = codes "m" ∷ codes "f" ∷ codes "f" ∷ []; weight = 2 } ∷
    record { stack = codes "m" ∷ []; weight = 3 } ∷
    record { stack = []; weight = 4 } ∷
    record { stack = codes "z" ∷ []; weight = 0 } ∷ []

-- recursion counts once; the own weight is that of last frames, and the total that of callers too; z is without weight
weights : (total_of (codes "f") samples ≡ 3)
    × (own_of (codes "f") samples ≡ 2)
    × (sums_of samples (codes "m") ≡ record { name = codes "m"; own = 3; total = 5 })
    × (total_of (codes "z") samples ≡ 0)
weights = (refl, refl, refl, refl)

-- the heavier is first, and of two that weigh the same the first by name
ranks : (sum_cmp Total (sums_of samples (codes "m")) (sums_of samples (codes "f")) ≡ Less)
    × (sum_cmp Own (record { name = codes "a"; own = 2; total = 2 }) (record { name = codes "b"; own = 2; total = 9 }) ≡ Less)
ranks = (refl, refl)

abbrev sum : List ℕ → ℕ → ℕ → FunctionSum
sum name own total = record { name = name; own = own; total = total }

-- each name once, those without weight not at all
list_by_own : functions_of Own samples ≡ sum (codes "m") 3 5 ∷ sum (codes "f") 2 3 ∷ sum (codes "g") 1 1 ∷ []
unfolding functions_of
list_by_own = refl

-- ---- changes

abbrev old : List Sample
old =
    record { stack = codes "m" ∷ codes "f" ∷ []; weight = 3 } ∷
    record { stack = codes "m" ∷ []; weight = 5 } ∷
    record { stack = codes "g" ∷ []; weight = 4 } ∷ []

abbrev new : List Sample
new =
    record { stack = codes "m" ∷ codes "f" ∷ []; weight = 5 } ∷
    record { stack = codes "m" ∷ []; weight = 1 } ∷
    record { stack = codes "h" ∷ []; weight = 2 } ∷
    record { stack = codes "g" ∷ []; weight = 4 } ∷ []

abbrev change : List ℕ → Change → Change → FunctionChange
change name own total = record { name = name; own = own; total = total }

abbrev from : ℕ → ℕ → Change
from before after = record { before = before; after = after }

abbrev by_weight : Order → ChangeOrder
by_weight by = record { by = by; whole = None }

-- the greatest change first, also where it is down; a function of one side, and one that does not change
changes_by_own : changes_of (by_weight Own) old new
    ≡ change (codes "m") (from 5 1) (from 8 6) ∷ change (codes "f") (from 3 5) (from 3 5) ∷ change (codes "h") (from 0 2) (from 0 2) ∷ change (codes "g") (from 4 4) (from 4 4) ∷ []
unfolding changes_of
changes_by_own = refl

-- three changes of 2, by their names
changes_by_total : changes_of (by_weight Total) old new
    ≡ change (codes "f") (from 3 5) (from 3 5) ∷ change (codes "h") (from 0 2) (from 0 2) ∷ change (codes "m") (from 5 1) (from 8 6) ∷ change (codes "g") (from 4 4) (from 4 4) ∷ []
unfolding changes_of
changes_by_total = refl

-- of profiles of which one is ten times as long: f keeps its weight and loses most of its share, g keeps its share, and h has the half
abbrev short : List Sample
short =
    record { stack = codes "f" ∷ []; weight = 6 } ∷
    record { stack = codes "g" ∷ []; weight = 4 } ∷ []

abbrev long : List Sample
long =
    record { stack = codes "f" ∷ []; weight = 10 } ∷
    record { stack = codes "g" ∷ []; weight = 40 } ∷
    record { stack = codes "h" ∷ []; weight = 50 } ∷ []

abbrev by_share : ChangeOrder
by_share = record { by = Own; whole = Some (from 10 100) }

-- 60 to 10 hundredths and 0 to 50, by their names, before 40 to 40
changes_by_share : changes_of by_share short long
    ≡ change (codes "f") (from 6 10) (from 6 10) ∷ change (codes "h") (from 0 50) (from 0 50) ∷ change (codes "g") (from 4 40) (from 4 40) ∷ []
unfolding changes_of
changes_by_share = refl

changes_by_length : changes_of (by_weight Own) short long
    ≡ change (codes "h") (from 0 50) (from 0 50) ∷ change (codes "g") (from 4 40) (from 4 40) ∷ change (codes "f") (from 6 10) (from 6 10) ∷ []
unfolding changes_of
changes_by_length = refl

-- from 40 to 45 hundredths is by 5, and no more; a share that stays has not grown, whatever its weight, nor has one that shrinks;
-- of nothing, each share is nothing
growths : (grew_over 5 (from 10 100) (from 4 45) ≡ false)
    × (grew_over 5 (from 10 1000) (from 4 451) ≡ true)
    × (grew_over 0 (from 10 100) (from 4 40) ≡ false)
    × (grew_over 0 (from 10 100) (from 6 10) ≡ false)
    × (grew_over 49 (from 0 100) (from 0 50) ≡ true)
    × (grew_over 0 (from 10 0) (from 4 0) ≡ false)
growths = (refl, refl, refl, refl, refl, refl)

-- h alone grew, by 50 hundredths
grown_by_half : grown 49 (from 10 100) (changes_of by_share short long) ≡ change (codes "h") (from 0 50) (from 0 50) ∷ []
unfolding changes_of
grown_by_half = refl

none_grown : grown 50 (from 10 100) (changes_of by_share short long) ≡ []
unfolding changes_of
none_grown = refl

-- ---- callers and callees

-- f calls g twice in one stack, and is called by it; a function that calls itself is beside itself; what ends in a call has own weight
abbrev calls : List Sample
calls =
    record { stack = codes "f" ∷ codes "g" ∷ codes "f" ∷ codes "g" ∷ []; weight = 1 } ∷
    record { stack = codes "m" ∷ codes "f" ∷ codes "f" ∷ []; weight = 2 } ∷
    record { stack = codes "m" ∷ codes "g" ∷ codes "h" ∷ []; weight = 4 } ∷
    record { stack = codes "m" ∷ codes "f" ∷ []; weight = 0 } ∷
    record { stack = codes "g" ∷ []; weight = 8 } ∷ []

-- the root of a stack has no caller, m calls f in a sample with weight alone, and nobody calls z
beside : (calls_of Callers (codes "f") calls ≡ sum (codes "f") 2 2 ∷ sum (codes "m") 0 2 ∷ sum (codes "g") 0 1 ∷ [])
    × (calls_of Callees (codes "f") calls ≡ sum (codes "f") 2 2 ∷ sum (codes "g") 1 1 ∷ [])
    × (calls_of Callers (codes "g") calls ≡ sum (codes "m") 0 4 ∷ sum (codes "f") 1 1 ∷ [])
    × (calls_of Callees (codes "g") calls ≡ sum (codes "h") 4 4 ∷ sum (codes "f") 0 1 ∷ [])
    × (calls_of Callers (codes "z") calls ≡ [])
unfolding calls_of
beside = (refl, refl, refl, refl, refl)
