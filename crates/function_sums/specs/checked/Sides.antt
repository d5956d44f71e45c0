-- What is found by name on each side, and the rows that are sorted.
use Rattle.std.specs.Prelude.{◌≡◌, ℕ, List, unwrap_or}
use Rattle.std.specs.BTreeMap.{BTreeMap, get_by}
use Rattle.std.specs.Cmp.Lexicographic.{slice_cmp}
use Rattle.std.specs.Ordering.{nat_cmp}
use Rattle.std.specs.declared.cmp.Reverse.{Reverse}
use denote.Ref.{Bor}
use Rattle.sample_tables.specs.declared.samples.Sample.{Sample}
use Rattle.function_sums.specs.declared.changes.ChangeOrder.{ChangeOrder}
use Rattle.function_sums.specs.declared.sides.Sides.{Sides}
use Rattle.function_sums.specs.declared.sides.Weights.{Weights}
use Rattle.function_sums.specs.FunctionChanges.{change_of, size_of}
use Rattle.function_sums.specs.FunctionSums.{own_of, total_of}

abbrev pub no_weight : Weights
no_weight = record { own = 0; total = 0 }

abbrev pub weights_of : List Sample → List ℕ → Weights
weights_of samples name = record { own = own_of name samples; total = total_of name samples }

-- what is found of a name, and nothing else weighs anything
abbrev pub found : BTreeMap (Bor (List ℕ)) Weights → List ℕ → Weights
found sums name = unwrap_or (get_by (λ k. slice_cmp nat_cmp name k.now) sums) no_weight

abbrev pub FindsWeights : List Sample → BTreeMap (Bor (List ℕ)) Weights → Type 0
FindsWeights samples sums = (name : List ℕ) → found sums name ≡ weights_of samples name

pub record AreSides (before after : List Sample) (sides : Sides) : Type 0 where
  pub finds_before : FindsWeights before sides.before
  pub finds_after : FindsWeights after sides.after

abbrev pub ChangeRow : Type 0
ChangeRow = Reverse ℕ × Bor (List ℕ)

abbrev pub row_name : ChangeRow → List ℕ
row_name row = row.1.now

-- the row of a name has the size of its change
abbrev pub HasSize : ChangeOrder → List Sample → List Sample → ChangeRow → Type 0
HasSize by before after row = row.0.0 ≡ size_of by (change_of before after (row_name row))
