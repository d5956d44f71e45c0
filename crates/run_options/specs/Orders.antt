-- The names of the weights by which functions are listed.
use Rattle.std.specs.Prelude.{ℕ, List, Option, Some, None, codes, if◌then◌else◌}
use Rattle.std.specs.Str.{bytes_eq}
use Rattle.run_options.specs.declared.orders.FunctionOrder.{FunctionOrder}
use Rattle.run_options.specs.declared.orders.FunctionOrder.TheVariants.{Own, Total}

abbrev pub named_order : List ℕ → Option FunctionOrder
named_order name = if bytes_eq name (codes "own") then Some Own
    else (if bytes_eq name (codes "total") then Some Total else None)
