use Rattle.std.proofs.Common.{List, ℕ, ap, map, string_bytes, length, arith}
use Rattle.std.proofs.lemmas.List.{length-map}
use Rattle.sample_tables.specs.Rows.{name_at}
use Rattle.merged_stacks.specs.Paired.{PairedStack}
use Rattle.merged_stacks.specs.checked.Swept.{place_row}
use Rattle.merged_stacks.proofs.SweptRows.{pair_is}
use Rattle.merged_stacks.proofs.paired.PairedStacks.depth.Goals as goal

pub returns-clause-value : goal.returns-clause-value
returns-clause-value c =
    let names : List (List ℕ) = map string_bytes c.self.inside.names.items in
    let is = pair_is names c.self.inside.lefts c.self.inside.rights c.self.inside.places.items c.args.self.now c.args.at c.index.result.now c.self.view_is c.requires c.index.ensures in
    omega (arith, ap length c.place_ranks.ensures, ap (λ (pair : PairedStack). length pair.stack) is, length-map (place_row c.self.inside.lefts c.self.inside.rights c.index.result.now).0 (name_at names))
