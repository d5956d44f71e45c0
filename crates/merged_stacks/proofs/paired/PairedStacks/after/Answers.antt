use Rattle.std.proofs.Common.{◌∙◌, List, ℕ, sym, ap, map, string_bytes}
use Rattle.merged_stacks.specs.Paired.{PairedStack}
use Rattle.merged_stacks.proofs.SweptRows.{pair_is}
use Rattle.merged_stacks.proofs.paired.PairedStacks.after.Goals as goal

pub returns : goal.returns
returns c =
    let names : List (List ℕ) = map string_bytes c.self.inside.names.items in
    let is = pair_is names c.self.inside.lefts c.self.inside.rights c.self.inside.places.items c.args.self.now c.args.at c.index.result.now c.self.view_is c.requires c.index.ensures in
    c.weight_after.ensures ∙ ap (λ (pair : PairedStack). pair.after) (sym is)
