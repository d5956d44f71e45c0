use Rattle.std.proofs.Common.{List, ℕ, ap, map, string_bytes, length, arith}
use Rattle.std.proofs.lemmas.List.{length-map}
use Rattle.merged_stacks.specs.checked.Swept.{place_row, paired_of}
use Rattle.merged_stacks.specs.declared.sweeps.Place.{Place}
use Rattle.merged_stacks.proofs.paired.PairedStacks.len.Goals as goal

pub returns : goal.returns
returns c =
    let names : List (List ℕ) = map string_bytes c.self.inside.names.items in
    let stacks = length-map c.self.inside.places.items (λ (place : Place). paired_of names (place_row c.self.inside.lefts c.self.inside.rights place)) in
    omega (arith, c.len.ensures, c.self.inside.places.ok.0, stacks, ap length c.self.view_is)
