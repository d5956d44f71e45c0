use Rattle.std.proofs.Common.{◌∙◌, ◌+◌, ◌++◌, ◌∷◌, [], ap, arith, map, take, string_bytes}
use Rattle.std.proofs.lemmas.List.{length-map, map-set, take_more_set}
use Rattle.merging.proofs.list_samples.set_frame.Goals as goal

pub returns-clause-set : goal.returns-clause-set
returns-clause-set c =
    let names = c.args.names.now.items in
    let at = c.args.at in
    ap (take (at + 1)) (map-set string_bytes names at c.set_name.new.name)
    ∙ take_more_set (map string_bytes names) at (string_bytes c.set_name.new.name) (let within = c.requires in let last = c.if-at-len.false in let count = c.len.ensures in let same = length-map names string_bytes in omega arith)
    ∙ ap (λ name. take at (map string_bytes names) ++ name ∷ []) c.in_ok-set_name.ensures
