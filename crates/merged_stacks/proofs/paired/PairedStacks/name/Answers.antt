use Rattle.std.proofs.Common.{◌∙◌, [], List, ℕ, sym, ap, get_or, map, string_bytes, arith}
use Rattle.std.proofs.lemmas.List.{get_or-map, length-map}
use Rattle.merged_stacks.proofs.SweptRows.{pairs_within, is_placed, paired_deep, paired_frame}
use Rattle.merged_stacks.proofs.paired.PairedStacks.name.Goals as goal

pub index-requires : goal.index-requires
index-requires c =
    let within = pairs_within (map string_bytes c.self.inside.names.items) c.self.inside.lefts c.self.inside.rights c.self.inside.places.items c.args.self.now c.args.at c.self.view_is c.requires.at in
    omega (arith, within, c.self.inside.places.ok.0)

pub place_ranks-requires : goal.place_ranks-requires
place_ranks-requires c =
    is_placed c.self.inside.lefts c.self.inside.rights c.self.inside.places.items c.args.at c.index.result.now c.self.invariant.within (pairs_within (map string_bytes c.self.inside.names.items) c.self.inside.lefts c.self.inside.rights c.self.inside.places.items c.args.self.now c.args.at c.self.view_is c.requires.at) c.index.ensures

pub offset_bounds-place_ranks-frame : goal.offset_bounds-place_ranks-frame
offset_bounds-place_ranks-frame c =
    let deep = paired_deep (map string_bytes c.self.inside.names.items) c.self.inside.lefts c.self.inside.rights c.self.inside.places.items c.args.self.now c.args.at c.args.frame c.index.result.now c.place_ranks.result.now c.self.invariant c.self.view_is c.requires.at c.index.ensures c.place_ranks.ensures c.requires.deep in
    omega (arith, deep.inside, deep.limit)

pub bounds-place_ranks-frame : goal.bounds-place_ranks-frame
bounds-place_ranks-frame c = (paired_deep (map string_bytes c.self.inside.names.items) c.self.inside.lefts c.self.inside.rights c.self.inside.places.items c.args.self.now c.args.at c.args.frame c.index.result.now c.place_ranks.result.now c.self.invariant c.self.view_is c.requires.at c.index.ensures c.place_ranks.ensures c.requires.deep).inside

pub index-requires-2 : goal.index-requires-2
index-requires-2 c =
    let one = paired_frame (map string_bytes c.self.inside.names.items) c.self.inside.lefts c.self.inside.rights c.self.inside.places.items c.args.self.now c.args.at c.args.frame c.index.result.now c.place_ranks.result.now c.self.invariant c.self.view_is c.requires.at c.index.ensures c.place_ranks.ensures c.requires.deep in
    omega (arith, one.below, length-map c.self.inside.names.items string_bytes, c.self.inside.names.ok.0)

pub returns : goal.returns
returns c =
    let names : List (List ℕ) = map string_bytes c.self.inside.names.items in
    let rank = get_or c.place_ranks.result.now c.args.frame 0 in
    let one = paired_frame names c.self.inside.lefts c.self.inside.rights c.self.inside.places.items c.args.self.now c.args.at c.args.frame c.index.result.now c.place_ranks.result.now c.self.invariant c.self.view_is c.requires.at c.index.ensures c.place_ranks.ensures c.requires.deep in
    c.as_str.ensures.value ∙ ap string_bytes c.index-2.ensures
    ∙ sym (get_or-map string_bytes c.self.inside.names.items rank c.index-2.result.now [] (omega (arith, one.below, length-map c.self.inside.names.items string_bytes)))
    ∙ sym one.name
