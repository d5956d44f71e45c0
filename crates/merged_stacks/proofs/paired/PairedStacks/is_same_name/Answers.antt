use Rattle.std.proofs.Common.{◌∙◌, List, ℕ, sym, ap, map, string_bytes, eq-eqb, arith}
use borrow.Author.Tests.{eqb-true}
use Rattle.sample_tables.specs.Rows.{name_at}
use Rattle.merged_stacks.proofs.JoinedStacks.{names_distinct}
use Rattle.merged_stacks.proofs.SweptRows.{pairs_within, is_placed, paired_deep, paired_frame}
use Rattle.merged_stacks.proofs.paired.PairedStacks.is_same_name.Goals as goal

pub index-requires : goal.index-requires
index-requires c =
    let within = pairs_within (map string_bytes c.self.inside.names.items) c.self.inside.lefts c.self.inside.rights c.self.inside.places.items c.args.self.now c.args.at c.self.view_is c.requires.at in
    omega (arith, within, c.self.inside.places.ok.0)

pub place_ranks-one-requires : goal.place_ranks-one-requires
place_ranks-one-requires c =
    is_placed c.self.inside.lefts c.self.inside.rights c.self.inside.places.items c.args.at c.index.result.now c.self.invariant.within (pairs_within (map string_bytes c.self.inside.names.items) c.self.inside.lefts c.self.inside.rights c.self.inside.places.items c.args.self.now c.args.at c.self.view_is c.requires.at) c.index.ensures

pub offset_bounds-one-frame : goal.offset_bounds-one-frame
offset_bounds-one-frame c =
    let deep = paired_deep (map string_bytes c.self.inside.names.items) c.self.inside.lefts c.self.inside.rights c.self.inside.places.items c.args.self.now c.args.at c.args.frame c.index.result.now c.place_ranks-one.result.now c.self.invariant c.self.view_is c.requires.at c.index.ensures c.place_ranks-one.ensures c.requires.deep in
    omega (arith, deep.inside, deep.limit)

pub bounds-one-frame : goal.bounds-one-frame
bounds-one-frame c = (paired_deep (map string_bytes c.self.inside.names.items) c.self.inside.lefts c.self.inside.rights c.self.inside.places.items c.args.self.now c.args.at c.args.frame c.index.result.now c.place_ranks-one.result.now c.self.invariant c.self.view_is c.requires.at c.index.ensures c.place_ranks-one.ensures c.requires.deep).inside

pub index-requires-2 : goal.index-requires-2
index-requires-2 c =
    let within = pairs_within (map string_bytes c.self.inside.names.items) c.self.inside.lefts c.self.inside.rights c.self.inside.places.items c.args.self.now c.args.later c.self.view_is c.requires.later in
    omega (arith, within, c.self.inside.places.ok.0)

pub place_ranks-other-requires : goal.place_ranks-other-requires
place_ranks-other-requires c =
    is_placed c.self.inside.lefts c.self.inside.rights c.self.inside.places.items c.args.later c.index-2.result.now c.self.invariant.within (pairs_within (map string_bytes c.self.inside.names.items) c.self.inside.lefts c.self.inside.rights c.self.inside.places.items c.args.self.now c.args.later c.self.view_is c.requires.later) c.index-2.ensures

pub offset_bounds-other-frame : goal.offset_bounds-other-frame
offset_bounds-other-frame c =
    let deep = paired_deep (map string_bytes c.self.inside.names.items) c.self.inside.lefts c.self.inside.rights c.self.inside.places.items c.args.self.now c.args.later c.args.frame c.index-2.result.now c.place_ranks-other.result.now c.self.invariant c.self.view_is c.requires.later c.index-2.ensures c.place_ranks-other.ensures c.requires.later_deep in
    omega (arith, deep.inside, deep.limit)

pub bounds-other-frame : goal.bounds-other-frame
bounds-other-frame c = (paired_deep (map string_bytes c.self.inside.names.items) c.self.inside.lefts c.self.inside.rights c.self.inside.places.items c.args.self.now c.args.later c.args.frame c.index-2.result.now c.place_ranks-other.result.now c.self.invariant c.self.view_is c.requires.later c.index-2.ensures c.place_ranks-other.ensures c.requires.later_deep).inside

pub returns : goal.returns
returns c =
    let names : List (List ℕ) = map string_bytes c.self.inside.names.items in
    let one = paired_frame names c.self.inside.lefts c.self.inside.rights c.self.inside.places.items c.args.self.now c.args.at c.args.frame c.index.result.now c.place_ranks-one.result.now c.self.invariant c.self.view_is c.requires.at c.index.ensures c.place_ranks-one.ensures c.requires.deep in
    let other = paired_frame names c.self.inside.lefts c.self.inside.rights c.self.inside.places.items c.args.self.now c.args.later c.args.frame c.index-2.result.now c.place_ranks-other.result.now c.self.invariant c.self.view_is c.requires.later c.index-2.ensures c.place_ranks-other.ensures c.requires.later_deep in (
      (λ t. one.name ∙ ap (name_at names) (eqb-true _ _ t) ∙ sym other.name),
      (λ e. eq-eqb _ _ (names_distinct names c.self.invariant.before.rising _ _ one.below other.below (sym one.name ∙ e ∙ other.name))),
    )
