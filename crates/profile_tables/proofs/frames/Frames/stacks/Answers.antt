use Rattle.std.proofs.lemmas.Result.{IfOk-from_err}
use Rattle.std.proofs.Common.{rules}
use Rattle.std.proofs.Common.{refl, ap, List, map, reverse, ◌++◌, ◌∙◌}
use Rattle.std.specs.Prelude.{String, string_bytes}
use Rattle.std.specs.declared.alloc.Global.{Global}
use Rattle.profile_tables.specs.checked.Frames.{text_in}
use Rattle.profile_tables.proofs.FrameLemmas.{stacks-more}
use Rattle.profile_tables.proofs.frames.Frames.stacks.Goals as goal

pub loop-span-preserved : goal.loop-span-preserved
loop-span-preserved c =
    stacks-more c.args.self.now c.deref.result.now c.deref-span-items.result.now c.loop-span.span-index _ c.get.result _ _ _ _ _
    c.deref.ensures.value c.loop-span-test.true refl c.get.ensures.lookup refl (ap (λ part. part.now) c.unwrap_or-frames.ensures)
    (c.of.ensures ∙ c.in_ok-append_names.ensures
    ∙ ap (λ (list : List (String Global)). map string_bytes list ++ reverse (map (text_in c.args.self.now) c.unwrap_or-frames.result.now)) c.in_ok-stack.ensures.items)
    c.loop-span.invariant c.in_ok-push.ensures.items

pub loop-span-init : goal.loop-span-init
loop-span-init c = search rules

pub offset_bounds-span-items-span-index : goal.offset_bounds-span-items-span-index
offset_bounds-span-items-span-index c = search rules

pub get-requires : goal.get-requires
get-requires c = search rules

pub returns-in_err-stacks : goal.returns-in_err-stacks
returns-in_err-stacks c = IfOk-from_err _ _ c.from_residual.ensures.0

pub returns-in_err-stack : goal.returns-in_err-stack
returns-in_err-stack c = IfOk-from_err _ _ c.from_residual-in_err-stack.ensures.0

pub returns-in_err-append_names : goal.returns-in_err-append_names
returns-in_err-append_names c = IfOk-from_err _ _ c.from_residual-in_err-append_names.ensures.0

pub returns-in_err-push : goal.returns-in_err-push
returns-in_err-push c = IfOk-from_err _ _ c.from_residual-in_err-push.ensures.0
