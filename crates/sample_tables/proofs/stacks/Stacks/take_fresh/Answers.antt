use Rattle.std.proofs.Common.{◌≡◌, ◌≤◌, ◌++◌, ◌∷◌, [], length, map, string_bytes, ap, ◌∙◌, arith, rules}
use Rattle.std.specs.List.{range_with_len}
use Rattle.std.proofs.lemmas.List.{map-append, length-map}
use Rattle.sample_tables.specs.Rows.{ToldRows}
use Rattle.sample_tables.specs.checked.Stacks.{with_fresh_stack}
use Rattle.sample_tables.specs.declared.samples.TheConstants.{FRAME_LIMIT}
use Rattle.sample_tables.proofs.Spans.{fresh_kept, same_stacks}
use Rattle.sample_tables.proofs.stacks.Stacks.take_fresh.Goals as goal

pub returns-in_err-number_next-clause-refused : goal.returns-in_err-number_next-clause-refused
returns-in_err-number_next-clause-refused c =
    let more = c.number_next.ensures.begins in
    let told = (same_stacks _ _ _ _ _ _ _ c.self.invariant (ap (map string_bytes) c.in_ok-reserve.ensures.items) (more.1 ∙ ap (λ x. x ++ more.0) c.in_ok-reserve-2.ensures.items) c.in_ok-reserve-3.ensures.items).told_is ∙ c.self.view_is in
    search (rules, told)

pub invariant_of-self-in_err-number_next : goal.invariant_of-self-in_err-number_next
invariant_of-self-in_err-number_next c =
    let more = c.number_next.ensures.begins in
    (same_stacks _ _ _ _ _ _ _ c.self.invariant (ap (map string_bytes) c.in_ok-reserve.ensures.items) (more.1 ∙ ap (λ x. x ++ more.0) c.in_ok-reserve-2.ensures.items) c.in_ok-reserve-3.ensures.items).spans_are

pub invariant_of-self-2 : goal.invariant_of-self-2
invariant_of-self-2 c =
    let known = map string_bytes c.self.inside.names.items in
    let stack = map string_bytes c.args.names.now.items in
    let names : map string_bytes c.append.new.self.items ≡ known ++ stack = ap (map string_bytes) (c.in_ok-append.ensures.items ∙ ap (λ x. x ++ c.args.names.now.items) c.in_ok-reserve.ensures.items) ∙ map-append string_bytes _ _ in
    let few : length stack ≤ FRAME_LIMIT = omega (arith, c.requires, length-map c.args.names.now.items string_bytes) in
    let count : c.len-first.result ≡ length known = omega (arith, c.len-first.ensures, c.in_ok-reserve.ensures.len, c.self.inside.names.ok.0, length-map c.self.inside.names.items string_bytes) in
    let depth : c.len-depth.result ≡ length stack = omega (arith, c.len-depth.ensures, length-map c.args.names.now.items string_bytes) in
    let frames : c.number_next.new.frames.items ≡ c.self.inside.frames.items ++ range_with_len (length known) (length stack) = c.in_ok-number_next.ensures.ok ∙ ap (λ x. x ++ range_with_len c.len-first.result c.len-depth.result) c.in_ok-reserve-2.ensures.items
    ∙ ap (λ n. c.self.inside.frames.items ++ range_with_len n c.len-depth.result) count ∙ ap (λ n. c.self.inside.frames.items ++ range_with_len (length known) n) depth in
    let spans : c.push.new.self.items ≡ c.self.inside.spans.items ++ record { start = c.len-start.result; end = c.len.result } ∷ [] = c.in_ok-push.ensures.items ∙ ap (λ x. x ++ record { start = c.len-start.result; end = c.len.result } ∷ []) c.in_ok-reserve-3.ensures.items in
    let start : c.len-start.result ≡ length c.self.inside.frames.items = omega (arith, c.len-start.ensures, c.in_ok-reserve-2.ensures.len, c.self.inside.frames.ok.0) in
    (fresh_kept known _ _ _ _ _ _ _ _ c.self.invariant few names frames start (c.len.ensures ∙ c.number_next.new.frames.ok.0) spans).spans_are

pub returns-clause-ok : goal.returns-clause-ok
returns-clause-ok c =
    let known = map string_bytes c.self.inside.names.items in
    let stack = map string_bytes c.args.names.now.items in
    let names : map string_bytes c.append.new.self.items ≡ known ++ stack = ap (map string_bytes) (c.in_ok-append.ensures.items ∙ ap (λ x. x ++ c.args.names.now.items) c.in_ok-reserve.ensures.items) ∙ map-append string_bytes _ _ in
    let few : length stack ≤ FRAME_LIMIT = omega (arith, c.requires, length-map c.args.names.now.items string_bytes) in
    let count : c.len-first.result ≡ length known = omega (arith, c.len-first.ensures, c.in_ok-reserve.ensures.len, c.self.inside.names.ok.0, length-map c.self.inside.names.items string_bytes) in
    let depth : c.len-depth.result ≡ length stack = omega (arith, c.len-depth.ensures, length-map c.args.names.now.items string_bytes) in
    let frames : c.number_next.new.frames.items ≡ c.self.inside.frames.items ++ range_with_len (length known) (length stack) = c.in_ok-number_next.ensures.ok ∙ ap (λ x. x ++ range_with_len c.len-first.result c.len-depth.result) c.in_ok-reserve-2.ensures.items
    ∙ ap (λ n. c.self.inside.frames.items ++ range_with_len n c.len-depth.result) count ∙ ap (λ n. c.self.inside.frames.items ++ range_with_len (length known) n) depth in
    let spans : c.push.new.self.items ≡ c.self.inside.spans.items ++ record { start = c.len-start.result; end = c.len.result } ∷ [] = c.in_ok-push.ensures.items ∙ ap (λ x. x ++ record { start = c.len-start.result; end = c.len.result } ∷ []) c.in_ok-reserve-3.ensures.items in
    let start : c.len-start.result ≡ length c.self.inside.frames.items = omega (arith, c.len-start.ensures, c.in_ok-reserve-2.ensures.len, c.self.inside.frames.ok.0) in
    (fresh_kept known _ _ _ _ _ _ _ _ c.self.invariant few names frames start (c.len.ensures ∙ c.number_next.new.frames.ok.0) spans).told_is ∙ ap (λ (t : ToldRows). with_fresh_stack t stack) c.self.view_is
