use Rattle.std.proofs.Common.{◌∙◌, ◌++◌, List, ℕ, codes, decimal, ap, subst, sym, map, string_bytes, append_assoc}
use Rattle.stack_core.specs.Faults.{kind_text}
use Rattle.source_views.specs.Messages.{Tells, message, message_of_ending, message_of_source}
use Rattle.source_views.proofs.messages.report_ending.Goals as goal

pub returns-in-Fault : goal.returns-in-Fault
returns-in-Fault g c =
    let gained : List ℕ → Type 0 = λ text. Tells text (g.E.Outlet.contents c.args.err.now) (g.E.Outlet.contents c.report_fault.new.err) (g.E.Outlet.failures c.args.err.now) (g.E.Outlet.failures c.report_fault.new.err) in
    let at = decimal c.in-Fault.fault.at in
    let named = message_of_source (map string_bytes c.args.files.now) c.args.source in
    let said = ap (λ path. message (path ++ (codes ": " ++ (c.name.result.now ++ (codes " at " ++ at))))) c.path_of-path.ensures
    ∙ ap (λ kind. named (kind ++ (codes " at " ++ at))) c.name.ensures
    ∙ ap named (sym (append_assoc (kind_text c.in-Fault.fault.kind) (codes " at ") at)) in
    record {
      told = subst (λ ending. gained (message_of_ending (map string_bytes c.args.files.now) c.args.source ending)) (sym c.in-Fault.is)
          (subst gained said c.report_fault.ensures.told);
    }
