use Rattle.std.proofs.Common.{◌∙◌, ◌++◌, ap}
use Rattle.function_sums.proofs.JoinedNames.{said_written}
use Rattle.function_sums.proofs.grown_lines.append_names.Goals as goal

pub returns : goal.returns
returns c =
    said_written c.args.points c.args.names.now c.as_bytes.result.now c.args.out.now.items _ _ _ _ _ (c.as_bytes.ensures.value ∙ c.format.ensures.text)
    c.in_ok-extend_from_slice.ensures.items c.in_ok-extend_from_slice-2.ensures.items c.in_ok-extend_from_slice-3.ensures.items
    (c.in_ok-extend_from_slice-4.ensures.items ∙ ap (λ text. c.extend_from_slice-3.new.self.items ++ text) c.as_bytes-2.ensures.value)
    c.in_ok-extend_from_slice-5.ensures.items
