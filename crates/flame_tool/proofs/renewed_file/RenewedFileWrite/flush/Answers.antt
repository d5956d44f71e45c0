use Rattle.std.proofs.Common.{string_bytes}
use Rattle.flame_tool.proofs.RenewedFiles.{flush_keeps, grown_more, paths_more}
use Rattle.flame_tool.proofs.renewed_file.RenewedFileWrite.flush.Goals as goal

pub invariant_of-self : goal.invariant_of-self
invariant_of-self g c =
    let file = c.args.self.now in
    let renews = c.flush_draft.ensures.renews (string_bytes file.path) file.at in record {
      grown = grown_more _ _ _ renews.files file.grown renews.placed;
      paths = paths_more _ _ _ _ renews.files file.grown renews.placed file.paths renews.at;
      at = c.flush_draft.ensures.at (string_bytes file.path) file.at;
    }

pub returns : goal.returns
returns g c =
    let file = c.args.self.now in
    let renews = c.flush_draft.ensures.renews (string_bytes file.path) file.at in
    record { bytes = flush_keeps _ _ _ renews.files _ _ file.grown renews.placed renews.bytes }
