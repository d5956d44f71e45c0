use Rattle.std.proofs.Common.{[], ◌∷◌, refl, string_bytes}
use Rattle.flame_tool.proofs.RenewedFiles.{between_bytes, keeps_placed}
use Rattle.flame_tool.proofs.renewed_file.flush_begun.Goals as goal

pub returns-in-Ok-clause-renews : goal.returns-in-Ok-clause-renews
returns-in-Ok-clause-renews g c = record {
  files = record { path = string_bytes c.args.draft.path; bytes = g.D.Writer.Outlet.contents c.flush.new.self } ∷ [];
  placed = c.in-Ok.ensures.ok;
  at = refl;
  bytes = keeps_placed _ _ _ c.in_default.ensures.bytes (between_bytes _ _ c.requires);
}
