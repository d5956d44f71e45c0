-- The readers of inputs may go to other threads.
use denote.Param.Send.{AllSend, IsSend, IsSync, owning_send, recorded_send, sendable, struct_send, view_send}
use denote.Struct.Declared.{shape}
use Rattle.std.proofs.Common.{drop}
use Rattle.std.proofs.Crossing.{crosses}
use Rattle.std.proofs.MapsCrossing as maps
use Rattle.std.proofs.Crossing as crossing
use Rattle.bytes.proofs.Crosses.{block-send, block-sync, seen_owns-keyless}
use Rattle.bytes.specs.contracts.block.Seen as seen
use Rattle.byte_io.proofs.StoredThreads.{range_send, text_send}
use Rattle.stack_core.specs.contracts.row_samples.RowSamples as samples
use Rattle.stack_core.specs.contracts.row_samples.RowSamples.TheInside as samples_inside
use Rattle.stack_core.specs.contracts.source_bytes.SourceBytes as source_bytes
use Rattle.call_tree.specs.contracts.frame_table.FrameTable as table
use Rattle.call_tree.specs.contracts.spellings.SpellingCache as cache
use Rattle.call_tree.specs.contracts.histories.StackHistory as history
use Rattle.folded_lines.specs.contracts.known_stacks.KnownStacks as known
use Rattle.folded_lines.specs.contracts.line_buffer.LineBuffer as buffer
use Rattle.folded_lines.specs.contracts.line_buffer.LineBuffer.TheInside as buffer_inside
use Rattle.folded_lines.specs.contracts.stream_telling.StreamTelling as telling
use Rattle.folded_lines.specs.contracts.rows.FoldedRows as folded
use Rattle.folded_lines.specs.contracts.rows.FoldedRows.TheInside as folded_inside
use Rattle.profile_tables.specs.contracts.outline.Outline as outline
use Rattle.profile_tables.specs.contracts.part.Part as part
use Rattle.profile_tables.specs.contracts.tellers.Teller as teller
use Rattle.profile_tables.specs.contracts.row_reader.PprofRows as pprof
use Rattle.profile_tables.specs.contracts.row_reader.PprofRows.TheInside as pprof_inside
use Rattle.sample_tables.specs.contracts.values.Names as names
use Rattle.run_options.specs.contracts.filters.Filter as filter
use Rattle.source_lists.specs.contracts.input_readers.InputReader as input
use Rattle.source_lists.specs.contracts.source_reader.SourceReader as source
use Rattle.source_lists.specs.contracts.stored_profile.StoredProfile as profile

table_send : IsSend table.the_row
table_send = search (sendable, crosses, maps.crosses) depth 30

cache_send : IsSend cache.the_row
cache_send = search (sendable, crosses, maps.crosses) depth 30

history_send : IsSend history.the_row
history_send = search (sendable, crosses, maps.crosses) depth 30

seen_send : IsSend seen.the_row
seen_send = owning_send seen.the_type tt (λ s. seen_owns-keyless s.life (drop s.at s.names) s.ptr s.items) (λ k x w. tt)

bytes_send : IsSend (source_bytes.the_field).row
bytes_send = search (view_send, sendable, crosses, crossing.send, crossing.frees, block-send, block-sync, seen_send) depth 60

known_send : IsSend known.the_row
known_send = search (sendable, crosses) depth 30

pub telling_send : IsSend telling.the_row
telling_send = search (sendable, crosses, maps.crosses, table_send, known_send) depth 30

buffer_fields_send : AllSend (shape buffer_inside.the_type).fields
buffer_fields_send = (bytes_send, (search sendable depth 20, (search sendable depth 20, (search sendable depth 20, tt))))

buffer_inside_send : IsSend buffer_inside.the_row
buffer_inside_send = recorded_send _ _ _ (buffer_inside.the_type).to_one (struct_send (shape buffer_inside.the_type) buffer_fields_send)

pub buffer_send : IsSend buffer.the_row
buffer_send = search (view_send, buffer_inside_send)

folded_fields_send : AllSend (shape folded_inside.the_type).fields
folded_fields_send = (search (sendable, crosses, buffer_send, telling_send) depth 60 fits 30000, tt)

folded_inside_send : IsSend folded_inside.the_row
folded_inside_send = recorded_send _ _ _ (folded_inside.the_type).to_one (struct_send (shape folded_inside.the_type) folded_fields_send)

pub folded_send : IsSend folded.the_row
folded_send = search (view_send, folded_inside_send)

teller_send : IsSend teller.the_row
teller_send = search (sendable, crosses, maps.crosses, table_send, cache_send, history_send) depth 30

outline_send : IsSend outline.the_row
outline_send = search (sendable, crosses, maps.crosses) depth 30

outline_sync : IsSync outline.the_row
outline_sync = search (sendable, crosses, maps.crosses) depth 30

part_send : IsSend part.the_row
part_send = search (sendable, crosses, outline_send, outline_sync) depth 30

pprof_fields_send : AllSend (shape pprof_inside.the_type).fields
pprof_fields_send = (bytes_send, (search (sendable, crosses, maps.crosses) depth 20, (search (sendable, crosses) depth 20, (search (sendable, part_send) depth 20, (search (sendable) depth 20, (search (sendable) depth 20, (search sendable depth 90 fits 30000, (search (sendable, teller_send) depth 20, tt))))))))

pprof_inside_send : IsSend pprof_inside.the_row
pprof_inside_send = recorded_send _ _ _ (pprof_inside.the_type).to_one (struct_send (shape pprof_inside.the_type) pprof_fields_send)

pub pprof_send : IsSend pprof.the_row
pprof_send = search (view_send, pprof_inside_send)

names_send : IsSend names.the_row
names_send = search (sendable, crosses) depth 30

pub filter_send : IsSend (filter.the_field).row
filter_send = search (sendable, names_send) depth 30

samples_fields_send : AllSend (shape samples_inside.the_type).fields
samples_fields_send = (search (sendable, crosses) depth 60, (search (sendable, crosses) depth 90 fits 30000, tt))

samples_inside_send : IsSend samples_inside.the_row
samples_inside_send = recorded_send _ _ _ (samples_inside.the_type).to_one (struct_send (shape samples_inside.the_type) samples_fields_send)

pub samples_send : IsSend samples.the_row
samples_send = search (view_send, samples_inside_send)

pub source_send : IsSend (source.the_field).row
source_send = search (sendable, folded_send, pprof_send) depth 30

profile_send : IsSend (profile.the_field).row
profile_send = search (sendable, crosses, text_send, pprof_send) depth 60

pub input_send : IsSend (input.the_field).row
input_send = search (sendable, crosses, source_send, profile_send, range_send, buffer_send, telling_send) depth 60 fits 30000
