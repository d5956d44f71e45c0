use Rattle.flame_tool.proofs.LiveStreamLemmas.{possible_reader, reader_of_text}
use Rattle.flame_tool.proofs.live_streams.input.Goals as goal

pub returns-in-Ok-clause-possible : goal.returns-in-Ok-clause-possible
returns-in-Ok-clause-possible g c = possible_reader c.args.is_strict _ _ _ c.over_stream.ensures.gives c.in-Ok.ensures.small

pub returns-in-Ok-clause-opened : goal.returns-in-Ok-clause-opened
returns-in-Ok-clause-opened g c = reader_of_text c.args.is_strict _ _ _ c.over_stream.ensures.gives (g.S.Streams.known_input c.args.streams.now) c.in-Ok.ensures.bytes
