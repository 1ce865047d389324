use Rattle.rv_files.proofs.Streaming.{unflushed}
use Rattle.rv_files.proofs.streams.StreamSinkSink.put.Goals as goal

pub returns-in-Err-flush-clause-prefix : goal.returns-in-Err-flush-clause-prefix
returns-in-Err-flush-clause-prefix g c =
    unflushed _ _ _ c.args.bytes.now c.in-Ok.count c.in-Ok.ensures.bytes
    (rw c.count_failure-in-Err-flush.ensures.stream_unchanged c.in-Err-flush.ensures.bytes)
