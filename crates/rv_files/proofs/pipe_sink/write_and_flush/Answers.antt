use Rattle.rv_files.proofs.Streaming.{unflushed}
use Rattle.rv_files.proofs.pipe_sink.write_and_flush.Goals as goal

pub returns-in-Err-flush-clause-prefix : goal.returns-in-Err-flush-clause-prefix
returns-in-Err-flush-clause-prefix g c =
    unflushed _ _ _ c.args.bytes.now c.in-Ok.count c.in-Ok.ensures.bytes c.in-Err-flush.ensures.bytes
