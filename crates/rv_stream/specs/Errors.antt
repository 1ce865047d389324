-- Errors of a stream.
use Rattle.rv_counting.specs.declared_engine.RunError.{RunError}
use Rattle.rv_counting.specs.declared_engine.RunError.TheVariants as run
use Rattle.rv_counting.specs.declared_report.WriteError.{WriteError}
use Rattle.rv_counting.specs.declared_report.WriteError.TheVariants as write
use Rattle.rv_stream.specs.declared.error.StreamError.{StreamError}
use Rattle.rv_stream.specs.declared.error.StreamError.TheVariants as stream

-- the stream's error for a failed write to its sink
abbrev pub stream_error_of_write : WriteError → StreamError
stream_error_of_write write.OutOfMemory = stream.OutOfMemory
stream_error_of_write write.Failed = stream.Failed

-- the stream's error for a failed run of its jobs
abbrev pub stream_error_of_run : RunError → StreamError
stream_error_of_run run.OutOfMemory = stream.OutOfMemory
stream_error_of_run run.NoWorker = stream.NoWorker
