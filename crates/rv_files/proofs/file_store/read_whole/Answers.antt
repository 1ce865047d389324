use Rattle.std.proofs.Common.{arith}
use Rattle.rv_base.specs.Limits.{max_file_size}
use Rattle.rv_files.proofs.Incoming.{longer, whole}
use Rattle.rv_files.proofs.file_store.read_whole.Goals as goal

pub returns-clause-contents : goal.returns-clause-contents
returns-clause-contents g c =
    whole max_file_size _ _ c.in_ok-bytes.ensures.value (omega (arith, c.len.ensures, c.if-len-gt-MAX_FILE_SIZE.false))

pub returns-then-len-gt-MAX_FILE_SIZE-clause-too_long : goal.returns-then-len-gt-MAX_FILE_SIZE-clause-too_long
returns-then-len-gt-MAX_FILE_SIZE-clause-too_long g c = λ _. longer max_file_size _ c.in_ok-bytes.bytes.items
    c.in_ok-bytes.ensures.value (omega (arith, c.len.ensures, c.if-len-gt-MAX_FILE_SIZE.true))
