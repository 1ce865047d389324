use Rattle.std.proofs.Common.{◌≡◌, ◌%◌, take, sum}
use Rattle.rv_gdb_protocol.proofs.checksum.checksum_of.Given as goal

abbrev pub invariant-loop-byte : goal.invariant-loop-byte
invariant-loop-byte l = l.sum ≡ sum (take l.byte-index l.text) % 256
