use Rattle.std.specs.Str.Parse.{ExplainsUnsignedError, HasUnsignedDigitsIfOk, ParsesUnsigned}
use Rattle.clap.specs.Words.{found_of}
use Rattle.rv_cli.proofs.Numerals.{number_reads}
use Rattle.rv_cli.proofs.values.parsed_number_value.Goals as goal

pub returns : goal.returns
returns c = number_reads
    (λ text read. ParsesUnsigned 32 10 text read × ExplainsUnsignedError 10 text read × HasUnsignedDigitsIfOk text read)
    (found_of c.args.values.now) c.args.id.now c.get_one.result c.get_one.ensures.none c.get_one.ensures.value
    (λ _ _ gives. gives.0)
