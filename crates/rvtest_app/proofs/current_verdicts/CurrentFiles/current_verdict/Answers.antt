use Rattle.std.proofs.Common.{option_map}
use Rattle.rvtest_app.proofs.Results.{IfOk-map}
use Rattle.rvtest_app.proofs.current_verdicts.CurrentFiles.current_verdict.Goals as goal

pub returns : goal.returns
returns g c = IfOk-map c.verdict_with_golden_files.result _ _
    (λ stands is. record {
      console = option_map (λ bytes. bytes.items) c.in_ok-console.console;
      signature = option_map (λ bytes. bytes.items) c.in_ok-signature.signature;
      console_read = rw (c.path_to_read.ensures, c.console_path.ensures) at c.in_ok-console.ensures;
      signature_read = rw (c.path_to_read-2.ensures, c.signature_path.ensures) at c.in_ok-signature.ensures;
      verdict_is = rw (c.slice_of_text.ensures, c.slice_of_text-2.ensures) at is;
    })
    c.verdict_with_golden_files.ensures
