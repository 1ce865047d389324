use Rattle.std.proofs.Common.{refl}
use Rattle.rvtest_app.proofs.Results.{OnOk-map}
use Rattle.rvtest_app.proofs.WrittenTexts.{written_file_where_told, written_nowhere, written_out, written_where_told}
use Rattle.rvtest_app.proofs.written_text.write_to_outlet.Goals as goal

pub returns-in-Nowhere-clause-written : goal.returns-in-Nowhere-clause-written
returns-in-Nowhere-clause-written g c = λ path earlier has.
    written_where_told earlier path _ _ _ (written_nowhere path _ _ (rw c.in-Nowhere.is at has))

pub returns-in-Stdout-clause-written : goal.returns-in-Stdout-clause-written
returns-in-Stdout-clause-written g c = λ path earlier has.
    OnOk-map c.write_results.result _ _
    (λ out. written_where_told earlier path _ _ _ (written_out path _ _ _ (rw c.in-Stdout.is at has) out refl refl refl))
    c.write_results.ensures.written

pub returns-in-File-clause-written : goal.returns-in-File-clause-written
returns-in-File-clause-written g c = λ path earlier has.
    let taken = rw c.in-File.is at has in
    written_file_where_told c.finish_file.result earlier path _ _ _ _ _ taken.0 taken.1.0 refl refl refl taken.1.1.0
    (λ told. rw taken.1.1.2 at (c.finish_file.ensures.committed told))
