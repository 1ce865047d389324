use Rattle.std.proofs.Common.{◌∙◌}
use Rattle.rv_report.proofs.Compared.{found_is, only_is, never, err_is, err_of, place_is, least_is, cut_is}
use Rattle.rv_report.proofs.read.read_report.Goals as goal

pub returns-in_err-report-clause-agrees : goal.returns-in_err-report-clause-agrees
returns-in_err-report-clause-agrees c = err_of c.args.bytes.now c.from_residual.result c.from_residual.ensures.1

pub returns-then-eq-clause-report : goal.returns-then-eq-clause-report
returns-then-eq-clause-report c =
    let written = c.as_bytes-text.ensures.value ∙ c.in_ok-written.ensures in
    found_is c.args.bytes.now c.as_bytes-text.result.now c.in_ok-report.report c.in_ok-report.ensures.value written
    c.if-eq.ensures

pub returns-else-eq-clause-exact_error : goal.returns-else-eq-clause-exact_error
returns-else-eq-clause-exact_error c =
    let written = c.as_bytes-text.ensures.value ∙ c.in_ok-written.ensures in
    place_is c.args.bytes.now c.as_bytes-text.result.now c.in_ok-report.report c.first_read_error.result
    c.in_ok-report.ensures.value written c.first_read_error.ensures

pub returns-then-eq-clause-accepts : goal.returns-then-eq-clause-accepts
returns-then-eq-clause-accepts c = only_is c.args.bytes.now c.in_ok-report.report c.in_ok-report.ensures.value

pub returns-else-eq-clause-accepts : goal.returns-else-eq-clause-accepts
returns-else-eq-clause-accepts c = λ r h e.
    let written = c.as_bytes-text.ensures.value ∙ c.in_ok-written.ensures in
    absurd (never c.args.bytes.now c.as_bytes-text.result.now c.in_ok-report.report c.in_ok-report.ensures.value written
    c.if-eq.ensures r h e)

pub returns-else-eq-clause-agrees : goal.returns-else-eq-clause-agrees
returns-else-eq-clause-agrees c =
    let written = c.as_bytes-text.ensures.value ∙ c.in_ok-written.ensures in
    err_is c.args.bytes.now c.as_bytes-text.result.now c.in_ok-report.report c.first_read_error.result
    c.in_ok-report.ensures.value
    written c.first_read_error.ensures

pub returns-else-eq-clause-first_error : goal.returns-else-eq-clause-first_error
returns-else-eq-clause-first_error c =
    let written = c.as_bytes-text.ensures.value ∙ c.in_ok-written.ensures in
    least_is c.args.bytes.now c.as_bytes-text.result.now c.in_ok-report.report c.first_read_error.result
    c.in_ok-report.ensures.value written c.first_read_error.ensures

pub returns-else-eq-clause-truncated : goal.returns-else-eq-clause-truncated
returns-else-eq-clause-truncated c =
    let written = c.as_bytes-text.ensures.value ∙ c.in_ok-written.ensures in
    cut_is c.args.bytes.now c.as_bytes-text.result.now c.in_ok-report.report c.first_read_error.result
    c.in_ok-report.ensures.value written c.first_read_error.ensures
