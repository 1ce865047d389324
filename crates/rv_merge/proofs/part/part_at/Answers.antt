use Rattle.std.proofs.Common.{[], ℕ, List, Bor}
use Rattle.rv_rows.specs.declared_read.ReadError.TheVariants as read
use Rattle.rv_merge.proofs.Texts.{other_at, unread_at}
use Rattle.rv_merge.proofs.part.part_at.Goals as goal

none : Bor (List ℕ)
none = record { ref_ptr = (0, 0); now = [] }

pub returns-in-Err-clause-error : goal.returns-in-Err-clause-error
unfolding none
returns-in-Err-clause-error c =
    other_at c.args.texts.now c.args.index none c.in-Ok.report c.in-Err.flaw c.requires c.in-Ok.ensures.report
    c.in-Err.ensures.flaw

pub returns-in-Err-Truncated-clause-error : goal.returns-in-Err-Truncated-clause-error
unfolding none
returns-in-Err-Truncated-clause-error c =
    unread_at c.args.texts.now c.args.index none c.in-Err-Truncated.field-0 read.Truncated c.requires c.in-Err-Truncated.field-0-is
    (λ e. cc) c.in-Err-Truncated.ensures.accepts c.in-Err-Truncated.ensures.agrees c.in-Err-Truncated.ensures.exact_error

pub returns-in-Err-Line-clause-error : goal.returns-in-Err-Line-clause-error
unfolding none
returns-in-Err-Line-clause-error c =
    unread_at c.args.texts.now c.args.index none c.in-Err-Line.field-0 (read.Line c.in-Err-Line.line) c.requires
    c.in-Err-Line.field-0-is (λ e. cc) c.in-Err-Line.ensures.accepts c.in-Err-Line.ensures.agrees c.in-Err-Line.ensures.exact_error
