-- Documents are characters of XML.
use Rattle.std.proofs.Common.{refl, ℕ, zero, suc, ◌^◌, ◌<◌, List, [], ◌∷◌, ◌++◌, Bool, true, false}
use Rattle.std.proofs.Common.{cond, Option, Some, None, arith, get_or, length, take}
use Rattle.std.specs.Prelude.{◌==◌, IfSome, codes, count_by, option_map, position, ⊤}
use Rattle.std.specs.Str.{bytes_eq}
use Rattle.std.specs.List.{AllByRecursion, flat_map}
use Rattle.hex.specs.Hex.{IsBytes}
use Rattle.rv_stream.specs.declared_row.Row.{Row}
use Rattle.rv_job_text.specs.Verdict.{did_run}
use Rattle.rv_job_text.specs.Judgement.{JudgementView, JudgeView, failed, judgement_by_known, judgement_in_file, judgement_if_unlisted, judgement, known, now_passes, passed}
use Rattle.rv_job_text.specs.Rule.{has_passed}
use Rattle.rv_job_text.specs.KnownJobs.{known_job_of, reason_of}
use Rattle.rv_job_text.specs.declared_known_jobs.KnownJob.{KnownJob}
use Rattle.rv_job_text.specs.declared_known_jobs.KnownJobs.{KnownJobs}
use Rattle.rv_job_text.specs.ConsoleTail.{is_line_feed}
use Rattle.rv_job_text.specs.TotalsLine.{known_count}
use Rattle.rv_job_text.specs.declared_xml.XmlContext.TheVariants.{Attribute, Element}
use Rattle.rv_junit.specs.XmlPieces.{attribute, number_attribute}
use Rattle.rv_junit.specs.Junit.{IsWrittenRow, suite_begin_text, test_case_text, test_cases_text, suite_end_text, first_line}
use Rattle.rv_job_text.specs.FailureOrError.{is_error, is_failure}
use Rattle.rv_junit.specs.Junit.{AreReasonsBytes, HasBytesAsReason, judged_text, junit_text, output_text, problem_element_name, skipped_text}
use Rattle.rv_junit.specs.Junit.{problem_text, steps_properties, steps_property, text_up_to}
use Rattle.rv_job_text.specs.TextWords.{count_text}
use Rattle.rv_job_text.specs.Xml.{IsXmlCharacters}
use Rattle.rv_junit.proofs.Laws.{all_are_counted}
use Rattle.rv_job_text.proofs.Public.{xml_append, xml_decimal, xml_escaped, xml_nil, xml_plain}

bytes_take : (n : ℕ) (text : List ℕ) → IsBytes text → IsBytes (take n text)
bytes_take zero text are = λ i. omega arith
bytes_take (suc n) [] are = are
bytes_take (suc n) (byte ∷ rest) are = λ i. elim i as (λ k. get_or (byte ∷ take n rest) k 0 < 256) [
  | zero ↦ are 0
  | suc k ↦ bytes_take n rest (λ j. are (suc j)) k
]

bytes_up_to : (index : Option ℕ) (text : List ℕ) → IsBytes text → IsBytes (text_up_to index text)
bytes_up_to (Some index) text are = bytes_take index text are
bytes_up_to None text are = are

xml_either : (here : Bool) (xs ys : List ℕ) → IsXmlCharacters xs → IsXmlCharacters ys →
    IsXmlCharacters (cond here xs ys)
xml_either true xs ys one other = one
xml_either false xs ys one other = other

xml_attribute : (name value : List ℕ) → IsXmlCharacters name → IsBytes value → IsXmlCharacters (attribute name value)
unfolding attribute
xml_attribute name value named are =
    xml_append _ _ (xml_append _ _ (xml_append _ _ (xml_append _ _
    (xml_plain (codes " ") refl) named) (xml_plain (codes "=\"") refl))
    (xml_escaped Attribute value are)) (xml_plain (codes "\"") refl)

xml_number : (name : List ℕ) (number : ℕ) → IsXmlCharacters name → number < 2 ^ 64 →
    IsXmlCharacters (number_attribute name number)
unfolding number_attribute
xml_number name number named fits =
    xml_append _ _ (xml_append _ _ (xml_append _ _ (xml_append _ _
    (xml_plain (codes " ") refl) named) (xml_plain (codes "=\"") refl))
    (xml_decimal number fits)) (xml_plain (codes "\"") refl)

xml_problem_name : (row : Row) → IsXmlCharacters (problem_element_name row)
xml_problem_name row =
    xml_either (did_run row.ending) (codes "failure") (codes "error") (xml_plain (codes "failure") refl)
    (xml_plain (codes "error") refl)

xml_problem : (row : Row) (lines : List ℕ) → IsBytes lines → IsXmlCharacters (problem_text row lines)
unfolding problem_text
xml_problem row lines are =
    xml_append _ _ (xml_append _ _ (xml_append _ _ (xml_append _ _ (xml_append _ _ (xml_append _ _ (xml_append _ _
    (xml_plain (codes "<") refl) (xml_problem_name row))
    (xml_attribute (codes "message") (first_line lines) (xml_plain (codes "message") refl)
    (bytes_up_to (position is_line_feed lines) lines are)))
    (xml_plain (codes ">") refl)) (xml_escaped Element lines are)) (xml_plain (codes "</") refl))
    (xml_problem_name row)) (xml_plain (codes ">\n") refl)

xml_skipped : (reason : List ℕ) → IsBytes reason → IsXmlCharacters (skipped_text reason)
unfolding skipped_text
xml_skipped reason are =
    xml_append _ _ (xml_append _ _ (xml_plain (codes "<skipped") refl)
    (xml_either (length reason == 0) [] (attribute (codes "message") reason) xml_nil
    (xml_attribute (codes "message") reason (xml_plain (codes "message") refl) are))) (xml_plain (codes "/>\n") refl)

-- ---- what a row counts as, of which the reason is bytes

abbrev pub IsForBytes : JudgementView → Type 0
IsForBytes (known reason) = IsBytes reason
IsForBytes _ = ⊤

reason_here : (test : Bool) (job : KnownJob) (rest : Option KnownJob) → IsBytes job.reason
    → IfSome (option_map (λ (one : KnownJob). one.reason) rest) IsBytes
    → IfSome (option_map (λ (one : KnownJob). one.reason) (cond test (Some job) rest)) IsBytes
reason_here true job rest one other = one
reason_here false job rest one other = other

reason_found : (jobs : List KnownJob) (name : List ℕ) → AllByRecursion HasBytesAsReason jobs
    → IfSome (reason_of jobs name) IsBytes
reason_found [] name are = tt
reason_found (job ∷ jobs) name are =
    reason_here (bytes_eq job.name name) job (known_job_of jobs name) are.0 (reason_found jobs name are.1)

unknown_for_bytes : (has_passed : Bool) → IsForBytes (judgement_if_unlisted has_passed)
unknown_for_bytes true = tt
unknown_for_bytes false = tt

in_file_for_bytes : (path : List ℕ) (has_passed : Bool) (reason : Option (List ℕ)) → IfSome reason IsBytes
    → IsForBytes (judgement_in_file path has_passed reason)
in_file_for_bytes path has_passed None are = unknown_for_bytes has_passed
in_file_for_bytes path true (Some reason) are = tt
in_file_for_bytes path false (Some reason) are = are

known_for_bytes : (known : Option KnownJobs) (has_passed : Bool) (name : List ℕ)
    → IfSome known (λ file. AllByRecursion HasBytesAsReason file.jobs)
    → IsForBytes (judgement_by_known known has_passed name)
known_for_bytes None has_passed name are = unknown_for_bytes has_passed
known_for_bytes (Some file) has_passed name are =
    in_file_for_bytes file.path has_passed (reason_of file.jobs name) (reason_found file.jobs name are)

judgement_for_bytes : (judging : JudgeView) (row : Row) → AreReasonsBytes judging → IsForBytes (judgement judging row)
judgement_for_bytes judging row are = known_for_bytes judging.known (has_passed judging.rule row) row.name are

xml_judged : (judged : JudgementView) (row : Row) (lines : List ℕ) → IsForBytes judged → IsBytes lines
    → IsXmlCharacters (judged_text judged row lines)
xml_judged passed row lines reason are = xml_nil
xml_judged failed row lines reason are = xml_problem row lines are
xml_judged (known known_reason) row lines reason are = xml_skipped known_reason reason
xml_judged (now_passes path) row lines reason are = xml_problem row lines are

xml_count : (number : ℕ) (noun : List ℕ) → number < 2 ^ 64 → IsXmlCharacters noun → IsXmlCharacters (count_text number noun)
unfolding count_text
xml_count number noun fits named =
    xml_append _ _ (xml_append _ _ (xml_append _ _ (xml_decimal number fits) (xml_plain (codes " ") refl)) named)
    (xml_either (number == 1) [] (codes "s") xml_nil (xml_plain (codes "s") refl))

xml_output : (row : Row) → IsWrittenRow row → IsXmlCharacters (output_text row)
unfolding output_text
xml_output row is =
    xml_append _ _ (xml_append _ _ (xml_append _ _ (xml_append _ _
    (xml_plain (codes "<system-out>") refl) (xml_count row.steps (codes "step") is.steps (xml_plain (codes "step") refl)))
    (xml_plain (codes "\n") refl)) (xml_escaped Element row.console is.console))
    (xml_plain (codes "</system-out>\n") refl)

xml_case : (class : List ℕ) (judging : JudgeView) (row : Row) (lines : List ℕ) → IsBytes class → AreReasonsBytes judging →
    IsWrittenRow row → IsBytes lines → IsXmlCharacters (test_case_text class judging row lines)
unfolding test_case_text
xml_case class judging row lines classed reasons is are =
    xml_append _ _ (xml_append _ _ (xml_append _ _ (xml_append _ _ (xml_append _ _ (xml_append _ _
    (xml_plain (codes "<testcase") refl)
    (xml_attribute (codes "classname") class (xml_plain (codes "classname") refl) classed))
    (xml_attribute (codes "name") row.name (xml_plain (codes "name") refl) is.name))
    (xml_plain (codes ">\n") refl))
    (xml_judged (judgement judging row) row lines (judgement_for_bytes judging row reasons) are))
    (xml_output row is)) (xml_plain (codes "</testcase>\n") refl)

xml_cases : (class : List ℕ) (judging : JudgeView) (texts : List (List ℕ)) (rows : List Row) → IsBytes class →
    AreReasonsBytes judging → AllByRecursion IsBytes texts → AllByRecursion IsWrittenRow rows →
    IsXmlCharacters (test_cases_text class judging texts rows)
unfolding test_cases_text
xml_cases class judging [] rows classed reasons lines are = xml_nil
xml_cases class judging (text ∷ texts) [] classed reasons lines are = xml_nil
xml_cases class judging (text ∷ texts) (row ∷ rows) classed reasons lines are =
    xml_append _ _ (xml_case class judging row text classed reasons are.0 lines.0)
    (xml_cases class judging texts rows classed reasons lines.1 are.1)

bytes_append : (xs ys : List ℕ) → IsBytes xs → IsBytes ys → IsBytes (xs ++ ys)
bytes_append [] ys one other = other
bytes_append (x ∷ xs) ys one other = λ i. elim i as (λ k. get_or (x ∷ (xs ++ ys)) k 0 < 256) [
  | zero ↦ one 0
  | suc k ↦ bytes_append xs ys (λ j. one (suc j)) other k
]

bytes_nil : IsBytes []
bytes_nil = λ i. omega arith

bytes_more : (x : ℕ) (xs : List ℕ) → x < 256 → IsBytes xs → IsBytes (x ∷ xs)
bytes_more x xs fits are = λ i. elim i as (λ k. get_or (x ∷ xs) k 0 < 256) [
  | zero ↦ fits
  | suc k ↦ are k
]

bytes_steps : IsBytes (codes "steps.")
bytes_steps =
    bytes_more 115 (codes "teps.") (omega arith) (bytes_more 116 (codes "eps.") (omega arith)
    (bytes_more 101 (codes "ps.") (omega arith) (bytes_more 112 (codes "s.") (omega arith)
    (bytes_more 115 (codes ".") (omega arith) (bytes_more 46 [] (omega arith) bytes_nil)))))

xml_steps_property : (row : Row) → IsWrittenRow row → IsXmlCharacters (steps_property row)
unfolding steps_property
xml_steps_property row is =
    xml_append _ _ (xml_append _ _ (xml_append _ _ (xml_plain (codes "<property") refl)
    (xml_attribute (codes "name") (codes "steps." ++ row.name) (xml_plain (codes "name") refl)
    (bytes_append (codes "steps.") row.name bytes_steps is.name)))
    (xml_number (codes "value") row.steps (xml_plain (codes "value") refl) is.steps)) (xml_plain (codes "/>\n") refl)

xml_each_steps : (rows : List Row) → AllByRecursion IsWrittenRow rows → IsXmlCharacters (flat_map steps_property rows)
xml_each_steps [] are = xml_nil
xml_each_steps (row ∷ rows) are = xml_append _ _ (xml_steps_property row are.0) (xml_each_steps rows are.1)

xml_steps : (rows : List Row) → AllByRecursion IsWrittenRow rows → IsXmlCharacters (steps_properties rows)
unfolding steps_properties
xml_steps rows are =
    xml_append _ _ (xml_append _ _ (xml_plain (codes "<properties>\n") refl) (xml_each_steps rows are))
    (xml_plain (codes "</properties>\n") refl)

xml_begin : (class : List ℕ) (judging : JudgeView) (rows : List Row) → IsBytes class → AllByRecursion IsWrittenRow rows →
    length rows < 2 ^ 64 → IsXmlCharacters (suite_begin_text class judging rows)
unfolding suite_begin_text
xml_begin class judging rows classed are few =
    let failures : count_by (is_failure judging) rows < 2 ^ 64 = omega (arith, all_are_counted judging rows) in
    let errors : count_by (is_error judging) rows < 2 ^ 64 = omega (arith, all_are_counted judging rows) in
    let skips : known_count judging rows < 2 ^ 64 = omega (arith, all_are_counted judging rows) in
    xml_append _ _ (xml_append _ _ (xml_append _ _ (xml_append _ _ (xml_append _ _ (xml_append _ _ (xml_append _ _
    (xml_plain (codes "<?xml version=\"1.0\" encoding=\"UTF-8\"?>\n<testsuites>\n<testsuite") refl)
    (xml_attribute (codes "name") class (xml_plain (codes "name") refl) classed))
    (xml_number (codes "tests") (length rows) (xml_plain (codes "tests") refl) few))
    (xml_number (codes "failures") (count_by (is_failure judging) rows) (xml_plain (codes "failures") refl) failures))
    (xml_number (codes "errors") (count_by (is_error judging) rows) (xml_plain (codes "errors") refl) errors))
    (xml_either (known_count judging rows == 0) [] (number_attribute (codes "skipped") (known_count judging rows)) xml_nil
    (xml_number (codes "skipped") (known_count judging rows) (xml_plain (codes "skipped") refl) skips)))
    (xml_plain (codes ">\n") refl)) (xml_steps rows are)

pub xml_junit : (class : List ℕ) (judging : JudgeView) (texts : List (List ℕ)) (rows : List Row) → IsBytes class →
    AreReasonsBytes judging → AllByRecursion IsBytes texts → AllByRecursion IsWrittenRow rows → length rows < 2 ^ 64 →
    IsXmlCharacters (junit_text class judging texts rows)
unfolding junit_text
xml_junit class judging texts rows classed reasons lines are few =
    xml_append _ _ (xml_append _ _ (xml_begin class judging rows classed are few)
    (xml_cases class judging texts rows classed reasons lines are)) (xml_plain suite_end_text refl)
