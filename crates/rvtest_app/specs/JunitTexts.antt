-- What JUnit XML has for the rows of a report.
use Rattle.std.specs.Prelude.{ℕ, List, Option, Some, None, map, unwrap_or}
use Rattle.std.specs.Path.{path_file_stem}
use Rattle.rv_expect.specs.Judgement.{JudgeView}
use Rattle.rv_junit.specs.Junit.{junit_text}
use Rattle.rv_rows.specs.declared_row.Row.{Row}
use Rattle.rvtest_app.specs.ReportSummary.{failed_line}

-- the class of a list's jobs in JUnit XML: the last component of the list's path, without the extension
abbrev pub junit_class : List ℕ → List ℕ
junit_class path = unwrap_or (path_file_stem path) path

-- the name of the JUnit suite: the requested name, or else the last component of the path without its extension
abbrev pub suite_name : Option (List ℕ) → List ℕ → List ℕ
suite_name (Some name) path = name
suite_name None path = junit_class path

-- the JUnit XML of these rows of a report, for the suite `suite`; each failed row has its result line
abbrev pub failures_junit : List ℕ → JudgeView → List Row → List ℕ
failures_junit suite judging rows = junit_text suite judging
    (map (failed_line judging) rows) rows
