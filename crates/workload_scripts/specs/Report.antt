-- What is written of a workload.
use Rattle.std.specs.Prelude.{ℕ, ℤ, List, ◌++◌, codes, decimal}
use Rattle.std.specs.Fmt.{signed_decimal}
use Rattle.workload_scripts.specs.declared.report.Report.{Report}

-- words and a number behind them, on a line
abbrev pub signed : List ℕ → ℤ → List ℕ
signed words n = words ++ signed_decimal n ++ codes "\n"

abbrev pub counted : List ℕ → ℕ → List ℕ
counted words n = words ++ decimal n ++ codes "\n"

-- three lines
abbrev pub report_text : Report → List ℕ
report_text r = signed (codes "accounts ") r.accounts ++ signed (codes "total ") r.total ++ counted (codes "faults ") r.faults
