use Rattle.report.proofs.job.one_report_stands.Goals as goal
use Rattle.report.proofs.OneReport.{one_report}

pub returns : goal.returns
returns c = one_report
