-- A text has one report.
use Rattle.std.specs.Prelude.{◌≡◌, ℕ, List}
use Rattle.policy_text.specs.Texts.{text_read}
use Rattle.report.specs.Output.{Prints}

-- whoever prints what is to be printed of a text prints the same bytes
abbrev pub OneReport : Type 0
OneReport = (text xs ys : List ℕ) → Prints (text_read text) xs → Prints (text_read text) ys → xs ≡ ys
