-- Words that name templates.
use Rattle.std.specs.Prelude.{cond, codes, Ok, Err, Result, bytes_eq}
use Rattle.access.specs.declared.property.Template.{Template}
use Rattle.access.specs.declared.property.Template.TheVariants.{Integrity, Confidentiality, Domain, Consistency}
use Rattle.access.specs.declared.refusal.Refusal.TheVariants.{UnfitWord}
use Rattle.words.specs.Words.{WordAt}
use Rattle.words.specs.Flaws.{at_word}
use Rattle.words.specs.declared.flaw.Flaw.{Flaw}

-- the template that a word names
abbrev pub template_in : WordAt → Result Template Flaw
template_in w =
    cond (bytes_eq w.bytes (codes "integrity")) (Ok Integrity)
    (cond (bytes_eq w.bytes (codes "confidentiality")) (Ok Confidentiality)
    (cond (bytes_eq w.bytes (codes "domain")) (Ok Domain)
    (cond (bytes_eq w.bytes (codes "consistency")) (Ok Consistency) (Err (at_word w UnfitWord)))))
