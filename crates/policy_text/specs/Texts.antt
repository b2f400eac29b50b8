-- What a policy text says.
use Rattle.std.specs.Prelude.{ℕ, ◌+◌, not, cond, List, [], ◌∷◌, length, Ok, Err, Result, ◌==◌, nat_lt}
use Rattle.access.specs.Refusals.{first_of}
use Rattle.access.specs.declared.refusal.Refusal.TheVariants.{LongText, UnfitLine, ContextCount}
use Rattle.words.specs.Parts.{parts}
use Rattle.words.specs.declared.flaw.Flaw.{Flaw}
use Rattle.policy_text.specs.Reading.{Reading, nothing, no_context}
use Rattle.policy_text.specs.Lines.{unless_refused, line_read}
use Rattle.policy_text.specs.declared.fault.Fault.{Fault}

-- the fault of a line with a flaw
abbrev pub on_line : ℕ → Flaw → Fault
on_line n flaw = record { refusal = flaw.refusal; line = n; column = flaw.column }

-- the text ends: nothing may stand behind the last line feed, and a context has to be declared
abbrev pub ended : Reading → List ℕ → Result Reading Flaw
ended p rest = unless_refused (first_of ((not (length rest == 0), UnfitLine) ∷ (no_context p, ContextCount) ∷ [])) (Ok p)

-- what a line makes of what is read before it, with the line's number in its fault
abbrev pub numbered : ℕ → Result Reading Flaw → Result Reading Fault
numbered n (Ok p) = Ok p
numbered n (Err flaw) = Err (on_line n flaw)

-- the lines from line n on, and last what stands behind the last line feed
abbrev pub lines_read : ℕ → Reading → List (List ℕ) → Result Reading Fault
lines_read n p [] = numbered n (ended p [])
lines_read n p (rest ∷ []) = numbered n (ended p rest)
lines_read n p (line ∷ more ∷ lines) = elim (numbered n (line_read p line)) [ Ok q ↦ lines_read (n + 1) q (more ∷ lines) | Err fault ↦ Err fault ]

-- a text of at most 65,536 bytes, each line of which ends in a line feed
abbrev pub text_read : List ℕ → Result Reading Fault
text_read text = cond (nat_lt 65536 (length text)) (Err (record { refusal = LongText; line = 1; column = 1 })) (lines_read 1 nothing (parts 10 text))
