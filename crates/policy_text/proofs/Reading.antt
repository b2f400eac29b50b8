-- A text read line by line.
use Rattle.std.proofs.Common.{◌≡◌, ℕ, ◌+◌, ◌≤◌, Bool, true, false, not, List, [], ◌∷◌, length, Ok, Err, Result, ◌==◌, nat_lt, count_by, refl, arith}
use Rattle.std.proofs.lemmas.List.Splits.{length-slice_split}
use Rattle.std.proofs.lemmas.Bool.Decides.{nat_tests}
use Rattle.access.specs.Refusals.{first_of}
use Rattle.access.specs.declared.refusal.Refusal.TheVariants.{UnfitLine, ContextCount}
use Rattle.words.specs.Parts.{parts}
use Rattle.words.specs.declared.flaw.Flaw.{Flaw}
use Rattle.policy_text.specs.Reading.{Reading, nothing, no_context}
use Rattle.policy_text.specs.Lines.{unless_refused, line_read}
use Rattle.policy_text.specs.Texts.{on_line, ended, numbered, lines_read, text_read}
use Rattle.policy_text.specs.Shown.{Holds, Follows}
use Rattle.policy_text.specs.declared.reader.Reader.{Reader}

pub short_text : (text : List ℕ) → length text ≤ 65536 → text_read text ≡ lines_read 1 nothing (parts 10 text)
short_text text short = let test : nat_lt 65536 (length text) ≡ false = grind (arith, nat_tests) in rw test

module _ (n : ℕ) (p : Reading) (line behind : List ℕ) where
  lines_read-line : lines_read n p (line ∷ parts 10 behind) ≡ elim (numbered n (line_read p line)) [ Ok q ↦ lines_read (n + 1) q (parts 10 behind) | Err fault ↦ Err fault ]
  lines_read-line = by (parts 10 behind) (count_by (λ b. b == 10) behind) (length-slice_split (λ b. b == 10) behind)
    where
      by : (ls : List (List ℕ)) (k : ℕ) → length ls ≡ k + 1 → lines_read n p (line ∷ ls) ≡ elim (numbered n (line_read p line)) [ Ok q ↦ lines_read (n + 1) q ls | Err fault ↦ Err fault ]
      by [] k e = absurd (omega arith)
      by (l ∷ ls) k e = refl

  -- a line that is taken leaves the lines behind it
  pub line_taken : (r : Reader) → Follows (line_read p line) (Ok tt) r → (q : Reading) × Holds q r × (lines_read n p (line ∷ parts 10 behind) ≡ lines_read (n + 1) q (parts 10 behind))
  line_taken r follows = by (line_read p line) follows lines_read-line
    where
      by : (o : Result Reading Flaw) → Follows o (Ok tt) r → lines_read n p (line ∷ parts 10 behind) ≡ elim (numbered n o) [ Ok q ↦ lines_read (n + 1) q (parts 10 behind) | Err fault ↦ Err fault ]
          → (q : Reading) × Holds q r × (lines_read n p (line ∷ parts 10 behind) ≡ lines_read (n + 1) q (parts 10 behind))
      by (Ok q) f e = (q, f.1, e)
      by (Err flaw) f e = absurd (cc)

  -- the flaw of a line is the text's fault
  pub line_flawed : (r : Reader) (flaw : Flaw) → Follows (line_read p line) (Err flaw) r → lines_read n p (line ∷ parts 10 behind) ≡ Err (on_line n flaw)
  line_flawed r flaw follows = by (line_read p line) follows lines_read-line
    where
      by : (o : Result Reading Flaw) → Follows o (Err flaw) r → lines_read n p (line ∷ parts 10 behind) ≡ elim (numbered n o) [ Ok q ↦ lines_read (n + 1) q (parts 10 behind) | Err fault ↦ Err fault ]
          → lines_read n p (line ∷ parts 10 behind) ≡ Err (on_line n flaw)
      by (Ok q) f e = absurd (cc)
      by (Err other) f e = let same : flaw ≡ other = cc in rw same e

pub ended_well : (p : Reading) (rest : List ℕ) → (length rest == 0) ≡ true → no_context p ≡ false → ended p rest ≡ Ok p
ended_well p rest none some = by (length rest == 0) (no_context p) none some
  where
    by : (a b : Bool) → a ≡ true → b ≡ false → unless_refused (first_of ((not a, UnfitLine) ∷ (b, ContextCount) ∷ [])) (Ok p) ≡ Ok p
    by true false e f = refl
    by true true e f = absurd (cc)
    by false b e f = absurd (cc)
