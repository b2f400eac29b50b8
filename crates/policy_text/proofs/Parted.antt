-- Lists of bytes cut into parts.
use Rattle.std.proofs.Common.{◌≡◌, ◌≢◌, ℕ, ◌+◌, ◌-◌, ◌≤◌, Bool, true, false, cond, List, [], ◌∷◌, length, drop, All, eqb, sym, ap, ◌∙◌, refl, arith}
use Rattle.std.specs.List.{join_with_byte, onto_first}
use Rattle.std.proofs.lemmas.List.Splits.{join_with_byte-slice_split}
use Rattle.std.proofs.lemmas.List.Elements.{All-nil, All-cons, All-tail}
use Rattle.std.proofs.lemmas.List.{drop-drop}
use Rattle.std.proofs.Math.Seq.{take-length, take-append_seam, drop-append-add}
use Rattle.std.proofs.lemmas.Bool.{eqb-false}
use Rattle.words.specs.Parts.{parts}
use Rattle.words.specs.Words.{placed}
use Rattle.policy_text.specs.Laws.{Lacks, PartsLaw, StandsIn, ColumnsLaw}

-- a byte more in the first part
free_first : (mark b : ℕ) (ps : List (List ℕ)) → b ≢ mark → All (Lacks mark) ps → All (Lacks mark) (onto_first b ps)
free_first mark b [] other free = All-cons (Lacks mark) (b ∷ []) [] (All-cons (λ x. x ≢ mark) b [] other (All-nil (λ x. x ≢ mark))) (All-nil (Lacks mark))
free_first mark b (p ∷ ps) other free = All-cons (Lacks mark) (b ∷ p) ps (All-cons (λ x. x ≢ mark) b p other (free 0 [] (omega arith))) (All-tail (Lacks mark) p ps free)

free_parts : (mark : ℕ) (bytes : List ℕ) → All (Lacks mark) (parts mark bytes)
free_parts mark [] = All-cons (Lacks mark) [] [] (All-nil (λ x. x ≢ mark)) (All-nil (Lacks mark))
free_parts mark (b ∷ bs) = by (eqb b mark) refl (free_parts mark bs)
  where
    by : (t : Bool) → eqb b mark ≡ t → All (Lacks mark) (parts mark bs) → All (Lacks mark) (cond t ([] ∷ parts mark bs) (onto_first b (parts mark bs)))
    by true e free = All-cons (Lacks mark) [] (parts mark bs) (All-nil (λ x. x ≢ mark)) free
    by false e free = free_first mark b (parts mark bs) (eqb-false b mark e) free

pub parted : PartsLaw
parted mark bytes = record { whole = join_with_byte-slice_split mark bytes; free = free_parts mark bytes }

-- words that stand in a row from a place on
placed_words : (line : List ℕ) (k : ℕ) (ws : List (List ℕ)) → 1 ≤ k → join_with_byte 32 ws ≡ drop (k - 1) line → All (StandsIn line) (placed k ws)
placed_words line k [] low e = All-nil (StandsIn line)
placed_words line k (w ∷ []) low e = All-cons (StandsIn line) (record { column = k; bytes = w }) [] (rw (← e) (take-length w)) (All-nil (StandsIn line))
placed_words line k (w ∷ v ∷ vs) low e =
    All-cons (StandsIn line) (record { column = k; bytes = w }) (placed (k + length w + 1) (v ∷ vs)) (rw (← e) (take-append_seam w (32 ∷ join_with_byte 32 (v ∷ vs))))
    (placed_words line (k + length w + 1) (v ∷ vs) (omega arith) behind)
  where
    place : k - 1 + (length w + 1) ≡ k + length w + 1 - 1
    place = omega arith

    behind : join_with_byte 32 (v ∷ vs) ≡ drop (k + length w + 1 - 1) line
    behind = sym (drop-append-add w (32 ∷ join_with_byte 32 (v ∷ vs)) 1) ∙ ap (drop (length w + 1)) e ∙ drop-drop (length w + 1) (k - 1) line ∙ ap (λ n. drop n line) place

pub columned : ColumnsLaw
columned line = placed_words line 1 (parts 32 line) (omega arith) (join_with_byte-slice_split 32 line)
