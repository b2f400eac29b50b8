-- A word with zeros behind it.
use Rattle.std.proofs.Common.{◌≡◌, ℕ, ◌≤◌, List, ◌++◌, true, length, drop, replicate, arith, refl}
use Rattle.std.proofs.lemmas.List.{length-append, length-replicate, drop-replicate}
use Rattle.std.proofs.Math.Seq.{take-append_seam}
use Rattle.std.proofs.lemmas.Grind.{common_steps}
use Rattle.words.specs.Shape.{is_name}
use Rattle.words.specs.Kept.{Kept}

fits : (w : List ℕ) → is_name w ≡ true → length w ≤ 16
fits w named = grind (arith, common_steps)

pub padded_is_kept : (w : List ℕ) → is_name w ≡ true → Kept (record { bytes = w ++ drop (length w) (replicate 16 0); len = length w })
padded_is_kept w named =
    let short = fits w named in
    rw (drop-replicate {X = ℕ} (length w) 16 0)
    (record {
      sixteen = simp (length-append, length-replicate) (omega arith);
      within = short;
      named = rw take-append_seam named;
      zeros = rw take-append_seam refl;
    })
