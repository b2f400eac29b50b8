-- One writing after another.
use Rattle.std.proofs.Common.{◌≡◌, ℕ, ◌+◌, ◌-◌, ◌<◌, ◌≤◌, List, ◌++◌, length, take, drop, sym, ap, ap₂, ◌∙◌, arith, append_assoc, length-append, get_or}
use Rattle.std.proofs.lemmas.List.{drop-drop, take-append-drop, take_more, append-nil}
use Rattle.std.proofs.lemmas.Grind.{flat_map-append}
use Rattle.std.specs.List.{flat_map}
use Rattle.search.specs.declared.lent.List.{List as Lent}
use Rattle.report.specs.Parts.{InFront}
use Rattle.report.specs.Written.{Wrote}

-- what agrees from j on agrees from k on
later : (xs ys : List ℕ) (j k : ℕ) → j ≤ k → drop j xs ≡ drop j ys → drop k xs ≡ drop k ys
later xs ys j k h e =
    let s : k ≡ j + (k - j) = omega arith in
    rw s (sym (drop-drop (k - j) j xs) ∙ ap (drop (k - j)) e ∙ drop-drop (k - j) j ys)

pub wrote_more : {a b d : Lent ℕ} {bs cs : List ℕ} → Wrote a bs b → Wrote b cs d → Wrote a (bs ++ cs) d
wrote_more {a} {b} {d} {bs} {cs} p q = record {
  lender = q.lender ∙ p.lender;
  len = omega (arith, p.len, q.len, length-append bs cs);
  sized = q.sized ∙ p.sized;
  front = q.front ∙ ap (λ l. l ++ cs) p.front ∙ append_assoc (take a.len a.items.now) bs cs;
  rest = q.rest ∙ later b.items.now a.items.now b.len d.len (omega (arith, q.len)) p.rest;
}

-- what is written of one item more
pub wrote_next : {X : Type 0} {a b d : Lent ℕ} (text : X → List ℕ) (xs : List X) (i : ℕ) (e : X) → i < length xs → Wrote a (flat_map text (take i xs)) b → Wrote b (text (get_or xs i e)) d → Wrote a (flat_map text (take (i + 1) xs)) d
wrote_next text xs i e h p q =
    rw (take_more xs i e h, flat_map-append) (rw append-nil (wrote_more p q))

-- what is written into an empty list stands in front
pub in_front : {a b : Lent ℕ} {bytes before after : List ℕ} {count : ℕ} → a.len ≡ 0 → a.items.now ≡ before → Wrote a bytes b → b.items.now ≡ after → count ≡ b.len → InFront bytes before after count
in_front {a} {b} {bytes} {before} {after} {count} empty same w kept all =
    let front : take b.len b.items.now ≡ bytes = w.front ∙ ap (λ n. take n a.items.now ++ bytes) empty in
    record {
      all = omega (arith, all, w.len, empty);
      written = sym kept ∙ sym (take-append-drop b.len b.items.now) ∙ ap₂ (λ xs ys. xs ++ ys) front (w.rest ∙ ap₂ drop (sym all) same);
    }
