-- A table with no pair: every record is unused.
use Rattle.std.proofs.Common.{◌≡◌, ℕ, zero, suc, ◌+◌, ◌-◌, ◌<◌, ◌≤◌, eqb, List, [], ◌∷◌, length, get_or, set, replicate, refl, ap, ◌∙◌, inl, inr, ⊎_elim, arith}
use Rattle.std.specs.List.{range_with_len}
use Rattle.std.proofs.lemmas.Bool.{cases_eq, cases_Bool}
use Rattle.std.proofs.lemmas.List.FromFn.{length-range_with_len}
use Rattle.access.specs.Contexts.{both_inside}
use Rattle.access.specs.Sound.{pairs}
use Rattle.access.proofs.Pairs.{pairs_alike, pairs_none}
use Rattle.access.proofs.Settings.{pair_parts}
use Rattle.record_table.specs.declared.chains.Record.{Record}
use Rattle.record_table.specs.declared.chains.Chains.{Chains}
use Rattle.record_table.specs.Chains.{unused_before, blank, numbered, first_of, LinksLow}
use Rattle.record_table.specs.Laid.{Out, In, Linked, Tidy, Laid, held_by}
use Rattle.record_table.specs.TableMeaning.{written_of}
use Rattle.record_table.specs.Steps.{numbered_is, that_end}
use Rattle.record_table.specs.Writes.{Arrays}

out_from : (x k m : ℕ) → x < k → Out x (range_with_len k m)
out_from x k zero h = tt
out_from x k (suc m) h = ((λ e. omega arith), out_from x (k + 1) m (omega arith))

in_from : (x k m : ℕ) → k ≤ x → x < k + m → In x (range_with_len k m)
in_from x k zero low high = absurd (omega arith)
in_from x k (suc m) low high = ⊎_elim (λ e. inl e) (λ ne. inr (in_from x (k + 1) m (omega arith) (omega arith))) (cases_eq x k)

abbrev heads : List ℕ
heads = set (replicate 257 0) 0 1

zeros : (m k : ℕ) → ◌≡◌ {A = ℕ} (get_or (replicate m 0) k 0) 0
zeros zero k = refl
zeros (suc m) zero = refl
zeros (suc m) (suc k) = zeros m k

first_none : (c : ℕ) → 1 ≤ c → first_of heads c ≡ 0
first_none zero h = absurd (omega arith)
first_none (suc c) h = zeros 256 c

first_low : (c : ℕ) → first_of heads c ≤ 1024
first_low zero = omega arith
first_low (suc c) = rw (first_none (suc c) (omega arith)) (omega arith)

module _ (n : ℕ) (k : Chains) (starts : k.heads ≡ set (replicate 257 0) 0 1) (all : length k.slots ≡ 1024) (links : (j : ℕ) → j < 1023 → get_or k.slots j blank ≡ unused_before (j + 2)) (last : get_or k.slots 1023 blank ≡ blank) where
  abbrev slots : List Record
  slots = k.slots

  abbrev mem : ℕ → Record
  mem = numbered slots

  first_is : (c : ℕ) → first_of k.heads c ≡ first_of heads c
  first_is c = ap (λ (hs : List ℕ). first_of hs c) starts

  next_is : (k : ℕ) → 1 ≤ k → k < 1024 → (mem k).next ≡ k + 1
  next_is k low high = ap (λ (r : Record). r.next) (numbered_is slots k low ∙ links (k - 1) (omega arith)) ∙ omega arith

  next_none : (k : ℕ) → k ≡ 1024 → (mem k).next ≡ 0
  next_none k e = rw e (ap (λ (r : Record). r.next) (numbered_is slots 1024 (omega arith) ∙ last))

  chained : (m k : ℕ) → 1 ≤ k → k + m ≡ 1024 → Linked mem (λ _. 0) 0 k (k ∷ range_with_len (k + 1) m)
  chained zero k low e = (refl, low, omega arith, refl, tt, next_none k (omega arith))
  chained (suc m) k low e = (refl, low, omega arith, refl, out_from k (k + 1) (suc m) (omega arith), rw (next_is k low (omega arith)) (chained m (k + 1) (omega arith) (omega arith)))

  begins : (h : ℕ) (ys : List ℕ) → h ≡ 1 → Linked mem (λ _. 0) 0 1 ys → Linked mem (λ _. 0) 0 h ys
  begins h ys e l = rw e l

  fresh_chains : ℕ → List ℕ
  fresh_chains zero = range_with_len 1 1024
  fresh_chains (suc c) = []

  fresh_linked : (c : ℕ) → Linked mem (λ _. 0) c (first_of k.heads c) (fresh_chains c)
  unfolding fresh_chains
  fresh_linked zero = begins (first_of k.heads 0) (range_with_len 1 1024) (first_is 0) (chained 1023 1 (omega arith) refl)
  fresh_linked (suc c) = first_is (suc c) ∙ first_none (suc c) (omega arith)

  fresh_none : (c t : ℕ) → 1 ≤ c → held_by mem fresh_chains c t ≡ 0
  unfolding fresh_chains
  fresh_none zero t h = absurd (omega arith)
  fresh_none (suc c) t h = refl

  fresh_in : (x : ℕ) → 1 ≤ x → x ≤ 1024 → In x (fresh_chains 0)
  unfolding fresh_chains
  fresh_in x low high = in_from x 1 1024 low (omega arith)

  fresh_unused : length (fresh_chains 0) ≡ 1024
  unfolding fresh_chains
  fresh_unused = length-range_with_len 1 1024

  pub fresh_laid : Laid n (first_of k.heads) (numbered k.slots)
  unfolding fresh_chains
  fresh_laid = record {
    chains = fresh_chains;
    owner = λ _. 0;
    linked = λ c h. fresh_linked c;
    tidy = λ c low high. elim c as (λ (c : ℕ). 1 ≤ c → Tidy n mem (fresh_chains c)) [ zero ↦ λ h. absurd (omega arith) | suc c ↦ λ h. tt ] low;
    whole = λ x low high. (omega arith, fresh_in x low high);
    counted =
        let a : pairs (held_by mem fresh_chains) n n ≡ pairs (λ _ _. 0) n n = pairs_alike (held_by mem fresh_chains) (λ _ _. 0) n n (λ x y p q r s. fresh_none x y p) in
        let b : pairs (λ _ _. 0) n n ≡ 0 = pairs_none (λ _ _. 0) n n (λ x y. refl) in
        omega (arith, a, b, fresh_unused);
  }

  low : LinksLow slots
  low k h = ⊎_elim
      (λ e. rw e (rw last (omega arith)))
      (λ ne. rw (links k (omega arith)) (omega arith))
      (cases_eq k 1023)

  pub fresh_arrays : Arrays k
  fresh_arrays = record { heads_size = ap length starts; slots_size = all; firsts = λ c. rw (first_is c) (first_low c); links = low }

  pub fresh_written : (s t : ℕ) → written_of n (first_of k.heads) (numbered k.slots) s t ≡ 0
  fresh_written s t = ⊎_elim
      (λ h. let p = pair_parts n s t h in rw (h, first_is s, first_none s p.0, that_end (λ r. eqb r.target t) mem 1024 0 refl) refl)
      (λ h. rw h refl)
      (cases_Bool (both_inside n s t))
