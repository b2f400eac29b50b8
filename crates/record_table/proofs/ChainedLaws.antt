-- Every record is in exactly one chain, every chain ends, and a pair has at most one record.
use Rattle.std.proofs.Common.{◌≡◌, ℕ, zero, suc, ◌≤◌, List, [], ◌∷◌, length, sym, refl, ap, ◌∙◌, inl, inr, arith}
use mathlib.Core.Logic.{∥∥₁_elim, ∥∥₁_map, ∥∥₁_prop}
use native.Mathlib.Nat.{ℕ_set}
use native.Mathlib.Bridge.{le_prop}
use Rattle.record_table.specs.declared.chains.Record.{Record}
use Rattle.record_table.specs.declared.table.RecordTable.{RecordTable}
use Rattle.record_table.specs.Chains.{numbered, first_of}
use Rattle.record_table.specs.Laid.{In, Linked, Fit, Tidy, Laid}
use Rattle.record_table.specs.Chained.{along, On, InOne, TableChained}
use Rattle.record_table.specs.ChainsLemmas.{in_owner, differs}
use Rattle.record_table.specs.Steps.{next_low}

-- a place in the list is a number of links
in_along : (mem : ℕ → Record) (owner : ℕ → ℕ) (c h x : ℕ) (ys : List ℕ) → Linked mem owner c h ys → In x ys → (k : ℕ) × (along k mem h ≡ x)
in_along mem owner c h x [] l m = absurd m
in_along mem owner c h x (y ∷ ys) l (inl e) = (0, l.0 ∙ sym e)
in_along mem owner c h x (y ∷ ys) l (inr m) =
    let r = in_along mem owner c (mem y).next x ys l.5 m in
    (suc r.0, ap (λ (z : ℕ). along r.0 mem (mem z).next) l.0 ∙ r.1)

along_end : (mem : ℕ → Record) → (mem 0).next ≡ 0 → (k : ℕ) → along k mem 0 ≡ 0
along_end mem e zero = refl
along_end mem e (suc k) = ap (along k mem) e ∙ along_end mem e k

-- behind its last record a chain leads to none
to_end : (mem : ℕ → Record) (owner : ℕ → ℕ) (c h : ℕ) (ys : List ℕ) → Linked mem owner c h ys → along (length ys) mem h ≡ 0
to_end mem owner c h [] l = l
to_end mem owner c h (y ∷ ys) l = ap (λ (z : ℕ). along (length ys) mem (mem z).next) l.0 ∙ to_end mem owner c (mem y).next ys l.5

-- links from a chain's first number lead to a record of the list, or to none
along_in : (mem : ℕ → Record) (owner : ℕ → ℕ) → (mem 0).next ≡ 0 → (c h x k : ℕ) (ys : List ℕ) → Linked mem owner c h ys → 1 ≤ x → along k mem h ≡ x → In x ys
along_in mem owner z c h x k [] l low e = let a : along k mem h ≡ 0 = ap (along k mem) l ∙ along_end mem z k in absurd (omega arith)
along_in mem owner z c h x zero (y ∷ ys) l low e = inl (sym e ∙ l.0)
along_in mem owner z c h x (suc k) (y ∷ ys) l low e = inr (along_in mem owner z c (mem y).next x k ys l.5 low (ap (λ (v : ℕ). along k mem (mem v).next) (sym l.0) ∙ e))

in_fit : (n : ℕ) (mem : ℕ → Record) (x : ℕ) (ys : List ℕ) → Tidy n mem ys → In x ys → Fit n (mem x)
in_fit n mem x [] k m = absurd m
in_fit n mem x (y ∷ ys) k (inl e) = rw e k.0
in_fit n mem x (y ∷ ys) k (inr m) = in_fit n mem x ys k.2 m

same_record : (n : ℕ) (mem : ℕ → Record) (x y : ℕ) (ys : List ℕ) → Tidy n mem ys → In x ys → In y ys → (mem x).target ≡ (mem y).target → x ≡ y
same_record n mem x y [] k a b e = absurd a
same_record n mem x y (z ∷ zs) k (inl p) (inl q) e = p ∙ sym q
same_record n mem x y (z ∷ zs) k (inl p) (inr b) e = absurd (differs n mem y z zs k b (ap (λ (v : ℕ). (mem v).target) (sym p) ∙ e))
same_record n mem x y (z ∷ zs) k (inr a) (inl q) e = absurd (differs n mem x z zs k a (ap (λ (v : ℕ). (mem v).target) (sym q) ∙ sym e))
same_record n mem x y (z ∷ zs) k (inr a) (inr b) e = same_record n mem x y zs k.2 a b e

module _ (n : ℕ) (first : ℕ → ℕ) (mem : ℕ → Record) (none : (mem 0).next ≡ 0) (l : Laid n first mem) where
  reached : (c x k : ℕ) → c ≤ n → 1 ≤ x → along k mem (first c) ≡ x → In x (l.chains c)
  reached c x k h low e = along_in mem l.owner none c (first c) x k (l.chains c) (l.linked c h) low e

  -- the chain of a record
  owned : (x : ℕ) → 1 ≤ x → (d : ℕ) → d ≤ n → On first mem d x → d ≡ l.owner x
  owned x low d h on = ∥∥₁_elim on (ℕ_set _ _) (λ k. sym (in_owner mem l.owner d (first d) x (l.chains d) (l.linked d h) (reached d x k.0 h low k.1)))

  on_own : (x : ℕ) (w : (l.owner x ≤ n) × In x (l.chains (l.owner x))) → On first mem (l.owner x) x
  on_own x w = ∣ in_along mem l.owner (l.owner x) (first (l.owner x)) x (l.chains (l.owner x)) (l.linked (l.owner x) w.0) w.1 ∣₁

  pub one_chain_is : (x : ℕ) → 1 ≤ x → x ≤ 1024 → ∥ InOne n first mem x ∥₁
  one_chain_is x low high = let w = l.whole x low high in ∣ (l.owner x, w.0, on_own x w, owned x low) ∣₁

  pub in_use_is : (c x k : ℕ) → 1 ≤ c → c ≤ n → 1 ≤ x → along k mem (first c) ≡ x → Fit n (mem x)
  in_use_is c x k c1 h low e = in_fit n mem x (l.chains c) (l.tidy c c1 h) (reached c x k h low e)

  pub one_record_is : (c x y k j : ℕ) → 1 ≤ c → c ≤ n → 1 ≤ x → 1 ≤ y → along k mem (first c) ≡ x → along j mem (first c) ≡ y → (mem x).target ≡ (mem y).target → x ≡ y
  one_record_is c x y k j c1 h x1 y1 p q e = same_record n mem x y (l.chains c) (l.tidy c c1 h) (reached c x k h x1 p) (reached c y j h y1 q) e

pub table_chained : (p : RecordTable) → TableChained p
table_chained p = record {
  one_chain = λ x low high. ∥∥₁_elim p.laid ∥∥₁_prop (λ l. one_chain_is n first mem refl l x low high);
  ended = λ c h. ∥∥₁_map p.laid (λ l. (length (l.chains c), to_end mem l.owner c (first c) (l.chains c) (l.linked c h)));
  heads_low = λ c h. p.firsts c;
  links_low = next_low p.chains.slots p.links;
  in_use = λ c x c1 h low on. ∥∥₁_elim p.laid (fit_prop (mem x)) (λ l. ∥∥₁_elim on (fit_prop (mem x)) (λ k. in_use_is n first mem refl l c x k.0 c1 h low k.1));
  one_record = λ c x y c1 h x1 y1 a b e. ∥∥₁_elim p.laid (ℕ_set _ _) (λ l. ∥∥₁_elim a (ℕ_set _ _) (λ k. ∥∥₁_elim b (ℕ_set _ _) (λ j. one_record_is n first mem refl l c x y k.0 j.0 c1 h x1 y1 k.1 j.1 e)));
}
  where
    n : ℕ
    n = p.contexts

    first : ℕ → ℕ
    first = first_of p.chains.heads

    mem : ℕ → Record
    mem = numbered p.chains.slots

    fit_prop : (r : Record) → IsProp (Fit n r)
    fit_prop r = λ x y i. (le_prop x.0 y.0 i, le_prop x.1 y.1 i, le_prop x.2 y.2 i, le_prop x.3 y.3 i)
