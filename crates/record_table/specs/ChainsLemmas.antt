-- Lists of linked records, and what a write of one record does to them.
use Rattle.std.specs.Prelude.{◌≡◌, ℕ, zero, suc, ◌<◌, ◌≤◌, Bool, true, false, cond, ◌⊎◌, List, [], ◌∷◌, length, Some, None, Option, ◌==◌, ◌≢◌, nat_eq, refl}
use Rattle.std.proofs.Common.{sym, ap, subst, ◌∙◌, inl, inr, ⊎_elim, arith}
use Rattle.std.proofs.lemmas.Bool.{cases_Bool, eqb-true, eq-eqb, ne_eqb}
use Rattle.std.proofs.lemmas.Bool.Decides.{nat_tests}
use Rattle.record_table.specs.declared.chains.Record.{Record}
use Rattle.record_table.specs.Chains.{first_that}
use Rattle.record_table.specs.Laid.{Out, In, Linked, look, Fit, Tidy}

-- a function with another value at one place
abbrev pub upd : {X : Type 0} → (ℕ → X) → ℕ → X → ℕ → X
upd f i v k = cond (k == i) v (f k)

pub apart : (i z : ℕ) (ys : List ℕ) → In i ys → Out z ys → z ≢ i
apart i z [] m out e = m
apart i z (y ∷ ys) (inl q) out e = out.0 (sym q ∙ sym e)
apart i z (y ∷ ys) (inr m) out e = apart i z ys m out.1 e

-- the records of a chain are its own: no other record is among them
pub out_owned : (mem : ℕ → Record) (owner : ℕ → ℕ) (c h x : ℕ) (ys : List ℕ) → Linked mem owner c h ys → (owner x ≢ c) → Out x ys
out_owned mem owner c h x [] k ne = tt
out_owned mem owner c h x (y ∷ ys) k ne = ((λ e. ne (ap owner (sym e) ∙ k.3)), out_owned mem owner c (mem y).next x ys k.5 ne)

pub in_owner : (mem : ℕ → Record) (owner : ℕ → ℕ) (c h i : ℕ) (ys : List ℕ) → Linked mem owner c h ys → In i ys → owner i ≡ c
in_owner mem owner c h i [] k m = absurd m
in_owner mem owner c h i (y ∷ ys) k (inl e) = ap owner e ∙ k.3
in_owner mem owner c h i (y ∷ ys) k (inr m) = in_owner mem owner c (mem y).next i ys k.5 m

-- a chain whose first number is not 0 begins with that record
pub begins : (mem : ℕ → Record) (owner : ℕ → ℕ) (c h : ℕ) (ys : List ℕ) → Linked mem owner c h ys → 1 ≤ h → (xs : List ℕ) × (ys ≡ h ∷ xs)
begins mem owner c h [] k p = absurd (omega arith)
begins mem owner c h (y ∷ ys) k p = (ys, ap (λ (z : ℕ). z ∷ ys) (sym k.0))

pub ends : (mem : ℕ → Record) (owner : ℕ → ℕ) (c h : ℕ) (ys : List ℕ) → Linked mem owner c h ys → h ≡ 0 → length ys ≡ 0
ends mem owner c h [] k p = refl
ends mem owner c h (y ∷ ys) k p = absurd (omega arith)

pub has_first : (mem : ℕ → Record) (owner : ℕ → ℕ) (c h i : ℕ) (ys : List ℕ) → Linked mem owner c h ys → In i ys → 1 ≤ h
has_first mem owner c h i [] k m = absurd m
has_first mem owner c h i (y ∷ ys) k m = omega arith

-- links that stay lead the same way
pub linked_same : (mem new : ℕ → Record) (owner : ℕ → ℕ) → ((y : ℕ) → (new y).next ≡ (mem y).next) → (c h : ℕ) (ys : List ℕ) → Linked mem owner c h ys → Linked new owner c h ys
linked_same mem new owner same c h [] k = k
linked_same mem new owner same c h (y ∷ ys) k = (k.0, k.1, k.2, k.3, k.4, rw (same y) (linked_same mem new owner same c (mem y).next ys k.5))

-- what is read alike in the new record is read alike in all
pub read_same : (mem : ℕ → Record) (i : ℕ) (r : Record) (read : Record → ℕ) → read r ≡ read (mem i) → (y : ℕ) → read (upd mem i r y) ≡ read (mem y)
read_same mem i r read e y = grind (arith, nat_tests)

-- a write of a record that is not in the list
module _ (mem : ℕ → Record) (x : ℕ) (r : Record) where
  pub look_out : (t : ℕ) (ys : List ℕ) → Out x ys → look (upd mem x r) t ys ≡ look mem t ys
  look_out t [] out = refl
  look_out t (y ∷ ys) out = rw (ne_eqb y x out.0, look_out t ys out.1) refl

  pub tidy_out : (n : ℕ) (ys : List ℕ) → Out x ys → Tidy n mem ys → Tidy n (upd mem x r) ys
  tidy_out n [] out k = tt
  tidy_out n (y ∷ ys) out k = rw (ne_eqb y x out.0) (k.0, look_out (mem y).target ys out.1 ∙ k.1, tidy_out n ys out.1 k.2)

  pub linked_out : (owner new_owner : ℕ → ℕ) → ((y : ℕ) → (y ≢ x) → new_owner y ≡ owner y) → (c h : ℕ) (ys : List ℕ) → Out x ys → Linked mem owner c h ys → Linked (upd mem x r) new_owner c h ys
  linked_out owner new_owner same c h [] out k = k
  linked_out owner new_owner same c h (y ∷ ys) out k =
      rw (ne_eqb y x out.0) (k.0, k.1, k.2, same y out.0 ∙ k.3, k.4, linked_out owner new_owner same c (mem y).next ys out.1 k.5)

-- what a chain holds
module _ (n : ℕ) (mem : ℕ → Record) where
  pub look_in : (i : ℕ) (ys : List ℕ) → Tidy n mem ys → In i ys → 1 ≤ look mem (mem i).target ys
  look_in i [] k m = absurd m
  look_in i (y ∷ ys) k (inl e) = rw (eq-eqb (mem y).target (mem i).target (ap (λ (z : ℕ). (mem z).target) (sym e))) k.0.2
  look_in i (y ∷ ys) k (inr m) = ⊎_elim (λ q. rw q k.0.2) (λ q. rw q (look_in i ys k.2 m)) (cases_Bool ((mem y).target == (mem i).target))

  pub look_known : (t : ℕ) (ys : List ℕ) → Tidy n mem ys → look mem t ys < 4096
  look_known t [] k = omega arith
  look_known t (y ∷ ys) k = ⊎_elim (λ q. rw q k.0.3) (λ q. rw q (look_known t ys k.2)) (cases_Bool ((mem y).target == t))

-- the lookup along the links finds what stands in the list
abbrev pub Found : (ℕ → Record) → ℕ → List ℕ → Option ℕ → Type 0
Found mem t ys None = look mem t ys ≡ 0
Found mem t ys (Some i) = In i ys × ((mem i).target ≡ t) × ((mem i).operations.bits ≡ look mem t ys)

later : (mem : ℕ → Record) (t y : ℕ) (ys : List ℕ) (o : Option ℕ) → ((mem y).target == t) ≡ false → Found mem t ys o → Found mem t (y ∷ ys) o
later mem t y ys None q f = rw q f
later mem t y ys (Some i) q f = (inr f.0, f.1, rw q f.2)

pub found_is : (k : ℕ) (mem : ℕ → Record) (owner : ℕ → ℕ) (c h t : ℕ) (ys : List ℕ) → length ys ≤ k → Linked mem owner c h ys → Found mem t ys (first_that k (λ r. nat_eq r.target t) mem h)
unfolding first_that
found_is zero mem owner c h t [] l k = refl
found_is zero mem owner c h t (y ∷ ys) l k = absurd (omega arith)
found_is (suc m) mem owner c h t [] l k = rw (eq-eqb h 0 k) refl
found_is (suc m) mem owner c h t (y ∷ ys) l k =
    rw k.0 (rw (ne_eqb y 0 (λ e. omega arith)) (go (found_is m mem owner c (mem y).next t ys (omega arith) k.5) (cases_Bool ((mem y).target == t))))
  where
    rest : Option ℕ
    rest = first_that m (λ r. nat_eq r.target t) mem (mem y).next

    go : Found mem t ys rest → (((mem y).target == t) ≡ true) ⊎ (((mem y).target == t) ≡ false) → Found mem t (y ∷ ys) (cond ((mem y).target == t) (Some y) rest)
    go f (inl q) = rw q (inl refl, eqb-true (mem y).target t q, rw q refl)
    go f (inr q) = subst (λ (b : Bool). Found mem t (y ∷ ys) (cond b (Some y) rest)) (sym q) (later mem t y ys rest q f)

-- a record has another target than those before it
pub differs : (n : ℕ) (mem : ℕ → Record) (i z : ℕ) (zs : List ℕ) → Tidy n mem (z ∷ zs) → In i zs → (mem z).target ≢ (mem i).target
differs n mem i z zs k m e = let a : 1 ≤ look mem (mem i).target zs = look_in n mem i zs k.2 m in let b : look mem (mem i).target zs ≡ 0 = rw e at k.1 in omega arith

-- a record of the list gets other operations
module _ (n : ℕ) (mem : ℕ → Record) (owner : ℕ → ℕ) (c i : ℕ) (r : Record) (same : r.target ≡ (mem i).target) where
  pub look_put : (h : ℕ) (ys : List ℕ) → Linked mem owner c h ys → Tidy n mem ys → In i ys → (y : ℕ) → look (upd mem i r) y ys ≡ cond (y == (mem i).target) r.operations.bits (look mem y ys)
  look_put h [] l k m y = absurd m
  look_put h (z ∷ zs) l k (inl e) y =
      let rest : look (upd mem i r) y zs ≡ look mem y zs = look_out mem i r y zs (rw e l.4) in
      let te : (mem i).target ≡ (mem z).target = ap (λ (v : ℕ). (mem v).target) e in
      rw (eq-eqb z i (sym e), rest, same, te) (grind (arith, nat_tests))
  look_put h (z ∷ zs) l k (inr m) y =
      let d : (mem z).target ≡ (mem i).target → ⊥ = differs n mem i z zs k m in
      let rest : look (upd mem i r) y zs ≡ cond (y == (mem i).target) r.operations.bits (look mem y zs) = look_put (mem z).next zs l.5 k.2 m y in
      rw (ne_eqb z i (apart i z zs m l.4), rest) (grind (arith, nat_tests))

  pub tidy_put : (h : ℕ) (ys : List ℕ) → Linked mem owner c h ys → Tidy n mem ys → In i ys → Fit n r → Tidy n (upd mem i r) ys
  tidy_put h [] l k m fit = absurd m
  tidy_put h (z ∷ zs) l k (inl e) fit =
      let out : Out i zs = rw e l.4 in
      let te : r.target ≡ (mem z).target = same ∙ ap (λ (v : ℕ). (mem v).target) e in
      rw (eq-eqb z i (sym e)) (fit, look_out mem i r r.target zs out ∙ rw te k.1, tidy_out mem i r n zs out k.2)
  tidy_put h (z ∷ zs) l k (inr m) fit =
      rw (ne_eqb z i (apart i z zs m l.4)) (
        k.0,
        look_put (mem z).next zs l.5 k.2 m (mem z).target ∙ rw (ne_eqb (mem z).target (mem i).target (differs n mem i z zs k m)) k.1,
        tidy_put (mem z).next zs l.5 k.2 m fit,
      )
