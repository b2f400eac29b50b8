-- A record leaves its chain.
use Rattle.std.specs.Prelude.{◌≡◌, ℕ, zero, suc, ◌≤◌, Bool, cond, ◌⊎◌, List, [], ◌∷◌, length, Some, None, Option, ◌==◌, ◌≢◌, nat_eq, refl}
use Rattle.std.proofs.Common.{sym, ap, subst, ◌∙◌, inl, inr, ⊎_elim, arith}
use Rattle.std.proofs.lemmas.Bool.{cases_eq, cases_Bool, eq-eqb, ne_eqb}
use Rattle.std.proofs.lemmas.Bool.Decides.{nat_tests}
use Rattle.record_table.specs.declared.chains.Record.{Record}
use Rattle.record_table.specs.Chains.{first_that, linked_to}
use Rattle.record_table.specs.Laid.{Out, In, Linked, look, Tidy}
use Rattle.record_table.specs.ChainsLemmas.{upd, apart, begins, linked_out, read_same, differs}

-- the list with its first i left out
abbrev pub without : ℕ → List ℕ → List ℕ
without i [] = []
without i (z ∷ zs) = cond (z == i) zs (z ∷ without i zs)

pub out_without : (x i : ℕ) (ys : List ℕ) → Out x ys → Out x (without i ys)
out_without x i [] out = tt
out_without x i (z ∷ zs) out = ⊎_elim (λ q. rw q out.1) (λ q. rw q (out.0, out_without x i zs out.1)) (cases_Bool (z == i))

pub without_out : (mem : ℕ → Record) (owner : ℕ → ℕ) (c h i : ℕ) (ys : List ℕ) → Linked mem owner c h ys → Out i (without i ys)
without_out mem owner c h i [] l = tt
without_out mem owner c h i (z ∷ zs) l = ⊎_elim
    (λ q. rw (eq-eqb z i q) (subst (λ (v : ℕ). Out v zs) q l.4))
    (λ q. rw (ne_eqb z i q) (q, without_out mem owner c (mem z).next i zs l.5))
    (cases_eq z i)

pub in_without : (x i : ℕ) (ys : List ℕ) → (x ≢ i) → In x ys → In x (without i ys)
in_without x i [] ne m = m
in_without x i (z ∷ zs) ne (inl e) = rw (ne_eqb z i (λ q. ne (e ∙ q))) (inl e)
in_without x i (z ∷ zs) ne (inr m) = ⊎_elim (λ q. rw q m) (λ q. rw q (inr (in_without x i zs ne m))) (cases_Bool (z == i))

module _ (n : ℕ) (mem : ℕ → Record) (i : ℕ) where
  pub look_without : (ys : List ℕ) → Tidy n mem ys → In i ys → (y : ℕ) → look mem y (without i ys) ≡ cond (y == (mem i).target) 0 (look mem y ys)
  look_without [] k m y = absurd m
  look_without (z ∷ zs) k (inl e) y =
      let te : (mem i).target ≡ (mem z).target = ap (λ (v : ℕ). (mem v).target) e in
      rw (eq-eqb z i (sym e), te) (⊎_elim (λ q. let al : look mem y zs ≡ 0 = rw q k.1 in grind (arith, nat_tests)) (λ q. grind (arith, nat_tests)) (cases_eq y (mem z).target))
  look_without (z ∷ zs) k (inr m) y =
      let d : (mem z).target ≡ (mem i).target → ⊥ = differs n mem i z zs k m in
      let rest : look mem y (without i zs) ≡ cond (y == (mem i).target) 0 (look mem y zs) = look_without zs k.2 m y in
      rw (ne_eqb z i (λ q. d (ap (λ (v : ℕ). (mem v).target) q)), rest) (grind (arith, nat_tests))

  none_without : (t : ℕ) (ys : List ℕ) → Tidy n mem ys → look mem t ys ≡ 0 → look mem t (without i ys) ≡ 0
  none_without t [] k e = refl
  none_without t (z ∷ zs) k e =
      let some = k.0.2 in
      let rest = none_without t zs k.2 in
      ⊎_elim
      (λ q. rw q (grind (arith, nat_tests)))
      (λ q. rw q (grind (arith, nat_tests)))
      (cases_Bool (z == i))

  pub tidy_without : (ys : List ℕ) → Tidy n mem ys → Tidy n mem (without i ys)
  tidy_without [] k = tt
  tidy_without (z ∷ zs) k = ⊎_elim (λ q. rw q k.2) (λ q. rw q (k.0, none_without (mem z).target zs k.2 k.1, tidy_without zs k.2)) (cases_Bool (z == i))

-- a record that only gets another next one holds the same
module _ (mem : ℕ → Record) (b next : ℕ) where
  abbrev relinked : ℕ → Record
  relinked = upd mem b (linked_to (mem b) next)

  same_target : (y : ℕ) → (relinked y).target ≡ (mem y).target
  same_target = read_same mem b (linked_to (mem b) next) (λ x. x.target) refl

  same_operations : (y : ℕ) → (relinked y).operations.bits ≡ (mem y).operations.bits
  same_operations = read_same mem b (linked_to (mem b) next) (λ x. x.operations.bits) refl

  pub look_relinked : (t : ℕ) (ys : List ℕ) → look (upd mem b (linked_to (mem b) next)) t ys ≡ look mem t ys
  look_relinked t [] = refl
  look_relinked t (z ∷ zs) = rw (same_target z, same_operations z, look_relinked t zs) refl

  pub tidy_relinked : (n : ℕ) (ys : List ℕ) → Tidy n mem ys → Tidy n (upd mem b (linked_to (mem b) next)) ys
  tidy_relinked n [] k = tt
  tidy_relinked n (z ∷ zs) k = rw (same_target z, same_operations z) (k.0, look_relinked (mem z).target zs ∙ k.1, tidy_relinked n zs k.2)

-- the record before i is linked to the one behind i: the chain goes on without i. Where there is no record before it, i is the first
abbrev pub Cut : (ℕ → Record) → (ℕ → ℕ) → ℕ → ℕ → ℕ → List ℕ → Option ℕ → Type 0
Cut mem owner c h i ys None = In i ys → h ≡ i
Cut mem owner c h i ys (Some b) = In b ys × In i ys × Linked (upd mem b (linked_to (mem b) (mem i).next)) owner c h (without i ys)

module _ (mem : ℕ → Record) (owner : ℕ → ℕ) (c i : ℕ) (i1 : 1 ≤ i) where
  cut_here : (h z : ℕ) (zs : List ℕ) → Linked mem owner c h (z ∷ zs) → (mem z).next ≡ i → Cut mem owner c h i (z ∷ zs) (Some z)
  cut_here h z zs l e = (inl refl, inr (subst (In i) (sym ws.1) (inl refl)), goal)
    where
      behind : Linked mem owner c i zs
      behind = subst (λ (v : ℕ). Linked mem owner c v zs) e l.5

      ws : (ws : List ℕ) × (zs ≡ i ∷ ws)
      ws = begins mem owner c i zs behind i1

      on : Linked mem owner c i (i ∷ ws.0)
      on = subst (Linked mem owner c i) ws.1 behind

      out : Out z (i ∷ ws.0)
      out = subst (Out z) ws.1 l.4

      goes : Linked (upd mem z (linked_to (mem z) (mem i).next)) owner c (mem i).next ws.0
      goes = linked_out mem z (linked_to (mem z) (mem i).next) owner owner (λ y _. refl) c (mem i).next ws.0 out.1 on.5

      is_rest : without i (z ∷ zs) ≡ z ∷ ws.0
      is_rest = ap (λ (vs : List ℕ). without i (z ∷ vs)) ws.1 ∙ rw (ne_eqb z i (λ q. out.0 (sym q)), eq-eqb i i refl) refl

      goal : Linked (upd mem z (linked_to (mem z) (mem i).next)) owner c h (without i (z ∷ zs))
      goal = subst (Linked (upd mem z (linked_to (mem z) (mem i).next)) owner c h) (sym is_rest) (l.0, l.1, l.2, l.3, out.1, rw (eq-eqb z z refl) goes)

  cut_later : (h z : ℕ) (zs : List ℕ) (o : Option ℕ) → Linked mem owner c h (z ∷ zs) → ((mem z).next ≢ i) → Cut mem owner c (mem z).next i zs o → Cut mem owner c h i (z ∷ zs) o
  cut_later h z zs None l ne f = at_first
    where
      at_first : (i ≡ z) ⊎ In i zs → h ≡ i
      at_first (inl e) = l.0 ∙ sym e
      at_first (inr m) = absurd (ne (f m))
  cut_later h z zs (Some b) l ne f = (
    inr f.0,
    inr f.1,
    rw (ne_eqb z i (apart i z zs f.1 l.4), ne_eqb z b (apart b z zs f.0 l.4)) (l.0, l.1, l.2, l.3, out_without z i zs l.4, f.2),
  )

  pub cut_is : (k h : ℕ) (ys : List ℕ) → length ys ≤ k → Linked mem owner c h ys → Cut mem owner c h i ys (first_that k (λ r. nat_eq r.next i) mem h)
  unfolding first_that
  cut_is zero h [] s l = λ m. absurd m
  cut_is zero h (z ∷ zs) s l = absurd (omega arith)
  cut_is (suc k) h [] s l = rw (eq-eqb h 0 l) (λ m. absurd m)
  cut_is (suc k) h (z ∷ zs) s l = rest_of (cut_is k (mem z).next zs (omega arith) l.5)
    where
      rest : Option ℕ
      rest = first_that k (λ r. nat_eq r.next i) mem (mem z).next

      rest_of : Cut mem owner c (mem z).next i zs rest → Cut mem owner c h i (z ∷ zs) (cond (h == 0) None (cond ((mem h).next == i) (Some h) (first_that k (λ r. nat_eq r.next i) mem (mem h).next)))
      rest_of f = subst (λ (v : ℕ). Cut mem owner c h i (z ∷ zs) (cond (v == 0) None (cond ((mem v).next == i) (Some v) (first_that k (λ r. nat_eq r.next i) mem (mem v).next)))) (sym l.0)
          (subst (λ (d : Bool). Cut mem owner c h i (z ∷ zs) (cond d None (cond ((mem z).next == i) (Some z) rest))) (sym (ne_eqb z 0 (λ e. omega arith)))
          (⊎_elim
          (λ q. subst (λ (d : Bool). Cut mem owner c h i (z ∷ zs) (cond d (Some z) rest)) (sym (eq-eqb (mem z).next i q)) (cut_here h z zs l q))
          (λ q. subst (λ (d : Bool). Cut mem owner c h i (z ∷ zs) (cond d (Some z) rest)) (sym (ne_eqb (mem z).next i q)) (cut_later h z zs rest l q f))
          (cases_eq (mem z).next i)))
